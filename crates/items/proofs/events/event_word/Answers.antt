use Rattle.lexing.proofs.Losses.{passed_on}
use native.Mathlib.Omega.{arith}
use Rattle.lexing.specs.bytes.{ascii}
use Rattle.lexing.specs.words.{keyword}
use Rattle.lexing.specs.blanks.{no_doc}
use Rattle.lexing.proofs.Slicing.{rest_from, keyword_took, walks}
use Rattle.lexing.proofs.TokenLocality.{whitespace1_chain}
use Rattle.lexing.proofs.AnswerLaws.{last_lost}
use Rattle.lexing.proofs.steps.Laws.{gap_at_took, skips_lost}
use Rattle.items.proofs.levels.Laws.{skips_fall, skips_after}
use Rattle.items.proofs.events.Laws.{word_gap_on}
use Rattle.items.proofs.events.event_word.Goals as goal

pub returns-in_err-c1 : goal.returns-in_err-c1
returns-in_err-c1 c = rw (passed_on c.from_residual.ensures) (skips_fall _ _ (rest_from _ _ _ c.requires.0.0 c.requires.0.1) no_doc (skips_lost c.in_err-c1.ensures))

pub rest_at-requires : goal.rest_at-requires
rest_at-requires c = let t = (gap_at_took c.in_ok-c1.ensures) in omega (arith, t.up, t.inside, c.requires.0)

pub returns-in_err-c2 : goal.returns-in_err-c2
returns-in_err-c2 c = rw (passed_on c.from_residual-in_err-c2.ensures) (skips_after _ _ (rest_from _ _ _ c.requires.0.0 c.requires.0.1) word_gap_on _ (gap_at_took c.in_ok-c1.ensures) (skips_fall _ _ (let t = (gap_at_took c.in_ok-c1.ensures) in rest_from _ _ _ (omega (arith, t.up, c.requires.0)) t.inside) no_doc (last_lost (keyword (ascii "event")) _ c.rest_at.ensures c.in_err-c2.ensures)))

pub gap_at-requires-2 : goal.gap_at-requires-2
gap_at-requires-2 c = let s = (keyword_took c.rest_at.ensures (ascii "event") c.in_ok-c2.ensures) in omega (arith, s.up, s.inside, c.rest_at.ensures.from, c.requires.1)

pub returns : goal.returns
returns c = skips_after _ _ (rest_from _ _ _ c.requires.0.0 c.requires.0.1) word_gap_on _ (gap_at_took c.in_ok-c1.ensures) (skips_after _ _ (let t = (gap_at_took c.in_ok-c1.ensures) in rest_from _ _ _ (omega (arith, t.up, c.requires.0)) t.inside) (walks whitespace1_chain) _ (keyword_took c.rest_at.ensures (ascii "event") c.in_ok-c2.ensures) c.gap_at-2.ensures)
