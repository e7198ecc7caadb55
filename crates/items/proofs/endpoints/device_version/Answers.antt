use Rattle.lexing.proofs.Losses.{passed_on}
use borrow.Author.Rules.{rules}
use Rattle.items.specs.endpoints.{device_version}
use native.Mathlib.Omega.{arith}
use Rattle.lexing.specs.bytes.{ascii}
use Rattle.lexing.proofs.Slicing.{begin, done}
use Rattle.lexing.proofs.Pairs.{pair_go, pair_on, pair_lose, pair_fall}
use Rattle.lexing.proofs.steps.Laws.{tag_after_took, keyword_after_took, integer_after_took, skips_lost, integer_after_lost}
use Rattle.items.proofs.endpoints.device_version.Goals as goal

pub returns-in_err-c1 : goal.returns-in_err-c1
unfolding device_version
returns-in_err-c1 c = rw (passed_on c.from_residual.ensures) ((begin (device_version) _ _ (pair_fall _ _ _ _ c.in_err-c1.ensures.at (skips_lost c.in_err-c1.ensures))))

pub keyword_after-requires : goal.keyword_after-requires
keyword_after-requires c = let t = tag_after_took 44 c.in_ok-c1.ensures in record { base_le_c = omega (arith, t.up, t.inside, c.requires); key_value = search rules }

pub returns-in_err-c2 : goal.returns-in_err-c2
unfolding device_version
returns-in_err-c2 c = rw (passed_on c.from_residual-in_err-c2.ensures) ((begin (device_version) _ _ (pair_on _ _ _ (tag_after_took 44 c.in_ok-c1.ensures) (pair_fall _ _ _ _ c.in_err-c2.ensures.at (skips_lost c.in_err-c2.ensures)))))

pub integer_after-requires : goal.integer_after-requires
integer_after-requires c = let t = keyword_after_took (ascii "version") c.in_ok-c2.ensures in omega (arith, t.up, t.inside, c.in_ok-c2.ensures.at.from, c.requires)

pub returns-in_err-v : goal.returns-in_err-v
unfolding device_version
returns-in_err-v c = rw (passed_on c.from_residual-in_err-v.ensures) ((begin (device_version) _ _ (pair_on _ _ _ (tag_after_took 44 c.in_ok-c1.ensures) (pair_on _ _ _ (keyword_after_took (ascii "version") c.in_ok-c2.ensures) (pair_lose _ _ _ _ c.in_err-v.ensures.at (integer_after_lost c.in_err-v.ensures))))))

pub tag_after-requires-2 : goal.tag_after-requires-2
tag_after-requires-2 c = let t = integer_after_took c.in_ok-v.ensures in omega (arith, t.up, t.inside, c.in_ok-v.ensures.at.from, c.requires)

pub returns-in_err-c4 : goal.returns-in_err-c4
unfolding device_version
returns-in_err-c4 c = rw (passed_on c.from_residual-in_err-c4.ensures) ((begin (device_version) _ _ (pair_on _ _ _ (tag_after_took 44 c.in_ok-c1.ensures) (pair_on _ _ _ (keyword_after_took (ascii "version") c.in_ok-c2.ensures) (pair_go _ _ _ (integer_after_took c.in_ok-v.ensures) (pair_fall _ _ _ _ c.in_err-c4.ensures.at (skips_lost c.in_err-c4.ensures)))))))

pub returns : goal.returns
unfolding device_version
returns c = (begin (device_version) _ _ (pair_on _ _ _ (tag_after_took 44 c.in_ok-c1.ensures) (pair_on _ _ _ (keyword_after_took (ascii "version") c.in_ok-c2.ensures) (pair_go _ _ _ (integer_after_took c.in_ok-v.ensures) (pair_on _ _ _ (tag_after_took 59 c.in_ok-c4.ensures) (done _ _ _ _))))))
