use Rattle.std.proofs.Common.{rules, tests, ◌∙◌, ◌-◌, drop, take}
use lib.Dec.{eqb}
use Rattle.std.proofs.lemmas.Iterator.{YieldsList-from_slice}
use Rattle.std.proofs.lemmas.Iterator.Search.{all_from_yields_List}
use Rattle.lexing.specs.bytes.{lower}
use Rattle.lexing.proofs.word_sets.Laws.{lower_all, lower_rest}
use Rattle.lexing.proofs.word_sets.is_lower.Goals as goal

pub returns : goal.returns
returns c =
    let v = take (c.args.n - c.lower_run-i.result) (drop c.lower_run-i.result c.args.part.now) in
    all_from_yields_List (λ x. eqb (lower x) x) _ _ _ c.all.ensures.ran (YieldsList-from_slice v c.iter.ensures.rest) (λ x b q k. search (rules, tests)) ∙ (lower_all v ∙ lower_rest _ _ _ c.lower_run-i.ensures)
