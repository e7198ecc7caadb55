use Rattle.std.proofs.Common.{◌≡◌, ℕ, ◌+◌, ◌≤◌, Bool, true, false, not, cond, List, [], ◌∷◌, length, eqb, ltb, Option, Some, None, rules, refl, sym, ◌∙◌, arith}
use Rattle.std.specs.Option.{unwrap_or}
use borrow.Author.Tests.{tests, ltb-false}
use Rattle.std.proofs.lemmas.Iterator.{YieldsList-from_slice}
use Rattle.std.proofs.lemmas.Iterator.Search.{position_from_yields_List}
use Rattle.std.proofs.lemmas.List.Sums.{prefix_len-le-length}
use Rattle.std.specs.List.{position_or_len}
use Rattle.std.proofs.lemmas.List.Recursion.{is_position_or_len}
use Rattle.lexing.specs.bytes.{lf, list_take_while}
use Rattle.lines.specs.lines.{no_feed, line}
use Rattle.lines.proofs.line_length.Goals as goal

one_more : (x : ℕ) (u : List ℕ) → length (line (x ∷ u)) ≡ cond (eqb x lf) 0 (1 + length (line u))
unfolding no_feed list_take_while
one_more x u = go (eqb x lf)
  where
    go : (b : Bool) → length (elim (not b) as (λ c. List ℕ) [ true ↦ x ∷ line u | false ↦ [] ]) ≡ cond b 0 (1 + length (line u))
    go true = refl
    go false = search rules

line_is : (u : List ℕ) → length (line u) ≡ position_or_len (λ x. eqb x lf) u
unfolding list_take_while
line_is = is_position_or_len (λ u. length (line u)) (λ x. eqb x lf) refl one_more

-- the place that `position` gives, or the length
place_or : (n m : ℕ) → n ≤ m → {r : Option ℕ} → r ≡ cond (ltb n m) (Some n) None → unwrap_or r m ≡ n
place_or n m h {r} e = go (ltb n m) refl
  where
    go : (b : Bool) → ltb n m ≡ b → unwrap_or r m ≡ n
    go true l = rw (e, l) refl
    go false l = rw (e, l) (omega (arith, h, ltb-false n m l))

pub returns-clause-value : goal.returns-clause-value
returns-clause-value c =
    let u = c.args.part.now in
    let first = position_from_yields_List (λ x. eqb x lf) _ _ c.position.result c.position.ensures.ran (YieldsList-from_slice u cc) (λ x b q k. search (rules, tests)) in
    c.unwrap_or.ensures ∙ (place_or _ _ (prefix_len-le-length _ u) first ∙ sym (line_is u))
