-- Laws of strings: one for each way through a piece of a string, and for the turns of the loop over the pieces.
use mathlib.Core.Path.{◌≡◌, refl, sym, ap, ◌∙◌, subst}
use mathlib.Core.List.{List, [], ◌∷◌}
use mathlib.Core.Bool.{false}
use Prim.Native.Nat.{ℕ, suc, ◌+◌, ◌-◌, ◌≤◌, ◌<◌}
use native.Mathlib.Omega.{arith}
use lib.ListN.{length, drop, get_or}
use borrow.Author.Tests.{eq-eqb, ne_eqb}
use Rattle.lexing.specs.bytes.{quote, backslash}
use Rattle.lexing.specs.reply.{ok, fail}
use Rattle.lexing.specs.strings.{Escape, string_rest, span_from, string_with}
use Rattle.lexing.specs.answers.{Rest, reply, step_answer, span_to, string_reply, lost_reply, Lost}
use Rattle.lexing.specs.inner.strings.{escape_of, piece_inside, piece_is}
use Rattle.std.specs.Prelude.{Result, Ok, Err}
use Rattle.lexing.specs.answers.{Step}
use Rattle.lexing.specs.declared.answers.LostBy.TheVariants.{Fail, Stop}
use Rattle.lexing.specs.declared.answers.Refusal.TheVariants.{EscapedReturn}
use Rattle.lexing.specs.declared.strings.Escaped.{Escaped}
use Rattle.lexing.specs.declared.strings.Escaped.TheVariants.{Allowed, Forbidden, Panics}
use Rattle.lexing.specs.declared.strings.Piece.{Piece}
use Rattle.lexing.specs.declared.strings.Piece.TheVariants.{More, Last}
use Rattle.lexing.proofs.Losses.{by_lost}
use Rattle.lexing.proofs.Runs.{suf_length}
use Rattle.lexing.proofs.Onward.{advances_onward, string_advances}
use Rattle.lexing.proofs.Slicing.{rebase, suf_drop}

-- what a byte after a backslash makes of the string
abbrev pub escape_piece : ℕ → Escaped → Result Piece Lost
escape_piece b Allowed = Ok (More (b + 2))
escape_piece b Forbidden = Err (Fail b)
escape_piece b Panics = Err (Stop EscapedReturn b)

-- pieces
module _ (f : ℕ → Escape) (b : ℕ) where
  -- no byte is left, or a backslash alone
  pub piece_out : (u : List ℕ) → length u ≤ 1 → (0 < length u → get_or u 0 0 ≡ backslash) → piece_is f b u (Err (Fail b))
  unfolding string_rest
  piece_out [] l e = refl
  piece_out (x ∷ []) l e = let s : x ≡ backslash = e (omega arith) in rw (ne_eqb x quote (λ q. omega arith), eq-eqb x backslash s, string_rest)
  piece_out (x ∷ y ∷ u) l e = absurd (omega arith)

  pub piece_quote : (u : List ℕ) → get_or u 0 0 ≡ quote → piece_is f b u (Ok (Last (b + 1)))
  unfolding string_rest
  piece_quote [] e = absurd (omega arith)
  piece_quote (x ∷ u) e =
      let z : b + 1 - b ≡ 1 = omega arith in
      let y : b + 1 - 1 ≡ b = omega arith in
      let w : b + 1 ≡ suc b = omega arith in
      rw (z, y, w) (rw (eq-eqb x quote e, string_rest))

  pub piece_byte : (u : List ℕ) → 0 < length u → (get_or u 0 0 ≡ quote → ⊥) → (get_or u 0 0 ≡ backslash → ⊥) → piece_is f b u (Ok (More (b + 1)))
  unfolding string_rest
  piece_byte [] h q s = absurd (omega arith)
  piece_byte (x ∷ u) h q s =
      let z : b + 1 - b ≡ 1 = omega arith in
      let w : b + 1 ≡ suc b = omega arith in
      rw (z, w) (rw (ne_eqb x quote q, ne_eqb x backslash s, string_rest))

  pub piece_escape : (u : List ℕ) → 1 < length u → get_or u 0 0 ≡ backslash → (k : Escaped) {r : Escaped} → r ≡ k → escape_of r ≡ f (get_or u 1 0) → piece_is f b u (escape_piece b k)
  unfolding string_rest
  piece_escape [] l s k {r} e d = absurd (omega arith)
  piece_escape (x ∷ []) l s k {r} e d = absurd (omega arith)
  piece_escape (x ∷ y ∷ u) l s k {r} e d = go k (sym d ∙ ap escape_of e)
    where
      go : (k : Escaped) → f y ≡ escape_of k → piece_is f b (x ∷ y ∷ u) (escape_piece b k)
      go Allowed t =
          let z : b + 2 - b ≡ 2 = omega arith in
          let w : b + 2 ≡ suc (suc b) = omega arith in
          rw (z, w) (rw (ne_eqb x quote (λ q. omega arith), eq-eqb x backslash s, t, string_rest))
      go Forbidden t = rw (ne_eqb x quote (λ q. omega arith), eq-eqb x backslash s, t, string_rest)
      go Panics t = rw (ne_eqb x quote (λ q. omega arith), eq-eqb x backslash s, t, string_rest)

-- no quote, no string
pub string_no : (f : ℕ → Escape) (b : ℕ) (u : List ℕ) → (0 < length u → get_or u 0 0 ≡ quote → ⊥) → fail b ≡ string_with f b u
unfolding string_with
string_no f b [] e = refl
string_no f b (x ∷ u) e = rw (ne_eqb x quote (e (omega arith)), string_with)

pub piece_more : (c : ℕ) (r : List ℕ) {p : Piece} {n : ℕ} → p ≡ More n → piece_inside c r (Ok p) → (c < n) × (n ≤ c + length r)
piece_more c r e h = subst (λ (x : Piece). piece_inside c r (Ok x)) e h

-- the loop's invariant: what is left of the string makes the whole
pub record StringAt (f : ℕ → Escape) (b : ℕ) (u : List ℕ) (c : ℕ) : Type 0 where
  pub from : b ≤ c
  pub inside : c ≤ b + length u
  pub left : string_with f b u ≡ span_from (suc b) (string_rest f false c (drop (c - b) u))

pub string_start : (f : ℕ → Escape) (b : ℕ) (u : List ℕ) → get_or u 0 0 ≡ quote → StringAt f b u (b + 1)
unfolding string_with
string_start f b [] e = absurd (omega arith)
string_start f b (x ∷ u) e =
    let z : b + 1 - b ≡ 1 = omega arith in
    let w : b + 1 ≡ suc b = omega arith in
    record { from = omega arith; inside = omega arith; left = rw (z, w) (rw (eq-eqb x quote e, string_with)) }

module _ (f : ℕ → Escape) (b : ℕ) (u : List ℕ) (c : ℕ) (i : StringAt f b u c) (r : List ℕ) (q : Rest b u c r) where
  -- from the rest on
  onwards : string_with f b u ≡ span_from (suc b) (string_rest f false c r)
  onwards = rw q.same i.left

  pub string_more : {p : Piece} {n : ℕ} → p ≡ More n → piece_inside c r (Ok p) → piece_is f c r (Ok p) → StringAt f b u n
  string_more {p} {n} e l h =
      let m = piece_more c r e l in
      let k : piece_is f c r (Ok (More n)) = subst (λ (x : Piece). piece_is f c r (Ok x)) e h in
      let w : drop (n - c) r ≡ drop (n - b) u = ap (drop (n - c)) q.same ∙ rebase b c n u i.from (omega (arith, m.0)) in
      record {
        from = omega (arith, i.from, m.0);
        inside = omega (arith, m.1, q.size);
        left = onwards ∙ ap (span_from (suc b)) (k ∙ ap (string_rest f false n) w);
      }

  by_step : (s : Step) → string_with f b u ≡ span_from (suc b) (reply (step_answer (λ c. c - 1) s) c r) → string_reply s b u ≡ string_with f b u
  unfolding span_from
  by_step (Ok n) w =
      let o = rw w at ((advances_onward (string_advances f)).onward b u) in
      let z : length u - length (drop (n - c) r) ≡ n - b = omega (arith, o.1, suf_length o.0) in
      ap (λ v. ok (span_to b n) n v) (sym (suf_drop o.0 ∙ ap (λ m. drop m u) z)) ∙ sym w
  by_step (Err l) w = by_lost (λ l. string_with f b u ≡ span_from (suc b) (lost_reply l) → lost_reply l ≡ string_with f b u) (λ p w. sym w) (λ n p w. sym w) l w

  pub string_ends : {p : Piece} {n : ℕ} → p ≡ Last n → piece_is f c r (Ok p) → string_reply (Ok n) b u ≡ string_with f b u
  string_ends {p} {n} e h =
      let k : piece_is f c r (Ok (Last n)) = subst (λ (x : Piece). piece_is f c r (Ok x)) e h in
      by_step (Ok n) (onwards ∙ ap (span_from (suc b)) (sym k))

  pub string_lost : (l : Lost) → piece_is f c r (Err l) → string_reply (Err l) b u ≡ string_with f b u
  string_lost l k = by_step (Err l) (onwards ∙ ap (span_from (suc b)) (sym k))
