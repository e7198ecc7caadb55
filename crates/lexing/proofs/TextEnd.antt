-- At the end of a text, and at a closing brace, there is no word and no blank.
use mathlib.Core.Path.{◌≡◌, refl, sym, ap}
use mathlib.Core.Bool.{Bool, true, false}
use mathlib.Core.List.{List, [], ◌∷◌}
use Prim.Native.Nat.{ℕ, ◌-◌}
use native.Mathlib.Omega.{arith}
use lib.Dec.{eqb}
use Rattle.lexing.specs.bytes.{is_letter, is_space, within}
use Rattle.lexing.specs.runs.{take_while1, tag2}
use Rattle.lexing.specs.reply.{ok, fail, ◌>>=◌, ◌>>◌, position, catch, iter_within, iter, keep}
use Rattle.lexing.specs.words.{keyword, tag}
use Rattle.lexing.specs.blanks.{no_doc, line_comment, block_comment, multispace1, whitespace_group, one_blank, whitespace0, whitespace1}
use Rattle.lexing.specs.answers.{BlankTo}
use Rattle.std.specs.Prelude.{None}
use Rattle.lexing.proofs.Tests.{eq_of}
use Rattle.lexing.proofs.Repetition.{iter_fail}
use Rattle.lexing.proofs.TokenLocality.{no_group, one_blank_consumes}
use Rattle.lexing.proofs.words.Laws.{keyword_no_word}
use Rattle.lexing.proofs.TokenRuns.{id_nil}
use Rattle.lexing.proofs.FirstWord.{Frees}
use Rattle.lexing.proofs.blanks.Laws.{gap_none}

pub no_keyword : (k : List ℕ) (b : ℕ) → keyword k b [] ≡ fail b
unfolding keyword position ◌>>=◌
no_keyword k b = rw (id_nil b, keyword, ◌>>=◌)

pub no_keywords : (ks : List (List ℕ)) (b : ℕ) → Frees b [] ks
no_keywords [] b = tt
no_keywords (k ∷ ks) b = (no_keyword k b, no_keywords ks b)

pub no_blank : (b : ℕ) → whitespace0 b [] ≡ ok no_doc b []
unfolding whitespace0 iter iter_within one_blank whitespace_group catch line_comment block_comment multispace1 take_while1 tag2 ◌>>◌ ◌>>=◌ keep
no_blank b = refl

-- a run of no blanks
pub clear_blank : {b : ℕ} {u : List ℕ} → whitespace0 b u ≡ ok no_doc b u → BlankTo (record { next = b; doc = None }) b u
clear_blank {b} {u} e = let z : b - b ≡ 0 = omega arith in record { reads = rw z (sym e); up = omega arith; inside = omega arith }

pub no_gap : (b : ℕ) → whitespace1 b [] ≡ fail b
no_gap b = sym (gap_none b [] _ (clear_blank (no_blank b)) refl)

-- where a closing brace is
pub brace_first : (b : ℕ) (u : List ℕ) {c : ℕ} {r : List ℕ} → ok tt c r ≡ tag 125 b u → (v : List ℕ) × (u ≡ 125 ∷ v)
unfolding tag
brace_first b [] e = let z : ◌≡◌ {A = ℕ} 0 1 = cc in absurd (omega arith)
brace_first b (x ∷ u) {c} {r} e = go (eqb x 125) refl
  where
    go : (t : Bool) → eqb x 125 ≡ t → (v : List ℕ) × (x ∷ u ≡ 125 ∷ v)
    go true z = (u, ap (λ (y : ℕ). y ∷ u) (eq_of x 125 z))
    go false z = let y : ok tt c r ≡ fail b = rw (z, tag) at e in let w : ◌≡◌ {A = ℕ} 0 1 = cc in absurd (omega arith)

module _ (b : ℕ) (u : List ℕ) where
  pub brace_keyword : (k : List ℕ) → keyword k b (125 ∷ u) ≡ fail b
  unfolding is_letter within
  brace_keyword k = sym (keyword_no_word k b (125 ∷ u) refl)

  pub brace_blank : whitespace0 b (125 ∷ u) ≡ ok no_doc b (125 ∷ u)
  unfolding whitespace0 one_blank keep is_space ◌>>=◌
  brace_blank = iter_fail one_blank keep one_blank_consumes no_doc b (125 ∷ u) b (rw (no_group b 125 u refl, one_blank, ◌>>=◌))
