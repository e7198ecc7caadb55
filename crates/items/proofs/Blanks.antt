-- Blanks before a parser that itself begins with blanks change nothing.
use mathlib.Core.Path.{◌≡◌, refl, sym, ◌∙◌}
use mathlib.Core.List.{List}
use Prim.Native.Nat.{ℕ}
use Rattle.lexing.specs.reply.{Reply, ok, fail, stop, Parser, ◌>>=◌, ◌>>◌}
use Rattle.lexing.specs.blanks.{Doc, whitespace0}
use Rattle.lexing.specs.answers.{ReadTo, Skips, after_blanks, Step, Read}
use Rattle.lexing.proofs.FirstWord.{blank_clear}

module _ {A : Type 0} (m : Parser A) (b : ℕ) (u : List ℕ) where
  once : after_blanks m b u ≡ after_blanks (after_blanks m) b u
  unfolding ◌>>=◌ ◌>>◌
  once = go (whitespace0 b u) refl
    where
      go : (x : Reply Doc) → whitespace0 b u ≡ x → after_blanks m b u ≡ after_blanks (after_blanks m) b u
      go (ok d c r) e = rw (e, ◌>>◌, ◌>>=◌, blank_clear b u d c r e)
      go (fail p) e = rw (e, ◌>>◌, ◌>>=◌)
      go (stop n p) e = rw (e, ◌>>◌, ◌>>=◌)

  -- so what such a parser answers is also the answer after blanks
  pub read_after : {P : Type 0} {f : ℕ → List ℕ → P → A} {W : ℕ → P → ℕ → Type 0} {t : Read P} → ReadTo f W (after_blanks m) t b u → ReadTo f W (after_blanks (after_blanks m)) t b u
  read_after h = record { reads = h.reads ∙ once; within = h.within }

  -- and what is the answer after blanks is its answer
  pub read_before : {P : Type 0} {f : ℕ → List ℕ → P → A} {W : ℕ → P → ℕ → Type 0} {t : Read P} → ReadTo f W (after_blanks (after_blanks m)) t b u → ReadTo f W (after_blanks m) t b u
  read_before h = record { reads = h.reads ∙ sym once; within = h.within }

  pub skips_after_blanks : {a : Step} → Skips (after_blanks m) a b u → Skips (after_blanks (after_blanks m)) a b u
  skips_after_blanks h = record { value = h.value; reads = h.reads ∙ once }
