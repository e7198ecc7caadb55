-- What an outcome returns and leaves; that of reading, by the verdict on its text.
use mathlib.Core.Path.{◌≡◌, refl, sym, ap, ◌∙◌}
use mathlib.Core.Bool.{true, false}
use mathlib.Core.List.{List, ◌++◌}
use Prim.Native.Nat.{ℕ, ◌+◌, ◌*◌}
use native.Mathlib.Omega.{arith}
use lib.Dec.{leb}
use lib.ListN.{length, drop}
use Rattle.lexing.specs.outcomes.{Outcome, refused, written, fitted, returned, afterwards}
use Rattle.items.specs.layout.{layout, catalogue_bytes}
use Rattle.items.specs.declared.writing.Wrote.{Wrote}
use Rattle.items.proofs.RecordWords.{catalogue_bytes_length}
use Rattle.matter_idl.specs.hoisting.{no_ids, hoisted}
use Rattle.matter_idl.specs.reading.{into_catalogue, reading}
use Rattle.matter_idl.specs.interface.{number_unit, answer_of}
use Rattle.matter_idl.specs.answers.reading.{AcceptedTo, RefusedTo}
use Rattle.matter_idl.specs.inner.reading.{HoistedItemsTo}
use Rattle.matter_idl.proofs.reading.Marked.{hoisted_alone}

abbrev pub read_20 : List ℕ → ℕ → Outcome
read_20 u n = reading layout u n

-- a known outcome: what it returns, and what it leaves in its buffer
module _ {o : Outcome} where
  pub refused_result : {k v : ℕ} → o ≡ refused k v → {x : ℕ} → x ≡ k * number_unit + v → x ≡ answer_of o
  unfolding answer_of returned
  refused_result e h = h ∙ ap answer_of (sym e)

  pub refused_left : {k v : ℕ} → o ≡ refused k v → (out : List ℕ) → out ≡ afterwards o out
  unfolding afterwards
  refused_left e out = ap (λ (x : Outcome). afterwards x out) (sym e)

  pub written_result : {l : List ℕ} → o ≡ written l → {n : ℕ} → length l ≡ n → {x : ℕ} → x ≡ 0 * number_unit + n → x ≡ answer_of o
  unfolding answer_of returned
  written_result {l} e z {x} h = let y : x ≡ 0 * number_unit + length l = omega (arith, h, z) in y ∙ ap answer_of (sym e)

  pub written_left : {l : List ℕ} → o ≡ written l → (old : List ℕ) {new : List ℕ} → new ≡ l ++ drop (length l) old → new ≡ afterwards o old
  unfolding afterwards
  written_left e old h = h ∙ ap (λ (x : Outcome). afterwards x old) (sym e)

pub refused_outcome : (u : List ℕ) (n : ℕ) {k v : ℕ} → RefusedTo k v u → read_20 u n ≡ refused k v
unfolding reading into_catalogue
refused_outcome u n h = ap (into_catalogue layout n) h.is

module _ (u : List ℕ) (n : ℕ) {m : ℕ} (h : AcceptedTo m u) where
  pub bytes_now : List ℕ
  bytes_now = catalogue_bytes layout (hoisted no_ids h.whole.items)

  pub size_now : length bytes_now ≡ 8 * m
  unfolding bytes_now
  size_now = omega (arith, catalogue_bytes_length (hoisted no_ids h.whole.items), h.whole.words no_ids)

  fitted_now : read_20 u n ≡ fitted 7 n bytes_now
  unfolding reading into_catalogue bytes_now
  fitted_now = ap (into_catalogue layout n) h.is

  -- the catalogue is too short
  pub short_outcome : leb (8 * m) n ≡ false → read_20 u n ≡ refused 7 (8 * m)
  unfolding fitted
  short_outcome e = let f : leb (length bytes_now) n ≡ false = ap (λ (i : ℕ). leb i n) size_now ∙ e in fitted_now ∙ rw (f, fitted) (ap (refused 7) size_now)

  pub written_outcome : leb (8 * m) n ≡ true → read_20 u n ≡ written bytes_now
  unfolding fitted
  written_outcome e = let f : leb (length bytes_now) n ≡ true = ap (λ (i : ℕ). leb i n) size_now ∙ e in fitted_now ∙ rw (f, fitted) refl

  pub read_left : {w : Wrote} {old filter₀ new filter : List ℕ} → HoistedItemsTo new filter u old filter₀ 0 0 u w → new ≡ bytes_now ++ drop (length bytes_now) old
  unfolding bytes_now
  read_left {old = old} g = hoisted_alone g h.whole.reads ∙ ap (λ (k : ℕ). bytes_now ++ drop k old) (sym (catalogue_bytes_length (hoisted no_ids h.whole.items)))
