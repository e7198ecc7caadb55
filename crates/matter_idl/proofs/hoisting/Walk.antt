-- A walk over records in a buffer: what is there, and the way to the next.
use Prim.Native.Nat.{ℕ, ◌+◌, ◌*◌, ◌≤◌, ◌<◌}
use mathlib.Core.Path.{◌≡◌, refl, sym, ◌∙◌, ap}
use mathlib.Core.List.{List, [], ◌∷◌, ◌++◌, append_assoc}
use native.Mathlib.Omega.{arith}
use lib.ListN.{length, length-append}
use Rattle.lexing.specs.buffers.{each}
use Rattle.lexing.proofs.buffers.Laws.{each_one}
use Rattle.items.specs.records.{Extent, absent, at, Record}
use Rattle.items.specs.layout.{offset, size, layout, record_words, catalogue_words, words_of_kind, catalogue_bytes, word_count, text_limit}
use Rattle.lexing.proofs.Truth.{All}
use Rattle.items.proofs.RecordWords.{catalogue_bytes_append, catalogue_bytes_length, word_count_append, word_count_none}
use Rattle.items.proofs.RecordsFit.{ExtentIn, RecordFits, words_count, layout_fits}
use Rattle.items.proofs.ReadBack.{RecordAt, record_there, offset_is, length_is}
use Rattle.matter_idl.specs.inner.hoisting.{NameInside}

-- the records l of a text of n bytes are in a buffer from at to end, between front and tail
pub record Walk (n : ℕ) (front : List ℕ) (l : List Record) (tail out : List ℕ) (at end : ℕ) : Type 0 where
  pub bytes : out ≡ front ++ (catalogue_bytes layout l ++ tail)
  pub start : length front ≡ at
  pub ends : end ≡ at + 8 * word_count layout l
  pub fit : All (RecordFits n) l

pub walk_length : {n : ℕ} {front : List ℕ} {l : List Record} {tail out : List ℕ} {at end : ℕ} → Walk n front l tail out at end → length out ≡ end + length tail
walk_length {front = front} {l} {tail} w = omega (arith, ap length w.bytes, length-append front (catalogue_bytes layout l ++ tail), length-append (catalogue_bytes layout l) tail, w.ends, w.start, catalogue_bytes_length l)

-- one record
pub word_count_one : {n : ℕ} (r : Record) → RecordFits n r → word_count layout (r ∷ []) ≡ words_of_kind layout r.kind
unfolding word_count catalogue_words
word_count_one r h = ap length (each_one (record_words layout) r) ∙ words_count layout r h

pub words_some : (k : ℕ) → 1 ≤ words_of_kind layout k
unfolding words_of_kind layout
words_some k = omega arith

pub record_some : (r : Record) → 1 ≤ word_count layout (r ∷ [])
unfolding word_count catalogue_words each record_words layout
record_some r = omega arith

extent_in : {n : ℕ} (e : Extent) → ExtentIn n e → offset e + size e ≤ n
unfolding offset size
extent_in absent h = omega arith
extent_in (at o k) h = h

-- the name of a record that is in a buffer lies in the text
pub name_in : {n : ℕ} → n ≤ text_limit → {out : List ℕ} {p : ℕ} → RecordAt layout n out p → NameInside out p n
name_in {n} limit s = let F = layout_fits n limit in rw (offset_is F s, length_is F s) (extent_in s.of.name s.fits.name_inside)

-- a walk that has not ended is at a record
module _ {n : ℕ} {front : List ℕ} {r : Record} {l : List Record} {tail out : List ℕ} {at end : ℕ} (w : Walk n front (r ∷ l) tail out at end) where
  counts : word_count layout (r ∷ l) ≡ words_of_kind layout r.kind + word_count layout l
  counts = word_count_append (r ∷ []) l ∙ ap (λ k. k + word_count layout l) (word_count_one r w.fit.0)

  pub walk_fits : (at + 8 * words_of_kind layout r.kind ≤ end) × (end ≤ length out)
  walk_fits = (omega (arith, w.ends, counts), omega (arith, walk_length w))

  apart : catalogue_bytes layout (r ∷ l) ++ tail ≡ catalogue_bytes layout (r ∷ []) ++ (catalogue_bytes layout l ++ tail)
  apart = ap (λ x. x ++ tail) (catalogue_bytes_append layout (r ∷ []) l) ∙ append_assoc (catalogue_bytes layout (r ∷ [])) _ tail

  pub walk_bytes : out ≡ front ++ (catalogue_bytes layout (r ∷ []) ++ (catalogue_bytes layout l ++ tail))
  walk_bytes = w.bytes ∙ ap (λ x. front ++ x) apart

  abbrev pub walk_at : n ≤ text_limit → RecordAt layout n out at
  walk_at limit = record_there (layout_fits n limit) r w.fit.0 front (catalogue_bytes layout l ++ tail) out at walk_bytes w.start

  -- the next record, after one of as many words
  pub walk_after : (x : Record) (out' : List ℕ) → word_count layout (x ∷ []) ≡ words_of_kind layout r.kind → out' ≡ front ++ (catalogue_bytes layout (x ∷ []) ++ (catalogue_bytes layout l ++ tail)) → Walk n (front ++ catalogue_bytes layout (x ∷ [])) l tail out' (at + 8 * words_of_kind layout r.kind) end
  walk_after x out' c e = record { bytes = e ∙ sym (append_assoc front _ _); start = omega (arith, length-append front (catalogue_bytes layout (x ∷ [])), catalogue_bytes_length (x ∷ []), c, w.start); ends = omega (arith, w.ends, counts); fit = w.fit.1 }

  pub walk_next : Walk n (front ++ catalogue_bytes layout (r ∷ [])) l tail out (at + 8 * words_of_kind layout r.kind) end
  walk_next = walk_after r out (word_count_one r w.fit.0) walk_bytes

-- a walk by what is left of it
pub record Standing (Q : List Record → Type 0) (n : ℕ) (front tail out : List ℕ) (at end : ℕ) : Type 0 where
  pub this : Record
  pub rest : List Record
  pub walk : Walk n front (this ∷ rest) tail out at end
  pub holds : Q (this ∷ rest)

module _ {Q : List Record → Type 0} {n : ℕ} {front tail out : List ℕ} {at end : ℕ} (s : Standing Q n front tail out at end) where
  pub stands_room : at + 8 ≤ length out
  stands_room = omega (arith, (walk_fits s.walk).0, (walk_fits s.walk).1, words_some s.this.kind)

  pub stands_inside : {k : ℕ} → k ≡ words_of_kind layout s.this.kind → (at < at + 8 * k) × (at + 8 * k ≤ end)
  stands_inside z = (omega (arith, z, words_some s.this.kind), omega (arith, z, (walk_fits s.walk).0))

module _ {n : ℕ} {front tail out : List ℕ} {at end : ℕ} where
  pub walk_stands : (Q : List Record → Type 0) (l : List Record) → Walk n front l tail out at end → at < end → Q l → Standing Q n front tail out at end
  walk_stands Q [] w h q = absurd (omega (arith, w.ends, word_count_none, h))
  walk_stands Q (r ∷ l) w h q = record { this = r; rest = l; walk = w; holds = q }

  pub walk_over : (l : List Record) → Walk n front l tail out at end → end ≤ at → l ≡ []
  walk_over [] w h = refl
  walk_over (r ∷ l) w h = absurd (omega (arith, (walk_fits w).0, words_some r.kind, h))
