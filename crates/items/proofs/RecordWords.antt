-- Laws of the layout: lengths, and records one after the other.
use mathlib.Core.Path.{◌≡◌, refl, ap, ◌∙◌}
use mathlib.Core.List.{List, [], ◌∷◌, ◌++◌, map, append_assoc, append-nil}
use Prim.Native.Nat.{ℕ, ◌+◌, ◌*◌, ◌≤◌}
use native.Mathlib.Omega.{arith}
use lib.ListN.{length, length-append}
use Rattle.lexing.proofs.buffers.Laws.{put_length, each_append, each_one, words_bytes_append, words_bytes_length}
use Rattle.items.specs.records.{Record}
use Rattle.lexing.specs.buffers.{each, words_bytes, put}
use Rattle.items.specs.inner.runs.{Elementwise}
use Rattle.items.specs.layout.{Layout, layout, record_words, catalogue_words, catalogue_bytes, word_count}

-- records as bytes
pub catalogue_bytes_append : (L : Layout) (k l : List Record) → catalogue_bytes L (k ++ l) ≡ catalogue_bytes L k ++ catalogue_bytes L l
unfolding catalogue_bytes catalogue_words
catalogue_bytes_append L k l = rw (each_append (record_words L) k l) (words_bytes_append (each (record_words L) k) (each (record_words L) l))

pub catalogue_bytes_length : (l : List Record) → length (catalogue_bytes layout l) ≡ 8 * word_count layout l
unfolding catalogue_bytes word_count
catalogue_bytes_length l = words_bytes_length (catalogue_words layout l)

-- records that are put into a buffer leave its length as it was
pub put_same : (at : ℕ) (l : List Record) (old : List ℕ) {new : List ℕ} → new ≡ put at (catalogue_bytes layout l) old → at + 8 * word_count layout l ≤ length old → length new ≡ length old
put_same at l old e h = ap length e ∙ put_length at (catalogue_bytes layout l) old (omega (arith, h, catalogue_bytes_length l))

pub word_count_append : (k l : List Record) → word_count layout (k ++ l) ≡ word_count layout k + word_count layout l
unfolding word_count catalogue_words
word_count_append k l = ap length (each_append (record_words layout) k l) ∙ length-append (each (record_words layout) k) (each (record_words layout) l)

pub word_count_none : word_count layout [] ≡ 0
unfolding word_count catalogue_words each
word_count_none = refl

pub catalogue_bytes_none : (L : Layout) → catalogue_bytes L [] ≡ []
unfolding catalogue_bytes catalogue_words words_bytes each
catalogue_bytes_none L = refl

pub each_elementwise : {A : Type 0} (f : A → List Record) → Elementwise (each f) f
unfolding each
each_elementwise f = record { nothing = refl; more = λ l a. each_append f l (a ∷ []) ∙ ap (λ x. each f l ++ x) (each_one f a) }

map_more : {A : Type 0} (f : A → Record) (l : List A) (a : A) → map f (l ++ (a ∷ [])) ≡ map f l ++ (f a ∷ [])
map_more f [] a = refl
map_more f (x ∷ l) a = ap (λ k. f x ∷ k) (map_more f l a)

pub map_elementwise : {A : Type 0} (f : A → Record) → Elementwise (map f) (λ a. f a ∷ [])
map_elementwise f = record { nothing = refl; more = map_more f }

module _ {A : Type 0} {records : List A → List Record} {one : A → List Record} (w : Elementwise records one) where
  pub word_count_more : (l : List A) (a : A) → word_count layout (records (l ++ (a ∷ []))) ≡ word_count layout (records l) + word_count layout (one a)
  word_count_more l a = ap (word_count layout) (w.more l a) ∙ word_count_append (records l) (one a)

  pub catalogue_bytes_more : (l : List A) (a : A) → catalogue_bytes layout (records (l ++ (a ∷ []))) ≡ catalogue_bytes layout (records l) ++ catalogue_bytes layout (one a)
  catalogue_bytes_more l a = ap (catalogue_bytes layout) (w.more l a) ∙ catalogue_bytes_append layout (records l) (one a)

  -- a longer list has no fewer words
  pub word_count_grows : (l k : List A) → word_count layout (records l) ≤ word_count layout (records (l ++ k))
  word_count_grows l [] = rw append-nil (omega arith)
  word_count_grows l (a ∷ k) =
      let e : (l ++ (a ∷ [])) ++ k ≡ l ++ (a ∷ k) = append_assoc l (a ∷ []) k in
      omega (arith, rw e at (word_count_grows (l ++ (a ∷ [])) k), word_count_more l a)
