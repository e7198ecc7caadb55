-- Blanks that are an item: no declaration is after them, and so no item follows. In an accepted text they are at its end.
use Rattle.std.specs.Prelude.{None}
use mathlib.Core.Path.{◌≡◌, refl, sym, ap, ◌∙◌}
use mathlib.Core.Logic.{◌⊎◌, inl, inr}
use mathlib.Core.List.{List}
use Prim.Native.Nat.{ℕ, ◌-◌, max}
use native.Mathlib.Omega.{arith}
use Rattle.lexing.specs.reply.{Reply, ok, fail, stop, Parser, ret, ◌>>=◌, ◌>>◌, ◌or◌, no_nearer}
use Rattle.lexing.specs.blanks.{Doc, no_doc, whitespace0, whitespace1}
use Rattle.lexing.proofs.blanks.Laws.{gap_none}
use Rattle.lexing.proofs.FirstWord.{blank_clear}
use Rattle.items.specs.entries.{choice_after_doc_maturity, parse_enum_after_doc_maturity, parse_bitmap_after_doc_maturity}
use Rattle.items.specs.structs.{parse_struct_after_doc_maturity}
use Rattle.items.specs.clusters.{mapped, cluster_after_doc_maturity}
use Rattle.items.specs.items.{Item, blank_item, item}
use Rattle.items.specs.answers.items.{after_maturity, declaration}
use Rattle.items.proofs.Choice.{joined, or_is, or_lost, further_ok}
use Rattle.lexing.proofs.Sequences.{then_fail}
use Rattle.items.proofs.items.Laws.{item_is}

-- a reply but for its value
shape : {A : Type 0} → Reply A → Reply (Unit {0})
shape (ok a c r) = ok tt c r
shape (fail p) = fail p
shape (stop n p) = stop n p

shape_fail : {A : Type 0} (x : Reply A) {p : ℕ} → shape x ≡ fail p → x ≡ fail p
unfolding shape
shape_fail (ok a c r) e = let z : ◌≡◌ {A = ℕ} 0 1 = cc in absurd (omega arith)
shape_fail (fail q) {p} e = let z : q ≡ p = cc in ap fail z
shape_fail (stop n q) e = let z : ◌≡◌ {A = ℕ} 0 1 = cc in absurd (omega arith)

shape_joined : {A : Type 0} (x y : Reply A) → shape (joined x y) ≡ joined (shape x) (shape y)
unfolding shape no_nearer
shape_joined (ok a c r) y = refl
shape_joined (fail p) (ok a c r) = refl
shape_joined (fail p) (fail q) = refl
shape_joined (fail p) (stop n q) = refl
shape_joined (stop n p) y = refl

-- parsers of the same shape
record Alike {A B : Type 0} (m : Parser A) (k : Parser B) : Type 0 where
  alike : (b : ℕ) (u : List ℕ) → shape (m b u) ≡ shape (k b u)

module _ {A : Type 0} {m m' k k' : Parser A} where
  alike_or : Alike m m' → Alike k k' → Alike (m or k) (m' or k')
  alike_or h g = record {
    alike = λ b u.
        ap shape (or_is m k b u)
        ∙ (shape_joined (m b u) (k b u) ∙ (ap (λ x. joined x (shape (k b u))) (h.alike b u) ∙ (ap (joined (shape (m' b u))) (g.alike b u) ∙ (sym (shape_joined (m' b u) (k' b u)) ∙ ap shape (sym (or_is m' k' b u))))));
  }

module _ {A B : Type 0} (m : Parser A) where
  alike_bind : {k k' : A → Parser B} → ((a : A) → Alike (k a) (k' a)) → Alike (m >>= k) (m >>= k')
  unfolding ◌>>=◌
  alike_bind {k} {k'} h = record { alike = λ b u. go b u (m b u) refl }
    where
      go : (b : ℕ) (u : List ℕ) (x : Reply A) → m b u ≡ x → shape ((m >>= k) b u) ≡ shape ((m >>= k') b u)
      go b u (ok a c r) e = rw (e, ◌>>=◌) ((h a).alike c r)
      go b u (fail p) e = rw (e, ◌>>=◌) refl
      go b u (stop n p) e = rw (e, ◌>>=◌) refl

  alike_then : {k k' : Parser B} → Alike k k' → Alike (m >> k) (m >> k')
  unfolding ◌>>◌
  alike_then h = alike_bind (λ a. h)

alike_ret : {A : Type 0} (a a' : A) → Alike (ret a) (ret a')
unfolding ret shape
alike_ret a a' = record { alike = λ b u. refl }

alike_mapped : {A B : Type 0} (m m' : Parser A) (f : A → B) → Alike m m' → Alike (mapped m f) (mapped m' f)
unfolding mapped ◌>>=◌ ret shape
alike_mapped {A} m m' f h = record { alike = λ b u. mapped_shape m b u (m b u) refl ∙ (h.alike b u ∙ sym (mapped_shape m' b u (m' b u) refl)) }
  where
    mapped_shape : (m : Parser A) (b : ℕ) (u : List ℕ) (x : Reply A) → m b u ≡ x → shape (mapped m f b u) ≡ shape (m b u)
    mapped_shape m b u (ok a c r) e = rw (e, mapped, ◌>>=◌) refl
    mapped_shape m b u (fail p) e = rw (e, mapped, ◌>>=◌) refl
    mapped_shape m b u (stop n p) e = rw (e, mapped, ◌>>=◌) refl

-- A doc comment changes a declaration's value and nothing else.
module _ (d d' : Doc) where
  alike_cluster : (m : ℕ) → Alike (cluster_after_doc_maturity d m) (cluster_after_doc_maturity d' m)
  unfolding cluster_after_doc_maturity
  alike_cluster m = alike_bind _ (λ h. alike_bind _ (λ l. alike_ret _ _))

  alike_choice : (k : List ℕ) (m : ℕ) → Alike (choice_after_doc_maturity k d m) (choice_after_doc_maturity k d' m)
  unfolding choice_after_doc_maturity
  alike_choice k m = alike_bind _ (λ h. alike_bind _ (λ l. alike_ret _ _))

  alike_struct : (m : ℕ) → Alike (parse_struct_after_doc_maturity d m) (parse_struct_after_doc_maturity d' m)
  unfolding parse_struct_after_doc_maturity
  alike_struct m = alike_bind _ (λ h. alike_bind _ (λ l. alike_ret _ _))

  alike_after : {A : Type 0} {f f' : ℕ → Parser A} → ((m : ℕ) → Alike (f m) (f' m)) → Alike (after_maturity f) (after_maturity f')
  unfolding after_maturity
  alike_after h = alike_bind _ (λ m. alike_then _ (h m))

  alike_declaration : Alike (declaration d) (declaration d')
  unfolding declaration parse_enum_after_doc_maturity parse_bitmap_after_doc_maturity
  alike_declaration =
      alike_or (alike_mapped _ _ _ (alike_after alike_cluster)) (alike_or (record { alike = λ b u. refl }) (alike_or (alike_mapped _ _ _ (alike_after (alike_choice _))) (alike_or (alike_mapped _ _ _ (alike_after (alike_choice _))) (alike_mapped _ _ _ (alike_after alike_struct)))))

fails : {A : Type 0} (x : Reply A) {p : ℕ} → x ≡ fail p → shape x ≡ fail p
unfolding shape
fails x e = ap shape e

stopped : {A : Type 0} {a : A} {n p c : ℕ} {r : List ℕ} → ok a c r ≡ stop n p → ⊥
stopped e = let z : ◌≡◌ {A = ℕ} 0 1 = cc in omega arith

-- no blank, and so no gap
no_gap : (c : ℕ) (r : List ℕ) → whitespace0 c r ≡ ok no_doc c r → whitespace1 c r ≡ fail c
no_gap c r clear =
    let z : c - c ≡ 0 = omega arith in
    sym (gap_none c r (record { doc = None; next = c }) (record { reads = rw z (sym clear); up = omega arith; inside = omega arith }) refl)

-- where no declaration is after blanks, no item is
no_item : (d : Doc) (c : ℕ) (r : List ℕ) {p : ℕ} → whitespace0 c r ≡ ok no_doc c r → declaration d c r ≡ fail p → (q : ℕ) × (item c r ≡ fail q)
no_item d c r {p} clear e =
    let f : declaration no_doc c r ≡ fail p = shape_fail (declaration no_doc c r) ((alike_declaration no_doc d).alike c r ∙ fails (declaration d c r) e) in
    (max p c, item_is c r clear ∙ or_lost _ _ f (then_fail _ _ (no_gap c r clear)))

-- What an item is whose blanks end at c: the declaration after them, or the blanks, after which no item is.
pub item_cases : (b : ℕ) (u : List ℕ) {d : Doc} {c : ℕ} {r : List ℕ} → whitespace0 b u ≡ ok d c r → {i : Item} {e : ℕ} {v : List ℕ} → ok i e v ≡ item b u
    → (ok i e v ≡ declaration d c r) ⊎ ((ok i e v ≡ (whitespace1 >> ret blank_item) b u) × ((q : ℕ) × (item c r ≡ fail q)))
item_cases b u {d} {c} {r} h {i} {e} {v} g = go (declaration d c r) refl
  where
    whole : ok i e v ≡ joined (declaration d c r) ((whitespace1 >> ret blank_item) b u)
    whole = g ∙ (item_is b u h ∙ or_is (λ x y. declaration d c r) (whitespace1 >> ret blank_item) b u)

    go : (x : Reply Item) → declaration d c r ≡ x → (ok i e v ≡ declaration d c r) ⊎ ((ok i e v ≡ (whitespace1 >> ret blank_item) b u) × ((q : ℕ) × (item c r ≡ fail q)))
    go (ok j e' v') z = inl (whole ∙ ap (λ (x : Reply Item). joined x ((whitespace1 >> ret blank_item) b u)) z ∙ sym z)
    go (fail p) z = inr (further_ok p ((whitespace1 >> ret blank_item) b u) (whole ∙ ap (λ (x : Reply Item). joined x ((whitespace1 >> ret blank_item) b u)) z), no_item d c r (blank_clear b u d c r h) z)
    go (stop n p) z = absurd (stopped (whole ∙ ap (λ (x : Reply Item). joined x ((whitespace1 >> ret blank_item) b u)) z))
