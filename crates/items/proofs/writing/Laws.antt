-- Words written over a buffer, one after the other.
use Rattle.items.specs.declared.maturity.Maturity.{Maturity}
use Rattle.items.specs.declared.levels.Privilege.{Privilege}
use Rattle.items.specs.declared.levels.Privilege.TheVariants.{View}
use Rattle.lexing.specs.declared.answers.LostBy.TheVariants.{Stop}
use Rattle.std.specs.Prelude.{None, Option as CodeOption, Some, Ok, Err}
use mathlib.Core.Path.{◌≡◌, refl, sym, ap, ◌∙◌, subst}
use mathlib.Core.List.{List, [], ◌∷◌, ◌++◌, map, append_assoc, append-nil}
use mathlib.Core.Bool.{Bool, true, false}
use Prim.Native.Nat.{ℕ, ◌+◌, ◌-◌, ◌*◌, ◌≤◌, ◌<◌}
use native.Mathlib.Omega.{arith}
use lib.ListN.{length, drop, take, length-append}
use lib.Seq.{drop_at, take-take, take-append-le, length-take-le}
use Rattle.lexing.specs.reply.{Reply, ok, fail, stop, Parser, many0}
use Rattle.lexing.specs.word_sets.{bit}
use Rattle.lexing.specs.answers.{Rest, lost_reply, doc_of, BlankTo, ReadTo, Lost}
use Rattle.lexing.specs.declared.blanks.Blank.{Blank}
use Rattle.lexing.specs.declared.blanks.DocSpan.{DocSpan}
use Rattle.lexing.proofs.Losses.{by_lost}
use Rattle.lexing.proofs.DocPlace.{DocIn, doc_in}
use Rattle.lexing.proofs.Locality.{Consumes}
use Rattle.lexing.proofs.Onward.{Onward}
use Rattle.lexing.proofs.Slicing.{Took, took, walks}
use Rattle.lexing.proofs.AnswerLaws.{read_took, read_lost}
use Rattle.lexing.proofs.Repetition.{before, ManyAt, many_end, many0_start, many0_step, many0_ends}
use Rattle.lexing.proofs.buffers.Laws.{put_length, put_nothing, put_on}
use Rattle.items.specs.records.{Extent, Bits, Further, Record, doc_extent, doc_bit, plain, documented}
use Rattle.lexing.specs.buffers.{each, words_bytes, put}
use Rattle.items.specs.layout.{packed, from_top, offset, size, span_word, layout, further_word, record_words, catalogue_words, catalogue_bytes, word_count, text_limit}
use Rattle.items.specs.declared.layout.Kind.{Kind}
use Rattle.items.specs.answers.{kind_number, maturity_number, privilege_number, Room, Written, first_of, Fits, doc_span_word, doc_span_bit, DocFits, FrontFits}
use Rattle.items.specs.declared.writing.FrontParts.{FrontParts}
use Rattle.items.specs.declared.writing.Wrote.{Wrote}
use Rattle.items.proofs.RecordWords.{catalogue_bytes_none, catalogue_bytes_length, word_count_none, word_count_more, catalogue_bytes_more, word_count_grows}
use Rattle.items.specs.inner.runs.{Elementwise, Repeats, ReadInside}

pub bit_small : (b : Bool) → bit b < 2
unfolding bit
bit_small true = omega arith
bit_small false = omega arith

pub doc_fits_at : (d : CodeOption DocSpan) {x : DocSpan} → d ≡ Some x → DocFits d → (x.offset ≤ text_limit) × (x.size ≤ text_limit)
doc_fits_at d e h = subst (λ (y : CodeOption DocSpan). DocFits y) e h

-- a doc comment that is in a run of blanks
doc_at_limit : (d : CodeOption DocSpan) (b c : ℕ) → DocIn b c (doc_of d) → c ≤ text_limit → DocFits d
doc_at_limit None b c h i = tt
doc_at_limit (Some x) b c h i = (omega (arith, h.1, i), omega (arith, h.1, i))

pub doc_in_limit : {t : Blank} {b : ℕ} {u : List ℕ} → BlankTo t b u → t.next ≤ text_limit → DocFits t.doc
doc_in_limit {t} {b} h i = doc_at_limit t.doc b t.next (doc_in h) i

-- the words of a doc comment, and of a record that can have one: g is the number that its flags make
pub doc_word : (d : CodeOption DocSpan) → doc_span_word d ≡ packed 0 (span_word layout (doc_extent (doc_of d)))
unfolding layout doc_extent packed offset size
doc_word None = refl
doc_word (Some x) = refl

pub doc_bit_is : (d : CodeOption DocSpan) → doc_span_bit d ≡ doc_bit (doc_of d)
unfolding doc_bit
doc_bit_is None = refl
doc_bit_is (Some x) = refl

doc_bit_small : (d : CodeOption DocSpan) → doc_span_bit d < 2
doc_bit_small None = omega arith
doc_bit_small (Some x) = omega arith

pub documented_fits : (f : FrontParts) {k v g o n : ℕ} {x y : Privilege} → FrontFits f → v ≡ doc_span_bit f.doc → g < 128 → o ≤ text_limit → n ≤ text_limit
    → Fits (record { kind = k; place = f.place; maturity = f.maturity; doc_present = v; flags = g; name = o; name_length = n; first_privilege = x; second_privilege = y })
documented_fits f h e b c d = record { place_fits = h.place_fits; doc_present_fits = omega (arith, e, doc_bit_small f.doc); flags_fits = b; name_fits = omega (arith, c); name_length_fits = omega (arith, d) }

pub documented_bytes : (k : Kind) (p : ℕ) (m : Maturity) (d : CodeOption DocSpan) (fl : List Bits) (e : Extent) (x y : Privilege) (l : List Further) (g : ℕ) → g ≡ from_top 7 fl
    → catalogue_bytes layout (documented (kind_number k) p (maturity_number m) (doc_of d) fl e (privilege_number x) (privilege_number y) l ∷ [])
    ≡ words_bytes (first_of (record { kind = kind_number k; place = p; maturity = m; doc_present = doc_span_bit d; flags = g; name = offset e; name_length = size e; first_privilege = x; second_privilege = y }) ∷ doc_span_word d ∷ map (further_word layout) l)
unfolding catalogue_bytes catalogue_words each record_words layout further_word documented
documented_bytes k p m d fl e x y l g h = rw (h, doc_bit_is d, doc_word d) (ap words_bytes (append-nil _))

-- such a record of three words: what the code has computed of it
pub documented_put : (k : Kind) (p : ℕ) (m : Maturity) (d : CodeOption DocSpan) (fl : List Bits) (e : Extent) (x y : Privilege) (w : Further) (q g v a o s : ℕ) (l l₁ : List ℕ) → g ≡ from_top 7 fl → v ≡ doc_span_bit d
    → a ≡ first_of (record { kind = kind_number k; place = p; maturity = m; doc_present = v; flags = g; name = offset e; name_length = size e; first_privilege = x; second_privilege = y }) → o ≡ doc_span_word d → s ≡ further_word layout w
    → l₁ ≡ put q (words_bytes (a ∷ o ∷ s ∷ [])) l → l₁ ≡ put q (catalogue_bytes layout (documented (kind_number k) p (maturity_number m) (doc_of d) fl e (privilege_number x) (privilege_number y) (w ∷ []) ∷ [])) l
documented_put k p m d fl e x y w q g v a o s l l₁ h z c b f e₁ = rw (documented_bytes k p m d fl e x y (w ∷ []) g h, ← z) (rw (c, b, f) at e₁)

-- a record without one
pub plain_fits : {k : ℕ} {m : Maturity} {g o n : ℕ} → g < 128 → o ≤ text_limit → n ≤ text_limit → Fits (record { kind = k; place = 0; maturity = m; doc_present = 0; flags = g; name = o; name_length = n; first_privilege = View; second_privilege = View })
plain_fits c d e = record { place_fits = omega arith; doc_present_fits = omega arith; flags_fits = c; name_fits = omega (arith, d); name_length_fits = omega (arith, e) }

pub plain_bytes : (k : Kind) (m : Maturity) (fl : List Bits) (e : Extent) (l : List Further) (g : ℕ) → g ≡ from_top 7 fl
    → catalogue_bytes layout (plain (kind_number k) (maturity_number m) fl e l ∷ [])
    ≡ words_bytes (first_of (record { kind = kind_number k; place = 0; maturity = m; doc_present = 0; flags = g; name = offset e; name_length = size e; first_privilege = View; second_privilege = View }) ∷ map (further_word layout) l)
unfolding catalogue_bytes catalogue_words each record_words layout plain
plain_bytes k m fl e l g h = rw h (ap words_bytes (append-nil _))

-- A loop that writes the records of a repetition: those of the elements so far are in the buffer.
pub record Writing {A : Type 0} (f : List A → List Record) (m : Parser A) (b : ℕ) (u : List ℕ) (c at : ℕ) (old new : List ℕ) (to : ℕ) : Type 0 where
  pub seen : List A
  pub run : ManyAt m b u c seen
  pub place : to ≡ at + 8 * word_count layout (f seen)
  pub bytes : new ≡ put at (catalogue_bytes layout (f seen)) old
  pub fits : to ≤ length old

-- a write before another
pub put_before : (at to : ℕ) (xs ys l₀ l l' : List ℕ) → to ≡ at + length xs → to + length ys ≤ length l₀ → l ≡ put to ys l₀ → l' ≡ put at xs l → l' ≡ put at (xs ++ ys) l₀
unfolding put
put_before at to xs ys l₀ l l' z h e e' =
    let t : length (take to l₀) ≡ to = length-take-le to l₀ (omega arith) in
    let f : take at l ≡ take at l₀ = ap (take at) e ∙ (take-append-le at (take to l₀) (ys ++ drop (to + length ys) l₀) (omega arith) ∙ take-take at to l₀ (omega arith)) in
    let k : to + length ys ≡ at + length (xs ++ ys) = omega (arith, length-append xs ys) in
    let g : drop (at + length xs) l ≡ ys ++ drop (at + length (xs ++ ys)) l₀ =
    ap (λ (n : ℕ). drop n l) (sym z) ∙ (ap (drop to) e ∙ (drop_at (take to l₀) (ys ++ drop (to + length ys) l₀) to t ∙ ap (λ (n : ℕ). ys ++ drop n l₀) k)) in
    e' ∙ rw (f, g, append_assoc xs ys)

-- what is lost hands out nothing
pub no_room : {A : Type 0} {records : A → List Record} {m : Parser A} {b : ℕ} {u : List ℕ} {at n : ℕ} → Room records m b u at n → (l : Lost) → lost_reply l ≡ m b u → ⊥
no_room {m = m} {b} {u} h =
    by_lost
    (λ l. lost_reply l ≡ m b u → ⊥)
    (λ p e. let z = h.is ∙ sym e in let y : ◌≡◌ {A = ℕ} 0 1 = cc in omega arith)
    (λ i p e. let z = h.is ∙ sym e in let y : ◌≡◌ {A = ℕ} 0 1 = cc in omega arith)

-- a declaration that was written, as a step of a sequence
pub written_took : {A : Type 0} {records : A → List Record} {m : Parser A} (v : Onward m) {b n : ℕ} {u r : List ℕ} {at : ℕ} {w : Wrote} {old new : List ℕ} → Rest b u n r → (h : Written records m n r at w old new) → Took m b u n h.value w.next
written_took v q h = took v q h.is

-- a declaration of k words that was read: there is room for them, and it is written once its records are
module _ {A : Type 0} {records : A → List Record} {m : Parser A} {b : ℕ} {u : List ℕ} {a : A} {c k : ℕ} (e : ok a c (drop (c - b) u) ≡ m b u) (z : word_count layout (records a) ≡ k) {at : ℕ} where
  pub read_room : {n : ℕ} → Room records m b u at n → at + 8 * k ≤ n
  read_room room =
      let x = room.is ∙ sym e in
      let y : room.value ≡ a = cc in
      let f : word_count layout (records room.value) ≡ word_count layout (records a) = ap (λ v. word_count layout (records v)) y in
      omega (arith, room.fits, f, z)

  pub read_written : {l : List Record} {old new : List ℕ} → l ≡ records a → new ≡ put at (catalogue_bytes layout l) old → Written records m b u at (record { next = c; to = at + 8 * k }) old new
  read_written h g = record { value = a; is = e; place = omega (arith, z); bytes = rw (← h) g }

-- its front, where its doc comment and its maturity are those that its reader was handed
pub front_kept : (f : FrontParts) {k : Kind} {d : CodeOption DocSpan} {v : Maturity} → FrontFits f → d ≡ f.doc → FrontFits (record { kind = k; place = 0; doc = d; maturity = v })
front_kept f h x = record { place_fits = omega arith; doc_fits = subst (λ (d : CodeOption DocSpan). DocFits d) (sym x) h.doc_fits }

-- the buffer keeps its length
pub written_same : {A : Type 0} {records : A → List Record} {m : Parser A} {b : ℕ} {u : List ℕ} {at n : ℕ} {w : Wrote} {old new : List ℕ} → Room records m b u at n → Written records m b u at w old new → n ≡ length old → length new ≡ length old
written_same {records = records} {at = at} {old = old} room h e =
    let z = room.is ∙ sym h.is in
    let y : room.value ≡ h.value = cc in
    let f : word_count layout (records room.value) ≡ word_count layout (records h.value) = ap (λ v. word_count layout (records v)) y in
    ap length h.bytes ∙ put_length at (catalogue_bytes layout (records h.value)) old (omega (arith, catalogue_bytes_length (records h.value), room.fits, f, e))

-- the room that is left
room_before : {A : Type 0} {f : List A → List Record} {one : A → List Record} → Elementwise f one → (p n : ℕ) (l : List A) (x : Reply (List A)) {k : List A} {c : ℕ} {r : List ℕ} → ok k c r ≡ before l x → p + 8 * word_count layout (f k) ≤ n → p + 8 * word_count layout (f l) ≤ n
room_before {f = f} w p n l (ok k' c' r') {k} e h =
    let z : k ≡ l ++ k' = cc in
    let y : word_count layout (f k) ≡ word_count layout (f (l ++ k')) = ap (λ x. word_count layout (f x)) z in
    omega (arith, h, y, word_count_grows w l k')
room_before w p n l (fail p') e h = let z : ◌≡◌ {A = ℕ} 0 1 = cc in absurd (omega arith)
room_before w p n l (stop i p') e h = let z : ◌≡◌ {A = ℕ} 0 1 = cc in absurd (omega arith)

module _ {A : Type 0} {f : List A → List Record} {one : A → List Record} (w : Elementwise f one) (m : Parser A) (b : ℕ) (u : List ℕ) (at : ℕ) (old : List ℕ) (room : Room f (many0 m) b u at (length old)) where
  pub writing_start : Writing f m b u b at old old at
  writing_start =
      let s = many0_start m b u in
      let nothing : word_count layout (f []) ≡ 0 = ap (word_count layout) w.nothing ∙ word_count_none in
      let z : put at (catalogue_bytes layout (f [])) old ≡ old = rw (w.nothing, catalogue_bytes_none layout) (put_nothing at old) in
      record {
        seen = [];
        run = s;
        place = omega (arith, nothing);
        bytes = sym z;
        fits = omega (arith, nothing, room_before w at (length old) [] (many0 m b (drop (b - b) u)) (room.is ∙ s.left) room.fits);
      }

  pub writing_start_seen : writing_start.seen ≡ []
  unfolding writing_start
  writing_start_seen = refl

  module _ {c : ℕ} {new : List ℕ} {to : ℕ} (i : Writing f m b u c at old new to) where
    pub writing_same : length new ≡ length old
    writing_same = ap length i.bytes ∙ put_length at (catalogue_bytes layout (f i.seen)) old (omega (arith, catalogue_bytes_length (f i.seen), i.place, i.fits))

    module _ (v : Consumes m) {a : A} {d : ℕ} (t : Took m b u c a d) where
      more : at + 8 * word_count layout (f (i.seen ++ (a ∷ []))) ≤ length old
      more = room_before w at (length old) (i.seen ++ (a ∷ [])) (many0 m d (drop (d - b) u)) (room.is ∙ (many0_step v i.run t).0.left) room.fits

      -- there is room for one element more
      pub writing_fits : (k : ℕ) → word_count layout (one a) ≡ k → (to + 8 * k ≤ length new) × ((c < d) × (d ≤ b + length u))
      writing_fits k z = let s = many0_step v i.run t in (omega (arith, writing_same, more, i.place, word_count_more w i.seen a, z), (s.1, s.0.inside))

      pub writing_more : (k : ℕ) → word_count layout (one a) ≡ k → (new' : List ℕ) → new' ≡ put to (catalogue_bytes layout (one a)) new → Writing f m b u d at old new' (to + 8 * k)
      writing_more k z new' e =
          let l = word_count_more w i.seen a in
          record {
            seen = i.seen ++ (a ∷ []);
            run = (many0_step v i.run t).0;
            place = omega (arith, i.place, l, z);
            bytes = rw (catalogue_bytes_more w i.seen a) (
                put_on at to (catalogue_bytes layout (f i.seen)) (catalogue_bytes layout (one a)) old new new'
                (omega (arith, i.place, catalogue_bytes_length (f i.seen)))
                (omega (arith, i.place, more, l, catalogue_bytes_length (one a)))
                i.bytes
                e
                );
            fits = omega (arith, i.place, more, l, z);
          }

      pub writing_more_seen : (k : ℕ) (z : word_count layout (one a) ≡ k) (new' : List ℕ) (e : new' ≡ put to (catalogue_bytes layout (one a)) new) → (writing_more k z new' e).seen ≡ i.seen ++ (a ∷ [])
      unfolding writing_more
      writing_more_seen k z new' e = refl

    ended : (x : Lost) → many0 m b u ≡ many_end x i.seen c (drop (c - b) u) → Written f (many0 m) b u at (record { next = c; to = to }) old new
    ended =
        by_lost
        (λ x. many0 m b u ≡ many_end x i.seen c (drop (c - b) u) → Written f (many0 m) b u at (record { next = c; to = to }) old new)
        (λ p e. record { value = i.seen; is = sym e; place = i.place; bytes = i.bytes })
        (λ n p e. absurd (no_room room (Stop n p) (sym e)))

    pub writing_ends : (v : Consumes m) {r : List ℕ} (x : Lost) → Rest b u c r → lost_reply x ≡ m c r → Written f (many0 m) b u at (record { next = c; to = to }) old new
    writing_ends v x q e = ended x (many0_ends v x i.run q e)

-- A loop over elements: there is room for one that is read, and a turn writes it.
module _ {P A : Type 0} {all : List A → List Record} {one : A → List Record} {m : Parser A} {f : ℕ → List ℕ → P → A} {W : List ℕ → ℕ → P → ℕ → Type 0} {size : P → ℕ} (e : Repeats all one m f W size) {b : ℕ} {u : List ℕ} {at : ℕ} {old : List ℕ} (room : Room all (many0 m) b u at (length old)) {c to : ℕ} {new : List ℕ} (i : Writing all m b u c at old new to) {r : List ℕ} (q : Rest b u c r) where
  module _ {p : P} {d : ℕ} (h : ReadTo f (W r) m (Ok (p, d)) c r) where
    -- there is room for it, in the buffer as it was too
    pub run_fits : (to + 8 * size p ≤ length old) × ((to + 8 * size p ≤ length new) × ((c < d) × (d ≤ b + length u)))
    run_fits =
        let s = writing_fits e.elementwise m b u at old room i e.takes (read_took h (walks e.chain) q) (size p) (e.words c d r p h.within) in
        (omega (arith, s.0, writing_same e.elementwise m b u at old room i), s)

    pub run_few : size p ≤ 8 * (d - c)
    run_few = e.few c d r p h.within run_fits.1.1.0

    pub run_inside : ReadInside (W r c p) (c + length r)
    run_inside = (d, h.within, omega (arith, (read_took h (walks e.chain) q).inside, q.size))

    pub run_wrote : {new' : List ℕ} → new' ≡ put to (catalogue_bytes layout (one (f c r p))) new → Writing all m b u d at old new' (to + 8 * size p)
    run_wrote {new'} g = writing_more e.elementwise m b u at old room i e.takes (read_took h (walks e.chain) q) (size p) (e.words c d r p h.within) new' g

  pub run_written : {l : Lost} → ReadTo f (W r) m (Err l) c r → Written all (many0 m) b u at (record { next = c; to = to }) old new
  run_written {l} h = writing_ends e.elementwise m b u at old room i e.takes l q (read_lost h)
