-- A declaration that is a head and then a list: its first record, and after it those of the list. Both passes over it.
use Rattle.std.specs.Prelude.{Ok, Err}
use mathlib.Core.Path.{◌≡◌, sym, ap, ◌∙◌, subst}
use mathlib.Core.List.{List, [], ◌∷◌}
use Prim.Native.Nat.{ℕ, ◌+◌, ◌-◌, ◌*◌, ◌≤◌, ◌<◌}
use native.Mathlib.Omega.{arith}
use lib.ListN.{length, drop, length-drop}
use Rattle.lexing.specs.reply.{Reply, ok, Parser, ret, ◌>>=◌}
use Rattle.lexing.specs.answers.{Rest, lost_reply, Lost}
use Rattle.lexing.proofs.Onward.{Onward}
use Rattle.lexing.proofs.Locality.{Consumes}
use Rattle.lexing.proofs.Slicing.{Took, begin, go, done, lose, rest_self}
use Rattle.items.specs.records.{Record}
use Rattle.items.specs.layout.{layout, catalogue_bytes, word_count}
use Rattle.lexing.specs.buffers.{put}
use Rattle.items.specs.answers.{CountsTo, Room, Written}
use Rattle.items.specs.declared.writing.Wrote.{Wrote}
use Rattle.items.proofs.RecordWords.{word_count_append, catalogue_bytes_append, catalogue_bytes_length}
use Rattle.items.proofs.Braces.{Step, taken, follows_with}
use Rattle.items.proofs.writing.Laws.{put_before, no_room, written_took}
use Rattle.items.proofs.counts.Laws.{Counted, count_is, count_not}

pub record Headed {I H L A : Type 0} (m : I → Parser A) (records : I → A → List Record) (head : Parser H) (list : Parser L) (rs : L → List Record) (k : ℕ) : Type 0 where
  pub make : I → H → L → A
  pub first : I → H → L → Record
  pub reads : (i : I) → m i ≡ (head >>= λ h. list >>= λ l. ret (make i h l))
  pub hands : (i : I) (h : H) (l : L) → records i (make i h l) ≡ first i h l ∷ rs l
  pub size : (i : I) (h : H) (l : L) → word_count layout (first i h l ∷ []) ≡ k

-- a step that takes a byte
pub further_on : {A : Type 0} {m : Parser A} (w : Consumes m) {b n : ℕ} {u : List ℕ} {a : A} {c : ℕ} → b ≤ n → Took m b u n a c → n < c
further_on {A} {m} w {b} {n} {u} {a} {c} h t =
    let s = rw t.goes at (w.consumes n (drop (n - b) u)) in
    omega (arith, s, length-drop (n - b) u, length-drop (c - b) u, t.up, t.inside)

module _ {I H L A : Type 0} {m : I → Parser A} {records : I → A → List Record} {head : Parser H} {list : Parser L} {rs : L → List Record} {k : ℕ} (d : Headed m records head list rs k) where
  -- the whole, as its two steps
  abbrev steps : I → Parser A
  steps i = head >>= λ h. list >>= λ l. ret (d.make i h l)

  pub headed_words : (i : I) (h : H) (l : L) → word_count layout (records i (d.make i h l)) ≡ word_count layout (rs l) + k
  headed_words i h l = ap (word_count layout) (d.hands i h l) ∙ omega (arith, word_count_append (d.first i h l ∷ []) (rs l), d.size i h l)

  module _ {b : ℕ} {u : List ℕ} where
    whole : {X : Reply A} (i : I) → X ≡ steps i b u → X ≡ m i b u
    whole i e = rw (d.reads i) e

    pub headed_lost : (l : Lost) → lost_reply l ≡ head b u → CountsTo records m (Err l) b u
    headed_lost l e = record { counts = λ i. count_not (records i) (m i) b u l (whole i (begin (steps i) b u (lose head _ l (rest_self b u) e))) }

    module _ {h : H} {c : ℕ} (t : Took head b u b h c) where
      pub headed_pass : (l : Lost) {r : List ℕ} → Rest b u c r → lost_reply l ≡ list c r → CountsTo records m (Err l) b u
      headed_pass l q z = record { counts = λ i. count_not (records i) (m i) b u l (whole i (begin (steps i) b u (go _ t (lose list _ l q z)))) }

      pub headed_counted : Consumes head → k ≤ 8 → {n e : ℕ} → Counted rs list b u c n e → CountsTo records m (Ok (n + k, e)) b u
      headed_counted w s {n} {e} f =
          let b≤b : b ≤ b = omega arith in
          record {
            counts = λ i.
                let z : word_count layout (records i (d.make i h f.value)) ≡ n + k = omega (arith, headed_words i h f.value, f.words) in
                count_is (records i) (m i) b u (d.make i h f.value) (n + k) e z (omega (arith, f.few, further_on w b≤b t, f.step.up, s))
                (whole i (begin (steps i) b u (go _ t (go _ f.step (done _ _ _ _)))));
          }

    -- The second pass, where the head was read and there is room for the whole.
    module _ (i : I) {p n : ℕ} (room : Room (records i) (m i) b u p n) where
      pub headed_found : (l : Lost) → lost_reply l ≡ head b u → ⊥
      headed_found l e = no_room room l (whole i (begin (steps i) b u (lose head _ l (rest_self b u) e)))

      module _ (w : Onward list) {h : H} {c : ℕ} (t : Took head b u b h c) where
        -- the list, seen from the whole
        inner : Step list (λ l. ret (d.make i h l)) room.value room.next (drop (room.next - b) u) c (drop (c - b) u)
        inner =
            let y : ok room.value room.next (drop (room.next - b) u) ≡ steps i b (drop (b - b) u) = room.is ∙ (ap (λ (f : Parser A). f b u) (d.reads i) ∙ ap (steps i b) (rest_self b u).same) in
            taken list (λ l. ret (d.make i h l)) w room.value room.next (drop (room.next - b) u) c (drop (c - b) u) (follows_with (λ h. list >>= λ l. ret (d.make i h l)) t y)

        inner_is : room.value ≡ d.make i h inner.value
        unfolding ret
        inner_is = let z = inner.then in cc

        pub headed_room : {r : List ℕ} → Rest b u c r → Room rs list c r (p + 8 * k) n
        headed_room q =
            let f : word_count layout (records i room.value) ≡ word_count layout (rs inner.value) + k = ap (λ v. word_count layout (records i v)) inner_is ∙ headed_words i h inner.value in
            record { value = inner.value; next = inner.next; is = subst (λ (x : List ℕ). ok inner.value inner.next (drop (inner.next - c) x) ≡ list c x) (sym q.same) inner.is; fits = omega (arith, room.fits, f) }

        -- the list's records are written, and then the first one before them
        pub headed_written : {r : List ℕ} → Rest b u c r → {o : Wrote} {old mid new : List ℕ} (g : Written rs list c r (p + 8 * k) o old mid) → n ≡ length old → {x : Record} → x ≡ d.first i h g.value → new ≡ put p (catalogue_bytes layout (x ∷ [])) mid → Written (records i) (m i) b u p o old new
        headed_written q {o} {old} {mid} {new} g same {x} v e =
            let s = written_took w q g in
            let a = d.make i h g.value in
            let is : ok a o.next (drop (o.next - b) u) ≡ m i b u = whole i (begin (steps i) b u (go _ t (go _ s (done _ _ _ _)))) in
            let y : room.value ≡ a = let z = room.is ∙ sym is in cc in
            let f = headed_words i h g.value in
            let z : word_count layout (records i room.value) ≡ word_count layout (records i a) = ap (λ v. word_count layout (records i v)) y in
            let k₁ = catalogue_bytes_length (x ∷ []) in
            let k₂ = catalogue_bytes_length (rs g.value) in
            let k₃ : word_count layout (x ∷ []) ≡ k = ap (λ (v : Record). word_count layout (v ∷ [])) v ∙ d.size i h g.value in
            record {
              value = a;
              is = is;
              place = omega (arith, g.place, f);
              bytes = rw (d.hands i h g.value, ← v, catalogue_bytes_append layout (x ∷ []) (rs g.value)) (
                  put_before p (p + 8 * k) (catalogue_bytes layout (x ∷ [])) (catalogue_bytes layout (rs g.value)) old mid new (omega (arith, k₁, k₃)) (omega (arith, k₂, room.fits, z, f, same)) g.bytes e
                  );
            }
