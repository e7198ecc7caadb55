-- The second pass over a list of tries between braces: a turn of the loop, and its end at the closing brace. They hold for any tries and records.
use Rattle.lexing.specs.declared.answers.LostBy.TheVariants.{Fail}
use mathlib.Core.Path.{◌≡◌, refl, sym, ap, ◌∙◌, subst}
use mathlib.Core.Logic.{◌⊎◌, inl, inr}
use mathlib.Core.List.{List, [], ◌∷◌, ◌++◌}
use Prim.Native.Nat.{ℕ, zero, suc, ◌+◌, ◌-◌, ◌*◌, ◌≤◌, ◌<◌, max}
use native.Mathlib.Omega.{arith}
use lib.ListN.{length, drop}
use Rattle.lexing.specs.reply.{Reply, ok, fail, stop, Parser, ret, ◌>>=◌, ◌>>◌, iter_within, iter, position, fail_at}
use Rattle.lexing.specs.words.{tag}
use Rattle.lexing.specs.blanks.{Doc, whitespace0}
use Rattle.lexing.specs.answers.{Rest, lost_reply, number_of, Lost}
use Rattle.lexing.proofs.Losses.{by_lost}
use Rattle.lexing.proofs.Onward.{Onward}
use Rattle.lexing.proofs.Locality.{Consumes, LocalInside}
use Rattle.lexing.proofs.Slicing.{Took, took, walks, begin, fall, rest_from, rebase}
use Rattle.lexing.proofs.Repetition.{iter_start}
use Rattle.items.specs.clusters.{mapped}
use Rattle.items.specs.endpoints.{Tried as TriedOf, Deep, intercept, deep_step, deeper, deep_run, deep_braces}
use Rattle.items.specs.records.{Record}
use Rattle.items.specs.layout.{layout, catalogue_bytes, word_count}
use Rattle.lexing.specs.buffers.{put}
use Rattle.items.specs.answers.{Room, Written}
use Rattle.items.specs.inner.instances.{deep_close, deep_tail, deep_rest}
use Rattle.items.specs.declared.writing.Wrote.{Wrote}
use Rattle.items.proofs.Mapped.{mapped_ok, value_as}
use Rattle.items.proofs.Locality.{deep_run_inside}
use Rattle.items.proofs.RecordWords.{word_count_none, word_count_more, catalogue_bytes_none, catalogue_bytes_length, catalogue_bytes_more}
use Rattle.items.specs.inner.runs.{Elementwise}
use Rattle.items.proofs.Braces.{lost_not, ok_no_stop, Step, rest_is, taken, then_value}
use Rattle.items.proofs.Deep.{intercept_found, next_at, stop_at_lem, three_tries, Near, Nearer, Unclosing, tag_cases, tag_missing, RunAt, turn_near, run_stops, run_took, unclosed, run_closed, deep_rest_on, deep_unopened, deep_opened}
use Rattle.lexing.proofs.buffers.Laws.{put_length, put_nothing, put_on}
use Rattle.items.proofs.writing.Laws.{no_room}

-- A turn adds what it found, and the end changes only the furthest place: so the records of a state are among those of the end.
module _ {A : Type 0} {records : List A → List Record} {one : A → List Record} (w : Elementwise records one) (f : ℕ → Parser (TriedOf A)) where
  step_grows : (s t : Deep A) (b c : ℕ) (u r : List ℕ) → ok t c r ≡ deep_step f s b u → word_count layout (records s.read) ≤ word_count layout (records t.read)
  unfolding deep_step ◌>>◌ ◌>>=◌
  step_grows s t b c u r e = go (whitespace0 b u) refl
    where
      go : (x : Reply Doc) → whitespace0 b u ≡ x → word_count layout (records s.read) ≤ word_count layout (records t.read)
      go (ok d c₁ r₁) z =
          let k : ok t c r ≡ mapped (f s.deepest) (λ x. record { deepest = x.furthest; read = s.read ++ (x.value ∷ []) }) c₁ r₁ = rw (z, deep_step, ◌>>◌, ◌>>=◌) at e in
          let v = value_as {B = Deep A} (λ x. record { deepest = x.furthest; read = s.read ++ (x.value ∷ []) }) (f s.deepest) c₁ r₁ t c r k in
          let y = v.1.0 in
          let q : s.read ++ (v.0.value ∷ []) ≡ t.read = ap (λ (x : Deep A). x.read) y in
          let m : word_count layout (records (s.read ++ (v.0.value ∷ []))) ≡ word_count layout (records t.read) = ap (λ x. word_count layout (records x)) q in
          omega (arith, m, word_count_more w s.read v.0.value)
      go (fail p) z = absurd (lost_not e (Fail p) (rw (z, deep_step, ◌>>◌, ◌>>=◌) refl))
      go (stop n p) z = absurd (ok_no_stop {n = n} {p = p} e (rw (z, deep_step, ◌>>◌, ◌>>=◌) refl))

  grows : (n : ℕ) (s t : Deep A) (b c : ℕ) (u r : List ℕ) → ok t c r ≡ iter_within n (deep_step f) deeper s b u → word_count layout (records s.read) ≤ word_count layout (records t.read)
  unfolding iter_within deeper
  grows zero s t b c u r e = let z : s ≡ t = cc in let y : word_count layout (records s.read) ≡ word_count layout (records t.read) = ap (λ (x : Deep A). word_count layout (records x.read)) z in omega (arith, y)
  grows (suc n) s t b c u r e = go (deep_step f s b u) refl (grows n)
    where
      go : (x : Reply (Deep A)) → deep_step f s b u ≡ x → ((s t : Deep A) (b c : ℕ) (u r : List ℕ) → ok t c r ≡ iter_within n (deep_step f) deeper s b u → word_count layout (records s.read) ≤ word_count layout (records t.read))
          → word_count layout (records s.read) ≤ word_count layout (records t.read)
      go (ok s' b' u') z ih =
          let k : ok t c r ≡ iter_within n (deep_step f) deeper s' b' u' = rw (z, iter_within) at e in
          omega (arith, step_grows s s' b b' u u' (sym z), ih s' t b' c u' r k)
      go (fail p) z ih =
          let k : ok t c r ≡ ok (deeper p s) b u = rw (z, iter_within) at e in
          let y : t ≡ deeper p s = cc in
          let m : word_count layout (records t.read) ≡ word_count layout (records s.read) = ap (λ (x : Deep A). word_count layout (records x.read)) y in
          omega (arith, m)
      go (stop i p) z ih = absurd (let k : ok t c r ≡ stop i p = rw (z, iter_within) at e in let y : ◌≡◌ {A = ℕ} 0 1 = cc in omega arith)

  run_grows : (s t : Deep A) (b c : ℕ) (u r : List ℕ) → ok t c r ≡ iter (deep_step f) deeper s b u → word_count layout (records s.read) ≤ word_count layout (records t.read)
  unfolding iter
  run_grows s t b c u r e = grows (suc (length u)) s t b c u r e

-- A loop that writes the records of tries: those of what was found so far are in the buffer.
pub record Placing {A : Type 0} (records : List A → List Record) (f : ℕ → Parser (TriedOf A)) (b : ℕ) (u : List ℕ) (c at : ℕ) (old new : List ℕ) (to : ℕ) : Type 0 where
  pub seen : List A
  pub far : ℕ
  pub run : RunAt f b u c far seen
  pub place : to ≡ at + 8 * word_count layout (records seen)
  pub bytes : new ≡ put at (catalogue_bytes layout (records seen)) old

module _ {A : Type 0} {records : List A → List Record} {one : A → List Record} (w : Elementwise records one) {f : ℕ → Parser (TriedOf A)} (t : (q : ℕ) → LocalInside (f q)) (v : (q : ℕ) → Consumes (f q))
    (b : ℕ) (u : List ℕ) (at : ℕ) (old : List ℕ) (room : Room records (deep_rest f) b u at (length old)) where
  -- the whole text, taken apart: what was read, and the closing brace after it
  parsed : (s : Deep A) × ((s.read ≡ room.value) × (ok s room.next (drop (room.next - b) u) ≡ deep_tail f b u))
  unfolding deep_rest
  parsed = value_as (λ s. s.read) (deep_tail f) b u room.value room.next (drop (room.next - b) u) room.is

  abbrev close : Deep A → Parser (Deep A)
  close s = deep_close s.deepest >> ret s

  whole : Step (deep_run f) close parsed.0 room.next (drop (room.next - b) u) b u
  whole = taken (deep_run f) close (walks (deep_run_inside t v).on_chain) parsed.0 room.next (drop (room.next - b) u) b u parsed.1.1

  end_read : whole.value.read ≡ room.value
  end_read =
      let z = then_value (deep_close whole.value.deepest) whole.value parsed.0 room.next (drop (room.next - b) u) whole.next (drop (whole.next - b) u) whole.then in
      ap (λ (x : Deep A). x.read) (sym z) ∙ parsed.1.0

  run_is : ok whole.value whole.next (drop (whole.next - b) u) ≡ iter (deep_step f) deeper (record { deepest = b; read = [] }) b u
  unfolding deep_run position ◌>>=◌
  run_is = whole.is

  -- there is room for what was found so far
  run_fits : {c far : ℕ} {seen : List A} → RunAt f b u c far seen → at + 8 * word_count layout (records seen) ≤ length old
  run_fits {c} {far} {seen} i =
      let z : word_count layout (records whole.value.read) ≡ word_count layout (records room.value) = ap (λ x. word_count layout (records x)) end_read in
      omega (arith, room.fits, z, run_grows w f (record { deepest = far; read = seen }) whole.value c whole.next (drop (c - b) u) (drop (whole.next - b) u) (run_is ∙ sym i.left))

  pub placing_start : Placing records f b u b at old old at
  placing_start =
      let z : put at (catalogue_bytes layout (records [])) old ≡ old = rw (w.nothing, catalogue_bytes_none layout) (put_nothing at old) in
      record { seen = []; far = b; run = iter_start (deep_step f) deeper _ b u; place = omega (arith, ap (word_count layout) w.nothing ∙ word_count_none); bytes = sym z }

  module _ {c to : ℕ} {new : List ℕ} (i : Placing records f b u c at old new to) where
    pub placing_same : length new ≡ length old
    placing_same = ap length i.bytes ∙ put_length at (catalogue_bytes layout (records i.seen)) old (omega (arith, catalogue_bytes_length (records i.seen), run_fits i.run))

    module _ {d : Doc} {c₁ : ℕ} (s : Took whitespace0 b u c d c₁) {r : List ℕ} (q : Rest b u c₁ r) where
      -- without the closing brace a try finds something, and there is room for it
      pub placing_room : Nearer f → (l : Lost) → lost_reply l ≡ tag 125 c₁ r → Room (λ x. one x.value) (f c₁) c₁ r to (length new)
      placing_room m l o = find (f c₁ c₁ r) refl
        where
          find : (x : Reply (TriedOf A)) → f c₁ c₁ r ≡ x → Room (λ x. one x.value) (f c₁) c₁ r to (length new)
          find (ok x e r') z =
              let y = rest_is (walks (t c₁).on_chain) c₁ e r r' x z in
              let k : ok x e (drop (e - c₁) r) ≡ f c₁ c₁ r = rw (← y) (sym z) in
              let j = turn_near t v i.run s q m k in
              record { value = x; next = e; is = k; fits = omega (arith, placing_same, i.place, run_fits j.1.1.0, word_count_more w i.seen x.value) }
          find (fail p) z =
              let y : Near i.far c₁ (fail p) (f i.far c₁ r) = subst (λ (X : Reply (TriedOf A)). Near i.far c₁ X (f i.far c₁ r)) z (m i.far c₁ c₁ r) in
              let k = whole.is ∙ sym (begin (deep_run f) b u (sym (run_took t v i.run s q y.0 y.1.1).goes)) in
              let n : whole.next ≡ c = cc in
              let h = unclosed t v i.run s q (tag_missing 125 c₁ r l o) whole.value.deepest in
              let g = Fail (max c₁ whole.value.deepest) in
              let a : lost_reply g ≡ close whole.value c (drop (c - b) u) = fall _ _ g (rest_from b c u i.run.from i.run.inside) h in
              absurd (lost_not whole.then g (subst (λ (o : ℕ). lost_reply g ≡ close whole.value o (drop (o - b) u)) (sym n) a))
          find (stop n p) z =
              let y : stop n p ≡ f i.far c₁ r = subst (λ (X : Reply (TriedOf A)). Near i.far c₁ X (f i.far c₁ r)) z (m i.far c₁ c₁ r) in
              absurd (ok_no_stop whole.is (run_stops t v i.run s q n p y))

      -- a turn
      pub placing_more : Nearer f → {o : Wrote} {new' : List ℕ} → Written (λ x. one x.value) (f c₁) c₁ r to o new new' → Placing records f b u o.next at old new' o.to × (c < o.next)
      placing_more m {o} {new'} h =
          let a = h.value.value in
          let j = turn_near t v i.run s q m h.is in
          let l = word_count_more w i.seen a in (
            record {
              seen = i.seen ++ (a ∷ []);
              far = j.0;
              run = j.1.1.0;
              place = omega (arith, i.place, h.place, l);
              bytes = rw (catalogue_bytes_more w i.seen a) (
                  put_on at to (catalogue_bytes layout (records i.seen)) (catalogue_bytes layout (one a)) old new new'
                  (omega (arith, i.place, catalogue_bytes_length (records i.seen)))
                  (omega (arith, i.place, run_fits j.1.1.0, l, catalogue_bytes_length (one a)))
                  i.bytes
                  h.bytes
                  );
            },
            j.1.1.1.0,
          )

      -- the closing brace
      pub placing_ends : Unclosing f → {e : ℕ} → Took (tag 125) b u c₁ tt e → Written records (deep_rest f) b u at (record { next = e; to = to }) old new
      placing_ends x k = record { value = i.seen; is = run_closed t v i.run s q x k; place = i.place; bytes = i.bytes }

-- A part of a part.
pub rest_inner : {b c e : ℕ} {u r s : List ℕ} → Rest b u c r → Rest b u e s → c ≤ e → Rest c r e s
rest_inner {b} {c} {e} {u} q p h = record { from = h; same = p.same ∙ (sym (rebase b c e u q.from h) ∙ ap (drop (e - c)) (sym q.same)); size = p.size ∙ sym q.size }

-- The braces around them: in an accepted text the opening one is where it should be.
module _ {A : Type 0} {records : List A → List Record} (f : ℕ → Parser (TriedOf A)) (w : Onward (deep_run f)) {b : ℕ} {u : List ℕ} {p n : ℕ} (room : Room records (deep_braces f) b u p n) where
  pub opened : Took (tag 123) b u b tt (b + 1)
  opened = find (tag_cases 123 b u)
    where
      find : Took (tag 123) b u b tt (b + 1) ⊎ (fail b ≡ tag 123 b u) → Took (tag 123) b u b tt (b + 1)
      find (inl k) = k
      find (inr k) = absurd (no_room room (Fail b) (deep_unopened f b u (Fail b) k))

  module _ {r : List ℕ} (q : Rest b u (b + 1) r) where
    pub opened_room : Room records (deep_rest f) (b + 1) r p n
    opened_room =
        let y = room.is ∙ sym (deep_opened f b u opened) in
        let z = rest_is (deep_rest_on f w) (b + 1) room.next (drop (b + 1 - b) u) (drop (room.next - b) u) room.value (sym y) in
        record { value = room.value; next = room.next; is = rw q.same (rw (← z) y); fits = room.fits }

    pub opened_written : {o : Wrote} {old new : List ℕ} → Written records (deep_rest f) (b + 1) r p o old new → Written records (deep_braces f) b u p o old new
    opened_written h = record { value = h.value; is = sym (took (deep_rest_on f w) q h.is).goes ∙ deep_opened f b u opened; place = h.place; bytes = h.bytes }

-- What a try finds: one law for each of three tries.
pub try_took : {A B : Type 0} (g : A → B) {m : Parser A} {b : ℕ} {u : List ℕ} {a : A} {c : ℕ} → Took m b u b a c → ok (g a) c (drop (c - b) u) ≡ mapped m g b u
try_took g {m} {b} {u} {a} {c} t = mapped_ok g m b u a c (drop (c - b) u) refl (begin m b u (sym t.goes))

module _ {A : Type 0} (m₁ m₂ m₃ : Parser A) {b : ℕ} {u : List ℕ} where
  module _ {x : A} {c : ℕ} where
    pub first_found : ok x c (drop (c - b) u) ≡ m₁ b u → (q : ℕ) → ok (record { furthest = q; value = x }) c (drop (c - b) u) ≡ three_tries m₁ m₂ m₃ q b u
    first_found e q = intercept_found q m₁ _ b u x c (drop (c - b) u) e

    pub second_found : {p : ℕ} → fail p ≡ m₁ b u → ok x c (drop (c - b) u) ≡ m₂ b u → (q : ℕ) → ok (record { furthest = max q p; value = x }) c (drop (c - b) u) ≡ three_tries m₁ m₂ m₃ q b u
    second_found {p} h e q = next_at q m₁ _ b u p h (intercept_found (max q p) m₂ _ b u x c (drop (c - b) u) e)

    third_found : {p p' : ℕ} → fail p ≡ m₁ b u → fail p' ≡ m₂ b u → ok x c (drop (c - b) u) ≡ m₃ b u → (q : ℕ) → ok (record { furthest = max (max q p) p'; value = x }) c (drop (c - b) u) ≡ three_tries m₁ m₂ m₃ q b u
    third_found {p} {p'} h h' e q = next_at q m₁ _ b u p h (next_at (max q p) m₂ _ b u p' h' (intercept_found (max (max q p) p') m₃ _ b u x c (drop (c - b) u) e))

  -- a try that is lost in an accepted text has failed
  missed : (m : Parser A) (q : ℕ) (k : ℕ → Parser (TriedOf A)) {x : TriedOf A} {c : ℕ} {r : List ℕ} → ok x c r ≡ intercept q m k b u → (l : Lost) → lost_reply l ≡ m b u → (p : ℕ) × (fail p ≡ m b u)
  missed m q k h =
      by_lost (λ l. lost_reply l ≡ m b u → (p : ℕ) × (fail p ≡ m b u)) (λ p e. (p, e)) (λ n p e. absurd (ok_no_stop h (stop_at_lem q m k b u (number_of n) p e)))

  following : (m : Parser A) (q : ℕ) (k : ℕ → Parser (TriedOf A)) {x : TriedOf A} {c : ℕ} {r : List ℕ} → ok x c r ≡ intercept q m k b u → {p : ℕ} → fail p ≡ m b u → ok x c r ≡ k (max q p) b u
  following m q k h {p} e = h ∙ sym (next_at q m k b u p e refl)

  last_one : (q : ℕ) {x : TriedOf A} {c : ℕ} {r : List ℕ} → ok x c r ≡ intercept q m₃ (λ q. fail_at q) b u → ok x.value c r ≡ m₃ b u
  unfolding fail_at
  last_one q {x} {c} {r} h = find (m₃ b u) refl
    where
      find : (y : Reply A) → m₃ b u ≡ y → ok x.value c r ≡ m₃ b u
      find (ok a c' r') z =
          let k = h ∙ sym (intercept_found q m₃ (λ q. fail_at q) b u a c' r' (sym z)) in
          let e₁ : x ≡ record { furthest = q; value = a } = cc in
          let e₂ : c ≡ c' = cc in
          let e₃ : r ≡ r' = cc in
          rw (e₂, e₃, z) (ap (λ (t : TriedOf A). ok t.value c' r') e₁)
      find (fail p) z = absurd (lost_not h (Fail _) (next_at q m₃ (λ q. fail_at q) b u p (sym z) refl))
      find (stop n p) z = absurd (ok_no_stop h (stop_at_lem q m₃ (λ q. fail_at q) b u n p (sym z)))

  module _ (one : A → List Record) (q : ℕ) {at n : ℕ} (room : Room (λ t. one t.value) (three_tries m₁ m₂ m₃ q) b u at n) where
    pub first_missed : (l : Lost) → lost_reply l ≡ m₁ b u → (p : ℕ) × (fail p ≡ m₁ b u)
    first_missed l e = missed m₁ _ _ room.is l e

    module _ {p : ℕ} (h : fail p ≡ m₁ b u) where
      pub second_missed : (l : Lost) → lost_reply l ≡ m₂ b u → (p : ℕ) × (fail p ≡ m₂ b u)
      second_missed l e = missed m₂ _ _ (following m₁ _ _ room.is h) l e

      pub third_room : {p' : ℕ} → fail p' ≡ m₂ b u → Room one m₃ b u at n
      third_room h' = record { value = room.value.value; next = room.next; is = last_one _ (following m₂ _ _ (following m₁ _ _ room.is h) h'); fits = room.fits }

      -- the last try by what its own reader writes
      pub third_written : {p' : ℕ} → fail p' ≡ m₂ b u → {w : Wrote} {old new : List ℕ} → Written one m₃ b u at w old new → Written (λ t. one t.value) (three_tries m₁ m₂ m₃ q) b u at w old new
      third_written h' d = record { value = record { furthest = _; value = d.value }; is = third_found h h' d.is q; place = d.place; bytes = d.bytes }

module _ {A B : Type 0} (g : B → A) {one : A → List Record} {m : Parser B} {b : ℕ} {u : List ℕ} {at : ℕ} where
  pub mapped_room : {n : ℕ} → Room one (mapped m g) b u at n → Room (λ x. one (g x)) m b u at n
  mapped_room room =
      let s = value_as g m b u room.value room.next (drop (room.next - b) u) room.is in
      let z : word_count layout (one (g s.0)) ≡ word_count layout (one room.value) = ap (λ (x : A). word_count layout (one x)) s.1.0 in
      record { value = s.0; next = room.next; is = s.1.1; fits = omega (arith, room.fits, z) }

  pub mapped_written : {w : Wrote} {old new : List ℕ} → Written (λ x. one (g x)) m b u at w old new → Written one (mapped m g) b u at w old new
  mapped_written {w} h = record { value = g h.value; is = mapped_ok g m b u h.value w.next (drop (w.next - b) u) refl h.is; place = h.place; bytes = h.bytes }
