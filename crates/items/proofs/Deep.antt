-- Tries between braces, and the first pass over a loop of them. They hold for any tries and records.
use Rattle.lexing.specs.declared.answers.LostBy.TheVariants.{Fail, Stop}
use Rattle.std.specs.Prelude.{Ok, Err}
use mathlib.Core.Path.{◌≡◌, refl, sym, ap, ◌∙◌, subst}
use mathlib.Core.Logic.{◌⊎◌, inl, inr}
use mathlib.Core.Bool.{Bool, true, false}
use mathlib.Core.List.{List, [], ◌∷◌, ◌++◌}
use Prim.Native.Nat.{ℕ, suc, ◌+◌, ◌-◌, ◌*◌, ◌≤◌, ◌<◌, max}
use native.Mathlib.Omega.{arith}
use lib.Dec.{eqb}
use lib.ListN.{drop}
use Rattle.lexing.specs.reply.{Reply, ok, fail, stop, Parser, ret, ◌>>=◌, ◌>>◌, catch, position, fail_at}
use Rattle.lexing.specs.words.{tag}
use Rattle.lexing.specs.blanks.{Doc, whitespace0}
use Rattle.lexing.specs.answers.{Rest, lost_reply, number_of, reply, Read, read_answer, Lost}
use Rattle.lexing.proofs.Onward.{Onward, advances_onward, tag_advances}
use Rattle.lexing.proofs.Locality.{Consumes, LocalInside, chain_ret}
use Rattle.lexing.proofs.Slicing.{Took, took, walks, begin, go, on, lose, fall, done, rest_self, rest_from}
use Rattle.lexing.proofs.Repetition.{IterAt, iter_start, iter_step, iter_ends, iter_stop}
use Rattle.items.specs.entries.{enclosed}
use Rattle.items.specs.clusters.{mapped}
use Rattle.items.specs.endpoints.{Tried as TriedOf, Deep, intercept, deep_step, deeper, deep_run, deep_place, deep_braces}
use Rattle.items.specs.records.{Record}
use Rattle.items.specs.layout.{layout, word_count}
use Rattle.items.specs.answers.{CountTo}
use Rattle.items.specs.inner.instances.{weighed, TriedTo, tried_at, deep_close, deep_tail, deep_rest}
use Rattle.lexing.proofs.Composed.{onward_bind}
use Rattle.items.proofs.Choice.{Past}
use Rattle.items.proofs.Mapped.{mapped_ok, mapped_not, mapped_same, value_as, lost_as}
use Rattle.items.proofs.Locality.{close_moves, deep_step_consumes, deep_run_inside}
use Rattle.items.proofs.RecordWords.{word_count_none, word_count_more}
use Rattle.items.specs.inner.runs.{Elementwise}
use Rattle.lexing.proofs.TextEnd.{brace_first}
use Rattle.items.proofs.Braces.{lost_not, leaves, close_took, close_caught}
use Rattle.items.proofs.counts.Laws.{count_is, count_not, count_value, count_lost, count_after}

-- a try: found, failed, and stopped
module _ {A : Type 0} (q : ℕ) (m : Parser A) (k : ℕ → Parser (TriedOf A)) (b : ℕ) (u : List ℕ) where
  abbrev with_place : A → TriedOf A
  with_place a = record { furthest = q; value = a }

  pub intercept_found : (a : A) (c : ℕ) (r : List ℕ) → ok a c r ≡ m b u → ok (with_place a) c r ≡ intercept q m k b u
  unfolding intercept catch
  intercept_found a c r e = rw (sym (mapped_ok with_place m b u a c r refl e), intercept, catch) refl

  pub next_at : {X : Reply (TriedOf A)} (p : ℕ) → fail p ≡ m b u → X ≡ k (max q p) b u → X ≡ intercept q m k b u
  unfolding intercept catch
  next_at p e h = rw (sym (mapped_not with_place m b u (Fail p) e), intercept, catch) h

  pub stop_at_lem : (n p : ℕ) → stop n p ≡ m b u → stop n p ≡ intercept q m k b u
  unfolding intercept catch mapped ◌>>=◌
  stop_at_lem n p e = rw (sym e, intercept, catch, mapped, ◌>>=◌) refl

abbrev pub three_tries : {A : Type 0} (m₁ m₂ m₃ : Parser A) → ℕ → Parser (TriedOf A)
three_tries m₁ m₂ m₃ q = intercept q m₁ λ q. intercept q m₂ λ q. intercept q m₃ λ q. fail_at q

module _ {A : Type 0} (m₁ m₂ m₃ : Parser A) {b : ℕ} {u : List ℕ} where
  pub none_found : {p p' p'' : ℕ} → fail p ≡ m₁ b u → fail p' ≡ m₂ b u → fail p'' ≡ m₃ b u → (q : ℕ) → fail (max (max (max q p) p') p'') ≡ three_tries m₁ m₂ m₃ q b u
  unfolding fail_at
  none_found {p} {p'} {p''} h h' h'' q = next_at q m₁ _ b u p h (next_at (max q p) m₂ _ b u p' h' (next_at (max (max q p) p') m₃ _ b u p'' h'' refl))

  -- a try that fails at the start adds no place
  past_start : (m : Parser A) (k : ℕ → Parser (TriedOf A)) {X : Reply (TriedOf A)} → fail b ≡ m b u → X ≡ k b b u → X ≡ intercept b m k b u
  past_start m k {X} e h = let z : b ≡ max b b = omega arith in next_at b m k b u b e (subst (λ (q : ℕ). X ≡ k q b u) z h)

  -- where two of three tries do, the answer of the third is that of all
  module _ {P : Type 0} (g : P → A) where
    pub first_alone : fail b ≡ m₂ b u → fail b ≡ m₃ b u → Past b (m₁ b u) → (r : Read P) → reply (read_answer g r) b u ≡ m₁ b u → reply (read_answer (λ x. tried_at b (g x)) r) b u ≡ three_tries m₁ m₂ m₃ b b u
    first_alone h h' p (Ok (x, c)) e = intercept_found b m₁ _ b u (g x) c (drop (c - b) u) e
    first_alone h h' p (Err (Fail q)) e = let i : b ≤ q = rw (← e) at p in let z : q ≡ max (max (max b q) b) b = omega (arith, i) in ap fail z ∙ none_found e h h' b
    first_alone h h' p (Err (Stop n q)) e = stop_at_lem b m₁ _ b u (number_of n) q e

    pub second_alone : fail b ≡ m₁ b u → fail b ≡ m₃ b u → Past b (m₂ b u) → (r : Read P) → reply (read_answer g r) b u ≡ m₂ b u → reply (read_answer (λ x. tried_at b (g x)) r) b u ≡ three_tries m₁ m₂ m₃ b b u
    second_alone h h' p (Ok (x, c)) e = past_start m₁ _ h (intercept_found b m₂ _ b u (g x) c (drop (c - b) u) e)
    second_alone h h' p (Err (Fail q)) e = let i : b ≤ q = rw (← e) at p in let z : q ≡ max (max (max b b) q) b = omega (arith, i) in ap fail z ∙ none_found h e h' b
    second_alone h h' p (Err (Stop n q)) e = past_start m₁ _ h (stop_at_lem b m₂ _ b u (number_of n) q e)

    pub third_alone : fail b ≡ m₁ b u → fail b ≡ m₂ b u → Past b (m₃ b u) → (r : Read P) → reply (read_answer g r) b u ≡ m₃ b u → reply (read_answer (λ x. tried_at b (g x)) r) b u ≡ three_tries m₁ m₂ m₃ b b u
    third_alone h h' p (Ok (x, c)) e = past_start m₁ _ h (past_start m₂ _ h' (intercept_found b m₃ _ b u (g x) c (drop (c - b) u) e))
    third_alone h h' p (Err (Fail q)) e = let i : b ≤ q = rw (← e) at p in let z : q ≡ max (max (max b b) b) q = omega (arith, i) in ap fail z ∙ none_found h h' e b
    third_alone h h' p (Err (Stop n q)) e = past_start m₁ _ h (past_start m₂ _ h' (stop_at_lem b m₃ _ b u (number_of n) q e))

-- What tries answer after a furthest place q, by what they answer after q': they find the same, and where they fail only these two places make a difference.
abbrev pub Near : {A : Type 0} → (q q' : ℕ) → Reply (TriedOf A) → Reply (TriedOf A) → Type 0
Near q q' (ok t c r) y = (far : ℕ) × (((q' ≤ t.furthest) × (far ≤ max q t.furthest)) × (ok (record { furthest = far; value = t.value }) c r ≡ y))
Near q q' (fail p) y = (p' : ℕ) × ((((q' ≤ p) × (q ≤ p')) × (max p' q' ≡ max p q)) × (fail p' ≡ y))
Near q q' (stop n p) y = stop n p ≡ y

abbrev pub Nearer : {A : Type 0} → (ℕ → Parser (TriedOf A)) → Type 0
Nearer f = (q q' b : ℕ) (u : List ℕ) → Near q q' (f q' b u) (f q b u)

near_last : (A : Type 0) → Nearer {A = A} (λ q. fail_at q)
unfolding fail_at
near_last A q q' b u = (q, (((omega arith, omega arith), omega arith), refl))

near_wider : {A : Type 0} (p q q' : ℕ) (X Y : Reply (TriedOf A)) → Near (max q p) (max q' p) X Y → Near q q' X Y
near_wider p q q' (ok t c r) Y h = let i = h.1.0.0 in let j = h.1.0.1 in (h.0, ((omega (arith, i), omega (arith, i, j)), h.1.1))
near_wider p q q' (fail n) Y h = let i = h.1.0.0.0 in let j = h.1.0.0.1 in let k = h.1.0.1 in (h.0, (((omega (arith, i), omega (arith, j)), omega (arith, i, j, k)), h.1.1))
near_wider p q q' (stop n r) Y h = h

near_more : {A : Type 0} (m : Parser A) (k : ℕ → Parser (TriedOf A)) → Nearer k → Nearer (λ q. intercept q m k)
near_more {A} m k h q q' b u = go (m b u) refl
  where
    go : (x : Reply A) → m b u ≡ x → Near q q' (intercept q' m k b u) (intercept q m k b u)
    go (ok a c r) e =
        subst (λ (X : Reply (TriedOf A)). Near q q' X (intercept q m k b u)) (intercept_found q' m k b u a c r (sym e)) (q, ((omega arith, omega arith), intercept_found q m k b u a c r (sym e)))
    go (fail p) e =
        let z' = next_at q' m k b u p (sym e) refl in
        let z = next_at q m k b u p (sym e) refl in
        subst (λ (X : Reply (TriedOf A)). Near q q' X (intercept q m k b u)) z' (subst (λ (X : Reply (TriedOf A)). Near q q' (k (max q' p) b u) X) z (near_wider p q q' (k (max q' p) b u) (k (max q p) b u) (h (max q p) (max q' p) b u)))
    go (stop n p) e = subst (λ (X : Reply (TriedOf A)). Near q q' X (intercept q m k b u)) (stop_at_lem q' m k b u n p (sym e)) (stop_at_lem q m k b u n p (sym e))

pub nearer : {A : Type 0} (m₁ m₂ m₃ : Parser A) → Nearer (three_tries m₁ m₂ m₃)
nearer {A} m₁ m₂ m₃ = near_more m₁ _ (near_more m₂ _ (near_more m₃ _ (near_last A)))

near_found : {A : Type 0} (f : ℕ → Parser (TriedOf A)) → Nearer f → (q b : ℕ) (u : List ℕ) {t : TriedOf A} {c : ℕ} {r : List ℕ} → ok t c r ≡ f b b u → Near q b (ok t c r) (f q b u)
near_found {A} f n q b u e = subst (λ (X : Reply (TriedOf A)). Near q b X (f q b u)) (sym e) (n q b b u)

-- a try that counts
module _ {A : Type 0} (one : A → List Record) (f : ℕ → Parser (TriedOf A)) {b : ℕ} {u : List ℕ} where
  pub tried_is : (a : A) (k c : ℕ) → word_count layout (one a) ≡ k → k ≤ 8 * (c - b) → ok (record { furthest = b; value = a }) c (drop (c - b) u) ≡ f b b u → TriedTo one f (Ok (k, c)) b u
  unfolding weighed
  tried_is a k c s i e = record { reads = rw (← s) (mapped_ok _ (f b) b u (record { furthest = b; value = a }) c (drop (c - b) u) refl e); few = i }

  pub tried_not : (l : Lost) → lost_reply l ≡ f b b u → TriedTo one f (Err l) b u
  unfolding weighed
  tried_not l e = record { reads = mapped_not _ (f b) b u l e; few = tt }

  -- by the one reader that is left
  pub tried_by : {B : Type 0} (g : B → A) (m : Parser B) (r : Read ℕ) → ((x : Read A) → reply (read_answer (λ a. a) x) b u ≡ mapped m g b u → reply (read_answer (tried_at b) x) b u ≡ f b b u) → CountTo (λ x. one (g x)) m r b u → TriedTo one f r b u
  tried_by g m (Ok (k, c)) s h =
      let v = count_value (λ x. one (g x)) m b u k c h in
      tried_is (g v.value) k c v.words h.few (s (Ok (g v.value, c)) (mapped_ok g m b u v.value c (drop (c - b) u) refl v.is))
  tried_by g m (Err l) s h = tried_not l (s (Err l) (mapped_not g m b u l (count_lost b u h)))

-- where a closing brace is, every try fails
abbrev pub Unclosing : {A : Type 0} → (ℕ → Parser (TriedOf A)) → Type 0
Unclosing f = (q b : ℕ) (u : List ℕ) → (p : ℕ) × (fail p ≡ f q b (125 ∷ u))

-- a byte is where reading is, or its tag fails there
pub tag_cases : (t b : ℕ) (u : List ℕ) → Took (tag t) b u b tt (b + 1) ⊎ (fail b ≡ tag t b u)
unfolding tag
tag_cases t b [] = inr refl
tag_cases t b (x ∷ u) = go (eqb x t) refl
  where
    go : (s : Bool) → eqb x t ≡ s → Took (tag t) b (x ∷ u) b tt (b + 1) ⊎ (fail b ≡ tag t b (x ∷ u))
    go true e =
        let z : b + 1 ≡ suc b = omega arith in
        let y : suc b - b ≡ 1 = omega arith in
        let k : ok tt (b + 1) (drop (b + 1 - b) (x ∷ u)) ≡ tag t b (x ∷ u) = rw (z, y, e, tag) refl in
        inl (took (advances_onward (tag_advances t)) (rest_self b (x ∷ u)) k)
    go false e = inr (rw (e, tag) refl)

pub tag_missing : (t b : ℕ) (u : List ℕ) (l : Lost) → lost_reply l ≡ tag t b u → fail b ≡ tag t b u
tag_missing t b u l e = find (tag_cases t b u)
  where
    find : Took (tag t) b u b tt (b + 1) ⊎ (fail b ≡ tag t b u) → fail b ≡ tag t b u
    find (inl k) = absurd (lost_not (begin (tag t) b u (sym k.goes)) l e)
    find (inr k) = k

-- the state of a loop of tries at c, and its run so far
abbrev start_at : {A : Type 0} → ℕ → Deep A
start_at b = record { deepest = b; read = [] }

abbrev pub RunAt : {A : Type 0} → (ℕ → Parser (TriedOf A)) → ℕ → List ℕ → ℕ → ℕ → List A → Type 0
RunAt f b u c far seen = IterAt (deep_step f) deeper (start_at b) b u c (record { deepest = far; read = seen })

module _ {A : Type 0} {f : ℕ → Parser (TriedOf A)} (t : (q : ℕ) → LocalInside (f q)) (v : (q : ℕ) → Consumes (f q)) {b c c₁ far : ℕ} {u : List ℕ} {seen : List A} {d : Doc} (i : RunAt f b u c far seen) (s : Took whitespace0 b u c d c₁) where
  abbrev state : Deep A
  state = record { deepest = far; read = seen }

  -- a turn
  pub turn : {x : TriedOf A} {e : ℕ} → Took (f far) b u c₁ x e → RunAt f b u e x.furthest (seen ++ (x.value ∷ [])) × (c < e)
  unfolding deep_step
  turn {x} {e} g =
      let k = mapped_ok {B = Deep A} (λ x. record { deepest = x.furthest; read = seen ++ (x.value ∷ []) }) (f far) c₁ (drop (c₁ - b) u) x e (drop (e - b) u) refl (sym g.goes) in
      iter_step (deep_step_consumes t v) i (record { goes = sym (on _ s k); up = omega (arith, s.up, g.up); inside = g.inside })

  module _ {r : List ℕ} (q : Rest b u c₁ r) where
    -- the same, by a try that starts with c₁ as the furthest place
    pub turn_near : Nearer f → {x : TriedOf A} {e : ℕ} → ok x e (drop (e - c₁) r) ≡ f c₁ c₁ r → (far' : ℕ) × ((far' ≤ max far x.furthest) × (RunAt f b u e far' (seen ++ (x.value ∷ [])) × ((c < e) × (c₁ ≤ e))))
    turn_near n {x} {e} k =
        let y = near_found f n far c₁ r k in
        let g = took (walks (t far).on_chain) q y.1.1 in
        let j = turn g in
        (y.0, (y.1.0.1, (j.0, (j.1, g.up))))

    step_lost : (l : Lost) → lost_reply l ≡ f far c₁ r → lost_reply l ≡ deep_step f state c (drop (c - b) u)
    unfolding deep_step
    step_lost l e = on _ s (mapped_not _ (f far) c₁ (drop (c₁ - b) u) l (e ∙ ap (f far c₁) q.same))

    -- the loop ends where a try fails, and where one stops
    run_ends : (p : ℕ) → fail p ≡ f far c₁ r → ok (deeper p state) c (drop (c - b) u) ≡ deep_run f b u
    unfolding deep_run position ◌>>=◌
    run_ends p e = iter_ends (deep_step_consumes t v) i p (sym (step_lost (Fail p) e))

    pub run_stops : (n p : ℕ) → stop n p ≡ f far c₁ r → stop n p ≡ deep_run f b u
    unfolding deep_run position deep_step mapped ◌>>=◌
    run_stops n p e =
        let k : mapped (f far) (λ x. record { deepest = x.furthest; read = seen ++ (x.value ∷ []) }) c₁ (drop (c₁ - b) u) ≡ stop n p = rw (sym (e ∙ ap (f far c₁) q.same), mapped, ◌>>=◌) refl in
        sym (iter_stop (deep_step f) deeper (deep_step_consumes t v) state c (drop (c - b) u) n p (sym (on _ s (sym k)))) ∙ i.left

    pub run_took : (p : ℕ) → fail p ≡ f far c₁ r → Took (deep_run f) b u b (record { deepest = max p far; read = seen }) c
    unfolding deeper
    run_took p e = took (walks (deep_run_inside t v).on_chain) (rest_self b u) (run_ends p e)

    -- without a closing brace the place is the furthest
    pub unclosed : fail c₁ ≡ tag 125 c₁ r → (m : ℕ) → fail (max c₁ m) ≡ deep_close m c (drop (c - b) u)
    unfolding deep_close fail_at
    unclosed e m = close_caught s _ (Fail c₁) q e

    -- the closing brace
    pub run_closed : Unclosing f → {e : ℕ} → Took (tag 125) b u c₁ tt e → ok seen e (drop (e - b) u) ≡ deep_rest f b u
    unfolding deep_rest deep_close
    run_closed x {e} k =
        let y = brace_first c₁ (drop (c₁ - b) u) (sym k.goes) in
        let z = x far c₁ y.0 in
        let g = run_took z.0 (z.1 ∙ ap (f far c₁) (sym (q.same ∙ y.1))) in
        mapped_ok (λ s. s.read) (deep_tail f) b u (record { deepest = max z.0 far; read = seen }) e (drop (e - b) u) refl (begin (deep_tail f) b u (go _ g (on _ (close_took s _ k) (done _ b e u))))

    -- without it, a try that is lost
    run_lost : Nearer f → far ≤ c → fail c₁ ≡ tag 125 c₁ r → (l : Lost) → lost_reply l ≡ f c₁ c₁ r → lost_reply l ≡ deep_rest f b u
    unfolding deep_rest
    run_lost n w o (Fail p) e =
        let y : Near far c₁ (fail p) (f far c₁ r) = subst (λ (X : Reply (TriedOf A)). Near far c₁ X (f far c₁ r)) (sym e) (n far c₁ c₁ r) in
        let p' = y.0 in
        let h = y.1.0 in
        let z : max c₁ (max p' far) ≡ p = omega (arith, w, s.up, h.0.0, h.0.1, h.1) in
        let k = unclosed o (max p' far) in
        let x = fall _ (ret _) (Fail (max c₁ (max p' far))) (rest_from b c u i.from i.inside) k in
        rw (← z) (mapped_not (λ s. s.read) (deep_tail f) b u (Fail (max c₁ (max p' far))) (begin (deep_tail f) b u (go _ (run_took p' y.1.1) x)))
    run_lost n w o (Stop j p) e =
        let y : stop (number_of j) p ≡ f far c₁ r = subst (λ (X : Reply (TriedOf A)). Near far c₁ X (f far c₁ r)) (sym e) (n far c₁ c₁ r) in
        mapped_not (λ s. s.read) (deep_tail f) b u (Stop j p) (begin (deep_tail f) b u (lose (deep_run f) _ (Stop j p) (rest_self b u) (run_stops (number_of j) p y)))

-- a loop of tries that counts
pub record Seeking {A : Type 0} (records : List A → List Record) (f : ℕ → Parser (TriedOf A)) (b : ℕ) (u : List ℕ) (c n : ℕ) : Type 0 where
  pub seen : List A
  pub far : ℕ
  pub near : far ≤ c
  pub run : RunAt f b u c far seen
  pub words : word_count layout (records seen) ≡ n
  pub few : n ≤ 8 * (c - b)

module _ {A : Type 0} {records : List A → List Record} {one : A → List Record} (w : Elementwise records one) {f : ℕ → Parser (TriedOf A)} (t : (q : ℕ) → LocalInside (f q)) (v : (q : ℕ) → Consumes (f q)) where
  pub seeking_start : (b : ℕ) (u : List ℕ) → Seeking records f b u b 0
  seeking_start b u = record { seen = []; far = b; near = omega arith; run = iter_start (deep_step f) deeper _ b u; words = ap (word_count layout) w.nothing ∙ word_count_none; few = omega arith }

  module _ {b c c₁ n : ℕ} {u r : List ℕ} {d : Doc} (i : Seeking records f b u c n) (s : Took whitespace0 b u c d c₁) (q : Rest b u c₁ r) where
    -- a turn that finds k words
    pub seeking_more : Nearer f → {k e : ℕ} → TriedTo one f (Ok (k, e)) c₁ r → Seeking records f b u e (n + k) × (c < e)
    unfolding weighed
    seeking_more m {k} {e} h =
        let x = value_as _ (f c₁) c₁ r (record { furthest = c₁; value = k }) e (drop (e - c₁) r) h.reads in
        let o : x.0.furthest ≡ c₁ = ap (λ (y : TriedOf ℕ). y.furthest) x.1.0 in
        let l : word_count layout (one x.0.value) ≡ k = ap (λ (y : TriedOf ℕ). y.value) x.1.0 in
        let j = turn_near t v i.run s q m x.1.1 in (
          record {
            seen = i.seen ++ (x.0.value ∷ []);
            far = j.0;
            near = omega (arith, j.1.0, o, i.near, s.up, j.1.1.1.1);
            run = j.1.1.0;
            words = omega (arith, word_count_more w i.seen x.0.value, i.words, l);
            few = omega (arith, i.few, h.few, s.up, j.1.1.1.1, i.run.from);
          },
          j.1.1.1.0,
        )

    -- the closing brace
    pub seeking_closed : Unclosing f → {e : ℕ} → Took (tag 125) b u c₁ tt e → CountTo records (deep_rest f) (Ok (n, e)) b u
    seeking_closed x {e} k = count_is records (deep_rest f) b u i.seen n e i.words (omega (arith, i.few, s.up, k.up)) (run_closed t v i.run s q x k)

    -- a try that is lost without it
    pub seeking_lost : Nearer f → (l' : Lost) → lost_reply l' ≡ tag 125 c₁ r → {l : Lost} → TriedTo one f (Err l) c₁ r → CountTo records (deep_rest f) (Err l) b u
    unfolding weighed
    seeking_lost m l' o {l} h = count_not records (deep_rest f) b u l (run_lost t v i.run s q m i.near (tag_missing 125 c₁ r l' o) l (lost_as _ (f c₁) c₁ r l h.reads))

-- The braces around them: after the opening one is the rest.

-- the closing one goes on in the text, though a depth less
deep_close_on : (q : ℕ) → Onward (deep_close q)
unfolding deep_close
deep_close_on q = record { onward = λ b u. leaves b u (deep_close q b u) (close_moves (λ (s p : ℕ). max p s) q 0 b u) }

deep_tail_on : {A : Type 0} (f : ℕ → Parser (TriedOf A)) → Onward (deep_run f) → Onward (deep_tail f)
unfolding ◌>>◌
deep_tail_on f w = onward_bind w λ s. onward_bind (deep_close_on s.deepest) λ x. walks (chain_ret s)

pub deep_rest_on : {A : Type 0} (f : ℕ → Parser (TriedOf A)) → Onward (deep_run f) → Onward (deep_rest f)
unfolding deep_rest mapped
deep_rest_on f w = onward_bind (deep_tail_on f w) λ s. walks (chain_ret s.read)

module _ {A : Type 0} (f : ℕ → Parser (TriedOf A)) (b : ℕ) (u : List ℕ) where
  pub deep_unopened : (l : Lost) → lost_reply l ≡ tag 123 b u → lost_reply l ≡ deep_braces f b u
  unfolding deep_braces enclosed
  deep_unopened l e = mapped_not _ _ b u l (begin (enclosed (deep_run f) deep_place) b u (fall _ _ l (rest_self b u) e))

  pub deep_opened : {c : ℕ} → Took (tag 123) b u b tt c → deep_rest f c (drop (c - b) u) ≡ deep_braces f b u
  unfolding deep_braces enclosed deep_rest deep_close deep_place
  deep_opened t = mapped_same (deep_tail f) (enclosed (deep_run f) deep_place) (λ s. s.read) (begin (enclosed (deep_run f) deep_place) b u (on (deep_tail f) t refl))

  pub deep_uncounted : {records : List A → List Record} (l : Lost) → lost_reply l ≡ tag 123 b u → CountTo records (deep_braces f) (Err l) b u
  deep_uncounted {records} l e = count_not records (deep_braces f) b u l (deep_unopened l e)

  pub deep_counted : {records : List A → List Record} → Onward (deep_run f) → {c : ℕ} → Took (tag 123) b u b tt c → {r : List ℕ} → Rest b u c r → (a : Read ℕ) → CountTo records (deep_rest f) a c r → CountTo records (deep_braces f) a b u
  deep_counted {records} w t q a h = count_after records (deep_braces f) (deep_rest f) (deep_rest_on f w) a q (deep_opened t) h
