-- The first pass: counts in a sequence, between braces and over a repetition. They hold for any records.
use Rattle.lexing.specs.declared.answers.LostBy.TheVariants.{Fail, Stop}
use Rattle.std.specs.Prelude.{Ok, Err}
use mathlib.Core.Path.{◌≡◌, refl, sym, ap, ◌∙◌}
use mathlib.Core.List.{List, [], ◌∷◌, ◌++◌}
use Prim.Native.Nat.{ℕ, ◌+◌, ◌-◌, ◌*◌, ◌≤◌, ◌<◌, max}
use native.Mathlib.Omega.{arith}
use lib.ListN.{drop, length-drop}
use Rattle.lexing.specs.reply.{ok, Parser, ◌>>◌, many0, fail, no_nearer}
use Rattle.lexing.specs.words.{tag}
use Rattle.lexing.specs.blanks.{whitespace0}
use Rattle.lexing.specs.answers.{Rest, lost_reply, ReadTo, SkipsAt, Read, Step, Lost}
use Rattle.lexing.proofs.Losses.{by_lost}
use Rattle.lexing.proofs.Onward.{Onward}
use Rattle.lexing.proofs.Locality.{Consumes}
use Rattle.lexing.proofs.Slicing.{Took, took, walks}
use Rattle.lexing.proofs.AnswerLaws.{read_took, read_lost}
use Rattle.lexing.proofs.Repetition.{ManyAt, many_end, many0_start, many0_step, many0_ends}
use Rattle.items.specs.clusters.{mapped}
use Rattle.items.specs.records.{Record}
use Rattle.items.specs.layout.{layout, word_count}
use Rattle.items.specs.answers.{counted, count_end, CountTo, Room}
use Rattle.items.specs.inner.counts.{closed_count, closed_by, Closing, ClosedTo, fail_no_earlier}
use Rattle.items.proofs.Mapped.{mapped_twice, value_as, TookAs, took_as, lost_as, mapped_ok, mapped_not}
use Rattle.items.proofs.RecordWords.{word_count_none, word_count_more}
use Rattle.items.specs.inner.runs.{Elementwise, Repeats}
use Rattle.lexing.proofs.Calm.{calm_then, calm_blanks, calm_tag}
use Rattle.lexing.proofs.steps.Laws.{skips_lost}

-- a count as a step of a sequence: the value, its words, the step, and how few they are
pub record Counted {A : Type 0} (f : A → List Record) (m : Parser A) (b : ℕ) (u : List ℕ) (n k c : ℕ) : Type 0 where
  pub value : A
  pub words : word_count layout (f value) ≡ k
  pub step : Took m b u n value c
  pub few : k ≤ 8 * (c - n)

module _ {A : Type 0} {f : A → List Record} {m : Parser A} where
  pub count_took : (w : Onward m) {b n : ℕ} {u r : List ℕ} {k c : ℕ} → Rest b u n r → CountTo f m (Ok (k, c)) n r → Counted f m b u n k c
  unfolding counted
  count_took w {b} {n} {u} {r} {k} {c} q h =
      let s : TookAs (λ x. word_count layout (f x)) m b u n k c = took_as w q h.reads in
      record { value = s.value; words = s.is; step = s.step; few = h.few }

  pub count_lost : {l : Lost} (n : ℕ) (r : List ℕ) → CountTo f m (Err l) n r → lost_reply l ≡ m n r
  unfolding counted
  count_lost {l} n r h = lost_as (λ x. word_count layout (f x)) m n r l h.reads

-- the ends of a sequence that counts
module _ {A : Type 0} (f : A → List Record) (m : Parser A) (b : ℕ) (u : List ℕ) where
  pub count_is : (a : A) (k c : ℕ) → word_count layout (f a) ≡ k → k ≤ 8 * (c - b) → ok a c (drop (c - b) u) ≡ m b u → CountTo f m (Ok (k, c)) b u
  unfolding counted
  count_is a k c s q e = record { reads = mapped_ok (λ x. word_count layout (f x)) m b u a c (drop (c - b) u) s e; few = q }

  pub count_not : (l : Lost) → lost_reply l ≡ m b u → CountTo f m (Err l) b u
  unfolding counted
  count_not l e = record { reads = mapped_not (λ x. word_count layout (f x)) m b u l e; few = tt }

-- a value of a reader that takes a byte, by the words of its records
pub read_counted : {P A : Type 0} {f : ℕ → List ℕ → P → A} {W : ℕ → P → ℕ → Type 0} {m : Parser A} (records : A → List Record) (w : Consumes m) {p : P} {k c b : ℕ} {u : List ℕ} → ReadTo f W m (Ok (p, c)) b u
    → word_count layout (records (f b u p)) ≡ k → k ≤ 8 → CountTo records m (Ok (k, c)) b u
read_counted {f = f} {m = m} records w {p} {k} {c} {b} {u} h e s =
    let l = rw (← h.reads) at (w.consumes b u) in
    count_is records m b u (f b u p) k c e (omega (arith, s, l, length-drop (c - b) u)) h.reads

-- a loop that counts a repetition
pub record Counting {A : Type 0} (f : List A → List Record) (m : Parser A) (b : ℕ) (u : List ℕ) (c n : ℕ) : Type 0 where
  pub seen : List A
  pub run : ManyAt m b u c seen
  pub words : word_count layout (f seen) ≡ n
  pub few : n ≤ 8 * (c - b)

module _ {A : Type 0} {f : List A → List Record} {one : A → List Record} (w : Elementwise f one) (m : Parser A) where
  pub counting_start : (b : ℕ) (u : List ℕ) → Counting f m b u b 0
  counting_start b u = record { seen = []; run = many0_start m b u; words = ap (word_count layout) w.nothing ∙ word_count_none; few = omega arith }

  -- a turn that reads an element of k words
  pub counting_more : Consumes m → {b c n d k : ℕ} {u : List ℕ} (a : A) → Counting f m b u c n → Took m b u c a d → word_count layout (one a) ≡ k → (c < d → k ≤ 8 * (d - c)) → Counting f m b u d (n + k) × (c < d)
  counting_more v {b} {c} {n} {d} {k} {u} a i t e q =
      let s = many0_step v i.run t in (
        record {
          seen = i.seen ++ (a ∷ []);
          run = s.0;
          words = omega (arith, word_count_more w i.seen a, i.words, e);
          few = omega (arith, i.few, q s.1, s.1, i.run.from);
        },
        s.1,
      )

ended : {A : Type 0} (f : List A → List Record) (m : Parser A) (b c : ℕ) (u : List ℕ) (l : List A) (x : Lost) → word_count layout (f l) ≤ 8 * (c - b) → many0 m b u ≡ many_end x l c (drop (c - b) u) → CountTo f (many0 m) (count_end x (word_count layout (f l)) c) b u
ended f m b c u l x q =
    by_lost
    (λ x. many0 m b u ≡ many_end x l c (drop (c - b) u) → CountTo f (many0 m) (count_end x (word_count layout (f l)) c) b u)
    (λ p e. count_is f (many0 m) b u l (word_count layout (f l)) c refl q (sym e))
    (λ k p e. count_not f (many0 m) b u (Stop k p) (sym e))
    x

pub counting_ends : {A : Type 0} {f : List A → List Record} {m : Parser A} (w : Consumes m) {b c n : ℕ} {u r : List ℕ} {t : Read ℕ} (x : Lost) → Counting f m b u c n → Rest b u c r → lost_reply x ≡ m c r → t ≡ count_end x n c → CountTo f (many0 m) t b u
counting_ends {A} {f} {m} w {b} {c} {n} {u} {r} {t} x i q e d =
    rw (d, ← i.words) (ended f m b c u i.seen x (omega (arith, i.words, i.few)) (many0_ends w x i.run q e))

-- the count of what a function makes of a value
pub count_mapped : {A B : Type 0} (records : B → List Record) (g : A → B) {m : Parser A} {r : Read ℕ} {b : ℕ} {u : List ℕ} → CountTo (λ a. records (g a)) m r b u → CountTo records (mapped m g) r b u
unfolding counted
count_mapped records g {m} {b = b} {u = u} h = record { reads = h.reads ∙ mapped_twice m g (λ x. word_count layout (records x)) b u; few = h.few }

-- the value that was counted, on the part itself
pub record CountedValue {A : Type 0} (f : A → List Record) (m : Parser A) (b : ℕ) (u : List ℕ) (n c : ℕ) : Type 0 where
  pub value : A
  pub words : word_count layout (f value) ≡ n
  pub is : ok value c (drop (c - b) u) ≡ m b u

pub count_value : {A : Type 0} (f : A → List Record) (m : Parser A) (b : ℕ) (u : List ℕ) (n c : ℕ) → CountTo f m (Ok (n, c)) b u → CountedValue f m b u n c
unfolding counted
count_value f m b u n c h = let s = value_as (λ x. word_count layout (f x)) m b u n c (drop (c - b) u) h.reads in record { value = s.0; words = s.1.0; is = s.1.1 }

-- what is counted has room where its words fit, and ends after its start
pub count_room : {A : Type 0} {f : A → List Record} {m : Parser A} {b n c at k : ℕ} {u : List ℕ} → CountTo f m (Ok (n, c)) b u → at + 8 * n ≤ k → Room f m b u at k
count_room {f = f} {m = m} {b = b} {n = n} {c = c} {u = u} h l = let s = count_value f m b u n c h in record { value = s.value; next = c; is = s.is; fits = omega (arith, s.words, l) }

-- a count that ends a sequence
pub count_after : {A : Type 0} (f : A → List Record) (m k : Parser A) → Onward k → (r : Read ℕ) {b n : ℕ} {u v : List ℕ} → Rest b u n v → k n (drop (n - b) u) ≡ m b u → CountTo f k r n v → CountTo f m r b u
count_after f m k w (Ok (i, c)) {b} {n} {u} {v} q e h =
    let s = count_value f k n v i c h in
    let t = took w q s.is in
    count_is f m b u s.value i c s.words (omega (arith, h.few, q.from, t.up)) (sym t.goes ∙ e)
count_after f m k w (Err l) {b} {n} {u} {v} q e h = count_not f m b u l (count_lost n v h ∙ (ap (k n) q.same ∙ e))

-- a closing brace never stops, so what is lost at it is handed on as it is
pub closed_is_lost : (n : ℕ) (l : Lost) {b : ℕ} {u : List ℕ} {c : ℕ} → SkipsAt (whitespace0 >> tag 125) (Err l) b u c → Err l ≡ closed_by n (Err l)
closed_is_lost n (Fail p) h = refl
closed_is_lost n (Stop i p) {b} {u} {c} h = absurd (rw (← skips_lost h) at ((calm_then calm_blanks (calm_tag 125)).runs c (drop (c - b) u)))

-- so where a refusal ends all reading, what the brace answers is handed on
pub closed_is_count : (n : ℕ) (k : Step) {b : ℕ} {u : List ℕ} {c : ℕ} → SkipsAt (whitespace0 >> tag 125) k b u c → closed_by n k ≡ closed_count n k
closed_is_count n (Ok d) h = refl
closed_is_count n (Err l) h = sym (closed_is_lost n l h)

-- The ways of a count that the closing brace follows.
module _ {n c b : ℕ} {u : List ℕ} where
  pub closed_lost : {l : Lost} → SkipsAt (whitespace0 >> tag 125) (Err l) b u c → ClosedTo (Ok (n, c)) (Err l) b u
  closed_lost {l} h = record { close = Err l; skips = h; is = closed_is_lost n l h }

  pub closed_is : {R : Type 0} {d : ℕ} → SkipsAt (whitespace0 >> tag 125) (Ok d) b u c → ClosedTo {R = R} (Ok (n, c)) (Ok (n, d)) b u
  closed_is {d = d} h = record { close = Ok d; skips = h; is = refl }

  pub closing_count : {r : Read ℕ} (h : Closing n c r b u) → r ≡ closed_count n h.close
  closing_count h = h.is ∙ closed_is_count n h.close h.skips

-- a count that is raised
pub count_no_earlier : {A : Type 0} (f : A → List Record) (m k : Parser A) (q : ℕ) (r : Read ℕ) (b : ℕ) (u : List ℕ) → CountTo f m r b u → k b u ≡ no_nearer q (m b u) → CountTo f k (fail_no_earlier r q) b u
unfolding no_nearer
count_no_earlier f m k q (Ok (n, c)) b u h e =
    let s = count_value f m b u n c h in
    count_is f k b u s.value n c s.words h.few (sym (e ∙ ap (no_nearer q) (sym s.is)))
count_no_earlier f m k q (Err l) b u h e =
    by_lost
    (λ l. lost_reply l ≡ m b u → CountTo f k (fail_no_earlier (Err l) q) b u)
    (λ p h. let z : max p q ≡ max q p = omega arith in count_not f k b u (Fail (max p q)) (ap fail z ∙ sym (e ∙ ap (no_nearer q) (sym h))))
    (λ n p h. count_not f k b u (Stop n p) (sym (e ∙ ap (no_nearer q) (sym h))))
    l
    (count_lost b u h)

-- A loop over elements: a turn counts one, or ends it.
module _ {P A : Type 0} {all : List A → List Record} {one : A → List Record} {m : Parser A} {f : ℕ → List ℕ → P → A} {W : List ℕ → ℕ → P → ℕ → Type 0} {size : P → ℕ} (e : Repeats all one m f W size) {b c n : ℕ} {u r : List ℕ} (i : Counting all m b u c n) (q : Rest b u c r) where
  pub run_more : {p : P} {d : ℕ} → ReadTo f (W r) m (Ok (p, d)) c r → Counting all m b u d (n + size p) × (c < d)
  run_more {p} {d} h = counting_more e.elementwise m e.takes (f c r p) i (read_took h (walks e.chain) q) (e.words c d r p h.within) (e.few c d r p h.within)

  pub run_ends : {l : Lost} {t : Read ℕ} → ReadTo f (W r) m (Err l) c r → t ≡ count_end l n c → CountTo all (many0 m) t b u
  run_ends {l} h d = counting_ends e.takes l i q (read_lost h) d
