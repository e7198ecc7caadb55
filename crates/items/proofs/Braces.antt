-- What is between braces: one law for each way through.
use Rattle.lexing.specs.declared.answers.LostBy.TheVariants.{Fail, Stop}
use Rattle.std.specs.Prelude.{Ok, Err, Result}
use mathlib.Core.Path.{◌≡◌, refl, sym, ap, ◌∙◌}
use mathlib.Core.List.{List}
use Prim.Native.Nat.{ℕ, ◌-◌}
use native.Mathlib.Omega.{arith}
use lib.ListN.{length, drop}
use Rattle.lexing.specs.reply.{Reply, ok, fail, stop, Parser, ret, ◌>>=◌, ◌>>◌, catch, fail_at}
use Rattle.lexing.specs.words.{tag}
use Rattle.lexing.specs.blanks.{Doc, whitespace0}
use Rattle.lexing.specs.answers.{Rest, lost_reply, SkipsAt, on_lost, Read, Lost}
use Rattle.lexing.proofs.Losses.{by_lost}
use Rattle.lexing.proofs.Runs.{suf_length}
use Rattle.lexing.proofs.Chain.{MovesTo, to_suf}
use Rattle.lexing.proofs.Onward.{Ends, Onward}
use Rattle.lexing.proofs.Slicing.{Took, took, begin, go, on, lose, fall, done, rest_self, rest_from, suf_drop}
use Rattle.items.specs.entries.{enclosed, where_missing, braces}
use Rattle.items.specs.records.{Record}
use Rattle.items.specs.answers.{CountTo, Room, Written}
use Rattle.items.specs.inner.counts.{EndsIn, closed_count, ClosedTo}
use Rattle.items.specs.declared.writing.Wrote.{Wrote}
use Rattle.items.proofs.Locality.{close_moves}
use Rattle.lexing.proofs.steps.Laws.{tag_after_took, skips_lost}
use Rattle.items.proofs.counts.Laws.{Counted, count_took, count_lost, count_is, count_not, closing_count}
use Rattle.items.proofs.writing.Laws.{no_room, written_took}

-- what is lost, where a failure is caught
abbrev pub caught : {A : Type 0} → (ℕ → Parser A) → Lost → Parser A
caught h l b u = on_lost (λ p. h p b u) (λ n p. stop n p) l

-- an accepted reply is none that is lost
pub lost_not : {A : Type 0} {a : A} {c : ℕ} {r : List ℕ} {m : Reply A} → ok a c r ≡ m → (l : Lost) → lost_reply l ≡ m → ⊥
lost_not {m = m} h =
    by_lost
    (λ l. lost_reply l ≡ m → ⊥)
    (λ p e. let z = h ∙ sym e in let y : ◌≡◌ {A = ℕ} 0 1 = cc in omega arith)
    (λ n p e. let z = h ∙ sym e in let y : ◌≡◌ {A = ℕ} 0 1 = cc in omega arith)

-- and none that ends all reading
pub ok_no_stop : {A : Type 0} {a : A} {c n p : ℕ} {r : List ℕ} {m : Reply A} → ok a c r ≡ m → stop n p ≡ m → ⊥
ok_no_stop h e = let z = h ∙ sym e in let y : ◌≡◌ {A = ℕ} 0 1 = cc in omega arith

-- the closing brace after blanks
closing_took : (h : ℕ → Parser (Unit {0})) {b n : ℕ} {u : List ℕ} {v : Unit {0}} {e : ℕ} → Took (whitespace0 >> tag 125) b u n v e → Took (catch (whitespace0 >> tag 125) h) b u n v e
unfolding catch
closing_took h t = record { goes = rw (t.goes, catch) refl; up = t.up; inside = t.inside }

-- lost, by what is done where it fails
closing_caught : (h : ℕ → Parser (Unit {0})) (l : Lost) (n : ℕ) (r : List ℕ) → lost_reply l ≡ (whitespace0 >> tag 125) n r → caught h l n r ≡ catch (whitespace0 >> tag 125) h n r
unfolding catch
closing_caught h l n r =
    by_lost (λ l. lost_reply l ≡ (whitespace0 >> tag 125) n r → caught h l n r ≡ catch (whitespace0 >> tag 125) h n r) (λ p q. rw (sym q, catch) refl) (λ i p q. rw (sym q, catch) refl) l

closing_lost : {S : Type 0} (x : S) (l : Lost) (n : ℕ) (r : List ℕ) → lost_reply l ≡ (whitespace0 >> tag 125) n r → lost_reply l ≡ catch (whitespace0 >> tag 125) (λ p. fail_at (where_missing x p)) n r
unfolding fail_at where_missing
closing_lost x l n r =
    by_lost
    (λ l. lost_reply l ≡ (whitespace0 >> tag 125) n r → lost_reply l ≡ catch (whitespace0 >> tag 125) (λ p. fail_at (where_missing x p)) n r)
    (λ p q. closing_caught (λ p. fail_at (where_missing x p)) (Fail p) n r q)
    (λ i p q. closing_caught (λ p. fail_at (where_missing x p)) (Stop i p) n r q)
    l

-- the same where the blanks were read before
module _ {b n : ℕ} {u : List ℕ} {d : Doc} {c : ℕ} (t : Took whitespace0 b u n d c) where
  both_took : {e : ℕ} → Took (tag 125) b u c tt e → Took (whitespace0 >> tag 125) b u n tt e
  both_took s = record { goes = sym (on (tag 125) t (sym s.goes)); up = omega (arith, t.up, s.up); inside = s.inside }

  both_lost : (l : Lost) {r : List ℕ} → Rest b u c r → lost_reply l ≡ tag 125 c r → lost_reply l ≡ (whitespace0 >> tag 125) n (drop (n - b) u)
  both_lost l z e = on (tag 125) t (e ∙ ap (tag 125 c) z.same)

  pub close_took : (h : ℕ → Parser (Unit {0})) {e : ℕ} → Took (tag 125) b u c tt e → Took (catch (whitespace0 >> tag 125) h) b u n tt e
  close_took h s = closing_took h (both_took s)

  pub close_caught : (h : ℕ → Parser (Unit {0})) (l : Lost) {r : List ℕ} → Rest b u c r → lost_reply l ≡ tag 125 c r → caught h l n (drop (n - b) u) ≡ catch (whitespace0 >> tag 125) h n (drop (n - b) u)
  close_caught h l z e = closing_caught h l n (drop (n - b) u) (both_lost l z e)

  pub close_lost : {S : Type 0} (x : S) (l : Lost) {r : List ℕ} → Rest b u c r → lost_reply l ≡ tag 125 c r → lost_reply l ≡ catch (whitespace0 >> tag 125) (λ p. fail_at (where_missing x p)) n (drop (n - b) u)
  close_lost x l z e = closing_lost x l n (drop (n - b) u) (both_lost l z e)

module _ {A : Type 0} (m : Parser A) (b : ℕ) (u : List ℕ) where
  -- no opening brace
  pub braces_unopened : (l : Lost) → lost_reply l ≡ tag 123 b u → lost_reply l ≡ braces m b u
  unfolding braces enclosed
  braces_unopened l e = begin (braces m) b u (fall _ _ l (rest_self b u) e)

  module _ {c₁ : ℕ} (t₁ : Took (tag 123) b u b tt c₁) where
    -- what is between them is lost
    pub braces_lost : (l : Lost) {r : List ℕ} → Rest b u c₁ r → lost_reply l ≡ m c₁ r → lost_reply l ≡ braces m b u
    unfolding braces enclosed
    braces_lost l q e = begin (braces m) b u (on _ t₁ (lose _ _ l q e))

    module _ {a : A} {c₂ : ℕ} (t₂ : Took m b u c₁ a c₂) where
      -- no closing brace
      braces_unclosed : (l : Lost) → lost_reply l ≡ (whitespace0 >> tag 125) c₂ (drop (c₂ - b) u) → lost_reply l ≡ braces m b u
      unfolding braces enclosed
      braces_unclosed l e = begin (braces m) b u (on _ t₁ (go _ t₂ (fall _ _ l (rest_from b c₂ u (omega (arith, t₁.up, t₂.up)) t₂.inside) (closing_lost a l c₂ (drop (c₂ - b) u) e))))

      braces_read : {v : Unit {0}} {c : ℕ} → Took (whitespace0 >> tag 125) b u c₂ v c → ok a c (drop (c - b) u) ≡ braces m b u
      unfolding braces enclosed
      braces_read {v} {c} t = begin (braces m) b u (on _ t₁ (go _ t₂ (on _ (closing_took _ t) (done a b c u))))

-- a sequence that was read, taken apart
pub record Step {A B : Type 0} (m : Parser A) (k : A → Parser B) (v : B) (e : ℕ) (s : List ℕ) (c : ℕ) (r : List ℕ) : Type 0 where
  pub value : A
  pub next : ℕ
  pub is : ok value next (drop (next - c) r) ≡ m c r
  pub then : ok v e s ≡ k value next (drop (next - c) r)

pub rest_is : {A : Type 0} {m : Parser A} (w : Onward m) (c d : ℕ) (r t : List ℕ) (a : A) → m c r ≡ ok a d t → t ≡ drop (d - c) r
rest_is w c d r t a e =
    let p = rw e at (w.onward c r) in
    let z : length r - length t ≡ d - c = omega (arith, p.1, suf_length p.0) in
    suf_drop p.0 ∙ ap (λ (n : ℕ). drop n r) z

pub taken : {A B : Type 0} (m : Parser A) (k : A → Parser B) → Onward m → (v : B) (e : ℕ) (s : List ℕ) (c : ℕ) (r : List ℕ) → ok v e s ≡ (m >>= k) c r → Step m k v e s c r
unfolding ◌>>=◌
taken {A} {B} m k w v e s c r h = go (m c r) refl
  where
    go : (x : Reply A) → m c r ≡ x → Step m k v e s c r
    go (ok a d t) z =
        let y = rest_is w c d r t a z in
        let i : ok v e s ≡ k a d t = rw (z, ◌>>=◌) at h in
        record { value = a; next = d; is = rw (← y) (sym z); then = rw (← y) i }
    go (fail p) z = let i : ok v e s ≡ fail p = rw (z, ◌>>=◌) at h in let y : ◌≡◌ {A = ℕ} 0 1 = cc in absurd (omega arith)
    go (stop n p) z = let i : ok v e s ≡ stop n p = rw (z, ◌>>=◌) at h in let y : ◌≡◌ {A = ℕ} 0 1 = cc in absurd (omega arith)

-- the value after a step that is dropped
pub then_value : {A B : Type 0} (m : Parser A) (b : B) (v : B) (e : ℕ) (s : List ℕ) (c : ℕ) (r : List ℕ) → ok v e s ≡ (m >> ret b) c r → v ≡ b
unfolding ◌>>◌ ◌>>=◌ ret
then_value {A} m b v e s c r h = go (m c r) refl
  where
    go : (x : Reply A) → m c r ≡ x → v ≡ b
    go (ok a d t) z = let i : ok v e s ≡ ok b d t = rw (z, ◌>>◌, ◌>>=◌) at h in cc
    go (fail p) z = let i : ok v e s ≡ fail p = rw (z, ◌>>◌, ◌>>=◌) at h in let y : ◌≡◌ {A = ℕ} 0 1 = cc in absurd (omega arith)
    go (stop n p) z = let i : ok v e s ≡ stop n p = rw (z, ◌>>◌, ◌>>=◌) at h in let y : ◌≡◌ {A = ℕ} 0 1 = cc in absurd (omega arith)

-- what follows a step
pub follows : {A B : Type 0} {m : Parser A} (k : Parser B) {X : Reply B} {b : ℕ} {u : List ℕ} {n : ℕ} {a : A} {c : ℕ} → Took m b u n a c → X ≡ (m >> k) n (drop (n - b) u) → X ≡ k c (drop (c - b) u)
unfolding ◌>>◌ ◌>>=◌
follows k t e = rw (t.goes, ◌>>◌, ◌>>=◌) at e

pub follows_with : {A B : Type 0} {m : Parser A} (k : A → Parser B) {X : Reply B} {b : ℕ} {u : List ℕ} {n : ℕ} {a : A} {c : ℕ} → Took m b u n a c → X ≡ (m >>= k) n (drop (n - b) u) → X ≡ k a c (drop (c - b) u)
unfolding ◌>>=◌
follows_with k t e = rw (t.goes, ◌>>=◌) at e

pub leaves : {A : Type 0} (b : ℕ) (u : List ℕ) (x : Reply A) → MovesTo 1 0 b u x → Ends b u x
leaves b u (ok a c r) p = (to_suf p.0, p.1)
leaves b u (fail p) q = tt
leaves b u (stop n p) q = tt

pub close_on : {S : Type 0} (x : S) → Onward (catch (whitespace0 >> tag 125) (λ p. fail_at (where_missing x p)))
close_on x = record { onward = λ b u. leaves b u (catch (whitespace0 >> tag 125) (λ p. fail_at (where_missing x p)) b u) (close_moves where_missing x 0 b u) }

-- after the opening brace
module _ {A : Type 0} {m : Parser A} (w : Onward m) {b : ℕ} {u : List ℕ} {c : ℕ} (t : Took (tag 123) b u b tt c) {r : List ℕ} (q : Rest b u c r) where
  pub opened_room : {records : A → List Record} {p n : ℕ} → Room records (tag 123 >> m) b u p n → Room records m c r p n
  opened_room room =
      let y : ok room.value room.next (drop (room.next - b) u) ≡ (tag 123 >> m) b (drop (b - b) u) = room.is ∙ ap ((tag 123 >> m) b) (rest_self b u).same in
      let x = follows m t y in
      let s = rest_is w c room.next (drop (c - b) u) (drop (room.next - b) u) room.value (sym x) in
      record { value = room.value; next = room.next; is = rw q.same (rw (← s) x); fits = room.fits }

  pub opened_is : {a : A} {d : ℕ} → ok a d (drop (d - c) r) ≡ m c r → ok a d (drop (d - b) u) ≡ (tag 123 >> m) b u
  opened_is e = begin (tag 123 >> m) b u (on m t (sym (took w q e).goes))

-- the second pass between braces
module _ {A : Type 0} {records : A → List Record} (m : Parser A) {b : ℕ} {u : List ℕ} {p n : ℕ} (room : Room records (braces m) b u p n) where
  pub braces_open : (l : Lost) → lost_reply l ≡ tag 123 b u → ⊥
  braces_open l e = no_room room l (braces_unopened m b u l e)

  module _ (w : Onward m) {c₁ : ℕ} (t₁ : Took (tag 123) b u b tt c₁) {r : List ℕ} (q : Rest b u c₁ r) where
    pub braces_room : Room records m c₁ r p n
    unfolding braces enclosed
    braces_room =
        let close : A → Parser A = λ a. catch (whitespace0 >> tag 125) (λ p. fail_at (where_missing a p)) >> ret a in
        let v = room.value in
        let s = drop (room.next - b) u in
        let y : ok v room.next s ≡ (tag 123 >> (m >>= close)) b (drop (b - b) u) = room.is ∙ ap (braces m b) (rest_self b u).same in
        let x = taken m close w v room.next s c₁ (drop (c₁ - b) u) (follows (m >>= close) t₁ y) in
        let z = then_value (catch (whitespace0 >> tag 125) (λ p. fail_at (where_missing x.value p))) x.value v room.next s x.next (drop (x.next - c₁) (drop (c₁ - b) u)) x.then in
        record { value = x.value; next = x.next; is = rw q.same x.is; fits = rw (← z) room.fits }

    -- no closing brace
    pub braces_close : {o : Wrote} {old new : List ℕ} (h : Written records m c₁ r p o old new) (l : Lost) → lost_reply l ≡ (whitespace0 >> tag 125) o.next (drop (o.next - b) u) → ⊥
    braces_close h l e = no_room room l (braces_unclosed m b u t₁ (written_took w q h) l e)

    pub braces_written : {o : Wrote} {old new : List ℕ} (h : Written records m c₁ r p o old new) {v : Unit {0}} {c : ℕ} → Took (whitespace0 >> tag 125) b u o.next v c → Written records (braces m) b u p (record { next = c; to = o.to }) old new
    braces_written h t = record { value = h.value; is = braces_read m b u t₁ (written_took w q h) t; place = h.place; bytes = h.bytes }

-- The first pass: what was counted between them.
module _ {A : Type 0} {f : A → List Record} {m : Parser A} (w : Onward m) {b : ℕ} {u : List ℕ} {c : ℕ} (t : Took (tag 123) b u b tt c) {r : List ℕ} (q : Rest b u c r) where
  pub run_inside : (a : Read ℕ) → CountTo f m a c r → EndsIn a b u
  run_inside (Ok (n, e)) h = let k = count_took w q h in omega (arith, t.up, k.step.up, k.step.inside)
  run_inside (Err l) h = tt

  pub braces_counted : (a x : Read ℕ) → CountTo f m a c r → ClosedTo a x b u → CountTo f (braces m) x b u
  braces_counted (Err l) x h e = rw e (count_not f (braces m) b u l (braces_lost m b u t l q (count_lost c r h)))
  braces_counted (Ok (n, e)) x h g = rw (closing_count g) (go g.close g.skips)
    where
      k : Counted f m b u c n e
      k = count_took w q h

      go : (y : Result ℕ Lost) → SkipsAt (whitespace0 >> tag 125) y b u e → CountTo f (braces m) (closed_count n y) b u
      go (Ok d) s = let z = tag_after_took 125 s in count_is f (braces m) b u k.value n d k.words (omega (arith, k.few, k.step.up, t.up, z.up)) (braces_read m b u t k.step z)
      go (Err l) s = count_not f (braces m) b u l (braces_unclosed m b u t k.step l (skips_lost s))
