-- What a reader's answer gives its caller: the rest of the part to go on with, and one law for each step of a sequence of parsers.
use mathlib.Core.Path.{◌≡◌, refl, sym, ap, ◌∙◌}
use mathlib.Core.List.{List}
use Prim.Native.Nat.{ℕ, suc, ◌+◌, ◌-◌, ◌≤◌}
use native.Mathlib.Omega.{arith}
use lib.ListN.{length, drop, take, length-drop}
use lib.Seq.{take_all, drop-drop}
use Rattle.lexing.specs.reply.{Reply, ok, fail, stop, Parser, ret, ◌>>=◌, ◌>>◌, ◌or◌, no_nearer}
use Rattle.lexing.specs.words.{parse_id, keyword, tag}
use Rattle.lexing.specs.integers.{positive_integer}
use Rattle.lexing.specs.blanks.{whitespace0}
use Rattle.lexing.specs.strings.{Escape, string_with}
use Rattle.lexing.specs.word_sets.{set_flags}
use Rattle.lexing.specs.answers.{lost_reply, reply, step_answer, Rest, doc_of, word_at, span_to, tag_reply, word_reply, number_reply, string_reply, BlankTo, set_of, WordSetTo, Lost}
use Rattle.lexing.proofs.Losses.{by_lost}
use Rattle.std.specs.Prelude.{Ok}
use Rattle.lexing.specs.declared.blanks.Blank.{Blank}
use Rattle.lexing.specs.declared.word_sets.KeywordSet.{KeywordSet}
use Rattle.lexing.specs.declared.word_sets.WordSet.{WordSet}
use Rattle.lexing.proofs.Runs.{Suf, same, skip, suf_length}
use Rattle.lexing.proofs.Onward.{Ends, Onward, advances_onward, parse_id_advances, tag_advances, integer_advances, string_advances}
use Rattle.lexing.proofs.Chain.{Moves, to_suf}
use Rattle.lexing.proofs.Locality.{OnChain}
use Rattle.lexing.proofs.TokenLocality.{whitespace0_chain, keyword_chain, set_flags_chain}

-- parts
pub rest_all : (n : ℕ) (u : List ℕ) → take (length u - n) (drop n u) ≡ drop n u
rest_all n u = take_all (length u - n) (drop n u) (rw length-drop (omega arith))

pub rest_from : (b c : ℕ) (u : List ℕ) → b ≤ c → c ≤ b + length u → Rest b u c (drop (c - b) u)
rest_from b c u h k = record { from = h; same = refl; size = rw length-drop (omega arith) }

pub rest_of : (b c : ℕ) (u : List ℕ) → b ≤ c → c ≤ b + length u → Rest b u c (take (length u - (c - b)) (drop (c - b) u))
rest_of b c u h k = rw (rest_all (c - b) u) (rest_from b c u h k)

pub rest_self : (b : ℕ) (u : List ℕ) → Rest b u b u
rest_self b u = let z : b - b ≡ 0 = omega arith in record { from = omega arith; same = rw z; size = refl }

-- an answer that counts from c, seen from b
pub rebase : (b c e : ℕ) (u : List ℕ) → b ≤ c → c ≤ e → drop (e - c) (drop (c - b) u) ≡ drop (e - b) u
rebase b c e u h k = let z : c - b + (e - c) ≡ e - b = omega arith in drop-drop (e - c) (c - b) u ∙ ap (λ n. drop n u) z

pub suf_drop : {r u : List ℕ} → Suf r u → r ≡ drop (length u - length r) u
suf_drop {r} same = let z : length r - length r ≡ 0 = omega arith in rw z
suf_drop {r} (skip x {u = u} s) =
    let z : suc (length u) - length r ≡ suc (length u - length r) = omega (arith, suf_length s) in
    rw z (suf_drop s)

-- a step of a sequence that is at offset n of a part that starts at b, and goes on to c
pub record Took {A : Type 0} (m : Parser A) (b : ℕ) (u : List ℕ) (n : ℕ) (a : A) (c : ℕ) : Type 0 where
  pub goes : m n (drop (n - b) u) ≡ ok a c (drop (c - b) u)
  pub up : n ≤ c
  pub inside : c ≤ b + length u

moves_on : {A : Type 0} (b : ℕ) (u : List ℕ) (x : Reply A) → Moves 0 b u x → Ends b u x
moves_on b u (ok a c r) p = (to_suf p.0, p.1)
moves_on b u (fail p) q = tt
moves_on b u (stop n p) q = tt

pub walks : {A : Type 0} {m : Parser A} → OnChain m → Onward m
walks {A} {m} w = record { onward = λ b u. moves_on b u (m b u) (w.chain 0 b u) }

reach : {A : Type 0} {m : Parser A} (w : Onward m) (b c : ℕ) (u r : List ℕ) (a : A) → ok a c r ≡ m b u → (b ≤ c) × (c + length r ≡ b + length u)
reach w b c u r a e = let p = rw (← e) at (w.onward b u) in omega (arith, p.1, suf_length p.0)

pub took : {A : Type 0} {m : Parser A} (w : Onward m) {b n : ℕ} {u r : List ℕ} {a : A} {c : ℕ} → Rest b u n r → ok a c (drop (c - n) r) ≡ m n r → Took m b u n a c
took {A} {m} w {b} {n} {u} {r} {a} {c} q e =
    let p = reach w n c r (drop (c - n) r) a e in
    record {
      goes = rw (← q.same, ← e) (ap (λ v. ok a c v) (ap (drop (c - n)) q.same ∙ rebase b n c u q.from p.0));
      up = p.0;
      inside = omega (arith, p.0, p.1, q.size);
    }

-- the same on the part itself
pub reads_in : {A : Type 0} {m : Parser A} (w : Onward m) (b c : ℕ) (u : List ℕ) (a : A) → ok a c (drop (c - b) u) ≡ m b u → (b ≤ c) × (c ≤ b + length u)
reads_in w b c u a e = let p = reach w b c u (drop (c - b) u) a e in omega (arith, p.0, p.1)

-- sequences: one law for each step; `_` for what follows
module _ {A B : Type 0} {m : Parser A} {b : ℕ} {u : List ℕ} {n : ℕ} where
  pub go : (k : A → Parser B) {X : Reply B} {a : A} {c : ℕ} → Took m b u n a c → X ≡ k a c (drop (c - b) u) → X ≡ (m >>= k) n (drop (n - b) u)
  unfolding ◌>>=◌
  go k t e = rw (t.goes, ◌>>=◌) e

  pub on : (k : Parser B) {X : Reply B} {a : A} {c : ℕ} → Took m b u n a c → X ≡ k c (drop (c - b) u) → X ≡ (m >> k) n (drop (n - b) u)
  unfolding ◌>>=◌ ◌>>◌
  on k t e = rw (t.goes, ◌>>◌, ◌>>=◌) e

lose_at : {A B : Type 0} (m : Parser A) (k : A → Parser B) (n : ℕ) (r : List ℕ) (l : Lost) → m n r ≡ lost_reply l → lost_reply l ≡ (m >>= k) n r
unfolding ◌>>=◌
lose_at m k n r = by_lost (λ l. m n r ≡ lost_reply l → lost_reply l ≡ (m >>= k) n r) (λ p e. rw (e, ◌>>=◌)) (λ i p e. rw (e, ◌>>=◌))

-- the step that is lost, and so the whole
pub lose : {A B : Type 0} (m : Parser A) (k : A → Parser B) {b n : ℕ} {u r : List ℕ} (l : Lost) → Rest b u n r → lost_reply l ≡ m n r → lost_reply l ≡ (m >>= k) n (drop (n - b) u)
lose m k {b} {n} {u} l q e = lose_at m k n (drop (n - b) u) l (ap (m n) (sym q.same) ∙ sym e)

pub fall : {A B : Type 0} (m : Parser A) (k : Parser B) {b n : ℕ} {u r : List ℕ} (l : Lost) → Rest b u n r → lost_reply l ≡ m n r → lost_reply l ≡ (m >> k) n (drop (n - b) u)
unfolding ◌>>◌
fall m k l q e = lose m (λ a. k) l q e

-- a sequence starts at the part's own offset
pub begin : {A : Type 0} (m : Parser A) {X : Reply A} (b : ℕ) (u : List ℕ) → X ≡ m b (drop (b - b) u) → X ≡ m b u
begin m b u e = let z : b - b ≡ 0 = omega arith in rw z at e

-- the steps of tokens, taken
module _ {b n : ℕ} {u r : List ℕ} (q : Rest b u n r) where
  pub blank_took : {t : Blank} → BlankTo t n r → Took whitespace0 b u n (doc_of t.doc) t.next
  blank_took h = took (walks whitespace0_chain) q h.reads

  pub set_took : {k : KeywordSet} {t : WordSet} → WordSetTo t k n r → Took (set_flags (set_of k)) b u n t.flags t.next
  set_took {k} h = took (walks (set_flags_chain (set_of k))) q h.reads

  module _ {c : ℕ} where
    -- a Step whose value is computed from the offsets
    step_took : {A : Type 0} {m : Parser A} (f : ℕ → A) → Onward m → reply (step_answer f (Ok c)) n r ≡ m n r → Took m b u n (f c) c
    step_took f w h = took w q h

    pub tag_took : (t : ℕ) → tag_reply (Ok c) n r ≡ tag t n r → Took (tag t) b u n tt c
    tag_took t h = step_took (λ c. tt) (advances_onward (tag_advances t)) h

    pub word_took : word_reply (Ok c) n r ≡ parse_id n r → Took parse_id b u n (word_at n (drop (n - b) u) c) c
    word_took h = rw (← q.same) (step_took (word_at n r) (advances_onward parse_id_advances) h)

    pub keyword_took : (k : List ℕ) → word_reply (Ok c) n r ≡ keyword k n r → Took (keyword k) b u n (word_at n (drop (n - b) u) c) c
    keyword_took k h = rw (← q.same) (step_took (word_at n r) (walks (keyword_chain k)) h)

    pub string_took : (f : ℕ → Escape) → string_reply (Ok c) n r ≡ string_with f n r → Took (string_with f) b u n (span_to n c) c
    string_took f h = step_took (span_to n) (advances_onward (string_advances f)) h

  pub integer_took : {v c : ℕ} → number_reply (Ok (v, c)) n r ≡ positive_integer n r → Took positive_integer b u n v c
  integer_took h = took (advances_onward integer_advances) q h

-- the end of a sequence
pub ret_is : {A : Type 0} (a : A) (b : ℕ) (u : List ℕ) → ret a b u ≡ ok a b u
unfolding ret
ret_is a b u = refl

pub done : {A : Type 0} (a : A) (b c : ℕ) (u : List ℕ) → ok a c (drop (c - b) u) ≡ ret a c (drop (c - b) u)
unfolding ret
done a b c u = refl

-- a choice, where the answer is a value
pub or_here : {A : Type 0} (m k : Parser A) (b : ℕ) (u : List ℕ) (a : A) (c : ℕ) (r : List ℕ) → ok a c r ≡ m b u → ok a c r ≡ (m or k) b u
unfolding ◌or◌
or_here m k b u a c r e = rw (sym e, ◌or◌)

pub or_next : {A : Type 0} (m k : Parser A) (b : ℕ) (u : List ℕ) (p : ℕ) (a : A) (c : ℕ) (r : List ℕ) → fail p ≡ m b u → ok a c r ≡ k b u → ok a c r ≡ (m or k) b u
unfolding ◌or◌ no_nearer
or_next m k b u p a c r d e = rw (sym d, ◌or◌) (rw (← e))
