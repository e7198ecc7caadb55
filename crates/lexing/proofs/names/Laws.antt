-- Names and codes as steps of a sequence.
use mathlib.Core.Path.{◌≡◌, refl, sym, ap, ◌∙◌}
use mathlib.Core.List.{List}
use Prim.Native.Nat.{ℕ, ◌-◌, ◌≤◌, ◌<◌}
use native.Mathlib.Omega.{arith}
use lib.ListN.{drop}
use Rattle.lexing.specs.reply.{Parser, ok, ◌>>◌}
use Rattle.lexing.specs.words.{Word, parse_id}
use Rattle.lexing.specs.integers.{positive_integer}
use Rattle.lexing.specs.blanks.{whitespace0}
use Rattle.std.specs.Prelude.{Ok, Err}
use Rattle.lexing.specs.answers.{Rest, Read, lost_reply, number_reply, NameIn, NumberAt, word_at, word_between, Lost}
use Rattle.lexing.proofs.Onward.{Onward, advances_onward, parse_id_advances, tag_advances, integer_advances}
use Rattle.lexing.proofs.TokenLocality.{keyword_chain, whitespace0_chain, whitespace1_chain}
use Rattle.lexing.proofs.Slicing.{Took, took, on, walks, rebase}
use Rattle.lexing.specs.names.{two_keywords_name, named_after}
use Rattle.lexing.specs.answers.names.{NamedIn, NamedTo, NamedAt, word_of, blank_word, gap_word, keyword_name, keyword_number, type_after, equals_code}
use Rattle.lexing.specs.declared.names.Named.{Named}
use Rattle.lexing.proofs.AnswerLaws.{read_is, read_not, read_took}
use Rattle.lexing.proofs.Composed.{onward_ret, onward_bind, onward_then}
use Rattle.lexing.proofs.WordBetween.{word_moved}

pub after_on : {A : Type 0} {m : Parser A} → Onward m → Onward (whitespace0 >> m)
after_on w = onward_then (walks whitespace0_chain) w

pub blank_word_on : Onward blank_word
blank_word_on = after_on (advances_onward parse_id_advances)

pub gap_word_on : Onward gap_word
gap_word_on = onward_then (walks whitespace1_chain) (advances_onward parse_id_advances)

pub keyword_name_on : (k : List ℕ) → Onward (keyword_name k)
keyword_name_on k = onward_then (walks (keyword_chain k)) (onward_then (walks whitespace1_chain) (advances_onward parse_id_advances))

pub two_keywords_name_on : (k j : List ℕ) → Onward (two_keywords_name k j)
unfolding two_keywords_name
two_keywords_name_on k j = onward_then (walks (keyword_chain k)) (onward_then (walks whitespace1_chain) (keyword_name_on j))

pub named_after_on : (k j : List ℕ) → Onward (named_after k j)
unfolding named_after
named_after_on k j = onward_bind (two_keywords_name_on k j) (λ n. after_on (onward_then (advances_onward (tag_advances 59)) (onward_ret n)))

pub keyword_number_on : (k : List ℕ) → Onward (keyword_number k)
keyword_number_on k = onward_then (walks (keyword_chain k)) (onward_then (walks whitespace1_chain) (advances_onward integer_advances))

pub type_after_on : Onward type_after
type_after_on = after_on (onward_then (advances_onward (tag_advances 58)) (after_on (advances_onward parse_id_advances)))

pub integer_on : Onward (whitespace0 >> positive_integer)
integer_on = after_on (advances_onward integer_advances)

pub equals_code_on : Onward equals_code
equals_code_on = onward_then (advances_onward (tag_advances 61)) integer_on

pub code_after_on : Onward (whitespace0 >> equals_code)
code_after_on = after_on equals_code_on

-- a word reads a byte or more
pub name_more : {b n : ℕ} {u : List ℕ} {a : Word} {c : ℕ} → Took parse_id b u n a c → n < c
name_more {b} {n} {u} {a} {c} t = (rw t.goes at (parse_id_advances.reads n (drop (n - b) u))).2

module _ {m : Parser Word} {n : ℕ} {r : List ℕ} {x : Named} {c : ℕ} (h : NamedTo m (Ok (x, c)) n r) where
  pub named_in : NameIn n x.start x.end c
  named_in = h.within.0

  pub named_more : x.start < x.end
  named_more = h.within.1

  -- in more that was read
  pub named_wider : {b d : ℕ} → b ≤ n → c ≤ d → NamedIn b x d
  named_wider p q = (record { from = omega (arith, p, named_in.from); up = named_in.up; inside = omega (arith, q, named_in.inside) }, named_more)

  pub named_took : (w : Onward m) {b : ℕ} {u : List ℕ} → Rest b u n r → Took m b u n (word_of b u x) c
  named_took w {b} {u} q = rw (← word_moved b n u r x.start x.end q named_in.from) (read_took h w q)

-- a number that another reader than that of integers gives
pub number_took : {m : Parser ℕ} (w : Onward m) {b n : ℕ} {u r : List ℕ} {v c : ℕ} → Rest b u n r → number_reply (Ok (v, c)) n r ≡ m n r → Took m b u n v c
number_took w q h = took w q h

-- a number from an offset of a part: after a step that was read, taken and lost
module _ {b n : ℕ} {u : List ℕ} {m : Parser ℕ} where
  pub number_after : {A : Type 0} {k : Parser A} → Onward m → (r : Read ℕ) {a : A} {c : ℕ} → Rest b u n (drop (n - b) u) → Took k b u n a c → NumberAt m r b u c → NumberAt (k >> m) r b u n
  number_after w (Ok (v, e)) q t h =
      let s : Took m b u _ v e = took w h.at h.reads in
      record { at = q; reads = ap (λ z. ok v e z) (rebase b n e u q.from (omega (arith, t.up, s.up))) ∙ on m t (sym s.goes) }
  number_after w (Err l) q t h = record { at = q; reads = on m t h.reads }

  pub number_at_took : {v c : ℕ} → NumberAt m (Ok (v, c)) b u n → Onward m → Took m b u n v c
  number_at_took h w = took w h.at h.reads

  pub number_at_lost : {l : Lost} → NumberAt m (Err l) b u n → lost_reply l ≡ m n (drop (n - b) u)
  number_at_lost h = h.reads

-- a name from an offset of a part: taken, and lost
module _ {b n : ℕ} {u : List ℕ} {m : Parser Word} where
  pub named_at_took : {x : Named} {c : ℕ} → NamedAt m (Ok (x, c)) b u n → Onward m → Took m b u n (word_of b u x) c
  named_at_took h w = named_took h.named w h.at

  pub named_at_lost : {l : Lost} → NamedAt m (Err l) b u n → lost_reply l ≡ m n (drop (n - b) u)
  named_at_lost h = h.named.reads

-- read there: a word after a step that was read
module _ {b n : ℕ} {u : List ℕ} (q : Rest b u n (drop (n - b) u)) {A : Type 0} where
  pub name_missed : (k : Parser A) (l : Lost) → lost_reply l ≡ (k >> parse_id) n (drop (n - b) u) → NamedAt (k >> parse_id) (Err l) b u n
  name_missed k l e = record { at = q; named = read_not l e }

  pub name_read : {k : Parser A} {a : A} {c e : ℕ} → Took k b u n a c → Took parse_id b u c (word_at c (drop (c - b) u) e) e → NamedAt (k >> parse_id) (Ok (record { start = c; end = e }, e)) b u n
  name_read {c = c} {e = e} t s =
      let w = ap (λ (x : Word). ok x e (drop (e - n) (drop (n - b) u))) (word_moved b n u (drop (n - b) u) c e q t.up) in
      let r = ap (λ (v : List ℕ). ok (word_between b u c e) e v) (rebase b n e u q.from (omega (arith, t.up, s.up))) in
      record { at = q; named = read_is refl (w ∙ (r ∙ on parse_id t (sym s.goes))) (record { from = t.up; up = s.up; inside = omega arith }, name_more s) }
