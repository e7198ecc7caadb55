-- Steps from an offset of a part: what they answer, and what they give the sequence that takes them.
use mathlib.Core.Path.{◌≡◌, refl, sym, ap, ◌∙◌, subst}
use mathlib.Core.List.{List}
use Prim.Native.Nat.{ℕ, ◌+◌, ◌-◌, ◌≤◌, ◌<◌}
use native.Mathlib.Omega.{arith}
use native.Mathlib.Nat.{add-zero}
use borrow.Author.Tests.{eq-eqb, ne_eqb}
use lib.ListN.{length, drop, get_or}
use lib.Seq.{get_or-drop}
use Rattle.lexing.specs.bytes.{slash, space}
use Rattle.lexing.specs.reply.{ok, Parser, ret, ◌>>=◌, ◌>>◌, position, fail_at, pick}
use Rattle.lexing.specs.words.{keyword, tag}
use Rattle.lexing.specs.integers.{positive_integer}
use Rattle.lexing.specs.blanks.{Doc, no_doc, whitespace0, whitespace1}
use Rattle.lexing.specs.answers.{Rest, BlankTo, doc_of, lost_reply, number_reply, read_answer, tag_reply, word_reply, Skips, SkipsAt, BlankAt, NumberAt, Lost}
use Rattle.std.specs.Prelude.{Ok, Err, None}
use Rattle.lexing.specs.answers.{Step, Read}
use Rattle.lexing.specs.declared.answers.LostBy.TheVariants.{Fail}
use Rattle.lexing.specs.declared.blanks.Blank.{Blank}
use Rattle.std.specs.Prelude.{None}
use Rattle.lexing.proofs.Onward.{Onward, advances_onward, tag_advances, integer_advances}
use Rattle.lexing.proofs.Slicing.{Took, took, walks, rebase, rest_from, rest_self}
use Rattle.lexing.proofs.FirstWord.{blank_clear}
use Rattle.lexing.proofs.TokenLocality.{keyword_chain, whitespace0_chain, whitespace1_chain}
use Rattle.lexing.proofs.Dropping.{following, skip_after, tag_skips, keyword_skips}
use Rattle.lexing.proofs.blanks.Laws.{blanks_none, blanks_one}
use Rattle.lexing.proofs.Composed.{onward_then}
use Rattle.lexing.proofs.answers.Laws.{skip_took}

blank_on : Onward whitespace0
blank_on = walks whitespace0_chain

pub blank_bounds : {n b : ℕ} {u : List ℕ} → Skips whitespace0 (Ok n) b u → (b ≤ n) × (n ≤ b + length u)
blank_bounds {n} {b} {u} h = let t = skip_took blank_on (rest_self b u) h in (t.up, t.inside)

-- a run of blanks, for its offset
pub blank_skips : {t : Blank} {b : ℕ} {u : List ℕ} → BlankTo t b u → Skips whitespace0 (Ok t.next) b u
blank_skips {t} h = record { value = doc_of t.doc; reads = h.reads }

module _ {b c : ℕ} {u r : List ℕ} (q : Rest b u c r) where
  rest_here : Rest b u c (drop (c - b) u)
  rest_here = record { from = q.from; same = refl; size = ap (λ v. c + length v) (sym q.same) ∙ q.size }

  skips_at : {A : Type 0} {m : Parser A} {a : Step} → Skips m a c r → SkipsAt m a b u c
  skips_at {A} {m} {a} h = record { at = rest_here; skips = subst (λ v. Skips m a c v) q.same h }

  pub blank_is : {t : Blank} → BlankTo t c r → BlankAt t.next b u c
  blank_is h = skips_at (blank_skips h)

  module _ {n : ℕ} (h : Skips whitespace0 (Ok n) c r) where
    pub gap_is : (n ≡ c → ⊥) → SkipsAt whitespace1 (Ok n) b u c
    unfolding whitespace1 ◌>>=◌ position pick ret
    gap_is e = skips_at (record { value = h.value; reads = rw (sym h.reads, whitespace1, ◌>>=◌) (rw (ne_eqb c n (λ z. e (sym z)), pick)) })

    pub gap_not : n ≡ c → SkipsAt whitespace1 (Err (Fail c)) b u c
    unfolding whitespace1 ◌>>=◌ position pick fail_at
    gap_not e = skips_at (record { value = no_doc; reads = rw (sym h.reads, whitespace1, ◌>>=◌) (rw (eq-eqb c n (sym e), pick)) })

  -- a token after blanks
  module _ {n : ℕ} (h : Skips whitespace0 (Ok n) c r) {v : List ℕ} (z : Rest b u n v) where
    p : Rest c r n v
    p = let k = blank_bounds h in record { from = k.0; same = z.same ∙ (sym (rebase b c n u q.from k.0) ∙ ap (drop (n - c)) (sym q.same)); size = z.size ∙ sym q.size }

    blanks : Took whitespace0 c r c h.value n
    blanks = skip_took blank_on (rest_self c r) h

    pub tag_after_is : (k : ℕ) (a : Step) → tag_reply a n v ≡ tag k n v → SkipsAt (whitespace0 >> tag k) a b u c
    tag_after_is k a e = skips_at (skip_after (advances_onward (tag_advances k)) p blanks (tag_skips k a e))

    pub keyword_after_is : (k : List ℕ) (a : Step) → word_reply a n v ≡ keyword k n v → SkipsAt (whitespace0 >> keyword k) a b u c
    keyword_after_is k a e = skips_at (skip_after (walks (keyword_chain k)) p blanks (keyword_skips k a e))

    pub integer_after_is : (a : Read ℕ) → number_reply a n v ≡ positive_integer n v → NumberAt (whitespace0 >> positive_integer) a b u c
    integer_after_is a e =
        let x = following (advances_onward integer_advances) (read_answer (λ v. v) a) p blanks e in
        record { at = rest_here; reads = subst (λ w. number_reply a c w ≡ (whitespace0 >> positive_integer) c w) q.same x }

-- blanks that the bytes at an offset tell
module _ (b c : ℕ) (u : List ℕ) (at : (b ≤ c) × (c ≤ b + length u)) {x : ℕ} (p : x ≡ get_or u (c - b) 0) where
  rest : Rest b u c (drop (c - b) u)
  rest = rest_from b c u at.0 at.1

  ahead : (i : ℕ) → get_or u (c - b + i) 0 ≡ get_or (drop (c - b) u) i 0
  ahead i = sym (get_or-drop (c - b) u i 0)

  first : x ≡ get_or (drop (c - b) u) 0 0
  first = p ∙ (ap (λ (k : ℕ). get_or u k 0) (sym (add-zero (c - b))) ∙ ahead 0)

  pub blank_none : slash < x → BlankAt c b u c
  blank_none h = blank_is rest (blanks_none c (drop (c - b) u) x first h)

  module _ {y : ℕ} (q : y ≡ get_or u (c - b + 1) 0) (h : x ≡ space) (k : slash < y) where
    single : BlankTo (record { next = c + 1; doc = None }) c (drop (c - b) u)
    single = blanks_one c (drop (c - b) u) x y first (q ∙ ahead 1) h k

    pub blank_one : BlankAt (c + 1) b u c
    blank_one = blank_is rest single

    pub blank_one_in : c + 1 ≤ b + length u
    blank_one_in = omega (arith, single.inside, rest.size)

-- no blank is where blanks were read
pub rest_clear : {b n c : ℕ} {u v : List ℕ} {d : Doc} → Took whitespace0 b u n d c → Rest b u c v → whitespace0 c v ≡ ok no_doc c v
rest_clear {b} {n} {c} {u} {v} {d} t q = subst (λ (x : List ℕ). whitespace0 c x ≡ ok no_doc c x) (sym q.same) (blank_clear n (drop (n - b) u) d c (drop (c - b) u) t.goes)

-- as steps of a sequence
module _ {b n : ℕ} {u : List ℕ} where
  pub blank_at_took : {c : ℕ} (h : BlankAt c b u n) → Took whitespace0 b u n h.skips.value c
  blank_at_took h = skip_took blank_on h.at h.skips

  pub gap_at_took : {c : ℕ} → (h : SkipsAt whitespace1 (Ok c) b u n) → Took whitespace1 b u n h.skips.value c
  gap_at_took h = skip_took (walks whitespace1_chain) h.at h.skips

  pub tag_after_took : (t : ℕ) {c : ℕ} → (h : SkipsAt (whitespace0 >> tag t) (Ok c) b u n) → Took (whitespace0 >> tag t) b u n h.skips.value c
  tag_after_took t h = skip_took (onward_then blank_on (advances_onward (tag_advances t))) h.at h.skips

  pub keyword_after_took : (k : List ℕ) {c : ℕ} → (h : SkipsAt (whitespace0 >> keyword k) (Ok c) b u n) → Took (whitespace0 >> keyword k) b u n h.skips.value c
  keyword_after_took k h = skip_took (onward_then blank_on (walks (keyword_chain k))) h.at h.skips

  pub skips_lost : {A : Type 0} {m : Parser A} {l : Lost} → SkipsAt m (Err l) b u n → lost_reply l ≡ m n (drop (n - b) u)
  skips_lost h = h.skips.reads

  pub integer_after_took : {v c : ℕ} → NumberAt (whitespace0 >> positive_integer) (Ok (v, c)) b u n → Took (whitespace0 >> positive_integer) b u n v c
  integer_after_took h = took (onward_then blank_on (advances_onward integer_advances)) h.at h.reads

  pub integer_after_lost : {l : Lost} → NumberAt (whitespace0 >> positive_integer) (Err l) b u n → lost_reply l ≡ (whitespace0 >> positive_integer) n (drop (n - b) u)
  integer_after_lost h = h.reads
