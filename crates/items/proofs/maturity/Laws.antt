-- Maturities.
use Rattle.std.specs.Prelude.{Ok, Err}
use mathlib.Core.Path.{◌≡◌, refl, sym, ap, ◌∙◌, subst}
use Rattle.lexing.proofs.EveryByte.{every, same, alike_at}
use lib.Bits.{bit_or}
use mathlib.Core.Bool.{Bool, true, false, true≢false}
use mathlib.Core.List.{List, [], ◌∷◌}
use Prim.Native.Nat.{ℕ, ◌-◌, ◌<◌}
use native.Mathlib.Omega.{arith}
use native.Mathlib.Nat.{add-zero}
use lib.ListN.{drop, get_or}
use lib.Seq.{get_or-drop}
use Rattle.lexing.specs.bytes.{ascii, lower, within}
use Rattle.lexing.specs.reply.{ok, Parser, ret, ◌>>◌}
use Rattle.lexing.specs.words.{keyword}
use Rattle.lexing.specs.blanks.{Doc, no_doc, whitespace0}
use Rattle.lexing.specs.answers.{Rest, word_reply, Lost}
use Rattle.lexing.proofs.Onward.{Ends, Onward}
use Rattle.lexing.proofs.steps.Laws.{rest_clear}
use Rattle.lexing.proofs.TokenLocality.{whitespace0_chain}
use Rattle.lexing.proofs.Composed.{onward_ret, onward_bind, onward_then, rest_on}
use Rattle.lexing.proofs.Slicing.{Took, took, walks, reads_in, rest_from, rest_self, begin, go, on, done, or_here, or_next}
use Rattle.items.specs.entries.{api_maturity}
use Rattle.items.specs.declared.maturity.Maturity.TheVariants.{Stable}
use Rattle.items.specs.answers.{maturity_number, MaturityTo, maturity_blank, maturity_between}
use Rattle.items.specs.inner.levels.{numbered}
use Rattle.items.specs.inner.maturity.{MaturityBy, is_initial}
use Rattle.items.specs.declared.maturity.Maturity.{Maturity}
use Rattle.items.proofs.Keywords.{keyword_value, keyword_not}
use Rattle.items.proofs.Letters.{NoneOf, all_begin, initials_free}
use Rattle.items.proofs.Alternatives.{leaves, one_left}
use Rattle.lexing.proofs.Sequences.{then_ok}
use Rattle.items.proofs.Tries.{maturity_words, maturity_elsewhere}
use Rattle.items.proofs.Braces.{taken}
use Rattle.items.proofs.Locality.{api_maturity_local}

-- what is read, alone and as a step of a sequence
module _ {p : Parser ℕ} (w : Onward p) where
  reads_as : (v : Maturity) (b c : ℕ) (u : List ℕ) → ok (maturity_number v) c (drop (c - b) u) ≡ p b u → MaturityTo p (v, c) b u
  reads_as v b c u e = let i = reads_in w b c u (maturity_number v) e in record { reads = e; up = i.0; inside = i.1 }

  took_as : {b n : ℕ} {u r : List ℕ} {t : Maturity × ℕ} → Rest b u n r → MaturityTo p t n r → Took p b u n (maturity_number t.0) t.1
  took_as q h = took w q h.reads

maturity_on : Onward api_maturity
maturity_on = walks api_maturity_local.on_chain

blanks_on : Onward whitespace0
blanks_on = walks whitespace0_chain

maturity_is : (v : Maturity) (b c : ℕ) (u : List ℕ) → ok (maturity_number v) c (drop (c - b) u) ≡ api_maturity b u → MaturityTo api_maturity (v, c) b u
maturity_is = reads_as maturity_on

-- a keyword, or no word
pub by_word : (k : List ℕ) (v : Maturity) (b : ℕ) (u : List ℕ) {c : ℕ} → word_reply (Ok c) b u ≡ keyword k b u → MaturityBy k v (v, c) b u
unfolding numbered
by_word k v b u {c} h = or_here _ _ b u (maturity_number v) c _ (keyword_value k (maturity_number v) b u c h)

pub by_none : (k : List ℕ) (v : Maturity) (b : ℕ) (u : List ℕ) (l : Lost) → word_reply (Err l) b u ≡ keyword k b u → MaturityBy k v (Stable, b) b u
unfolding numbered ret
by_none k v b u l h = let z : b - b ≡ 0 = omega arith in rw z (or_next _ _ b u b 0 b u (keyword_not k (maturity_number v) b u l h) refl)

-- the first letter selects one of them
abbrev levels : List (List ℕ × ℕ)
levels = (ascii "stable", 0) ∷ (ascii "provisional", 1) ∷ (ascii "internal", 2) ∷ (ascii "deprecated", 3) ∷ []

pub maturity_left : {b : ℕ} {u : List ℕ} (x : ℕ) → lower (get_or u 0 0) ≡ x → (k : List ℕ) (v : Maturity) → leaves x k (maturity_number v) levels ≡ true → {r : Maturity × ℕ} → MaturityBy k v r b u → MaturityTo api_maturity r b u
unfolding api_maturity numbered ret
maturity_left {b} {u} x h k v e {r} g = maturity_is r.0 b r.1 u (g ∙ sym (one_left b u x h k (maturity_number v) levels (ret 0) e tt))

pub maturity_other : (b : ℕ) (u : List ℕ) (ys : List ℕ) → all_begin ys maturity_words ≡ true → (x : ℕ) → NoneOf ys x → lower (get_or u 0 0) ≡ x → MaturityTo api_maturity (Stable, b) b u
maturity_other b u ys t x n h = let z : b - b ≡ 0 = omega arith in maturity_is Stable b b u (rw z (sym (maturity_elsewhere b u (initials_free b u ys x n h maturity_words t))))

pub maturity_took : {b n : ℕ} {u r : List ℕ} {t : Maturity × ℕ} → Rest b u n r → MaturityTo api_maturity t n r → Took api_maturity b u n (maturity_number t.0) t.1
maturity_took = took_as maturity_on

-- the same with the blanks after it
blanked_on : Onward maturity_blank
blanked_on = onward_bind maturity_on (λ m. onward_then blanks_on (onward_ret m))

pub blanked_is : {m : Maturity} {b c n : ℕ} {u : List ℕ} {d : Doc} → Took api_maturity b u b (maturity_number m) c → Took whitespace0 b u c d n → MaturityTo maturity_blank (m, n) b u
blanked_is {m} t₁ t₂ = reads_as blanked_on m _ _ _ (begin maturity_blank _ _ (go _ t₁ (on _ t₂ (done _ _ _ _))))

-- taken apart
pub record Blanked (b : ℕ) (u : List ℕ) (n m c : ℕ) : Type 0 where
  pub end : ℕ
  pub doc : Doc
  pub said : Took api_maturity b u n m end
  pub blanks : Took whitespace0 b u end doc c

pub blanked : {b n : ℕ} {u r : List ℕ} {t : Maturity × ℕ} → Rest b u n r → MaturityTo maturity_blank t n r → Blanked b u n (maturity_number t.0) t.1
unfolding ◌>>◌ ret
blanked {b} {n} {u} {r} {t} q h =
    let x = taken api_maturity (λ m. whitespace0 >> ret m) maturity_on (maturity_number t.0) t.1 _ n r h.reads in
    let s = drop (x.next - n) r in
    let y = taken whitespace0 (λ d. ret x.value) blanks_on (maturity_number t.0) t.1 _ x.next s x.then in
    let k = y.then in
    let v : maturity_number t.0 ≡ x.value = cc in
    let e : t.1 ≡ y.next = cc in
    let q' = rest_on x.value q (subst (λ z. Ends n r z) (sym x.is) (maturity_on.onward n r)) in
    record {
      end = x.next;
      doc = y.value;
      said = subst (λ (j : ℕ). Took api_maturity b u n j x.next) (sym v) (took maturity_on q x.is);
      blanks = subst (λ (j : ℕ). Took whitespace0 b u x.next y.value j) (sym e) (took blanks_on q' y.is);
    }

-- the same with the blanks around it
between_on : Onward maturity_between
between_on = onward_then blanks_on blanked_on

pub between_took : {b n : ℕ} {u r : List ℕ} {t : Maturity × ℕ} → Rest b u n r → MaturityTo maturity_between t n r → Took maturity_between b u n (maturity_number t.0) t.1
between_took = took_as between_on

pub between_is : {b n : ℕ} {u r : List ℕ} {d : Doc} {t : Maturity × ℕ} → Took whitespace0 b u b d n → Rest b u n r → MaturityTo maturity_blank t n r → MaturityTo maturity_between t b u
between_is {t = t} k q h = reads_as between_on t.0 _ _ _ (begin maturity_between _ _ (on maturity_blank k (sym (took_as blanked_on q h).goes)))

-- their letters in either case, by the bit that tells small letters from capitals
initials : every 256 (λ x. same (is_initial (bit_or x 0x20)) (is_initial (lower x))) ≡ true
unfolding every lower within
initials = refl

pub initial_folded : (x : ℕ) → x < 256 → is_initial (bit_or x 0x20) ≡ is_initial (lower x)
initial_folded = alike_at (λ x. is_initial (bit_or x 0x20)) (λ x. is_initial (lower x)) initials

-- none of their letters is after the blanks: no maturity, and no further blank
pub between_none : {b n : ℕ} {u : List ℕ} {d : Doc} → Took whitespace0 b u b d n → {x y : ℕ} → x ≡ get_or u (n - b) 0 → y ≡ lower x → {t : Bool} → t ≡ is_initial y → t ≡ false → MaturityTo maturity_between (Stable, n) b u
between_none {b} {n} {u} k {x} {y} p e i f =
    let not : (j : ℕ) → is_initial j ≡ true → y ≡ j → ⊥ = λ j h w. true≢false (sym (ap is_initial w ∙ h) ∙ (sym i ∙ f)) in
    let q = rest_from b n u k.up k.inside in
    let r = drop (n - b) u in
    let first : get_or r 0 0 ≡ x = get_or-drop (n - b) u 0 0 ∙ (ap (λ (j : ℕ). get_or u j 0) (add-zero (n - b)) ∙ sym p) in
    let m = maturity_other n r (100 ∷ 105 ∷ 112 ∷ 115 ∷ []) refl y ((((tt, not 115 refl), not 112 refl), not 105 refl), not 100 refl) (ap lower first ∙ sym e) in
    let z : n - n ≡ 0 = omega arith in
    between_is k q (blanked_is {m = Stable} {d = no_doc} (took_as maturity_on (rest_self n r) m) (took blanks_on (rest_self n r) (rw z (sym (rest_clear k q)))))

-- where no blank is before it, the blanks around it are those after it
pub between_clear : {b : ℕ} {u : List ℕ} {t : Maturity × ℕ} → whitespace0 b u ≡ ok no_doc b u → MaturityTo maturity_between t b u → MaturityTo maturity_blank t b u
between_clear c h = record { reads = h.reads ∙ then_ok whitespace0 maturity_blank c; up = h.up; inside = h.inside }
