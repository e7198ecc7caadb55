-- Enums and bitmaps.
use Rattle.items.specs.declared.levels.Privilege.TheVariants.{View}
use Rattle.std.specs.Prelude.{Ok}
use mathlib.Core.Path.{◌≡◌, refl, sym, ◌∙◌, subst}
use mathlib.Core.Bool.{Bool}
use mathlib.Core.Option.{Option, none, some}
use mathlib.Core.List.{List, [], ◌∷◌}
use Prim.Native.Nat.{ℕ, ◌+◌, ◌-◌, ◌*◌, ◌≤◌}
use native.Mathlib.Omega.{arith}
use borrow.Author.Tests.{lt-ltb, le-ltb}
use lib.Dec.{ltb}
use lib.ListN.{length, drop}
use Rattle.lexing.specs.reply.{Reply, ok, fail, stop, Parser, opt}
use Rattle.lexing.specs.words.{Word}
use Rattle.lexing.specs.word_sets.{bit}
use Rattle.lexing.proofs.Onward.{Onward}
use Rattle.lexing.proofs.Locality.{Consumes, chain_opt}
use Rattle.lexing.proofs.Slicing.{Took, walks, rest_self}
use Rattle.items.specs.entries.{present, Entry, shared_before, choice_head, constant_entries_list, choice_after_doc_maturity}
use Rattle.items.specs.records.{at, spanned, flag, word_extent, documented, entry_records, choice_records}
use Rattle.lexing.specs.buffers.{each, words_bytes, put}
use Rattle.items.specs.layout.{packed, width, from_top, offset, size, layout, further_word, record_words, catalogue_words, catalogue_bytes, word_count, text_limit}
use Rattle.lexing.specs.answers.{word_between}
use Rattle.items.specs.answers.{Front, first_of, word_of_span, doc_span_word, doc_span_bit, front_of, kind_number}
use Rattle.items.specs.inner.choices.{choice_first, ChoiceFrom, choice_head_at, ChoiceHeadBetween, ChoiceHeadTo}
use Rattle.items.specs.declared.writing.FrontParts.{FrontParts}
use Rattle.items.specs.declared.choices.ChoiceHeadParts.{ChoiceHeadParts}
use Rattle.lexing.proofs.AnswerLaws.{read_is, read_on}
use Rattle.items.proofs.Headed.{Headed}
use Rattle.items.proofs.WordBetween.{extent_between}
use Rattle.items.proofs.writing.Laws.{documented_put}
use Rattle.items.proofs.Locality.{shared_before_local, shared_before_consumes, choice_head_local, constant_entries_list_local}
use Rattle.lexing.proofs.answers.Laws.{skip_took, opt_ok, opt_fail, opt_stop}

-- a part that takes a byte is there where reading goes on after its start
pub opt_present : {A : Type 0} {m : Parser A} → Onward m → Consumes m → (b : ℕ) (u : List ℕ) {a : Option A} {c : ℕ} → ok a c (drop (c - b) u) ≡ opt m b u → present a ≡ ltb b c
unfolding present
opt_present {A} {m} w v b u {a} {c} e = go (m b u) refl
  where
    go : (x : Reply A) → m b u ≡ x → present a ≡ ltb b c
    go (ok y d r) z =
        let k : ok a c (drop (c - b) u) ≡ ok (some y) d r = e ∙ sym (opt_ok m b u y d r (sym z)) in
        let is : a ≡ some y = cc in
        let reads : ok y c (drop (c - b) u) ≡ ok y d r = cc in
        rw (is, lt-ltb b c (read_on w v (reads ∙ sym z)).0)
    go (fail p) z =
        let k : ok a c (drop (c - b) u) ≡ ok none b u = e ∙ sym (opt_fail m b u p (sym z)) in
        let is : a ≡ none = cc in
        let here : c ≡ b = cc in
        rw (is, le-ltb b c (omega (arith, here)))
    go (stop n p) z = let k : ok a c (drop (c - b) u) ≡ stop n p = e ∙ sym (opt_stop m b u n p (sym z)) in let y : ◌≡◌ {A = ℕ} 0 1 = cc in absurd (omega arith)

-- `shared`, which may be missing
pub record Shared (b : ℕ) (u : List ℕ) (f : ℕ) : Type 0 where
  pub value : Option Word
  pub is : present value ≡ ltb b f
  pub step : Took (opt shared_before) b u b value f

pub shared_took : {b f : ℕ} {u : List ℕ} → ChoiceFrom f b u → Shared b u f
shared_took {b} {f} {u} h = record {
  value = h.value;
  is = opt_present (walks shared_before_local.on_chain) shared_before_consumes b u h.reads;
  step = skip_took (walks (chain_opt shared_before_local.on_chain)) (rest_self b u) h;
}

-- the head, by whether `shared` is before it
pub choice_head_is : (k : List ℕ) (b : ℕ) (u : List ℕ) (h : ChoiceHeadParts) (c : ℕ) (s : Option Word) → present s ≡ h.shared
    → ok (record { head_shared = present s; head_name = word_between b u h.name h.end; head_base = word_between b u h.base_at h.base_end }) c (drop (c - b) u) ≡ choice_head k b u
    → ChoiceHeadBetween b h c → ChoiceHeadTo k (Ok (h, c)) b u
choice_head_is k b u h c s e z w = read_is refl (subst (λ (x : Bool). ok (record { head_shared = x; head_name = word_between b u h.name h.end; head_base = word_between b u h.base_at h.base_end }) c (drop (c - b) u) ≡ choice_head k b u) e z) w

pub choice_head_onward : (k : List ℕ) → Onward (choice_head k)
choice_head_onward k = walks (choice_head_local k).on_chain

pub entries_list_onward : Onward constant_entries_list
entries_list_onward = walks constant_entries_list_local.on_chain

-- three words, and those of the entries
pub choice_headed : (k : List ℕ) → Headed {I = Front} (λ i. choice_after_doc_maturity k i.doc i.maturity) (λ i. choice_records i.kind i.place) (choice_head k) constant_entries_list (each entry_records) 3
unfolding choice_after_doc_maturity word_count catalogue_words each record_words layout choice_records documented
choice_headed k = record {
  make = λ i h l. record { shared = h.head_shared; doc = i.doc; maturity = i.maturity; name = h.head_name; base = h.head_base; entries = l };
  first = λ i h l. documented i.kind i.place i.maturity i.doc (flag h.head_shared ∷ []) (word_extent h.head_name) 0 0 (spanned (word_extent h.head_base) ∷ []);
  reads = λ i. refl;
  hands = λ i h l. refl;
  size = λ i h l. refl;
}

-- The second pass.

-- the three words of the first record
pub choice_first_put : (f : FrontParts) (h : ChoiceHeadParts) (p k v i a o s : ℕ) (l l₁ : List ℕ) → k ≡ kind_number f.kind → v ≡ doc_span_bit f.doc → i ≡ bit h.shared
    → a ≡ first_of (record { kind = k; place = f.place; maturity = f.maturity; doc_present = v; flags = i * 64; name = h.name; name_length = h.end - h.name; first_privilege = View; second_privilege = View }) → o ≡ doc_span_word f.doc
    → s ≡ word_of_span h.base_at (h.base_end - h.base_at) → l₁ ≡ put p (words_bytes (a ∷ o ∷ s ∷ [])) l → l₁ ≡ put p (catalogue_bytes layout (choice_first f h ∷ [])) l
unfolding from_top packed width flag offset size layout further_word
choice_first_put f h p k v i a o s l l₁ y d e w b z e₁ =
    documented_put f.kind f.place f.maturity f.doc (flag h.shared ∷ []) (at h.name (h.end - h.name)) View View (spanned (at h.base_at (h.base_end - h.base_at))) p (i * 64) v a o s l l₁ (omega (arith, e)) d (rw y at w) b z e₁

-- the first record of what was read
pub choice_first_is : (f : FrontParts) (k : List ℕ) (b : ℕ) (u : List ℕ) (h : ChoiceHeadParts) (c : ℕ) (l : List Entry) → ChoiceHeadBetween b h c → c ≤ b + length u → choice_first f h ≡ (choice_headed k).first (front_of f) (choice_head_at b u h) l
unfolding choice_headed
choice_first_is f k b u h c l w i =
    rw (
      extent_between b u h.name h.end w.name_from (omega (arith, w.name_to)) (omega (arith, w.base_from, w.base_to, w.before)),
      extent_between b u h.base_at h.base_end (omega (arith, w.name_from, w.name_to, w.base_from)) w.base_to (omega (arith, w.before)),
    )

pub choice_in_limit : {b : ℕ} {h : ChoiceHeadParts} {c : ℕ} → ChoiceHeadBetween b h c → c ≤ text_limit → ChoiceHeadBetween 0 h text_limit
choice_in_limit w i = record { name_from = omega arith; name_to = w.name_to; base_from = w.base_from; base_to = w.base_to; before = omega (arith, w.before) }
