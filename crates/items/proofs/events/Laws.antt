-- Events: one law for each way through a reader.
use Rattle.items.specs.declared.levels.Privilege.TheVariants.{View}
use Rattle.std.specs.Prelude.{Ok}
use mathlib.Core.Path.{◌≡◌, refl, sym, ap, ◌∙◌, subst}
use mathlib.Core.Option.{Option}
use mathlib.Core.List.{List, [], ◌∷◌, map}
use Prim.Native.Nat.{ℕ, ◌+◌, ◌-◌, ◌*◌, ◌≤◌, ◌<◌}
use native.Mathlib.Omega.{arith}
use lib.ListN.{length, drop}
use Rattle.lexing.specs.bytes.{ascii}
use Rattle.lexing.specs.reply.{Reply, ok, fail, stop, Parser, ◌>>=◌, ◌>>◌, opt}
use Rattle.lexing.specs.words.{Word, keyword}
use Rattle.lexing.specs.blanks.{Doc, whitespace0, whitespace1}
use Rattle.lexing.specs.answers.{Rest}
use Rattle.lexing.proofs.FirstWord.{gap_clear}
use Rattle.lexing.proofs.Onward.{Onward}
use Rattle.lexing.proofs.Locality.{chain_inside}
use Rattle.lexing.proofs.TokenLocality.{keyword_chain, whitespace1_chain}
use Rattle.lexing.proofs.Slicing.{Took, walks}
use Rattle.items.specs.structs.{struct_fields, StructField as StructFieldOf}
use Rattle.items.specs.members.{or_else, access_to, event_qualities, event_head, parse_event_after_doc_maturity}
use Rattle.items.specs.records.{bits, value, word_extent, documented, field_record, event_records, at}
use Rattle.lexing.specs.buffers.{each, words_bytes, put}
use Rattle.items.specs.layout.{layout, record_words, catalogue_words, word_count, packed, width, from_top, offset, size, further_word, catalogue_bytes, text_limit}
use Rattle.items.specs.answers.{Front, first_of, doc_span_word, doc_span_bit, front_of, kind_number}
use Rattle.items.specs.answers.{privilege_number, priority_number}
use Rattle.items.specs.declared.levels.Priority.{Priority}
use Rattle.items.specs.inner.levels.{PrivilegeTo}
use Rattle.items.specs.inner.events.{EventQualitiesTo, event_head_at, EventHeadBetween, EventHeadTo, event_word, event_first}
use Rattle.items.specs.declared.levels.Privilege.{Privilege}
use Rattle.items.specs.declared.events.EventHeadParts.{EventHeadParts}
use Rattle.lexing.proofs.AnswerLaws.{read_took}
use Rattle.items.proofs.Mapped.{TookAs, read_as}
use Rattle.lexing.proofs.Sequences.{then_ok}
use Rattle.lexing.proofs.Composed.{onward_then}
use Rattle.lexing.proofs.WordBetween.{word_moved}
use Rattle.items.proofs.WordBetween.{extent_between}
use Rattle.items.proofs.writing.Laws.{documented_put}
use Rattle.lexing.proofs.answers.Laws.{opt_ok, opt_fail, opt_stop}
use Rattle.items.proofs.Locality.{event_head_inside}
use Rattle.items.specs.declared.writing.FrontParts.{FrontParts}
use Rattle.items.proofs.Headed.{Headed}
use Rattle.items.proofs.levels.Laws.{access_on}
use Rattle.items.specs.declared.layout.Kind.TheVariants.{Event as a_event}

-- the word of an event
gap_on : Onward whitespace1
gap_on = walks whitespace1_chain

pub word_gap_on : Onward (keyword (ascii "event") >> whitespace1)
word_gap_on = onward_then (walks (keyword_chain (ascii "event"))) gap_on

pub event_word_on : Onward event_word
event_word_on = onward_then gap_on word_gap_on

-- after which no blank is
then_last : {A B : Type 0} (m : Parser A) (k : Parser B) (n : ℕ) (v : List ℕ) {c : ℕ} {r : List ℕ} {a : B} → (m >> k) n v ≡ ok a c r → (e : ℕ) × ((w : List ℕ) × (k e w ≡ ok a c r))
unfolding ◌>>◌ ◌>>=◌
then_last {A} {B} m k n v {c} {r} {a} h = go (m n v) refl
  where
    go : (x : Reply A) → m n v ≡ x → (e : ℕ) × ((w : List ℕ) × (k e w ≡ ok a c r))
    go (ok y e w) z = (e, (w, rw (z, ◌>>◌, ◌>>=◌) at h))
    go (fail p) z = let i : fail p ≡ ok a c r = rw (z, ◌>>◌, ◌>>=◌) at h in let t : ◌≡◌ {A = ℕ} 0 1 = cc in absurd (omega arith)
    go (stop j p) z = let i : stop j p ≡ ok a c r = rw (z, ◌>>◌, ◌>>=◌) at h in let t : ◌≡◌ {A = ℕ} 0 1 = cc in absurd (omega arith)

opt_same : {A : Type 0} (m k : Parser A) (b : ℕ) (u : List ℕ) → m b u ≡ k b u → opt m b u ≡ opt k b u
opt_same {A} m k b u e = go (k b u) refl
  where
    go : (x : Reply A) → k b u ≡ x → opt m b u ≡ opt k b u
    go (ok a c r) z = sym (opt_ok m b u a c r (sym (e ∙ z))) ∙ opt_ok k b u a c r (sym z)
    go (fail p) z = sym (opt_fail m b u p (sym (e ∙ z))) ∙ opt_fail k b u p (sym z)
    go (stop n p) z = sym (opt_stop m b u n p (sym (e ∙ z))) ∙ opt_stop k b u n p (sym z)

pub event_access_took : (k : List ℕ) (z : Privilege) {b n c : ℕ} {u r : List ℕ} {d : Doc} {a : Privilege × ℕ} → Took event_word b u n d c → Rest b u c r → PrivilegeTo k z a c r → TookAs (or_else (privilege_number z)) (opt (access_to k)) b u c (privilege_number a.0) a.1
event_access_took k z {b} {n} {c} {u} {r} {d} {a} t q h =
    let v = drop (c - b) u in
    let x = then_last whitespace1 (keyword (ascii "event") >> whitespace1) n (drop (n - b) u) t.goes in
    let y = then_last (keyword (ascii "event")) whitespace1 x.0 x.1.0 x.1.1 in
    let clear = gap_clear y.0 y.1.0 d c v y.1.1 in
    let s : TookAs (or_else (privilege_number z)) (opt (whitespace0 >> access_to k)) b u c (privilege_number a.0) a.1 = read_as h (access_on k) q in
    record { value = s.value; is = s.is; step = record { goes = sym (opt_same (whitespace0 >> access_to k) (access_to k) c v (then_ok whitespace0 (access_to k) clear)) ∙ s.step.goes; up = s.step.up; inside = s.step.inside } }

-- events, up to the name
pub event_qualities_is : (q : ℕ) (y : Priority) (z : ℕ) (v : Privilege) (o : Option ℕ) (b c : ℕ) (u : List ℕ) → q < 2 → or_else z o ≡ privilege_number v
    → ok (record { sensitive = q; rank = priority_number y; privilege = or_else z o }) c (drop (c - b) u) ≡ event_qualities b u → EventQualitiesTo (Ok (record { sensitive = q; rank = y; privilege = v }, c)) b u
event_qualities_is q y z v o b c u f d e = record { reads = subst (λ (x : ℕ). ok (record { sensitive = q; rank = priority_number y; privilege = x }) c (drop (c - b) u) ≡ event_qualities b u) d e; within = f }

-- up to the fields
event_head_moved : {b n : ℕ} {u r : List ℕ} {c : ℕ} → Rest b u n r → (h : EventHeadParts) → EventHeadBetween n h c → event_head_at n r h ≡ event_head_at b u h
event_head_moved {b} {n} {u} {r} q h w =
    ap (λ (v : Word). record { sensitive = h.sensitive; rank = priority_number h.rank; privilege = privilege_number h.privilege; id = v; number = h.code }) (word_moved b n u r h.name h.end q w.name_from)

pub event_head_took : {b n c : ℕ} {u r : List ℕ} {h : EventHeadParts} → Rest b u n r → EventHeadTo (Ok (h, c)) n r → Took event_head b u n (event_head_at b u h) c
event_head_took {h = h} q t = rw (← event_head_moved q h t.within) (read_took t (walks (chain_inside event_head_inside)) q)

-- three words an event, and those of its fields
pub event_headed : Headed {I = Front} (λ i. parse_event_after_doc_maturity i.doc i.maturity) (λ i. event_records) event_head struct_fields (map field_record) 3
unfolding parse_event_after_doc_maturity word_count catalogue_words each record_words layout event_records documented
event_headed = record {
  make = λ i h l. record { doc = i.doc; maturity = i.maturity; fabric_sensitive = h.sensitive; priority = h.rank; access = h.privilege; name = h.id; code = h.number; fields = l };
  first = λ i h l. documented 9 0 i.maturity i.doc (bits 2 h.rank ∷ bits 1 h.sensitive ∷ []) (word_extent h.id) h.privilege 0 (value h.number ∷ []);
  reads = λ i. refl;
  hands = λ i h l. refl;
  size = λ i h l. refl;
}

-- The second pass.

-- the three words of an event's first record
pub event_first_put : (f : FrontParts) (h : EventHeadParts) (p v k a o : ℕ) (l l₁ : List ℕ) → v ≡ doc_span_bit f.doc → k ≡ priority_number h.rank
    → a ≡ first_of (record { kind = kind_number a_event; place = 0; maturity = f.maturity; doc_present = v; flags = k * 32 + h.sensitive * 16; name = h.name; name_length = h.end - h.name; first_privilege = h.privilege; second_privilege = View }) → o ≡ doc_span_word f.doc
    → l₁ ≡ put p (words_bytes (a ∷ o ∷ h.code ∷ [])) l → l₁ ≡ put p (catalogue_bytes layout (event_first f h ∷ [])) l
unfolding from_top packed width offset size further_word
event_first_put f h p v k a o l l₁ d y w b e₁ =
    documented_put a_event 0 f.maturity f.doc (bits 2 (priority_number h.rank) ∷ bits 1 h.sensitive ∷ []) (at h.name (h.end - h.name)) h.privilege View (value h.code) p (k * 32 + h.sensitive * 16) v a o h.code l l₁ (omega (arith, y)) d w b refl e₁

-- the first record of what was read
pub event_first_is : (f : FrontParts) (b : ℕ) (u : List ℕ) (h : EventHeadParts) (c : ℕ) (l : List StructFieldOf) → EventHeadBetween b h c → c ≤ b + length u → event_first f h ≡ event_headed.first (front_of f) (event_head_at b u h) l
unfolding event_headed
event_first_is f b u h c l w i = rw (extent_between b u h.name h.end w.name_from w.name_to (omega (arith, w.before)))

pub event_in_limit : {b : ℕ} {h : EventHeadParts} {c : ℕ} → EventHeadBetween b h c → c ≤ text_limit → EventHeadBetween 0 h text_limit
event_in_limit w i = record { sensitive = w.sensitive; name_from = omega arith; name_to = w.name_to; before = omega (arith, w.before) }
