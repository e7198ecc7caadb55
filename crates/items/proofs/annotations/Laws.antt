-- Annotations: one by one, in brackets, and after the code of an entry.
use Rattle.items.specs.declared.maturity.Maturity.TheVariants.{Stable}
use Rattle.items.specs.declared.levels.Privilege.TheVariants.{View}
use Rattle.lexing.specs.declared.answers.LostBy.TheVariants.{Stop}
use Rattle.std.specs.Prelude.{Ok, Err}
use mathlib.Core.Path.{◌≡◌, refl, sym, ap, ◌∙◌}
use mathlib.Core.List.{List, [], ◌∷◌, map}
use mathlib.Core.Option.{Option, none, some}
use Prim.Native.Nat.{ℕ, suc, ◌+◌, ◌-◌, ◌*◌, ◌≤◌, ◌<◌}
use native.Mathlib.Omega.{arith}
use lib.ListN.{length, drop}
use Rattle.lexing.specs.reply.{Reply, ok, fail, stop, Parser, ret, ◌>>=◌, ◌>>◌, opt, many0}
use Rattle.lexing.specs.words.{Word, tag}
use Rattle.lexing.specs.strings.{annotation_escape, quoted_string}
use Rattle.lexing.specs.blanks.{Doc, whitespace0}
use Rattle.lexing.specs.buffers.{each, words_bytes, put}
use Rattle.lexing.specs.answers.{Rest, lost_reply, span_to, string_reply, Read, number_of, Lost}
use Rattle.lexing.proofs.Losses.{by_lost}
use Rattle.lexing.proofs.Onward.{Onward}
use Rattle.lexing.proofs.Locality.{chain_many0}
use Rattle.lexing.proofs.TokenLocality.{whitespace0_chain}
use Rattle.lexing.proofs.TokenPlaces.{quoted_string_place}
use Rattle.lexing.proofs.Slicing.{Took, took, walks, rest_self, rest_from, rebase, string_took, begin, on, fall}
use Rattle.lexing.proofs.WordBetween.{word_moved}
use Rattle.lexing.proofs.answers.Laws.{opt_ok, opt_fail, opt_stop}
use Rattle.items.specs.entries.{Annotation, constant_annotation, blank_annotation, annotations_in_brackets, constant_annotations_list, annotations_of}
use Rattle.items.specs.records.{span_extent, plain, annotation_record}
use Rattle.items.specs.layout.{packed, width, from_top, offset, size, further_word, word_count, catalogue_words, catalogue_bytes, record_words, layout, text_limit}
use Rattle.items.specs.answers.{first_of, word_of_span, CountTo, count_end, Room, Written, kind_number}
use Rattle.items.specs.inner.annotations.{annotation_at, AnnotationBetween, AnnotationTo, optional_records, entry_list, list_read, list_at, annotations_at, annotation_parts}
use Rattle.items.specs.declared.annotations.AnnotationParts.{AnnotationParts}
use Rattle.items.specs.declared.writing.Wrote.{Wrote}
use Rattle.items.proofs.Locality.{optional_comma_chain, blank_annotation_chain, blank_annotation_consumes, constant_annotations_list_inside}
use Rattle.items.proofs.Blanks.{read_after, read_before}
use Rattle.items.proofs.Braces.{taken, then_value, follows, rest_is, lost_not}
use Rattle.items.proofs.WordBetween.{extent_between}
use Rattle.items.specs.inner.runs.{Repeats}
use Rattle.items.proofs.RecordWords.{map_elementwise, word_count_none}
use Rattle.items.proofs.counts.Laws.{count_is, count_not, count_value, count_lost}
use Rattle.items.proofs.writing.Laws.{plain_bytes}
use Rattle.items.specs.declared.layout.Kind.TheVariants.{Annotation as a_annotation}

-- the string of a value
pub quoted_took : {b n : ℕ} {u r : List ℕ} {c : ℕ} → Rest b u n r → string_reply (Ok c) n r ≡ quoted_string n r → Took quoted_string b u n (span_to n c) c
unfolding quoted_string
quoted_took q h = string_took q annotation_escape h

-- both its quotes were read
pub quoted_long : (n : ℕ) (r : List ℕ) {c : ℕ} → string_reply (Ok c) n r ≡ quoted_string n r → suc n < c
quoted_long n r h = rw (← h) at (quoted_string_place n r)

pub comma_onward : Onward (opt (tag 44))
comma_onward = walks optional_comma_chain

-- An annotation reads the blanks before it itself.
pub annotation_after : {b : ℕ} {u : List ℕ} {a : Read AnnotationParts} → AnnotationTo constant_annotation a b u → AnnotationTo blank_annotation a b u
unfolding blank_annotation constant_annotation
annotation_after h = read_after _ _ _ h

pub annotation_before : {b : ℕ} {u : List ℕ} {a : Read AnnotationParts} → AnnotationTo blank_annotation a b u → AnnotationTo constant_annotation a b u
unfolding blank_annotation constant_annotation
annotation_before h = read_before _ _ _ h

-- the same bytes, seen from the part's start
pub annotation_moved : (b n : ℕ) (u r : List ℕ) (a : AnnotationParts) → Rest b u n r → n ≤ a.key → annotation_at n r a ≡ annotation_at b u a
annotation_moved b n u r a q h = ap (λ (w : Word). record { key = w; value = span_to a.quote a.after }) (word_moved b n u r a.key a.end q h)

-- two words each
pub annotation_words : (a : Annotation) → word_count layout (annotation_record a ∷ []) ≡ 2
unfolding word_count catalogue_words each record_words layout annotation_record plain
annotation_words a = refl

pub annotations_repeat : Repeats (map annotation_record) (λ a. annotation_record a ∷ []) blank_annotation annotation_at (λ u. AnnotationBetween) (λ a. 2)
annotations_repeat = record { takes = blank_annotation_consumes; chain = blank_annotation_chain; elementwise = map_elementwise annotation_record; words = λ b c u a h. annotation_words _; few = λ b c u a h v. omega (arith, v) }

pub annotations_onward : Onward (many0 blank_annotation)
annotations_onward = walks (chain_many0 blank_annotation_chain)

pub annotations_list_onward : Onward constant_annotations_list
annotations_list_onward = walks constant_annotations_list_inside.on_chain

-- A list that may be absent.
pub list_counted : {n c b : ℕ} {u : List ℕ} → CountTo (map annotation_record) annotations_in_brackets (Ok (n, c)) b u → CountTo optional_records constant_annotations_list (Ok (n, c)) b u
unfolding constant_annotations_list annotations_of
list_counted {n} {c} {b} {u} h =
    let s = count_value (map annotation_record) annotations_in_brackets b u n c h in
    count_is optional_records constant_annotations_list b u (some s.value) n c s.words h.few (opt_ok annotations_in_brackets b u s.value c (drop (c - b) u) s.is)

pub list_given_up : {t : Read ℕ} {l : Lost} {b : ℕ} {u : List ℕ} → t ≡ count_end l 0 b → CountTo (map annotation_record) annotations_in_brackets (Err l) b u → CountTo optional_records constant_annotations_list t b u
unfolding constant_annotations_list annotations_of word_count catalogue_words each
list_given_up {t} {l} {b} {u} d h =
    rw d (
    by_lost
    (λ l. lost_reply l ≡ annotations_in_brackets b u → CountTo optional_records constant_annotations_list (count_end l 0 b) b u)
    (λ p z. count_is optional_records constant_annotations_list b u none 0 b refl (omega arith) (ap (λ v. ok none b v) (sym (rest_self b u).same) ∙ opt_fail annotations_in_brackets b u p z))
    (λ i p z. count_not optional_records constant_annotations_list b u (Stop i p) (opt_stop annotations_in_brackets b u (number_of i) p z))
    l
    (count_lost b u h)
    )

-- After the code of an entry: what is read there, by the steps that read it.
pub list_is : {b c d : ℕ} {u : List ℕ} {x : Doc} {o : Option (List Annotation)} → Took whitespace0 b u b x c → Took constant_annotations_list b u c o d → list_at b u ≡ o
unfolding list_at entry_list
list_is {b} {u = u} t s = ap list_read (sym (begin entry_list b u (on _ t (sym s.goes))))

list_stopped : {b c n p : ℕ} {u : List ℕ} {x : Doc} → Took whitespace0 b u b x c → stop n p ≡ constant_annotations_list c (drop (c - b) u) → list_at b u ≡ none
unfolding list_at entry_list
list_stopped {b} {u = u} t e = ap list_read (sym (begin entry_list b u (on _ t e)))

-- The second pass.

-- the two words of an annotation's record, one after the other
pub put_annotation : (a : AnnotationParts) (p w v : ℕ) (l l₁ : List ℕ)
    → w ≡ first_of (record { kind = kind_number a_annotation; place = 0; maturity = Stable; doc_present = 0; flags = 0; name = a.key; name_length = a.end - a.key; first_privilege = View; second_privilege = View })
    → v ≡ word_of_span (a.quote + 1) (a.after - 1 - (a.quote + 1))
    → l₁ ≡ put p (words_bytes (w ∷ v ∷ [])) l → l₁ ≡ put p (catalogue_bytes layout (annotation_parts a ∷ [])) l
unfolding from_top packed width offset size layout further_word
put_annotation a p w v l l₁ z y e =
    let s : a.quote + 1 ≡ suc a.quote = omega arith in
    e ∙ ap (λ (k : List ℕ). put p k l) (rw (z, y, s) (sym (plain_bytes a_annotation Stable [] _ _ 0 refl)))

-- the record of an annotation that was read
pub annotation_is : {b c d : ℕ} {u r : List ℕ} (a : AnnotationParts) → Rest b u c r → AnnotationBetween c a d → d ≤ b + length u → annotation_parts a ≡ annotation_record (annotation_at b u a)
unfolding annotation_record span_extent
annotation_is {b} {u = u} a q v i = rw (extent_between b u a.key a.end (omega (arith, v.from, q.from)) v.up (omega (arith, v.follows, v.quotes, v.inside, i)))

pub annotation_in_limit : {b c : ℕ} {a : AnnotationParts} → AnnotationBetween b a c → c ≤ text_limit → AnnotationBetween 0 a text_limit
annotation_in_limit v i = record { from = omega arith; up = v.up; follows = v.follows; quotes = v.quotes; inside = omega (arith, v.inside, i) }

-- Where an entry has annotations, brackets are after the blanks.
pub record InBrackets (b : ℕ) (u : List ℕ) (c : ℕ) : Type 0 where
  pub next : ℕ
  pub is : ok (annotations_at b u) next (drop (next - b) u) ≡ annotations_in_brackets c (drop (c - b) u)

none_here : (b : ℕ) (u : List ℕ) → list_at b u ≡ none → 0 < word_count layout (map annotation_record (annotations_at b u)) → ⊥
unfolding annotations_of
none_here b u e h = let z = ap (λ (o : Option (List Annotation)). word_count layout (optional_records o)) e in omega (arith, h, z, word_count_none)

pub in_brackets : {b c : ℕ} {u : List ℕ} {x : Doc} → Took whitespace0 b u b x c → 0 < word_count layout (map annotation_record (annotations_at b u)) → InBrackets b u c
unfolding constant_annotations_list annotations_of
in_brackets {b} {c} {u} t h = go (annotations_in_brackets c (drop (c - b) u)) refl
  where
    q : Rest b u c (drop (c - b) u)
    q = rest_from b c u t.up t.inside

    go : (y : Reply (List Annotation)) → annotations_in_brackets c (drop (c - b) u) ≡ y → InBrackets b u c
    go (ok l d r) e =
        let k = opt_ok annotations_in_brackets c (drop (c - b) u) l d r (sym e) in
        let z = rest_is annotations_list_onward c d (drop (c - b) u) r (some l) (sym k) in
        let s = took annotations_list_onward q (ap (λ (v : List ℕ). ok (some l) d v) (sym z) ∙ k) in
        let v = ap (λ (x : List ℕ). ok l d x) (sym (z ∙ rebase b c d u t.up s.up)) in
        record { next = d; is = ap (λ (o : Option (List Annotation)). ok (annotations_of o) d (drop (d - b) u)) (list_is t s) ∙ (v ∙ sym e) }
    go (fail p) e =
        let k = opt_fail annotations_in_brackets c (drop (c - b) u) p (sym e) in
        let s = took annotations_list_onward q (ap (λ (v : List ℕ). ok none c v) (sym (rest_self c (drop (c - b) u)).same) ∙ k) in
        absurd (none_here b u (list_is t s) h)
    go (stop n p) e = absurd (none_here b u (list_stopped t (opt_stop annotations_in_brackets c (drop (c - b) u) n p (sym e))) h)

module _ {b c : ℕ} {u r : List ℕ} (q : Rest b u c r) (i : InBrackets b u c) where
  pub bracket_there : (l : Lost) → lost_reply l ≡ tag 91 c r → ⊥
  unfolding annotations_in_brackets
  bracket_there l e = lost_not i.is l (fall _ _ l q e)

-- the annotations after the opening bracket
module _ {b c : ℕ} {u : List ℕ} (i : InBrackets b u c) {d : ℕ} (t : Took (tag 91) b u c tt d) {r : List ℕ} (q : Rest b u d r) where
  run_is : (n : ℕ) × (ok (annotations_at b u) n (drop (n - d) r) ≡ many0 blank_annotation d r)
  unfolding annotations_in_brackets ◌>>◌
  run_is =
      let close : List Annotation → Parser (List Annotation) = λ l. whitespace0 >> (tag 93 >> ret l) in
      let x = taken (many0 blank_annotation) close annotations_onward _ _ _ d (drop (d - b) u) (follows (many0 blank_annotation >>= close) t i.is) in
      let y = taken whitespace0 (λ v. tag 93 >> ret x.value) (walks whitespace0_chain) _ _ _ _ _ x.then in
      let z : annotations_at b u ≡ x.value = then_value (tag 93) x.value _ _ _ _ _ y.then in
      let i : ok x.value x.next (drop (x.next - d) r) ≡ many0 blank_annotation d r = rw q.same x.is in
      (x.next, ap (λ (l : List Annotation). ok l x.next (drop (x.next - d) r)) z ∙ i)

  pub annotations_room : {at n : ℕ} → at + 8 * word_count layout (map annotation_record (annotations_at b u)) ≤ n → Room (map annotation_record) (many0 blank_annotation) d r at n
  annotations_room h = record { value = annotations_at b u; next = run_is.0; is = run_is.1; fits = h }

  pub annotations_written : {at : ℕ} {w : Wrote} {old new : List ℕ} → Written (map annotation_record) (many0 blank_annotation) d r at w old new → new ≡ put at (catalogue_bytes layout (map annotation_record (annotations_at b u))) old
  annotations_written {at} {w} {old} h =
      let z = run_is.1 ∙ sym h.is in
      let y : annotations_at b u ≡ h.value = cc in
      h.bytes ∙ ap (λ (l : List Annotation). put at (catalogue_bytes layout (map annotation_record l)) old) (sym y)
