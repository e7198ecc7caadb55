-- Entries.
use Rattle.items.specs.declared.levels.Privilege.TheVariants.{View}
use Rattle.std.specs.Prelude.{Ok, Err}
use mathlib.Core.Path.{◌≡◌, refl, sym, ap, ◌∙◌}
use mathlib.Core.List.{List, [], ◌∷◌, map}
use mathlib.Core.Option.{Option}
use Prim.Native.Nat.{ℕ, ◌+◌, ◌-◌, ◌*◌, ◌≤◌, ◌<◌}
use native.Mathlib.Omega.{arith}
use lib.ListN.{length, drop}
use Rattle.lexing.specs.reply.{ok, Parser}
use Rattle.lexing.specs.words.{word}
use Rattle.lexing.specs.blanks.{Doc, whitespace0}
use Rattle.lexing.specs.buffers.{each, words_bytes, put}
use Rattle.lexing.specs.answers.{Rest, lost_reply, Read, Lost}
use Rattle.lexing.proofs.Onward.{Onward}
use Rattle.lexing.proofs.Locality.{chain_ret, chain_bind, chain_then}
use Rattle.lexing.proofs.TokenLocality.{whitespace0_chain}
use Rattle.lexing.proofs.Slicing.{Took, took, walks, rest_self, rebase}
use Rattle.lexing.proofs.AnswerLaws.{read_took}
use Rattle.lexing.proofs.WordBetween.{word_moved}
use Rattle.lexing.proofs.buffers.Laws.{put_on}
use Rattle.items.specs.entries.{Annotation, constant_annotations_list, annotations_of, Entry, constant_entry, blank_entry}
use Rattle.items.specs.records.{Record, plain, annotation_record, entry_record, entry_records}
use Rattle.items.specs.layout.{packed, width, from_top, offset, size, further_word, word_count, catalogue_words, catalogue_bytes, record_words, layout}
use Rattle.items.specs.answers.{first_of, kind_number}
use Rattle.items.specs.inner.annotations.{optional_records, list_at, annotations_at}
use Rattle.items.specs.inner.entries.{entry_at, EntryBounds, EntryTo, entry_end, EndTo, parts_record}
use Rattle.items.specs.declared.entries.EntryParts.{EntryParts}
use Rattle.items.proofs.Locality.{punct_local, constant_annotations_list_inside, blank_entry_inside, blank_entry_consumes}
use Rattle.items.proofs.Blanks.{read_after, read_before}
use Rattle.items.proofs.WordBetween.{extent_between}
use Rattle.items.specs.inner.runs.{Repeats}
use Rattle.items.proofs.RecordWords.{each_elementwise, word_count_append, catalogue_bytes_append, catalogue_bytes_length}
use Rattle.items.proofs.annotations.Laws.{list_is, annotation_words}
use Rattle.items.specs.declared.layout.Kind.TheVariants.{Entry as a_entry}

-- the end of an entry
pub end_is : {v : Option (List Annotation)} {n c b c₁ c₂ : ℕ} {u : List ℕ} {x : Doc} → Took whitespace0 b u b x c₁ → Took constant_annotations_list b u c₁ v c₂ → word_count layout (optional_records v) ≡ n → n ≤ 8 * (c - b)
    → ((e : Option (List Annotation) → Entry) → ok (e v) c (drop (c - b) u) ≡ entry_end e b u) → EndTo (Ok (n, c)) b u
end_is {v} {n} {c} {b} {u = u} t s w f h =
    let z = list_is t s in
    record {
      reads = λ e. ap (λ (o : Option (List Annotation)). ok (e o) c (drop (c - b) u)) z ∙ h e;
      words = (ap (λ (o : Option (List Annotation)). word_count layout (optional_records o)) z ∙ w, f);
    }

pub end_not : (l : Lost) (b : ℕ) (u : List ℕ) → ((e : Option (List Annotation) → Entry) → lost_reply l ≡ entry_end e b u) → EndTo (Err l) b u
end_not l b u h = record { reads = h; words = tt }

end_onward : (e : Option (List Annotation) → Entry) → Onward (entry_end e)
unfolding entry_end
end_onward e = walks (chain_then whitespace0_chain (chain_bind constant_annotations_list_inside.on_chain λ a. chain_then whitespace0_chain (chain_then (punct_local 59 refl).on_chain (chain_ret (e a)))))

pub end_took : (e : Option (List Annotation) → Entry) {b n : ℕ} {u r : List ℕ} {k c : ℕ} → Rest b u n r → EndTo (Ok (k, c)) n r → Took (entry_end e) b u n (e (list_at n (drop (n - b) u))) c
end_took e {b} {n} {u} q h = rw (← q.same) (took (end_onward e) q (h.reads e))

-- its words, and where it ends, from the numbers alone
pub end_words : {b n : ℕ} {u r : List ℕ} {k c : ℕ} → Rest b u n r → EndTo (Ok (k, c)) n r → (word_count layout (map annotation_record (annotations_at n (drop (n - b) u))) ≡ k) × (k ≤ 8 * (c - n))
end_words {n = n} q h = (ap (λ (v : List ℕ). word_count layout (map annotation_record (annotations_at n v))) (sym q.same) ∙ h.words.0, h.words.1)

pub end_up : {n : ℕ} {r : List ℕ} {k c : ℕ} → EndTo (Ok (k, c)) n r → n ≤ c
end_up {n} {r} h =
    let e : Option (List Annotation) → Entry = λ o. record { maturity = 0; name = word 0 []; code = 0; annotations = annotations_of o } in
    (end_took e (rest_self n r) h).up

-- entries
-- the same bytes, seen from the part's start
entry_moved : (b n : ℕ) (u r : List ℕ) (e : EntryParts) → Rest b u n r → n ≤ e.name → n ≤ e.list → entry_at n r e ≡ entry_at b u e
entry_moved b n u r e q h k =
    let z : drop (e.list - n) r ≡ drop (e.list - b) u = ap (drop (e.list - n)) q.same ∙ rebase b n e.list u q.from k in
    rw (word_moved b n u r e.name e.end q h, z) refl

module _ {m : Parser Entry} {b n c : ℕ} {u r : List ℕ} {e : EntryParts} (q : Rest b u n r) (h : EntryTo m (Ok (e, c)) n r) where
  pub entry_same : entry_at n r e ≡ entry_at b u e
  entry_same = let v = h.within in entry_moved b n u r e q v.from (omega (arith, v.from, v.up, v.follows))

  pub entry_took : Onward m → Took m b u n (entry_at b u e) c
  entry_took w = rw (← entry_same) (read_took h w q)

-- an entry reads the blanks before it itself
pub entry_after : {b : ℕ} {u : List ℕ} {a : Read EntryParts} → EntryTo constant_entry a b u → EntryTo blank_entry a b u
unfolding blank_entry constant_entry
entry_after h = read_after _ _ _ h

pub entry_before : {b : ℕ} {u : List ℕ} {a : Read EntryParts} → EntryTo blank_entry a b u → EntryTo constant_entry a b u
unfolding blank_entry constant_entry
entry_before h = read_before _ _ _ h

-- two words, and those of the annotations
one_words : (e : Entry) → word_count layout (entry_record e ∷ []) ≡ 2
unfolding word_count catalogue_words each record_words layout entry_record plain
one_words e = refl

pub entry_words : (e : Entry) → word_count layout (entry_records e) ≡ 2 + word_count layout (map annotation_record e.annotations)
unfolding entry_records
entry_words e = word_count_append (entry_record e ∷ []) (map annotation_record e.annotations) ∙ ap (λ (n : ℕ). n + word_count layout (map annotation_record e.annotations)) (one_words e)

pub parts_count : (e : EntryParts) → word_count layout (parts_record e ∷ []) ≡ 2
unfolding word_count catalogue_words each record_words layout plain
parts_count e = refl

-- the two words of an entry's record, one after the other
parts_words : (e : EntryParts) → catalogue_bytes layout (parts_record e ∷ [])
    ≡ words_bytes (first_of (record { kind = kind_number a_entry; place = 0; maturity = e.maturity; doc_present = 0; flags = 0; name = e.name; name_length = e.end - e.name; first_privilege = View; second_privilege = View }) ∷ e.code ∷ [])
unfolding catalogue_bytes catalogue_words each record_words layout further_word plain from_top width packed offset size
parts_words e = refl

pub put_entry : (e : EntryParts) (p w : ℕ) (l l₁ : List ℕ)
    → w ≡ first_of (record { kind = kind_number a_entry; place = 0; maturity = e.maturity; doc_present = 0; flags = 0; name = e.name; name_length = e.end - e.name; first_privilege = View; second_privilege = View })
    → l₁ ≡ put p (words_bytes (w ∷ e.code ∷ [])) l → l₁ ≡ put p (catalogue_bytes layout (parts_record e ∷ [])) l
put_entry e p w l l₁ z e₁ = rw (parts_words e) (rw z at e₁)

-- the record of an entry that was read
entry_parts : {b c : ℕ} {u : List ℕ} (e : EntryParts) → EntryBounds b u e c → c ≤ b + length u → parts_record e ≡ entry_record (entry_at b u e)
unfolding entry_record
entry_parts {b} {u = u} e v i = rw (extent_between b u e.name e.end v.from (omega (arith, v.up)) (omega (arith, v.follows, v.inside, i)))

-- without annotations there are no words of theirs
no_words : (l : List Annotation) → word_count layout (map annotation_record l) ≡ 0 → l ≡ []
no_words [] e = refl
no_words (a ∷ l) e = absurd (omega (arith, e, word_count_append (annotation_record a ∷ []) (map annotation_record l), annotation_words a))

-- the records of an entry that was read from b on, once they are in the buffer
module _ {b c : ℕ} {u : List ℕ} (e : EntryParts) (v : EntryBounds b u e c) (i : c ≤ b + length u) (at : ℕ) (old : List ℕ) {mid : List ℕ} (h : mid ≡ put at (catalogue_bytes layout (parts_record e ∷ [])) old) where
  pub entry_alone : e.words ≡ 0 → mid ≡ put at (catalogue_bytes layout (entry_records (entry_at b u e))) old
  unfolding entry_records
  entry_alone z =
      let own = ap (λ (y : Record). y ∷ []) (entry_parts e v i) in
      let none = ap (λ (l : List Annotation). entry_record (entry_at b u e) ∷ map annotation_record l) (sym (no_words (entry_at b u e).annotations (v.words ∙ z))) in
      h ∙ ap (λ (l : List Record). put at (catalogue_bytes layout l) old) (own ∙ none)

  pub entry_annotated : {new r : List ℕ} → Rest b u e.list r → at + 8 * (2 + e.words) ≤ length old → new ≡ put (at + 16) (catalogue_bytes layout (map annotation_record (annotations_at e.list r))) mid → new ≡ put at (catalogue_bytes layout (entry_records (entry_at b u e))) old
  unfolding entry_records
  entry_annotated {new} {r} q k g =
      let one = parts_record e ∷ [] in
      let more = map annotation_record (entry_at b u e).annotations in
      let size : length (catalogue_bytes layout one) ≡ 16 = catalogue_bytes_length one ∙ ap (λ (n : ℕ). 8 * n) (parts_count e) in
      let g' : new ≡ put (at + 16) (catalogue_bytes layout more) mid = g ∙ ap (λ (x : List ℕ). put (at + 16) (catalogue_bytes layout (map annotation_record (annotations_at e.list x))) mid) q.same in
      let x = put_on at (at + 16) (catalogue_bytes layout one) (catalogue_bytes layout more) old mid new (omega (arith, size)) (omega (arith, k, catalogue_bytes_length more, v.words)) h g' in
      x ∙ ap (λ (l : List ℕ). put at l old) (sym (catalogue_bytes_append layout one more) ∙ ap (λ (y : Record). catalogue_bytes layout (y ∷ more)) (entry_parts e v i))

-- what the annotations of an entry ask for, where there are some
pub annotations_ask : {b c n : ℕ} {u r : List ℕ} (e : EntryParts) (at : ℕ) → EntryBounds b u e c → Rest b u e.list r → at + 8 * (2 + e.words) ≤ n → (e.words ≡ 0 → ⊥)
    → (0 < word_count layout (map annotation_record (annotations_at e.list r))) × (at + 16 + 8 * word_count layout (map annotation_record (annotations_at e.list r)) ≤ n)
annotations_ask e at v q k z =
    let w = ap (λ (x : List ℕ). word_count layout (map annotation_record (annotations_at e.list x))) q.same ∙ v.words in
    (omega (arith, w, z), omega (arith, k, w))

-- A turn of both passes.
pub entry_wider : {b c d : ℕ} {u : List ℕ} {e : EntryParts} → EntryBounds b u e c → c ≤ d → EntryBounds b u e d
entry_wider v h = record { from = v.from; up = v.up; follows = v.follows; inside = omega (arith, v.inside, h); words = v.words; few = omega (arith, v.few, h) }

pub entry_count : (b c : ℕ) (u : List ℕ) (e : EntryParts) → EntryBounds b u e c → word_count layout (entry_records (entry_at b u e)) ≡ 2 + e.words
entry_count b c u e v = entry_words (entry_at b u e) ∙ ap (λ (x : ℕ). 2 + x) v.words

pub entry_few : {n c : ℕ} {r : List ℕ} {e : EntryParts} → EntryBounds n r e c → 2 + e.words ≤ 8 * (c - n)
entry_few v = omega (arith, v.from, v.up, v.follows, v.inside, v.few)

pub entries_repeat : Repeats (each entry_records) entry_records blank_entry entry_at (λ u b e. EntryBounds b u e) (λ e. 2 + e.words)
entries_repeat = record { takes = blank_entry_consumes; chain = blank_entry_inside.on_chain; elementwise = each_elementwise entry_records; words = entry_count; few = λ b c u e h v. entry_few h }
