-- Lists of privileges, and attributes.
use Rattle.items.specs.declared.attributes.Privileges.{Privileges}
use Rattle.lexing.specs.declared.answers.Refusal.TheVariants.{AccessNotLower}
use Rattle.lexing.specs.declared.answers.LostBy.TheVariants.{Fail, Stop}
use Rattle.std.specs.Prelude.{Ok, Err, Option as CodeOption, Some, None}
use mathlib.Core.Path.{◌≡◌, refl, sym, ap, ◌∙◌, subst, fun_ext}
use mathlib.Core.Logic.{◌⊎◌, inl, inr}
use mathlib.Core.Bool.{Bool, true, false}
use mathlib.Core.Option.{Option, none, some}
use mathlib.Core.List.{List, [], ◌∷◌, ◌++◌, append-nil}
use Prim.Native.Nat.{ℕ, zero, suc, ◌+◌, ◌-◌, ◌*◌, ◌≤◌, ◌<◌}
use native.Mathlib.Omega.{arith}
use lib.ListN.{length, take, drop, get_or}
use Rattle.lexing.specs.bytes.{ascii, byte, slash, within, lower}
use Rattle.lexing.specs.reply.{Reply, ok, fail, stop, Parser, ret, ◌>>=◌, ◌>>◌, catch, opt, prepend, many_within, many0, stop_at, pick}
use Rattle.lexing.specs.words.{Word, bytes_of, offset_of, is_keyword, is_lower, keyword, any_keyword, tag}
use Rattle.lexing.specs.blanks.{Doc, whitespace0}
use Rattle.lexing.specs.word_sets.{same_bytes}
use Rattle.lexing.specs.answers.{Rest, lost_reply, word_at, word_reply, SkipsAt, Lost}
use Rattle.lexing.proofs.Losses.{by_lost}
use Rattle.lexing.proofs.Onward.{Onward}
use Rattle.lexing.proofs.FirstWord.{blank_clear}
use Rattle.lexing.proofs.Locality.{OnChain, Consumes, chain_ret, chain_bind, chain_then, chain_inside, chain_opt, consumes_right, consumes_then_left, consumes_then_right}
use Rattle.lexing.proofs.TokenLocality.{keyword_chain, any_keyword_chain, keyword_consumes, whitespace0_chain, whitespace1_chain, set_flags_chain}
use Rattle.lexing.proofs.Pairs.{bind_same, bind_assoc, ret_first, pair_on, pair_fall}
use Rattle.lexing.proofs.Slicing.{Took, took, walks, reads_in, rest_self, blank_took, begin, go, on, lose, fall, done, or_here, or_next}
use Rattle.lexing.proofs.Repetition.{before, many0_more, many0_fail, before_cons}
use Rattle.lexing.proofs.blanks.Laws.{blanks_none}
use Rattle.lexing.proofs.words.Laws.{keyword_says, key_differs}
use Rattle.items.specs.members.{Access as AccessOf, access_privilege, access_entry, comma, separated_list0, access_list, Privileges as PrivilegesOf, granted_by, default_privileges, listed, attribute_access, Attribute as AttributeOf, parse_attribute_after_doc_maturity}
use Rattle.lexing.specs.buffers.{each, words_bytes, put}
use Rattle.items.specs.records.{Record, plain, documented, field_record, attribute_records, absent, bits}
use Rattle.items.specs.layout.{layout, record_words, catalogue_words, word_count, packed, width, from_top, offset, size, catalogue_bytes}
use Rattle.items.specs.answers.{Front, front_of, first_of, doc_span_word, doc_span_bit, Room, Written, kind_number}
use Rattle.items.specs.inner.attributes.{privileges_of, Grants, Granted, granted_of, PrivilegesTo, access_words, operation_of, OperationTo, grants_with, with_entry, grants_from, grants_after, AccessEntryTo, no_grants, AccessEntriesTo, AttributeHeadOf, attribute_head, attribute_head_of, AttributeHeadTo, attribute_first}
use Rattle.items.specs.declared.writing.FrontParts.{FrontParts}
use Rattle.items.specs.inner.fields.{field_parts, StructFieldTo}
use Rattle.items.specs.declared.attributes.Operation.{Operation}
use Rattle.items.specs.declared.attributes.Operation.TheVariants.{Read, Write, Neither}
use Rattle.items.specs.declared.attributes.AccessEntries.{AccessEntries}
use Rattle.items.specs.declared.attributes.AttributeHeadParts.{AttributeHeadParts}
use Rattle.items.specs.declared.fields.StructFieldParts.{StructFieldParts}
use Rattle.items.specs.structs.{StructField as StructFieldOf, parse_struct_field, closed_field}
use Rattle.lexing.proofs.AnswerLaws.{read_took}
use Rattle.items.proofs.Mapped.{TookAs, mapped_ok, read_as}
use Rattle.lexing.proofs.Calm.{Calm, calm_absent, calm_ret, calm_catch, calm_or, calm_many0, calm_bind, calm_then, calm_tag, calm_keyword, calm_any, calm_blanks}
use Rattle.items.proofs.Keywords.{keyword_missing}
use Rattle.lexing.proofs.Sequences.{bind_ok, then_ok, then_fail}
use Rattle.items.proofs.Locality.{access_entry_inside, access_entry_consumes, comma_local, separated_list0_inside, access_list_inside, attribute_access_inside, closed_field_consumes}
use Rattle.items.proofs.Headed.{Headed, further_on}
use Rattle.items.proofs.counts.Laws.{Counted}
use Rattle.items.proofs.Choice.{or_both}
use Rattle.items.proofs.writing.Laws.{documented_bytes, read_room, read_written}
use Rattle.items.proofs.structs.Laws.{other_case, by_case}
use Rattle.items.proofs.fields.Laws.{struct_field_took, closed_field_on, field_words, field_parts_is}
use Rattle.lexing.proofs.steps.Laws.{skips_lost}
use Rattle.lexing.proofs.answers.Laws.{opt_ok, opt_fail}
use Rattle.items.specs.declared.levels.Privilege.TheVariants.{View, Operate}
use Rattle.items.specs.declared.layout.Kind.TheVariants.{Attribute as a_attribute}

-- the word of an entry
pub read_operation : operation_of (ascii "read") ≡ Read
unfolding operation_of same_bytes
read_operation = refl

pub write_operation : operation_of (ascii "write") ≡ Write
unfolding operation_of same_bytes
write_operation = refl

other_operation : (w : List ℕ) → is_lower w ≡ false → operation_of w ≡ Neither
unfolding operation_of is_keyword lower within
other_operation w e = rw (other_case w (ascii "read") refl e, other_case w (ascii "write") refl e)

-- by whether it is in lower case
abbrev operation_by : Operation → Bool → Operation
operation_by k true = k
operation_by k false = Neither

module _ (k : List ℕ) (b : ℕ) (u : List ℕ) where
  pub operation_is : {c : ℕ} → word_reply (Ok c) b u ≡ keyword k b u → (x : Operation) → operation_of k ≡ x → (t : Bool) → is_lower (take (c - b) u) ≡ t → OperationTo (keyword k) (Some (operation_by x t, c)) b u
  unfolding bytes_of
  operation_is {c} h x s t z =
      let i : is_keyword (take (c - b) u) k ≡ true = rw (← h) at (keyword_says k b u) in
      record { reads = h; means = by_case operation_of (operation_by x) (take (c - b) u) k i s (other_operation (take (c - b) u)) ∙ ap (operation_by x) z }

  pub operation_not : (l : Lost) → lost_reply l ≡ keyword k b u → OperationTo (keyword k) None b u
  operation_not l h = record { reads = keyword_missing k b u l h; means = tt }

-- one of the two
module _ {b : ℕ} {u : List ℕ} where
  pub word_first : {x : Operation × ℕ} → OperationTo (keyword (ascii "read")) (Some x) b u → OperationTo (any_keyword access_words) (Some x) b u
  unfolding any_keyword
  word_first {x} h = record { reads = or_here _ _ b u _ x.1 (drop (x.1 - b) u) h.reads; means = h.means }

  pub word_second : (r : CodeOption (Operation × ℕ)) → OperationTo (keyword (ascii "read")) None b u → OperationTo (keyword (ascii "write")) r b u → OperationTo (any_keyword access_words) r b u
  unfolding any_keyword
  word_second (Some x) h g = record { reads = or_next _ _ b u b _ x.1 (drop (x.1 - b) u) h.reads (or_here _ _ b u _ x.1 (drop (x.1 - b) u) g.reads); means = g.means }
  word_second None h g = record { reads = sym (or_both _ _ (sym h.reads) (or_both _ _ (sym g.reads) refl)); means = tt }

-- as a step of a sequence
pub record TookOperation (b : ℕ) (u : List ℕ) (n : ℕ) (k : Operation) (c : ℕ) : Type 0 where
  pub value : Word
  pub names : operation_of (bytes_of value) ≡ k
  pub starts : offset_of value ≡ n
  pub step : Took (any_keyword access_words) b u n value c

pub operation_took : {b n c : ℕ} {u r : List ℕ} {k : Operation} → OperationTo (any_keyword access_words) (Some (k, c)) n r → Rest b u n r → TookOperation b u n k c
unfolding offset_of
operation_took {n = n} {c = c} {r = r} h q = record { value = word_at n r c; names = h.means; starts = refl; step = took (walks (any_keyword_chain access_words)) q h.reads }

-- what is granted with an entry more
grants_more : (g : Granted) (l : List AccessOf) (a : AccessOf) → grants_from g (l ++ (a ∷ [])) ≡ with_entry (grants_from g l) a
unfolding grants_from
grants_more g [] a = refl
grants_more g (x ∷ l) a = grants_more (with_entry g x) l a

-- an entry, which may be absent
entry_calm : Calm access_entry
unfolding access_entry access_privilege
entry_calm =
    let number : (w : List ℕ) (v : ℕ) → Calm (keyword w >> ret v) = λ w v. calm_then (calm_keyword w) (calm_ret v) in
    let privilege = calm_or (number _ 0) (calm_or (number _ 1) (calm_or (number _ 2) (number _ 3))) in
    calm_then calm_blanks (calm_bind (calm_any access_words) λ k. calm_then calm_blanks (calm_then (calm_tag 58) (calm_then calm_blanks (calm_bind privilege λ p. calm_then calm_blanks (calm_ret _)))))

pub entry_none : {g : Grants} (l : Lost) {b : ℕ} {u : List ℕ} → lost_reply l ≡ access_entry b u → AccessEntryTo g (record { grants = g; next = b }) b u
unfolding grants_after
entry_none {g} l {b} {u} e = record { reads = mapped_ok (grants_after (granted_of g)) (opt access_entry) b u none b (drop (b - b) u) refl (calm_absent entry_calm l e); within = tt }

pub entry_is : (g : Grants) {x : Grants} {b n c d : ℕ} {u : List ℕ} {k : Operation} {p : ℕ} (t : TookOperation b u n k c) → granted_of x ≡ grants_with (granted_of g) k p n
    → ok (record { operation = t.value; granted = p }) d (drop (d - b) u) ≡ access_entry b u → AccessEntryTo g (record { grants = x; next = d }) b u
unfolding grants_after with_entry
entry_is g {x} {b} {n} {c} {d} {u} {k} {p} t e h =
    let v : AccessOf = record { operation = t.value; granted = p } in
    let z : with_entry (granted_of g) v ≡ granted_of x = rw (t.names, t.starts) (sym e) in
    record { reads = mapped_ok (grants_after (granted_of g)) (opt access_entry) b u (some v) d (drop (d - b) u) z (opt_ok access_entry b u v d (drop (d - b) u) h); within = tt }

-- it takes a byte, so that it is there where reading goes on after its start
pub record TookEntry (g : Grants) (b : ℕ) (u : List ℕ) (n : ℕ) (e : AccessEntries) : Type 0 where
  pub value : AccessOf
  pub is : with_entry (granted_of g) value ≡ granted_of e.grants
  pub step : Took access_entry b u n value e.next

module _ (g : Grants) {b n : ℕ} {u r : List ℕ} {e : AccessEntries} (q : Rest b u n r) (h : AccessEntryTo g e n r) where
  optional : TookAs (grants_after (granted_of g)) (opt access_entry) b u n (granted_of e.grants) e.next
  optional = read_as h (walks (chain_opt (chain_inside access_entry_inside))) q

  entry_cases : TookEntry g b u n e ⊎ ((e.next ≡ n) × ((p : ℕ) × (fail p ≡ access_entry n (drop (n - b) u))))
  unfolding grants_after
  entry_cases = go (access_entry n (drop (n - b) u)) refl
    where
      go : (x : Reply AccessOf) → access_entry n (drop (n - b) u) ≡ x → TookEntry g b u n e ⊎ ((e.next ≡ n) × ((p : ℕ) × (fail p ≡ access_entry n (drop (n - b) u))))
      go (ok a d v) z =
          let t = optional in
          let i = sym t.step.goes ∙ sym (opt_ok access_entry _ _ _ _ _ (sym z)) in
          let x : t.value ≡ some a = cc in
          let y : ok a d v ≡ ok a e.next (drop (e.next - b) u) = cc in
          inl (record { value = a; is = subst (λ (o : Option AccessOf). grants_after (granted_of g) o ≡ granted_of e.grants) x t.is; step = record { goes = z ∙ y; up = t.step.up; inside = t.step.inside } })
      go (fail p) z = let t = optional in let i = sym t.step.goes ∙ sym (opt_fail access_entry _ _ _ (sym z)) in let y : e.next ≡ n = cc in inr (y, (p, sym z))
      go (stop j p) z = absurd (rw z at (entry_calm.runs n (drop (n - b) u)))

  entry_there : (e.next ≡ n → ⊥) → TookEntry g b u n e
  entry_there f = go entry_cases
    where
      go : TookEntry g b u n e ⊎ ((e.next ≡ n) × ((p : ℕ) × (fail p ≡ access_entry n (drop (n - b) u)))) → TookEntry g b u n e
      go (inl t) = t
      go (inr z) = absurd (f z.0)

  pub entry_on : (e.next ≡ n → ⊥) → n < e.next
  entry_on f = further_on access_entry_consumes q.from (entry_there f).step

  entry_absent : e.next ≡ n → (p : ℕ) × (fail p ≡ access_entry n (drop (n - b) u))
  entry_absent z = go entry_cases
    where
      go : TookEntry g b u n e ⊎ ((e.next ≡ n) × ((p : ℕ) × (fail p ≡ access_entry n (drop (n - b) u)))) → (p : ℕ) × (fail p ≡ access_entry n (drop (n - b) u))
      go (inl t) = let l = further_on access_entry_consumes q.from t.step in absurd (omega (arith, l, z))
      go (inr y) = y.1

-- a comma and an entry; the blanks between them are read once
abbrev separated_entry : Parser AccessOf
separated_entry = comma >> access_entry

module _ {A B C : Type 0} (m : Parser A) (p : Parser B) (k : Parser C) (n : ℕ) (v : List ℕ) where
  assoc_at : (x : Reply A) → (((λ b u. x) >> p) >> k) n v ≡ ((λ b u. x) >> (p >> k)) n v
  unfolding ◌>>◌ ◌>>=◌
  assoc_at (ok a c r) = refl
  assoc_at (fail q) = refl
  assoc_at (stop i q) = refl

  assoc : ((m >> p) >> k) n v ≡ (m >> (p >> k)) n v
  unfolding ◌>>◌ ◌>>=◌
  assoc = assoc_at (m n v)

module _ {A B : Type 0} (m : Parser A) (p q : Parser B) (e : (n : ℕ) (v : List ℕ) → p n v ≡ q n v) (n : ℕ) (v : List ℕ) where
  then_at : (x : Reply A) → ((λ b u. x) >> p) n v ≡ ((λ b u. x) >> q) n v
  unfolding ◌>>◌ ◌>>=◌
  then_at (ok a c r) = e c r
  then_at (fail i) = refl
  then_at (stop j i) = refl

  then_same : (m >> p) n v ≡ (m >> q) n v
  unfolding ◌>>◌ ◌>>=◌
  then_same = then_at (m n v)

blanks_once : {A : Type 0} (k : Parser A) (n : ℕ) (v : List ℕ) → (whitespace0 >> (whitespace0 >> k)) n v ≡ (whitespace0 >> k) n v
blanks_once k n v = go (whitespace0 n v) refl
  where
    go : (x : Reply Doc) → whitespace0 n v ≡ x → (whitespace0 >> (whitespace0 >> k)) n v ≡ (whitespace0 >> k) n v
    go (ok d c r) e = then_ok whitespace0 (whitespace0 >> k) e ∙ (then_ok whitespace0 k (blank_clear n v d c r e) ∙ sym (then_ok whitespace0 k e))
    go (fail p) e = then_fail whitespace0 (whitespace0 >> k) e ∙ sym (then_fail whitespace0 k e)
    go (stop i p) e = absurd (rw e at (calm_blanks.runs n v))

entry_after : (n : ℕ) (v : List ℕ) → (whitespace0 >> (ret (tt {0}) >> access_entry)) n v ≡ access_entry n v
unfolding access_entry ret ◌>>◌ ◌>>=◌
entry_after n v = blanks_once _ n v

separated_is : (n : ℕ) (v : List ℕ) → (whitespace0 >> (tag 44 >> access_entry)) n v ≡ separated_entry n v
unfolding comma
separated_is n v =
    sym (assoc whitespace0 (tag 44 >> (whitespace0 >> ret tt)) access_entry n v ∙
    then_same whitespace0 _ _ (λ n v. assoc (tag 44) (whitespace0 >> ret tt) access_entry n v ∙ then_same (tag 44) _ _ (λ n v. assoc whitespace0 (ret tt) access_entry n v ∙ entry_after n v) n v) n v)

separated_consumes : Consumes separated_entry
separated_consumes = consumes_then_right comma_local.on_chain access_entry_consumes

separated_calm : Calm separated_entry
unfolding comma
separated_calm = calm_then (calm_then calm_blanks (calm_then (calm_tag 44) (calm_then calm_blanks (calm_ret tt)))) entry_calm

-- where a failure is caught
module _ {A : Type 0} (m : Parser A) (h : ℕ → Parser A) (b : ℕ) (u : List ℕ) where
  catch_ok : (a : A) (c : ℕ) (r : List ℕ) → ok a c r ≡ m b u → ok a c r ≡ catch m h b u
  unfolding catch
  catch_ok a c r e = rw (sym e, catch)

  catch_fail : (p : ℕ) → fail p ≡ m b u → h p b u ≡ catch m h b u
  unfolding catch
  catch_fail p e = rw (sym e, catch)

-- a repetition never fails
within_ends : {A : Type 0} (n : ℕ) (m : Parser A) (b : ℕ) (u : List ℕ) (p : ℕ) → fail p ≡ many_within n m b u → ⊥
unfolding many_within prepend
within_ends zero m b u p e = let z : ◌≡◌ {A = ℕ} 0 1 = cc in omega arith
within_ends {A} (suc n) m b u p e = go (m b u) refl (within_ends n m)
  where
    after : (a : A) (x : Reply (List A)) → fail p ≡ prepend a x → (fail p ≡ x → ⊥) → ⊥
    after a (ok l c r) d k = let z : ◌≡◌ {A = ℕ} 0 1 = cc in omega arith
    after a (fail q) d k = k d
    after a (stop i q) d k = let z : ◌≡◌ {A = ℕ} 0 1 = cc in omega arith

    go : (x : Reply A) → m b u ≡ x → ((b : ℕ) (u : List ℕ) (p : ℕ) → fail p ≡ many_within n m b u → ⊥) → ⊥
    go (ok a c r) d ih = after a (many_within n m c r) (rw (d, many_within) at e) (ih c r p)
    go (fail q) d ih = let k = rw (d, many_within) at e in let z : ◌≡◌ {A = ℕ} 0 1 = cc in omega arith
    go (stop i q) d ih = let k = rw (d, many_within) at e in let z : ◌≡◌ {A = ℕ} 0 1 = cc in omega arith

many0_ends : {A : Type 0} (m : Parser A) (b : ℕ) (u : List ℕ) (p : ℕ) → fail p ≡ many0 m b u → ⊥
unfolding many0
many0_ends m b u p e = within_ends (suc (length u)) m b u p e

-- entries with commas between them
abbrev entries : Parser (List AccessOf)
entries = separated_list0 comma access_entry

abbrev some_entries : Parser (List AccessOf)
some_entries = access_entry >>= λ a. many0 separated_entry >>= λ l. ret (a ∷ l)

pub entries_onward : Onward entries
entries_onward = walks (chain_inside (separated_list0_inside comma_local access_entry_inside access_entry_consumes))

-- those up to a place: what they grant, and what is left to read
pub record Entered (b : ℕ) (u : List ℕ) (n : ℕ) (g : Grants) : Type 0 where
  pub seen : List AccessOf
  pub so_far : grants_from no_grants seen ≡ granted_of g
  pub from : b ≤ n
  pub inside : n ≤ b + length u
  pub left : entries b u ≡ before seen (many0 separated_entry n (drop (n - b) u))

-- before an entry: none was read, or a comma after some
pub data Entering (b : ℕ) (u : List ℕ) (n c : ℕ) (g : Grants) : Type 0 where
  first : n ≡ b → c ≡ b → granted_of g ≡ no_grants → Entering b u n c g
  next : Entered b u n g → {x : Unit {0}} → Took (whitespace0 >> tag 44) b u n x c → Entering b u n c g

pub entering_at : {b n c : ℕ} {u : List ℕ} {g : Grants} → Entering b u n c g → (b ≤ c) × (c ≤ b + length u)
entering_at (first z y x) = (omega arith, omega arith)
entering_at (next i t) = (omega (arith, i.from, t.up), t.inside)

-- the end
ended : {b n : ℕ} {u : List ℕ} {g : Grants} → Entered b u n g → (p : ℕ) → fail p ≡ separated_entry n (drop (n - b) u) → AccessEntriesTo (record { grants = g; next = n }) b u
ended {b} {n} {u} {g} i p e =
    let v = drop (n - b) u in
    let z : entries b u ≡ ok (i.seen ++ []) n v = i.left ∙ ap (before i.seen) (many0_fail separated_entry separated_consumes n v p (sym e)) in
    record { reads = mapped_ok (grants_from no_grants) entries b u i.seen n v i.so_far (ap (λ (l : List AccessOf). ok l n v) (sym (append-nil i.seen)) ∙ sym z); within = tt }

pub entries_end : {b n c : ℕ} {u r : List ℕ} {g : Grants} {e : AccessEntries} → Entering b u n c g → Rest b u c r → AccessEntryTo g e c r → e.next ≡ c → AccessEntriesTo (record { grants = g; next = n }) b u
unfolding separated_list0 ret grants_from
entries_end {b} {n} {c} {u} {r} {g} {e} (first z y x) q h d =
    let k = entry_absent g q h d in
    let i : fail k.0 ≡ access_entry b u = begin access_entry b u (subst (λ (o : ℕ). fail k.0 ≡ access_entry o (drop (o - b) u)) y k.1) in
    let j : ok [] b u ≡ entries b u = catch_fail some_entries (λ p. ret []) b u k.0 (begin some_entries b u (lose access_entry _ (Fail k.0) (rest_self b u) i)) in
    let o : b - b ≡ 0 = omega arith in
    rw z (record { reads = mapped_ok (grants_from no_grants) entries b u [] b (drop (b - b) u) (sym x) (rw o j); within = tt })
entries_end {b} {n} {c} {u} {r} {g} {e} (next i t) q h d = let k = entry_absent g q h d in ended i k.0 (pair_on _ _ _ t k.1 ∙ separated_is n (drop (n - b) u))

pub entries_closed : {b n : ℕ} {u : List ℕ} {g : Grants} {l : Lost} → Entered b u n g → SkipsAt (whitespace0 >> tag 44) (Err l) b u n → AccessEntriesTo (record { grants = g; next = n }) b u
entries_closed {b} {n} {u} {g} {l} i h = go l (pair_fall _ _ access_entry l h.at (skips_lost h) ∙ separated_is n (drop (n - b) u))
  where
    go : (l : Lost) → lost_reply l ≡ separated_entry n (drop (n - b) u) → AccessEntriesTo (record { grants = g; next = n }) b u
    go =
        by_lost
        (λ l. lost_reply l ≡ separated_entry n (drop (n - b) u) → AccessEntriesTo (record { grants = g; next = n }) b u)
        (λ p e. ended i p e)
        (λ j p e. absurd (rw (← e) at (separated_calm.runs n (drop (n - b) u))))

-- one entry more
first_left : {b c : ℕ} {u : List ℕ} {a : AccessOf} → Took access_entry b u b a c → (x : Reply (List AccessOf)) → many0 separated_entry c (drop (c - b) u) ≡ x → entries b u ≡ before (a ∷ []) x
unfolding separated_list0 ret
first_left {b} {c} {u} {a} t (ok l d r) e = sym (catch_ok some_entries (λ p. ret []) b u (a ∷ l) d r (begin some_entries b u (go _ t (sym (bind_ok (many0 separated_entry) (λ l. ret (a ∷ l)) e)))))
first_left {b} {c} {u} {a} t (fail p) e = absurd (many0_ends separated_entry c (drop (c - b) u) p (sym e))
first_left {b} {c} {u} {a} t (stop i p) e = absurd (rw e at ((calm_many0 separated_calm).runs c (drop (c - b) u)))

pub entered : {b n c : ℕ} {u r : List ℕ} {g : Grants} {e : AccessEntries} → Entering b u n c g → Rest b u c r → AccessEntryTo g e c r → (e.next ≡ c → ⊥) → Entered b u e.next e.grants
unfolding grants_from
entered {b} {n} {c} {u} {r} {g} {e} (first z y x) q h f =
    let t = entry_there g q h f in
    let s : Took access_entry b u b t.value e.next = subst (λ (o : ℕ). Took access_entry b u o t.value e.next) y t.step in
    let i : with_entry no_grants t.value ≡ granted_of e.grants = subst (λ (o : Granted). with_entry o t.value ≡ granted_of e.grants) x t.is in
    record { seen = t.value ∷ []; so_far = i; from = s.up; inside = s.inside; left = first_left s (many0 separated_entry e.next (drop (e.next - b) u)) refl }
entered {b} {n} {c} {u} {r} {g} {e} (next i t) q h f =
    let s = entry_there g q h f in
    let v = drop (n - b) u in
    let k = pair_on _ _ _ t (sym s.step.goes) ∙ separated_is n v in
    record {
      seen = i.seen ++ (s.value ∷ []);
      so_far = grants_more no_grants i.seen s.value ∙ (ap (λ (o : Granted). with_entry o s.value) i.so_far ∙ s.is);
      from = omega (arith, i.from, t.up, s.step.up);
      inside = s.step.inside;
      left = i.left ∙ (ap (before i.seen) (many0_more separated_entry separated_consumes n v s.value e.next (drop (e.next - b) u) (sym k)) ∙ before_cons i.seen s.value (many0 separated_entry e.next (drop (e.next - b) u)));
    }

-- the list, which may be absent
list_calm : Calm access_list
unfolding access_list separated_list0
list_calm =
    let list = calm_catch (calm_bind entry_calm λ a. calm_bind (calm_many0 separated_calm) λ l. calm_ret _) (λ p. calm_ret _) in
    calm_then calm_blanks (calm_then (calm_keyword _) (calm_then calm_blanks (calm_then (calm_tag 40) (calm_then calm_blanks (calm_bind list λ l. calm_then calm_blanks (calm_then (calm_tag 41) (calm_ret _)))))))

list_on : Onward (opt access_list)
list_on = walks (chain_opt (chain_inside access_list_inside))

pub access_absent : (l : Lost) {b : ℕ} {u : List ℕ} → lost_reply l ≡ access_list b u → PrivilegesTo (Ok (record { read = View; write = Operate }, b)) b u
unfolding attribute_access default_privileges listed granted_by
access_absent l {b} {u} e = record { reads = begin attribute_access b u (go _ (took list_on (rest_self b u) (calm_absent list_calm l e)) (done _ _ _ _)); within = tt }

-- no list begins with this byte
pub access_elsewhere : {b : ℕ} {u : List ℕ} {x y : ℕ} → x ≡ get_or u 0 0 → y ≡ lower x → slash < x → (y ≡ 0x61 → ⊥) → PrivilegesTo (Ok (record { read = View; write = Operate }, b)) b u
unfolding access_list
access_elsewhere {b} {u} {x} {y} p q h n =
    let missing = key_differs (ascii "access") b u 0 (omega arith) (λ o w. n (q ∙ ap lower p ∙ o)) in
    access_absent (Fail b) (begin access_list b u (on _ (blank_took (rest_self b u) (blanks_none b u x p h)) (fall _ _ (Fail b) (rest_self b u) missing)))

-- the definition's fold over the list
abbrev granted : Granted → Parser PrivilegesOf
granted (Ok g) = ret g
granted (Err o) = stop_at 6 o

refused_stays : (o : ℕ) (l : List AccessOf) → grants_from (Err o) l ≡ Err o
unfolding grants_from with_entry
refused_stays o [] = refl
refused_stays o (a ∷ l) = refused_stays o l

granted_is : (g : PrivilegesOf) (l : List AccessOf) → granted_by g l ≡ granted (grants_from (Ok g) l)
unfolding granted_by grants_from with_entry operation_of pick
granted_is g [] = refl
granted_is g (a ∷ l) = go (same_bytes (bytes_of a.operation) (ascii "read")) refl (same_bytes (bytes_of a.operation) (ascii "write")) refl (λ g. granted_is g l)
  where
    go : (x : Bool) → same_bytes (bytes_of a.operation) (ascii "read") ≡ x → (y : Bool) → same_bytes (bytes_of a.operation) (ascii "write") ≡ y
        → ((g : PrivilegesOf) → granted_by g l ≡ granted (grants_from (Ok g) l)) → granted_by g (a ∷ l) ≡ granted (grants_from (Ok g) (a ∷ l))
    go true d y e ih = rw d (ih (record { read = a.granted; write = g.write }))
    go false d true e ih = rw (d, e) (ih (record { read = g.read; write = a.granted }))
    go false d false e ih = rw (d, e, refused_stays (offset_of a.operation) l)

folded : (l : List AccessOf) {g : Granted} → grants_from no_grants l ≡ g → granted_by default_privileges l ≡ granted g
unfolding default_privileges
folded l i = granted_is (record { read = 0; write = 1 }) l ∙ ap (λ (y : Granted). granted y) i

module _ {l : List AccessOf} {b c : ℕ} {u : List ℕ} where
  whole : ok l c (drop (c - b) u) ≡ access_list b u → Took (opt access_list) b u b (some l) c
  whole e = took list_on (rest_self b u) (opt_ok access_list b u l c (drop (c - b) u) e)

  pub access_grants : {p : Privileges} → grants_from no_grants l ≡ Ok (privileges_of p) → ok l c (drop (c - b) u) ≡ access_list b u → PrivilegesTo (Ok (p, c)) b u
  unfolding attribute_access listed
  access_grants i e = record { reads = begin attribute_access b u (go _ (whole e) (rw (folded l i) (done _ _ _ _))); within = tt }

  pub access_refused : {o : ℕ} → grants_from no_grants l ≡ Err o → ok l c (drop (c - b) u) ≡ access_list b u → PrivilegesTo (Err (Stop AccessNotLower o)) b u
  unfolding attribute_access listed stop_at
  access_refused i e = record { reads = begin attribute_access b u (go _ (whole e) (rw (folded l i))); within = tt }

pub attribute_access_onward : Onward attribute_access
attribute_access_onward = walks (chain_inside attribute_access_inside)

-- two words an attribute, and four its field
pub attribute_words : (a : AttributeOf) → word_count layout (attribute_records a) ≡ 6
unfolding word_count catalogue_words each record_words layout attribute_records field_record plain documented
attribute_words a = refl

-- an attribute up to its field
head_chain : OnChain attribute_head
unfolding attribute_head
head_chain = chain_bind (set_flags_chain _) λ q. chain_then whitespace0_chain (chain_then (keyword_chain _) (chain_then whitespace1_chain (chain_bind (chain_inside attribute_access_inside) λ p. chain_ret _)))

pub attribute_head_consumes : Consumes attribute_head
unfolding attribute_head
attribute_head_consumes = consumes_right (set_flags_chain _) λ q. consumes_then_right whitespace0_chain (consumes_then_left (keyword_consumes _) (chain_then whitespace1_chain (chain_bind (chain_inside attribute_access_inside) λ p. chain_ret _)))

pub attribute_head_took : {b c : ℕ} {u : List ℕ} {p : AttributeHeadParts} → AttributeHeadTo (Ok (p, c)) b u → Took attribute_head b u b (attribute_head_of p) c
attribute_head_took h = read_took h (walks head_chain) (rest_self _ _)

-- steps that are taken together are taken one after the other
one_by_one : {A B C : Type 0} (m : Parser A) (g : A → Parser B) (k : B → Parser C) (f : A → Parser C) → ((a : A) → f a ≡ (g a >>= k)) → (m >>= f) ≡ ((m >>= g) >>= k)
one_by_one {A} {B} {C} m g k f e = fun_ext λ n. fun_ext λ v. bind_same m f (λ a. g a >>= k) (λ a c r. ap (λ (p : Parser C). p c r) (e a)) n v ∙ sym (bind_assoc m g k n v)

made : {A B : Type 0} (a : A) (k : A → Parser B) → k a ≡ (ret a >>= k)
made a k = fun_ext λ n. fun_ext λ v. sym (ret_first a k n v)

field_steps : {A : Type 0} (k : StructFieldOf → Parser A) → (whitespace0 >> (parse_struct_field >>= λ f. whitespace0 >> (tag (byte ";") >> k f))) ≡ (closed_field >>= k)
unfolding closed_field ◌>>◌
field_steps k = one_by_one _ _ k _ λ x. one_by_one _ _ k _ λ f. one_by_one _ _ k _ λ y. one_by_one _ _ k _ λ z. made f k

abbrev attribute_of : Doc → ℕ → AttributeHeadOf → StructFieldOf → AttributeOf
attribute_of d m h f = record { doc = d; maturity = m; flags = h.flags; privileges = h.privileges; field = f }

attribute_steps : (d : Doc) (m : ℕ) → parse_attribute_after_doc_maturity d m ≡ (attribute_head >>= λ h. closed_field >>= λ f. ret (attribute_of d m h f))
unfolding parse_attribute_after_doc_maturity attribute_head ◌>>◌
attribute_steps d m =
    let k : AttributeHeadOf → Parser AttributeOf = λ h. closed_field >>= λ f. ret (attribute_of d m h f) in
    one_by_one _ _ k _ λ q. one_by_one _ _ k _ λ x. one_by_one _ _ k _ λ y. one_by_one _ _ k _ λ z. one_by_one _ _ k _ λ p. field_steps _ ∙ made (record { flags = q; privileges = p }) k

-- two words an attribute, and those of its field
pub attribute_headed : Headed {I = Front} (λ i. parse_attribute_after_doc_maturity i.doc i.maturity) (λ i. attribute_records) attribute_head closed_field (λ f. field_record f ∷ []) 2
unfolding word_count catalogue_words each record_words layout attribute_records documented
attribute_headed = record {
  make = λ i h f. attribute_of i.doc i.maturity h f;
  first = λ i h f. documented 7 0 i.maturity i.doc (bits 4 h.flags ∷ []) absent h.privileges.read h.privileges.write [];
  reads = λ i. attribute_steps i.doc i.maturity;
  hands = λ i h f. refl;
  size = λ i h f. refl;
}

-- its field, in both passes
module _ {n c : ℕ} {r : List ℕ} {s : StructFieldParts} (h : StructFieldTo closed_field (Ok (s, c)) n r) where
  pub field_counted : {b : ℕ} {u : List ℕ} → Rest b u n r → Counted (λ f. field_record f ∷ []) closed_field b u n 4 c
  field_counted q =
      let t = struct_field_took closed_field_on q h in
      record { value = _; words = field_words _; step = t; few = omega (arith, further_on closed_field_consumes q.from t) }

  pub field_room : {p k : ℕ} → Room (λ f. field_record f ∷ []) closed_field n r p k → p + 32 ≤ k
  field_room room = read_room h.reads (field_words _) room

  pub field_written : {p : ℕ} (to : ℕ) → to ≡ p + 32 → {old new : List ℕ} → new ≡ put p (catalogue_bytes layout (field_parts s ∷ [])) old → Written (λ f. field_record f ∷ []) closed_field n r p (record { next = c; to = to }) old new
  field_written to z g =
      let i = reads_in closed_field_on n c r _ h.reads in
      rw z (read_written h.reads (field_words _) (ap (λ (x : Record). x ∷ []) (field_parts_is n r s c h.within i.1)) g)

-- The second pass.

-- the two words of an attribute's first record
pub attribute_first_put : (f : FrontParts) (h : AttributeHeadParts) (p v : ℕ) (l l₁ : List ℕ) → v ≡ doc_span_bit f.doc
    → l₁ ≡ put p (words_bytes (first_of (record { kind = kind_number a_attribute; place = 0; maturity = f.maturity; doc_present = v; flags = h.flags * 8; name = 0; name_length = 0; first_privilege = h.read; second_privilege = h.write }) ∷ doc_span_word f.doc ∷ [])) l
    → l₁ ≡ put p (catalogue_bytes layout (attribute_first f h ∷ [])) l
unfolding from_top packed width offset size
attribute_first_put f h p v l l₁ d e =
    let y : h.flags * 8 ≡ from_top 7 (bits 4 h.flags ∷ []) = omega arith in
    rw (documented_bytes a_attribute 0 f.maturity f.doc (bits 4 h.flags ∷ []) absent h.read h.write [] (h.flags * 8) y) (rw (← d) e)

pub attribute_first_is : (f : FrontParts) (h : AttributeHeadParts) (l : StructFieldOf) → attribute_first f h ≡ attribute_headed.first (front_of f) (attribute_head_of h) l
unfolding attribute_headed
attribute_first_is f h l = refl
