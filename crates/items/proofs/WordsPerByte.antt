-- The records of what is read take at most a word for each byte of its text.
-- A parser's value has a weight: its certificate says that the value weighs at most the bytes that were read, and n more that are before them.
-- Each token counts as one byte, blanks and optional parts as none, and that is enough.
use Prim.Native.Nat.{ℕ, zero, suc, ◌+◌, ◌≤◌}
use mathlib.Core.Path.{◌≡◌, refl, sym, ◌∙◌, ap}
use mathlib.Core.Option.{Option, none, some}
use mathlib.Core.List.{List, [], ◌∷◌, ◌++◌, map, append_assoc, append-nil}
use native.Mathlib.Omega.{arith}
use lib.Dec.{lit≤}
use lib.ListN.{length}
use Rattle.lexing.specs.bytes.{ascii}
use Rattle.lexing.specs.reply.{Reply, ok, fail, stop, Parser, ret, ◌>>=◌, ◌>>◌, opt, no_nearer, ◌or◌, prepend, many_within, many0, iter_within, iter, fail_at, catch}
use Rattle.lexing.specs.words.{Word}
use Rattle.lexing.specs.word_sets.{set_flags}
use Rattle.lexing.specs.blanks.{Doc, whitespace0, whitespace1}
use Rattle.lexing.specs.strings.{quoted_string}
use Rattle.lexing.proofs.Runs.{suf_length}
use Rattle.lexing.proofs.Onward.{Ends, Onward, advances_onward, tag_advances}
use Rattle.lexing.proofs.Slicing.{walks}
use Rattle.lexing.proofs.Chain.{Shorter}
use Rattle.lexing.proofs.Locality.{OnChain, Consumes, chain_then, chain_opt, chain_local, chain_inside, chain_position}
use Rattle.lexing.proofs.TokenLocality.{parse_id_consumes, keyword_consumes, any_keyword_consumes, tag_consumes, integer_consumes, whitespace1_consumes, parse_id_chain, any_keyword_chain, whitespace0_chain, whitespace1_chain, quoted_chain, set_flags_chain}
use Rattle.items.specs.entries.{enclosed, where_missing, braces, api_maturity, constant_annotation, blank_annotation, annotations_in_brackets, constant_annotations_list, annotations_of, constant_entry, blank_entry, constant_entries, constant_entries_list, choice_head, choice_after_doc_maturity, parse_enum_after_doc_maturity, parse_bitmap_after_doc_maturity}
use Rattle.items.specs.structs.{parse_field, parse_struct_field, closed_field, fields_run, struct_fields, struct_type_of, struct_head, parse_struct_after_doc_maturity}
use Rattle.items.specs.members.{event_head, parse_event_after_doc_maturity, command_types, parse_command_after_doc_maturity, attribute_access, parse_attribute_after_doc_maturity}
use Rattle.items.specs.clusters.{Member, bitmap, enum, struct, attribute, command, event, mapped, parse_revision, member_tries, parse_cluster_member, cluster_members, cluster_head, parse_cluster}
use Rattle.items.specs.endpoints.{Tried, Deep, intercept, deep_step, deeper, deep_run, deep_place, deep_braces, device_version, device_type, attribute_instantiation, attribute_instance, command_instance, event_instance, instance_tries, cluster_instantiation, device, binding, instantiation, part_tries, endpoint_head, endpoint}
use Rattle.items.specs.items.{Item, cluster_item, endpoint_item, enum_item, bitmap_item, struct_item, blank_item, with_doc_maturity, item}
use Rattle.items.specs.records.{Record, plain, annotation_record, entry_records, choice_records, field_record, struct_records, attribute_records, command_record, event_records, member_records, cluster_records, instance_record, part_records, endpoint_records, item_records}
use Rattle.lexing.specs.buffers.{each}
use Rattle.items.specs.layout.{layout, record_words, catalogue_words, word_count}
use Rattle.items.specs.answers.items.{unhoisted_item}
use Rattle.lexing.proofs.Composed.{onward_then, onward_catch, onward_fail}
use Rattle.items.proofs.Locality.{api_maturity_local, punct_local, shared_before_local, max_length_local, list_marker_local, struct_type_of_local, access_to_inside, attribute_access_inside, side_local, device_version_local, default_attribute_value_local, attribute_handling_type_consumes, event_qualities_consumes, command_head_consumes, two_keywords_name_consumes, named_after_consumes, instantiation_head_consumes}
use Rattle.items.proofs.RecordWords.{word_count_none, each_elementwise, map_elementwise, word_count_more}
use Rattle.items.specs.inner.runs.{Elementwise}
use Rattle.items.proofs.Headed.{Headed, headed_words}
use Rattle.items.proofs.entries.Laws.{entry_words}
use Rattle.items.proofs.annotations.Laws.{annotation_words}
use Rattle.items.specs.inner.annotations.{optional_records}
use Rattle.items.proofs.choices.Laws.{choice_headed}
use Rattle.items.proofs.structs.Laws.{struct_headed}
use Rattle.items.proofs.events.Laws.{event_headed}
use Rattle.items.proofs.commands.Laws.{command_words}
use Rattle.items.proofs.attributes.Laws.{attribute_words}
use Rattle.items.proofs.clusters.Whole.{cluster_headed}
use Rattle.items.proofs.instances.Laws.{attribute_words as attribute_instance_words, command_words as command_instance_words, event_words as event_instance_words, instantiation_headed}
use Rattle.items.proofs.endpoints.Laws.{device_words, binding_words, endpoint_headed}

abbrev Weight : {A : Type 0} → ℕ → (A → ℕ) → List ℕ → Reply A → Type 0
Weight n w u (ok a c r) = w a + length r ≤ n + length u
Weight n w u (fail p) = Unit {0}
Weight n w u (stop k p) = Unit {0}

pub record Weighs {A : Type 0} (n : ℕ) (w : A → ℕ) (m : Parser A) : Type 0 where
  pub weighs : (b : ℕ) (u : List ℕ) → Weight n w u (m b u)

-- it reads k bytes or more
abbrev pub Takes : {A : Type 0} → ℕ → Parser A → Type 0
Takes k m = Weighs 0 (λ a. k) m

takes_some : {A : Type 0} {m : Parser A} → Consumes m → Takes 1 m
takes_some {A} {m} h = record { weighs = λ b u. go u (m b u) (h.consumes b u) }
  where
    go : (u : List ℕ) (x : Reply A) → Shorter u x → Weight 0 (λ a. 1) u x
    go u (ok a c r) k = omega (arith, k)
    go u (fail p) k = tt
    go u (stop n p) k = tt

takes_none : {A : Type 0} {m : Parser A} → Onward m → Takes 0 m
takes_none {A} {m} h = record { weighs = λ b u. go b u (m b u) (h.onward b u) }
  where
    go : (b : ℕ) (u : List ℕ) (x : Reply A) → Ends b u x → Weight 0 (λ a. 0) u x
    go b u (ok a c r) k = omega (arith, suf_length k.0)
    go b u (fail p) k = tt
    go b u (stop n p) k = tt

takes_any : {A : Type 0} {m : Parser A} → OnChain m → Takes 0 m
takes_any h = takes_none (walks h)

-- what is read after other bytes
weight_after : {A : Type 0} (w : A → ℕ) (k n : ℕ) (r u : List ℕ) → k + length r ≤ n + length u → (x : Reply A) → Weight k w r x → Weight n w u x
weight_after w k n r u h (ok a c q) v = omega (arith, h, v)
weight_after w k n r u h (fail p) v = tt
weight_after w k n r u h (stop i p) v = tt

further_weight : {A : Type 0} (w : A → ℕ) (n : ℕ) (u : List ℕ) (p : ℕ) (x : Reply A) → Weight n w u x → Weight n w u (no_nearer p x)
unfolding no_nearer
further_weight w n u p (ok a c r) h = h
further_weight w n u p (fail q) h = tt
further_weight w n u p (stop j q) h = tt

module _ {A : Type 0} {w : A → ℕ} where
  weighs_ret : {n : ℕ} (a : A) → w a ≤ n → Weighs n w (ret a)
  unfolding ret
  weighs_ret a h = record { weighs = λ b u. omega (arith, h) }

  weighs_fail : {n : ℕ} (p : ℕ) → Weighs n w (fail_at p)
  unfolding fail_at
  weighs_fail p = record { weighs = λ b u. tt }

  -- by another weight
  weighs_by : {j n : ℕ} {m : Parser A} {v : A → ℕ} → Weighs j v m → ((a : A) → w a + j ≤ n + v a) → Weighs n w m
  weighs_by {j} {n} {m} {v} h k = record { weighs = λ b u. go u (m b u) (h.weighs b u) }
    where
      go : (u : List ℕ) (x : Reply A) → Weight j v u x → Weight n w u x
      go u (ok a c r) i = omega (arith, i, k a)
      go u (fail p) i = tt
      go u (stop i p) q = tt

  weighs_catch : {n : ℕ} {m : Parser A} {k : ℕ → Parser A} → Weighs n w m → ((p : ℕ) → Weighs n w (k p)) → Weighs n w (catch m k)
  unfolding catch
  weighs_catch {n} {m} {k} v h = record { weighs = λ b u. go b u (m b u) refl (v.weighs b u) }
    where
      go : (b : ℕ) (u : List ℕ) (x : Reply A) → m b u ≡ x → Weight n w u x → Weight n w u (catch m k b u)
      go b u (ok a c r) e i = rw (e, catch) i
      go b u (fail p) e i = rw (e, catch) ((h p).weighs b u)
      go b u (stop j p) e i = rw (e, catch) tt

  weighs_or : {n : ℕ} {m k : Parser A} → Weighs n w m → Weighs n w k → Weighs n w (m or k)
  unfolding ◌or◌
  weighs_or {n} {m} {k} v h = record { weighs = λ b u. go b u (m b u) refl (v.weighs b u) }
    where
      go : (b : ℕ) (u : List ℕ) (x : Reply A) → m b u ≡ x → Weight n w u x → Weight n w u ((m or k) b u)
      go b u (ok a c r) e i = rw (e, ◌or◌) i
      go b u (fail p) e i = rw (e, ◌or◌) (further_weight w n u p (k b u) (h.weighs b u))
      go b u (stop j p) e i = rw (e, ◌or◌) tt

-- a part that may be absent
weighs_opt : {A : Type 0} {w : Option A → ℕ} {n : ℕ} {m : Parser A} → w none ≤ n → Weighs n (λ a. w (some a)) m → Weighs n w (opt m)
unfolding opt
weighs_opt {A} {w} {n} {m} h v = record { weighs = λ b u. go b u (m b u) refl (v.weighs b u) }
  where
    go : (b : ℕ) (u : List ℕ) (x : Reply A) → m b u ≡ x → Weight n (λ a. w (some a)) u x → Weight n w u (opt m b u)
    go b u (ok a c r) e i = rw (e, opt) i
    go b u (fail p) e i = rw (e, opt) (omega (arith, h))
    go b u (stop j p) e i = rw (e, opt) tt

module _ {A B : Type 0} {w : B → ℕ} {m : Parser A} where
  weighs_bind : {n : ℕ} {v : A → ℕ} {k : A → Parser B} → Weighs 0 v m → ((a : A) → Weighs (n + v a) w (k a)) → Weighs n w (m >>= k)
  unfolding ◌>>=◌
  weighs_bind {n} {v} {k} h g = record { weighs = λ b u. go b u (m b u) refl (h.weighs b u) }
    where
      go : (b : ℕ) (u : List ℕ) (x : Reply A) → m b u ≡ x → Weight 0 v u x → Weight n w u ((m >>= k) b u)
      go b u (ok a c r) e i = rw (e, ◌>>=◌) (weight_after w (n + v a) n r u (omega (arith, i)) (k a c r) ((g a).weighs c r))
      go b u (fail p) e i = rw (e, ◌>>=◌) tt
      go b u (stop j p) e i = rw (e, ◌>>=◌) tt

  weighs_then : {n j : ℕ} {k : Parser B} → Takes j m → Weighs (n + j) w k → Weighs n w (m >> k)
  unfolding ◌>>◌
  weighs_then h g = weighs_bind h (λ a. g)

  weighs_mapped : {n : ℕ} (f : A → B) → Weighs n (λ a. w (f a)) m → Weighs n w (mapped m f)
  unfolding mapped ◌>>=◌ ret
  weighs_mapped {n} f h = record { weighs = λ b u. go b u (m b u) refl (h.weighs b u) }
    where
      go : (b : ℕ) (u : List ℕ) (x : Reply A) → m b u ≡ x → Weight n (λ a. w (f a)) u x → Weight n w u (mapped m f b u)
      go b u (ok a c r) e i = rw (e, mapped, ◌>>=◌) i
      go b u (fail p) e i = rw (e, mapped, ◌>>=◌) tt
      go b u (stop j p) e i = rw (e, mapped, ◌>>=◌) tt

-- a loop over a state: the state weighs at most what has been read
module _ {S : Type 0} (w : S → ℕ) {f : S → Parser S} {g : ℕ → S → S} (v : (s : S) → Weighs (w s) w (f s)) (k : (p : ℕ) (s : S) → w (g p s) ≤ w s) where
  iter_within_lem : (n : ℕ) (s : S) → Weighs (w s) w (iter_within n f g s)
  unfolding iter_within
  iter_within_lem zero s = record { weighs = λ b u. omega arith }
  iter_within_lem (suc n) s = record { weighs = λ b u. go b u (f s b u) refl ((v s).weighs b u) (iter_within_lem n) }
    where
      go : (b : ℕ) (u : List ℕ) (x : Reply S) → f s b u ≡ x → Weight (w s) w u x → ((t : S) → Weighs (w t) w (iter_within n f g t)) → Weight (w s) w u (iter_within (suc n) f g s b u)
      go b u (ok t c r) e i ih = rw (e, iter_within) (weight_after w (w t) (w s) r u i (iter_within n f g t c r) ((ih t).weighs c r))
      go b u (fail p) e i ih = rw (e, iter_within) (omega (arith, k p s))
      go b u (stop j p) e i ih = rw (e, iter_within) tt

  weighs_iter : (s : S) → Weighs (w s) w (iter f g s)
  unfolding iter
  weighs_iter s = record { weighs = λ b u. (iter_within_lem (suc (length u)) s).weighs b u }

-- A list whose records are those of its elements.
no_records : {A : Type 0} {records : List A → List Record} {one : A → List Record} → Elementwise records one → word_count layout (records []) ≡ 0
no_records e = ap (word_count layout) e.nothing ∙ word_count_none

module _ {A : Type 0} {records : List A → List Record} {one : A → List Record} (e : Elementwise records one) {m : Parser A} (v : Weighs 0 (λ a. word_count layout (one a)) m) where
  abbrev following : List A → List A → ℕ
  following l k = word_count layout (records (l ++ k))

  prepend_weight : (l : List A) (a : A) (r u : List ℕ) → word_count layout (one a) + length r ≤ 0 + length u → (x : Reply (List A)) → Weight (word_count layout (records (l ++ (a ∷ [])))) (following (l ++ (a ∷ []))) r x → Weight (word_count layout (records l)) (following l) u (prepend a x)
  unfolding prepend
  prepend_weight l a r u h (ok k c q) i =
      let z : (l ++ (a ∷ [])) ++ k ≡ l ++ (a ∷ k) = append_assoc l (a ∷ []) k in
      omega (arith, h, word_count_more e l a, rw z at i)
  prepend_weight l a r u h (fail p) i = tt
  prepend_weight l a r u h (stop n p) i = tt

  nothing_more : (l : List A) (u : List ℕ) → following l [] + length u ≤ word_count layout (records l) + length u
  nothing_more l u = rw (append-nil l) (omega arith)

  many_within_lem : (n : ℕ) (l : List A) → Weighs (word_count layout (records l)) (following l) (many_within n m)
  unfolding many_within
  many_within_lem zero l = record { weighs = λ b u. nothing_more l u }
  many_within_lem (suc n) l = record { weighs = λ b u. go b u (m b u) refl (v.weighs b u) (many_within_lem n) }
    where
      go : (b : ℕ) (u : List ℕ) (x : Reply A) → m b u ≡ x → Weight 0 (λ a. word_count layout (one a)) u x → ((l : List A) → Weighs (word_count layout (records l)) (following l) (many_within n m)) → Weight (word_count layout (records l)) (following l) u (many_within (suc n) m b u)
      go b u (ok a c r) q i ih = rw (q, many_within) (prepend_weight l a r u i (many_within n m c r) ((ih (l ++ (a ∷ []))).weighs c r))
      go b u (fail p) q i ih = rw (q, many_within) (nothing_more l u)
      go b u (stop j p) q i ih = rw (q, many_within) tt

  weighs_many0 : Weighs 0 (λ l. word_count layout (records l)) (many0 m)
  unfolding many0
  weighs_many0 = record { weighs = λ b u. weight_after (following []) (word_count layout (records [])) 0 u u (omega (arith, no_records e)) (many_within (suc (length u)) m b u) ((many_within_lem (suc (length u)) []).weighs b u) }

-- between braces
weighs_enclosed : {A : Type 0} {w : A → ℕ} {m : Parser A} (g : A → ℕ → ℕ) → Weighs 0 w m → Weighs 0 w (enclosed m g)
unfolding enclosed
weighs_enclosed g v =
    weighs_then (takes_none (advances_onward (tag_advances 123))) (
    weighs_bind v λ a.
    weighs_then (takes_none (onward_catch (onward_then (walks whitespace0_chain) (advances_onward (tag_advances 125))) λ p. onward_fail (g a p))) (
    weighs_ret a (omega arith)))

weighs_braces : {A : Type 0} {w : A → ℕ} {m : Parser A} → Weighs 0 w m → Weighs 0 w (braces m)
unfolding braces
weighs_braces v = weighs_enclosed where_missing v

-- How many bytes the productions take at least, each token one. Certificates are found by search.
module _ {A B : Type 0} {w : B → ℕ} {n : ℕ} {m : Parser A} where
  some_bind : {k : A → Parser B} → Consumes m → ((a : A) → Weighs (n + 1) w (k a)) → Weighs n w (m >>= k)
  some_bind h = weighs_bind (takes_some h)

  some_then : {k : Parser B} → Consumes m → Weighs (n + 1) w k → Weighs n w (m >> k)
  some_then h = weighs_then (takes_some h)

  none_bind : {k : A → Parser B} → Takes 0 m → ((a : A) → Weighs n w (k a)) → Weighs n w (m >>= k)
  none_bind h v = weighs_bind h λ a. weighs_by (v a) λ x. omega arith

  none_then : {k : Parser B} → Takes 0 m → Weighs n w k → Weighs n w (m >> k)
  none_then h v = weighs_then h (weighs_by v λ x. omega arith)

blank : Takes 0 whitespace0
blank = takes_any whitespace0_chain

maturity : Takes 0 api_maturity
maturity = takes_any (chain_local api_maturity_local)

quoted : Takes 0 quoted_string
quoted = takes_any quoted_chain

optional : {A : Type 0} {m : Parser A} → OnChain m → Takes 0 (opt m)
optional h = takes_any (chain_opt h)

word_set : (ks : List (List ℕ)) → Takes 0 (set_flags ks)
word_set ks = takes_any (set_flags_chain ks)

struct_type : (k : Option Word) → Takes 0 (struct_type_of k)
struct_type k = takes_any (chain_local (struct_type_of_local k))

access : Takes 0 attribute_access
access = takes_any (chain_inside attribute_access_inside)

version : Takes 0 device_version
version = takes_any (chain_local device_version_local)

-- the tokens, and what is counted as none
ruleset tokens = (parse_id_consumes, keyword_consumes, any_keyword_consumes, tag_consumes, integer_consumes, whitespace1_consumes)

ruleset parts = (blank, maturity, quoted, optional, word_set, struct_type, access, version, chain_local, chain_inside, chain_then, any_keyword_chain, parse_id_chain, whitespace0_chain, whitespace1_chain, shared_before_local, max_length_local, list_marker_local, side_local, access_to_inside, default_attribute_value_local)

ruleset takes_rules = (some_bind, some_then, none_bind, none_then, tokens, parts, weighs_ret, lit≤)

blank_annotation_takes : Takes 2 blank_annotation
unfolding blank_annotation constant_annotation
blank_annotation_takes = search (takes_rules, punct_local) depth 24

choice_head_takes : (k : List ℕ) → Takes 3 (choice_head k)
unfolding choice_head
choice_head_takes k = search takes_rules depth 30

parse_field_takes : Takes 5 parse_field
unfolding parse_field
parse_field_takes = search takes_rules depth 30

parse_struct_field_takes : Takes 5 parse_struct_field
unfolding parse_struct_field
parse_struct_field_takes = search (takes_rules, weighs_bind, parse_field_takes) depth 20

closed_field_takes : Takes 4 closed_field
unfolding closed_field
closed_field_takes = search (takes_rules, weighs_bind, parse_struct_field_takes) depth 20

struct_head_takes : Takes 3 struct_head
unfolding struct_head
struct_head_takes = search takes_rules depth 30

event_head_takes : Takes 3 event_head
unfolding event_head
event_head_takes = search (takes_rules, event_qualities_consumes) depth 20

command_types_takes : Takes 4 command_types
unfolding command_types
command_types_takes = search takes_rules depth 20

command_takes : (d : Doc) (m : ℕ) → Takes 5 (parse_command_after_doc_maturity d m)
unfolding parse_command_after_doc_maturity
command_takes d m = search (takes_rules, command_head_consumes, weighs_bind, command_types_takes) depth 20

attribute_takes : (d : Doc) (m : ℕ) → Takes 6 (parse_attribute_after_doc_maturity d m)
unfolding parse_attribute_after_doc_maturity
attribute_takes d m = search (takes_rules, weighs_bind, parse_struct_field_takes) depth 20

cluster_head_takes : Takes 4 cluster_head
unfolding cluster_head
cluster_head_takes = search takes_rules depth 30

device_type_takes : Takes 3 device_type
unfolding device_type
device_type_takes = search (takes_rules, two_keywords_name_consumes) depth 20

attribute_instantiation_takes : Takes 2 attribute_instantiation
unfolding attribute_instantiation
attribute_instantiation_takes = search (takes_rules, attribute_handling_type_consumes) depth 20

endpoint_head_takes : Takes 2 endpoint_head
unfolding endpoint_head
endpoint_head_takes = search takes_rules depth 12

-- a head and then a list: the head takes as many bytes as its record has words
headed_weighs : {I H L A : Type 0} {m : I → Parser A} {records : I → A → List Record} {head : Parser H} {list : Parser L} {rs : L → List Record} {k : ℕ} → Headed m records head list rs k
    → Takes k head → Weighs 0 (λ l. word_count layout (rs l)) list → (i : I) → Weighs 0 (λ a. word_count layout (records i a)) (m i)
headed_weighs d h v i = rw (d.reads i) (weighs_bind h λ x. weighs_bind v λ l. weighs_ret _ (omega (arith, headed_words d i x l)))

-- annotations
annotations_weigh : Weighs 0 (λ l. word_count layout (map annotation_record l)) annotations_in_brackets
unfolding annotations_in_brackets
annotations_weigh =
    none_then (takes_none (advances_onward (tag_advances 91))) (
    weighs_bind (weighs_many0 (map_elementwise annotation_record) (weighs_by blank_annotation_takes λ a. omega (arith, annotation_words a))) λ l.
    none_then blank (none_then (takes_none (advances_onward (tag_advances 93))) (weighs_ret l (omega arith))))

annotations_list_weighs : Weighs 0 (λ o. word_count layout (optional_records o)) constant_annotations_list
unfolding constant_annotations_list annotations_of
annotations_list_weighs = weighs_opt (omega (arith, word_count_none)) annotations_weigh

-- entries, enums and bitmaps: a name, an = and a code take three bytes
entry_weighs : Weighs 0 (λ e. word_count layout (entry_records e)) blank_entry
unfolding blank_entry constant_entry
entry_weighs =
    none_then blank (none_then blank (none_bind maturity λ m. none_then blank (some_bind parse_id_consumes λ n. none_then blank (some_then (tag_consumes 61) (none_then blank (some_bind integer_consumes λ c.
    none_then blank (weighs_bind annotations_list_weighs λ a. none_then blank (some_then (tag_consumes 59) (weighs_ret _ (omega (arith, entry_words (record { maturity = m; name = n; code = c; annotations = annotations_of a }))))))))))))

entries_weigh : Weighs 0 (λ l. word_count layout (each entry_records l)) constant_entries_list
unfolding constant_entries_list constant_entries
entries_weigh = weighs_braces (weighs_many0 (each_elementwise entry_records) entry_weighs)

choice_weighs : (kind place : ℕ) (k : List ℕ) (d : Doc) (m : ℕ) → Weighs 0 (λ c. word_count layout (choice_records kind place c)) (choice_after_doc_maturity k d m)
choice_weighs kind place k d m = headed_weighs (choice_headed k) (choice_head_takes k) entries_weigh (record { kind = kind; place = place; doc = d; maturity = m })

-- structs and events
fields_weigh : Weighs 0 (λ l. word_count layout (map field_record l)) struct_fields
unfolding struct_fields fields_run word_count catalogue_words each record_words layout field_record plain
fields_weigh = weighs_braces (weighs_many0 (map_elementwise field_record) (weighs_by closed_field_takes λ f. lit≤ tt))

struct_weighs : (place : ℕ) (d : Doc) (m : ℕ) → Weighs 0 (λ s. word_count layout (struct_records place s)) (parse_struct_after_doc_maturity d m)
struct_weighs place d m = headed_weighs struct_headed struct_head_takes fields_weigh (record { kind = 5; place = place; doc = d; maturity = m })

event_weighs : (d : Doc) (m : ℕ) → Weighs 0 (λ e. word_count layout (event_records e)) (parse_event_after_doc_maturity d m)
event_weighs d m = headed_weighs event_headed event_head_takes fields_weigh (record { kind = 9; place = 0; doc = d; maturity = m })

-- attributes and commands, as lists of their records
attribute_weighs : (d : Doc) (m : ℕ) → Weighs 0 (λ a. word_count layout (attribute_records a)) (parse_attribute_after_doc_maturity d m)
attribute_weighs d m = weighs_by (attribute_takes d m) λ a. omega (arith, attribute_words a)

command_weighs : (d : Doc) (m : ℕ) → Weighs 0 (λ c. word_count layout (command_record c ∷ [])) (parse_command_after_doc_maturity d m)
command_weighs d m = weighs_by (command_takes d m) λ c. omega (arith, command_words c)

-- clusters
abbrev member_words : Member → ℕ
member_words x = word_count layout (member_records (λ y. 0) x)

revision_weighs : Weighs 0 member_words parse_revision
unfolding parse_revision member_records word_count catalogue_words each
revision_weighs = search takes_rules depth 12

member_tries_weigh : (d : Doc) (m : ℕ) → Weighs 0 member_words (member_tries d m)
unfolding member_tries member_records parse_bitmap_after_doc_maturity parse_enum_after_doc_maturity
member_tries_weigh d m =
    weighs_or revision_weighs (
    weighs_or (weighs_mapped bitmap (choice_weighs 3 0 (ascii "bitmap") d m)) (
    weighs_or (weighs_mapped enum (choice_weighs 2 0 (ascii "enum") d m)) (
    weighs_or (weighs_mapped struct (struct_weighs 0 d m)) (
    weighs_or (weighs_mapped attribute (attribute_weighs d m)) (
    weighs_or (weighs_mapped command (command_weighs d m)) (
    weighs_mapped event (event_weighs d m)))))))

member_weighs : Weighs 0 member_words parse_cluster_member
unfolding parse_cluster_member
member_weighs = weighs_bind blank λ d. weighs_bind maturity λ m. weighs_then blank (member_tries_weigh d m)

members_weigh : Weighs 0 (λ l. word_count layout (each (member_records (λ y. 0)) l)) (braces cluster_members)
unfolding cluster_members
members_weigh = weighs_braces (weighs_many0 (each_elementwise (member_records (λ y. 0))) member_weighs)

cluster_weighs : Weighs 0 (λ c. word_count layout (cluster_records (λ y. 0) c)) parse_cluster
unfolding parse_cluster
cluster_weighs =
    weighs_bind blank λ d.
    weighs_bind maturity λ m.
    weighs_then blank (headed_weighs cluster_headed cluster_head_takes members_weigh (record { kind = 1; place = 0; doc = d; maturity = m }))

-- tries that keep the furthest place
weighs_intercept : {A : Type 0} {w : A → ℕ} {m : Parser A} {k : ℕ → Parser (Tried A)} (q : ℕ) → Weighs 0 w m → ((q : ℕ) → Weighs 0 (λ t. w t.value) (k q)) → Weighs 0 (λ t. w t.value) (intercept q m k)
unfolding intercept
weighs_intercept q v h = weighs_catch (weighs_mapped _ v) (λ p. h _)

module _ {A : Type 0} {records : List A → List Record} {one : A → List Record} (e : Elementwise records one) {f : ℕ → Parser (Tried A)} (v : (q : ℕ) → Weighs 0 (λ t. word_count layout (one t.value)) (f q)) where
  abbrev deep_words : Deep A → ℕ
  deep_words s = word_count layout (records s.read)

  deep_step_weighs : (s : Deep A) → Weighs (deep_words s) deep_words (deep_step f s)
  unfolding deep_step
  deep_step_weighs s = weighs_then blank (weighs_mapped _ (weighs_by (v s.deepest) λ t. omega (arith, word_count_more e s.read t.value)))

  deep_run_weighs : Weighs 0 deep_words (deep_run f)
  unfolding deep_run deeper
  deep_run_weighs = weighs_bind (takes_any chain_position) λ b. weighs_by (weighs_iter deep_words deep_step_weighs (λ p s. omega arith) _) λ s. omega (arith, no_records e)

  deep_braces_weigh : Weighs 0 (λ l. word_count layout (records l)) (deep_braces f)
  unfolding deep_braces
  deep_braces_weigh = weighs_mapped _ (weighs_enclosed deep_place deep_run_weighs)

-- instances, parts and endpoints
instance_weighs : (q : ℕ) → Weighs 0 (λ t. word_count layout (instance_record t.value ∷ [])) (instance_tries q)
unfolding instance_tries
instance_weighs q =
    weighs_intercept q (weighs_mapped attribute_instance (weighs_by attribute_instantiation_takes λ a. omega (arith, attribute_instance_words a))) λ q.
    weighs_intercept q (weighs_mapped command_instance (weighs_by (takes_some (named_after_consumes _ _)) λ n. omega (arith, command_instance_words n))) λ q.
    weighs_intercept q (weighs_mapped event_instance (weighs_by (takes_some (named_after_consumes _ _)) λ n. omega (arith, event_instance_words n))) λ q.
    weighs_fail q

instantiation_weighs : Weighs 0 (λ i. word_count layout (part_records (instantiation i))) cluster_instantiation
instantiation_weighs = headed_weighs instantiation_headed (takes_some instantiation_head_consumes) (deep_braces_weigh (map_elementwise instance_record) instance_weighs) tt

part_weighs : (q : ℕ) → Weighs 0 (λ t. word_count layout (part_records t.value)) (part_tries q)
unfolding part_tries
part_weighs q =
    weighs_intercept q (weighs_mapped device (weighs_by device_type_takes λ t. omega (arith, device_words t))) λ q.
    weighs_intercept q (weighs_mapped binding (weighs_then blank (weighs_by (takes_some (named_after_consumes _ _)) λ n. omega (arith, binding_words n)))) λ q.
    weighs_intercept q (weighs_mapped instantiation instantiation_weighs) λ q.
    weighs_fail q

endpoint_weighs : Weighs 0 (λ e. word_count layout (endpoint_records e)) endpoint
endpoint_weighs = headed_weighs endpoint_headed endpoint_head_takes (deep_braces_weigh (each_elementwise part_records) part_weighs) tt

-- items
weighs_after_doc : {A : Type 0} {w : A → ℕ} {f : Doc → ℕ → Parser A} → ((d : Doc) (m : ℕ) → Weighs 0 w (f d m)) → Weighs 0 w (with_doc_maturity f)
unfolding with_doc_maturity
weighs_after_doc v = weighs_bind blank λ d. weighs_then blank (weighs_bind maturity λ m. weighs_then blank (v d m))

blank_item_weighs : Weighs 0 (λ i. word_count layout (unhoisted_item i)) (whitespace1 >> ret blank_item)
unfolding item_records
blank_item_weighs = weighs_then (takes_any whitespace1_chain) (weighs_ret blank_item (omega (arith, word_count_none)))

pub item_weighs : Weighs 0 (λ i. word_count layout (unhoisted_item i)) item
unfolding item item_records parse_enum_after_doc_maturity parse_bitmap_after_doc_maturity
item_weighs =
    weighs_or (weighs_mapped cluster_item cluster_weighs) (
    weighs_or (weighs_mapped endpoint_item endpoint_weighs) (
    weighs_or (weighs_mapped enum_item (weighs_after_doc (choice_weighs 2 1 (ascii "enum")))) (
    weighs_or (weighs_mapped bitmap_item (weighs_after_doc (choice_weighs 3 1 (ascii "bitmap")))) (
    weighs_or (weighs_mapped struct_item (weighs_after_doc (struct_weighs 1)))
    blank_item_weighs))))

-- the items that are read from a text take no more words than the bytes that they are read from
pub items_words : (b : ℕ) (u : List ℕ) {l : List Item} {c : ℕ} {r : List ℕ} → ok l c r ≡ many0 item b u → word_count layout (each unhoisted_item l) + length r ≤ length u
items_words b u e = let h = rw (sym e) at ((weighs_many0 (each_elementwise unhoisted_item) item_weighs).weighs b u) in omega (arith, h)
