-- Where a text is refused: the place of a failure and of a stop lies in the part that is read, and a stop's number is 4, 5 or 6.
use mathlib.Core.Path.{refl}
use Prim.Native.Nat.{ℕ, ◌+◌}
use mathlib.Core.Option.{Option, none, some}
use mathlib.Core.List.{List, [], ◌∷◌}
use native.Mathlib.Omega.{arith}
use lib.ListN.{length}
use Rattle.lexing.specs.reply.{Parser, fail_at}
use Rattle.lexing.specs.words.{Word, offset_of}
use Rattle.lexing.specs.blanks.{Doc}
use Rattle.lexing.proofs.Onward.{Onward, advances_onward, tag_advances}
use Rattle.lexing.proofs.Slicing.{walks}
use Rattle.lexing.proofs.Locality.{OnChain, LocalInside, Consumes, chain_position, chain_iter, chain_then, chain_opt, chain_local, chain_inside}
use Rattle.lexing.proofs.TokenLocality.{whitespace0_chain}
use Rattle.items.specs.entries.{enclosed, where_missing, braces, api_maturity, constant_annotation, blank_annotation, annotations_in_brackets, constant_annotations_list, constant_entry, blank_entry, constant_entries, constant_entries_list, shared_before, choice_head, choice_after_doc_maturity, parse_enum_after_doc_maturity, parse_bitmap_after_doc_maturity}
use Rattle.items.specs.structs.{max_length, list_marker, parse_field, parse_struct_field, closed_field, fields_run, struct_fields, response_code, type_by_word, struct_type_of, struct_head, parse_struct_after_doc_maturity}
use Rattle.items.specs.members.{access_privilege, event_priority, access_to, event_qualities, event_head, parse_event_after_doc_maturity, command_head, command_types, parse_command_after_doc_maturity, Access, access_entry, comma, separated_list0, access_list, Privileges, granted_by, listed, attribute_access, parse_attribute_after_doc_maturity}
use Rattle.items.specs.clusters.{mapped, parse_revision, member_tries, parse_cluster_member, cluster_members, side, cluster_head, cluster_after_doc_maturity, parse_cluster}
use Rattle.items.specs.endpoints.{Tried, Deep, intercept, deep_step, deeper, deep_run, deep_place, deep_braces, device_version, device_type, value_tries, default_attribute_value, attribute_handling_type, attribute_instantiation, instance_tries, instantiation_head, cluster_instantiation, part_tries, endpoint_head, endpoint}
use Rattle.items.specs.items.{with_doc_maturity, item}
use Rattle.items.proofs.Locality.{mapped_inside, api_maturity_local, constant_annotation_local, blank_entry_inside, closed_field_inside, access_list_inside, deep_run_inside, instance_tries_inside, instance_tries_consumes, part_tries_inside, part_tries_consumes}
use Rattle.lexing.proofs.Truth.{All, Read, Gives, gives_fail, gives_catch, gives_then, gives_bind, gives_iter}
use Rattle.lexing.proofs.RefusedPlaces.{InPart, Placed, furthest, fails_in, placed_ret, placed_fail, placed_stop, placed_pick, placed_catch, placed_opt, placed_or, placed_many0, placed_iter, placed_bind, placed_then, placed_last, placed_made, placed_position, position_in, placed_word, placed_tag, keyword_in, any_keyword_in, integer_in, signed_in, blank_in, gap_in, quoted_in, default_string_in, two_keywords_name_in, named_after_in, set_in}
use Rattle.items.proofs.Truth.{onward_rules, gives_mapped, AccessTrue, true_access, accesses_listed}

-- a value that a function changes
pub placed_mapped : {s : ℕ} {t : List ℕ} {A B : Type 0} {m : Parser A} (f : A → B) → Placed s t m → Placed s t (mapped m f)
unfolding mapped
placed_mapped f v = placed_made f v

module _ (s : ℕ) (t : List ℕ) where
  abbrev end : ℕ
  end = s + length t

  -- what is between braces: g is the place of a missing }
  enclosed_in : {A : Type 0} {m : Parser A} (g : A → ℕ → ℕ) → Onward m → Placed s t m → ((a : A) → Read s t end m a → (p : ℕ) → InPart s t p → InPart s t (g a p)) → Placed s t (enclosed m g)
  unfolding enclosed
  enclosed_in g w v k =
      placed_then (advances_onward (tag_advances 123)) (placed_tag 123) (placed_bind w v λ a h. placed_last a (placed_catch (placed_then (walks whitespace0_chain) blank_in (placed_tag 125)) λ p i. placed_fail (g a p) (k a h p i)))

  braces_in : {A : Type 0} {m : Parser A} → Onward m → Placed s t m → Placed s t (braces m)
  unfolding braces where_missing
  braces_in w v = enclosed_in where_missing w v (λ a h p i. i)

  -- Certificates of the productions, found by search.
  ruleset placed_rules = (placed_ret, placed_last, placed_then, placed_bind, placed_opt, placed_or, placed_pick, placed_catch, placed_mapped, placed_many0, braces_in, placed_word, placed_tag, keyword_in, any_keyword_in, integer_in, signed_in, blank_in, gap_in, quoted_in, default_string_in, set_in, onward_rules)

  -- entries, enums and bitmaps
  maturity_in : Placed s t api_maturity
  unfolding api_maturity
  maturity_in = search placed_rules depth 20

  annotations_in : Placed s t constant_annotations_list
  unfolding constant_annotations_list annotations_in_brackets blank_annotation constant_annotation
  annotations_in = search (placed_rules, constant_annotation_local) depth 24

  entry_in : Placed s t blank_entry
  unfolding blank_entry constant_entry
  entry_in = search (placed_rules, maturity_in, annotations_in) depth 30

  entries_in : Placed s t constant_entries_list
  unfolding constant_entries_list constant_entries
  entries_in = search (placed_rules, entry_in, blank_entry_inside) depth 8

  choice_head_in : (k : List ℕ) → Placed s t (choice_head k)
  unfolding choice_head shared_before
  choice_head_in k = search placed_rules depth 30

  choice_in : (k : List ℕ) (d : Doc) (m : ℕ) → Placed s t (choice_after_doc_maturity k d m)
  unfolding choice_after_doc_maturity
  choice_in k d m = search (placed_rules, choice_head_in, entries_in) depth 8

  -- fields and structs
  field_in : Placed s t parse_struct_field
  unfolding parse_struct_field parse_field max_length list_marker
  field_in = search (placed_rules, maturity_in) depth 30

  closed_field_in : Placed s t closed_field
  unfolding closed_field
  closed_field_in = search (placed_rules, field_in) depth 12

  fields_in : Placed s t struct_fields
  unfolding struct_fields fields_run
  fields_in = search (placed_rules, closed_field_in, closed_field_inside) depth 8

  type_in : (k : Option Word) → Placed s t (struct_type_of k)
  unfolding struct_type_of type_by_word response_code
  type_in none = placed_ret _
  type_in (some w) = search placed_rules depth 12

  struct_head_in : Placed s t struct_head
  unfolding struct_head
  struct_head_in = search (placed_rules, type_in) depth 24

  struct_in : (d : Doc) (m : ℕ) → Placed s t (parse_struct_after_doc_maturity d m)
  unfolding parse_struct_after_doc_maturity
  struct_in d m = search (placed_rules, struct_head_in, fields_in) depth 8

  -- events, commands and attributes
  privilege_in : Placed s t access_privilege
  unfolding access_privilege
  privilege_in = search placed_rules depth 12

  access_in : (k : List ℕ) → Placed s t (access_to k)
  unfolding access_to
  access_in k = search (placed_rules, privilege_in) depth 24

  qualities_in : Placed s t event_qualities
  unfolding event_qualities event_priority
  qualities_in = search (placed_rules, access_in) depth 24

  event_head_in : Placed s t event_head
  unfolding event_head
  event_head_in = search (placed_rules, qualities_in) depth 24

  event_in : (d : Doc) (m : ℕ) → Placed s t (parse_event_after_doc_maturity d m)
  unfolding parse_event_after_doc_maturity
  event_in d m = search (placed_rules, event_head_in, fields_in) depth 8

  command_head_in : Placed s t command_head
  unfolding command_head
  command_head_in = search (placed_rules, access_in) depth 24

  command_types_in : Placed s t command_types
  unfolding command_types
  command_types_in = search placed_rules depth 24

  command_in : (d : Doc) (m : ℕ) → Placed s t (parse_command_after_doc_maturity d m)
  unfolding parse_command_after_doc_maturity
  command_in d m = search (placed_rules, command_head_in, command_types_in) depth 16

  access_entry_in : Placed s t access_entry
  unfolding access_entry
  access_entry_in = search (placed_rules, privilege_in) depth 24

  comma_in : Placed s t comma
  unfolding comma
  comma_in = search placed_rules depth 8

  access_list_in : Placed s t access_list
  unfolding access_list separated_list0
  access_list_in = search (placed_rules, access_entry_in, comma_in) depth 24

  granted_in : (p : Privileges) (l : List Access) → All (AccessTrue s t end) l → Placed s t (granted_by p l)
  unfolding granted_by
  granted_in p [] h = placed_ret p
  granted_in p (a ∷ l) h = placed_pick _ (granted_in _ l h.1) (placed_pick _ (granted_in _ l h.1) (placed_stop 6 _ (stands h.0) refl))
    where
      stands : AccessTrue s t end a → InPart s t (offset_of a.operation)
      stands (true_access w g) = record { after = w.after; before = omega (arith, w.inside) }

  attribute_access_in : Placed s t attribute_access
  unfolding attribute_access
  attribute_access_in = placed_bind (walks (chain_opt (chain_inside access_list_inside))) (placed_opt access_list_in) λ o h. granted_in _ (listed o) (accesses_listed s t end o h)

  attribute_in : (d : Doc) (m : ℕ) → Placed s t (parse_attribute_after_doc_maturity d m)
  unfolding parse_attribute_after_doc_maturity
  attribute_in d m = search (placed_rules, attribute_access_in, field_in) depth 16

  -- clusters
  member_in : Placed s t parse_cluster_member
  unfolding parse_cluster_member member_tries parse_revision parse_enum_after_doc_maturity parse_bitmap_after_doc_maturity
  member_in = search (placed_rules, maturity_in, choice_in, struct_in, attribute_in, command_in, event_in) depth 24

  cluster_head_in : Placed s t cluster_head
  unfolding cluster_head side
  cluster_head_in = search placed_rules depth 24

  cluster_in : Placed s t parse_cluster
  unfolding parse_cluster cluster_after_doc_maturity cluster_members
  cluster_in = search (placed_rules, maturity_in, cluster_head_in, member_in) depth 16

  -- endpoints: tries that keep the furthest place
  record TriesIn {A : Type 0} (m : Parser (Tried A)) : Type 0 where
    refused : Placed s t m
    kept : Gives s t end (λ x. InPart s t x.furthest) m

  tries_end : {A : Type 0} (q : ℕ) → InPart s t q → TriesIn (fail_at {A = Tried A} q)
  tries_end q h = record { refused = placed_fail q h; kept = gives_fail q }

  tries_next : {A : Type 0} {m : Parser A} {k : ℕ → Parser (Tried A)} (q : ℕ) → InPart s t q → Placed s t m → ((q : ℕ) → InPart s t q → TriesIn (k q)) → TriesIn (intercept q m k)
  unfolding intercept
  tries_next q h v w =
      record {
        refused = placed_catch (placed_mapped _ v) (λ p i. (w _ (furthest q p h i)).refused);
        kept = gives_catch (gives_mapped _ (λ a r. h)) (λ p f. (w _ (furthest q p h (fails_in (placed_mapped _ v) f))).kept);
      }

  module _ {A : Type 0} (f : ℕ → Parser (Tried A)) (i : (q : ℕ) → LocalInside (f q)) (c : (q : ℕ) → Consumes (f q)) (w : (q : ℕ) → InPart s t q → TriesIn (f q)) where
    abbrev DeepIn : Deep A → Type 0
    DeepIn x = InPart s t x.deepest

    step_chain : (x : Deep A) → OnChain (deep_step f x)
    unfolding deep_step
    step_chain x = chain_then whitespace0_chain (chain_inside (mapped_inside _ (i _)))

    step_on : (x : Deep A) → Onward (deep_step f x)
    step_on x = walks (step_chain x)

    step_in : (x : Deep A) → DeepIn x → Placed s t (deep_step f x)
    unfolding deep_step
    step_in x h = placed_then (walks whitespace0_chain) blank_in (placed_mapped _ (w _ h).refused)

    step_kept : (x : Deep A) → DeepIn x → Gives s t end DeepIn (deep_step f x)
    unfolding deep_step
    step_kept x h = gives_then (walks whitespace0_chain) (gives_mapped _ (w _ h).kept.holds)

    run_in : Placed s t (deep_run f)
    unfolding deep_run
    run_in = placed_bind (walks chain_position) placed_position λ b h. placed_iter DeepIn (deep_step f) deeper step_on step_in (λ x y r k. (step_kept x k).holds y r) _ (position_in b h)

    run_kept : Gives s t end DeepIn (deep_run f)
    unfolding deep_run deeper
    run_kept = gives_bind (walks chain_position) (λ b. walks (chain_iter deeper step_chain _)) λ b h. gives_iter DeepIn (deep_step f) deeper step_on step_kept (λ p x r k. furthest p x.deepest (fails_in (step_in x k) r) k) _ (position_in b h)

    deep_braces_in : Placed s t (deep_braces f)
    unfolding deep_braces deep_place
    deep_braces_in = placed_mapped _ (enclosed_in deep_place (walks (chain_inside (deep_run_inside i c))) run_in (λ x r p h. furthest p x.deepest h (run_kept.holds x r)))

  device_in : Placed s t device_type
  unfolding device_type device_version
  device_in = search (placed_rules, two_keywords_name_in) depth 16

  default_in : Placed s t default_attribute_value
  unfolding default_attribute_value value_tries
  default_in = search placed_rules depth 16

  attribute_instance_in : Placed s t attribute_instantiation
  unfolding attribute_instantiation attribute_handling_type
  attribute_instance_in = search (placed_rules, default_in) depth 16

  instance_in : (q : ℕ) → InPart s t q → TriesIn (instance_tries q)
  unfolding instance_tries
  instance_in q h =
      tries_next q h (placed_mapped _ attribute_instance_in) λ q h.
      tries_next q h (placed_mapped _ (named_after_in _ _)) λ q h.
      tries_next q h (placed_mapped _ (named_after_in _ _)) λ q h.
      tries_end q h

  instances_in : Placed s t (deep_braces instance_tries)
  instances_in = deep_braces_in instance_tries instance_tries_inside instance_tries_consumes instance_in

  instantiation_in : Placed s t cluster_instantiation
  unfolding cluster_instantiation instantiation_head
  instantiation_in = search (placed_rules, two_keywords_name_in, instances_in) depth 16

  part_in : (q : ℕ) → InPart s t q → TriesIn (part_tries q)
  unfolding part_tries
  part_in q h =
      tries_next q h (placed_mapped _ device_in) λ q h.
      tries_next q h (placed_mapped _ (placed_then (walks whitespace0_chain) blank_in (named_after_in _ _))) λ q h.
      tries_next q h (placed_mapped _ instantiation_in) λ q h.
      tries_end q h

  parts_in : Placed s t (deep_braces part_tries)
  parts_in = deep_braces_in part_tries part_tries_inside part_tries_consumes part_in

  endpoint_in : Placed s t endpoint
  unfolding endpoint endpoint_head
  endpoint_in = search (placed_rules, parts_in) depth 16

  -- items
  after_doc : {A : Type 0} {f : Doc → ℕ → Parser A} → ((d : Doc) (m : ℕ) → Placed s t (f d m)) → Placed s t (with_doc_maturity f)
  unfolding with_doc_maturity
  after_doc v = placed_bind (walks whitespace0_chain) blank_in λ d h. placed_then (walks whitespace0_chain) blank_in (placed_bind (walks (chain_local api_maturity_local)) maturity_in λ m k. placed_then (walks whitespace0_chain) blank_in (v d m))

  pub item_in : Placed s t item
  unfolding item parse_enum_after_doc_maturity parse_bitmap_after_doc_maturity
  item_in = search (placed_rules, after_doc, cluster_in, endpoint_in, choice_in, struct_in) depth 16
