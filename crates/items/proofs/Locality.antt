-- Locality: every production keeps to the chain of its text, and looks at nothing after a cut. Certificates are found by search over the combinators' rules.
use Prim.Native.Nat.{ℕ, suc, ◌+◌, max}
use mathlib.Core.Path.{◌≡◌, refl}
use mathlib.Core.Bool.{Bool, true, false, ◌||◌, false≢true}
use mathlib.Core.Logic.{◌⊎◌, inl, inr}
use mathlib.Core.Option.{Option, none, some}
use mathlib.Core.List.{List, [], ◌∷◌, ◌++◌}
use native.Mathlib.Omega.{arith}
use lib.Dec.{eqb}
use lib.ListN.{length}
use Rattle.lexing.specs.bytes.{ascii, within, is_letter, is_digit, is_space}
use Rattle.lexing.specs.reply.{Reply, ok, fail, stop, Parser, ret, ◌>>=◌, ◌>>◌, opt, fail_at, stop_at, catch, pick}
use Rattle.lexing.specs.words.{Word, tag}
use Rattle.lexing.specs.blanks.{Doc, whitespace0}
use Rattle.lexing.proofs.Tests.{eq_of, or_true}
use Rattle.lexing.proofs.Runs.{Cut}
use Rattle.lexing.proofs.Chain.{goes, opens, closes, token, punctuation, next, To, here, open_r, close_r, Clean, to_trans, to_suf, resume, inside_cut, Moves, MovesTo, ext}
use Rattle.lexing.proofs.Locality.{OnChain, KeepsCut, Consumes, Local, LocalInside, Blind, inside_local, chain_ret, local_ret, keeps_ret, chain_bind, keeps_bind, local_bind, inside_bind, chain_then, keeps_then, local_then, inside_then, chain_opt, keeps_opt, local_opt, inside_opt, chain_or, keeps_or, local_or, inside_or, consumes_left, consumes_right, consumes_or, chain_many0, inside_many0, chain_local, chain_inside, consumes_then_left, consumes_then_right, blind_ret, local_last, chain_fail, keeps_fail, consumes_fail, local_fail, chain_position, keeps_position, local_position, chain_catch, keeps_catch, consumes_catch, local_catch, inside_catch, chain_pick, keeps_pick, consumes_pick, local_pick, inside_iter}
use Rattle.lexing.proofs.TokenLocality.{parse_id_chain, parse_id_keeps, parse_id_consumes, parse_id_local, keyword_chain, keyword_keeps, keyword_consumes, keyword_local, any_keyword_chain, any_keyword_keeps, any_keyword_consumes, any_keyword_local, tag_consumes, tag_ext, tag_keeps, tag_local, integer_chain, integer_keeps, integer_consumes, integer_local, signed_chain, signed_keeps, signed_local, whitespace0_chain, whitespace0_keeps, whitespace0_local, whitespace1_chain, whitespace1_keeps, whitespace1_local, whitespace1_consumes, quoted_chain, default_string_chain, quoted_keeps, default_string_keeps, quoted_local, default_string_local, set_flags_chain, set_flags_keeps, set_flags_local}
use Rattle.items.specs.entries.{enclosed, where_missing, braces, api_maturity, constant_annotation, blank_annotation, annotations_in_brackets, constant_annotations_list, constant_entry, blank_entry, constant_entries, constant_entries_list, shared_before, choice_head, choice_after_doc_maturity, parse_enum_after_doc_maturity, parse_bitmap_after_doc_maturity}
use Rattle.items.specs.structs.{max_length, list_marker, parse_field, parse_struct_field, closed_field, fields_run, struct_fields, response_code, type_by_word, struct_type_of, struct_head, parse_struct_after_doc_maturity}
use Rattle.items.specs.members.{access_privilege, event_priority, access_to, event_qualities, event_head, parse_event_after_doc_maturity, command_head, command_types, parse_command_after_doc_maturity, Access, access_entry, comma, separated_list0, access_list, Privileges, granted_by, default_privileges, listed, attribute_access, parse_attribute_after_doc_maturity}
use Rattle.items.specs.clusters.{mapped, parse_revision, member_tries, parse_cluster_member, cluster_members, side, cluster_head, cluster_after_doc_maturity, parse_cluster}
use Rattle.items.specs.endpoints.{Tried, Deep, intercept, deep_step, deeper, deep_run, deep_place, deep_braces, device_version, device_type, value_tries, default_attribute_value, attribute_handling_type, attribute_instantiation, instance_tries, instantiation_head, cluster_instantiation, part_tries, endpoint_head, endpoint}
use Rattle.lexing.specs.names.{two_keywords_name, named_after}
use Rattle.items.specs.items.{with_doc_maturity, item}
use Rattle.items.specs.answers.items.{after_maturity, declaration}

-- tags: } and { change the depth, the others are a table
opens_123 : (u : List ℕ) → next (123 ∷ u) ≡ opens u
unfolding next token punctuation is_letter is_digit is_space within
opens_123 u = refl

closes_125 : (u : List ℕ) → next (125 ∷ u) ≡ closes u
unfolding next token punctuation is_letter is_digit is_space within
closes_125 u = refl

abbrev pub is_tag : List ℕ → ℕ → Bool
is_tag [] t = false
is_tag (x ∷ l) t = eqb t x || is_tag l t

abbrev pub Stepping : List ℕ → Type 0
Stepping [] = Unit {0}
Stepping (x ∷ l) = ((u : List ℕ) → next (x ∷ u) ≡ goes u) × (eqb 125 x ≡ false) × Stepping l

abbrev pub tags : List ℕ
tags = 40 ∷ 41 ∷ 44 ∷ 58 ∷ 59 ∷ 60 ∷ 61 ∷ 62 ∷ 91 ∷ 93 ∷ []

tags_step : Stepping tags
unfolding next token punctuation is_letter is_digit is_space within
tags_step = (λ u. refl, refl, (λ u. refl, refl, (λ u. refl, refl, (λ u. refl, refl, (λ u. refl, refl, (λ u. refl, refl, (λ u. refl, refl, (λ u. refl, refl, (λ u. refl, refl, (λ u. refl, refl, tt))))))))))

step_of : (l : List ℕ) → Stepping l → (t : ℕ) → is_tag l t ≡ true → ((u : List ℕ) → next (t ∷ u) ≡ goes u) × (eqb 125 t ≡ false)
step_of [] h t e = absurd (false≢true e)
step_of (x ∷ l) h t e = go (or_true (eqb t x) (is_tag l t) e) (step_of l h.2 t)
  where
    go : (eqb t x ≡ true) ⊎ (is_tag l t ≡ true) → (is_tag l t ≡ true → ((u : List ℕ) → next (t ∷ u) ≡ goes u) × (eqb 125 t ≡ false)) → ((u : List ℕ) → next (t ∷ u) ≡ goes u) × (eqb 125 t ≡ false)
    go (inl q) ih = (λ u. rw (eq_of t x q) (h.0 u), rw (eq_of t x q) h.1)
    go (inr q) ih = ih q

pub punct_local : (t : ℕ) → is_tag tags t ≡ true → Local (tag t)
punct_local t e = let s = step_of tags tags_step t e in tag_local t s.0 s.1

pub punct_keeps : (t : ℕ) → is_tag tags t ≡ true → KeepsCut (tag t)
punct_keeps t e = let s = step_of tags tags_step t e in tag_keeps t s.0 s.1

-- braces
open_at : (k b : ℕ) (u : List ℕ) → MovesTo k (suc k) b u (tag 123 b u)
unfolding tag
open_at k b [] = tt
open_at k b (x ∷ u) = go (eqb x 123) refl
  where
    go : (z : Bool) → eqb x 123 ≡ z → MovesTo k (suc k) b (x ∷ u) (tag 123 b (x ∷ u))
    go true e = rw (e, tag) (open_r {u = x ∷ u} {v = u} (rw (eq_of x 123 e) (opens_123 u)) here, omega arith)
    go false e = rw (e, tag) tt

close_at : (k b : ℕ) (u : List ℕ) → MovesTo (suc k) k b u (tag 125 b u)
unfolding tag
close_at k b [] = tt
close_at k b (x ∷ u) = go (eqb x 125) refl
  where
    go : (z : Bool) → eqb x 125 ≡ z → MovesTo (suc k) k b (x ∷ u) (tag 125 b (x ∷ u))
    go true e = rw (e, tag) (close_r {u = x ∷ u} {v = u} (rw (eq_of x 125 e) (closes_125 u)) here, omega arith)
    go false e = rw (e, tag) tt

-- a sequence whose steps change the depth
moves_bind : {A B : Type 0} (m : Parser A) (f : A → Parser B) (i j l b : ℕ) (u : List ℕ) → MovesTo i j b u (m b u) → ((a : A) (c : ℕ) (r : List ℕ) → MovesTo j l c r (f a c r)) → MovesTo i l b u ((m >>= f) b u)
unfolding ◌>>=◌
moves_bind {A} {B} m f i j l b u p v = go (m b u) refl p
  where
    glue : (c : ℕ) (r : List ℕ) → To j r i u → c + length r ≡ b + length u → (x : Reply B) → MovesTo j l c r x → MovesTo i l b u x
    glue c r t n (ok y e w) q = (to_trans t q.0, omega arith)
    glue c r t n (fail q') q = tt
    glue c r t n (stop n' q') q = tt

    go : (x : Reply A) → m b u ≡ x → MovesTo i j b u x → MovesTo i l b u ((m >>= f) b u)
    go (ok a c r) e p = rw (e, ◌>>=◌) (glue c r p.0 p.1 (f a c r) (v a c r))
    go (fail q) e p = rw (e, ◌>>=◌) tt
    go (stop n q) e p = rw (e, ◌>>=◌) tt

ext_bind : {A B : Type 0} (m : Parser A) (f : A → Parser B) (i j b : ℕ) (u s : List ℕ) → MovesTo i j b u (m b u) → m b (u ++ s) ≡ ext s (m b u)
    → ((a : A) (c : ℕ) (r : List ℕ) → To j r i u → f a c (r ++ s) ≡ ext s (f a c r)) → (m >>= f) b (u ++ s) ≡ ext s ((m >>= f) b u)
unfolding ◌>>=◌ ext
ext_bind {A} m f i j b u s p h v = go (m b u) refl p
  where
    go : (x : Reply A) → m b u ≡ x → MovesTo i j b u x → (m >>= f) b (u ++ s) ≡ ext s ((m >>= f) b u)
    go (ok a c r) e p = rw (h, e, ◌>>=◌) (v a c r p.0)
    go (fail q) e p = rw (h, e, ◌>>=◌)
    go (stop n q) e p = rw (h, e, ◌>>=◌)

module _ {S : Type 0} (g : S → ℕ → ℕ) where
  pub close_moves : (s : S) (k b : ℕ) (u : List ℕ) → MovesTo (suc k) k b u (catch (whitespace0 >> tag 125) (λ p. fail_at (g s p)) b u)
  unfolding catch ◌>>◌ fail_at
  close_moves s k b u = go ((whitespace0 >> tag 125) b u) refl (moves_bind whitespace0 _ (suc k) (suc k) k b u (whitespace0_chain.chain (suc k) b u) λ d c r. close_at k c r)
    where
      go : (x : Reply (Unit {0})) → (whitespace0 >> tag 125) b u ≡ x → MovesTo (suc k) k b u x → MovesTo (suc k) k b u (catch (whitespace0 >> tag 125) (λ p. fail_at (g s p)) b u)
      go (ok a c r) e p = rw (e, catch) p
      go (fail q) e p = rw (e, catch) tt
      go (stop n q) e p = rw (e, catch) tt

  close_ext : (s : S) (k b : ℕ) (u w : List ℕ) → Clean (suc k) u → Cut u → catch (whitespace0 >> tag 125) (λ p. fail_at (g s p)) b (u ++ w) ≡ ext w (catch (whitespace0 >> tag 125) (λ p. fail_at (g s p)) b u)
  unfolding catch ◌>>◌ fail_at ext
  close_ext s k b u w c d = go ((whitespace0 >> tag 125) b u) refl
    where
      both : (whitespace0 >> tag 125) b (u ++ w) ≡ ext w ((whitespace0 >> tag 125) b u)
      both = ext_bind whitespace0 _ (suc k) (suc k) b u w (whitespace0_chain.chain (suc k) b u) (whitespace0_local.local (suc k) b u w c d) λ e b3 u3 p3. tag_ext 125 b3 u3 w (inside_cut u3 (to_suf p3) (resume p3 c) d)

      go : (x : Reply (Unit {0})) → (whitespace0 >> tag 125) b u ≡ x → catch (whitespace0 >> tag 125) (λ p. fail_at (g s p)) b (u ++ w) ≡ ext w (catch (whitespace0 >> tag 125) (λ p. fail_at (g s p)) b u)
      go (ok a c r) e = rw (both, e, catch)
      go (fail q) e = rw (both, e, catch)
      go (stop n q) e = rw (both, e, catch)

module _ {S : Type 0} {m : Parser S} (g : S → ℕ → ℕ) where
  enclosed_at : OnChain m → (k b : ℕ) (u : List ℕ) → Moves k b u (enclosed m g b u)
  unfolding enclosed ◌>>◌ ret
  enclosed_at w k b u =
      moves_bind (tag 123) _ k (suc k) k b u (open_at k b u) λ t c r.
      moves_bind m _ (suc k) (suc k) k c r (w.chain (suc k) c r) λ s c r.
      moves_bind (catch (whitespace0 >> tag 125) (λ p. fail_at (g s p))) _ (suc k) k k c r (close_moves g s k c r) λ t c r.
      (here, refl)

  enclosed_ext : LocalInside m → (k b : ℕ) (u s : List ℕ) → Clean k u → Cut u → enclosed m g b (u ++ s) ≡ ext s (enclosed m g b u)
  unfolding enclosed ◌>>◌ ret ext
  enclosed_ext t k b u s c d =
      ext_bind (tag 123) _ k (suc k) b u s (open_at k b u) (tag_ext 123 b u s d) λ z b1 u1 p1.
      let c1 = resume p1 c in
      let d1 = inside_cut u1 (to_suf p1) c1 d in
      ext_bind m _ (suc k) (suc k) b1 u1 s (t.on_chain.chain (suc k) b1 u1) (t.local k b1 u1 s c1 d1) λ a b2 u2 p2.
      let c2 = resume p2 c1 in
      let d2 = inside_cut u2 (to_suf p2) c2 d1 in
      ext_bind (catch (whitespace0 >> tag 125) (λ p. fail_at (g a p))) _ (suc k) k b2 u2 s (close_moves g a k b2 u2) (close_ext g a k b2 u2 s c2 d2) λ y b4 u4 p4. refl

  pub enclosed_local : LocalInside m → Local (enclosed m g)
  enclosed_local t = record { on_chain = record { chain = enclosed_at t.on_chain }; local = enclosed_ext t }

pub braces_local : {A : Type 0} {m : Parser A} → LocalInside m → Local (braces m)
unfolding braces
braces_local t = enclosed_local where_missing t

pub enclosed_chain : {S : Type 0} {m : Parser S} (g : S → ℕ → ℕ) → OnChain m → OnChain (enclosed m g)
enclosed_chain g w = record { chain = enclosed_at g w }

pub braces_chain : {A : Type 0} {m : Parser A} → OnChain m → OnChain (braces m)
unfolding braces
braces_chain w = enclosed_chain where_missing w

ruleset keeps_rules = (keeps_ret, keeps_bind, keeps_then, keeps_opt, keeps_or, keeps_catch, keeps_fail, keeps_position, keeps_pick, parse_id_keeps, keyword_keeps, any_keyword_keeps, punct_keeps, integer_keeps, whitespace0_keeps, whitespace1_keeps, quoted_keeps, default_string_keeps, signed_keeps, set_flags_keeps)

ruleset local_rules = (local_ret, local_bind, local_then, local_opt, local_or, local_catch, local_fail, local_position, local_pick, parse_id_local, keyword_local, any_keyword_local, punct_local, integer_local, whitespace0_local, whitespace1_local, quoted_local, default_string_local, signed_local, set_flags_local)

ruleset chain_rules = (chain_ret, chain_bind, chain_then, chain_opt, chain_or, chain_catch, chain_fail, chain_position, chain_pick, chain_many0, braces_chain, parse_id_chain, keyword_chain, any_keyword_chain, integer_chain, whitespace0_chain, whitespace1_chain, quoted_chain, default_string_chain, signed_chain, set_flags_chain, chain_local)

ruleset consumes_rules = (consumes_left, consumes_right, consumes_then_left, consumes_then_right, consumes_or, consumes_catch, consumes_fail, consumes_pick, parse_id_consumes, keyword_consumes, any_keyword_consumes, tag_consumes, integer_consumes, whitespace1_consumes)

ruleset token_rules = (local_ret, parse_id_local, keyword_local, any_keyword_local, punct_local, integer_local, whitespace0_local, whitespace1_local, quoted_local, default_string_local, signed_local, set_flags_local)

ruleset inside_rules = (inside_bind, inside_then, inside_opt, inside_or, inside_catch, inside_many0, inside_local)

-- a value that is changed; it may be after the last }
pub mapped_local : {A B : Type 0} {m : Parser A} (f : A → B) → Local m → Local (mapped m f)
unfolding mapped
mapped_local f t = local_last t (λ a. blind_ret (f a))

pub mapped_keeps : {A B : Type 0} {m : Parser A} (f : A → B) → KeepsCut m → KeepsCut (mapped m f)
unfolding mapped
mapped_keeps f t = keeps_bind t (λ a. keeps_ret (f a))

pub mapped_consumes : {A B : Type 0} {m : Parser A} (f : A → B) → Consumes m → Consumes (mapped m f)
unfolding mapped
mapped_consumes f t = consumes_left t (λ a. chain_ret (f a))

pub mapped_inside : {A B : Type 0} {m : Parser A} (f : A → B) → LocalInside m → LocalInside (mapped m f)
unfolding mapped
mapped_inside f t = inside_bind t (λ a. inside_local (local_ret (f a)))

-- entries, enums and bitmaps
pub api_maturity_keeps : KeepsCut api_maturity
unfolding api_maturity
api_maturity_keeps = search (keeps_rules) depth 12

pub api_maturity_local : Local api_maturity
unfolding api_maturity
api_maturity_local = search (local_rules, keeps_rules) depth 12

pub constant_annotation_local : Local constant_annotation
unfolding constant_annotation
constant_annotation_local = search (local_rules, keeps_rules) depth 20

pub constant_annotation_consumes : Consumes constant_annotation
unfolding constant_annotation
constant_annotation_consumes = search (consumes_rules, chain_rules, punct_local) depth 20

pub optional_comma_chain : OnChain (opt (tag 44))
optional_comma_chain = chain_opt (punct_local 44 refl).on_chain

pub blank_annotation_chain : OnChain blank_annotation
unfolding blank_annotation
blank_annotation_chain = chain_then whitespace0_chain constant_annotation_local.on_chain

pub blank_annotation_consumes : Consumes blank_annotation
unfolding blank_annotation
blank_annotation_consumes = consumes_then_right whitespace0_chain constant_annotation_consumes

pub annotations_in_brackets_inside : LocalInside annotations_in_brackets
unfolding annotations_in_brackets blank_annotation
annotations_in_brackets_inside = search (inside_rules, token_rules, constant_annotation_local, constant_annotation_consumes, consumes_then_right, whitespace0_chain) depth 20

pub constant_annotations_list_inside : LocalInside constant_annotations_list
unfolding constant_annotations_list
constant_annotations_list_inside = inside_opt annotations_in_brackets_inside

pub constant_entry_inside : LocalInside constant_entry
unfolding constant_entry
constant_entry_inside = search (inside_rules, token_rules, api_maturity_local, constant_annotations_list_inside) depth 30

pub constant_entry_consumes : Consumes constant_entry
unfolding constant_entry
constant_entry_consumes = search (consumes_rules, chain_rules, chain_inside, punct_local, api_maturity_local, constant_annotations_list_inside) depth 30

pub blank_entry_inside : LocalInside blank_entry
unfolding blank_entry
blank_entry_inside = search (inside_rules, token_rules, constant_entry_inside) depth 10

pub blank_entry_consumes : Consumes blank_entry
unfolding blank_entry
blank_entry_consumes = search (consumes_rules, chain_rules, constant_entry_consumes) depth 10

pub constant_entries_list_local : Local constant_entries_list
unfolding constant_entries_list constant_entries
constant_entries_list_local = braces_local (inside_many0 blank_entry_inside blank_entry_consumes)

pub shared_before_keeps : KeepsCut shared_before
unfolding shared_before
shared_before_keeps = search (keeps_rules) depth 8

pub shared_before_local : Local shared_before
unfolding shared_before
shared_before_local = search (local_rules, keeps_rules) depth 8

pub shared_before_consumes : Consumes shared_before
unfolding shared_before
shared_before_consumes = search (consumes_rules, chain_rules) depth 8

pub choice_head_keeps : (k : List ℕ) → KeepsCut (choice_head k)
unfolding choice_head
choice_head_keeps k = search (keeps_rules, shared_before_keeps) depth 24

pub choice_head_local : (k : List ℕ) → Local (choice_head k)
unfolding choice_head
choice_head_local k = search (local_rules, keeps_rules, shared_before_local, shared_before_keeps) depth 24

pub choice_head_consumes : (k : List ℕ) → Consumes (choice_head k)
unfolding choice_head
choice_head_consumes k = search (consumes_rules, chain_rules, shared_before_local, punct_local) depth 24

pub choice_after_doc_maturity_local : (k : List ℕ) (d : Doc) (m : ℕ) → Local (choice_after_doc_maturity k d m)
unfolding choice_after_doc_maturity
choice_after_doc_maturity_local k d m = search (local_rules, keeps_rules, choice_head_local, choice_head_keeps, constant_entries_list_local, local_last, blind_ret) depth 24

pub choice_after_doc_maturity_consumes : (k : List ℕ) (d : Doc) (m : ℕ) → Consumes (choice_after_doc_maturity k d m)
unfolding choice_after_doc_maturity
choice_after_doc_maturity_consumes k d m = search (consumes_rules, chain_rules, choice_head_consumes, constant_entries_list_local) depth 24

pub parse_enum_local : (d : Doc) (m : ℕ) → Local (parse_enum_after_doc_maturity d m)
unfolding parse_enum_after_doc_maturity
parse_enum_local d m = choice_after_doc_maturity_local (ascii "enum") d m

pub parse_enum_consumes : (d : Doc) (m : ℕ) → Consumes (parse_enum_after_doc_maturity d m)
unfolding parse_enum_after_doc_maturity
parse_enum_consumes d m = choice_after_doc_maturity_consumes (ascii "enum") d m

pub parse_bitmap_local : (d : Doc) (m : ℕ) → Local (parse_bitmap_after_doc_maturity d m)
unfolding parse_bitmap_after_doc_maturity
parse_bitmap_local d m = choice_after_doc_maturity_local (ascii "bitmap") d m

pub parse_bitmap_consumes : (d : Doc) (m : ℕ) → Consumes (parse_bitmap_after_doc_maturity d m)
unfolding parse_bitmap_after_doc_maturity
parse_bitmap_consumes d m = choice_after_doc_maturity_consumes (ascii "bitmap") d m

-- fields and structs
pub max_length_local : Local max_length
unfolding max_length
max_length_local = search (local_rules, keeps_rules) depth 12

pub list_marker_local : Local list_marker
unfolding list_marker
list_marker_local = search (local_rules, keeps_rules) depth 12

pub parse_field_inside : LocalInside parse_field
unfolding parse_field
parse_field_inside = search (inside_rules, token_rules, max_length_local, list_marker_local) depth 24

pub parse_field_consumes : Consumes parse_field
unfolding parse_field
parse_field_consumes = search (consumes_rules, chain_rules, chain_inside, punct_local, max_length_local, list_marker_local) depth 24

pub parse_struct_field_inside : LocalInside parse_struct_field
unfolding parse_struct_field
parse_struct_field_inside = search (inside_rules, token_rules, api_maturity_local, parse_field_inside) depth 16

pub parse_struct_field_consumes : Consumes parse_struct_field
unfolding parse_struct_field
parse_struct_field_consumes = search (consumes_rules, chain_rules, chain_inside, api_maturity_local, parse_field_consumes) depth 16

pub closed_field_inside : LocalInside closed_field
unfolding closed_field
closed_field_inside = search (inside_rules, token_rules, parse_struct_field_inside) depth 16

pub closed_field_consumes : Consumes closed_field
unfolding closed_field
closed_field_consumes = search (consumes_rules, chain_rules, chain_inside, punct_local, parse_struct_field_inside, parse_struct_field_consumes) depth 16

pub struct_fields_local : Local struct_fields
unfolding struct_fields fields_run
struct_fields_local = braces_local (inside_many0 closed_field_inside closed_field_consumes)

pub response_code_keeps : KeepsCut response_code
unfolding response_code
response_code_keeps = search keeps_rules depth 12

pub response_code_local : Local response_code
unfolding response_code
response_code_local = search (local_rules, keeps_rules) depth 12

pub struct_type_of_keeps : (k : Option Word) → KeepsCut (struct_type_of k)
unfolding struct_type_of type_by_word
struct_type_of_keeps none = keeps_ret _
struct_type_of_keeps (some w) = search (keeps_rules, response_code_keeps) depth 12

pub struct_type_of_local : (k : Option Word) → Local (struct_type_of k)
unfolding struct_type_of type_by_word
struct_type_of_local none = local_ret _
struct_type_of_local (some w) = search (local_rules, keeps_rules, response_code_local) depth 12

pub struct_head_keeps : KeepsCut struct_head
unfolding struct_head
struct_head_keeps = search (keeps_rules, struct_type_of_keeps) depth 24

pub struct_head_local : Local struct_head
unfolding struct_head
struct_head_local = search (local_rules, keeps_rules, struct_type_of_local, struct_type_of_keeps) depth 24

pub struct_head_consumes : Consumes struct_head
unfolding struct_head
struct_head_consumes = search (consumes_rules, chain_rules, struct_type_of_local) depth 24

pub parse_struct_local : (d : Doc) (m : ℕ) → Local (parse_struct_after_doc_maturity d m)
unfolding parse_struct_after_doc_maturity
parse_struct_local d m = search (local_rules, keeps_rules, struct_head_local, struct_head_keeps, struct_fields_local, local_last, blind_ret) depth 24

pub parse_struct_consumes : (d : Doc) (m : ℕ) → Consumes (parse_struct_after_doc_maturity d m)
unfolding parse_struct_after_doc_maturity
parse_struct_consumes d m = search (consumes_rules, chain_rules, struct_head_consumes, struct_fields_local) depth 24

-- events, commands, attributes
pub access_privilege_local : Local access_privilege
unfolding access_privilege
access_privilege_local = search (local_rules, keeps_rules) depth 12

pub event_priority_local : Local event_priority
unfolding event_priority
event_priority_local = search (local_rules, keeps_rules) depth 12

pub event_priority_consumes : Consumes event_priority
unfolding event_priority
event_priority_consumes = search (consumes_rules, chain_rules) depth 12

pub access_to_inside : (k : List ℕ) → LocalInside (access_to k)
unfolding access_to
access_to_inside k = search (inside_rules, token_rules, access_privilege_local) depth 24

pub event_qualities_inside : LocalInside event_qualities
unfolding event_qualities
event_qualities_inside = search (inside_rules, token_rules, event_priority_local, access_to_inside) depth 24

pub event_qualities_consumes : Consumes event_qualities
unfolding event_qualities
event_qualities_consumes = search (consumes_rules, chain_rules, chain_inside, event_priority_consumes, access_to_inside) depth 24

pub event_head_inside : LocalInside event_head
unfolding event_head
event_head_inside = search (inside_rules, token_rules, event_qualities_inside) depth 24

pub event_head_consumes : Consumes event_head
unfolding event_head
event_head_consumes = search (consumes_rules, chain_rules, chain_inside, punct_local, event_qualities_consumes) depth 24

pub parse_event_inside : (d : Doc) (m : ℕ) → LocalInside (parse_event_after_doc_maturity d m)
unfolding parse_event_after_doc_maturity
parse_event_inside d m = search (inside_rules, token_rules, event_head_inside, struct_fields_local) depth 30

pub parse_event_consumes : (d : Doc) (m : ℕ) → Consumes (parse_event_after_doc_maturity d m)
unfolding parse_event_after_doc_maturity
parse_event_consumes d m = search (consumes_rules, chain_rules, chain_inside, event_head_consumes, struct_fields_local) depth 30

pub command_head_inside : LocalInside command_head
unfolding command_head
command_head_inside = search (inside_rules, token_rules, access_to_inside) depth 24

pub command_head_consumes : Consumes command_head
unfolding command_head
command_head_consumes = search (consumes_rules, chain_rules, chain_inside, access_to_inside) depth 24

pub command_types_inside : LocalInside command_types
unfolding command_types
command_types_inside = search (inside_rules, token_rules) depth 24

pub parse_command_inside : (d : Doc) (m : ℕ) → LocalInside (parse_command_after_doc_maturity d m)
unfolding parse_command_after_doc_maturity
parse_command_inside d m = search (inside_rules, token_rules, command_head_inside, command_types_inside) depth 30

pub parse_command_consumes : (d : Doc) (m : ℕ) → Consumes (parse_command_after_doc_maturity d m)
unfolding parse_command_after_doc_maturity
parse_command_consumes d m = search (consumes_rules, chain_rules, chain_inside, punct_local, command_head_consumes, command_types_inside) depth 30

pub access_entry_inside : LocalInside access_entry
unfolding access_entry
access_entry_inside = search (inside_rules, token_rules, access_privilege_local) depth 24

pub access_entry_consumes : Consumes access_entry
unfolding access_entry
access_entry_consumes = search (consumes_rules, chain_rules, chain_inside, punct_local, access_privilege_local) depth 24

pub comma_local : Local comma
unfolding comma
comma_local = search (local_rules, keeps_rules) depth 12

pub separated_list0_inside : {A : Type 0} {s : Parser (Unit {0})} {m : Parser A} → Local s → LocalInside m → Consumes m → LocalInside (separated_list0 s m)
unfolding separated_list0
separated_list0_inside s m p = inside_catch (inside_bind m λ a. inside_bind (inside_many0 (inside_then (inside_local s) m) (consumes_then_right s.on_chain p)) λ l. inside_local (local_ret (a ∷ l))) (λ q. inside_local (local_ret []))

pub access_list_inside : LocalInside access_list
unfolding access_list
access_list_inside = search (inside_rules, separated_list0_inside, comma_local, access_entry_inside, access_entry_consumes, token_rules) depth 24

-- steps that look at no text
pub blind_local : {A : Type 0} {m : Parser A} → Blind m → Local m
blind_local f = record { on_chain = f.on_chain; local = λ k b u s c d. f.local b u s }

blind_stop : {A : Type 0} (n p : ℕ) → Blind (stop_at {A = A} n p)
unfolding stop_at ext
blind_stop n p = record { on_chain = record { chain = λ k b u. tt }; local = λ b u s. refl }

blind_pick : {A : Type 0} {m k : Parser A} (t : Bool) → Blind m → Blind k → Blind (pick t m k)
unfolding pick
blind_pick true a b = a
blind_pick false a b = b

granted_by_blind : (p : Privileges) (l : List Access) → Blind (granted_by p l)
unfolding granted_by
granted_by_blind p [] = blind_ret p
granted_by_blind p (a ∷ l) = blind_pick _ (granted_by_blind _ l) (blind_pick _ (granted_by_blind _ l) (blind_stop 6 _))

pub attribute_access_inside : LocalInside attribute_access
unfolding attribute_access
attribute_access_inside = inside_bind (inside_opt access_list_inside) λ l. inside_local (blind_local (granted_by_blind default_privileges (listed l)))

pub parse_attribute_inside : (d : Doc) (m : ℕ) → LocalInside (parse_attribute_after_doc_maturity d m)
unfolding parse_attribute_after_doc_maturity
parse_attribute_inside d m = search (inside_rules, token_rules, attribute_access_inside, parse_struct_field_inside) depth 40

pub parse_attribute_consumes : (d : Doc) (m : ℕ) → Consumes (parse_attribute_after_doc_maturity d m)
unfolding parse_attribute_after_doc_maturity
parse_attribute_consumes d m = search (consumes_rules, chain_rules, chain_inside, punct_local, attribute_access_inside, parse_struct_field_inside) depth 40

-- clusters
pub parse_revision_local : Local parse_revision
unfolding parse_revision
parse_revision_local = search (local_rules, keeps_rules) depth 16

pub parse_revision_consumes : Consumes parse_revision
unfolding parse_revision
parse_revision_consumes = search (consumes_rules, chain_rules, punct_local) depth 16

pub member_tries_inside : (d : Doc) (m : ℕ) → LocalInside (member_tries d m)
unfolding member_tries
member_tries_inside d m = search (inside_rules, mapped_inside, parse_revision_local, parse_bitmap_local, parse_enum_local, parse_struct_local, parse_attribute_inside, parse_command_inside, parse_event_inside) depth 16

pub member_tries_consumes : (d : Doc) (m : ℕ) → Consumes (member_tries d m)
unfolding member_tries
member_tries_consumes d m = search (consumes_or, mapped_consumes, parse_revision_consumes, parse_bitmap_consumes, parse_enum_consumes, parse_struct_consumes, parse_attribute_consumes, parse_command_consumes, parse_event_consumes) depth 16

pub parse_cluster_member_inside : LocalInside parse_cluster_member
unfolding parse_cluster_member
parse_cluster_member_inside = search (inside_rules, token_rules, api_maturity_local, member_tries_inside) depth 16

pub parse_cluster_member_consumes : Consumes parse_cluster_member
unfolding parse_cluster_member
parse_cluster_member_consumes = search (consumes_rules, chain_rules, chain_inside, api_maturity_local, member_tries_consumes) depth 16

pub side_keeps : KeepsCut side
unfolding side
side_keeps = search (keeps_rules) depth 8

pub side_local : Local side
unfolding side
side_local = search (local_rules, keeps_rules) depth 8

pub cluster_head_keeps : KeepsCut cluster_head
unfolding cluster_head
cluster_head_keeps = search (keeps_rules, side_keeps) depth 24

pub cluster_head_local : Local cluster_head
unfolding cluster_head
cluster_head_local = search (local_rules, keeps_rules, side_local, side_keeps) depth 24

pub cluster_head_consumes : Consumes cluster_head
unfolding cluster_head
cluster_head_consumes = search (consumes_rules, chain_rules, punct_local, side_local) depth 24

pub cluster_after_doc_maturity_local : (d : Doc) (m : ℕ) → Local (cluster_after_doc_maturity d m)
unfolding cluster_after_doc_maturity cluster_members
cluster_after_doc_maturity_local d m = search (local_rules, keeps_rules, cluster_head_local, cluster_head_keeps, braces_local, inside_many0, parse_cluster_member_inside, parse_cluster_member_consumes, local_last, blind_ret) depth 16

pub cluster_after_doc_maturity_consumes : (d : Doc) (m : ℕ) → Consumes (cluster_after_doc_maturity d m)
unfolding cluster_after_doc_maturity cluster_members
cluster_after_doc_maturity_consumes d m = search (consumes_rules, cluster_head_consumes, chain_rules, chain_inside, parse_cluster_member_inside) depth 16

pub parse_cluster_local : Local parse_cluster
unfolding parse_cluster
parse_cluster_local = search (local_rules, keeps_rules, api_maturity_local, api_maturity_keeps, cluster_after_doc_maturity_local) depth 16

pub parse_cluster_consumes : Consumes parse_cluster
unfolding parse_cluster
parse_cluster_consumes = search (consumes_rules, chain_rules, api_maturity_local, cluster_after_doc_maturity_consumes) depth 16

-- endpoints: loops that keep the furthest place
module _ {A : Type 0} {m : Parser A} {k : ℕ → Parser (Tried A)} where
  pub intercept_inside : (q : ℕ) → LocalInside m → ((q : ℕ) → LocalInside (k q)) → LocalInside (intercept q m k)
  unfolding intercept
  intercept_inside q t v = inside_catch (mapped_inside _ t) (λ p. v (max q p))

  pub intercept_consumes : (q : ℕ) → Consumes m → ((q : ℕ) → Consumes (k q)) → Consumes (intercept q m k)
  unfolding intercept
  intercept_consumes q t v = consumes_catch (mapped_consumes _ t) (λ p. v (max q p))

module _ {A : Type 0} {f : ℕ → Parser (Tried A)} (t : (q : ℕ) → LocalInside (f q)) (v : (q : ℕ) → Consumes (f q)) where
  deep_step_inside : (s : Deep A) → LocalInside (deep_step f s)
  unfolding deep_step
  deep_step_inside s = inside_then (inside_local whitespace0_local) (mapped_inside _ (t s.deepest))

  pub deep_step_consumes : (s : Deep A) → Consumes (deep_step f s)
  unfolding deep_step
  deep_step_consumes s = consumes_then_right whitespace0_chain (mapped_consumes _ (v s.deepest))

  pub deep_run_inside : LocalInside (deep_run f)
  unfolding deep_run
  deep_run_inside = inside_bind (inside_local local_position) λ b. inside_iter deeper deep_step_inside deep_step_consumes _

  pub deep_braces_local : Local (deep_braces f)
  unfolding deep_braces
  deep_braces_local = mapped_local _ (enclosed_local deep_place deep_run_inside)

pub two_keywords_name_keeps : (k j : List ℕ) → KeepsCut (two_keywords_name k j)
unfolding two_keywords_name
two_keywords_name_keeps k j = search (keeps_rules) depth 16

pub two_keywords_name_local : (k j : List ℕ) → Local (two_keywords_name k j)
unfolding two_keywords_name
two_keywords_name_local k j = search (local_rules, keeps_rules) depth 16

pub two_keywords_name_consumes : (k j : List ℕ) → Consumes (two_keywords_name k j)
unfolding two_keywords_name
two_keywords_name_consumes k j = search (consumes_rules, chain_rules) depth 16

pub device_version_local : Local device_version
unfolding device_version
device_version_local = search (local_rules, keeps_rules) depth 24

pub device_type_inside : LocalInside device_type
unfolding device_type
device_type_inside = search (inside_rules, token_rules, two_keywords_name_local, device_version_local) depth 20

pub device_type_consumes : Consumes device_type
unfolding device_type
device_type_consumes = search (consumes_rules, chain_rules, chain_inside, punct_local, two_keywords_name_consumes, device_version_local) depth 20

pub value_tries_local : Local value_tries
unfolding value_tries
value_tries_local = search (local_rules, keeps_rules, mapped_local) depth 16

pub default_attribute_value_local : Local default_attribute_value
unfolding default_attribute_value
default_attribute_value_local = search (local_rules, keeps_rules, value_tries_local) depth 16

pub attribute_handling_type_local : Local attribute_handling_type
unfolding attribute_handling_type
attribute_handling_type_local = search (local_rules, keeps_rules) depth 12

pub attribute_handling_type_consumes : Consumes attribute_handling_type
unfolding attribute_handling_type
attribute_handling_type_consumes = search (consumes_rules, chain_rules) depth 12

pub attribute_instantiation_inside : LocalInside attribute_instantiation
unfolding attribute_instantiation
attribute_instantiation_inside = search (inside_rules, token_rules, attribute_handling_type_local, default_attribute_value_local) depth 24

pub attribute_instantiation_consumes : Consumes attribute_instantiation
unfolding attribute_instantiation
attribute_instantiation_consumes = search (consumes_rules, chain_rules, chain_inside, punct_local, attribute_handling_type_consumes, default_attribute_value_local) depth 24

pub named_after_local : (k j : List ℕ) → Local (named_after k j)
unfolding named_after
named_after_local k j = search (local_rules, keeps_rules, two_keywords_name_local, two_keywords_name_keeps) depth 12

pub named_after_consumes : (k j : List ℕ) → Consumes (named_after k j)
unfolding named_after
named_after_consumes k j = search (consumes_rules, chain_rules, punct_local, two_keywords_name_consumes) depth 12

pub instance_tries_inside : (q : ℕ) → LocalInside (instance_tries q)
unfolding instance_tries
instance_tries_inside q = search (intercept_inside, mapped_inside, attribute_instantiation_inside, inside_local, named_after_local, local_fail) depth 12

pub instance_tries_consumes : (q : ℕ) → Consumes (instance_tries q)
unfolding instance_tries
instance_tries_consumes q = search (intercept_consumes, mapped_consumes, attribute_instantiation_consumes, named_after_consumes, consumes_fail) depth 12

pub instantiation_head_local : Local instantiation_head
unfolding instantiation_head
instantiation_head_local = search (local_rules, keeps_rules, two_keywords_name_local, two_keywords_name_keeps) depth 12

pub instantiation_head_consumes : Consumes instantiation_head
unfolding instantiation_head
instantiation_head_consumes = search (consumes_rules, chain_rules, two_keywords_name_consumes) depth 12

pub instances_local : Local (deep_braces instance_tries)
instances_local = deep_braces_local instance_tries_inside instance_tries_consumes

pub cluster_instantiation_inside : LocalInside cluster_instantiation
unfolding cluster_instantiation
cluster_instantiation_inside = search (inside_rules, token_rules, instantiation_head_local, instances_local) depth 12

pub cluster_instantiation_consumes : Consumes cluster_instantiation
unfolding cluster_instantiation
cluster_instantiation_consumes = search (consumes_rules, chain_rules, instantiation_head_consumes, instances_local) depth 12

pub part_tries_inside : (q : ℕ) → LocalInside (part_tries q)
unfolding part_tries
part_tries_inside q = search (intercept_inside, mapped_inside, device_type_inside, cluster_instantiation_inside, inside_then, inside_local, whitespace0_local, named_after_local, local_fail) depth 12

pub part_tries_consumes : (q : ℕ) → Consumes (part_tries q)
unfolding part_tries
part_tries_consumes q = search (intercept_consumes, mapped_consumes, device_type_consumes, cluster_instantiation_consumes, consumes_then_right, whitespace0_chain, named_after_consumes, consumes_fail) depth 12

pub endpoint_head_keeps : KeepsCut endpoint_head
unfolding endpoint_head
endpoint_head_keeps = search (keeps_rules) depth 16

pub endpoint_head_local : Local endpoint_head
unfolding endpoint_head
endpoint_head_local = search (local_rules, keeps_rules) depth 16

pub endpoint_head_consumes : Consumes endpoint_head
unfolding endpoint_head
endpoint_head_consumes = search (consumes_rules, chain_rules) depth 16

pub parts_local : Local (deep_braces part_tries)
parts_local = deep_braces_local part_tries_inside part_tries_consumes

pub endpoint_local : Local endpoint
unfolding endpoint
endpoint_local = search (local_rules, keeps_rules, endpoint_head_local, endpoint_head_keeps, parts_local, local_last, blind_ret) depth 12

pub endpoint_consumes : Consumes endpoint
unfolding endpoint
endpoint_consumes = search (consumes_rules, chain_rules, endpoint_head_consumes, parts_local) depth 12

-- items
module _ {A : Type 0} {f : Doc → ℕ → Parser A} where
  pub with_doc_maturity_local : ((d : Doc) (m : ℕ) → Local (f d m)) → Local (with_doc_maturity f)
  unfolding with_doc_maturity
  with_doc_maturity_local t = search (local_rules, keeps_rules, api_maturity_local, api_maturity_keeps, t) depth 12

  pub with_doc_maturity_consumes : ((d : Doc) (m : ℕ) → Consumes (f d m)) → Consumes (with_doc_maturity f)
  unfolding with_doc_maturity
  with_doc_maturity_consumes v = search (consumes_rules, chain_rules, api_maturity_local, v) depth 12

pub item_local : Local item
unfolding item
item_local = search (local_or, local_then, mapped_local, parse_cluster_local, endpoint_local, with_doc_maturity_local, parse_enum_local, parse_bitmap_local, parse_struct_local, whitespace1_local, whitespace1_keeps, local_ret) depth 16

pub item_consumes : Consumes item
unfolding item
item_consumes = search (consumes_or, mapped_consumes, parse_cluster_consumes, endpoint_consumes, with_doc_maturity_consumes, parse_enum_consumes, parse_bitmap_consumes, parse_struct_consumes, consumes_then_left, whitespace1_consumes, chain_ret) depth 16

-- declarations, after the blanks
module _ {A : Type 0} {f : ℕ → Parser A} where
  pub after_maturity_local : ((m : ℕ) → Local (f m)) → Local (after_maturity f)
  unfolding after_maturity
  after_maturity_local t = search (local_rules, keeps_rules, api_maturity_local, api_maturity_keeps, t) depth 12

pub declaration_local : (d : Doc) → Local (declaration d)
unfolding declaration
declaration_local d = search (local_or, mapped_local, after_maturity_local, cluster_after_doc_maturity_local, endpoint_local, parse_enum_local, parse_bitmap_local, parse_struct_local) depth 16
