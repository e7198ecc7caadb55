-- Fields: one law for each way through a reader.
use Rattle.items.specs.declared.levels.Privilege.TheVariants.{View}
use Rattle.lexing.specs.declared.answers.LostBy.TheVariants.{Stop, Fail}
use Rattle.std.specs.Prelude.{Ok, Err, Option as CodeOption, Some, None, is_some}
use Rattle.std.specs.Option.{unwrap_or}
use mathlib.Core.Path.{◌≡◌, refl, sym, ap, ◌∙◌, subst}
use mathlib.Core.Bool.{Bool, true, false}
use mathlib.Core.List.{List, [], ◌∷◌, map}
use Prim.Native.Nat.{ℕ, ◌+◌, ◌-◌, ◌*◌, ◌≤◌}
use native.Mathlib.Omega.{arith}
use lib.ListN.{length, drop}
use Rattle.lexing.specs.reply.{ok, Parser, opt}
use Rattle.lexing.specs.words.{Word}
use Rattle.lexing.specs.word_sets.{bit}
use Rattle.lexing.specs.answers.{Rest, lost_reply, number_reply, after_blanks, word_between, Read, number_of, Lost}
use Rattle.lexing.proofs.Locality.{chain_opt}
use Rattle.lexing.proofs.TokenLocality.{whitespace0_chain}
use Rattle.lexing.proofs.Composed.{onward_then}
use Rattle.lexing.proofs.Onward.{Onward}
use Rattle.lexing.proofs.Slicing.{Took, took, walks, reads_in}
use Rattle.items.specs.entries.{present}
use Rattle.items.specs.structs.{StructField as StructFieldOf, max_length, list_marker, parse_field, parse_struct_field, closed_field, struct_fields}
use Rattle.items.specs.records.{at, bits, value, spanned, flag, plain, field_record}
use Rattle.lexing.specs.buffers.{each, words_bytes, put}
use Rattle.items.specs.layout.{packed, width, from_top, offset, size, layout, further_word, record_words, catalogue_words, catalogue_bytes, word_count}
use Rattle.items.specs.members.{or_else}
use Rattle.items.specs.answers.{option_of, maybe, first_of, word_of_span, kind_number}
use Rattle.items.specs.inner.fields.{field_at, FieldBetween, FieldTo, struct_field_at, StructFieldBetween, StructFieldTo, length_reply, optional_length, MarkerTo, field_parts}
use Rattle.items.specs.declared.fields.FieldParts.{FieldParts}
use Rattle.items.specs.declared.fields.StructFieldParts.{StructFieldParts}
use Rattle.items.specs.declared.fields.Marker.{Marker}
use Rattle.items.proofs.Locality.{max_length_local, list_marker_local, parse_field_inside, parse_struct_field_inside, closed_field_inside, closed_field_consumes, struct_fields_local}
use Rattle.items.proofs.Blanks.{read_after}
use Rattle.items.specs.inner.runs.{Repeats}
use Rattle.items.proofs.RecordWords.{map_elementwise}
use Rattle.lexing.proofs.AnswerLaws.{read_took}
use Rattle.lexing.proofs.WordBetween.{word_moved}
use Rattle.items.proofs.WordBetween.{extent_between}
use Rattle.items.proofs.writing.Laws.{plain_bytes}
use Rattle.lexing.proofs.Calm.{Calm, calm_absent, calm_ret, calm_then, calm_tag, calm_blanks}
use Rattle.lexing.proofs.answers.Laws.{opt_ok, opt_fail, opt_stop}
use Rattle.items.specs.declared.layout.Kind.TheVariants.{Field as a_field}

-- the answer of a length that may be absent
optional_reads : (m : Parser ℕ) (a : Read ℕ) (b : ℕ) (u : List ℕ) → number_reply a b u ≡ m b u → length_reply (optional_length a b) b u ≡ opt m b u
optional_reads m (Ok (v, c)) b u h = opt_ok m b u v c (drop (c - b) u) h
optional_reads m (Err (Fail p)) b u h = let z : b - b ≡ 0 = omega arith in rw z (opt_fail m b u p h)
optional_reads m (Err (Stop n p)) b u h = opt_stop m b u (number_of n) p h

module _ (n : ℕ) (r : List ℕ) (a : Read ℕ) (h : number_reply a n r ≡ max_length n r) where
  length_reads : {x : Read (CodeOption ℕ)} → x ≡ optional_length a n → length_reply x n r ≡ opt max_length n r
  length_reads d = subst (λ (y : Read (CodeOption ℕ)). length_reply y n r ≡ opt max_length n r) (sym d) (optional_reads max_length a n r h)

  pub length_took : {v : CodeOption ℕ} {c : ℕ} → Ok (v, c) ≡ optional_length a n → {b : ℕ} {u : List ℕ} → Rest b u n r → Took (opt max_length) b u n (maybe v) c
  length_took d q = took (walks (chain_opt max_length_local.on_chain)) q (length_reads d)

  pub length_none : {l : Lost} → Err l ≡ optional_length a n → lost_reply l ≡ opt max_length n r
  length_none d = length_reads d

-- the two ways of a list's marker
calm_marker : Calm list_marker
unfolding list_marker
calm_marker = calm_then (calm_tag 91) (calm_then calm_blanks (calm_then (calm_tag 93) (calm_then calm_blanks (calm_ret tt))))

pub marker_none : (l : Lost) {b : ℕ} {u : List ℕ} → lost_reply l ≡ list_marker b u → MarkerTo (record { list = false; next = b }) b u
marker_none l e = record { reads = calm_absent calm_marker l e; up = omega arith; inside = omega arith }

pub marker_is : (b c : ℕ) (u : List ℕ) → ok tt c (drop (c - b) u) ≡ list_marker b u → MarkerTo (record { list = true; next = c }) b u
marker_is b c u e =
    let p = reads_in (walks list_marker_local.on_chain) b c u tt e in
    record { reads = opt_ok list_marker b u tt c (drop (c - b) u) e; up = p.0; inside = p.1 }

pub marker_took : {b n : ℕ} {u r : List ℕ} {t : Marker} → Rest b u n r → MarkerTo t n r → Took (opt list_marker) b u n (option_of t.list tt) t.next
marker_took q h = took (walks (chain_opt list_marker_local.on_chain)) q h.reads

pub present_is : {A : Type 0} (x : Bool) (a : A) → present (option_of x a) ≡ x
unfolding present
present_is true a = refl
present_is false a = refl

present_some : {A : Type 0} (x : CodeOption A) → present (maybe x) ≡ is_some x
unfolding present
present_some (Some a) = refl
present_some None = refl

-- a largest length, 0 where there is none
pub maximum_or_zero : (x : CodeOption ℕ) → unwrap_or x 0 ≡ or_else 0 (maybe x)
unfolding or_else
maximum_or_zero (Some v) = refl
maximum_or_zero None = refl

-- the ways of a field
pub field_is : (b : ℕ) (u : List ℕ) (f : FieldParts) (c : ℕ)
    → ok (record { data_type = word_between b u f.type_at f.type_end; maximum = maybe f.maximum; name = word_between b u f.name f.end; list = present (option_of {A = Unit {0}} f.list tt); code = f.code }) c (drop (c - b) u) ≡ parse_field b u
    → FieldBetween b f c → FieldTo (Ok (f, c)) b u
field_is b u f c h w = record { reads = rw (present_is {A = Unit {0}} f.list tt) at h; within = w }

-- a field, seen from the part's start
field_moved : (b n : ℕ) (u r : List ℕ) (f : FieldParts) (c : ℕ) → Rest b u n r → FieldBetween n f c → field_at n r f ≡ field_at b u f
field_moved b n u r f c q h =
    ap (λ (w : Word). record { data_type = w; maximum = maybe f.maximum; name = word_between n r f.name f.end; list = f.list; code = f.code }) (word_moved b n u r f.type_at f.type_end q h.type_from)
    ∙ ap (λ (w : Word). record { data_type = word_between b u f.type_at f.type_end; maximum = maybe f.maximum; name = w; list = f.list; code = f.code }) (word_moved b n u r f.name f.end q (omega (arith, h.type_from, h.type_to, h.name_from)))

pub field_took : {b n : ℕ} {u r : List ℕ} {f : FieldParts} {c : ℕ} → Rest b u n r → FieldTo (Ok (f, c)) n r → Took parse_field b u n (field_at b u f) c
field_took {b} {n} {u} {r} {f} {c} q h = rw (← field_moved b n u r f c q h.within) (read_took h (walks parse_field_inside.on_chain) q)

-- a field that was read further on, and the bytes after it
pub between_wider : {b n : ℕ} {f : FieldParts} {c d : ℕ} → b ≤ n → c ≤ d → FieldBetween n f c → FieldBetween b f d
between_wider h k w = record { type_from = omega (arith, w.type_from); type_to = w.type_to; name_from = w.name_from; name_to = w.name_to; before = omega (arith, w.before) }

pub struct_between_wider : {b n : ℕ} {s : StructFieldParts} {c d : ℕ} → b ≤ n → c ≤ d → StructFieldBetween n s c → StructFieldBetween b s d
struct_between_wider h k w = record { between = between_wider h k w.between; few_flags = w.few_flags }

pub struct_field_took : {m : Parser StructFieldOf} → Onward m → {b n : ℕ} {u r : List ℕ} {s : StructFieldParts} {c : ℕ} → Rest b u n r → StructFieldTo m (Ok (s, c)) n r → Took m b u n (struct_field_at b u s) c
struct_field_took w {b} {n} {u} {r} {s} {c} q h = rw (← field_moved b n u r s.field c q h.within.between) (read_took h w q)

parse_struct_field_on : Onward parse_struct_field
parse_struct_field_on = walks parse_struct_field_inside.on_chain

-- it reads the blanks before it itself
pub field_after_on : Onward (after_blanks parse_struct_field)
field_after_on = onward_then (walks whitespace0_chain) parse_struct_field_on

pub field_after : {b : ℕ} {u : List ℕ} {a : Read StructFieldParts} → StructFieldTo parse_struct_field a b u → StructFieldTo (after_blanks parse_struct_field) a b u
unfolding parse_struct_field
field_after h = read_after _ _ _ h

pub closed_field_on : Onward closed_field
closed_field_on = walks closed_field_inside.on_chain

-- the elements of both passes: four words a field
pub field_words : (f : StructFieldOf) → word_count layout (field_record f ∷ []) ≡ 4
unfolding word_count catalogue_words each record_words layout field_record plain
field_words f = refl

pub fields_repeat : Repeats (map field_record) (λ f. field_record f ∷ []) closed_field struct_field_at (λ u. StructFieldBetween) (λ f. 4)
fields_repeat = record { takes = closed_field_consumes; chain = closed_field_inside.on_chain; elementwise = map_elementwise field_record; words = λ b c u f h. field_words _; few = λ b c u f h v. omega (arith, v) }

pub struct_fields_on : Onward struct_fields
struct_fields_on = walks struct_fields_local.on_chain

-- The second pass.

-- the four words of a field's record
pub field_put : (s : StructFieldParts) (p i j t x w : ℕ) (l l₁ : List ℕ) → i ≡ bit s.field.list → j ≡ bit (is_some s.field.maximum)
    → w ≡ first_of (record { kind = kind_number a_field; place = 0; maturity = s.maturity; doc_present = 0; flags = i * 64 + j * 32 + s.flags * 4; name = s.field.name; name_length = s.field.end - s.field.name; first_privilege = View; second_privilege = View })
    → t ≡ word_of_span s.field.type_at (s.field.type_end - s.field.type_at) → x ≡ or_else 0 (maybe s.field.maximum)
    → l₁ ≡ put p (words_bytes (w ∷ t ∷ s.field.code ∷ x ∷ [])) l → l₁ ≡ put p (catalogue_bytes layout (field_parts s ∷ [])) l
unfolding from_top packed width flag offset size layout further_word
field_put s p i j t x w l l₁ ei ej d f y e =
    let g : ℕ = i * 64 + j * 32 + s.flags * 4 in
    let z : g ≡ from_top 7 (flag s.field.list ∷ flag (is_some s.field.maximum) ∷ bits 3 s.flags ∷ []) = omega (arith, ei, ej) in
    rw (plain_bytes a_field s.maturity (flag s.field.list ∷ flag (is_some s.field.maximum) ∷ bits 3 s.flags ∷ []) (at s.field.name (s.field.end - s.field.name))
    (spanned (at s.field.type_at (s.field.type_end - s.field.type_at)) ∷ value s.field.code ∷ value (or_else 0 (maybe s.field.maximum)) ∷ []) g z)
    (rw (d, f, y) at e)

-- the record of a field that was read
pub field_parts_is : (b : ℕ) (u : List ℕ) (s : StructFieldParts) (c : ℕ) → StructFieldBetween b s c → c ≤ b + length u → field_parts s ≡ field_record (struct_field_at b u s)
unfolding field_record
field_parts_is b u s c w i =
    let v = w.between in
    rw (
      present_some s.field.maximum,
      extent_between b u s.field.name s.field.end (omega (arith, v.type_from, v.type_to, v.name_from)) v.name_to (omega (arith, v.before)),
      extent_between b u s.field.type_at s.field.type_end v.type_from v.type_to (omega (arith, v.name_from, v.name_to, v.before)),
    )
