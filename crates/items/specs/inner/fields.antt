-- What the readers and writers of fields promise.
use Rattle.lexing.specs.declared.answers.LostBy.TheVariants.{Fail, Stop}
use Rattle.std.specs.Prelude.{ℕ, ◌≤◌, ◌<◌, ◌+◌, ◌-◌, ◌≡◌, List, [], ◌∷◌, length, Ok, Err, Some, None, Option as CodeOption, is_some}
use Rattle.lexing.specs.reply.{Parser, Reply, opt}
use Rattle.lexing.specs.answers.{Answer, got, ReadTo, word_between, reply, Read, read_answer}
use Rattle.items.specs.structs.{Field as FieldOf, StructField as StructFieldOf, parse_field, list_marker}
use Rattle.items.specs.answers.{maturity_number, option_of, maybe}
use Rattle.items.specs.declared.fields.FieldParts.{FieldParts}
use Rattle.items.specs.declared.fields.StructFieldParts.{StructFieldParts}
use Rattle.std.proofs.Math.Option.{Option}
use Rattle.items.specs.members.{or_else}
use Rattle.items.specs.records.{Record, at, bits, value, spanned, flag, plain}
use Rattle.items.specs.declared.fields.Marker.{Marker}

-- the field that the code's offsets stand for
abbrev pub field_at : ℕ → List ℕ → FieldParts → FieldOf
field_at b u f = record {
  data_type = word_between b u f.type_at f.type_end;
  maximum = maybe f.maximum;
  name = word_between b u f.name f.end;
  list = f.list;
  code = f.code;
}

-- a field between b and c
pub record FieldBetween (b : ℕ) (f : FieldParts) (c : ℕ) : Type 0 where
  pub type_from : b ≤ f.type_at
  pub type_to : f.type_at ≤ f.type_end
  pub name_from : f.type_end ≤ f.name
  pub name_to : f.name ≤ f.end
  pub before : f.end ≤ c

abbrev pub FieldTo : Read FieldParts → ℕ → List ℕ → Type 0
FieldTo r b u = ReadTo field_at FieldBetween parse_field r b u

abbrev pub struct_field_at : ℕ → List ℕ → StructFieldParts → StructFieldOf
struct_field_at b u s = record { maturity = maturity_number s.maturity; flags = s.flags; field = field_at b u s.field }

pub record StructFieldBetween (b : ℕ) (s : StructFieldParts) (c : ℕ) : Type 0 where
  pub between : FieldBetween b s.field c
  pub few_flags : s.flags < 8

abbrev pub StructFieldTo : Parser StructFieldOf → Read StructFieldParts → ℕ → List ℕ → Type 0
StructFieldTo m r b u = ReadTo struct_field_at StructFieldBetween m r b u

-- a length that may be absent
abbrev pub length_answer : Read (CodeOption ℕ) → Answer (Option ℕ)
length_answer = read_answer maybe

abbrev pub length_reply : Read (CodeOption ℕ) → ℕ → List ℕ → Reply (Option ℕ)
length_reply r b u = reply (length_answer r) b u

-- of a number that may be absent at b
abbrev pub optional_length : Read ℕ → ℕ → Read (CodeOption ℕ)
optional_length (Ok r) b = Ok (Some r.0, r.1)
optional_length (Err (Fail p)) b = Ok (None, b)
optional_length (Err (Stop n p)) b = Err (Stop n p)

-- the marker of a list and where it ends
pub record MarkerTo (r : Marker) (b : ℕ) (u : List ℕ) : Type 0 where
  pub reads : reply (got (option_of r.list tt) r.next) b u ≡ opt list_marker b u
  pub up : b ≤ r.next
  pub inside : r.next ≤ b + length u

-- The second pass.

-- the record of a field, by offsets
abbrev pub field_parts : StructFieldParts → Record
field_parts s =
    plain 6 (maturity_number s.maturity) (flag s.field.list ∷ flag (is_some s.field.maximum) ∷ bits 3 s.flags ∷ []) (at s.field.name (s.field.end - s.field.name))
    (spanned (at s.field.type_at (s.field.type_end - s.field.type_at)) ∷ value s.field.code ∷ value (or_else 0 (maybe s.field.maximum)) ∷ [])
