-- What the readers and writers of commands promise.
use Rattle.std.specs.Prelude.{ℕ, ◌-◌, ◌≤◌, ◌<◌, List, [], ◌∷◌, ltb, drop, Bool, true, false, ◌≡◌}
use Rattle.std.proofs.Math.Option.{Option}
use Rattle.lexing.specs.reply.{opt}
use Rattle.lexing.specs.words.{Word, parse_id}
use Rattle.lexing.specs.blanks.{Doc}
use Rattle.lexing.specs.answers.{Rest, got, ReadTo, word_between, reply, doc_of, Read}
use Rattle.items.specs.members.{CommandHead as CommandHeadOf, command_head, CommandTypes as CommandTypesOf, command_types, Command as CommandOf, parse_command_after_doc_maturity}
use Rattle.items.specs.answers.{maturity_number, option_of, Front, CountsTo, privilege_number}
use Rattle.items.specs.records.{Record, command_record, Extent, absent, at, bits, value, spanned, flag, documented}
use Rattle.items.specs.declared.commands.CommandHeadParts.{CommandHeadParts}
use Rattle.items.specs.declared.commands.CommandTypesParts.{CommandTypesParts}
use Rattle.items.specs.declared.commands.CommandParts.{CommandParts}
use Rattle.items.specs.declared.writing.FrontParts.{FrontParts}

-- an optional word is absent where it is empty
abbrev pub optional_between : ℕ → List ℕ → ℕ → ℕ → Option Word
optional_between b u o e = option_of (ltb o e) (word_between b u o e)

-- up to a command's name
abbrev pub command_head_at : ℕ → List ℕ → CommandHeadParts → CommandHeadOf
command_head_at b u h = record { qualities = h.qualities; privilege = privilege_number h.privilege; id = word_between b u h.name h.end }

pub record CommandHeadBetween (b : ℕ) (h : CommandHeadParts) (c : ℕ) : Type 0 where
  pub qualities : h.qualities < 4
  pub name_from : b ≤ h.name
  pub name_to : h.name ≤ h.end
  pub before : h.end ≤ c

abbrev pub CommandHeadTo : Read CommandHeadParts → ℕ → List ℕ → Type 0
CommandHeadTo r b u = ReadTo command_head_at CommandHeadBetween command_head r b u

-- a command's input and output
abbrev pub command_types_at : ℕ → List ℕ → CommandTypesParts → CommandTypesOf
command_types_at b u t = record { from = optional_between b u t.input t.input_end; to = word_between b u t.output t.output_end }

pub record CommandTypesBetween (b : ℕ) (t : CommandTypesParts) (c : ℕ) : Type 0 where
  pub input_from : b ≤ t.input
  pub input_to : t.input ≤ t.input_end
  pub output_from : t.input_end ≤ t.output
  pub output_to : t.output ≤ t.output_end
  pub before : t.output_end ≤ c

abbrev pub CommandTypesTo : Read CommandTypesParts → ℕ → List ℕ → Type 0
CommandTypesTo r b u = ReadTo command_types_at CommandTypesBetween command_types r b u

-- a command, whatever is before it
abbrev pub command_at : Doc → ℕ → ℕ → List ℕ → CommandParts → CommandOf
command_at d m b u p = record {
  doc = d;
  maturity = m;
  flags = p.head.qualities;
  access = privilege_number p.head.privilege;
  name = word_between b u p.head.name p.head.end;
  input = optional_between b u p.types.input p.types.input_end;
  output = word_between b u p.types.output p.types.output_end;
  code = p.code;
}

pub record CommandBetween (b : ℕ) (p : CommandParts) (c : ℕ) : Type 0 where
  pub head : CommandHeadBetween b p.head p.types.input
  pub types : CommandTypesBetween p.head.end p.types c

pub record CommandTo (r : Read CommandParts) (b : ℕ) (u : List ℕ) : Type 0 where
  pub to : (d : Doc) (m : ℕ) → ReadTo (command_at d m) CommandBetween (parse_command_after_doc_maturity d m) r b u

-- a command is one record
abbrev pub command_records : CommandOf → List Record
command_records c = command_record c ∷ []

abbrev pub CommandCountTo : Read ℕ → ℕ → List ℕ → Type 0
CommandCountTo r b u = CountsTo {I = Front} (λ i. command_records) (λ i. parse_command_after_doc_maturity i.doc i.maturity) r b u

-- a name that may be absent ends at r
abbrev pub OptionalIdTo : ℕ → ℕ → List ℕ → Type 0
OptionalIdTo r b u = reply (got (optional_between b u b r) r) b u ≡ opt parse_id b u

-- the same from an offset c of a part
pub record OptionalIdAt (r b : ℕ) (u : List ℕ) (c : ℕ) : Type 0 where
  pub at : Rest b u c (drop (c - b) u)
  pub reads : OptionalIdTo r c (drop (c - b) u)

-- an extent that may be absent
abbrev pub extent_if : Bool → ℕ → ℕ → Extent
extent_if true o n = at o n
extent_if false o n = absent

-- the record of a command, by offsets
abbrev pub command_parts : FrontParts → CommandParts → Record
command_parts f p =
    let h : CommandHeadParts = p.head in
    let t : CommandTypesParts = p.types in
    documented 8 0 (maturity_number f.maturity) (doc_of f.doc) (bits 2 h.qualities ∷ flag (ltb t.input t.input_end) ∷ []) (at h.name (h.end - h.name)) (privilege_number h.privilege) 0
    (spanned (extent_if (ltb t.input t.input_end) t.input (t.input_end - t.input)) ∷ spanned (at t.output (t.output_end - t.output)) ∷ value p.code ∷ [])
