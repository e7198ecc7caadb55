-- What the answers of the code say, as replies of the definitions. An answer is taken with the offset b and the text u that its reader was handed.
pub mod names
use Rattle.std.specs.Prelude.{ℕ, zero, suc, ◌+◌, ◌-◌, ◌≤◌, ◌<◌, ◌≡◌, Bool, true, false, List, [], ◌∷◌, length, take, drop, get_or, Option, Some, None, Result, Ok, Err}
use Rattle.lexing.specs.reply.{Reply, ok, fail, stop, Parser, ◌>>◌}
use Rattle.lexing.specs.words.{Word, word}
use Rattle.lexing.specs.integers.{Signed, signed}
use Rattle.lexing.specs.blanks.{Whitespace, white, plain, doc_comment, Doc, no_doc, doc_at, whitespace0}
use Rattle.lexing.specs.strings.{Span, span}
use Rattle.lexing.specs.word_sets.{set_flags, field_set, struct_set, event_set, command_set, attribute_set}
use Rattle.lexing.specs.declared.answers.Refusal.{Refusal}
use Rattle.lexing.specs.declared.answers.Refusal.TheVariants.{TextTooLong, NotUtf8, NoItem, NumberTooLarge, EscapedReturn, AccessNotLower, CatalogueTooShort, ReportTooShort, BadEscape, OutputTooShort}
use Rattle.lexing.specs.declared.answers.LostBy.{LostBy}
use Rattle.lexing.specs.declared.answers.LostBy.TheVariants.{Fail, Stop}
use Rattle.lexing.specs.declared.blanks.DocSpan.{DocSpan}
use Rattle.lexing.specs.declared.blanks.Blank.{Blank}
use Rattle.lexing.specs.declared.blanks.Group.{Group}
use Rattle.lexing.specs.declared.blanks.Group.TheVariants.{White, Plain, DocComment}
use Rattle.lexing.specs.declared.integers.SignedParts.{SignedParts}
use Rattle.lexing.specs.declared.word_sets.KeywordSet.{KeywordSet}
use Rattle.lexing.specs.declared.word_sets.KeywordSet.TheVariants.{Field, Struct, Event, Command, Attribute, Empty}
use Rattle.lexing.specs.declared.word_sets.WordSet.{WordSet}

-- the rest of a part from offset c on
pub record Rest (b : ℕ) (u : List ℕ) (c : ℕ) (r : List ℕ) : Type 0 where
  pub from : b ≤ c
  pub same : r ≡ drop (c - b) u
  pub size : c + length r ≡ b + length u

-- where it is said so, eight bytes are at i, none of them x. The other answer is free: it says nothing of the bytes
abbrev pub LacksIf : Bool → ℕ → List ℕ → ℕ → Type 0
LacksIf true x u i = (i + 8 ≤ length u) × ((j : ℕ) → j < 8 → get_or u (i + j) 0 ≡ x → ⊥)
LacksIf false x u i = Unit {0}

-- why there is no token, where what ends all reading is a refusal
abbrev pub Lost : Type 0
Lost = LostBy Refusal

-- a value and the offset after it, or why there is none
pub data Answer (A : Type 0) : Type 0 where
  got : A → ℕ → Answer A
  lost : Lost → Answer A

-- the numbers of document 01
abbrev pub number_of : Refusal → ℕ
number_of TextTooLong = 1
number_of NotUtf8 = 2
number_of NoItem = 3
number_of NumberTooLarge = 4
number_of EscapedReturn = 5
number_of AccessNotLower = 6
number_of CatalogueTooShort = 7
number_of ReportTooShort = 8
number_of BadEscape = 9
number_of OutputTooShort = 10

-- one thing for a failure, by its place, another for what ends all reading, by its number and its place
abbrev pub on_lost : {T : Type 0} → (ℕ → T) → (ℕ → ℕ → T) → Lost → T
on_lost f s (Fail p) = f p
on_lost f s (Stop n p) = s (number_of n) p

abbrev pub lost_reply : {A : Type 0} → Lost → Reply A
lost_reply l = on_lost (λ p. fail p) (λ n p. stop n p) l

abbrev pub reply : {A : Type 0} → Answer A → ℕ → List ℕ → Reply A
reply (got a c) b u = ok a c (drop (c - b) u)
reply (lost l) b u = lost_reply l

-- what the code answers: a value and the offset after it, or that offset alone, or why there is none
abbrev pub Read : Type 0 → Type 0
Read P = Result (P × ℕ) Lost

abbrev pub Step : Type 0
Step = Result ℕ Lost

-- what an answer has lost; where its token is there, a failure after it
abbrev pub step_lost : {R : Type 0} → Result ℕ (LostBy R) → LostBy R
step_lost (Ok c) = Fail c
step_lost (Err l) = l

abbrev pub value_lost : {P R : Type 0} → Result (P × ℕ) (LostBy R) → LostBy R
value_lost (Ok r) = Fail r.1
value_lost (Err l) = l

-- such an answer, with what its value, or its offset, stands for
abbrev pub read_answer : {P A : Type 0} → (P → A) → Read P → Answer A
read_answer f (Ok r) = got (f r.0) r.1
read_answer f (Err l) = lost l

abbrev pub step_answer : {A : Type 0} → (ℕ → A) → Step → Answer A
step_answer f (Ok c) = got (f c) c
step_answer f (Err l) = lost l

-- words and tags
abbrev pub tag_reply : Step → ℕ → List ℕ → Reply (Unit {0})
tag_reply r b u = reply (step_answer (λ c. tt) r) b u

abbrev pub word_at : ℕ → List ℕ → ℕ → Word
word_at b u c = word b (take (c - b) u)

abbrev pub word_reply : Step → ℕ → List ℕ → Reply Word
word_reply r b u = reply (step_answer (word_at b u) r) b u

-- integers
abbrev pub number_reply : Read ℕ → ℕ → List ℕ → Reply ℕ
number_reply r b u = reply (read_answer (λ v. v) r) b u

abbrev pub signed_of : SignedParts → Signed
signed_of s = signed s.negative s.magnitude

abbrev pub signed_reply : Read SignedParts → ℕ → List ℕ → Reply Signed
signed_reply r b u = reply (read_answer signed_of r) b u

-- blanks
abbrev pub doc_of : Option DocSpan → Doc
doc_of None = no_doc
doc_of (Some d) = doc_at d.offset d.size

abbrev pub group_reply : Option Group → ℕ → List ℕ → Reply Whitespace
group_reply None b u = fail b
group_reply (Some (White n)) b u = ok white (b + n) (drop n u)
group_reply (Some (Plain n)) b u = ok plain (b + n) (drop n u)
group_reply (Some (DocComment n)) b u = ok (doc_comment (b + 3) n) (b + (n + 5)) (drop (n + 5) u)

abbrev pub blank_reply : Blank → ℕ → List ℕ → Reply Doc
blank_reply r b u = reply (got (doc_of r.doc) r.next) b u

pub record BlankTo (r : Blank) (b : ℕ) (u : List ℕ) : Type 0 where
  pub reads : blank_reply r b u ≡ whitespace0 b u
  pub up : b ≤ r.next
  pub inside : r.next ≤ b + length u

abbrev pub gap_answer : Result Blank Lost → Answer Doc
gap_answer (Ok r) = got (doc_of r.doc) r.next
gap_answer (Err l) = lost l

abbrev pub gap_reply : Result Blank Lost → ℕ → List ℕ → Reply Doc
gap_reply r b u = reply (gap_answer r) b u

abbrev pub span_to : ℕ → ℕ → Span
span_to b c = span (suc b) (c - 1 - suc b)

abbrev pub string_reply : Step → ℕ → List ℕ → Reply Span
string_reply r b u = reply (step_answer (span_to b) r) b u

-- word sets
abbrev pub set_of : KeywordSet → List (List ℕ)
set_of Field = field_set
set_of Struct = struct_set
set_of Event = event_set
set_of Command = command_set
set_of Attribute = attribute_set
set_of Empty = []

pub record WordSetTo (r : WordSet) (set : KeywordSet) (b : ℕ) (u : List ℕ) : Type 0 where
  pub reads : reply (got r.flags r.next) b u ≡ set_flags (set_of set) b u
  pub up : b ≤ r.next
  pub inside : r.next ≤ b + length u
  pub small : r.flags < 16

-- the word between two offsets of a part that starts at b
abbrev pub word_between : ℕ → List ℕ → ℕ → ℕ → Word
word_between b u o e = word o (take (e - o) (drop (o - b) u))

-- what holds of an answer's value and the offset after it, where there is one
abbrev pub Within : {P : Type 0} → (P → ℕ → Type 0) → Read P → Type 0
Within W (Ok r) = W r.0 r.1
Within W (Err l) = Unit {0}

-- an answer that is a parser's: f is what its value stands for, W are bounds that its caller needs
pub record ReadTo {P A : Type 0} (f : ℕ → List ℕ → P → A) (W : ℕ → P → ℕ → Type 0) (m : Parser A) (r : Read P) (b : ℕ) (u : List ℕ) : Type 0 where
  pub reads : reply (read_answer (f b u) r) b u ≡ m b u
  pub within : Within (W b) r

-- a name from n to e, in what was read from b to c
pub record NameIn (b n e c : ℕ) : Type 0 where
  pub from : b ≤ n
  pub up : n ≤ e
  pub inside : e ≤ c

-- a step whose value is dropped: the parser's value is free, and where it ends or what is lost is settled
pub record Skips {A : Type 0} (m : Parser A) (r : Step) (b : ℕ) (u : List ℕ) : Type 0 where
  pub value : A
  pub reads : reply (step_answer (λ c. value) r) b u ≡ m b u

-- the same from an offset c of a part
pub record SkipsAt {A : Type 0} (m : Parser A) (r : Step) (b : ℕ) (u : List ℕ) (c : ℕ) : Type 0 where
  pub at : Rest b u c (drop (c - b) u)
  pub skips : Skips m r c (drop (c - b) u)

abbrev pub BlankAt : ℕ → ℕ → List ℕ → ℕ → Type 0
BlankAt r b u c = SkipsAt whitespace0 (Ok r) b u c

-- `preceded` by blanks
abbrev pub after_blanks : {A : Type 0} → Parser A → Parser A
after_blanks p = whitespace0 >> p

-- a word from an offset c of a part
pub record WordAt (m : Parser Word) (r : Step) (b : ℕ) (u : List ℕ) (c : ℕ) : Type 0 where
  pub at : Rest b u c (drop (c - b) u)
  pub reads : word_reply r c (drop (c - b) u) ≡ m c (drop (c - b) u)

-- an integer from an offset c of a part
pub record NumberAt (m : Parser ℕ) (r : Read ℕ) (b : ℕ) (u : List ℕ) (c : ℕ) : Type 0 where
  pub at : Rest b u c (drop (c - b) u)
  pub reads : number_reply r c (drop (c - b) u) ≡ m c (drop (c - b) u)

-- the answer of an optional part that is at b, whatever ends all reading
abbrev pub optional_step : {R : Type 0} → Result ℕ (LostBy R) → ℕ → Result ℕ (LostBy R)
optional_step (Ok c) b = Ok c
optional_step (Err (Fail p)) b = Ok b
optional_step (Err (Stop n p)) b = Err (Stop n p)
