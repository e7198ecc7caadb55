-- What the readers and writers of attributes promise.
use Rattle.items.specs.declared.attributes.Privileges.{Privileges}
use Rattle.lexing.specs.declared.answers.LostBy.TheVariants.{Fail}
use Rattle.std.specs.Prelude.{ℕ, ◌<◌, List, [], ◌∷◌, ◌≡◌, Bool, true, false, Ok, Err, Result, Some, None, Option as CodeOption}
use Rattle.lexing.specs.answers.{Answer, got, lost, ReadTo, word_at, reply, doc_of, Read as ReadOf}
use Rattle.items.specs.members.{Privileges as PrivilegesOf, attribute_access, parse_attribute_after_doc_maturity, Access as AccessOf, access_entry, comma, separated_list0}
use Rattle.items.specs.records.{attribute_records, Record, absent, bits, documented}
use Rattle.items.specs.answers.{maturity_number, Front, CountsTo, privilege_number}
use Rattle.std.proofs.Math.Option.{Option, none, some}
use Rattle.lexing.specs.bytes.{ascii}
use Rattle.lexing.specs.reply.{Parser, ret, ◌>>=◌, ◌>>◌, opt}
use Rattle.lexing.specs.words.{Word, offset_of, bytes_of, keyword}
use Rattle.lexing.specs.blanks.{whitespace0, whitespace1}
use Rattle.lexing.specs.word_sets.{same_bytes, set_flags, attribute_set}
use Rattle.items.specs.clusters.{mapped}
use Rattle.items.specs.declared.writing.FrontParts.{FrontParts}
use Rattle.items.specs.declared.attributes.AttributeHeadParts.{AttributeHeadParts}
use Rattle.items.specs.declared.attributes.Operation.{Operation}
use Rattle.items.specs.declared.attributes.Operation.TheVariants.{Read, Write, Neither}
use Rattle.items.specs.declared.attributes.AccessEntries.{AccessEntries}

-- the privileges to read and to write
abbrev pub privileges_of : Privileges → PrivilegesOf
privileges_of p = record { read = privilege_number p.read; write = privilege_number p.write }

abbrev pub PrivilegesTo : ReadOf Privileges → ℕ → List ℕ → Type 0
PrivilegesTo r b u = ReadTo (λ b u p. privileges_of p) (λ b p c. Unit {0}) attribute_access r b u

-- an attribute, whatever is before it
abbrev pub AttributeCountTo : ReadOf ℕ → ℕ → List ℕ → Type 0
AttributeCountTo r b u = CountsTo {I = Front} (λ i. attribute_records) (λ i. parse_attribute_after_doc_maturity i.doc i.maturity) r b u

-- the words of a list of privileges
abbrev pub access_words : List (List ℕ)
access_words = ascii "read" ∷ ascii "write" ∷ []

-- the operation that a word names
abbrev pub operation_if : (is_read is_write : Bool) → Operation
operation_if true w = Read
operation_if false true = Write
operation_if false false = Neither

unfoldable pub operation_of : List ℕ → Operation
operation_of w = operation_if (same_bytes w (ascii "read")) (same_bytes w (ascii "write"))

-- a word of the list: m is the keyword, or both
abbrev pub operation_answer : ℕ → List ℕ → CodeOption (Operation × ℕ) → Answer Word
operation_answer b u (Some r) = got (word_at b u r.1) r.1
operation_answer b u None = lost (Fail b)

abbrev pub operation_means : ℕ → List ℕ → CodeOption (Operation × ℕ) → Type 0
operation_means b u (Some r) = operation_of (bytes_of (word_at b u r.1)) ≡ r.0
operation_means b u None = Unit {0}

pub record OperationTo (m : Parser Word) (r : CodeOption (Operation × ℕ)) (b : ℕ) (u : List ℕ) : Type 0 where
  pub reads : reply (operation_answer b u r) b u ≡ m b u
  pub means : operation_means b u r

-- what entries have granted, or the place of the first word that refuses the list
abbrev pub Grants : Type 0
Grants = Result Privileges ℕ

-- the same by the numbers of privileges
abbrev pub Granted : Type 0
Granted = Result PrivilegesOf ℕ

abbrev pub granted_of : Grants → Granted
granted_of (Ok p) = Ok (privileges_of p)
granted_of (Err o) = Err o

-- what a list grants, read from its start on: of a repeated word the last wins; a word that is not in lower case refuses the list, and the first one counts
abbrev pub grants_with : Granted → Operation → (privilege at : ℕ) → Granted
grants_with (Ok g) Read p o = Ok (record { read = p; write = g.write })
grants_with (Ok g) Write p o = Ok (record { read = g.read; write = p })
grants_with (Ok g) Neither p o = Err o
grants_with (Err q) k p o = Err q

unfoldable pub with_entry : Granted → AccessOf → Granted
with_entry g a = grants_with g (operation_of (bytes_of a.operation)) a.granted (offset_of a.operation)

unfoldable pub grants_from : Granted → List AccessOf → Granted
grants_from g [] = g
grants_from g (a ∷ l) = grants_from (with_entry g a) l

abbrev pub EntriesTo : Parser Granted → AccessEntries → ℕ → List ℕ → Type 0
EntriesTo m r b u = ReadTo (λ b u g. granted_of g) (λ b g c. Unit {0}) m (Ok (r.grants, r.next)) b u

-- an entry that may be absent
unfoldable pub grants_after : Granted → Option AccessOf → Granted
grants_after g none = g
grants_after g (some a) = with_entry g a

abbrev pub AccessEntryTo : Grants → AccessEntries → ℕ → List ℕ → Type 0
AccessEntryTo g r b u = EntriesTo (mapped (opt access_entry) (grants_after (granted_of g))) r b u

-- all entries; before any: view to read, operate to write
abbrev pub no_grants : Granted
no_grants = Ok (record { read = 0; write = 1 })

abbrev pub AccessEntriesTo : AccessEntries → ℕ → List ℕ → Type 0
AccessEntriesTo r b u = EntriesTo (mapped (separated_list0 comma access_entry) (grants_from no_grants)) r b u

-- An attribute up to its field, cut out of `parse_attribute_after_doc_maturity`.
pub record AttributeHeadOf : Type 0 where
  pub flags : ℕ
  pub privileges : PrivilegesOf

unfoldable pub attribute_head : Parser AttributeHeadOf
attribute_head = do
  q ← set_flags attribute_set
  whitespace0
  keyword (ascii "attribute")
  whitespace1
  p ← attribute_access
  ret (record { flags = q; privileges = p })

abbrev pub attribute_head_of : AttributeHeadParts → AttributeHeadOf
attribute_head_of h = record { flags = h.flags; privileges = record { read = privilege_number h.read; write = privilege_number h.write } }

abbrev pub AttributeHeadTo : ReadOf AttributeHeadParts → ℕ → List ℕ → Type 0
AttributeHeadTo r b u = ReadTo (λ b u h. attribute_head_of h) (λ b h c. h.flags < 16) attribute_head r b u

-- The second pass.

-- the first record of an attribute
abbrev pub attribute_first : FrontParts → AttributeHeadParts → Record
attribute_first f h = documented 7 0 (maturity_number f.maturity) (doc_of f.doc) (bits 4 h.flags ∷ []) absent (privilege_number h.read) (privilege_number h.write) []
