-- What the readers and writers of entries promise.
use Rattle.items.specs.answers.{maturity_number}
use Rattle.std.specs.Prelude.{ℕ, ◌≤◌, ◌<◌, ◌-◌, ◌*◌, List, [], ◌∷◌, map, drop, ◌≡◌, Ok, Err}
use Rattle.std.proofs.Math.Option.{Option}
use Rattle.lexing.specs.reply.{Parser, ret, ◌>>=◌, ◌>>◌}
use Rattle.lexing.specs.answers.{Answer, ReadTo, word_between, reply, Read, read_answer}
use Rattle.items.specs.entries.{Annotation, Entry, constant_annotations_list}
use Rattle.items.specs.declared.entries.EntryParts.{EntryParts}
use Rattle.lexing.specs.bytes.{byte}
use Rattle.lexing.specs.words.{tag}
use Rattle.lexing.specs.blanks.{whitespace0}
use Rattle.items.specs.records.{Record, at, value, plain, annotation_record}
use Rattle.items.specs.layout.{layout, word_count}
use Rattle.items.specs.inner.annotations.{list_at, annotations_at}

-- the entry that offsets stand for, in a part that starts at b
abbrev pub entry_at : ℕ → List ℕ → EntryParts → Entry
entry_at b u e = record { maturity = maturity_number e.maturity; name = word_between b u e.name e.end; code = e.code; annotations = annotations_at e.list (drop (e.list - b) u) }

-- an entry that was read from b to c names bytes there, and has the words of its annotations
pub record EntryBounds (b : ℕ) (u : List ℕ) (e : EntryParts) (c : ℕ) : Type 0 where
  pub from : b ≤ e.name
  pub up : e.name < e.end
  pub follows : e.end ≤ e.list
  pub inside : e.list ≤ c
  pub words : word_count layout (map annotation_record (entry_at b u e).annotations) ≡ e.words
  pub few : e.words ≤ 8 * (c - e.list)

abbrev pub EntryTo : Parser Entry → Read EntryParts → ℕ → List ℕ → Type 0
EntryTo m r b u = ReadTo entry_at (λ b e c. EntryBounds b u e c) m r b u

-- what follows the code of an entry; e makes the entry of its list
unfoldable pub entry_end : (Option (List Annotation) → Entry) → Parser Entry
entry_end e = do
  whitespace0
  a ← constant_annotations_list
  whitespace0
  tag (byte ";")
  ret (e a)

abbrev pub end_answer : (Option (List Annotation) → Entry) → ℕ → List ℕ → Read ℕ → Answer Entry
end_answer e b u = read_answer (λ n. e (list_at b u))

abbrev pub EndWords : Read ℕ → ℕ → List ℕ → Type 0
EndWords (Ok r) b u = (word_count layout (map annotation_record (annotations_at b u)) ≡ r.0) × (r.0 ≤ 8 * (r.1 - b))
EndWords (Err l) b u = Unit {0}

pub record EndTo (r : Read ℕ) (b : ℕ) (u : List ℕ) : Type 0 where
  pub reads : (e : Option (List Annotation) → Entry) → reply (end_answer e b u r) b u ≡ entry_end e b u
  pub words : EndWords r b u

-- the record of an entry, by the offsets of its name
abbrev pub parts_record : EntryParts → Record
parts_record e = plain 4 (maturity_number e.maturity) [] (at e.name (e.end - e.name)) (value e.code ∷ [])
