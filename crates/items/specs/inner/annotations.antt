-- What the readers and writers of annotations promise.
use Rattle.std.specs.Prelude.{ℕ, suc, ◌-◌, ◌≤◌, ◌<◌, List, [], ◌∷◌, map}
use Rattle.lexing.specs.reply.{Reply, ok, fail, stop, Parser, ◌>>◌}
use Rattle.lexing.specs.blanks.{whitespace0}
use Rattle.lexing.specs.answers.{ReadTo, word_between, span_to, Read}
use Rattle.items.specs.entries.{Annotation, annotations_of, constant_annotations_list}
use Rattle.items.specs.declared.annotations.AnnotationParts.{AnnotationParts}
use Rattle.std.proofs.Math.Option.{Option, none}
use Rattle.items.specs.records.{Record, at, spanned, plain, annotation_kind, annotation_record}

-- the annotation that offsets stand for, in a part that starts at b
abbrev pub annotation_at : ℕ → List ℕ → AnnotationParts → Annotation
annotation_at b u a = record { key = word_between b u a.key a.end; value = span_to a.quote a.after }

-- an annotation that was read from b to c names bytes there: a key, and after it a string with both its quotes
pub record AnnotationBetween (b : ℕ) (a : AnnotationParts) (c : ℕ) : Type 0 where
  pub from : b ≤ a.key
  pub up : a.key ≤ a.end
  pub follows : a.end ≤ a.quote
  pub quotes : suc a.quote < a.after
  pub inside : a.after ≤ c

abbrev pub AnnotationTo : Parser Annotation → Read AnnotationParts → ℕ → List ℕ → Type 0
AnnotationTo m r b u = ReadTo annotation_at AnnotationBetween m r b u

-- the records of annotations that may be absent
abbrev pub optional_records : Option (List Annotation) → List Record
optional_records o = map annotation_record (annotations_of o)

-- what the grammar reads after the code of an entry, and the value of it
unfoldable pub entry_list : Parser (Option (List Annotation))
entry_list = do
  whitespace0
  constant_annotations_list

abbrev pub list_read : Reply (Option (List Annotation)) → Option (List Annotation)
list_read (ok o c r) = o
list_read (fail p) = none
list_read (stop n p) = none

unfoldable pub list_at : ℕ → List ℕ → Option (List Annotation)
list_at b u = list_read (entry_list b u)

-- the annotations that are read there
abbrev pub annotations_at : ℕ → List ℕ → List Annotation
annotations_at b u = annotations_of (list_at b u)

-- The second pass.

-- the record of an annotation, by offsets
abbrev pub annotation_parts : AnnotationParts → Record
annotation_parts a = plain annotation_kind 0 [] (at a.key (a.end - a.key)) (spanned (at (suc a.quote) (a.after - 1 - suc a.quote)) ∷ [])
