-- Members of clusters, counted.
use Rattle.lexing.specs.declared.answers.LostBy.TheVariants.{Fail}
use Rattle.std.specs.Prelude.{Ok, Err}
use mathlib.Core.Path.{◌≡◌, refl, sym, subst}
use mathlib.Core.List.{List}
use Prim.Native.Nat.{ℕ}
use native.Mathlib.Omega.{arith}
use Rattle.lexing.specs.bytes.{ascii}
use Rattle.lexing.specs.blanks.{Doc}
use Rattle.lexing.specs.answers.{lost_reply, Read, Lost}
use Rattle.lexing.proofs.Slicing.{walks}
use Rattle.lexing.proofs.Onward.{Onward}
use Rattle.items.specs.entries.{parse_bitmap_after_doc_maturity, parse_enum_after_doc_maturity}
use Rattle.items.specs.members.{parse_attribute_after_doc_maturity, parse_command_after_doc_maturity}
use Rattle.items.specs.clusters.{revision, bitmap, enum, struct, attribute, command, event, parse_revision, member_tries, parse_cluster_member}
use Rattle.items.specs.records.{attribute_records, member_records}
use Rattle.items.specs.layout.{layout, word_count}
use Rattle.items.specs.answers.{CountTo}
use Rattle.items.specs.inner.choices.{ChoiceCountTo}
use Rattle.items.specs.inner.structs.{StructCountTo}
use Rattle.items.specs.inner.commands.{command_records}
use Rattle.items.specs.inner.events.{EventCountTo}
use Rattle.items.specs.inner.members.{RevisionTo, MemberCountTo}
use Rattle.items.specs.declared.member_kinds.MemberStart.{MemberStart}
use Rattle.items.specs.inner.counts.{fail_no_earlier}
use Rattle.items.specs.inner.member_kinds.{member_try, KindTo}
use Rattle.items.specs.declared.member_kinds.MemberKind.{MemberKind}
use Rattle.items.specs.declared.member_kinds.MemberKind.TheVariants.{Revision, Bitmap, Enum, Struct, Attribute, Command, Event, Unknown}
use Rattle.items.proofs.RecordWords.{word_count_none}
use Rattle.items.proofs.counts.Laws.{read_counted, count_not, count_mapped, count_no_earlier}
use Rattle.items.proofs.Locality.{parse_revision_consumes as revision_consumes, member_tries_inside, parse_cluster_member_inside}
use Rattle.items.proofs.member_kinds.Laws.{member_left}

-- a revision takes no words
no_words : (p n : ℕ) → word_count layout (member_records (λ x. p) (revision n)) ≡ 0
unfolding member_records
no_words p n = word_count_none

pub revision_counted : {b : ℕ} {u : List ℕ} {n c : ℕ} → RevisionTo (Ok (n, c)) b u → MemberCountTo parse_revision (Ok (0, c)) b u
revision_counted {n = n} h = record { counts = λ p. read_counted (member_records (λ x. p)) revision_consumes h (no_words p n) (omega arith) }

pub revision_lost : (l : Lost) {b : ℕ} {u : List ℕ} → lost_reply l ≡ parse_revision b u → MemberCountTo parse_revision (Err l) b u
revision_lost l {b} {u} e = record { counts = λ p. count_not (member_records (λ x. p)) parse_revision b u l e }

-- the first pass over a member of a kind
module _ (d : Doc) (m : ℕ) (b : ℕ) (u : List ℕ) where
  abbrev CountsKind : MemberKind → Read ℕ → Type 0
  CountsKind k r = MemberCountTo (member_try k d m) r b u

  pub kind_counts : {k x : MemberKind} {r : Read ℕ} → k ≡ x → CountsKind x r → CountsKind k r
  kind_counts {r = r} e h = subst (λ (y : MemberKind). CountsKind y r) (sym e) h

  module _ {r : Read ℕ} where
    pub counts_revision : MemberCountTo parse_revision r b u → CountsKind Revision r
    unfolding member_try
    counts_revision h = h

    pub counts_bitmap : ChoiceCountTo (ascii "bitmap") r b u → CountsKind Bitmap r
    unfolding member_try parse_bitmap_after_doc_maturity member_records
    counts_bitmap h = record { counts = λ p. count_mapped (member_records (λ x. p)) bitmap (h.counts (record { kind = 3; place = p; doc = d; maturity = m })) }

    pub counts_enum : ChoiceCountTo (ascii "enum") r b u → CountsKind Enum r
    unfolding member_try parse_enum_after_doc_maturity member_records
    counts_enum h = record { counts = λ p. count_mapped (member_records (λ x. p)) enum (h.counts (record { kind = 2; place = p; doc = d; maturity = m })) }

    pub counts_struct : StructCountTo r b u → CountsKind Struct r
    unfolding member_try member_records
    counts_struct h = record { counts = λ p. count_mapped (member_records (λ x. p)) struct (h.counts (record { kind = 5; place = p; doc = d; maturity = m })) }

    pub counts_attribute : CountTo attribute_records (parse_attribute_after_doc_maturity d m) r b u → CountsKind Attribute r
    unfolding member_try member_records
    counts_attribute h = record { counts = λ p. count_mapped (member_records (λ x. p)) attribute h }

    pub counts_command : CountTo command_records (parse_command_after_doc_maturity d m) r b u → CountsKind Command r
    unfolding member_try member_records
    counts_command h = record { counts = λ p. count_mapped (member_records (λ x. p)) command h }

    pub counts_event : EventCountTo r b u → CountsKind Event r
    unfolding member_try member_records
    counts_event h = record { counts = λ p. count_mapped (member_records (λ x. p)) event (h.counts (record { kind = 9; place = p; doc = d; maturity = m })) }

  pub counts_unknown : CountsKind Unknown (Err (Fail b))
  unfolding member_try
  counts_unknown = record { counts = λ p. count_not (member_records (λ x. p)) (member_try Unknown d m) b u (Fail b) refl }

pub member_counted : (d : Doc) (m : ℕ) (b : ℕ) (u : List ℕ) (k : MemberStart) (r x : Read ℕ) → KindTo k b u → MemberCountTo (member_try k.kind d m) r b u → x ≡ fail_no_earlier r k.others_fail_at → MemberCountTo (member_tries d m) x b u
member_counted d m b u k r x h g e = record {
  counts = λ p. subst (λ (y : Read ℕ). CountTo (member_records (λ z. p)) (member_tries d m) y b u) (sym e) (count_no_earlier (member_records (λ z. p)) (member_try k.kind d m) (member_tries d m) k.others_fail_at r b u (g.counts p) (member_left h d m));
}

pub member_tries_on : (d : Doc) (m : ℕ) → Onward (member_tries d m)
member_tries_on d m = walks (member_tries_inside d m).on_chain

-- The first pass over members, whatever the place of types.
pub parse_member_on : Onward parse_cluster_member
parse_member_on = walks parse_cluster_member_inside.on_chain
