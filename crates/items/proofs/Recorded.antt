-- A try that hands on what another reader reads: both passes over it are that reader's.
use Rattle.lexing.specs.answers.{Read}
use mathlib.Core.Path.{◌≡◌, refl, sym, ap, ◌∙◌, subst}
use mathlib.Core.List.{List}
use Prim.Native.Nat.{ℕ, ◌+◌, ◌-◌, ◌*◌}
use lib.ListN.{drop}
use Rattle.lexing.specs.reply.{Parser}
use Rattle.items.specs.clusters.{mapped}
use Rattle.items.specs.records.{Record}
use Rattle.items.specs.layout.{layout, word_count, catalogue_bytes}
use Rattle.lexing.specs.buffers.{put}
use Rattle.items.specs.answers.{CountTo, Room, Written}
use Rattle.items.specs.declared.writing.Wrote.{Wrote}
use Rattle.items.proofs.Mapped.{mapped_ok}
use Rattle.items.proofs.counts.Laws.{count_mapped}
use Rattle.items.proofs.Placed.{mapped_room}

-- the try m with the records `one` by the reader p with the records f
pub record Recorded {A B : Type 0} (one : A → List Record) (m : Parser A) (f : B → List Record) (p : Parser B) : Type 0 where
  pub make : B → A
  pub reads : m ≡ mapped p make
  pub hands : (λ (x : B). one (make x)) ≡ f

-- the same of a try that is the same
abbrev pub recorded_at : {A B : Type 0} {one : A → List Record} {m m' : Parser A} {f : B → List Record} {p : Parser B} → m' ≡ m → Recorded one m f p → Recorded one m' f p
recorded_at e i = record { make = i.make; reads = e ∙ i.reads; hands = i.hands }

module _ {A B : Type 0} {one : A → List Record} {m : Parser A} {f : B → List Record} {p : Parser B} (i : Recorded one m f p) {b : ℕ} {u : List ℕ} where
  pub recorded_counts : {r : Read ℕ} → CountTo f p r b u → CountTo one m r b u
  recorded_counts {r} h = rw i.reads (count_mapped one i.make (subst (λ (g : B → List Record). CountTo g p r b u) (sym i.hands) h))

  module _ {at : ℕ} where
    pub recorded_room : {n : ℕ} → Room one m b u at n → Room f p b u at n
    recorded_room {n} room = subst (λ (g : B → List Record). Room g p b u at n) i.hands (mapped_room i.make (subst (λ (k : Parser A). Room one k b u at n) i.reads room))

    unfoldable pub recorded_written : {w : Wrote} {old new : List ℕ} → Written f p b u at w old new → Written one m b u at w old new
    recorded_written {w} {old} {new} h = record {
      value = i.make h.value;
      is = mapped_ok i.make p b u h.value w.next (drop (w.next - b) u) refl h.is ∙ ap (λ (k : Parser A). k b u) (sym i.reads);
      place = h.place ∙ ap (λ (g : B → List Record). at + 8 * word_count layout (g h.value)) (sym i.hands);
      bytes = h.bytes ∙ ap (λ (g : B → List Record). put at (catalogue_bytes layout (g h.value)) old) (sym i.hands);
    }
