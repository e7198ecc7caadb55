-- Moving by d, of the records in a catalogue and of the entries in a report: in their bytes the offsets that are present are greater by d, and every other bit is the same.
use Prim.Native.Nat.{ℕ, ◌+◌, ◌-◌, ◌*◌, ◌≤◌}
use mathlib.Core.Path.{◌≡◌, refl, sym, ◌∙◌, ap}
use mathlib.Core.List.{List, [], ◌∷◌, map}
use native.Mathlib.Omega.{arith}
use Rattle.lexing.specs.buffers.{words_bytes}
use Rattle.lexing.proofs.buffers.Laws.{each_one}
use Rattle.items.specs.records.{Bits, Record, moved}
use Rattle.items.specs.layout.{packed, total, offset_width, layout, catalogue_bytes, text_limit}
use Rattle.items.proofs.Packing.{bits_of, width_total, unpack_pack}
use Rattle.items.proofs.RecordsFit.{RecordFits, WordFits, layout_fits, word_less}
use Rattle.items.proofs.Moving.{Moving, stays, moves, moving_width, raised, WordMoves, BytesMove, record_moving, record_moves, wider_fits, moved_fits}
use Rattle.matter_idl.specs.survey.{ReportEntry, sound, spoilt, report_layout, entry_words, report_bytes}
use Rattle.matter_idl.specs.demand_3.{moved_entry}
use Rattle.matter_idl.proofs.ReportFits.{EntryIn, entry_fits}

-- of a report's word the start moves, and the place of a refusal
abbrev pub entry_moving : ReportEntry → List (List Moving)
entry_moving (sound b n) = (moves offset_width ∷ stays offset_width ∷ stays (64 - 3 * offset_width) ∷ stays offset_width ∷ []) ∷ []
entry_moving (spoilt b n k p) = (moves offset_width ∷ stays offset_width ∷ stays (64 - 3 * offset_width) ∷ moves offset_width ∷ []) ∷ []

-- d + n bytes are a text that holds what is moved
pub record MovesOffsetsAlone (d n : ℕ) : Type 0 where
  pub records : (r : Record) → RecordFits n r → BytesMove d (record_moving layout r) (catalogue_bytes layout (r ∷ [])) (catalogue_bytes layout (moved d r ∷ []))
  pub entries : (e : ReportEntry) → EntryIn n e → BytesMove d (entry_moving e) (report_bytes report_layout (e ∷ [])) (report_bytes report_layout (moved_entry d e ∷ []))

-- a word, of which all values fit
values_move : (d : ℕ) (ms : List Moving) (l l' : List Bits) → bits_of l ≡ map moving_width ms → bits_of l' ≡ map moving_width ms → WordFits l → WordFits l' → l' ≡ raised d ms l → WordMoves d ms (packed 0 l) (packed 0 l')
values_move d ms l l' a b h k e =
    record {
      full = ap total (sym a) ∙ (sym (width_total l) ∙ h.full);
      before_fits = word_less l h;
      after_fits = word_less l' k;
      values = rw (← a) (rw (a, ← b) (unpack_pack 0 l' k.fit) ∙ (e ∙ ap (raised d ms) (sym (unpack_pack 0 l h.fit))));
    }

module _ (d n : ℕ) (limit : d + n ≤ text_limit) where
  entry_wider : (e : ReportEntry) → EntryIn n e → EntryIn (d + n) e
  entry_wider (sound b k) h = omega (arith, h)
  entry_wider (spoilt b k i p) h = (omega (arith, h.0), h.1, omega (arith, h.2))

  entry_moved : (e : ReportEntry) → EntryIn n e → EntryIn (d + n) (moved_entry d e)
  unfolding moved_entry
  entry_moved (sound b k) h = omega (arith, h)
  entry_moved (spoilt b k i p) h = (omega (arith, h.0), h.1, omega (arith, h.2))

  one_entry : (e : ReportEntry) → report_bytes report_layout (e ∷ []) ≡ words_bytes (entry_words report_layout e)
  unfolding report_bytes
  one_entry e = ap words_bytes (each_one (entry_words report_layout) e)

  entry_moves : (e : ReportEntry) → EntryIn n e → BytesMove d (entry_moving e) (report_bytes report_layout (e ∷ [])) (report_bytes report_layout (moved_entry d e ∷ []))
  unfolding entry_words report_layout moved_entry
  entry_moves (sound b k) h =
      record {
        words = entry_words report_layout (sound b k);
        words_after = entry_words report_layout (sound (d + b) k);
        old = one_entry (sound b k);
        new = one_entry (sound (d + b) k);
        each_word = (values_move d _ _ _ refl refl (entry_fits (d + n) limit (sound b k) (entry_wider (sound b k) h)).0 (entry_fits (d + n) limit (sound (d + b) k) (entry_moved (sound b k) h)).0 refl, tt);
      }
  entry_moves (spoilt b k i p) h =
      record {
        words = entry_words report_layout (spoilt b k i p);
        words_after = entry_words report_layout (spoilt (d + b) k i (d + p));
        old = one_entry (spoilt b k i p);
        new = one_entry (spoilt (d + b) k i (d + p));
        each_word = (values_move d _ _ _ refl refl (entry_fits (d + n) limit (spoilt b k i p) (entry_wider (spoilt b k i p) h)).0 (entry_fits (d + n) limit (spoilt (d + b) k i (d + p)) (entry_moved (spoilt b k i p) h)).0 refl, tt);
      }

  pub moving_moves_offsets_alone : MovesOffsetsAlone d n
  moving_moves_offsets_alone = record { records = λ r h. record_moves d (layout_fits (d + n) limit) r (wider_fits d r h) (moved_fits d r h); entries = entry_moves }
