-- What the survey comes to, by what its passes count.
use mathlib.Core.Path.{◌≡◌, refl, ap, ◌∙◌}
use mathlib.Core.Bool.{true, false}
use mathlib.Core.List.{List, []}
use Prim.Native.Nat.{ℕ, ◌+◌, ◌*◌, ◌≤◌}
use native.Mathlib.Omega.{arith}
use lib.Dec.{leb}
use lib.ListN.{length}
use Rattle.lexing.specs.outcomes.{refused, written, afterwards}
use Rattle.items.specs.layout.{layout, catalogue_bytes, word_count, text_limit}
use Rattle.lexing.specs.buffers.{put}
use Rattle.items.proofs.RecordWords.{catalogue_bytes_length}
use Rattle.lexing.proofs.buffers.Laws.{put_length}
use Rattle.matter_idl.specs.hoisting.{no_ids, hoisted}
use Rattle.matter_idl.specs.sections.{sections}
use Rattle.matter_idl.specs.survey.{accepted_items, report_entries, report_layout, report_bytes, Surveyed, not_surveyed, surveyed, for_catalogue, for_report, into_buffers, survey}
use Rattle.matter_idl.specs.interface.{number_unit, answer_of}
use Rattle.matter_idl.proofs.interface.Outcomes.{refused_result, refused_left, written_result, written_left}
use Rattle.matter_idl.proofs.reading.Marked.{put_after}
use Rattle.matter_idl.proofs.survey.Laws.{report_length, entries_count}

-- what a call returns and leaves in its two buffers
abbrev SurveyTo : Surveyed → ℕ → (cat rep cat' rep' : List ℕ) → Type 0
SurveyTo s x cat rep cat' rep' = (x ≡ answer_of (for_catalogue s)) × ((cat' ≡ afterwards (for_catalogue s) cat) × (rep' ≡ afterwards (for_report s) rep))

pub survey_refused : {s : Surveyed} {k v : ℕ} → s ≡ not_surveyed k v → {x : ℕ} → x ≡ k * number_unit + v → (cat rep : List ℕ) → SurveyTo s x cat rep cat rep
unfolding for_catalogue for_report
survey_refused {s} {k} {v} e h cat rep =
    let c : for_catalogue s ≡ refused k v = ap for_catalogue e in
    let r : for_report s ≡ refused k v = ap for_report e in
    (refused_result c h, (refused_left c cat, refused_left r rep))

survey_written : {s : Surveyed} {c r : List ℕ} → s ≡ surveyed c r → {n : ℕ} → length c ≡ n → {x : ℕ} → x ≡ 0 * number_unit + n → (cat rep : List ℕ) {cat' rep' : List ℕ} → cat' ≡ put 0 c cat → rep' ≡ put 0 r rep → SurveyTo s x cat rep cat' rep'
unfolding for_catalogue for_report
survey_written {s} {c} {r} e z h cat rep w y =
    let k : for_catalogue s ≡ written c = ap for_catalogue e in
    let l : for_report s ≡ written r = ap for_report e in
    (written_result k z h, (written_left k cat (w ∙ put_after 0 [] c cat refl), written_left l rep (y ∙ put_after 0 [] r rep refl)))

module _ (u : List ℕ) (n m : ℕ) where
  abbrev pub survey_now : Surveyed
  survey_now = survey layout report_layout u n m

  abbrev records_now : List ℕ
  records_now = catalogue_bytes layout (hoisted no_ids (accepted_items 0 (sections u)))

  abbrev entries_now : List ℕ
  entries_now = report_bytes report_layout (report_entries 0 (sections u))

  pub survey_long : leb (length u) text_limit ≡ false → survey_now ≡ not_surveyed 1 text_limit
  unfolding survey
  survey_long e = rw (e, survey) refl

  module _ (e : leb (length u) text_limit ≡ true) {k : ℕ} (d : k ≡ length (sections u)) where
    report_size : length entries_now ≡ 8 * k
    report_size = omega (arith, report_length (report_entries 0 (sections u)), entries_count 0 (sections u), d)

    short_now : survey_now ≡ into_buffers n m records_now entries_now
    unfolding survey
    short_now = rw (e, survey) refl

    pub report_kept : (rep : List ℕ) → 8 * k ≤ length rep → {rep' : List ℕ} → rep' ≡ put 0 entries_now rep → length rep' ≡ length rep
    report_kept rep l w = ap length w ∙ put_length 0 entries_now rep (omega (arith, report_size, l))

    -- the report is too short
    pub survey_rows : leb (8 * k) m ≡ false → survey_now ≡ not_surveyed 8 (8 * k)
    unfolding into_buffers
    survey_rows f = let z : leb (length entries_now) m ≡ false = ap (λ (i : ℕ). leb i m) report_size ∙ f in short_now ∙ rw (z, into_buffers) (ap (not_surveyed 8) report_size)

    module _ (f : leb (8 * k) m ≡ true) {x : ℕ} (c : x ≡ word_count layout (hoisted no_ids (accepted_items 0 (sections u)))) where
      catalogue_size : length records_now ≡ 8 * x
      catalogue_size = omega (arith, catalogue_bytes_length (hoisted no_ids (accepted_items 0 (sections u))), c)

      pub catalogue_kept : (cat : List ℕ) → 8 * x ≤ length cat → {cat' : List ℕ} → cat' ≡ put 0 records_now cat → length cat' ≡ length cat
      catalogue_kept cat l w = ap length w ∙ put_length 0 records_now cat (omega (arith, catalogue_size, l))

      report_fits : leb (length entries_now) m ≡ true
      report_fits = ap (λ (i : ℕ). leb i m) report_size ∙ f

      -- the catalogue is too short
      pub survey_short : leb (8 * x) n ≡ false → survey_now ≡ not_surveyed 7 (8 * x)
      unfolding into_buffers
      survey_short g = let z : leb (length records_now) n ≡ false = ap (λ (i : ℕ). leb i n) catalogue_size ∙ g in short_now ∙ rw (report_fits, z, into_buffers) (ap (not_surveyed 7) catalogue_size)

      pub survey_done : leb (8 * x) n ≡ true → {y : ℕ} → y ≡ 0 * number_unit + 8 * x → (cat rep : List ℕ) {cat' rep' : List ℕ} → cat' ≡ put 0 records_now cat → rep' ≡ put 0 entries_now rep → SurveyTo survey_now y cat rep cat' rep'
      unfolding into_buffers
      survey_done g h cat rep w w' =
          let z : leb (length records_now) n ≡ true = ap (λ (i : ℕ). leb i n) catalogue_size ∙ g in
          let o : survey_now ≡ surveyed records_now entries_now = short_now ∙ rw (report_fits, z, into_buffers) refl in
          survey_written o catalogue_size h cat rep w w'
