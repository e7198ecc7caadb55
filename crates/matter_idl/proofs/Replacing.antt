-- One section is replaced: what the survey says of the others stays, and moves by the change in length.
use Prim.Native.Nat.{ℕ, ◌+◌, ◌≤◌}
use mathlib.Core.Path.{◌≡◌, refl, sym, ◌∙◌, ap}
use mathlib.Core.List.{List, [], ◌∷◌, ◌++◌, map, map-append, append-nil, append_assoc, append_cancel_left, append_cancel_right}
use native.Mathlib.Omega.{arith}
use lib.ListN.{length, length-append}
use Rattle.items.specs.records.{Extent, absent, at, Further, value, spanned, Record, moved_extent, moved_further, moved}
use Rattle.items.specs.layout.{text_limit}
use Rattle.matter_idl.specs.reading.{Verdict, accepted, turned_down, verdict}
use Rattle.matter_idl.specs.sections.{sections, joined}
use Rattle.matter_idl.specs.survey.{ReportEntry, sound, spoilt}
use Rattle.matter_idl.specs.demand_3.{own_records, own_moved, save_places, entry_alone, entries_alone, moved_entry, number_of, MovedBy, extent_of, Replacement}
use Rattle.matter_idl.proofs.HandedOut.{save_moved}
use Rattle.matter_idl.proofs.Places.{save_append}
use Rattle.matter_idl.proofs.Cutting.{joined_append, sections_joined, continues}

-- What is said of sections one by one, at their starts.
pub record Along {A : Type 0} (f : ℕ → List (List ℕ) → List A) : Type 0 where
  nothing : (b : ℕ) → f b [] ≡ []
  more : (b : ℕ) (s : List ℕ) (ss : List (List ℕ)) → f b (s ∷ ss) ≡ f b (s ∷ []) ++ f (b + length s) ss

extent_more : (s : List ℕ) (ss : List (List ℕ)) → extent_of (s ∷ ss) ≡ length s + extent_of ss
unfolding extent_of joined
extent_more s ss = length-append s (joined ss)

extent_none : extent_of [] ≡ 0
unfolding extent_of joined
extent_none = refl

module _ {A : Type 0} (f : ℕ → List (List ℕ) → List A) (a : Along f) where
  along_append : (b : ℕ) (xs ys : List (List ℕ)) → f b (xs ++ ys) ≡ f b xs ++ f (b + extent_of xs) ys
  along_append b [] ys =
      let z : b ≡ b + extent_of [] = omega (arith, extent_none) in
      ap (λ c. f c ys) z ∙ sym (ap (λ l. l ++ f (b + extent_of []) ys) (a.nothing b))
  along_append b (s ∷ xs) ys =
      let z : b + length s + extent_of xs ≡ b + extent_of (s ∷ xs) = omega (arith, extent_more s xs) in
      a.more b s (xs ++ ys)
      ∙ (ap (λ l. f b (s ∷ []) ++ l) (along_append (b + length s) xs ys ∙ ap (λ c. f (b + length s) xs ++ f c ys) z)
      ∙ (sym (append_assoc (f b (s ∷ [])) (f (b + length s) xs) (f (b + extent_of (s ∷ xs)) ys))
      ∙ ap (λ l. l ++ f (b + extent_of (s ∷ xs)) ys) (sym (a.more b s xs))))

  -- in front, a part of n bytes, and after it
  along_three : (xs ys zs : List (List ℕ)) (n : ℕ) → extent_of ys ≡ n → f 0 (xs ++ (ys ++ zs)) ≡ f 0 xs ++ (f (extent_of xs) ys ++ f (extent_of xs + n) zs)
  along_three xs ys zs n e =
      let z : 0 + extent_of xs ≡ extent_of xs = omega arith in
      along_append 0 xs (ys ++ zs) ∙ (ap (λ c. f 0 xs ++ f c (ys ++ zs)) z ∙ ap (λ l. f 0 xs ++ l) (along_append (extent_of xs) ys zs ∙ ap (λ k. f (extent_of xs) ys ++ f (extent_of xs + k) zs) e))

-- at a start that is moved
pub moved_by : {A : Type 0} (move : ℕ → A → A) (f : ℕ → List A) → ((d b : ℕ) → f (d + b) ≡ map (move d) (f b)) → (a from to : ℕ) → MovedBy move from to (f (a + from)) (f (a + to))
moved_by move f e a from to =
    record {
      grown = λ d h. (let z : a + to ≡ d + (a + from) = omega arith in rw z (e d (a + from)));
      shrunk = λ d h. (let z : a + from ≡ d + (a + to) = omega arith in rw z (e d (a + to)));
    }

-- the report
pub entries_along : Along entries_alone
unfolding entries_alone
entries_along = record { nothing = λ b. refl; more = λ b s ss. refl }

entry_moved : (d b n : ℕ) (v : Verdict) → entry_alone (d + b) n v ≡ moved_entry d (entry_alone b n v)
unfolding entry_alone moved_entry
entry_moved d b n (accepted l) = refl
entry_moved d b n (turned_down k p) = let z : d + b + p ≡ d + (b + p) = omega arith in rw z

pub entries_moved : (d b : ℕ) (ss : List (List ℕ)) → entries_alone (d + b) ss ≡ map (moved_entry d) (entries_alone b ss)
unfolding entries_alone
entries_moved d b [] = refl
entries_moved d b (s ∷ ss) = let z : d + b + length s ≡ d + (b + length s) = omega arith in rw (entry_moved d b (length s) (verdict s), z, entries_moved d (b + length s) ss)

numbers_moved : (d : ℕ) (l : List ReportEntry) → map number_of (map (moved_entry d) l) ≡ map number_of l
unfolding number_of moved_entry
numbers_moved d [] = refl
numbers_moved d (sound b n ∷ l) = rw (numbers_moved d l)
numbers_moved d (spoilt b n k p ∷ l) = rw (numbers_moved d l)

numbers_alone : (b : ℕ) (ss : List (List ℕ)) → map number_of (entries_alone b ss) ≡ map number_of (entries_alone 0 ss)
numbers_alone b ss = let z : b + 0 ≡ b = omega arith in ap (map number_of) (rw z at (entries_moved b 0 ss)) ∙ numbers_moved b (entries_alone 0 ss)

-- wherever the sections are
pub numbers_same : (b c : ℕ) (ss : List (List ℕ)) → map number_of (entries_alone b ss) ≡ map number_of (entries_alone c ss)
numbers_same b c ss = numbers_alone b ss ∙ sym (numbers_alone c ss)

-- the records, save place marks
unfoldable pub saved_own : ℕ → List (List ℕ) → List Record
saved_own b ss = save_places (own_moved b ss)

pub saved_along : Along saved_own
unfolding saved_own
saved_along = record { nothing = λ b. none b; more = λ b s ss. some b s ss }
  where
    none : (b : ℕ) → save_places (own_moved b []) ≡ []
    none b = unfold own_moved save_places in refl

    some : (b : ℕ) (s : List ℕ) (ss : List (List ℕ)) → save_places (own_moved b (s ∷ ss)) ≡ save_places (own_moved b (s ∷ [])) ++ save_places (own_moved (b + length s) ss)
    some b s ss = unfold own_moved in (save_append (map (moved b) (own_records s)) (own_moved (b + length s) ss) ∙ ap (λ l. save_places l ++ save_places (own_moved (b + length s) ss)) (sym (append-nil (map (moved b) (own_records s)))))

extent_moved : (d b : ℕ) (e : Extent) → moved_extent (d + b) e ≡ moved_extent d (moved_extent b e)
unfolding moved_extent
extent_moved d b absent = refl
extent_moved d b (at o n) = let z : d + b + o ≡ d + (b + o) = omega arith in rw z

further_moved : (d b : ℕ) (l : List Further) → map (moved_further (d + b)) l ≡ map (moved_further d) (map (moved_further b) l)
unfolding moved_further
further_moved d b [] = refl
further_moved d b (value n ∷ l) = rw (further_moved d b l)
further_moved d b (spanned e ∷ l) = rw (extent_moved d b e, further_moved d b l)

moved_twice : (d b : ℕ) (l : List Record) → map (moved (d + b)) l ≡ map (moved d) (map (moved b) l)
unfolding moved
moved_twice d b [] = refl
moved_twice d b (r ∷ l) = rw (extent_moved d b r.name, further_moved d b r.further, moved_twice d b l)

own_moved_on : (d b : ℕ) (ss : List (List ℕ)) → own_moved (d + b) ss ≡ map (moved d) (own_moved b ss)
unfolding own_moved
own_moved_on d b [] = refl
own_moved_on d b (s ∷ ss) =
    let z : d + b + length s ≡ d + (b + length s) = omega arith in
    rw (moved_twice d b (own_records s), z, own_moved_on d (b + length s) ss) (sym (map-append (moved d) (map (moved b) (own_records s)) (own_moved (b + length s) ss)))

pub saved_moved : (d b : ℕ) (ss : List (List ℕ)) → saved_own (d + b) ss ≡ map (moved d) (saved_own b ss)
unfolding saved_own
saved_moved d b ss = ap save_places (own_moved_on d b ss) ∙ save_moved d (own_moved b ss)

module _ {u v : List ℕ} {before : List (List ℕ)} {s : List ℕ} {following : List (List ℕ)} {r : List ℕ} {middle : List (List ℕ)} (R : Replacement u v before s following r middle) where
  -- the sections that cutting finds in the new bytes are those bytes
  middle_joined : joined middle ≡ r
  middle_joined =
      let e : joined before ++ (joined middle ++ joined following) ≡ joined before ++ (r ++ joined following) =
      ap (λ l. joined before ++ l) (sym (joined_append middle following)) ∙ (sym (joined_append before (middle ++ following)) ∙ (ap joined (sym R.unchanged) ∙ (sections_joined v ∙ R.new))) in
      append_cancel_right (joined middle) r (joined following) (append_cancel_left (joined before) (joined middle ++ joined following) (r ++ joined following) e)

  middle_extent : extent_of middle ≡ length r
  unfolding extent_of
  middle_extent = ap length middle_joined

  one_extent : extent_of (s ∷ []) ≡ length s
  unfolding extent_of joined
  one_extent = ap length (append-nil s)

  module _ {A : Type 0} (f : ℕ → List (List ℕ) → List A) (a : Along f) where
    pub old_along : f 0 (sections u) ≡ f 0 before ++ (f (extent_of before) (s ∷ []) ++ f (extent_of before + length s) following)
    old_along = ap (f 0) R.old ∙ along_three f a before (s ∷ []) following (length s) one_extent

    pub new_along : f 0 (sections v) ≡ f 0 before ++ (f (extent_of before) middle ++ f (extent_of before + length r) following)
    new_along = ap (f 0) R.unchanged ∙ along_three f a before middle following (length r) middle_extent

-- Which replacements there are. For the last section: any bytes.
module _ (u r : List ℕ) (before : List (List ℕ)) (s : List ℕ) where
  pub last_replaced : sections u ≡ before ++ (s ∷ []) → length (joined before ++ (r ++ joined [])) ≤ text_limit → Replacement u (joined before ++ (r ++ joined [])) before s [] r (sections r)
  unfolding joined
  last_replaced e h = record { old = e; new = refl; unchanged = rw (append-nil r, append-nil (sections r)) ((continues u before s [] e).goes_on r); short = h }

  -- for any other: bytes that are empty or end at a cut, that is, whose last section is empty
  module _ (t : List ℕ) (following middle : List (List ℕ)) (e : sections u ≡ before ++ (s ∷ (t ∷ following))) (c : sections r ≡ middle ++ ([] ∷ [])) where
    bytes_of : joined middle ≡ r
    unfolding joined
    bytes_of = sym (append-nil (joined middle)) ∙ (sym (joined_append middle ([] ∷ [])) ∙ (ap joined (sym c) ∙ sections_joined r))

    after_alone : sections (joined (t ∷ following)) ≡ t ∷ following
    after_alone = (continues u (before ++ (s ∷ [])) t following (e ∙ sym (append_assoc before (s ∷ []) (t ∷ following)))).alone

    middle_found : (z : List ℕ) → sections (r ++ z) ≡ middle ++ sections z
    middle_found z = ap (λ x. sections (x ++ z)) (sym bytes_of) ∙ (continues r middle [] [] c).goes_on z

    pub replaced_by : length (joined before ++ (r ++ joined (t ∷ following))) ≤ text_limit → Replacement u (joined before ++ (r ++ joined (t ∷ following))) before s (t ∷ following) r middle
    replaced_by h =
        record {
          old = e;
          new = refl;
          unchanged = (continues u before s (t ∷ following) e).goes_on (r ++ joined (t ∷ following)) ∙ ap (λ l. before ++ l) (middle_found (joined (t ∷ following)) ∙ ap (λ l. middle ++ l) after_alone);
          short = h;
        }
