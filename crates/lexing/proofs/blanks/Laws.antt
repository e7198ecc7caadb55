-- Blanks: one law for each way through a reader.
use mathlib.Core.Path.{◌≡◌, refl, sym, ap, ◌∙◌, subst}
use mathlib.Core.List.{List, [], ◌∷◌}
use mathlib.Core.Bool.{Bool, true, false, ◌&&◌, false≢true}
use Prim.Native.Nat.{ℕ, zero, suc, ◌+◌, ◌-◌, ◌≤◌, ◌<◌, zero-le}
use native.Mathlib.Omega.{arith}
use native.Mathlib.Numerals.{add-one}
use lib.Dec.{eqb}
use lib.ListN.{length, drop, get_or, drop_of_length-le, length-drop}
use lib.Seq.{drop-cons, drop-drop, get_or-drop}
use borrow.Author.Tests.{eq-eqb, ne_eqb, eqb-true}
use Rattle.lexing.specs.bytes.{slash, star, is_space, in_line, list_take_while}
use Rattle.lexing.specs.reply.{ok, fail, ret, ◌>>=◌, catch, keep, position, fail_at, pick}
use Rattle.lexing.specs.blanks.{Whitespace, white, plain, doc_comment, line_comment, Until, found, never, one_more, until_close, comment_kind, closed, block_comment, whitespace_group, Doc, no_doc, doc_at, doc_after, one_blank, whitespace0, whitespace1}
use Rattle.lexing.specs.answers.{Rest, LacksIf, group_reply, blank_reply, BlankTo, doc_of}
use Rattle.lexing.specs.inner.blanks.{is_close, end_until, turn_reply}
use Rattle.lexing.specs.declared.blanks.Group.{Group}
use Rattle.lexing.specs.declared.blanks.Group.TheVariants.{White, Plain, DocComment}
use Rattle.std.specs.Prelude.{Some, None}
use Rattle.lexing.specs.declared.blanks.Blank.{Blank}
use Rattle.lexing.proofs.Onward.{group_advances}
use Rattle.lexing.proofs.TokenLocality.{no_block, no_group, one_blank_chain, one_blank_consumes}
use Rattle.lexing.proofs.TokenRuns.{line_text, line_nil, line_one, line_first, line_is, line_no, text_nil, text_yes, text_no, space_nil, space_yes, space_no}
use Rattle.lexing.proofs.Scans.{first_of, turns, drop_run, run_cons, run_none, run_le, run_stops}
use Rattle.lexing.proofs.Slicing.{took, walks, rest_from}
use Rattle.lexing.proofs.Repetition.{IterAt, iter_start, iter_step, iter_ends}

-- the first `*/`, i bytes further on
unfoldable pub later : ℕ → Until → Until
later i (found n r) = found (i + n) r
later i never = never

later_one : (i : ℕ) (t : Until) → later i (one_more t) ≡ later (i + 1) t
unfolding later one_more
later_one i (found n r) = let z : i + suc n ≡ i + 1 + n = omega arith in rw z
later_one i never = refl

later_zero : (t : Until) → later 0 t ≡ t
unfolding later
later_zero (found n r) = let z : 0 + n ≡ n = omega arith in rw z
later_zero never = refl

-- by the test at the first byte, also at the last byte of the text
close_zero : (x : ℕ) (t : Bool) → t ≡ is_close x 0 → t ≡ false
close_zero x t e = e ∙ go (eqb x star)
  where
    go : (b : Bool) → (b && false) ≡ false
    go true = refl
    go false = refl

pub close_second : (x y z : ℕ) → x ≡ star → z ≡ y → eqb z slash ≡ is_close x y
close_second x y z e f = rw (eq-eqb x star e, f)

until_cons : (x : ℕ) (u : List ℕ) (t : Bool) → t ≡ is_close x (get_or u 0 0) → until_close (x ∷ u) ≡ elim t [ true ↦ found 0 (drop 1 u) | false ↦ one_more (until_close u) ]
unfolding until_close one_more
until_cons x [] true e = absurd (false≢true (sym (close_zero x true e)))
until_cons x [] false e = refl
until_cons x (y ∷ u) true e = rw (← e, until_close)
until_cons x (y ∷ u) false e = rw (← e, until_close)

-- the invariant of the search for `*/`: what is left of it is the whole search
pub record UntilAt (u : List ℕ) (i : ℕ) : Type 0 where
  pub inside : i ≤ length u
  pub left : later i (until_close (drop i u)) ≡ until_close u

pub until_start : (u : List ℕ) → UntilAt u 0
until_start u = record { inside = zero-le; left = later_zero (until_close u) }

module _ (u : List ℕ) (i : ℕ) (h : UntilAt u i) where
  pub until_end : length u ≤ i → never ≡ until_close u
  unfolding later until_close
  until_end le = rw (drop_of_length-le u le) at h.left

  module _ (lt : i < length u) (t : Bool) (et : t ≡ is_close (get_or u i 0) (get_or u (i + 1) 0)) where
    here_is : until_close (drop i u) ≡ elim t [ true ↦ found 0 (drop 1 (drop (suc i) u)) | false ↦ one_more (until_close (drop (suc i) u)) ]
    here_is = rw (drop-cons u i 0) (until_cons (get_or u i 0) (drop (suc i) u) t (et ∙ ap (is_close (get_or u i 0)) (sym (first_of (suc i) u ∙ ap (λ (n : ℕ). get_or u n 0) (sym (add-one i))))))

    pub until_more : t ≡ false → UntilAt u (i + 1)
    until_more f = record { inside = omega arith; left = rw add-one (sym (later_one i (until_close (drop (suc i) u)) ∙ rw add-one) ∙ (ap (later i) (sym (rw f at here_is)) ∙ h.left)) }

    pub until_found : t ≡ true → found i (drop (i + 2) u) ≡ until_close u
    unfolding later
    until_found f =
        let z : i + 0 ≡ i = omega arith in
        let y : suc i + 1 ≡ i + 2 = omega arith in
        rw (z) at (sym (ap (found (i + 0)) (drop-drop 1 (suc i) u ∙ ap (λ (n : ℕ). drop n u) y)) ∙ (ap (later i) (sym (rw f at here_is)) ∙ h.left))

-- bytes without a star are passed, any number of them
until_plain : (u : List ℕ) (i n : ℕ) → UntilAt u i → i + n ≤ length u → ((j : ℕ) → j < n → get_or u (i + j) 0 ≡ star → ⊥) → UntilAt u (i + n)
until_plain u i n h l k = turns (UntilAt u) i n h (λ j q g. until_more u (i + j) g (omega arith) false (rw (ne_eqb (get_or u (i + j) 0) star (k j q))) refl)

pub until_eight : (u : List ℕ) (i : ℕ) → UntilAt u i → (t : Bool) → LacksIf t star u i → t ≡ true → UntilAt u (i + 8)
until_eight u i h t p e = let q : LacksIf true star u i = rw e at p in until_plain u i 8 h q.0 q.1

-- line comments
slashes : (b : ℕ) (u : List ℕ) → line_comment b (slash ∷ slash ∷ u) ≡ line_text (b + 2) u
slashes b u = line_is b slash slash u refl

line_some : (b n : ℕ) (u : List ℕ) → n ≡ length (list_take_while in_line u) → 0 < n → whitespace_group b (slash ∷ slash ∷ u) ≡ ok plain (b + (2 + n)) (drop n u)
unfolding whitespace_group catch list_take_while
line_some b n [] e h = absurd (omega arith)
line_some b n (z ∷ u) e h = go (in_line z) refl
  where
    go : (t : Bool) → in_line z ≡ t → whitespace_group b (slash ∷ slash ∷ z ∷ u) ≡ ok plain (b + (2 + n)) (drop n (z ∷ u))
    go true q =
        let w : b + 2 + n ≡ b + (2 + n) = omega arith in
        rw (slashes b (z ∷ u) ∙ text_yes (b + 2) z u q, catch) (rw (← e, w) (ap (ok plain (b + (2 + n))) (sym (drop_run in_line (z ∷ u)) ∙ ap (λ k. drop k (z ∷ u)) (sym e))))
    go false q = let y : n ≡ 0 = e ∙ ap length (run_none in_line z u q) in absurd (omega arith)

line_none : (b n : ℕ) (u : List ℕ) → n ≡ length (list_take_while in_line u) → n ≤ 0 → whitespace_group b (slash ∷ slash ∷ u) ≡ fail b
unfolding whitespace_group catch block_comment is_space
line_none b n [] e h = rw (slashes b [] ∙ text_nil (b + 2), catch) (space_no b slash (slash ∷ []) refl)
line_none b n (z ∷ u) e h = go (in_line z) refl
  where
    go : (t : Bool) → in_line z ≡ t → whitespace_group b (slash ∷ slash ∷ z ∷ u) ≡ fail b
    go true q = let y : n ≡ suc (length (list_take_while in_line u)) = e ∙ ap length (run_cons in_line z u q) in absurd (omega arith)
    go false q = rw (slashes b (z ∷ u) ∙ text_no (b + 2) z u q, catch) (space_no b slash (slash ∷ z ∷ u) refl)

-- block comments
block_is : (b : ℕ) (u : List ℕ) → block_comment b (slash ∷ star ∷ u) ≡ closed b u (until_close u)
unfolding block_comment
block_is b u = refl

block_at : (b : ℕ) (u : List ℕ) (t : Until) → until_close u ≡ t → whitespace_group b (slash ∷ star ∷ u) ≡ closed b u t
unfolding whitespace_group catch is_space closed
block_at b u t e = go t e
  where
    block : (t : Until) → until_close u ≡ t → block_comment b (slash ∷ star ∷ u) ≡ closed b u t
    block t e = block_is b u ∙ ap (closed b u) e

    go : (t : Until) → until_close u ≡ t → whitespace_group b (slash ∷ star ∷ u) ≡ closed b u t
    go (found n r) e = rw (line_no b slash star u refl, catch) (rw (block (found n r) e, catch))
    go never e = rw (line_no b slash star u refl, catch) (rw (block never e, catch) (space_no b slash (star ∷ u) refl))

kind_doc : (b n : ℕ) (u : List ℕ) → (n ≡ 0 → ⊥) → get_or u 0 0 ≡ star → comment_kind b n u ≡ doc_comment (b + 3) (n - 1)
unfolding comment_kind
kind_doc b zero u h e = absurd (h refl)
kind_doc b (suc n) [] h e = absurd (omega arith)
kind_doc b (suc n) (x ∷ u) h e = let z : suc n - 1 ≡ n = omega arith in rw z (rw (eq-eqb x star e, comment_kind))

kind_plain : (b n : ℕ) (u : List ℕ) → (get_or u 0 0 ≡ star → ⊥) → comment_kind b n u ≡ plain
unfolding comment_kind
kind_plain b zero u h = refl
kind_plain b (suc n) [] h = refl
kind_plain b (suc n) (x ∷ u) h = rw (ne_eqb x star h, comment_kind)

kind_zero : (b : ℕ) (u : List ℕ) → comment_kind b 0 u ≡ plain
unfolding comment_kind
kind_zero b u = refl

-- after a slash, by the second byte
no_star : (b y : ℕ) (u : List ℕ) → (y ≡ star → ⊥) → block_comment b (slash ∷ y ∷ u) ≡ fail b
unfolding block_comment
no_star b y u g = rw (ne_eqb y star g, block_comment)

second_other : (b : ℕ) (u : List ℕ) → (get_or u 0 0 ≡ slash → ⊥) → (get_or u 0 0 ≡ star → ⊥) → whitespace_group b (slash ∷ u) ≡ fail b
unfolding whitespace_group catch block_comment is_space
second_other b [] f g = rw (line_one b slash, catch) (space_no b slash [] refl)
second_other b (y ∷ u) f g = rw (line_no b slash y u (ne_eqb y slash f), catch) (rw (no_star b y u g, catch) (space_no b slash (y ∷ u) refl))

two_bytes : (u : List ℕ) (x y : ℕ) → get_or u 0 0 ≡ suc x → get_or u 1 0 ≡ suc y → u ≡ suc x ∷ suc y ∷ drop 2 u
two_bytes [] x y e f = absurd (omega arith)
two_bytes (a ∷ []) x y e f = absurd (omega arith)
two_bytes (a ∷ c ∷ u) x y e f = rw (e, f)

one_byte : (u : List ℕ) (x : ℕ) → get_or u 0 0 ≡ suc x → u ≡ suc x ∷ drop 1 u
one_byte [] x e = absurd (omega arith)
one_byte (a ∷ u) x e = rw e

-- a comment, by the part's first bytes
module _ (b : ℕ) (u : List ℕ) (first : get_or u 0 0 ≡ slash) where
  pub group_other : (y : ℕ) → y ≡ get_or u 1 0 → (y ≡ slash → ⊥) → (y ≡ star → ⊥) → fail b ≡ whitespace_group b u
  group_other y ey f g =
      let z : get_or (drop 1 u) 0 0 ≡ y = first_of 1 u ∙ sym ey in
      sym (ap (whitespace_group b) (one_byte u 46 first) ∙ second_other b (drop 1 u) (λ e. f (sym z ∙ e)) (λ e. g (sym z ∙ e)))

  module _ (r : List ℕ) (er : r ≡ drop 2 u) where
    module _ (second : get_or u 1 0 ≡ slash) (n : ℕ) (en : n ≡ length (list_take_while in_line r)) where
      is_line : whitespace_group b u ≡ whitespace_group b (slash ∷ slash ∷ r)
      is_line = ap (whitespace_group b) (two_bytes u 46 46 first second ∙ ap (λ (v : List ℕ). slash ∷ slash ∷ v) (sym er))

      pub group_line : 0 < n → ok plain (b + (2 + n)) (drop (2 + n) u) ≡ whitespace_group b u
      group_line h = sym (is_line ∙ (line_some b n r en h ∙ ap (λ v. ok plain (b + (2 + n)) v) (ap (drop n) er ∙ drop-drop n 2 u)))

      pub group_bare : n ≤ 0 → fail b ≡ whitespace_group b u
      group_bare h = sym (is_line ∙ line_none b n r en h)

      pub line_fits : n ≤ length u
      line_fits = omega (arith, run_le in_line r, ap length er, length-drop 2 u)

    module _ (second : get_or u 1 0 ≡ star) where
      is_block : (t : Until) → t ≡ until_close r → whitespace_group b u ≡ closed b r t
      is_block t e = ap (whitespace_group b) (two_bytes u 46 41 first second ∙ ap (λ (v : List ℕ). slash ∷ star ∷ v) (sym er)) ∙ block_at b r t (sym e)

      pub group_open : end_until None r ≡ until_close r → fail b ≡ whitespace_group b u
      unfolding closed
      group_open e = sym (is_block never e)

      module _ (n : ℕ) (e : end_until (Some n) r ≡ until_close r) where
        is_closed : whitespace_group b u ≡ ok (comment_kind b n r) (b + (n + 4)) (drop (n + 4) u)
        unfolding closed
        is_closed =
            let z : b + (4 + n) ≡ b + (n + 4) = omega arith in
            let w : 2 + (n + 2) ≡ n + 4 = omega arith in
            is_block (found n (drop (n + 2) r)) e ∙ rw z (ap (λ v. ok (comment_kind b n r) (b + (n + 4)) v) (ap (drop (n + 2)) er ∙ (drop-drop (n + 2) 2 u ∙ ap (λ (i : ℕ). drop i u) w)))

        pub closed_fits : n + 4 ≤ length u
        closed_fits = let f = rw is_closed at (group_advances.reads b u) in omega (arith, f.1)

        pub group_short : n ≡ 0 → ok plain (b + 4) (drop 4 u) ≡ whitespace_group b u
        group_short h = sym (rw (h, kind_zero) at is_closed)

        module _ (z : ℕ) (ez : z ≡ get_or u 2 0) where
          third : z ≡ get_or r 0 0
          third = ez ∙ sym (ap (λ (v : List ℕ). get_or v 0 0) er ∙ first_of 2 u)

          pub group_doc : (n ≡ 0 → ⊥) → z ≡ star → ok (doc_comment (b + 3) (n - 1)) (b + (n - 1 + 5)) (drop (n - 1 + 5) u) ≡ whitespace_group b u
          group_doc h k = let w : n - 1 + 5 ≡ n + 4 = omega (arith, pos n h) in rw w (sym (rw (kind_doc b n r h (sym third ∙ k)) at is_closed))
            where
              pos : (n : ℕ) → (n ≡ 0 → ⊥) → 0 < n
              pos zero h = absurd (h refl)
              pos (suc n) h = omega arith

          pub group_plain : (z ≡ star → ⊥) → ok plain (b + (n + 4)) (drop (n + 4) u) ≡ whitespace_group b u
          group_plain k = sym (rw (kind_plain b n r (λ t. k (third ∙ t))) at is_closed)

-- white space
not_slash : (x : ℕ) → is_space x ≡ true → eqb x slash ≡ false
unfolding is_space
not_slash x e = go (eqb x slash) refl
  where
    go : (t : Bool) → eqb x slash ≡ t → t ≡ false
    go false q = refl
    go true q = absurd (false≢true (ap is_space (sym (eqb-true x slash q)) ∙ e))

pub group_white : (b n : ℕ) (u : List ℕ) → n ≡ length (list_take_while is_space u) → 0 < n → ok white (b + n) (drop n u) ≡ whitespace_group b u
unfolding whitespace_group catch list_take_while
group_white b n [] e h = absurd (omega arith)
group_white b n (x ∷ u) e h = go (is_space x) refl
  where
    go : (t : Bool) → is_space x ≡ t → ok white (b + n) (drop n (x ∷ u)) ≡ whitespace_group b (x ∷ u)
    go true q =
        rw (line_first b x u (not_slash x q), catch) (rw (no_block b x u (not_slash x q), catch) (rw (space_yes b x u q, ← e) (ap (ok white (b + n)) (ap (λ k. drop k (x ∷ u)) e ∙ drop_run is_space (x ∷ u)))))
    go false q = let z : n ≡ 0 = e ∙ ap length (run_none is_space x u q) in absurd (omega arith)

no_space : is_space 0 ≡ false
unfolding is_space
no_space = refl

group_neither : (b : ℕ) (u : List ℕ) → is_space (get_or u 0 0) ≡ false → (x : ℕ) → x ≡ get_or u 0 0 → (x ≡ slash → ⊥) → fail b ≡ whitespace_group b u
unfolding whitespace_group catch block_comment
group_neither b [] s y ey ne = sym (rw (line_nil b, catch) (space_nil b))
group_neither b (x ∷ u) s y ey ne = sym (no_group b x u (rw (ne_eqb x slash (λ z. ne (ey ∙ z)), s)))

pub group_none : (b n : ℕ) (u : List ℕ) → n ≡ length (list_take_while is_space u) → n ≤ 0 → (x : ℕ) → x ≡ get_or u 0 0 → (x ≡ slash → ⊥) → fail b ≡ whitespace_group b u
group_none b n u e h = let z : length (list_take_while is_space u) ≡ 0 = omega arith in group_neither b u (rw z at (run_stops is_space no_space u))

-- a turn of a run
turn_some : (d : Doc) (b c : ℕ) (u r : List ℕ) (k : Whitespace) → ok k c r ≡ whitespace_group b u → ok (doc_after k d) c r ≡ one_blank d b u
unfolding one_blank ◌>>=◌ ret
turn_some d b c u r k e = rw (sym e, one_blank, ◌>>=◌)

turn_none : (d : Doc) (b p : ℕ) (u : List ℕ) → fail p ≡ whitespace_group b u → fail p ≡ one_blank d b u
unfolding one_blank ◌>>=◌ ret
turn_none d b p u e = rw (sym e, one_blank, ◌>>=◌)

module _ (b : ℕ) (u : List ℕ) (at : ℕ) (r : List ℕ) (q : Rest b u at r) where
  pub turn_done : (d : Doc) → fail at ≡ whitespace_group at r → fail at ≡ one_blank d at (drop (at - b) u)
  turn_done d e = rw (← q.same) (turn_none d at at r e)

  -- n bytes of kind k
  module _ (k : Whitespace) (n : ℕ) (e : ok k (at + n) (drop n r) ≡ whitespace_group at r) where
    some : (d : Doc) → ok (doc_after k d) (at + n) (drop (at + n - at) (drop (at - b) u)) ≡ one_blank d at (drop (at - b) u)
    some d = let z : at + n - at ≡ n = omega arith in rw (z, ← q.same) (turn_some d at (at + n) r (drop n r) k e)

    fits : at + n ≤ b + length u
    fits = let f = rw (← e) at (group_advances.reads at r) in omega (arith, f.1, q.size)

  some_white : (d : Doc) (n : ℕ) → ok white (at + n) (drop n r) ≡ whitespace_group at r → ok d (at + n) (drop (at + n - at) (drop (at - b) u)) ≡ one_blank d at (drop (at - b) u)
  unfolding doc_after
  some_white d n e = some white n e d

  pub turn_other : (d : Doc) → is_space (get_or u (at - b) 0) ≡ false → (x : ℕ) → x ≡ get_or r 0 0 → (x ≡ slash → ⊥) → fail at ≡ one_blank d at (drop (at - b) u)
  turn_other d s x ex ne = turn_done d (group_neither at r (ap is_space (ap (λ (v : List ℕ). get_or v 0 0) q.same ∙ first_of (at - b) u) ∙ s) x ex ne)

  module _ (g : Group) (h : group_reply (Some g) at r ≡ whitespace_group at r) where
    told : (k : Group) → g ≡ k → group_reply (Some k) at r ≡ whitespace_group at r
    told k e = subst (λ (x : Group). group_reply (Some x) at r ≡ whitespace_group at r) e h

    pub turn_white : (d : Doc) (n : ℕ) → g ≡ White n → ok d (at + n) (drop (at + n - at) (drop (at - b) u)) ≡ one_blank d at (drop (at - b) u)
    turn_white d n e = some_white d n (told (White n) e)

    pub turn_plain : (d : Doc) (n : ℕ) → g ≡ Plain n → ok no_doc (at + n) (drop (at + n - at) (drop (at - b) u)) ≡ one_blank d at (drop (at - b) u)
    unfolding doc_after
    turn_plain d n e = some plain n (told (Plain n) e) d

    pub turn_doc : (d : Doc) (n : ℕ) → g ≡ DocComment n → ok (doc_at (at + 3) n) (at + (n + 5)) (drop (at + (n + 5) - at) (drop (at - b) u)) ≡ one_blank d at (drop (at - b) u)
    unfolding doc_after
    turn_doc d n e = some (doc_comment (at + 3) n) (n + 5) (told (DocComment n) e) d

    pub white_fits : (n : ℕ) → g ≡ White n → at + n ≤ b + length u
    white_fits n e = fits white n (told (White n) e)

    pub plain_fits : (n : ℕ) → g ≡ Plain n → at + n ≤ b + length u
    plain_fits n e = fits plain n (told (Plain n) e)

    pub doc_fits : (n : ℕ) → g ≡ DocComment n → at + (n + 5) ≤ b + length u
    doc_fits n e = fits (doc_comment (at + 3) n) (n + 5) (told (DocComment n) e)

-- white space at c is passed as well, up to n, and none is after it
module _ (b : ℕ) (u : List ℕ) (c : ℕ) (d : Doc) (i : IterAt one_blank keep no_doc b u c d) where
  pass : (m : ℕ) → m ≡ length (list_take_while is_space (drop (c - b) u)) → IterAt one_blank keep no_doc b u (c + m) d
  pass zero e = let z : c + 0 ≡ c = omega arith in rw z i
  pass (suc m) e =
      let q = rest_from b c u i.from i.inside in
      (iter_step one_blank_consumes i (took (walks (one_blank_chain d)) q (some_white b u c _ q d (suc m) (group_white c (suc m) _ e (omega arith))))).0

  record Passed (n : ℕ) : Type 0 where
    run : IterAt one_blank keep no_doc b u n d
    up : c ≤ n
    following : is_space (get_or u (n - b) 0) ≡ false

  white_passed : (n : ℕ) → n ≡ c + length (list_take_while is_space (drop (c - b) u)) → Passed n
  white_passed n e =
      let z : n - b ≡ c - b + length (list_take_while is_space (drop (c - b) u)) = omega (arith, i.from) in
      record {
        run = rw e (pass _ refl);
        up = omega arith;
        following = ap (λ (k : ℕ). is_space (get_or u k 0)) z ∙ (ap is_space (sym (get_or-drop (c - b) u _ 0)) ∙ run_stops is_space no_space (drop (c - b) u));
      }

-- the invariant of a run: no white space is after it
pub record BlanksAt (b : ℕ) (u : List ℕ) (t : Blank) : Type 0 where
  pub run : IterAt one_blank keep no_doc b u t.next (doc_of t.doc)
  pub following : is_space (get_or u (t.next - b) 0) ≡ false

pub blanks_start : (b : ℕ) (u : List ℕ) (n : ℕ) → n ≡ b + length (list_take_while is_space u) → BlanksAt b u (record { next = n; doc = None })
blanks_start b u n e =
    let z : b - b ≡ 0 = omega arith in
    let w = white_passed b u b no_doc (iter_start one_blank keep no_doc b u) n (rw z e) in
    record { run = w.run; following = w.following }

module _ (b : ℕ) (u : List ℕ) (t : Blank) (i : BlanksAt b u t) where
  module _ (c : Blank) (h : turn_reply (Some c) t.next (drop (t.next - b) u) ≡ one_blank (doc_of t.doc) t.next (drop (t.next - b) u)) where
    pub blanks_comment : IterAt one_blank keep no_doc b u c.next (doc_of c.doc) × (t.next < c.next)
    blanks_comment =
        let q = rest_from b t.next u i.run.from i.run.inside in
        iter_step one_blank_consumes i.run (took (walks (one_blank_chain (doc_of t.doc))) q h)

    pub blanks_again : (n : ℕ) → n ≡ c.next + length (list_take_while is_space (drop (c.next - b) u)) → BlanksAt b u (record { next = n; doc = c.doc }) × (t.next < n)
    blanks_again n k =
        let w = white_passed b u c.next _ blanks_comment.0 n k in
        (record { run = w.run; following = w.following }, omega (arith, blanks_comment.1, w.up))

  pub blanks_end : turn_reply None t.next (drop (t.next - b) u) ≡ one_blank (doc_of t.doc) t.next (drop (t.next - b) u) → BlankTo t b u
  unfolding keep whitespace0
  blanks_end h = record { reads = iter_ends one_blank_consumes i.run t.next (sym h); up = i.run.from; inside = i.run.inside }

pub blank_self : {t : Blank} {b : ℕ} {u : List ℕ} → BlankTo t b (drop (b - b) u) → BlankTo t b u
blank_self {b = b} h = let z : b - b ≡ 0 = omega arith in rw z at h

-- white space alone
pub blanks_alone : (b : ℕ) (u : List ℕ) (n : ℕ) → n ≡ length (list_take_while is_space u) → (x : ℕ) → x ≡ get_or u n 0 → (x ≡ slash → ⊥) → BlankTo (record { next = b + n; doc = None }) b u
blanks_alone b u n e x ex ne =
    let i = blanks_start b u (b + n) (ap (λ (m : ℕ). b + m) e) in
    let q = rest_from b (b + n) u i.run.from i.run.inside in
    let z : b + n - b ≡ n = omega arith in
    let y : x ≡ get_or (drop (b + n - b) u) 0 0 = ex ∙ sym (first_of (b + n - b) u ∙ ap (λ (m : ℕ). get_or u m 0) z) in
    blanks_end b u (record { next = b + n; doc = None }) i (turn_other b u (b + n) (drop (b + n - b) u) q no_doc i.following x y ne)

-- no byte above the slash starts a blank, and after a single space none ends the run
above_slash : (x : ℕ) → slash < x → is_space x ≡ false
unfolding is_space
above_slash x h = rw (ne_eqb x 32 (λ e. omega (arith, e)), ne_eqb x 9 (λ e. omega (arith, e)), ne_eqb x 10 (λ e. omega (arith, e)), ne_eqb x 13 (λ e. omega (arith, e))) refl

pub blanks_none : (b : ℕ) (u : List ℕ) (x : ℕ) → x ≡ get_or u 0 0 → slash < x → BlankTo (record { next = b; doc = None }) b u
blanks_none b u x e h = let z : b + 0 ≡ b = omega arith in rw z at (blanks_alone b u 0 (no_run u (rw e at h)) x e (λ q. omega arith))
  where
    no_run : (u : List ℕ) → slash < get_or u 0 0 → 0 ≡ length (list_take_while is_space u)
    no_run [] h = absurd (omega arith)
    no_run (y ∷ u) h = sym (ap length (run_none is_space y u (above_slash y h)))

pub blanks_one : (b : ℕ) (u : List ℕ) (x y : ℕ) → x ≡ get_or u 0 0 → y ≡ get_or u 1 0 → x ≡ 32 → slash < y → BlankTo (record { next = b + 1; doc = None }) b u
unfolding is_space
blanks_one b u x y ex ey e h = blanks_alone b u 1 (one_space u (sym ex ∙ e) (rw ey at h)) y ey (λ q. omega arith)
  where
    one_space : (u : List ℕ) → get_or u 0 0 ≡ 32 → slash < get_or u 1 0 → 1 ≡ length (list_take_while is_space u)
    one_space [] e h = absurd (omega arith)
    one_space (x ∷ []) e h = absurd (omega arith)
    one_space (x ∷ y ∷ u) e h = sym (ap length (run_cons is_space x (y ∷ u) (ap is_space e) ∙ ap (λ v. x ∷ v) (run_none is_space y u (above_slash y h))))

-- at least one
module _ (b : ℕ) (u : List ℕ) (t : Blank) (h : BlankTo t b u) where
  pub gap_none : t.next ≡ b → fail b ≡ whitespace1 b u
  unfolding whitespace1 ◌>>=◌ position pick fail_at
  gap_none e = rw (sym h.reads, whitespace1, ◌>>=◌) (rw (eq-eqb b t.next (sym e), pick))

  pub gap_some : (t.next ≡ b → ⊥) → blank_reply t b u ≡ whitespace1 b u
  unfolding whitespace1 ◌>>=◌ position pick ret
  gap_some e = rw (sym h.reads, whitespace1, ◌>>=◌) (rw (ne_eqb b t.next (λ z. e (sym z)), pick))
