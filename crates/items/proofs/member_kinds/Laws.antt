-- Members of clusters: which try a first word selects.
use Rattle.std.specs.Prelude.{Ok, Err}
use mathlib.Core.Path.{◌≡◌, refl, sym, ap, ◌∙◌, subst}
use mathlib.Core.Logic.{◌⊎◌, inl, inr}
use mathlib.Core.Bool.{Bool, true, false, cond, ◌&&◌, ◌||◌, true≢false, false≢true}
use mathlib.Core.Option.{none, some}
use mathlib.Core.List.{List, [], ◌∷◌, ◌++◌}
use Prim.Native.Nat.{ℕ, zero, suc, ◌-◌, ◌≤◌, max}
use native.Mathlib.Omega.{arith}
use borrow.Author.Tests.{eqb-true}
use lib.Dec.{eqb}
use lib.ListN.{drop, get_or}
use Rattle.lexing.specs.bytes.{ascii, byte, lower}
use Rattle.lexing.specs.reply.{Reply, ok, fail, stop, ret, no_nearer}
use Rattle.lexing.specs.words.{Word, keyword, any_keyword}
use Rattle.lexing.specs.blanks.{Doc, no_doc, whitespace0, whitespace1}
use Rattle.lexing.specs.word_sets.{same_bytes, struct_set}
use Rattle.lexing.specs.answers.{Rest, doc_of, word_at, word_reply, lost_reply, BlankTo, Lost}
use Rattle.lexing.specs.declared.blanks.Blank.{Blank}
use Rattle.lexing.proofs.Slicing.{Took, blank_took, or_here}
use Rattle.lexing.proofs.blanks.Laws.{gap_none, gap_some}
use Rattle.lexing.proofs.Tests.{and_left, and_right}
use Rattle.lexing.proofs.FirstWord.{starts_of, Frees, free_set, disjoint, StartsAny, starts_free, blank_clear}
use Rattle.lexing.proofs.words.Laws.{keyword_says}
use Rattle.items.specs.entries.{shared_before, choice_head, choice_after_doc_maturity, parse_bitmap_after_doc_maturity, parse_enum_after_doc_maturity}
use Rattle.items.specs.structs.{struct_head, parse_struct_after_doc_maturity}
use Rattle.items.specs.clusters.{member_tries}
use Rattle.items.specs.inner.choices.{ChoiceFrom}
use Rattle.items.specs.inner.structs.{StructFrom, after_shared, not_shared}
use Rattle.items.specs.declared.member_kinds.MemberStart.{MemberStart}
use Rattle.items.specs.inner.member_kinds.{revision_starts, bitmap_starts, enum_starts, struct_starts, attribute_starts, command_starts, event_starts, is_ok, third_letter_kind, member_try, same_kind, kind_number, fails_at, MemberFrom, KindTo}
use Rattle.items.specs.declared.member_kinds.MemberKind.{MemberKind}
use Rattle.items.specs.declared.member_kinds.MemberKind.TheVariants.{Revision, Bitmap, Enum, Struct, Attribute, Command, Event, Unknown}
use Rattle.items.proofs.Braces.{lost_not}
use Rattle.items.proofs.Choice.{or_fail, End, kept, lost, ends, Tries, more, last, keeps, left, Within, Reaches, choice}
use Rattle.lexing.proofs.steps.Laws.{blank_is}
use Rattle.items.proofs.Letters.{Letters, all_out, outs_free, NoneOf, all_begin, initials_free}
use Rattle.lexing.proofs.answers.Laws.{opt_ok, opt_fail}
use Rattle.lexing.proofs.Sequences.{bind_ok, bind_fail, then_ok, then_fail}
use Rattle.items.proofs.Tries.{mapped_fail, starts_shared, shared_any, revision_elsewhere, choice_elsewhere, struct_elsewhere, attribute_elsewhere, command_elsewhere, event_elsewhere}

-- a keyword is there or fails at its start
pub data Stands (k : List ℕ) (b : ℕ) (u : List ℕ) : Type 0 where
  there : (w : Word) (c : ℕ) (r : List ℕ) → keyword k b u ≡ ok w c r → Stands k b u
  elsewhere : keyword k b u ≡ fail b → Stands k b u

stands : (k : List ℕ) (b : ℕ) (u : List ℕ) → Stands k b u
stands k b u = go (keyword k b u) refl
  where
    go : (x : Reply Word) → keyword k b u ≡ x → Stands k b u
    go (ok w c r) e = there w c r e
    go (fail p) e = let z : p ≡ b = rw e at (keyword_says k b u) in elsewhere (e ∙ ap fail z)
    go (stop n p) e = absurd (rw e at (keyword_says k b u))

-- one of some keywords
any_there : (k : List ℕ) (ks : List (List ℕ)) (b : ℕ) (u : List ℕ) (w : Word) (c : ℕ) (r : List ℕ) → keyword k b u ≡ ok w c r → is_ok (any_keyword (k ∷ ks) b u) ≡ true
unfolding any_keyword
any_there k ks b u w c r e = ap is_ok (sym (or_here (keyword k) (any_keyword ks) b u w c r (sym e)))

any_elsewhere : (k : List ℕ) (ks : List (List ℕ)) (b : ℕ) (u : List ℕ) → keyword k b u ≡ fail b → is_ok (any_keyword (k ∷ ks) b u) ≡ is_ok (any_keyword ks b u)
unfolding any_keyword no_nearer
any_elsewhere k ks b u e = ap is_ok (or_fail (keyword k) (any_keyword ks) e) ∙ go (any_keyword ks b u)
  where
    go : (x : Reply Word) → is_ok (no_nearer b x) ≡ is_ok x
    go (ok w c r) = refl
    go (fail p) = refl
    go (stop n p) = refl

any_none : (k : List ℕ) (b : ℕ) (u : List ℕ) → keyword k b u ≡ fail b → is_ok (any_keyword (k ∷ []) b u) ≡ false
unfolding any_keyword
any_none k b u e = any_elsewhere k [] b u e

pub starts_any : (ks : List (List ℕ)) (b : ℕ) (u : List ℕ) → is_ok (any_keyword ks b u) ≡ true → StartsAny ks u
unfolding any_keyword
starts_any [] b u e = absurd (false≢true e)
starts_any (k ∷ ks) b u e = go (stands k b u) (starts_any ks b u)
  where
    go : Stands k b u → (is_ok (any_keyword ks b u) ≡ true → StartsAny ks u) → StartsAny (k ∷ ks) u
    go (there w c r q) ih = record { first = k; among = inl refl; starts = starts_of k b u w c r q }
    go (elsewhere q) ih = let s = ih (sym (any_elsewhere k ks b u q) ∙ e) in record { first = s.first; among = inr s.among; starts = s.starts }

pub frees_all : (ks : List (List ℕ)) (b : ℕ) (u : List ℕ) → is_ok (any_keyword ks b u) ≡ false → Frees b u ks
frees_all [] b u e = tt
frees_all (k ∷ ks) b u e = go (stands k b u) (frees_all ks b u)
  where
    go : Stands k b u → (is_ok (any_keyword ks b u) ≡ false → Frees b u ks) → Frees b u (k ∷ ks)
    go (there w c r q) ih = absurd (true≢false (sym (any_there k ks b u w c r q) ∙ e))
    go (elsewhere q) ih = (q, ih (sym (any_elsewhere k ks b u q) ∙ e))

-- the code's answers
module _ (k : List ℕ) (b : ℕ) (u : List ℕ) where
  pub starts_yes : (c : ℕ) → word_reply (Ok c) b u ≡ keyword k b u → true ≡ is_ok (any_keyword (k ∷ []) b u)
  starts_yes c h = sym (any_there k [] b u _ c _ (sym h))

  pub starts_no : (l : Lost) → word_reply (Err l) b u ≡ keyword k b u → false ≡ is_ok (any_keyword (k ∷ []) b u)
  starts_no l h = go (stands k b u)
    where
      no : (l : Lost) (w : Word) (c : ℕ) (r : List ℕ) → lost_reply l ≡ ok w c r → ⊥
      no l w c r z = lost_not (sym z) l refl

      go : Stands k b u → false ≡ is_ok (any_keyword (k ∷ []) b u)
      go (there w c r q) = absurd (no l w c r (h ∙ q))
      go (elsewhere q) = sym (any_none k b u q)

-- one test after another
pub any_yes : {t : Bool} (k : List ℕ) (ks : List (List ℕ)) (b : ℕ) (u : List ℕ) → t ≡ is_ok (any_keyword (k ∷ []) b u) → t ≡ true → true ≡ is_ok (any_keyword (k ∷ ks) b u)
any_yes k ks b u e h = go (stands k b u)
  where
    go : Stands k b u → true ≡ is_ok (any_keyword (k ∷ ks) b u)
    go (there w c r q) = sym (any_there k ks b u w c r q)
    go (elsewhere q) = absurd (false≢true (sym (any_none k b u q) ∙ (sym e ∙ h)))

pub any_more : {t r : Bool} (k : List ℕ) (ks : List (List ℕ)) (b : ℕ) (u : List ℕ) → t ≡ is_ok (any_keyword (k ∷ []) b u) → t ≡ false → r ≡ is_ok (any_keyword ks b u) → r ≡ is_ok (any_keyword (k ∷ ks) b u)
any_more {t} {r} k ks b u e h z = go (stands k b u)
  where
    go : Stands k b u → r ≡ is_ok (any_keyword (k ∷ ks) b u)
    go (there w c v q) = absurd (true≢false (sym (any_there k [] b u w c v q) ∙ (sym e ∙ h)))
    go (elsewhere q) = z ∙ sym (any_elsewhere k ks b u q)

-- The words that a member of a kind can start with.
abbrev first_words : MemberKind → List (List ℕ)
first_words Revision = revision_starts
first_words Bitmap = bitmap_starts
first_words Enum = enum_starts
first_words Struct = ascii "shared" ∷ struct_starts
first_words Attribute = attribute_starts
first_words Command = command_starts
first_words Event = event_starts
first_words Unknown = []

-- where none of them is, and no blank, its try fails at the start
kind_elsewhere : (b : ℕ) (u : List ℕ) → whitespace0 b u ≡ ok no_doc b u → (k : MemberKind) (d : Doc) (m : ℕ) → Frees b u (first_words k) → member_try k d m b u ≡ fail b
unfolding member_try parse_bitmap_after_doc_maturity parse_enum_after_doc_maturity
kind_elsewhere b u clear Revision d m f = revision_elsewhere b u f
kind_elsewhere b u clear Bitmap d m f = mapped_fail _ _ (choice_elsewhere b u d m (ascii "bitmap") f.0 f.1.0)
kind_elsewhere b u clear Enum d m f = mapped_fail _ _ (choice_elsewhere b u d m (ascii "enum") f.0 f.1.0)
kind_elsewhere b u clear Struct d m f = mapped_fail _ _ (struct_elsewhere b u d m clear f.0 f.1)
kind_elsewhere b u clear Attribute d m f = mapped_fail _ _ (attribute_elsewhere b u d m clear f)
kind_elsewhere b u clear Command d m f = mapped_fail _ _ (command_elsewhere b u d m clear f)
kind_elsewhere b u clear Event d m f = mapped_fail _ _ (event_elsewhere b u d m clear f)
kind_elsewhere b u clear Unknown d m f = refl

-- kinds by number
abbrev kinds : List MemberKind
kinds = Revision ∷ Bitmap ∷ Enum ∷ Struct ∷ Attribute ∷ Command ∷ Event ∷ []

kind_at : List MemberKind → ℕ → MemberKind
kind_at [] n = Unknown
kind_at (k ∷ ks) zero = k
kind_at (k ∷ ks) (suc n) = kind_at ks n

kind_numbered : (k : MemberKind) → kind_at kinds (kind_number k) ≡ k
unfolding kind_at
kind_numbered Revision = refl
kind_numbered Bitmap = refl
kind_numbered Enum = refl
kind_numbered Struct = refl
kind_numbered Attribute = refl
kind_numbered Command = refl
kind_numbered Event = refl
kind_numbered Unknown = refl

-- a test of every kind
abbrev all_of : (MemberKind → Bool) → List MemberKind → Bool
all_of t [] = t Unknown
all_of t (k ∷ ks) = t k && all_of t ks

all_at : (t : MemberKind → Bool) (ks : List MemberKind) → all_of t ks ≡ true → (n : ℕ) → t (kind_at ks n) ≡ true
unfolding kind_at
all_at t [] e n = e
all_at t (k ∷ ks) e zero = and_left (t k) (all_of t ks) e
all_at t (k ∷ ks) e (suc n) = all_at t ks (and_right (t k) (all_of t ks) e) n

every : (t : MemberKind → Bool) → all_of t kinds ≡ true → (k : MemberKind) → t k ≡ true
every t e k = rw (kind_numbered k) at (all_at t kinds e (kind_number k))

-- the same number, the same kind
one_kind : (j k : MemberKind) → same_kind j k ≡ true → j ≡ k
one_kind j k e = sym (kind_numbered j) ∙ (ap (kind_at kinds) (eqb-true (kind_number j) (kind_number k) e) ∙ kind_numbered k)

-- how the tries of all kinds end, where j is left and the others fail no further than at q
abbrev pub kind_ends : MemberKind → (q b : ℕ) → MemberKind → End
kind_ends j q b k = cond (same_kind k j) kept (lost (fails_at q b k))

pub kind_tried : {A : Type 0} (t : MemberKind → Reply A) (j : MemberKind) (q b : ℕ) → ((k : MemberKind) → same_kind k j ≡ false → t k ≡ fail (fails_at q b k)) → (k : MemberKind) → t k ≡ ends (t j) (kind_ends j q b k)
kind_tried t j q b h k = go (same_kind k j) refl
  where
    go : (x : Bool) → same_kind k j ≡ x → t k ≡ ends (t j) (cond x kept (lost (fails_at q b k)))
    go true e = ap t (one_kind k j e)
    go false e = h k e

pub kind_within : {r : MemberStart} {b : ℕ} {u : List ℕ} → KindTo r b u → (k : MemberKind) → Within r.others_fail_at (kind_ends r.kind r.others_fail_at b k)
kind_within {r} {b} h k = go (same_kind k r.kind)
  where
    low : (k : MemberKind) → fails_at r.others_fail_at b k ≤ r.others_fail_at
    low Revision = h.up
    low Bitmap = omega arith
    low Enum = omega arith
    low Struct = omega arith
    low Attribute = h.up
    low Command = h.up
    low Event = h.up
    low Unknown = h.up

    go : (t : Bool) → Within r.others_fail_at (cond t kept (lost (fails_at r.others_fail_at b k)))
    go true = tt
    go false = low k

-- of the tries of a member that of its kind is kept
abbrev member_ends : MemberKind → (q b : ℕ) → List End
member_ends j q b = kind_ends j q b Revision ∷ kind_ends j q b Bitmap ∷ kind_ends j q b Enum ∷ kind_ends j q b Struct ∷ kind_ends j q b Attribute ∷ kind_ends j q b Command ∷ kind_ends j q b Event ∷ []

-- a type's try is among those that fail
member_reaches : (k : MemberKind) (q b : ℕ) → Reaches q (member_ends k q b)
member_reaches Revision q b = inl refl
member_reaches Bitmap q b = inr (inl refl)
member_reaches Enum q b = inr (inl refl)
member_reaches Struct q b = inr (inl refl)
member_reaches Attribute q b = inr (inl refl)
member_reaches Command q b = inr (inl refl)
member_reaches Event q b = inr (inl refl)
member_reaches Unknown q b = inr (inl refl)

member_keeps : (k : MemberKind) (q b : ℕ) → b ≤ q → (d : Doc) (m : ℕ) (u : List ℕ) → left (keeps (member_ends k q b)) q (member_try k d m b u) ≡ no_nearer q (member_try k d m b u)
unfolding member_try no_nearer
member_keeps Revision q b h d m u = refl
member_keeps Bitmap q b h d m u = refl
member_keeps Enum q b h d m u = refl
member_keeps Struct q b h d m u = refl
member_keeps Attribute q b h d m u = refl
member_keeps Command q b h d m u = refl
member_keeps Event q b h d m u = refl
member_keeps Unknown q b h d m u = let z : q ≡ max q b = omega arith in ap fail z

pub member_left : {r : MemberStart} {b : ℕ} {u : List ℕ} → KindTo r b u → (d : Doc) (m : ℕ) → member_tries d m b u ≡ no_nearer r.others_fail_at (member_try r.kind d m b u)
unfolding member_tries member_try
member_left {r} {b} {u} h d m =
    choice r.others_fail_at tries (w Revision, (w Bitmap, (w Enum, (w Struct, (w Attribute, (w Command, (w Event, tt))))))) (member_reaches r.kind r.others_fail_at b) ∙ member_keeps r.kind r.others_fail_at b h.up d m u
  where
    w : (k : MemberKind) → Within r.others_fail_at (kind_ends r.kind r.others_fail_at b k)
    w k = kind_within h k

    t : (k : MemberKind) → member_try k d m b u ≡ ends (member_try r.kind d m b u) (kind_ends r.kind r.others_fail_at b k)
    t k = kind_tried (λ k. member_try k d m b u) r.kind r.others_fail_at b (λ k e. h.others k e d m) k

    tries : Tries b u (member_try r.kind d m b u) (member_tries d m) (member_ends r.kind r.others_fail_at b)
    tries = more _ (t Revision) (more _ (t Bitmap) (more _ (t Enum) (more _ (t Struct) (more _ (t Attribute) (more _ (t Command) (last (t Event)))))))

-- enums and bitmaps, where `shared` is not before them
choice_unshared : (b : ℕ) (u : List ℕ) → keyword (ascii "shared") b u ≡ fail b → ChoiceFrom b b u
unfolding shared_before
choice_unshared b u s = let z : b - b ≡ 0 = omega arith in record { value = none; reads = rw z (opt_fail _ _ _ _ (sym (bind_fail _ _ s))) }

choice_not_shared : (b : ℕ) (u : List ℕ) (d : Doc) (m : ℕ) {p : ℕ} → shared_before b u ≡ fail p → (j : List ℕ) → keyword j b u ≡ fail b → choice_after_doc_maturity j d m b u ≡ fail b
unfolding choice_after_doc_maturity choice_head
choice_not_shared b u d m e j f = bind_fail _ _ (bind_ok _ _ (sym (opt_fail _ _ _ _ (sym e))) ∙ then_fail _ _ f)

shared_unfollowed : (b : ℕ) (u : List ℕ) {w : Word} {c : ℕ} {r : List ℕ} → keyword (ascii "shared") b u ≡ ok w c r → whitespace1 c r ≡ fail c → shared_before b u ≡ fail c
unfolding shared_before
shared_unfollowed b u k e = bind_ok _ _ k ∙ then_fail _ _ e

-- and where it is
choice_shared : (b : ℕ) (u : List ℕ) (d : Doc) (m : ℕ) {w : Word} {c : ℕ} {r : List ℕ} → shared_before b u ≡ ok w c r → (j : List ℕ) → keyword j c r ≡ fail c → choice_after_doc_maturity j d m b u ≡ fail c
unfolding choice_after_doc_maturity choice_head
choice_shared b u d m e j f = bind_fail _ _ (bind_ok _ _ (sym (opt_ok _ _ _ _ _ _ (sym e))) ∙ then_fail _ _ f)

shared_followed : (b : ℕ) (u : List ℕ) {w : Word} {c c₂ : ℕ} {r r₂ : List ℕ} {e : Doc} → keyword (ascii "shared") b u ≡ ok w c r → whitespace1 c r ≡ ok e c₂ r₂ → shared_before b u ≡ ok w c₂ r₂
unfolding shared_before ret
shared_followed b u k g = bind_ok _ _ k ∙ then_ok _ _ g

-- a struct after `shared` and blanks
struct_shared : (b : ℕ) (u : List ℕ) (d : Doc) (m : ℕ) {w : Word} {c c₂ : ℕ} {r r₂ : List ℕ} {e : Doc} → keyword (ascii "shared") b u ≡ ok w c r → whitespace0 c r ≡ ok e c₂ r₂
    → whitespace0 c₂ r₂ ≡ ok no_doc c₂ r₂ → Frees c₂ r₂ (ascii "fabric_scoped" ∷ ascii "struct" ∷ []) → member_try Struct d m b u ≡ fail c₂
unfolding member_try parse_struct_after_doc_maturity struct_head struct_set
struct_shared b u d m {w} {c} {c₂} {r} {r₂} k g clear f =
    mapped_fail _ _ (bind_fail _ _ (bind_ok _ _ (sym (opt_ok _ _ _ _ _ _ (sym (shared_any b u k)))) ∙ (then_ok _ _ g ∙ (bind_ok _ _ (free_set c₂ r₂ _ (f.0, tt)) ∙ (then_ok _ _ clear ∙ then_fail _ _ f.1.0)))))

as_bitmap : (b : ℕ) (u : List ℕ) (d : Doc) (m : ℕ) {p : ℕ} → choice_after_doc_maturity (ascii "bitmap") d m b u ≡ fail p → member_try Bitmap d m b u ≡ fail p
unfolding member_try parse_bitmap_after_doc_maturity
as_bitmap b u d m e = mapped_fail _ _ e

as_enum : (b : ℕ) (u : List ℕ) (d : Doc) (m : ℕ) {p : ℕ} → choice_after_doc_maturity (ascii "enum") d m b u ≡ fail p → member_try Enum d m b u ≡ fail p
unfolding member_try parse_enum_after_doc_maturity
as_enum b u d m e = mapped_fail _ _ e

-- no word that a member can start with, but for `shared`
pub record OtherWord (b : ℕ) (u : List ℕ) : Type 0 where
  pub revision : is_ok (any_keyword revision_starts b u) ≡ false
  pub bitmap : is_ok (any_keyword (ascii "bitmap" ∷ []) b u) ≡ false
  pub enum : is_ok (any_keyword (ascii "enum" ∷ []) b u) ≡ false
  pub struct : is_ok (any_keyword struct_starts b u) ≡ false
  pub attribute : is_ok (any_keyword attribute_starts b u) ≡ false
  pub command : is_ok (any_keyword command_starts b u) ≡ false
  pub event : is_ok (any_keyword event_starts b u) ≡ false

-- where `shared` is not there, every try goes on at its start
from_start : (b : ℕ) (u : List ℕ) → keyword (ascii "shared") b u ≡ fail b → (j : MemberKind) → MemberFrom j b b u
from_start b u s Revision = tt
from_start b u s Bitmap = choice_unshared b u s
from_start b u s Enum = choice_unshared b u s
from_start b u s Struct = not_shared refl s
from_start b u s Attribute = tt
from_start b u s Command = tt
from_start b u s Event = tt
from_start b u s Unknown = tt

pub from_kind : {j k : MemberKind} (f b : ℕ) (u : List ℕ) → j ≡ k → MemberFrom j f b u → MemberFrom k f b u
from_kind f b u e h = subst (λ (x : MemberKind). MemberFrom x f b u) e h

-- a letter is one of those of an arm; it is of none of some arms
abbrev Among : List ℕ → ℕ → Type 0
Among [] x = ⊥
Among (y ∷ []) x = x ≡ y
Among (y ∷ z ∷ ys) x = (x ≡ y) ⊎ Among (z ∷ ys) x

abbrev NoneAmong : List (List ℕ) → ℕ → Type 0
NoneAmong [] x = Unit {0}
NoneAmong (ys ∷ yss) x = NoneAmong yss x × (Among ys x → ⊥)

abbrev joined : List (List ℕ) → List ℕ
joined [] = []
joined (ys ∷ yss) = ys ++ joined yss

none_more : (ys zs : List ℕ) (x : ℕ) → (Among ys x → ⊥) → NoneOf zs x → NoneOf (ys ++ zs) x
none_more [] zs x n m = m
none_more (y ∷ []) zs x n m = (m, n)
none_more (y ∷ z ∷ ys) zs x n m = (none_more (z ∷ ys) zs x (λ o. n (inr o)) m, λ e. n (inl e))

none_among : (yss : List (List ℕ)) (x : ℕ) → NoneAmong yss x → NoneOf (joined yss) x
none_among [] x n = tt
none_among (ys ∷ yss) x n = none_more ys (joined yss) x n.1 (none_among yss x n.0)

-- no kind but j begins with a letter; and so with each letter of a list
abbrev leaves : MemberKind → ℕ → Bool
leaves j y = all_of (λ k. same_kind k j || all_out ((0, y) ∷ []) (ascii "shared" ∷ []) (first_words k)) kinds

abbrev each_out : MemberKind → List ℕ → Bool
each_out j [] = true
each_out j (y ∷ ys) = leaves j y && each_out j ys

-- the first word selects the try of its kind
module _ (b : ℕ) (u : List ℕ) (clear : whitespace0 b u ≡ ok no_doc b u) where
  at_start : (k : MemberKind) → fails_at b b k ≡ b
  at_start Revision = refl
  at_start Bitmap = refl
  at_start Enum = refl
  at_start Struct = refl
  at_start Attribute = refl
  at_start Command = refl
  at_start Event = refl
  at_start Unknown = refl

  at_free : (j : MemberKind) → ((k : MemberKind) → same_kind k j ≡ false → Frees b u (first_words k)) → keyword (ascii "shared") b u ≡ fail b → KindTo (record { kind = j; others_fail_at = b; from = b }) b u
  at_free j f s = record { up = omega arith; others = λ k e d m. kind_elsewhere b u clear k d m (f k e) ∙ ap fail (sym (at_start k)); goes = from_start b u s j }

  -- one of some words, which no other kind starts with
  pub at_word : (j : MemberKind) (ks : List (List ℕ)) → all_of (λ k. same_kind k j || disjoint ks (first_words k)) kinds ≡ true → StartsAny ks u → keyword (ascii "shared") b u ≡ fail b → KindTo (record { kind = j; others_fail_at = b; from = b }) b u
  at_word j ks t s = at_free j (λ k e. starts_free s b (first_words k) (rw e at (every (λ k. same_kind k j || disjoint ks (first_words k)) t k)))

  -- letters of the first word, and words that are not there, with which no other kind begins
  pub at_letters : (j : MemberKind) (ls : List (ℕ × ℕ)) (js : List (List ℕ)) → all_of (λ k. same_kind k j || all_out ls (ascii "shared" ∷ js) (first_words k)) kinds ≡ true → Letters u ls → Frees b u js → keyword (ascii "shared") b u ≡ fail b → KindTo (record { kind = j; others_fail_at = b; from = b }) b u
  at_letters j ls js t l f s = at_free j (λ k e. outs_free b u ls l (ascii "shared" ∷ js) (s, f) (first_words k) (rw e at (every (λ k. same_kind k j || all_out ls (ascii "shared" ∷ js) (first_words k)) t k))) s

  -- the first letter is one of some, with each of which no other kind begins
  pub at_letter : (j : MemberKind) (ys : List ℕ) → each_out j ys ≡ true → (x : ℕ) → Among ys x → lower (get_or u 0 0) ≡ x → keyword (ascii "shared") b u ≡ fail b → KindTo (record { kind = j; others_fail_at = b; from = b }) b u
  at_letter j [] t x o h s = absurd o
  at_letter j (y ∷ []) t x o h s = at_letters j ((0, y) ∷ []) [] (and_left (leaves j y) true t) (h ∙ o, tt) tt s
  at_letter j (y ∷ z ∷ ys) t x (inl o) h s = at_letters j ((0, y) ∷ []) [] (and_left (leaves j y) (each_out j (z ∷ ys)) t) (h ∙ o, tt) tt s
  at_letter j (y ∷ z ∷ ys) t x (inr o) h s = at_letter j (z ∷ ys) (and_right (leaves j y) (each_out j (z ∷ ys)) t) x o h s

  -- one of two kinds is selected, by whether a word is there
  pub at_either : (j j' : MemberKind) (k : List ℕ) (y : ℕ) (js : List (List ℕ)) → all_of (λ i. same_kind i j || disjoint (k ∷ []) (first_words i)) kinds ≡ true → all_of (λ i. same_kind i j' || all_out ((0, y) ∷ []) (ascii "shared" ∷ k ∷ js) (first_words i)) kinds ≡ true
      → lower (get_or u 0 0) ≡ y → Frees b u js → keyword (ascii "shared") b u ≡ fail b → {r : MemberKind} → r ≡ cond (is_ok (any_keyword (k ∷ []) b u)) j j' → KindTo (record { kind = r; others_fail_at = b; from = b }) b u
  at_either j j' k y js t t' h f s e = subst (λ (x : MemberKind). KindTo (record { kind = x; others_fail_at = b; from = b }) b u) (sym e) (go (is_ok (any_keyword (k ∷ []) b u)) refl)
    where
      go : (x : Bool) → is_ok (any_keyword (k ∷ []) b u) ≡ x → KindTo (record { kind = cond x j j'; others_fail_at = b; from = b }) b u
      go true q = at_word j (k ∷ []) t (starts_any (k ∷ []) b u q) s
      go false q = at_letters j' ((0, y) ∷ []) (k ∷ js) t' (h, tt) ((frees_all (k ∷ []) b u q).0, f) s

  -- a first letter with which no kind's words begin
  pub at_other_letter : (ys : List (List ℕ)) → all_of (λ k. all_begin (joined ys) (first_words k)) kinds ≡ true → (x : ℕ) → NoneAmong ys x → lower (get_or u 0 0) ≡ x → keyword (ascii "shared") b u ≡ fail b → KindTo (record { kind = Unknown; others_fail_at = b; from = b }) b u
  at_other_letter ys t x n h s = at_free Unknown (λ k e. initials_free b u (joined ys) x (none_among ys x n) h (first_words k) (every (λ k. all_begin (joined ys) (first_words k)) t k)) s

  pub at_third_letter : (y : ℕ) → lower (get_or u 0 0) ≡ byte "r" → lower (get_or u 2 0) ≡ y → keyword (ascii "shared") b u ≡ fail b → KindTo (record { kind = third_letter_kind y; others_fail_at = b; from = b }) b u
  unfolding same_bytes
  at_third_letter y e h s = go (eqb y (byte "a")) refl (eqb y (byte "v")) refl
    where
      letters : Letters u ((0, byte "r") ∷ (2, y) ∷ [])
      letters = (e, (h, tt))

      go : (t : Bool) → eqb y (byte "a") ≡ t → (t' : Bool) → eqb y (byte "v") ≡ t' → KindTo (record { kind = cond t Attribute (cond t' Revision Struct); others_fail_at = b; from = b }) b u
      go true q t' q' = at_letters Attribute ((0, byte "r") ∷ (2, byte "a") ∷ []) [] refl (e, (h ∙ eqb-true y (byte "a") q, tt)) tt s
      go false q true q' = at_letters Revision ((0, byte "r") ∷ (2, byte "v") ∷ []) [] refl (e, (h ∙ eqb-true y (byte "v") q', tt)) tt s
      go false q false q' = at_letters Struct ((0, byte "r") ∷ (2, y) ∷ []) [] (rw (q, q')) letters tt s

  -- none of the words, and not `shared`
  pub at_other : OtherWord b u → keyword (ascii "shared") b u ≡ fail b → KindTo (record { kind = Unknown; others_fail_at = b; from = b }) b u
  at_other o s = at_free Unknown (λ k e. free k) s
    where
      free : (k : MemberKind) → Frees b u (first_words k)
      free Revision = frees_all revision_starts b u o.revision
      free Bitmap = (s, frees_all (ascii "bitmap" ∷ []) b u o.bitmap)
      free Enum = (s, frees_all (ascii "enum" ∷ []) b u o.enum)
      free Struct = (s, frees_all struct_starts b u o.struct)
      free Attribute = frees_all attribute_starts b u o.attribute
      free Command = frees_all command_starts b u o.command
      free Event = frees_all event_starts b u o.event
      free Unknown = tt

  -- `shared`, and what follows it
  module _ {w : Word} {c : ℕ} {r : List ℕ} (k : keyword (ascii "shared") b u ≡ ok w c r) where
    other_words : (js : List (List ℕ)) → disjoint (ascii "shared" ∷ []) js ≡ true → Frees b u js
    other_words js e = starts_free (starts_shared b u k) b js e

    -- of the types all but one fail at q
    at_type : (j : MemberKind) {f : ℕ} → MemberFrom j f b u → (q : ℕ) → b ≤ q → ((d : Doc) (m : ℕ) → same_kind Bitmap j ≡ false → member_try Bitmap d m b u ≡ fail q) → ((d : Doc) (m : ℕ) → same_kind Enum j ≡ false → member_try Enum d m b u ≡ fail q)
        → ((d : Doc) (m : ℕ) → same_kind Struct j ≡ false → member_try Struct d m b u ≡ fail q) → KindTo (record { kind = j; others_fail_at = q; from = f }) b u
    unfolding same_bytes
    at_type j g q h x y z = record { up = h; others = other; goes = g }
      where
        free : (k : MemberKind) → disjoint (ascii "shared" ∷ []) (first_words k) ≡ true → (d : Doc) (m : ℕ) → member_try k d m b u ≡ fail b
        free k e d m = kind_elsewhere b u clear k d m (other_words (first_words k) e)

        other : (k : MemberKind) → same_kind k j ≡ false → (d : Doc) (m : ℕ) → member_try k d m b u ≡ fail (fails_at q b k)
        other Revision e d m = free Revision refl d m
        other Bitmap e d m = x d m e
        other Enum e d m = y d m e
        other Struct e d m = z d m e
        other Attribute e d m = free Attribute refl d m
        other Command e d m = free Command refl d m
        other Event e d m = free Event refl d m
        other Unknown e d m = free Unknown refl d m

    -- no blank follows: it can only be a struct's
    pub at_shared : {f : ℕ} → StructFrom f b u → whitespace1 c r ≡ fail c → KindTo (record { kind = Struct; others_fail_at = b; from = f }) b u
    unfolding same_bytes
    at_shared g e = at_type Struct g b (omega arith) (λ d m z. as_bitmap b u d m (n d m (ascii "bitmap") refl)) (λ d m z. as_enum b u d m (n d m (ascii "enum") refl)) (λ d m z. absurd (true≢false z))
      where
        n : (d : Doc) (m : ℕ) (j : List ℕ) → disjoint (ascii "shared" ∷ []) (j ∷ []) ≡ true → choice_after_doc_maturity j d m b u ≡ fail b
        n d m j t = choice_not_shared b u d m (shared_unfollowed b u k e) j (other_words (j ∷ []) t).0

    -- a blank follows, up to c₂: the word after it decides
    module _ {e : Doc} {c₂ : ℕ} {r₂ : List ℕ} (g : whitespace1 c r ≡ ok e c₂ r₂) (g₀ : whitespace0 c r ≡ ok e c₂ r₂) (h : b ≤ c₂) where
      no_bitmap : Frees c₂ r₂ (ascii "bitmap" ∷ []) → (d : Doc) (m : ℕ) → member_try Bitmap d m b u ≡ fail c₂
      no_bitmap f d m = as_bitmap b u d m (choice_shared b u d m (shared_followed b u k g) (ascii "bitmap") f.0)

      no_enum : Frees c₂ r₂ (ascii "enum" ∷ []) → (d : Doc) (m : ℕ) → member_try Enum d m b u ≡ fail c₂
      no_enum f d m = as_enum b u d m (choice_shared b u d m (shared_followed b u k g) (ascii "enum") f.0)

      no_struct : Frees c₂ r₂ (ascii "fabric_scoped" ∷ ascii "struct" ∷ []) → (d : Doc) (m : ℕ) → member_try Struct d m b u ≡ fail c₂
      no_struct f d m = struct_shared b u d m k g₀ (blank_clear c r e c₂ r₂ g₀) f

      pub at_shared_bitmap : ChoiceFrom c₂ b u → StartsAny (ascii "bitmap" ∷ []) r₂ → KindTo (record { kind = Bitmap; others_fail_at = c₂; from = c₂ }) b u
      unfolding same_bytes
      at_shared_bitmap v s = at_type Bitmap v c₂ h (λ d m z. absurd (true≢false z)) (λ d m z. no_enum (starts_free s c₂ (ascii "enum" ∷ []) refl) d m) (λ d m z. no_struct (starts_free s c₂ (ascii "fabric_scoped" ∷ ascii "struct" ∷ []) refl) d m)

      pub at_shared_enum : ChoiceFrom c₂ b u → StartsAny (ascii "enum" ∷ []) r₂ → KindTo (record { kind = Enum; others_fail_at = c₂; from = c₂ }) b u
      unfolding same_bytes
      at_shared_enum v s = at_type Enum v c₂ h (λ d m z. no_bitmap (starts_free s c₂ (ascii "bitmap" ∷ []) refl) d m) (λ d m z. absurd (true≢false z)) (λ d m z. no_struct (starts_free s c₂ (ascii "fabric_scoped" ∷ ascii "struct" ∷ []) refl) d m)

      pub at_shared_struct : StructFrom c₂ b u → Frees c₂ r₂ (ascii "bitmap" ∷ []) → Frees c₂ r₂ (ascii "enum" ∷ []) → KindTo (record { kind = Struct; others_fail_at = c₂; from = c₂ }) b u
      at_shared_struct v f f' = at_type Struct v c₂ h (λ d m z. no_bitmap f d m) (λ d m z. no_enum f' d m) (λ d m z. absurd (true≢false z))

-- after `shared`
module _ (b : ℕ) (u : List ℕ) (clear : whitespace0 b u ≡ ok no_doc b u) (c : ℕ) (k : word_reply (Ok c) b u ≡ keyword (ascii "shared") b u) {r : List ℕ} (q : Rest b u c r) (t : Blank) (w : BlankTo t c r) where
  word_is : keyword (ascii "shared") b u ≡ ok (word_at b u c) c (drop (c - b) u)
  word_is = sym k

  blank : Took whitespace0 b u c (doc_of t.doc) t.next
  blank = blank_took q w

  goes_on : StructFrom t.next b u
  goes_on = after_shared c k (blank_is q w)

  pub kind_alone : t.next ≡ c → KindTo (record { kind = Struct; others_fail_at = b; from = t.next }) b u
  kind_alone z = at_shared b u clear word_is goes_on (ap (whitespace1 c) (sym q.same) ∙ sym (gap_none c r t w z))

  module _ (z : t.next ≡ c → ⊥) where
    following : whitespace1 c (drop (c - b) u) ≡ ok (doc_of t.doc) t.next (drop (t.next - b) u)
    following = ap (whitespace1 c) (sym q.same) ∙ (sym (gap_some c r t w z) ∙ (w.reads ∙ (ap (whitespace0 c) q.same ∙ blank.goes)))

    up : b ≤ t.next
    up = omega (arith, q.from, w.up)

    choice_goes_on : ChoiceFrom t.next b u
    choice_goes_on = record { value = some (word_at b u c); reads = opt_ok _ _ _ _ _ _ (sym (shared_followed b u word_is following)) }

    pub kind_bitmap : StartsAny (ascii "bitmap" ∷ []) (drop (t.next - b) u) → KindTo (record { kind = Bitmap; others_fail_at = t.next; from = t.next }) b u
    kind_bitmap s = at_shared_bitmap b u clear word_is following blank.goes up choice_goes_on s

    pub kind_enum : StartsAny (ascii "enum" ∷ []) (drop (t.next - b) u) → KindTo (record { kind = Enum; others_fail_at = t.next; from = t.next }) b u
    kind_enum s = at_shared_enum b u clear word_is following blank.goes up choice_goes_on s

    pub kind_struct : Frees t.next (drop (t.next - b) u) (ascii "bitmap" ∷ []) → Frees t.next (drop (t.next - b) u) (ascii "enum" ∷ []) → KindTo (record { kind = Struct; others_fail_at = t.next; from = t.next }) b u
    kind_struct f f' = at_shared_struct b u clear word_is following blank.goes up goes_on f f'

-- a test at a rest of the part
module _ {b n : ℕ} {u r : List ℕ} (q : Rest b u n r) (k : List ℕ) {x : Bool} (h : x ≡ is_ok (any_keyword (k ∷ []) n r)) where
  seen : x ≡ is_ok (any_keyword (k ∷ []) n (drop (n - b) u))
  seen = h ∙ ap (λ (v : List ℕ). is_ok (any_keyword (k ∷ []) n v)) q.same

  pub rest_starts : x ≡ true → StartsAny (k ∷ []) (drop (n - b) u)
  rest_starts e = starts_any (k ∷ []) n (drop (n - b) u) (sym seen ∙ e)

  pub rest_frees : x ≡ false → Frees n (drop (n - b) u) (k ∷ [])
  rest_frees e = frees_all (k ∷ []) n (drop (n - b) u) (sym seen ∙ e)
