-- Items: which try a first word selects, and both passes over declarations.
use Rattle.items.specs.declared.maturity.Maturity.{Maturity}
use Rattle.items.specs.declared.maturity.Maturity.TheVariants.{Stable}
use Rattle.items.specs.answers.{maturity_number}
use Rattle.lexing.specs.declared.answers.LostBy.TheVariants.{Fail, Stop}
use Rattle.std.specs.Prelude.{Ok, Err}
use mathlib.Core.Path.{◌≡◌, refl, sym, ap, ◌∙◌, subst}
use mathlib.Core.Logic.{inl, inr}
use mathlib.Core.Bool.{Bool, true, false}
use mathlib.Core.List.{List, [], ◌∷◌}
use Prim.Native.Nat.{ℕ, ◌-◌, ◌≤◌, max}
use native.Mathlib.Omega.{arith}
use lib.ListN.{drop}
use Rattle.lexing.specs.bytes.{ascii}
use Rattle.lexing.specs.reply.{Reply, ok, fail, stop, Parser, ret, ◌>>=◌, ◌>>◌, ◌or◌, no_nearer}
use Rattle.lexing.specs.words.{any_keyword}
use Rattle.lexing.specs.blanks.{Doc, no_doc, whitespace0, whitespace1}
use Rattle.lexing.specs.word_sets.{same_bytes}
use Rattle.lexing.proofs.Losses.{by_lost}
use Rattle.lexing.proofs.Onward.{Ends, Onward}
use Rattle.lexing.proofs.blanks.Laws.{gap_none, gap_some}
use Rattle.lexing.proofs.FirstWord.{Frees, starts_free, blank_clear}
use Rattle.lexing.specs.answers.{Rest, doc_of, lost_reply, BlankTo, Read, number_of, Lost}
use Rattle.lexing.specs.declared.blanks.Blank.{Blank}
use Rattle.lexing.proofs.Slicing.{Took, took, walks, rest_self, begin, or_here}
use Rattle.items.specs.entries.{api_maturity, choice_after_doc_maturity, parse_enum_after_doc_maturity, parse_bitmap_after_doc_maturity}
use Rattle.items.specs.structs.{parse_struct_after_doc_maturity}
use Rattle.items.specs.clusters.{mapped, cluster_after_doc_maturity, parse_cluster}
use Rattle.items.specs.endpoints.{endpoint_head, endpoint}
use Rattle.items.specs.items.{Item, cluster_item, endpoint_item, enum_item, bitmap_item, struct_item, blank_item, with_doc_maturity, item}
use Rattle.items.specs.answers.items.{after_maturity, declaration}
use Rattle.items.specs.records.{Record, choice_records, struct_records, endpoint_records, item_records}
use Rattle.items.specs.answers.{Front, CountTo, count_end, Room, Written}
use Rattle.items.specs.declared.writing.Wrote.{Wrote}
use Rattle.items.specs.inner.clusters.{unhoisted_records}
use Rattle.items.specs.answers.items.{unhoisted_item, DeclarationCountTo}
use Rattle.items.specs.layout.{layout, word_count}
use Rattle.items.specs.inner.member_kinds.{is_ok, member_try, fails_at, MemberFrom, KindTo}
use Rattle.items.specs.inner.counts.{fail_no_earlier}
use Rattle.items.specs.inner.items.{cluster_starts, type_kind, declaration_try, DeclarationFrom, KindCountTo, StartTo}
use Rattle.items.specs.declared.member_kinds.MemberStart.{MemberStart}
use Rattle.items.specs.declared.member_kinds.MemberKind.{MemberKind}
use Rattle.items.specs.declared.member_kinds.MemberKind.TheVariants.{Revision, Bitmap, Enum, Struct, Attribute, Command, Event, Unknown}
use Rattle.items.specs.declared.items.DeclarationKind.{DeclarationKind}
use Rattle.items.specs.declared.items.DeclarationKind.TheVariants.{Cluster, Endpoint, Enum as EnumType, Bitmap as BitmapType, Struct as StructType, Unknown as NoDeclaration}
use Rattle.items.specs.declared.items.DeclarationStart.{DeclarationStart}
use Rattle.items.proofs.Choice.{End, kept, lost, ends, Tries, more, last, keeps, left, Reaches, choice, Past, past_start, or_fail, or_stop, or_keep, or_same, or_assoc, past_first, past_rest, moving_past, further_ok, ok_further}
use Rattle.items.proofs.Mapped.{mapped_same, lost_as}
use Rattle.items.proofs.Recorded.{Recorded, recorded_at, recorded_counts}
use Rattle.items.proofs.Locality.{declaration_local, item_local, mapped_local, cluster_after_doc_maturity_local, endpoint_local, parse_enum_local, parse_bitmap_local, parse_struct_local}
use Rattle.items.proofs.counts.Laws.{count_took, count_lost, count_is, count_not, count_after, count_no_earlier}
use Rattle.items.proofs.Braces.{rest_is}
use Rattle.items.proofs.writing.Laws.{no_room}
use Rattle.items.proofs.RecordWords.{word_count_none}
use Rattle.items.proofs.Shift.{shift_item, shift_mapped, shift_endpoint_lem}
use Rattle.lexing.proofs.Sequences.{bind_ok, then_ok, then_fail}
use Rattle.items.proofs.Tries.{maturity_words, mapped_fail, maturity_elsewhere, cluster_elsewhere, endpoint_elsewhere}
use Rattle.items.proofs.member_kinds.Laws.{starts_any, frees_all, at_word, kind_ends, kind_tried, kind_within}

-- A type that fails as a member fails at the top too.
remapped : {A B C : Type 0} (m : Parser A) (f : A → B) (g : A → C) (b : ℕ) (u : List ℕ) {p : ℕ} → mapped m f b u ≡ fail p → mapped m g b u ≡ fail p
remapped m f g b u {p} e = mapped_fail m g (sym (lost_as f m b u (Fail p) (sym e)))

at_top : (k : MemberKind) (d : Doc) (m q b : ℕ) (u : List ℕ) → member_try k d m b u ≡ fail (fails_at q b k) → declaration_try (type_kind k) d m b u ≡ fail (fails_at q b k)
unfolding member_try declaration_try
at_top Revision d m q b u e = refl
at_top Bitmap d m q b u e = remapped _ _ _ b u e
at_top Enum d m q b u e = remapped _ _ _ b u e
at_top Struct d m q b u e = remapped _ _ _ b u e
at_top Attribute d m q b u e = refl
at_top Command d m q b u e = refl
at_top Event d m q b u e = refl
at_top Unknown d m q b u e = refl

-- of the types one fails at the floor
abbrev type_ends : MemberKind → (q c b : ℕ) → List End
type_ends k q c b = lost c ∷ lost b ∷ kind_ends k q c Enum ∷ kind_ends k q c Bitmap ∷ kind_ends k q c Struct ∷ []

type_reaches : (k : MemberKind) (q c b : ℕ) → Reaches q (type_ends k q c b)
type_reaches Revision q c b = inr (inr (inl refl))
type_reaches Bitmap q c b = inr (inr (inl refl))
type_reaches Enum q c b = inr (inr (inl refl))
type_reaches Struct q c b = inr (inr (inl refl))
type_reaches Attribute q c b = inr (inr (inl refl))
type_reaches Command q c b = inr (inr (inl refl))
type_reaches Event q c b = inr (inr (inl refl))
type_reaches Unknown q c b = inr (inr (inl refl))

further_at : (q c : ℕ) → c ≤ q → ◌≡◌ {A = Reply Item} (fail q) (no_nearer q (fail c))
unfolding no_nearer
further_at q c h = let z : q ≡ max q c = omega arith in ap fail z

type_keeps : (k : MemberKind) (q c b : ℕ) → c ≤ q → (d : Doc) (m : ℕ) (r : List ℕ) → left (keeps (type_ends k q c b)) q (declaration_try (type_kind k) d m c r) ≡ no_nearer q (declaration_try (type_kind k) d m c r)
unfolding declaration_try
type_keeps Revision q c b h d m r = further_at q c h
type_keeps Bitmap q c b h d m r = refl
type_keeps Enum q c b h d m r = refl
type_keeps Struct q c b h d m r = refl
type_keeps Attribute q c b h d m r = further_at q c h
type_keeps Command q c b h d m r = further_at q c h
type_keeps Event q c b h d m r = further_at q c h
type_keeps Unknown q c b h d m r = further_at q c h

-- After a maturity m and blanks, up to c: the tries of a declaration.
module _ (b : ℕ) (u : List ℕ) (d : Doc) {m c₁ c : ℕ} {r₁ r : List ℕ} {e : Doc} (h₁ : api_maturity b u ≡ ok m c₁ r₁) (h₂ : whitespace0 c₁ r₁ ≡ ok e c r) where
  after : {A : Type 0} (f : ℕ → Parser A) → after_maturity f b u ≡ f m c r
  unfolding after_maturity
  after f = bind_ok _ _ h₁ ∙ then_ok _ _ h₂

  tries : (X : Reply Item) (i j k l n : End) → declaration_try Cluster d m c r ≡ ends X i → declaration_try Endpoint d m b u ≡ ends X j → declaration_try EnumType d m c r ≡ ends X k → declaration_try BitmapType d m c r ≡ ends X l
      → declaration_try StructType d m c r ≡ ends X n → Tries b u X (declaration d) (i ∷ j ∷ k ∷ l ∷ n ∷ [])
  unfolding declaration declaration_try
  tries X i j k l n x y z w v =
      more _ (mapped_same _ _ _ (after _) ∙ x) (more _ y (more _ (mapped_same _ _ _ (after _) ∙ z) (more _ (mapped_same _ _ _ (after _) ∙ w) (last (mapped_same _ _ _ (after _) ∙ v)))))

  module _ {k : MemberStart} (h : KindTo k c r) where
    type_tried : (j : MemberKind) → declaration_try (type_kind j) d m c r ≡ ends (declaration_try (type_kind k.kind) d m c r) (kind_ends k.kind k.others_fail_at c j)
    type_tried = kind_tried (λ j. declaration_try (type_kind j) d m c r) k.kind k.others_fail_at c (λ j e. at_top j d m k.others_fail_at c r (h.others j e d m))

    -- no cluster and no endpoint: the types' tries
    types_left : b ≤ c → declaration_try Cluster d m c r ≡ fail c → declaration_try Endpoint d m b u ≡ fail b → declaration d b u ≡ no_nearer k.others_fail_at (declaration_try (type_kind k.kind) d m c r)
    types_left low x y =
        choice k.others_fail_at (tries (declaration_try (type_kind k.kind) d m c r) (lost c) (lost b) (kind_ends k.kind k.others_fail_at c Enum) (kind_ends k.kind k.others_fail_at c Bitmap) (kind_ends k.kind k.others_fail_at c Struct) x y (type_tried Enum) (type_tried Bitmap) (type_tried Struct)) (h.up, (omega (arith, h.up, low), (kind_within h Enum, (kind_within h Bitmap, (kind_within h Struct, tt))))) (type_reaches k.kind k.others_fail_at c b)
        ∙ type_keeps k.kind k.others_fail_at c b h.up d m r

no_cluster : (d : Doc) (m b : ℕ) (u : List ℕ) → Frees b u cluster_starts → declaration_try Cluster d m b u ≡ fail b
unfolding declaration_try
no_cluster d m b u f = mapped_fail _ _ (cluster_elsewhere b u d m f)

-- a type goes on where it would as a member
top_from : (k : MemberKind) (f b : ℕ) (u : List ℕ) → MemberFrom k f b u → DeclarationFrom (type_kind k) f b u
top_from Revision f b u g = tt
top_from Bitmap f b u g = g
top_from Enum f b u g = g
top_from Struct f b u g = g
top_from Attribute f b u g = tt
top_from Command f b u g = tt
top_from Event f b u g = tt
top_from Unknown f b u g = tt

pub from_kind : {j k : DeclarationKind} (f b : ℕ) (u : List ℕ) → j ≡ k → DeclarationFrom j f b u → DeclarationFrom k f b u
from_kind f b u e h = subst (λ (x : DeclarationKind). DeclarationFrom x f b u) e h

-- How a declaration starts: with `endpoint`, which leaves no maturity,
pub start_endpoint : (b : ℕ) (u : List ℕ) → whitespace0 b u ≡ ok no_doc b u → is_ok (any_keyword (ascii "endpoint" ∷ []) b u) ≡ true → StartTo (record { kind = Endpoint; others_fail_at = b; maturity = Stable; next = b; from = b }) b u
unfolding same_bytes
start_endpoint b u clear x = record {
  from = omega arith;
  inside = omega arith;
  leaves = λ d.
      let s = starts_any (ascii "endpoint" ∷ []) b u x in
      let h = maturity_elsewhere b u (starts_free s b maturity_words refl) in
      let t = type_tried b u d h clear (at_word b u clear Unknown (ascii "endpoint" ∷ []) refl s (starts_free s b (ascii "shared" ∷ []) refl).0) in
      let low : b ≤ b = omega arith in
      choice b (tries b u d h clear (declaration_try Endpoint d 0 b u) (lost b) kept (lost b) (lost b) (lost b) (no_cluster d 0 b u (starts_free s b cluster_starts refl)) refl (t Enum) (t Bitmap) (t Struct)) (low, (tt, (low, (low, (low, tt))))) (inl refl)
      ∙ ap (λ (v : List ℕ). no_nearer b (declaration_try Endpoint d 0 b v)) (rest_self b u).same;
  goes = tt;
}

-- or with a maturity that may be absent, and blanks up to c,
module _ (b : ℕ) (u : List ℕ) (clear : whitespace0 b u ≡ ok no_doc b u) (x : is_ok (any_keyword (ascii "endpoint" ∷ []) b u) ≡ false) (m : Maturity) {c₁ c : ℕ} {e : Doc} (t₁ : Took api_maturity b u b (maturity_number m) c₁) (t₂ : Took whitespace0 b u c₁ e c) where
  h₁ : api_maturity b u ≡ ok (maturity_number m) c₁ (drop (c₁ - b) u)
  h₁ = sym (begin api_maturity b u (sym t₁.goes))

  clear₂ : whitespace0 c (drop (c - b) u) ≡ ok no_doc c (drop (c - b) u)
  clear₂ = blank_clear c₁ (drop (c₁ - b) u) e c (drop (c - b) u) t₂.goes

  low : b ≤ c
  low = omega (arith, t₁.up, t₂.up)

  no_endpoint : (d : Doc) → declaration_try Endpoint d (maturity_number m) b u ≡ fail b
  unfolding declaration_try
  no_endpoint d = mapped_fail _ _ (endpoint_elsewhere b u clear (frees_all (ascii "endpoint" ∷ []) b u x).0)

  start_of : (k : DeclarationKind) (q : ℕ) {f : ℕ} → DeclarationFrom k f c (drop (c - b) u) → ((d : Doc) → declaration d b u ≡ no_nearer q (declaration_try k d (maturity_number m) c (drop (c - b) u))) → StartTo (record { kind = k; others_fail_at = q; maturity = m; next = c; from = f }) b u
  start_of k q g h = record { from = low; inside = t₂.inside; leaves = h; goes = g }

  module _ {r : List ℕ} (q : Rest b u c r) {y : Bool} (f : y ≡ is_ok (any_keyword cluster_starts c r)) where
    seen : y ≡ is_ok (any_keyword cluster_starts c (drop (c - b) u))
    seen = f ∙ ap (λ (v : List ℕ). is_ok (any_keyword cluster_starts c v)) q.same

    -- then one of a cluster's words
    pub start_cluster : y ≡ true → StartTo (record { kind = Cluster; others_fail_at = c; maturity = m; next = c; from = c }) b u
    unfolding same_bytes
    start_cluster z = start_of Cluster c tt λ d.
        let s = starts_any cluster_starts c (drop (c - b) u) (sym seen ∙ z) in
        let t = type_tried b u d h₁ t₂.goes (at_word c (drop (c - b) u) clear₂ Unknown cluster_starts refl s (starts_free s c (ascii "shared" ∷ []) refl).0) in
        let same : c ≤ c = omega arith in
        choice c (tries b u d h₁ t₂.goes (declaration_try Cluster d (maturity_number m) c (drop (c - b) u)) kept (lost b) (lost c) (lost c) (lost c) refl (no_endpoint d) (t Enum) (t Bitmap) (t Struct)) (tt, (low, (same, (same, (same, tt))))) (inr (inl refl))

    -- or another word, by the kind that a member would be
    pub start_type : y ≡ false → {v : List ℕ} → Rest b u c v → {k : MemberStart} → KindTo k c v → {j : DeclarationKind} → j ≡ type_kind k.kind → StartTo (record { kind = j; others_fail_at = k.others_fail_at; maturity = m; next = c; from = k.from }) b u
    start_type z {v} q' {k} h {j} w =
        let g : KindTo k c (drop (c - b) u) = subst (λ (r : List ℕ). KindTo k c r) q'.same h in
        rw w (start_of (type_kind k.kind) k.others_fail_at (top_from k.kind k.from c (drop (c - b) u) g.goes) λ d.
        types_left b u d h₁ t₂.goes g low (no_cluster d (maturity_number m) c (drop (c - b) u) (frees_all cluster_starts c (drop (c - b) u) (sym seen ∙ z))) (no_endpoint d))

-- The tries of each kind by their readers.
module _ (d : Doc) (m : ℕ) where
  pub clusters : Recorded unhoisted_item (declaration_try Cluster d m) unhoisted_records (cluster_after_doc_maturity d m)
  unfolding declaration_try item_records
  clusters = record { make = cluster_item; reads = refl; hands = refl }

  pub endpoints : Recorded unhoisted_item (declaration_try Endpoint d m) endpoint_records endpoint
  unfolding declaration_try item_records
  endpoints = record { make = endpoint_item; reads = refl; hands = refl }

  pub enums : Recorded unhoisted_item (declaration_try EnumType d m) (choice_records 2 1) (choice_after_doc_maturity (ascii "enum") d m)
  unfolding declaration_try item_records parse_enum_after_doc_maturity
  enums = record { make = enum_item; reads = refl; hands = refl }

  pub bitmaps : Recorded unhoisted_item (declaration_try BitmapType d m) (choice_records 3 1) (choice_after_doc_maturity (ascii "bitmap") d m)
  unfolding declaration_try item_records parse_bitmap_after_doc_maturity
  bitmaps = record { make = bitmap_item; reads = refl; hands = refl }

  pub structs : Recorded unhoisted_item (declaration_try StructType d m) (struct_records 1) (parse_struct_after_doc_maturity d m)
  unfolding declaration_try item_records
  structs = record { make = struct_item; reads = refl; hands = refl }

pub of_kind : (d : Doc) (m : ℕ) {k x : DeclarationKind} {B : Type 0} {f : B → List Record} {p : Parser B} → k ≡ x → Recorded unhoisted_item (declaration_try x d m) f p → Recorded unhoisted_item (declaration_try k d m) f p
of_kind d m e i = recorded_at (ap (λ (y : DeclarationKind). declaration_try y d m) e) i

-- The first pass over a declaration of a kind: f is what its reader counts.
pub kind_counted : {k x : DeclarationKind} {B : Type 0} {f : Front → B → List Record} {p : Front → Parser B} {r : Read ℕ} {b : ℕ} {u : List ℕ} → k ≡ x → ((i : Front) → Recorded unhoisted_item (declaration_try x i.doc i.maturity) (f i) (p i))
    → ((i : Front) → CountTo (f i) (p i) r b u) → KindCountTo k r b u
kind_counted e i h = record { counts = λ j. recorded_counts (of_kind j.doc j.maturity e (i j)) (h j) }

pub kind_unknown : {k : DeclarationKind} {b : ℕ} {u : List ℕ} → k ≡ NoDeclaration → KindCountTo k (Err (Fail b)) b u
unfolding declaration_try
kind_unknown {b = b} {u = u} e = subst (λ (y : DeclarationKind). KindCountTo y (Err (Fail b)) b u) (sym e) (record { counts = λ i. count_not unhoisted_item (declaration_try NoDeclaration i.doc i.maturity) b u (Fail b) refl })

-- a type's front at the top
abbrev pub top : ℕ → Front → Front
top k i = record { kind = k; place = 1; doc = i.doc; maturity = i.maturity }

-- The first pass over a declaration.
declaration_on : (k : DeclarationKind) (d : Doc) (m : ℕ) → Onward (declaration_try k d m)
unfolding declaration_try
declaration_on Cluster d m = walks (mapped_local _ (cluster_after_doc_maturity_local d m)).on_chain
declaration_on Endpoint d m = walks (mapped_local _ endpoint_local).on_chain
declaration_on EnumType d m = walks (mapped_local _ (parse_enum_local d m)).on_chain
declaration_on BitmapType d m = walks (mapped_local _ (parse_bitmap_local d m)).on_chain
declaration_on StructType d m = walks (mapped_local _ (parse_struct_local d m)).on_chain
declaration_on NoDeclaration d m = record { onward = λ b u. tt }

raised_on : {A : Type 0} {m : Parser A} (q : ℕ) → Onward m → Onward (λ b u. no_nearer q (m b u))
unfolding no_nearer
raised_on {A} {m} q w = record { onward = λ b u. go b u (m b u) (w.onward b u) }
  where
    go : (b : ℕ) (u : List ℕ) (x : Reply A) → Ends b u x → Ends b u (no_nearer q x)
    go b u (ok a c r) h = h
    go b u (fail p) h = tt
    go b u (stop n p) h = tt

pub started : {s : DeclarationStart} {b : ℕ} {u v : List ℕ} {r x : Read ℕ} → StartTo s b u → Rest b u s.next v → KindCountTo s.kind r s.next v → x ≡ fail_no_earlier r s.others_fail_at → DeclarationCountTo x b u
started {s} {b} {u} {v} {r} {x} h q g e = rw e (record {
  counts = λ d.
      let t = declaration_try s.kind d (maturity_number s.maturity) in
      let f : Parser Item = λ b u. no_nearer s.others_fail_at (t b u) in
      count_after unhoisted_item (declaration d) f (raised_on s.others_fail_at (declaration_on s.kind d (maturity_number s.maturity))) (fail_no_earlier r s.others_fail_at) q (sym (h.leaves d))
      (count_no_earlier unhoisted_item t f s.others_fail_at r s.next v (g.counts (record { kind = 0; place = 0; doc = d; maturity = (maturity_number s.maturity) })) refl);
})

-- An item is a declaration after its blanks, or else the blanks.
bind_same : {A B : Type 0} (m m' : Parser A) (k : A → Parser B) {b b' : ℕ} {u u' : List ℕ} → m b u ≡ m' b' u' → (m >>= k) b u ≡ (m' >>= k) b' u'
unfolding ◌>>=◌
bind_same m m' k e = rw (e, ◌>>=◌)

module _ (b : ℕ) (u : List ℕ) {d : Doc} {c : ℕ} {r : List ℕ} (h : whitespace0 b u ≡ ok d c r) where
  clear : whitespace0 c r ≡ ok no_doc c r
  clear = blank_clear b u d c r h

  cluster_after : parse_cluster b u ≡ after_maturity (cluster_after_doc_maturity d) c r
  unfolding parse_cluster after_maturity
  cluster_after = bind_ok _ _ h

  endpoint_after : endpoint b u ≡ endpoint c r
  unfolding endpoint endpoint_head
  endpoint_after = bind_same _ _ _ (then_ok _ _ h ∙ sym (then_ok _ _ clear))

  type_after : {A : Type 0} (f : Doc → ℕ → Parser A) → with_doc_maturity f b u ≡ after_maturity (f d) c r
  unfolding with_doc_maturity after_maturity
  type_after f = bind_ok _ _ h ∙ then_ok _ _ clear

  pub item_is : item b u ≡ ((λ x y. declaration d c r) or (whitespace1 >> ret blank_item)) b u
  unfolding item declaration
  item_is = assoc ∙ or_same _ _ _ _ same refl
    where
      same : (mapped parse_cluster cluster_item or (mapped endpoint endpoint_item or (mapped (with_doc_maturity parse_enum_after_doc_maturity) enum_item or (mapped (with_doc_maturity parse_bitmap_after_doc_maturity) bitmap_item or mapped (with_doc_maturity parse_struct_after_doc_maturity) struct_item)))) b u ≡ declaration d c r
      same = or_same _ _ _ _ (mapped_same _ _ _ cluster_after) (or_same _ _ _ _ (mapped_same _ _ _ endpoint_after) (or_same _ _ _ _ (mapped_same _ _ _ (type_after _)) (or_same _ _ _ _ (mapped_same _ _ _ (type_after _)) (mapped_same _ _ _ (type_after _)))))

      assoc : item b u ≡ ((mapped parse_cluster cluster_item or (mapped endpoint endpoint_item or (mapped (with_doc_maturity parse_enum_after_doc_maturity) enum_item or (mapped (with_doc_maturity parse_bitmap_after_doc_maturity) bitmap_item or mapped (with_doc_maturity parse_struct_after_doc_maturity) struct_item)))) or (whitespace1 >> ret blank_item)) b u
      assoc = or_same _ _ _ _ refl (or_same _ _ _ _ refl (or_same _ _ _ _ refl (or_assoc _ _ _ b u) ∙ or_assoc _ _ _ b u) ∙ or_assoc _ _ _ b u) ∙ or_assoc _ _ _ b u

-- a declaration fails no nearer than where it is
declaration_past : (d : Doc) (b : ℕ) (u : List ℕ) → Past b (declaration d b u)
unfolding declaration shift_item
declaration_past d b u = past_rest _ _ b u (past_first _ _ b u (moving_past {f = shift_item} (λ n. shift_mapped n endpoint_item endpoint_item (λ e. refl) (shift_endpoint_lem n)) b u))

pub declaration_walks : (d : Doc) → Onward (declaration d)
declaration_walks d = walks (declaration_local d).on_chain

pub item_walks : Onward item
item_walks = walks item_local.on_chain

-- blanks as an item: no words
blank_words : word_count layout (unhoisted_item blank_item) ≡ 0
unfolding item_records
blank_words = word_count_none

blank_read : (b : ℕ) (u : List ℕ) {c : ℕ} {r : List ℕ} {d : Doc} → whitespace1 b u ≡ ok d c r → (whitespace1 >> ret blank_item) b u ≡ ok blank_item c r
unfolding ret
blank_read b u e = then_ok _ _ e

or_blank : (b : ℕ) (u : List ℕ) {c p : ℕ} {r : List ℕ} {X : Reply Item} → X ≡ fail p → (whitespace1 >> ret blank_item) b u ≡ ok blank_item c r → ((λ i j. X) or (whitespace1 >> ret blank_item)) b u ≡ ok blank_item c r
unfolding no_nearer
or_blank b u {p = p} e f = or_fail _ _ e ∙ ap (no_nearer p) f

-- The first pass over an item, whose blanks are t.
module _ {b : ℕ} {u : List ℕ} {t : Blank} (w : BlankTo t b u) {v : List ℕ} (q : Rest b u t.next v) where
  abbrev d : Doc
  d = doc_of t.doc

  rest : List ℕ
  rest = drop (t.next - b) u

  whole : item b u ≡ ((λ i j. declaration d t.next rest) or (whitespace1 >> ret blank_item)) b u
  unfolding rest
  whole = item_is b u (sym w.reads)

  pub item_words : {n c : ℕ} → DeclarationCountTo (Ok (n, c)) t.next v → CountTo unhoisted_item item (Ok (n, c)) b u
  unfolding rest
  item_words {n} {c} h =
      let s = count_took (declaration_walks d) q (h.counts d) in
      count_after unhoisted_item item (declaration d) (declaration_walks d) (Ok (n, c)) q (s.step.goes ∙ (or_here _ _ b u s.value c (drop (c - b) u) (sym s.step.goes) ∙ sym whole)) (h.counts d)

  module _ {l : Lost} (h : DeclarationCountTo (Err l) t.next v) where
    lost_there : lost_reply l ≡ declaration d t.next rest
    unfolding rest
    lost_there = count_lost t.next v (h.counts d) ∙ ap (declaration d t.next) q.same

    -- no blanks: nothing is left to try
    pub item_lost : t.next ≡ b → CountTo unhoisted_item item (Err l) b u
    item_lost e =
        let z : whitespace1 b u ≡ fail b = sym (gap_none b u t w e) in
        let p : Past b (declaration d t.next rest) = subst (λ (n : ℕ). Past n (declaration d t.next rest)) e (declaration_past d t.next rest) in
        count_not unhoisted_item item b u l (lost_there ∙ (past_start b (declaration d t.next rest) p ∙ sym (whole ∙ or_keep _ _ (then_fail _ _ z))))

    -- the blanks are an item
    pub item_blank : (t.next ≡ b → ⊥) → {y : Read ℕ} → y ≡ count_end l 0 t.next → CountTo unhoisted_item item y b u
    item_blank n {y} f = rw f (go l lost_there)
      where
        blank : (whitespace1 >> ret blank_item) b u ≡ ok blank_item t.next (drop (t.next - b) u)
        blank = blank_read b u (sym (gap_some b u t w n))

        go : (l : Lost) → lost_reply l ≡ declaration d t.next rest → CountTo unhoisted_item item (count_end l 0 t.next) b u
        go =
            by_lost
            (λ l. lost_reply l ≡ declaration d t.next rest → CountTo unhoisted_item item (count_end l 0 t.next) b u)
            (λ p z. count_is unhoisted_item item b u blank_item 0 t.next blank_words (omega arith) (sym (whole ∙ or_blank b u (sym z) blank)))
            (λ i p z. count_not unhoisted_item item b u (Stop i p) (or_stop _ _ b u (number_of i) p z ∙ sym whole))

-- The second pass over a declaration: that of its kind.
pub nothing_found : (d : Doc) (m : ℕ) {k : DeclarationKind} → k ≡ NoDeclaration → (b : ℕ) (u : List ℕ) {at n : ℕ} → Room unhoisted_item (declaration_try k d m) b u at n → ⊥
unfolding declaration_try
nothing_found d m {k} e b u room = no_room room (Fail b) (sym (ap (λ (y : DeclarationKind). declaration_try y d m b u) e))

module _ (d : Doc) {s : DeclarationStart} {b : ℕ} {u v : List ℕ} (h : StartTo s b u) (q : Rest b u s.next v) {at : ℕ} where
  pub start_room : {n : ℕ} → Room unhoisted_item (declaration d) b u at n → Room unhoisted_item (declaration_try s.kind d (maturity_number s.maturity)) s.next v at n
  start_room room =
      let x = further_ok s.others_fail_at (declaration_try s.kind d (maturity_number s.maturity) s.next (drop (s.next - b) u)) (room.is ∙ h.leaves d) in
      let y = rest_is (declaration_on s.kind d (maturity_number s.maturity)) s.next room.next (drop (s.next - b) u) (drop (room.next - b) u) room.value (sym x) in
      record { value = room.value; next = room.next; is = rw q.same (rw (← y) x); fits = room.fits }

  pub start_written : {w : Wrote} {old new : List ℕ} → Written unhoisted_item (declaration_try s.kind d (maturity_number s.maturity)) s.next v at w old new → Written unhoisted_item (declaration d) b u at w old new
  start_written g =
      let t = took (declaration_on s.kind d (maturity_number s.maturity)) q g.is in
      record { value = g.value; is = ok_further s.others_fail_at (sym t.goes) ∙ sym (h.leaves d); place = g.place; bytes = g.bytes }
