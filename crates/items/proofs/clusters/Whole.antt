-- Whole clusters: a side, the head, and both passes over the members between braces.
use Rattle.items.specs.declared.levels.Privilege.TheVariants.{View}
use Rattle.lexing.specs.declared.answers.LostBy.TheVariants.{Fail}
use Rattle.std.specs.Prelude.{Ok, Err}
use mathlib.Core.Path.{◌≡◌, refl, sym, ap, ◌∙◌, subst}
use mathlib.Core.Bool.{false}
use mathlib.Core.List.{List, [], ◌∷◌, ◌++◌}
use Prim.Native.Nat.{ℕ, ◌+◌, ◌-◌, ◌≤◌, ◌<◌, max}
use native.Mathlib.Omega.{arith}
use lib.ListN.{length, drop}
use Rattle.lexing.specs.bytes.{ascii}
use Rattle.lexing.specs.reply.{Reply, ok, fail, stop, Parser, ret, ◌>>◌, catch, fail_at, ◌or◌, no_nearer, opt, many0}
use Rattle.lexing.specs.words.{Word, keyword, any_keyword, tag}
use Rattle.lexing.specs.blanks.{Doc, whitespace0, whitespace1}
use Rattle.lexing.specs.answers.{Rest, word_at, word_reply, lost_reply, NameIn, Skips, SkipsAt, Read, Step, Lost}
use Rattle.lexing.proofs.Onward.{Onward}
use Rattle.lexing.proofs.Locality.{chain_ret, chain_bind, chain_then, chain_opt, chain_many0}
use Rattle.lexing.proofs.TokenLocality.{any_keyword_chain, whitespace0_chain}
use Rattle.lexing.proofs.FirstWord.{Frees, free_keywords}
use Rattle.lexing.proofs.Repetition.{before, many0_step, many0_stop, many0_ends}
use Rattle.lexing.proofs.words.Laws.{keyword_says}
use Rattle.lexing.proofs.Slicing.{Took, took, walks, or_here, begin, go, on, done, lose, fall, rest_self, rest_from}
use Rattle.lexing.proofs.Dropping.{skip_is, skip_not, no_word}
use Rattle.lexing.proofs.steps.Laws.{gap_at_took, skips_lost}
use Rattle.items.specs.entries.{enclosed, where_missing, braces, api_maturity, choice_after_doc_maturity, parse_enum_after_doc_maturity, parse_bitmap_after_doc_maturity}
use Rattle.items.specs.structs.{parse_struct_after_doc_maturity}
use Rattle.items.specs.members.{parse_event_after_doc_maturity, parse_command_after_doc_maturity, parse_attribute_after_doc_maturity}
use Rattle.items.specs.clusters.{Member, revision, bitmap, enum, struct, attribute, command, event, parse_revision, member_tries, parse_cluster_member, cluster_members, side, cluster_head, cluster_after_doc_maturity}
use Rattle.items.specs.records.{Record, at, value, word_extent, documented, choice_records, struct_records, attribute_records, event_records, member_records, last_revision, cluster_records}
use Rattle.lexing.specs.buffers.{each, words_bytes, put}
use Rattle.items.specs.layout.{packed, width, from_top, offset, size, layout, record_words, further_word, catalogue_words, catalogue_bytes, word_count}
use Rattle.items.specs.answers.{Front, front_of, Room, Written, first_of, doc_span_word, doc_span_bit, kind_number}
use Rattle.items.specs.inner.commands.{command_records}
use Rattle.items.specs.inner.members.{RevisionTo, member_after, unhoisted, MemberWritten, revision_wrote}
use Rattle.items.specs.inner.clusters.{cluster_head_at, unhoisted_records, members_rest, MembersWritten, cluster_first}
use Rattle.items.specs.inner.member_kinds.{is_ok, member_try, KindTo}
use Rattle.items.specs.declared.writing.FrontParts.{FrontParts}
use Rattle.items.specs.declared.writing.Wrote.{Wrote}
use Rattle.items.specs.declared.member_kinds.MemberKind.{MemberKind}
use Rattle.items.specs.declared.member_kinds.MemberKind.TheVariants.{Revision, Bitmap, Enum, Struct, Attribute, Command, Event, Unknown}
use Rattle.items.specs.declared.member_kinds.MemberStart.{MemberStart}
use Rattle.items.specs.declared.clusters.ClusterHeadParts.{ClusterHeadParts}
use Rattle.items.specs.declared.members.MembersWrote.{MembersWrote}
use Rattle.items.proofs.Keywords.{keyword_missing}
use Rattle.lexing.proofs.Composed.{onward_bind}
use Rattle.items.proofs.Headed.{Headed}
use Rattle.items.proofs.Choice.{further_ok, ok_further}
use Rattle.lexing.proofs.Sequences.{bind_ok, then_ok}
use Rattle.items.proofs.Tries.{maturity_words, maturity_elsewhere}
use Rattle.lexing.proofs.TextEnd.{brace_first, brace_keyword, brace_blank}
use Rattle.items.proofs.Braces.{Step as Taken, lost_not, ok_no_stop, rest_is, taken, then_value, follows, follows_with, close_took, close_lost, close_on, opened_room, opened_is}
use Rattle.items.proofs.RecordWords.{each_elementwise, word_count_none, catalogue_bytes_none}
use Rattle.items.specs.inner.runs.{Elementwise}
use Rattle.items.proofs.Locality.{braces_chain, api_maturity_local, member_tries_inside, parse_cluster_member_inside, parse_cluster_member_consumes, side_local, cluster_head_local}
use Rattle.items.proofs.WordBetween.{extent_between}
use Rattle.lexing.proofs.buffers.Laws.{put_nothing}
use Rattle.items.proofs.writing.Laws.{documented_bytes, no_room, Writing, writing_start, writing_start_seen, writing_same, writing_fits, writing_more, writing_more_seen}
use Rattle.items.proofs.Recorded.{Recorded, recorded_at, recorded_room, recorded_written}
use Rattle.items.proofs.member_kinds.Laws.{OtherWord, at_other, member_left}
use Rattle.items.proofs.members.Laws.{member_tries_on}
use Rattle.items.proofs.clusters.Laws.{members_on}
use Rattle.items.specs.declared.layout.Kind.TheVariants.{Cluster as a_cluster}

-- one of two keywords
module _ (k j : List ℕ) (b : ℕ) (u : List ℕ) where
  pub either_first : {c : ℕ} → word_reply (Ok c) b u ≡ keyword k b u → word_reply (Ok c) b u ≡ any_keyword (k ∷ j ∷ []) b u
  unfolding any_keyword
  either_first {c} h = or_here (keyword k) (any_keyword (j ∷ [])) b u (word_at b u c) c (drop (c - b) u) h

  -- the first is not there: it failed at b, so that the second decides
  pub either_second : (a : Step) (l : Lost) → word_reply (Err l) b u ≡ keyword k b u → word_reply a b u ≡ keyword j b u → word_reply a b u ≡ any_keyword (k ∷ j ∷ []) b u
  unfolding any_keyword ◌or◌ no_nearer
  either_second a l h h' = go (keyword j b u) refl
    where
      f : keyword k b u ≡ fail b
      f = sym (keyword_missing k b u l h)

      go : (x : Reply Word) → keyword j b u ≡ x → word_reply a b u ≡ any_keyword (k ∷ j ∷ []) b u
      go (ok w c r) z = h' ∙ rw (f, z, any_keyword, ◌or◌) refl
      go (fail p) z =
          let y : p ≡ b = rw z at (keyword_says j b u) in
          let m : p ≡ max b (max p b) = omega (arith, y) in
          h' ∙ (z ∙ (ap fail m ∙ rw (f, z, any_keyword, ◌or◌) refl))
      go (stop n p) z = absurd (rw z at (keyword_says j b u))

-- the word of a side, and the gap after it
abbrev sides : List (List ℕ)
sides = ascii "client" ∷ ascii "server" ∷ []

module _ {b : ℕ} {u : List ℕ} where
  pub side_word : {c : ℕ} → word_reply (Ok c) b u ≡ any_keyword sides b u → Took (any_keyword sides) b u b (word_at b u c) c
  side_word h = took (walks (any_keyword_chain sides)) (rest_self b u) h

  pub side_not : {l : Lost} → word_reply (Err l) b u ≡ any_keyword sides b u → Skips side (Err l) b u
  unfolding side
  side_not {l} h = skip_not side no_word l b u (begin side b u (lose _ _ l (rest_self b u) h))

  pub side_is : {c : ℕ} → word_reply (Ok c) b u ≡ any_keyword sides b u → (r : Step) → SkipsAt whitespace1 r b u c → Skips side r b u
  unfolding side
  side_is h (Ok d) k = skip_is side _ b d u (begin side b u (go _ (side_word h) (on _ (gap_at_took k) (done _ _ _ _))))
  side_is h (Err l) k = skip_not side no_word l b u (begin side b u (go _ (side_word h) (fall _ _ l k.at (skips_lost k))))

pub side_on : Onward (opt side)
side_on = walks (chain_opt side_local.on_chain)

pub cluster_head_on : Onward cluster_head
cluster_head_on = walks cluster_head_local.on_chain

pub braced_members_on : Onward (braces cluster_members)
unfolding cluster_members
braced_members_on = walks (braces_chain (chain_many0 parse_cluster_member_inside.on_chain))

-- four words a cluster, and those of its members
pub cluster_headed : Headed {I = Front} (λ i. cluster_after_doc_maturity i.doc i.maturity) (λ i. unhoisted_records) cluster_head (braces cluster_members) (each (member_records (λ x. 0))) 4
unfolding cluster_after_doc_maturity word_count catalogue_words each record_words layout cluster_records documented
cluster_headed = record {
  make = λ i h l. record { doc = i.doc; maturity = i.maturity; name = h.id; code = h.number; members = l };
  first = λ i h l. documented 1 0 i.maturity i.doc [] (word_extent h.id) 0 0 (value h.number ∷ value (last_revision 0 l) ∷ []);
  reads = λ i. refl;
  hands = λ i h l. refl;
  size = λ i h l. refl;
}

-- The second pass.

-- a kind of member that has records: its reader, with the records that are handed out; it is no revision
pub record Kind {B : Type 0} (k : MemberKind) (d : Doc) (m : ℕ) (p : Parser B) (f : B → List Record) : Type 0 where
  pub recorded : Recorded unhoisted (member_try k d m) f p
  pub keeps : (z : ℕ) (x : B) → last_revision z (recorded.make x ∷ []) ≡ z

module _ (d : Doc) (m : ℕ) where
  pub bitmaps : Kind Bitmap d m (choice_after_doc_maturity (ascii "bitmap") d m) (choice_records 3 0)
  unfolding member_try parse_bitmap_after_doc_maturity member_records last_revision
  bitmaps = record { recorded = record { make = bitmap; reads = refl; hands = refl }; keeps = λ z x. refl }

  pub enums : Kind Enum d m (choice_after_doc_maturity (ascii "enum") d m) (choice_records 2 0)
  unfolding member_try parse_enum_after_doc_maturity member_records last_revision
  enums = record { recorded = record { make = enum; reads = refl; hands = refl }; keeps = λ z x. refl }

  pub structs : Kind Struct d m (parse_struct_after_doc_maturity d m) (struct_records 0)
  unfolding member_try member_records last_revision
  structs = record { recorded = record { make = struct; reads = refl; hands = refl }; keeps = λ z x. refl }

  pub attributes : Kind Attribute d m (parse_attribute_after_doc_maturity d m) attribute_records
  unfolding member_try member_records last_revision
  attributes = record { recorded = record { make = attribute; reads = refl; hands = refl }; keeps = λ z x. refl }

  pub commands : Kind Command d m (parse_command_after_doc_maturity d m) command_records
  unfolding member_try member_records last_revision
  commands = record { recorded = record { make = command; reads = refl; hands = refl }; keeps = λ z x. refl }

  pub events : Kind Event d m (parse_event_after_doc_maturity d m) event_records
  unfolding member_try member_records last_revision
  events = record { recorded = record { make = event; reads = refl; hands = refl }; keeps = λ z x. refl }

module _ {B : Type 0} {k : MemberKind} {d : Doc} {m : ℕ} {p : Parser B} {f : B → List Record} (i : Kind k d m p f) {x : MemberKind} (e : x ≡ k) (b : ℕ) (u : List ℕ) where
  abbrev as_kind : Recorded unhoisted (member_try x d m) f p
  as_kind = recorded_at (ap (λ (y : MemberKind). member_try y d m) e) i.recorded

  pub kind_room : {at n : ℕ} → Room unhoisted (member_try x d m) b u at n → Room f p b u at n
  kind_room room = recorded_room as_kind room

  pub kind_written : (z : ℕ) {at : ℕ} {w : Wrote} {r : MembersWrote} {old new : List ℕ} → Written f p b u at w old new → r ≡ record { next = w.next; to = w.to; revision = z } → MemberWritten z (member_try x d m) b u at r old new
  unfolding recorded_written
  kind_written z {at} {w} {r} {old} {new} h y =
      let s : MemberWritten z (member_try x d m) b u at (record { next = w.next; to = w.to; revision = z }) old new = record { written = recorded_written as_kind h; latest = sym (i.keeps z h.value) } in
      subst (λ (o : MembersWrote). MemberWritten z (member_try x d m) b u at o old new) (sym y) s

-- a revision: no records, and it is the last one now
module _ (d : Doc) (m : ℕ) {x : MemberKind} (e : x ≡ Revision) (b : ℕ) (u : List ℕ) where
  revision_is : member_try x d m b u ≡ parse_revision b u
  unfolding member_try
  revision_is = ap (λ (y : MemberKind). member_try y d m b u) e

  revision_written : (z : ℕ) {n c at : ℕ} {old : List ℕ} → RevisionTo (Ok (n, c)) b u → MemberWritten z (member_try x d m) b u at (record { next = c; to = at; revision = n }) old old
  unfolding member_records last_revision
  revision_written z {n} {c} {at} {old} h =
      record {
        written = record { value = revision n; is = h.reads ∙ sym revision_is; place = omega (arith, word_count_none); bytes = sym (rw (catalogue_bytes_none layout) (put_nothing at old)) };
        latest = refl;
      }

  pub revision_left : (z : ℕ) (a : Read ℕ) {at n : ℕ} {old : List ℕ} {w : MembersWrote} → Room unhoisted (member_try x d m) b u at n → RevisionTo a b u → w ≡ revision_wrote a b at z → MemberWritten z (member_try x d m) b u at w old old
  revision_left z (Ok (i, c)) room h y = rw y (revision_written z h)
  revision_left z (Err l) room h y = absurd (no_room room l (h.reads ∙ sym revision_is))

-- no member at all
pub unknown_found : (d : Doc) (m : ℕ) {x : MemberKind} → x ≡ Unknown → (b : ℕ) (u : List ℕ) {at n : ℕ} → Room unhoisted (member_try x d m) b u at n → ⊥
unfolding member_try
unknown_found d m {x} e b u room = no_room room (Fail b) (sym (ap (λ (y : MemberKind). member_try y d m b u) e))

-- the tries of a member by that of its kind
module _ {k : MemberStart} {b : ℕ} {u : List ℕ} (h : KindTo k b u) (d : Doc) (m : ℕ) where
  pub left_room : {at n : ℕ} → Room unhoisted (member_tries d m) b u at n → Room unhoisted (member_try k.kind d m) b u at n
  left_room room = record { value = room.value; next = room.next; is = further_ok k.others_fail_at (member_try k.kind d m b u) (room.is ∙ member_left h d m); fits = room.fits }

  left_is : {v : Member} {c : ℕ} {r : List ℕ} → ok v c r ≡ member_try k.kind d m b u → ok v c r ≡ member_tries d m b u
  left_is e = ok_further k.others_fail_at e ∙ sym (member_left h d m)

-- a member after the blanks before it
module _ (d : Doc) {b : ℕ} {u : List ℕ} {m c₁ : ℕ} (t₁ : Took api_maturity b u b m c₁) {e : Doc} {c₂ : ℕ} (t₂ : Took whitespace0 b u c₁ e c₂) {r : List ℕ} (q : Rest b u c₂ r) where
  pub after_room : {at n : ℕ} → Room unhoisted (member_after d) b u at n → Room unhoisted (member_tries d m) c₂ r at n
  unfolding member_after
  after_room room =
      let y : ok room.value room.next (drop (room.next - b) u) ≡ member_after d b (drop (b - b) u) = room.is ∙ ap (member_after d b) (rest_self b u).same in
      let x = follows (member_tries d m) t₂ (follows_with (λ m. whitespace0 >> member_tries d m) t₁ y) in
      let s = rest_is (member_tries_on d m) c₂ room.next (drop (c₂ - b) u) (drop (room.next - b) u) room.value (sym x) in
      record { value = room.value; next = room.next; is = rw q.same (rw (← s) x); fits = room.fits }

  pub after_written : {k : MemberStart} → KindTo k c₂ r → {z at : ℕ} {w : MembersWrote} {old new : List ℕ} → MemberWritten z (member_try k.kind d m) c₂ r at w old new → MemberWritten z (member_after d) b u at w old new
  unfolding member_after
  after_written {k} h {z} {at} {w} g =
      let o = g.written in
      let t = took (member_tries_on d m) q (left_is h d m o.is) in
      record { written = record { value = o.value; is = begin (member_after d) b u (go _ t₁ (on _ t₂ (sym t.goes))); place = o.place; bytes = o.bytes }; latest = g.latest }

member_after_on : (d : Doc) → Onward (member_after d)
unfolding member_after
member_after_on d = walks (chain_bind api_maturity_local.on_chain (λ m. chain_then whitespace0_chain (member_tries_inside d m).on_chain))

-- where a closing brace is, there is no member
module _ (b : ℕ) (u : List ℕ) where
  brace_frees : (js : List (List ℕ)) → Frees b (125 ∷ u) js
  brace_frees [] = tt
  brace_frees (j ∷ js) = (brace_keyword b u j, brace_frees js)

  brace_starts : (js : List (List ℕ)) → is_ok (any_keyword js b (125 ∷ u)) ≡ false
  brace_starts js = ap is_ok (free_keywords b (125 ∷ u) js (brace_frees js))

  brace_tries : (d : Doc) (m : ℕ) → member_tries d m b (125 ∷ u) ≡ fail b
  unfolding member_try no_nearer
  brace_tries d m =
      let other : OtherWord b (125 ∷ u) = record { revision = brace_starts _; bitmap = brace_starts _; enum = brace_starts _; struct = brace_starts _; attribute = brace_starts _; command = brace_starts _; event = brace_starts _ } in
      let z : max b b ≡ b = omega arith in
      member_left (at_other b (125 ∷ u) (brace_blank b u) other (brace_keyword b u (ascii "shared"))) d m ∙ ap fail z

  brace_maturity : api_maturity b (125 ∷ u) ≡ ok 0 b (125 ∷ u)
  brace_maturity = maturity_elsewhere b (125 ∷ u) (brace_frees maturity_words)

  brace_member : (d : Doc) → member_after d b (125 ∷ u) ≡ fail b
  unfolding member_after
  brace_member d = bind_ok _ _ brace_maturity ∙ (then_ok _ _ (brace_blank b u) ∙ brace_tries d 0)

-- A loop that writes members: their records are in the buffer, and the last revision so far is known.
pub record MembersPlacing (b : ℕ) (u : List ℕ) (c at : ℕ) (old new : List ℕ) (to z : ℕ) : Type 0 where
  pub writing : Writing (each unhoisted) parse_cluster_member b u c at old new to
  pub latest : z ≡ last_revision 0 writing.seen

latest_more : (z : ℕ) (l : List Member) (a : Member) → last_revision z (l ++ (a ∷ [])) ≡ last_revision (last_revision z l) (a ∷ [])
unfolding last_revision
latest_more z [] a = refl
latest_more z (revision n ∷ l) a = latest_more n l a
latest_more z (bitmap x ∷ l) a = latest_more z l a
latest_more z (enum x ∷ l) a = latest_more z l a
latest_more z (struct x ∷ l) a = latest_more z l a
latest_more z (attribute x ∷ l) a = latest_more z l a
latest_more z (command x ∷ l) a = latest_more z l a
latest_more z (event x ∷ l) a = latest_more z l a

module _ (b : ℕ) (u : List ℕ) (at : ℕ) (old : List ℕ) (room : Room (each unhoisted) members_rest b u at (length old)) where
  abbrev close : List Member → Parser (List Member)
  close l = catch (whitespace0 >> tag 125) (λ p. fail_at (where_missing l p)) >> ret l

  -- the whole text, taken apart: the members, and the closing brace after them
  whole : Taken (many0 parse_cluster_member) close room.value room.next (drop (room.next - b) u) b u
  unfolding members_rest cluster_members
  whole = taken cluster_members close members_on room.value room.next (drop (room.next - b) u) b u room.is

  whole_is : room.value ≡ whole.value
  whole_is = then_value (catch (whitespace0 >> tag 125) (λ p. fail_at (where_missing whole.value p))) whole.value room.value room.next (drop (room.next - b) u) whole.next (drop (whole.next - b) u) whole.then

  all : Room (each unhoisted) (many0 parse_cluster_member) b u at (length old)
  all = record { value = whole.value; next = whole.next; is = whole.is; fits = rw (← whole_is) room.fits }

  abbrev one : Elementwise (each unhoisted) unhoisted
  one = each_elementwise unhoisted

  pub placing_start : MembersPlacing b u b at old old at 0
  unfolding last_revision
  placing_start = record { writing = writing_start one parse_cluster_member b u at old all; latest = sym (ap (last_revision 0) (writing_start_seen one parse_cluster_member b u at old all)) }

  module _ {c : ℕ} {new : List ℕ} {to z : ℕ} (i : MembersPlacing b u c at old new to z) where
    pub placing_same : length new ≡ length old
    placing_same = writing_same one parse_cluster_member b u at old all i.writing

    here : Rest b u c (drop (c - b) u)
    here = rest_from b c u i.writing.run.from i.writing.run.inside

    module _ {d : Doc} {s : ℕ} (t : Took whitespace0 b u c d s) where
      member_is : parse_cluster_member c (drop (c - b) u) ≡ member_after d s (drop (s - b) u)
      unfolding parse_cluster_member member_after
      member_is = sym (go (λ d. member_after d) t refl)

      module _ {r : List ℕ} (q : Rest b u s r) where
        member_took : {a : Member} {n : ℕ} → ok a n (drop (n - s) r) ≡ member_after d s r → Took parse_cluster_member b u c a n
        member_took g = let y = took (member_after_on d) q g in record { goes = member_is ∙ y.goes; up = omega (arith, t.up, y.up); inside = y.inside }

        member_lost : (l : Lost) → lost_reply l ≡ member_after d s r → lost_reply l ≡ parse_cluster_member c (drop (c - b) u)
        member_lost l e = e ∙ (ap (member_after d s) q.same ∙ sym member_is)

        -- without the closing brace there is a member, and room for it
        pub placing_room : (l : Lost) {r' : List ℕ} → Rest b u s r' → lost_reply l ≡ tag 125 s r' → Room unhoisted (member_after d) s r to (length new)
        placing_room l q' e = find (member_after d s r) refl
          where
            find : (x : Reply Member) → member_after d s r ≡ x → Room unhoisted (member_after d) s r to (length new)
            find (ok a n r'') y =
                let k = rest_is (member_after_on d) s n r r'' a y in
                let g : ok a n (drop (n - s) r) ≡ member_after d s r = rw (← k) (sym y) in
                record { value = a; next = n; is = g; fits = (writing_fits one parse_cluster_member b u at old all i.writing parse_cluster_member_consumes (member_took g) (word_count layout (unhoisted a)) refl).0 }
            find (fail p) y =
                let k = whole.is ∙ many0_ends parse_cluster_member_consumes (Fail p) i.writing.run here (member_lost (Fail p) (sym y)) in
                let n : whole.next ≡ c = cc in
                let g : lost_reply l ≡ close whole.value c (drop (c - b) u) = fall _ _ l here (close_lost t whole.value l q' e) in
                absurd (lost_not whole.then l (subst (λ (o : ℕ). lost_reply l ≡ close whole.value o (drop (o - b) u)) (sym n) g))
            find (stop n p) y =
                let k = many0_stop parse_cluster_member parse_cluster_member_consumes c (drop (c - b) u) n p (member_is ∙ (ap (member_after d s) (sym q.same) ∙ y)) in
                absurd (ok_no_stop whole.is (sym (i.writing.run.left ∙ ap (before i.writing.seen) k)))

        -- a turn
        pub placing_more : {w : MembersWrote} {new' : List ℕ} → MemberWritten z (member_after d) s r to w new new' → MembersPlacing b u w.next at old new' w.to w.revision × ((c < w.next) × (w.next ≤ b + length u))
        placing_more {w} {new'} g =
            let o = g.written in
            let h = member_took o.is in
            let n = word_count layout (unhoisted o.value) in
            let x = writing_more one parse_cluster_member b u at old all i.writing parse_cluster_member_consumes h n refl new' o.bytes in
            let v = writing_more_seen one parse_cluster_member b u at old all i.writing parse_cluster_member_consumes h n refl new' o.bytes in
            let y : w.revision ≡ last_revision 0 (i.writing.seen ++ (o.value ∷ [])) = g.latest ∙ (ap (λ (n : ℕ). last_revision n (o.value ∷ [])) i.latest ∙ sym (latest_more 0 i.writing.seen o.value)) in
            let k = many0_step parse_cluster_member_consumes i.writing.run h in
            (subst (λ (n : ℕ). MembersPlacing b u w.next at old new' n w.revision) (sym o.place) (record { writing = x; latest = y ∙ ap (last_revision 0) (sym v) }), (k.1, k.0.inside))

      -- the closing brace
      pub placing_ends : {e : ℕ} → Took (tag 125) b u s tt e → MembersWritten members_rest b u at (record { next = e; to = to; revision = z }) old new
      unfolding members_rest cluster_members
      placing_ends {e} k =
          let y = brace_first s (drop (s - b) u) (sym k.goes) in
          let f : fail s ≡ parse_cluster_member c (drop (c - b) u) = sym (member_is ∙ (ap (member_after d s) y.1 ∙ brace_member s y.0 d)) in
          let g : Took cluster_members b u b i.writing.seen c = took members_on (rest_self b u) (sym (many0_ends parse_cluster_member_consumes (Fail s) i.writing.run here f)) in
          record {
            written = record { value = i.writing.seen; is = begin members_rest b u (go _ g (on _ (close_took t _ k) (done i.writing.seen b e u))); place = i.writing.place; bytes = i.writing.bytes };
            latest = i.latest;
          }

-- members between braces
members_rest_on : Onward members_rest
unfolding members_rest ◌>>◌
members_rest_on = onward_bind members_on λ l. onward_bind (close_on l) λ x. walks (chain_ret l)

module _ {b : ℕ} {u : List ℕ} {c : ℕ} (t : Took (tag 123) b u b tt c) {r : List ℕ} (q : Rest b u c r) {at : ℕ} where
  pub members_room : {n : ℕ} → Room (each unhoisted) (braces cluster_members) b u at n → Room (each unhoisted) members_rest c r at n
  unfolding braces enclosed members_rest
  members_room room = opened_room members_rest_on t q room

  pub members_written : {w : MembersWrote} {old new : List ℕ} → MembersWritten members_rest c r at w old new → MembersWritten (braces cluster_members) b u at w old new
  unfolding braces enclosed members_rest
  members_written h = let o = h.written in record { written = record { value = o.value; is = opened_is members_rest_on t q o.is; place = o.place; bytes = o.bytes }; latest = h.latest }

-- the first record
pub cluster_first_put : (f : FrontParts) (h : ClusterHeadParts) (n p v a o : ℕ) (l l₁ : List ℕ) → v ≡ doc_span_bit f.doc
    → a ≡ first_of (record { kind = kind_number a_cluster; place = 0; maturity = f.maturity; doc_present = v; flags = 0; name = h.name; name_length = h.end - h.name; first_privilege = View; second_privilege = View }) → o ≡ doc_span_word f.doc
    → l₁ ≡ put p (words_bytes (a ∷ o ∷ h.code ∷ n ∷ [])) l → l₁ ≡ put p (catalogue_bytes layout (cluster_first f h n ∷ [])) l
unfolding further_word offset size from_top packed width
cluster_first_put f h n p v a o l l₁ d w b e₁ =
    rw (documented_bytes a_cluster 0 f.maturity f.doc [] (at h.name (h.end - h.name)) View View (value h.code ∷ value n ∷ []) 0 refl, ← d) (rw (w, b) at e₁)

pub cluster_first_is : (f : FrontParts) (b : ℕ) (u : List ℕ) (h : ClusterHeadParts) (n : ℕ) {c : ℕ} (l : List Member) → NameIn b h.name h.end c → c ≤ b + length u → n ≡ last_revision 0 l → cluster_first f h n ≡ cluster_headed.first (front_of f) (cluster_head_at b u h) l
unfolding cluster_headed
cluster_first_is f b u h n l w i e = rw (extent_between b u h.name h.end w.from w.up (omega (arith, w.inside, i)), e)
