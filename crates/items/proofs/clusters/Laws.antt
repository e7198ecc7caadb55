-- The members of a cluster, counted.
use Rattle.std.specs.Prelude.{Ok, Err}
use mathlib.Core.Path.{◌≡◌}
use mathlib.Core.List.{List}
use Prim.Native.Nat.{ℕ, ◌+◌, ◌-◌, ◌*◌, ◌≤◌, ◌<◌}
use lib.ListN.{length}
use Rattle.lexing.specs.answers.{Rest, Read, Lost}
use Rattle.lexing.proofs.Slicing.{walks}
use Rattle.lexing.proofs.Onward.{Onward}
use Rattle.lexing.proofs.Locality.{chain_many0}
use Rattle.items.specs.clusters.{parse_cluster_member, cluster_members}
use Rattle.items.specs.records.{member_records}
use Rattle.lexing.specs.buffers.{each}
use Rattle.items.specs.answers.{count_end}
use Rattle.items.specs.inner.members.{MemberCountTo}
use Rattle.items.specs.inner.clusters.{MembersCountTo}
use Rattle.items.proofs.RecordWords.{each_elementwise}
use Rattle.items.proofs.counts.Laws.{Counting, counting_start, counting_more, counting_ends, count_took, count_lost}
use Rattle.items.proofs.Locality.{parse_cluster_member_inside, parse_cluster_member_consumes}
use Rattle.items.proofs.members.Laws.{parse_member_on}

pub members_on : Onward cluster_members
unfolding cluster_members
members_on = walks (chain_many0 parse_cluster_member_inside.on_chain)

pub record MembersAt (b : ℕ) (u : List ℕ) (c n : ℕ) : Type 0 where
  pub at : (p : ℕ) → Counting (each (member_records (λ x. p))) parse_cluster_member b u c n

pub members_start : (b : ℕ) (u : List ℕ) → MembersAt b u b 0
members_start b u = record { at = λ p. counting_start (each_elementwise (member_records (λ x. p))) parse_cluster_member b u }

module _ {b : ℕ} {u : List ℕ} {c n : ℕ} (i : MembersAt b u c n) {r : List ℕ} (q : Rest b u c r) where
  module _ {k d : ℕ} (h : MemberCountTo parse_cluster_member (Ok (k, d)) c r) where
    turn : (p : ℕ) → Counting (each (member_records (λ x. p))) parse_cluster_member b u d (n + k) × (c < d)
    turn p =
        let s = count_took parse_member_on q (h.counts p) in
        counting_more (each_elementwise (member_records (λ x. p))) parse_cluster_member parse_cluster_member_consumes s.value (i.at p) s.step s.words (λ z. s.few)

    pub members_more : MembersAt b u d (n + k)
    members_more = record { at = λ p. (turn p).0 }

    pub members_on_turn : (c < d) × ((d ≤ b + length u) × (k ≤ 8 * (d - c)))
    members_on_turn = let t = turn 0 in (t.1, (t.0.run.inside, (count_took parse_member_on q (h.counts 0)).few))

  pub members_end : {l : Lost} → MemberCountTo parse_cluster_member (Err l) c r → {x : Read ℕ} → x ≡ count_end l n c → MembersCountTo cluster_members x b u
  unfolding cluster_members
  members_end {l} h z = record { counts = λ p. counting_ends parse_cluster_member_consumes l (i.at p) q (count_lost c r (h.counts p)) z }
