-- What the readers and writers of members promise.
use Rattle.std.specs.Prelude.{ℕ, List, [], ◌∷◌, ◌≡◌, Ok, Err}
use Rattle.lexing.specs.reply.{Parser, ◌>>=◌, ◌>>◌}
use Rattle.lexing.specs.answers.{ReadTo, Read}
use Rattle.items.specs.clusters.{Member, revision, parse_revision, member_tries}
use Rattle.items.specs.records.{Record, member_records, last_revision}
use Rattle.items.specs.answers.{CountsTo, Written}
use Rattle.lexing.specs.blanks.{Doc, whitespace0}
use Rattle.items.specs.entries.{api_maturity}
use Rattle.items.specs.declared.writing.Wrote.{Wrote}
use Rattle.items.specs.declared.members.MembersWrote.{MembersWrote}

-- a revision
abbrev pub RevisionTo : Read ℕ → ℕ → List ℕ → Type 0
RevisionTo r b u = ReadTo (λ b u n. revision n) (λ b n c. Unit {0}) parse_revision r b u

-- the count of a member, whatever the place of types
abbrev pub MemberCountTo : Parser Member → Read ℕ → ℕ → List ℕ → Type 0
MemberCountTo m r b u = CountsTo {I = ℕ} (λ p. member_records (λ x. p)) (λ p. m) r b u

-- The second pass.

-- a member after the blanks before it, which hold its doc comment
unfoldable pub member_after : Doc → Parser Member
member_after d = do
  m ← api_maturity
  whitespace0
  member_tries d m

-- records of members before hoisting
abbrev pub unhoisted : Member → List Record
unhoisted = member_records (λ x. 0)

abbrev pub wrote_to : MembersWrote → Wrote
wrote_to w = record { next = w.next; to = w.to }

-- a member is written, and z was the last revision before it
pub record MemberWritten (z : ℕ) (m : Parser Member) (b : ℕ) (u : List ℕ) (at : ℕ) (w : MembersWrote) (old new : List ℕ) : Type 0 where
  pub written : Written unhoisted m b u at (wrote_to w) old new
  pub latest : w.revision ≡ last_revision z (written.value ∷ [])

-- what a revision at b leaves, with the place p of its records and z the last one before it: no records, and it is the last one now
abbrev pub revision_wrote : Read ℕ → (b p z : ℕ) → MembersWrote
revision_wrote (Ok r) b p z = record { next = r.1; to = p; revision = r.0 }
revision_wrote (Err l) b p z = record { next = b; to = p; revision = z }
