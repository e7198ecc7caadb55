-- What the readers and writers of clusters promise.
use Rattle.std.specs.Prelude.{ℕ, ◌-◌, List, [], ◌∷◌, ◌≡◌}
use Rattle.lexing.specs.reply.{Parser, ret, ◌>>=◌, ◌>>◌, catch, fail_at}
use Rattle.lexing.specs.answers.{ReadTo, NameIn, word_between, doc_of, Read}
use Rattle.items.specs.clusters.{Member, Cluster, ClusterHead as ClusterHeadOf, cluster_head, cluster_after_doc_maturity, cluster_members}
use Rattle.items.specs.records.{Record, member_records, cluster_records, at, value, documented, last_revision}
use Rattle.lexing.specs.buffers.{each}
use Rattle.items.specs.answers.{maturity_number, Front, CountsTo, Written}
use Rattle.items.specs.declared.clusters.ClusterHeadParts.{ClusterHeadParts}
use Rattle.lexing.specs.bytes.{byte}
use Rattle.lexing.specs.words.{tag}
use Rattle.lexing.specs.blanks.{whitespace0}
use Rattle.items.specs.entries.{where_missing}
use Rattle.items.specs.declared.writing.FrontParts.{FrontParts}
use Rattle.items.specs.declared.members.MembersWrote.{MembersWrote}
use Rattle.items.specs.inner.members.{unhoisted, wrote_to}

abbrev pub MembersCountTo : Parser (List Member) → Read ℕ → ℕ → List ℕ → Type 0
MembersCountTo m r b u = CountsTo {I = ℕ} (λ p. each (member_records (λ x. p))) (λ p. m) r b u

-- a cluster up to its braces
abbrev pub cluster_head_at : ℕ → List ℕ → ClusterHeadParts → ClusterHeadOf
cluster_head_at b u h = record { id = word_between b u h.name h.end; number = h.code }

abbrev pub ClusterHeadTo : Read ClusterHeadParts → ℕ → List ℕ → Type 0
ClusterHeadTo r b u = ReadTo cluster_head_at (λ b h c. NameIn b h.name h.end c) cluster_head r b u

-- a cluster's records before hoisting, which alone gives a type in a cluster another place than 0
abbrev pub unhoisted_records : Cluster → List Record
unhoisted_records c = cluster_records (λ m. 0) c

abbrev pub ClusterCountTo : Read ℕ → ℕ → List ℕ → Type 0
ClusterCountTo r b u = CountsTo {I = Front} (λ i. unhoisted_records) (λ i. cluster_after_doc_maturity i.doc i.maturity) r b u

-- members after their opening brace, with the closing one
unfoldable pub members_rest : Parser (List Member)
members_rest = do
  ms ← cluster_members
  catch (whitespace0 >> tag (byte "}")) (λ p. fail_at (where_missing ms p))
  ret ms

pub record MembersWritten (m : Parser (List Member)) (b : ℕ) (u : List ℕ) (at : ℕ) (w : MembersWrote) (old new : List ℕ) : Type 0 where
  pub written : Written (each unhoisted) m b u at (wrote_to w) old new
  pub latest : w.revision ≡ last_revision 0 written.value

-- the first record of a cluster, by offsets
abbrev pub cluster_first : FrontParts → ClusterHeadParts → ℕ → Record
cluster_first f h n = documented 1 0 (maturity_number f.maturity) (doc_of f.doc) [] (at h.name (h.end - h.name)) 0 0 (value h.code ∷ value n ∷ [])
