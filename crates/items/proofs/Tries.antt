-- Which tries a first word selects: where another keyword is, a declaration is not there and fails at its start.
use mathlib.Core.Path.{◌≡◌, refl, sym, ap, ◌∙◌}
use mathlib.Core.Logic.{inl}
use mathlib.Core.List.{List, [], ◌∷◌}
use Prim.Native.Nat.{ℕ}
use Rattle.lexing.specs.bytes.{ascii}
use Rattle.lexing.specs.reply.{ok, fail, Parser, ret, no_nearer}
use Rattle.lexing.specs.words.{Word, keyword, any_keyword}
use Rattle.lexing.specs.blanks.{Doc, no_doc, whitespace0}
use Rattle.lexing.specs.word_sets.{same_bytes, struct_set, event_set, command_set, attribute_set}
use Rattle.lexing.proofs.Sequences.{bind_ok, bind_fail, then_ok, then_fail}
use Rattle.lexing.proofs.Slicing.{or_here, or_next}
use Rattle.lexing.proofs.answers.Laws.{opt_fail}
use Rattle.lexing.proofs.FirstWord.{starts_of, StartsAny, starts_free, Frees, free_keywords, free_set}
use Rattle.items.specs.entries.{api_maturity, shared_before, choice_head, choice_after_doc_maturity}
use Rattle.items.specs.structs.{struct_head, parse_struct_after_doc_maturity}
use Rattle.items.specs.members.{event_priority, event_qualities, event_head, parse_event_after_doc_maturity, command_head, parse_command_after_doc_maturity, parse_attribute_after_doc_maturity}
use Rattle.items.specs.clusters.{mapped, parse_revision, side, cluster_head, cluster_after_doc_maturity}
use Rattle.items.specs.endpoints.{endpoint_head, endpoint}
use Rattle.items.specs.inner.member_kinds.{revision_starts, struct_starts, attribute_starts, command_starts, event_starts}
use Rattle.items.specs.inner.items.{cluster_starts}
use Rattle.items.proofs.Choice.{or_fail, or_both}

-- the words of maturities
abbrev pub maturity_words : List (List ℕ)
maturity_words = ascii "stable" ∷ ascii "provisional" ∷ ascii "internal" ∷ ascii "deprecated" ∷ []

pub mapped_fail : {A B : Type 0} (m : Parser A) (f : A → B) {b p : ℕ} {u : List ℕ} → m b u ≡ fail p → mapped m f b u ≡ fail p
unfolding mapped
mapped_fail m f e = bind_fail m (λ a. ret (f a)) e

-- Where `shared` is, no other word is: of the words before a struct it is the one.
module _ (b : ℕ) (u : List ℕ) {w : Word} {c : ℕ} {r : List ℕ} (k : keyword (ascii "shared") b u ≡ ok w c r) where
  pub starts_shared : StartsAny (ascii "shared" ∷ []) u
  starts_shared = record { first = ascii "shared"; among = inl refl; starts = starts_of (ascii "shared") b u w c r k }

  pub shared_any : any_keyword (ascii "request" ∷ ascii "response" ∷ ascii "shared" ∷ []) b u ≡ ok w c r
  unfolding any_keyword same_bytes
  shared_any =
      let f = starts_free starts_shared b (ascii "request" ∷ ascii "response" ∷ []) refl in
      sym (or_next _ _ b u b w c r (sym f.0) (or_next _ _ b u b w c r (sym f.1.0) (or_here _ _ b u w c r (sym k))))

-- Where none of its first words is, a declaration fails at its start.
module _ (b : ℕ) (u : List ℕ) where
  pub revision_elsewhere : Frees b u revision_starts → parse_revision b u ≡ fail b
  unfolding parse_revision
  revision_elsewhere f = then_fail _ _ f.0

  pub endpoint_elsewhere : whitespace0 b u ≡ ok no_doc b u → keyword (ascii "endpoint") b u ≡ fail b → endpoint b u ≡ fail b
  unfolding endpoint endpoint_head
  endpoint_elsewhere clear f = bind_fail _ _ (then_ok _ _ clear ∙ then_fail _ _ f)

  pub maturity_elsewhere : Frees b u maturity_words → api_maturity b u ≡ ok 0 b u
  unfolding api_maturity no_nearer ret
  maturity_elsewhere f = or_fail _ _ (then_fail _ _ f.0) ∙ ap (no_nearer b) (or_fail _ _ (then_fail _ _ f.1.0) ∙ ap (no_nearer b) (or_fail _ _ (then_fail _ _ f.1.1.0) ∙ ap (no_nearer b) (or_fail _ _ (then_fail _ _ f.1.1.1.0))))

  module _ (d : Doc) (m : ℕ) where
    pub cluster_elsewhere : Frees b u cluster_starts → cluster_after_doc_maturity d m b u ≡ fail b
    unfolding cluster_after_doc_maturity cluster_head side
    cluster_elsewhere f = bind_fail _ _ (then_ok _ _ (sym (opt_fail _ _ _ _ (sym (bind_fail _ _ (free_keywords b u _ (f.0, (f.1.0, tt))))))) ∙ then_fail _ _ f.1.1.0)

    pub choice_elsewhere : (j : List ℕ) → keyword (ascii "shared") b u ≡ fail b → keyword j b u ≡ fail b → choice_after_doc_maturity j d m b u ≡ fail b
    unfolding choice_after_doc_maturity choice_head shared_before
    choice_elsewhere j e f = bind_fail _ _ (bind_ok _ _ (sym (opt_fail _ _ _ _ (sym (bind_fail _ _ e)))) ∙ then_fail _ _ f)

    module _ (clear : whitespace0 b u ≡ ok no_doc b u) where
      pub struct_elsewhere : keyword (ascii "shared") b u ≡ fail b → Frees b u struct_starts → parse_struct_after_doc_maturity d m b u ≡ fail b
      unfolding parse_struct_after_doc_maturity struct_head struct_set
      struct_elsewhere e f =
          bind_fail _ _ (bind_ok _ _ (sym (opt_fail _ _ _ _ (sym (free_keywords b u _ (f.0, (f.1.0, (e, tt)))))))
          ∙ (then_ok _ _ clear ∙ (bind_ok _ _ (free_set b u _ (f.1.1.0, tt)) ∙ (then_ok _ _ clear ∙ then_fail _ _ f.1.1.1.0))))

      pub attribute_elsewhere : Frees b u attribute_starts → parse_attribute_after_doc_maturity d m b u ≡ fail b
      unfolding parse_attribute_after_doc_maturity attribute_set
      attribute_elsewhere f = bind_ok _ _ (free_set b u _ (f.0, (f.1.0, (f.1.1.0, (f.1.1.1.0, tt))))) ∙ (then_ok _ _ clear ∙ then_fail _ _ f.1.1.1.1.0)

      pub command_elsewhere : Frees b u command_starts → parse_command_after_doc_maturity d m b u ≡ fail b
      unfolding parse_command_after_doc_maturity command_head command_set
      command_elsewhere f = bind_fail _ _ (bind_ok _ _ (free_set b u _ (f.0, (f.1.0, tt))) ∙ (then_ok _ _ clear ∙ then_fail _ _ f.1.1.0))

      pub event_elsewhere : Frees b u event_starts → parse_event_after_doc_maturity d m b u ≡ fail b
      unfolding parse_event_after_doc_maturity event_head event_qualities event_priority event_set
      event_elsewhere f =
          bind_fail _ _ (bind_fail _ _ (bind_ok _ _ (free_set b u _ (f.0, tt)) ∙ (then_ok _ _ clear ∙ bind_fail _ _ (or_both _ _ (then_fail _ _ f.1.0)
          (or_both _ _ (then_fail _ _ f.1.1.0) (then_fail _ _ f.1.1.1.0))))))
