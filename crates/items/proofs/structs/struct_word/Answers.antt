use native.Mathlib.Omega.{arith}
use mathlib.Core.Path.{◌≡◌, refl, sym, ap, ◌∙◌}
use Rattle.lexing.specs.bytes.{lower}
use Rattle.items.proofs.structs.Laws.{request_kind, response_kind, shared_fits, word_shared, word_unshared, request_left, response_left}
use Rattle.items.proofs.structs.struct_word.Goals as goal

pub kind_by-kind-requires : goal.kind_by-kind-requires
kind_by-kind-requires c = shared_fits c.requires.struct_from c.if-base-from.true

pub returns-then-base-from : goal.returns-then-base-from
returns-then-base-from c = word_shared c.requires.struct_from c.if-base-from.true c.kind_by-kind.ensures

pub struct_word_by-requires : goal.struct_word_by-requires
struct_word_by-requires c = record { part_bound = c.requires.part_bound; key_value = request_kind; key_value_2 = refl }

pub struct_word_by-requires-in_default : goal.struct_word_by-requires-in_default
struct_word_by-requires-in_default c = record { part_bound = c.requires.part_bound; key_value = response_kind; key_value_2 = refl }

pub returns-in-113 : goal.returns-in-113
returns-in-113 c = request_left (word_unshared c.requires.struct_from c.if-base-from.false) ((ap lower (sym c.peek.ensures) ∙ sym c.lower_of-x.ensures) ∙ c.in-113.is) c.struct_word_by.ensures

pub returns-in_default : goal.returns-in_default
returns-in_default c = response_left (word_unshared c.requires.struct_from c.if-base-from.false) (λ e. let x : c.lower_of-x.result ≡ 113 → ⊥ = omega arith in x (sym (ap lower (sym c.peek.ensures) ∙ sym c.lower_of-x.ensures) ∙ e)) c.struct_word_by-in_default.ensures
