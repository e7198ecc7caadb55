use native.Mathlib.Omega.{arith}
use Rattle.items.specs.inner.defaults.{default_of}
use Rattle.items.proofs.defaults.Laws.{number_small}
use Rattle.items.proofs.instances.Laws.{instance_put}
use Rattle.items.proofs.instances.put_attribute_instance.Goals as goal

pub overflow_mul-flags-2 : goal.overflow_mul-flags-2
overflow_mul-flags-2 c = omega (arith, number_small (default_of c.args.a.default), c.default_number.ensures, c.number.ensures)

pub overflow_add-flags : goal.overflow_add-flags
overflow_add-flags c = omega (arith, number_small (default_of c.args.a.default), c.default_number.ensures, c.number.ensures)

pub plain_word-word-requires : goal.plain_word-word-requires
plain_word-word-requires c = record { flags_bound = omega (arith, number_small (default_of c.args.a.default), c.default_number.ensures, c.number.ensures); name_in = c.requires.instance_in.named }

pub returns : goal.returns
returns c = instance_put c.args.a c.args.at _ _ _ _ c.args.out.now _ c.default_number.ensures c.number.ensures.value c.plain_word-word.ensures c.default_word.ensures c.put_words.ensures
