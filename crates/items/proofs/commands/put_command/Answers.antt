use mathlib.Core.Path.{refl}
use lib.Dec.{ltb}
use native.Mathlib.Omega.{arith}
use Rattle.items.proofs.writing.Laws.{bit_small, documented_fits, front_kept}
use Rattle.items.proofs.commands.Laws.{command_put}
use Rattle.items.proofs.commands.put_command.Goals as goal
use Rattle.items.specs.declared.layout.Kind.TheVariants.{Command as a_command}

pub overflow_mul-first-2 : goal.overflow_mul-first-2
overflow_mul-first-2 c = omega (arith, bit_small (ltb c.args.p.types.input c.args.p.types.input_end), c.flag.ensures)

pub overflow_add-first : goal.overflow_add-first
overflow_add-first c = omega (arith, bit_small (ltb c.args.p.types.input c.args.p.types.input_end), c.flag.ensures, c.requires.command_between.head.qualities)

pub put_documented-requires-clause-fits : goal.put_documented-requires-clause-fits
put_documented-requires-clause-fits c = documented_fits (record { kind = a_command; place = 0; doc = c.args.front.doc; maturity = c.args.front.maturity }) (front_kept c.args.front c.requires.front_fits refl) c.doc_bit.ensures (omega (arith, bit_small (ltb c.args.p.types.input c.args.p.types.input_end), c.flag.ensures, c.requires.command_between.head.qualities)) (omega (arith, c.requires.command_between.head.name_to, c.requires.command_between.types.input_from, c.requires.command_between.types.input_to, c.requires.command_between.types.output_from, c.requires.command_between.types.output_to, c.requires.command_between.types)) (omega (arith, c.requires.command_between.head.name_to, c.requires.command_between.types.input_from, c.requires.command_between.types.input_to, c.requires.command_between.types.output_from, c.requires.command_between.types.output_to, c.requires.command_between.types))

pub returns : goal.returns
returns c = command_put c.args.front c.args.p c.args.at _ _ _ _ c.args.out.now _ _ c.requires.command_kind_in_bounds c.doc_bit.ensures c.flag.ensures c.put_documented.ensures c.optional_span_word-input.ensures c.span_word-output.ensures c.put_words.ensures
