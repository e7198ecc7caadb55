use native.Mathlib.Omega.{arith}
use Rattle.items.specs.layout.{total, layout}
use Rattle.items.specs.stored.{field_number, same_field, below, placed}
use Rattle.items.proofs.records.Laws.{place_in, word_less}
use Rattle.items.proofs.records.set_place.Goals as goal

pub overflow_add-w : goal.overflow_add-w
overflow_add-w c = omega (arith, word_less c.args.out.now (λ i. omega (arith, c.slice_known-1.given i)) c.args.at c.requires.at_in_bounds, place_in c.args.out.now c.args.at, c.requires.at_value, c.word_at-w.ensures)

pub returns : goal.returns
unfolding placed below same_field field_number total layout
returns c = rw c.from.ensures at (rw c.word_at-w.ensures at c.put_word.ensures)
