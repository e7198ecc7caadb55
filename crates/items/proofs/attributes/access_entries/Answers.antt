use native.Mathlib.Omega.{arith}
use Rattle.lexing.proofs.steps.Laws.{tag_after_took}
use Rattle.items.proofs.attributes.Laws.{next, entry_on, entries_end, entered, entries_closed}
use Rattle.items.proofs.attributes.access_entries.Goals as goal

pub returns-then-entry-c : goal.returns-then-entry-c
returns-then-entry-c c = entries_end c.loop-c.invariant c.rest_at.ensures c.access_entry-entry.ensures c.if-entry-c.true

pub tag_after-requires : goal.tag_after-requires
tag_after-requires c = let i = (entered c.loop-c.invariant c.rest_at.ensures c.access_entry-entry.ensures c.if-entry-c.false) in omega (arith, i.from, i.inside, c.requires)

pub returns-in_default : goal.returns-in_default
returns-in_default c = entries_closed (entered c.loop-c.invariant c.rest_at.ensures c.access_entry-entry.ensures c.if-entry-c.false) c.in_default.ensures

pub loop-c-smaller : goal.loop-c-smaller
loop-c-smaller c = let t = (tag_after_took 44 c.in-Ok.ensures) in omega (arith, entry_on _ c.rest_at.ensures c.access_entry-entry.ensures c.if-entry-c.false, t.up, t.inside)

pub loop-c-preserved : goal.loop-c-preserved
loop-c-preserved c = next (entered c.loop-c.invariant c.rest_at.ensures c.access_entry-entry.ensures c.if-entry-c.false) (tag_after_took 44 c.in-Ok.ensures)
