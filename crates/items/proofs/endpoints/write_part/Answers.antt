use mathlib.Core.Path.{refl, ap}
use native.Mathlib.Omega.{arith}
use mathlib.Core.List.{[], ◌∷◌}
use Rattle.lexing.specs.bytes.{ascii}
use Rattle.lexing.specs.reply.{◌>>◌}
use Rattle.lexing.specs.blanks.{whitespace0}
use Rattle.lexing.proofs.Slicing.{rest_self}
use Rattle.items.specs.records.{Record, part_records}
use Rattle.items.specs.clusters.{mapped}
use Rattle.lexing.specs.names.{named_after}
use Rattle.items.specs.endpoints.{device_type, cluster_instantiation, device, binding, instantiation, part_tries}
use Rattle.lexing.proofs.AnswerLaws.{read_took}
use Rattle.items.proofs.Mapped.{mapped_ok, mapped_not}
use Rattle.items.proofs.writing.Laws.{read_room, read_written}
use Rattle.items.proofs.Placed.{try_took, mapped_room, mapped_written, first_found, second_found, first_missed, second_missed, third_room, third_written}
use Rattle.lexing.proofs.names.Laws.{named_in, named_took, named_after_on}
use Rattle.items.proofs.instances.Laws.{clear_binding, name_parts_is, device_parts_is, name_in_limit}
use Rattle.items.proofs.endpoints.Laws.{device_type_on, device_words, binding_words}
use Rattle.items.proofs.endpoints.write_part.Goals as goal

pub put_device_type-requires : goal.put_device_type-requires
unfolding part_tries
put_device_type-requires c = record { device_type_kind_in_bounds = read_room (first_found (mapped device_type device) (mapped (whitespace0 >> named_after (ascii "binding") (ascii "cluster")) binding) (mapped cluster_instantiation instantiation) (try_took device (read_took c.in-Ok.ensures device_type_on (rest_self _ _))) _) (device_words _) c.requires.room; name_in = name_in_limit c.in-Ok.ensures.within (omega (arith, (read_took c.in-Ok.ensures device_type_on (rest_self _ _)).inside, c.requires.part_bound)) }

pub returns-in-Ok : goal.returns-in-Ok
unfolding part_tries
returns-in-Ok c = read_written (first_found (mapped device_type device) (mapped (whitespace0 >> named_after (ascii "binding") (ascii "cluster")) binding) (mapped cluster_instantiation instantiation) (try_took device (read_took c.in-Ok.ensures device_type_on (rest_self _ _))) _) (device_words _) (device_parts_is _ c.args.part.now _ c.in-Ok.ensures.within (read_took c.in-Ok.ensures device_type_on (rest_self _ _)).inside) c.put_device_type.ensures

pub put_named-requires : goal.put_named-requires
unfolding part_tries
put_named-requires c = record { binding_kind_in_bounds = read_room (second_found (mapped device_type device) (mapped (whitespace0 >> named_after (ascii "binding") (ascii "cluster")) binding) (mapped cluster_instantiation instantiation) (first_missed (mapped device_type device) (mapped (whitespace0 >> named_after (ascii "binding") (ascii "cluster")) binding) (mapped cluster_instantiation instantiation) part_records _ c.requires.room c.in_default.field-0 (mapped_not device device_type _ _ c.in_default.field-0 c.in_default.ensures.reads)).1 (mapped_ok binding (whitespace0 >> named_after (ascii "binding") (ascii "cluster")) _ _ _ _ _ refl (clear_binding _ _ c.requires.part_value c.in-Ok-named_after.ensures.reads)) _) (binding_words _) c.requires.room; name_in = name_in_limit (named_in c.in-Ok-named_after.ensures) (omega (arith, (named_took c.in-Ok-named_after.ensures (named_after_on _ _) (rest_self _ _)).inside, c.requires.part_bound)) }

pub returns-in-Ok-named_after : goal.returns-in-Ok-named_after
unfolding part_tries part_records
returns-in-Ok-named_after c = read_written (second_found (mapped device_type device) (mapped (whitespace0 >> named_after (ascii "binding") (ascii "cluster")) binding) (mapped cluster_instantiation instantiation) (first_missed (mapped device_type device) (mapped (whitespace0 >> named_after (ascii "binding") (ascii "cluster")) binding) (mapped cluster_instantiation instantiation) part_records _ c.requires.room c.in_default.field-0 (mapped_not device device_type _ _ c.in_default.field-0 c.in_default.ensures.reads)).1 (mapped_ok binding (whitespace0 >> named_after (ascii "binding") (ascii "cluster")) _ _ _ _ _ refl (clear_binding _ _ c.requires.part_value c.in-Ok-named_after.ensures.reads)) _) (binding_words _) (ap (λ (x : Record). x ∷ []) (name_parts_is _ c.args.part.now 12 (named_in c.in-Ok-named_after.ensures) (named_took c.in-Ok-named_after.ensures (named_after_on _ _) (rest_self _ _)).inside)) c.put_named.ensures

pub write_cluster_instantiation-requires : goal.write_cluster_instantiation-requires
unfolding part_tries
write_cluster_instantiation-requires c = record { part_bound = c.requires.part_bound; room = mapped_room instantiation (third_room (mapped device_type device) (mapped (whitespace0 >> named_after (ascii "binding") (ascii "cluster")) binding) (mapped cluster_instantiation instantiation) part_records _ c.requires.room (first_missed (mapped device_type device) (mapped (whitespace0 >> named_after (ascii "binding") (ascii "cluster")) binding) (mapped cluster_instantiation instantiation) part_records _ c.requires.room c.in_default.field-0 (mapped_not device device_type _ _ c.in_default.field-0 c.in_default.ensures.reads)).1 (second_missed (mapped device_type device) (mapped (whitespace0 >> named_after (ascii "binding") (ascii "cluster")) binding) (mapped cluster_instantiation instantiation) part_records _ c.requires.room (first_missed (mapped device_type device) (mapped (whitespace0 >> named_after (ascii "binding") (ascii "cluster")) binding) (mapped cluster_instantiation instantiation) part_records _ c.requires.room c.in_default.field-0 (mapped_not device device_type _ _ c.in_default.field-0 c.in_default.ensures.reads)).1 c.in_default-named_after.field-0 (mapped_not binding (whitespace0 >> named_after (ascii "binding") (ascii "cluster")) _ _ c.in_default-named_after.field-0 (clear_binding _ _ c.requires.part_value c.in_default-named_after.ensures.reads))).1) }

pub returns : goal.returns
unfolding part_tries
returns c = third_written (mapped device_type device) (mapped (whitespace0 >> named_after (ascii "binding") (ascii "cluster")) binding) (mapped cluster_instantiation instantiation) part_records _ c.requires.room (first_missed (mapped device_type device) (mapped (whitespace0 >> named_after (ascii "binding") (ascii "cluster")) binding) (mapped cluster_instantiation instantiation) part_records _ c.requires.room c.in_default.field-0 (mapped_not device device_type _ _ c.in_default.field-0 c.in_default.ensures.reads)).1 (second_missed (mapped device_type device) (mapped (whitespace0 >> named_after (ascii "binding") (ascii "cluster")) binding) (mapped cluster_instantiation instantiation) part_records _ c.requires.room (first_missed (mapped device_type device) (mapped (whitespace0 >> named_after (ascii "binding") (ascii "cluster")) binding) (mapped cluster_instantiation instantiation) part_records _ c.requires.room c.in_default.field-0 (mapped_not device device_type _ _ c.in_default.field-0 c.in_default.ensures.reads)).1 c.in_default-named_after.field-0 (mapped_not binding (whitespace0 >> named_after (ascii "binding") (ascii "cluster")) _ _ c.in_default-named_after.field-0 (clear_binding _ _ c.requires.part_value c.in_default-named_after.ensures.reads))).1 (mapped_written instantiation c.write_cluster_instantiation.ensures)
