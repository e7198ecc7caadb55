use native.Mathlib.Omega.{arith}
use mathlib.Core.Path.{ap}
use mathlib.Core.List.{[], ◌∷◌}
use Rattle.items.specs.records.{Record}
use Rattle.items.proofs.writing.Laws.{read_room, read_written}
use Rattle.items.proofs.instances.Laws.{attribute_words, named_words, name_in_limit, instance_in_limit, named_parts_is, instance_parts_is, instance_on}
use Rattle.items.proofs.instances.write_instance.Goals as goal

pub put_attribute_instance-requires : goal.put_attribute_instance-requires
put_attribute_instance-requires c =
    let h = rw c.in-Ok-Attribute-default.field-0-0-is at c.in-Ok-Attribute-default.ensures in
    record { attribute_instance_kind_in_bounds = read_room h.reads (attribute_words _) c.requires.room; instance_in = instance_in_limit _ h.within (omega (arith, (instance_on _ _ h).1, c.requires.part_bound)) }

pub put_named-requires : goal.put_named-requires
put_named-requires c =
    let h = rw c.in-Ok-Named-default.field-0-0-is at c.in-Ok-Named-default.ensures in
    record { binding_kind_in_bounds = read_room h.reads (named_words _ h.within.0) c.requires.room; name_in = name_in_limit h.within.1 (omega (arith, (instance_on _ _ h).1, c.requires.part_bound)) }

pub returns-in-Ok-Attribute-default : goal.returns-in-Ok-Attribute-default
returns-in-Ok-Attribute-default c =
    let h = rw c.in-Ok-Attribute-default.field-0-0-is at c.in-Ok-Attribute-default.ensures in
    read_written h.reads (attribute_words _) (ap (λ (x : Record). x ∷ []) (instance_parts_is _ c.args.part.now _ h.within (instance_on _ _ h).1)) c.put_attribute_instance.ensures

pub returns-in-Ok-Named-default : goal.returns-in-Ok-Named-default
returns-in-Ok-Named-default c =
    let h = rw c.in-Ok-Named-default.field-0-0-is at c.in-Ok-Named-default.ensures in
    read_written h.reads (named_words _ h.within.0) (ap (λ (x : Record). x ∷ []) (named_parts_is _ c.args.part.now h.within.0 h.within.1 (instance_on _ _ h).1)) c.put_named.ensures
