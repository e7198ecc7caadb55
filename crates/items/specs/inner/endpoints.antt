-- What the readers and writers of endpoints promise.
use Rattle.std.specs.Prelude.{ℕ, ◌-◌, List, [], ◌∷◌}
use Rattle.lexing.specs.answers.{ReadTo, NameIn, word_between, Read}
use Rattle.items.specs.records.{Record, absent, at, value, plain}
use Rattle.items.specs.endpoints.{DeviceType as DeviceTypeOf, device_type}
use Rattle.items.specs.declared.endpoints.DeviceTypeParts.{DeviceTypeParts}

-- device types
abbrev pub device_type_at : ℕ → List ℕ → DeviceTypeParts → DeviceTypeOf
device_type_at b u t = record { name = word_between b u t.name t.end; code = t.code; version = t.version }

abbrev pub DeviceTypeTo : Read DeviceTypeParts → ℕ → List ℕ → Type 0
DeviceTypeTo r b u = ReadTo device_type_at (λ b t c. NameIn b t.name t.end c) device_type r b u

abbrev pub device_parts : DeviceTypeParts → Record
device_parts t = plain 11 0 [] (at t.name (t.end - t.name)) (value t.code ∷ value t.version ∷ [])

-- the first record of an endpoint
abbrev pub endpoint_first : ℕ → Record
endpoint_first n = plain 10 0 [] absent (value n ∷ [])
