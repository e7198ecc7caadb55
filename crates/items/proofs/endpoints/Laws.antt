-- Device types and endpoints: one law for each way through a reader.
use Rattle.items.specs.declared.maturity.Maturity.TheVariants.{Stable}
use Rattle.items.specs.declared.layout.Kind.TheVariants.{DeviceType as a_device_type, Endpoint as a_endpoint}
use mathlib.Core.Path.{◌≡◌, refl, sym}
use mathlib.Core.List.{List, [], ◌∷◌}
use Prim.Native.Nat.{ℕ, ◌-◌}
use Rattle.lexing.specs.words.{Word}
use Rattle.lexing.proofs.Onward.{Onward}
use Rattle.lexing.proofs.Slicing.{walks}
use Rattle.items.specs.endpoints.{device_version, Part, deep_run, deep_braces, DeviceType as DeviceTypeOf, device_type, device, binding, instantiation, part_tries, endpoint_head, endpoint}
use Rattle.items.specs.records.{absent, at, value, plain, part_records, endpoint_records}
use Rattle.lexing.specs.buffers.{each, words_bytes, put}
use Rattle.items.specs.inner.instances.{plain_word}
use Rattle.items.specs.inner.endpoints.{device_parts, endpoint_first}
use Rattle.items.specs.layout.{packed, width, from_top, offset, size, layout, further_word, record_words, catalogue_words, catalogue_bytes, word_count}
use Rattle.items.specs.declared.endpoints.DeviceTypeParts.{DeviceTypeParts}
use Rattle.items.proofs.Locality.{device_version_local, deep_run_inside, device_type_inside, part_tries_inside, part_tries_consumes, parts_local, endpoint_head_local}
use Rattle.items.proofs.Headed.{Headed}
use Rattle.items.proofs.writing.Laws.{plain_bytes}
use Rattle.items.proofs.Tries.{mapped_fail}
use Rattle.lexing.proofs.TextEnd.{brace_keyword, brace_blank}
use Rattle.items.proofs.Deep.{none_found, Nearer, nearer, Unclosing}
use Rattle.items.proofs.instances.Laws.{binding_elsewhere, instantiation_elsewhere, device_elsewhere}

pub device_version_on : Onward device_version
device_version_on = walks device_version_local.on_chain

-- the tries of a part, and the words that each takes
pub device_type_on : Onward device_type
device_type_on = walks device_type_inside.on_chain

pub device_words : (t : DeviceTypeOf) → word_count layout (part_records (device t)) ≡ 3
unfolding word_count catalogue_words each record_words layout part_records plain
device_words t = refl

pub binding_words : (n : Word) → word_count layout (part_records (binding n)) ≡ 1
unfolding word_count catalogue_words each record_words layout part_records plain
binding_words n = refl

-- an endpoint: two words, and those of its parts
pub parts_run_on : Onward (deep_run part_tries)
parts_run_on = walks (deep_run_inside part_tries_inside part_tries_consumes).on_chain

pub parts_on : Onward (deep_braces part_tries)
parts_on = walks parts_local.on_chain

pub endpoint_head_on : Onward endpoint_head
endpoint_head_on = walks endpoint_head_local.on_chain

pub endpoint_headed : Headed {I = Unit {0}} (λ i. endpoint) (λ i. endpoint_records) endpoint_head (deep_braces part_tries) (each part_records) 2
unfolding endpoint word_count catalogue_words each record_words layout endpoint_records plain
endpoint_headed = record {
  make = λ i n l. record { id = n; parts = l };
  first = λ i n l. plain 10 0 [] absent (value n ∷ []);
  reads = λ i. refl;
  hands = λ i n l. refl;
  size = λ i n l. refl;
}

pub device_put : (t : DeviceTypeParts) (p w : ℕ) (l l₁ : List ℕ) → w ≡ plain_word a_device_type 0 t.name t.end → l₁ ≡ put p (words_bytes (w ∷ t.code ∷ t.version ∷ [])) l → l₁ ≡ put p (catalogue_bytes layout (device_parts t ∷ [])) l
unfolding from_top packed width offset size further_word
device_put t p w l l₁ d e₁ = rw (plain_bytes a_device_type Stable [] (at t.name (t.end - t.name)) (value t.code ∷ value t.version ∷ []) 0 refl) (rw d at e₁)

pub endpoint_put : (p n w : ℕ) (l l₁ : List ℕ) → w ≡ plain_word a_endpoint 0 0 0 → l₁ ≡ put p (words_bytes (w ∷ n ∷ [])) l → l₁ ≡ put p (catalogue_bytes layout (endpoint_first n ∷ [])) l
unfolding from_top packed width offset size further_word
endpoint_put p n w l l₁ d e₁ = rw (plain_bytes a_endpoint Stable [] absent (value n ∷ []) 0 refl) (rw d at e₁)

pub parts_unclosing : Unclosing part_tries
unfolding part_tries
parts_unclosing q b u =
    let k = brace_keyword b u in
    let w = brace_blank b u in
    (_, none_found _ _ _ (sym (mapped_fail _ device (device_elsewhere b (125 ∷ u) (k _)))) (sym (mapped_fail _ binding (binding_elsewhere b (125 ∷ u) w (k _)))) (sym (mapped_fail _ instantiation (instantiation_elsewhere b (125 ∷ u) w (k _)))) q)

pub parts_nearer : Nearer part_tries
unfolding part_tries
parts_nearer = nearer _ _ _

pub endpoint_first_is : (n : ℕ) (l : List Part) → endpoint_first n ≡ endpoint_headed.first tt n l
unfolding endpoint_headed
endpoint_first_is n l = refl
