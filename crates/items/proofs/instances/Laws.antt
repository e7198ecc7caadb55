-- Instances and instantiations: one law for each way through a reader.
use Rattle.items.specs.declared.maturity.Maturity.TheVariants.{Stable}
use Rattle.items.specs.declared.layout.Kind.{Kind}
use Rattle.items.specs.declared.layout.Kind.TheVariants.{AttributeInstance as a_attribute_instance}
use Rattle.items.specs.answers.{kind_number, handling_number}
use Rattle.items.specs.declared.instances.AnyInstance.{AnyInstance}
use Rattle.items.specs.declared.instances.AnyInstance.TheVariants.{Attribute}
use Rattle.std.specs.Prelude.{Ok, Err}
use mathlib.Core.Path.{◌≡◌, refl, sym, ◌∙◌, subst}
use mathlib.Core.List.{List, [], ◌∷◌, map}
use mathlib.Core.Bool.{Bool, true, false}
use Prim.Native.Nat.{ℕ, ◌+◌, ◌-◌, ◌*◌, ◌≤◌, ◌<◌}
use native.Mathlib.Omega.{arith}
use lib.ListN.{length, drop, get_or}
use Rattle.lexing.specs.reply.{Reply, ok, fail, Parser, ◌>>◌}
use Rattle.lexing.specs.bytes.{ascii, lower}
use Rattle.lexing.specs.words.{Word, keyword}
use Rattle.lexing.specs.blanks.{no_doc, whitespace0}
use Rattle.lexing.specs.answers.{reply, read_answer, NameIn, word_between, Read, Lost}
use Rattle.lexing.proofs.Onward.{Onward}
use Rattle.lexing.proofs.Slicing.{walks}
use Rattle.items.specs.clusters.{mapped}
use Rattle.lexing.specs.names.{two_keywords_name, named_after}
use Rattle.lexing.specs.answers.names.{NamedTo, word_of}
use Rattle.items.specs.endpoints.{attribute_handling_type, AttributeInstance as AttributeInstanceOf, attribute_instantiation, Instance as InstanceOf, Part, attribute_instance, command_instance, event_instance, instance_tries, deep_run, deep_braces, device_type, device, binding, instantiation, instantiation_head, cluster_instantiation, part_tries}
use Rattle.items.specs.records.{Bits, at, bits, word_extent, plain, default_number, default_word, instance_record, part_records}
use Rattle.lexing.specs.buffers.{each, big_endian, words_bytes, put}
use Rattle.items.specs.inner.instances.{plain_word, name_parts, instance_parts, InstanceIn, attribute_instance_at, instance_of, instance_at, tried_at, InstanceAs, AttributeInstanceTo, named_instance, InstanceTo, TriedTo}
use Rattle.items.specs.inner.endpoints.{device_parts, device_type_at}
use Rattle.items.specs.layout.{packed, width, from_top, offset, size, layout, further_word, record_words, catalogue_words, catalogue_bytes, word_count, text_limit}
use Rattle.items.specs.inner.defaults.{default_of}
use Rattle.items.specs.declared.endpoints.DeviceTypeParts.{DeviceTypeParts}
use Rattle.items.specs.declared.instances.AttributeInstanceParts.{AttributeInstanceParts}
use Rattle.items.proofs.Locality.{instance_tries_inside, instance_tries_consumes, deep_run_inside, instances_local, instantiation_head_local}
use Rattle.items.proofs.Mapped.{mapped_ok, mapped_not, mapped_same}
use Rattle.lexing.proofs.AnswerLaws.{read_on}
use Rattle.items.proofs.WordBetween.{extent_between}
use Rattle.items.proofs.Headed.{Headed}
use Rattle.lexing.proofs.buffers.Laws.{put_one}
use Rattle.items.proofs.writing.Laws.{plain_bytes}
use Rattle.items.proofs.Choice.{or_both, Past, moving_past}
use Rattle.lexing.proofs.Sequences.{bind_fail, then_fail, then_ok}
use Rattle.items.proofs.Tries.{mapped_fail}
use Rattle.lexing.proofs.TextEnd.{brace_keyword}
use lib.Dec.{eqb}
use borrow.Author.Tests.{eqb-true, eqb-false}
use Rattle.lexing.proofs.FirstWord.{Frees}
use Rattle.lexing.specs.declared.names.Named.{Named}
use Rattle.items.proofs.Letters.{NoneOf, all_out, outs_free, initials_free}
use Rattle.items.proofs.Shift.{shift_instance, shift_part, shift_mapped, shift_device_type_lem, shift_attribute_instantiation, shift_named_after, shift_cluster_instantiation}
use Rattle.items.proofs.Deep.{intercept_found, none_found, first_alone, second_alone, third_alone, Nearer, nearer, tried_is, Unclosing}
use Rattle.items.proofs.defaults.Laws.{default_within}

-- the tries of an instance, and the words that each takes
instance_tries_on : (q : ℕ) → Onward (instance_tries q)
instance_tries_on q = walks (instance_tries_inside q).on_chain

pub attribute_words : (a : AttributeInstanceOf) → word_count layout (instance_record (attribute_instance a) ∷ []) ≡ 2
unfolding word_count catalogue_words each record_words layout instance_record plain
attribute_words a = refl

pub command_words : (n : Word) → word_count layout (instance_record (command_instance n) ∷ []) ≡ 1
unfolding word_count catalogue_words each record_words layout instance_record plain
command_words n = refl

pub event_words : (n : Word) → word_count layout (instance_record (event_instance n) ∷ []) ≡ 1
unfolding word_count catalogue_words each record_words layout instance_record plain
event_words n = refl

-- by the kind of its record an instance is that of a command or of an event
by_kind : (P : InstanceOf → Type 0) {k : ℕ} (n : Word) → (15 ≤ k) × (k ≤ 16) → (k ≡ 15 → P (command_instance n)) → (k ≡ 16 → P (event_instance n)) → P (instance_of k n)
by_kind P {k} n h f g = go (eqb k 15) refl
  where
    go : (t : Bool) → eqb k 15 ≡ t → P (instance_of k n)
    go true e = rw (e, instance_of) (f (eqb-true k 15 e))
    go false e = rw (e, instance_of) (g (let z = eqb-false k 15 e in omega (arith, z, h.0, h.1)))

pub named_words : {k : ℕ} (n : Word) → (15 ≤ k) × (k ≤ 16) → word_count layout (instance_record (instance_of k n) ∷ []) ≡ 1
named_words n h = by_kind (λ x. word_count layout (instance_record x ∷ []) ≡ 1) n h (λ e. command_words n) (λ e. event_words n)

-- what is not there fails at its start
module _ (b : ℕ) (u : List ℕ) where
  name_elsewhere : (k j : List ℕ) → keyword k b u ≡ fail b → two_keywords_name k j b u ≡ fail b
  unfolding two_keywords_name
  name_elsewhere k j e = then_fail _ _ e

  named_elsewhere : (k j : List ℕ) → keyword k b u ≡ fail b → named_after k j b u ≡ fail b
  unfolding named_after
  named_elsewhere k j e = bind_fail _ _ (name_elsewhere k j e)

  attribute_elsewhere : Frees b u (ascii "ram" ∷ ascii "callback" ∷ ascii "persist" ∷ []) → attribute_instantiation b u ≡ fail b
  unfolding attribute_instantiation attribute_handling_type
  attribute_elsewhere f = bind_fail _ _ (or_both _ _ (then_fail _ _ f.0) (or_both _ _ (then_fail _ _ f.1.0) (then_fail _ _ f.1.1.0)))

  pub device_elsewhere : keyword (ascii "device") b u ≡ fail b → device_type b u ≡ fail b
  unfolding device_type
  device_elsewhere e = bind_fail _ _ (name_elsewhere _ _ e)

  module _ (w : whitespace0 b u ≡ ok no_doc b u) where
    pub binding_elsewhere : keyword (ascii "binding") b u ≡ fail b → (whitespace0 >> named_after (ascii "binding") (ascii "cluster")) b u ≡ fail b
    binding_elsewhere e = then_ok _ _ w ∙ named_elsewhere _ _ e

    pub instantiation_elsewhere : keyword (ascii "server") b u ≡ fail b → cluster_instantiation b u ≡ fail b
    unfolding cluster_instantiation instantiation_head
    instantiation_elsewhere e = bind_fail _ _ (then_ok _ _ w ∙ bind_fail _ _ (name_elsewhere _ _ e))

  letter_free : (x : ℕ) → lower (get_or u 0 0) ≡ x → (ks : List (List ℕ)) → all_out ((0, x) ∷ []) [] ks ≡ true → Frees b u ks
  letter_free x h ks e = outs_free b u ((0, x) ∷ []) (h, tt) [] tt ks e

  -- the one try for an instance that a first letter selects
  pub command_alone : lower (get_or u 0 0) ≡ 104 → (r : Read AnyInstance) → InstanceAs (mapped (named_after (ascii "handle") (ascii "command")) command_instance) r b u → InstanceTo r b u
  unfolding instance_tries shift_instance
  command_alone h r i =
      let f = letter_free 104 h (ascii "ram" ∷ ascii "callback" ∷ ascii "persist" ∷ []) refl in
      let g = letter_free 104 h (ascii "emits" ∷ []) refl in
      let p : Past b (mapped (named_after (ascii "handle") (ascii "command")) command_instance b u) = moving_past {f = shift_instance} (λ d. shift_mapped d command_instance command_instance (λ n. refl) (shift_named_after d (ascii "handle") (ascii "command"))) b u in
      record { reads = second_alone _ _ _ (instance_at b u) (sym (mapped_fail _ attribute_instance (attribute_elsewhere f))) (sym (mapped_fail _ event_instance (named_elsewhere _ _ g.0))) p r i.reads; within = i.within }

  pub event_alone : lower (get_or u 0 0) ≡ 101 → (r : Read AnyInstance) → InstanceAs (mapped (named_after (ascii "emits") (ascii "event")) event_instance) r b u → InstanceTo r b u
  unfolding instance_tries shift_instance
  event_alone h r i =
      let f = letter_free 101 h (ascii "ram" ∷ ascii "callback" ∷ ascii "persist" ∷ []) refl in
      let g = letter_free 101 h (ascii "handle" ∷ []) refl in
      let p : Past b (mapped (named_after (ascii "emits") (ascii "event")) event_instance b u) = moving_past {f = shift_instance} (λ d. shift_mapped d event_instance event_instance (λ n. refl) (shift_named_after d (ascii "emits") (ascii "event"))) b u in
      record { reads = third_alone _ _ _ (instance_at b u) (sym (mapped_fail _ attribute_instance (attribute_elsewhere f))) (sym (mapped_fail _ command_instance (named_elsewhere _ _ g.0))) p r i.reads; within = i.within }

  pub attribute_found : {a : AttributeInstanceParts} {c : ℕ} → AttributeInstanceTo (Ok (a, c)) b u → InstanceTo (Ok (Attribute a, c)) b u
  unfolding instance_tries
  attribute_found {a} {c} h =
      let e = mapped_ok attribute_instance attribute_instantiation b u (attribute_instance_at b u a) c (drop (c - b) u) refl h.reads in
      record { reads = intercept_found b _ _ b u (attribute_instance (attribute_instance_at b u a)) c (drop (c - b) u) e; within = h.within }

  pub attribute_alone : (x : ℕ) → NoneOf (101 ∷ 104 ∷ []) x → lower (get_or u 0 0) ≡ x → {l : Lost} → AttributeInstanceTo (Err l) b u → InstanceTo (Err l) b u
  unfolding instance_tries shift_instance
  attribute_alone x n h {l} i =
      let f = initials_free b u (101 ∷ 104 ∷ []) x n h (ascii "handle" ∷ ascii "emits" ∷ []) refl in
      let p : Past b (mapped attribute_instantiation attribute_instance b u) = moving_past {f = shift_instance} (λ d. shift_mapped d attribute_instance attribute_instance (λ a. refl) (shift_attribute_instantiation d)) b u in
      let e = mapped_not attribute_instance attribute_instantiation b u l i.reads in
      record { reads = first_alone _ _ _ (instance_at b u) (sym (mapped_fail _ command_instance (named_elsewhere _ _ f.0))) (sym (mapped_fail _ event_instance (named_elsewhere _ _ f.1.0))) p (Err l) e; within = tt }

  -- the same for a part of an endpoint
  module _ (w : whitespace0 b u ≡ ok no_doc b u) where
    pub clear_binding : {X : Reply Word} → X ≡ named_after (ascii "binding") (ascii "cluster") b u → X ≡ (whitespace0 >> named_after (ascii "binding") (ascii "cluster")) b u
    clear_binding e = e ∙ sym (then_ok _ _ w)

    pub instantiation_alone : lower (get_or u 0 0) ≡ 115 → (x : Read Part) → reply (read_answer (λ a. a) x) b u ≡ mapped cluster_instantiation instantiation b u → reply (read_answer (tried_at b) x) b u ≡ part_tries b b u
    unfolding part_tries shift_part
    instantiation_alone h =
        let f = letter_free 115 h (ascii "device" ∷ ascii "binding" ∷ []) refl in
        third_alone _ _ _ (λ a. a) (sym (mapped_fail _ device (device_elsewhere f.0))) (sym (mapped_fail _ binding (binding_elsewhere w f.1.0)))
        (moving_past {f = shift_part} (λ d. shift_mapped d instantiation instantiation (λ i. refl) (shift_cluster_instantiation d)) b u)

    pub binding_alone : lower (get_or u 0 0) ≡ 98 → (x : Read Part) → reply (read_answer (λ a. a) x) b u ≡ mapped (named_after (ascii "binding") (ascii "cluster")) binding b u → reply (read_answer (tried_at b) x) b u ≡ part_tries b b u
    unfolding part_tries shift_part
    binding_alone h x e =
        let f = letter_free 98 h (ascii "device" ∷ ascii "server" ∷ []) refl in
        let z = mapped_same _ _ binding (sym (clear_binding refl)) in
        let p : Past b (mapped (named_after (ascii "binding") (ascii "cluster")) binding b u) = moving_past {f = shift_part} (λ d. shift_mapped d binding binding (λ n. refl) (shift_named_after d (ascii "binding") (ascii "cluster"))) b u in
        second_alone _ _ _ (λ a. a) (sym (mapped_fail _ device (device_elsewhere f.0))) (sym (mapped_fail _ instantiation (instantiation_elsewhere w f.1.0))) (subst (λ (X : Reply Part). Past b X) (sym z) p) x (e ∙ sym z)

    pub device_alone : (x : ℕ) → NoneOf (98 ∷ 115 ∷ []) x → lower (get_or u 0 0) ≡ x → (y : Read Part) → reply (read_answer (λ a. a) y) b u ≡ mapped device_type device b u → reply (read_answer (tried_at b) y) b u ≡ part_tries b b u
    unfolding part_tries shift_part
    device_alone x n h =
        let f = initials_free b u (98 ∷ 115 ∷ []) x n h (ascii "binding" ∷ ascii "server" ∷ []) refl in
        first_alone _ _ _ (λ a. a) (sym (mapped_fail _ binding (binding_elsewhere w f.0))) (sym (mapped_fail _ instantiation (instantiation_elsewhere w f.1.0)))
        (moving_past {f = shift_part} (λ d. shift_mapped d device device (λ t. refl) (shift_device_type_lem d)) b u)

  -- one that is a name
  named_to : (k : Kind) → (15 ≤ kind_number k) × (kind_number k ≤ 16) → (m : Parser Word) (r : Read Named) → NamedTo m r b u → InstanceAs (mapped m (instance_of (kind_number k))) (named_instance k r) b u
  named_to k i m (Ok (n, c)) h = record { reads = mapped_ok (instance_of (kind_number k)) m b u (word_of b u n) c (drop (c - b) u) refl h.reads; within = (i, h.within.0) }
  named_to k i m (Err l) h = record { reads = mapped_not (instance_of (kind_number k)) m b u l h.reads; within = tt }

  pub named_is : (k : Kind) → (15 ≤ kind_number k) × (kind_number k ≤ 16) → (m : Parser Word) (n : Read Named) {r : Read AnyInstance} → NamedTo m n b u → r ≡ named_instance k n → InstanceAs (mapped m (instance_of (kind_number k))) r b u
  named_is k i m n h e = subst (λ (x : Read AnyInstance). InstanceAs (mapped m (instance_of (kind_number k))) x b u) (sym e) (named_to k i m n h)

  -- its words, and what it takes
  module _ {i : AnyInstance} {c : ℕ} (h : InstanceTo (Ok (i, c)) b u) where
    pub instance_on : (b < c) × (c ≤ b + length u)
    instance_on = read_on (instance_tries_on b) (instance_tries_consumes b) h.reads

    pub instance_counted : {k : ℕ} → word_count layout (instance_record (instance_at b u i) ∷ []) ≡ k → k ≤ 8 → TriedTo (λ i. instance_record i ∷ []) instance_tries (Ok (k, c)) b u
    instance_counted {k} e s = tried_is (λ i. instance_record i ∷ []) instance_tries (instance_at b u i) k c e (omega (arith, s, instance_on.0)) h.reads

-- a cluster instantiation: one word, and those of its instances
pub instances_run_on : Onward (deep_run instance_tries)
instances_run_on = walks (deep_run_inside instance_tries_inside instance_tries_consumes).on_chain

pub instances_on : Onward (deep_braces instance_tries)
instances_on = walks instances_local.on_chain

pub instantiation_head_on : Onward instantiation_head
instantiation_head_on = walks instantiation_head_local.on_chain

pub instantiation_headed : Headed {I = Unit {0}} (λ i. cluster_instantiation) (λ i x. part_records (instantiation x)) instantiation_head (deep_braces instance_tries) (map instance_record) 1
unfolding cluster_instantiation word_count catalogue_words each record_words layout part_records plain
instantiation_headed = record {
  make = λ i n l. record { name = n; instances = l };
  first = λ i n l. plain 13 0 [] (word_extent n) [];
  reads = λ i. refl;
  hands = λ i n l. refl;
  size = λ i n l. refl;
}

-- The second pass: the words of each record.
pub named_put : (k : Kind) (p o e w : ℕ) (l l₁ : List ℕ) → w ≡ plain_word k 0 o e → l₁ ≡ put p (big_endian 8 w) l → l₁ ≡ put p (catalogue_bytes layout (name_parts (kind_number k) o e ∷ [])) l
unfolding from_top packed width offset size
named_put k p o e w l l₁ d e₁ = rw (plain_bytes k Stable [] (at o (e - o)) [] 0 refl, ← d) (put_one p w l l₁ e₁)

pub instance_put : (a : AttributeInstanceParts) (p k n w v : ℕ) (l l₁ : List ℕ) → n ≡ default_number (default_of a.default) → k ≡ handling_number a.handling
    → w ≡ plain_word a_attribute_instance (k * 32 + n * 4) a.name a.end → v ≡ further_word layout (default_word (default_of a.default)) → l₁ ≡ put p (words_bytes (w ∷ v ∷ [])) l
    → l₁ ≡ put p (catalogue_bytes layout (instance_parts a ∷ [])) l
unfolding from_top packed width offset size
instance_put a p k n w v l l₁ en ek d f e₁ =
    let g : ℕ = k * 32 + n * 4 in
    let fl : List Bits = bits 2 (handling_number a.handling) ∷ bits 3 (default_number (default_of a.default)) ∷ [] in
    let z : g ≡ from_top 7 fl = omega (arith, en, ek) in
    rw (plain_bytes a_attribute_instance Stable fl (at a.name (a.end - a.name)) (default_word (default_of a.default) ∷ []) g z) (rw (d, f) at e₁)

-- records by offsets are those of what was read
module _ (b : ℕ) (u : List ℕ) where
  pub name_parts_is : (k : ℕ) {o e c : ℕ} → NameIn b o e c → c ≤ b + length u → name_parts k o e ≡ plain k 0 [] (word_extent (word_between b u o e)) []
  name_parts_is k {o} {e} h i = rw (extent_between b u o e h.from h.up (omega (arith, h.inside, i)))

  pub device_parts_is : (t : DeviceTypeParts) {c : ℕ} → NameIn b t.name t.end c → c ≤ b + length u → device_parts t ∷ [] ≡ part_records (device (device_type_at b u t))
  unfolding part_records
  device_parts_is t h i = rw (extent_between b u t.name t.end h.from h.up (omega (arith, h.inside, i)))

  pub named_parts_is : {k o e c : ℕ} → (15 ≤ k) × (k ≤ 16) → NameIn b o e c → c ≤ b + length u → name_parts k o e ≡ instance_record (instance_of k (word_between b u o e))
  unfolding instance_record
  named_parts_is {k} {o} {e} i h l = by_kind (λ x. name_parts k o e ≡ instance_record x) (word_between b u o e) i (λ z. rw z (name_parts_is 15 h l)) (λ z. rw z (name_parts_is 16 h l))

  pub instance_parts_is : (a : AttributeInstanceParts) {c : ℕ} → InstanceIn b a c → c ≤ b + length u → instance_parts a ≡ instance_record (attribute_instance (attribute_instance_at b u a))
  unfolding instance_record
  instance_parts_is a h i = rw (extent_between b u a.name a.end h.named.from h.named.up (omega (arith, h.named.inside, i)))

pub name_in_limit : {b o e c : ℕ} → NameIn b o e c → c ≤ text_limit → NameIn 0 o e text_limit
name_in_limit h i = record { from = omega arith; up = h.up; inside = omega (arith, h.inside, i) }

pub instance_in_limit : {b : ℕ} (a : AttributeInstanceParts) {c : ℕ} → InstanceIn b a c → c ≤ text_limit → InstanceIn 0 a text_limit
instance_in_limit a h i = record { named = name_in_limit h.named i; spanned = default_within a.default _ text_limit h.spanned i }

-- where a closing brace is, there is no word and no blank, and every try fails
pub instances_unclosing : Unclosing instance_tries
unfolding instance_tries
instances_unclosing q b u =
    let k = brace_keyword b u in
    (_, none_found _ _ _ (sym (mapped_fail _ attribute_instance (attribute_elsewhere b (125 ∷ u) (k _, (k _, (k _, tt)))))) (sym (mapped_fail _ command_instance (named_elsewhere b (125 ∷ u) _ _ (k _)))) (sym (mapped_fail _ event_instance (named_elsewhere b (125 ∷ u) _ _ (k _)))) q)

pub instances_nearer : Nearer instance_tries
unfolding instance_tries
instances_nearer = nearer _ _ _

-- the first records of what was read
pub instantiation_first_is : (b : ℕ) (u : List ℕ) {o e c : ℕ} (l : List InstanceOf) → NameIn b o e c → c ≤ b + length u → name_parts 13 o e ≡ instantiation_headed.first tt (word_between b u o e) l
unfolding instantiation_headed
instantiation_first_is b u l h i = name_parts_is b u 13 h i
