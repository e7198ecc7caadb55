-- What the readers and writers of instances and instantiations promise.
use Rattle.lexing.specs.answers.names.{word_of}
use Rattle.std.specs.Prelude.{ℕ, ◌≤◌, ◌-◌, max, ◌≡◌, true, false, List, [], ◌∷◌, eqb, Ok, Err}
use Rattle.lexing.specs.reply.{Parser, ◌>>◌, ret, ◌>>=◌, catch, fail_at}
use Rattle.lexing.specs.words.{Word, tag}
use Rattle.lexing.specs.answers.{reply, ReadTo, NameIn, word_between, Read, read_answer}
use Rattle.items.specs.clusters.{mapped}
use Rattle.items.specs.records.{Record, at, bits, plain, default_number, default_word}
use Rattle.items.specs.layout.{layout, word_count}
use Rattle.items.specs.endpoints.{Tried as TriedOf, AttributeInstance as AttributeInstanceOf, attribute_instantiation, Instance as InstanceOf, attribute_instance, command_instance, event_instance, instance_tries, Deep, deep_run}
use Rattle.items.specs.declared.layout.Kind.{Kind}
use Rattle.items.specs.declared.maturity.Maturity.TheVariants.{Stable}
use Rattle.items.specs.declared.levels.Privilege.TheVariants.{View}
use Rattle.items.specs.answers.{Few, first_of, kind_number, handling_number}
use Rattle.lexing.specs.declared.names.Named.{Named}
use Rattle.items.specs.declared.instances.AttributeInstanceParts.{AttributeInstanceParts}
use Rattle.items.specs.declared.instances.AnyInstance.{AnyInstance}
use Rattle.items.specs.declared.instances.AnyInstance.TheVariants.{Attribute, Named as NamedAs}
use Rattle.items.specs.inner.defaults.{default_of, DefaultIn}
use Rattle.lexing.specs.bytes.{byte}
use Rattle.lexing.specs.blanks.{whitespace0}

-- instances of attributes
abbrev pub attribute_instance_at : ℕ → List ℕ → AttributeInstanceParts → AttributeInstanceOf
attribute_instance_at b u a = record { handling = handling_number a.handling; name = word_between b u a.name a.end; default = default_of a.default }

pub record InstanceIn (b : ℕ) (a : AttributeInstanceParts) (c : ℕ) : Type 0 where
  pub named : NameIn b a.name a.end c
  pub spanned : DefaultIn a.default c

-- instances; one that is a name, by the kind of its record
abbrev pub instance_of : ℕ → Word → InstanceOf
instance_of k n = elim (eqb k 15) [ true ↦ command_instance n | false ↦ event_instance n ]

abbrev pub instance_at : ℕ → List ℕ → AnyInstance → InstanceOf
instance_at b u (Attribute a) = attribute_instance (attribute_instance_at b u a)
instance_at b u (NamedAs k n) = instance_of (kind_number k) (word_of b u n)

abbrev pub AnyInstanceIn : ℕ → AnyInstance → ℕ → Type 0
AnyInstanceIn b (Attribute a) c = InstanceIn b a c
AnyInstanceIn b (NamedAs k n) c = ((15 ≤ kind_number k) × (kind_number k ≤ 16)) × NameIn b n.start n.end c

abbrev pub InstanceAs : Parser InstanceOf → Read AnyInstance → ℕ → List ℕ → Type 0
InstanceAs m r b u = ReadTo instance_at AnyInstanceIn m r b u

abbrev pub AttributeInstanceTo : Read AttributeInstanceParts → ℕ → List ℕ → Type 0
AttributeInstanceTo r b u = ReadTo attribute_instance_at InstanceIn attribute_instantiation r b u

abbrev pub named_instance : Kind → Read Named → Read AnyInstance
named_instance k (Ok r) = Ok (NamedAs k r.0, r.1)
named_instance k (Err l) = Err l

-- Tries between braces. Where one finds something the others before it fail at their start b, so the furthest place is b, and none before b is asked for.
abbrev pub tried_at : {A : Type 0} → ℕ → A → TriedOf A
tried_at b a = record { furthest = b; value = a }

abbrev pub InstanceTo : Read AnyInstance → ℕ → List ℕ → Type 0
InstanceTo r b u = ReadTo (λ b u i. tried_at b (instance_at b u i)) AnyInstanceIn (instance_tries b) r b u

-- what is found, by the words of its records
unfoldable pub weighed : {A : Type 0} → (A → List Record) → Parser (TriedOf A) → Parser (TriedOf ℕ)
weighed one m = mapped m (λ t. record { furthest = t.furthest; value = word_count layout (one t.value) })

pub record TriedTo {A : Type 0} (one : A → List Record) (f : ℕ → Parser (TriedOf A)) (r : Read ℕ) (b : ℕ) (u : List ℕ) : Type 0 where
  pub reads : reply (read_answer (tried_at b) r) b u ≡ weighed one (f b) b u
  pub few : Few r b

-- the closing brace after tries whose furthest place is q
unfoldable pub deep_close : ℕ → Parser (Unit {0})
deep_close q = catch (whitespace0 >> tag (byte "}")) (λ p. fail_at (max p q))

-- tries after their opening brace, with the closing one: what was read, and its list
abbrev pub deep_tail : {A : Type 0} → (ℕ → Parser (TriedOf A)) → Parser (Deep A)
deep_tail f = do
  s ← deep_run f
  deep_close s.deepest
  ret s

unfoldable pub deep_rest : {A : Type 0} → (ℕ → Parser (TriedOf A)) → Parser (List A)
deep_rest f = mapped (deep_tail f) (λ s. s.read)

-- The second pass.

-- the first word of a record that has only a kind, flags and a name
abbrev pub plain_word : Kind → (flags name end : ℕ) → ℕ
plain_word k g o e = first_of (record { kind = kind_number k; place = 0; maturity = Stable; doc_present = 0; flags = g; name = o; name_length = e - o; first_privilege = View; second_privilege = View })

-- records by offsets: a name and nothing else, a device type, an instance of an attribute
abbrev pub name_parts : (kind name end : ℕ) → Record
name_parts k o e = plain k 0 [] (at o (e - o)) []

abbrev pub instance_parts : AttributeInstanceParts → Record
instance_parts a = plain 14 0 (bits 2 (handling_number a.handling) ∷ bits 3 (default_number (default_of a.default)) ∷ []) (at a.name (a.end - a.name)) (default_word (default_of a.default) ∷ [])
