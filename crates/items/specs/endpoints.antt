-- Endpoints.
use Rattle.std.specs.Prelude.{ℕ, max, Bool, true, false, List, [], ◌∷◌, ◌++◌}
use Rattle.std.proofs.Math.Option.{Option}
use Rattle.lexing.specs.bytes.{ascii, byte}
use Rattle.lexing.specs.reply.{Parser, ret, ◌>>=◌, ◌>>◌, opt, ◌or◌, catch, iter, position, fail_at}
use Rattle.lexing.specs.names.{two_keywords_name, named_after}
use Rattle.lexing.specs.words.{Word, parse_id, keyword, tag}
use Rattle.lexing.specs.integers.{positive_integer, Signed, signed_integer}
use Rattle.lexing.specs.blanks.{whitespace0, whitespace1}
use Rattle.lexing.specs.strings.{Span, default_string}
use Rattle.items.specs.entries.{enclosed}
use Rattle.items.specs.clusters.{mapped}

-- `DeepestError`, parser.rs line 79, around a loop of tries between braces: the furthest place of any try inside is kept, a number that starts at the current offset.
-- That one rule is the Rust's in both loops, that of `cluster_instantiation` and that of `endpoint`:
-- the Rust starts with no place, as at depth 0, and keeps one only if it is deeper. It starts after a `{`, and a try fails where it begins or further on; so the first failure is kept, and it is no nearer than the offset started from here.
-- `cluster_instantiation` intercepts the missing `}` too, so its place counts among the others. `endpoint` does not, and answers the deepest of the tries alone. But `}` is missed where the tries of the last turn begin, after the same blanks,
-- and all of them failed there or further on; so the furthest of the tries and the missing `}` is that of the tries.

-- what a try gave, with the furthest place so far
pub record Tried (A : Type 0) : Type 0 where
  pub furthest : ℕ
  pub value : A

-- what was read so far, with the furthest place so far
pub record Deep (A : Type 0) : Type 0 where
  pub deepest : ℕ
  pub read : List A

-- `deepest_error.intercept(..)`, and else the next try
unfoldable pub intercept : {A : Type 0} → ℕ → Parser A → (ℕ → Parser (Tried A)) → Parser (Tried A)
intercept q m k = catch (mapped m (λ a. record { furthest = q; value = a })) (λ p. k (max q p))

unfoldable pub deep_step : {A : Type 0} → (ℕ → Parser (Tried A)) → Deep A → Parser (Deep A)
deep_step f s = whitespace0 >> mapped (f s.deepest) (λ t. record { deepest = t.furthest; read = s.read ++ (t.value ∷ []) })

unfoldable pub deeper : {A : Type 0} → ℕ → Deep A → Deep A
deeper p s = record { deepest = max p s.deepest; read = s.read }

unfoldable pub deep_run : {A : Type 0} → (ℕ → Parser (Tried A)) → Parser (Deep A)
deep_run f = do
  b ← position
  iter (deep_step f) deeper (record { deepest = b; read = [] })

unfoldable pub deep_place : {A : Type 0} → Deep A → ℕ → ℕ
deep_place s p = max p s.deepest

unfoldable pub deep_braces : {A : Type 0} → (ℕ → Parser (Tried A)) → Parser (List A)
deep_braces f = mapped (enclosed (deep_run f) deep_place) (λ s. s.read)

-- `device_type`, parser.rs line 1071
pub record DeviceType : Type 0 where
  pub name : Word
  pub code : ℕ
  pub version : ℕ

-- from the comma on
unfoldable pub device_version : Parser ℕ
device_version = do
  whitespace0
  tag (byte ",")
  whitespace0
  keyword (ascii "version")
  whitespace0
  v ← positive_integer
  whitespace0
  tag (byte ";")
  ret v

unfoldable pub device_type : Parser DeviceType
device_type = do
  n ← two_keywords_name (ascii "device") (ascii "type")
  whitespace0
  tag (byte "=")
  whitespace0
  c ← positive_integer
  v ← device_version
  ret (record { name = n; code = c; version = v })

-- `default_attribute_value`, parser.rs line 1101
pub data Default : Type 0 where
  number : ℕ → Default
  signed_number : Signed → Default
  truth : Bool → Default
  text : Span → Default

unfoldable pub value_tries : Parser Default
value_tries =
    mapped positive_integer number or
    mapped signed_integer signed_number or
    (keyword (ascii "true") >> ret (truth true)) or
    (keyword (ascii "false") >> ret (truth false)) or
    mapped default_string text

unfoldable pub default_attribute_value : Parser Default
default_attribute_value = do
  keyword (ascii "default")
  whitespace0
  tag (byte "=")
  whitespace0
  value_tries

-- `attribute_handling_type`, parser.rs line 1171: ram, callback, persist = 0 to 2
unfoldable pub attribute_handling_type : Parser ℕ
attribute_handling_type = (keyword (ascii "ram") >> ret 0) or (keyword (ascii "callback") >> ret 1) or (keyword (ascii "persist") >> ret 2)

-- `attribute_instantiation`, parser.rs line 1181
pub record AttributeInstance : Type 0 where
  pub handling : ℕ
  pub name : Word
  pub default : Option Default

unfoldable pub attribute_instantiation : Parser AttributeInstance
attribute_instantiation = do
  h ← attribute_handling_type
  whitespace1
  keyword (ascii "attribute")
  whitespace1
  n ← parse_id
  v ← opt (whitespace1 >> default_attribute_value)
  whitespace0
  tag (byte ";")
  ret (record { handling = h; name = n; default = v })

-- `cluster_instantiation`, parser.rs line 1200
pub data Instance : Type 0 where
  attribute_instance : AttributeInstance → Instance
  command_instance event_instance : Word → Instance

unfoldable pub instance_tries : ℕ → Parser (Tried Instance)
instance_tries q =
    intercept q (mapped attribute_instantiation attribute_instance)
    λ q. intercept q (mapped (named_after (ascii "handle") (ascii "command")) command_instance)
    λ q. intercept q (mapped (named_after (ascii "emits") (ascii "event")) event_instance)
    λ q. fail_at q

pub record Instantiation : Type 0 where
  pub name : Word
  pub instances : List Instance

-- a cluster instantiation up to its instances
unfoldable pub instantiation_head : Parser Word
instantiation_head = do
  whitespace0
  n ← two_keywords_name (ascii "server") (ascii "cluster")
  whitespace0
  ret n

unfoldable pub cluster_instantiation : Parser Instantiation
cluster_instantiation = do
  n ← instantiation_head
  l ← deep_braces instance_tries
  ret (record { name = n; instances = l })

-- `endpoint`, parser.rs line 1275
pub data Part : Type 0 where
  device : DeviceType → Part
  binding : Word → Part
  instantiation : Instantiation → Part

unfoldable pub part_tries : ℕ → Parser (Tried Part)
part_tries q =
    intercept q (mapped device_type device)
    λ q. intercept q (mapped (whitespace0 >> named_after (ascii "binding") (ascii "cluster")) binding)
    λ q. intercept q (mapped cluster_instantiation instantiation)
    λ q. fail_at q

pub record Endpoint : Type 0 where
  pub id : ℕ
  pub parts : List Part

-- an endpoint up to its parts
unfoldable pub endpoint_head : Parser ℕ
endpoint_head = do
  whitespace0
  keyword (ascii "endpoint")
  whitespace1
  n ← positive_integer
  whitespace0
  ret n

unfoldable pub endpoint : Parser Endpoint
endpoint = do
  n ← endpoint_head
  l ← deep_braces part_tries
  ret (record { id = n; parts = l })
