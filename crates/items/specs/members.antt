-- Events, commands and attributes.
use Rattle.std.specs.Prelude.{ℕ, List, [], ◌∷◌}
use Rattle.std.proofs.Math.Option.{Option, none, some}
use Rattle.lexing.specs.bytes.{ascii, byte}
use Rattle.lexing.specs.reply.{Parser, ret, ◌>>=◌, ◌>>◌, opt, ◌or◌, many0, catch, stop_at, pick}
use Rattle.lexing.specs.words.{Word, bytes_of, offset_of, parse_id, keyword, any_keyword, tag}
use Rattle.lexing.specs.integers.{positive_integer}
use Rattle.lexing.specs.blanks.{Doc, whitespace0, whitespace1}
use Rattle.lexing.specs.word_sets.{same_bytes, set_flags, event_set, command_set, attribute_set}
use Rattle.items.specs.structs.{StructField, parse_struct_field, struct_fields}

-- `access_privilege`, parser.rs line 742: view, operate, manage, administer = 0 to 3
unfoldable pub access_privilege : Parser ℕ
access_privilege =
    (keyword (ascii "view") >> ret 0) or
    (keyword (ascii "operate") >> ret 1) or
    (keyword (ascii "manage") >> ret 2) or
    (keyword (ascii "administer") >> ret 3)

-- `unwrap_or`
unfoldable pub or_else : ℕ → Option ℕ → ℕ
or_else z none = z
or_else z (some n) = n

-- `event_priority`, parser.rs line 756: critical, info, debug = 0 to 2
unfoldable pub event_priority : Parser ℕ
event_priority = (keyword (ascii "info") >> ret 1) or (keyword (ascii "critical") >> ret 0) or (keyword (ascii "debug") >> ret 2)

-- `parse_event_after_doc_maturity`, parser.rs line 777
pub record Event : Type 0 where
  pub doc : Doc
  pub maturity : ℕ
  pub fabric_sensitive : ℕ
  pub priority : ℕ
  pub access : ℕ
  pub name : Word
  pub code : ℕ
  pub fields : List StructField

-- `access(read: ..)` of an event, `access(invoke: ..)` of a command; no blank before the colon
unfoldable pub access_to : List ℕ → Parser ℕ
access_to k = do
  keyword (ascii "access")
  whitespace0
  tag (byte "(")
  whitespace0
  keyword k
  tag (byte ":")
  whitespace0
  p ← access_privilege
  whitespace0
  tag (byte ")")
  ret p

-- up to the name
pub record EventQualities : Type 0 where
  pub sensitive : ℕ
  pub rank : ℕ
  pub privilege : ℕ

unfoldable pub event_qualities : Parser EventQualities
event_qualities = do
  q ← set_flags event_set
  whitespace0
  y ← event_priority
  whitespace1
  keyword (ascii "event")
  whitespace1
  a ← opt (access_to (ascii "read"))
  ret (record { sensitive = q; rank = y; privilege = or_else 0 a })

-- up to the fields
pub record EventHead : Type 0 where
  pub sensitive : ℕ
  pub rank : ℕ
  pub privilege : ℕ
  pub id : Word
  pub number : ℕ

unfoldable pub event_head : Parser EventHead
event_head = do
  q ← event_qualities
  whitespace0
  n ← parse_id
  whitespace0
  tag (byte "=")
  whitespace0
  c ← positive_integer
  whitespace0
  ret (record { sensitive = q.sensitive; rank = q.rank; privilege = q.privilege; id = n; number = c })

unfoldable pub parse_event_after_doc_maturity : Doc → ℕ → Parser Event
parse_event_after_doc_maturity d m = do
  h ← event_head
  fs ← struct_fields
  ret (record { doc = d; maturity = m; fabric_sensitive = h.sensitive; priority = h.rank; access = h.privilege; name = h.id; code = h.number; fields = fs })

-- `parse_command_after_doc_maturity`, parser.rs line 833; flags: timed, fabric
pub record Command : Type 0 where
  pub doc : Doc
  pub maturity : ℕ
  pub flags : ℕ
  pub access : ℕ
  pub name : Word
  pub input : Option Word
  pub output : Word
  pub code : ℕ

-- up to the name
pub record CommandHead : Type 0 where
  pub qualities : ℕ
  pub privilege : ℕ
  pub id : Word

abbrev pub invoke_access : Parser ℕ
invoke_access = whitespace0 >> access_to (ascii "invoke")

unfoldable pub command_head : Parser CommandHead
command_head = do
  q ← set_flags command_set
  whitespace0
  keyword (ascii "command")
  a ← opt invoke_access
  whitespace0
  n ← parse_id
  ret (record { qualities = q; privilege = or_else 1 a; id = n })

-- `(input) : output`
pub record CommandTypes : Type 0 where
  pub from : Option Word
  pub to : Word

unfoldable pub command_types : Parser CommandTypes
command_types = do
  whitespace0
  tag (byte "(")
  whitespace0
  i ← opt parse_id
  whitespace0
  tag (byte ")")
  whitespace0
  tag (byte ":")
  whitespace0
  o ← parse_id
  ret (record { from = i; to = o })

unfoldable pub parse_command_after_doc_maturity : Doc → ℕ → Parser Command
parse_command_after_doc_maturity d m = do
  h ← command_head
  t ← command_types
  whitespace0
  tag (byte "=")
  whitespace0
  c ← positive_integer
  whitespace0
  tag (byte ";")
  ret (record { doc = d; maturity = m; flags = h.qualities; access = h.privilege; name = h.id; input = t.from; output = t.to; code = c })

-- `attribute_access`, parser.rs line 890: a list of `read` and `write`, with blanks allowed around everything
pub record Access : Type 0 where
  pub operation : Word
  pub granted : ℕ

unfoldable pub access_entry : Parser Access
access_entry = do
  whitespace0
  k ← any_keyword (ascii "read" ∷ ascii "write" ∷ [])
  whitespace0
  tag (byte ":")
  whitespace0
  p ← access_privilege
  whitespace0
  ret (record { operation = k; granted = p })

unfoldable pub comma : Parser (Unit {0})
comma = do
  whitespace0
  tag (byte ",")
  whitespace0
  ret tt

-- nom's `separated_list0`: an element, then separator and element while both are there
unfoldable pub separated_list0 : {A : Type 0} → Parser (Unit {0}) → Parser A → Parser (List A)
separated_list0 s m = catch (do
  a ← m
  l ← many0 (s >> m)
  ret (a ∷ l)) (λ p. ret [])

unfoldable pub access_list : Parser (List Access)
access_list = do
  whitespace0
  keyword (ascii "access")
  whitespace0
  tag (byte "(")
  whitespace0
  l ← separated_list0 comma access_entry
  whitespace0
  tag (byte ")")
  ret l

-- the read and the write privilege
pub record Privileges : Type 0 where
  pub read : ℕ
  pub write : ℕ

-- of a repeated word the last wins; where a word is not in lower case the Rust panics: stop 6 at the first such word
unfoldable pub granted_by : Privileges → List Access → Parser Privileges
granted_by p [] = ret p
granted_by p (a ∷ l) =
    pick (same_bytes (bytes_of a.operation) (ascii "read")) (granted_by (record { read = a.granted; write = p.write }) l)
    (pick (same_bytes (bytes_of a.operation) (ascii "write")) (granted_by (record { read = p.read; write = a.granted }) l) (stop_at 6 (offset_of a.operation)))

-- read view, write operate
unfoldable pub default_privileges : Privileges
default_privileges = record { read = 0; write = 1 }

unfoldable pub listed : Option (List Access) → List Access
listed none = []
listed (some l) = l

unfoldable pub attribute_access : Parser Privileges
attribute_access = do
  l ← opt access_list
  granted_by default_privileges (listed l)

-- `parse_attribute_after_doc_maturity`, parser.rs line 941; flags: readonly, writeonly, nosubscribe, timedwrite
pub record Attribute : Type 0 where
  pub doc : Doc
  pub maturity : ℕ
  pub flags : ℕ
  pub privileges : Privileges
  pub field : StructField

unfoldable pub parse_attribute_after_doc_maturity : Doc → ℕ → Parser Attribute
parse_attribute_after_doc_maturity d m = do
  q ← set_flags attribute_set
  whitespace0
  keyword (ascii "attribute")
  whitespace1
  p ← attribute_access
  whitespace0
  f ← parse_struct_field
  whitespace0
  tag (byte ";")
  ret (record { doc = d; maturity = m; flags = q; privileges = p; field = f })
