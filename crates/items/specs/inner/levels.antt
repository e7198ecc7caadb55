-- What the readers of levels and of an access list promise.
use Rattle.std.specs.Prelude.{ℕ, ◌-◌, List, drop, Ok}
use Rattle.lexing.specs.bytes.{ascii, byte}
use Rattle.lexing.specs.reply.{Parser, ret, ◌>>◌, opt}
use Rattle.lexing.specs.words.{keyword, tag}
use Rattle.lexing.specs.blanks.{whitespace0}
use Rattle.lexing.specs.answers.{Rest, ReadTo, after_blanks, Read}
use Rattle.items.specs.members.{access_privilege, or_else, access_to}
use Rattle.items.specs.clusters.{mapped}
use Rattle.items.specs.answers.{privilege_number}
use Rattle.items.specs.declared.levels.Privilege.{Privilege}

-- a keyword that stands for a number, or a level by its number
unfoldable pub numbered : List ℕ → ℕ → Parser ℕ
numbered k v = keyword k >> ret v

abbrev pub LevelTo : {A : Type 0} → (A → ℕ) → Parser ℕ → Read A → ℕ → List ℕ → Type 0
LevelTo f m r b u = ReadTo (λ b u v. f v) (λ b v c. Unit {0}) m r b u

abbrev pub LevelBy : {A : Type 0} → List ℕ → A → Read A → ℕ → List ℕ → Type 0
LevelBy {A} k v r b u = (f : A → ℕ) → LevelTo f (numbered k (f v)) r b u

-- the same from an offset c of a part
pub record LevelAt {A : Type 0} (f : A → ℕ) (m : Parser ℕ) (r : Read A) (b : ℕ) (u : List ℕ) (c : ℕ) : Type 0 where
  pub at : Rest b u c (drop (c - b) u)
  pub to : LevelTo f m r c (drop (c - b) u)

-- what the privileges of attributes, events and commands have in common
abbrev pub access_opening : Parser (Unit {0})
access_opening = do
  whitespace0
  keyword (ascii "access")
  whitespace0
  tag (byte "(")

abbrev pub colon_privilege : Parser ℕ
colon_privilege = do
  tag (byte ":")
  whitespace0
  access_privilege

-- a privilege in parentheses, after blanks; it may be absent, and is z then
abbrev pub PrivilegeTo : List ℕ → Privilege → Privilege × ℕ → ℕ → List ℕ → Type 0
PrivilegeTo k z r b u = LevelTo privilege_number (mapped (opt (after_blanks (access_to k))) (or_else (privilege_number z))) (Ok r) b u
