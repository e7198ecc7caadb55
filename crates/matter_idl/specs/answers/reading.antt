-- What the verdict on a part and on a whole text says, as that of the definition.
use Rattle.std.specs.Prelude.{ℕ, ◌+◌, ◌-◌, ◌*◌, ◌≤◌, ◌≡◌, List, length, drop, Result, Ok, Err}
use Rattle.lexing.specs.reply.{ok}
use Rattle.lexing.specs.outcomes.{part_numbers, text_numbers, Among}
use Rattle.lexing.specs.answers.{number_of, Lost}
use Rattle.lexing.specs.declared.answers.Refusal.TheVariants.{NoItem}
use Rattle.lexing.specs.declared.answers.LostBy.TheVariants.{Fail, Stop}
use Rattle.items.specs.items.{Item}
use Rattle.items.specs.layout.{layout, word_count, text_limit}
use Rattle.matter_idl.specs.hoisting.{Tables, hoisted}
use Rattle.matter_idl.specs.reading.{all_items, accepted, turned_down, verdict_at, verdict}
use Rattle.matter_idl.specs.declared.reading.Refused.{Refused}

-- document 01's refusal of what is lost: a failure is that of no item
abbrev pub refused_by : Lost → Refused
refused_by (Fail p) = record { refusal = NoItem; value = p }
refused_by (Stop n p) = record { refusal = n; value = p }

-- the words of an accepted text, or why it is refused, as the code has them
abbrev pub Verdict : Type 0
Verdict = Result ℕ Refused

-- a part from the offset b on is accepted, with the words of its items, whatever ids were met before them
pub record AcceptedAt (n b : ℕ) (u : List ℕ) : Type 0 where
  pub items : List Item
  pub next : ℕ
  pub is : verdict_at b u ≡ accepted items
  pub reads : ok items next (drop (next - b) u) ≡ all_items b u
  pub words : (t : Tables) → word_count layout (hoisted t items) ≡ n
  pub few : n ≤ 8 * length u

-- or it is refused, by a number of a part, at a place in it
pub record RefusedAt (k v b : ℕ) (u : List ℕ) : Type 0 where
  pub is : verdict_at b u ≡ turned_down k v
  pub number : Among part_numbers k
  pub from : b ≤ v
  pub inside : v ≤ b + length u

abbrev pub VerdictAtTo : Verdict → ℕ → List ℕ → Type 0
VerdictAtTo (Ok n) b u = AcceptedAt n b u
VerdictAtTo (Err r) b u = RefusedAt (number_of r.refusal) r.value b u

-- a whole text is accepted within the limit
pub record AcceptedTo (n : ℕ) (u : List ℕ) : Type 0 where
  pub short : length u ≤ text_limit
  pub whole : AcceptedAt n 0 u
  pub is : verdict u ≡ accepted whole.items

-- or it is refused, by a number and a value that a result has room for
pub record RefusedTo (k v : ℕ) (u : List ℕ) : Type 0 where
  pub is : verdict u ≡ turned_down k v
  pub number : Among text_numbers k
  pub value : v ≤ text_limit

abbrev pub VerdictTo : Verdict → List ℕ → Type 0
VerdictTo (Ok n) u = AcceptedTo n u
VerdictTo (Err r) u = RefusedTo (number_of r.refusal) r.value u
