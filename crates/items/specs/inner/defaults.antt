-- What the readers of default values promise.
use Rattle.lexing.specs.declared.answers.LostBy.TheVariants.{Fail, Stop}
use Rattle.std.specs.Prelude.{ℕ, ◌+◌, ◌<◌, ◌≡◌, List, Ok, Err}
use Rattle.std.proofs.Math.Option.{Option, none, some}
use Rattle.lexing.specs.reply.{Parser, ◌>>◌, opt, fail}
use Rattle.lexing.specs.integers.{positive_integer, signed_integer}
use Rattle.lexing.specs.blanks.{whitespace1}
use Rattle.lexing.specs.strings.{span}
use Rattle.lexing.specs.answers.{ReadTo, Read, signed_of}
use Rattle.items.specs.clusters.{mapped}
use Rattle.items.specs.endpoints.{Default as DefaultOf, number, signed_number, truth, text, default_attribute_value}
use Rattle.items.specs.declared.defaults.DefaultValue.{DefaultValue}
use Rattle.items.specs.declared.defaults.DefaultValue.TheVariants.{Absent, Number, Signed, Truth, Text}

-- defaults, which may be absent
abbrev pub default_of : DefaultValue → Option DefaultOf
default_of Absent = none
default_of (Number n) = some (number n)
default_of (Signed s) = some (signed_number (signed_of s))
default_of (Truth t) = some (truth t)
default_of (Text s) = some (text (span s.start s.length))

-- a string's span ends before c
abbrev pub DefaultIn : DefaultValue → ℕ → Type 0
DefaultIn Absent c = Unit {0}
DefaultIn (Number n) c = Unit {0}
DefaultIn (Signed s) c = Unit {0}
DefaultIn (Truth t) c = Unit {0}
DefaultIn (Text s) c = s.start + s.length < c

-- one that is present
abbrev pub ValueTo : Parser DefaultOf → Read DefaultValue → ℕ → List ℕ → Type 0
ValueTo m r b u = ReadTo (λ b u d. default_of d) (λ b d c. DefaultIn d c) (mapped m some) r b u

-- the answer of a default that may be absent at b: where it fails nothing is read
abbrev pub optional_value : Read DefaultValue → ℕ → Read DefaultValue
optional_value (Ok r) b = Ok r
optional_value (Err (Fail p)) b = Ok (Absent, b)
optional_value (Err (Stop n p)) b = Err (Stop n p)

abbrev pub OptionalTo : Parser DefaultOf → Read DefaultValue → ℕ → List ℕ → Type 0
OptionalTo m r b u = ReadTo (λ b u d. default_of d) (λ b d c. DefaultIn d c) (opt m) r b u

abbrev pub DefaultTo : Read DefaultValue → ℕ → List ℕ → Type 0
DefaultTo r b u = OptionalTo (whitespace1 >> default_attribute_value) r b u

-- no number is at b, as the value of a default
pub record NoNumberAt (b : ℕ) (u : List ℕ) : Type 0 where
  pub unsigned : fail b ≡ mapped positive_integer number b u
  pub with_sign : fail b ≡ mapped signed_integer signed_number b u
