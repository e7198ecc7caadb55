-- Words as bytes, the most significant first, and what writing them leaves in a buffer.
use Rattle.std.specs.Prelude.{ℕ, zero, suc, ◌+◌, ◌*◌, ◌^◌, ◌/◌, ◌%◌, List, [], ◌∷◌, ◌++◌, length, take, drop}

-- a list with xs written over it at a place
unfoldable pub put : ℕ → List ℕ → List ℕ → List ℕ
put at xs l = take at l ++ (xs ++ drop (at + length xs) l)

-- what a function makes of each element, one after the other
unfoldable pub each : {A B : Type 0} → (A → List B) → List A → List B
each f [] = []
each f (a ∷ l) = f a ++ each f l

-- the n low bytes of a number, the most significant first
unfoldable pub big_endian : ℕ → ℕ → List ℕ
big_endian zero w = []
big_endian (suc n) w = big_endian n (w / 256) ++ (w % 256 ∷ [])

-- the number that bytes stand for, the most significant first
unfoldable pub from_big_endian : List ℕ → ℕ
from_big_endian [] = 0
from_big_endian (x ∷ l) = x * 256 ^ length l + from_big_endian l

unfoldable pub words_bytes : List ℕ → List ℕ
words_bytes l = each (big_endian 8) l
