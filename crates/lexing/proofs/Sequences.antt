-- Sequences whose first step is known.
use Prim.Native.Nat.{ℕ}
use mathlib.Core.Path.{◌≡◌}
use mathlib.Core.List.{List}
use Rattle.lexing.specs.reply.{ok, fail, stop, Parser, ◌>>=◌, ◌>>◌}

pub bind_fail : {A B : Type 0} (m : Parser A) (k : A → Parser B) {b p : ℕ} {u : List ℕ} → m b u ≡ fail p → (m >>= k) b u ≡ fail p
unfolding ◌>>=◌
bind_fail m k e = rw (e, ◌>>=◌)

pub then_fail : {A B : Type 0} (m : Parser A) (k : Parser B) {b p : ℕ} {u : List ℕ} → m b u ≡ fail p → (m >> k) b u ≡ fail p
unfolding ◌>>◌
then_fail m k e = bind_fail m (λ a. k) e

pub bind_stop : {A B : Type 0} (m : Parser A) (k : A → Parser B) {b n p : ℕ} {u : List ℕ} → m b u ≡ stop n p → (m >>= k) b u ≡ stop n p
unfolding ◌>>=◌
bind_stop m k e = rw (e, ◌>>=◌)

pub bind_ok : {A B : Type 0} (m : Parser A) (k : A → Parser B) {b c : ℕ} {u r : List ℕ} {a : A} → m b u ≡ ok a c r → (m >>= k) b u ≡ k a c r
unfolding ◌>>=◌
bind_ok m k e = rw (e, ◌>>=◌)

pub then_ok : {A B : Type 0} (m : Parser A) (k : Parser B) {b c : ℕ} {u r : List ℕ} {a : A} → m b u ≡ ok a c r → (m >> k) b u ≡ k c r
unfolding ◌>>◌
then_ok m k e = bind_ok m (λ a. k) e
