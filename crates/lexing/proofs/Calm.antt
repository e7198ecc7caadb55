-- Parsers that never stop: a failure of one is caught by `opt` wherever it is.
use mathlib.Core.Path.{◌≡◌, refl}
use mathlib.Core.Bool.{Bool, true, false, ◌&&◌}
use mathlib.Core.Option.{none}
use mathlib.Core.List.{List, [], ◌∷◌}
use Prim.Native.Nat.{ℕ, zero, suc, ◌-◌}
use native.Mathlib.Omega.{arith}
use lib.Dec.{eqb}
use lib.ListN.{length, drop}
use Rattle.lexing.specs.bytes.{slash, star, is_letter, is_space, in_line}
use Rattle.lexing.specs.runs.{take_while, take_while1, tag2}
use Rattle.lexing.specs.reply.{Reply, ok, fail, stop, Parser, ret, ◌>>=◌, ◌>>◌, catch, opt, no_nearer, ◌or◌, prepend, many_within, many0, iter_within, iter, keep, position}
use Rattle.lexing.specs.words.{Word, parse_id, keyword, any_keyword, tag}
use Rattle.lexing.specs.blanks.{Doc, line_comment, Until, found, never, until_close, closed, block_comment, multispace1, whitespace_group, one_blank, whitespace0}
use Rattle.lexing.specs.answers.{lost_reply, Lost}
use Rattle.lexing.proofs.Losses.{by_lost}
use Rattle.lexing.proofs.words.Laws.{keyword_says}
use Rattle.lexing.proofs.answers.Laws.{opt_fail}

abbrev Runs : {A : Type 0} → Reply A → Type 0
Runs (ok a c r) = Unit {0}
Runs (fail p) = Unit {0}
Runs (stop n p) = ⊥

pub record Calm {A : Type 0} (m : Parser A) : Type 0 where
  pub runs : (b : ℕ) (u : List ℕ) → Runs (m b u)

-- what is lost is absent
pub calm_absent : {A : Type 0} {m : Parser A} → Calm m → (l : Lost) {b : ℕ} {u : List ℕ} → lost_reply l ≡ m b u → ok none b (drop (b - b) u) ≡ opt m b u
calm_absent {A} {m} w l {b} {u} =
    by_lost
    (λ l. lost_reply l ≡ m b u → ok none b (drop (b - b) u) ≡ opt m b u)
    (λ p e. let z : b - b ≡ 0 = omega arith in rw z (opt_fail m b u p e))
    (λ n p e. absurd (rw (← e) at (w.runs b u)))
    l

module _ {A : Type 0} where
  pub calm_ret : (a : A) → Calm (ret a)
  unfolding ret
  calm_ret a = record { runs = λ b u. tt }

  pub calm_catch : {m : Parser A} {k : ℕ → Parser A} → Calm m → ((p : ℕ) → Calm (k p)) → Calm (catch m k)
  unfolding catch
  calm_catch {m} {k} v w = record { runs = λ b u. go b u (m b u) refl (v.runs b u) }
    where
      go : (b : ℕ) (u : List ℕ) (x : Reply A) → m b u ≡ x → Runs x → Runs (catch m k b u)
      go b u (ok a c r) e i = rw (e, catch) tt
      go b u (fail p) e i = rw (e, catch) ((w p).runs b u)
      go b u (stop n p) e i = absurd i

  runs_further : (p : ℕ) (x : Reply A) → Runs x → Runs (no_nearer p x)
  unfolding no_nearer
  runs_further p (ok a c r) i = tt
  runs_further p (fail q) i = tt
  runs_further p (stop n q) i = absurd i

  pub calm_or : {m k : Parser A} → Calm m → Calm k → Calm (m or k)
  unfolding ◌or◌
  calm_or {m} {k} v w = record { runs = λ b u. go b u (m b u) refl (v.runs b u) }
    where
      go : (b : ℕ) (u : List ℕ) (x : Reply A) → m b u ≡ x → Runs x → Runs ((m or k) b u)
      go b u (ok a c r) e i = rw (e, ◌or◌) tt
      go b u (fail p) e i = rw (e, ◌or◌) (runs_further p (k b u) (w.runs b u))
      go b u (stop n p) e i = absurd i

  runs_prepend : (a : A) (x : Reply (List A)) → Runs x → Runs (prepend a x)
  unfolding prepend
  runs_prepend a (ok l c r) i = tt
  runs_prepend a (fail p) i = tt
  runs_prepend a (stop n p) i = absurd i

  within_runs : {m : Parser A} → Calm m → (n b : ℕ) (u : List ℕ) → Runs (many_within n m b u)
  unfolding many_within
  within_runs w zero b u = tt
  within_runs {m} w (suc n) b u = go (m b u) refl (w.runs b u) (within_runs w n)
    where
      go : (x : Reply A) → m b u ≡ x → Runs x → ((b : ℕ) (u : List ℕ) → Runs (many_within n m b u)) → Runs (many_within (suc n) m b u)
      go (ok a c r) e i ih = rw (e, many_within) (runs_prepend a (many_within n m c r) (ih c r))
      go (fail p) e i ih = rw (e, many_within) tt
      go (stop k p) e i ih = absurd i

  pub calm_many0 : {m : Parser A} → Calm m → Calm (many0 m)
  unfolding many0
  calm_many0 w = record { runs = λ b u. within_runs w (suc (length u)) b u }

  iter_runs : {f : A → Parser A} (g : ℕ → A → A) → ((x : A) → Calm (f x)) → (n : ℕ) (x : A) (b : ℕ) (u : List ℕ) → Runs (iter_within n f g x b u)
  unfolding iter_within
  iter_runs g w zero x b u = tt
  iter_runs {f} g w (suc n) x b u = go (f x b u) refl ((w x).runs b u) (iter_runs g w n)
    where
      go : (y : Reply A) → f x b u ≡ y → Runs y → ((x : A) (b : ℕ) (u : List ℕ) → Runs (iter_within n f g x b u)) → Runs (iter_within (suc n) f g x b u)
      go (ok a c r) e i ih = rw (e, iter_within) (ih a c r)
      go (fail p) e i ih = rw (e, iter_within) tt
      go (stop k p) e i ih = absurd i

module _ {A B : Type 0} {m : Parser A} where
  pub calm_bind : {k : A → Parser B} → Calm m → ((a : A) → Calm (k a)) → Calm (m >>= k)
  unfolding ◌>>=◌
  calm_bind {k} v w = record { runs = λ b u. go b u (m b u) refl (v.runs b u) }
    where
      go : (b : ℕ) (u : List ℕ) (x : Reply A) → m b u ≡ x → Runs x → Runs ((m >>= k) b u)
      go b u (ok a c r) e i = rw (e, ◌>>=◌) ((w a).runs c r)
      go b u (fail p) e i = rw (e, ◌>>=◌) tt
      go b u (stop n p) e i = absurd i

  pub calm_then : {k : Parser B} → Calm m → Calm k → Calm (m >> k)
  unfolding ◌>>◌
  calm_then v w = calm_bind v (λ a. w)

-- tokens
pub calm_tag : (t : ℕ) → Calm (tag t)
unfolding tag
calm_tag t = record { runs = go }
  where
    by : (b x : ℕ) (u : List ℕ) (y : Bool) → eqb x t ≡ y → Runs (tag t b (x ∷ u))
    by b x u true e = rw (e, tag) tt
    by b x u false e = rw (e, tag) tt

    go : (b : ℕ) (u : List ℕ) → Runs (tag t b u)
    go b [] = tt
    go b (x ∷ u) = by b x u (eqb x t) refl

pub calm_keyword : (k : List ℕ) → Calm (keyword k)
calm_keyword k = record { runs = λ b u. go b u (keyword k b u) refl }
  where
    go : (b : ℕ) (u : List ℕ) (x : Reply Word) → keyword k b u ≡ x → Runs (keyword k b u)
    go b u (ok w c r) e = rw e tt
    go b u (fail p) e = rw e tt
    go b u (stop n p) e = absurd (rw e at (keyword_says k b u))

pub calm_any : (ks : List (List ℕ)) → Calm (any_keyword ks)
unfolding any_keyword
calm_any [] = record { runs = λ b u. tt }
calm_any (k ∷ ks) = calm_or (calm_keyword k) (calm_any ks)

calm_run : (f : ℕ → Bool) → Calm (take_while1 f)
unfolding take_while1 take_while
calm_run f = record { runs = go }
  where
    by : (b x : ℕ) (u : List ℕ) (y : Bool) → f x ≡ y → Runs (take_while1 f b (x ∷ u))
    by b x u true e = rw (e, take_while1) tt
    by b x u false e = rw (e, take_while1) tt

    go : (b : ℕ) (u : List ℕ) → Runs (take_while1 f b u)
    go b [] = tt
    go b (x ∷ u) = by b x u (f x) refl

calm_tag2 : (s t : ℕ) → Calm (tag2 s t)
unfolding tag2
calm_tag2 s t = record { runs = go }
  where
    by : (b x y : ℕ) (u : List ℕ) (z : Bool) → (eqb x s && eqb y t) ≡ z → Runs (tag2 s t b (x ∷ y ∷ u))
    by b x y u true e = rw (e, tag2) tt
    by b x y u false e = rw (e, tag2) tt

    go : (b : ℕ) (u : List ℕ) → Runs (tag2 s t b u)
    go b [] = tt
    go b (x ∷ []) = tt
    go b (x ∷ y ∷ u) = by b x y u (eqb x s && eqb y t) refl

pub calm_id : Calm parse_id
unfolding parse_id position take_while
calm_id = calm_bind (record { runs = λ b u. tt }) λ o. calm_bind (calm_run is_letter) λ v. calm_bind (record { runs = λ b u. tt }) λ w. calm_ret _

-- blanks
calm_line : Calm line_comment
unfolding line_comment
calm_line = calm_then (calm_tag2 slash slash) (calm_then (calm_run in_line) (calm_ret _))

closed_runs : (b : ℕ) (v : List ℕ) (x : Until) → Runs (closed b v x)
unfolding closed
closed_runs b v (found n r) = tt
closed_runs b v never = tt

calm_block : Calm block_comment
unfolding block_comment
calm_block = record { runs = go }
  where
    by : (b x y : ℕ) (u : List ℕ) (t : Bool) → (eqb x slash && eqb y star) ≡ t → Runs (block_comment b (x ∷ y ∷ u))
    by b x y u true e = rw (e, block_comment) (closed_runs b u (until_close u))
    by b x y u false e = rw (e, block_comment) tt

    go : (b : ℕ) (u : List ℕ) → Runs (block_comment b u)
    go b [] = tt
    go b (x ∷ []) = tt
    go b (x ∷ y ∷ u) = by b x y u (eqb x slash && eqb y star) refl

calm_space : Calm multispace1
unfolding multispace1
calm_space = calm_then (calm_run is_space) (calm_ret _)

calm_blank : (d : Doc) → Calm (one_blank d)
unfolding one_blank whitespace_group
calm_blank d = calm_bind (calm_catch calm_line λ p. calm_catch calm_block λ q. calm_space) λ g. calm_ret _

pub calm_blanks : Calm whitespace0
unfolding whitespace0 iter
calm_blanks = record { runs = λ b u. iter_runs keep calm_blank (suc (length u)) _ b u }
