-- Where a text is refused: the place of a failure and of a stop lies in the part that is read, and a stop's number is 4, 5 or 6.
use Prim.Native.Nat.{ℕ, zero, suc, ◌+◌, ◌≤◌, max}
use mathlib.Core.Path.{◌≡◌, refl}
use mathlib.Core.Bool.{Bool, true, false, ◌&&◌}
use mathlib.Core.List.{List, [], ◌∷◌}
use native.Mathlib.Omega.{arith}
use lib.Dec.{leb, eqb}
use Rattle.lexing.specs.outcomes.{stop_numbers, Among}
use lib.ListN.{length}
use Rattle.lexing.specs.bytes.{quote, backslash, slash, star, plus, minus, is_letter, is_digit, is_hex, is_space, in_line}
use Rattle.lexing.specs.runs.{take_while, take_while1, tag2}
use Rattle.lexing.specs.reply.{Reply, ok, fail, stop, Parser, ret, ◌>>=◌, ◌>>◌, opt, no_nearer, ◌or◌, prepend, many_within, many0, iter_within, iter, keep, position, fail_at, stop_at, catch, pick}
use Rattle.lexing.specs.words.{Word, parse_id, keyword, any_keyword, tag}
use Rattle.lexing.specs.integers.{u64_max, fitting, hex_integer, decimal_integer, positive_integer, largest, in_range, after_sign, signed_integer}
use Rattle.lexing.specs.blanks.{line_comment, Until, found, never, until_close, closed, block_comment, multispace1, whitespace_group, one_blank, whitespace0, whitespace1}
use Rattle.lexing.specs.strings.{Escape, allowed, forbidden, panics, string_rest, span_from, string_with, quoted_string, default_string}
use Rattle.lexing.specs.word_sets.{next_word, set_step, keywords_set, set_flags}
use Rattle.lexing.specs.names.{two_keywords_name, named_after}
use Rattle.lexing.specs.answers.{Rest}
use Rattle.lexing.proofs.Onward.{Ends, Onward, advances_onward, run_advances, tag2_advances, mark_advances, parse_id_advances, group_advances}
use Rattle.lexing.proofs.TokenRuns.{id_nil, id_yes, id_no}
use Rattle.lexing.proofs.Slicing.{walks}
use Rattle.lexing.proofs.Locality.{chain_position}
use Rattle.lexing.proofs.TokenLocality.{keyword_chain, whitespace0_chain, whitespace1_chain, one_blank_chain, set_step_chain}
use Rattle.lexing.proofs.Composed.{rest_on}
use Rattle.lexing.proofs.names.Laws.{two_keywords_name_on}
use Rattle.lexing.proofs.Truth.{Read, FailsAt}

-- of every value
abbrev Any : {A : Type 0} → A → Type 0
Any a = Unit {0}

module _ (s : ℕ) (t : List ℕ) where
  pub record InPart (p : ℕ) : Type 0 where
    pub after : s ≤ p
    pub before : p ≤ s + length t

  abbrev pub RefusedIn : {A : Type 0} → Reply A → Type 0
  RefusedIn (ok a c r) = Unit {0}
  RefusedIn (fail p) = InPart p
  RefusedIn (stop n p) = InPart p × Among stop_numbers n

  pub record Placed {A : Type 0} (m : Parser A) : Type 0 where
    pub places : (b : ℕ) (u : List ℕ) → Rest s t b u → RefusedIn (m b u)

  prepend_in : {A : Type 0} (a : A) (x : Reply (List A)) → RefusedIn x → RefusedIn (prepend a x)
  unfolding prepend
  prepend_in a (ok l c r) i = tt
  prepend_in a (fail p) i = i
  prepend_in a (stop n p) i = i

  -- strings: from the byte at hand on, which is after the backslash where that has been seen
  abbrev seen_bytes : Bool → ℕ
  seen_bytes true = 1
  seen_bytes false = 0

  rest_in : (f : ℕ → Escape) (z : Bool) (b : ℕ) (u : List ℕ) → s ≤ b → b + length u + seen_bytes z ≤ s + length t → RefusedIn (string_rest f z b u)
  unfolding string_rest
  rest_in f true b [] h k = record { after = h; before = omega arith }
  rest_in f false b [] h k = record { after = h; before = omega arith }
  rest_in f true b (x ∷ u) h k = go (f x) refl (rest_in f false (suc (suc b)) u (omega arith) (omega arith))
    where
      go : (y : Escape) → f x ≡ y → RefusedIn (string_rest f false (suc (suc b)) u) → RefusedIn (string_rest f true b (x ∷ u))
      go allowed e ih = rw (e, string_rest) ih
      go forbidden e ih = rw (e, string_rest) (record { after = h; before = omega arith })
      go panics e ih = rw (e, string_rest) (record { after = h; before = omega arith }, refl)
  rest_in f false b (x ∷ u) h k = go (eqb x quote) refl (eqb x backslash) refl (rest_in f true b u h (omega arith)) (rest_in f false (suc b) u (omega arith) (omega arith))
    where
      go : (y : Bool) → eqb x quote ≡ y → (z : Bool) → eqb x backslash ≡ z → RefusedIn (string_rest f true b u) → RefusedIn (string_rest f false (suc b) u) → RefusedIn (string_rest f false b (x ∷ u))
      go true e z i j l = rw (e, string_rest) tt
      go false e true i j l = rw (e, i, string_rest) j
      go false e false i j l = rw (e, i, string_rest) l

  span_in : (b : ℕ) (x : Reply ℕ) → RefusedIn x → RefusedIn (span_from b x)
  unfolding span_from
  span_in b (ok e c r) h = tt
  span_in b (fail p) h = h
  span_in b (stop n p) h = h

module _ {s : ℕ} {t : List ℕ} where
  pub here : (b : ℕ) (u : List ℕ) → Rest s t b u → InPart s t b
  here b u h = record { after = h.from; before = omega (arith, h.size) }

  pub furthest : (p q : ℕ) → InPart s t p → InPart s t q → InPart s t (max p q)
  furthest p q h k = record { after = omega (arith, h.after); before = omega (arith, h.before, k.before) }

  pub fails_in : {A : Type 0} {m : Parser A} {p : ℕ} → Placed s t m → FailsAt s t m p → InPart s t p
  fails_in w h = rw h.refuses at (w.places h.base h.rest h.stands)

  module _ {A : Type 0} where
    pub placed_ret : (a : A) → Placed s t (ret a)
    unfolding ret
    placed_ret a = record { places = λ b u h. tt }

    pub placed_fail : (p : ℕ) → InPart s t p → Placed s t (fail_at {A = A} p)
    unfolding fail_at
    placed_fail p k = record { places = λ b u h. k }

    pub placed_stop : (n p : ℕ) → InPart s t p → Among stop_numbers n → Placed s t (stop_at {A = A} n p)
    unfolding stop_at
    placed_stop n p k i = record { places = λ b u h. (k, i) }

    pub placed_pick : {m k : Parser A} (z : Bool) → Placed s t m → Placed s t k → Placed s t (pick z m k)
    unfolding pick
    placed_pick true v w = v
    placed_pick false v w = w

    pub placed_catch : {m : Parser A} {k : ℕ → Parser A} → Placed s t m → ((p : ℕ) → InPart s t p → Placed s t (k p)) → Placed s t (catch m k)
    unfolding catch
    placed_catch {m} {k} v w = record { places = λ b u h. go b u h (m b u) refl (v.places b u h) }
      where
        go : (b : ℕ) (u : List ℕ) → Rest s t b u → (x : Reply A) → m b u ≡ x → RefusedIn s t x → RefusedIn s t (catch m k b u)
        go b u h (ok a c r) e i = rw (e, catch) tt
        go b u h (fail p) e i = rw (e, catch) ((w p i).places b u h)
        go b u h (stop n p) e i = rw (e, catch) i

    pub placed_opt : {m : Parser A} → Placed s t m → Placed s t (opt m)
    unfolding opt
    placed_opt {m} v = record { places = λ b u h. go b u (m b u) refl (v.places b u h) }
      where
        go : (b : ℕ) (u : List ℕ) (x : Reply A) → m b u ≡ x → RefusedIn s t x → RefusedIn s t (opt m b u)
        go b u (ok a c r) e i = rw (e, opt) tt
        go b u (fail p) e i = rw (e, opt) tt
        go b u (stop n p) e i = rw (e, opt) i

    further_in : (p : ℕ) (x : Reply A) → InPart s t p → RefusedIn s t x → RefusedIn s t (no_nearer p x)
    unfolding no_nearer
    further_in p (ok a c r) h i = tt
    further_in p (fail q) h i = furthest p q h i
    further_in p (stop n q) h i = i

    pub placed_or : {m k : Parser A} → Placed s t m → Placed s t k → Placed s t (m or k)
    unfolding ◌or◌
    placed_or {m} {k} v w = record { places = λ b u h. go b u h (m b u) refl (v.places b u h) }
      where
        go : (b : ℕ) (u : List ℕ) → Rest s t b u → (x : Reply A) → m b u ≡ x → RefusedIn s t x → RefusedIn s t ((m or k) b u)
        go b u h (ok a c r) e i = rw (e, ◌or◌) tt
        go b u h (fail p) e i = rw (e, ◌or◌) (further_in p (k b u) i (w.places b u h))
        go b u h (stop n p) e i = rw (e, ◌or◌) i

    many_within_lem : {m : Parser A} → Onward m → Placed s t m → (n b : ℕ) (u : List ℕ) → Rest s t b u → RefusedIn s t (many_within n m b u)
    unfolding many_within
    many_within_lem w v zero b u h = tt
    many_within_lem {m} w v (suc n) b u h = go (m b u) refl (w.onward b u) (v.places b u h) (many_within_lem w v n)
      where
        go : (x : Reply A) → m b u ≡ x → Ends b u x → RefusedIn s t x → ((b : ℕ) (u : List ℕ) → Rest s t b u → RefusedIn s t (many_within n m b u)) → RefusedIn s t (many_within (suc n) m b u)
        go (ok a c r) e p i ih = rw (e, many_within) (prepend_in s t a (many_within n m c r) (ih c r (rest_on a h p)))
        go (fail q) e p i ih = rw (e, many_within) tt
        go (stop k q) e p i ih = rw (e, many_within) i

    pub placed_many0 : {m : Parser A} → Onward m → Placed s t m → Placed s t (many0 m)
    unfolding many0
    placed_many0 w v = record { places = λ b u h. many_within_lem w v (suc (length u)) b u h }

  module _ {S : Type 0} (Q : S → Type 0) (f : S → Parser S) (g : ℕ → S → S) (w : (x : S) → Onward (f x)) (v : (x : S) → Q x → Placed s t (f x)) (k : (x y : S) → Read s t (s + length t) (f x) y → Q x → Q y) where
    iter_within_lem : (n : ℕ) (x : S) (b : ℕ) (u : List ℕ) → Q x → Rest s t b u → RefusedIn s t (iter_within n f g x b u)
    unfolding iter_within
    iter_within_lem zero x b u q h = tt
    iter_within_lem (suc n) x b u q h = go (f x b u) refl ((w x).onward b u) ((v x q).places b u h) (iter_within_lem n)
      where
        go : (y : Reply S) → f x b u ≡ y → Ends b u y → RefusedIn s t y → ((x : S) (b : ℕ) (u : List ℕ) → Q x → Rest s t b u → RefusedIn s t (iter_within n f g x b u)) → RefusedIn s t (iter_within (suc n) f g x b u)
        go (ok a c r) e p i ih = let z = rest_on a h p in rw (e, iter_within) (ih a c r (k x a (record { base = b; rest = u; stands = h; next = c; left = r; reads = e; before = omega (arith, z.size) }) q) z)
        go (fail j) e p i ih = rw (e, iter_within) tt
        go (stop l j) e p i ih = rw (e, iter_within) i

    pub placed_iter : (x : S) → Q x → Placed s t (iter f g x)
    unfolding iter
    placed_iter x q = record { places = λ b u h. iter_within_lem (suc (length u)) x b u q h }

  module _ {A B : Type 0} {m : Parser A} where
    pub placed_bind : {k : A → Parser B} → Onward m → Placed s t m → ((a : A) → Read s t (s + length t) m a → Placed s t (k a)) → Placed s t (m >>= k)
    unfolding ◌>>=◌
    placed_bind {k} w v l = record { places = λ b u h. go b u h (m b u) refl (w.onward b u) (v.places b u h) }
      where
        go : (b : ℕ) (u : List ℕ) → Rest s t b u → (x : Reply A) → m b u ≡ x → Ends b u x → RefusedIn s t x → RefusedIn s t ((m >>= k) b u)
        go b u h (ok a c r) e p i = let z = rest_on a h p in rw (e, ◌>>=◌) ((l a (record { base = b; rest = u; stands = h; next = c; left = r; reads = e; before = omega (arith, z.size) })).places c r z)
        go b u h (fail q) e p i = rw (e, ◌>>=◌) i
        go b u h (stop n q) e p i = rw (e, ◌>>=◌) i

    pub placed_then : {k : Parser B} → Onward m → Placed s t m → Placed s t k → Placed s t (m >> k)
    unfolding ◌>>◌
    placed_then w v l = placed_bind w v (λ a h. l)

    -- nothing is read after
    pub placed_last : (d : B) → Placed s t m → Placed s t (m >> ret d)
    unfolding ◌>>◌ ◌>>=◌ ret
    placed_last d v = record { places = λ b u h. go b u (m b u) refl (v.places b u h) }
      where
        go : (b : ℕ) (u : List ℕ) (x : Reply A) → m b u ≡ x → RefusedIn s t x → RefusedIn s t ((m >> ret d) b u)
        go b u (ok a c r) e i = rw (e, ◌>>◌, ◌>>=◌) tt
        go b u (fail p) e i = rw (e, ◌>>◌, ◌>>=◌) i
        go b u (stop n p) e i = rw (e, ◌>>◌, ◌>>=◌) i

  -- tokens: those that fail where they are
  pub placed_position : Placed s t position
  unfolding position
  placed_position = record { places = λ b u h. tt }

  pub position_in : (p : ℕ) → Read s t (s + length t) position p → InPart s t p
  unfolding position
  position_in p h = let e : ok h.base h.base h.rest ≡ ok p h.next h.left = h.reads in let z : h.base ≡ p = cc in rw (← z) (here h.base h.rest h.stands)

  placed_run : (f : ℕ → Bool) → Placed s t (take_while1 f)
  unfolding take_while1 take_while
  placed_run f = record { places = at }
    where
      at : (b : ℕ) (u : List ℕ) → Rest s t b u → RefusedIn s t (take_while1 f b u)
      at b [] h = here b [] h
      at b (x ∷ u) h = go (f x) refl
        where
          go : (z : Bool) → f x ≡ z → RefusedIn s t (take_while1 f b (x ∷ u))
          go true e = rw (e, take_while1) tt
          go false e = rw (e, take_while1) (here b (x ∷ u) h)

  placed_tag2 : (c d : ℕ) → Placed s t (tag2 c d)
  unfolding tag2
  placed_tag2 c d = record { places = at }
    where
      at : (b : ℕ) (u : List ℕ) → Rest s t b u → RefusedIn s t (tag2 c d b u)
      at b [] h = here b [] h
      at b (x ∷ []) h = here b (x ∷ []) h
      at b (x ∷ y ∷ u) h = go (eqb x c && eqb y d) refl
        where
          go : (z : Bool) → (eqb x c && eqb y d) ≡ z → RefusedIn s t (tag2 c d b (x ∷ y ∷ u))
          go true e = rw (e, tag2) tt
          go false e = rw (e, tag2) (here b (x ∷ y ∷ u) h)

  pub placed_word : Placed s t parse_id
  placed_word = record { places = at }
    where
      at : (b : ℕ) (u : List ℕ) → Rest s t b u → RefusedIn s t (parse_id b u)
      at b [] h = rw (id_nil b) (here b [] h)
      at b (x ∷ u) h = go (is_letter x) refl
        where
          go : (z : Bool) → is_letter x ≡ z → RefusedIn s t (parse_id b (x ∷ u))
          go true e = rw (id_yes b x u e) tt
          go false e = rw (id_no b x u e) (here b (x ∷ u) h)

  pub placed_tag : (c : ℕ) → Placed s t (tag c)
  unfolding tag
  placed_tag c = record { places = at }
    where
      at : (b : ℕ) (u : List ℕ) → Rest s t b u → RefusedIn s t (tag c b u)
      at b [] h = here b [] h
      at b (x ∷ u) h = go (eqb x c) refl
        where
          go : (z : Bool) → eqb x c ≡ z → RefusedIn s t (tag c b (x ∷ u))
          go true e = rw (e, tag) tt
          go false e = rw (e, tag) (here b (x ∷ u) h)

  pub keyword_in : (k : List ℕ) → Placed s t (keyword k)
  unfolding keyword
  keyword_in k = placed_bind (walks chain_position) placed_position λ p h. placed_bind (advances_onward parse_id_advances) placed_word λ w i. placed_pick _ (placed_ret w) (placed_fail p (position_in p h))

  pub any_keyword_in : (ks : List (List ℕ)) → Placed s t (any_keyword ks)
  unfolding any_keyword
  any_keyword_in [] = record { places = λ b u h. here b u h }
  any_keyword_in (k ∷ ks) = placed_or (keyword_in k) (any_keyword_in ks)

  -- integers
  fitting_in : (p v : ℕ) → InPart s t p → Placed s t (fitting p v)
  unfolding fitting
  fitting_in p v h = record { places = λ b u k. go b u (leb v u64_max) refl }
    where
      go : (b : ℕ) (u : List ℕ) (z : Bool) → leb v u64_max ≡ z → RefusedIn s t (fitting p v b u)
      go b u true e = rw (e, fitting) tt
      go b u false e = rw (e, fitting) (h, refl)

  hex_in : Placed s t hex_integer
  unfolding hex_integer
  hex_in =
      placed_bind (walks chain_position) placed_position λ p h.
      placed_then (advances_onward mark_advances) (placed_catch (placed_tag2 0x30 0x78) λ q i. placed_tag2 0x30 0x58)
      (placed_bind (advances_onward (run_advances is_hex)) (placed_run is_hex) λ w k. fitting_in p _ (position_in p h))

  decimal_in : Placed s t decimal_integer
  unfolding decimal_integer
  decimal_in = placed_bind (walks chain_position) placed_position λ p h. placed_bind (advances_onward (run_advances is_digit)) (placed_run is_digit) λ w k. fitting_in p _ (position_in p h)

  -- a parser that is refused in the part wherever it is in it
  placed_here : {A : Type 0} {m : Parser A} → ((b : ℕ) (u : List ℕ) → InPart s t b → RefusedIn s t (m b u)) → Placed s t m
  placed_here v = record { places = λ b u h. v b u (here b u h) }

  pub integer_in : Placed s t positive_integer
  unfolding positive_integer
  integer_in = placed_catch hex_in λ p h. decimal_in

  after_sign_in : (m : Bool) (b : ℕ) (u : List ℕ) → InPart s t b → RefusedIn s t (after_sign m b u)
  unfolding after_sign in_range
  after_sign_in m b [] h = h
  after_sign_in m b (y ∷ v) h = go (is_digit y) refl
    where
      range : (n c : ℕ) (r : List ℕ) → RefusedIn s t (in_range m b n c r)
      range n c r = pass (leb n (largest m)) refl
        where
          pass : (k : Bool) → leb n (largest m) ≡ k → RefusedIn s t (in_range m b n c r)
          pass true k = rw (k, in_range) tt
          pass false k = rw (k, in_range) h

      go : (k : Bool) → is_digit y ≡ k → RefusedIn s t (after_sign m b (y ∷ v))
      go true k = rw (k, after_sign) (range _ _ _)
      go false k = rw (k, after_sign) h

  signed_at : (b : ℕ) (u : List ℕ) → InPart s t b → RefusedIn s t (signed_integer b u)
  unfolding signed_integer
  signed_at b [] h = h
  signed_at b (x ∷ u) h = go (eqb x minus) refl (eqb x plus) refl
    where
      go : (k : Bool) → eqb x minus ≡ k → (j : Bool) → eqb x plus ≡ j → RefusedIn s t (signed_integer b (x ∷ u))
      go true k j i = rw (k, signed_integer) (after_sign_in true b u h)
      go false k true i = rw (k, i, signed_integer) (after_sign_in false b u h)
      go false k false i = rw (k, i, signed_integer) h

  pub signed_in : Placed s t signed_integer
  signed_in = placed_here signed_at

  -- blanks
  line_in : Placed s t line_comment
  unfolding line_comment
  line_in = placed_then (advances_onward (tag2_advances slash slash)) (placed_tag2 slash slash) (placed_last _ (placed_run in_line))

  closed_in : (b : ℕ) (v : List ℕ) (x : Until) → InPart s t b → RefusedIn s t (closed b v x)
  unfolding closed
  closed_in b v (found n r) h = tt
  closed_in b v never h = h

  block_in : (b : ℕ) (u : List ℕ) → InPart s t b → RefusedIn s t (block_comment b u)
  unfolding block_comment
  block_in b [] h = h
  block_in b (x ∷ []) h = h
  block_in b (x ∷ y ∷ v) h = go (eqb x slash && eqb y star) refl
    where
      go : (k : Bool) → (eqb x slash && eqb y star) ≡ k → RefusedIn s t (block_comment b (x ∷ y ∷ v))
      go true k = rw (k, block_comment) (closed_in b v (until_close v) h)
      go false k = rw (k, block_comment) h

  space_in : Placed s t multispace1
  unfolding multispace1
  space_in = placed_last _ (placed_run is_space)

  group_in : Placed s t whitespace_group
  unfolding whitespace_group
  group_in = placed_catch line_in λ p h. placed_catch (placed_here block_in) λ q k. space_in

  pub blank_in : Placed s t whitespace0
  unfolding whitespace0 one_blank
  blank_in = placed_iter Any one_blank keep (λ d. walks (one_blank_chain d)) (λ d q. placed_bind (advances_onward group_advances) group_in λ g h. placed_ret _) (λ d e h q. tt) _ tt

  pub gap_in : Placed s t whitespace1
  unfolding whitespace1
  gap_in = placed_bind (walks chain_position) placed_position λ p h. placed_bind (walks whitespace0_chain) blank_in λ d i. placed_bind (walks chain_position) placed_position λ q j. placed_pick _ (placed_fail p (position_in p h)) (placed_ret d)

  pub string_in : (f : ℕ → Escape) → Placed s t (string_with f)
  unfolding string_with
  string_in f = record { places = at }
    where
      at : (b : ℕ) (u : List ℕ) → Rest s t b u → RefusedIn s t (string_with f b u)
      at b [] h = here b [] h
      at b (x ∷ u) h = go (eqb x quote) refl
        where
          go : (y : Bool) → eqb x quote ≡ y → RefusedIn s t (string_with f b (x ∷ u))
          go true e = rw (e, string_with) (span_in s t (suc b) (string_rest f false (suc b) u) (rest_in s t f false (suc b) u (omega (arith, h.from)) (omega (arith, h.size))))
          go false e = rw (e, string_with) (here b (x ∷ u) h)

  -- word sets
  next_word_in : (ks : List (List ℕ)) (ws : List Word) → Placed s t (next_word ks ws)
  unfolding next_word
  next_word_in ks [] = any_keyword_in ks
  next_word_in ks (w ∷ ws) = placed_then (walks whitespace1_chain) gap_in (any_keyword_in ks)

  -- a value that is changed
  module _ {A B : Type 0} {m : Parser A} where
    pub placed_made : (f : A → B) → Placed s t m → Placed s t (m >>= λ a. ret (f a))
    unfolding ◌>>=◌ ret
    placed_made f v = record { places = λ b u h. go b u (m b u) refl (v.places b u h) }
      where
        go : (b : ℕ) (u : List ℕ) (x : Reply A) → m b u ≡ x → RefusedIn s t x → RefusedIn s t ((m >>= λ a. ret (f a)) b u)
        go b u (ok a c r) e i = rw (e, ◌>>=◌) tt
        go b u (fail p) e i = rw (e, ◌>>=◌) i
        go b u (stop n p) e i = rw (e, ◌>>=◌) i

  pub set_in : (ks : List (List ℕ)) → Placed s t (set_flags ks)
  unfolding set_flags keywords_set set_step
  set_in ks = placed_made _ (placed_iter Any (set_step ks) keep (λ ws. walks (set_step_chain ks ws)) (λ ws q. placed_made _ (next_word_in ks ws)) (λ x y h q. tt) [] tt)

  -- a string of each kind, and names after two keywords
  pub quoted_in : Placed s t quoted_string
  unfolding quoted_string
  quoted_in = string_in _

  pub default_string_in : Placed s t default_string
  unfolding default_string
  default_string_in = string_in _

  pub two_keywords_name_in : (k j : List ℕ) → Placed s t (two_keywords_name k j)
  unfolding two_keywords_name
  two_keywords_name_in k j = placed_then (walks (keyword_chain k)) (keyword_in k) (placed_then gap gap_in (placed_then (walks (keyword_chain j)) (keyword_in j) (placed_then gap gap_in placed_word)))
    where
      gap : Onward whitespace1
      gap = walks whitespace1_chain

  pub named_after_in : (k j : List ℕ) → Placed s t (named_after k j)
  unfolding named_after
  named_after_in k j = placed_bind (two_keywords_name_on k j) (two_keywords_name_in k j) λ n h. placed_then (walks whitespace0_chain) blank_in (placed_last n (placed_tag 59))
