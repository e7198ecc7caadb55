-- The certificates of the tokens: each keeps to the chain and looks at nothing after a cut.
use Prim.Native.Nat.{ℕ, zero, suc, ◌+◌}
use mathlib.Core.Path.{◌≡◌, refl, sym, ◌∙◌, ap}
use mathlib.Core.Bool.{Bool, true, false, ◌||◌, ◌&&◌, true≢false}
use mathlib.Core.Logic.{◌≢◌}
use mathlib.Core.List.{List, [], ◌∷◌, ◌++◌}
use native.Mathlib.Omega.{arith}
use lib.Dec.{eqb, leb, eqb_refl, T}
use Rattle.lexing.specs.bytes.{quote, backslash, slash, star, plus, minus, within, is_letter, is_digit, is_word, is_hex, is_space, in_line}
use Rattle.lexing.specs.reply.{Reply, ok, fail, stop, Parser, ret, ◌>>=◌, catch, keep, position, pick, fail_at}
use Rattle.lexing.specs.words.{Word, parse_id, keyword, any_keyword, tag}
use Rattle.lexing.specs.integers.{u64_max, fitting, hex_integer, decimal_integer, positive_integer, largest, in_range, after_sign, signed_integer}
use Rattle.lexing.specs.blanks.{line_comment, Until, found, never, one_more, until_close, comment_kind, closed, block_comment, multispace1, whitespace_group, Doc, no_doc, doc_after, one_blank, whitespace0, whitespace1}
use Rattle.lexing.specs.strings.{Escape, allowed, forbidden, panics, string_rest, span_from, string_with, annotation_escape, quoted_string, default_escape, default_string}
use Rattle.lexing.specs.word_sets.{next_word, set_step, keywords_set, set_flags}
use Rattle.lexing.proofs.Tests.{eq_of, and_left, and_right, blank_fails, digit_no_letter}
use Rattle.lexing.proofs.Runs.{Cut, cut_tail, skip, suf_length, suf_cut, Has, cut_has, cut_has_lf, list_take_while_app, list_drop_while_app, list_drop_while_suf, list_drop_while_cut, tail_cut, list_drop_while_has}
use Rattle.lexing.proofs.TokenRuns.{id_nil, id_yes, id_no, digits_nil, digits_yes, digits_no, space_nil, space_yes, space_no, line_text, line_nil, line_one, line_first, line_is, line_no, text_yes, text_no, is_hex_front, hex_nil, hex_one, hex_other, hex_two, hex_yes, hex_else}
use Rattle.lexing.proofs.Onward.{Reads, Advances, parse_id_advances, tag_advances, integer_advances, signed_advances, group_advances, string_advances}
use Rattle.lexing.proofs.Shift.{shift_reply, Shifts, shift_parse_id, shift_integer, shift_signed, shift_group, shift_string}
use Rattle.lexing.proofs.Chain.{dead, goes, following, any_escape, token, next, here, go_r, Clean, not_dead, Moves, CutRest, Shorter, ext, to_suf}
use Rattle.lexing.proofs.Locality.{OnChain, KeepsCut, Consumes, Local, chain_ret, keeps_ret, local_ret, chain_bind, keeps_bind, local_bind, chain_then, keeps_then, local_then, consumes_left, consumes_right, consumes_then_right, chain_iter, keeps_iter, local_iter, chain_or, keeps_or, consumes_or, local_or, keeps_catch, chain_position, keeps_position, local_position, chain_pick, keeps_pick, local_pick, chain_fail, keeps_fail, local_fail, catch_ext}

-- From a token's first byte on: it reads what the chain's step reads, at any offset.
abbrev Steps : {A : Type 0} → List ℕ → Reply A → Type 0
Steps u (ok a c r) = next u ≡ goes r
Steps u (fail p) = Unit {0}
Steps u (stop n p) = Unit {0}

steps_of : {A : Type 0} (u : List ℕ) (x : Reply A) → next u ≡ following x → Steps u x
unfolding following
steps_of u (ok a c r) e = e
steps_of u (fail p) e = tt
steps_of u (stop n p) e = tt

following_shift : {A : Type 0} (d : ℕ) (f : A → A) (x : Reply A) → following (shift_reply d f x) ≡ following x
unfolding following shift_reply
following_shift d f (ok a c r) = refl
following_shift d f (fail p) = refl
following_shift d f (stop n p) = refl

any_offset : {A : Type 0} {f : ℕ → A → A} {m : Parser A} → ((d : ℕ) → Shifts d (f d) m m) → (b : ℕ) (u : List ℕ) → following (m 0 u) ≡ following (m b u)
any_offset {A} {f} {m} s b u = let z : b + 0 ≡ b = omega arith in sym (rw z at (ap following ((s b).shifts 0 u) ∙ following_shift b (f b) (m 0 u)))

moves_of : {A : Type 0} (k b : ℕ) (u : List ℕ) (x : Reply A) → Steps u x → Reads b u x → Moves k b u x
moves_of k b u (ok a c r) s e = (go_r s here, e.1)
moves_of k b u (fail p) s e = tt
moves_of k b u (stop n p) s e = tt

chain_of : {A : Type 0} {m : Parser A} → Advances m → ((b : ℕ) (u : List ℕ) → Steps u (m b u)) → OnChain m
chain_of {A} {m} w s = record { chain = λ k b u. moves_of k b u (m b u) (s b u) (w.reads b u) }

shorter_of : {A : Type 0} (b : ℕ) (u : List ℕ) (x : Reply A) → Reads b u x → Shorter u x
shorter_of b u (ok a c r) e = omega (arith, e.1, e.2)
shorter_of b u (fail p) e = tt
shorter_of b u (stop n p) e = tt

consumes_of : {A : Type 0} {m : Parser A} → Advances m → Consumes m
consumes_of {A} {m} w = record { consumes = λ b u. shorter_of b u (m b u) (w.reads b u) }

-- tests at the last byte of a cut text, }, and at the line feed before it
word_125 : is_word 125 ≡ false
unfolding is_word is_letter is_digit within
word_125 = refl

digit_125 : is_digit 125 ≡ false
unfolding is_digit within
digit_125 = refl

hex_125 : is_hex 125 ≡ false
unfolding is_hex is_digit within
hex_125 = refl

space_125 : is_space 125 ≡ false
unfolding is_space
space_125 = refl

in_line_10 : in_line 10 ≡ false
unfolding in_line
in_line_10 = refl

-- words
parse_id_steps : (b : ℕ) (u : List ℕ) → Steps u (parse_id b u)
unfolding next
parse_id_steps b [] = rw (id_nil b) tt
parse_id_steps b (x ∷ u) = go (is_letter x) refl
  where
    go : (t : Bool) → is_letter x ≡ t → Steps (x ∷ u) (parse_id b (x ∷ u))
    go true e = steps_of (x ∷ u) (parse_id b (x ∷ u)) (rw (e, next) (any_offset shift_parse_id b (x ∷ u)))
    go false e = rw (id_no b x u e) tt

parse_id_cut : (b : ℕ) (u : List ℕ) → Cut u → CutRest (parse_id b u)
parse_id_cut b [] c = absurd c
parse_id_cut b (x ∷ u) c = go (is_letter x) refl
  where
    go : (t : Bool) → is_letter x ≡ t → CutRest (parse_id b (x ∷ u))
    go true e = rw (id_yes b x u e) (list_drop_while_cut is_word word_125 (x ∷ u) c)
    go false e = rw (id_no b x u e) tt

parse_id_ext : (b : ℕ) (u s : List ℕ) → Cut u → parse_id b (u ++ s) ≡ ext s (parse_id b u)
unfolding ext
parse_id_ext b [] s c = absurd c
parse_id_ext b (x ∷ u) s c = go (is_letter x) refl
  where
    go : (t : Bool) → is_letter x ≡ t → parse_id b (x ∷ (u ++ s)) ≡ ext s (parse_id b (x ∷ u))
    go true e = let h = cut_has is_word word_125 (x ∷ u) c in rw (id_yes b x (u ++ s) e, id_yes b x u e) (rw (list_take_while_app is_word (x ∷ u) s h, list_drop_while_app is_word (x ∷ u) s h))
    go false e = rw (id_no b x (u ++ s) e, id_no b x u e)

pub parse_id_chain : OnChain parse_id
parse_id_chain = chain_of parse_id_advances parse_id_steps

pub parse_id_keeps : KeepsCut parse_id
parse_id_keeps = record { keeps = parse_id_cut }

pub parse_id_consumes : Consumes parse_id
parse_id_consumes = consumes_of parse_id_advances

pub parse_id_local : Local parse_id
parse_id_local = record { on_chain = parse_id_chain; local = λ k b u s c d. parse_id_ext b u s d }

-- keywords
module _ (k : List ℕ) where
  pub keyword_chain : OnChain (keyword k)
  unfolding keyword
  keyword_chain = chain_bind chain_position λ p. chain_bind parse_id_chain λ w. chain_pick _ (chain_ret w) (chain_fail p)

  pub keyword_keeps : KeepsCut (keyword k)
  unfolding keyword
  keyword_keeps = keeps_bind keeps_position λ p. keeps_bind parse_id_keeps λ w. keeps_pick _ (keeps_ret w) (keeps_fail p)

  pub keyword_consumes : Consumes (keyword k)
  unfolding keyword
  keyword_consumes = consumes_right chain_position λ p. consumes_left parse_id_consumes λ w. chain_pick _ (chain_ret w) (chain_fail p)

  pub keyword_local : Local (keyword k)
  unfolding keyword
  keyword_local = local_bind local_position keeps_position λ p. local_bind parse_id_local parse_id_keeps λ w. local_pick _ (local_ret w) (local_fail p)

pub any_keyword_chain : (ks : List (List ℕ)) → OnChain (any_keyword ks)
unfolding any_keyword
any_keyword_chain [] = record { chain = λ k b u. tt }
any_keyword_chain (k ∷ ks) = chain_or (keyword_chain k) (any_keyword_chain ks)

pub any_keyword_keeps : (ks : List (List ℕ)) → KeepsCut (any_keyword ks)
unfolding any_keyword
any_keyword_keeps [] = record { keeps = λ b u c. tt }
any_keyword_keeps (k ∷ ks) = keeps_or (keyword_keeps k) (any_keyword_keeps ks)

pub any_keyword_consumes : (ks : List (List ℕ)) → Consumes (any_keyword ks)
unfolding any_keyword
any_keyword_consumes [] = record { consumes = λ b u. tt }
any_keyword_consumes (k ∷ ks) = consumes_or (keyword_consumes k) (any_keyword_consumes ks)

pub any_keyword_local : (ks : List (List ℕ)) → Local (any_keyword ks)
unfolding any_keyword ext
any_keyword_local [] = record { on_chain = record { chain = λ k b u. tt }; local = λ k b u s c d. refl }
any_keyword_local (k ∷ ks) = local_or (keyword_local k) (any_keyword_local ks)

-- tags that are no braces
pub tag_consumes : (t : ℕ) → Consumes (tag t)
tag_consumes t = consumes_of (tag_advances t)

pub tag_ext : (t b : ℕ) (u s : List ℕ) → Cut u → tag t b (u ++ s) ≡ ext s (tag t b u)
unfolding tag ext
tag_ext t b [] s c = absurd c
tag_ext t b (x ∷ u) s c = go (eqb x t) refl
  where
    go : (z : Bool) → eqb x t ≡ z → tag t b (x ∷ (u ++ s)) ≡ ext s (tag t b (x ∷ u))
    go true e = rw (e, tag)
    go false e = rw (e, tag)

module _ (t : ℕ) (steps : (u : List ℕ) → next (t ∷ u) ≡ goes u) (other : eqb 125 t ≡ false) where
  tag_steps : (b : ℕ) (u : List ℕ) → Steps u (tag t b u)
  unfolding tag
  tag_steps b [] = tt
  tag_steps b (x ∷ u) = go (eqb x t) refl
    where
      go : (z : Bool) → eqb x t ≡ z → Steps (x ∷ u) (tag t b (x ∷ u))
      go true e = rw (e, tag) (rw (eq_of x t e) (steps u))
      go false e = rw (e, tag) tt

  tag_cut : (b : ℕ) (u : List ℕ) → Cut u → CutRest (tag t b u)
  unfolding tag
  tag_cut b [] c = tt
  tag_cut b (x ∷ u) c = go (eqb x t) refl
    where
      go : (z : Bool) → eqb x t ≡ z → CutRest (tag t b (x ∷ u))
      go true e = rw (e, tag) (tail_cut (λ y. eqb y t) other x u e c)
      go false e = rw (e, tag) tt

  pub tag_chain : OnChain (tag t)
  tag_chain = chain_of (tag_advances t) tag_steps

  pub tag_keeps : KeepsCut (tag t)
  tag_keeps = record { keeps = tag_cut }

  pub tag_local : Local (tag t)
  tag_local = record { on_chain = tag_chain; local = λ k b u s c d. tag_ext t b u s d }

-- integers
fitting_cut : (b v c : ℕ) (r : List ℕ) → Cut r → CutRest (fitting b v c r)
unfolding fitting
fitting_cut b v c r d = go (leb v u64_max) refl
  where
    go : (z : Bool) → leb v u64_max ≡ z → CutRest (fitting b v c r)
    go true e = rw (e, fitting) d
    go false e = rw (e, fitting) tt

fitting_ext : (b v c : ℕ) (r s : List ℕ) → fitting b v c (r ++ s) ≡ ext s (fitting b v c r)
unfolding fitting ext
fitting_ext b v c r s = go (leb v u64_max) refl
  where
    go : (z : Bool) → leb v u64_max ≡ z → fitting b v c (r ++ s) ≡ ext s (fitting b v c r)
    go true e = rw (e, fitting)
    go false e = rw (e, fitting)

not_zero : (x : ℕ) → is_digit x ≡ false → eqb x 0x30 ≡ false
unfolding is_digit within
not_zero x e = go (eqb x 0x30) refl
  where
    go : (t : Bool) → eqb x 0x30 ≡ t → eqb x 0x30 ≡ false
    go true q = absurd (true≢false (sym (ap is_digit (eq_of x 0x30 q)) ∙ e))
    go false q = q

no_integer : (b x : ℕ) (u : List ℕ) → is_digit x ≡ false → positive_integer b (x ∷ u) ≡ fail b
unfolding positive_integer catch
no_integer b x u e = rw (hex_other b x u (not_zero x e), catch) (digits_no b x u e)

integer_steps : (b : ℕ) (u : List ℕ) → Steps u (positive_integer b u)
unfolding next positive_integer catch
integer_steps b [] = rw (hex_nil b, catch) (rw (digits_nil b) tt)
integer_steps b (x ∷ u) = go (is_digit x) refl
  where
    go : (t : Bool) → is_digit x ≡ t → Steps (x ∷ u) (positive_integer b (x ∷ u))
    go true e = steps_of (x ∷ u) (positive_integer b (x ∷ u)) (rw (digit_no_letter x e, e, next) (any_offset shift_integer b (x ∷ u)))
    go false e = rw (no_integer b x u e) tt

hex_cut : (b : ℕ) (u : List ℕ) → Cut u → CutRest (hex_integer b u)
hex_cut b [] c = absurd c
hex_cut b (x ∷ []) c = rw (hex_one b x) tt
hex_cut b (x ∷ y ∷ []) c = rw (hex_two b x y).1 tt
hex_cut b (x ∷ y ∷ z ∷ u) c = go (is_hex_front x y z) refl
  where
    go : (t : Bool) → is_hex_front x y z ≡ t → CutRest (hex_integer b (x ∷ y ∷ z ∷ u))
    go true e = rw (hex_yes b x y z u e) (fitting_cut b _ _ _ (list_drop_while_cut is_hex hex_125 (z ∷ u) (cut_tail y z u c)))
    go false e = rw ((hex_else b x y z e).1 u) tt

hex_ext : (b : ℕ) (u s : List ℕ) → Cut u → hex_integer b (u ++ s) ≡ ext s (hex_integer b u)
unfolding ext
hex_ext b [] s c = absurd c
hex_ext b (x ∷ []) s c = let e : eqb x 0x30 ≡ false = ap (λ y. eqb y 0x30) c in rw (hex_other b x s e, hex_other b x [] e)
hex_ext b (x ∷ y ∷ []) s c = let e : eqb x 0x30 ≡ false = ap (λ y. eqb y 0x30) c.0 in rw (hex_other b x (y ∷ s) e, hex_other b x (y ∷ []) e)
hex_ext b (x ∷ y ∷ z ∷ u) s c = go (is_hex_front x y z) refl
  where
    go : (t : Bool) → is_hex_front x y z ≡ t → hex_integer b (x ∷ y ∷ z ∷ (u ++ s)) ≡ ext s (hex_integer b (x ∷ y ∷ z ∷ u))
    go true e =
        let h = cut_has is_hex hex_125 (z ∷ u) (cut_tail y z u c) in
        rw (hex_yes b x y z (u ++ s) e, hex_yes b x y z u e) (rw (list_take_while_app is_hex (z ∷ u) s h, list_drop_while_app is_hex (z ∷ u) s h) (fitting_ext b _ _ _ s))
    go false e = rw ((hex_else b x y z e).1 (u ++ s), (hex_else b x y z e).1 u)

decimal_cut : (b : ℕ) (u : List ℕ) → Cut u → CutRest (decimal_integer b u)
decimal_cut b [] c = absurd c
decimal_cut b (x ∷ u) c = go (is_digit x) refl
  where
    go : (t : Bool) → is_digit x ≡ t → CutRest (decimal_integer b (x ∷ u))
    go true e = rw (digits_yes b x u e) (fitting_cut b _ _ _ (list_drop_while_cut is_digit digit_125 (x ∷ u) c))
    go false e = rw (digits_no b x u e) tt

decimal_ext : (b : ℕ) (u s : List ℕ) → Cut u → decimal_integer b (u ++ s) ≡ ext s (decimal_integer b u)
unfolding ext
decimal_ext b [] s c = absurd c
decimal_ext b (x ∷ u) s c = go (is_digit x) refl
  where
    go : (t : Bool) → is_digit x ≡ t → decimal_integer b (x ∷ (u ++ s)) ≡ ext s (decimal_integer b (x ∷ u))
    go true e =
        let h = cut_has is_digit digit_125 (x ∷ u) c in
        rw (digits_yes b x (u ++ s) e, digits_yes b x u e) (rw (list_take_while_app is_digit (x ∷ u) s h, list_drop_while_app is_digit (x ∷ u) s h) (fitting_ext b _ _ _ s))
    go false e = rw (digits_no b x (u ++ s) e, digits_no b x u e)

pub integer_chain : OnChain positive_integer
integer_chain = chain_of integer_advances integer_steps

pub integer_keeps : KeepsCut positive_integer
unfolding positive_integer
integer_keeps = keeps_catch (record { keeps = hex_cut }) λ p. record { keeps = decimal_cut }

pub integer_consumes : Consumes positive_integer
integer_consumes = consumes_of integer_advances

pub integer_local : Local positive_integer
unfolding positive_integer
integer_local = record { on_chain = integer_chain; local = λ k b u s c d. catch_ext hex_integer (λ p. decimal_integer) b u s (hex_ext b u s d) (λ p. decimal_ext b u s d) }

-- signed integers
module _ (m : Bool) (b : ℕ) where
  range_cut : (v c : ℕ) (r : List ℕ) → Cut r → CutRest (in_range m b v c r)
  unfolding in_range
  range_cut v c r d = go (leb v (largest m)) refl
    where
      go : (z : Bool) → leb v (largest m) ≡ z → CutRest (in_range m b v c r)
      go true e = rw (e, in_range) d
      go false e = rw (e, in_range) tt

  range_ext : (v c : ℕ) (r s : List ℕ) → in_range m b v c (r ++ s) ≡ ext s (in_range m b v c r)
  unfolding in_range ext
  range_ext v c r s = go (leb v (largest m)) refl
    where
      go : (z : Bool) → leb v (largest m) ≡ z → in_range m b v c (r ++ s) ≡ ext s (in_range m b v c r)
      go true e = rw (e, in_range)
      go false e = rw (e, in_range)

  after_sign_cut : (x : ℕ) (u : List ℕ) → Cut (x ∷ u) → CutRest (after_sign m b u)
  unfolding after_sign
  after_sign_cut x [] c = tt
  after_sign_cut x (y ∷ v) c = go (is_digit y) refl
    where
      go : (t : Bool) → is_digit y ≡ t → CutRest (after_sign m b (y ∷ v))
      go true e = rw (e, after_sign) (range_cut _ _ _ (list_drop_while_cut is_digit digit_125 (y ∷ v) (cut_tail x y v c)))
      go false e = rw (e, after_sign) tt

  after_sign_ext : (x : ℕ) (u s : List ℕ) → Cut (x ∷ u) → (x ≡ 125 → ⊥) → after_sign m b (u ++ s) ≡ ext s (after_sign m b u)
  unfolding after_sign ext
  after_sign_ext x [] s c n = absurd (n c)
  after_sign_ext x (y ∷ v) s c n = go (is_digit y) refl
    where
      go : (t : Bool) → is_digit y ≡ t → after_sign m b (y ∷ (v ++ s)) ≡ ext s (after_sign m b (y ∷ v))
      go true e =
          let h = cut_has is_digit digit_125 (y ∷ v) (cut_tail x y v c) in
          rw (e, after_sign) (rw (list_take_while_app is_digit (y ∷ v) s h, list_drop_while_app is_digit (y ∷ v) s h) (range_ext _ _ _ s))
      go false e = rw (e, after_sign)

next_minus : (u : List ℕ) → next (minus ∷ u) ≡ following (signed_integer 0 (minus ∷ u))
unfolding next token is_letter is_digit is_space within
next_minus u = refl

next_plus : (u : List ℕ) → next (plus ∷ u) ≡ following (signed_integer 0 (plus ∷ u))
unfolding next token is_letter is_digit is_space within
next_plus u = refl

signed_at : (b x : ℕ) (u : List ℕ) → next (x ∷ u) ≡ following (signed_integer 0 (x ∷ u)) → Steps (x ∷ u) (signed_integer b (x ∷ u))
signed_at b x u e = steps_of (x ∷ u) (signed_integer b (x ∷ u)) (e ∙ any_offset shift_signed b (x ∷ u))

signed_steps : (b : ℕ) (u : List ℕ) → Steps u (signed_integer b u)
unfolding signed_integer
signed_steps b [] = tt
signed_steps b (x ∷ u) = go (eqb x minus) refl (eqb x plus) refl
  where
    go : (t : Bool) → eqb x minus ≡ t → (t' : Bool) → eqb x plus ≡ t' → Steps (x ∷ u) (signed_integer b (x ∷ u))
    go true e t' e' = signed_at b x u (rw (eq_of x minus e) (next_minus u))
    go false e true e' = signed_at b x u (rw (eq_of x plus e') (next_plus u))
    go false e false e' = rw (e, e', signed_integer) tt

signed_cut : (b : ℕ) (u : List ℕ) → Cut u → CutRest (signed_integer b u)
unfolding signed_integer
signed_cut b [] c = tt
signed_cut b (x ∷ u) c = go (eqb x minus) refl (eqb x plus) refl
  where
    go : (t : Bool) → eqb x minus ≡ t → (t' : Bool) → eqb x plus ≡ t' → CutRest (signed_integer b (x ∷ u))
    go true e t' e' = rw (e, signed_integer) (after_sign_cut true b x u c)
    go false e true e' = rw (e, e', signed_integer) (after_sign_cut false b x u c)
    go false e false e' = rw (e, e', signed_integer) tt

signed_ext : (b : ℕ) (u s : List ℕ) → Cut u → signed_integer b (u ++ s) ≡ ext s (signed_integer b u)
unfolding signed_integer ext
signed_ext b [] s c = absurd c
signed_ext b (x ∷ u) s c = go (eqb x minus) refl (eqb x plus) refl
  where
    go : (t : Bool) → eqb x minus ≡ t → (t' : Bool) → eqb x plus ≡ t' → signed_integer b (x ∷ (u ++ s)) ≡ ext s (signed_integer b (x ∷ u))
    go true e t' e' = rw (e, signed_integer) (after_sign_ext true b x u s c λ q. let z : ◌≡◌ {A = ℕ} minus 125 = sym (eq_of x minus e) ∙ q in omega arith)
    go false e true e' = rw (e, e', signed_integer) (after_sign_ext false b x u s c λ q. let z : ◌≡◌ {A = ℕ} plus 125 = sym (eq_of x plus e') ∙ q in omega arith)
    go false e false e' = rw (e, e', signed_integer)

pub signed_chain : OnChain signed_integer
signed_chain = chain_of signed_advances signed_steps

pub signed_keeps : KeepsCut signed_integer
signed_keeps = record { keeps = signed_cut }

pub signed_local : Local signed_integer
signed_local = record { on_chain = signed_chain; local = λ k b u s c d. signed_ext b u s d }

-- line comments: in a cut text they end before the last line feed
line_has : (x y : ℕ) (u : List ℕ) → (eqb x slash && eqb y slash) ≡ true → Cut (x ∷ y ∷ u) → Has in_line u
line_has x y [] e c = let q : ◌≡◌ {A = ℕ} slash 10 = sym (eq_of x slash (and_left (eqb x slash) (eqb y slash) e)) ∙ c.0 in absurd (omega arith)
line_has x y (z ∷ []) e c = let q : ◌≡◌ {A = ℕ} slash 10 = sym (eq_of y slash (and_right (eqb x slash) (eqb y slash) e)) ∙ c.0 in absurd (omega arith)
line_has x y (z ∷ v ∷ w) e c = cut_has_lf in_line in_line_10 z v w c

text_cut : (b x y : ℕ) (u : List ℕ) → Has in_line u → Cut (x ∷ y ∷ u) → CutRest (line_text b u)
text_cut b x y [] h c = absurd h
text_cut b x y (z ∷ u) h c = go (in_line z) refl
  where
    go : (t : Bool) → in_line z ≡ t → CutRest (line_text b (z ∷ u))
    go true e =
        let p = list_drop_while_has in_line (z ∷ u) h in
        rw (text_yes b z u e) (rw p.1.1 (suf_cut p.0 p.1.0 (skip x (skip y (rw p.1.1 at (list_drop_while_suf in_line (z ∷ u))))) c))
    go false e = rw (text_no b z u e) tt

text_ext : (b : ℕ) (u s : List ℕ) → Has in_line u → line_text b (u ++ s) ≡ ext s (line_text b u)
unfolding ext
text_ext b [] s h = absurd h
text_ext b (z ∷ u) s h = go (in_line z) refl
  where
    go : (t : Bool) → in_line z ≡ t → line_text b (z ∷ (u ++ s)) ≡ ext s (line_text b (z ∷ u))
    go true e = rw (text_yes b z (u ++ s) e, text_yes b z u e) (rw (list_take_while_app in_line (z ∷ u) s h, list_drop_while_app in_line (z ∷ u) s h))
    go false e = rw (text_no b z (u ++ s) e, text_no b z u e)

line_cut : (b : ℕ) (u : List ℕ) → Cut u → CutRest (line_comment b u)
line_cut b [] c = absurd c
line_cut b (x ∷ []) c = rw (line_one b x) tt
line_cut b (x ∷ y ∷ u) c = go (eqb x slash && eqb y slash) refl
  where
    go : (t : Bool) → (eqb x slash && eqb y slash) ≡ t → CutRest (line_comment b (x ∷ y ∷ u))
    go true e = rw (line_is b x y u e) (text_cut (b + 2) x y u (line_has x y u e c) c)
    go false e = rw (line_no b x y u e) tt

line_ext : (b : ℕ) (u s : List ℕ) → Cut u → line_comment b (u ++ s) ≡ ext s (line_comment b u)
unfolding ext
line_ext b [] s c = absurd c
line_ext b (x ∷ []) s c = let e : eqb x slash ≡ false = ap (λ y. eqb y slash) c in rw (line_first b x s e, line_first b x [] e)
line_ext b (x ∷ y ∷ u) s c = go (eqb x slash && eqb y slash) refl
  where
    go : (t : Bool) → (eqb x slash && eqb y slash) ≡ t → line_comment b (x ∷ y ∷ (u ++ s)) ≡ ext s (line_comment b (x ∷ y ∷ u))
    go true e = rw (line_is b x y (u ++ s) e, line_is b x y u e) (text_ext (b + 2) u s (line_has x y u e c))
    go false e = rw (line_no b x y (u ++ s) e, line_no b x y u e)

-- block comments: one that is closed stays so
abbrev UntilExt : List ℕ → List ℕ → Until → Type 0
UntilExt v s (found n r) = until_close (v ++ s) ≡ found n (r ++ s)
UntilExt v s never = Unit {0}

one_more_ext : (x y : ℕ) (u s : List ℕ) (t : Until) → (eqb x star && eqb y slash) ≡ false → UntilExt (y ∷ u) s t → UntilExt (x ∷ y ∷ u) s (one_more t)
unfolding one_more until_close
one_more_ext x y u s (found n r) e h = rw (e, until_close) (rw h)
one_more_ext x y u s never e h = tt

until_ext : (u s : List ℕ) → UntilExt u s (until_close u)
unfolding until_close
until_ext [] s = tt
until_ext (x ∷ []) s = tt
until_ext (x ∷ y ∷ u) s = go (eqb x star && eqb y slash) refl (until_ext (y ∷ u) s)
  where
    go : (t : Bool) → (eqb x star && eqb y slash) ≡ t → UntilExt (y ∷ u) s (until_close (y ∷ u)) → UntilExt (x ∷ y ∷ u) s (until_close (x ∷ y ∷ u))
    go true e h = rw (e, until_close) (rw (e, until_close))
    go false e h = rw (e, until_close) (one_more_ext x y u s (until_close (y ∷ u)) e h)

abbrev UntilCut : Until → Type 0
UntilCut (found n r) = Cut r
UntilCut never = Unit {0}

one_more_cut : (t : Until) → UntilCut t → UntilCut (one_more t)
unfolding one_more
one_more_cut (found n r) h = h
one_more_cut never h = tt

slash_cut : (x y : ℕ) (u : List ℕ) → (eqb x star && eqb y slash) ≡ true → Cut (x ∷ y ∷ u) → Cut u
slash_cut x y [] e c = absurd (true≢false (sym (and_right (eqb x star) (eqb y slash) e) ∙ ap (λ z. eqb z slash) c.1))
slash_cut x y (z ∷ u) e c = cut_tail y z u (cut_tail x y (z ∷ u) c)

until_cut : (u : List ℕ) → Cut u → UntilCut (until_close u)
unfolding until_close
until_cut [] c = tt
until_cut (x ∷ []) c = tt
until_cut (x ∷ y ∷ u) c = go (eqb x star && eqb y slash) refl (until_cut (y ∷ u) (cut_tail x y u c))
  where
    go : (t : Bool) → (eqb x star && eqb y slash) ≡ t → UntilCut (until_close (y ∷ u)) → UntilCut (until_close (x ∷ y ∷ u))
    go true e h = rw (e, until_close) (slash_cut x y u e c)
    go false e h = rw (e, until_close) (one_more_cut (until_close (y ∷ u)) h)

closed_cut : (b : ℕ) (v : List ℕ) (t : Until) → UntilCut t → CutRest (closed b v t)
unfolding closed
closed_cut b v (found n r) h = h
closed_cut b v never h = tt

block_cut : (b : ℕ) (u : List ℕ) → Cut u → CutRest (block_comment b u)
unfolding block_comment
block_cut b [] c = tt
block_cut b (x ∷ []) c = tt
block_cut b (x ∷ y ∷ v) c = go (eqb x slash && eqb y star) refl
  where
    rest : (v : List ℕ) → eqb y star ≡ true → Cut (x ∷ y ∷ v) → Cut v
    rest [] e c = absurd (true≢false (sym e ∙ ap (λ z. eqb z star) c.1))
    rest (z ∷ v) e c = cut_tail y z v c

    go : (t : Bool) → (eqb x slash && eqb y star) ≡ t → CutRest (block_comment b (x ∷ y ∷ v))
    go true e = rw (e, block_comment) (closed_cut b v (until_close v) (until_cut v (rest v (and_right (eqb x slash) (eqb y star) e) c)))
    go false e = rw (e, block_comment) tt

kind_ext : (b n : ℕ) (v s r : List ℕ) → until_close v ≡ found n r → comment_kind b n (v ++ s) ≡ comment_kind b n v
unfolding comment_kind until_close
kind_ext b zero v s r q = refl
kind_ext b (suc n) [] s r q = let z : ◌≡◌ {A = ℕ} 0 1 = cc in absurd (omega arith)
kind_ext b (suc n) (x ∷ v) s r q = refl

closed_ext : (b : ℕ) (v s : List ℕ) (t : Until) → until_close v ≡ t → (t ≡ never → ⊥) → UntilExt v s t → closed b (v ++ s) (until_close (v ++ s)) ≡ ext s (closed b v t)
unfolding closed ext
closed_ext b v s (found n r) q h p = rw p (rw (kind_ext b n v s r q))
closed_ext b v s never q h p = absurd (h refl)

block_ext : (b : ℕ) (u s : List ℕ) → Cut u → ((v : List ℕ) → u ≡ slash ∷ star ∷ v → until_close v ≡ never → ⊥) → block_comment b (u ++ s) ≡ ext s (block_comment b u)
unfolding block_comment ext
block_ext b [] s c h = absurd c
block_ext b (x ∷ []) s c h = short b x s (ap (λ y. eqb y slash) c)
  where
    short : (b x : ℕ) (s : List ℕ) → eqb x slash ≡ false → block_comment b (x ∷ s) ≡ fail b
    short b x [] e = refl
    short b x (y ∷ s) e = rw (e, block_comment)
block_ext b (x ∷ y ∷ v) s c h = go (eqb x slash && eqb y star) refl
  where
    same : (eqb x slash && eqb y star) ≡ true → x ∷ y ∷ v ≡ slash ∷ star ∷ v
    same e = rw (eq_of x slash (and_left (eqb x slash) (eqb y star) e), eq_of y star (and_right (eqb x slash) (eqb y star) e))

    go : (t : Bool) → (eqb x slash && eqb y star) ≡ t → block_comment b (x ∷ y ∷ (v ++ s)) ≡ ext s (block_comment b (x ∷ y ∷ v))
    go true e = rw (e, block_comment) (closed_ext b v s (until_close v) refl (h v (same e)) (until_ext v s))
    go false e = rw (e, block_comment)

-- white space
multispace_cut : (b : ℕ) (u : List ℕ) → Cut u → CutRest (multispace1 b u)
multispace_cut b [] c = absurd c
multispace_cut b (x ∷ u) c = go (is_space x) refl
  where
    go : (t : Bool) → is_space x ≡ t → CutRest (multispace1 b (x ∷ u))
    go true e = rw (space_yes b x u e) (list_drop_while_cut is_space space_125 (x ∷ u) c)
    go false e = rw (space_no b x u e) tt

multispace_ext : (b : ℕ) (u s : List ℕ) → Cut u → multispace1 b (u ++ s) ≡ ext s (multispace1 b u)
unfolding ext
multispace_ext b [] s c = absurd c
multispace_ext b (x ∷ u) s c = go (is_space x) refl
  where
    go : (t : Bool) → is_space x ≡ t → multispace1 b (x ∷ (u ++ s)) ≡ ext s (multispace1 b (x ∷ u))
    go true e = let h = cut_has is_space space_125 (x ∷ u) c in rw (space_yes b x (u ++ s) e, space_yes b x u e) (rw (list_take_while_app is_space (x ∷ u) s h, list_drop_while_app is_space (x ∷ u) s h))
    go false e = rw (space_no b x (u ++ s) e, space_no b x u e)

-- one blank
pub blank_no_letter : (x : ℕ) → (eqb x slash || is_space x) ≡ true → is_letter x ≡ false
unfolding is_letter within
blank_no_letter x e = blank_fails is_letter refl refl refl refl refl x e

blank_no_digit : (x : ℕ) → (eqb x slash || is_space x) ≡ true → is_digit x ≡ false
unfolding is_digit within
blank_no_digit x e = blank_fails is_digit refl refl refl refl refl x e

pub no_block : (b x : ℕ) (u : List ℕ) → eqb x slash ≡ false → block_comment b (x ∷ u) ≡ fail b
unfolding block_comment
no_block b x [] e = refl
no_block b x (y ∷ u) e = rw (e, block_comment)

pub no_group : (b x : ℕ) (u : List ℕ) → (eqb x slash || is_space x) ≡ false → whitespace_group b (x ∷ u) ≡ fail b
unfolding whitespace_group catch
no_group b x u e = go (eqb x slash) refl (is_space x) refl
  where
    go : (t : Bool) → eqb x slash ≡ t → (t' : Bool) → is_space x ≡ t' → whitespace_group b (x ∷ u) ≡ fail b
    go true d t' d' = absurd (true≢false (rw d at e))
    go false d true d' = absurd (true≢false (rw (d, d') at e))
    go false d false d' = rw (line_first b x u d, catch) (rw (no_block b x u d, catch) (space_no b x u d'))

group_steps : (b : ℕ) (u : List ℕ) → Steps u (whitespace_group b u)
unfolding next whitespace_group catch block_comment
group_steps b [] = rw (line_nil b, catch) (rw (space_nil b) tt)
group_steps b (x ∷ u) = go (eqb x slash || is_space x) refl
  where
    go : (t : Bool) → (eqb x slash || is_space x) ≡ t → Steps (x ∷ u) (whitespace_group b (x ∷ u))
    go true e = steps_of (x ∷ u) (whitespace_group b (x ∷ u)) (rw (blank_no_letter x e, blank_no_digit x e, e, next) (any_offset shift_group b (x ∷ u)))
    go false e = rw (no_group b x u e) tt

-- an unclosed block comment ends the chain
open_block : (b : ℕ) (v : List ℕ) → until_close v ≡ never → block_comment b (slash ∷ star ∷ v) ≡ fail b
unfolding block_comment closed
open_block b v e = ap (closed b v) e

open_group : (b : ℕ) (v : List ℕ) → until_close v ≡ never → whitespace_group b (slash ∷ star ∷ v) ≡ fail b
unfolding whitespace_group catch is_space
open_group b v e = rw (line_no b slash star v refl, catch) (rw (open_block b v e, catch) (space_no b slash (star ∷ v) refl))

open_dead : (v : List ℕ) → until_close v ≡ never → next (slash ∷ star ∷ v) ≡ dead
unfolding next is_letter is_digit within following
open_dead v e = ap following (open_group 0 v e)

group_ext : (k b : ℕ) (u s : List ℕ) → Clean k u → Cut u → whitespace_group b (u ++ s) ≡ ext s (whitespace_group b u)
unfolding whitespace_group
group_ext k b u s c d = catch_ext line_comment (λ p. catch block_comment λ q. multispace1) b u s (line_ext b u s d) λ p. catch_ext block_comment (λ q. multispace1) b u s (block_ext b u s d live) λ q. multispace_ext b u s d
  where
    live : (v : List ℕ) → u ≡ slash ∷ star ∷ v → until_close v ≡ never → ⊥
    live v e n = not_dead k slash (star ∷ v) (rw e at c) (open_dead v n)

pub group_chain : OnChain whitespace_group
group_chain = chain_of group_advances group_steps

group_keeps : KeepsCut whitespace_group
unfolding whitespace_group
group_keeps = keeps_catch (record { keeps = line_cut }) λ p. keeps_catch (record { keeps = block_cut }) λ q. record { keeps = multispace_cut }

group_local : Local whitespace_group
group_local = record { on_chain = group_chain; local = group_ext }

-- runs of blanks
pub one_blank_chain : (d : Doc) → OnChain (one_blank d)
unfolding one_blank
one_blank_chain d = chain_bind group_chain λ g. chain_ret (doc_after g d)

one_blank_keeps : (d : Doc) → KeepsCut (one_blank d)
unfolding one_blank
one_blank_keeps d = keeps_bind group_keeps λ g. keeps_ret (doc_after g d)

pub one_blank_consumes : (d : Doc) → Consumes (one_blank d)
unfolding one_blank
one_blank_consumes d = consumes_left (consumes_of group_advances) λ g. chain_ret (doc_after g d)

one_blank_local : (d : Doc) → Local (one_blank d)
unfolding one_blank
one_blank_local d = local_bind group_local group_keeps λ g. local_ret (doc_after g d)

pub whitespace0_chain : OnChain whitespace0
unfolding whitespace0
whitespace0_chain = chain_iter keep one_blank_chain no_doc

pub whitespace0_keeps : KeepsCut whitespace0
unfolding whitespace0
whitespace0_keeps = keeps_iter keep one_blank_keeps no_doc

pub whitespace0_local : Local whitespace0
unfolding whitespace0
whitespace0_local = local_iter keep one_blank_local one_blank_keeps one_blank_consumes no_doc

pub whitespace1_chain : OnChain whitespace1
unfolding whitespace1
whitespace1_chain = chain_bind chain_position λ p. chain_bind whitespace0_chain λ d. chain_bind chain_position λ q. chain_pick _ (chain_fail p) (chain_ret d)

pub whitespace1_keeps : KeepsCut whitespace1
unfolding whitespace1
whitespace1_keeps = keeps_bind keeps_position λ p. keeps_bind whitespace0_keeps λ d. keeps_bind keeps_position λ q. keeps_pick _ (keeps_fail p) (keeps_ret d)

pub whitespace1_local : Local whitespace1
unfolding whitespace1
whitespace1_local = local_bind local_position keeps_position λ p. local_bind whitespace0_local whitespace0_keeps λ d. local_bind local_position keeps_position λ q. local_pick _ (local_fail p) (local_ret d)

eqb_not : (x y : ℕ) → eqb x y ≡ false → x ≡ y → ⊥
eqb_not x y e q = true≢false (sym (T_true (eqb y y) (eqb_refl y)) ∙ (rw q at e))
  where
    T_true : (b : Bool) → T b → b ≡ true
    T_true true t = refl
    T_true false t = absurd t

-- where the offset has not stayed, a byte was read
whitespace1_shorter : (b : ℕ) (u : List ℕ) → Shorter u (whitespace1 b u)
unfolding whitespace1 ◌>>=◌ position pick ret fail_at
whitespace1_shorter b u = go (whitespace0 b u) refl (whitespace0_chain.chain 0 b u)
  where
    moved : (d : Doc) (c : ℕ) (r : List ℕ) → whitespace0 b u ≡ ok d c r → Moves 0 b u (ok d c r) → (t : Bool) → eqb b c ≡ t → Shorter u (whitespace1 b u)
    moved d c r e p true q = rw (e, whitespace1, ◌>>=◌) (rw (q, pick) tt)
    moved d c r e p false q = rw (e, whitespace1, ◌>>=◌) (rw (q, pick) (let h : b ≢ c = eqb_not b c q in omega (arith, suf_length (to_suf p.0), p.1)))

    go : (x : Reply Doc) → whitespace0 b u ≡ x → Moves 0 b u x → Shorter u (whitespace1 b u)
    go (ok d c r) e p = moved d c r e p (eqb b c) refl
    go (fail q) e p = rw (e, whitespace1, ◌>>=◌) tt
    go (stop n q) e p = rw (e, whitespace1, ◌>>=◌) tt

pub whitespace1_consumes : Consumes whitespace1
whitespace1_consumes = record { consumes = whitespace1_shorter }

-- strings: one that ends well ends where the chain's string ends
abbrev SameEnd : Reply ℕ → Reply ℕ → Type 0
SameEnd (ok e c r) y = y ≡ ok e c r
SameEnd (fail p) y = Unit {0}
SameEnd (stop n p) y = Unit {0}

rest_end : (f : ℕ → Escape) (u : List ℕ) (s : Bool) (b : ℕ) → SameEnd (string_rest f s b u) (string_rest any_escape s b u)
unfolding string_rest any_escape
rest_end f [] s b = tt
rest_end f (x ∷ u) true b = go (f x) refl (rest_end f u false (suc (suc b)))
  where
    go : (t : Escape) → f x ≡ t → SameEnd (string_rest f false (suc (suc b)) u) (string_rest any_escape false (suc (suc b)) u) → SameEnd (string_rest f true b (x ∷ u)) (string_rest any_escape true b (x ∷ u))
    go allowed e ih = rw (e, string_rest) ih
    go forbidden e ih = rw (e, string_rest) tt
    go panics e ih = rw (e, string_rest) tt
rest_end f (x ∷ u) false b = go (eqb x quote) refl (eqb x backslash) refl (rest_end f u)
  where
    go : (t : Bool) → eqb x quote ≡ t → (t' : Bool) → eqb x backslash ≡ t' → ((s : Bool) (b : ℕ) → SameEnd (string_rest f s b u) (string_rest any_escape s b u)) → SameEnd (string_rest f false b (x ∷ u)) (string_rest any_escape false b (x ∷ u))
    go true e t' e' ih = rw (e, string_rest) refl
    go false e true e' ih = rw (e, e', string_rest) (ih true b)
    go false e false e' ih = rw (e, e', string_rest) (ih false (suc b))

next_quote : (u : List ℕ) → next (quote ∷ u) ≡ following (string_with any_escape 0 (quote ∷ u))
unfolding next token is_letter is_digit is_space within
next_quote u = refl

span_steps : (b : ℕ) (v : List ℕ) (x y : Reply ℕ) → SameEnd x y → next v ≡ following (span_from b y) → Steps v (span_from b x)
unfolding span_from following
span_steps b v (ok e c r) y q h = rw q at h
span_steps b v (fail p) y q h = tt
span_steps b v (stop n p) y q h = tt

chain_quote : (b x : ℕ) (u : List ℕ) → eqb x quote ≡ true → next (x ∷ u) ≡ following (span_from (suc b) (string_rest any_escape false (suc b) u))
unfolding string_with
chain_quote b x u e = (rw (eq_of x quote e) (next_quote u)) ∙ (any_offset (λ d. shift_string d any_escape) b (x ∷ u) ∙ ap following (rw (e, string_with) refl))

string_steps : (f : ℕ → Escape) (b : ℕ) (u : List ℕ) → Steps u (string_with f b u)
unfolding string_with
string_steps f b [] = tt
string_steps f b (x ∷ u) = go (eqb x quote) refl
  where
    go : (t : Bool) → eqb x quote ≡ t → Steps (x ∷ u) (string_with f b (x ∷ u))
    go true e = rw (e, string_with) (span_steps (suc b) (x ∷ u) (string_rest f false (suc b) u) (string_rest any_escape false (suc b) u) (rest_end f u false (suc b)) (chain_quote b x u e))
    go false e = rw (e, string_with) tt

-- a cut text, or nothing
abbrev CutOrNil : List ℕ → Type 0
CutOrNil [] = Unit {0}
CutOrNil (x ∷ u) = Cut (x ∷ u)

cut_or_nil : (x : ℕ) (u : List ℕ) → Cut (x ∷ u) → CutOrNil u
cut_or_nil x [] c = tt
cut_or_nil x (y ∷ u) c = cut_tail x y u c

rest_cut : (f : ℕ → Escape) (u : List ℕ) (s : Bool) (b : ℕ) → CutOrNil u → CutRest (string_rest f s b u)
unfolding string_rest
rest_cut f [] s b c = tt
rest_cut f (x ∷ u) true b c = go (f x) refl (λ b. rest_cut f u false b (cut_or_nil x u c))
  where
    go : (t : Escape) → f x ≡ t → ((b : ℕ) → CutRest (string_rest f false b u)) → CutRest (string_rest f true b (x ∷ u))
    go allowed e ih = rw (e, string_rest) (ih (suc (suc b)))
    go forbidden e ih = rw (e, string_rest) tt
    go panics e ih = rw (e, string_rest) tt
rest_cut f (x ∷ u) false b c = go (eqb x quote) refl (eqb x backslash) refl (λ s b. rest_cut f u s b (cut_or_nil x u c))
  where
    go : (t : Bool) → eqb x quote ≡ t → (t' : Bool) → eqb x backslash ≡ t' → ((s : Bool) (b : ℕ) → CutRest (string_rest f s b u)) → CutRest (string_rest f false b (x ∷ u))
    go true e t' e' ih = rw (e, string_rest) (tail_cut (λ y. eqb y quote) refl x u e c)
    go false e true e' ih = rw (e, e', string_rest) (ih true b)
    go false e false e' ih = rw (e, e', string_rest) (ih false (suc b))

span_cut : (b : ℕ) (y : Reply ℕ) → CutRest y → CutRest (span_from b y)
unfolding span_from
span_cut b (ok i c r) h = h
span_cut b (fail p) h = tt
span_cut b (stop n p) h = tt

string_cut : (f : ℕ → Escape) (b : ℕ) (u : List ℕ) → Cut u → CutRest (string_with f b u)
unfolding string_with
string_cut f b [] c = tt
string_cut f b (x ∷ u) c = go (eqb x quote) refl
  where
    go : (t : Bool) → eqb x quote ≡ t → CutRest (string_with f b (x ∷ u))
    go true e = rw (e, string_with) (span_cut (suc b) (string_rest f false (suc b) u) (rest_cut f u false (suc b) (cut_or_nil x u c)))
    go false e = rw (e, string_with) tt

-- a closed string stays closed: with any escape, only the end of the text can end it otherwise
abbrev Whole : Reply ℕ → Type 0
Whole (ok e c r) = Unit {0}
Whole (fail p) = ⊥
Whole (stop n p) = ⊥

rest_ext : (f : ℕ → Escape) (u : List ℕ) (s : Bool) (b : ℕ) (w : List ℕ) → Whole (string_rest any_escape s b u) → string_rest f s b (u ++ w) ≡ ext w (string_rest f s b u)
unfolding string_rest any_escape ext
rest_ext f [] s b w h = absurd h
rest_ext f (x ∷ u) true b w h = go (f x) refl (rest_ext f u false (suc (suc b)) w h)
  where
    go : (t : Escape) → f x ≡ t → string_rest f false (suc (suc b)) (u ++ w) ≡ ext w (string_rest f false (suc (suc b)) u) → string_rest f true b (x ∷ (u ++ w)) ≡ ext w (string_rest f true b (x ∷ u))
    go allowed e ih = rw (e, string_rest) ih
    go forbidden e ih = rw (e, string_rest)
    go panics e ih = rw (e, string_rest)
rest_ext f (x ∷ u) false b w h = go (eqb x quote) refl (eqb x backslash) refl (λ s b. rest_ext f u s b w)
  where
    go : (t : Bool) → eqb x quote ≡ t → (t' : Bool) → eqb x backslash ≡ t' → ((s : Bool) (b : ℕ) → Whole (string_rest any_escape s b u) → string_rest f s b (u ++ w) ≡ ext w (string_rest f s b u))
        → string_rest f false b (x ∷ (u ++ w)) ≡ ext w (string_rest f false b (x ∷ u))
    go true e t' e' ih = rw (e, string_rest)
    go false e true e' ih = rw (e, e', string_rest) (ih true b (rw (e, e', string_rest) at h))
    go false e false e' ih = rw (e, e', string_rest) (ih false (suc b) (rw (e, e', string_rest) at h))

span_ext : (b : ℕ) (w : List ℕ) (y : Reply ℕ) → span_from b (ext w y) ≡ ext w (span_from b y)
unfolding span_from ext
span_ext b w (ok i c r) = refl
span_ext b w (fail p) = refl
span_ext b w (stop n p) = refl

string_ext : (f : ℕ → Escape) (k b : ℕ) (u w : List ℕ) → Clean k u → Cut u → string_with f b (u ++ w) ≡ ext w (string_with f b u)
unfolding string_with ext span_from following
string_ext f k b [] w c d = absurd d
string_ext f k b (x ∷ u) w c d = go (eqb x quote) refl
  where
    whole : eqb x quote ≡ true → Whole (string_rest any_escape false (suc b) u)
    whole e = is (string_rest any_escape false (suc b) u) refl
      where
        is : (y : Reply ℕ) → string_rest any_escape false (suc b) u ≡ y → Whole y
        is (ok i a r) q = tt
        is (fail p) q = not_dead k x u c (chain_quote b x u e ∙ ap (λ y. following (span_from (suc b) y)) q)
        is (stop n p) q = not_dead k x u c (chain_quote b x u e ∙ ap (λ y. following (span_from (suc b) y)) q)

    go : (t : Bool) → eqb x quote ≡ t → string_with f b (x ∷ (u ++ w)) ≡ ext w (string_with f b (x ∷ u))
    go true e = rw (e, string_with) (rw (rest_ext f u false (suc b) w (whole e)) (span_ext (suc b) w (string_rest f false (suc b) u)))
    go false e = rw (e, string_with)

pub string_chain : (f : ℕ → Escape) → OnChain (string_with f)
string_chain f = chain_of (string_advances f) (string_steps f)

pub string_keeps : (f : ℕ → Escape) → KeepsCut (string_with f)
string_keeps f = record { keeps = string_cut f }

pub string_local : (f : ℕ → Escape) → Local (string_with f)
string_local f = record { on_chain = string_chain f; local = string_ext f }

pub quoted_chain : OnChain quoted_string
unfolding quoted_string
quoted_chain = string_chain annotation_escape

pub quoted_keeps : KeepsCut quoted_string
unfolding quoted_string
quoted_keeps = string_keeps annotation_escape

pub quoted_local : Local quoted_string
unfolding quoted_string
quoted_local = string_local annotation_escape

pub default_string_chain : OnChain default_string
unfolding default_string
default_string_chain = string_chain default_escape

pub default_string_keeps : KeepsCut default_string
unfolding default_string
default_string_keeps = string_keeps default_escape

pub default_string_local : Local default_string
unfolding default_string
default_string_local = string_local default_escape

-- word sets
module _ (ks : List (List ℕ)) where
  next_word_chain : (ws : List Word) → OnChain (next_word ks ws)
  unfolding next_word
  next_word_chain [] = any_keyword_chain ks
  next_word_chain (w ∷ ws) = chain_then whitespace1_chain (any_keyword_chain ks)

  next_word_keeps : (ws : List Word) → KeepsCut (next_word ks ws)
  unfolding next_word
  next_word_keeps [] = any_keyword_keeps ks
  next_word_keeps (w ∷ ws) = keeps_then whitespace1_keeps (any_keyword_keeps ks)

  next_word_consumes : (ws : List Word) → Consumes (next_word ks ws)
  unfolding next_word
  next_word_consumes [] = any_keyword_consumes ks
  next_word_consumes (w ∷ ws) = consumes_then_right whitespace1_chain (any_keyword_consumes ks)

  next_word_local : (ws : List Word) → Local (next_word ks ws)
  unfolding next_word
  next_word_local [] = any_keyword_local ks
  next_word_local (w ∷ ws) = local_then whitespace1_local whitespace1_keeps (any_keyword_local ks)

  pub set_step_chain : (ws : List Word) → OnChain (set_step ks ws)
  unfolding set_step
  set_step_chain ws = chain_bind (next_word_chain ws) λ w. chain_ret _

  set_step_keeps : (ws : List Word) → KeepsCut (set_step ks ws)
  unfolding set_step
  set_step_keeps ws = keeps_bind (next_word_keeps ws) λ w. keeps_ret _

  pub set_step_consumes : (ws : List Word) → Consumes (set_step ks ws)
  unfolding set_step
  set_step_consumes ws = consumes_left (next_word_consumes ws) λ w. chain_ret _

  set_step_local : (ws : List Word) → Local (set_step ks ws)
  unfolding set_step
  set_step_local ws = local_bind (next_word_local ws) (next_word_keeps ws) λ w. local_ret _

  pub keywords_set_chain : OnChain (keywords_set ks)
  unfolding keywords_set
  keywords_set_chain = chain_iter keep set_step_chain []

  pub keywords_set_keeps : KeepsCut (keywords_set ks)
  unfolding keywords_set
  keywords_set_keeps = keeps_iter keep set_step_keeps []

  pub keywords_set_local : Local (keywords_set ks)
  unfolding keywords_set
  keywords_set_local = local_iter keep set_step_local set_step_keeps set_step_consumes []

module _ (ks : List (List ℕ)) where
  pub set_flags_chain : OnChain (set_flags ks)
  unfolding set_flags
  set_flags_chain = chain_bind (keywords_set_chain ks) λ ws. chain_ret _

  pub set_flags_keeps : KeepsCut (set_flags ks)
  unfolding set_flags
  set_flags_keeps = keeps_bind (keywords_set_keeps ks) λ ws. keeps_ret _

  pub set_flags_local : Local (set_flags ks)
  unfolding set_flags
  set_flags_local = local_bind (keywords_set_local ks) (keywords_set_keeps ks) λ ws. local_ret _
