-- A parser that succeeds ends inside its text: what it leaves is a tail of the text, and the offset has been counted on. Tokens read a byte or more.
use Prim.Native.Nat.{ℕ, suc, ◌+◌, ◌<◌}
use mathlib.Core.Path.{◌≡◌, refl, ◌∙◌}
use mathlib.Core.Bool.{Bool, true, false, ◌&&◌}
use mathlib.Core.List.{List, [], ◌∷◌}
use native.Mathlib.Omega.{arith}
use lib.Dec.{eqb, leb}
use lib.ListN.{length}
use Rattle.lexing.specs.bytes.{quote, backslash, slash, star, plus, minus, is_letter, is_digit, is_word, is_hex, is_space, in_line, list_take_while}
use Rattle.lexing.specs.reply.{Reply, ok, fail, stop, Parser, ret, ◌>>=◌, ◌>>◌, catch, position}
use Rattle.lexing.specs.runs.{take_while1, tag2}
use Rattle.lexing.specs.words.{parse_id, tag}
use Rattle.lexing.specs.integers.{u64_max, fitting, hex_integer, decimal_integer, positive_integer, largest, in_range, after_sign, signed_integer}
use Rattle.lexing.specs.blanks.{white, plain, line_comment, Until, found, never, one_more, until_close, closed, block_comment, multispace1, whitespace_group}
use Rattle.lexing.specs.strings.{Escape, allowed, forbidden, panics, string_rest, span_from, string_with, annotation_escape, quoted_string, default_escape, default_string}
use Rattle.lexing.proofs.Runs.{Suf, same, skip, suf_trans, suf_length, list_drop_while_suf, run_length}
use Rattle.lexing.proofs.Tests.{letter_word}
use Rattle.lexing.proofs.TokenRuns.{run_yes, run_no, tag2_yes, tag2_no, id_nil, id_yes, id_no}

-- a tail, the offset counted on
abbrev pub Ends : {A : Type 0} → ℕ → List ℕ → Reply A → Type 0
Ends b u (ok a c r) = Suf r u × (c + length r ≡ b + length u)
Ends b u (fail p) = Unit {0}
Ends b u (stop n p) = Unit {0}

pub record Onward {A : Type 0} (m : Parser A) : Type 0 where
  pub onward : (b : ℕ) (u : List ℕ) → Ends b u (m b u)

-- the same, with at least one byte read
abbrev pub Reads : {A : Type 0} → ℕ → List ℕ → Reply A → Type 0
Reads b u (ok a c r) = Suf r u × (c + length r ≡ b + length u) × (b < c)
Reads b u (fail p) = Unit {0}
Reads b u (stop n p) = Unit {0}

pub record Advances {A : Type 0} (m : Parser A) : Type 0 where
  pub reads : (b : ℕ) (u : List ℕ) → Reads b u (m b u)

reads_ends : {A : Type 0} (b : ℕ) (u : List ℕ) (x : Reply A) → Reads b u x → Ends b u x
reads_ends b u (ok a c r) p = (p.0, p.1)
reads_ends b u (fail p) q = tt
reads_ends b u (stop n p) q = tt

pub advances_onward : {A : Type 0} {m : Parser A} → Advances m → Onward m
advances_onward {A} {m} w = record { onward = λ b u. reads_ends b u (m b u) (w.reads b u) }

advances_catch : {A : Type 0} {m : Parser A} {h : ℕ → Parser A} → Advances m → ((p : ℕ) → Advances (h p)) → Advances (catch m h)
unfolding catch
advances_catch {A} {m} {h} w v = record { reads = λ b u. go b u (m b u) refl (w.reads b u) }
  where
    go : (b : ℕ) (u : List ℕ) (x : Reply A) → m b u ≡ x → Reads b u x → Reads b u (catch m h b u)
    go b u (ok a c r) e p = rw (e, catch) p
    go b u (fail q) e p = rw (e, catch) ((v q).reads b u)
    go b u (stop n q) e p = rw (e, catch) tt

-- one parser after another
reads_then : {A B : Type 0} (b c : ℕ) (u r : List ℕ) (a : A) → Reads b u (ok a c r) → (x : Reply B) → Ends c r x → Reads b u x
reads_then b c u r a p (ok d e q) k = (suf_trans k.0 p.0, k.1 ∙ p.1, omega (arith, p.2, k.1, suf_length k.0))
reads_then b c u r a p (fail i) k = tt
reads_then b c u r a p (stop n i) k = tt

module _ {A B : Type 0} {m : Parser A} where
  advances_bind : {k : A → Parser B} → Advances m → ((a : A) → Onward (k a)) → Advances (m >>= k)
  unfolding ◌>>=◌
  advances_bind {k} w v = record { reads = λ b u. go b u (m b u) refl (w.reads b u) }
    where
      go : (b : ℕ) (u : List ℕ) (x : Reply A) → m b u ≡ x → Reads b u x → Reads b u ((m >>= k) b u)
      go b u (ok a c r) e p = rw (e, ◌>>=◌) (reads_then b c u r a p (k a c r) ((v a).onward c r))
      go b u (fail q) e p = rw (e, ◌>>=◌) tt
      go b u (stop n q) e p = rw (e, ◌>>=◌) tt

  advances_then : {k : Parser B} → Advances m → Onward k → Advances (m >> k)
  unfolding ◌>>◌
  advances_then w v = advances_bind w (λ a. v)

  advances_last : (d : B) → Advances m → Advances (m >> ret d)
  unfolding ret
  advances_last d w = advances_then w (record { onward = λ b u. (same, refl) })

advances_here : {B : Type 0} {k : ℕ → Parser B} → ((b : ℕ) → Advances (k b)) → Advances (position >>= k)
unfolding ◌>>=◌ position
advances_here v = record { reads = λ b u. (v b).reads b u }

-- runs
run_some : (f : ℕ → Bool) (x : ℕ) (u : List ℕ) → f x ≡ true → 0 < length (list_take_while f (x ∷ u))
unfolding list_take_while
run_some f x u e = rw (e, list_take_while) (omega arith)

run_reads : (f : ℕ → Bool) (b : ℕ) (u : List ℕ) → Reads b u (take_while1 f b u)
unfolding take_while1
run_reads f b [] = tt
run_reads f b (x ∷ u) = go (f x) refl
  where
    go : (t : Bool) → f x ≡ t → Reads b (x ∷ u) (take_while1 f b (x ∷ u))
    go true e = rw (run_yes f b x u e) (list_drop_while_suf f (x ∷ u), omega (arith, run_length f (x ∷ u)), omega (arith, run_some f x u e))
    go false e = rw (run_no f b x u e) tt

pub run_advances : (f : ℕ → Bool) → Advances (take_while1 f)
run_advances f = record { reads = run_reads f }

-- words and tags
parse_id_reads : (b : ℕ) (u : List ℕ) → Reads b u (parse_id b u)
parse_id_reads b [] = rw (id_nil b) tt
parse_id_reads b (x ∷ u) = go (is_letter x) refl
  where
    go : (t : Bool) → is_letter x ≡ t → Reads b (x ∷ u) (parse_id b (x ∷ u))
    go true e = rw (id_yes b x u e) (list_drop_while_suf is_word (x ∷ u), omega (arith, run_length is_word (x ∷ u)), omega (arith, run_some is_word x u (letter_word x e)))
    go false e = rw (id_no b x u e) tt

pub parse_id_advances : Advances parse_id
parse_id_advances = record { reads = parse_id_reads }

tag2_reads : (s t b : ℕ) (u : List ℕ) → Reads b u (tag2 s t b u)
unfolding tag2
tag2_reads s t b [] = tt
tag2_reads s t b (x ∷ []) = tt
tag2_reads s t b (x ∷ y ∷ u) = go (eqb x s && eqb y t) refl
  where
    go : (z : Bool) → (eqb x s && eqb y t) ≡ z → Reads b (x ∷ y ∷ u) (tag2 s t b (x ∷ y ∷ u))
    go true e = rw (tag2_yes s t b x y u e) (skip x (skip y same), omega arith, omega arith)
    go false e = rw (tag2_no s t b x y u e) tt

pub tag2_advances : (s t : ℕ) → Advances (tag2 s t)
tag2_advances s t = record { reads = tag2_reads s t }

tag_reads : (t b : ℕ) (u : List ℕ) → Reads b u (tag t b u)
unfolding tag
tag_reads t b [] = tt
tag_reads t b (x ∷ u) = go (eqb x t) refl
  where
    go : (z : Bool) → eqb x t ≡ z → Reads b (x ∷ u) (tag t b (x ∷ u))
    go true e = rw (e, tag) (skip x same, omega arith, omega arith)
    go false e = rw (e, tag) tt

pub tag_advances : (t : ℕ) → Advances (tag t)
tag_advances t = record { reads = tag_reads t }

-- integers
fitting_onward : (b v : ℕ) → Onward (fitting b v)
unfolding fitting
fitting_onward b v = record { onward = λ c r. go c r (leb v u64_max) refl }
  where
    go : (c : ℕ) (r : List ℕ) (t : Bool) → leb v u64_max ≡ t → Ends c r (fitting b v c r)
    go c r true e = rw (e, fitting) (same, refl)
    go c r false e = rw (e, fitting) tt

pub mark_advances : Advances (catch (tag2 0x30 0x78) λ p. tag2 0x30 0x58)
mark_advances = advances_catch (tag2_advances 0x30 0x78) λ p. tag2_advances 0x30 0x58

hex_advances : Advances hex_integer
unfolding hex_integer
hex_advances = advances_here λ b. advances_then mark_advances (advances_onward (advances_bind (run_advances is_hex) λ w. fitting_onward b _))

decimal_advances : Advances decimal_integer
unfolding decimal_integer
decimal_advances = advances_here λ b. advances_bind (run_advances is_digit) λ w. fitting_onward b _

pub integer_advances : Advances positive_integer
unfolding positive_integer
integer_advances = advances_catch hex_advances λ p. decimal_advances

after_sign_reads : (m : Bool) (b x : ℕ) (u : List ℕ) → Reads b (x ∷ u) (after_sign m b u)
unfolding after_sign in_range
after_sign_reads m b x [] = tt
after_sign_reads m b x (y ∷ v) = go (is_digit y) refl
  where
    range : (v c : ℕ) (u r : List ℕ) → Suf r u → c + length r ≡ b + length u → b < c → Reads b u (in_range m b v c r)
    range v c u r s n l = pass (leb v (largest m)) refl
      where
        pass : (t : Bool) → leb v (largest m) ≡ t → Reads b u (in_range m b v c r)
        pass true e = rw (e, in_range) (s, n, l)
        pass false e = rw (e, in_range) tt

    go : (t : Bool) → is_digit y ≡ t → Reads b (x ∷ y ∷ v) (after_sign m b (y ∷ v))
    go true e = rw (e, after_sign) (range _ _ (x ∷ y ∷ v) _ (skip x (list_drop_while_suf is_digit (y ∷ v))) (omega (arith, run_length is_digit (y ∷ v))) (omega arith))
    go false e = rw (e, after_sign) tt

signed_reads : (b : ℕ) (u : List ℕ) → Reads b u (signed_integer b u)
unfolding signed_integer
signed_reads b [] = tt
signed_reads b (x ∷ u) = go (eqb x minus) refl (eqb x plus) refl
  where
    go : (t : Bool) → eqb x minus ≡ t → (t' : Bool) → eqb x plus ≡ t' → Reads b (x ∷ u) (signed_integer b (x ∷ u))
    go true e t' e' = rw (e, signed_integer) (after_sign_reads true b x u)
    go false e true e' = rw (e, e', signed_integer) (after_sign_reads false b x u)
    go false e false e' = rw (e, e', signed_integer) tt

pub signed_advances : Advances signed_integer
signed_advances = record { reads = signed_reads }

-- blanks
line_advances : Advances line_comment
unfolding line_comment
line_advances = advances_then (tag2_advances slash slash) (advances_onward (advances_last plain (run_advances in_line)))

abbrev UntilEnds : List ℕ → Until → Type 0
UntilEnds v (found n r) = Suf r v × (suc (suc n) + length r ≡ length v)
UntilEnds v never = Unit {0}

one_more_ends : (x : ℕ) (u : List ℕ) (t : Until) → UntilEnds u t → UntilEnds (x ∷ u) (one_more t)
unfolding one_more
one_more_ends x u (found n r) f = (skip x f.0, omega arith)
one_more_ends x u never f = tt

until_ends : (u : List ℕ) → UntilEnds u (until_close u)
unfolding until_close
until_ends [] = tt
until_ends (x ∷ []) = tt
until_ends (x ∷ y ∷ u) = go (eqb x star && eqb y slash) refl (until_ends (y ∷ u))
  where
    go : (t : Bool) → (eqb x star && eqb y slash) ≡ t → UntilEnds (y ∷ u) (until_close (y ∷ u)) → UntilEnds (x ∷ y ∷ u) (until_close (x ∷ y ∷ u))
    go true e f = rw (e, until_close) (skip x (skip y same), omega arith)
    go false e f = rw (e, until_close) (one_more_ends x (y ∷ u) (until_close (y ∷ u)) f)

closed_reads : (b x y : ℕ) (v : List ℕ) (t : Until) → UntilEnds v t → Reads b (x ∷ y ∷ v) (closed b v t)
unfolding closed
closed_reads b x y v (found n r) f = (skip x (skip y f.0), omega arith, omega arith)
closed_reads b x y v never f = tt

block_reads : (b : ℕ) (u : List ℕ) → Reads b u (block_comment b u)
unfolding block_comment
block_reads b [] = tt
block_reads b (x ∷ []) = tt
block_reads b (x ∷ y ∷ v) = go (eqb x slash && eqb y star) refl
  where
    go : (t : Bool) → (eqb x slash && eqb y star) ≡ t → Reads b (x ∷ y ∷ v) (block_comment b (x ∷ y ∷ v))
    go true e = rw (e, block_comment) (closed_reads b x y v (until_close v) (until_ends v))
    go false e = rw (e, block_comment) tt

multispace_advances : Advances multispace1
unfolding multispace1
multispace_advances = advances_last white (run_advances is_space)

pub group_advances : Advances whitespace_group
unfolding whitespace_group
group_advances = advances_catch line_advances λ p. advances_catch (record { reads = block_reads }) λ q. multispace_advances

-- strings
string_skip : (b b' x : ℕ) (u : List ℕ) (y : Reply ℕ) → b' ≡ suc b → Reads b' u y → Reads b (x ∷ u) y
string_skip b b' x u (ok e c r) q p = (skip x p.0, omega (arith, p.1), omega (arith, p.2))
string_skip b b' x u (fail p) q h = tt
string_skip b b' x u (stop n p) q h = tt

-- the offset where the byte at hand is: after the backslash, where that has been seen
abbrev at_byte : Bool → ℕ → ℕ
at_byte true b = suc b
at_byte false b = b

rest_reads : (f : ℕ → Escape) (u : List ℕ) (s : Bool) (b : ℕ) → Reads (at_byte s b) u (string_rest f s b u)
unfolding string_rest
rest_reads f [] true b = tt
rest_reads f [] false b = tt
rest_reads f (x ∷ u) true b = go (f x) refl (rest_reads f u false)
  where
    go : (t : Escape) → f x ≡ t → ((b : ℕ) → Reads b u (string_rest f false b u)) → Reads (suc b) (x ∷ u) (string_rest f true b (x ∷ u))
    go allowed e ih = rw (e, string_rest) (string_skip (suc b) (suc (suc b)) x u (string_rest f false (suc (suc b)) u) refl (ih (suc (suc b))))
    go forbidden e ih = rw (e, string_rest) tt
    go panics e ih = rw (e, string_rest) tt
rest_reads f (x ∷ u) false b = go (eqb x quote) refl (eqb x backslash) refl (rest_reads f u)
  where
    go : (t : Bool) → eqb x quote ≡ t → (t' : Bool) → eqb x backslash ≡ t' → ((s : Bool) (b : ℕ) → Reads (at_byte s b) u (string_rest f s b u)) → Reads b (x ∷ u) (string_rest f false b (x ∷ u))
    go true e t' e' ih = rw (e, string_rest) (skip x same, omega arith, omega arith)
    go false e true e' ih = rw (e, e', string_rest) (string_skip b (suc b) x u (string_rest f true b u) refl (ih true b))
    go false e false e' ih = rw (e, e', string_rest) (string_skip b (suc b) x u (string_rest f false (suc b) u) refl (ih false (suc b)))

span_reads : (b d : ℕ) (u : List ℕ) (y : Reply ℕ) → Reads b u y → Reads b u (span_from d y)
unfolding span_from
span_reads b d u (ok e c r) p = p
span_reads b d u (fail p) h = tt
span_reads b d u (stop n p) h = tt

string_reads : (f : ℕ → Escape) (b : ℕ) (u : List ℕ) → Reads b u (string_with f b u)
unfolding string_with
string_reads f b [] = tt
string_reads f b (x ∷ u) = go (eqb x quote) refl
  where
    go : (t : Bool) → eqb x quote ≡ t → Reads b (x ∷ u) (string_with f b (x ∷ u))
    go true e = rw (e, string_with) (span_reads b (suc b) (x ∷ u) (string_rest f false (suc b) u) (string_skip b (suc b) x u (string_rest f false (suc b) u) refl (rest_reads f u false (suc b))))
    go false e = rw (e, string_with) tt

pub string_advances : (f : ℕ → Escape) → Advances (string_with f)
string_advances f = record { reads = string_reads f }

pub quoted_advances : Advances quoted_string
unfolding quoted_string
quoted_advances = string_advances annotation_escape

pub default_string_advances : Advances default_string
unfolding default_string
default_string_advances = string_advances default_escape
