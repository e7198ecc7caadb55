-- The place moves by the shift of the base: a parser that reads at an offset moved by d answers the same, with every offset moved by d.
use Prim.Native.Nat.{ℕ, zero, suc, ◌+◌, ◌-◌}
use mathlib.Core.Path.{◌≡◌, refl, ◌∙◌, ap}
use mathlib.Core.Bool.{Bool, true, false, ◌&&◌}
use mathlib.Core.Option.{Option, none, some}
use mathlib.Core.List.{List, [], ◌∷◌, map}
use native.Mathlib.Omega.{arith}
use lib.Dec.{eqb, leb, eqb-suc-suc}
use lib.ListN.{length}
use Rattle.lexing.specs.bytes.{quote, backslash, slash, star, plus, minus, is_letter, is_digit, is_word, is_hex, is_space, in_line, list_take_while, number}
use Rattle.lexing.specs.reply.{Reply, ok, fail, stop, Parser, ret, ◌>>=◌, ◌>>◌, opt, no_nearer, ◌or◌, prepend, many_within, many0, fail_at, stop_at, position, catch, pick, iter_within, iter, keep}
use Rattle.lexing.specs.runs.{take_while, take_while1, tag2}
use Rattle.lexing.specs.words.{Word, word, offset_of, bytes_of, parse_id, is_keyword, keyword, any_keyword, tag}
use Rattle.lexing.specs.integers.{u64_max, fitting, hex_integer, decimal_integer, positive_integer, largest, in_range, after_sign, signed_integer}
use Rattle.lexing.specs.blanks.{Whitespace, white, plain, doc_comment, line_comment, Until, found, never, until_close, comment_kind, closed, block_comment, multispace1, whitespace_group, Doc, no_doc, doc_at, doc_after, one_blank, whitespace0, whitespace1}
use Rattle.lexing.specs.strings.{Span, span, Escape, allowed, forbidden, panics, string_rest, span_from, string_with, annotation_escape, quoted_string, default_escape, default_string}
use Rattle.lexing.specs.word_sets.{next_word, set_step, keywords_set, contains, flags, set_flags}
use Rattle.lexing.proofs.TokenRuns.{run_yes, run_no, tag2_yes, tag2_no}

-- values, with their offsets moved
unfoldable pub shift_reply : {A : Type 0} → ℕ → (A → A) → Reply A → Reply A
shift_reply d f (ok a c r) = ok (f a) (d + c) r
shift_reply d f (fail p) = fail (d + p)
shift_reply d f (stop n p) = stop n (d + p)

unfoldable pub shift_word : ℕ → Word → Word
shift_word d (word o w) = word (d + o) w

unfoldable pub shift_doc : ℕ → Doc → Doc
shift_doc d no_doc = no_doc
shift_doc d (doc_at o n) = doc_at (d + o) n

unfoldable pub shift_blank : ℕ → Whitespace → Whitespace
shift_blank d white = white
shift_blank d plain = plain
shift_blank d (doc_comment o n) = doc_comment (d + o) n

unfoldable pub shift_option : {A : Type 0} → (A → A) → Option A → Option A
shift_option f none = none
shift_option f (some a) = some (f a)

unfoldable pub still : {A : Type 0} → A → A
still a = a

unfoldable pub shift_span : ℕ → Span → Span
shift_span d (span o n) = span (d + o) n

-- m' at an offset moved by d is m, moved (a parser may hold a value that was read before, and so m' differ from m)
pub record Shifts {A : Type 0} (d : ℕ) (f : A → A) (m' m : Parser A) : Type 0 where
  pub shifts : (b : ℕ) (u : List ℕ) → m' (d + b) u ≡ shift_reply d f (m b u)

module _ (d : ℕ) where
  pub shift_ret : {A : Type 0} {f : A → A} (a' a : A) → a' ≡ f a → Shifts d f (ret a') (ret a)
  unfolding ret shift_reply
  shift_ret a' a e = record { shifts = λ b u. rw e }

  pub shift_bind : {A B : Type 0} {f : A → A} {g : B → B} {m' m : Parser A} {k' k : A → Parser B} → Shifts d f m' m → ((a' a : A) → a' ≡ f a → Shifts d g (k' a') (k a)) → Shifts d g (m' >>= k') (m >>= k)
  unfolding ◌>>=◌ shift_reply
  shift_bind {A} {B} {f} {g} {m'} {m} {k'} {k} s v = record { shifts = λ b u. go b u (m b u) refl }
    where
      go : (b : ℕ) (u : List ℕ) (x : Reply A) → m b u ≡ x → (m' >>= k') (d + b) u ≡ shift_reply d g ((m >>= k) b u)
      go b u (ok a c r) e = rw (s.shifts b u, e, ◌>>=◌) ((v (f a) a refl).shifts c r)
      go b u (fail p) e = rw (s.shifts b u, e, ◌>>=◌)
      go b u (stop n p) e = rw (s.shifts b u, e, ◌>>=◌)

  pub shift_then : {A B : Type 0} {f : A → A} {g : B → B} {m' m : Parser A} {k' k : Parser B} → Shifts d f m' m → Shifts d g k' k → Shifts d g (m' >> k') (m >> k)
  unfolding ◌>>◌
  shift_then s v = shift_bind s (λ a' a e. v)

  pub shift_opt : {A : Type 0} {f : A → A} {m' m : Parser A} → Shifts d f m' m → Shifts d (shift_option f) (opt m') (opt m)
  unfolding opt shift_reply shift_option
  shift_opt {A} {f} {m'} {m} s = record { shifts = λ b u. go b u (m b u) refl }
    where
      go : (b : ℕ) (u : List ℕ) (x : Reply A) → m b u ≡ x → opt m' (d + b) u ≡ shift_reply d (shift_option f) (opt m b u)
      go b u (ok a c r) e = rw (s.shifts b u, e, opt)
      go b u (fail p) e = rw (s.shifts b u, e, opt)
      go b u (stop n p) e = rw (s.shifts b u, e, opt)

  further_shift : {A : Type 0} (f : A → A) (p : ℕ) (x : Reply A) → no_nearer (d + p) (shift_reply d f x) ≡ shift_reply d f (no_nearer p x)
  unfolding no_nearer shift_reply
  further_shift f p (ok a c r) = refl
  further_shift {A} f p (fail q) = ap {B = Reply A} fail (omega arith)
  further_shift f p (stop n q) = refl

  pub shift_or : {A : Type 0} {f : A → A} {m' m k' k : Parser A} → Shifts d f m' m → Shifts d f k' k → Shifts d f (m' or k') (m or k)
  unfolding ◌or◌ shift_reply
  shift_or {A} {f} {m'} {m} {k'} {k} s v = record { shifts = λ b u. go b u (m b u) refl }
    where
      go : (b : ℕ) (u : List ℕ) (x : Reply A) → m b u ≡ x → (m' or k') (d + b) u ≡ shift_reply d f ((m or k) b u)
      go b u (ok a c r) e = rw (s.shifts b u, e, ◌or◌)
      go b u (fail p) e = rw (s.shifts b u, e, v.shifts b u, ◌or◌) (further_shift f p (k b u))
      go b u (stop n p) e = rw (s.shifts b u, e, ◌or◌)

  prepend_shift : {A : Type 0} (f : A → A) (a : A) (x : Reply (List A)) → prepend (f a) (shift_reply d (map f) x) ≡ shift_reply d (map f) (prepend a x)
  unfolding prepend shift_reply
  prepend_shift f a (ok l c r) = refl
  prepend_shift f a (fail p) = refl
  prepend_shift f a (stop n p) = refl

  shift_many_within : {A : Type 0} {f : A → A} {m' m : Parser A} → Shifts d f m' m → (n b : ℕ) (u : List ℕ) → many_within n m' (d + b) u ≡ shift_reply d (map f) (many_within n m b u)
  unfolding many_within shift_reply
  shift_many_within s zero b u = refl
  shift_many_within {A} {f} {m'} {m} s (suc n) b u = go (m b u) refl (shift_many_within s n)
    where
      go : (x : Reply A) → m b u ≡ x → ((b : ℕ) (u : List ℕ) → many_within n m' (d + b) u ≡ shift_reply d (map f) (many_within n m b u)) → many_within (suc n) m' (d + b) u ≡ shift_reply d (map f) (many_within (suc n) m b u)
      go (ok a c r) e ih = rw (s.shifts b u, e, many_within) (rw (ih c r) (prepend_shift f a (many_within n m c r)))
      go (fail p) e ih = rw (s.shifts b u, e, many_within)
      go (stop i p) e ih = rw (s.shifts b u, e, many_within)

  pub shift_many0 : {A : Type 0} {f : A → A} {m' m : Parser A} → Shifts d f m' m → Shifts d (map f) (many0 m') (many0 m)
  unfolding many0
  shift_many0 s = record { shifts = λ b u. shift_many_within s (suc (length u)) b u }

  pub shift_fail : {A : Type 0} {f : A → A} (p' p : ℕ) → p' ≡ d + p → Shifts d f (fail_at p') (fail_at p)
  unfolding fail_at shift_reply
  shift_fail p' p e = record { shifts = λ b u. rw e }

  pub shift_stop : {A : Type 0} {f : A → A} (n p' p : ℕ) → p' ≡ d + p → Shifts d f (stop_at n p') (stop_at n p)
  unfolding stop_at shift_reply
  shift_stop n p' p e = record { shifts = λ b u. rw e }

  pub shift_position : Shifts d (λ b. d + b) position position
  unfolding position shift_reply
  shift_position = record { shifts = λ b u. refl }

  pub shift_catch : {A : Type 0} {f : A → A} {m' m : Parser A} {h' h : ℕ → Parser A} → Shifts d f m' m → ((p' p : ℕ) → p' ≡ d + p → Shifts d f (h' p') (h p)) → Shifts d f (catch m' h') (catch m h)
  unfolding catch shift_reply
  shift_catch {A} {f} {m'} {m} {h'} {h} s v = record { shifts = λ b u. go b u (m b u) refl }
    where
      go : (b : ℕ) (u : List ℕ) (x : Reply A) → m b u ≡ x → catch m' h' (d + b) u ≡ shift_reply d f (catch m h b u)
      go b u (ok a c r) e = rw (s.shifts b u, e, catch)
      go b u (fail p) e = rw (s.shifts b u, e, catch) ((v (d + p) p refl).shifts b u)
      go b u (stop n p) e = rw (s.shifts b u, e, catch)

  pub shift_pick : {A : Type 0} {f : A → A} {m' m k' k : Parser A} (t' t : Bool) → t' ≡ t → Shifts d f m' m → Shifts d f k' k → Shifts d f (pick t' m' k') (pick t m k)
  unfolding pick
  shift_pick t' true e a b = rw e a
  shift_pick t' false e a b = rw e b

  shift_iter_within : {S : Type 0} (mv : S → S) (f : S → Parser S) (g : ℕ → S → S) → ((s' s : S) → s' ≡ mv s → Shifts d mv (f s') (f s)) → ((p : ℕ) (s : S) → g (d + p) (mv s) ≡ mv (g p s))
      → (n : ℕ) (s : S) (b : ℕ) (u : List ℕ) → iter_within n f g (mv s) (d + b) u ≡ shift_reply d mv (iter_within n f g s b u)
  unfolding iter_within shift_reply
  shift_iter_within mv f g v w zero s b u = refl
  shift_iter_within {S} mv f g v w (suc n) s b u = go (f s b u) refl (shift_iter_within mv f g v w n)
    where
      go : (x : Reply S) → f s b u ≡ x → ((s : S) (b : ℕ) (u : List ℕ) → iter_within n f g (mv s) (d + b) u ≡ shift_reply d mv (iter_within n f g s b u)) → iter_within (suc n) f g (mv s) (d + b) u ≡ shift_reply d mv (iter_within (suc n) f g s b u)
      go (ok a c r) e ih = rw ((v (mv s) s refl).shifts b u, e, iter_within) (ih a c r)
      go (fail p) e ih = rw ((v (mv s) s refl).shifts b u, e, iter_within) (rw (w p s))
      go (stop i p) e ih = rw ((v (mv s) s refl).shifts b u, e, iter_within)

  pub shift_iter : {S : Type 0} (mv : S → S) (f : S → Parser S) (g : ℕ → S → S) → ((s' s : S) → s' ≡ mv s → Shifts d mv (f s') (f s)) → ((p : ℕ) (s : S) → g (d + p) (mv s) ≡ mv (g p s))
      → (s' s : S) → s' ≡ mv s → Shifts d mv (iter f g s') (iter f g s)
  unfolding iter
  shift_iter mv f g v w s' s e = rw e (record { shifts = λ b u. shift_iter_within mv f g v w (suc (length u)) s b u })

  -- sums of offsets
  sum_left : (b n : ℕ) → d + b + n ≡ d + (b + n)
  sum_left b n = omega arith

  sum_suc : (b : ℕ) → suc (d + b) ≡ d + suc b
  sum_suc b = omega arith

  eqb_add : (k b c : ℕ) → eqb (k + b) (k + c) ≡ eqb b c
  eqb_add zero b c = let p : 0 + b ≡ b = omega arith in let q : 0 + c ≡ c = omega arith in rw (p, q)
  eqb_add (suc k) b c =
      let p : suc k + b ≡ suc (k + b) = omega arith in
      let q : suc k + c ≡ suc (k + c) = omega arith in
      rw (p, q) (eqb-suc-suc (k + b) (k + c) ∙ eqb_add k b c)

  -- words and tags
  -- runs and a tag of two bytes
  shift_while : (f : ℕ → Bool) → Shifts d still (take_while f) (take_while f)
  unfolding take_while shift_reply still
  shift_while f = record { shifts = λ b u. rw (sum_left b (length (list_take_while f u))) }

  shift_run : (f : ℕ → Bool) → Shifts d still (take_while1 f) (take_while1 f)
  unfolding take_while1 shift_reply still
  shift_run f = record { shifts = at }
    where
      at : (b : ℕ) (u : List ℕ) → take_while1 f (d + b) u ≡ shift_reply d still (take_while1 f b u)
      at b [] = refl
      at b (x ∷ u) = go (f x) refl
        where
          go : (t : Bool) → f x ≡ t → take_while1 f (d + b) (x ∷ u) ≡ shift_reply d still (take_while1 f b (x ∷ u))
          go true e = rw (run_yes f (d + b) x u e, run_yes f b x u e) (rw (sum_left b (length (list_take_while f (x ∷ u)))))
          go false e = rw (run_no f (d + b) x u e, run_no f b x u e)

  shift_tag2 : (s t : ℕ) → Shifts d still (tag2 s t) (tag2 s t)
  unfolding tag2 shift_reply still
  shift_tag2 s t = record { shifts = at }
    where
      at : (b : ℕ) (u : List ℕ) → tag2 s t (d + b) u ≡ shift_reply d still (tag2 s t b u)
      at b [] = refl
      at b (x ∷ []) = refl
      at b (x ∷ y ∷ u) = go (eqb x s && eqb y t) refl
        where
          go : (z : Bool) → (eqb x s && eqb y t) ≡ z → tag2 s t (d + b) (x ∷ y ∷ u) ≡ shift_reply d still (tag2 s t b (x ∷ y ∷ u))
          go true e = rw (tag2_yes s t (d + b) x y u e, tag2_yes s t b x y u e) (rw (sum_left b 2))
          go false e = rw (tag2_no s t (d + b) x y u e, tag2_no s t b x y u e)

  pub shift_parse_id : Shifts d (shift_word d) parse_id parse_id
  unfolding parse_id shift_word still
  shift_parse_id = shift_bind shift_position λ p' p ep. shift_bind (shift_run is_letter) λ v' v ev. shift_bind (shift_while is_word) λ w' w ew. shift_ret _ _ (rw (ep, ev, ew))

  -- a word's bytes do not move, its offset does
  pub bytes_shift : (w : Word) → bytes_of (shift_word d w) ≡ bytes_of w
  unfolding bytes_of shift_word
  bytes_shift (word o w) = refl

  pub offset_shift : (w : Word) → offset_of (shift_word d w) ≡ d + offset_of w
  unfolding offset_of shift_word
  offset_shift (word o w) = refl

  pub shift_keyword : (k : List ℕ) → Shifts d (shift_word d) (keyword k) (keyword k)
  unfolding keyword
  shift_keyword k = shift_bind shift_position λ p' p ep. shift_bind shift_parse_id λ w' w ew. shift_pick _ _ (ap (λ v. is_keyword (bytes_of v) k) ew ∙ ap (λ v. is_keyword v k) (bytes_shift w)) (shift_ret w' w ew) (shift_fail p' p ep)

  pub shift_any_keyword : (ks : List (List ℕ)) → Shifts d (shift_word d) (any_keyword ks) (any_keyword ks)
  unfolding any_keyword shift_reply
  shift_any_keyword [] = record { shifts = λ b u. refl }
  shift_any_keyword (k ∷ ks) = shift_or (shift_keyword k) (shift_any_keyword ks)

  pub shift_tag : (t : ℕ) → Shifts d still (tag t) (tag t)
  unfolding tag shift_reply still
  shift_tag t = record { shifts = at }
    where
      at : (b : ℕ) (u : List ℕ) → tag t (d + b) u ≡ shift_reply d still (tag t b u)
      at b [] = refl
      at b (x ∷ u) = go (eqb x t) refl
        where
          go : (z : Bool) → eqb x t ≡ z → tag t (d + b) (x ∷ u) ≡ shift_reply d still (tag t b (x ∷ u))
          go true e = rw (e, tag) (rw (sum_suc b))
          go false e = rw (e, tag)

  -- integers
  shift_fitting : (p' p v' v : ℕ) → p' ≡ d + p → v' ≡ v → Shifts d still (fitting p' v') (fitting p v)
  unfolding fitting shift_reply still
  shift_fitting p' p v' v ep ev = rw (ep, ev) (record { shifts = λ c r. go c r (leb v u64_max) refl })
    where
      go : (c : ℕ) (r : List ℕ) (t : Bool) → leb v u64_max ≡ t → fitting (d + p) v (d + c) r ≡ shift_reply d still (fitting p v c r)
      go c r true e = rw (e, fitting)
      go c r false e = rw (e, fitting)

  shift_hex : Shifts d still hex_integer hex_integer
  unfolding hex_integer still
  shift_hex = shift_bind shift_position λ p' p ep. shift_then (shift_catch (shift_tag2 0x30 0x78) λ q' q eq. shift_tag2 0x30 0x58) (shift_bind (shift_run is_hex) λ w' w ew. shift_fitting _ _ _ _ ep (ap (number 16 0) ew))

  shift_decimal : Shifts d still decimal_integer decimal_integer
  unfolding decimal_integer still
  shift_decimal = shift_bind shift_position λ p' p ep. shift_bind (shift_run is_digit) λ w' w ew. shift_fitting _ _ _ _ ep (ap (number 10 0) ew)

  pub shift_integer : Shifts d still positive_integer positive_integer
  unfolding positive_integer
  shift_integer = shift_catch shift_hex λ p' p e. shift_decimal

  after_sign_shift : (m : Bool) (b : ℕ) (u : List ℕ) → after_sign m (d + b) u ≡ shift_reply d still (after_sign m b u)
  unfolding after_sign in_range shift_reply still
  after_sign_shift m b [] = refl
  after_sign_shift m b (y ∷ v) = go (is_digit y) refl
    where
      range : (v n : ℕ) (r : List ℕ) → in_range m (d + b) v (d + b + n) r ≡ shift_reply d still (in_range m b v (b + n) r)
      range v n r = pass (leb v (largest m)) refl
        where
          pass : (t : Bool) → leb v (largest m) ≡ t → in_range m (d + b) v (d + b + n) r ≡ shift_reply d still (in_range m b v (b + n) r)
          pass true e = rw (e, in_range) (rw (sum_left b n))
          pass false e = rw (e, in_range)

      go : (t : Bool) → is_digit y ≡ t → after_sign m (d + b) (y ∷ v) ≡ shift_reply d still (after_sign m b (y ∷ v))
      go true e = rw (e, after_sign) (range _ _ _)
      go false e = rw (e, after_sign)

  pub shift_signed : Shifts d still signed_integer signed_integer
  unfolding signed_integer shift_reply
  shift_signed = record { shifts = at }
    where
      at : (b : ℕ) (u : List ℕ) → signed_integer (d + b) u ≡ shift_reply d still (signed_integer b u)
      at b [] = refl
      at b (x ∷ u) = go (eqb x minus) refl (eqb x plus) refl
        where
          go : (t : Bool) → eqb x minus ≡ t → (t' : Bool) → eqb x plus ≡ t' → signed_integer (d + b) (x ∷ u) ≡ shift_reply d still (signed_integer b (x ∷ u))
          go true e t' e' = rw (e, signed_integer) (after_sign_shift true b u)
          go false e true e' = rw (e, e', signed_integer) (after_sign_shift false b u)
          go false e false e' = rw (e, e', signed_integer)

  -- blanks
  shift_line : Shifts d (shift_blank d) line_comment line_comment
  unfolding line_comment shift_blank
  shift_line = shift_then (shift_tag2 slash slash) (shift_then (shift_run in_line) (shift_ret plain plain refl))

  kind_shift : (b n : ℕ) (v : List ℕ) → comment_kind (d + b) n v ≡ shift_blank d (comment_kind b n v)
  unfolding comment_kind shift_blank
  kind_shift b zero v = refl
  kind_shift b (suc n) [] = refl
  kind_shift b (suc n) (x ∷ v) = go (eqb x star) refl
    where
      go : (t : Bool) → eqb x star ≡ t → comment_kind (d + b) (suc n) (x ∷ v) ≡ shift_blank d (comment_kind b (suc n) (x ∷ v))
      go true e = rw (e, comment_kind) (rw (sum_left b 3))
      go false e = rw (e, comment_kind)

  closed_shift : (b : ℕ) (v : List ℕ) (t : Until) → closed (d + b) v t ≡ shift_reply d (shift_blank d) (closed b v t)
  unfolding closed shift_reply
  closed_shift b v (found n r) = rw (kind_shift b n v, sum_left b (4 + n))
  closed_shift b v never = refl

  shift_block : Shifts d (shift_blank d) block_comment block_comment
  unfolding block_comment shift_reply
  shift_block = record { shifts = at }
    where
      at : (b : ℕ) (u : List ℕ) → block_comment (d + b) u ≡ shift_reply d (shift_blank d) (block_comment b u)
      at b [] = refl
      at b (x ∷ []) = refl
      at b (x ∷ y ∷ v) = go (eqb x slash && eqb y star) refl
        where
          go : (t : Bool) → (eqb x slash && eqb y star) ≡ t → block_comment (d + b) (x ∷ y ∷ v) ≡ shift_reply d (shift_blank d) (block_comment b (x ∷ y ∷ v))
          go true e = rw (e, block_comment) (closed_shift b v (until_close v))
          go false e = rw (e, block_comment)

  shift_multispace : Shifts d (shift_blank d) multispace1 multispace1
  unfolding multispace1 shift_blank
  shift_multispace = shift_then (shift_run is_space) (shift_ret white white refl)

  pub shift_group : Shifts d (shift_blank d) whitespace_group whitespace_group
  unfolding whitespace_group
  shift_group = shift_catch shift_line λ p' p e. shift_catch shift_block λ q' q e'. shift_multispace

  after_shift : (g : Whitespace) (c : Doc) → doc_after (shift_blank d g) (shift_doc d c) ≡ shift_doc d (doc_after g c)
  unfolding doc_after shift_blank shift_doc
  after_shift white c = refl
  after_shift plain c = refl
  after_shift (doc_comment o n) c = refl

  shift_one_blank : (c' c : Doc) → c' ≡ shift_doc d c → Shifts d (shift_doc d) (one_blank c') (one_blank c)
  unfolding one_blank
  shift_one_blank c' c e = shift_bind shift_group λ g' g eg. shift_ret _ _ (rw (eg, e) (after_shift g c))

  pub shift_whitespace0 : Shifts d (shift_doc d) whitespace0 whitespace0
  unfolding whitespace0 shift_doc keep
  shift_whitespace0 = shift_iter (shift_doc d) one_blank keep shift_one_blank (λ p s. refl) no_doc no_doc refl

  pub shift_whitespace1 : Shifts d (shift_doc d) whitespace1 whitespace1
  unfolding whitespace1
  shift_whitespace1 = shift_bind shift_position λ p' p ep. shift_bind shift_whitespace0 λ c' c ec. shift_bind shift_position λ q' q eq. shift_pick _ _ (rw (ep, eq) (eqb_add d p q)) (shift_fail p' p ep) (shift_ret c' c ec)

  -- strings
  rest_shift : (f : ℕ → Escape) (u : List ℕ) (s : Bool) (b : ℕ) → string_rest f s (d + b) u ≡ shift_reply d (λ e. d + e) (string_rest f s b u)
  unfolding string_rest shift_reply
  rest_shift f [] s b = refl
  rest_shift f (x ∷ u) true b = go (f x) refl (rest_shift f u false (suc (suc b)))
    where
      sum : suc (suc (d + b)) ≡ d + suc (suc b)
      sum = omega arith

      go : (t : Escape) → f x ≡ t → string_rest f false (d + suc (suc b)) u ≡ shift_reply d (λ e. d + e) (string_rest f false (suc (suc b)) u) → string_rest f true (d + b) (x ∷ u) ≡ shift_reply d (λ e. d + e) (string_rest f true b (x ∷ u))
      go allowed e ih = rw (e, string_rest) (rw sum ih)
      go forbidden e ih = rw (e, string_rest)
      go panics e ih = rw (e, string_rest)
  rest_shift f (x ∷ u) false b = go (eqb x quote) refl (eqb x backslash) refl (rest_shift f u)
    where
      go : (t : Bool) → eqb x quote ≡ t → (t' : Bool) → eqb x backslash ≡ t' → ((s : Bool) (b : ℕ) → string_rest f s (d + b) u ≡ shift_reply d (λ e. d + e) (string_rest f s b u))
          → string_rest f false (d + b) (x ∷ u) ≡ shift_reply d (λ e. d + e) (string_rest f false b (x ∷ u))
      go true e t' e' ih = rw (e, string_rest) (rw (sum_suc b))
      go false e true e' ih = rw (e, e', string_rest) (ih true b)
      go false e false e' ih = rw (e, e', string_rest) (rw (sum_suc b) (ih false (suc b)))

  span_shift : (b : ℕ) (x : Reply ℕ) → span_from (d + b) (shift_reply d (λ e. d + e) x) ≡ shift_reply d (shift_span d) (span_from b x)
  unfolding span_from shift_reply shift_span
  span_shift b (ok e c r) = let z : (d + e) - (d + b) ≡ e - b = omega arith in rw z
  span_shift b (fail p) = refl
  span_shift b (stop n p) = refl

  pub shift_string : (f : ℕ → Escape) → Shifts d (shift_span d) (string_with f) (string_with f)
  unfolding string_with shift_reply
  shift_string f = record { shifts = at }
    where
      at : (b : ℕ) (u : List ℕ) → string_with f (d + b) u ≡ shift_reply d (shift_span d) (string_with f b u)
      at b [] = refl
      at b (x ∷ u) = go (eqb x quote) refl
        where
          go : (t : Bool) → eqb x quote ≡ t → string_with f (d + b) (x ∷ u) ≡ shift_reply d (shift_span d) (string_with f b (x ∷ u))
          go true e = rw (e, string_with) (rw (sum_suc b) (rw (rest_shift f u false (suc b)) (span_shift (suc b) (string_rest f false (suc b) u))))
          go false e = rw (e, string_with)

  pub shift_quoted : Shifts d (shift_span d) quoted_string quoted_string
  unfolding quoted_string
  shift_quoted = shift_string annotation_escape

  pub shift_default_string : Shifts d (shift_span d) default_string default_string
  unfolding default_string
  shift_default_string = shift_string default_escape

  -- word sets
  shift_next_word : (ks : List (List ℕ)) (l : List Word) → Shifts d (shift_word d) (next_word ks (map (shift_word d) l)) (next_word ks l)
  unfolding next_word
  shift_next_word ks [] = shift_any_keyword ks
  shift_next_word ks (w ∷ l) = shift_then shift_whitespace1 (shift_any_keyword ks)

  shift_set_step : (ks : List (List ℕ)) (l' l : List Word) → l' ≡ map (shift_word d) l → Shifts d (map (shift_word d)) (set_step ks l') (set_step ks l)
  unfolding set_step
  shift_set_step ks l' l e = rw e (shift_bind (shift_next_word ks l) λ w' w ew. shift_ret _ _ (rw ew))

  pub shift_keywords_set : (ks : List (List ℕ)) → Shifts d (map (shift_word d)) (keywords_set ks) (keywords_set ks)
  unfolding keywords_set keep
  shift_keywords_set ks = shift_iter (map (shift_word d)) (set_step ks) keep (shift_set_step ks) (λ p s. refl) [] [] refl

  contains_shift : (ws : List Word) (k : List ℕ) → contains (map (shift_word d) ws) k ≡ contains ws k
  unfolding contains
  contains_shift [] k = refl
  contains_shift (w ∷ ws) k = rw (bytes_shift w, contains_shift ws k)

  flags_shift : (ks : List (List ℕ)) (ws : List Word) → flags ks (map (shift_word d) ws) ≡ flags ks ws
  unfolding flags
  flags_shift [] ws = refl
  flags_shift (k ∷ ks) ws = rw (contains_shift ws k, flags_shift ks ws)

  pub shift_set_flags : (ks : List (List ℕ)) → Shifts d still (set_flags ks) (set_flags ks)
  unfolding set_flags still
  shift_set_flags ks = shift_bind (shift_keywords_set ks) λ ws' ws e. shift_ret _ _ (rw e (flags_shift ks ws))
