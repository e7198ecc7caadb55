-- What is read is in the text: a word is the text's bytes at its offset, spans lie inside, numbers fit their bits; and the rules by which a production gives what its parts give.
-- A part t of the text begins at offset s; a parser reads somewhere in it and ends at an offset `end` or before. For a whole text s is 0.
use Prim.Native.Nat.{ℕ, zero, suc, ◌+◌, ◌-◌, ◌^◌, ◌≤◌, ◌<◌}
use mathlib.Core.Path.{◌≡◌, refl, sym, ◌∙◌, ap, subst}
use mathlib.Core.Bool.{Bool, true, false}
use mathlib.Core.Option.{Option, none, some}
use mathlib.Core.List.{List, [], ◌∷◌, ◌++◌}
use native.Mathlib.Omega.{arith}
use lib.Dec.{leb, eqb}
use lib.ListN.{length, take, drop, length-drop}
use lib.Seq.{drop-append-add, drop-append-le, take-append-le}
use Rattle.lexing.specs.runs.{take_while1, tag2}
use Rattle.lexing.specs.reply.{Reply, ok, fail, stop, Parser, ret, ◌>>=◌, ◌>>◌, opt, no_nearer, ◌or◌, prepend, many_within, many0, iter_within, iter, fail_at, stop_at, catch, pick, position}
use Rattle.lexing.specs.bytes.{quote, backslash, plus, minus, is_letter, is_digit, is_word, is_hex, list_take_while, list_drop_while}
use Rattle.lexing.specs.words.{Word, word, offset_of, bytes_of, parse_id, keyword, any_keyword}
use Rattle.lexing.specs.integers.{u64_max, fitting, hex_integer, decimal_integer, positive_integer, Signed, signed, largest, in_range, after_sign, signed_integer}
use Rattle.lexing.specs.blanks.{Doc, no_doc, doc_at, whitespace0}
use Rattle.lexing.specs.strings.{Span, span, Escape, allowed, forbidden, panics, string_rest, span_from, string_with, quoted_string, default_string}
use Rattle.lexing.specs.word_sets.{set_flags, field_set, struct_set, event_set, command_set, attribute_set}
use Rattle.lexing.specs.names.{two_keywords_name, named_after}
use Rattle.lexing.specs.answers.{Rest, doc_of, BlankTo}
use Rattle.lexing.specs.declared.blanks.DocSpan.{DocSpan}
use Rattle.std.specs.Prelude.{Option as CodeOption, Some, None}
use Rattle.lexing.proofs.Tests.{le_of}
use Rattle.lexing.proofs.Scans.{take_run}
use Rattle.lexing.proofs.TokenRuns.{id_nil, id_yes, id_no}
use Rattle.lexing.proofs.Onward.{Ends, Onward, advances_onward, parse_id_advances, tag_advances, integer_advances, signed_advances, quoted_advances, default_string_advances}
use Rattle.lexing.proofs.Slicing.{rest_self, walks}
use Rattle.lexing.proofs.DocPlace.{DocIn, doc_in}
use Rattle.lexing.proofs.Locality.{chain_then, chain_opt, chain_many0, chain_position, chain_local, chain_inside}
use Rattle.lexing.proofs.TokenLocality.{parse_id_chain, keyword_chain, any_keyword_chain, whitespace0_chain, whitespace1_chain, keywords_set_chain, set_flags_chain}
use Rattle.lexing.proofs.Composed.{ends_up, rest_on, onward_ret, onward_fail, onward_pick, onward_many, onward_iter, onward_bind, onward_then}
use Rattle.lexing.proofs.word_sets.Laws.{flags_less}
use Rattle.lexing.proofs.names.Laws.{two_keywords_name_on}

-- where a step ends: the tokens' rules and the combinators'
pub ruleset token_onward = (onward_ret, onward_fail, onward_bind, onward_then, onward_pick, walks, advances_onward, parse_id_advances, tag_advances, integer_advances, signed_advances, quoted_advances, default_string_advances, keyword_chain, any_keyword_chain, whitespace0_chain, whitespace1_chain, set_flags_chain, parse_id_chain, chain_position, chain_opt, chain_local, chain_inside, chain_then, chain_many0)

-- every element, and an optional one
abbrev pub All : {A : Type 0} → (A → Type 0) → List A → Type 0
All Q [] = Unit {0}
All Q (a ∷ l) = Q a × All Q l

abbrev pub Maybe : {A : Type 0} → (A → Type 0) → Option A → Type 0
Maybe Q none = Unit {0}
Maybe Q (some a) = Q a

-- only an ok reply holds a value
fail_no : {A X : Type 0} {p : ℕ} {a : A} {c : ℕ} {r : List ℕ} → fail p ≡ ok a c r → X
fail_no e = let z : ◌≡◌ {A = ℕ} 0 1 = cc in absurd (omega arith)

stop_no : {A X : Type 0} {n p : ℕ} {a : A} {c : ℕ} {r : List ℕ} → stop n p ≡ ok a c r → X
stop_no e = let z : ◌≡◌ {A = ℕ} 0 1 = cc in absurd (omega arith)

further_ok : {A : Type 0} (p : ℕ) (x : Reply A) {a : A} {c : ℕ} {r : List ℕ} → no_nearer p x ≡ ok a c r → x ≡ ok a c r
unfolding no_nearer
further_ok p (ok b d q) e = e
further_ok p (fail q) e = fail_no e
further_ok p (stop n q) e = e

prepend_ok : {A : Type 0} (d : A) (x : Reply (List A)) {l : List A} {c : ℕ} {r : List ℕ} → prepend d x ≡ ok l c r → (k : List A) × ((d ∷ k ≡ l) × (x ≡ ok k c r))
unfolding prepend
prepend_ok d (ok k b q) {l} {c} {r} e = let z : d ∷ k ≡ l = cc in let y : ok k b q ≡ ok k c r = cc in (k, (z, y))
prepend_ok d (fail p) e = fail_no e
prepend_ok d (stop n p) e = stop_no e

goes_up : {A : Type 0} {k : Parser A} {d : A} {c n : ℕ} {r l : List ℕ} → Onward k → k c r ≡ ok d n l → c ≤ n
goes_up {d = d} {c} {r = r} w q = ends_up d (rw q at (w.onward c r))

-- numbers
abbrev Fits64 : Reply ℕ → Type 0
Fits64 (ok n c r) = n ≤ u64_max
Fits64 (fail p) = Unit {0}
Fits64 (stop n p) = Unit {0}

fitting_fits : (b v c : ℕ) (r : List ℕ) → Fits64 (fitting b v c r)
unfolding fitting
fitting_fits b v c r = go (leb v u64_max) refl
  where
    go : (z : Bool) → leb v u64_max ≡ z → Fits64 (fitting b v c r)
    go true k = rw (k, fitting) (le_of v u64_max k)
    go false k = rw (k, fitting) tt

-- the value of a sequence is that of its last part
last_fits : {A : Type 0} (m : Parser A) (k : A → Parser ℕ) → ((a : A) (c : ℕ) (r : List ℕ) → Fits64 (k a c r)) → (b : ℕ) (u : List ℕ) → Fits64 ((m >>= k) b u)
unfolding ◌>>=◌
last_fits {A} m k h b u = go (m b u) refl
  where
    go : (x : Reply A) → m b u ≡ x → Fits64 ((m >>= k) b u)
    go (ok a c r) e = rw (e, ◌>>=◌) (h a c r)
    go (fail p) e = rw (e, ◌>>=◌) tt
    go (stop n p) e = rw (e, ◌>>=◌) tt

hex_fits : (b : ℕ) (u : List ℕ) → Fits64 (hex_integer b u)
unfolding hex_integer ◌>>◌
hex_fits = last_fits position _ λ s. last_fits (catch (tag2 0x30 0x78) λ p. tag2 0x30 0x58) _ λ z. last_fits (take_while1 is_hex) _ λ w. fitting_fits s _

decimal_fits : (b : ℕ) (u : List ℕ) → Fits64 (decimal_integer b u)
unfolding decimal_integer
decimal_fits = last_fits position _ λ s. last_fits (take_while1 is_digit) _ λ w. fitting_fits s _

abbrev pub InRange : Signed → Type 0
InRange (signed m v) = v ≤ largest m

after_sign_fits : (m : Bool) (b : ℕ) (u : List ℕ) {z : Signed} {d : ℕ} {q : List ℕ} → after_sign m b u ≡ ok z d q → InRange z
unfolding after_sign in_range
after_sign_fits m b [] e = fail_no e
after_sign_fits m b (y ∷ v) {z} {d} {q} e = go (is_digit y) refl
  where
    range : (n c : ℕ) (r : List ℕ) → in_range m b n c r ≡ ok z d q → InRange z
    range n c r h = pass (leb n (largest m)) refl
      where
        pass : (k : Bool) → leb n (largest m) ≡ k → InRange z
        pass true k = let y : ok (signed m n) c r ≡ ok z d q = rw (k, in_range) at h in let i : signed m n ≡ z = cc in subst InRange i (le_of n (largest m) k)
        pass false k = fail_no (rw (k, in_range) at h)

    go : (k : Bool) → is_digit y ≡ k → InRange z
    go true k = range _ _ _ (rw (k, after_sign) at e)
    go false k = fail_no (rw (k, after_sign) at e)

signed_fits : (b : ℕ) (u : List ℕ) {z : Signed} {d : ℕ} {q : List ℕ} → signed_integer b u ≡ ok z d q → InRange z
unfolding signed_integer
signed_fits b [] e = fail_no e
signed_fits b (x ∷ u) {z} e = go (eqb x minus) refl (eqb x plus) refl
  where
    go : (k : Bool) → eqb x minus ≡ k → (j : Bool) → eqb x plus ≡ j → InRange z
    go true k j i = after_sign_fits true b u (rw (k, signed_integer) at e)
    go false k true i = after_sign_fits false b u (rw (k, i, signed_integer) at e)
    go false k false i = fail_no (rw (k, i, signed_integer) at e)

-- strings: the closing quote's offset
string_end : (f : ℕ → Escape) (z : Bool) (b : ℕ) (u : List ℕ) {i c : ℕ} {r : List ℕ} → string_rest f z b u ≡ ok i c r → (b ≤ i) × (i < c)
unfolding string_rest
string_end f true b [] e = fail_no e
string_end f false b [] e = fail_no e
string_end f true b (x ∷ u) {i} {c} {r} e = go (f x) refl (string_end f false (suc (suc b)) u)
  where
    go : (k : Escape) → f x ≡ k → (string_rest f false (suc (suc b)) u ≡ ok i c r → (suc (suc b) ≤ i) × (i < c)) → (b ≤ i) × (i < c)
    go allowed k ih = let p = ih (rw (k, string_rest) at e) in (omega (arith, p.0), p.1)
    go forbidden k ih = fail_no (rw (k, string_rest) at e)
    go panics k ih = stop_no (rw (k, string_rest) at e)
string_end f false b (x ∷ u) {i} {c} {r} e = go (eqb x quote) refl (eqb x backslash) refl (λ z b. string_end f z b u)
  where
    go : (k : Bool) → eqb x quote ≡ k → (j : Bool) → eqb x backslash ≡ j → ((z : Bool) (b : ℕ) → string_rest f z b u ≡ ok i c r → (b ≤ i) × (i < c)) → (b ≤ i) × (i < c)
    go true k j l ih = let y : ok b (suc b) u ≡ ok i c r = rw (k, string_rest) at e in let m : b ≡ i = cc in let n : suc b ≡ c = cc in (omega arith, omega arith)
    go false k true l ih = ih true b (rw (k, l, string_rest) at e)
    go false k false l ih = let p = ih false (suc b) (rw (k, l, string_rest) at e) in (omega (arith, p.0), p.1)

-- the doc comment as the code's answer holds it
abbrev doc_span : Doc → CodeOption DocSpan
doc_span no_doc = None
doc_span (doc_at o n) = Some (record { offset = o; size = n })

doc_same : (d : Doc) → doc_of (doc_span d) ≡ d
doc_same no_doc = refl
doc_same (doc_at o n) = refl

doc_wider : (b c s e : ℕ) (d : Doc) → s ≤ b → c ≤ e → DocIn b c d → DocIn s e d
doc_wider b c s e no_doc h k i = tt
doc_wider b c s e (doc_at o n) h k i = (omega (arith, i.0), omega (arith, i.1))

-- the place where a parser fails somewhere in the part
pub record FailsAt (s : ℕ) (t : List ℕ) {A : Type 0} (m : Parser A) (p : ℕ) : Type 0 where
  pub base : ℕ
  pub rest : List ℕ
  pub stands : Rest s t base rest
  pub refuses : m base rest ≡ fail p

module _ (s : ℕ) (t : List ℕ) (end : ℕ) where
  -- a value that a parser reads somewhere in the part, up to end
  pub record Read {A : Type 0} (m : Parser A) (a : A) : Type 0 where
    pub base : ℕ
    pub rest : List ℕ
    pub stands : Rest s t base rest
    pub next : ℕ
    pub left : List ℕ
    pub reads : m base rest ≡ ok a next left
    pub before : next ≤ end

  -- R holds of every such value
  pub record Gives {A : Type 0} (R : A → Type 0) (m : Parser A) : Type 0 where
    pub holds : (a : A) → Read m a → R a

  pub record WordTrue (w : Word) : Type 0 where
    pub after : s ≤ offset_of w
    pub inside : offset_of w + length (bytes_of w) ≤ end
    pub same : take (length (bytes_of w)) (drop (offset_of w - s) t) ≡ bytes_of w

  abbrev pub SpanTrue : Span → Type 0
  SpanTrue (span o n) = (s ≤ o) × (o + n ≤ end)

  abbrev pub DocTrue : Doc → Type 0
  DocTrue d = DocIn s end d

  -- a word, a doc comment and a string that are in the part
  word_at : (b : ℕ) (u : List ℕ) → Rest s t b u → (w : Word) (c : ℕ) (r : List ℕ) → parse_id b u ≡ ok w c r → c ≤ end → WordTrue w
  unfolding offset_of bytes_of
  word_at b [] q w c r e f = fail_no (sym (id_nil b) ∙ e)
  word_at b (x ∷ u) q w c r e f = go (is_letter x) refl
    where
      go : (z : Bool) → is_letter x ≡ z → WordTrue w
      go true z =
          let y : ok (word b (list_take_while is_word (x ∷ u))) (b + length (list_take_while is_word (x ∷ u))) (list_drop_while is_word (x ∷ u)) ≡ ok w c r = sym (id_yes b x u z) ∙ e in
          let k : word b (list_take_while is_word (x ∷ u)) ≡ w = cc in
          let l : b + length (list_take_while is_word (x ∷ u)) ≡ c = cc in
          subst WordTrue k (record { after = q.from; inside = omega (arith, f, l); same = rw (← q.same) (take_run is_word (x ∷ u)) })
      go false z = fail_no (sym (id_no b x u z) ∙ e)

  doc_at_true : (b : ℕ) (u : List ℕ) → Rest s t b u → (d : Doc) (c : ℕ) (r : List ℕ) → whitespace0 b u ≡ ok d c r → c ≤ end → DocTrue d
  doc_at_true b u q d c r e f =
      let p : Ends b u (ok d c r) = rw e at ((walks whitespace0_chain).onward b u) in
      let k = rest_on d (rest_self b u) p in
      let z : ok (doc_of (doc_span d)) c (drop (c - b) u) ≡ whitespace0 b u = rw (doc_same d, ← k.same) (sym e) in
      let h : BlankTo (record { doc = doc_span d; next = c }) b u = record { reads = z; up = k.from; inside = omega (arith, k.size) } in
      doc_wider b c s end d q.from f (rw (doc_same d) at (doc_in h))

  string_at : (f : ℕ → Escape) (b : ℕ) (u : List ℕ) → Rest s t b u → (x : Span) (c : ℕ) (r : List ℕ) → string_with f b u ≡ ok x c r → c ≤ end → SpanTrue x
  unfolding string_with span_from
  string_at f b [] q x c r e g = fail_no e
  string_at f b (y ∷ u) q x c r e g = go (eqb y quote) refl
    where
      of : (z : Reply ℕ) → string_rest f false (suc b) u ≡ z → span_from (suc b) z ≡ ok x c r → SpanTrue x
      of (ok i d v) k h =
          let j : span (suc b) (i - suc b) ≡ x = cc in
          let l : d ≡ c = cc in
          let p = string_end f false (suc b) u k in
          subst SpanTrue j (omega (arith, q.from), omega (arith, g, l, p.0, p.1))
      of (fail p) k h = fail_no h
      of (stop n p) k h = stop_no h

      go : (z : Bool) → eqb y quote ≡ z → SpanTrue x
      go true z = of (string_rest f false (suc b) u) refl (rw (z, string_with) at e)
      go false z = fail_no (rw (z, string_with) at e)

module _ {s : ℕ} {t : List ℕ} {end : ℕ} where
  -- the same run, seen as another parser's
  seen : {A B : Type 0} {m : Parser A} {k : Parser B} {a : A} {d : B} (h : Read s t end k d) → m h.base h.rest ≡ ok a h.next h.left → Read s t end m a
  seen h q = record { base = h.base; rest = h.rest; stands = h.stands; next = h.next; left = h.left; reads = q; before = h.before }

  module _ {A : Type 0} {R : A → Type 0} where
    pub gives_ret : (a : A) → R a → Gives s t end R (ret a)
    unfolding ret
    gives_ret a q = record { holds = λ d h. let e : ok a h.base h.rest ≡ ok d h.next h.left = h.reads in let z : a ≡ d = cc in subst R z q }

    pub gives_fail : (p : ℕ) → Gives s t end R (fail_at p)
    unfolding fail_at
    gives_fail p = record { holds = λ d h. fail_no h.reads }

    pub gives_stop : (n p : ℕ) → Gives s t end R (stop_at n p)
    unfolding stop_at
    gives_stop n p = record { holds = λ d h. stop_no h.reads }

    pub gives_pick : {m k : Parser A} (z : Bool) → Gives s t end R m → Gives s t end R k → Gives s t end R (pick z m k)
    unfolding pick
    gives_pick true v w = v
    gives_pick false v w = w

    pub gives_catch : {m : Parser A} {k : ℕ → Parser A} → Gives s t end R m → ((p : ℕ) → FailsAt s t m p → Gives s t end R (k p)) → Gives s t end R (catch m k)
    unfolding catch
    gives_catch {m} {k} v w = record { holds = λ d h. go d h (m h.base h.rest) refl }
      where
        go : (d : A) (h : Read s t end (catch m k) d) (x : Reply A) → m h.base h.rest ≡ x → R d
        go d h (ok a c r) e = v.holds d (seen h (e ∙ (rw (e, catch) at h.reads)))
        go d h (fail p) e = (w p (record { base = h.base; rest = h.rest; stands = h.stands; refuses = e })).holds d (seen h (rw (e, catch) at h.reads))
        go d h (stop n p) e = stop_no (rw (e, catch) at h.reads)

    pub gives_or : {m k : Parser A} → Gives s t end R m → Gives s t end R k → Gives s t end R (m or k)
    unfolding ◌or◌
    gives_or {m} {k} v w = record { holds = λ d h. go d h (m h.base h.rest) refl }
      where
        go : (d : A) (h : Read s t end (m or k) d) (x : Reply A) → m h.base h.rest ≡ x → R d
        go d h (ok a c r) e = v.holds d (seen h (e ∙ (rw (e, ◌or◌) at h.reads)))
        go d h (fail p) e = w.holds d (seen h (further_ok p (k h.base h.rest) (rw (e, ◌or◌) at h.reads)))
        go d h (stop n p) e = stop_no (rw (e, ◌or◌) at h.reads)

    pub gives_opt : {m : Parser A} → Gives s t end R m → Gives s t end (Maybe R) (opt m)
    unfolding opt
    gives_opt {m} v = record { holds = λ o h. go o h (m h.base h.rest) refl }
      where
        go : (o : Option A) (h : Read s t end (opt m) o) (x : Reply A) → m h.base h.rest ≡ x → Maybe R o
        go none h x e = tt
        go (some a) h (ok d c r) e =
            let z : ok (some d) c r ≡ ok (some a) h.next h.left = rw (e, opt) at h.reads in
            let y : ok d c r ≡ ok a h.next h.left = cc in
            v.holds a (seen h (e ∙ y))
        go (some a) h (fail p) e = let z : ok none h.base h.rest ≡ ok (some a) h.next h.left = rw (e, opt) at h.reads in let y : ◌≡◌ {A = ℕ} 0 1 = cc in absurd (omega arith)
        go (some a) h (stop n p) e = stop_no (rw (e, opt) at h.reads)

  -- what a step reads, and the steps after it, which end no earlier
  first_read : {A B : Type 0} {m : Parser A} {x : Parser B} {a : A} {d : B} {c : ℕ} {r : List ℕ} (h : Read s t end x d) → m h.base h.rest ≡ ok a c r → c ≤ h.next → Read s t end m a
  first_read {c = c} {r} h q i = record { base = h.base; rest = h.rest; stands = h.stands; next = c; left = r; reads = q; before = omega (arith, i, h.before) }

  next_read : {A B : Type 0} {k x : Parser B} {d : B} (c : ℕ) (r : List ℕ) (a : A) (h : Read s t end x d) → Ends h.base h.rest (ok a c r) → k c r ≡ ok d h.next h.left → Read s t end k d
  next_read c r a h p q = record { base = c; rest = r; stands = rest_on a h.stands p; next = h.next; left = h.left; reads = q; before = h.before }

  module _ {A B : Type 0} {R : B → Type 0} {m : Parser A} where
    pub gives_bind : {k : A → Parser B} → Onward m → ((a : A) → Onward (k a)) → ((a : A) → Read s t end m a → Gives s t end R (k a)) → Gives s t end R (m >>= k)
    unfolding ◌>>=◌
    gives_bind {k} w o v = record { holds = λ d h. go d h (m h.base h.rest) refl (w.onward h.base h.rest) }
      where
        go : (d : B) (h : Read s t end (m >>= k) d) (x : Reply A) → m h.base h.rest ≡ x → Ends h.base h.rest x → R d
        go d h (ok a c r) q p =
            let i : k a c r ≡ ok d h.next h.left = rw (q, ◌>>=◌) at h.reads in
            (v a (first_read h q (goes_up (o a) i))).holds d (next_read c r a h p i)
        go d h (fail j) q p = fail_no (rw (q, ◌>>=◌) at h.reads)
        go d h (stop n j) q p = stop_no (rw (q, ◌>>=◌) at h.reads)

    pub gives_then : {k : Parser B} → Onward m → Gives s t end R k → Gives s t end R (m >> k)
    unfolding ◌>>◌ ◌>>=◌
    gives_then {k} w v = record { holds = λ d h. go d h (m h.base h.rest) refl (w.onward h.base h.rest) }
      where
        go : (d : B) (h : Read s t end (m >> k) d) (x : Reply A) → m h.base h.rest ≡ x → Ends h.base h.rest x → R d
        go d h (ok a c r) q p = v.holds d (next_read c r a h p (rw (q, ◌>>◌, ◌>>=◌) at h.reads))
        go d h (fail j) q p = fail_no (rw (q, ◌>>◌, ◌>>=◌) at h.reads)
        go d h (stop n j) q p = stop_no (rw (q, ◌>>◌, ◌>>=◌) at h.reads)

  module _ {A : Type 0} (Q : A → Type 0) (m : Parser A) (w : Onward m) (v : Gives s t end Q m) where
    many_within_lem : (n : ℕ) (l : List A) → Read s t end (many_within n m) l → All Q l
    unfolding many_within
    many_within_lem zero l h = let e : ok [] h.base h.rest ≡ ok l h.next h.left = h.reads in let z : [] ≡ l = cc in subst (All Q) z tt
    many_within_lem (suc n) l h = go (m h.base h.rest) refl (w.onward h.base h.rest) (many_within_lem n)
      where
        go : (x : Reply A) → m h.base h.rest ≡ x → Ends h.base h.rest x → ((l : List A) → Read s t end (many_within n m) l → All Q l) → All Q l
        go (ok a c r) q p ih =
            let i = prepend_ok a (many_within n m c r) (rw (q, many_within) at h.reads) in
            subst (All Q) i.1.0 (v.holds a (first_read h q (goes_up (onward_many w n) i.1.1)), ih i.0 (record { base = c; rest = r; stands = rest_on a h.stands p; next = h.next; left = h.left; reads = i.1.1; before = h.before }))
        go (fail i) e p ih = let y : ok [] h.base h.rest ≡ ok l h.next h.left = rw (e, many_within) at h.reads in let z : [] ≡ l = cc in subst (All Q) z tt
        go (stop k i) e p ih = stop_no (rw (e, many_within) at h.reads)

  pub gives_many0 : {A : Type 0} {Q : A → Type 0} {m : Parser A} → Onward m → Gives s t end Q m → Gives s t end (All Q) (many0 m)
  unfolding many0
  gives_many0 {Q = Q} {m} w v = record { holds = λ l h. many_within_lem Q m w v (suc (length h.rest)) l (seen h h.reads) }

  module _ {S : Type 0} (Q : S → Type 0) (f : S → Parser S) (g : ℕ → S → S) (w : (x : S) → Onward (f x)) (v : (x : S) → Q x → Gives s t end Q (f x)) (k : (p : ℕ) (x : S) → FailsAt s t (f x) p → Q x → Q (g p x)) where
    iter_within_lem : (n : ℕ) (x y : S) → Q x → Read s t end (iter_within n f g x) y → Q y
    unfolding iter_within
    iter_within_lem zero x y q h = let e : ok x h.base h.rest ≡ ok y h.next h.left = h.reads in let z : x ≡ y = cc in subst Q z q
    iter_within_lem (suc n) x y q h = go (f x h.base h.rest) refl ((w x).onward h.base h.rest) (iter_within_lem n)
      where
        go : (z : Reply S) → f x h.base h.rest ≡ z → Ends h.base h.rest z → ((x y : S) → Q x → Read s t end (iter_within n f g x) y → Q y) → Q y
        go (ok a c r) j p ih =
            let i : iter_within n f g a c r ≡ ok y h.next h.left = rw (j, iter_within) at h.reads in
            ih a y ((v x q).holds a (first_read h j (goes_up (onward_iter g w n a) i))) (next_read c r a h p i)
        go (fail i) e p ih = let d : ok (g i x) h.base h.rest ≡ ok y h.next h.left = rw (e, iter_within) at h.reads in let z : g i x ≡ y = cc in subst Q z (k i x (record { base = h.base; rest = h.rest; stands = h.stands; refuses = e }) q)
        go (stop j i) e p ih = stop_no (rw (e, iter_within) at h.reads)

    pub gives_iter : (x : S) → Q x → Gives s t end Q (iter f g x)
    unfolding iter
    gives_iter x q = record { holds = λ y h. iter_within_lem (suc (length h.rest)) x y q (seen h h.reads) }

  -- the tokens
  pub word_true : {w : Word} → Read s t end parse_id w → WordTrue s t end w
  word_true {w} h = word_at s t end h.base h.rest h.stands w h.next h.left h.reads h.before

  pub doc_true : {d : Doc} → Read s t end whitespace0 d → DocTrue s t end d
  doc_true {d} h = doc_at_true s t end h.base h.rest h.stands d h.next h.left h.reads h.before

  gives_fits : (m : Parser ℕ) → ((b : ℕ) (u : List ℕ) → Fits64 (m b u)) → Gives s t end (λ n. n < 2 ^ 64) m
  gives_fits m w = record { holds = λ n h. let k : n ≤ u64_max = rw h.reads at (w h.base h.rest) in omega (arith, k) }

  pub integer_true : {n : ℕ} → Read s t end positive_integer n → n < 2 ^ 64
  unfolding positive_integer
  integer_true {n} h = (gives_catch (gives_fits hex_integer hex_fits) (λ p i. gives_fits decimal_integer decimal_fits)).holds n h

  pub signed_true : {z : Signed} → Read s t end signed_integer z → InRange z
  signed_true h = signed_fits h.base h.rest h.reads

  pub flags_true : (ks : List (List ℕ)) → Gives s t end (λ f. f < 2 ^ length ks) (set_flags ks)
  unfolding set_flags
  flags_true ks = gives_bind (walks (keywords_set_chain ks)) (λ ws. onward_ret _) λ ws h. gives_ret _ (flags_less ks ws)

  pub string_true : {x : Span} (f : ℕ → Escape) → Read s t end (string_with f) x → SpanTrue s t end x
  string_true {x} f h = string_at s t end f h.base h.rest h.stands x h.next h.left h.reads h.before

  -- a value that a function changes
  module _ {A B : Type 0} {R : B → Type 0} {m : Parser A} where
    pub gives_made : (f : A → B) → ((a : A) → Read s t end m a → R (f a)) → Gives s t end R (m >>= λ a. ret (f a))
    unfolding ◌>>=◌ ret
    gives_made f v = record { holds = λ d h. go d h (m h.base h.rest) refl }
      where
        go : (d : B) (h : Read s t end (m >>= λ a. ret (f a)) d) (x : Reply A) → m h.base h.rest ≡ x → R d
        go d h (ok a c r) e =
            let y : ok (f a) c r ≡ ok d h.next h.left = rw (e, ◌>>=◌) at h.reads in
            let z : f a ≡ d = cc in
            let l : c ≡ h.next = cc in subst R z (v a (first_read h e (omega (arith, l))))
        go d h (fail p) e = fail_no (rw (e, ◌>>=◌) at h.reads)
        go d h (stop n p) e = stop_no (rw (e, ◌>>=◌) at h.reads)

  -- what is read after the value
  pub gives_last : {A B : Type 0} {R : B → Type 0} (m : Parser A) (d : B) → R d → Gives s t end R (m >> ret d)
  unfolding ◌>>◌ ◌>>=◌ ret
  gives_last {A} {B} {R} m d q = record { holds = λ x h. go x h (m h.base h.rest) refl }
    where
      go : (x : B) (h : Read s t end (m >> ret d) x) (y : Reply A) → m h.base h.rest ≡ y → R x
      go x h (ok a c r) e = let y : ok d c r ≡ ok x h.next h.left = rw (e, ◌>>◌, ◌>>=◌) at h.reads in let z : d ≡ x = cc in subst R z q
      go x h (fail p) e = fail_no (rw (e, ◌>>◌, ◌>>=◌) at h.reads)
      go x h (stop n p) e = stop_no (rw (e, ◌>>◌, ◌>>=◌) at h.reads)

  module _ {A : Type 0} {R : A → Type 0} {m : Parser A} where
    pub given : ((a : A) → Read s t end m a → R a) → Gives s t end R m
    given v = record { holds = v }

    pub from : Gives s t end R m → (a : A) → Read s t end m a → R a
    from v = v.holds

  -- words, keywords and names
  pub gives_word : Gives s t end (WordTrue s t end) parse_id
  gives_word = record { holds = λ w h. word_true h }

  pub gives_keyword : (k : List ℕ) → Gives s t end (WordTrue s t end) (keyword k)
  unfolding keyword
  gives_keyword k =
      gives_bind (walks chain_position) (λ p. onward_bind id λ w. onward_pick _ (onward_ret w) (onward_fail p)) λ p h.
      gives_bind id (λ w. onward_pick _ (onward_ret w) (onward_fail p)) λ w i.
      gives_pick _ (gives_ret w (word_true i)) (gives_fail p)
    where
      id : Onward parse_id
      id = advances_onward parse_id_advances

  pub gives_any_keyword : (ks : List (List ℕ)) → Gives s t end (WordTrue s t end) (any_keyword ks)
  unfolding any_keyword
  gives_any_keyword [] = record { holds = λ w h. fail_no h.reads }
  gives_any_keyword (k ∷ ks) = gives_or (gives_keyword k) (gives_any_keyword ks)

  pub two_keywords_name_true : (k j : List ℕ) (w : Word) → Read s t end (two_keywords_name k j) w → WordTrue s t end w
  unfolding two_keywords_name
  two_keywords_name_true k j = from (search (gives_then, word_true, token_onward) depth 8)

  pub named_after_true : (k j : List ℕ) (w : Word) → Read s t end (named_after k j) w → WordTrue s t end w
  unfolding named_after
  named_after_true k j = from (gives_bind (two_keywords_name_on k j) (λ n. search token_onward depth 8) λ n h. gives_then (walks whitespace0_chain) (gives_last _ n (two_keywords_name_true k j n h)))

  pub default_string_true : {x : Span} → Read s t end default_string x → SpanTrue s t end x
  unfolding default_string
  default_string_true h = string_true _ h

  pub quoted_string_true : (x : Span) → Read s t end quoted_string x → SpanTrue s t end x
  unfolding quoted_string
  quoted_string_true x h = string_true _ h

  -- the flags of each set, by its size
  pub field_flags : (f : ℕ) → Read s t end (set_flags field_set) f → f < 2 ^ 3
  unfolding field_set
  field_flags = from (flags_true field_set)

  pub struct_flags : (f : ℕ) → Read s t end (set_flags struct_set) f → f < 2 ^ 1
  unfolding struct_set
  struct_flags = from (flags_true struct_set)

  pub event_flags : (f : ℕ) → Read s t end (set_flags event_set) f → f < 2 ^ 1
  unfolding event_set
  event_flags = from (flags_true event_set)

  pub command_flags : (f : ℕ) → Read s t end (set_flags command_set) f → f < 2 ^ 2
  unfolding command_set
  command_flags = from (flags_true command_set)

  pub attribute_flags : (f : ℕ) → Read s t end (set_flags attribute_set) f → f < 2 ^ 4
  unfolding attribute_set
  attribute_flags = from (flags_true attribute_set)

-- a name of a part is a name of the text around the part
pub word_around : (s : ℕ) (front part back : List ℕ) (end : ℕ) → end ≤ s + length front + length part → {w : Word} → WordTrue (s + length front) part end w → WordTrue s (front ++ (part ++ back)) end w
word_around s front part back end f {w} h =
    let i : ℕ = offset_of w - (s + length front) in
    let z : offset_of w - s ≡ length front + i = omega (arith, h.after) in
    let l : i ≤ length part = omega (arith, h.after, h.inside) in
    let k : length (bytes_of w) ≤ length (drop i part) = omega (arith, h.after, h.inside, length-drop i part) in
    record {
      after = omega (arith, h.after);
      inside = h.inside;
      same =
          ap (λ j. take (length (bytes_of w)) (drop j (front ++ (part ++ back)))) z
          ∙ (ap (take (length (bytes_of w))) (drop-append-add front (part ++ back) i ∙ drop-append-le i part back l)
          ∙ (take-append-le (length (bytes_of w)) (drop i part) back k ∙ h.same));
    }
