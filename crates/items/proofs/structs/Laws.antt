-- Structs: one law for each way through a reader.
use Rattle.items.specs.declared.levels.Privilege.TheVariants.{View}
use Rattle.std.specs.Prelude.{Ok, Err}
use mathlib.Core.Path.{◌≡◌, refl, sym, ap, ◌∙◌, subst}
use mathlib.Core.Bool.{Bool, true, false, false≢true}
use mathlib.Core.Option.{Option, none, some}
use mathlib.Core.List.{List, [], ◌∷◌, map}
use Prim.Native.Nat.{ℕ, suc, ◌+◌, ◌-◌, ◌*◌, ◌≤◌, ◌<◌}
use native.Mathlib.Omega.{arith}
use lib.Dec.{eqb}
use borrow.Author.Tests.{ltb-true}
use lib.ListN.{length, take, drop, get_or}
use lib.Seq.{length-take-le}
use Rattle.lexing.specs.bytes.{ascii, within, lower}
use Rattle.lexing.specs.reply.{Reply, ok, fail, stop, Parser, ret, ◌or◌, no_nearer, opt, pick}
use Rattle.lexing.specs.words.{Word, bytes_of, is_keyword, is_lower, keyword, any_keyword}
use Rattle.lexing.specs.word_sets.{same_bytes}
use Rattle.lexing.specs.answers.{Rest, lost_reply, word_at, word_reply, BlankAt, Read, Lost}
use Rattle.lexing.proofs.Tests.{false_if, and_right}
use Rattle.lexing.proofs.Locality.{chain_opt}
use Rattle.lexing.proofs.TokenLocality.{any_keyword_chain}
use Rattle.lexing.proofs.Slicing.{Took, took, walks, rest_self, keyword_took}
use Rattle.lexing.proofs.FirstWord.{free_keywords}
use Rattle.lexing.proofs.words.Laws.{keyword_says, key_differs}
use Rattle.lexing.proofs.word_sets.Laws.{same_eq, like_keyword}
use Rattle.items.specs.structs.{StructField as StructFieldOf, struct_fields, regular, response_code, type_by_word, struct_type_of, struct_head, parse_struct_after_doc_maturity}
use Rattle.items.specs.records.{at, bits, value, word_extent, documented, field_record, struct_number, response_of, struct_records}
use Rattle.lexing.specs.buffers.{each, words_bytes, put}
use Rattle.items.specs.layout.{packed, width, from_top, offset, size, layout, further_word, record_words, catalogue_words, catalogue_bytes, word_count, text_limit}
use Rattle.items.specs.answers.{Front, first_of, doc_span_word, doc_span_bit, front_of, kind_number}
use Rattle.items.specs.inner.structs.{StructFrom, after_shared, not_shared, type_of, head_at, HeadBetween, StructHeadTo, kind_by, type_by, struct_words, StructWordTo, code_reply, struct_kind_number, response_number, struct_first}
use Rattle.items.specs.declared.writing.FrontParts.{FrontParts}
use Rattle.items.specs.declared.structs.StructKind.{StructKind}
use Rattle.items.specs.declared.structs.StructKind.TheVariants.{Regular, Request, Response, Shared}
use Rattle.items.specs.declared.structs.StructWord.{StructWord}
use Rattle.items.specs.declared.structs.StructHeadParts.{StructHeadParts}
use Rattle.items.proofs.Locality.{struct_type_of_local, struct_head_local}
use Rattle.lexing.proofs.AnswerLaws.{read_took}
use Rattle.items.proofs.Headed.{Headed}
use Rattle.lexing.proofs.WordBetween.{word_moved}
use Rattle.items.proofs.WordBetween.{extent_between}
use Rattle.items.proofs.writing.Laws.{documented_put}
use Rattle.items.proofs.Choice.{or_fail, or_keep}
use Rattle.items.proofs.Letters.{outs_free}
use Rattle.items.proofs.Tries.{shared_any}
use Rattle.lexing.proofs.answers.Laws.{opt_ok, opt_fail, opt_stop}
use Rattle.lexing.proofs.steps.Laws.{blank_at_took}
use Rattle.items.specs.declared.layout.Kind.TheVariants.{Struct as a_struct}

-- the word before a struct: in lower case it is the keyword, in another case it says nothing
pub other_case : (w k : List ℕ) → is_lower k ≡ true → is_lower w ≡ false → same_bytes w k ≡ false
other_case w k h e = false_if (same_bytes w k) (λ q. false≢true (sym e ∙ (ap (λ v. is_lower v) (same_eq w k q) ∙ h)))

other_kind : (w : List ℕ) → is_lower w ≡ false → type_by_word w ≡ ret regular
unfolding type_by_word pick is_keyword lower within
other_kind w e = rw (other_case w (ascii "request") refl e, other_case w (ascii "response") refl e, other_case w (ascii "shared") refl e)

pub request_kind : type_by_word (ascii "request") ≡ type_by Request
unfolding type_by_word pick same_bytes type_by
request_kind = refl

pub response_kind : type_by_word (ascii "response") ≡ type_by Response
unfolding type_by_word pick same_bytes type_by
response_kind = refl

pub shared_kind : type_by_word (ascii "shared") ≡ type_by Shared
unfolding type_by_word pick same_bytes type_by
shared_kind = refl

-- what a keyword k says, by whether its bytes w are in lower case
pub by_case : {T : Type 0} (f : List ℕ → T) (g : Bool → T) (w k : List ℕ) → is_keyword w k ≡ true → f k ≡ g true → (is_lower w ≡ false → f w ≡ g false) → f w ≡ g (is_lower w)
by_case f g w k i s o = go (is_lower w) refl
  where
    go : (t : Bool) → is_lower w ≡ t → f w ≡ g (is_lower w)
    go true e = rw e (ap f (same_eq w k (like_keyword w k i ∙ e)) ∙ s)
    go false e = rw e (o e)

kind_means : (w k : List ℕ) (x : StructKind) → is_keyword w k ≡ true → type_by_word k ≡ type_by x → type_by_word w ≡ type_by (kind_by (is_lower w) x)
unfolding type_by
kind_means w k x i s = by_case type_by_word (λ t. type_by (kind_by t x)) w k i s (other_kind w)

-- the bytes of a keyword that was read
keyword_bytes : (k u : List ℕ) {b c : ℕ} → ok (word_at b u c) c (drop (c - b) u) ≡ keyword k b u → is_keyword (take (c - b) u) k ≡ true
unfolding bytes_of
keyword_bytes k u {b} {c} e = rw (← e) at (keyword_says k b u)

-- the keyword k, which says the kind x, and the blanks after it
pub word_is : (k : List ℕ) (x t : StructKind) {b c n : ℕ} {u : List ℕ} → ok (word_at b u c) c (drop (c - b) u) ≡ keyword k b u → type_by_word k ≡ type_by x
    → t ≡ kind_by (is_lower (take (c - b) u)) x → BlankAt n b u c → StructWordTo (keyword k) (record { kind = t; next = n }) b u
unfolding struct_type_of bytes_of
word_is k x t {b} {c} {n} {u} z s d g = record {
  read = some (word_at b u c);
  end = c;
  reads = opt_ok (keyword k) b u (word_at b u c) c (drop (c - b) u) z;
  means = rw d (kind_means (take (c - b) u) k x (keyword_bytes k u z) s);
  blanks = g;
}

-- and none
pub word_none : (k : List ℕ) {b n : ℕ} {u : List ℕ} → fail b ≡ keyword k b u → BlankAt n b u b → StructWordTo (keyword k) (record { kind = Regular; next = n }) b u
unfolding struct_type_of type_by
word_none k {b} {n} {u} e g =
    let o : b - b ≡ 0 = omega arith in
    record { read = none; end = b; reads = rw o (opt_fail (keyword k) b u b e); means = refl; blanks = g }

-- an optional choice, where one of its two sides fails: the place does not count
opt_further : {A : Type 0} (m k : Parser A) (p : ℕ) {b : ℕ} {u : List ℕ} → k b u ≡ no_nearer p (m b u) → opt m b u ≡ opt k b u
unfolding no_nearer
opt_further {A} m k p {b} {u} h = go (m b u) refl
  where
    go : (x : Reply A) → m b u ≡ x → opt m b u ≡ opt k b u
    go (ok a c r) e = sym (opt_ok m b u a c r (sym e)) ∙ opt_ok k b u a c r (sym (h ∙ ap (no_nearer p) e))
    go (fail q) e = sym (opt_fail m b u q (sym e)) ∙ opt_fail k b u _ (sym (h ∙ ap (no_nearer p) e))
    go (stop n q) e = sym (opt_stop m b u n q (sym e)) ∙ opt_stop k b u n q (sym (h ∙ ap (no_nearer p) e))

-- the word among those that may be there
word_among : {m k : Parser Word} {b : ℕ} {u : List ℕ} {t : StructWord} → opt m b u ≡ opt k b u → StructWordTo m t b u → StructWordTo k t b u
word_among e h = record { read = h.read; end = h.end; reads = h.reads ∙ e; means = h.means; blanks = h.blanks }

module _ {b : ℕ} {u : List ℕ} {t : StructWord} (s : fail b ≡ keyword (ascii "shared") b u) where
  pub request_left : lower (get_or u 2 0) ≡ 113 → StructWordTo (keyword (ascii "request")) t b u → StructWordTo (any_keyword struct_words) t b u
  unfolding any_keyword
  request_left l h =
      let f = outs_free b u ((2, 113) ∷ []) (l, tt) [] tt (ascii "response" ∷ []) refl in
      word_among (opt_further _ _ b (or_keep _ _ (free_keywords b u (ascii "response" ∷ ascii "shared" ∷ []) (f.0, (sym s, tt))))) h

  pub response_left : (lower (get_or u 2 0) ≡ 113 → ⊥) → StructWordTo (keyword (ascii "response")) t b u → StructWordTo (any_keyword struct_words) t b u
  unfolding any_keyword
  response_left n h =
      let e = key_differs (ascii "request") b u 2 (ltb-true 2 7 refl) (λ o w. n o) in
      let last = any_keyword (ascii "shared" ∷ []) in
      let two = keyword (ascii "response") or last in
      let f : opt (keyword (ascii "response")) b u ≡ opt two b u = opt_further _ _ b (or_keep _ last (free_keywords b u (ascii "shared" ∷ []) (sym s, tt))) in
      word_among {m = two} (opt_further two _ b (or_fail _ two (sym e))) (word_among f h)

-- `shared`, whose blanks were read
keyword_size : (w k : List ℕ) → is_keyword w k ≡ true → length w ≡ length k
unfolding is_keyword
keyword_size [] [] e = refl
keyword_size [] (x ∷ k) e = absurd (false≢true e)
keyword_size (a ∷ w) [] e = absurd (false≢true e)
keyword_size (a ∷ w) (x ∷ k) e = ap suc (keyword_size w k (and_right (eqb (lower a) x) (is_keyword w k) e))

record SharedWord (f b : ℕ) (u : List ℕ) : Type 0 where
  pub end : ℕ
  pub word : ok (word_at b u end) end (drop (end - b) u) ≡ keyword (ascii "shared") b u
  pub blanks : BlankAt f b u end
  pub six : end - b ≡ 6
  pub up : b ≤ end
  pub inside : end ≤ b + length u

six_bytes : {f b : ℕ} {u : List ℕ} (c : ℕ) → word_reply (Ok c) b u ≡ keyword (ascii "shared") b u → BlankAt f b u c → SharedWord f b u
six_bytes {f} {b} {u} c k g =
    let t = keyword_took (rest_self b u) (ascii "shared") k in
    let n : c - b ≤ length u = omega (arith, t.inside, t.up) in
    record { end = c; word = k; blanks = g; six = sym (length-take-le (c - b) u n) ∙ keyword_size (take (c - b) u) (ascii "shared") (keyword_bytes (ascii "shared") u k); up = t.up; inside = t.inside }

module _ {f b : ℕ} {u : List ℕ} where
  shared_word : StructFrom f b u → b < f → SharedWord f b u
  shared_word (after_shared c k g) l = six_bytes c k g
  shared_word (not_shared e k) l = absurd (omega (arith, e, l))

  pub shared_fits : StructFrom f b u → b < f → 6 ≤ length u
  shared_fits h l = let s = shared_word h l in omega (arith, s.six, s.inside)

  pub word_shared : StructFrom f b u → b < f → {t : StructKind} → t ≡ kind_by (is_lower (take 6 u)) Shared → StructWordTo (any_keyword struct_words) (record { kind = t; next = f }) b u
  word_shared h l {t} d =
      let s = shared_word h l in
      let e = shared_any b u (sym s.word) in
      word_among (sym (opt_ok _ _ _ _ _ _ s.word) ∙ opt_ok _ _ _ _ _ _ (sym e)) (word_is (ascii "shared") Shared t s.word shared_kind (rw s.six d) s.blanks)

  -- nor is it there where a struct goes on at its start
  pub word_unshared : StructFrom f b u → f ≤ b → fail b ≡ keyword (ascii "shared") b u
  word_unshared (after_shared c k g) l = let s = six_bytes c k g in absurd (omega (arith, s.six, (blank_at_took s.blanks).up, l))
  word_unshared (not_shared e k) l = sym k

pub struct_word_took : {b n : ℕ} {u r : List ℕ} {t : StructWord} → Rest b u n r → (h : StructWordTo (any_keyword struct_words) t n r) → Took (opt (any_keyword struct_words)) b u n h.read h.end
struct_word_took q h = took (walks (chain_opt (any_keyword_chain struct_words))) q h.reads

-- the code of a struct that has none
pub no_code : (k : StructKind) (x : StructKind) (b : ℕ) (u : List ℕ) → k ≡ x → ok (type_of x 0) b u ≡ type_by x b u → code_reply k (Ok (0, b)) b u ≡ type_by k b u
no_code k x b u e h =
    let z : b - b ≡ 0 = omega arith in
    let y : code_reply x (Ok (0, b)) b u ≡ type_by x b u = rw z h in
    subst (λ (j : StructKind). code_reply j (Ok (0, b)) b u ≡ type_by j b u) (sym e) y

pub is_code : (k : StructKind) (b : ℕ) (u : List ℕ) (a : Read ℕ) → k ≡ Response → code_reply Response a b u ≡ response_code b u → code_reply k a b u ≡ type_by k b u
unfolding type_by
is_code k b u a e h = subst (λ (j : StructKind). code_reply j a b u ≡ type_by j b u) (sym e) h

module _ (k : Option Word) (x : StructKind) (s : struct_type_of k ≡ type_by x) (n : ℕ) (r : List ℕ) where
  pub type_took : (v c : ℕ) → code_reply x (Ok (v, c)) n r ≡ type_by x n r → {b : ℕ} {u : List ℕ} → Rest b u n r → Took (struct_type_of k) b u n (type_of x v) c
  type_took v c h q = took (walks (struct_type_of_local k).on_chain) q (rw s h)

  pub type_none : (l : Lost) → code_reply x (Err l) n r ≡ type_by x n r → lost_reply l ≡ struct_type_of k n r
  type_none l h = rw s h

head_moved : (b n : ℕ) (u r : List ℕ) (h : StructHeadParts) (c : ℕ) → Rest b u n r → HeadBetween n h c → head_at n r h ≡ head_at b u h
head_moved b n u r h c q w = ap (λ (v : Word). record { head_type = type_of h.kind h.code; head_scoped = h.scoped; head_name = v }) (word_moved b n u r h.name h.end q w.name_from)

pub head_took : {b n : ℕ} {u r : List ℕ} {s : StructHeadParts} {c : ℕ} → Rest b u n r → StructHeadTo (Ok (s, c)) n r → Took struct_head b u n (head_at b u s) c
head_took {b} {n} {u} {r} {s} {c} q h = rw (← head_moved b n u r s c q h.within) (read_took h (walks struct_head_local.on_chain) q)

-- three words a struct, and those of its fields
pub struct_headed : Headed {I = Front} (λ i. parse_struct_after_doc_maturity i.doc i.maturity) (λ i. struct_records i.place) struct_head struct_fields (map field_record) 3
unfolding parse_struct_after_doc_maturity word_count catalogue_words each record_words layout struct_records documented
struct_headed = record {
  make = λ i h l. record { doc = i.doc; maturity = i.maturity; struct_type = h.head_type; fabric_scoped = h.head_scoped; name = h.head_name; fields = l };
  first = λ i h l. documented 5 i.place i.maturity i.doc (bits 2 (struct_number h.head_type) ∷ bits 1 h.head_scoped ∷ []) (word_extent h.head_name) 0 0 (value (response_of h.head_type) ∷ []);
  reads = λ i. refl;
  hands = λ i h l. refl;
  size = λ i h l. refl;
}

-- the three words of a struct's first record
pub struct_first_put : (f : FrontParts) (h : StructHeadParts) (p v i a o s : ℕ) (l l₁ : List ℕ) → v ≡ doc_span_bit f.doc → i ≡ struct_kind_number h.kind
    → a ≡ first_of (record { kind = kind_number a_struct; place = f.place; maturity = f.maturity; doc_present = v; flags = i * 32 + h.scoped * 16; name = h.name; name_length = h.end - h.name; first_privilege = View; second_privilege = View }) → o ≡ doc_span_word f.doc
    → s ≡ response_number h.kind h.code → l₁ ≡ put p (words_bytes (a ∷ o ∷ s ∷ [])) l → l₁ ≡ put p (catalogue_bytes layout (struct_first f h ∷ [])) l
unfolding from_top packed width offset size further_word
struct_first_put f h p v i a o s l l₁ d e w b z e₁ =
    documented_put a_struct f.place f.maturity f.doc (bits 2 (struct_kind_number h.kind) ∷ bits 1 h.scoped ∷ []) (at h.name (h.end - h.name)) View View (value (response_number h.kind h.code)) p (i * 32 + h.scoped * 16) v a o s l l₁ (omega (arith, e)) d w b z e₁

pub kind_small : (k : StructKind) → struct_kind_number k < 4
kind_small Regular = omega arith
kind_small Request = omega arith
kind_small Response = omega arith
kind_small Shared = omega arith

kind_number_is : (k : StructKind) (v : ℕ) → struct_kind_number k ≡ struct_number (type_of k v)
unfolding struct_number
kind_number_is Regular v = refl
kind_number_is Request v = refl
kind_number_is Response v = refl
kind_number_is Shared v = refl

response_number_is : (k : StructKind) (v : ℕ) → response_number k v ≡ response_of (type_of k v)
unfolding response_of
response_number_is Regular v = refl
response_number_is Request v = refl
response_number_is Response v = refl
response_number_is Shared v = refl

-- the first record of what was read
pub struct_first_is : (f : FrontParts) (b : ℕ) (u : List ℕ) (h : StructHeadParts) (c : ℕ) (l : List StructFieldOf) → HeadBetween b h c → c ≤ b + length u → struct_first f h ≡ struct_headed.first (front_of f) (head_at b u h) l
unfolding struct_headed
struct_first_is f b u h c l w i =
    rw (kind_number_is h.kind h.code, response_number_is h.kind h.code, extent_between b u h.name h.end w.name_from w.name_to (omega (arith, w.before)))

pub head_in_limit : {b : ℕ} {h : StructHeadParts} {c : ℕ} → HeadBetween b h c → c ≤ text_limit → HeadBetween 0 h text_limit
head_in_limit w i = record { name_from = omega arith; name_to = w.name_to; before = omega (arith, w.before); few_flags = w.few_flags }
