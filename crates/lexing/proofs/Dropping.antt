-- Parts that are read and dropped: sequences and repetitions.
use mathlib.Core.Path.{◌≡◌, sym, ap, ◌∙◌, subst}
use mathlib.Core.List.{List, []}
use Prim.Native.Nat.{ℕ, ◌-◌}
use lib.ListN.{drop}
use Rattle.lexing.specs.reply.{ok, Parser, ◌>>◌, opt, many0}
use Rattle.lexing.specs.words.{Word, word, keyword, tag}
use Rattle.lexing.specs.blanks.{Doc, whitespace0}
use Rattle.lexing.specs.answers.{Rest, Answer, got, lost, lost_reply, reply, step_answer, tag_reply, word_at, word_reply, Skips, optional_step, Lost}
use Rattle.std.specs.Prelude.{Ok, Err}
use Rattle.lexing.specs.answers.{Step}
use Rattle.lexing.proofs.Losses.{by_lost}
use Rattle.lexing.proofs.Onward.{Onward}
use Rattle.lexing.proofs.Locality.{Consumes}
use Rattle.lexing.proofs.Slicing.{Took, took, begin, on}
use Rattle.lexing.proofs.Repetition.{ManyAt, many_end, many0_ends}
use Rattle.lexing.proofs.answers.Laws.{optional_skips}

-- the two ends of a sequence; a value of the right type where there is none
pub skip_is : {A : Type 0} (m : Parser A) (v : A) (b c : ℕ) (u : List ℕ) → ok v c (drop (c - b) u) ≡ m b u → Skips m (Ok c) b u
skip_is m v b c u e = record { value = v; reads = e }

pub skip_not : {A : Type 0} (m : Parser A) (v : A) (l : Lost) (b : ℕ) (u : List ℕ) → lost_reply l ≡ m b u → Skips m (Err l) b u
skip_not m v l b u e = record { value = v; reads = e }

pub tag_skips : (t : ℕ) (a : Step) {b : ℕ} {u : List ℕ} → tag_reply a b u ≡ tag t b u → Skips (tag t) a b u
tag_skips t a h = record { value = tt; reads = h }

pub no_word : Word
no_word = word 0 []

pub keyword_skips : (k : List ℕ) (a : Step) {n : ℕ} {v : List ℕ} → word_reply a n v ≡ keyword k n v → Skips (keyword k) a n v
keyword_skips k (Ok c) {n} {v} h = record { value = word_at n v c; reads = h }
keyword_skips k (Err l) h = record { value = no_word; reads = h }

-- an optional part
pub opt_skips : {A : Type 0} {m : Parser A} (a : Step) {b : ℕ} {u : List ℕ} {t : Step} → Skips m a b u → t ≡ optional_step a b → Skips (opt m) t b u
opt_skips {A} {m} a {b} {u} {t} h e = subst (λ (x : Step). Skips (opt m) x b u) (sym e) (optional_skips a b u h)

-- a part after blanks
pub following : {A : Type 0} {m : Parser A} (w : Onward m) {b n : ℕ} {u r : List ℕ} {d : Doc} (x : Answer A) → Rest b u n r → Took whitespace0 b u b d n → reply x n r ≡ m n r → reply x b u ≡ (whitespace0 >> m) b u
following {A} {m} w {b} {n} {u} (got a c) q t h = begin (whitespace0 >> m) b u (on m t (sym (took w q h).goes))
following {A} {m} w {b} {n} {u} (lost l) q t h = begin (whitespace0 >> m) b u (on m t (h ∙ ap (m n) q.same))

pub skip_after : {A : Type 0} {m : Parser A} (w : Onward m) {b n : ℕ} {u r : List ℕ} {d : Doc} {a : Step} → Rest b u n r → Took whitespace0 b u b d n → Skips m a n r → Skips (whitespace0 >> m) a b u
skip_after w {a = a} q t h = record { value = h.value; reads = following w (step_answer (λ c. h.value) a) q t h.reads }

-- the end of a repetition
ran : {A : Type 0} (m : Parser A) (b : ℕ) (u : List ℕ) (c : ℕ) (l : List A) (x : Lost) → many0 m b u ≡ many_end x l c (drop (c - b) u) → Skips (many0 m) (optional_step (Err x) c) b u
ran m b u c l = by_lost (λ x. many0 m b u ≡ many_end x l c (drop (c - b) u) → Skips (many0 m) (optional_step (Err x) c) b u) (λ p e. record { value = l; reads = sym e }) (λ n p e. record { value = l; reads = sym e })

pub many0_skips : {A : Type 0} {m : Parser A} (w : Consumes m) {b c : ℕ} {u r : List ℕ} {l : List A} {t : Step} (x : Lost) → ManyAt m b u c l → Rest b u c r → Skips m (Err x) c r → t ≡ optional_step (Err x) c → Skips (many0 m) t b u
many0_skips {A} {m} w {b} {c} {u} {r} {l} {t} x i q h e = subst (λ (y : Step). Skips (many0 m) y b u) (sym e) (ran m b u c l x (many0_ends w x i q h.reads))
