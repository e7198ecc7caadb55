-- A keyword that stands for a value; one that is not there fails at its start.
use Rattle.std.specs.Prelude.{Ok, Err}
use mathlib.Core.Path.{◌≡◌, sym}
use mathlib.Core.List.{List}
use Prim.Native.Nat.{ℕ, ◌-◌}
use lib.ListN.{drop}
use Rattle.lexing.specs.reply.{ok, fail, ret, ◌>>=◌, ◌>>◌}
use Rattle.lexing.specs.words.{keyword}
use Rattle.lexing.specs.answers.{word_reply, Lost}
use Rattle.lexing.proofs.word_sets.Laws.{lost_here}

pub keyword_missing : (k : List ℕ) (b : ℕ) (u : List ℕ) (l : Lost) → word_reply (Err l) b u ≡ keyword k b u → fail b ≡ keyword k b u
keyword_missing k b u l h = lost_here k b u l h

module _ {A : Type 0} (k : List ℕ) (v : A) (b : ℕ) (u : List ℕ) where
  pub keyword_value : (c : ℕ) → word_reply (Ok c) b u ≡ keyword k b u → ok v c (drop (c - b) u) ≡ (keyword k >> ret v) b u
  unfolding ◌>>◌ ◌>>=◌ ret
  keyword_value c h = rw (sym h, ◌>>◌, ◌>>=◌)

  pub keyword_not : (l : Lost) → word_reply (Err l) b u ≡ keyword k b u → fail b ≡ (keyword k >> ret v) b u
  unfolding ◌>>◌ ◌>>=◌
  keyword_not l h = rw (sym (keyword_missing k b u l h), ◌>>◌, ◌>>=◌)
