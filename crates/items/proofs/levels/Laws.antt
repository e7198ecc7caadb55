-- Levels and access lists: one law for each way through a reader.
use Rattle.items.specs.answers.{privilege_number}
use Rattle.items.specs.declared.levels.Privilege.{Privilege}
use Rattle.std.specs.Prelude.{Ok, Err}
use mathlib.Core.Path.{◌≡◌, refl, sym, ap, ◌∙◌}
use mathlib.Core.Option.{none, some}
use mathlib.Core.List.{List}
use Prim.Native.Nat.{ℕ, ◌-◌}
use native.Mathlib.Omega.{arith}
use lib.ListN.{drop}
use Rattle.lexing.specs.bytes.{ascii}
use Rattle.lexing.specs.reply.{ok, Parser, ret, ◌>>◌, opt}
use Rattle.lexing.specs.words.{keyword, tag}
use Rattle.lexing.specs.blanks.{Doc, whitespace0}
use Rattle.lexing.specs.answers.{Rest, lost_reply, Skips, SkipsAt, Read, Step, Lost}
use Rattle.lexing.proofs.Onward.{Onward, advances_onward, tag_advances}
use Rattle.lexing.proofs.Locality.{chain_then, chain_opt, chain_inside}
use Rattle.lexing.proofs.TokenLocality.{keyword_chain, whitespace0_chain}
use Rattle.lexing.proofs.Slicing.{Took, walks, begin, on, fall, rebase}
use Rattle.items.specs.members.{or_else, access_privilege, access_to}
use Rattle.items.specs.inner.levels.{LevelTo, LevelAt, access_opening, colon_privilege, PrivilegeTo}
use Rattle.lexing.proofs.AnswerLaws.{read_took, last_lost}
use Rattle.items.proofs.Mapped.{mapped_ok}
use Rattle.lexing.proofs.Pairs.{pair_on, pair_fall}
use Rattle.lexing.proofs.names.Laws.{after_on}
use Rattle.lexing.proofs.Calm.{Calm, calm_absent, calm_ret, calm_or, calm_bind, calm_then, calm_tag, calm_keyword, calm_blanks}
use Rattle.lexing.proofs.steps.Laws.{tag_after_took, keyword_after_took, skips_lost}
use Rattle.lexing.proofs.Composed.{onward_then}
use Rattle.lexing.proofs.answers.Laws.{opt_ok, skip_took}
use Rattle.items.proofs.Locality.{access_privilege_local, access_to_inside, attribute_handling_type_local}
use Rattle.items.specs.endpoints.{attribute_handling_type}

-- from an offset of a part
module _ {A : Type 0} {f : A → ℕ} {m : Parser ℕ} {b n : ℕ} {u : List ℕ} where
  pub level_at_took : {v : A} {c : ℕ} → LevelAt f m (Ok (v, c)) b u n → Onward m → Took m b u n (f v) c
  level_at_took h w = read_took h.to w h.at

  pub level_at_none : {l : Lost} → LevelAt f m (Err l) b u n → lost_reply l ≡ m n (drop (n - b) u)
  level_at_none h = h.to.reads

-- `access(`
pub opening_on : Onward access_opening
opening_on = after_on (onward_then (walks (keyword_chain (ascii "access"))) (after_on (advances_onward (tag_advances 40))))

module _ {b : ℕ} {u : List ℕ} where
  pub opening_not : {l : Lost} → SkipsAt (whitespace0 >> keyword (ascii "access")) (Err l) b u b → Skips access_opening (Err l) b u
  opening_not {l} h = record { value = tt; reads = begin access_opening b u (pair_fall _ _ _ l h.at (skips_lost h)) }

  pub opening_is : {c : ℕ} → SkipsAt (whitespace0 >> keyword (ascii "access")) (Ok c) b u b → (r : Step) → SkipsAt (whitespace0 >> tag 40) r b u c → Skips access_opening r b u
  opening_is h (Ok e) k = record { value = k.skips.value; reads = begin access_opening b u (pair_on _ _ _ (keyword_after_took (ascii "access") h) (sym (tag_after_took 40 k).goes)) }
  opening_is h (Err l) k = record { value = tt; reads = begin access_opening b u (pair_on _ _ _ (keyword_after_took (ascii "access") h) (skips_lost k)) }

-- `: privilege`
privilege_on : Onward access_privilege
privilege_on = walks access_privilege_local.on_chain

pub colon_on : Onward colon_privilege
colon_on = onward_then (advances_onward (tag_advances 58)) (after_on privilege_on)

pub colon_after : (a : Read Privilege) {b n c e : ℕ} {u r : List ℕ} {d : Doc} → Rest b u n (drop (n - b) u) → Took (tag 58) b u n tt c → Took whitespace0 b u c d e → Rest b u e r → LevelTo privilege_number access_privilege a e r → LevelAt privilege_number colon_privilege a b u n
colon_after (Ok (v, x)) {b} {n} {u = u} o t s q h =
    let k = read_took h privilege_on q in
    record { at = o; to = record { reads = ap (λ z. ok (privilege_number v) x z) (rebase b n x u o.from (omega (arith, t.up, s.up, k.up))) ∙ on _ t (on _ s (sym k.goes)); within = h.within } }
colon_after (Err l) o t s q h = record { at = o; to = record { reads = on _ t (on _ s (last_lost access_privilege l q h.reads)); within = tt } }

-- `access(KEY: privilege)`, which may be absent
access_calm : (k : List ℕ) → Calm (whitespace0 >> access_to k)
unfolding access_to access_privilege
access_calm k =
    let number : (w : List ℕ) (v : ℕ) → Calm (keyword w >> ret v) = λ w v. calm_then (calm_keyword w) (calm_ret v) in
    let privilege = calm_or (number _ 0) (calm_or (number _ 1) (calm_or (number _ 2) (number _ 3))) in
    calm_then calm_blanks (calm_then (calm_keyword _) (calm_then calm_blanks (calm_then (calm_tag 40) (calm_then calm_blanks (calm_then (calm_keyword k) (calm_then (calm_tag 58) (calm_then calm_blanks (
    calm_bind privilege λ p. calm_then calm_blanks (calm_then (calm_tag 41) (calm_ret p))
    ))))))))

pub access_on : (k : List ℕ) → Onward (opt (whitespace0 >> access_to k))
access_on k = walks (chain_opt (chain_then whitespace0_chain (chain_inside (access_to_inside k))))

module _ (k : List ℕ) (z : Privilege) {b : ℕ} {u : List ℕ} where
  pub privilege_none : (l : Lost) → lost_reply l ≡ (whitespace0 >> access_to k) b u → PrivilegeTo k z (z, b) b u
  unfolding or_else
  privilege_none l e = record { reads = mapped_ok (or_else (privilege_number z)) (opt (whitespace0 >> access_to k)) b u none b (drop (b - b) u) refl (calm_absent (access_calm k) l e); within = tt }

  pub privilege_is : {v : Privilege} {c : ℕ} → ok (privilege_number v) c (drop (c - b) u) ≡ (whitespace0 >> access_to k) b u → PrivilegeTo k z (v, c) b u
  unfolding or_else
  privilege_is {v} {c} e = record { reads = mapped_ok (or_else (privilege_number z)) (opt (whitespace0 >> access_to k)) b u (some (privilege_number v)) c (drop (c - b) u) refl (opt_ok (whitespace0 >> access_to k) b u (privilege_number v) c (drop (c - b) u) e); within = tt }

-- a part after another, from an offset
module _ {A B : Type 0} (k : Parser A) (m : Parser B) {b n : ℕ} {u : List ℕ} (q : Rest b u n (drop (n - b) u)) where
  pub skips_fall : (v : B) {l : Lost} → lost_reply l ≡ k n (drop (n - b) u) → SkipsAt (k >> m) (Err l) b u n
  skips_fall v {l} e = record { at = q; skips = record { value = v; reads = fall k m l q e } }

  pub skips_after : Onward m → (a : Step) {x : A} {c : ℕ} → Took k b u n x c → SkipsAt m a b u c → SkipsAt (k >> m) a b u n
  skips_after w (Ok e) t h =
      let s = skip_took w h.at h.skips in
      record { at = q; skips = record { value = h.skips.value; reads = ap (λ z. ok h.skips.value e z) (rebase b n e u q.from (omega (arith, t.up, s.up))) ∙ on m t (sym s.goes) } }
  skips_after w (Err l) t h = record { at = q; skips = record { value = h.skips.value; reads = on m t (skips_lost h) } }

pub handling_on : Onward attribute_handling_type
handling_on = walks attribute_handling_type_local.on_chain
