use Rattle.std.proofs.Common.{rules}
use lib.ListN.{get_or}
use Prim.Native.Nat.{◌+◌}
use native.Mathlib.Omega.{arith}
use mathlib.Core.Path.{◌≡◌, ◌∙◌, ap}
use Rattle.lexing.specs.unescaping.{escaped}
use Rattle.lexing.proofs.unescaping.Laws.{piece_bare, piece_passes, piece_lone, piece_bad, piece_good}
use Rattle.lexing.proofs.unescaping.next_piece.Goals as goal

pub returns-in_err-y-in-92 : goal.returns-in_err-y-in-92
returns-in_err-y-in-92 c = rw c.from_residual.ensures (piece_lone _ _ c.requires (λ e. omega arith) c.in-92.is (omega (arith, c.in_err-y-in-92.ensures.lookup)))

pub returns-in_err-z-in-92 : goal.returns-in_err-z-in-92
returns-in_err-z-in-92 c =
    let y : c.in_ok-y-in-92.field-0.now ≡ get_or c.args.part.now (c.args.at + 1) 0 = search (rules, c.in_ok-y-in-92.ensures.lookup) in
    rw c.from_residual-in_err-z-in-92.ensures
    (piece_bad _ _ c.requires (λ e. omega arith) c.in-92.is (omega (arith, c.in_ok-y-in-92.ensures.lookup)) (c.in_err-z-in-92.ensures ∙ ap escaped y))

pub returns-in-34 : goal.returns-in-34
returns-in-34 c = piece_bare _ _ c.requires c.in-34.is

pub returns-in_ok-z-in-92 : goal.returns-in_ok-z-in-92
returns-in_ok-z-in-92 c =
    let y : c.in_ok-y-in-92.field-0.now ≡ get_or c.args.part.now (c.args.at + 1) 0 = grind (arith, c.in_ok-y-in-92.ensures.lookup) in
    piece_good _ _ c.requires (λ e. omega arith) c.in-92.is (omega (arith, c.in_ok-y-in-92.ensures.lookup)) _ (c.in_ok-z-in-92.ensures ∙ ap escaped y)

pub returns-in_default : goal.returns-in_default
returns-in_default c = piece_passes _ _ c.requires (λ e. omega arith) (λ e. omega arith)
