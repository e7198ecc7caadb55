use native.Mathlib.Omega.{arith}
use Rattle.lexing.specs.declared.strings.Escaped.TheVariants.{Allowed, Forbidden, Panics}
use Rattle.lexing.proofs.strings.Laws.{piece_out, piece_quote, piece_byte, piece_escape}
use Rattle.lexing.proofs.strings.string_piece.Goals as goal

pub returns-then-part-eq0 : goal.returns-then-part-eq0
returns-then-part-eq0 g c = record { inside = tt; reads = λ f h. piece_out f _ _ (omega arith) λ l. absurd (omega arith) }

pub returns-then-x-eq34 : goal.returns-then-x-eq34
returns-then-x-eq34 g c = record { inside = tt; reads = λ f h. piece_quote f _ _ c.if-x-eq34.true }

pub returns-then-x-ne92 : goal.returns-then-x-ne92
returns-then-x-ne92 g c = record { inside = (omega arith, omega arith); reads = λ f h. piece_byte f _ _ (omega arith) c.if-x-eq34.false c.if-x-ne92.true }

pub returns-then-part-eq1 : goal.returns-then-part-eq1
returns-then-part-eq1 g c = record { inside = tt; reads = λ f h. piece_out f _ _ (omega arith) λ l. c.if-x-ne92.false }

pub returns-in-Allowed : goal.returns-in-Allowed
returns-in-Allowed g c = record { inside = (omega arith, omega arith); reads = λ f h. piece_escape f _ _ (omega arith) c.if-x-ne92.false Allowed c.in-Allowed.is (h _ _ c.escape.ensures) }

pub returns-in-Forbidden : goal.returns-in-Forbidden
returns-in-Forbidden g c = record { inside = tt; reads = λ f h. piece_escape f _ _ (omega arith) c.if-x-ne92.false Forbidden c.in-Forbidden.is (h _ _ c.escape.ensures) }

pub returns : goal.returns
returns g c = record { inside = tt; reads = λ f h. piece_escape f _ _ (omega arith) c.if-x-ne92.false Panics c.in-Panics.is (h _ _ c.escape.ensures) }
