use mathlib.Core.Path.{refl}
use Rattle.lexing.specs.reply.{ret}
use Rattle.items.specs.inner.structs.{type_by}
use Rattle.items.specs.declared.structs.StructKind.TheVariants.{Regular, Request, Shared}
use Rattle.items.proofs.structs.Laws.{no_code, is_code}
use Rattle.items.proofs.structs.struct_code.Goals as goal

pub returns-in-Regular : goal.returns-in-Regular
unfolding type_by ret
returns-in-Regular c = no_code _ Regular _ _ c.in-Regular.is refl

pub returns-in-Request : goal.returns-in-Request
unfolding type_by ret
returns-in-Request c = no_code _ Request _ _ c.in-Request.is refl

pub returns-in-Response : goal.returns-in-Response
returns-in-Response c = is_code _ _ _ c.response_code.result c.in-Response.is c.response_code.ensures

pub returns-in-Shared : goal.returns-in-Shared
unfolding type_by ret
returns-in-Shared c = no_code _ Shared _ _ c.in-Shared.is refl
