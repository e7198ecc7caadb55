use native.Mathlib.Omega.{arith}
use Rattle.lexing.proofs.Slicing.{rest_self}
use Rattle.items.proofs.annotations.Laws.{annotation_is, annotation_in_limit}
use Rattle.items.proofs.annotations.AnnotationPartsElement.write.Goals as goal

pub put_annotation-requires-clause-annotation_between : goal.put_annotation-requires-clause-annotation_between
put_annotation-requires-clause-annotation_between c = let w = c.requires.bounds in annotation_in_limit w.1 (omega (arith, w.2, c.requires.part_bound))

pub returns : goal.returns
returns c = let w = c.requires.bounds in rw (← annotation_is _ (rest_self _ _) w.1 w.2) c.put_annotation.ensures
