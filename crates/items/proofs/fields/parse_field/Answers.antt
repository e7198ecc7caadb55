use Rattle.lexing.proofs.Losses.{passed_on}
use Rattle.items.specs.structs.{parse_field}
use Rattle.lexing.proofs.names.Laws.{named_in, named_at_took, named_at_lost, gap_word_on, equals_code_on, number_at_took, number_at_lost}
use native.Mathlib.Omega.{arith}
use Rattle.lexing.proofs.Slicing.{begin, go, on, lose, done}
use Rattle.lexing.proofs.AnswerLaws.{read_not}
use Rattle.lexing.proofs.Pairs.{pair_go, pair_lose, three_go, three_lose}
use Rattle.lexing.proofs.steps.Laws.{blank_at_took}
use Rattle.lexing.proofs.words.Laws.{word_at_took, word_at_lost}
use Rattle.items.proofs.fields.Laws.{length_took, length_none, marker_took, field_is}
use Rattle.items.proofs.fields.parse_field.Goals as goal

pub blank_at-type_at-requires : goal.blank_at-type_at-requires
blank_at-type_at-requires c = omega (arith, c.requires)

pub id_at-requires : goal.id_at-requires
id_at-requires c = let t = blank_at_took c.blank_at-type_at.ensures in omega (arith, t.up, t.inside, c.requires)

pub returns-in_err-type_end : goal.returns-in_err-type_end
unfolding parse_field
returns-in_err-type_end c = rw (passed_on c.from_residual.ensures) (read_not _ (begin (parse_field) _ _ (on _ (blank_at_took c.blank_at-type_at.ensures) (lose _ _ _ c.in_err-type_end.ensures.at (word_at_lost c.in_err-type_end.ensures)))))

pub rest_at-requires : goal.rest_at-requires
rest_at-requires c = let t = word_at_took c.in_ok-type_end.ensures in omega (arith, t.up, t.inside, c.in_ok-type_end.ensures.at.from)

pub max_length-requires : goal.max_length-requires
max_length-requires c = omega (arith, c.rest_at.ensures.size, c.requires)

pub returns-in_err-maximum : goal.returns-in_err-maximum
unfolding parse_field
returns-in_err-maximum c = rw (passed_on c.from_residual-in_err-maximum.ensures) (read_not _ (begin (parse_field) _ _ (on _ (blank_at_took c.blank_at-type_at.ensures) (go _ (word_at_took c.in_ok-type_end.ensures) (lose _ _ _ c.rest_at.ensures (length_none _ _ c.max_length.result c.max_length.ensures c.in_err-maximum.ensures))))))

pub gap_word-requires : goal.gap_word-requires
gap_word-requires c = let t = length_took _ _ c.max_length.result c.max_length.ensures c.in_ok-maximum.ensures c.rest_at.ensures in omega (arith, t.up, t.inside, c.rest_at.ensures.from, c.requires)

pub returns-in_err-named : goal.returns-in_err-named
unfolding parse_field
returns-in_err-named c = rw (passed_on c.from_residual-in_err-named.ensures) (read_not _ (begin (parse_field) _ _ (on _ (blank_at_took c.blank_at-type_at.ensures) (go _ (word_at_took c.in_ok-type_end.ensures) (go _ (length_took _ _ c.max_length.result c.max_length.ensures c.in_ok-maximum.ensures c.rest_at.ensures) (pair_lose _ _ _ _ c.in_err-named.ensures.at (named_at_lost c.in_err-named.ensures)))))))

pub blank_at-c4-requires : goal.blank_at-c4-requires
blank_at-c4-requires c = let t = named_at_took c.in_ok-named.ensures gap_word_on in omega (arith, t.up, t.inside, c.in_ok-named.ensures.at.from, c.requires)

pub rest_at-requires-2 : goal.rest_at-requires-2
rest_at-requires-2 c = let t = blank_at_took c.blank_at-c4.ensures in omega (arith, t.up, t.inside, c.blank_at-c4.ensures.at.from)

pub list_marker-marker-requires : goal.list_marker-marker-requires
list_marker-marker-requires c = omega (arith, c.rest_at-2.ensures.size, c.requires)

pub equals_code-requires : goal.equals_code-requires
equals_code-requires c = let t = marker_took c.rest_at-2.ensures c.list_marker-marker.ensures in omega (arith, t.up, t.inside, c.rest_at-2.ensures.from, c.requires)

pub returns-in_err-code : goal.returns-in_err-code
unfolding parse_field
returns-in_err-code c = rw (passed_on c.from_residual-in_err-code.ensures) (read_not _ (begin (parse_field) _ _ (on _ (blank_at_took c.blank_at-type_at.ensures) (go _ (word_at_took c.in_ok-type_end.ensures) (go _ (length_took _ _ c.max_length.result c.max_length.ensures c.in_ok-maximum.ensures c.rest_at.ensures) (pair_go _ _ _ (named_at_took c.in_ok-named.ensures gap_word_on) (on _ (blank_at_took c.blank_at-c4.ensures) (go _ (marker_took c.rest_at-2.ensures c.list_marker-marker.ensures) (three_lose _ _ _ _ _ c.in_err-code.ensures.at (number_at_lost c.in_err-code.ensures))))))))))

pub returns : goal.returns
unfolding parse_field
returns c = field_is _ _ _ _ (begin (parse_field) _ _ (on _ (blank_at_took c.blank_at-type_at.ensures) (go _ (word_at_took c.in_ok-type_end.ensures) (go _ (length_took _ _ c.max_length.result c.max_length.ensures c.in_ok-maximum.ensures c.rest_at.ensures) (pair_go _ _ _ (named_at_took c.in_ok-named.ensures gap_word_on) (on _ (blank_at_took c.blank_at-c4.ensures) (go _ (marker_took c.rest_at-2.ensures c.list_marker-marker.ensures) (three_go _ _ _ _ (number_at_took c.in_ok-code.ensures equals_code_on) (done _ _ _ _))))))))) (let n = (named_in c.in_ok-named.ensures.named) in record { type_from = (blank_at_took c.blank_at-type_at.ensures).up; type_to = (word_at_took c.in_ok-type_end.ensures).up; name_from = omega (arith, (length_took _ _ c.max_length.result c.max_length.ensures c.in_ok-maximum.ensures c.rest_at.ensures).up, n.from); name_to = n.up; before = omega (arith, n.inside, (blank_at_took c.blank_at-c4.ensures).up, (marker_took c.rest_at-2.ensures c.list_marker-marker.ensures).up, (number_at_took c.in_ok-code.ensures equals_code_on).up) })
