-- Known answers of reading and the survey: document 01's cases 1 to 12 and the lister's example, as one table under one theorem.
use Prim.Native.Nat.{ℕ}
use Prim.Native.String.{String}
use mathlib.Core.Path.{◌≡◌, refl}
use mathlib.Core.List.{List, [], ◌∷◌, map}
use Rattle.lexing.specs.runs.{take_while, take_while1, tag2}
use Rattle.lexing.specs.reply.{ret, ◌>>=◌, ◌>>◌, catch, opt, no_nearer, ◌or◌, prepend, many_within, many0, iter_within, iter, keep, position, fail_at, stop_at, pick}
use Rattle.lexing.specs.bytes.{within, is_letter, is_digit, is_hex, is_word, is_space, in_line, lower, list_take_while, list_drop_while, digit, number, ascii}
use Rattle.lexing.specs.blanks.{line_comment, one_more, until_close, comment_kind, closed, block_comment, multispace1, whitespace_group, doc_after, one_blank, whitespace0, whitespace1}
use Rattle.lexing.specs.words.{offset_of, bytes_of, parse_id, is_keyword, keyword, any_keyword, tag}
use Rattle.lexing.specs.integers.{fitting, hex_integer, decimal_integer, positive_integer, largest, in_range, after_sign, signed_integer}
use Rattle.lexing.specs.strings.{string_rest, span_from, string_with, annotation_escape, quoted_string, default_escape, default_string}
use Rattle.lexing.specs.word_sets.{next_word, set_step, keywords_set, same_bytes, contains, bit, flags, set_flags, field_set, struct_set, event_set, command_set, attribute_set}
use Rattle.items.specs.entries.{present, enclosed, where_missing, braces, api_maturity, constant_annotation, blank_annotation, annotations_in_brackets, constant_annotations_list, annotations_of, constant_entry, blank_entry, constant_entries, constant_entries_list, shared_before, choice_head, choice_after_doc_maturity, parse_enum_after_doc_maturity, parse_bitmap_after_doc_maturity}
use Rattle.items.specs.structs.{max_length, list_marker, parse_field, parse_struct_field, closed_field, fields_run, struct_fields, response_code, type_by_word, struct_type_of, struct_head, parse_struct_after_doc_maturity}
use Rattle.items.specs.members.{access_privilege, or_else, event_priority, access_to, event_qualities, event_head, parse_event_after_doc_maturity, command_head, command_types, parse_command_after_doc_maturity, access_entry, comma, separated_list0, access_list, granted_by, default_privileges, listed, attribute_access, parse_attribute_after_doc_maturity}
use Rattle.items.specs.clusters.{mapped, parse_revision, member_tries, parse_cluster_member, cluster_members, side, cluster_head, cluster_after_doc_maturity, parse_cluster}
use Rattle.items.specs.endpoints.{intercept, deep_step, deeper, deep_run, deep_place, deep_braces, device_version, device_type, value_tries, default_attribute_value, attribute_handling_type, attribute_instantiation, instance_tries, instantiation_head, cluster_instantiation, part_tries, endpoint_head, endpoint}
use Rattle.lexing.specs.names.{two_keywords_name, named_after}
use Rattle.items.specs.items.{with_doc_maturity, item}
use Rattle.items.specs.records.{moved_extent, moved_further, moved, word_extent, optional_extent, doc_extent, span_extent, doc_bit, flag, plain, documented, annotation_record, entry_record, entry_records, choice_records, field_record, struct_number, response_of, struct_records, attribute_records, command_record, event_records, last_revision, member_records, cluster_records, default_number, twos_complement, default_word, instance_record, part_records, endpoint_records, item_records}
use Rattle.lexing.specs.buffers.{each, big_endian, words_bytes}
use Rattle.items.specs.layout.{packed, width, from_top, offset, size, layout, further_word, record_words, catalogue_words, catalogue_bytes}
use Rattle.lexing.specs.outcomes.{Outcome, refused, written, fitted}
use Rattle.lexing.specs.utf8.{has, table, following, awaiting, begun, step, run, fault, utf8_error}
use Rattle.matter_idl.specs.hoisting.{no_ids, held, mark, join, choice_id, struct_id, is_shared, place_by, after_member, after_members, after_item, hoisted}
use Rattle.matter_idl.specs.sections.{cut_after, before_first, cut_from, sections}
use Rattle.matter_idl.specs.survey.{items_of, accepted_items, report_entry, report_entries, report_layout, entry_words, report_bytes, Surveyed, surveyed, into_buffers, survey}
use Rattle.matter_idl.specs.reading.{unless_ended, items_within, all_items, by_reply, by_utf8, verdict_at, verdict, into_catalogue, reading}

-- a text, and what reading it or its survey comes to
pub data Case : Type 0 where
  reads : String → Outcome → Case
  surveys : String → Surveyed → Case

pub data Answer : Type 0 where
  of_reading : Outcome → Answer
  of_survey : Surveyed → Answer

unfoldable pub answered : Case → Answer
answered (reads s o) = of_reading (reading layout (ascii s) 65536)
answered (surveys s x) = of_survey (survey layout report_layout (ascii s) 65536 65536)

unfoldable pub expected : Case → Answer
expected (reads s o) = of_reading o
expected (surveys s x) = of_survey x

-- the words of a catalogue, and those of a catalogue and a report
unfoldable pub words : List ℕ → Outcome
words l = written (words_bytes l)

unfoldable pub both : (catalogue report : List ℕ) → Surveyed
both c r = surveyed (words_bytes c) (words_bytes r)

unfoldable pub cases : List Case
cases =
    reads "" (words []) ∷
    reads "//" (refused 3 0) ∷
    reads "//a" (words []) ∷
    reads "/**/enum E:t{}" (words (0x0240000009000010 ∷ 0 ∷ 0x0000b00001000000 ∷ [])) ∷
    reads "/***/enum E:t{}" (words (0x024800000a000010 ∷ 0x0000300000000000 ∷ 0x0000c00001000000 ∷ [])) ∷
    reads "enum E:t{a=0XfF;}" (words (0x0240000005000010 ∷ 0 ∷ 0x0000700001000000 ∷ 0x0400000009000010 ∷ 255 ∷ [])) ∷
    reads "enum E:t{a=0x;}" (refused 3 9) ∷
    reads "enum E:t{a=18446744073709551615;}" (words (0x0240000005000010 ∷ 0 ∷ 0x0000700001000000 ∷ 0x0400000009000010 ∷ 0xffffffffffffffff ∷ [])) ∷
    reads "enum E:t{a=18446744073709551616;}" (refused 4 11) ∷
    reads "enum E:t{stable=1;}" (refused 3 9) ∷
    reads "REQUEST struct S{}" (words (0x054000000f000010 ∷ 0 ∷ 0 ∷ [])) ∷
    reads "struct S{Optional t a=1;}" (words (0x0540000007000010 ∷ 0 ∷ 0 ∷ 0x0600000014000010 ∷ 0x0001200001000000 ∷ 1 ∷ 0 ∷ [])) ∷
    reads "cluster A = 1 { revision 2; bogus }" (refused 3 28) ∷
    reads "cluster C=1{attribute access(READ: view) t a=1;}" (refused 6 29) ∷
    reads "cluster C=1{shared enum E:t{} shared enum E:t{}}" (words (0x0100000008000010 ∷ 0 ∷ 1 ∷ 0 ∷ 0x0244000018000010 ∷ 0 ∷ 0x0001a00001000000 ∷ 0x024400002a000010 ∷ 0 ∷ 0x0002c00001000000 ∷ [])) ∷
    reads "cluster C=1{shared enum E:t{} shared enum E:t{}}cluster D=2{shared enum E:t{}}" (words (0x0100000008000010 ∷ 0 ∷ 1 ∷ 0 ∷ 0x0244000018000010 ∷ 0 ∷ 0x0001a00001000000 ∷ 0x024400002a000010 ∷ 0 ∷ 0x0002c00001000000 ∷ 0x0100000038000010 ∷ 0 ∷ 2 ∷ 0 ∷ 0x0284000048000010 ∷ 0 ∷ 0x0004a00001000000 ∷ [])) ∷
    reads "cluster C=1{shared enum E:t{}}cluster D=2{shared enum E:t{}}" (words (0x0100000008000010 ∷ 0 ∷ 1 ∷ 0 ∷ 0x0244000018000010 ∷ 0 ∷ 0x0001a00001000000 ∷ 0x0100000026000010 ∷ 0 ∷ 2 ∷ 0 ∷ 0x0284000036000010 ∷ 0 ∷ 0x0003800001000000 ∷ [])) ∷
    reads "endpoint 0{server cluster C{ram attribute a default=-9223372036854775809;}}" (refused 3 44) ∷
    reads "endpoint 0{server cluster C{ram attribute a default=-9223372036854775808;}}" (words (0x0a00000000000000 ∷ 0 ∷ 0x0d0000001a000010 ∷ 0x0e0080002a000010 ∷ 0x8000000000000000 ∷ [])) ∷
    reads "enum E:t{}" (words (0x0240000005000010 ∷ 0 ∷ 0x0000700001000000 ∷ [])) ∷
    surveys "enum A:t{\n}\nenum B:t{\n}" (both (0x0240000005000010 ∷ 0 ∷ 0x0000700001000000 ∷ 0x0240000011000010 ∷ 0 ∷ 0x0001300001000000 ∷ []) (0x000000000b000000 ∷ 0x0000b0000c000000 ∷ 0x0001700000000000 ∷ [])) ∷
    surveys "enum A:?{\n}\nenum B:t{\n}" (both (0x0240000011000010 ∷ 0 ∷ 0x0001300001000000 ∷ []) (0x000000000b300007 ∷ 0x0000b0000c000000 ∷ 0x0001700000000000 ∷ [])) ∷
    -- document 02, L1
    reads "enum E:t{a=1[b=\"c\"];}" (words (0x0240000005000010 ∷ 0 ∷ 0x0000700001000000 ∷ 0x0400000009000010 ∷ 1 ∷ 0x110000000d000010 ∷ 0x0001000001000000 ∷ [])) ∷
    reads "bitmap B:t{a=1[b=\"c\"];}" (words (0x0340000007000010 ∷ 0 ∷ 0x0000900001000000 ∷ 0x040000000b000010 ∷ 1 ∷ 0x110000000f000010 ∷ 0x0001200001000000 ∷ [])) ∷
    reads "enum E:t{a=1;}" (words (0x0240000005000010 ∷ 0 ∷ 0x0000700001000000 ∷ 0x0400000009000010 ∷ 1 ∷ [])) ∷
    reads "enum E:t{a=1[];}" (words (0x0240000005000010 ∷ 0 ∷ 0x0000700001000000 ∷ 0x0400000009000010 ∷ 1 ∷ [])) ∷
    reads "enum E:t{a=1[ ];}" (words (0x0240000005000010 ∷ 0 ∷ 0x0000700001000000 ∷ 0x0400000009000010 ∷ 1 ∷ [])) ∷
    reads "enum E:t{a=1[b=\"\"];}" (words (0x0240000005000010 ∷ 0 ∷ 0x0000700001000000 ∷ 0x0400000009000010 ∷ 1 ∷ 0x110000000d000010 ∷ 0x0001000000000000 ∷ [])) ∷
    reads "enum E:t{a=1[b=\"c\"d=\"e\",];}" (words (0x0240000005000010 ∷ 0 ∷ 0x0000700001000000 ∷ 0x0400000009000010 ∷ 1 ∷ 0x110000000d000010 ∷ 0x0001000001000000 ∷ 0x1100000012000010 ∷ 0x0001500001000000 ∷ [])) ∷
    reads "enum E:t{a=1[b=\"c\",d=\"e\"];}" (words (0x0240000005000010 ∷ 0 ∷ 0x0000700001000000 ∷ 0x0400000009000010 ∷ 1 ∷ 0x110000000d000010 ∷ 0x0001000001000000 ∷ 0x1100000013000010 ∷ 0x0001600001000000 ∷ [])) ∷
    reads "enum E:t{a=1[b=\"c\",b=\"c\"];}" (words (0x0240000005000010 ∷ 0 ∷ 0x0000700001000000 ∷ 0x0400000009000010 ∷ 1 ∷ 0x110000000d000010 ∷ 0x0001000001000000 ∷ 0x1100000013000010 ∷ 0x0001600001000000 ∷ [])) ∷
    reads "enum E:t{a=1[b=\"x\"];c=2[d=\"y\"];}" (words (0x0240000005000010 ∷ 0 ∷ 0x0000700001000000 ∷ 0x0400000009000010 ∷ 1 ∷ 0x110000000d000010 ∷ 0x0001000001000000 ∷ 0x0400000014000010 ∷ 2 ∷ 0x1100000018000010 ∷ 0x0001b00001000000 ∷ [])) ∷
    reads "enum E:t{a=1[b=\"x\"];c=2;}" (words (0x0240000005000010 ∷ 0 ∷ 0x0000700001000000 ∷ 0x0400000009000010 ∷ 1 ∷ 0x110000000d000010 ∷ 0x0001000001000000 ∷ 0x0400000014000010 ∷ 2 ∷ [])) ∷
    reads "enum E:t{a=1[b=\"\\\"\\\\\"];}" (words (0x0240000005000010 ∷ 0 ∷ 0x0000700001000000 ∷ 0x0400000009000010 ∷ 1 ∷ 0x110000000d000010 ∷ 0x0001000004000000 ∷ [])) ∷
    reads "enum E:t{a=1[b=\"\n}\"];}" (words (0x0240000005000010 ∷ 0 ∷ 0x0000700001000000 ∷ 0x0400000009000010 ∷ 1 ∷ 0x110000000d000010 ∷ 0x0001000002000000 ∷ [])) ∷
    reads "enum E:t{a=1[b=\"//\"];}" (words (0x0240000005000010 ∷ 0 ∷ 0x0000700001000000 ∷ 0x0400000009000010 ∷ 1 ∷ 0x110000000d000010 ∷ 0x0001000002000000 ∷ [])) ∷
    reads "enum E:t{a=1[b=\"/*\"];}" (words (0x0240000005000010 ∷ 0 ∷ 0x0000700001000000 ∷ 0x0400000009000010 ∷ 1 ∷ 0x110000000d000010 ∷ 0x0001000002000000 ∷ [])) ∷
    reads "enum E:t{a=1[b=\"]\"];}" (words (0x0240000005000010 ∷ 0 ∷ 0x0000700001000000 ∷ 0x0400000009000010 ∷ 1 ∷ 0x110000000d000010 ∷ 0x0001000001000000 ∷ [])) ∷
    reads "enum E:t{a=1 /**/ [ /**x*/ b /**/ = /**/ \"c\" /**/ , /**/ ] /**/ ;}" (words (0x0240000005000010 ∷ 0 ∷ 0x0000700001000000 ∷ 0x0400000009000010 ∷ 1 ∷ 0x110000001b000010 ∷ 0x0002a00001000000 ∷ [])) ∷
    reads "enum E:t{stable stable=1[stable=\"stable\"];}" (words (0x0240000005000010 ∷ 0 ∷ 0x0000700001000000 ∷ 0x0400000010000060 ∷ 1 ∷ 0x1100000019000060 ∷ 0x0002100006000000 ∷ [])) ∷
    reads "enum E:t{internal a=1[b=\"c\"];}" (words (0x0240000005000010 ∷ 0 ∷ 0x0000700001000000 ∷ 0x0420000012000010 ∷ 1 ∷ 0x1100000016000010 ∷ 0x0001900001000000 ∷ [])) ∷
    reads "enum E:t{a=1[_1=\"c\"];}" (words (0x0240000005000010 ∷ 0 ∷ 0x0000700001000000 ∷ 0x0400000009000010 ∷ 1 ∷ 0x110000000d000020 ∷ 0x0001100001000000 ∷ [])) ∷
    reads "enum E:t{a=1[1b=\"c\"];}" (refused 3 9) ∷
    reads "cluster C=1{shared enum E:t{a=1[b=\"c\"];}}cluster D=2{shared enum E:t{a=1[b=\"d\"];}}" (words (0x0100000008000010 ∷ 0 ∷ 1 ∷ 0 ∷ 0x0244000018000010 ∷ 0 ∷ 0x0001a00001000000 ∷ 0x040000001c000010 ∷ 1 ∷ 0x1100000020000010 ∷ 0x0002300001000000 ∷ 0x0100000031000010 ∷ 0 ∷ 2 ∷ 0 ∷ 0x0284000041000010 ∷ 0 ∷ 0x0004300001000000 ∷ 0x0400000045000010 ∷ 1 ∷ 0x1100000049000010 ∷ 0x0004c00001000000 ∷ [])) ∷
    surveys "\n}enum E:t{a=1[b=\"c\"];}" (both (0x0240000007000010 ∷ 0 ∷ 0x0000900001000000 ∷ 0x040000000b000010 ∷ 1 ∷ 0x110000000f000010 ∷ 0x0001200001000000 ∷ []) (0x0000000002300001 ∷ 0x0000200015000000 ∷ [])) ∷
    []

pub known_answers : map answered cases ≡ map expected cases
unfolding answered expected words both cases cut_after before_first cut_from sections items_of accepted_items report_entry report_entries report_layout entry_words report_bytes into_buffers survey no_ids held mark join choice_id struct_id is_shared place_by after_member after_members after_item hoisted unless_ended items_within all_items by_reply by_utf8 verdict_at verdict into_catalogue reading has table following awaiting begun step run fault utf8_error fitted ret ◌>>=◌ ◌>>◌ catch opt no_nearer ◌or◌ prepend many_within many0 iter_within iter keep position fail_at stop_at pick within is_letter is_digit is_hex is_word is_space in_line lower list_take_while list_drop_while digit number line_comment one_more until_close comment_kind closed block_comment multispace1 whitespace_group doc_after one_blank whitespace0 whitespace1 offset_of bytes_of parse_id is_keyword keyword any_keyword tag fitting hex_integer decimal_integer positive_integer largest in_range after_sign signed_integer string_rest span_from string_with annotation_escape quoted_string default_escape default_string next_word set_step keywords_set same_bytes contains bit flags set_flags field_set struct_set event_set command_set attribute_set present enclosed where_missing braces api_maturity constant_annotation blank_annotation annotations_in_brackets constant_annotations_list annotations_of constant_entry blank_entry constant_entries constant_entries_list shared_before choice_head choice_after_doc_maturity parse_enum_after_doc_maturity parse_bitmap_after_doc_maturity max_length list_marker parse_field parse_struct_field closed_field fields_run struct_fields response_code type_by_word struct_type_of struct_head parse_struct_after_doc_maturity access_privilege or_else event_priority access_to event_qualities event_head parse_event_after_doc_maturity command_head command_types parse_command_after_doc_maturity access_entry comma separated_list0 access_list granted_by default_privileges listed attribute_access parse_attribute_after_doc_maturity mapped parse_revision member_tries parse_cluster_member cluster_members side cluster_head cluster_after_doc_maturity parse_cluster intercept deep_step deeper deep_run deep_place deep_braces two_keywords_name device_version device_type value_tries default_attribute_value attribute_handling_type attribute_instantiation named_after instance_tries instantiation_head cluster_instantiation part_tries endpoint_head endpoint with_doc_maturity item moved_extent moved_further moved word_extent optional_extent doc_extent span_extent doc_bit flag plain documented annotation_record entry_record entry_records choice_records field_record struct_number response_of struct_records attribute_records command_record event_records each last_revision member_records cluster_records default_number twos_complement default_word instance_record part_records endpoint_records item_records packed width from_top offset size layout further_word record_words big_endian words_bytes catalogue_words catalogue_bytes take_while take_while1 tag2
known_answers = refl
