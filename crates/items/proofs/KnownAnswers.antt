-- Known answers of declarations: document 01's and others, each declaration alone. One table, closed by computing.
use Prim.Native.Nat.{ℕ}
use Prim.Native.String.{String}
use mathlib.Core.Path.{◌≡◌, refl}
use mathlib.Core.List.{List, [], ◌∷◌, map}
use Rattle.lexing.specs.runs.{take_while, take_while1, tag2}
use Rattle.lexing.specs.reply.{ret, ◌>>=◌, ◌>>◌, catch, opt, no_nearer, ◌or◌, prepend, many_within, many0, iter_within, iter, keep, position, fail_at, stop_at, pick, Reply, ok, fail, stop}
use Rattle.lexing.specs.bytes.{within, is_letter, is_digit, is_hex, is_word, is_space, in_line, lower, list_take_while, list_drop_while, digit, number, ascii}
use Rattle.lexing.specs.blanks.{line_comment, one_more, until_close, comment_kind, closed, block_comment, multispace1, whitespace_group, doc_after, one_blank, whitespace0, whitespace1}
use Rattle.lexing.specs.words.{offset_of, bytes_of, parse_id, is_keyword, keyword, any_keyword, tag}
use Rattle.lexing.specs.integers.{fitting, hex_integer, decimal_integer, positive_integer, largest, in_range, after_sign, signed_integer}
use Rattle.lexing.specs.strings.{string_rest, span_from, string_with, annotation_escape, quoted_string, default_escape, default_string}
use Rattle.lexing.specs.word_sets.{next_word, set_step, keywords_set, same_bytes, contains, bit, flags, set_flags, field_set, struct_set, event_set, command_set, attribute_set}
use Rattle.items.specs.entries.{present, enclosed, where_missing, braces, api_maturity, constant_annotation, blank_annotation, annotations_in_brackets, constant_annotations_list, annotations_of, constant_entry, blank_entry, constant_entries, constant_entries_list, shared_before, choice_head, choice_after_doc_maturity, parse_enum_after_doc_maturity, parse_bitmap_after_doc_maturity}
use Rattle.items.specs.structs.{max_length, list_marker, parse_field, parse_struct_field, closed_field, fields_run, struct_fields, response_code, type_by_word, struct_type_of, struct_head, parse_struct_after_doc_maturity}
use Rattle.items.specs.members.{access_privilege, or_else, event_priority, access_to, event_qualities, event_head, parse_event_after_doc_maturity, command_head, command_types, parse_command_after_doc_maturity, access_entry, comma, separated_list0, access_list, granted_by, default_privileges, listed, attribute_access, parse_attribute_after_doc_maturity}
use Rattle.items.specs.clusters.{mapped, parse_revision, member_tries, parse_cluster_member, cluster_members, side, cluster_head, cluster_after_doc_maturity, parse_cluster}
use Rattle.items.specs.endpoints.{intercept, deep_step, deeper, deep_run, deep_place, deep_braces, device_version, device_type, value_tries, default_attribute_value, attribute_handling_type, attribute_instantiation, instance_tries, instantiation_head, cluster_instantiation, part_tries, endpoint_head, endpoint}
use Rattle.lexing.specs.names.{two_keywords_name, named_after}
use Rattle.items.specs.items.{with_doc_maturity, item, Item}
use Rattle.items.specs.records.{moved_extent, moved_further, moved, word_extent, optional_extent, doc_extent, span_extent, doc_bit, flag, plain, documented, annotation_record, entry_record, entry_records, choice_records, field_record, struct_number, response_of, struct_records, attribute_records, command_record, event_records, last_revision, member_records, cluster_records, default_number, twos_complement, default_word, instance_record, part_records, endpoint_records, item_records}
use Rattle.lexing.specs.buffers.{each, big_endian, words_bytes}
use Rattle.items.specs.layout.{packed, width, from_top, offset, size, layout, further_word, record_words, catalogue_words, catalogue_bytes}

-- an item's words and the next offset, the place where no item is, or a number and a place
pub data Answer : Type 0 where
  words : List ℕ → ℕ → Answer
  refused : ℕ → ℕ → Answer

-- types at the top are marked 1, those in a cluster 0
unfoldable pub answer : Reply Item → Answer
answer (ok i c r) = words (catalogue_words layout (item_records 1 (λ m. 0) i)) c
answer (fail p) = refused 3 p
answer (stop n p) = refused n p

unfoldable pub cases : List (String × Answer)
cases =
    ("enum E:t{}", words (0x0240000005000010 ∷ 0 ∷ 0x0000700001000000 ∷ []) 10) ∷
    ("/***/enum E:t{}", words (0x024800000a000010 ∷ 0x0000300000000000 ∷ 0x0000c00001000000 ∷ []) 15) ∷
    ("enum E:t{a=0XfF;}", words (0x0240000005000010 ∷ 0 ∷ 0x0000700001000000 ∷ 0x0400000009000010 ∷ 255 ∷ []) 17) ∷
    ("enum E:t{a=0x;}", refused 3 9) ∷
    ("enum E:t{a=18446744073709551616;}", refused 4 11) ∷
    ("enum E:t{stable=1;}", refused 3 9) ∷
    ("enum E:t{stable stable=1;}", words (0x0240000005000010 ∷ 0 ∷ 0x0000700001000000 ∷ 0x0400000010000060 ∷ 1 ∷ []) 26) ∷
    ("REQUEST struct S{}", words (0x054000000f000010 ∷ 0 ∷ 0 ∷ []) 18) ∷
    ("RESPONSE struct R=1{}", refused 3 17) ∷
    ("struct S{Optional t a=1;}", words (0x0540000007000010 ∷ 0 ∷ 0 ∷ 0x0600000014000010 ∷ 0x0001200001000000 ∷ 1 ∷ 0 ∷ []) 25) ∷
    ("cluster A = 1 { revision 2; bogus }", refused 3 28) ∷
    ("cluster C=1{attribute access(READ: view) t a=1;}", refused 6 29) ∷
    ("endpoint 0{server cluster C{ram attribute a default=-9223372036854775809;}}", refused 3 44) ∷
    ("endpoint 0{server cluster C{ram attribute a default=-9223372036854775808;}}", words (0x0a00000000000000 ∷ 0 ∷ 0x0d0000001a000010 ∷ 0x0e0080002a000010 ∷ 0x8000000000000000 ∷ []) 75) ∷
    ("enum", refused 3 4) ∷
    ("shared", refused 3 6) ∷
    ("client", refused 3 0) ∷
    ("stable endpoint 0{}", refused 3 7) ∷
    ("//", refused 3 0) ∷
    ("struct S{t<99999999999999999999 a=1;}", refused 4 11) ∷
    []

pub known_answers : map (λ c. answer (item 0 (ascii c.0))) cases ≡ map (λ c. c.1) cases
unfolding answer cases ret ◌>>=◌ ◌>>◌ catch opt no_nearer ◌or◌ prepend many_within many0 iter_within iter keep position fail_at stop_at pick within is_letter is_digit is_hex is_word is_space in_line lower list_take_while list_drop_while digit number line_comment one_more until_close comment_kind closed block_comment multispace1 whitespace_group doc_after one_blank whitespace0 whitespace1 offset_of bytes_of parse_id is_keyword keyword any_keyword tag fitting hex_integer decimal_integer positive_integer largest in_range after_sign signed_integer string_rest span_from string_with annotation_escape quoted_string default_escape default_string next_word set_step keywords_set same_bytes contains bit flags set_flags field_set struct_set event_set command_set attribute_set present enclosed where_missing braces api_maturity constant_annotation blank_annotation annotations_in_brackets constant_annotations_list annotations_of constant_entry blank_entry constant_entries constant_entries_list shared_before choice_head choice_after_doc_maturity parse_enum_after_doc_maturity parse_bitmap_after_doc_maturity max_length list_marker parse_field parse_struct_field closed_field fields_run struct_fields response_code type_by_word struct_type_of struct_head parse_struct_after_doc_maturity access_privilege or_else event_priority access_to event_qualities event_head parse_event_after_doc_maturity command_head command_types parse_command_after_doc_maturity access_entry comma separated_list0 access_list granted_by default_privileges listed attribute_access parse_attribute_after_doc_maturity mapped parse_revision member_tries parse_cluster_member cluster_members side cluster_head cluster_after_doc_maturity parse_cluster intercept deep_step deeper deep_run deep_place deep_braces two_keywords_name device_version device_type value_tries default_attribute_value attribute_handling_type attribute_instantiation named_after instance_tries instantiation_head cluster_instantiation part_tries endpoint_head endpoint with_doc_maturity item moved_extent moved_further moved word_extent optional_extent doc_extent span_extent doc_bit flag plain documented annotation_record entry_record entry_records choice_records field_record struct_number response_of struct_records attribute_records command_record event_records each last_revision member_records cluster_records default_number twos_complement default_word instance_record part_records endpoint_records item_records packed width from_top offset size layout further_word record_words big_endian words_bytes catalogue_words catalogue_bytes take_while take_while1 tag2
known_answers = refl
