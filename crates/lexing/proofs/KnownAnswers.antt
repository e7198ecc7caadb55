-- Known answers of the tokens, from document 01, the doc comments of parser.rs and nom's documentation: one table a kind of token, each closed by computing.
use Prim.Native.Nat.{◌-◌, ◌^◌}
use mathlib.Core.Path.{◌≡◌, refl}
use mathlib.Core.Bool.{true, false}
use mathlib.Core.List.{List, [], ◌∷◌, map}
use Prim.Native.String.{String}
use Rattle.lexing.specs.runs.{take_while, take_while1, tag2}
use Rattle.lexing.specs.bytes.{ascii, is_letter, is_digit, is_hex, is_word, is_space, in_line, within, lower, list_take_while, list_drop_while, digit, number}
use Rattle.lexing.specs.reply.{Reply, ok, fail, stop, Parser, ret, ◌>>=◌, ◌>>◌, ◌or◌, no_nearer, catch, iter, iter_within, keep, position, fail_at, pick}
use Rattle.lexing.specs.blanks.{no_doc, doc_at, doc_after, line_comment, block_comment, multispace1, until_close, one_more, comment_kind, closed, whitespace_group, one_blank, whitespace0, whitespace1}
use Rattle.lexing.specs.words.{word, bytes_of, parse_id, is_keyword, keyword, any_keyword}
use Rattle.lexing.specs.integers.{signed, fitting, hex_integer, decimal_integer, positive_integer, largest, in_range, after_sign, signed_integer}
use Rattle.lexing.specs.strings.{span, string_rest, span_from, string_with, annotation_escape, quoted_string, default_escape, default_string}
use Rattle.lexing.specs.word_sets.{next_word, set_step, keywords_set, same_bytes, contains, bit, flags, set_flags, field_set}

-- a text and the reply to it, read from offset 0
abbrev Case : Type 0 → Type 0
Case A = String × Reply A

abbrev Known : {A : Type 0} → Parser A → List (Case A) → Type 0
Known m cases = map (λ c. m 0 (ascii c.0)) cases ≡ map (λ c. c.1) cases

pub blanks : Known whitespace0
    (("", ok no_doc 0 []) ∷
    ("//", ok no_doc 0 (ascii "//")) ∷
    ("//a", ok no_doc 3 []) ∷
    ("/**/x", ok no_doc 4 (ascii "x")) ∷
    ("/***/x", ok (doc_at 3 0) 5 (ascii "x")) ∷
    ("/*/", ok no_doc 0 (ascii "/*/")) ∷
    ("/*/*/", ok no_doc 5 []) ∷
    ("/** a */ x", ok (doc_at 3 3) 9 (ascii "x")) ∷
    ("/** a */ /* b */x", ok no_doc 16 (ascii "x")) ∷
    [])
unfolding whitespace0 iter iter_within one_blank whitespace_group catch line_comment block_comment multispace1 until_close one_more comment_kind closed doc_after keep ◌>>=◌ ret is_space in_line list_take_while list_drop_while take_while take_while1 tag2 ◌>>◌ position
blanks = refl

pub gaps : Known whitespace1 (("", fail 0) ∷ ("//", fail 0) ∷ (" x", ok no_doc 1 (ascii "x")) ∷ [])
unfolding whitespace1 whitespace0 iter iter_within one_blank whitespace_group catch line_comment block_comment multispace1 until_close doc_after keep ◌>>=◌ ret position fail_at pick is_space in_line list_take_while list_drop_while take_while take_while1 tag2 ◌>>◌
gaps = refl

pub keywords : Known (keyword (ascii "enum"))
    (("ENUM x", ok (word 0 (ascii "ENUM")) 4 (ascii " x")) ∷
    ("enums", fail 0) ∷
    ("enu", fail 0) ∷
    ("1enum", fail 0) ∷
    [])
unfolding keyword parse_id is_keyword bytes_of ◌>>=◌ ret position fail_at pick is_letter is_word is_digit within lower list_take_while list_drop_while take_while take_while1 tag2 ◌>>◌ catch
keywords = refl

pub integers : Known positive_integer
    (("12 abc", ok 12 2 (ascii " abc")) ∷
    ("0x12abctest", ok 0x12abc 7 (ascii "test")) ∷
    ("0XfF;", ok 255 4 (ascii ";")) ∷
    ("0x;", ok 0 1 (ascii "x;")) ∷
    ("18446744073709551615", ok 18446744073709551615 20 []) ∷
    ("18446744073709551616", stop 4 0) ∷
    ("x", fail 0) ∷
    [])
unfolding positive_integer catch hex_integer decimal_integer fitting is_digit is_hex within list_take_while list_drop_while digit number take_while take_while1 tag2 ◌>>=◌ ◌>>◌ ret position
integers = refl

pub signed_integers : Known signed_integer
    (("-9223372036854775808", ok (signed true (2 ^ 63)) 20 []) ∷
    ("-9223372036854775809", fail 0) ∷
    ("+9223372036854775807;", ok (signed false (2 ^ 63 - 1)) 20 (ascii ";")) ∷
    ("+9223372036854775808", fail 0) ∷
    ("-0x1", ok (signed true 0) 2 (ascii "x1")) ∷
    ("5", fail 0) ∷
    [])
unfolding signed_integer after_sign in_range largest is_digit within list_take_while list_drop_while digit number take_while take_while1 tag2 ◌>>=◌ ◌>>◌ ret position catch
signed_integers = refl

pub annotation_strings : Known quoted_string
    (("\"\"", ok (span 1 0) 2 []) ∷
    ("\"a\\\"b\" ", ok (span 1 4) 6 (ascii " ")) ∷
    ("\"a\\n\"", fail 2) ∷
    ("\"a", fail 2) ∷
    [])
unfolding quoted_string string_with string_rest span_from annotation_escape
annotation_strings = refl

pub default_strings : Known default_string
    (("\"a\\n\"", ok (span 1 3) 5 []) ∷
    ("\"\\r", stop 5 1) ∷
    ("\"\\x\\r\"", fail 1) ∷
    ("\"\\\\r\"", ok (span 1 3) 5 []) ∷
    [])
unfolding default_string string_with string_rest span_from default_escape
default_strings = refl

pub word_sets : Known (set_flags field_set)
    (("OPTIONAL optional t", ok 4 17 (ascii " t")) ∷
    ("OPTIONAL t", ok 0 8 (ascii " t")) ∷
    ("optionalnullable", ok 0 0 (ascii "optionalnullable")) ∷
    ("optional/**/nullable;", ok 6 20 (ascii ";")) ∷
    ("optional other nullable", ok 4 8 (ascii " other nullable")) ∷
    [])
unfolding set_flags keywords_set set_step next_word any_keyword keyword parse_id is_keyword bytes_of whitespace1 whitespace0 iter iter_within one_blank whitespace_group catch line_comment block_comment multispace1 until_close one_more comment_kind closed doc_after keep ◌>>=◌ ◌>>◌ ◌or◌ no_nearer ret position fail_at pick is_space in_line is_letter is_word is_digit within lower list_take_while list_drop_while same_bytes contains bit flags field_set take_while take_while1 tag2
word_sets = refl
