-- Commands: one law for each way through a reader.
use Rattle.items.specs.answers.{maturity_number, privilege_number, kind_number}
use Rattle.items.specs.declared.levels.Privilege.{Privilege}
use Rattle.items.specs.declared.levels.Privilege.TheVariants.{View}
use Rattle.std.specs.Prelude.{Ok, Err}
use mathlib.Core.Path.{◌≡◌, refl, ap, ◌∙◌, subst}
use mathlib.Core.Bool.{Bool, true, false}
use mathlib.Core.Option.{Option}
use mathlib.Core.List.{List, [], ◌∷◌}
use Prim.Native.Nat.{ℕ, ◌+◌, ◌-◌, ◌*◌, ◌≤◌, ◌<◌}
use native.Mathlib.Omega.{arith}
use lib.Dec.{ltb}
use lib.ListN.{length, drop}
use borrow.Author.Tests.{lt-ltb, le-ltb}
use Rattle.lexing.specs.reply.{ok, opt}
use Rattle.lexing.specs.words.{Word, parse_id}
use Rattle.lexing.specs.blanks.{Doc}
use Rattle.lexing.specs.answers.{Rest, lost_reply, word_at, word_reply, doc_of, word_between, NameIn, Lost}
use Rattle.lexing.specs.word_sets.{bit}
use Rattle.lexing.proofs.Onward.{parse_id_advances}
use Rattle.lexing.proofs.Locality.{chain_opt, chain_inside}
use Rattle.lexing.proofs.TokenLocality.{parse_id_chain}
use Rattle.lexing.proofs.Slicing.{Took, took, walks, rest_self}
use Rattle.items.specs.members.{or_else, command_head, CommandTypes as CommandTypesOf, command_types, Command as CommandOf, parse_command_after_doc_maturity}
use Rattle.items.specs.records.{bits, value, word_extent, documented, command_record, at, spanned, flag, optional_extent}
use Rattle.lexing.specs.buffers.{each, words_bytes, put}
use Rattle.items.specs.layout.{layout, record_words, catalogue_words, word_count, packed, width, from_top, offset, size, further_word, catalogue_bytes, text_limit}
use Rattle.items.specs.answers.{option_of, first_of, word_of_span, doc_span_word, doc_span_bit}
use Rattle.items.specs.inner.commands.{command_records, optional_between, CommandHeadBetween, CommandHeadTo, command_types_at, CommandTypesBetween, CommandTypesTo, command_at, CommandTo, CommandBetween, CommandCountTo, OptionalIdTo, extent_if, command_parts}
use Rattle.items.specs.declared.commands.CommandHeadParts.{CommandHeadParts}
use Rattle.items.specs.declared.commands.CommandTypesParts.{CommandTypesParts}
use Rattle.items.specs.declared.commands.CommandParts.{CommandParts}
use Rattle.lexing.proofs.AnswerLaws.{read_took}
use Rattle.lexing.proofs.Calm.{calm_id, calm_absent}
use Rattle.lexing.proofs.WordBetween.{word_moved}
use Rattle.items.proofs.WordBetween.{extent_between}
use Rattle.lexing.proofs.buffers.Laws.{put_further}
use Rattle.items.proofs.writing.Laws.{documented_bytes}
use Rattle.items.proofs.fields.Laws.{present_is}
use Rattle.lexing.proofs.answers.Laws.{opt_ok}
use Rattle.items.proofs.Locality.{command_types_inside, parse_command_consumes}
use Rattle.items.specs.declared.writing.FrontParts.{FrontParts}
use Rattle.items.proofs.counts.Laws.{count_not, read_counted}
use Rattle.items.specs.declared.layout.Kind.TheVariants.{Command as a_command}

-- commands, up to the name
pub command_head_is : (q z : ℕ) (v : Privilege) (o : Option ℕ) (b n e c : ℕ) (u : List ℕ) {m : ℕ} → q < 4 → b ≤ m → NameIn m n e c → or_else z o ≡ privilege_number v
    → ok (record { qualities = q; privilege = or_else z o; id = word_between b u n e }) c (drop (c - b) u) ≡ command_head b u → CommandHeadTo (Ok (record { qualities = q; privilege = v; name = n; end = e }, c)) b u
command_head_is q z v o b n e c u f h w d k =
    record {
      reads = subst (λ (x : ℕ). ok (record { qualities = q; privilege = x; id = word_between b u n e }) c (drop (c - b) u) ≡ command_head b u) d k;
      within = record { qualities = f; name_from = omega (arith, h, w.from); name_to = w.up; before = w.inside };
    }

-- an optional word; it is absent where it is empty
pub id_there : (b : ℕ) (u : List ℕ) {c : ℕ} → word_reply (Ok c) b u ≡ parse_id b u → OptionalIdTo c b u
id_there b u {c} h =
    let l : b < c = (rw (← h) at (parse_id_advances.reads b u)).2 in
    rw (lt-ltb b c l, ← (rest_self b u).same) (opt_ok parse_id b u (word_at b u c) c (drop (c - b) u) h)

pub id_absent : (b : ℕ) (u : List ℕ) (l : Lost) → lost_reply l ≡ parse_id b u → OptionalIdTo b b u
id_absent b u l h = rw (le-ltb b b (omega arith)) (calm_absent calm_id l h)

pub optional_id_took : {b n c : ℕ} {u r : List ℕ} → Rest b u n r → OptionalIdTo c n r → Took (opt parse_id) b u n (optional_between b u n c) c
optional_id_took {b} {n} {c} {u} {r} q h =
    subst (λ (x : Option Word). Took (opt parse_id) b u n x c) (ap (option_of (ltb n c)) (word_moved b n u r n c q (omega arith))) (took (walks (chain_opt parse_id_chain)) q h)

-- a command's types
types_moved : {b n : ℕ} {u r : List ℕ} {c : ℕ} → Rest b u n r → (t : CommandTypesParts) → CommandTypesBetween n t c → command_types_at n r t ≡ command_types_at b u t
types_moved {b} {n} {u} {r} q t w =
    let f : Option Word → CommandTypesOf = λ x. record { from = x; to = word_between n r t.output t.output_end } in
    let g : Word → CommandTypesOf = λ x. record { from = optional_between b u t.input t.input_end; to = x } in
    ap f (ap (option_of (ltb t.input t.input_end)) (word_moved b n u r t.input t.input_end q w.input_from)) ∙
    ap g (word_moved b n u r t.output t.output_end q (omega arith))

pub command_types_took : {b n c : ℕ} {u r : List ℕ} {t : CommandTypesParts} → CommandTypesTo (Ok (t, c)) n r → Rest b u n r → Took command_types b u n (command_types_at b u t) c
command_types_took {b} {n} {c} {u} {t = t} h q =
    subst (λ (x : CommandTypesOf). Took command_types b u n x c) (types_moved q t h.within)
    (read_took h (walks (chain_inside command_types_inside)) q)

-- five words a command
pub command_words : (c : CommandOf) → word_count layout (command_record c ∷ []) ≡ 5
unfolding word_count catalogue_words each record_words layout command_record documented
command_words c = refl

-- the two ways of a reader, and of a count
module _ {b : ℕ} {u : List ℕ} where
  pub command_not : (l : Lost) → ((d : Doc) (m : ℕ) → lost_reply l ≡ parse_command_after_doc_maturity d m b u) → CommandTo (Err l) b u
  command_not l e = record { to = λ d m. record { reads = e d m; within = tt } }

  pub command_is : {h : CommandHeadParts} {t : CommandTypesParts} {k c1 c2 c : ℕ} → CommandHeadBetween b h c1 → CommandTypesBetween c1 t c2 → c2 ≤ c
      → ((d : Doc) (m : ℕ) → ok (command_at d m b u (record { head = h; types = t; code = k })) c (drop (c - b) u) ≡ parse_command_after_doc_maturity d m b u) → CommandTo (Ok (record { head = h; types = t; code = k }, c)) b u
  command_is {h} {t} x y l e =
      record {
        to = λ d m. record {
          reads = e d m;
          within = record {
            head = record { qualities = x.qualities; name_from = x.name_from; name_to = x.name_to; before = omega (arith, x.before, y.input_from) };
            types = record { input_from = omega (arith, x.before, y.input_from); input_to = y.input_to; output_from = y.output_from; output_to = y.output_to; before = omega (arith, y.before) };
          };
        };
      }

  pub command_lost : {l : Lost} → CommandTo (Err l) b u → CommandCountTo (Err l) b u
  command_lost {l} h = record { counts = λ i. count_not command_records _ b u l (h.to i.doc i.maturity).reads }

  pub command_counted : {p : CommandParts} {c : ℕ} → CommandTo (Ok (p, c)) b u → CommandCountTo (Ok (5, c)) b u
  command_counted h = record { counts = λ i. read_counted command_records (parse_command_consumes i.doc i.maturity) (h.to i.doc i.maturity) (command_words _) (omega arith) }

-- the word of a span that may be absent
pub span_there : (o e w : ℕ) → ltb o e ≡ true → w ≡ word_of_span o (e - o) → w ≡ further_word layout (spanned (extent_if (ltb o e) o (e - o)))
unfolding layout further_word packed offset size
span_there o e w t h = rw t h

pub span_absent : (o e : ℕ) → ltb o e ≡ false → 0 ≡ further_word layout (spanned (extent_if (ltb o e) o (e - o)))
unfolding layout further_word packed offset size
span_absent o e t = rw t refl

-- the five words of a command's record
pub command_put : (i : FrontParts) (p : CommandParts) (q v j x y : ℕ) (l l₁ l₂ : List ℕ) → q + 40 ≤ length l → v ≡ doc_span_bit i.doc → j ≡ bit (ltb p.types.input p.types.input_end)
    → l₁ ≡ put q (words_bytes (first_of (record { kind = kind_number a_command; place = 0; maturity = i.maturity; doc_present = v; flags = p.head.qualities * 32 + j * 16; name = p.head.name; name_length = p.head.end - p.head.name; first_privilege = p.head.privilege; second_privilege = View }) ∷ doc_span_word i.doc ∷ [])) l
    → x ≡ further_word layout (spanned (extent_if (ltb p.types.input p.types.input_end) p.types.input (p.types.input_end - p.types.input)))
    → y ≡ word_of_span p.types.output (p.types.output_end - p.types.output) → l₂ ≡ put (q + 16) (words_bytes (x ∷ y ∷ p.code ∷ [])) l₁
    → l₂ ≡ put q (catalogue_bytes layout (command_parts i p ∷ [])) l
unfolding from_top packed width flag offset size layout further_word
command_put i p q v j x y l l₁ l₂ r d ej e₁ f h e₂ =
    let s : CommandHeadParts = p.head in
    let t : CommandTypesParts = p.types in
    let there : Bool = ltb t.input t.input_end in
    let g : ℕ = s.qualities * 32 + j * 16 in
    let z : g ≡ from_top 7 (bits 2 s.qualities ∷ flag there ∷ []) = omega (arith, ej) in
    let w₁ : ℕ = first_of (record { kind = kind_number a_command; place = 0; maturity = i.maturity; doc_present = doc_span_bit i.doc; flags = g; name = s.name; name_length = s.end - s.name; first_privilege = s.privilege; second_privilege = View }) in
    let w₂ : ℕ = further_word layout (spanned (extent_if there t.input (t.input_end - t.input))) in
    let w₃ : ℕ = word_of_span t.output (t.output_end - t.output) in
    rw (documented_bytes a_command 0 i.maturity i.doc (bits 2 s.qualities ∷ flag there ∷ []) (at s.name (s.end - s.name)) s.privilege View
    (spanned (extent_if there t.input (t.input_end - t.input)) ∷ spanned (at t.output (t.output_end - t.output)) ∷ value p.code ∷ []) g z)
    (put_further q (q + 16) (w₁ ∷ doc_span_word i.doc ∷ []) (w₂ ∷ w₃ ∷ p.code ∷ []) l l₁ l₂ (omega arith) (omega arith) (rw (← d) e₁) (rw (f, h) at e₂))

-- the record of what was read
extent_if_lem : (t : Bool) (w : Word) {o n : ℕ} → word_extent w ≡ at o n → optional_extent (option_of t w) ≡ extent_if t o n
unfolding optional_extent
extent_if_lem true w e = e
extent_if_lem false w e = refl

pub command_parts_is : (f : FrontParts) (b : ℕ) (u : List ℕ) (p : CommandParts) (c : ℕ) → CommandBetween b p c → c ≤ b + length u → command_parts f p ≡ command_record (command_at (doc_of f.doc) (maturity_number f.maturity) b u p)
unfolding command_record
command_parts_is f b u p c w i =
    let s : CommandHeadParts = p.head in
    let t : CommandTypesParts = p.types in
    let h = w.head in
    let k = w.types in
    let there : Bool = ltb t.input t.input_end in
    let x = extent_between b u s.name s.end h.name_from h.name_to (omega (arith, k.input_from, k.input_to, k.output_from, k.output_to, k.before)) in
    let y = extent_between b u t.output t.output_end (omega (arith, h.name_from, h.name_to, k.input_from, k.input_to, k.output_from)) k.output_to (omega (arith, k.before)) in
    let z = extent_between b u t.input t.input_end (omega (arith, h.name_from, h.name_to, k.input_from)) k.input_to (omega (arith, k.output_from, k.output_to, k.before)) in
    rw (present_is there (word_between b u t.input t.input_end), x, y, extent_if_lem there (word_between b u t.input t.input_end) z)

pub command_in_limit : {b : ℕ} {p : CommandParts} {c : ℕ} → CommandBetween b p c → c ≤ text_limit → CommandBetween 0 p text_limit
command_in_limit w i =
    let h = w.head in
    let k = w.types in
    record {
      head = record { qualities = h.qualities; name_from = omega arith; name_to = h.name_to; before = h.before };
      types = record { input_from = k.input_from; input_to = k.input_to; output_from = k.output_from; output_to = k.output_to; before = omega (arith, k.before) };
    }
