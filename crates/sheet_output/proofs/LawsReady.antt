-- How a call ends is shown as 01 says (01, sheets): an accepted call by the list's columns and the board, a refusal by its number and name. Behind
-- LawsShown, which has the single lines. Assumes nothing.
use mathlib.Core.Path.{◌≡◌, refl, sym, ap, ap₂, ◌∙◌}
use mathlib.Core.Bool.{Bool, true, cond, not, ◌&&◌}
use mathlib.Core.List.{List, [], ◌∷◌, ◌++◌, append_assoc}
use Prim.Native.Nat.{ℕ, zero, suc, ◌+◌, ◌*◌, ◌<◌}
use native.Mathlib.Nat.{add-zero}
use native.Mathlib.Omega.{arith}
use lib.Dec.{leb}
use lib.ListN.{length, drop, get_or}
use Rattle.rules.specs.Listing.{map_from}
use Rattle.rules.specs.Cells.{over}
use Rattle.rules.specs.Text.{bytes_at, inside, size_of, text_in}
use Rattle.rules.specs.Value.{Value, no_value}
use Rattle.rules.specs.Answer as rules
use Rattle.rules.specs.CallRecord.{Named}
use Rattle.rules.specs.Parameters.{Parameter, act_of, positional_count}
use Rattle.rules.specs.Lookup.{known}
use Rattle.rules.specs.Placement as placement
use Rattle.rules.specs.Placement.{empty, slot_of, place, star_remainder, named_remainder}
use Rattle.rules.specs.Board.{slot_value, written, board_after}
use Rattle.rules.specs.Collection.{Outcome, refused, accepted, outcome_of}
use Rattle.rules.specs.SheetValue.{decimal, print_value}
use Rattle.rules.specs.SheetOutput.{line, slot_name, slot_text, slot_lines, star_lines, named_lines, accepted_text, refusal_text, outcome_text}
use Rattle.sheet_output.specs.Printable.{printable, printable_text, printable_named, printable_parameter, AllPrintable, area_of, part_inside, detail_inside, answer_inside}
use Rattle.rules.proofs.LawsListing.{and_left, and_right, all_drop, all_keep}
use Rattle.cells.specs.Text.{part_at}
use Rattle.cells.specs.Record.{pair_at}
use Rattle.cells.proofs.LawsListed.{length_listed, all_at, get_d_listed}
use Rattle.builder.specs.Params.{kind_for, parameter_of, parameter_at, parameters_in}
use Rattle.builder.specs.declared.params.Parameters.{Parameters}
use Rattle.builder.specs.declared.spec.ParametersSpec.{ParametersSpec}
use Rattle.answers.specs.Answer as answers
use Rattle.answers.specs.declared.answer.Counts.{Counts}
use Rattle.std.specs.Prelude.{Result, Ok, Err}
use Rattle.answers.specs.declared.answer.Refusal.{Refusal}
use Rattle.answers.specs.declared.answer.Refusal.TheVariants.{Record, ArgsArrayIsNotIterable, RepeatedParameter, KwArgsIsNotDict, ArgsValueIsNotString, RepeatedArg, MissingPositionalOnly, Missing, MissingNamedOnly, ExtraPositionalArg, ExtraNamedArg}
use Rattle.sheet_output.specs.Line.{shown_name, shown_value, shown_as, name_for, shown_for}
use Rattle.sheet_output.specs.Parts.{lines_to, slot_line, slot_line_at, star_line, star_line_at, named_line, named_line_at}
use Rattle.sheet_output.specs.Outcome.{heading, count_line, closing, accepted_shown, refused_shown, outcome_shown, OutcomeReady}
use Rattle.sheet_output.proofs.LawsShown.{lines_same, slot_lines_lem, star_lines_lem, named_lines_lem, slot_at, star_at, key_at, value_at, value_is, name_is, shown_is, slot_name_is}

-- ---- a parameter by its code

-- what a code says of a kind does not hang on the default
name_code : (code : ℕ) (v w : Value) (bytes : List ℕ) → slot_name (kind_for (act_of code v)) bytes ≡ slot_name (kind_for (act_of code w)) bytes
name_code zero v w bytes = refl
name_code (suc zero) v w bytes = refl
name_code (suc (suc zero)) v w bytes = refl
name_code (suc (suc (suc zero))) v w bytes = refl
name_code (suc (suc (suc (suc zero)))) v w bytes = refl
name_code (suc (suc (suc (suc (suc zero))))) v w bytes = refl
name_code (suc (suc (suc (suc (suc (suc zero)))))) v w bytes = refl
name_code (suc (suc (suc (suc (suc (suc (suc zero))))))) v w bytes = refl
name_code (suc (suc (suc (suc (suc (suc (suc (suc code)))))))) v w bytes = refl

shown_code : (spec call : List ℕ) (code : ℕ) (v w x : Value) → shown_as spec call (kind_for (act_of code v)) x ≡ shown_as spec call (kind_for (act_of code w)) x
shown_code spec call zero v w x = refl
shown_code spec call (suc zero) v w x = refl
shown_code spec call (suc (suc zero)) v w x = refl
shown_code spec call (suc (suc (suc zero))) v w x = refl
shown_code spec call (suc (suc (suc (suc zero)))) v w x = refl
shown_code spec call (suc (suc (suc (suc (suc zero))))) v w x = refl
shown_code spec call (suc (suc (suc (suc (suc (suc zero)))))) v w x = refl
shown_code spec call (suc (suc (suc (suc (suc (suc (suc zero))))))) v w x = refl
shown_code spec call (suc (suc (suc (suc (suc (suc (suc (suc code)))))))) v w x = refl

length_from : {X Y : Type 0} (f : ℕ → X → Y) (i : ℕ) (xs : List X) → length (map_from f i xs) ≡ length xs
length_from f i [] = refl
length_from f i (x ∷ xs) = ap suc (length_from f (suc i) xs)

get_d_from : {X Y : Type 0} (f : ℕ → X → Y) (i : ℕ) (xs : List X) (k : ℕ) (d : X) (e : Y) → k < length xs → get_or (map_from f i xs) k e ≡ f (i + k) (get_or xs k d)
get_d_from f i [] k d e h = absurd (omega arith)
get_d_from f i (x ∷ xs) zero d e h = ap (λ n. f n x) (sym (add-zero i))
get_d_from f i (x ∷ xs) (suc k) d e h = get_d_from f (suc i) xs k d e (omega arith) ∙ ap (λ n. f n (get_or xs k d)) (step i k)
  where
    step : (a b : ℕ) → suc a + b ≡ a + suc b
    step a b = omega arith

line_same : {a b c a' b' c' : List ℕ} → a ≡ a' → b ≡ b' → c ≡ c' → line a b c ≡ line a' b' c'
line_same {a} {b} {c} {a'} {b'} {c'} p q r = ap (λ x. line x b c) p ∙ ap (λ x. line a' x c) q ∙ ap (λ x. line a' b' x) r

-- ---- an accepted call

module _ (spec call : List ℕ) (p : Parameters) (qs : List Parameter) (P : List Value) (N : List Named) (list : parameters_in spec p ≡ qs) (right : AllPrintable spec call qs P N) (before : List ℕ) where
  len_is : p.len ≡ length qs
  unfolding parameters_in
  len_is = sym (ap length (sym list) ∙ length_listed (parameter_at spec p) 0 p.len)

  abbrev stars : ℕ
  stars = length (star_remainder qs P)

  abbrev unnamed : ℕ
  unnamed = length (named_remainder qs N)

  parameter_is : (k : ℕ) (d : Parameter) → k < length qs → get_or qs k d ≡ parameter_at spec p k
  unfolding parameters_in
  parameter_is k d h =
      ap (λ l. get_or l k d) (sym list) ∙ get_d_listed (parameter_at spec p) 0 p.len k d (omega (arith, len_is)) ∙ ap (parameter_at spec p) (front k)
    where
      front : (n : ℕ) → 0 + n ≡ n
      front n = omega arith

  abbrev board : List ℕ
  board = board_after qs P N before

  slot_cell : (k : ℕ) → k < length qs → pair_at board (2 * k) ≡ slot_value (get_or (place qs P N) k empty)
  unfolding board_after over written place
  slot_cell k h =
      slot_at (place qs P N) (star_remainder qs P) (named_remainder qs N) (drop (length (written qs P N)) before) k
      (rw (length_from (slot_of P N stars unnamed) 0 qs) h)

  slot_line_lem : (d : Parameter) (k : ℕ) → k < length qs
      → slot_line_at spec call p board k ≡ line (decimal (0 + k)) (slot_name (get_or qs k d).kind (get_or qs k d).name.bytes) (slot_text spec call (get_or (place qs P N) k empty))
  unfolding slot_line_at slot_line name_for shown_for parameter_at parameter_of text_in place
  slot_line_lem d k h =
      let q : Parameter = get_or qs k d in
      let good : printable_parameter spec q ≡ true = all_at (printable_parameter spec) qs k d h right.parameters in
      let s : get_or (place qs P N) k empty ≡ slot_of P N stars unnamed k q = get_d_from (slot_of P N stars unnamed) 0 qs k d empty h ∙ ap (λ n. slot_of P N stars unnamed n q) (front k) in
      line_same (ap decimal (sym (front k)))
      (name_code (get_or p.codes k 0) no_value (record { kind = get_or p.default_kinds k 0; payload = get_or p.default_payloads k 0 }) (shown_name spec (get_or p.names k 0))
      ∙ sym (ap (λ (x : Parameter). slot_name x.kind (shown_name spec x.name.payload)) (parameter_is k d h))
      ∙ slot_name_is spec call q good)
      (shown_code spec call (get_or p.codes k 0) no_value (record { kind = get_or p.default_kinds k 0; payload = get_or p.default_payloads k 0 }) (pair_at board (2 * k))
      ∙ sym (ap (λ (x : Parameter). shown_as spec call x.kind (pair_at board (2 * k))) (parameter_is k d h))
      ∙ ap (shown_as spec call q.kind) (slot_cell k h ∙ ap slot_value s)
      ∙ shown_is spec call P N right.positionals right.named stars unnamed k q good
      ∙ ap (slot_text spec call) (sym s))
    where
      front : (n : ℕ) → 0 + n ≡ n
      front n = omega arith

  slots_shown : lines_to (slot_line_at spec call p board) p.len ≡ slot_lines spec call 0 qs (place qs P N)
  unfolding place
  slots_shown =
      let d : Parameter = parameter_at spec p 0 in
      ap (lines_to (slot_line_at spec call p board)) len_is
      ∙ lines_same (slot_line_at spec call p board) (λ k. line (decimal (0 + k)) (slot_name (get_or qs k d).kind (get_or qs k d).name.bytes) (slot_text spec call (get_or (place qs P N) k empty))) (length qs) (slot_line_lem d)
      ∙ sym (slot_lines_lem spec call d empty 0 qs (place qs P N) (length_from (slot_of P N stars unnamed) 0 qs))

  place_long : 2 * p.len ≡ 2 * length (place qs P N)
  unfolding place
  place_long = ap (λ n. 2 * n) (len_is ∙ sym (length_from (slot_of P N stars unnamed) 0 qs))

  stars_shown : lines_to (star_line_at spec call board (2 * p.len)) stars ≡ star_lines spec call (star_remainder qs P)
  unfolding star_line_at star_line board_after over written star_remainder
  stars_shown =
      lines_same (star_line_at spec call board (2 * p.len)) (λ k. line (115 ∷ 116 ∷ 97 ∷ 114 ∷ []) [] (print_value spec call (get_or (star_remainder qs P) k no_value))) stars
      (λ k h. ap (λ v. line (115 ∷ 116 ∷ 97 ∷ 114 ∷ []) [] v)
      (ap (λ n. shown_value spec call (pair_at board (n + 2 * k))) place_long
      ∙ ap (shown_value spec call) (star_at (place qs P N) (star_remainder qs P) (named_remainder qs N) (drop (length (written qs P N)) before) k h)
      ∙ value_is spec call (get_or (star_remainder qs P) k no_value) (all_at (printable spec call) (star_remainder qs P) k no_value h (all_drop (printable spec call) (positional_count qs) P right.positionals))))
      ∙ sym (star_lines_lem spec call (star_remainder qs P))

  named_shown : (d : Named) → lines_to (named_line_at spec call board (2 * p.len + 2 * stars)) unnamed ≡ named_lines spec call (named_remainder qs N)
  unfolding named_line_at named_line board_after over written named_remainder printable_named
  named_shown d =
      lines_same (named_line_at spec call board (2 * p.len + 2 * stars)) (λ k. line (110 ∷ 97 ∷ 109 ∷ 101 ∷ 100 ∷ []) (get_or (named_remainder qs N) k d).name.bytes (print_value spec call (get_or (named_remainder qs N) k d).value)) unnamed
      (λ k h.
      let v : Named = get_or (named_remainder qs N) k d in
      let good : (printable_text call v.name && printable spec call v.value) ≡ true = all_at (printable_named spec call) (named_remainder qs N) k d h (all_keep (printable_named spec call) (λ x. not (known qs x.name.bytes)) N right.named) in
      line_same refl
      (ap (λ n. shown_name call (pair_at board (n + 2 * stars + 4 * k)).payload) place_long
      ∙ ap (λ (x : Value). shown_name call x.payload) (key_at (place qs P N) (star_remainder qs P) (named_remainder qs N) (drop (length (written qs P N)) before) d k h)
      ∙ name_is spec call call v.name (and_left (printable_text call v.name) (printable spec call v.value) good))
      (ap (λ n. shown_value spec call (pair_at board (n + 2 * stars + 4 * k + 2))) place_long
      ∙ ap (shown_value spec call) (value_at (place qs P N) (star_remainder qs P) (named_remainder qs N) (drop (length (written qs P N)) before) d k h)
      ∙ value_is spec call v.value (and_right (printable_text call v.name) (printable spec call v.value) good)))
      ∙ sym (named_lines_lem spec call d (named_remainder qs N))

  accepted_shown_lem : (c : Counts) → answers.counts_of c ≡ placement.counts_of qs P N → accepted_shown spec call p board c ≡ accepted_text spec call qs P N (placement.counts_of qs P N)
  unfolding accepted_shown accepted_text heading closing count_line placement.counts_of
  accepted_shown_lem c e =
      let first : List ℕ = line (115 ∷ 108 ∷ 111 ∷ 116 ∷ []) (110 ∷ 97 ∷ 109 ∷ 101 ∷ []) (118 ∷ 97 ∷ 108 ∷ 117 ∷ 101 ∷ []) in
      let last : placement.Counts → List ℕ = λ x. line (116 ∷ 97 ∷ 107 ∷ 101 ∷ 110 ∷ []) (decimal x.taken) [] ++ line (100 ∷ 101 ∷ 102 ∷ 97 ∷ 117 ∷ 108 ∷ 116 ∷ 101 ∷ 100 ∷ []) (decimal x.defaulted) [] in
      ap (λ (x : placement.Counts).
      first ++ (lines_to (slot_line_at spec call p board) p.len
      ++ ((lines_to (star_line_at spec call board (2 * p.len)) x.star ++ lines_to (named_line_at spec call board (2 * p.len + 2 * x.star)) x.named) ++ last x))) e
      ∙ ap (λ l. first ++ l)
      (ap₂ (λ a b. a ++ b) slots_shown
      (ap (λ l. l ++ last (placement.counts_of qs P N)) (ap₂ (λ a b. a ++ b) stars_shown (named_shown (record { name = text_in call 0; value = no_value })))
      ∙ append_assoc (star_lines spec call (star_remainder qs P)) (named_lines spec call (named_remainder qs N)) (last (placement.counts_of qs P N))))

-- ---- any outcome

abbrev outcome_inside : List ℕ → List ℕ → Outcome → Bool
outcome_inside spec call (refused n d) = detail_inside spec call d
outcome_inside spec call (accepted c after) = true

asked_inside : (spec call : List ℕ) (asked : rules.Answer) (qs : List Parameter) (P : List Value) (N : List Named) (before : List ℕ)
    → answer_inside spec call asked ≡ true → outcome_inside spec call (outcome_of asked qs P N before) ≡ true
asked_inside spec call rules.fine qs P N before e = refl
asked_inside spec call (rules.refuse n d) qs P N before e = e

-- the name in a detail is the part of its area
part_is : (spec call : List ℕ) (a : rules.Area) (payload : ℕ) → part_inside spec call (answers.place_of a payload) ≡ true → part_at (area_of spec call a) payload ≡ bytes_at (area_of spec call a) payload
unfolding part_inside part_at inside
part_is spec call a payload e =
    ap (λ b. cond b (bytes_at (area_of spec call a) payload) [])
    (and_left (inside (area_of spec call a) payload) (leb 0 (size_of payload))
    (and_left (inside (area_of spec call a) payload && leb 0 (size_of payload)) (leb (size_of payload) 64) e))

module _ (spec call : List ℕ) (l : ParametersSpec) (board : List ℕ) (qs : List Parameter) (P : List Value) (N : List Named) (asked : rules.Answer) (before : List ℕ) where
  accepted_is : (c : Counts) → OutcomeReady spec call l board (Ok c) qs P N asked before → accepted_shown spec call l.params board c ≡ outcome_text spec call qs P N (outcome_of asked qs P N before)
  accepted_is c ready = go asked ready.answer ready.list ready.printable
    where
      go : (a : rules.Answer) → accepted (answers.counts_of c) board ≡ outcome_of a qs P N before
          → (a ≡ rules.fine → parameters_in spec l.params ≡ qs) → (a ≡ rules.fine → AllPrintable spec call qs P N)
          → accepted_shown spec call l.params board c ≡ outcome_text spec call qs P N (outcome_of a qs P N before)
      go rules.fine e q r =
          let b : board ≡ board_after qs P N before = cc in
          let n : answers.counts_of c ≡ placement.counts_of qs P N = cc in
          ap (λ x. accepted_shown spec call l.params x c) b ∙ accepted_shown_lem spec call l.params qs P N (q refl) (r refl) before c n
      go (rules.refuse n d) e q r = let z : ◌≡◌ {A = ℕ} 0 1 = cc in absurd (omega arith)

  refused_is : (r : Result Counts Refusal) → outcome_shown spec call l.params board r ≡ outcome_text spec call qs P N (answers.told r board) → OutcomeReady spec call l board r qs P N asked before
      → outcome_shown spec call l.params board r ≡ outcome_text spec call qs P N (outcome_of asked qs P N before)
  refused_is r e ready = e ∙ ap (outcome_text spec call qs P N) ready.answer

  told_inside : (r : Result Counts Refusal) → OutcomeReady spec call l board r qs P N asked before → outcome_inside spec call (answers.told r board) ≡ true
  told_inside r ready = ap (outcome_inside spec call) ready.answer ∙ asked_inside spec call asked qs P N before ready.detail

-- what an answer and the board show is the text of the outcome that they are
pub outcome_shown_lem : (spec call : List ℕ) (l : ParametersSpec) (board : List ℕ) (r : Result Counts Refusal) (qs : List Parameter) (P : List Value) (N : List Named) (asked : rules.Answer) (before : List ℕ)
    → OutcomeReady spec call l board r qs P N asked before → outcome_shown spec call l.params board r ≡ outcome_text spec call qs P N (outcome_of asked qs P N before)
unfolding refused_shown bytes_at
outcome_shown_lem spec call l board (Ok c) qs P N asked before ready = accepted_is spec call l board qs P N asked before c ready
outcome_shown_lem spec call l board (Err (Record q)) qs P N asked before ready = refused_is spec call l board qs P N asked before (Err (Record q)) refl ready
outcome_shown_lem spec call l board (Err ArgsArrayIsNotIterable) qs P N asked before ready = refused_is spec call l board qs P N asked before (Err ArgsArrayIsNotIterable) refl ready
outcome_shown_lem spec call l board (Err (RepeatedParameter name)) qs P N asked before ready =
    refused_is spec call l board qs P N asked before (Err (RepeatedParameter name)) (ap (refusal_text 16) (part_is spec call rules.spec_area name (told_inside spec call l board qs P N asked before (Err (RepeatedParameter name)) ready))) ready
outcome_shown_lem spec call l board (Err KwArgsIsNotDict) qs P N asked before ready = refused_is spec call l board qs P N asked before (Err KwArgsIsNotDict) refl ready
outcome_shown_lem spec call l board (Err ArgsValueIsNotString) qs P N asked before ready = refused_is spec call l board qs P N asked before (Err ArgsValueIsNotString) refl ready
outcome_shown_lem spec call l board (Err (RepeatedArg name)) qs P N asked before ready =
    refused_is spec call l board qs P N asked before (Err (RepeatedArg name)) (ap (refusal_text 19) (part_is spec call rules.call_area name (told_inside spec call l board qs P N asked before (Err (RepeatedArg name)) ready))) ready
outcome_shown_lem spec call l board (Err (MissingPositionalOnly name)) qs P N asked before ready =
    refused_is spec call l board qs P N asked before (Err (MissingPositionalOnly name)) (ap (refusal_text 20) (part_is spec call rules.spec_area name (told_inside spec call l board qs P N asked before (Err (MissingPositionalOnly name)) ready))) ready
outcome_shown_lem spec call l board (Err (Missing name)) qs P N asked before ready =
    refused_is spec call l board qs P N asked before (Err (Missing name)) (ap (refusal_text 21) (part_is spec call rules.spec_area name (told_inside spec call l board qs P N asked before (Err (Missing name)) ready))) ready
outcome_shown_lem spec call l board (Err (MissingNamedOnly name)) qs P N asked before ready =
    refused_is spec call l board qs P N asked before (Err (MissingNamedOnly name)) (ap (refusal_text 22) (part_is spec call rules.spec_area name (told_inside spec call l board qs P N asked before (Err (MissingNamedOnly name)) ready))) ready
outcome_shown_lem spec call l board (Err (ExtraPositionalArg n)) qs P N asked before ready = refused_is spec call l board qs P N asked before (Err (ExtraPositionalArg n)) refl ready
outcome_shown_lem spec call l board (Err (ExtraNamedArg n name)) qs P N asked before ready =
    refused_is spec call l board qs P N asked before (Err (ExtraNamedArg n name)) (ap (refusal_text 24) (part_is spec call rules.call_area name (told_inside spec call l board qs P N asked before (Err (ExtraNamedArg n name)) ready))) ready
