-- Laws of what can be printed (01, sheets), in this order: how long each part of an accepted call's text is (a name has at most 64 bytes, a value
-- 65, a number 20); details, whose names lie inside their areas where the list and the call can be printed; and lists: one that passes 1 to 7
-- can be printed. That a call can is said in LawsPassed. Assumes nothing.
use mathlib.Core.Path.{◌≡◌, refl, ap, ap₂}
use mathlib.Core.Bool.{Bool, true, false, cond, not, ◌&&◌, ◌||◌}
use mathlib.Core.List.{List, [], ◌∷◌, ◌++◌}
use Prim.Native.Nat.{ℕ, zero, suc, ◌+◌, ◌*◌, ◌≤◌}
use native.Mathlib.Omega.{arith}
use lib.Dec.{leb, ltb}
use lib.ListN.{length, take, drop, length-append, length-take}
use borrow.Author.Tests.{leb-true}
use Rattle.rules.specs.Listing.{all}
use Rattle.rules.specs.Text.{Text, bytes_at, inside, is_text, same_bytes, among, text_in}
use Rattle.rules.specs.Value.{Value}
use Rattle.rules.specs.Answer.{Answer, fine, refuse, ◌then◌, ask, Detail, none, name, count, count_and_name, bounds, Area, spec_area, call_area, Part, part_of}
use Rattle.rules.specs.CallRecord.{Call, Named, Entry, Key, word, number, word_of, words, entries_of, positionals_of, named_of}
use Rattle.rules.specs.ParameterRecord.{Step, read_parameters}
use Rattle.rules.specs.Parameters.{Style, pos_only, act_of, act, next_style, may_stand, added, added_from, parameters_of, Parameter, ParameterKind, required, optional, defaulted, args, kwargs, plain, is_required, takes_position, positional, has_args, has_kwargs}
use Rattle.rules.specs.ParameterQuestions.{has_name, step_name, uses_right, ask_step, ask_steps, ask_parameters, list_of, has_room, name_is_new, whole_steps, codes_known, names_inside, defaults_right}
use Rattle.rules.specs.CallQuestions.{ask_form, ask_call, ask_board, lengths_right, kinds_right, parts_well_formed, entries_differ, names_differ}
use Rattle.rules.specs.CallRecord.{read_call}
use Rattle.rules.specs.Placement.{Slot, empty, taken, from_default, star_count, named_count, is_unfilled, from_p, place, star_remainder, named_remainder}
use Rattle.rules.specs.Lookup.{known}
use Rattle.rules.specs.Board.{board_least}
use Rattle.rules.specs.Binding.{star_passes, double_passes, named_by, ask_repeats, names_filled, texts_of, ask_entry, ask_entries, missing, ask_required, ask_star_remainder, ask_named_remainder, ask_placed, ask_binding}
use Rattle.rules.specs.SheetValue.{decimal, print_value}
use Rattle.rules.specs.SheetOutput.{line, slot_name, slot_text, slot_lines, star_lines, named_lines, part_text, detail_text}
use Rattle.sheet_output.specs.Printable.{printable, printable_text, printable_named, printable_parameter, printable_default, AllPrintable, area_of, part_inside, detail_inside, answer_inside}
use Rattle.rules.proofs.LawsListing.{and_left, and_right, and_both, all_append, all_behind, all_keep}
use Rattle.rules.proofs.LawsText.{same_bytes_eq, same_bytes_refl, is_text_weaker}
use Rattle.rules.proofs.LawsParameters.{names_fine, defaults_fine}
use Rattle.rules.proofs.LawsDigits.{decimal_length}
use Rattle.rules.proofs.LawsSheetValue.{print_short}
use Rattle.rules.proofs.LawsSheetOutput.{text_length, slot_name_length, line_length}

-- ---- how long a cell is

pub printable_length : (spec call : List ℕ) (v : Value) → printable spec call v ≡ true → length (print_value spec call v) ≤ 65
unfolding printable
printable_length spec call v e = print_short spec call v e

-- a text that can be printed is where its payload says
module _ (area : List ℕ) (t : Text) (e : printable_text area t ≡ true) where
  pub printable_inside : is_text 0 area t.payload ≡ true
  unfolding printable_text
  printable_inside = and_left (is_text 0 area t.payload) (same_bytes t.bytes (bytes_at area t.payload)) e

  pub printable_bytes : t.bytes ≡ bytes_at area t.payload
  unfolding printable_text
  printable_bytes = same_bytes_eq t.bytes (bytes_at area t.payload) (and_right (is_text 0 area t.payload) (same_bytes t.bytes (bytes_at area t.payload)) e)

  pub printable_text_length : length t.bytes ≤ 64
  printable_text_length = rw printable_bytes (text_length area t.payload printable_inside)

-- a plain parameter's name can be printed
pub parameter_text : (spec : List ℕ) (q : Parameter) → printable_parameter spec q ≡ true → plain q.kind ≡ true → printable_text spec q.name ≡ true
unfolding printable_parameter
parameter_text spec q e p =
    rw p at (and_left (not (plain q.kind) || printable_text spec q.name) (printable_default spec q.kind) e)

-- ---- how long a line is

-- what a slot that can be printed holds
abbrev pub printable_slot : List ℕ → List ℕ → Slot → Bool
printable_slot spec call empty = true
printable_slot spec call (taken v) = printable spec call v
printable_slot spec call (from_default v) = printable spec call v
printable_slot spec call (star_count n) = true
printable_slot spec call (named_count n) = true

slot_text_length : (spec call : List ℕ) (s : Slot) → printable_slot spec call s ≡ true → length (slot_text spec call s) ≤ 65
slot_text_length spec call empty e = omega arith
slot_text_length spec call (taken v) e = printable_length spec call v e
slot_text_length spec call (from_default v) e = printable_length spec call v e
slot_text_length spec call (star_count n) e = omega (arith, decimal_length n)
slot_text_length spec call (named_count n) e = omega (arith, decimal_length n)

module _ (spec call : List ℕ) where
  pub slot_lines_length : (i : ℕ) (qs : List Parameter) (ss : List Slot) → all (printable_parameter spec) qs ≡ true → all (printable_slot spec call) ss ≡ true
      → length (slot_lines spec call i qs ss) ≤ 152 * length qs
  slot_lines_length i [] ss e f = omega arith
  slot_lines_length i (q ∷ qs) [] e f = omega arith
  slot_lines_length i (q ∷ qs) (s ∷ ss) e f =
      let first : List ℕ = line (decimal i) (slot_name q.kind q.name.bytes) (slot_text spec call s) in
      let l : length first ≡ length (decimal i) + length (slot_name q.kind q.name.bytes) + length (slot_text spec call s) + 3 =
      line_length (decimal i) (slot_name q.kind q.name.bytes) (slot_text spec call s) in
      let b : length (slot_name q.kind q.name.bytes) ≤ 64 =
      slot_name_length q.kind q.name.bytes (λ p. printable_text_length spec q.name (parameter_text spec q (and_left (printable_parameter spec q) (all (printable_parameter spec) qs) e) p)) in
      let c : length (slot_text spec call s) ≤ 65 = slot_text_length spec call s (and_left (printable_slot spec call s) (all (printable_slot spec call) ss) f) in
      let rest : length (slot_lines spec call (suc i) qs ss) ≤ 152 * length qs =
      slot_lines_length (suc i) qs ss (and_right (printable_parameter spec q) (all (printable_parameter spec) qs) e) (and_right (printable_slot spec call s) (all (printable_slot spec call) ss) f) in
      omega (arith, length-append first (slot_lines spec call (suc i) qs ss), decimal_length i)

  pub star_lines_length : (vs : List Value) → all (printable spec call) vs ≡ true → length (star_lines spec call vs) ≤ 72 * length vs
  star_lines_length [] e = omega arith
  star_lines_length (v ∷ vs) e =
      let first : List ℕ = line (115 ∷ 116 ∷ 97 ∷ 114 ∷ []) [] (print_value spec call v) in
      let l : length first ≡ 4 + 0 + length (print_value spec call v) + 3 = line_length (115 ∷ 116 ∷ 97 ∷ 114 ∷ []) [] (print_value spec call v) in
      let c : length (print_value spec call v) ≤ 65 = printable_length spec call v (and_left (printable spec call v) (all (printable spec call) vs) e) in
      let rest : length (star_lines spec call vs) ≤ 72 * length vs = star_lines_length vs (and_right (printable spec call v) (all (printable spec call) vs) e) in
      omega (arith, length-append first (star_lines spec call vs))

  pub named_lines_length : (vs : List Named) → all (printable_named spec call) vs ≡ true → length (named_lines spec call vs) ≤ 137 * length vs
  unfolding printable_named
  named_lines_length [] e = omega arith
  named_lines_length (v ∷ vs) e =
      let first : List ℕ = line (110 ∷ 97 ∷ 109 ∷ 101 ∷ 100 ∷ []) v.name.bytes (print_value spec call v.value) in
      let l : length first ≡ 5 + length v.name.bytes + length (print_value spec call v.value) + 3 = line_length (110 ∷ 97 ∷ 109 ∷ 101 ∷ 100 ∷ []) v.name.bytes (print_value spec call v.value) in
      let own : (printable_text call v.name && printable spec call v.value) ≡ true = and_left (printable_named spec call v) (all (printable_named spec call) vs) e in
      let b : length v.name.bytes ≤ 64 = printable_text_length call v.name (and_left (printable_text call v.name) (printable spec call v.value) own) in
      let c : length (print_value spec call v.value) ≤ 65 = printable_length spec call v.value (and_right (printable_text call v.name) (printable spec call v.value) own) in
      let rest : length (named_lines spec call vs) ≤ 137 * length vs = named_lines_length vs (and_right (printable_named spec call v) (all (printable_named spec call) vs) e) in
      omega (arith, length-append first (named_lines spec call vs))

-- ---- refusals

-- the bytes of a place
pub part_text_is : (spec call : List ℕ) (a : Area) (start size : ℕ) → part_text spec call a start size ≡ take size (drop start (area_of spec call a))
part_text_is spec call spec_area start size = refl
part_text_is spec call call_area start size = refl

part_length : (spec call : List ℕ) (p : Part) → part_inside spec call p ≡ true → length (part_text spec call p.area p.start p.size) ≤ 64
unfolding part_inside
part_length spec call p e =
    let size : p.size ≤ 64 =
    leb-true p.size 64 (and_right (leb p.start 65535 && leb (p.start + p.size) (length (area_of spec call p.area)) && leb 0 p.size) (leb p.size 64) e) in
    rw (part_text_is spec call p.area p.start p.size) (simp length-take (omega arith))

pub detail_length : (spec call : List ℕ) (d : Detail) → detail_inside spec call d ≡ true → length (detail_text spec call d) ≤ 64
detail_length spec call none e = omega arith
detail_length spec call (name p) e = part_length spec call p e
detail_length spec call (count n) e = omega (arith, decimal_length n)
detail_length spec call (count_and_name n p) e = part_length spec call p e
detail_length spec call (bounds a b c) e = omega arith

-- ---- details lie inside their areas

-- the place of a text is one where the text is
pub part_inside_lem : (spec call : List ℕ) (a : Area) (t : Text) → is_text 0 (area_of spec call a) t.payload ≡ true → part_inside spec call (part_of a t) ≡ true
unfolding part_inside part_of is_text inside
part_inside_lem spec call a t e = e

module _ (spec call : List ℕ) where
  pub then_inside : (a b : Answer) → answer_inside spec call a ≡ true → (a ≡ fine → answer_inside spec call b ≡ true) → answer_inside spec call (a then b) ≡ true
  then_inside fine b p q = q refl
  then_inside (refuse n d) b p q = p

  ask_inside : (n : ℕ) (b : Bool) → answer_inside spec call (ask n b) ≡ true
  ask_inside n true = refl
  ask_inside n false = refl

  module _ (qs : List Parameter) (P : List Value) where
    -- 16: only a plain parameter is filled from P
    repeats_inside : (written : List Named) (i : ℕ) (rs : List Parameter) → all (printable_parameter spec) rs ≡ true → answer_inside spec call (ask_repeats P written i rs) ≡ true
    unfolding from_p positional
    repeats_inside written i [] e = refl
    repeats_inside written i (q ∷ rs) e =
        go (plain q.kind) refl (takes_position q.style) (ltb i (length P)) (named_by written q) (repeats_inside written (suc i) rs (and_right (printable_parameter spec q) (all (printable_parameter spec) rs) e))
      where
        hit : plain q.kind ≡ true → part_inside spec call (part_of spec_area q.name) ≡ true
        hit p = part_inside_lem spec call spec_area q.name (printable_inside spec q.name (parameter_text spec q (and_left (printable_parameter spec q) (all (printable_parameter spec) rs) e) p))

        go : (x : Bool) → plain q.kind ≡ x → (y z w : Bool) → answer_inside spec call (ask_repeats P written (suc i) rs) ≡ true
            → answer_inside spec call (cond (x && y && z && w) (refuse 16 (name (part_of spec_area q.name))) (ask_repeats P written (suc i) rs)) ≡ true
        go false p y z w rest = rest
        go true p false z w rest = rest
        go true p true false w rest = rest
        go true p true true false rest = rest
        go true p true true true rest = hit p

    -- 18 and 19: the key of an entry is a name of N where it is a text
    entries_inside : (before : List Named) (es : List Entry) → all (printable_named spec call) (words es) ≡ true → answer_inside spec call (ask_entries qs P before es) ≡ true
    unfolding printable_named
    entries_inside before [] e = refl
    entries_inside before (x ∷ es) e = go x.key refl e (λ vs f. entries_inside vs es f)
      where
        go : (k : Key) → x.key ≡ k → all (printable_named spec call) (word_of k x.value ++ words es) ≡ true
            → ((vs : List Named) → all (printable_named spec call) (words es) ≡ true → answer_inside spec call (ask_entries qs P vs es) ≡ true)
            → answer_inside spec call (ask_entry qs P before k then ask_entries qs P (before ++ word_of k x.value) es) ≡ true
        go (number n) k f rest = refl
        go (word t) k f rest =
            let own : (printable_text call t && printable spec call x.value) ≡ true =
            and_left (printable_text call t && printable spec call x.value) (all (printable_named spec call) (words es)) f in
            let later : all (printable_named spec call) (words es) ≡ true =
            and_right (printable_text call t && printable spec call x.value) (all (printable_named spec call) (words es)) f in
            then_inside (ask_entry qs P before (word t)) (ask_entries qs P (before ++ word_of (word t) x.value) es)
            (hit (names_filled P 0 qs t.bytes || among t.bytes (texts_of before)) (part_inside_lem spec call call_area t (printable_inside call t (and_left (printable_text call t) (printable spec call x.value) own))))
            (λ e₁. rest (before ++ word_of (word t) x.value) later)
          where
            hit : (b : Bool) → part_inside spec call (part_of call_area t) ≡ true → answer_inside spec call (cond b (refuse 19 (name (part_of call_area t))) fine) ≡ true
            hit true p = p
            hit false p = refl

  -- 20 to 22: only a plain parameter is required
  required_inside : (qs : List Parameter) (ss : List Slot) → all (printable_parameter spec) qs ≡ true → answer_inside spec call (ask_required qs ss) ≡ true
  required_inside [] ss e = refl
  required_inside (q ∷ qs) [] e = refl
  required_inside (q ∷ qs) (s ∷ ss) e =
      go (is_required q.kind) refl (is_unfilled s) (required_inside qs ss (and_right (printable_parameter spec q) (all (printable_parameter spec) qs) e))
    where
      plainly : (k : ParameterKind) → is_required k ≡ true → plain k ≡ true
      plainly required p = refl
      plainly optional p = refl
      plainly (defaulted v) p = refl
      plainly args p = p
      plainly kwargs p = p

      go : (x : Bool) → is_required q.kind ≡ x → (y : Bool) → answer_inside spec call (ask_required qs ss) ≡ true
          → answer_inside spec call (cond (x && y) (refuse (missing q.style) (name (part_of spec_area q.name))) (ask_required qs ss)) ≡ true
      go false p y rest = rest
      go true p false rest = rest
      go true p true rest =
          part_inside_lem spec call spec_area q.name (printable_inside spec q.name (parameter_text spec q (and_left (printable_parameter spec q) (all (printable_parameter spec) qs) e) (plainly q.kind p)))

  -- 23 and 24
  star_inside : (b : Bool) (vs : List Value) → answer_inside spec call (ask_star_remainder b vs) ≡ true
  star_inside true vs = refl
  star_inside false [] = refl
  star_inside false (v ∷ vs) = refl

  named_inside : (b : Bool) (vs : List Named) → all (printable_named spec call) vs ≡ true → answer_inside spec call (ask_named_remainder b vs) ≡ true
  unfolding printable_named
  named_inside true vs e = refl
  named_inside false [] e = refl
  named_inside false (v ∷ vs) e =
      part_inside_lem spec call call_area v.name (printable_inside call v.name (and_left (printable_text call v.name) (printable spec call v.value) (and_left (printable_named spec call v) (all (printable_named spec call) vs) e)))

  -- 15 to 24
  pub binding_inside : (qs : List Parameter) (c : Call) → AllPrintable spec call qs (positionals_of c) (named_of c) → answer_inside spec call (ask_binding qs c) ≡ true
  unfolding ask_binding ask_placed named_remainder named_of
  binding_inside qs c p =
      let P : List Value = positionals_of c in
      let N : List Named = c.named ++ words (entries_of c.double) in
      let required : Answer = ask_required qs (place qs P N) in
      let star : Answer = ask_star_remainder (has_args qs) (star_remainder qs P) in
      let named : Answer = ask_named_remainder (has_kwargs qs) (named_remainder qs N) in
      let repeats : Answer = ask_repeats P c.named 0 qs in
      let entries : Answer = ask_entries qs P c.named (entries_of c.double) in
      then_inside (ask 15 (star_passes c.star)) (repeats then ask 17 (double_passes c.double) then entries then named then required then star) (ask_inside 15 (star_passes c.star))
      (λ e₁. then_inside repeats (ask 17 (double_passes c.double) then entries then named then required then star) (repeats_inside qs P c.named 0 qs p.parameters)
      (λ e₂. then_inside (ask 17 (double_passes c.double)) (entries then named then required then star) (ask_inside 17 (double_passes c.double))
      (λ e₃. then_inside entries (named then required then star) (entries_inside qs P c.named (entries_of c.double) (all_behind (printable_named spec call) c.named (words (entries_of c.double)) p.named))
      (λ e₄. then_inside named (required then star) (named_inside (has_kwargs qs) (named_remainder qs N) (all_keep (printable_named spec call) (λ v. not (known qs v.name.bytes)) N p.named))
      (λ e₅. then_inside required star (required_inside qs (place qs P N) p.parameters)
      (λ e₆. star_inside (has_args qs) (star_remainder qs P)))))))

  -- 1 to 14, which have no details
  steps_inside : (A : ℕ) (area : List ℕ) (s : Style) (before : List Parameter) (ts : List Step) → answer_inside spec call (ask_steps A area s before ts) ≡ true
  unfolding ask_step
  steps_inside A area s before [] = refl
  steps_inside A area s before (t ∷ ts) =
      then_inside (ask_step A area s before t) (ask_steps A area (next_style s (act t)) (before ++ added area s (act t) t.name) ts)
      (then_inside (ask 5 (may_stand s (act t))) (ask 6 (has_room A before (act t)) then ask 7 (name_is_new area s before (act t) t.name)) (ask_inside 5 (may_stand s (act t)))
      (λ e₁. then_inside (ask 6 (has_room A before (act t))) (ask 7 (name_is_new area s before (act t) t.name)) (ask_inside 6 (has_room A before (act t))) (λ e₂. ask_inside 7 (name_is_new area s before (act t) t.name))))
      (λ e. steps_inside A area (next_style s (act t)) (before ++ added area s (act t) t.name) ts)

  pub parameters_inside : (A : ℕ) (cells area : List ℕ) → answer_inside spec call (ask_parameters A cells area) ≡ true
  unfolding ask_parameters
  parameters_inside A cells area =
      let steps : Answer = ask_steps A area pos_only [] (read_parameters cells).steps in
      let third : Answer = ask 3 (names_inside area (read_parameters cells)) in
      let fourth : Answer = ask 4 (defaults_right area (read_parameters cells).steps) in
      then_inside (ask 1 (whole_steps A cells)) (ask 2 (codes_known (read_parameters cells).steps) then third then fourth then steps) (ask_inside 1 (whole_steps A cells))
      (λ e₁. then_inside (ask 2 (codes_known (read_parameters cells).steps)) (third then fourth then steps) (ask_inside 2 (codes_known (read_parameters cells).steps))
      (λ e₂. then_inside third (fourth then steps) (ask_inside 3 (names_inside area (read_parameters cells)))
      (λ e₃. then_inside fourth steps (ask_inside 4 (defaults_right area (read_parameters cells).steps))
      (λ e₄. steps_inside A area pos_only [] (read_parameters cells).steps))))

  pub call_inside : (B : ℕ) (cells area : List ℕ) → answer_inside spec call (ask_call B cells area) ≡ true
  unfolding ask_call ask_form
  call_inside B cells area =
      let twelve : Answer = ask 12 (entries_differ area (read_call cells)) in
      let thirteen : Answer = ask 13 (names_differ area (read_call cells)) in
      then_inside (ask_form B cells area) (twelve then thirteen)
      (then_inside (ask 9 (lengths_right B cells)) (ask 10 (kinds_right (read_call cells)) then ask 11 (parts_well_formed area (read_call cells))) (ask_inside 9 (lengths_right B cells))
      (λ e₁. then_inside (ask 10 (kinds_right (read_call cells))) (ask 11 (parts_well_formed area (read_call cells))) (ask_inside 10 (kinds_right (read_call cells))) (λ e₂. ask_inside 11 (parts_well_formed area (read_call cells)))))
      (λ e. then_inside twelve thirteen (ask_inside 12 (entries_differ area (read_call cells))) (λ e₃. ask_inside 13 (names_differ area (read_call cells))))

  pub board_inside : (A B : ℕ) (board : List ℕ) → answer_inside spec call (ask_board A B board) ≡ true
  unfolding ask_board
  board_inside A B board = ask_inside 14 (leb (board_least A B) (length board))

-- ---- a list that passes 1 to 7 can be printed

-- a text of an area is where its payload says
pub text_printable : (area : List ℕ) (payload : ℕ) → is_text 0 area payload ≡ true → printable_text area (text_in area payload) ≡ true
unfolding printable_text text_in
text_printable area payload e = and_both (is_text 0 area payload) (same_bytes (bytes_at area payload) (bytes_at area payload)) e (same_bytes_refl (bytes_at area payload))

-- the parameter that a step adds, by its code
added_printable : (area : List ℕ) (s : Style) (code payload : ℕ) (v : Value) → (not (has_name (act_of code v)) || is_text 1 area payload) ≡ true → uses_right area (act_of code v) payload v ≡ true
    → all (printable_parameter area) (added area s (act_of code v) payload) ≡ true
unfolding printable_parameter
added_printable area s zero payload v n u = refl
added_printable area s (suc zero) payload v n u = ap (λ b. b && true && true) (text_printable area payload (is_text_weaker area payload n))
added_printable area s (suc (suc zero)) payload v n u = ap (λ b. b && true && true) (text_printable area payload (is_text_weaker area payload n))
added_printable area s (suc (suc (suc zero))) payload v n u = ap₂ (λ b d. b && d && true) (text_printable area payload (is_text_weaker area payload n)) u
added_printable area s (suc (suc (suc (suc zero)))) payload v n u = refl
added_printable area s (suc (suc (suc (suc (suc zero))))) payload v n u = refl
added_printable area s (suc (suc (suc (suc (suc (suc zero)))))) payload v n u = refl
added_printable area s (suc (suc (suc (suc (suc (suc (suc zero))))))) payload v n u = refl
added_printable area s (suc (suc (suc (suc (suc (suc (suc (suc code)))))))) payload v n u = refl

steps_printable : (area : List ℕ) (s : Style) (ts : List Step) → all (step_name area) ts ≡ true → all (λ t. uses_right area (act t) t.name t.default) ts ≡ true
    → all (printable_parameter area) (added_from area s ts) ≡ true
unfolding step_name act
steps_printable area s [] n u = refl
steps_printable area s (t ∷ ts) n u =
    all_append (printable_parameter area) (added area s (act t) t.name) (added_from area (next_style s (act t)) ts)
    (added_printable area s t.code t.name t.default (and_left (step_name area t) (all (step_name area) ts) n)
    (and_left (uses_right area (act t) t.name t.default) (all (λ t. uses_right area (act t) t.name t.default) ts) u))
    (steps_printable area (next_style s (act t)) ts (and_right (step_name area t) (all (step_name area) ts) n)
    (and_right (uses_right area (act t) t.name t.default) (all (λ t. uses_right area (act t) t.name t.default) ts) u))

module _ (A : ℕ) (cells area : List ℕ) (passes : ask_parameters A cells area ≡ fine) where
  pub parameters_printable : all (printable_parameter area) (list_of cells area) ≡ true
  unfolding list_of parameters_of names_inside defaults_right
  parameters_printable =
      steps_printable area pos_only (read_parameters cells).steps
      (and_right (is_text 1 area (read_parameters cells).function) (all (step_name area) (read_parameters cells).steps) (names_fine A cells area passes))
      (defaults_fine A cells area passes)
