-- How long the parts of a call's text are (01, sheets), and an accepted call's text part by part. Assumes nothing.
use mathlib.Core.Path.{◌≡◌, refl, ap, ap₂, ◌∙◌}
use mathlib.Core.Bool.{Bool, true, false, cond}
use mathlib.Core.List.{List, [], ◌∷◌, ◌++◌, append_assoc}
use Prim.Native.Nat.{ℕ, ◌+◌, ◌*◌, ◌≤◌}
use native.Mathlib.Omega.{arith}
use lib.ListN.{length, length-append, length-take}
use Rattle.rules.specs.Text.{inside, bytes_at, size_of}
use Rattle.rules.specs.SheetValue.{decimal}
use Rattle.rules.specs.SheetOutput.{line, refusal_text}
use Rattle.rules.proofs.LawsDigits.{decimal_length}
use Rattle.rules.proofs.LawsSheetOutput.{line_length}
use Rattle.cells.specs.Text.{part_at}
use Rattle.cells.specs.Out.{stored, Put, Begins, Wrote}
use Rattle.cells.specs.declared.out.Cursor.{Cursor}
use Rattle.cells.proofs.LawsOut.{wrote_same, wrote_room, wrote_both}
use Rattle.std.specs.Borrow.{MutBor}
use Rattle.builder.specs.declared.params.Parameters.{Parameters}
use Rattle.answers.specs.Answer.{name_bytes}
use Rattle.answers.specs.declared.answer.Counts.{Counts}
use Rattle.std.specs.Prelude.{Err}
use Rattle.answers.specs.declared.answer.Refusal.{Refusal}
use Rattle.answers.specs.declared.answer.Refusal.TheVariants.{Record, ArgsArrayIsNotIterable, RepeatedParameter, KwArgsIsNotDict, ArgsValueIsNotString, RepeatedArg, MissingPositionalOnly, Missing, MissingNamedOnly, ExtraPositionalArg, ExtraNamedArg}
use Rattle.sheet_output.specs.Parts.{lines_to, slot_line_at, stars, names, remainder_text}
use Rattle.sheet_output.specs.Outcome.{heading, count_line, closing, refused_cells, accepted_shown, Limits}
use Rattle.sheet_output.proofs.LawsParts.{lines_length, slot_short, remainder_length}

heading_length : length heading ≡ 16
unfolding heading line
heading_length = refl

pub count_length : (word : List ℕ) (n : ℕ) → length (count_line word n) ≤ length word + 23
unfolding count_line
count_length word n = omega (arith, line_length word (decimal n) [], decimal_length n)

pub closing_length : (taken defaulted : ℕ) → length (closing taken defaulted) ≤ 60
unfolding closing
closing_length taken defaulted =
    let first : List ℕ = count_line (116 ∷ 97 ∷ 107 ∷ 101 ∷ 110 ∷ []) taken in
    let second : List ℕ = count_line (100 ∷ 101 ∷ 102 ∷ 97 ∷ 117 ∷ 108 ∷ 116 ∷ 101 ∷ 100 ∷ []) defaulted in
    omega (
      arith,
      length-append first second,
      count_length (116 ∷ 97 ∷ 107 ∷ 101 ∷ 110 ∷ []) taken,
      count_length (100 ∷ 101 ∷ 102 ∷ 97 ∷ 117 ∷ 108 ∷ 116 ∷ 101 ∷ 100 ∷ []) defaulted,
    )

-- ---- from the first byte on

-- what is written from there on is put there
pub wrote_whole : {text after : List ℕ} {out : MutBor (List ℕ)} {output end : Cursor} → Begins out output → Wrote text output end → after ≡ end.out.now → Put text 0 out.now after end.at
wrote_whole {text = text} b w e =
    record { held = e ∙ w.put.held ∙ ap₂ (λ cells at. stored cells at text) b.held b.at; ends = w.put.ends ∙ ap (λ n. n + length text) b.at }

-- ---- a refusal, cell by cell

pub cells_length : (n : ℕ) → length (refused_cells n) ≤ 29
unfolding refused_cells
cells_length n =
    omega
    (arith, length-append (114 ∷ 101 ∷ 102 ∷ 117 ∷ 115 ∷ 101 ∷ 100 ∷ 44 ∷ []) (decimal n ++ (44 ∷ [])), length-append (decimal n) (44 ∷ []), decimal_length n)

refusal_cells : (n : ℕ) (detail : List ℕ) → refused_cells n ++ (detail ++ (10 ∷ [])) ≡ refusal_text n detail
unfolding refused_cells refusal_text line
refusal_cells n detail = simp append_assoc

pub refusal_wrote : (n : ℕ) (detail : List ℕ) {output next end : Cursor} → output.at + length detail + 30 ≤ length output.out.now
    → Wrote (refused_cells n) output next → Wrote (detail ++ (10 ∷ [])) next end → Wrote (refusal_text n detail) output end
refusal_wrote n detail h w v =
    wrote_same _ _ (refusal_cells n detail) (wrote_both _ _ _ w _ _ (omega (arith, h, cells_length n, length-append detail (10 ∷ []))) v)

-- a payload's part of an area is no longer than its length byte says
part_length : (area : List ℕ) (payload : ℕ) → length (part_at area payload) ≤ 255
unfolding part_at bytes_at size_of
part_length area payload = go (inside area payload)
  where
    go : (b : Bool) → length (cond b (bytes_at area payload) []) ≤ 255
    go true = simp length-take (omega arith)
    go false = omega arith

pub name_length : (spec call : List ℕ) (r : Refusal) → length (name_bytes spec call (Err r)) ≤ 255
name_length spec call (Record q) = omega arith
name_length spec call ArgsArrayIsNotIterable = omega arith
name_length spec call (RepeatedParameter name) = part_length spec name
name_length spec call KwArgsIsNotDict = omega arith
name_length spec call ArgsValueIsNotString = omega arith
name_length spec call (RepeatedArg name) = part_length call name
name_length spec call (MissingPositionalOnly name) = part_length spec name
name_length spec call (Missing name) = part_length spec name
name_length spec call (MissingNamedOnly name) = part_length spec name
name_length spec call (ExtraPositionalArg n) = omega arith
name_length spec call (ExtraNamedArg n name) = part_length call name

-- ---- an accepted call's text, part by part

module _ (spec call : List ℕ) (p : Parameters) (board : List ℕ) (c : Counts) (limits : Limits p c) where
  abbrev slots_text : List ℕ
  slots_text = lines_to (slot_line_at spec call p board) p.len

  abbrev rest_text : List ℕ
  rest_text = remainder_text spec call board (stars (2 * p.len) c.star) ++ remainder_text spec call board (names (2 * p.len + 2 * c.star) c.named)

  slots_most : length slots_text ≤ 9728
  slots_most = omega (arith, limits.slots, lines_length (slot_line_at spec call p board) 152 (slot_short spec call p board) p.len)

  rest_most : length rest_text ≤ 26752
  rest_most =
      omega (
        arith,
        limits.star,
        limits.named,
        length-append (remainder_text spec call board (stars (2 * p.len) c.star)) (remainder_text spec call board (names (2 * p.len + 2 * c.star) c.named)),
        remainder_length spec call board (stars (2 * p.len) c.star),
        remainder_length spec call board (names (2 * p.len + 2 * c.star) c.named),
      )

  module _ (output first : Cursor) (room : output.at + 40960 ≤ length output.out.now) (p₁ : Wrote heading output first) where
    behind_heading : first.at + 40944 ≤ length first.out.now
    behind_heading = wrote_room _ _ _ p₁ 40944 (omega (arith, room, heading_length))

    module _ (second : Cursor) (p₂ : Wrote slots_text first second) where
      pub behind_slots : second.at + 31216 ≤ length second.out.now
      behind_slots = wrote_room _ _ _ p₂ 31216 (omega (arith, behind_heading, slots_most))

      pub accepted_wrote : {third end : Cursor} → Wrote rest_text second third → Wrote (closing c.taken c.defaulted) third end → Wrote (accepted_shown spec call p board c) output end
      unfolding accepted_shown
      accepted_wrote p₃ p₄ =
          let last : List ℕ = closing c.taken c.defaulted in
          let l₁ : length (slots_text ++ (rest_text ++ last)) ≡ length slots_text + length (rest_text ++ last) = length-append slots_text (rest_text ++ last) in
          let l₂ : length (rest_text ++ last) ≡ length rest_text + length last = length-append rest_text last in
          let l₃ : length last ≤ 60 = closing_length c.taken c.defaulted in
          wrote_both _ _ _ p₁ _ _ (omega (arith, room, heading_length, slots_most, rest_most))
          (wrote_both _ _ _ p₂ _ _ (omega (arith, behind_heading, slots_most, rest_most)) (wrote_both _ _ _ p₃ _ _ (omega (arith, behind_slots, rest_most)) p₄))
