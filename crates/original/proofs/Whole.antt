-- The Rust's way from two records to its end is 01's: what its builder makes, its check of the written names lets pass and its collector hands
-- back is what collection answers in 01's own order of the questions, and ours but where an unknown name is told first (02, §4), over all records
-- and boards that pass 1 to 12 and 14; and so is its can-fill, over all that pass 1 to 11.
-- Assumes nothing.
use mathlib.Core.Path.{◌≡◌, refl, sym, ap, ap₂, subst, ◌∙◌}
use mathlib.Core.Bool.{Bool, true, false, not, ◌&&◌, false≢true, true≢false}
use mathlib.Core.List.{List, [], ◌∷◌, map}
use mathlib.Core.Option.{Option, none, some}
use Prim.Native.Nat.{ℕ}
use lib.ListN.{length}
use Rattle.rules.specs.Answer.{Answer, fine, refuse, ◌then◌, ask, Detail, Part}
use Rattle.rules.specs.CallRecord.{Call, Named, read_call, named_in, positionals_of, named_of}
use Rattle.rules.specs.Placement.{place, star_remainder, named_remainder}
use Rattle.rules.specs.UnknownFirst.{binding_missing_first, collection_missing_first, some_name, missing_or_surplus, Tells, UnknownFirst}
use Rattle.rules.specs.Parameters.{Parameter, has_kwargs}
use Rattle.rules.specs.ParameterQuestions.{ask_parameters, list_of}
use Rattle.rules.specs.CallQuestions.{ask_form, ask_call, names_differ, ask_board}
use Rattle.rules.specs.CanFill.{answered, fillable}
use Rattle.rules.specs.Collection.{Outcome, refused, outcome_of, call_of, ask_records, collection}
use Rattle.rules.proofs.LawsListing.{and_no_right, map_map}
use Rattle.rules.proofs.LawsUnknownFirst.{unknown_first}
use Rattle.original.specs.Spec.{is_some, ParametersSpec, spec_of}
use Rattle.original.specs.Builder.{next, finished_of}
use Rattle.original.specs.CheckUnique.{Checked, unique, occurs_twice, is_unique, new_check_unique, written_names}
use Rattle.original.specs.Locals.{Held, FunctionError, Result, ok, err}
use Rattle.original.specs.Collect as Rust
use Rattle.original.specs.CanFill.{can_fill_with_args}
use Rattle.original.specs.Ending.{part_bytes, held_in, error_of, failing, ends, ending}
use Rattle.original.specs.Whole.{End, collects, after_building, after_checking, collector_end, rust_end, InDomain, SameEnd, rust_hides, SameEnds, rust_fills}
use Rattle.original.proofs.TotalCollect.{collect_inline}
use Rattle.original.proofs.CheckUnique.{check_unique_13}
use Rattle.original.proofs.Collect.{reads_call, limit_small, collect_original}
use Rattle.original.proofs.CanFill.{fillable_original}
use Rattle.original.proofs.Builder.{builder_original}
use Rattle.original.proofs.BuiltFills.{same_fill}
use Rattle.original.proofs.BuiltCollects.{collect_built}
use Rattle.original.proofs.LawsBuilt.{list_one_args, list_one_kwargs}
use Rattle.original.proofs.LawsBoard.{placed_fine, board_same}
use Rattle.original.proofs.LawsHidden.{hides_same}

-- ---- what an end is by its parts

-- 24 is none of 20 to 23
told_24 : (vs : List Named) (o : Outcome) → Tells vs o → missing_or_surplus o ≡ false
told_24 [] o t = absurd t
told_24 (v ∷ vs) o t = ap missing_or_surplus t

module _ (read : Part → List ℕ) (extra : List Named) (board : List ℕ) where
  -- a check that has found a name twice is 13
  ends_twice : (x : Checked) (r : Result (List (Option Held))) → is_unique x ≡ false → SameEnd read extra board (after_checking x (collects r)) (refused 13 Detail.none)
  ends_twice (unique names) r e = absurd (false≢true (sym e))
  ends_twice (occurs_twice name) r e = (refl, refl)

  -- and one that has passed leaves the collector's result
  ends_unique : (x : Checked) (r : Result (List (Option Held))) (o : Outcome) → is_unique x ≡ true → SameEnd read extra board (collects r) o → SameEnd read extra board (after_checking x (collects r)) o
  ends_unique (unique names) r o e s = s
  ends_unique (occurs_twice name) r o e s = absurd (false≢true e)

  -- an error of the collector is the refusal that it is read off
  ends_refused : (n : ℕ) (d : Detail) (r : Result (List (Option Held))) → some r ≡ failing (error_of read extra n d) → SameEnd read extra board (collects r) (refused n d)
  ends_refused n d r e = go (error_of read extra n d) refl e
    where
      go : (o : Option FunctionError) → error_of read extra n d ≡ o → some r ≡ failing o → SameEnd read extra board (collects r) (refused n d)
      go none p s = absurd (false≢true (sym (ap is_some s)))
      go (some x) p s = let same : err x ≡ r = cc in subst (λ (y : Result (List (Option Held))). SameEnd read extra board (collects y) (refused n d)) same p

module _ (spec_cells spec_bytes call_cells call_bytes board : List ℕ) where
  abbrev qs : List Parameter
  qs = list_of spec_cells spec_bytes

  abbrev c : Call
  c = call_of call_cells call_bytes

  abbrev read : Part → List ℕ
  read = part_bytes spec_bytes call_bytes

  abbrev extra : List Named
  extra = named_remainder qs (named_of c)

  abbrev checked : Checked
  checked = new_check_unique (written_names call_bytes call_cells)

  abbrev Same : End → Outcome → Type 0
  Same e o = SameEnd read extra board e o

  abbrev kwargs : Bool
  kwargs = has_kwargs qs

  abbrev theirs : End
  theirs = rust_end spec_cells spec_bytes call_cells call_bytes

  abbrev ours : Outcome
  ours = collection 64 64 spec_cells spec_bytes call_cells call_bytes board

  -- in 01's own order
  abbrev outcome : Outcome
  outcome = collection_missing_first 64 64 spec_cells spec_bytes call_cells call_bytes board

  outcome_asked : (a : Answer) → ask_records 64 64 spec_cells spec_bytes call_cells call_bytes board ≡ a → outcome ≡ outcome_of (a then binding_missing_first qs c) qs (positionals_of c) (named_of c) board
  unfolding collection_missing_first
  outcome_asked a e = ap (λ (x : Answer). outcome_of (x then binding_missing_first qs c) qs (positionals_of c) (named_of c) board) e

  module _ (d : InDomain spec_cells spec_bytes call_cells call_bytes board) where
    -- 13 is what is left to be asked of the call, and of the records
    call_asked : (b : Bool) → names_differ call_bytes (read_call call_cells) ≡ b → ask_call 64 call_cells call_bytes ≡ ask 13 b
    unfolding ask_call
    call_asked b e = ap₂ (λ (x : Answer) (y : Bool). x then ask 12 y then ask 13 (names_differ call_bytes (read_call call_cells))) d.form_passes d.keys_differ ∙ ap (ask 13) e

    records_asked : (b : Bool) → names_differ call_bytes (read_call call_cells) ≡ b → ask_records 64 64 spec_cells spec_bytes call_cells call_bytes board ≡ ask 13 b
    unfolding ask_records
    records_asked b e = ap₂ (λ (x y : Answer). x then y then ask_board 64 64 board) d.list_passes (call_asked b e) ∙ go b
      where
        go : (x : Bool) → (ask 13 x then ask_board 64 64 board) ≡ ask 13 x
        go true = d.board_long
        go false = refl

    -- what ends as 15 to 24 answer is the outcome of that answer
    ends_bound : (a : Answer) (r : Result (List (Option Held))) → binding_missing_first qs c ≡ a
        → some r ≡ ends read extra a (ok (map (held_in (star_remainder qs (positionals_of c)) extra) (place qs (positionals_of c) (named_of c))))
        → Same (collects r) (outcome_of a qs (positionals_of c) (named_of c) board)
    ends_bound fine r p e =
        let same : ok (map (held_in (star_remainder qs (positionals_of c)) extra) (place qs (positionals_of c) (named_of c))) ≡ r = cc in
        subst (λ (x : Result (List (Option Held))). Same (collects x) (outcome_of fine qs (positionals_of c) (named_of c) board)) same
        (board_same qs (positionals_of c) (named_of c) board (list_one_args 64 spec_cells spec_bytes d.list_passes) (list_one_kwargs 64 spec_cells spec_bytes d.list_passes) (placed_fine qs c p) read (reads_call spec_bytes call_bytes call_cells))
    ends_bound (refuse n x) r p e = ends_refused read extra board n x r e

    -- the Rust past its builder
    past_building : rust_end spec_cells spec_bytes call_cells call_bytes ≡ after_checking checked (collects (collect_inline (spec_of qs) c))
    unfolding rust_end
    past_building =
        ap (λ (o : Option ParametersSpec). after_building o (λ spec. after_checking checked (collector_end (Rust.collect_inline spec c)))) ((builder_original spec_cells spec_bytes).finishes d.list_passes)
        ∙ ap (λ r. after_checking checked (collector_end r)) (collect_built 64 spec_cells spec_bytes limit_small d.list_passes c)

    -- and past its check
    ends_checked : (b : Bool) → names_differ call_bytes (read_call call_cells) ≡ b → Same (after_checking checked (collects (collect_inline (spec_of qs) c))) outcome
    unfolding ending
    ends_checked true e =
        ends_unique read extra board checked (collect_inline (spec_of qs) c) outcome (check_unique_13 call_bytes call_cells ∙ e)
        (subst (Same (collects (collect_inline (spec_of qs) c))) (sym (outcome_asked fine (records_asked true e)))
        (ends_bound (binding_missing_first qs c) (collect_inline (spec_of qs) c) refl (collect_original 64 64 spec_cells spec_bytes call_cells call_bytes limit_small d.list_passes (call_asked true e))))
    ends_checked false e =
        subst (Same (after_checking checked (collects (collect_inline (spec_of qs) c)))) (sym (outcome_asked (refuse 13 Detail.none) (records_asked false e)))
        (ends_twice read extra board checked (collect_inline (spec_of qs) c) (check_unique_13 call_bytes call_cells ∙ e))

    -- so in 01's own order
    missing_first : Same theirs outcome
    missing_first = subst (λ (e : End). Same e outcome) (sym past_building) (ends_checked (names_differ call_bytes (read_call call_cells)) refl)

    hidden_is : rust_hides kwargs extra theirs ≡ (not kwargs && some_name extra && missing_or_surplus outcome)
    hidden_is = hides_same read extra board kwargs theirs outcome missing_first

    -- ours differs from it as `unknown_first` tells
    law : UnknownFirst 64 64 spec_cells spec_bytes call_cells call_bytes board
    law = unknown_first 64 64 spec_cells spec_bytes call_cells call_bytes board

    -- and what tells unknown names is no end of the Rust that hides them
    not_hidden : Tells extra ours → Same theirs ours → rust_hides kwargs extra theirs ≡ false
    not_hidden t s =
        hides_same read extra board kwargs theirs ours s ∙ and_no_right (not kwargs && some_name extra) (missing_or_surplus ours) (told_24 extra ours t)

    -- ---- the two theorems

    -- the Rust ends as 01's own order of the questions does, and ours as the Rust but where the Rust hides an unknown name, over all records and
    -- boards of 01's domain
    pub original_ends : SameEnds spec_cells spec_bytes call_cells call_bytes board
    original_ends =
        record {
          missing_first = missing_first;
          as_the_rust = λ h. subst (Same theirs) (sym (law.stays (sym hidden_is ∙ h))) missing_first;
          by_the_new_order = λ h. law.told (sym hidden_is ∙ h);
          not_the_rust = λ h s. true≢false (sym h ∙ not_hidden (law.told (sym hidden_is ∙ h)) s);
        }

-- and answers as 01's can-fill does, over all records that pass 1 to 11
pub original_can_fill : (spec_cells spec_bytes call_cells call_bytes : List ℕ) → ask_parameters 64 spec_cells spec_bytes ≡ fine → ask_form 64 call_cells call_bytes ≡ fine
    → rust_fills spec_cells spec_bytes call_cells call_bytes ≡ some (fillable 64 64 spec_cells spec_bytes call_cells call_bytes)
unfolding rust_fills written_names
original_can_fill spec_cells spec_bytes call_cells call_bytes passes formed =
    ap (λ (o : Option ParametersSpec). next o (λ spec. next (can_fill_with_args spec p (map (λ t. t.bytes) (written_names call_bytes call_cells))) (λ b. some (answered b)))) ((builder_original spec_cells spec_bytes).finishes passes)
    ∙ ap (λ (names : List (List ℕ)). next (can_fill_with_args (finished_of (list_of spec_cells spec_bytes)) p names) (λ b. some (answered b))) (map_map (λ n. (named_in call_bytes n).name) (λ t. t.bytes) (read_call call_cells).named)
    ∙ ap (λ (o : Option Bool). next o (λ b. some (answered b))) (same_fill (list_of spec_cells spec_bytes) p (map (λ n. (named_in call_bytes n).name.bytes) (read_call call_cells).named))
    ∙ sym (fillable_original 64 64 spec_cells spec_bytes call_cells call_bytes passes formed)
  where
    p : ℕ
    p = length (read_call call_cells).positionals
