-- Reworked from starlark 0.14.2, src/eval/runtime/params/spec.rs and src/eval/runtime/arguments.rs, Apache-2.0.
-- The Rust's way from two records to its end, in one piece: the builder makes the list (spec.rs 112-360), `new_check_unique` looks at the
-- written names (arguments.rs 146-159), and then the collector (spec.rs 601-851) or can-fill (853-898) is asked. Beside it what it is for such an
-- end to be the outcome of a collection, and for which calls it is.
use Rattle.std.specs.Prelude.{◌≡◌, Bool, true, false, not, ◌&&◌, ℕ, ◌+◌, length, drop}
use mathlib.Core.List.{List, [], ◌∷◌, ◌++◌, map, flat_map}
use Rattle.std.proofs.Math.Option.{Option, none, some}
use Rattle.rules.specs.Listing.{all, tally}
use Rattle.rules.specs.Cells.{write_each}
use Rattle.rules.specs.Text.{same_bytes}
use Rattle.rules.specs.Value.{Value}
use Rattle.rules.specs.Answer.{fine, none as no_detail, Part, part_of, call_area}
use Rattle.rules.specs.CallRecord.{Named, read_call, named_of}
use Rattle.rules.specs.Parameters.{has_kwargs}
use Rattle.rules.specs.Placement.{Counts, named_remainder}
use Rattle.rules.specs.ParameterQuestions.{ask_parameters, list_of}
use Rattle.rules.specs.CallQuestions.{ask_form, entries_differ, ask_board}
use Rattle.rules.specs.Collection.{Outcome, refused, accepted, call_of, collection}
use Rattle.rules.specs.UnknownFirst.{collection_missing_first, some_name, Tells}
use Rattle.rules.specs.CanFill.{Filling, answered}
use Rattle.original.specs.Spec.{ParametersSpec}
use Rattle.original.specs.Builder.{next, built}
use Rattle.original.specs.CheckUnique.{Checked, unique, occurs_twice, new_check_unique, written_names}
use Rattle.original.specs.Locals.{Held, single, tuple, dict, FunctionError, ArgsArrayIsNotIterable, RepeatedArg, KwArgsIsNotDict, ArgsValueIsNotString, MissingPositionalOnly, MissingNamedOnly, Missing, ExtraPositionalArg, ExtraNamedArg, Result, ok, err}
use Rattle.original.specs.Collect.{collect_inline}
use Rattle.original.specs.CanFill.{can_fill_with_args}
use Rattle.original.specs.Ending.{part_bytes, error_of}

-- ---- the Rust

-- how its way ends
pub data End : Type 0 where
  -- an assertion of the builder or of the collector has failed, or one of them has met an index or a number that is too large
  panics : End
  -- `new_check_unique` errs, with the name that is written twice. Its error is a `value_error`, and no `FunctionError`
  written_twice : List ℕ → End
  -- the collector has handed back the slots or an error
  collects : Result (List (Option Held)) → End

abbrev pub after_building : Option ParametersSpec → (ParametersSpec → End) → End
after_building none rest = panics
after_building (some spec) rest = rest spec

-- the names that are handed on are those of the call
abbrev pub after_checking : Checked → End → End
after_checking (occurs_twice name) rest = written_twice name
after_checking (unique names) rest = rest

-- a result, or none where the collector panics, as an end
abbrev pub collector_end : Option (Result (List (Option Held))) → End
collector_end none = panics
collector_end (some r) = collects r

unfoldable pub rust_end : List ℕ → List ℕ → List ℕ → List ℕ → End
rust_end spec_cells spec_bytes call_cells call_bytes =
    after_building (built spec_cells spec_bytes)
    (λ spec. after_checking (new_check_unique (written_names call_bytes call_cells)) (collector_end (collect_inline spec (call_of call_cells call_bytes))))

-- ---- the Rust's slots on 01's board

-- 01 (cells, texts and records, board). The cells are written out here and are not those of `rules`, whose board is compared with them

-- a value: its kind and its payload
abbrev pub rust_value : Value → List ℕ
rust_value v = v.kind ∷ v.payload ∷ []

-- a slot: 0 and 0 when it is empty, 8 and a count for *args, 9 and a count for **kwargs
abbrev pub rust_slot : Option Held → List ℕ
rust_slot none = 0 ∷ 0 ∷ []
rust_slot (some (single v)) = rust_value v
rust_slot (some (tuple vs)) = 8 ∷ length vs ∷ []
rust_slot (some (dict ms)) = 9 ∷ length ms ∷ []

-- a pair of the named remainder: the name, which is a text of the call area and so of kind 6, and the value
abbrev pub rust_pair : Named → List ℕ
rust_pair m = 6 ∷ m.name.payload ∷ rust_value m.value

-- the values of a slot's tuple, and the pairs of its dictionary; another slot has none
abbrev pub tuple_in : Option Held → List Value
tuple_in none = []
tuple_in (some (single v)) = []
tuple_in (some (tuple vs)) = vs
tuple_in (some (dict ms)) = []

abbrev pub dict_in : Option Held → List Named
dict_in none = []
dict_in (some (single v)) = []
dict_in (some (tuple vs)) = []
dict_in (some (dict ms)) = ms

-- does a slot hold one value? The cells alone do not tell an empty slot from a value of kind 0, nor a count from one of kind 8 or 9
abbrev pub holds_value : Option Held → Bool
holds_value none = false
holds_value (some (single v)) = true
holds_value (some (tuple vs)) = false
holds_value (some (dict ms)) = false

-- the slots, then the star remainder's values, then the named remainder's pairs
unfoldable pub rust_cells : List (Option Held) → List ℕ
rust_cells slots =
    write_each rust_slot slots ++ (write_each rust_value (flat_map tuple_in slots) ++ write_each rust_pair (flat_map dict_in slots))

-- "Cells after these keep their contents"
unfoldable pub rust_board : List (Option Held) → List ℕ → List ℕ
rust_board slots before = rust_cells slots ++ drop (length (rust_cells slots)) before

-- ---- what holds of both

-- 01's domain: records and a board that pass 1 to 12 and 14
pub record InDomain (spec_cells spec_bytes call_cells call_bytes board : List ℕ) : Type 0 where
  pub list_passes : ask_parameters 64 spec_cells spec_bytes ≡ fine
  pub form_passes : ask_form 64 call_cells call_bytes ≡ fine
  pub keys_differ : entries_differ call_bytes (read_call call_cells) ≡ true
  pub board_long : ask_board 64 64 board ≡ fine

-- an accepted collection and the slots that the Rust hands back, where `read` gives the bytes of a part
pub record SameSlots (read : Part → List ℕ) (slots : List (Option Held)) (before : List ℕ) (counts : Counts) (after : List ℕ) : Type 0 where
  -- every cell of the board
  pub cells : after ≡ rust_board slots before
  -- both remainders' counts; they are 0 where the list has no such parameter
  pub star : counts.star ≡ length (flat_map tuple_in slots)
  pub named : counts.named ≡ length (flat_map dict_in slots)
  -- the slots that hold a value are those taken and those defaulted
  pub values : counts.taken + counts.defaulted ≡ tally holds_value slots
  -- a name of the dictionary has the bytes of the text that its cell says
  pub names : all (λ m. same_bytes (read (part_of call_area m.name)) m.name.bytes) (flat_map dict_in slots) ≡ true

-- an end of the Rust and an outcome of 01 over one board: both accept, or both refuse with the same error. `extra` is 01's named remainder, whose
-- names 24's error lists. Not compared are the name of 13, for which 01 has no detail (`check_unique_original` tells which it is); the details of
-- 15, 17 and 18, which have none in the Rust; 16 against 19, which are one error there; where a name lies that an error has (only its bytes are
-- compared); and the counts taken and defaulted, of which the Rust has the sum alone
abbrev pub SameEnd : (Part → List ℕ) → List Named → List ℕ → End → Outcome → Type 0
SameEnd read extra before panics o = ⊥
SameEnd read extra before (written_twice bytes) (refused n d) = (n ≡ 13) × (d ≡ no_detail)
SameEnd read extra before (written_twice bytes) (accepted counts after) = ⊥
SameEnd read extra before (collects (err e)) (refused n d) = error_of read extra n d ≡ some e
SameEnd read extra before (collects (err e)) (accepted counts after) = ⊥
SameEnd read extra before (collects (ok slots)) (refused n d) = ⊥
SameEnd read extra before (collects (ok slots)) (accepted counts after) = SameSlots read slots before counts after

-- ---- where the two orders of the questions part

-- the Rust asks after unknown names last. Is this an error that it finds just before: a missing parameter, or values left over?
abbrev pub found_before24 : FunctionError → Bool
found_before24 ArgsArrayIsNotIterable = false
found_before24 (RepeatedArg name) = false
found_before24 KwArgsIsNotDict = false
found_before24 ArgsValueIsNotString = false
found_before24 (MissingPositionalOnly name) = true
found_before24 (MissingNamedOnly name) = true
found_before24 (Missing name) = true
found_before24 (ExtraPositionalArg n) = true
found_before24 (ExtraNamedArg names) = false

-- an end of the Rust hides an unknown name: there is no **kwargs, the named remainder is not empty, and the error is one of these
abbrev pub rust_hides : Bool → List Named → End → Bool
rust_hides kwargs extra panics = false
rust_hides kwargs extra (written_twice bytes) = false
rust_hides kwargs extra (collects (ok slots)) = false
rust_hides kwargs extra (collects (err e)) = not kwargs && some_name extra && found_before24 e

module _ (spec_cells spec_bytes call_cells call_bytes board : List ℕ) where
  abbrev pub extra : List Named
  extra = named_remainder (list_of spec_cells spec_bytes) (named_of (call_of call_cells call_bytes))

  abbrev pub theirs : End
  theirs = rust_end spec_cells spec_bytes call_cells call_bytes

  abbrev pub ours : Outcome
  ours = collection 64 64 spec_cells spec_bytes call_cells call_bytes board

  abbrev pub Same : Outcome → Type 0
  Same o = SameEnd (part_bytes spec_bytes call_bytes) extra board theirs o

  abbrev pub hidden : Bool
  hidden = rust_hides (has_kwargs (list_of spec_cells spec_bytes)) extra theirs

  -- `hidden` is true or false, so there is no third case
  pub record SameEnds : Type 0 where
    -- in 01's own order the questions end as the Rust does, whatever the call. So neither its builder nor its collector panics, and every refusal
    -- of them is 13 or one of the collector's errors
    pub missing_first : Same (collection_missing_first 64 64 spec_cells spec_bytes call_cells call_bytes board)
    -- ours ends as the Rust does where the Rust hides no unknown name
    pub as_the_rust : hidden ≡ false → Same ours
    -- where it does, ours is taken from the new order (02, §4): it tells the unknown names by 24, and the Rust does not
    pub by_the_new_order : hidden ≡ true → Tells extra ours
    pub not_the_rust : hidden ≡ true → Same ours → ⊥

-- ---- can-fill

-- the Rust's can-fill, of the list that its builder finishes, the number of positionals and the names of two records; none where it panics
unfoldable pub rust_fills : List ℕ → List ℕ → List ℕ → List ℕ → Option Filling
rust_fills spec_cells spec_bytes call_cells call_bytes =
    next (built spec_cells spec_bytes)
    (λ spec. next (can_fill_with_args spec (length (read_call call_cells).positionals) (map (λ t. t.bytes) (written_names call_bytes call_cells)))
    (λ fills. some (answered fills)))
