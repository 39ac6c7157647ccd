-- P and N as lent cells hold them, a cut of them as `rules` has it, and what writing a cut's record needs.
use Rattle.std.specs.Prelude.{◌≡◌, Bool, cond, ◌||◌, List, [], ◌∷◌, ℕ, ◌/◌, ◌%◌, ◌≤◌, ltb, length, drop}
use Rattle.rules.specs.Cells.{read_each, write_each}
use Rattle.rules.specs.Value.{Value, value_width, value_cells, read_value}
use Rattle.rules.specs.CallRecord.{Pair, pair_width, read_pair}
use Rattle.rules.specs.Demand3 as rules
use Rattle.cuts.specs.declared.record.Cut.{Cut}

abbrev pub cut_of : Cut → rules.Cut
cut_of c = record { at_p = c.at_p; at_n = c.at_n; list_given = c.list_given; dictionary_given = c.dictionary_given }

-- P: the values that some cells hold, one after the other
abbrev pub values_of : List ℕ → List Value
values_of cells = read_each value_width read_value (length cells / 2) cells

-- N: the pairs that some cells hold
abbrev pub pairs_of : List ℕ → List Pair
pairs_of cells = read_each pair_width read_pair (length cells / 4) cells

-- a star is there when it is given or has something in it
abbrev pub kind_of : Bool → ℕ → ℕ
kind_of given count = cond (given || ltb 0 count) 1 0

-- the head of a cut that leaves s values and d pairs
abbrev pub head_cells : rules.Cut → ℕ → ℕ → List ℕ
head_cells c s d = c.at_p ∷ c.at_n ∷ kind_of c.list_given s ∷ s ∷ kind_of c.dictionary_given d ∷ d ∷ []

-- the cells of `count` values that stand from an index on
abbrev pub run_of : List ℕ → ℕ → ℕ → List ℕ
run_of cells from count = write_each value_cells (read_each value_width read_value count (drop from cells))

-- whole values and whole pairs, at most 64 of each, and a cut within them
pub record Fits (positionals named : List ℕ) (c : rules.Cut) : Type 0 where
  pub whole_values : length positionals % 2 ≡ 0
  pub whole_pairs : length named % 4 ≡ 0
  pub few_values : length positionals / 2 ≤ 64
  pub few_pairs : length named / 4 ≤ 64
  pub within_values : c.at_p ≤ length positionals / 2
  pub within_pairs : c.at_n ≤ length named / 4
