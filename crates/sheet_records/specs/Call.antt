-- The counts and the parts of a call record (01, cells, texts and records).
use Rattle.std.specs.Prelude.{◌≡◌, true, List, [], ◌++◌, ℕ, zero, suc, ◌≤◌}
use Rattle.rules.specs.Listing.{tally}
use Rattle.rules.specs.SheetLines.{Row}
use Rattle.rules.specs.SheetRows.{CallPart, positional, named, star, item, double, entry, is_part, is_list, is_dict}
use Rattle.rules.specs.SheetRecords.{kind_by}
use Rattle.sheet_records.specs.Run.{run_from}
use Rattle.calls.specs.declared.head.Head.{Head}

-- the parts behind the head, by number
abbrev pub part_at : ℕ → CallPart
part_at zero = positional
part_at (suc zero) = named
part_at (suc (suc zero)) = item
part_at (suc (suc (suc n))) = entry

-- the cells of `count` parts from part `n` on
unfoldable pub parts_from : List Row → ℕ → ℕ → List ℕ
parts_from rows n zero = []
parts_from rows n (suc count) = run_from true (part_at n) 0 rows ++ parts_from rows (suc n) count

-- counts and kinds are those of the rows, and no part has more than 64
pub record CountsOf (rows : List Row) (k : Head) : Type 0 where
  pub positionals : k.p ≡ tally (is_part positional) rows
  pub named : k.n ≡ tally (is_part named) rows
  pub star : k.star_kind ≡ kind_by star is_list rows
  pub items : k.s ≡ tally (is_part item) rows
  pub double : k.double_kind ≡ kind_by double is_dict rows
  pub entries : k.d ≡ tally (is_part entry) rows
  pub few_positionals : k.p ≤ 64
  pub few_named : k.n ≤ 64
  pub few_items : k.s ≤ 64
  pub few_entries : k.d ≤ 64
