-- Lent cells to which some are added (01, cells, texts and records): none, the same, and some behind others.
-- Assumes nothing.
use mathlib.Core.Path.{◌≡◌, refl, ◌∙◌}
use mathlib.Core.List.{List, [], ◌++◌}
use Prim.Native.Nat.{ℕ, ◌+◌, ◌≤◌}
use lib.ListN.{length}
use Rattle.cells.proofs.LawsOut.{put_none, put_same, put_front, put_rest, put_then}
use Rattle.sheet_records.specs.Run.{Added}
use Rattle.sheet_records.specs.declared.run.Run.{Run}

pub added_none : (more : List ℕ) (run : Run) → more ≡ [] → run.next + length more ≤ length run.cells.now → Added more run run
added_none more run e h = record { put = put_none more run.cells.now run.next e h; same_reference = refl }

pub added_same : {run next : Run} (xs ys : List ℕ) → xs ≡ ys → Added xs run next → Added ys run next
added_same xs ys e a = record { put = put_same xs ys e a.put; same_reference = a.same_reference }

module _ (xs ys : List ℕ) (run : Run) (room : run.next + length (xs ++ ys) ≤ length run.cells.now) where
  pub room_front : run.next + length xs ≤ length run.cells.now
  room_front = put_front xs ys run.next run.cells.now room

  module _ (next : Run) (a : Added xs run next) where
    pub room_rest : next.next + length ys ≤ length next.cells.now
    room_rest = put_rest xs ys run.next run.cells.now room next.cells.now next.next a.put

    pub added_then : (end : Run) → Added ys next end → Added (xs ++ ys) run end
    added_then end b =
        record {
          put = put_then xs ys run.next run.cells.now room next.cells.now end.cells.now next.next end.next a.put b.put;
          same_reference = b.same_reference ∙ a.same_reference;
        }
