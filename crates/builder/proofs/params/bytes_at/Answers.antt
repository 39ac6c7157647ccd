-- `builder::params::bytes_at` meets its contract: past the area's end there is nothing, and a text is cut off there.
-- Assumes nothing.
use Prim.Native.Nat.{◌+◌, ◌-◌, ◌/◌, ◌%◌, ◌≤◌, ℕ, min}
use native.Mathlib.Decide.{dec_le}
use native.Mathlib.Omega.{arith}
use mathlib.Core.List.{List}
use mathlib.Core.Path.{◌≡◌}
use lib.ListN.{length, take, drop, length-drop, drop_of_length-le}
use lib.Seq.{take-nil}
use Rattle.std.proofs.lemmas.List.{take_min}
use Rattle.rules.specs.Text.{bytes_at, start_of, size_of}
use Rattle.builder.proofs.params.bytes_at.Goals as goal

-- both ends held to the list's length
cut_off : (xs : List ℕ) (s n : ℕ) → take (min (s + n) (length xs) - min s (length xs)) (drop (min s (length xs)) xs) ≡ take n (drop s xs)
cut_off xs s n = go (dec_le s (length xs))
  where
    go : Dec (s ≤ length xs) → take (min (s + n) (length xs) - min s (length xs)) (drop (min s (length xs)) xs) ≡ take n (drop s xs)
    go (yes h) =
        let e : min s (length xs) ≡ s = omega arith in
        let f : min (s + n) (length xs) - s ≡ min n (length (drop s xs)) = simp length-drop (omega arith) in
        rw (e, f, take_min)
    go (no h) =
        let e : min s (length xs) ≡ length xs = omega arith in
        let f : min (s + n) (length xs) ≡ length xs = omega arith in
        rw (
          e,
          f,
          drop_of_length-le xs {i = length xs} (omega arith),
          drop_of_length-le xs {i = s} (omega arith),
          take-nil n,
          take-nil (length xs - length xs),
        )

pub returns : goal.returns
unfolding bytes_at start_of size_of
returns c = rw (c.min.ensures, c.min-2.ensures) (cut_off c.args.area.now (c.args.payload / 256) (c.args.payload % 256))
