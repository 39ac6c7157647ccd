-- `replay::numbers::room_for_numbers` meets its contract: the length is cited, since counting the elements takes seconds.
-- Assumes nothing.
use Rattle.std.proofs.Common.{ℕ, sym}
use lib.ListN.{length-replicate}
use Rattle.replay.proofs.numbers.room_for_numbers.Goals as goal

pub returns : goal.returns
returns c = sym (length-replicate {A = ℕ} 262144 0)
