-- `replay::sheets::room_for_text` meets its contract: the length is cited, since counting the elements takes seconds.
-- Assumes nothing.
use Rattle.std.proofs.Common.{ℕ, sym}
use lib.ListN.{length-replicate}
use Rattle.replay.proofs.sheets.room_for_text.Goals as goal

pub returns : goal.returns
returns c = sym (length-replicate {A = ℕ} 524288 0)
