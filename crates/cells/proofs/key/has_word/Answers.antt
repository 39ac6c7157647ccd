-- `cells::key::has_word` meets its contract: what its tests tell. Assumes nothing.
use borrow.Author.Tests.{leb-true}
use Rattle.rules.specs.Text.{start_of}
use Rattle.cells.proofs.key.has_word.Goals as goal

pub returns : goal.returns
unfolding start_of
returns c = let low = c.if-payload-gt65535.false in λ e. record { low = low; room = leb-true _ _ e }
