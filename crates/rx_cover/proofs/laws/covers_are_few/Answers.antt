use Rattle.rx_cover.proofs.Counting.{cover_few}
use Rattle.rx_cover.proofs.laws.covers_are_few.Goals as goal

pub returns : goal.returns
returns c = cover_few
