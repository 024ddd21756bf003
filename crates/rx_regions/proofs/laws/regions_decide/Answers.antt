use Rattle.rx_regions.proofs.Decided.{can_same}
use Rattle.rx_regions.proofs.laws.regions_decide.Goals as goal

pub returns : goal.returns
returns c = λ sign t parts ps qs. can_same parts ps qs sign t
