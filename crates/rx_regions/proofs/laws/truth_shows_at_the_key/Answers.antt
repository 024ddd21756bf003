use Rattle.rx_regions.proofs.Shown.{can_show}
use Rattle.rx_regions.proofs.laws.truth_shows_at_the_key.Goals as goal

pub returns : goal.returns
returns c = λ sign t parts row. can_show parts row sign t
