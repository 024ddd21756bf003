use Rattle.rx_merges.proofs.Meeting.{meets}
use Rattle.rx_merges.proofs.laws.unions_lose_no_row.Goals as goal

pub returns : goal.returns
returns c = λ test settings schema count lists candidate e numbered some. meets test lists numbered some candidate settings schema count e
