use Rattle.rx_ranges.proofs.One.{one_answer}
use Rattle.rx_ranges.proofs.laws.answers_are_unique.Goals as goal

pub returns : goal.returns
returns c = one_answer
