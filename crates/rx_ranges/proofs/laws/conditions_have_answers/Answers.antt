use Rattle.rx_ranges.proofs.Some.{some_answer}
use Rattle.rx_ranges.proofs.laws.conditions_have_answers.Goals as goal

pub returns : goal.returns
returns c = some_answer
