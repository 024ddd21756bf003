use Rattle.rx_access.proofs.Answered.{all_answer, chosen_answers}
use Rattle.rx_access.proofs.laws.candidates_answer.Goals as goal

pub returns-clause-each : goal.returns-clause-each
returns-clause-each c = all_answer

pub returns-clause-chosen : goal.returns-clause-chosen
returns-clause-chosen c = chosen_answers
