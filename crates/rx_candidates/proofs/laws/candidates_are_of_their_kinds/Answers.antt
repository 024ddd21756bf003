use Rattle.rx_candidates.proofs.Members.{all_of_kinds}
use Rattle.rx_candidates.proofs.laws.candidates_are_of_their_kinds.Goals as goal

pub returns : goal.returns
returns c = all_of_kinds
