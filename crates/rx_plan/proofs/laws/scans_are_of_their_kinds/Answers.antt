use Rattle.rx_plan.proofs.Members.{coverings_are, ranges_known}
use Rattle.rx_plan.proofs.laws.scans_are_of_their_kinds.Goals as goal

pub returns-clause-covering : goal.returns-clause-covering
returns-clause-covering c = coverings_are

pub returns-clause-ranges : goal.returns-clause-ranges
returns-clause-ranges c = ranges_known
