use Rattle.std.proofs.Common.{rules}
use Rattle.rx_group.proofs.Notes.{known}
use Rattle.rx_group.proofs.grouping.number_of.Goals as goal

pub returns-in-Some : goal.returns-in-Some
returns-in-Some c = known _ _ _ _ (search rules)
