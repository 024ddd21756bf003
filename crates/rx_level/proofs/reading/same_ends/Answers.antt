use Rattle.rx_level.proofs.Entries.{equal_ends, unequal_ends}
use Rattle.rx_level.proofs.reading.same_ends.Goals as goal

pub returns-in-Equal : goal.returns-in-Equal
returns-in-Equal c = equal_ends _ _ _ c.compare_ends.ensures c.in-Equal.is

pub returns-in_default : goal.returns-in_default
returns-in_default c = unequal_ends _ _ _ c.compare_ends.ensures c.in_default.not-Equal
