use Rattle.std.proofs.Common.{length}
use Rattle.plain_ranges.proofs.grids.+add_tuples.Given as goal

abbrev pub decreases-add_tuples : goal.decreases-add_tuples
decreases-add_tuples l = length l.parts.now
