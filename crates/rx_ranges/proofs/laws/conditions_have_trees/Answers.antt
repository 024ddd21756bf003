use Rattle.rx_ranges.proofs.Grown.{can_split}
use Rattle.rx_ranges.proofs.laws.conditions_have_trees.Goals as goal

pub returns : goal.returns
returns c sign t parts nullable same = let split = can_split parts nullable same sign t in (split.yes, split.has)
