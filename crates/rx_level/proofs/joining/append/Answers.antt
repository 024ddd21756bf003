use Rattle.rx_level.proofs.Steps.{level_none}
use Rattle.rx_level.proofs.joining.append.Goals as goal

pub returns-in_default-clause-level : goal.returns-in_default-clause-level
returns-in_default-clause-level c = level_none c.args.levels.now c.args.left c.args.right c.in_default.is
