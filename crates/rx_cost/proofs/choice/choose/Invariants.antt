use Rattle.std.proofs.Common.{map}
use Rattle.rx_cost.specs.Choice.{cost_of}
use Rattle.rx_cost.proofs.Best.{IsBest}
use Rattle.rx_cost.proofs.choice.choose.Given as goal

abbrev pub invariant-loop-i : goal.invariant-loop-i
invariant-loop-i l = IsBest (map cost_of l.all) l.best l.i
