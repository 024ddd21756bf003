use Rattle.std.proofs.Common.{take}
use Rattle.rx_order.proofs.Flags.{Fresh}
use Rattle.rx_order.proofs.distinct.fresh.Given as goal

-- the flags of the output rows so far
abbrev pub invariant-loop-output : goal.invariant-loop-output
invariant-loop-output l = Fresh (take l.output-index l.outputs) l.output-index l.count l.flags.items l.numbers
