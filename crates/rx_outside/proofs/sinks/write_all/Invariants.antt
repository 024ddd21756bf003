use Rattle.std.proofs.Common.{length, ◌-◌, ◌≡◌, ◌≤◌, take}
use Rattle.rx_outside.specs.Sink.{Takes, LeavesRoom}
use Rattle.rx_outside.proofs.sinks.write_all.Given as goal

abbrev pub invariant-loop-at : goal.invariant-loop-at
invariant-loop-at g l = (l.at ≤ length l.piece)
    × Takes (g.O.Sink.text l.initial.out) (g.O.Sink.text l.out) (take l.at l.piece)
    × (g.O.Sink.faults l.out ≡ g.O.Sink.faults l.initial.out)
    × LeavesRoom (g.O.Sink.room l.initial.out) (g.O.Sink.room l.out) l.at

abbrev pub decreases-loop-at : goal.decreases-loop-at
decreases-loop-at g l = length l.piece - l.at
