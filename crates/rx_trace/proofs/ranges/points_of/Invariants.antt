use Rattle.std.proofs.Common.{◌≡◌, map, take, string_bytes}
use Rattle.std.specs.List.{enumerate_from}
use Rattle.rx_trace.specs.Ranges.{point_at}
use Rattle.rx_trace.proofs.ranges.points_of.Given as goal

abbrev pub invariant-loop-i : goal.invariant-loop-i
invariant-loop-i l = map string_bytes l.texts.items ≡ map (point_at l.schema l.parts) (enumerate_from l.from (take l.i l.points))
