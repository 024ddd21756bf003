use Rattle.std.proofs.Common.{◌≡◌, map, take}
use Rattle.serde_json.specs.View.{view}
use Rattle.rx_trace.specs.Trace.{range_data, parts_at}
use Rattle.rx_trace.proofs.scans.ranges_value.Given as goal

abbrev pub invariant-loop-range : goal.invariant-loop-range
invariant-loop-range l = map view l.values.items ≡ map (range_data l.schema (parts_at l.schema l.scan.index) l.scan.part) (take l.range-index l.ranges)
