use Rattle.std.proofs.Common.{◌≡◌, map, take}
use Rattle.serde_json.specs.View.{view}
use Rattle.rx_trace.specs.Trace.{listed}
use Rattle.rx_trace.proofs.listing.listed.Given as goal

abbrev pub invariant-loop-i : goal.invariant-loop-i
invariant-loop-i l = map view l.values.items ≡ listed l.schema l.list (take l.i l.all)
