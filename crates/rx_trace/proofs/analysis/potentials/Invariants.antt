use Rattle.std.proofs.Common.{◌≡◌, map, take}
use Rattle.std.specs.List.{zip}
use Rattle.serde_json.specs.View.{view}
use Rattle.rx_trace.specs.Trace.{potential_data}
use Rattle.rx_trace.proofs.analysis.potentials.Given as goal

abbrev pub invariant-loop-i : goal.invariant-loop-i
invariant-loop-i l = map view l.values.items ≡ map potential_data (take l.i (zip l.indexes l.answers))
