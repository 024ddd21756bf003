use Rattle.std.proofs.Common.{◌≡◌, map, take}
use Rattle.serde_json.specs.View.{view}
use Rattle.rx_trace.specs.Trace.{scan_data}
use Rattle.rx_trace.proofs.scans.scans_value.Given as goal

abbrev pub invariant-loop-scan : goal.invariant-loop-scan
invariant-loop-scan l = map view l.values.items ≡ map (scan_data l.schema) (take l.scan-index l.scans)
