use Rattle.std.proofs.Common.{◌≡◌, map, take}
use Rattle.std.specs.List.{filter}
use Rattle.rx_plan.specs.Naming.{is_primary}
use Rattle.rx_merges.specs.Unions.{single}
use Rattle.rx_merges.proofs.unions.primary_members.Given as goal

-- those of the scans so far
abbrev pub invariant-loop-scan : goal.invariant-loop-scan
invariant-loop-scan l = l.members ≡ map single (filter (λ scan. is_primary l.schema scan.index) (take l.scan-index l.scans))
