use Rattle.std.proofs.Common.{◌≡◌, ◌++◌}
use Rattle.rx_merges.proofs.unions.add_scans.Given as goal

-- those so far
abbrev pub invariant-loop-scan : goal.invariant-loop-scan
invariant-loop-scan l = l.scans ≡ l.initial.scans ++ l.yielded
