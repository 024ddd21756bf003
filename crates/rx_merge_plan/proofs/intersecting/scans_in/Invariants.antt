use Rattle.std.proofs.Common.{◌≡◌, take}
use Rattle.rx_merge_plan.specs.Lists.{scans_in}
use Rattle.rx_merge_plan.proofs.intersecting.scans_in.Given as goal

-- those of the candidates so far
abbrev pub invariant-loop-candidate : goal.invariant-loop-candidate
invariant-loop-candidate l = l.list ≡ scans_in (take l.candidate-index l.candidates)
