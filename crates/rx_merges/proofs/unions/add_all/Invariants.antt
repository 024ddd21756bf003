use Rattle.std.proofs.Common.{◌≡◌, ◌++◌}
use Rattle.rx_merges.proofs.unions.add_all.Given as goal

-- those so far
abbrev pub invariant-loop-member : goal.invariant-loop-member
invariant-loop-member l = l.members ≡ l.initial.members ++ l.yielded
