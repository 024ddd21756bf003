use Rattle.std.proofs.Common.{◌≡◌, map, take}
use Rattle.rx_group.specs.Classes.{lists_of}
use Rattle.rx_rows.specs.Finish.{output_of}
use Rattle.rx_rows.proofs.outputs.outputs_of_groups.Given as goal

-- those of the groups so far
abbrev pub invariant-loop-group : goal.invariant-loop-group
invariant-loop-group l = l.outputs.items ≡ map (output_of l.items) (lists_of (take l.group-index l.groups))
