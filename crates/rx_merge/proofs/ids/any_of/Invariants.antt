use Rattle.std.proofs.Common.{◌≡◌, map}
use Rattle.std.specs.List.{flat_map}
use Rattle.std.specs.Map.Iter.{deref}
use Rattle.rx_merge.proofs.ids.any_of.Given as goal

-- the ids of the members so far, one behind the other
abbrev pub invariant-loop-ids : goal.invariant-loop-ids
invariant-loop-ids l = l.all.items ≡ flat_map (λ ids. ids) (map deref l.yielded)
