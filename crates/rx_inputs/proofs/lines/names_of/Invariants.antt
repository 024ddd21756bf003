use Rattle.std.proofs.Common.{◌≡◌, map, take}
use Rattle.rx_inputs.proofs.lines.names_of.Given as goal

-- the names so far
abbrev pub invariant-loop-index : goal.invariant-loop-index
invariant-loop-index l = l.names ≡ map (λ index. index.name) (take l.index-index l.indexes)
