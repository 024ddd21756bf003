use Rattle.std.proofs.Common.{◌≡◌, ◌++◌, map}
use Rattle.std.specs.Vec.Iter.{into_iter_items}
use Rattle.rx_rows.proofs.finishing.values_of.Given as goal

-- the values so far, and then those of the rest
abbrev pub invariant-loop-output : goal.invariant-loop-output
invariant-loop-output l = l.rows ++ map (λ o. o.0) (into_iter_items l.output-iterator) ≡ map (λ o. o.0) l.fn.outputs.items
