use Rattle.std.proofs.Common.{◌≡◌, [], ◌∷◌, map, take}
use Rattle.rx_group.specs.Classes.{rows_of}
use Rattle.rx_rows.specs.Finish.{output_of}
use Rattle.rx_rows.proofs.outputs.outputs_of_rows.Given as goal

-- those of the rows so far
abbrev pub invariant-loop-row : goal.invariant-loop-row
invariant-loop-row l = l.outputs.items ≡ map (output_of l.items) (map (λ row. row ∷ []) (rows_of (take l.row-index l.rows)))
