use Rattle.std.proofs.Common.{◌≡◌, take, drop, map}
use Rattle.rx_schema.specs.Names.{repeated_after, first_repeated}
use Rattle.rx_schema.proofs.names.first_repeated_part.Given as goal

-- no name so far equals an earlier one
abbrev pub invariant-loop-i : goal.invariant-loop-i
invariant-loop-i l = repeated_after (map (λ p. p.column) (take l.i l.parts)) (map (λ p. p.column) (drop l.i l.parts)) ≡ first_repeated (map (λ p. p.column) l.parts)
