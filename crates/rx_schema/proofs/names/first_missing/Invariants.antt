use Rattle.std.proofs.Common.{◌≡◌, drop, map}
use Rattle.std.specs.Prelude.{find}
use Rattle.rx_schema.specs.Names.{is_missing}
use Rattle.rx_schema.proofs.names.first_missing.Given as goal

-- each part so far is a column
abbrev pub invariant-loop-part : goal.invariant-loop-part
invariant-loop-part l = find (is_missing l.columns) (map (λ p. p.column) (drop l.part-index l.parts)) ≡ find (is_missing l.columns) (map (λ p. p.column) l.parts)
