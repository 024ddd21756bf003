use Rattle.std.proofs.Common.{◌≡◌, drop, map}
use Rattle.rx_schema.specs.Names.{is_among}
use Rattle.rx_schema.proofs.names.has_part.Given as goal

-- no part so far is the column
abbrev pub invariant-loop-part : goal.invariant-loop-part
invariant-loop-part l = is_among (map (λ p. p.column) (drop l.part-index l.parts)) l.name ≡ is_among (map (λ p. p.column) l.parts) l.name
