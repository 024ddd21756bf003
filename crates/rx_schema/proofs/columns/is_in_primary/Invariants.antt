use Rattle.std.proofs.Common.{◌≡◌, drop}
use Rattle.rx_schema.specs.Columns.{is_in_primary}
use Rattle.rx_schema.proofs.columns.is_in_primary.Given as goal

-- no key so far is a primary one with the column
abbrev pub invariant-loop-item : goal.invariant-loop-item
invariant-loop-item l = is_in_primary (drop l.item-index l.items) l.name ≡ is_in_primary l.items l.name
