use Rattle.std.proofs.Common.{◌≡◌, drop}
use Rattle.std.specs.Prelude.{find}
use Rattle.rx_statement.specs.Names.{is_no_index}
use Rattle.rx_statement.proofs.names.first_no_index.Given as goal

-- each name so far is an index
abbrev pub invariant-loop-name : goal.invariant-loop-name
invariant-loop-name l = find (is_no_index l.indexes) (drop l.name-index l.names) ≡ find (is_no_index l.indexes) l.names
