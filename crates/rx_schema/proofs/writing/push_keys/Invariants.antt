use Rattle.std.proofs.Common.{◌≡◌, ◌++◌, drop, map}
use Rattle.rx_ddl.specs.declared.statements.CreateDefinition.TheVariants as of
use Rattle.rx_schema.specs.Writing.{key_definition}
use Rattle.rx_schema.proofs.writing.push_keys.Given as goal

-- the indexes so far and those that are left are all
abbrev pub invariant-loop-index : goal.invariant-loop-index
invariant-loop-index l = l.list ++ map (λ i. of.Key (key_definition l.columns i)) (drop l.index-index l.indexes) ≡ l.initial.list ++ map (λ i. of.Key (key_definition l.columns i)) l.indexes
