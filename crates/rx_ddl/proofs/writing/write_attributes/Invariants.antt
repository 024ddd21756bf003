use Rattle.std.proofs.Common.{◌≡◌, ◌++◌, take}
use Rattle.std.specs.List.{flat_map}
use Rattle.rx_ddl.specs.Canonical.{attribute_text}
use Rattle.rx_ddl.proofs.writing.write_attributes.Given as goal

abbrev pub invariant-loop-attribute : goal.invariant-loop-attribute
invariant-loop-attribute l = l.into ≡ l.initial.into ++ flat_map attribute_text (take l.attribute-index l.attributes)
