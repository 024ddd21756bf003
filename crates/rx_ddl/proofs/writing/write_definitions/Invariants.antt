use Rattle.std.proofs.Common.{◌≡◌, ◌++◌, take, codes}
use Rattle.std.specs.List.{flat_map}
use Rattle.rx_ddl.specs.Canonical.{definition_text}
use Rattle.rx_ddl.proofs.writing.write_definitions.Given as goal

abbrev pub invariant-loop-other : goal.invariant-loop-other
invariant-loop-other l = l.into ≡ l.initial.into ++ flat_map (λ other. codes ",\n" ++ definition_text other) (take l.other-index l.others)
