use Rattle.std.proofs.Common.{◌≡◌, drop}
use Rattle.std.specs.Option.{option_or}
use Rattle.rx_schema.specs.Given.{last_given}
use Rattle.rx_schema.specs.Profile.{table_collation}
use Rattle.rx_schema.proofs.profile.last_collation.Given as goal

-- what the options that are left give last, else those so far
abbrev pub invariant-loop-option : goal.invariant-loop-option
invariant-loop-option l = option_or (last_given table_collation (drop l.option-index l.options)) l.last ≡ last_given table_collation l.options
