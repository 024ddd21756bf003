use Rattle.std.proofs.Common.{◌≡◌, drop}
use Rattle.std.specs.Option.{option_or}
use Rattle.rx_schema.specs.Given.{last_given}
use Rattle.rx_schema.specs.Columns.{own_null}
use Rattle.rx_schema.proofs.columns.may_be_null.Given as goal

-- what the attributes that are left say last, else those so far
abbrev pub invariant-loop-attribute : goal.invariant-loop-attribute
invariant-loop-attribute l = option_or (last_given own_null (drop l.attribute-index l.attributes)) l.last ≡ last_given own_null l.attributes
