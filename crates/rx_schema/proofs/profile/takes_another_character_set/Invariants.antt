use Rattle.std.proofs.Common.{◌≡◌, drop}
use Rattle.std.specs.Option.{option_or}
use Rattle.rx_schema.specs.Given.{last_given}
use Rattle.rx_schema.specs.Profile.{own_character_set}
use Rattle.rx_schema.proofs.profile.takes_another_character_set.Given as goal

-- what the attributes that are left give last, else those so far
abbrev pub invariant-loop-attribute : goal.invariant-loop-attribute
invariant-loop-attribute l = option_or (last_given own_character_set (drop l.attribute-index l.attributes)) l.own ≡ last_given own_character_set l.attributes
