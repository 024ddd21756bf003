use Rattle.std.proofs.Common.{◌≡◌, drop}
use Rattle.rx_schema.specs.Given.{first_given}
use Rattle.rx_schema.specs.Profile.{part_misfit}
use Rattle.rx_schema.proofs.profile.first_part_misfit.Given as goal

-- no part so far has any
abbrev pub invariant-loop-part : goal.invariant-loop-part
invariant-loop-part l =
    first_given (part_misfit l.columns) (drop l.part-index l.parts) ≡ first_given (part_misfit l.columns) l.parts
