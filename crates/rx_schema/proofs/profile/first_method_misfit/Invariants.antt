use Rattle.std.proofs.Common.{◌≡◌, drop}
use Rattle.rx_schema.specs.Given.{first_given}
use Rattle.rx_schema.specs.Profile.{method_misfit}
use Rattle.rx_schema.proofs.profile.first_method_misfit.Given as goal

-- nothing so far is outside the profile
abbrev pub invariant-loop-method : goal.invariant-loop-method
invariant-loop-method l = first_given method_misfit (drop l.method-index l.methods) ≡ first_given method_misfit l.methods
