use Rattle.std.proofs.Common.{◌≡◌, length}
use Rattle.rx_statement.specs.Switches.{repeats}
use Rattle.rx_statement.proofs.switches.repeats.Given as goal

-- no flag so far stands twice
abbrev pub invariant-flags : goal.invariant-flags
invariant-flags l = repeats l.rest ≡ repeats l.fn.settings

abbrev pub decreases-flags : goal.decreases-flags
decreases-flags l = length l.rest
