use Rattle.std.proofs.Common.{◌≡◌, ◌++◌, drop}
use Rattle.std.specs.Prelude.{map}
use Rattle.rx_value.specs.Parts.{borrowed}
use Rattle.rx_single.specs.Listing.{cut_values}
use Rattle.rx_single.proofs.listing.cut_values.Given as goal

-- the values so far, and those of the rest
abbrev pub invariant-loop-value : goal.invariant-loop-value
invariant-loop-value l = map borrowed l.values.items ++ cut_values l.chars (drop l.value-index l.list) ≡ cut_values l.chars l.list
