use Rattle.std.proofs.Common.{◌≡◌, drop}
use Rattle.std.specs.List.{list_any}
use Rattle.rx_cond.specs.Test.{is_null_value}
use Rattle.rx_single.proofs.listing.has_null.Given as goal

-- no value so far is NULL
abbrev pub invariant-loop-value : goal.invariant-loop-value
invariant-loop-value l = list_any is_null_value (drop l.value-index l.list) ≡ list_any is_null_value l.list
