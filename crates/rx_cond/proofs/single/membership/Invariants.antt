use Rattle.std.proofs.Common.{◌≡◌, drop, false, ◌||◌}
use Rattle.std.specs.List.{list_any}
use Rattle.rx_cond.specs.Test.{equals, is_null_value}
use Rattle.rx_cond.specs.Tri.{is_true, is_unknown}
use Rattle.rx_cond.proofs.single.membership.Given as goal

-- no element so far equals the value, and `found` tells whether one was NULL
abbrev pub invariant-loop-element : goal.invariant-loop-element
invariant-loop-element l =
    (list_any (equals l.value) (drop l.element-index l.list) ≡ list_any (equals l.value) l.list)
    × (is_unknown l.found || list_any is_null_value (drop l.element-index l.list) ≡ list_any is_null_value l.list)
    × (is_true l.found ≡ false)
