use Rattle.std.proofs.Common.{◌∙◌}
use Rattle.rx_where.proofs.Lists.{unknown_here, unknown_later}
use Rattle.rx_where.proofs.names.+unknown.Goals as goal

pub unknown_name_of_all-returns-in-Some : goal.unknown_name_of_all-returns-in-Some
unknown_name_of_all-returns-in-Some t c =
    unknown_here _ _ _ c.item-item.result _ c.loop-item-test.true c.item-item.is c.in-Some.ensures ∙ c.loop-item.invariant

pub unknown_name_of_all-loop-item-preserved : goal.unknown_name_of_all-loop-item-preserved
unknown_name_of_all-loop-item-preserved t c =
    unknown_later _ _ _ c.item-item.result c.loop-item-test.true c.item-item.is c.in-None.ensures ∙ c.loop-item.invariant
