use Rattle.std.proofs.Common.{get_or, rules}
use Rattle.rx_index.proofs.Standing.{one_more}
use Rattle.rx_index.proofs.building.are_all_ids.Goals as goal

pub loop-place-preserved : goal.loop-place-preserved
loop-place-preserved c =
    let ids = c.args.ids.now in
    let place = c.loop-place.place in
    one_more ids place (get_or ids place 0) c.loop-place-test.true (search rules) (search rules) c.loop-place.invariant
