use Rattle.std.proofs.Common.{subst}
use Rattle.rx_index.specs.Heads.{IsHead}
use Rattle.rx_index.proofs.Numbering.{one_more, row_there}
use Rattle.rx_index.proofs.orders.placed_by.Goals as goal

pub loop-id-preserved : goal.loop-id-preserved
loop-id-preserved c =
    let first = c.args.words.now.first.items in
    let second = c.args.words.now.second.items in
    let there = row_there c.args.rows.now c.loop-id.id c.index-rows-id.result c.loop-id-test.true c.index-rows-id.is in
    one_more first second c.args.rows.now c.loop-id.list.items c.push.new.self.items c.in-Some.place c.loop-id.id c.loop-id.invariant c.in-Some.ensures.id_is
    (subst (λ r. IsHead 0 first r c.in-Some.place.head) there c.in-Some.ensures.head)
    (subst (λ r. IsHead 0 second r c.in-Some.place.next) there c.in-Some.ensures.next)
    c.in_ok-push.ensures.items
