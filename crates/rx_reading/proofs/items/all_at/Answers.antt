use Rattle.std.proofs.Common.{arith}
use Rattle.rx_reading.specs.Reading.{past}
use Rattle.rx_reading.proofs.Going.{goes_on, ends}
use Rattle.rx_reading.proofs.items.all_at.Goals as goal

pub returns-in_default : goal.returns-in_default
returns-in_default g c =
    let none = rw c.in_default.is at c.in_ok-next.ensures.0 in
    (ends (past c.args.separator) (g.I.Item.reader c.args.item.now) _ _ _ c.items.invariant.read none, c.items.invariant.within)

pub items-preserved : goal.items-preserved
items-preserved g c =
    let read = rw c.in-Some.is at c.in_ok-next.ensures.0 in
    let shorter = rw c.in-Some.is at c.in_ok-next.ensures.1 in
    let within = c.items.invariant.within in
    record {
      read = rw c.in_ok-push.ensures.ok (goes_on (past c.args.separator) (g.I.Item.reader c.args.item.now) _ _ _ _ _ c.items.invariant.read read shorter);
      within = omega arith;
    }
