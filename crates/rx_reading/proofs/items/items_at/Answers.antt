use Rattle.std.proofs.Common.{arith}
use Rattle.rx_reading.specs.Reading.{past}
use Rattle.rx_reading.proofs.Going.{nothing, first_read}
use Rattle.rx_reading.proofs.items.items_at.Goals as goal

pub returns-in_default : goal.returns-in_default
returns-in_default g c =
    let none = rw c.in_default.is at c.in_ok-first.ensures.0 in
    (nothing (past c.args.separator) (g.I.Item.reader c.args.item.now) _ none, tt)

pub returns : goal.returns
returns g c =
    let first = rw c.in-Some.is at c.in_ok-first.ensures.0 in
    let shorter = rw c.in-Some.is at c.in_ok-first.ensures.1 in
    let all = rw (c.in_ok-push.ensures.ok, c.new-items.ensures) at c.in_ok-read.ensures.0 in
    let within = c.in_ok-read.ensures.1 in
    (first_read (past c.args.separator) (g.I.Item.reader c.args.item.now) _ _ _ _ first all, omega arith)
