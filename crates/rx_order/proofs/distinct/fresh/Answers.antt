use Rattle.std.proofs.Common.{rules, ◌≡◌, ◌+◌, cond, nat_eq}
use Rattle.rx_order.proofs.Flags.{fresh_more}
use Rattle.rx_order.proofs.distinct.fresh.Goals as goal
use Rattle.rx_order.proofs.distinct.fresh.Goals.{then-is_new, else-is_new}

pub loop-output-preserved : goal.loop-output-preserved
loop-output-preserved c =
    let next : c.if-is_new.count ≡ cond (nat_eq c.in_ok-number.number c.loop-output.count) (c.loop-output.count + 1) c.loop-output.count =
    elim c.if-is_new.branch [ then-is_new w ↦ search rules | else-is_new w ↦ search rules ] in
    fresh_more c.args.outputs.now c.output-item.result c.loop-output.output-index c.loop-output.count _ c.in_ok-number.number c.loop-output.flags.items c.push.new.self.items c.loop-output.numbers c.number_of.new.numbers
    (search rules) (search rules) c.loop-output.invariant (search rules) (search rules) next
