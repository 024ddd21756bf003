use Rattle.std.proofs.Common.{[], refl, rules}
use Rattle.rx_index.proofs.Numbering.{one_more}
use Rattle.rx_index.proofs.orders.unnumbered.Goals as goal

pub loop-id-preserved : goal.loop-id-preserved
loop-id-preserved c = one_more [] [] c.args.rows.now c.loop-id.list.items c.push.new.self.items _ c.loop-id.id c.loop-id.invariant refl refl refl (search rules)
