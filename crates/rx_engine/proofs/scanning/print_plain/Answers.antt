use Rattle.std.proofs.Common.{◌≡◌, sym, arith}
use Rattle.rx_store.proofs.Chains.{Keeps-chain}
use Rattle.rx_query.specs.Steps.{question_of}
use Rattle.rx_engine.proofs.Scans.{after-more, printed-more, printed-all, none_left, one_at_most}
use Rattle.rx_engine.proofs.scanning.print_plain.Goals as goal

pub loop-count-preserved : goal.loop-count-preserved
loop-count-preserved g c =
    let here = c.loop-count.invariant in
    let table = g.T.Table.means c.args.table.now in
    let q = question_of c.args.query.now in
    let next = c.in-Ok-Some in
    let row = rw next.field-0-is at (rw here.keeps.means_stays at next.ensures.row) in
    let adds = c.in-Ok.ensures in
    record {
      over = rw here.keeps.means_stays at next.ensures.over;
      after = after-more table c.args.run c.loop-count.left c.next.new.self next.row c.loop-count.count _ _ _ here.after row (rw next.field-0-is at next.ensures.counts);
      printed = printed-more table q c.args.run c.loop-count.left c.next.new.self next.row c.loop-count.printed c.print_if_selected.new.printed here.printed row adds;
      few = omega (arith, here.few, one_at_most q next.row c.loop-count.printed c.print_if_selected.new.printed adds);
      keeps = Keeps-chain g.met.T.Table.kept_chained g.met.T.Table.spent_chained _ _ _ _ here.keeps next.ensures.keeps;
    }

pub returns-clause-told : goal.returns-clause-told
returns-clause-told g c =
    let here = c.loop-count.invariant in
    let table = g.T.Table.means c.args.table.now in
    let past : c.loop-count.count ≡ c.rows-most.result = omega (arith, c.loop-count-test.false, c.loop-count.auto.count-end) in
    printed-all table (question_of c.args.query.now) c.args.run c.loop-count.left c.rows-most.result _ _ c.loop-count.printed here.printed (rw past at here.after)
    (none_left table c.args.run c.loop-count.left c.rows-most.result _ _ c.requires.short (sym c.rows-most.ensures.value) (rw past at here.after))
