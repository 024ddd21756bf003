use Rattle.std.proofs.Common.{◌≡◌, sym, arith}
use Rattle.rx_store.proofs.Chains.{Keeps-chain}
use Rattle.rx_query.specs.Steps.{question_of}
use Rattle.rx_engine.proofs.Scans.{after-more, selected-more, selected-all, none_left, kept-more}
use Rattle.rx_engine.proofs.scanning.select_rows.Goals as goal

pub loop-count-preserved : goal.loop-count-preserved
loop-count-preserved g c =
    let here = c.loop-count.invariant in
    let table = g.T.Table.means c.args.table.now in
    let q = question_of c.args.query.now in
    let next = c.in-Ok-Some in
    let row = rw next.field-0-is at (rw here.keeps.means_stays at next.ensures.row) in
    let types = rw next.field-0-is at (rw here.keeps.means_stays at next.ensures.types) in
    let kept = c.in-Ok.ensures in
    record {
      over = rw here.keeps.means_stays at next.ensures.over;
      after = after-more table c.args.run c.loop-count.left c.next.new.self next.row c.loop-count.count _ _ _ here.after row (rw next.field-0-is at next.ensures.counts);
      selected = selected-more table q c.args.run c.loop-count.left c.next.new.self next.row c.loop-count.rows c.keep_if_selected.new.kept here.selected row kept;
      few = kept-more table.schema q c.loop-count.count next.row c.loop-count.rows c.keep_if_selected.new.kept c.rows-most.ensures.sound.limits types here.few kept;
      keeps = Keeps-chain g.met.T.Table.kept_chained g.met.T.Table.spent_chained _ _ _ _ here.keeps next.ensures.keeps;
    }

pub returns-clause-told : goal.returns-clause-told
returns-clause-told g c =
    let here = c.loop-count.invariant in
    let table = g.T.Table.means c.args.table.now in
    let past : c.loop-count.count ≡ c.rows-most.result = omega (arith, c.loop-count-test.false, c.loop-count.auto.count-end) in
    selected-all table (question_of c.args.query.now) c.args.run c.loop-count.left c.rows-most.result _ _ c.loop-count.rows here.selected (rw past at here.after)
    (none_left table c.args.run c.loop-count.left c.rows-most.result _ _ c.requires.short (sym c.rows-most.ensures.value) (rw past at here.after))
