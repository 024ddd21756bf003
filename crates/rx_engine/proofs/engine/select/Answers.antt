use Rattle.std.proofs.Common.{sym}
use Rattle.rx_query.specs.Steps.{question_of}
use Rattle.rx_engine.proofs.Made.{block_told}
use Rattle.rx_engine.proofs.Blocks.{cut_block}
use Rattle.rx_engine.specs.Blocks.{block_for}
use Rattle.rx_engine.specs.Seen.{sink_seen}
use Rattle.rx_engine.proofs.engine.select.Goals as goal

pub returns-clause-stopped : goal.returns-clause-stopped
returns-clause-stopped g c =
    let table = g.T.Table.means c.args.table.now in
    let q = question_of c.args.query.now in
    let made = c.in-Ok.made in
    let put = c.in-Err-write_all.ensures in
    cut_block table (block_for c.args.settings c.args.number q table) made.text (sink_seen g.O.Sink.text g.O.Sink.faults g.O.Sink.room c.args.out.now)
    (sink_seen g.O.Sink.text g.O.Sink.faults g.O.Sink.room c.write_all.new.out) (block_told c.args.settings c.args.number q table made c.in-Ok.ensures.told) (rw c.as_slice.ensures at put.front) put.cause put.later
    (λ r e fits. absurd (cc (put.sure r e (rw (sym c.as_slice.ensures) at fits)).0))
