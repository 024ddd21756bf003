use Rattle.std.proofs.Common.{rules}
use Rattle.rx_run.proofs.Opening.{merge_opened}
use Rattle.rx_run.proofs.runs.open_merged.Goals as goal

pub returns-in-Ok-open_merge-clause-opened : goal.returns-in-Ok-open_merge-clause-opened
returns-in-Ok-open_merge-clause-opened g c =
    let table = g.T.Table.means c.args.table.now in
    merge_opened table c.args.c.now c.in-Ok-open_merge.ids c.merge_reads-reads.result c.in-Ok-open_merge.ensures.opened (search rules) c.requires.kind c.in-Ok.row (search rules)
