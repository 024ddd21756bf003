use Rattle.std.proofs.Common.{length, ap, ◌∙◌}
use Rattle.rx_scan.specs.Runs.{range_way}
use Rattle.rx_scan.proofs.Opened.{range_opened, index_there}
use Rattle.rx_scan.proofs.runs.open_range.Goals as goal

pub returns-in-Ok-clause-opened : goal.returns-in-Ok-clause-opened
returns-in-Ok-clause-opened g c =
    let table = g.T.Table.means c.args.table.now in
    let scan = c.scan_of-scan.result.now in
    range_opened table c.args.c.now scan.index scan.ranges c.range_way-way.result c.in-Ok.places c.scan_of-scan.ensures.index c.scan_of-scan.ensures.ranges
    (index_there c.args.c.now c.requires.scan scan.index (length table.schema.indexes) c.requires.one c.scan_of-scan.ensures.index c.requires.there)
    (c.range_way-way.ensures ∙ ap (λ b. range_way b c.args.c.now.index_only scan.index) c.is_primary.ensures.value)
    c.is_primary.ensures.sound c.in-Ok.ensures.within c.in-Ok.ensures.told
