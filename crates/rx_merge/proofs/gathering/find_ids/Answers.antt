use Rattle.std.proofs.Common.{◌≡◌, ◌<◌, length, sym, ◌∙◌, rules}
use Rattle.std.specs.Prelude.{◌^◌}
use Rattle.rx_merge.proofs.Reading.{many_read, reads_many, reads_seeks}
use Rattle.rx_merge.proofs.Scanned.{ids_by_entries, read_by_entries, read_by_places}
use Rattle.rx_merge.proofs.gathering.find_ids.Goals as goal

pub returns-in-Ok-read_ids-clause-told : goal.returns-in-Ok-read_ids-clause-told
returns-in-Ok-read_ids-clause-told g c =
    let scan = c.args.scan.now in
    ids_by_entries (g.T.Table.means c.args.table.now) scan.index scan.ranges c.in-Ok.places c.is_primary-primary.ensures.sound c.in-Ok.ensures.told c.in-Ok-read_ids.ids
    (sym c.is_primary-primary.ensures.value ∙ c.if-primary.false) (rw c.in-Ok.ensures.keeps.means_stays at c.in-Ok-read_ids.ensures.told)

pub returns-in-Ok-read_ids-clause-reads : goal.returns-in-Ok-read_ids-clause-reads
returns-in-Ok-read_ids-clause-reads g c =
    let scan = c.args.scan.now in
    let table = g.T.Table.means c.args.table.now in
    let n = c.len-entries.result in
    let many : n ≡ length c.in-Ok-read_ids.ids = c.len-entries.ensures in
    let few : n < 2 ^ 64 = search rules in
    reads_many table scan (length c.in-Ok-read_ids.ids) n _ _ _
    (many_read table.told (length c.in-Ok.places) (length c.in-Ok-read_ids.ids) scan c.in-Ok-read_ids.ensures.many
    (read_by_entries table scan.index scan.ranges c.in-Ok.places c.is_primary-primary.ensures.sound c.in-Ok.ensures.told (sym c.is_primary-primary.ensures.value ∙ c.if-primary.false)))
    c.in-Ok.ensures.counts c.in-Ok-read_ids.ensures.counts few many

pub returns-in-Ok-list_places-clause-reads : goal.returns-in-Ok-list_places-clause-reads
returns-in-Ok-list_places-clause-reads g c =
    let scan = c.args.scan.now in
    let table = g.T.Table.means c.args.table.now in
    reads_seeks table scan _ _
    (read_by_places table scan.index scan.ranges c.in-Ok.places c.is_primary-primary.ensures.sound c.in-Ok.ensures.told (sym c.is_primary-primary.ensures.value ∙ c.if-primary.true))
    c.in-Ok.ensures.counts
