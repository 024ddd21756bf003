use Rattle.std.proofs.Common.{◌≡◌, rules, sym, subst}
use Rattle.rx_merge.specs.Runs.{IsOpened}
use Rattle.rx_merge.proofs.Gathered.{opened}
use Rattle.rx_merge.proofs.Reading.{reads_exact, reads_counted, entries_counted}
use Rattle.rx_merge.proofs.merges.open_merge.Goals as goal

pub returns-in-Ok-any_of-clause-opened : goal.returns-in-Ok-any_of-clause-opened
returns-in-Ok-any_of-clause-opened g c =
    let table = g.T.Table.means c.args.table.now in
    let same : c.into_iter.result.rest.items ≡ c.in-Ok-any_of.ids = search rules in
    subst (λ ids. IsOpened table c.args.c.now (record { left = ids; entries = c.in-Ok.gathered.entries })) (sym same)
    (opened table c.args.c.now c.in-Ok.gathered.members c.in-Ok-any_of.ids c.in-Ok.ensures.sound c.in-Ok-any_of.ensures.ordered c.in-Ok-any_of.ensures.each c.in-Ok-any_of.ensures.rising
    c.in-Ok.ensures.within c.in-Ok.gathered.entries (entries_counted table c.args.c.now.scans _ _ c.in-Ok.gathered.entries c.in-Ok.ensures.reads) c.in-Ok.ensures.told)

pub returns-in-Ok-any_of-clause-counts : goal.returns-in-Ok-any_of-clause-counts
returns-in-Ok-any_of-clause-counts g c = reads_exact (g.T.Table.means c.args.table.now) c.args.c.now _ _ _ c.in-Ok.ensures.reads

pub returns-in-Ok-any_of-clause-reads : goal.returns-in-Ok-any_of-clause-reads
returns-in-Ok-any_of-clause-reads g c = reads_counted (g.T.Table.means c.args.table.now) c.args.c.now.scans _ _ _ c.in-Ok.ensures.reads
