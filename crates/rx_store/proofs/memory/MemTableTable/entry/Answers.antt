use Rattle.std.proofs.Common.{rules, subst}
use Rattle.rx_store.specs.Stored.{in_memory}
use Rattle.rx_store.specs.Tables.{FitsEntry}
use Rattle.rx_store.proofs.FittingKeys.{entry_fits}
use Rattle.rx_store.proofs.memory.MemTableTable.entry.Goals as goal

pub returns-clause-fits : goal.returns-clause-fits
returns-clause-fits c =
    subst (λ t. FitsEntry (in_memory t.table t.statistics) c.args.index c.in-Ok.entry) c.self.view_is (record {
      id = c.in-Ok.ensures.below;
      key = entry_fits c.self.inside.table c.self.inside.statistics c.args.index c.in-Ok.entry.id c.in-Ok.entry.key c.self.invariant (search rules) c.in-Ok.ensures.below c.in-Ok.ensures.key;
    })
