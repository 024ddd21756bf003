use Rattle.std.proofs.Common.{◌<◌, None, IfSome, take}
use Rattle.rx_store.specs.Tables.{IsMeaning, Keeps}
use Rattle.rx_merge.specs.Merged.{AreMembers, AreBelow}
use Rattle.rx_merge.specs.Runs.{ReadsIds}
use Rattle.rx_merge.proofs.gathering.gather.Given as goal

-- the ids of members by the scans so far
abbrev pub invariant-loop-scan : goal.invariant-loop-scan
invariant-loop-scan g l =
    let table = g.T.Table.means l.initial.table in
    record {
      told : IfSome table.told (λ t. AreMembers t (take l.scan-index l.scans) l.members);
      within : AreBelow table.count l.members;
      reads : ReadsIds table (take l.scan-index l.scans) (g.T.Table.tally l.initial.table).counts (g.T.Table.tally l.table).counts l.entries;
      sound : 0 < l.scan-index → IsMeaning table;
      keeps : Keeps g.T.Table.means g.T.Table.tally g.T.Table.kept g.T.Table.spent None l.initial.table l.table;
    }
