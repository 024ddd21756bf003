use Rattle.std.proofs.Common.{None, rules}
use Rattle.rx_store.proofs.Chains.{Keeps-chain}
use Rattle.rx_merge.proofs.Gathered.{members_more, below_more, read_more}
use Rattle.rx_merge.proofs.gathering.gather.Goals as goal

pub loop-scan-preserved : goal.loop-scan-preserved
loop-scan-preserved g c =
    let table = g.T.Table.means c.args.table.now in
    let scans = c.args.scans.now in
    let scan = c.scan-item.result in
    let before = c.loop-scan.invariant in
    let means = before.keeps.means_stays in
    record {
      told = members_more scans c.loop-scan.scan-index scan c.in-Ok.found.ids c.sorted.result c.loop-scan.members c.meet.new.members (search rules) (search rules) c.sorted.ensures.same c.in-Ok-meet.ensures
          table.told before.told (rw means at c.in-Ok.ensures.told);
      within = below_more scans c.loop-scan.scan-index scan c.in-Ok.found.ids c.sorted.result c.loop-scan.members c.meet.new.members (search rules) (search rules) c.sorted.ensures.same c.in-Ok-meet.ensures
          table.count before.within (rw means at c.in-Ok.ensures.within);
      reads = read_more table scans c.loop-scan.scan-index scan _ _ _ _ _ _ (search rules) (search rules) c.saturating_add-entries.ensures before.reads (rw means at c.in-Ok.ensures.reads);
      sound = λ lt. rw means at c.find_ids.ensures.sound;
      keeps = Keeps-chain g.met.T.Table.kept_chained g.met.T.Table.spent_chained None _ _ _ before.keeps c.in-Ok.ensures.keeps;
    }
