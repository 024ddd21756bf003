use Rattle.std.proofs.Common.{◌∷◌, [], ◌++◌, All, ap, sym, ◌∙◌, subst}
use Rattle.std.specs.List.{sum_by, AllZip}
use Rattle.std.proofs.lemmas.List.Elements.{All-head, All-tail, AllZip-push}
use Rattle.std.proofs.lemmas.List.Sums.{sum_by_push}
use Rattle.std.specs.Vec.Iter.{into_iter_items}
use Rattle.rx_store.proofs.Chains.{Keeps-chain, Keeps-without_memory}
use Rattle.rx_estimate.specs.Estimates.{with_seeks}
use Rattle.rx_estimate.proofs.Steps.{with_seeks-more}
use Rattle.rx_merge_plan.specs.Lists.{AreFound, AreCounted, scan_seeks}
use Rattle.rx_merge_plan.proofs.Counted.{there_found}
use Rattle.rx_merge_plan.proofs.disjoining.count_lists.Goals as goal

pub count_scans-requires : goal.count_scans-requires
count_scans-requires g c =
    let table = g.T.Table.means c.args.table.now in
    let P = AreFound table.schema in
    let left : All P (c.in-Some.scans ∷ into_iter_items c.next.new.self) = subst (All P) c.in-Some.ensures.steps.0 c.loop-scans.invariant.left in
    there_found table (g.T.Table.means c.loop-scans.table) c.in-Some.scans c.loop-scans.invariant.keeps.means_stays
    (All-head P c.in-Some.scans (into_iter_items c.next.new.self) left)

pub loop-scans-preserved : goal.loop-scans-preserved
loop-scans-preserved g c =
    let here = c.loop-scans.invariant in
    let settings = c.args.settings.now in
    let R = AreCounted settings (g.T.Table.means c.args.table.now) in
    let done = c.loop-scans.yielded in
    let scans = c.in-Some.scans in
    let before = (g.T.Table.tally c.args.table.now).counts in
    let P = AreFound (g.T.Table.means c.args.table.now).schema in
    record {
      left = All-tail P scans (into_iter_items c.next.new.self) (subst (All P) c.in-Some.ensures.steps.0 here.left);
      are = subst (AllZip R (done ++ scans ∷ [])) (sym c.in-Ok-push.ensures.ok)
          (AllZip-push R done c.loop-scans.list scans c.in-Ok.counted here.are (rw here.keeps.means_stays at c.in-Ok.ensures.are));
      counts = c.in-Ok.ensures.counts ∙ with_seeks-more (sum_by (scan_seeks settings) done) (scan_seeks settings scans) before
          (g.T.Table.tally c.loop-scans.table).counts here.counts
          ∙ ap (λ n. with_seeks n before) (sym (sum_by_push (scan_seeks settings) done scans));
      keeps = Keeps-chain g.met.T.Table.kept_chained g.met.T.Table.spent_chained _ _ _ _ here.keeps c.in-Ok.ensures.keeps;
    }

pub returns-in_default-clause-cause : goal.returns-in_default-clause-cause
returns-in_default-clause-cause g c =
    Keeps-without_memory g.met.T.Table.kept_chained g.met.T.Table.spent_chained _ _
    (Keeps-chain g.met.T.Table.kept_chained g.met.T.Table.spent_chained _ _ _ _ c.loop-scans.invariant.keeps c.in-Ok.ensures.keeps)
