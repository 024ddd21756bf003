use Rattle.std.proofs.Common.{◌∷◌, [], ◌++◌, ℕ, ap, sym, ◌∙◌, subst}
use Rattle.std.specs.List.{sum_by, AllZip}
use Rattle.std.proofs.lemmas.List.Elements.{AllZip-push}
use Rattle.std.proofs.lemmas.List.Sums.{sum_by_push}
use Rattle.rx_store.proofs.Chains.{Keeps-chain, Keeps-without_memory}
use Rattle.rx_estimate.specs.Estimates.{dive_seeks, with_seeks}
use Rattle.rx_estimate.proofs.Steps.{with_seeks-more}
use Rattle.rx_cost.specs.declared.candidates.Scan.{Scan}
use Rattle.rx_merge_plan.specs.Disjuncts.{IsCountedScan}
use Rattle.rx_merge_plan.proofs.counting.count_scans.Goals as goal

pub loop-scan-preserved : goal.loop-scan-preserved
loop-scan-preserved g c =
    let here = c.loop-scan.invariant in
    let settings = c.args.settings.now in
    let R = IsCountedScan settings (g.T.Table.means c.args.table.now) in
    let seeks : Scan → ℕ = λ (x : Scan). dive_seeks settings.dive_limit x.ranges in
    let done = c.loop-scan.yielded in
    let scan = c.in-Some.scan in
    let before = (g.T.Table.tally c.args.table.now).counts in
    record {
      are = subst (AllZip R (done ++ scan ∷ [])) (sym c.in-Ok-push.ensures.ok)
          (AllZip-push R done c.loop-scan.list scan c.in-Ok.counted here.are (rw here.keeps.means_stays at c.in-Ok.ensures.is));
      counts = c.in-Ok.ensures.counts ∙ with_seeks-more (sum_by seeks done) (seeks scan) before (g.T.Table.tally c.loop-scan.table).counts here.counts
          ∙ ap (λ n. with_seeks n before) (sym (sum_by_push seeks done scan));
      keeps = Keeps-chain g.met.T.Table.kept_chained g.met.T.Table.spent_chained _ _ _ _ here.keeps c.in-Ok.ensures.keeps;
    }

pub returns-in_default-clause-cause : goal.returns-in_default-clause-cause
returns-in_default-clause-cause g c =
    Keeps-without_memory g.met.T.Table.kept_chained g.met.T.Table.spent_chained _ _
    (Keeps-chain g.met.T.Table.kept_chained g.met.T.Table.spent_chained _ _ _ _ c.loop-scan.invariant.keeps c.in-Ok.ensures.keeps)
