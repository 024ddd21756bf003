use Rattle.std.proofs.Common.{All, sym, subst}
use Rattle.std.proofs.lemmas.List.Elements.{All-tail, All-get_or}
use Rattle.rx_merges.specs.Fitting.{IsCounted}
use Rattle.rx_merges.proofs.counts.rows_met.Goals as goal

pub rows_left-rows-requires-clause-scan : goal.rows_left-rows-requires-clause-scan
rows_left-rows-requires-clause-scan c =
    let P = IsCounted c.args.count in
    let others = All-tail P c.in-Some.first.now c.in-Some.others.now (subst (All P) c.in-Some.ensures.cases.0 c.requires.each) in
    subst P (sym c.scan-item.is) (All-get_or P c.in-Some.others.now c.loop-scan.scan-index c.scan-item.result c.loop-scan-test.true others)
