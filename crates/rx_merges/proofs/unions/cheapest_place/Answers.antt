use Rattle.std.proofs.Common.{ap, arith}
use Rattle.rx_merges.specs.Intersections.{ids_of}
use Rattle.rx_merges.proofs.Least.{scan-lower, scan-kept}
use Rattle.rx_merges.proofs.unions.cheapest_place.Goals as goal
use Rattle.rx_merges.proofs.unions.cheapest_place.Goals.{then-ids_of, else-ids_of}

pub loop-i-preserved : goal.loop-i-preserved
loop-i-preserved c =
    let scans = c.args.scans.now in
    let best = c.loop-i.best in
    let i = c.loop-i.i in
    let d = c.index-scans-i.result in
    let e = c.index-scans-best.result in
    elim c.if-ids_of.branch [
      | then-ids_of w ↦ rw w.best-is (scan-lower scans best i d e c.loop-i.invariant c.loop-i-test.true
          (omega (arith, w.if-ids_of.true, c.ids_of.ensures.value, c.ids_of-in-loop-i.ensures.value, ap ids_of c.index-scans-i.is, ap ids_of c.index-scans-best.is)))
      | else-ids_of w ↦ rw w.best-is (scan-kept scans best i d e c.loop-i.invariant c.loop-i-test.true
          (omega (arith, w.if-ids_of.false, c.ids_of.ensures.value, c.ids_of-in-loop-i.ensures.value, ap ids_of c.index-scans-i.is, ap ids_of c.index-scans-best.is)))
    ]
