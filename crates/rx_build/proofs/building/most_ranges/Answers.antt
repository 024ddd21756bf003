use Rattle.std.proofs.Common.{◌+◌, ◌-◌, take, List, Option, subst, arith}
use Rattle.rx_value.specs.declared.ranges.KeyRange.{KeyRange}
use Rattle.rx_cond.specs.Tree.{tree_of}
use Rattle.rx_build.specs.Building.{IsAttempt}
use Rattle.rx_build.proofs.Known.{used_on}
use Rattle.rx_build.proofs.building.most_ranges.Goals as goal

pub returns-in-Some : goal.returns-in-Some
returns-in-Some c =
    let columns = c.args.columns.now in
    let parts = c.args.parts.now in
    let limit = c.args.items in
    let t = tree_of c.args.cond.now in
    let p = c.loop-before.before - 1 + 1 in
    used_on columns parts limit t p c.in-Some.list (omega arith) (omega arith)
    (subst (λ (found : Option (List KeyRange)). IsAttempt columns (take p parts) limit t found) c.in-Some.is c.in_ok-list.ensures)
    (λ q less there. c.loop-before.invariant q (omega (arith, less)) there)
