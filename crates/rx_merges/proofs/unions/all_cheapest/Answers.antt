use Rattle.std.proofs.Common.{◌∷◌, [], length, Some, All, ap, sym, ◌∙◌, subst, arith, IfSome, Option}
use Rattle.std.proofs.lemmas.List.{length-append}
use Rattle.std.proofs.lemmas.List.Elements.{All-push}
use Rattle.rx_cost.specs.declared.candidates.Scan.{Scan}
use Rattle.rx_cost.specs.Costs.{most_counted}
use Rattle.rx_merges.specs.Fitting.{IsCounted}
use Rattle.rx_merges.specs.Unions.{cheapest}
use Rattle.rx_merges.proofs.There.{there_more, not_there}
use Rattle.rx_merges.proofs.unions.all_cheapest.Goals as goal

pub returns-in-None-clause-value : goal.returns-in-None-clause-value
returns-in-None-clause-value c =
    sym (not_there cheapest c.args.lists.now c.loop-list.list-index c.list-item.result c.loop-list-test.true
    (ap cheapest (sym c.list-item.is ∙ sym c.as_slice.ensures) ∙ sym c.in_ok-scan.ensures.value ∙ c.in-None.is))

pub loop-list-preserved : goal.loop-list-preserved
loop-list-preserved c =
    let P = IsCounted most_counted in
    let here = c.loop-list.invariant in
    let pushed = c.in_ok-push-in-Some.ensures.ok in
    let gives = ap cheapest (sym c.list-item.is ∙ sym c.as_slice.ensures) ∙ sym c.in_ok-scan.ensures.value ∙ c.in-Some.is in
    let one = subst (λ (o : Option Scan). IfSome o P) c.in-Some.is c.in_ok-scan.ensures.counted in
    record {
      value = there_more cheapest c.args.lists.now c.loop-list.list-index c.list-item.result c.loop-list.scans c.in-Some.scan c.loop-list-test.true here.value gives ∙ ap Some (sym pushed);
      few = omega (arith, here.few, ap length pushed, length-append c.loop-list.scans (c.in-Some.scan ∷ []));
      each = subst (All P) (sym pushed) (All-push P c.loop-list.scans c.in-Some.scan here.each one);
    }
