use Rattle.std.proofs.Common.{Some, ap, sym, ◌∙◌, subst}
use Rattle.std.proofs.lemmas.List.Elements.{All-get_or}
use Rattle.rx_cost.specs.Costs.{most_counted}
use Rattle.rx_merges.specs.Fitting.{IsCounted}
use Rattle.rx_merges.proofs.Least.{cheapest_at, place_there}
use Rattle.rx_merges.proofs.unions.cheapest.Goals as goal

pub returns-clause-value : goal.returns-clause-value
returns-clause-value c =
    ap Some c.in_ok-scan.ensures ∙ cheapest_at c.args.scans.now c.cheapest_place.result c.index-scans-cheapest_place.result c.cheapest_place.ensures c.index-scans-cheapest_place.is

pub returns-clause-counted : goal.returns-clause-counted
returns-clause-counted c =
    let P = IsCounted most_counted in
    subst P (sym c.in_ok-scan.ensures)
    (subst P (sym c.index-scans-cheapest_place.is)
    (All-get_or P c.args.scans.now c.cheapest_place.result c.index-scans-cheapest_place.result (place_there c.args.scans.now c.cheapest_place.result c.cheapest_place.ensures) c.requires))
