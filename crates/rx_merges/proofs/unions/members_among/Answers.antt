use Rattle.std.proofs.Common.{◌∙◌, All, sym, subst}
use Rattle.rx_cost.specs.Costs.{most_counted}
use Rattle.rx_merges.specs.Fitting.{IsCounted}
use Rattle.rx_merges.proofs.Keeping.{all_ordered}
use Rattle.rx_merges.proofs.Members.{all_counted}
use Rattle.rx_merges.proofs.unions.members_among.Goals as goal

pub add_first-requires : goal.add_first-requires
add_first-requires c =
    let P = IsCounted most_counted in
    subst (All P) (sym (c.as_slice.ensures ∙ c.in_ok-ordered.ensures))
    (all_ordered P c.args.schema.now c.args.scans.now (all_counted c.args.count c.args.scans.now c.requires.count c.requires.scans.counted))
