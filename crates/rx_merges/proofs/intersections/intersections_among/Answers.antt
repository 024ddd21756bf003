use Rattle.std.proofs.Common.{◌∙◌, sym, subst}
use Rattle.rx_merges.specs.Fitting.{AreScans}
use Rattle.rx_merges.proofs.Keeping.{ordered_are, filters_are}
use Rattle.rx_merges.proofs.intersections.intersections_among.Goals as goal

pub intersections_with-requires-clause-ordered : goal.intersections_with-requires-clause-ordered
intersections_with-requires-clause-ordered c =
    subst (AreScans c.args.schema.now c.args.count) (sym (c.as_slice.ensures ∙ c.in_ok-ordered.ensures))
    (ordered_are c.args.schema.now c.args.count c.args.scans.now c.requires.scans)

pub intersections_with-requires-clause-filters : goal.intersections_with-requires-clause-filters
intersections_with-requires-clause-filters c =
    subst (AreScans c.args.schema.now c.args.count) (sym (c.as_slice-2.ensures ∙ c.in_ok-filters.ensures))
    (filters_are c.args.schema.now c.args.count c.args.scans.now c.requires.scans)
