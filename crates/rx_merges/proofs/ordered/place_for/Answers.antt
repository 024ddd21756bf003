use Rattle.std.proofs.Common.{sym, ◌∙◌}
use Rattle.rx_merges.specs.Ordered.{goes_first}
use Rattle.rx_merges.proofs.Picking.{place_missed}
use Rattle.rx_merges.proofs.ordered.place_for.Goals as goal

pub returns-in-None-clause-value : goal.returns-in-None-clause-value
returns-in-None-clause-value c = place_missed (goes_first c.args.scan.now) c.args.scans.now (sym c.find_place.ensures ∙ c.in-None.is)
