use Rattle.std.proofs.Common.{◌∙◌, ap}
use Rattle.rx_level.specs.Store.{total_held}
use Rattle.rx_level.proofs.Totals.{none_held}
use Rattle.rx_level.proofs.levels.Levels.live.Goals as goal

pub returns-clause-none : goal.returns-clause-none
returns-clause-none c free = c.len.ensures ∙ none_held c.self.inside.nodes c.self.invariant.sound (ap total_held c.self.view_is ∙ free)
