use Rattle.std.proofs.Common.{refl}
use Rattle.rx_outside.specs.Entries.{lost}
use Rattle.rx_outside.proofs.Lookups.{changes_in_place, changes_nothing}
use Rattle.rx_outside.proofs.entries.lose.Goals as goal

pub returns-in_default : goal.returns-in_default
returns-in_default c = changes_nothing lost c.args.name.now c.args.entries.now c.in_default.ensures refl

pub returns : goal.returns
returns c = changes_in_place lost c.args.name.now c.args.entries.now c.args.entries.now c.in-Some.place c.index-entries-place.result _ refl c.in-Some.ensures refl refl
