use Rattle.std.proofs.Common.{◌≡◌, drop}
use Rattle.rx_schema.specs.Given.{first_given}
use Rattle.rx_schema.specs.Profile.{item_misfit}
use Rattle.rx_schema.proofs.profile.first_item_misfit.Given as goal

-- no column and no key so far has any
abbrev pub invariant-loop-item : goal.invariant-loop-item
invariant-loop-item l =
    first_given (item_misfit l.defaults l.columns) (drop l.item-index l.items) ≡ first_given (item_misfit l.defaults l.columns) l.items
