use Rattle.std.proofs.Common.{◌≡◌, drop}
use Rattle.rx_query.specs.Settings.{applied}
use Rattle.rx_query.proofs.settings.apply.Given as goal

-- the changes ahead lead from the settings so far to the settings after all
abbrev pub invariant-loop-setting : goal.invariant-loop-setting
invariant-loop-setting l = applied l.after (drop l.setting-index l.change) ≡ applied l.settings l.change
