use Rattle.std.proofs.Common.{◌≡◌, ◌++◌, drop}
use Rattle.std.specs.Prelude.{find}
use Rattle.rx_statement.specs.Changes.{is_bad, all_set}
use Rattle.rx_statement.proofs.changes.changed.Given as goal

-- no setting so far is bad, and what they set and what those left set is all
abbrev pub invariant-loop-setting : goal.invariant-loop-setting
invariant-loop-setting l = record {
  good : find is_bad (drop l.setting-index l.settings) ≡ find is_bad l.settings;
  all : l.list ++ all_set (drop l.setting-index l.settings) ≡ all_set l.settings;
}
