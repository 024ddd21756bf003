use Rattle.std.proofs.Common.{◌≡◌, ◌++◌, take}
use Rattle.rx_statement.proofs.switches.append.Given as goal

abbrev pub invariant-loop-setting : goal.invariant-loop-setting
invariant-loop-setting l = l.list ≡ l.fn.list ++ take l.setting-index l.more
