use Rattle.std.proofs.Common.{◌≡◌, drop}
use Rattle.rx_outside.specs.Entries.{contents_in}
use Rattle.rx_outside.proofs.entries.contents_under.Given as goal

abbrev pub invariant-loop-entry : goal.invariant-loop-entry
invariant-loop-entry l = contents_in l.entries l.name ≡ contents_in (drop l.entry-index l.entries) l.name
