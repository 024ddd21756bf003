use Rattle.rx_outside.specs.Entries.{with_aside}
use Rattle.rx_outside.proofs.Lookups.{changes_in_place, changes_at_end}
use Rattle.rx_outside.proofs.entries.set_aside.Goals as goal

pub returns-in-Some-clause-ok : goal.returns-in-Some-clause-ok
returns-in-Some-clause-ok c = changes_in_place (with_aside c.args.name.now c.args.n) c.args.name.now c.as_slice.result.now c.args.entries.now.items c.in-Some.place c.index_mut-entry.result.now _ c.as_slice.ensures.value c.in-Some.ensures (cc c.index_mut-entry.ensures.value) (cc (c.index_mut-entry.ensures.value, c.in_ok-aside.ensures))

pub returns-clause-ok : goal.returns-clause-ok
returns-clause-ok c = rw c.in_ok-push.ensures.items (changes_at_end (with_aside c.args.name.now c.args.n) c.args.name.now c.as_slice.result.now c.args.entries.now.items _ c.as_slice.ensures.value c.in_default.ensures c.in_ok-name.ensures (cc (c.in_ok-name.ensures, c.in_ok-aside.ensures)))
