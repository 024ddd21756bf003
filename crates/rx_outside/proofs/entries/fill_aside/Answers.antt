use Rattle.std.proofs.Common.{refl}
use Rattle.rx_outside.specs.Entries.{lost, filled}
use Rattle.rx_outside.proofs.Lookups.{entry_in-at, entry_in-none, changes_in_place, changes_nothing}
use Rattle.rx_outside.proofs.entries.fill_aside.Goals as goal

pub returns-in_default-clause-answer : goal.returns-in_default-clause-answer
returns-in_default-clause-answer c = rw (entry_in-none c.args.name.now c.args.entries.now c.in_default.ensures) refl

pub returns-in_default-clause-refused : goal.returns-in_default-clause-refused
returns-in_default-clause-refused c = λ _. changes_nothing lost c.args.name.now c.args.entries.now c.in_default.ensures refl

pub returns-in_default-refill-clause-answer : goal.returns-in_default-refill-clause-answer
returns-in_default-refill-clause-answer c = rw (entry_in-at c.args.name.now c.args.entries.now c.in-Some.place c.index-entries-place.result c.in-Some.ensures) (rw c.take-aside.ensures.value at c.in_default-refill.ensures.answer)

pub returns-in_default-refill-clause-refused : goal.returns-in_default-refill-clause-refused
returns-in_default-refill-clause-refused c = λ _. changes_in_place lost c.args.name.now c.args.entries.now c.args.entries.now c.in-Some.place c.index-entries-place.result _ refl c.in-Some.ensures refl (cc c.take-aside.ensures.after)

pub returns-clause-answer : goal.returns-clause-answer
returns-clause-answer c = rw (entry_in-at c.args.name.now c.args.entries.now c.in-Some.place c.index-entries-place.result c.in-Some.ensures) (rw c.take-aside.ensures.value at c.in-Some-refill.ensures.answer)

pub returns-clause-filled : goal.returns-clause-filled
returns-clause-filled c = λ _. changes_in_place (filled c.args.bytes.now) c.args.name.now c.args.entries.now c.args.entries.now c.in-Some.place c.index-entries-place.result _ refl c.in-Some.ensures refl (cc (c.take-aside.ensures.after, c.in-Some-refill.ensures.bytes))
