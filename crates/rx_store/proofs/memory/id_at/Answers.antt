use Rattle.std.proofs.Common.{subst, arith, ◌≡◌, slice_get, get_or, Some}
use Rattle.rx_index.specs.Entries.{parts_at}
use Rattle.rx_store.proofs.Places.{as_many, there, of_row}
use Rattle.rx_store.proofs.memory.id_at.Goals as goal

pub bounds-ids-place : goal.bounds-ids-place
bounds-ids-place c =
    omega (arith, as_many (parts_at c.args.t.now c.args.index) c.args.t.now.rows c.ids.result.now c.ids.ensures.order, c.requires.place)

pub returns-clause-value : goal.returns-clause-value
returns-clause-value c =
    subst (λ l. slice_get l c.args.place ≡ Some (get_or c.ids.result.now c.args.place 0)) c.ids.ensures.value
    (there (parts_at c.args.t.now c.args.index) c.args.t.now.rows c.ids.result.now c.ids.ensures.order c.args.place 0 c.requires.place)

pub returns-clause-below : goal.returns-clause-below
returns-clause-below c =
    of_row (parts_at c.args.t.now c.args.index) c.args.t.now.rows c.ids.result.now c.ids.ensures.order c.args.place 0 c.requires.place
