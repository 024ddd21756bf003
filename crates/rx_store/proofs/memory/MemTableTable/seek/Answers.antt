use Rattle.std.proofs.Common.{rules, length, ◌≤◌, sym, subst}
use Rattle.rx_store.proofs.Places.{no_more}
use Rattle.rx_store.proofs.memory.MemTableTable.seek.Goals as goal

pub returns-clause-within : goal.returns-clause-within
returns-clause-within c =
    subst (λ t. c.seek-place.result ≤ length t.table.rows) c.self.view_is
    (subst (λ n. n ≤ length c.self.inside.table.rows) (sym c.seek-place.ensures)
    (no_more c.self.inside.table c.args.index c.args.bound.points.now c.args.bound.rest c.self.invariant.entered (search rules)))
