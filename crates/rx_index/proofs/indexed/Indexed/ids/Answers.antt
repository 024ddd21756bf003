use Rattle.std.proofs.Common.{length, ap, subst, sym, ◌∙◌, rules, arith}
use Rattle.rx_index.specs.Entries.{IsOrder, parts_at}
use Rattle.rx_index.proofs.Numbers.{ids_there, ids_read}
use Rattle.rx_index.proofs.indexed.Indexed.ids.Goals as goal

pub bounds-as_slice-index : goal.bounds-as_slice-index
bounds-as_slice-index c = omega (arith, (ids_there c.args.self.now c.args.index c.requires.entered c.requires.there).0, ap length c.as_slice.ensures)

pub returns-clause-value : goal.returns-clause-value
returns-clause-value c = c.as_slice-2.ensures ∙ ids_read c.args.self.now c.args.index _ (ids_there c.args.self.now c.args.index c.requires.entered c.requires.there).0 (search rules)

pub returns-clause-order : goal.returns-clause-order
returns-clause-order c =
    subst (IsOrder (parts_at c.args.self.now c.args.index) c.args.self.now.rows) (sym (returns-clause-value c))
    (ids_there c.args.self.now c.args.index c.requires.entered c.requires.there).1
