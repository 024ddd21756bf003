use Rattle.std.proofs.Common.{length, ap, subst, sym, ◌∙◌, rules, arith}
use Rattle.rx_index.specs.Different.{AreDifferent}
use Rattle.rx_index.specs.Entries.{parts_at}
use Rattle.rx_index.proofs.Numbers.{different_there, different_read}
use Rattle.rx_index.proofs.indexed.Indexed.different.Goals as goal

pub bounds-as_slice-index : goal.bounds-as_slice-index
bounds-as_slice-index c = omega (arith, (different_there c.args.self.now c.args.index c.requires.entered c.requires.there).0, ap length c.as_slice.ensures)

pub returns-clause-value : goal.returns-clause-value
returns-clause-value c = c.as_slice-2.ensures ∙ different_read c.args.self.now c.args.index _ (different_there c.args.self.now c.args.index c.requires.entered c.requires.there).0 (search rules)

pub returns-clause-different : goal.returns-clause-different
returns-clause-different c =
    subst (AreDifferent (parts_at c.args.self.now c.args.index) c.args.self.now.rows) (sym (returns-clause-value c))
    (different_there c.args.self.now c.args.index c.requires.entered c.requires.there).1
