use Rattle.rx_level.proofs.Marks.{no_marks, numbered}
use Rattle.rx_level.proofs.marking.count_under.Goals as goal

pub mark-requires-clause-closed : goal.mark-requires-clause-closed
mark-requires-clause-closed c = no_marks c.args.nodes.now c.args.marks.now c.requires.unmarked

pub returns : goal.returns
returns c = numbered c.args.nodes.now c.args.root _ c.args.marks.now c.mark.new.marks c.requires.unmarked c.mark.ensures c.count_marks.ensures
