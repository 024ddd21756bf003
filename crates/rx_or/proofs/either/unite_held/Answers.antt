use Rattle.std.proofs.Common.{Some, arith}
use Rattle.rx_weld.proofs.Welded.{owned_lent}
use Rattle.rx_or.proofs.either.unite_held.Goals as goal

pub unite-requires-clause-g : goal.unite-requires-clause-g
unite-requires-clause-g c = owned_lent c.args.levels.now _ (Some c.args.g) c.requires.owns (λ m. omega arith)

pub unite-requires-clause-h : goal.unite-requires-clause-h
unite-requires-clause-h c = owned_lent c.args.levels.now _ (Some c.args.h) c.requires.owns (λ m. omega arith)
