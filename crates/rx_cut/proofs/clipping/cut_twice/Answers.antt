use Rattle.std.proofs.Common.{◌∷◌, [], arith, sym, subst}
use Rattle.rx_level.specs.Step.{level_of}
use Rattle.rx_weld.proofs.Welded.{owned_lent}
use Rattle.rx_tree.specs.Cuts.{AreInOrder}
use Rattle.rx_tree.proofs.Sides.{before_order}
use Rattle.rx_cut.proofs.clipping.cut_twice.Goals as goal

pub behind-requires-clause-root : goal.behind-requires-clause-root
behind-requires-clause-root c =
    owned_lent c.ahead.new.levels (c.in_ok-front.front ∷ []) c.in_ok-front.front (record { sound = c.in_ok-front.ensures.ok.sound; owned = λ m. omega (arith, c.in_ok-front.ensures.ok.held m) }) (λ m. omega arith)

pub behind-requires-clause-order : goal.behind-requires-clause-order
behind-requires-clause-order c = subst AreInOrder (sym c.in_ok-front.ensures.level) (before_order c.args.span.now.hi (level_of c.args.levels.now c.args.root) c.requires.order)
