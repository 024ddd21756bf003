use Rattle.std.proofs.Common.{arith, refl, ap, ◌∙◌, length}
use Rattle.rx_walk.specs.Ranges.{is_all}
use Rattle.rx_walk.proofs.Begun.{lent_at, whole_bare, begun}
use Rattle.rx_walk.proofs.ranges.Ranges.new.Goals as goal

pub returns-clause-walk : goal.returns-clause-walk
returns-clause-walk c = record {
  lent = lent_at c.args.arena.now c.levels.result.now c.args.h.now c.link.result c.levels.ensures c.link.ensures c.requires.held;
  parts = omega (arith, c.parts.ensures.number, ap length c.parts.ensures.items);
  places = refl;
  whole = whole_bare c.args.h.now c.is_everything.result c.link.result (c.is_everything.ensures ∙ ap is_all c.root.ensures) c.link.ensures;
}

pub returns-clause-rest : goal.returns-clause-rest
returns-clause-rest c =
    begun c.args.arena.now c.levels.result.now c.parts.result.now c.args.falling.now c.args.h.now c.link.result c.is_everything.result _ c.levels.ensures c.parts.ensures.items c.link.ensures
    (c.is_everything.ensures ∙ ap is_all c.root.ensures) refl
