use Rattle.std.proofs.Common.{refl}
use Rattle.rx_graph.proofs.Same.{root_lent}
use Rattle.graph_cases.proofs.lists.is_like.Goals as goal

pub level_like-requires : goal.level_like-requires
level_like-requires c = root_lent c.args.arena.now c.levels.result.now c.args.h.now c.root.result c.in-Items.key c.levels.ensures c.requires c.root.ensures c.in-Items.is
