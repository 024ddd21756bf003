use Rattle.std.proofs.Common.{false, ap, subst, rules}
use Rattle.rx_graph.specs.Graph.{AreCanonical}
use Rattle.rx_graph.proofs.Same.{root_lent, sets_tell, no_all, no_none, no_items}
use Rattle.rx_graph.proofs.arena.Arena.same.Goals as goal

pub same_levels-requires-clause-g : goal.same_levels-requires-clause-g
same_levels-requires-clause-g c = root_lent c.args.self.now c.self.inside.levels c.args.g.now c.root.result c.in-Items-Items.first (ap (λ g. g.store) c.self.view_is) c.requires.g c.root.ensures c.in-Items-Items.is-0

pub same_levels-requires-clause-h : goal.same_levels-requires-clause-h
same_levels-requires-clause-h c = root_lent c.args.self.now c.self.inside.levels c.args.h.now c.root-2.result c.in-Items-Items.second (ap (λ g. g.store) c.self.view_is) c.requires.h c.root-2.ensures c.in-Items-Items.is-1

pub returns-in-Items-Items-clause-keys : goal.returns-in-Items-Items-clause-keys
returns-in-Items-Items-clause-keys c = sets_tell c.args.self.now c.args.g.now c.args.h.now c.same_levels.result c.requires.g c.requires.h (search rules) (subst AreCanonical c.self.view_is c.self.invariant.canonical)

pub returns-in_default : goal.returns-in_default
returns-in_default c =
    let none = no_all c.args.self.now c.args.g.now c.args.h.now c.root.result c.root-2.result c.root.ensures c.root-2.ensures c.in_default.is-0 c.in_default.not-Everything-1 in
    record { trees = none.trees; keys = sets_tell c.args.self.now c.args.g.now c.args.h.now false c.requires.g c.requires.h none.trees (subst AreCanonical c.self.view_is c.self.invariant.canonical) }

pub returns-in_default-2 : goal.returns-in_default-2
returns-in_default-2 c =
    let none = no_none c.args.self.now c.args.g.now c.args.h.now c.root.result c.root-2.result c.root.ensures c.root-2.ensures c.in_default.is-0 c.in_default.not-Nothing-1 in
    record { trees = none.trees; keys = sets_tell c.args.self.now c.args.g.now c.args.h.now false c.requires.g c.requires.h none.trees (subst AreCanonical c.self.view_is c.self.invariant.canonical) }

pub returns-in_default-3 : goal.returns-in_default-3
returns-in_default-3 c =
    let none = no_items c.args.self.now c.in_default.field-0-0 c.args.g.now c.args.h.now c.root.result c.root-2.result c.root.ensures c.root-2.ensures c.in_default.is-0 c.in_default.not-Items-1 in
    record { trees = none.trees; keys = sets_tell c.args.self.now c.args.g.now c.args.h.now false c.requires.g c.requires.h none.trees (subst AreCanonical c.self.view_is c.self.invariant.canonical) }
