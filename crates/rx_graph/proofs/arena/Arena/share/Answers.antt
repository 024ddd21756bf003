use Rattle.std.proofs.Common.{◌∙◌, [], ◌∷◌, arith, ap, sym, subst, rules}
use Rattle.rx_level.specs.Store.{held_of}
use Rattle.rx_graph.specs.Graph.{AreCanonical}
use Rattle.rx_graph.proofs.Amounts.{counted}
use Rattle.rx_graph.proofs.GraphSteps.{canonical_shared, held_items}
use Rattle.rx_graph.proofs.arena.Arena.share.Goals as goal

pub share-requires-clause-held : goal.share-requires-clause-held
share-requires-clause-held c = λ m. omega (arith, held_items c.args.self.now c.args.h.now c.in-Items.key c.requires.held (sym c.root.ensures ∙ c.in-Items.is) m, ap (λ g. held_of g.store m) c.self.view_is)

pub returns-in-Items-clause-canonical : goal.returns-in-Items-clause-canonical
returns-in-Items-clause-canonical c = canonical_shared c.args.self.now (record { nullable = c.self.inside.nullable; store = c.share.new.self; all = c.self.inside.all; none = c.self.inside.none }) c.args.h.now c.requires.held (search rules) (subst AreCanonical c.self.view_is c.self.invariant.canonical)

pub returns-in-Items-clause-count : goal.returns-in-Items-clause-count
returns-in-Items-clause-count c = omega (arith, counted c.args.self.now (record { nullable = c.self.inside.nullable; store = c.share.new.self; all = c.self.inside.all; none = c.self.inside.none }) [] (c.args.h.now ∷ []) (search rules))

pub invariant_of-self : goal.invariant_of-self
invariant_of-self c = record { canonical = canonical_shared c.args.self.now (record { nullable = c.self.inside.nullable; store = c.share.new.self; all = c.self.inside.all; none = c.self.inside.none }) c.args.h.now c.requires.held (search rules) (subst AreCanonical c.self.view_is c.self.invariant.canonical); few = omega (arith, c.requires.few, counted c.args.self.now (record { nullable = c.self.inside.nullable; store = c.share.new.self; all = c.self.inside.all; none = c.self.inside.none }) [] (c.args.h.now ∷ []) (search rules)) }
