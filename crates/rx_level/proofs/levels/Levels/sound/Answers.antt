use Rattle.std.proofs.Common.{◌≤◌, ◌↔◌, ℕ, Option, IsSome, subst}
use Rattle.slab.specs.Slab.{Slab, get}
use Rattle.rx_level.specs.declared.nodes.Node.{Node}
use Rattle.rx_tree.specs.Join.{length_of}
use Rattle.rx_level.specs.Tree.{least}
use Rattle.rx_level.specs.Store.{IsReached, tree_of}
use Rattle.rx_level.specs.Step.{level_of, tall_of}
use Rattle.rx_level.proofs.Reach.{all_reached}
use Rattle.rx_level.proofs.Heights.{even_tree}
use Rattle.rx_level.proofs.Depth.{even_least}
use Rattle.rx_level.specs.Standing.{IsAtOneDepth, StandsIn}
use Rattle.rx_level.specs.Under.{IsUnder}
use Rattle.rx_level.proofs.Standing.{one_depth, stands}
use Rattle.rx_level.proofs.levels.Levels.sound.Goals as goal

pub returns-clause-reached : goal.returns-clause-reached
returns-clause-reached c = subst (λ (s : Slab Node). (m : ℕ) → IsSome (get s m) → IsReached s m) c.self.view_is (all_reached c.self.inside.nodes c.self.invariant.sound)

pub returns-clause-low : goal.returns-clause-low
returns-clause-low c = subst (λ (s : Slab Node). (r : Option ℕ) → least (tall_of s r) ≤ length_of (level_of s r)) c.self.view_is (λ r. even_least (tree_of c.self.inside.nodes r) (even_tree c.self.inside.nodes c.self.invariant.sound r))

pub returns-clause-one_depth : goal.returns-clause-one_depth
returns-clause-one_depth c = subst (λ (s : Slab Node). (r : Option ℕ) → IsAtOneDepth (tree_of s r)) c.self.view_is (one_depth c.self.inside.nodes c.self.invariant.sound)

pub returns-clause-stands : goal.returns-clause-stands
returns-clause-stands c = subst (λ (s : Slab Node). (r : Option ℕ) (m : ℕ) → IsUnder s r m ↔ StandsIn m (tree_of s r)) c.self.view_is (stands c.self.inside.nodes c.self.invariant.sound)
