-- How many handles there are, over steps.
use Rattle.std.proofs.Common.{◌≡◌, ◌+◌, length, arith, List, [], ◌∷◌, refl}
use Rattle.rx_level.specs.Store.{root_in, roots_in}
use Rattle.rx_level.proofs.Totals.{totals}
use Rattle.rx_graph.specs.declared.handles.Root.{Root}
use Rattle.rx_graph.specs.declared.handles.Root.TheVariants.{Everything, Nothing, Items}
use Rattle.rx_graph.specs.Graph.{Graph, Steps, handle_count, link_of, links_of, all_at, none_at, all_in, none_in}

one_of : (r : Root) → all_at r + none_at r + root_in (link_of r) ≡ 1
one_of Everything = refl
one_of Nothing = refl
one_of (Items k) = refl

all_of : (rs : List Root) → all_in rs + none_in rs + roots_in (links_of rs) ≡ length rs
all_of [] = refl
all_of (r ∷ rest) = omega (arith, one_of r, all_of rest)

-- a step changes the number of handles by those that it spends and gives
pub counted : (old new : Graph) (spent given : List Root) → Steps old new spent given → handle_count new + length spent ≡ handle_count old + length given
counted old new spent given step =
    omega (arith, step.held Everything, step.held Nothing, totals old.store new.store (links_of spent) (links_of given) (λ m. step.held (Items m)), all_of spent, all_of given)
