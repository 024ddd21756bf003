-- Graphs joined one after another, each of which is given, and spent with the next one.
use Rattle.std.proofs.Common.{arith, ◌≡◌, ◌<◌, ◌+◌, Bool, List, [], ◌∷◌, refl, sym, ◌∙◌, subst}
use Rattle.rx_graph.specs.declared.handles.Root.{Root}
use Rattle.rx_graph.specs.declared.handles.Root.TheVariants.{Everything, Nothing, Items}
use Rattle.rx_graph.specs.Graph.{Graph, IsHeld, Steps, held_count, times, tree_in}
use Rattle.rx_graph.proofs.GraphSteps.{once}
use Rattle.rx_sets.specs.Sets.{KeySet, IsTreeOf}
use Rattle.rx_cond_graph.specs.Giving.{GivesTreeOf}

times_first : (r x : Root) (rest : List Root) → times r (x ∷ rest) ≡ times r (x ∷ []) + times r rest
times_first Everything x rest = omega arith
times_first Nothing x rest = omega arith
times_first (Items k) x rest = omega arith

times_none : (r : Root) → times r [] ≡ 0
times_none Everything = refl
times_none Nothing = refl
times_none (Items k) = refl

-- after two calls that give a handle each, both are held
pub both_held : (a b c : Graph) (w n : Root) → Steps a b [] (w ∷ []) → Steps b c [] (n ∷ []) → IsHeld c (w ∷ n ∷ [])
both_held a b c w n one two r = omega (arith, one.held r, two.held r, times_first r w (n ∷ []), times_none r)

-- the first is held after one call
pub one_held : (a b c : Graph) (w : Root) → Steps a b [] (w ∷ []) → Steps b c [] [] → IsHeld c (w ∷ [])
one_held a b c w one two r = omega (arith, one.held r, two.held r, times_none r)

is_held : (a b : Graph) (w : Root) → Steps a b [] (w ∷ []) → times w [] < held_count b w
is_held a b w one = omega (arith, one.held w, once w, times_none w)

-- the first keeps its tree in the second call
pub tree_kept : (a b c : Graph) (w : Root) (given : List Root) (f : KeySet) → GivesTreeOf f a b w → Steps b c [] given → IsTreeOf c.nullable f (tree_in c w)
tree_kept a b c w given f one two =
    subst (λ (ns : List Bool). IsTreeOf ns f (tree_in c w)) (sym (two.parts ∙ one.step.parts))
    (subst (IsTreeOf a.nullable f) (sym (two.keeps w (is_held a b w one.step))) one.tree)

-- both spent for one
pub joined_step : (a b c d : Graph) (w n r : Root) → Steps a b [] (w ∷ []) → Steps b c [] (n ∷ []) → Steps c d (w ∷ n ∷ []) (r ∷ []) → Steps a d [] (r ∷ [])
joined_step a b c d w n r one two three = record {
  parts = three.parts ∙ two.parts ∙ one.parts;
  held = λ x. omega (arith, one.held x, two.held x, three.held x, times_first x w (n ∷ []), times_none x);
  keeps = λ x more.
      three.keeps x (omega (arith, one.held x, two.held x, times_first x w (n ∷ []), times_none x, more))
      ∙ two.keeps x (omega (arith, one.held x, times_none x, more))
      ∙ one.keeps x more;
}

-- both spent for none
pub failed_step : (a b c d : Graph) (w n : Root) → Steps a b [] (w ∷ []) → Steps b c [] (n ∷ []) → Steps c d (w ∷ n ∷ []) [] → Steps a d [] []
failed_step a b c d w n one two three = record {
  parts = three.parts ∙ two.parts ∙ one.parts;
  held = λ x. omega (arith, one.held x, two.held x, three.held x, times_first x w (n ∷ []), times_none x);
  keeps = λ x more.
      three.keeps x (omega (arith, one.held x, two.held x, times_first x w (n ∷ []), times_none x, more))
      ∙ two.keeps x (omega (arith, one.held x, times_none x, more))
      ∙ one.keeps x more;
}

-- the first given back where there is no second
pub lost_step : (a b c d : Graph) (w : Root) → Steps a b [] (w ∷ []) → Steps b c [] [] → Steps c d (w ∷ []) [] → Steps a d [] []
lost_step a b c d w one two three = record {
  parts = three.parts ∙ two.parts ∙ one.parts;
  held = λ x. omega (arith, one.held x, two.held x, three.held x, times_none x);
  keeps = λ x more.
      three.keeps x (omega (arith, one.held x, two.held x, times_none x, more))
      ∙ two.keeps x (omega (arith, one.held x, times_none x, more))
      ∙ one.keeps x more;
}
