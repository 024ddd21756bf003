-- The parts of a condition.
use Rattle.std.specs.Prelude.{List, [], ◌∷◌, ◌++◌}
use Rattle.rx_cond.specs.Tree.{Tree, Trees, conj, disj, none, more}

abbrev mutual
  -- The conjuncts of a condition: those of each item of a conjunction in turn, and any other condition itself.
  pub conjuncts_of : Tree → List Tree
  conjuncts_of (conj items) = conjuncts_of_all items
  conjuncts_of t = t ∷ []

  pub conjuncts_of_all : Trees → List Tree
  conjuncts_of_all none = []
  conjuncts_of_all (more t ts) = conjuncts_of t ++ conjuncts_of_all ts

abbrev mutual
  -- The disjuncts of a condition: those of each item of a disjunction in turn, and any other condition itself.
  pub disjuncts_of : Tree → List Tree
  disjuncts_of (disj items) = disjuncts_of_all items
  disjuncts_of t = t ∷ []

  pub disjuncts_of_all : Trees → List Tree
  disjuncts_of_all none = []
  disjuncts_of_all (more t ts) = disjuncts_of t ++ disjuncts_of_all ts
