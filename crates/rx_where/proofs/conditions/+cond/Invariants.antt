use Rattle.std.proofs.Common.{◌+◌, ◌*◌, ◌<◌, length, map, codes}
use Rattle.rx_where.specs.Raw.{raw_tree_of}
use Rattle.rx_reading.specs.Reading.{after_word, items_at}
use Rattle.rx_where.specs.Conditions.{neg_at, conj_at}
use Rattle.rx_reading.proofs.Going.{Going}
use Rattle.rx_where.proofs.conditions.+cond.Given as goal

abbrev pub decreases-neg_at : goal.decreases-neg_at
decreases-neg_at l = 8 * l.levels + 1

abbrev pub decreases-next_conjunct : goal.decreases-next_conjunct
decreases-next_conjunct l = 8 * l.levels + 2

abbrev pub decreases-next_disjunct : goal.decreases-next_disjunct
decreases-next_disjunct l = 8 * l.levels + 4

abbrev pub decreases-conj_at : goal.decreases-conj_at
decreases-conj_at l = 8 * l.levels + 3

abbrev pub decreases-cond_at : goal.decreases-cond_at
decreases-cond_at l = 8 * l.levels + 5

abbrev pub decreases-not_at : goal.decreases-not_at
decreases-not_at l = 8 * l.levels + 6

abbrev pub decreases-parens_at : goal.decreases-parens_at
decreases-parens_at l = 8 * l.levels + 6

abbrev pub decreases-nest : goal.decreases-nest
decreases-nest l = 8 * l.levels + 7

abbrev pub invariant-cond_at-disjuncts : goal.invariant-cond_at-disjuncts
invariant-cond_at-disjuncts l = record {
  read : Going (after_word (codes "OR")) (conj_at (neg_at l.levels)) (items_at (after_word (codes "OR")) (conj_at (neg_at l.levels)) l.tokens) (map raw_tree_of l.items.items) l.rest;
  within : length l.rest < length l.tokens;
}

abbrev pub decreases-cond_at-disjuncts : goal.decreases-cond_at-disjuncts
decreases-cond_at-disjuncts l = length l.rest

abbrev pub invariant-conj_at-conjuncts : goal.invariant-conj_at-conjuncts
invariant-conj_at-conjuncts l = record {
  read : Going (after_word (codes "AND")) (neg_at l.levels) (items_at (after_word (codes "AND")) (neg_at l.levels) l.tokens) (map raw_tree_of l.items.items) l.rest;
  within : length l.rest < length l.tokens;
}

abbrev pub decreases-conj_at-conjuncts : goal.decreases-conj_at-conjuncts
decreases-conj_at-conjuncts l = length l.rest
