use Rattle.std.proofs.Common.{codes, arith}
use Rattle.std.proofs.lemmas.List.{map_push}
use Rattle.rx_where.specs.Raw.{raw_tree_of, conj_of, disj_of}
use Rattle.rx_reading.specs.Reading.{after_word}
use Rattle.rx_where.specs.Conditions.{neg_at, conj_at}
use Rattle.rx_reading.proofs.Going.{nothing, begins, goes_on, ends, chained, chained_none}
use Rattle.rx_where.proofs.Levels.{no_level, level_read}
use Rattle.rx_where.proofs.conditions.+cond.Goals as goal

pub cond_at-returns-in_default : goal.cond_at-returns-in_default
cond_at-returns-in_default t c =
    let none = rw c.in_default.is at c.in_ok-first.ensures.0 in
    (chained_none disj_of _ (nothing (after_word (codes "OR")) (conj_at (neg_at c.args.levels)) _ none), tt)

pub cond_at-disjuncts-init : goal.cond_at-disjuncts-init
cond_at-disjuncts-init t c =
    let read = rw c.in-Some.is at c.in_ok-first.ensures.0 in
    let shorter = rw c.in-Some.is at c.in_ok-first.ensures.1 in
    record {
      read = rw (c.in_ok-push.ensures.items, c.new-items.ensures.items) (begins (after_word (codes "OR")) (conj_at (neg_at c.args.levels)) _ _ _ read);
      within = shorter;
    }

pub conj_at-returns-in_default : goal.conj_at-returns-in_default
conj_at-returns-in_default t c =
    let none = rw c.in_default.is at c.in_ok-first.ensures.0 in
    (chained_none conj_of _ (nothing (after_word (codes "AND")) (neg_at c.args.levels) _ none), tt)

pub conj_at-conjuncts-init : goal.conj_at-conjuncts-init
conj_at-conjuncts-init t c =
    let read = rw c.in-Some.is at c.in_ok-first.ensures.0 in
    let shorter = rw c.in-Some.is at c.in_ok-first.ensures.1 in
    record {
      read = rw (c.in_ok-push.ensures.items, c.new-items.ensures.items) (begins (after_word (codes "AND")) (neg_at c.args.levels) _ _ _ read);
      within = shorter;
    }

pub neg_at-returns-then-levels-eq0 : goal.neg_at-returns-then-levels-eq0
neg_at-returns-then-levels-eq0 t c = (no_level c.args.levels c.args.tokens.now c.if-levels-eq0.true, tt)

pub neg_at-returns : goal.neg_at-returns
neg_at-returns t c = level_read c.args.levels c.args.tokens.now c.if-levels-eq0.false _ c.nest.ensures

pub cond_at-returns-in_default-2 : goal.cond_at-returns-in_default-2
cond_at-returns-in_default-2 t c =
    let none = rw c.in_default-2.is at c.in_ok-next.ensures.0 in
    (rw c.disj_of.ensures (chained disj_of _ _ _ (ends (after_word (codes "OR")) (conj_at (neg_at c.args.levels)) _ _ _ c.disjuncts.invariant.read none)), c.disjuncts.invariant.within)

pub cond_at-disjuncts-preserved : goal.cond_at-disjuncts-preserved
cond_at-disjuncts-preserved t c =
    let read = rw c.in-Some-2.is at c.in_ok-next.ensures.0 in
    let shorter = rw c.in-Some-2.is at c.in_ok-next.ensures.1 in
    let within = c.disjuncts.invariant.within in
    record {
      read = rw (c.in_ok-push-2.ensures.items, map_push raw_tree_of c.disjuncts.items.items c.in-Some-2.next.value) (goes_on (after_word (codes "OR")) (conj_at (neg_at c.args.levels)) _ _ _ _ _ c.disjuncts.invariant.read read shorter);
      within = omega arith;
    }

pub conj_at-returns-in_default-2 : goal.conj_at-returns-in_default-2
conj_at-returns-in_default-2 t c =
    let none = rw c.in_default-2.is at c.in_ok-next.ensures.0 in
    (rw c.conj_of.ensures (chained conj_of _ _ _ (ends (after_word (codes "AND")) (neg_at c.args.levels) _ _ _ c.conjuncts.invariant.read none)), c.conjuncts.invariant.within)

pub conj_at-conjuncts-preserved : goal.conj_at-conjuncts-preserved
conj_at-conjuncts-preserved t c =
    let read = rw c.in-Some-2.is at c.in_ok-next.ensures.0 in
    let shorter = rw c.in-Some-2.is at c.in_ok-next.ensures.1 in
    let within = c.conjuncts.invariant.within in
    record {
      read = rw (c.in_ok-push-2.ensures.items, map_push raw_tree_of c.conjuncts.items.items c.in-Some-2.next.value) (goes_on (after_word (codes "AND")) (neg_at c.args.levels) _ _ _ _ _ c.conjuncts.invariant.read read shorter);
      within = omega arith;
    }
