use Rattle.std.proofs.Common.{◌≡◌, ◌+◌, length, take, refl, sym, subst, arith}
use Rattle.std.proofs.Math.Seq.{take-length}
use Rattle.std.proofs.lemmas.Option.{slice_get_read}
use Rattle.rx_index.specs.Entries.{AreOrders}
use Rattle.rx_index.specs.Different.{AreAllDifferent}
use Rattle.rx_index.specs.Soonest.{IsSoonest}
use Rattle.rx_index.proofs.Firsts.{one_more}
use Rattle.rx_index.proofs.Numbers.{orders_more, all_different_more}
use Rattle.rx_index.proofs.duplicates.entries_of.Goals as goal

pub loop-n-preserved : goal.loop-n-preserved
loop-n-preserved c =
    let indexes = c.args.indexes.now in
    let rows = c.args.rows.now in
    let index = c.index-indexes-n.result in (
      orders_more indexes rows c.loop-n.orders c.push.new.self c.loop-n.n index c.in_ok-entered.entered.ids c.loop-n-test.true c.index-indexes-n.is c.loop-n.invariant.0
          c.in_ok-entered.ensures.order c.in_ok-push.ensures.ok,
      all_different_more indexes rows c.loop-n.different c.push-in-loop-n.new.self c.loop-n.n index c.in_ok-entered.entered.different c.loop-n-test.true c.index-indexes-n.is c.loop-n.invariant.1
          c.in_ok-entered.ensures.different c.in_ok-push-2.ensures.ok,
      subst (IsSoonest indexes rows (c.loop-n.n + 1)) (sym c.sooner-first.ensures)
          (one_more indexes rows c.loop-n.n index (slice_get_read indexes (length indexes) c.loop-n.n index refl c.loop-n-test.true c.index-indexes-n.is) c.loop-n.first
          c.in_ok-entered.entered.repeat c.loop-n.invariant.2 c.in_ok-entered.ensures.repeat),
    )

pub returns-clause-orders : goal.returns-clause-orders
returns-clause-orders c =
    let all : c.loop-n.n ≡ length c.args.indexes.now = omega (arith, c.loop-n-test.false, c.loop-n.auto.n-end) in
    subst (λ l. AreOrders l c.args.rows.now c.loop-n.orders) (take-length c.args.indexes.now) (subst (λ n. AreOrders (take n c.args.indexes.now) c.args.rows.now c.loop-n.orders) all c.loop-n.invariant.0)

pub returns-clause-different : goal.returns-clause-different
returns-clause-different c =
    let all : c.loop-n.n ≡ length c.args.indexes.now = omega (arith, c.loop-n-test.false, c.loop-n.auto.n-end) in
    subst (λ l. AreAllDifferent l c.args.rows.now c.loop-n.different) (take-length c.args.indexes.now)
    (subst (λ n. AreAllDifferent (take n c.args.indexes.now) c.args.rows.now c.loop-n.different) all c.loop-n.invariant.1)

pub returns-clause-first : goal.returns-clause-first
returns-clause-first c =
    let all : c.loop-n.n ≡ length c.args.indexes.now = omega (arith, c.loop-n-test.false, c.loop-n.auto.n-end) in
    subst (λ n. IsSoonest c.args.indexes.now c.args.rows.now n c.loop-n.first) all c.loop-n.invariant.2
