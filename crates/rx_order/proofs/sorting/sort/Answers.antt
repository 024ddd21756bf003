use Rattle.std.proofs.Common.{rules}
use Rattle.std.proofs.lemmas.Result.{on_ok_weaker}
use Rattle.std.proofs.lemmas.Fn.{always_returns_same}
use Rattle.rx_order.specs.Order.{is_before}
use Rattle.rx_order.proofs.Stable.{sorted_is}
use Rattle.rx_order.proofs.Total.{before_ranks}
use Rattle.rx_order.proofs.sorting.sort.Goals as goal

pub returns-clause-sorted : goal.returns-clause-sorted
returns-clause-sorted c =
    on_ok_weaker c.sort_by.result
    (λ sorted. sorted (is_before c.args.order.now) (before_ranks c.args.order.now) (always_returns_same _ _ _ (λ a r f k. search rules)))
    c.sort_by.ensures.sorted

pub returns-clause-stable : goal.returns-clause-stable
returns-clause-stable c =
    c.sort_by.ensures.stable (is_before c.args.order.now) (before_ranks c.args.order.now) (always_returns_same _ _ _ (λ a r f k. search rules))

pub returns-clause-exact : goal.returns-clause-exact
returns-clause-exact c =
    on_ok_weaker c.sort_by.result
    (λ sorted. sorted_is (is_before c.args.order.now) (before_ranks c.args.order.now) c.args.outputs.now.items c.sort_by.new.self.items
    (sorted (is_before c.args.order.now) (before_ranks c.args.order.now) (always_returns_same _ _ _ (λ a r f k. search rules)))
    (returns-clause-stable c))
    c.sort_by.ensures.sorted
