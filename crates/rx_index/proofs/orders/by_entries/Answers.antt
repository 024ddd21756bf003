use Rattle.std.proofs.Common.{false, rules}
use Rattle.std.specs.Ordering.{is_lt}
use Rattle.std.proofs.lemmas.Fn.{always_returns_same}
use Rattle.std.proofs.lemmas.List.Sorted.{ranks_by}
use Rattle.rx_index.proofs.Numbering.{by_number, number_total, order_is}
use Rattle.rx_index.proofs.orders.by_entries.Goals as goal

pub returns : goal.returns
returns c =
    let parts = c.args.parts.now in
    let rows = c.args.rows.now in
    order_is parts rows c.args.list.items c.sort_by.new.self.items false c.requires c.sort_by.ensures.permutation
    (c.in_ok-sort_by.ensures.sorted (λ x y. is_lt (by_number parts rows x y)) (ranks_by (number_total parts rows) (λ x. x)) (always_returns_same _ _ _ (λ a r f k. search rules)))
