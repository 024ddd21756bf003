use Rattle.std.proofs.Common.{◌≡◌, ℕ, List, length, subst}
use Rattle.std.specs.List.{range_with_len}
use Rattle.rx_index.proofs.Standing.{stands_by_first}
use Rattle.rx_index.proofs.building.are_in_id_order.Goals as goal

pub returns-in-len1-up-len1-up : goal.returns-in-len1-up-len1-up
returns-in-len1-up-len1-up c = λ e.
    stands_by_first c.args.indexes.now c.args.rows.now c.args.orders.now c.requires c.ids-item.result c.ids-item.is
    (subst (λ (l : List ℕ). l ≡ range_with_len 0 (length l)) c.as_slice.ensures (c.are_all_ids.ensures e))
