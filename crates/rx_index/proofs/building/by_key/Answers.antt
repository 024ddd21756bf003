use Rattle.std.proofs.Common.{rules, subst}
use Rattle.std.specs.Ordering.{is_lt}
use Rattle.std.proofs.lemmas.Fn.{always_returns_same}
use Rattle.std.proofs.lemmas.List.Sorted.{ranks_by}
use Rattle.rx_value.proofs.KeyOrder.{by_key, by_key_total}
use Rattle.rx_index.specs.Entries.{IsByKey}
use Rattle.rx_index.proofs.building.by_key.Goals as goal

pub returns : goal.returns
returns c =
    let parts = c.args.parts.now in
    subst (IsByKey parts c.args.rows) (search rules) (record {
      same = search rules;
      rising = c.in_ok-sort_by.ensures.sorted (λ x y. is_lt (by_key parts x y)) (ranks_by (by_key_total parts) (λ x. x))
          (always_returns_same _ _ _ (λ a r f k. search rules));
    })
