use Rattle.std.proofs.Common.{rules}
use Rattle.std.specs.Ordering.{is_lt}
use Rattle.std.proofs.lemmas.Fn.{always_returns_same}
use Rattle.std.proofs.lemmas.List.Sorted.{ranks_by}
use Rattle.rx_value.specs.Order.{value_cmp}
use Rattle.rx_value.specs.Parts.{borrowed}
use Rattle.rx_value.proofs.Ends.{value_cmp_total}
use Rattle.rx_single.proofs.listing.by_value.Goals as goal

pub returns : goal.returns
returns c = record {
  same = search rules;
  rising = c.in_ok-sort_by.ensures.sorted (λ u v. is_lt (value_cmp (borrowed u) (borrowed v))) (ranks_by value_cmp_total borrowed)
      (always_returns_same _ _ _ (λ a r f k. search rules));
}
