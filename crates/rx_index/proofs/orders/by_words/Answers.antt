use Rattle.std.proofs.Common.{rules}
use Rattle.std.specs.Ordering.{is_lt}
use Rattle.std.proofs.lemmas.Fn.{always_returns_same}
use Rattle.std.proofs.lemmas.List.Sorted.{ranks_by}
use Rattle.rx_index.specs.Placed.{words_cmp}
use Rattle.rx_index.proofs.Numbering.{words_total, order_of_words, apart_by_words}
use Rattle.rx_index.proofs.orders.by_words.Goals as goal

pub returns-clause-ordered : goal.returns-clause-ordered
returns-clause-ordered c =
    order_of_words c.args.parts.now c.args.rows.now c.args.list.items c.sort_by.new.self.items c.requires c.sort_by.ensures.permutation
    (c.in_ok-sort_by.ensures.sorted (λ x y. is_lt (words_cmp x y)) (ranks_by words_total (λ x. x)) (always_returns_same _ _ _ (λ a r f k. search rules)))

pub returns-clause-whole : goal.returns-clause-whole
returns-clause-whole c = apart_by_words c.args.parts.now c.args.rows.now c.args.list.items c.sort_by.new.self.items c.requires c.sort_by.ensures.permutation
