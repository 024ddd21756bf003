use Rattle.std.proofs.Common.{◌≤◌, ℕ, ◌+◌, ◌-◌, ◌*◌, [], ◌∷◌, arith, sym, subst}
use Rattle.slab.specs.Slab.{slab_len}
use Rattle.rx_level.specs.Tree.{IsHeight}
use Rattle.rx_level.specs.Step.{tall_of}
use Rattle.rx_tree.specs.Cuts.{AreInOrder}
use Rattle.rx_or.proofs.Opened.{opened, owns_side, owns_twice, lower_left, lower_right, stays_open, stays_twice, order_left, order_right, apart_level_before, beyond_level_before, joined_level_before, across_level_before, joined_height, joined_live, joined_made}
use Rattle.rx_or.proofs.cutting.+cut_before.Goals as goal

pub cut_before-requires : goal.cut_before-requires
cut_before-requires t c =
    let o = opened c.args.levels.now c.open.new.self c.args.root c.in_ok-top.top.left c.in_ok-top.top.right c.in_ok-top.top.item c.in-Some.key c.in-Some.is c.requires.owns c.in_ok-top.ensures.ok c.in_ok-top.ensures.level c.in_ok-top.ensures.height c.in_ok-top.ensures.near c.requires.order in
    let less = lower_right (tall_of c.args.levels.now c.args.root) (tall_of c.open.new.self c.in_ok-top.top.left) (tall_of c.open.new.self c.in_ok-top.top.right) o.height in
    (omega (arith, less, c.decreases), (owns_side c.args.levels.now c.open.new.self c.args.root c.in_ok-top.top.left c.in_ok-top.top.right c.in_ok-top.top.item c.in_ok-top.top.right o (λ m. omega arith), order_right c.open.new.self c.in_ok-top.top.left c.in_ok-top.top.right c.in_ok-top.top.item o.order))

pub cut_before-requires-in-Beyond : goal.cut_before-requires-in-Beyond
cut_before-requires-in-Beyond t c =
    let o = opened c.args.levels.now c.open.new.self c.args.root c.in_ok-top.top.left c.in_ok-top.top.right c.in_ok-top.top.item c.in-Some.key c.in-Some.is c.requires.owns c.in_ok-top.ensures.ok c.in_ok-top.ensures.level c.in_ok-top.ensures.height c.in_ok-top.ensures.near c.requires.order in
    let k = stays_twice c.args.levels.now c.open.new.self c.free-in-Beyond.new.self c.free-in-Beyond-2.new.self c.args.root c.in_ok-top.top.left c.in_ok-top.top.right c.in_ok-top.top.item c.in_ok-top.top.item.child c.in_ok-top.top.right c.in_ok-top.top.left o c.free-in-Beyond.ensures.step c.free-in-Beyond-2.ensures.step (λ m. omega arith) in
    let less = lower_left (tall_of c.args.levels.now c.args.root) (tall_of c.open.new.self c.in_ok-top.top.left) (tall_of c.open.new.self c.in_ok-top.top.right) o.height in
    let owns = owns_twice c.args.levels.now c.open.new.self c.free-in-Beyond.new.self c.free-in-Beyond-2.new.self c.args.root c.in_ok-top.top.left c.in_ok-top.top.right c.in_ok-top.top.item c.in_ok-top.top.item.child c.in_ok-top.top.right c.in_ok-top.top.left o c.free-in-Beyond.ensures.step c.free-in-Beyond-2.ensures.step (λ m. omega arith) in
    (omega (arith, less, k.tall, c.decreases), (owns, subst AreInOrder (sym k.level) (order_left c.open.new.self c.in_ok-top.top.left c.in_ok-top.top.right c.in_ok-top.top.item o.order)))

pub returns-in_err-rest-in-Ok-clause-live : goal.returns-in_err-rest-in-Ok-clause-live
returns-in_err-rest-in-Ok-clause-live t c =
    let o = opened c.args.levels.now c.open.new.self c.args.root c.in_ok-top.top.left c.in_ok-top.top.right c.in_ok-top.top.item c.in-Some.key c.in-Some.is c.requires.owns c.in_ok-top.ensures.ok c.in_ok-top.ensures.level c.in_ok-top.ensures.height c.in_ok-top.ensures.near c.requires.order in
    let k = stays_open c.args.levels.now c.open.new.self c.cut_before.new.levels c.args.root c.in_ok-top.top.left c.in_ok-top.top.right c.in_ok-top.top.item (c.in_ok-top.top.right ∷ []) (c.in-Ok.cut.rest ∷ []) c.in_ok-top.top.left o c.in-Ok.ensures.ok (λ m. omega arith) in
    let made : slab_len c.join.new.levels ≤ slab_len c.cut_before.new.levels + 3 * ((tall_of c.open.new.self c.in_ok-top.top.left - tall_of c.cut_before.new.levels c.in-Ok.cut.rest) + (tall_of c.cut_before.new.levels c.in-Ok.cut.rest - tall_of c.open.new.self c.in_ok-top.top.left)) + 1 = subst (λ (x : ℕ). slab_len c.join.new.levels ≤ slab_len c.cut_before.new.levels + 3 * ((x - tall_of c.cut_before.new.levels c.in-Ok.cut.rest) + (tall_of c.cut_before.new.levels c.in-Ok.cut.rest - x)) + 1) k.tall c.in_err-rest-in-Ok.ensures.live in
    joined_live (tall_of c.args.levels.now c.args.root) (tall_of c.open.new.self c.in_ok-top.top.left) (tall_of c.open.new.self c.in_ok-top.top.right) (tall_of c.cut_before.new.levels c.in-Ok.cut.rest) _ _ _ _ o.height o.near c.in-Ok.ensures.height c.in_ok-top.ensures.live c.in-Ok.ensures.made made

pub returns-in_ok-rest-in-Ok-clause-live : goal.returns-in_ok-rest-in-Ok-clause-live
returns-in_ok-rest-in-Ok-clause-live t c =
    let o = opened c.args.levels.now c.open.new.self c.args.root c.in_ok-top.top.left c.in_ok-top.top.right c.in_ok-top.top.item c.in-Some.key c.in-Some.is c.requires.owns c.in_ok-top.ensures.ok c.in_ok-top.ensures.level c.in_ok-top.ensures.height c.in_ok-top.ensures.near c.requires.order in
    let k = stays_open c.args.levels.now c.open.new.self c.cut_before.new.levels c.args.root c.in_ok-top.top.left c.in_ok-top.top.right c.in_ok-top.top.item (c.in_ok-top.top.right ∷ []) (c.in-Ok.cut.rest ∷ []) c.in_ok-top.top.left o c.in-Ok.ensures.ok (λ m. omega arith) in
    let made : slab_len c.join.new.levels ≤ slab_len c.cut_before.new.levels + 3 * ((tall_of c.open.new.self c.in_ok-top.top.left - tall_of c.cut_before.new.levels c.in-Ok.cut.rest) + (tall_of c.cut_before.new.levels c.in-Ok.cut.rest - tall_of c.open.new.self c.in_ok-top.top.left)) + 1 = subst (λ (x : ℕ). slab_len c.join.new.levels ≤ slab_len c.cut_before.new.levels + 3 * ((x - tall_of c.cut_before.new.levels c.in-Ok.cut.rest) + (tall_of c.cut_before.new.levels c.in-Ok.cut.rest - x)) + 1) k.tall c.in_ok-rest-in-Ok.ensures.live in
    joined_live (tall_of c.args.levels.now c.args.root) (tall_of c.open.new.self c.in_ok-top.top.left) (tall_of c.open.new.self c.in_ok-top.top.right) (tall_of c.cut_before.new.levels c.in-Ok.cut.rest) _ _ _ _ o.height o.near c.in-Ok.ensures.height c.in_ok-top.ensures.live c.in-Ok.ensures.made made

pub returns-in_ok-rest-in-Ok-clause-made : goal.returns-in_ok-rest-in-Ok-clause-made
returns-in_ok-rest-in-Ok-clause-made t c =
    let o = opened c.args.levels.now c.open.new.self c.args.root c.in_ok-top.top.left c.in_ok-top.top.right c.in_ok-top.top.item c.in-Some.key c.in-Some.is c.requires.owns c.in_ok-top.ensures.ok c.in_ok-top.ensures.level c.in_ok-top.ensures.height c.in_ok-top.ensures.near c.requires.order in
    let k = stays_open c.args.levels.now c.open.new.self c.cut_before.new.levels c.args.root c.in_ok-top.top.left c.in_ok-top.top.right c.in_ok-top.top.item (c.in_ok-top.top.right ∷ []) (c.in-Ok.cut.rest ∷ []) c.in_ok-top.top.left o c.in-Ok.ensures.ok (λ m. omega arith) in
    let made : slab_len c.join.new.levels ≤ slab_len c.cut_before.new.levels + 3 * ((tall_of c.open.new.self c.in_ok-top.top.left - tall_of c.cut_before.new.levels c.in-Ok.cut.rest) + (tall_of c.cut_before.new.levels c.in-Ok.cut.rest - tall_of c.open.new.self c.in_ok-top.top.left)) + 1 = subst (λ (x : ℕ). slab_len c.join.new.levels ≤ slab_len c.cut_before.new.levels + 3 * ((x - tall_of c.cut_before.new.levels c.in-Ok.cut.rest) + (tall_of c.cut_before.new.levels c.in-Ok.cut.rest - x)) + 1) k.tall c.in_ok-rest-in-Ok.ensures.live in
    let high : IsHeight (tall_of c.open.new.self c.in_ok-top.top.left) (tall_of c.cut_before.new.levels c.in-Ok.cut.rest) (tall_of c.join.new.levels c.in_ok-rest-in-Ok.rest) = subst (λ (x : ℕ). IsHeight x (tall_of c.cut_before.new.levels c.in-Ok.cut.rest) (tall_of c.join.new.levels c.in_ok-rest-in-Ok.rest)) k.tall c.in_ok-rest-in-Ok.ensures.height in
    joined_made (tall_of c.args.levels.now c.args.root) (tall_of c.open.new.self c.in_ok-top.top.left) (tall_of c.open.new.self c.in_ok-top.top.right) (tall_of c.cut_before.new.levels c.in-Ok.cut.rest) _ _ _ _ _ o.height o.near c.in-Ok.ensures.height high c.in_ok-top.ensures.live c.in-Ok.ensures.made made

pub returns-in_ok-rest-in-Ok-clause-height : goal.returns-in_ok-rest-in-Ok-clause-height
returns-in_ok-rest-in-Ok-clause-height t c =
    let o = opened c.args.levels.now c.open.new.self c.args.root c.in_ok-top.top.left c.in_ok-top.top.right c.in_ok-top.top.item c.in-Some.key c.in-Some.is c.requires.owns c.in_ok-top.ensures.ok c.in_ok-top.ensures.level c.in_ok-top.ensures.height c.in_ok-top.ensures.near c.requires.order in
    let k = stays_open c.args.levels.now c.open.new.self c.cut_before.new.levels c.args.root c.in_ok-top.top.left c.in_ok-top.top.right c.in_ok-top.top.item (c.in_ok-top.top.right ∷ []) (c.in-Ok.cut.rest ∷ []) c.in_ok-top.top.left o c.in-Ok.ensures.ok (λ m. omega arith) in
    let high : IsHeight (tall_of c.open.new.self c.in_ok-top.top.left) (tall_of c.cut_before.new.levels c.in-Ok.cut.rest) (tall_of c.join.new.levels c.in_ok-rest-in-Ok.rest) = subst (λ (x : ℕ). IsHeight x (tall_of c.cut_before.new.levels c.in-Ok.cut.rest) (tall_of c.join.new.levels c.in_ok-rest-in-Ok.rest)) k.tall c.in_ok-rest-in-Ok.ensures.height in
    joined_height (tall_of c.args.levels.now c.args.root) (tall_of c.open.new.self c.in_ok-top.top.left) (tall_of c.open.new.self c.in_ok-top.top.right) (tall_of c.cut_before.new.levels c.in-Ok.cut.rest) _ o.height c.in-Ok.ensures.height high

pub returns-in_ok-rest-in-Ok-clause-level : goal.returns-in_ok-rest-in-Ok-clause-level
returns-in_ok-rest-in-Ok-clause-level t c =
    let o = opened c.args.levels.now c.open.new.self c.args.root c.in_ok-top.top.left c.in_ok-top.top.right c.in_ok-top.top.item c.in-Some.key c.in-Some.is c.requires.owns c.in_ok-top.ensures.ok c.in_ok-top.ensures.level c.in_ok-top.ensures.height c.in_ok-top.ensures.near c.requires.order in
    apart_level_before c.args.levels.now c.open.new.self c.cut_before.new.levels c.join.new.levels c.args.root c.in_ok-top.top.left c.in_ok-top.top.right c.in-Ok.cut.rest c.in_ok-rest-in-Ok.rest c.in_ok-top.top.item c.args.edge c.in-Ok.cut.edge (c.in-Ok.cut.rest ∷ []) o c.in-Ok.ensures.ok c.in-Apart.ensures c.in-Ok.ensures.level c.in_ok-rest-in-Ok.ensures.level

pub returns-in_ok-cut-in-Beyond-clause-level : goal.returns-in_ok-cut-in-Beyond-clause-level
returns-in_ok-cut-in-Beyond-clause-level t c =
    let o = opened c.args.levels.now c.open.new.self c.args.root c.in_ok-top.top.left c.in_ok-top.top.right c.in_ok-top.top.item c.in-Some.key c.in-Some.is c.requires.owns c.in_ok-top.ensures.ok c.in_ok-top.ensures.level c.in_ok-top.ensures.height c.in_ok-top.ensures.near c.requires.order in
    let k = stays_twice c.args.levels.now c.open.new.self c.free-in-Beyond.new.self c.free-in-Beyond-2.new.self c.args.root c.in_ok-top.top.left c.in_ok-top.top.right c.in_ok-top.top.item c.in_ok-top.top.item.child c.in_ok-top.top.right c.in_ok-top.top.left o c.free-in-Beyond.ensures.step c.free-in-Beyond-2.ensures.step (λ m. omega arith) in
    beyond_level_before c.args.levels.now c.open.new.self c.free-in-Beyond-2.new.self c.cut_before-in-Beyond.new.levels c.args.root c.in_ok-top.top.left c.in_ok-top.top.right c.in_ok-cut-in-Beyond.cut.rest c.in_ok-top.top.item c.args.edge c.in_ok-cut-in-Beyond.cut.edge o k c.in-Beyond.ensures c.in_ok-cut-in-Beyond.ensures.level

pub returns-in_ok-cut-in-Beyond-clause-height : goal.returns-in_ok-cut-in-Beyond-clause-height
returns-in_ok-cut-in-Beyond-clause-height t c =
    let o = opened c.args.levels.now c.open.new.self c.args.root c.in_ok-top.top.left c.in_ok-top.top.right c.in_ok-top.top.item c.in-Some.key c.in-Some.is c.requires.owns c.in_ok-top.ensures.ok c.in_ok-top.ensures.level c.in_ok-top.ensures.height c.in_ok-top.ensures.near c.requires.order in
    let k = stays_twice c.args.levels.now c.open.new.self c.free-in-Beyond.new.self c.free-in-Beyond-2.new.self c.args.root c.in_ok-top.top.left c.in_ok-top.top.right c.in_ok-top.top.item c.in_ok-top.top.item.child c.in_ok-top.top.right c.in_ok-top.top.left o c.free-in-Beyond.ensures.step c.free-in-Beyond-2.ensures.step (λ m. omega arith) in
    grind (arith, o.height, k.tall, c.in_ok-top.ensures.live, c.free-in-Beyond.ensures.live, c.free-in-Beyond-2.ensures.live, c.in_ok-cut-in-Beyond.ensures)

pub returns-in_ok-cut-in-Beyond-clause-made : goal.returns-in_ok-cut-in-Beyond-clause-made
returns-in_ok-cut-in-Beyond-clause-made t c =
    let o = opened c.args.levels.now c.open.new.self c.args.root c.in_ok-top.top.left c.in_ok-top.top.right c.in_ok-top.top.item c.in-Some.key c.in-Some.is c.requires.owns c.in_ok-top.ensures.ok c.in_ok-top.ensures.level c.in_ok-top.ensures.height c.in_ok-top.ensures.near c.requires.order in
    let k = stays_twice c.args.levels.now c.open.new.self c.free-in-Beyond.new.self c.free-in-Beyond-2.new.self c.args.root c.in_ok-top.top.left c.in_ok-top.top.right c.in_ok-top.top.item c.in_ok-top.top.item.child c.in_ok-top.top.right c.in_ok-top.top.left o c.free-in-Beyond.ensures.step c.free-in-Beyond-2.ensures.step (λ m. omega arith) in
    grind (arith, o.height, k.tall, c.in_ok-top.ensures.live, c.free-in-Beyond.ensures.live, c.free-in-Beyond-2.ensures.live, c.in_ok-cut-in-Beyond.ensures)

pub returns-in_ok-cut-in-Beyond-clause-live : goal.returns-in_ok-cut-in-Beyond-clause-live
returns-in_ok-cut-in-Beyond-clause-live t c =
    let o = opened c.args.levels.now c.open.new.self c.args.root c.in_ok-top.top.left c.in_ok-top.top.right c.in_ok-top.top.item c.in-Some.key c.in-Some.is c.requires.owns c.in_ok-top.ensures.ok c.in_ok-top.ensures.level c.in_ok-top.ensures.height c.in_ok-top.ensures.near c.requires.order in
    let k = stays_twice c.args.levels.now c.open.new.self c.free-in-Beyond.new.self c.free-in-Beyond-2.new.self c.args.root c.in_ok-top.top.left c.in_ok-top.top.right c.in_ok-top.top.item c.in_ok-top.top.item.child c.in_ok-top.top.right c.in_ok-top.top.left o c.free-in-Beyond.ensures.step c.free-in-Beyond-2.ensures.step (λ m. omega arith) in
    grind (arith, o.height, k.tall, c.in_ok-top.ensures.live, c.free-in-Beyond.ensures.live, c.free-in-Beyond-2.ensures.live, c.in_ok-cut-in-Beyond.ensures)

pub returns-in-Joined-clause-level : goal.returns-in-Joined-clause-level
returns-in-Joined-clause-level t c =
    let o = opened c.args.levels.now c.open.new.self c.args.root c.in_ok-top.top.left c.in_ok-top.top.right c.in_ok-top.top.item c.in-Some.key c.in-Some.is c.requires.owns c.in_ok-top.ensures.ok c.in_ok-top.ensures.level c.in_ok-top.ensures.height c.in_ok-top.ensures.near c.requires.order in
    let k = stays_twice c.args.levels.now c.open.new.self c.free-in-Joined.new.self c.free-in-Joined-2.new.self c.args.root c.in_ok-top.top.left c.in_ok-top.top.right c.in_ok-top.top.item c.in_ok-top.top.item.child c.in_ok-top.top.right c.in_ok-top.top.left o c.free-in-Joined.ensures.step c.free-in-Joined-2.ensures.step (λ m. omega arith) in
    joined_level_before c.args.levels.now c.open.new.self c.free-in-Joined-2.new.self c.args.root c.in_ok-top.top.left c.in_ok-top.top.right c.in_ok-top.top.item c.args.edge o k c.in-Joined.ensures

pub returns-in_ok-cut-in-Across-clause-level : goal.returns-in_ok-cut-in-Across-clause-level
returns-in_ok-cut-in-Across-clause-level t c =
    let o = opened c.args.levels.now c.open.new.self c.args.root c.in_ok-top.top.left c.in_ok-top.top.right c.in_ok-top.top.item c.in-Some.key c.in-Some.is c.requires.owns c.in_ok-top.ensures.ok c.in_ok-top.ensures.level c.in_ok-top.ensures.height c.in_ok-top.ensures.near c.requires.order in
    across_level_before c.args.levels.now c.open.new.self c.free-in-Across.new.self c.shorten_before.new.levels c.args.root c.in_ok-top.top.left c.in_ok-top.top.right c.in_ok-cut-in-Across.cut.rest c.in_ok-top.top.item c.args.edge c.in_ok-cut-in-Across.cut.edge o c.free-in-Across.ensures.step c.in-Across.ensures c.in_ok-cut-in-Across.ensures.level c.in_ok-cut-in-Across.ensures.edge
