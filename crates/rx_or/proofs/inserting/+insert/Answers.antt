use Rattle.std.proofs.Common.{◌≡◌, ◌≤◌, ◌+◌, [], ◌∷◌, ℕ, arith, refl, ap, sym, subst, ◌∙◌}
use Rattle.slab.specs.Slab.{slab_len}
use Rattle.rx_value.specs.declared.order.Span.{Span}
use Rattle.rx_tree.specs.Tree.Level.{item}
use Rattle.rx_tree.specs.Join.{join_level}
use Rattle.rx_tree.specs.Cuts.{AreInOrder}
use Rattle.rx_level.specs.Tree.{IsHeight}
use Rattle.rx_level.specs.Step.{Step, level_of, tall_of}
use Rattle.rx_or.specs.Cover.{IsLaid}
use Rattle.rx_cut.proofs.Staying.{stays}
use Rattle.rx_cut.proofs.Cuts.{seen, lower_left, lower_right}
use Rattle.rx_or.proofs.Opened.{none_level}
use Rattle.rx_or.proofs.Inserted.{laid_none, laid_before, laid_behind, grown_low, grown_high, grown_live, grown_low_behind, grown_high_behind, grown_live_behind, told_some}
use Rattle.rx_or.proofs.inserting.+insert.Goals as goal

pub returns-in_default-clause-laid : goal.returns-in_default-clause-laid
returns-in_default-clause-laid t c =
    laid_none c.args.span.now (level_of c.args.levels.now c.args.root) (level_of c.lone.new.levels c.in_ok-whole.whole) (none_level c.args.levels.now c.args.root (c.in_default.ensures.none)) c.in_ok-whole.ensures.level

pub insert-requires : goal.insert-requires
insert-requires t c =
    let o = (seen c.args.levels.now c.args.root c.in-Some.seen.child c.in-Some.seen.left c.in-Some.seen.right c.in-Some.seen.span.now c.requires.sound c.in-Some.ensures.fork c.in-Some.ensures.level c.requires.order) in
    (omega (arith, c.decreases, lower_left _ (tall_of c.args.levels.now c.in-Some.seen.left) (tall_of c.args.levels.now c.in-Some.seen.right) o.height), (c.requires.sound, (c.in-Some.ensures.left, o.left_order)))

pub insert-requires-then-is_behind : goal.insert-requires-then-is_behind
insert-requires-then-is_behind t c =
    let o = (seen c.args.levels.now c.args.root c.in-Some.seen.child c.in-Some.seen.left c.in-Some.seen.right c.in-Some.seen.span.now c.requires.sound c.in-Some.ensures.fork c.in-Some.ensures.level c.requires.order) in
    (omega (arith, c.decreases, lower_right _ (tall_of c.args.levels.now c.in-Some.seen.left) (tall_of c.args.levels.now c.in-Some.seen.right) o.height), (c.requires.sound, (c.in-Some.ensures.right, o.right_order)))

pub put_before-requires-clause-child : goal.put_before-requires-clause-child
put_before-requires-clause-child t c =
    let step = told_some (λ r. Step c.args.levels.now c.insert.new.levels [] (r ∷ [])) c.in-Ok-Some.field-0 c.in-Ok-Some.front c.in-Ok-Some.field-0-is c.in-Ok-Some.ensures.ok in
    (stays c.args.levels.now c.insert.new.levels _ c.requires.sound step c.in-Some.seen.child c.in-Some.ensures.child).lent

pub put_before-requires-clause-right : goal.put_before-requires-clause-right
put_before-requires-clause-right t c =
    let step = told_some (λ r. Step c.args.levels.now c.insert.new.levels [] (r ∷ [])) c.in-Ok-Some.field-0 c.in-Ok-Some.front c.in-Ok-Some.field-0-is c.in-Ok-Some.ensures.ok in
    (stays c.args.levels.now c.insert.new.levels _ c.requires.sound step c.in-Some.seen.right c.in-Some.ensures.right).lent

pub returns-in_ok-whole-in-Ok-Some-clause-laid : goal.returns-in_ok-whole-in-Ok-Some-clause-laid
returns-in_ok-whole-in-Ok-Some-clause-laid t c =
    let step = told_some (λ r. Step c.args.levels.now c.insert.new.levels [] (r ∷ [])) c.in-Ok-Some.field-0 c.in-Ok-Some.front c.in-Ok-Some.field-0-is c.in-Ok-Some.ensures.ok in
    let side = stays c.args.levels.now c.insert.new.levels _ c.requires.sound step c.in-Some.seen.right c.in-Some.ensures.right in
    let child = stays c.args.levels.now c.insert.new.levels _ c.requires.sound step c.in-Some.seen.child c.in-Some.ensures.child in
    let laid = told_some (λ r. IsLaid c.args.span.now (level_of c.args.levels.now c.in-Some.seen.left) (level_of c.insert.new.levels r)) c.in-Ok-Some.field-0 c.in-Ok-Some.front c.in-Ok-Some.field-0-is c.in-Ok-Some.ensures.laid in
    let all : level_of c.args.levels.now c.args.root ≡ join_level (level_of c.args.levels.now c.in-Some.seen.left) (item c.in_ok-own.own (level_of c.args.levels.now c.in-Some.seen.child) (level_of c.args.levels.now c.in-Some.seen.right)) = c.in-Some.ensures.level ∙ ap (λ (x : Span). join_level (level_of c.args.levels.now c.in-Some.seen.left) (item x (level_of c.args.levels.now c.in-Some.seen.child) (level_of c.args.levels.now c.in-Some.seen.right))) (sym c.in_ok-own.ensures) in
    laid_before c.args.span.now c.in_ok-own.own (level_of c.args.levels.now c.in-Some.seen.left) (level_of c.args.levels.now c.in-Some.seen.child) (level_of c.args.levels.now c.in-Some.seen.right) (level_of c.insert.new.levels c.in-Ok-Some.front) (level_of c.args.levels.now c.args.root) (level_of c.put_before.new.levels c.in_ok-whole-in-Ok-Some.whole)
    (subst AreInOrder all c.requires.order) all (c.is_ahead.ensures c.if-is_ahead.true) laid (c.in_ok-whole-in-Ok-Some.ensures.level ∙ (rw (child.level, side.level) refl))

pub returns-in_ok-whole-in-Ok-Some-clause-low : goal.returns-in_ok-whole-in-Ok-Some-clause-low
returns-in_ok-whole-in-Ok-Some-clause-low t c =
    let o = (seen c.args.levels.now c.args.root c.in-Some.seen.child c.in-Some.seen.left c.in-Some.seen.right c.in-Some.seen.span.now c.requires.sound c.in-Some.ensures.fork c.in-Some.ensures.level c.requires.order) in
    let step = told_some (λ r. Step c.args.levels.now c.insert.new.levels [] (r ∷ [])) c.in-Ok-Some.field-0 c.in-Ok-Some.front c.in-Ok-Some.field-0-is c.in-Ok-Some.ensures.ok in
    let side = stays c.args.levels.now c.insert.new.levels _ c.requires.sound step c.in-Some.seen.right c.in-Some.ensures.right in
    let low = told_some (λ r. tall_of c.args.levels.now c.in-Some.seen.left ≤ tall_of c.insert.new.levels r) c.in-Ok-Some.field-0 c.in-Ok-Some.front c.in-Ok-Some.field-0-is c.in-Ok-Some.ensures.low in
    let high = told_some (λ r. tall_of c.insert.new.levels r ≤ tall_of c.args.levels.now c.in-Some.seen.left + 1) c.in-Ok-Some.field-0 c.in-Ok-Some.front c.in-Ok-Some.field-0-is c.in-Ok-Some.ensures.high in
    let height = subst (λ (x : ℕ). IsHeight (tall_of c.insert.new.levels c.in-Ok-Some.front) x (tall_of c.put_before.new.levels c.in_ok-whole-in-Ok-Some.whole)) side.tall c.in_ok-whole-in-Ok-Some.ensures.height in
    grown_low (tall_of c.args.levels.now c.args.root) (tall_of c.args.levels.now c.in-Some.seen.left) (tall_of c.args.levels.now c.in-Some.seen.right) (tall_of c.insert.new.levels c.in-Ok-Some.front) (tall_of c.put_before.new.levels c.in_ok-whole-in-Ok-Some.whole) o.height o.near low high height

pub returns-in_ok-whole-in-Ok-Some-clause-high : goal.returns-in_ok-whole-in-Ok-Some-clause-high
returns-in_ok-whole-in-Ok-Some-clause-high t c =
    let o = (seen c.args.levels.now c.args.root c.in-Some.seen.child c.in-Some.seen.left c.in-Some.seen.right c.in-Some.seen.span.now c.requires.sound c.in-Some.ensures.fork c.in-Some.ensures.level c.requires.order) in
    let step = told_some (λ r. Step c.args.levels.now c.insert.new.levels [] (r ∷ [])) c.in-Ok-Some.field-0 c.in-Ok-Some.front c.in-Ok-Some.field-0-is c.in-Ok-Some.ensures.ok in
    let side = stays c.args.levels.now c.insert.new.levels _ c.requires.sound step c.in-Some.seen.right c.in-Some.ensures.right in
    let high = told_some (λ r. tall_of c.insert.new.levels r ≤ tall_of c.args.levels.now c.in-Some.seen.left + 1) c.in-Ok-Some.field-0 c.in-Ok-Some.front c.in-Ok-Some.field-0-is c.in-Ok-Some.ensures.high in
    let height = subst (λ (x : ℕ). IsHeight (tall_of c.insert.new.levels c.in-Ok-Some.front) x (tall_of c.put_before.new.levels c.in_ok-whole-in-Ok-Some.whole)) side.tall c.in_ok-whole-in-Ok-Some.ensures.height in
    grown_high (tall_of c.args.levels.now c.args.root) (tall_of c.args.levels.now c.in-Some.seen.left) (tall_of c.args.levels.now c.in-Some.seen.right) (tall_of c.insert.new.levels c.in-Ok-Some.front) (tall_of c.put_before.new.levels c.in_ok-whole-in-Ok-Some.whole) o.height high height

pub returns-in_ok-whole-in-Ok-Some-clause-live : goal.returns-in_ok-whole-in-Ok-Some-clause-live
returns-in_ok-whole-in-Ok-Some-clause-live t c =
    let o = (seen c.args.levels.now c.args.root c.in-Some.seen.child c.in-Some.seen.left c.in-Some.seen.right c.in-Some.seen.span.now c.requires.sound c.in-Some.ensures.fork c.in-Some.ensures.level c.requires.order) in
    let step = told_some (λ r. Step c.args.levels.now c.insert.new.levels [] (r ∷ [])) c.in-Ok-Some.field-0 c.in-Ok-Some.front c.in-Ok-Some.field-0-is c.in-Ok-Some.ensures.ok in
    let side = stays c.args.levels.now c.insert.new.levels _ c.requires.sound step c.in-Some.seen.right c.in-Some.ensures.right in
    let low = told_some (λ r. tall_of c.args.levels.now c.in-Some.seen.left ≤ tall_of c.insert.new.levels r) c.in-Ok-Some.field-0 c.in-Ok-Some.front c.in-Ok-Some.field-0-is c.in-Ok-Some.ensures.low in
    let high = told_some (λ r. tall_of c.insert.new.levels r ≤ tall_of c.args.levels.now c.in-Some.seen.left + 1) c.in-Ok-Some.field-0 c.in-Ok-Some.front c.in-Ok-Some.field-0-is c.in-Ok-Some.ensures.high in
    grown_live (tall_of c.args.levels.now c.args.root) (tall_of c.args.levels.now c.in-Some.seen.left) (tall_of c.args.levels.now c.in-Some.seen.right) (tall_of c.insert.new.levels c.in-Ok-Some.front) (slab_len c.args.levels.now) (slab_len c.insert.new.levels) (slab_len c.put_before.new.levels) o.height o.near low high c.in-Ok-Some.ensures.live (omega (arith, side.tall, c.in_ok-whole-in-Ok-Some.ensures.live))

pub returns-in_err-whole-in-Ok-Some-clause-live : goal.returns-in_err-whole-in-Ok-Some-clause-live
returns-in_err-whole-in-Ok-Some-clause-live t c =
    let o = (seen c.args.levels.now c.args.root c.in-Some.seen.child c.in-Some.seen.left c.in-Some.seen.right c.in-Some.seen.span.now c.requires.sound c.in-Some.ensures.fork c.in-Some.ensures.level c.requires.order) in
    let step = told_some (λ r. Step c.args.levels.now c.insert.new.levels [] (r ∷ [])) c.in-Ok-Some.field-0 c.in-Ok-Some.front c.in-Ok-Some.field-0-is c.in-Ok-Some.ensures.ok in
    let side = stays c.args.levels.now c.insert.new.levels _ c.requires.sound step c.in-Some.seen.right c.in-Some.ensures.right in
    let low = told_some (λ r. tall_of c.args.levels.now c.in-Some.seen.left ≤ tall_of c.insert.new.levels r) c.in-Ok-Some.field-0 c.in-Ok-Some.front c.in-Ok-Some.field-0-is c.in-Ok-Some.ensures.low in
    let high = told_some (λ r. tall_of c.insert.new.levels r ≤ tall_of c.args.levels.now c.in-Some.seen.left + 1) c.in-Ok-Some.field-0 c.in-Ok-Some.front c.in-Ok-Some.field-0-is c.in-Ok-Some.ensures.high in
    grown_live (tall_of c.args.levels.now c.args.root) (tall_of c.args.levels.now c.in-Some.seen.left) (tall_of c.args.levels.now c.in-Some.seen.right) (tall_of c.insert.new.levels c.in-Ok-Some.front) (slab_len c.args.levels.now) (slab_len c.insert.new.levels) (slab_len c.put_before.new.levels) o.height o.near low high c.in-Ok-Some.ensures.live (omega (arith, side.tall, c.in_err-whole-in-Ok-Some.ensures.live))

pub put_behind-requires-clause-child : goal.put_behind-requires-clause-child
put_behind-requires-clause-child t c =
    let step = told_some (λ r. Step c.args.levels.now c.insert-then-is_behind.new.levels [] (r ∷ [])) c.in-Ok-Some-insert.field-0 c.in-Ok-Some-insert.back c.in-Ok-Some-insert.field-0-is c.in-Ok-Some-insert.ensures.ok in
    (stays c.args.levels.now c.insert-then-is_behind.new.levels _ c.requires.sound step c.in-Some.seen.child c.in-Some.ensures.child).lent

pub put_behind-requires-clause-left : goal.put_behind-requires-clause-left
put_behind-requires-clause-left t c =
    let step = told_some (λ r. Step c.args.levels.now c.insert-then-is_behind.new.levels [] (r ∷ [])) c.in-Ok-Some-insert.field-0 c.in-Ok-Some-insert.back c.in-Ok-Some-insert.field-0-is c.in-Ok-Some-insert.ensures.ok in
    (stays c.args.levels.now c.insert-then-is_behind.new.levels _ c.requires.sound step c.in-Some.seen.left c.in-Some.ensures.left).lent

pub returns-in_ok-whole-in-Ok-Some-insert-clause-laid : goal.returns-in_ok-whole-in-Ok-Some-insert-clause-laid
returns-in_ok-whole-in-Ok-Some-insert-clause-laid t c =
    let step = told_some (λ r. Step c.args.levels.now c.insert-then-is_behind.new.levels [] (r ∷ [])) c.in-Ok-Some-insert.field-0 c.in-Ok-Some-insert.back c.in-Ok-Some-insert.field-0-is c.in-Ok-Some-insert.ensures.ok in
    let side = stays c.args.levels.now c.insert-then-is_behind.new.levels _ c.requires.sound step c.in-Some.seen.left c.in-Some.ensures.left in
    let child = stays c.args.levels.now c.insert-then-is_behind.new.levels _ c.requires.sound step c.in-Some.seen.child c.in-Some.ensures.child in
    let laid = told_some (λ r. IsLaid c.args.span.now (level_of c.args.levels.now c.in-Some.seen.right) (level_of c.insert-then-is_behind.new.levels r)) c.in-Ok-Some-insert.field-0 c.in-Ok-Some-insert.back c.in-Ok-Some-insert.field-0-is c.in-Ok-Some-insert.ensures.laid in
    let all : level_of c.args.levels.now c.args.root ≡ join_level (level_of c.args.levels.now c.in-Some.seen.left) (item c.in_ok-own.own (level_of c.args.levels.now c.in-Some.seen.child) (level_of c.args.levels.now c.in-Some.seen.right)) = c.in-Some.ensures.level ∙ ap (λ (x : Span). join_level (level_of c.args.levels.now c.in-Some.seen.left) (item x (level_of c.args.levels.now c.in-Some.seen.child) (level_of c.args.levels.now c.in-Some.seen.right))) (sym c.in_ok-own.ensures) in
    laid_behind c.args.span.now c.in_ok-own.own (level_of c.args.levels.now c.in-Some.seen.left) (level_of c.args.levels.now c.in-Some.seen.child) (level_of c.args.levels.now c.in-Some.seen.right) (level_of c.insert-then-is_behind.new.levels c.in-Ok-Some-insert.back) (level_of c.args.levels.now c.args.root) (level_of c.put_behind.new.levels c.in_ok-whole-in-Ok-Some-insert.whole)
    (subst AreInOrder all c.requires.order) all (c.is_behind.ensures c.if-is_behind.true) laid (c.in_ok-whole-in-Ok-Some-insert.ensures.level ∙ (rw (child.level, side.level) refl))

pub returns-in_ok-whole-in-Ok-Some-insert-clause-low : goal.returns-in_ok-whole-in-Ok-Some-insert-clause-low
returns-in_ok-whole-in-Ok-Some-insert-clause-low t c =
    let o = (seen c.args.levels.now c.args.root c.in-Some.seen.child c.in-Some.seen.left c.in-Some.seen.right c.in-Some.seen.span.now c.requires.sound c.in-Some.ensures.fork c.in-Some.ensures.level c.requires.order) in
    let step = told_some (λ r. Step c.args.levels.now c.insert-then-is_behind.new.levels [] (r ∷ [])) c.in-Ok-Some-insert.field-0 c.in-Ok-Some-insert.back c.in-Ok-Some-insert.field-0-is c.in-Ok-Some-insert.ensures.ok in
    let side = stays c.args.levels.now c.insert-then-is_behind.new.levels _ c.requires.sound step c.in-Some.seen.left c.in-Some.ensures.left in
    let low = told_some (λ r. tall_of c.args.levels.now c.in-Some.seen.right ≤ tall_of c.insert-then-is_behind.new.levels r) c.in-Ok-Some-insert.field-0 c.in-Ok-Some-insert.back c.in-Ok-Some-insert.field-0-is c.in-Ok-Some-insert.ensures.low in
    let high = told_some (λ r. tall_of c.insert-then-is_behind.new.levels r ≤ tall_of c.args.levels.now c.in-Some.seen.right + 1) c.in-Ok-Some-insert.field-0 c.in-Ok-Some-insert.back c.in-Ok-Some-insert.field-0-is c.in-Ok-Some-insert.ensures.high in
    let height = subst (λ (x : ℕ). IsHeight x (tall_of c.insert-then-is_behind.new.levels c.in-Ok-Some-insert.back) (tall_of c.put_behind.new.levels c.in_ok-whole-in-Ok-Some-insert.whole)) side.tall c.in_ok-whole-in-Ok-Some-insert.ensures.height in
    grown_low_behind (tall_of c.args.levels.now c.args.root) (tall_of c.args.levels.now c.in-Some.seen.left) (tall_of c.args.levels.now c.in-Some.seen.right) (tall_of c.insert-then-is_behind.new.levels c.in-Ok-Some-insert.back) (tall_of c.put_behind.new.levels c.in_ok-whole-in-Ok-Some-insert.whole) o.height o.near low high height

pub returns-in_ok-whole-in-Ok-Some-insert-clause-high : goal.returns-in_ok-whole-in-Ok-Some-insert-clause-high
returns-in_ok-whole-in-Ok-Some-insert-clause-high t c =
    let o = (seen c.args.levels.now c.args.root c.in-Some.seen.child c.in-Some.seen.left c.in-Some.seen.right c.in-Some.seen.span.now c.requires.sound c.in-Some.ensures.fork c.in-Some.ensures.level c.requires.order) in
    let step = told_some (λ r. Step c.args.levels.now c.insert-then-is_behind.new.levels [] (r ∷ [])) c.in-Ok-Some-insert.field-0 c.in-Ok-Some-insert.back c.in-Ok-Some-insert.field-0-is c.in-Ok-Some-insert.ensures.ok in
    let side = stays c.args.levels.now c.insert-then-is_behind.new.levels _ c.requires.sound step c.in-Some.seen.left c.in-Some.ensures.left in
    let high = told_some (λ r. tall_of c.insert-then-is_behind.new.levels r ≤ tall_of c.args.levels.now c.in-Some.seen.right + 1) c.in-Ok-Some-insert.field-0 c.in-Ok-Some-insert.back c.in-Ok-Some-insert.field-0-is c.in-Ok-Some-insert.ensures.high in
    let height = subst (λ (x : ℕ). IsHeight x (tall_of c.insert-then-is_behind.new.levels c.in-Ok-Some-insert.back) (tall_of c.put_behind.new.levels c.in_ok-whole-in-Ok-Some-insert.whole)) side.tall c.in_ok-whole-in-Ok-Some-insert.ensures.height in
    grown_high_behind (tall_of c.args.levels.now c.args.root) (tall_of c.args.levels.now c.in-Some.seen.left) (tall_of c.args.levels.now c.in-Some.seen.right) (tall_of c.insert-then-is_behind.new.levels c.in-Ok-Some-insert.back) (tall_of c.put_behind.new.levels c.in_ok-whole-in-Ok-Some-insert.whole) o.height high height

pub returns-in_ok-whole-in-Ok-Some-insert-clause-live : goal.returns-in_ok-whole-in-Ok-Some-insert-clause-live
returns-in_ok-whole-in-Ok-Some-insert-clause-live t c =
    let o = (seen c.args.levels.now c.args.root c.in-Some.seen.child c.in-Some.seen.left c.in-Some.seen.right c.in-Some.seen.span.now c.requires.sound c.in-Some.ensures.fork c.in-Some.ensures.level c.requires.order) in
    let step = told_some (λ r. Step c.args.levels.now c.insert-then-is_behind.new.levels [] (r ∷ [])) c.in-Ok-Some-insert.field-0 c.in-Ok-Some-insert.back c.in-Ok-Some-insert.field-0-is c.in-Ok-Some-insert.ensures.ok in
    let side = stays c.args.levels.now c.insert-then-is_behind.new.levels _ c.requires.sound step c.in-Some.seen.left c.in-Some.ensures.left in
    let low = told_some (λ r. tall_of c.args.levels.now c.in-Some.seen.right ≤ tall_of c.insert-then-is_behind.new.levels r) c.in-Ok-Some-insert.field-0 c.in-Ok-Some-insert.back c.in-Ok-Some-insert.field-0-is c.in-Ok-Some-insert.ensures.low in
    let high = told_some (λ r. tall_of c.insert-then-is_behind.new.levels r ≤ tall_of c.args.levels.now c.in-Some.seen.right + 1) c.in-Ok-Some-insert.field-0 c.in-Ok-Some-insert.back c.in-Ok-Some-insert.field-0-is c.in-Ok-Some-insert.ensures.high in
    grown_live_behind (tall_of c.args.levels.now c.args.root) (tall_of c.args.levels.now c.in-Some.seen.left) (tall_of c.args.levels.now c.in-Some.seen.right) (tall_of c.insert-then-is_behind.new.levels c.in-Ok-Some-insert.back) (slab_len c.args.levels.now) (slab_len c.insert-then-is_behind.new.levels) (slab_len c.put_behind.new.levels) o.height o.near low high c.in-Ok-Some-insert.ensures.live (omega (arith, side.tall, c.in_ok-whole-in-Ok-Some-insert.ensures.live))

pub returns-in_err-whole-in-Ok-Some-insert-clause-live : goal.returns-in_err-whole-in-Ok-Some-insert-clause-live
returns-in_err-whole-in-Ok-Some-insert-clause-live t c =
    let o = (seen c.args.levels.now c.args.root c.in-Some.seen.child c.in-Some.seen.left c.in-Some.seen.right c.in-Some.seen.span.now c.requires.sound c.in-Some.ensures.fork c.in-Some.ensures.level c.requires.order) in
    let step = told_some (λ r. Step c.args.levels.now c.insert-then-is_behind.new.levels [] (r ∷ [])) c.in-Ok-Some-insert.field-0 c.in-Ok-Some-insert.back c.in-Ok-Some-insert.field-0-is c.in-Ok-Some-insert.ensures.ok in
    let side = stays c.args.levels.now c.insert-then-is_behind.new.levels _ c.requires.sound step c.in-Some.seen.left c.in-Some.ensures.left in
    let low = told_some (λ r. tall_of c.args.levels.now c.in-Some.seen.right ≤ tall_of c.insert-then-is_behind.new.levels r) c.in-Ok-Some-insert.field-0 c.in-Ok-Some-insert.back c.in-Ok-Some-insert.field-0-is c.in-Ok-Some-insert.ensures.low in
    let high = told_some (λ r. tall_of c.insert-then-is_behind.new.levels r ≤ tall_of c.args.levels.now c.in-Some.seen.right + 1) c.in-Ok-Some-insert.field-0 c.in-Ok-Some-insert.back c.in-Ok-Some-insert.field-0-is c.in-Ok-Some-insert.ensures.high in
    grown_live_behind (tall_of c.args.levels.now c.args.root) (tall_of c.args.levels.now c.in-Some.seen.left) (tall_of c.args.levels.now c.in-Some.seen.right) (tall_of c.insert-then-is_behind.new.levels c.in-Ok-Some-insert.back) (slab_len c.args.levels.now) (slab_len c.insert-then-is_behind.new.levels) (slab_len c.put_behind.new.levels) o.height o.near low high c.in-Ok-Some-insert.ensures.live (omega (arith, side.tall, c.in_err-whole-in-Ok-Some-insert.ensures.live))
