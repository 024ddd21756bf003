-- Levels of one item, and those without a child.
use Rattle.std.proofs.Common.{◌≡◌, ◌⊎◌, inl, inr, ◌+◌, ◌&&◌, Bool, true, false, refl, ap, ap₂, sym, ◌∙◌, arith}
use Rattle.rx_value.specs.declared.order.End.{End}
use Rattle.rx_value.specs.declared.order.Span.{Span}
use Rattle.rx_value.specs.Order.{is_at_most}
use Rattle.rx_value.specs.Spans.{IsAtMost}
use Rattle.rx_tree.specs.Tree.{Level, is_end}
use Rattle.rx_tree.specs.Tree.Level.{end, item}
use Rattle.rx_tree.specs.Join.{join_level, length_of}
use Rattle.rx_tree.specs.Bare.{is_bare}
use Rattle.rx_tree.proofs.Joining.{length-join}

pub none_long : (l : Level) → length_of l ≡ 0 → l ≡ end
none_long end e = refl
none_long (item s c rest) e = absurd (omega (arith, e))

-- a level that is told by its one item
pub one_told : (whole left c right : Level) (s : Span) → whole ≡ join_level left (item s c right) → length_of left ≡ 0 → length_of right ≡ 0 → length_of c ≡ 0 → whole ≡ item s end end
one_told whole left c right s opened no_left no_right no_child =
    opened ∙ ap (λ l. join_level l (item s c right)) (none_long left no_left) ∙ ap₂ (item s) (none_long c no_child) (none_long right no_right)

not_both : (c right : Level) → (length_of right ≡ 0 → length_of c ≡ 0 → ⊥) → (is_end c && is_end right) ≡ false
not_both end end some = absurd (some refl refl)
not_both end (item t d rest) some = refl
not_both (item s c rest) right some = refl

and_false : (b : Bool) → (b && false) ≡ false
and_false true = refl
and_false false = refl

bare_join : (left c right : Level) (s : Span) → (length_of left ≡ 0 → length_of right ≡ 0 → length_of c ≡ 0 → ⊥) → is_bare (join_level left (item s c right)) ≡ false
bare_join end c right s some = not_both c right (some refl)
bare_join (item t d end) c right s some = and_false (is_end d)
bare_join (item t d (item u e rest)) c right s some = and_false (is_end d)

-- a level that has more than an item without a child
pub more_told : (whole left c right : Level) (s : Span) → whole ≡ join_level left (item s c right) → (length_of left ≡ 0 → length_of right ≡ 0 → length_of c ≡ 0 → ⊥) → is_bare whole ≡ false
more_told whole left c right s opened some = ap is_bare opened ∙ bare_join left c right s some

pub bare_none : (whole : Level) → whole ≡ end → is_bare whole ≡ false
bare_none whole is = ap is_bare is

-- a side without items, or an end that is low enough
pub free_side : (l : Level) (b : Bool) (x y : End) → b ≡ is_at_most x y → (l ≡ end) ⊎ (b ≡ true) → (l ≡ end) ⊎ IsAtMost x y
free_side l b x y is (inl none) = inl none
free_side l b x y is (inr low) = inr (sym is ∙ low)

-- the sides of a level are no longer than it
pub longer : (whole l : Level) (s : Span) (d r : Level) → whole ≡ join_level l (item s d r) → length_of whole ≡ 1 + length_of l + length_of r
longer whole l s d r opened = let long = ap length_of opened ∙ length-join l (item s d r) in omega (arith, long)
