-- What a span without a child leaves of the items before and behind it.
use Rattle.std.proofs.Common.{◌≡◌, Bool, true, false, cond, refl, ap, sym, subst, ◌∙◌}
use Rattle.rx_value.specs.declared.order.End.{End}
use Rattle.rx_value.specs.declared.order.Span.{Span}
use Rattle.rx_value.specs.Order.{is_at_most}
use Rattle.rx_value.specs.Spans.{IsAtMost, IsBelow}
use Rattle.rx_value.proofs.Ends.{at_most-antisym, at_most-total}
use Rattle.rx_tree.specs.Tree.{Level}
use Rattle.rx_tree.specs.Tree.Level.{end, item}
use Rattle.rx_tree.specs.Canonical.{BeginsFrom, Differs}
use Rattle.rx_tree.specs.Weld.{is_same_end, weld, glue}
use Rattle.rx_tree.proofs.Welding.{weld_apart, same_end-itself}
use Rattle.rx_tree.specs.Join.{join_level}
use Rattle.rx_level.proofs.Steps.{join_assoc}
use Rattle.rx_tree.specs.Cuts.{before, after, AreInOrder}
use Rattle.rx_or.specs.Cover.{IsCutBefore, IsCutAfter}
use Rattle.rx_weld.proofs.Seamless.{differs_weld, weld_twice, weld_join, glue_join}
use Rattle.rx_weld.specs.Seamless.{IsSeamless}
use Rattle.rx_tree.proofs.Order.{till, right_order, before_keep, before_drop, before_cut, nothing_before, after_drop, after_cut, after_keep}

-- neighbours in order can't be one item
pub order_apart : (l : Level) → AreInOrder l → IsSeamless l
order_apart end order = tt
order_apart (item s c rest) order = (order.2, order_apart rest order.3)

differs_before : (e hi : End) (s : Span) (c t' : Level) (t : Span) (d y : Level) (a b : Bool) → (s.hi ≡ t.lo → c ≡ d → ⊥) → Differs s c y → Differs s c (glue (cond a (item t d t') (cond b end (item (record { lo = t.lo; hi = e }) d end))) y)
differs_before e hi s c t' t d y true b first second = differs_weld s c t d (glue t' y) first
differs_before e hi s c t' t d y false true first second = second
differs_before e hi s c t' t d y false false first second = differs_weld s c (till t e) d y first

differs_rest : (e hi : End) (s : Span) (c r y : Level) → Differs s c r → Differs s c y → Differs s c (glue (before e r) y)
differs_rest e hi s c end y first second = second
differs_rest e hi s c (item t d r) y first second = differs_before e hi s c (before e r) t d y (is_at_most t.hi e) (is_at_most e t.lo) first second

-- no item is before an end
pub none_before : (e : End) → IsCutBefore e end end e
none_before e = record { joins = λ hi x. refl }

-- an item stays before the end
pub apart_before : (e : End) (l : Level) (i : Span) (d r kept : Level) (lo : End) → AreInOrder (join_level l (item i d r)) → IsAtMost i.hi e → (i.hi ≡ e → d ≡ end → ⊥) → IsCutBefore e r kept lo
    → IsCutBefore e (join_level l (item i d r)) (join_level l (item i d kept)) lo
apart_before e l i d r kept lo order low differs cut = record {
  joins = λ hi x.
      let y = weld (record { lo = e; hi = hi }) end x in
      let next : Differs i d (glue (before e r) y) = differs_rest e hi i d r y (right_order l i d r order).2 (differs_weld i d (record { lo = e; hi = hi }) end x differs) in
      ap (λ b. glue b y) (before_keep e l i d r order low)
      ∙ glue_join l i d r i (before e r) y refl (order_apart (join_level l (item i d r)) order)
      ∙ ap (join_level l) (weld_apart i d (glue (before e r) y) next)
      ∙ ap (λ b. join_level l (item i d b)) (cut.joins hi x)
      ∙ sym (join_assoc l (item i d kept) (weld (record { lo = lo; hi = hi }) end x));
}

-- an item behind the end, and those that follow, don't count
pub beyond_before : (e : End) (l : Level) (i : Span) (d r kept : Level) (lo : End) → AreInOrder (join_level l (item i d r)) → IsAtMost e i.lo → IsCutBefore e l kept lo → IsCutBefore e (join_level l (item i d r)) kept lo
beyond_before e l i d r kept lo order low cut = record {
  joins = λ hi x. ap (λ b. glue b (weld (record { lo = e; hi = hi }) end x)) (before_drop e l i d r order low) ∙ cut.joins hi x;
}

-- of an item that the end cuts the part before stays
pub across_before : (e : End) (l : Level) (i : Span) (d r : Level) → AreInOrder (join_level l (item i d r)) → IsBelow i.lo e → IsBelow e i.hi → (d ≡ end → ⊥) → IsCutBefore e (join_level l (item i d r)) (join_level l (item (till i e) d end)) e
across_before e l i d r order low high differs = record {
  joins = λ hi x.
      let y = weld (record { lo = e; hi = hi }) end x in
      ap (λ b. glue b y) (before_cut e l i d r order low high)
      ∙ glue_join l i d r (till i e) end y refl (order_apart (join_level l (item i d r)) order)
      ∙ ap (join_level l) (weld_apart (till i e) d y (differs_weld (till i e) d (record { lo = e; hi = hi }) end x (λ touch. differs)))
      ∙ sym (join_assoc l (item (till i e) d end) y);
}

-- an item without a child that reaches the end is joined
joined_by : (e : End) (l : Level) (i : Span) (d r : Level) (b : Bool) → is_at_most i.hi e ≡ b → AreInOrder (join_level l (item i d r)) → IsBelow i.lo e → IsAtMost e i.hi → before e (join_level l (item i d r)) ≡ join_level l (item (till i e) d end)
joined_by e l i d r true low order begins high =
    let same : i.hi ≡ e = at_most-antisym i.hi e low high in
    let from : BeginsFrom e r = subst (λ (x : End). BeginsFrom x r) same (right_order l i d r order).1 in
    before_keep e l i d r order low
    ∙ ap (λ x. join_level l (item i d x)) (nothing_before e r (right_order l i d r order).3 from)
    ∙ ap (λ x. join_level l (item (till i x) d end)) same
joined_by e l i d r false high order begins low = before_cut e l i d r order begins high

pub joined_before : (e : End) (l : Level) (i : Span) (d r : Level) → AreInOrder (join_level l (item i d r)) → IsBelow i.lo e → IsAtMost e i.hi → d ≡ end → IsCutBefore e (join_level l (item i d r)) l i.lo
joined_before e l i d r order low high is = record {
  joins = λ hi x.
      let y = weld (record { lo = e; hi = hi }) end x in
      ap (λ b. glue b y) (joined_by e l i d r (is_at_most i.hi e) refl order low high)
      ∙ glue_join l i d r (till i e) end y refl (order_apart (join_level l (item i d r)) order)
      ∙ ap (λ c. join_level l (weld (till i e) c y)) is
      ∙ ap (join_level l) (weld_twice i.lo e hi end x);
}

-- no item is behind an end
pub none_after : (e : End) → IsCutAfter e end end e
none_after e = record { joins = λ lo. refl }

-- an item stays behind the end
pub apart_after : (e : End) (l : Level) (i : Span) (d r kept : Level) (hi : End) → AreInOrder (join_level l (item i d r)) → IsAtMost e i.lo → (e ≡ i.lo → d ≡ end → ⊥) → IsCutAfter e l kept hi
    → IsCutAfter e (join_level l (item i d r)) (join_level kept (item i d r)) hi
apart_after e l i d r kept hi order low differs cut = record {
  joins = λ lo.
      let s : Span = record { lo = lo; hi = e } in
      ap (weld s end) (after_keep e l i d r order low)
      ∙ weld_join s end (after e l) i d r (λ touch alike. differs touch (sym alike))
      ∙ ap (λ x. join_level x (item i d r)) (cut.joins lo);
}

-- an item that ends before the end, and those before it, don't count
pub beyond_after : (e : End) (l : Level) (i : Span) (d r kept : Level) (hi : End) → AreInOrder (join_level l (item i d r)) → IsAtMost i.hi e → IsCutAfter e r kept hi → IsCutAfter e (join_level l (item i d r)) kept hi
beyond_after e l i d r kept hi order low cut = record {
  joins = λ lo. ap (weld (record { lo = lo; hi = e }) end) (after_drop e l i d r order low) ∙ cut.joins lo;
}

-- of an item that the end cuts the part behind stays
pub across_after : (e : End) (l : Level) (i : Span) (d r : Level) → AreInOrder (join_level l (item i d r)) → IsBelow i.lo e → IsBelow e i.hi → (d ≡ end → ⊥) → IsCutAfter e (join_level l (item i d r)) (item (record { lo = e; hi = i.hi }) d r) e
across_after e l i d r order low high differs = record {
  joins = λ lo.
      let s : Span = record { lo = lo; hi = e } in
      let j : Span = record { lo = e; hi = i.hi } in
      let first : is_at_most e i.lo ≡ false = low in
      let cut : after e (join_level l (item i d r)) ≡ item j d r = after_cut e l i d r order (at_most-total e i.lo low) high ∙ ap (λ b. cond b (item i d r) (item j d r)) first in
      ap (weld s end) cut
      ∙ weld_apart s end (item j d r) (λ touch alike. differs (sym alike));
}

joined_after_by : (lo e : End) (i : Span) (r : Level) (b : Bool) → is_at_most e i.lo ≡ b → IsAtMost i.lo e → weld (record { lo = lo; hi = e }) end (cond b (item i end r) (item (record { lo = e; hi = i.hi }) end r)) ≡ item (record { lo = lo; hi = i.hi }) end r
joined_after_by lo e i r true high low =
    let same : i.lo ≡ e = at_most-antisym i.lo e low high in
    let touch : is_same_end e i.lo ≡ true = subst (λ (x : End). is_same_end e x ≡ true) (sym same) (same_end-itself e) in
    rw touch refl
joined_after_by lo e i r false high low = rw (same_end-itself e) refl

-- an item without a child that goes on behind the end is joined
pub joined_after : (e : End) (l : Level) (i : Span) (d r : Level) → AreInOrder (join_level l (item i d r)) → IsAtMost i.lo e → IsBelow e i.hi → d ≡ end → IsCutAfter e (join_level l (item i d r)) r i.hi
joined_after e l i d r order low high is = record {
  joins = λ lo.
      ap (weld (record { lo = lo; hi = e }) end) (after_cut e l i d r order low high ∙ ap (λ c. cond (is_at_most e i.lo) (item i c r) (item (record { lo = e; hi = i.hi }) c r)) is)
      ∙ joined_after_by lo e i r (is_at_most e i.lo) refl low;
}
