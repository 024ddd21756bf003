-- What a level has on either side of an end: its items stay in place and in order, and it holds what the level does there.
use Rattle.std.proofs.Common.{◌≡◌, ◌&&◌, ◌||◌, Bool, true, false, not, cond, List, ◌∷◌, refl, ap, ap₂, sym, ◌∙◌}
use Rattle.rx_value.specs.declared.order.End.{End}
use Rattle.rx_value.specs.declared.order.Span.{Span}
use Rattle.rx_value.specs.Order.{is_at_most}
use Rattle.rx_value.specs.Spans.{IsAtMost, IsSpan, is_inside, first_end}
use Rattle.rx_value.proofs.Ends.{at_most-same, at_most-trans, at_most-below, below-at_most, below-trans}
use Rattle.rx_value.proofs.Meeting.{outside_above}
use Rattle.rx_tree.specs.Tree.{Level}
use Rattle.rx_tree.specs.Tree.Level.{end, item}
use Rattle.rx_tree.specs.Member.{level_holds, child_holds}
use Rattle.rx_tree.specs.Canonical.{BeginsFrom, Differs, ArePlaced}
use Rattle.rx_tree.specs.Weld.{EndsBy}
use Rattle.rx_tree.specs.Cuts.{before, after, AreInOrder}
use Rattle.rx_tree.proofs.Places.{nothing_before}

-- items in their places are in order
pub placed_order : (n : Bool) (ns : List Bool) (l : Level) → ArePlaced (n ∷ ns) l → AreInOrder l
placed_order n ns end placed = tt
placed_order n ns (item s c rest) placed = (placed.0.span, placed.0.rises, placed.0.differs, placed_order n ns rest placed.3)

-- one of the three forms that the items before an end take
abbrev before_by : End → Span → Level → Level → Bool → Bool → Level
before_by e t d kept a b = cond a (item t d kept) (cond b end (item (record { lo = t.lo; hi = e }) d end))

abbrev after_by : End → Span → Level → Level → Level → Bool → Bool → Level
after_by e t d rest kept a b = cond a kept (cond b (item t d rest) (item (record { lo = e; hi = t.hi }) d rest))

begins_by : (f e : End) (t : Span) (d kept : Level) (a b : Bool) → IsAtMost f t.lo → BeginsFrom f (before_by e t d kept a b)
begins_by f e t d kept true b from = from
begins_by f e t d kept false true from = tt
begins_by f e t d kept false false from = from

-- what is before an end begins where the items do
pub before_begins : (f e : End) (l : Level) → BeginsFrom f l → BeginsFrom f (before e l)
before_begins f e end from = tt
before_begins f e (item t d rest) from = begins_by f e t d (before e rest) (is_at_most t.hi e) (is_at_most e t.lo) from

differs_by : (s : Span) (c : Level) (e : End) (t : Span) (d kept : Level) (a b : Bool) → (s.hi ≡ t.lo → c ≡ d → ⊥) → Differs s c (before_by e t d kept a b)
differs_by s c e t d kept true b differs = differs
differs_by s c e t d kept false true differs = tt
differs_by s c e t d kept false false differs = differs

-- and differs from the item before it
pub before_differs : (s : Span) (c : Level) (e : End) (l : Level) → Differs s c l → Differs s c (before e l)
before_differs s c e end differs = tt
before_differs s c e (item t d rest) differs = differs_by s c e t d (before e rest) (is_at_most t.hi e) (is_at_most e t.lo) differs

before_placed_by : (n : Bool) (ns : List Bool) (e : End) (t : Span) (d rest : Level) (a b : Bool) → is_at_most e t.lo ≡ b → ArePlaced (n ∷ ns) (item t d rest) → ArePlaced (n ∷ ns) (before e rest) → ArePlaced (n ∷ ns) (before_by e t d (before e rest) a b)
before_placed_by n ns e t d rest true b g placed after =
    (record { span = placed.0.span; from = placed.0.from; rises = before_begins t.hi e rest placed.0.rises; differs = before_differs t d e rest placed.0.differs }, placed.1, placed.2, after)
before_placed_by n ns e t d rest false true g placed after = tt
before_placed_by n ns e t d rest false false g placed after = (record { span = g; from = placed.0.from; rises = tt; differs = tt }, placed.1, placed.2, tt)

-- What is before an end is in place, ends there or before, and holds what lies before it.
pub before_placed : (n : Bool) (ns : List Bool) (e : End) (l : Level) → ArePlaced (n ∷ ns) l → ArePlaced (n ∷ ns) (before e l)
before_placed n ns e end placed = tt
before_placed n ns e (item t d rest) placed = before_placed_by n ns e t d rest (is_at_most t.hi e) (is_at_most e t.lo) refl placed (before_placed n ns e rest placed.3)

before_ends_by : (e : End) (t : Span) (d kept : Level) (a b : Bool) → is_at_most t.hi e ≡ a → EndsBy e kept → EndsBy e (before_by e t d kept a b)
before_ends_by e t d kept true b low by = (low, by)
before_ends_by e t d kept false true low by = tt
before_ends_by e t d kept false false low by = (at_most-same e, tt)

pub before_ends : (e : End) (l : Level) → EndsBy e (before e l)
before_ends e end = tt
before_ends e (item t d rest) = before_ends_by e t d (before e rest) (is_at_most t.hi e) (is_at_most e t.lo) refl (before_ends e rest)

and_end : (h : Bool) → (h && true) ≡ h
and_end true = refl
and_end false = refl

pub and_none : (h : Bool) → (h && false) ≡ false
and_none true = refl
and_none false = refl

before_holds_by : (n : Bool) (ns : List Bool) (e : End) (t : Span) (d rest : Level) (p : End) (ps : List End) (a b x : Bool) → is_at_most t.hi e ≡ a → is_at_most e t.lo ≡ b → is_at_most e p ≡ x → ArePlaced (n ∷ ns) (item t d rest)
    → level_holds (before e rest) (p ∷ ps) ≡ (level_holds rest (p ∷ ps) && not x)
    → level_holds (before_by e t d (before e rest) a b) (p ∷ ps) ≡ (level_holds (item t d rest) (p ∷ ps) && not x)
before_holds_by n ns e t d rest p ps true b true low g h placed is =
    let out = outside_above t p (at_most-trans t.hi e p low h) in
    (rw out is) ∙ and_none (level_holds rest (p ∷ ps)) ∙ sym (and_none (level_holds (item t d rest) (p ∷ ps)))
before_holds_by n ns e t d rest p ps true b false low g h placed is =
    ap (λ y. (is_inside t p && child_holds d ps) || y) (is ∙ and_end (level_holds rest (p ∷ ps))) ∙ sym (and_end (level_holds (item t d rest) (p ∷ ps)))
before_holds_by n ns e t d rest p ps false true true low g h placed is = sym (and_none (level_holds (item t d rest) (p ∷ ps)))
before_holds_by n ns e t d rest p ps false true false low g h placed is =
    sym (and_end (level_holds (item t d rest) (p ∷ ps)) ∙ nothing_before n ns (item t d rest) e p ps placed g h)
before_holds_by n ns e t d rest p ps false false true low g h placed is =
    let out : is_inside (record { lo = t.lo; hi = e }) p ≡ false = outside_above (record { lo = t.lo; hi = e }) p h in
    ap (λ y. (y && child_holds d ps) || false) out ∙ sym (and_none (level_holds (item t d rest) (p ∷ ps)))
before_holds_by n ns e t d rest p ps false false false low g h placed is =
    let up : is_at_most t.hi p ≡ false = below-trans p e t.hi h low in
    let none = nothing_before n ns rest t.hi p ps placed.3 placed.0.rises up in
    ap (λ y. ((is_at_most t.lo p && not y) && child_holds d ps) || false) (h ∙ sym up)
    ∙ ap (λ y. (is_inside t p && child_holds d ps) || y) (sym none)
    ∙ sym (and_end (level_holds (item t d rest) (p ∷ ps)))

pub before_holds : (n : Bool) (ns : List Bool) (e : End) (l : Level) (p : End) (ps : List End) → ArePlaced (n ∷ ns) l → level_holds (before e l) (p ∷ ps) ≡ (level_holds l (p ∷ ps) && not (is_at_most e p))
before_holds n ns e end p ps placed = refl
before_holds n ns e (item t d rest) p ps placed = before_holds_by n ns e t d rest p ps (is_at_most t.hi e) (is_at_most e t.lo) (is_at_most e p) refl refl refl placed (before_holds n ns e rest p ps placed.3)

differs_upper : (e : End) (t : Span) (d rest : Level) → Differs t d rest → Differs (record { lo = e; hi = t.hi }) d rest
differs_upper e t d end differs = tt
differs_upper e t d (item u x rest) differs = differs

after_placed_by : (n : Bool) (ns : List Bool) (e : End) (t : Span) (d rest kept : Level) (a b : Bool) → is_at_most t.hi e ≡ a → is_at_most e t.lo ≡ b → ArePlaced (n ∷ ns) (item t d rest) → ArePlaced (n ∷ ns) kept → ArePlaced (n ∷ ns) (after_by e t d rest kept a b)
after_placed_by n ns e t d rest kept true b low g placed after = after
after_placed_by n ns e t d rest kept false true low g placed after = placed
after_placed_by n ns e t d rest kept false false low g placed after =
    (record { span = low; from = at_most-trans (first_end n) t.lo e placed.0.from (below-at_most t.lo e g); rises = placed.0.rises; differs = differs_upper e t d rest placed.0.differs }, placed.1, placed.2, placed.3)

-- What is behind an end is in place, begins there or later, and holds what lies from it on.
pub after_placed : (n : Bool) (ns : List Bool) (e : End) (l : Level) → ArePlaced (n ∷ ns) l → ArePlaced (n ∷ ns) (after e l)
after_placed n ns e end placed = tt
after_placed n ns e (item t d rest) placed = after_placed_by n ns e t d rest (after e rest) (is_at_most t.hi e) (is_at_most e t.lo) refl refl placed (after_placed n ns e rest placed.3)

after_begins_by : (e : End) (t : Span) (d rest kept : Level) (a b : Bool) → is_at_most e t.lo ≡ b → BeginsFrom e kept → BeginsFrom e (after_by e t d rest kept a b)
after_begins_by e t d rest kept true b g from = from
after_begins_by e t d rest kept false true g from = g
after_begins_by e t d rest kept false false g from = at_most-same e

pub after_begins : (e : End) (l : Level) → BeginsFrom e (after e l)
after_begins e end = tt
after_begins e (item t d rest) = after_begins_by e t d rest (after e rest) (is_at_most t.hi e) (is_at_most e t.lo) refl (after_begins e rest)

after_holds_by : (n : Bool) (ns : List Bool) (e : End) (t : Span) (d rest kept : Level) (p : End) (ps : List End) (a b x : Bool) → is_at_most t.hi e ≡ a → is_at_most e t.lo ≡ b → is_at_most e p ≡ x → ArePlaced (n ∷ ns) (item t d rest)
    → level_holds kept (p ∷ ps) ≡ (level_holds rest (p ∷ ps) && x)
    → level_holds (after_by e t d rest kept a b) (p ∷ ps) ≡ (level_holds (item t d rest) (p ∷ ps) && x)
after_holds_by n ns e t d rest kept p ps true b true low g h placed is =
    let out = outside_above t p (at_most-trans t.hi e p low h) in
    is ∙ ap (λ y. ((y && child_holds d ps) || level_holds rest (p ∷ ps)) && true) (sym out)
after_holds_by n ns e t d rest kept p ps true b false low g h placed is = is ∙ and_none (level_holds rest (p ∷ ps)) ∙ sym (and_none (level_holds (item t d rest) (p ∷ ps)))
after_holds_by n ns e t d rest kept p ps false true true low g h placed is = sym (and_end (level_holds (item t d rest) (p ∷ ps)))
after_holds_by n ns e t d rest kept p ps false true false low g h placed is =
    nothing_before n ns (item t d rest) e p ps placed g h ∙ sym (and_none (level_holds (item t d rest) (p ∷ ps)))
after_holds_by n ns e t d rest kept p ps false false true low g h placed is =
    let up : is_at_most t.lo p ≡ true = at_most-trans t.lo e p (below-at_most t.lo e g) h in
    ap (λ y. ((y && not (is_at_most t.hi p)) && child_holds d ps) || level_holds rest (p ∷ ps)) (h ∙ sym up)
    ∙ sym (and_end (level_holds (item t d rest) (p ∷ ps)))
after_holds_by n ns e t d rest kept p ps false false false low g h placed is =
    let none = nothing_before n ns rest t.hi p ps placed.3 placed.0.rises (below-trans p e t.hi h low) in
    ap₂ (λ y z. ((y && not (is_at_most t.hi p)) && child_holds d ps) || z) h none ∙ sym (and_none (level_holds (item t d rest) (p ∷ ps)))

pub after_holds : (n : Bool) (ns : List Bool) (e : End) (l : Level) (p : End) (ps : List End) → ArePlaced (n ∷ ns) l → level_holds (after e l) (p ∷ ps) ≡ (level_holds l (p ∷ ps) && is_at_most e p)
after_holds n ns e end p ps placed = refl
after_holds n ns e (item t d rest) p ps placed = after_holds_by n ns e t d rest (after e rest) p ps (is_at_most t.hi e) (is_at_most e t.lo) (is_at_most e p) refl refl refl placed (after_holds n ns e rest p ps placed.3)

in_order_by : (f : End) (t : Span) (d kept : Level) (a b : Bool) → is_at_most f t.lo ≡ b → IsSpan t → BeginsFrom t.hi kept → Differs t d kept → AreInOrder kept → AreInOrder (before_by f t d kept a b)
in_order_by f t d kept true b low span from differs order = (span, from, differs, order)
in_order_by f t d kept false true low span from differs order = tt
in_order_by f t d kept false false low span from differs order = (low, tt, tt, tt)

-- What is before an end is in order.
pub before_order : (f : End) (l : Level) → AreInOrder l → AreInOrder (before f l)
before_order f end order = tt
before_order f (item t d rest) order =
    in_order_by f t d (before f rest) (is_at_most t.hi f) (is_at_most f t.lo) refl order.0 (before_begins t.hi f rest order.1) (before_differs t d f rest order.2) (before_order f rest order.3)

-- all is behind an end that the items begin from
pub after_all : (e : End) (l : Level) → AreInOrder l → BeginsFrom e l → after e l ≡ l
after_all e end order from = refl
after_all e (item t d rest) order from =
    let up : is_at_most t.hi e ≡ false = at_most-below e t.lo t.hi from order.0 in
    rw (up, from) refl

order_by : (e : End) (t : Span) (d rest kept : Level) (a b : Bool) → is_at_most t.hi e ≡ a → AreInOrder (item t d rest) → AreInOrder kept → AreInOrder (after_by e t d rest kept a b)
order_by e t d rest kept true b high order follows = follows
order_by e t d rest kept false true high order follows = order
order_by e t d rest kept false false high order follows = (high, order.1, order.2, order.3)

-- What is behind an end is in order.
pub after_order : (e : End) (l : Level) → AreInOrder l → AreInOrder (after e l)
after_order e end order = tt
after_order e (item t d rest) order = order_by e t d rest (after e rest) (is_at_most t.hi e) (is_at_most e t.lo) refl order (after_order e rest order.3)
