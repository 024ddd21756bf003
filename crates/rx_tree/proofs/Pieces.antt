-- Either of two levels in pieces: what both have before an item of the first, within it and behind it.
use Rattle.std.proofs.Common.{◌≡◌, ◌&&◌, ◌||◌, ◌≤◌, Bool, true, false, not, cond, List, [], ◌∷◌, arith, refl, ap, ap₂, sym, ◌∙◌}
use Rattle.std.proofs.Math.Bool.{or_assoc, or-false, or-true}
use Rattle.rx_value.specs.declared.order.End.{End}
use Rattle.rx_value.specs.declared.order.Span.{Span}
use Rattle.rx_value.specs.Order.{is_at_most}
use Rattle.rx_value.specs.Spans.{IsAtMost, IsSpan, is_inside, first_end}
use Rattle.rx_value.proofs.Ends.{at_most-same, at_most-trans, below-at_most}
use Rattle.rx_tree.specs.Tree.{Level, level_size}
use Rattle.rx_tree.specs.Tree.Level.{end, item}
use Rattle.rx_tree.specs.Join.{join_level}
use Rattle.rx_tree.specs.Member.{IsTuple, level_holds, child_holds}
use Rattle.rx_tree.specs.Canonical.{BeginsFrom, ArePlaced}
use Rattle.rx_tree.specs.Weld.{glue, EndsBy}
use Rattle.rx_tree.specs.Union.{either_child, either}
use Rattle.rx_tree.specs.Cuts.{before, after}
use Rattle.rx_tree.specs.Fill.{Fits, filled}
use Rattle.rx_tree.proofs.Bools.{or_swap}
use Rattle.rx_tree.proofs.Places.{nothing_before}
use Rattle.rx_tree.proofs.Welding.{Follows, begins_later, glue_begins, glue_placed, glue_ends, glue_holds}
use Rattle.rx_tree.proofs.Layers.{AreLaid}
use Rattle.rx_tree.proofs.Either.{either_law}
use Rattle.rx_tree.proofs.Intersection.{IsChild}
use Rattle.rx_tree.proofs.Joining.{holds-join, parted, ends_later, begins_first, begins_behind, nothing_after}
use Rattle.rx_tree.proofs.Sides.{before_placed, before_ends, before_holds, after_placed, after_begins, after_holds}
use Rattle.rx_tree.proofs.Unions.{either_laid, either_is, either_begins, either_ends}
use Rattle.rx_tree.proofs.Unique.{same_levels}

after_ends_by : (f e : End) (t : Span) (d rest kept : Level) (a b : Bool) → EndsBy f (item t d rest) → EndsBy f kept → EndsBy f (cond a kept (cond b (item t d rest) (item (record { lo = e; hi = t.hi }) d rest)))
after_ends_by f e t d rest kept true b by follows = follows
after_ends_by f e t d rest kept false true by follows = by
after_ends_by f e t d rest kept false false by follows = by

-- what is behind an end ends where the level does
pub after_ends : (f e : End) (l : Level) → EndsBy f l → EndsBy f (after e l)
after_ends f e end by = tt
after_ends f e (item t d rest) by = after_ends_by f e t d rest (after e rest) (is_at_most t.hi e) (is_at_most e t.lo) by (after_ends f e rest by.1)

before_size_by : (e : End) (t : Span) (d rest kept : Level) (a b : Bool) → level_size kept ≤ level_size rest → level_size (cond a (item t d kept) (cond b end (item (record { lo = t.lo; hi = e }) d end))) ≤ level_size (item t d rest)
before_size_by e t d rest kept true b low = omega (arith, low)
before_size_by e t d rest kept false true low = omega arith
before_size_by e t d rest kept false false low = omega arith

-- what is on one side of an end is no larger than the level
pub before_size : (e : End) (l : Level) → level_size (before e l) ≤ level_size l
before_size e end = omega arith
before_size e (item t d rest) = before_size_by e t d rest (before e rest) (is_at_most t.hi e) (is_at_most e t.lo) (before_size e rest)

after_size_by : (e : End) (t : Span) (d rest kept : Level) (a b : Bool) → level_size kept ≤ level_size rest → level_size (cond a kept (cond b (item t d rest) (item (record { lo = e; hi = t.hi }) d rest))) ≤ level_size (item t d rest)
after_size_by e t d rest kept true b low = omega (arith, low)
after_size_by e t d rest kept false true low = omega arith
after_size_by e t d rest kept false false low = omega arith

pub after_size : (e : End) (l : Level) → level_size (after e l) ≤ level_size l
after_size e end = omega arith
after_size e (item t d rest) = after_size_by e t d rest (after e rest) (is_at_most t.hi e) (is_at_most e t.lo) (after_size e rest)

-- The three pieces at a position: x says that it isn't below the item, and y that it is behind it.
pieces_hold : (l b c r x y : Bool) → (y ≡ true → x ≡ true)
    → ((l || (b && not x)) || (((((x && not y) && c) || false) || ((b && not y) && x)) || (r || (b && y))))
    ≡ ((l || (((x && not y) && c) || r)) || b)
pieces_hold true b c r x y up = refl
pieces_hold false true true true true true up = refl
pieces_hold false true true false true true up = refl
pieces_hold false true false true true true up = refl
pieces_hold false true false false true true up = refl
pieces_hold false true true true true false up = refl
pieces_hold false true true false true false up = refl
pieces_hold false true false true true false up = refl
pieces_hold false true false false true false up = refl
pieces_hold false true true true false false up = refl
pieces_hold false true true false false false up = refl
pieces_hold false true false true false false up = refl
pieces_hold false true false false false false up = refl
pieces_hold false false true true true true up = refl
pieces_hold false false true false true true up = refl
pieces_hold false false false true true true up = refl
pieces_hold false false false false true true up = refl
pieces_hold false false true true true false up = refl
pieces_hold false false true false true false up = refl
pieces_hold false false false true true false up = refl
pieces_hold false false false false true false up = refl
pieces_hold false false true true false false up = refl
pieces_hold false false true false false false up = refl
pieces_hold false false false true false false up = refl
pieces_hold false false false false false false up = refl
pieces_hold false b c r false true up = absurd (cc (up refl))

-- three levels in place one after the other, which are glued to a level
pub record Pieces (n : Bool) (ns : List Bool) (f m k whole : Level) : Type 0 where
  pub front : ArePlaced (n ∷ ns) f
  pub middle : ArePlaced (n ∷ ns) m
  pub back : ArePlaced (n ∷ ns) k
  pub is : glue f (glue m k) ≡ whole

-- A level that is taken apart at an item, and another: either of what both have before the item, of the item and what the other has within it, and of what
-- both have behind it.
pub pieces : (n : Bool) (ns : List Bool) (l : Level) (s : Span) (c r b : Level) → ArePlaced (n ∷ ns) (join_level l (item s c r)) → ArePlaced (n ∷ ns) b
    → Pieces n ns (either (n ∷ ns) l (before s.lo b)) (either (n ∷ ns) (item s c end) (after s.lo (before s.hi b))) (either (n ∷ ns) r (after s.hi b)) (either (n ∷ ns) (join_level l (item s c r)) b)
pieces n ns l s c r b first second =
    let x = parted n ns l s c r first in
    let alone : ArePlaced (n ∷ ns) (item s c end) = (record { span = x.on.0.span; from = x.on.0.from; rises = tt; differs = tt }, x.on.1, x.on.2, tt) in
    let low = before_placed n ns s.lo b second in
    let till = before_placed n ns s.hi b second in
    let within = after_placed n ns s.lo (before s.hi b) till in
    let high = after_placed n ns s.hi b second in
    let f = either (n ∷ ns) l (before s.lo b) in
    let m = either (n ∷ ns) (item s c end) (after s.lo (before s.hi b)) in
    let k = either (n ∷ ns) r (after s.hi b) in
    let front = either_laid n ns l (before s.lo b) x.left low in
    let middle = either_laid n ns (item s c end) (after s.lo (before s.hi b)) alone within in
    let back = either_laid n ns r (after s.hi b) x.on.3 high in
    let back_begins = either_begins n ns s.hi r (after s.hi b) x.on.3 high x.on.0.rises (after_begins s.hi b) in
    let inner : Follows n ns s.hi m k = record {
      first = middle.placed;
      second = back.placed;
      ends = either_ends n ns s.hi (item s c end) (after s.lo (before s.hi b)) alone within (at_most-same s.hi, tt) (after_ends s.hi s.lo (before s.hi b) (before_ends s.hi b));
      begins = back_begins;
    } in
    let outer : Follows n ns s.lo f (glue m k) = record {
      first = front.placed;
      second = glue_placed n ns s.hi m k inner;
      ends = either_ends n ns s.lo l (before s.lo b) x.left low x.ends (before_ends s.lo b);
      begins = glue_begins s.lo m k
          (either_begins n ns s.lo (item s c end) (after s.lo (before s.hi b)) alone within (at_most-same s.lo) (after_begins s.lo (before s.hi b)))
          (begins_later s.lo s.hi k (below-at_most s.lo s.hi x.on.0.span) back_begins);
    } in
    let laid : AreLaid n ns (join_level l (item s c r)) b (glue f (glue m k)) = record {
      placed = glue_placed n ns s.lo f (glue m k) outer;
      holds = λ p ps tuple.
          let in_front = front.holds p ps tuple ∙ ap (λ z. level_holds l (p ∷ ps) || z) (before_holds n ns s.lo b p ps second) in
          let inside = middle.holds p ps tuple
          ∙ ap (λ z. level_holds (item s c end) (p ∷ ps) || z) (after_holds n ns s.lo (before s.hi b) p ps till ∙ ap (λ z. z && is_at_most s.lo p) (before_holds n ns s.hi b p ps second)) in
          let behind = back.holds p ps tuple ∙ ap (λ z. level_holds r (p ∷ ps) || z) (after_holds n ns s.hi b p ps second) in
          glue_holds n ns s.lo f (glue m k) p ps outer
          ∙ ap₂ (λ z w. z || w) in_front (glue_holds n ns s.hi m k p ps inner ∙ ap₂ (λ z w. z || w) inside behind)
          ∙ pieces_hold (level_holds l (p ∷ ps)) (level_holds b (p ∷ ps)) (child_holds c ps) (level_holds r (p ∷ ps)) (is_at_most s.lo p) (is_at_most s.hi p)
          (λ up. at_most-trans s.lo s.hi p (below-at_most s.lo s.hi x.on.0.span) up)
          ∙ ap (λ z. z || level_holds b (p ∷ ps)) (sym (holds-join l (item s c r) p ps));
    } in
    record { front = front.placed; middle = middle.placed; back = back.placed; is = either_is n ns (join_level l (item s c r)) b (glue f (glue m k)) first second laid }

bare_holds : (i x y b : Bool) → i ≡ (x && not y) → ((i && true) || false) ≡ (((i && true) || false) || ((b && not y) && x))
bare_holds true x y b is = refl
bare_holds false true true true is = refl
bare_holds false true true false is = refl
bare_holds false true false b is = absurd (cc is)
bare_holds false false true true is = refl
bare_holds false false true false is = refl
bare_holds false false false true is = refl
bare_holds false false false false is = refl

-- an item without a child holds all that lies within it
pub bare_within : (n : Bool) (ns : List Bool) (s : Span) (b : Level) → ArePlaced (n ∷ ns) (item s end end) → ArePlaced (n ∷ ns) b → item s end end ≡ either (n ∷ ns) (item s end end) (after s.lo (before s.hi b))
bare_within n ns s b alone second =
    let till = before_placed n ns s.hi b second in
    either_is n ns (item s end end) (after s.lo (before s.hi b)) (item s end end) alone (after_placed n ns s.lo (before s.hi b) till) (record {
      placed = alone;
      holds = λ p ps tuple.
          bare_holds (is_inside s p) (is_at_most s.lo p) (is_at_most s.hi p) (level_holds b (p ∷ ps)) refl
          ∙ ap (λ z. level_holds (item s end end) (p ∷ ps) || z) (sym (after_holds n ns s.lo (before s.hi b) p ps till ∙ ap (λ z. z && is_at_most s.lo p) (before_holds n ns s.hi b p ps second)));
    })

-- what is said of an item from one end to another that is united with a level between them
pub record IsFilled (n : Bool) (ns : List Bool) (lo hi : End) (c m u : Level) : Type 0 where
  pub placed : ArePlaced (n ∷ ns) u
  pub begins : BeginsFrom lo u
  pub ends : EndsBy hi u
  pub holds : (p : End) (ps : List End) → IsTuple ns ps → level_holds u (p ∷ ps) ≡ (((is_at_most lo p && not (is_at_most hi p)) && child_holds c ps) || level_holds m (p ∷ ps))

-- no position lies between two ends that are one
none_between : (n : Bool) (ns : List Bool) (lo hi : End) (c m : Level) (p : End) (ps : List End) (x : Bool) → is_at_most lo p ≡ x → Fits n ns lo hi c m → IsAtMost hi lo
    → false ≡ (((x && not (is_at_most hi p)) && child_holds c ps) || level_holds m (p ∷ ps))
none_between n ns lo hi c m p ps true is fits low =
    let up : is_at_most hi p ≡ true = at_most-trans hi lo p low is in
    sym ((rw up refl) ∙ nothing_after hi p ps m fits.ends up)
none_between n ns lo hi c m p ps false is fits low = sym (nothing_before n ns m lo p ps fits.placed fits.begins is)

filled_by : (n : Bool) (ns : List Bool) (lo hi : End) (c m : Level) (x : Bool) → is_at_most hi lo ≡ x → Fits n ns lo hi c m → IsFilled n ns lo hi c m (cond x end (either (n ∷ ns) (item (record { lo = lo; hi = hi }) c end) m))
filled_by n ns lo hi c m true is fits = record {
  placed = tt;
  begins = tt;
  ends = tt;
  holds = λ p ps tuple. none_between n ns lo hi c m p ps (is_at_most lo p) refl fits is;
}
filled_by n ns lo hi c m false is fits =
    let s : Span = record { lo = lo; hi = hi } in
    let alone : ArePlaced (n ∷ ns) (item s c end) = (record { span = is; from = fits.from; rises = tt; differs = tt }, fits.not_all, fits.child, tt) in
    let laid = either_laid n ns (item s c end) m alone fits.placed in
    record {
      placed = laid.placed;
      begins = either_begins n ns lo (item s c end) m alone fits.placed (at_most-same lo) fits.begins;
      ends = either_ends n ns hi (item s c end) m alone fits.placed (at_most-same hi, tt) fits.ends;
      holds = λ p ps tuple. laid.holds p ps tuple ∙ ap (λ z. z || level_holds m (p ∷ ps)) (or-false (is_inside s p && child_holds c ps));
    }

pub filled_law : (n : Bool) (ns : List Bool) (lo hi : End) (c m : Level) → Fits n ns lo hi c m → IsFilled n ns lo hi c m (filled (n ∷ ns) lo hi c m)
filled_law n ns lo hi c m fits = filled_by n ns lo hi c m (is_at_most hi lo) refl fits

fill_same : (n : Bool) (ns : List Bool) (lo hi : End) (c m u v : Level) → IsFilled n ns lo hi c m u → IsFilled n ns lo hi c m v → (ps : List End) → IsTuple (n ∷ ns) ps → level_holds u ps ≡ level_holds v ps
fill_same n ns lo hi c m u v one other [] tuple = absurd tuple
fill_same n ns lo hi c m u v one other (p ∷ ps) tuple = one.holds p ps tuple.1 ∙ sym (other.holds p ps tuple.1)

-- a level that holds the same is the same
filled_is : (n : Bool) (ns : List Bool) (lo hi : End) (c m u : Level) → Fits n ns lo hi c m → IsFilled n ns lo hi c m u → u ≡ filled (n ∷ ns) lo hi c m
filled_is n ns lo hi c m u fits one =
    let law = filled_law n ns lo hi c m fits in
    same_levels (n ∷ ns) u (filled (n ∷ ns) lo hi c m) one.placed law.placed (fill_same n ns lo hi c m u (filled (n ∷ ns) lo hi c m) one law)

-- The pieces at a position that isn't below the first, second, third and last of four rising ends, as far as these say.
fill_holds : (c d l r w x y z : Bool) → (z ≡ true → y ≡ true) → (y ≡ true → x ≡ true) → (x ≡ true → w ≡ true)
    → ((((w && not x) && c) || l) || ((((x && not y) && (c || d)) || false) || (((y && not z) && c) || r)))
    ≡ (((w && not z) && c) || (l || (((x && not y) && d) || r)))
fill_holds c d l r false false false false f g h = refl
fill_holds c d l r true false false false f g h = or_assoc c l r
fill_holds true d l r true true false false f g h = or-true l
fill_holds false d l r true true false false f g h = ap (λ x. l || (x || r)) (or-false d)
fill_holds c d l r true true true false f g h = or_swap l c r
fill_holds c d l r true true true true f g h = refl
fill_holds c d l r false true y z f g h = absurd (cc (h refl))
fill_holds c d l r w false true z f g h = absurd (cc (g refl))
fill_holds c d l r w x false true f g h = absurd (cc (f refl))

ends_behind : (e : End) (l : Level) (t : Span) (d r : Level) → EndsBy e (join_level l (item t d r)) → EndsBy e (item t d r)
ends_behind e end t d r by = by
ends_behind e (item u x l) t d r by = ends_behind e l t d r by.1

-- what an item fills before and behind an item of a level
pub record FitParts (n : Bool) (ns : List Bool) (lo hi : End) (c l : Level) (t : Span) (d r : Level) : Type 0 where
  pub before : Fits n ns lo t.lo c l
  pub after : Fits n ns t.hi hi c r
  pub span : IsSpan t
  pub low : IsAtMost lo t.lo
  pub high : IsAtMost t.hi hi
  pub on : ArePlaced (n ∷ ns) (item t d r)

pub fit_parts : (n : Bool) (ns : List Bool) (lo hi : End) (c l : Level) (t : Span) (d r : Level) → Fits n ns lo hi c (join_level l (item t d r)) → FitParts n ns lo hi c l t d r
fit_parts n ns lo hi c l t d r fits =
    let x = parted n ns l t d r fits.placed in
    let low = begins_behind n ns lo l t d r fits.placed fits.begins in
    let by = ends_behind hi l t d r fits.ends in
    record {
      before = record { from = fits.from; rises = low; not_all = fits.not_all; child = fits.child; placed = x.left; begins = begins_first lo l t d r fits.begins; ends = x.ends };
      after = record {
        from = at_most-trans (first_end n) t.lo t.hi x.on.0.from (below-at_most t.lo t.hi x.on.0.span);
        rises = by.0;
        not_all = fits.not_all;
        child = fits.child;
        placed = x.on.3;
        begins = x.on.0.rises;
        ends = by.1;
      };
      span = x.on.0.span;
      low = low;
      high = by.0;
      on = x.on;
    }

-- An item between two ends united with a level that is taken apart at one of its items: what it fills before that item, the item over either child, and what it
-- fills behind it.
pub fill_pieces : (n : Bool) (ns : List Bool) (lo hi : End) (c l : Level) (t : Span) (d r : Level) → Fits n ns lo hi c (join_level l (item t d r))
    → Pieces n ns (filled (n ∷ ns) lo t.lo c l) (item t (either_child ns c d) end) (filled (n ∷ ns) t.hi hi c r) (filled (n ∷ ns) lo hi c (join_level l (item t d r)))
fill_pieces n ns lo hi c l t d r fits =
    let q = fit_parts n ns lo hi c l t d r fits in
    let whole = join_level l (item t d r) in
    let f = filled (n ∷ ns) lo t.lo c l in
    let k = filled (n ∷ ns) t.hi hi c r in
    let above : IsChild ns c = record { placed = fits.child; not_all = fits.not_all } in
    let below : IsChild ns d = record { placed = q.on.2; not_all = q.on.1 } in
    let child = (either_law ns).child c d above below in
    let m = item t (either_child ns c d) end in
    let front = filled_law n ns lo t.lo c l q.before in
    let back = filled_law n ns t.hi hi c r q.after in
    let alone : ArePlaced (n ∷ ns) m = (record { span = q.span; from = q.on.0.from; rises = tt; differs = tt }, child.not_all, child.placed, tt) in
    let inner : Follows n ns t.hi m k = record { first = alone; second = back.placed; ends = (at_most-same t.hi, tt); begins = back.begins } in
    let outer : Follows n ns t.lo f (glue m k) = record {
      first = front.placed;
      second = glue_placed n ns t.hi m k inner;
      ends = front.ends;
      begins = glue_begins t.lo m k (at_most-same t.lo) (begins_later t.lo t.hi k (below-at_most t.lo t.hi q.span) back.begins);
    } in
    let one : IsFilled n ns lo hi c whole (glue f (glue m k)) = record {
      placed = glue_placed n ns t.lo f (glue m k) outer;
      begins = glue_begins lo f (glue m k) front.begins (begins_later lo t.lo (glue m k) q.low outer.begins);
      ends = glue_ends hi f (glue m k)
          (ends_later t.lo hi f (at_most-trans t.lo t.hi hi (below-at_most t.lo t.hi q.span) q.high) front.ends)
          (glue_ends hi m k (q.high, tt) back.ends);
      holds = λ p ps tuple.
          let both : ((is_inside t p && child_holds (either_child ns c d) ps) || false) ≡ ((is_inside t p && (child_holds c ps || child_holds d ps)) || false) =
          ap (λ z. (is_inside t p && z) || false) ((either_law ns).holds c d ps above below tuple) in
          glue_holds n ns t.lo f (glue m k) p ps outer
          ∙ ap₂ (λ z w. z || w) (front.holds p ps tuple) (glue_holds n ns t.hi m k p ps inner ∙ ap₂ (λ z w. z || w) both (back.holds p ps tuple))
          ∙ fill_holds (child_holds c ps) (child_holds d ps) (level_holds l (p ∷ ps)) (level_holds r (p ∷ ps)) (is_at_most lo p) (is_at_most t.lo p) (is_at_most t.hi p) (is_at_most hi p)
          (λ up. at_most-trans t.hi hi p q.high up)
          (λ up. at_most-trans t.lo t.hi p (below-at_most t.lo t.hi q.span) up)
          (λ up. at_most-trans lo t.lo p q.low up)
          ∙ ap (λ z. ((is_at_most lo p && not (is_at_most hi p)) && child_holds c ps) || z) (sym (holds-join l (item t d r) p ps));
    } in
    record { front = front.placed; middle = alone; back = back.placed; is = filled_is n ns lo hi c whole (glue f (glue m k)) fits one }

-- an item fills its own span, with what a level has within that
pub span_fits : (n : Bool) (ns : List Bool) (s : Span) (c b : Level) → ArePlaced (n ∷ ns) (item s c end) → ArePlaced (n ∷ ns) b → Fits n ns s.lo s.hi c (after s.lo (before s.hi b))
span_fits n ns s c b alone second = record {
  from = alone.0.from;
  rises = below-at_most s.lo s.hi alone.0.span;
  not_all = alone.1;
  child = alone.2;
  placed = after_placed n ns s.lo (before s.hi b) (before_placed n ns s.hi b second);
  begins = after_begins s.lo (before s.hi b);
  ends = after_ends s.hi s.lo (before s.hi b) (before_ends s.hi b);
}

pub span_filled : (parts : List Bool) (s : Span) (c m : Level) → IsSpan s → filled parts s.lo s.hi c m ≡ either parts (item s c end) m
span_filled parts s c m span = ap (λ x. cond x end (either parts (item s c end) m)) span
