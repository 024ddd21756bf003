-- Either of two lent levels, over stores that follow one another.
use Rattle.std.proofs.Common.{◌≡◌, ◌&&◌, ◌+◌, ◌<◌, ◌≤◌, max, ℕ, Bool, true, false, cond, List, [], ◌∷◌, Option, None, arith, refl, ap, ap₂, sym, ◌∙◌, subst}
use Rattle.slab.specs.Slab.{Slab}
use Rattle.rx_value.specs.declared.order.End.{End}
use Rattle.rx_value.specs.declared.order.Span.{Span}
use Rattle.rx_value.specs.Order.{is_at_most}
use Rattle.rx_value.specs.Spans.{is_whole_span}
use Rattle.rx_tree.specs.Tree.{Level, level_size, is_end}
use Rattle.rx_tree.specs.Tree.Level.{end, item}
use Rattle.rx_tree.specs.Join.{join_level, length_of}
use Rattle.rx_tree.specs.Canonical.{ArePlaced}
use Rattle.rx_tree.specs.Weld.{glue}
use Rattle.rx_tree.specs.Cuts.{before, after}
use Rattle.rx_tree.specs.Fill.{MayFill, filled}
use Rattle.rx_tree.specs.Union.{is_all, either_child, either}
use Rattle.rx_tree.proofs.Sides.{placed_order, before_placed, after_placed}
use Rattle.rx_tree.proofs.Joining.{size-join}
use Rattle.rx_tree.proofs.Unions.{either_none, either_itself}
use Rattle.rx_tree.proofs.Pieces.{Pieces, pieces, before_size, after_size, bare_within, fit_parts, fill_pieces, span_fits, span_filled}
use Rattle.rx_level.specs.declared.nodes.Node.{Node}
use Rattle.rx_level.specs.Store.{IsSound}
use Rattle.rx_level.specs.Step.{Step, Lent, level_of}
use Rattle.rx_level.proofs.Turning.{kept_root}
use Rattle.rx_weld.specs.Seamless.{IsSeamless}
use Rattle.rx_weld.proofs.Welded.{owned_lent}
use Rattle.rx_cut.specs.Clip.{clipped}
use Rattle.rx_cut.proofs.Staying.{Stays, stays, stays_two}
use Rattle.rx_limit.proofs.Glues.{Within, within, Kept, Glues, glues_from}
use Rattle.rx_or.specs.Below.{union_below, unless_all, ArePlacedBelow}
use Rattle.rx_or.proofs.Reaching.{order_apart}
use Rattle.rx_or.proofs.Laid.{placed_left, placed_item, placed_right, below_some}

-- the parts of a level that is taken apart at an item are smaller
pub record Smaller (whole below front back : Level) : Type 0 where
  pub child : level_size below < level_size whole
  pub left : level_size front < level_size whole
  pub right : level_size back < level_size whole

pub smaller : (whole below front back : Level) (span : Span) → whole ≡ join_level front (item span below back) → Smaller whole below front back
smaller whole below front back span e =
    let size : level_size whole ≡ level_size front + (1 + level_size below + level_size back) = ap level_size e ∙ size-join front (item span below back) in
    record { child = omega (arith, size); left = omega (arith, size); right = omega (arith, size) }

-- and stay in place
pub record Apart (parts : List Bool) (l : Level) (s : Span) (c r : Level) : Type 0 where
  pub left : ArePlaced parts l
  pub alone : ArePlaced parts (item s c end)
  pub right : ArePlaced parts r

pub apart : (parts : List Bool) (whole l : Level) (t s : Span) (c r : Level) → whole ≡ join_level l (item t c r) → s ≡ t → ArePlaced parts whole → Apart parts l s c r
apart parts whole l t s c r opened is placed =
    let all = subst (ArePlaced parts) opened placed in
    record { left = placed_left parts l (item t c r) all; alone = subst (λ (x : Span). ArePlaced parts (item x c end)) (sym is) (placed_item parts l t c r all); right = placed_right parts l t c r all }

-- three levels that are glued to one, and can't be one item where they are a level's own neighbours
pub record Joins (f m k whole : Level) : Type 0 where
  pub front : IsSeamless f
  pub middle : IsSeamless m
  pub is : glue f (glue m k) ≡ whole

joins_from : (n : Bool) (ns : List Bool) (f m k whole : Level) → Pieces n ns f m k whole → Joins f m k whole
joins_from n ns f m k whole p = record { front = order_apart f (placed_order n ns f p.front); middle = order_apart m (placed_order n ns m p.middle); is = p.is }

no_parts : (l : Level) (s : Span) (c r : Level) → ArePlaced [] (join_level l (item s c r)) → ⊥
no_parts end s c r placed = placed
no_parts (item t d l) s c r placed = placed

-- a level at one of its items, and another level
joins : (parts : List Bool) (l : Level) (s : Span) (c r b : Level) → ArePlaced parts (join_level l (item s c r)) → ArePlaced parts b
    → Joins (either parts l (before s.lo b)) (either parts (item s c end) (clipped s b)) (either parts r (after s.hi b)) (either parts (join_level l (item s c r)) b)
joins [] l s c r b first second = absurd (no_parts l s c r first)
joins (n ∷ ns) l s c r b first second =
    joins_from n ns (either (n ∷ ns) l (before s.lo b)) (either (n ∷ ns) (item s c end) (after s.lo (before s.hi b))) (either (n ∷ ns) r (after s.hi b)) (either (n ∷ ns) (join_level l (item s c r)) b)
    (pieces n ns l s c r b first second)

pub opened_joins : (parts : List Bool) (whole l : Level) (t s : Span) (c r b : Level) → whole ≡ join_level l (item t c r) → s ≡ t → ArePlaced parts whole → ArePlaced parts b
    → Joins (either parts l (before s.lo b)) (either parts (item s c end) (clipped s b)) (either parts r (after s.hi b)) (either parts whole b)
opened_joins parts whole l t s c r b opened is first second =
    let j = joins parts l s c r b (subst (λ (x : Span). ArePlaced parts (join_level l (item x c r))) (sym is) (subst (ArePlaced parts) opened first)) second in
    record { front = j.front; middle = j.middle; is = j.is ∙ ap (λ x. either parts (join_level l (item x c r)) b) is ∙ ap (λ x. either parts x b) (sym opened) }

-- each of the three is at most as large as the whole
pub parts_within : (parts : List Bool) (whole l : Level) (t s : Span) (c r b : Level) → whole ≡ join_level l (item t c r) → s ≡ t → ArePlaced parts whole → ArePlaced parts b
    → Within (either parts l (before s.lo b)) (either parts (item s c end) (clipped s b)) (either parts r (after s.hi b)) (either parts whole b)
parts_within parts whole l t s c r b opened is first second =
    let j = opened_joins parts whole l t s c r b opened is first second in
    within (either parts l (before s.lo b)) (either parts (item s c end) (clipped s b)) (either parts r (after s.hi b)) (either parts whole b) j.front j.middle j.is

-- what lies before an end, or behind it, in a later store
pub ahead_later : (a b : Slab Node) (parts : List Bool) (side h : Option ℕ) (e : End) → Stays a b side → Stays a b h → either parts (level_of b side) (before e (level_of b h)) ≡ either parts (level_of a side) (before e (level_of a h))
ahead_later a b parts side h e one other = ap₂ (λ x y. either parts x (before e y)) one.level other.level

pub behind_later : (a b : Slab Node) (parts : List Bool) (side h : Option ℕ) (e : End) → Stays a b side → Stays a b h → either parts (level_of b side) (after e (level_of b h)) ≡ either parts (level_of a side) (after e (level_of a h))
behind_later a b parts side h e one other = ap₂ (λ x y. either parts x (after e y)) one.level other.level

pub placed_later : (a b : Slab Node) (parts : List Bool) (r : Option ℕ) → Stays a b r → ArePlaced parts (level_of a r) → ArePlaced parts (level_of b r)
placed_later a b parts r s placed = subst (ArePlaced parts) (sym s.level) placed

-- the middle, the front and the back of a level, made one after another beside other handles
kept : (a b d e : Slab Node) (middle front back : Option ℕ) (ms fs bs : List (Option ℕ)) → Step a b [] (middle ∷ ms) → Step b d [] (front ∷ fs) → Step d e [] (back ∷ bs) → Kept b d e middle front
kept a b d e middle front back ms fs bs one two three = record {
  middle_kept = (kept_root d e _ _ three middle (λ m. omega (arith, one.held m, two.held m))).level ∙ (kept_root b d _ _ two middle (λ m. omega (arith, one.held m))).level;
  front_kept = (kept_root d e _ _ three front (λ m. omega (arith, two.held m))).level;
}

-- either of two levels, at the topmost item of the first
pub united : (a b d e : Slab Node) (parts : List Bool) (g h child l r middle front back : Option ℕ) (ms fs bs : List (Option ℕ)) (s t : Span)
    → IsSound a [] → Lent a [] h → Lent a [] l → Lent a [] r
    → level_of a g ≡ join_level (level_of a l) (item t (level_of a child) (level_of a r)) → s ≡ t → ArePlaced parts (level_of a g) → ArePlaced parts (level_of a h)
    → Step a b [] (middle ∷ ms) → level_of b middle ≡ either parts (item s (level_of a child) end) (clipped s (level_of a h))
    → Step b d [] (front ∷ fs) → level_of d front ≡ either parts (level_of b l) (before s.lo (level_of b h))
    → Step d e [] (back ∷ bs) → level_of e back ≡ either parts (level_of d r) (after s.hi (level_of d h))
    → Glues e front middle back (either parts (level_of a g) (level_of a h))
united a b d e parts g h child l r middle front back ms fs bs s t sound lent_h lent_l lent_r opened is first second one is_middle two is_front three is_back =
    let k = kept a b d e middle front back ms fs bs one two three in
    let j = opened_joins parts (level_of a g) (level_of a l) t s (level_of a child) (level_of a r) (level_of a h) opened is first second in
    glues_from e front middle back
    (either parts (level_of a l) (before s.lo (level_of a h))) (either parts (item s (level_of a child) end) (clipped s (level_of a h))) (either parts (level_of a r) (after s.hi (level_of a h))) (either parts (level_of a g) (level_of a h))
    (k.front_kept ∙ is_front ∙ ahead_later a b parts l h s.lo (stays a b _ sound one l lent_l) (stays a b _ sound one h lent_h))
    (k.middle_kept ∙ is_middle)
    (is_back ∙ behind_later a d parts r h s.hi (stays_two a b d _ _ sound one two r lent_r) (stays_two a b d _ _ sound one two h lent_h))
    j.front j.middle j.is

-- what an item fills before and behind an item of a level
pub record Parted (parts : List Bool) (lo hi : End) (c l : Level) (s : Span) (d r : Level) : Type 0 where
  pub front : MayFill parts lo s.lo c l
  pub back : MayFill parts s.hi hi c r
  pub first : ArePlacedBelow parts c
  pub second : ArePlacedBelow parts d
  pub joins : Joins (filled parts lo s.lo c l) (item s (union_below parts c d) end) (filled parts s.hi hi c r) (filled parts lo hi c (join_level l (item s d r)))

parted_by : (parts : List Bool) (lo hi : End) (c l : Level) (s : Span) (d r : Level) → MayFill parts lo hi c (join_level l (item s d r)) → Parted parts lo hi c l s d r
parted_by [] lo hi c l s d r fits = absurd fits
parted_by (n ∷ ns) lo hi c l s d r fits =
    let q = fit_parts n ns lo hi c l s d r fits in
    record {
      front = q.before;
      back = q.after;
      first = fits.child;
      second = q.on.2;
      joins = joins_from n ns (filled (n ∷ ns) lo s.lo c l) (item s (either_child ns c d) end) (filled (n ∷ ns) s.hi hi c r) (filled (n ∷ ns) lo hi c (join_level l (item s d r)))
          (fill_pieces n ns lo hi c l s d r fits);
    }

pub record Fills (parts : List Bool) (lo hi : End) (c l : Level) (s : Span) (d r whole : Level) : Type 0 where
  pub front : MayFill parts lo s.lo c l
  pub back : MayFill parts s.hi hi c r
  pub first : ArePlacedBelow parts c
  pub second : ArePlacedBelow parts d
  pub joins : Joins (filled parts lo s.lo c l) (item s (union_below parts c d) end) (filled parts s.hi hi c r) (filled parts lo hi c whole)

pub fills : (parts : List Bool) (lo hi : End) (c whole l : Level) (t s : Span) (d r : Level) → whole ≡ join_level l (item t d r) → s ≡ t → MayFill parts lo hi c whole → Fills parts lo hi c l s d r whole
fills parts lo hi c whole l t s d r opened is fits =
    let p = parted_by parts lo hi c l s d r (subst (λ (x : Span). MayFill parts lo hi c (join_level l (item x d r))) (sym is) (subst (MayFill parts lo hi c) opened fits)) in
    let j = p.joins in
    record {
      front = p.front;
      back = p.back;
      first = p.first;
      second = p.second;
      joins = record { front = j.front; middle = j.middle; is = j.is ∙ ap (λ x. filled parts lo hi c (join_level l (item x d r))) is ∙ ap (filled parts lo hi c) (sym opened) };
    }

pub fills_within : (parts : List Bool) (lo hi : End) (c l : Level) (s : Span) (d r whole : Level) → Fills parts lo hi c l s d r whole
    → Within (filled parts lo s.lo c l) (item s (union_below parts c d) end) (filled parts s.hi hi c r) (filled parts lo hi c whole)
fills_within parts lo hi c l s d r whole f =
    within (filled parts lo s.lo c l) (item s (union_below parts c d) end) (filled parts s.hi hi c r) (filled parts lo hi c whole) f.joins.front f.joins.middle f.joins.is

pub may_later : (a b : Slab Node) (parts : List Bool) (lo hi : End) (c m : Option ℕ) → Stays a b c → Stays a b m → MayFill parts lo hi (level_of a c) (level_of a m) → MayFill parts lo hi (level_of b c) (level_of b m)
may_later a b parts lo hi c m one other fits = subst (λ (x : Level). MayFill parts lo hi x (level_of b m)) (sym one.level) (subst (MayFill parts lo hi (level_of a c)) (sym other.level) fits)

pub filled_later : (a b : Slab Node) (parts : List Bool) (lo hi : End) (c m : Option ℕ) → Stays a b c → Stays a b m → filled parts lo hi (level_of b c) (level_of b m) ≡ filled parts lo hi (level_of a c) (level_of a m)
filled_later a b parts lo hi c m one other = ap₂ (filled parts lo hi) one.level other.level

-- an item that is united with a level within it, at the topmost item of that
pub filled_up : (a b d e : Slab Node) (parts : List Bool) (inside child under l r middle front back : Option ℕ) (ms fs bs : List (Option ℕ)) (lo hi : End) (s t : Span)
    → IsSound a [] → Lent a [] child → Lent a [] l → Lent a [] r
    → level_of a inside ≡ join_level (level_of a l) (item t (level_of a under) (level_of a r)) → s ≡ t → MayFill parts lo hi (level_of a child) (level_of a inside)
    → Step a b [] (middle ∷ ms) → level_of b middle ≡ item s (union_below parts (level_of a child) (level_of a under)) end
    → Step b d [] (front ∷ fs) → level_of d front ≡ filled parts lo s.lo (level_of b child) (level_of b l)
    → Step d e [] (back ∷ bs) → level_of e back ≡ filled parts s.hi hi (level_of d child) (level_of d r)
    → Glues e front middle back (filled parts lo hi (level_of a child) (level_of a inside))
filled_up a b d e parts inside child under l r middle front back ms fs bs lo hi s t sound lent_c lent_l lent_r opened is fits one is_middle two is_front three is_back =
    let k = kept a b d e middle front back ms fs bs one two three in
    let j = (fills parts lo hi (level_of a child) (level_of a inside) (level_of a l) t s (level_of a under) (level_of a r) opened is fits).joins in
    glues_from e front middle back
    (filled parts lo s.lo (level_of a child) (level_of a l)) (item s (union_below parts (level_of a child) (level_of a under)) end) (filled parts s.hi hi (level_of a child) (level_of a r)) (filled parts lo hi (level_of a child) (level_of a inside))
    (k.front_kept ∙ is_front ∙ filled_later a b parts lo s.lo child l (stays a b _ sound one child lent_c) (stays a b _ sound one l lent_l))
    (k.middle_kept ∙ is_middle)
    (is_back ∙ filled_later a d parts s.hi hi child r (stays_two a b d _ _ sound one two child lent_c) (stays_two a b d _ _ sound one two r lent_r))
    j.front j.middle j.is

-- nothing lies within an item: it stands alone, or no position lies between its ends
pub filled_none : (parts : List Bool) (lo hi : End) (c m : Level) → m ≡ end → is_at_most hi lo ≡ true → end ≡ filled parts lo hi c m
filled_none parts lo hi c m is low = sym (ap (λ x. cond x end (either parts (item (record { lo = lo; hi = hi }) c end) m)) low)

alone_by : (parts : List Bool) (lo hi : End) (c m : Level) → m ≡ end → MayFill parts lo hi c m → item (record { lo = lo; hi = hi }) c end ≡ either parts (item (record { lo = lo; hi = hi }) c end) m
alone_by [] lo hi c m is fits = absurd fits
alone_by (n ∷ ns) lo hi c m is fits = sym (ap (either (n ∷ ns) (item (record { lo = lo; hi = hi }) c end)) is)

pub filled_alone : (parts : List Bool) (lo hi : End) (c m : Level) → m ≡ end → is_at_most hi lo ≡ false → MayFill parts lo hi c m → item (record { lo = lo; hi = hi }) c end ≡ filled parts lo hi c m
filled_alone parts lo hi c m is low fits = alone_by parts lo hi c m is fits ∙ sym (ap (λ x. cond x end (either parts (item (record { lo = lo; hi = hi }) c end) m)) low)

-- an item without a child holds all that lies within it
pub bare_alone : (parts : List Bool) (s : Span) (c b : Level) → c ≡ end → ArePlaced parts (item s c end) → ArePlaced parts b → item s c end ≡ either parts (item s c end) (clipped s b)
bare_alone [] s c b is alone second = absurd alone
bare_alone (n ∷ ns) s end b is alone second = bare_within n ns s b alone second
bare_alone (n ∷ ns) s (item t d r) b is alone second = absurd (cc is)

-- an item fills its span with what a level has within that
pub item_fits : (parts : List Bool) (s : Span) (c b : Level) → ArePlaced parts (item s c end) → ArePlaced parts b → MayFill parts s.lo s.hi c (clipped s b)
item_fits [] s c b alone second = absurd alone
item_fits (n ∷ ns) s c b alone second = span_fits n ns s c b alone second

pub item_filled : (parts : List Bool) (s : Span) (c b : Level) → ArePlaced parts (item s c end) → filled parts s.lo s.hi c (clipped s b) ≡ either parts (item s c end) (clipped s b)
item_filled [] s c b alone = absurd alone
item_filled (n ∷ ns) s c b alone = span_filled (n ∷ ns) s c (clipped s b) alone.0.span

-- what is on one side of an end is in place
pub ahead_placed : (parts : List Bool) (e : End) (b : Level) → ArePlaced parts b → ArePlaced parts (before e b)
ahead_placed [] e end placed = tt
ahead_placed [] e (item s c r) placed = absurd placed
ahead_placed (n ∷ ns) e b placed = before_placed n ns e b placed

pub behind_placed : (parts : List Bool) (e : End) (b : Level) → ArePlaced parts b → ArePlaced parts (after e b)
behind_placed [] e end placed = tt
behind_placed [] e (item s c r) placed = absurd placed
behind_placed (n ∷ ns) e b placed = after_placed n ns e b placed

pub clipped_size : (s : Span) (b : Level) → level_size (clipped s b) ≤ level_size b
clipped_size s b = let one = before_size s.hi b in let two = after_size s.lo (before s.hi b) in omega (arith, one, two)

all_ends : (w : Bool) (c rest : Level) → (w && (is_end c && is_end rest)) ≡ true → 1 + level_size c + level_size rest ≤ 1
all_ends true end end e = omega arith
all_ends true end (item s c r) e = absurd (cc e)
all_ends true (item s c r) rest e = absurd (cc e)
all_ends false c rest e = absurd (cc e)

all_size : (n : Bool) (l : Level) → is_all n l ≡ true → level_size l ≤ 1
all_size n end e = omega arith
all_size n (item s c rest) e = all_ends (is_whole_span n s) c rest e

-- a level that is all has one item, so it is no larger than one above what goes on below
pub size_by : (m : Bool) (l : Level) (b : Bool) → is_all m l ≡ b → level_size l ≤ 1 + level_size (cond b end l)
size_by m l true e = let one = all_size m l e in omega (arith, one)
size_by m l false e = omega arith

-- what goes on below either of two children is no smaller than one below the level of either
pub below_size : (parts below ms : List Bool) (n m : Bool) (c d : Level) → parts ≡ n ∷ below → below ≡ m ∷ ms → (length_of c ≡ 0 → ⊥) → (length_of d ≡ 0 → ⊥) → level_size (either below c d) ≤ 1 + level_size (union_below parts c d)
below_size parts below ms n m c d e f some other =
    let is = ap level_size (below_some parts below ms n m c d (either below c d) e f some other refl) in
    let low = size_by m (either below c d) (is_all m (either below c d)) refl in
    omega (arith, is, low)

large_by : (n : Bool) (l : Level) (b : Bool) → is_all n l ≡ b → 1 < level_size l → level_size (cond b end l) ≡ level_size l
large_by n l true e large = let one = all_size n l e in absurd (omega (arith, one, large))
large_by n l false e large = refl

-- a level of more than one item isn't all
pub large_stays : (parts : List Bool) (a b : Level) → 1 < level_size (either parts a b) → level_size (unless_all parts (either parts a b)) ≡ level_size (either parts a b)
large_stays [] a b large = refl
large_stays (n ∷ ns) a b large = large_by n (either (n ∷ ns) a b) (is_all n (either (n ∷ ns) a b)) refl large

over_by : (limit most size : ℕ) → most ≡ max limit 1 → most < size → (limit < size) × (1 < size)
over_by limit most size is over = ((grind (arith, is, over)), (grind (arith, is, over)))

-- so a level that is larger than one and a limit is larger than the limit still
pub over_one : (limit most : ℕ) (parts : List Bool) (a b : Level) → most ≡ max limit 1 → most < level_size (either parts a b) → limit < level_size (unless_all parts (either parts a b))
over_one limit most parts a b is over =
    let two = over_by limit most (level_size (either parts a b)) is over in
    let same = large_stays parts a b two.1 in
    omega (arith, two.0, same)

-- a level without items, and a level and itself
pub none_first : (a : Slab Node) (parts : List Bool) (g h : Option ℕ) → g ≡ None → ArePlaced parts (level_of a h) → level_of a h ≡ either parts (level_of a g) (level_of a h)
none_first a parts g h is placed = either_none parts (level_of a h) placed ∙ ap (λ x. either parts (level_of a x) (level_of a h)) (sym is)

pub same_either : (a : Slab Node) (parts : List Bool) (g h : Option ℕ) → g ≡ h → ArePlaced parts (level_of a g) → level_of a g ≡ either parts (level_of a g) (level_of a h)
same_either a parts g h is placed = either_itself parts (level_of a g) placed ∙ ap (λ x. either parts (level_of a g) (level_of a x)) is

-- a level that is given is lent
pub given_lent : (a b : Slab Node) (r : Option ℕ) → Step a b [] (r ∷ []) → Lent b [] r
given_lent a b r step = owned_lent b (r ∷ []) r (record { sound = step.sound; owned = λ m. omega (arith, step.held m) }) (λ m. omega arith)

-- and stays while one that was given before it is let go
given_stays : (a b d e : Slab Node) (cut whole : Option ℕ) (ws : List (Option ℕ)) → Step a b [] (cut ∷ []) → Step b d [] (whole ∷ ws) → Step d e (cut ∷ []) [] → level_of e whole ≡ level_of d whole
given_stays a b d e cut whole ws one two three = (kept_root d e (cut ∷ []) [] three whole (λ m. omega (arith, one.held m, two.held m))).level

-- either of a level and what is cut of another
pub cut_either : (a b d e : Slab Node) (parts : List Bool) (side cut whole : Option ℕ) (ws : List (Option ℕ)) (x : Level) → IsSound a [] → Lent a [] side
    → Step a b [] (cut ∷ []) → level_of b cut ≡ x → Step b d [] (whole ∷ ws) → level_of d whole ≡ either parts (level_of b side) (level_of b cut) → Step d e (cut ∷ []) []
    → level_of e whole ≡ either parts (level_of a side) x
cut_either a b d e parts side cut whole ws x sound lent one is two level three =
    given_stays a b d e cut whole ws one two three ∙ level ∙ ap₂ (either parts) (stays a b _ sound one side lent).level is

-- an item that is united with what is cut of a level within it
pub cut_filled : (a b d e : Slab Node) (parts : List Bool) (child inside whole : Option ℕ) (ws : List (Option ℕ)) (s : Span) (l : Level) → IsSound a [] → Lent a [] child → ArePlaced parts (item s (level_of a child) end)
    → Step a b [] (inside ∷ []) → level_of b inside ≡ clipped s l → Step b d [] (whole ∷ ws) → level_of d whole ≡ filled parts s.lo s.hi (level_of b child) (level_of b inside) → Step d e (inside ∷ []) []
    → level_of e whole ≡ either parts (item s (level_of a child) end) (clipped s l)
cut_filled a b d e parts child inside whole ws s l sound lent alone one is two level three =
    given_stays a b d e inside whole ws one two three ∙ level ∙ ap₂ (filled parts s.lo s.hi) (stays a b _ sound one child lent).level is ∙ item_filled parts s (level_of a child) l alone
