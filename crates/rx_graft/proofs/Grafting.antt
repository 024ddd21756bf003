-- Where the parts of one level come before those of another, what both have in common has the items of the first.
use Rattle.std.proofs.Common.{◌≡◌, ◌&&◌, ◌||◌, ℕ, zero, suc, Bool, true, false, not, cond, List, [], ◌∷◌, Option, Some, None, arith, refl, ap, ap₂, sym, ◌∙◌, subst}
use Rattle.std.proofs.Math.Bool.{and-true}
use Rattle.rx_value.specs.declared.order.End.{End}
use Rattle.rx_value.specs.declared.order.End.TheVariants.{Last}
use Rattle.rx_value.specs.declared.order.Span.{Span}
use Rattle.rx_value.specs.Order.{is_at_most}
use Rattle.rx_value.specs.Spans.{IsAtMost, IsSpan, IsCommon, is_inside, is_inside_part, meet_span, first_end, whole_span, is_whole_span}
use Rattle.rx_value.proofs.Ends.{at_most-trans, at_most-antisym, below-at_most-trans, below-irrefl, at_most-same, greatest_end}
use Rattle.rx_value.proofs.Meeting.{inside, inside_bounds, lower_inside, span_known, meet_span_common}
use Rattle.rx_tree.specs.Tree.{Level, is_end, level_constrains}
use Rattle.rx_tree.specs.Tree.Level.{end, item}
use Rattle.rx_tree.specs.Member.{IsPosition, IsTuple, level_holds, child_holds}
use Rattle.rx_tree.specs.Canonical.{Differs, IsNotAll, ArePlaced, IsCanonicalLevel}
use Rattle.rx_tree.specs.Weld.{weld, glue}
use Rattle.rx_tree.specs.Meet.{piece_of, put_piece, meet_child, unless_end, across, both}
use Rattle.rx_tree.proofs.Sets.{whole_inside, whole_is_span}
use Rattle.rx_tree.proofs.Unique.{some_held, some_missing, same_levels}
use Rattle.rx_tree.proofs.Welding.{weld_apart}
use Rattle.rx_tree.proofs.Intersection.{both_law}
use Rattle.rx_graft.specs.Graft.{ComesBefore, below, grafted, first_child}

-- two tuples have the same position at each of these parts
abbrev AgreeOn : (ℕ → Bool) → List End → List End → Type 0
AgreeOn f [] [] = Unit {0}
AgreeOn f (p ∷ ps) (q ∷ qs) = (f 0 ≡ true → p ≡ q) × AgreeOn (λ k. f (suc k)) ps qs
AgreeOn f _ _ = ⊥

agree_fewer : (f g : ℕ → Bool) (ps qs : List End) → ((k : ℕ) → g k ≡ true → f k ≡ true) → AgreeOn f ps qs → AgreeOn g ps qs
agree_fewer f g [] [] fewer agree = tt
agree_fewer f g [] (q ∷ qs) fewer agree = absurd agree
agree_fewer f g (p ∷ ps) [] fewer agree = absurd agree
agree_fewer f g (p ∷ ps) (q ∷ qs) fewer agree = ((λ e. agree.0 (fewer 0 e)), agree_fewer (λ k. f (suc k)) (λ k. g (suc k)) ps qs (λ k e. fewer (suc k) e) agree.1)

or_first : (a b : Bool) → a ≡ true → (a || b) ≡ true
or_first true b e = refl
or_first false b e = absurd (cc e)

or_second : (a b : Bool) → b ≡ true → (a || b) ≡ true
or_second true b e = refl
or_second false b e = e

pub rest_constrains : (n : Bool) (ns : List Bool) (s : Span) (c rest : Level) (k : ℕ) → level_constrains (n ∷ ns) rest k ≡ true → level_constrains (n ∷ ns) (item s c rest) k ≡ true
rest_constrains n ns s c rest zero e = or_second (not (is_whole_span n s)) (level_constrains (n ∷ ns) rest zero) e
rest_constrains n ns s c rest (suc k) e = or_second (level_constrains ns c k) (level_constrains (n ∷ ns) rest (suc k)) e

pub child_constrains : (n : Bool) (ns : List Bool) (s : Span) (c rest : Level) (k : ℕ) → level_constrains ns c k ≡ true → level_constrains (n ∷ ns) (item s c rest) (suc k) ≡ true
child_constrains n ns s c rest k e = or_first (level_constrains ns c k) (level_constrains (n ∷ ns) rest (suc k)) e

inside_same : (n : Bool) (s : Span) (p q : End) (w : Bool) → is_whole_span n s ≡ w → IsPosition n p → IsPosition n q → (not w ≡ true → p ≡ q) → is_inside s p ≡ is_inside s q
inside_same n s p q true whole here there same = whole_inside n s p whole here ∙ sym (whole_inside n s q whole there)
inside_same n s p q false narrow here there same = ap (is_inside s) (same refl)

-- whether a level holds a tuple depends on the parts that it constrains alone
depends : (ns : List Bool) (l : Level) (ps qs : List End) → ArePlaced ns l → IsTuple ns ps → IsTuple ns qs → AgreeOn (level_constrains ns l) ps qs → level_holds l ps ≡ level_holds l qs
depends ns end ps qs placed fits fits' agree = refl
depends [] (item s c rest) ps qs placed fits fits' agree = absurd placed
depends (n ∷ ns) (item s c rest) [] qs placed fits fits' agree = absurd fits
depends (n ∷ ns) (item s c rest) (p ∷ ps) [] placed fits fits' agree = absurd fits'
depends (n ∷ ns) (item s c rest) (p ∷ ps) (q ∷ qs) placed fits fits' agree =
    let within : is_inside s p ≡ is_inside s q = inside_same n s p q (is_whole_span n s) refl fits.0 fits'.0 (λ e. agree.0 (or_first (not (is_whole_span n s)) (level_constrains (n ∷ ns) rest zero) e)) in
    let child : level_holds c ps ≡ level_holds c qs = depends ns c ps qs placed.2 fits.1 fits'.1 (agree_fewer (λ k. level_constrains (n ∷ ns) (item s c rest) (suc k)) (level_constrains ns c) ps qs (child_constrains n ns s c rest) agree.1) in
    let after : level_holds rest (p ∷ ps) ≡ level_holds rest (q ∷ qs) = depends (n ∷ ns) rest (p ∷ ps) (q ∷ qs) placed.3 fits fits' (agree_fewer (level_constrains (n ∷ ns) (item s c rest)) (level_constrains (n ∷ ns) rest) (p ∷ ps) (q ∷ qs) (rest_constrains n ns s c rest) agree) in
    ap₂ (λ x y. (x && (is_end c || y)) || level_holds rest (p ∷ ps)) within child ∙ ap (λ z. (is_inside s q && (is_end c || level_holds c qs)) || z) after

-- the positions of the second tuple at these parts, and those of the first elsewhere
abbrev mix : (ℕ → Bool) → List End → List End → List End
mix f [] qs = []
mix f (p ∷ ps) [] = []
mix f (p ∷ ps) (q ∷ qs) = cond (f 0) q p ∷ mix (λ k. f (suc k)) ps qs

chosen : (n b : Bool) (q p : End) → IsPosition n q → IsPosition n p → IsPosition n (cond b q p)
chosen n true q p there here = there
chosen n false q p there here = here

mix_fits : (ns : List Bool) (f : ℕ → Bool) (ps qs : List End) → IsTuple ns ps → IsTuple ns qs → IsTuple ns (mix f ps qs)
mix_fits [] f [] [] fits fits' = tt
mix_fits [] f [] (q ∷ qs) fits fits' = absurd fits'
mix_fits [] f (p ∷ ps) qs fits fits' = absurd fits
mix_fits (n ∷ ns) f [] qs fits fits' = absurd fits
mix_fits (n ∷ ns) f (p ∷ ps) [] fits fits' = absurd fits'
mix_fits (n ∷ ns) f (p ∷ ps) (q ∷ qs) fits fits' = (chosen n (f 0) q p fits'.0 fits.0, mix_fits ns (λ k. f (suc k)) ps qs fits.1 fits'.1)

chosen_second : (b : Bool) (q p : End) → b ≡ true → cond b q p ≡ q
chosen_second true q p e = refl
chosen_second false q p e = absurd (cc e)

chosen_first : (b : Bool) (q p : End) → b ≡ false → cond b q p ≡ p
chosen_first true q p e = absurd (cc e)
chosen_first false q p e = refl

mix_second : (ns : List Bool) (f : ℕ → Bool) (ps qs : List End) → IsTuple ns ps → IsTuple ns qs → AgreeOn f (mix f ps qs) qs
mix_second [] f [] [] fits fits' = tt
mix_second [] f [] (q ∷ qs) fits fits' = absurd fits'
mix_second [] f (p ∷ ps) qs fits fits' = absurd fits
mix_second (n ∷ ns) f [] qs fits fits' = absurd fits
mix_second (n ∷ ns) f (p ∷ ps) [] fits fits' = absurd fits'
mix_second (n ∷ ns) f (p ∷ ps) (q ∷ qs) fits fits' = ((λ e. chosen_second (f 0) q p e), mix_second ns (λ k. f (suc k)) ps qs fits.1 fits'.1)

mix_first : (ns : List Bool) (f g : ℕ → Bool) (ps qs : List End) → ((k : ℕ) → g k ≡ true → f k ≡ false) → IsTuple ns ps → IsTuple ns qs → AgreeOn g (mix f ps qs) ps
mix_first [] f g [] [] other fits fits' = tt
mix_first [] f g [] (q ∷ qs) other fits fits' = absurd fits'
mix_first [] f g (p ∷ ps) qs other fits fits' = absurd fits
mix_first (n ∷ ns) f g [] qs other fits fits' = absurd fits
mix_first (n ∷ ns) f g (p ∷ ps) [] other fits fits' = absurd fits'
mix_first (n ∷ ns) f g (p ∷ ps) (q ∷ qs) other fits fits' = ((λ e. chosen_first (f 0) q p (other 0 e)), mix_first ns (λ k. f (suc k)) (λ k. g (suc k)) ps qs (λ k e. other (suc k) e) fits.1 fits'.1)

-- no part that the first level constrains is constrained by the second
abbrev Apart : List Bool → Level → Level → Type 0
Apart ns c h = (k : ℕ) → level_constrains ns c k ≡ true → level_constrains ns h k ≡ false

-- a child and a level of other parts, and a tuple that the level holds
record Beside (ns : List Bool) (c h : Level) : Type 0 where
  placed : ArePlaced ns c
  not_all : IsNotAll ns c
  apart : Apart ns c h

below_holds : (ns : List Bool) (c h : Level) (ps : List End) → ArePlaced ns c → ArePlaced ns h → level_holds (below c h) ps ≡ (child_holds c ps && level_holds h ps)
below_holds ns end h ps placed other = refl
below_holds ns (item s c rest) h ps placed other = (both_law ns (item s c rest) placed).holds h ps other

child_at_mix : (ns : List Bool) (c h : Level) (ps ws : List End) → Beside ns c h → IsTuple ns ps → IsTuple ns ws → child_holds c (mix (level_constrains ns h) ps ws) ≡ child_holds c ps
child_at_mix ns c h ps ws beside fits fits' =
    let m = mix (level_constrains ns h) ps ws in
    ap (λ x. is_end c || x) (depends ns c m ps beside.placed (mix_fits ns (level_constrains ns h) ps ws fits fits') fits (mix_first ns (level_constrains ns h) (level_constrains ns c) ps ws beside.apart fits fits'))

-- what goes on below at a tuple that takes the level's parts from one that the level holds
below_at_mix : (ns : List Bool) (c h : Level) (ps ws : List End) → Beside ns c h → ArePlaced ns h → IsTuple ns ps → IsTuple ns ws → level_holds h ws ≡ true → level_holds (below c h) (mix (level_constrains ns h) ps ws) ≡ child_holds c ps
below_at_mix ns c h ps ws beside other fits fits' held =
    let m = mix (level_constrains ns h) ps ws in
    let there : level_holds h m ≡ true = depends ns h m ws other (mix_fits ns (level_constrains ns h) ps ws fits fits') fits' (mix_second ns (level_constrains ns h) ps ws fits fits') ∙ held in
    below_holds ns c h m beside.placed other
    ∙ ap₂ (λ x y. x && y) (child_at_mix ns c h ps ws beside fits fits') there
    ∙ and-true (child_holds c ps)

abbrev child_of : Level → Level
child_of end = end
child_of (item s c rest) = c

under_whole : (ns : List Bool) (c : Level) → ArePlaced ns c → IsNotAll ns c → ArePlaced (false ∷ ns) (item (whole_span false) c end)
under_whole ns c placed not_all = (record { span = whole_is_span false; from = at_most-same (first_end false); rises = tt; differs = tt }, not_all, placed, tt)

held_same : (ns : List Bool) (c d : Level) → ((ps : List End) → IsTuple ns ps → child_holds c ps ≡ child_holds d ps) → (ps : List End) → IsTuple (false ∷ ns) ps → level_holds (item (whole_span false) c end) ps ≡ level_holds (item (whole_span false) d end) ps
held_same ns c d same [] fits = refl
held_same ns c d same (p ∷ ps) fits = ap (λ x. (is_inside (whole_span false) p && x) || false) (same ps fits.1)

-- children below which the same tuples go on are equal
same_children : (ns : List Bool) (c d : Level) → ArePlaced ns c → IsNotAll ns c → ArePlaced ns d → IsNotAll ns d → ((ps : List End) → IsTuple ns ps → child_holds c ps ≡ child_holds d ps) → c ≡ d
same_children ns c d placed not_all placed' not_all' same =
    ap child_of (same_levels (false ∷ ns) (item (whole_span false) c end) (item (whole_span false) d end) (under_whole ns c placed not_all) (under_whole ns d placed' not_all') (held_same ns c d same))

-- different children have different levels below
below_tells : (ns : List Bool) (c d h : Level) (ws : List End) → Beside ns c h → Beside ns d h → ArePlaced ns h → IsTuple ns ws → level_holds h ws ≡ true → below c h ≡ below d h → c ≡ d
below_tells ns c d h ws first second other fits held same =
    same_children ns c d first.placed first.not_all second.placed second.not_all (λ ps tuple.
    sym (below_at_mix ns c h ps ws first other tuple fits held)
    ∙ ap (λ l. level_holds l (mix (level_constrains ns h) ps ws)) same
    ∙ below_at_mix ns d h ps ws second other tuple fits held)

some_items : (l : Level) (ps : List End) → level_holds l ps ≡ true → unless_end l ≡ Some l
some_items end ps held = absurd (cc held)
some_items (item s c rest) ps held = refl

child_is_below : (c : Level) (u : Span) (d more : Level) → meet_child (both c) c (item u d more) ≡ unless_end (below c (item u d more))
child_is_below end u d more = refl
child_is_below (item s c rest) u d more = refl

-- below an item and a level of other parts something goes on
below_some : (ns : List Bool) (c : Level) (u : Span) (d more : Level) (ws : List End) → Beside ns c (item u d more) → ArePlaced ns (item u d more) → IsTuple ns ws → level_holds (item u d more) ws ≡ true → meet_child (both c) c (item u d more) ≡ Some (below c (item u d more))
below_some ns c u d more ws beside other fits held =
    let w = some_held ns c beside.placed in
    child_is_below c u d more
    ∙ some_items (below c (item u d more)) (mix (level_constrains ns (item u d more)) w.tuple ws) (below_at_mix ns c (item u d more) w.tuple ws beside other w.fits fits held ∙ w.is)

and_left : (a b : Bool) → (a ≡ true → b ≡ true) → (a && b) ≡ a
and_left true b h = h refl
and_left false b h = refl

whole_parts : (a b : Bool) → (a && b) ≡ true → (a ≡ true) × (b ≡ true)
whole_parts true b e = (refl, e)
whole_parts false b e = absurd (cc e)

in_whole : (n : Bool) (s t : Span) → IsAtMost (first_end n) s.lo → is_whole_span n t ≡ true → (p : End) → is_inside s p ≡ true → is_inside t p ≡ true
in_whole n s t from whole p here =
    let (lo, hi) = whole_parts (is_at_most t.lo (first_end n)) (is_at_most Last t.hi) whole in
    let b = inside_bounds s p here in
    inside t p
    (at_most-trans t.lo (first_end n) p lo (at_most-trans (first_end n) s.lo p from b.0))
    (below-at_most-trans p s.hi t.hi b.1 (at_most-trans s.hi Last t.hi (greatest_end s.hi) hi))

some_met : (s : Span) (m : Option Span) → IsSpan s → ((p : End) → is_inside_part m p ≡ is_inside s p) → ((k : Span) → m ≡ Some k → IsSpan k) → m ≡ Some s
some_met s None span same spans = let no : false ≡ true = same s.lo ∙ lower_inside s span in absurd (cc no)
some_met s (Some m) span same spans = ap Some (span_known m s (spans m refl) span same)

span_part : (s t : Span) (m : Option Span) → IsCommon s t m → (k : Span) → m ≡ Some k → IsSpan k
span_part s t None common k is = absurd (cc is)
span_part s t (Some m) common k is = let same : m ≡ k = cc is in subst IsSpan same common.span

-- a span has itself in common with a whole one
whole_meets : (n : Bool) (s t : Span) → IsSpan s → IsAtMost (first_end n) s.lo → is_whole_span n t ≡ true → meet_span s t ≡ Some s
whole_meets n s t span from whole =
    let common = meet_span_common s t in
    some_met s (meet_span s t) span
    (λ p. common.positions p ∙ and_left (is_inside s p) (is_inside t p) (in_whole n s t from whole p))
    (span_part s t (meet_span s t) common)

-- the children of a level beside the level below another
abbrev AreBeside : List Bool → Level → Level → Type 0
AreBeside ns end h = Unit {0}
AreBeside ns (item s c rest) h = Beside ns c h × AreBeside ns rest h

graft_differs : (ns : List Bool) (s : Span) (c rest h : Level) (ws : List End) → Beside ns c h → AreBeside ns rest h → ArePlaced ns h → IsTuple ns ws → level_holds h ws ≡ true → Differs s c rest → Differs s (below c h) (grafted h rest)
graft_differs ns s c end h ws beside others other fits held differs = tt
graft_differs ns s c (item t d rest) h ws beside others other fits held differs = λ touch same. differs touch (below_tells ns c d h ws beside others.0 other fits held same)

graft_one : (ns : List Bool) (s t : Span) (c h b : Level) → meet_span s t ≡ Some s → meet_child (both c) c h ≡ Some (below c h) → glue (across (both c) c s (item t h end)) b ≡ weld s (below c h) b
graft_one ns s t c h b spans child = ap₂ (λ m x. glue (put_piece (piece_of m x) end) b) spans child

-- what a level and one whole item over a level of other parts have in common
grafts : (n : Bool) (ns : List Bool) (g : Level) (t u : Span) (d more : Level) (ws : List End) → is_whole_span n t ≡ true → ArePlaced (n ∷ ns) g → AreBeside ns g (item u d more) → ArePlaced ns (item u d more) → IsTuple ns ws → level_holds (item u d more) ws ≡ true
    → both g (item t (item u d more) end) ≡ grafted (item u d more) g
grafts n ns end t u d more ws whole placed beside other fits held = refl
grafts n ns (item s c rest) t u d more ws whole placed beside other fits held =
    let h = item u d more in
    graft_one ns s t c h (both rest (item t h end)) (whole_meets n s t placed.0.span placed.0.from whole) (below_some ns c u d more ws beside.0 other fits held)
    ∙ ap (weld s (below c h)) (grafts n ns rest t u d more ws whole placed.3 beside.1 other fits held)
    ∙ weld_apart s (below c h) (grafted h rest) (graft_differs ns s c rest h ws beside.0 beside.1 other fits held placed.0.differs)

agree_none : (ns : List Bool) (f : ℕ → Bool) (ps qs : List End) → ((k : ℕ) → f k ≡ false) → IsTuple ns ps → IsTuple ns qs → AgreeOn f ps qs
agree_none [] f [] [] free fits fits' = tt
agree_none [] f [] (q ∷ qs) free fits fits' = absurd fits'
agree_none [] f (p ∷ ps) qs free fits fits' = absurd fits
agree_none (n ∷ ns) f [] qs free fits fits' = absurd fits
agree_none (n ∷ ns) f (p ∷ ps) [] free fits fits' = absurd fits'
agree_none (n ∷ ns) f (p ∷ ps) (q ∷ qs) free fits fits' = ((λ e. let no : false ≡ true = sym (free 0) ∙ e in absurd (cc no)), agree_none ns (λ k. f (suc k)) ps qs (λ k. free (suc k)) fits.1 fits'.1)

not_true : (b : Bool) → (b ≡ true → ⊥) → b ≡ false
not_true true refuted = absurd (refuted refl)
not_true false refuted = refl

-- a level with items that isn't all constrains some part
constrains_some : (ns : List Bool) (s : Span) (c rest : Level) → IsCanonicalLevel ns (item s c rest) → ((k : ℕ) → level_constrains ns (item s c rest) k ≡ false) → ⊥
constrains_some ns s c rest canonical free =
    let in_it = some_held ns (item s c rest) canonical.placed in
    let out = some_missing ns s c rest canonical.placed canonical.not_all in
    let same : level_holds (item s c rest) in_it.tuple ≡ level_holds (item s c rest) out.tuple =
    depends ns (item s c rest) in_it.tuple out.tuple canonical.placed in_it.fits out.fits (agree_none ns (level_constrains ns (item s c rest)) in_it.tuple out.tuple free in_it.fits out.fits) in
    let no : true ≡ false = sym in_it.is ∙ same ∙ out.is in
    cc no

pub first_free : (n : Bool) (ns : List Bool) (s : Span) (c rest h : Level) → IsCanonicalLevel (n ∷ ns) (item s c rest) → ComesBefore (n ∷ ns) (item s c rest) h → level_constrains (n ∷ ns) h 0 ≡ false
first_free n ns s c rest h canonical before =
    not_true (level_constrains (n ∷ ns) h 0) (λ e. constrains_some (n ∷ ns) s c rest canonical (λ k. not_true (level_constrains (n ∷ ns) (item s c rest) k) (λ e'. let low = before k 0 e' e in absurd (omega (arith, low)))))

neither : (a b : Bool) → (not a || b) ≡ false → a ≡ true
neither true b e = refl
neither false b e = absurd (cc e)

-- a level of one whole item with a child
pub record OneWhole (n : Bool) (t : Span) (d rest : Level) : Type 0 where
  pub whole : is_whole_span n t ≡ true
  pub alone : rest ≡ end
  pub child : d ≡ end → ⊥

alone_behind : (n : Bool) (ns : List Bool) (t : Span) (d rest : Level) → ArePlaced (n ∷ ns) (item t d rest) → IsAtMost Last t.hi → rest ≡ end
alone_behind n ns t d end placed up = refl
alone_behind n ns t d (item u e more) placed up =
    absurd (below-irrefl u.lo (below-at_most-trans u.lo u.hi u.lo placed.3.0.span (at_most-trans u.hi Last u.lo (greatest_end u.hi) (at_most-trans Last t.hi u.lo up placed.0.rises))))

all_is : (n : Bool) (t : Span) (d rest : Level) → t.lo ≡ first_end n → t.hi ≡ Last → d ≡ end → rest ≡ end → item t d rest ≡ item (whole_span n) end end
all_is n t d rest lo hi child after = λ i. item (record { lo = lo i; hi = hi i }) (child i) (after i)

pub one_whole : (n : Bool) (ns : List Bool) (t : Span) (d rest : Level) → IsCanonicalLevel (n ∷ ns) (item t d rest) → level_constrains (n ∷ ns) (item t d rest) 0 ≡ false → OneWhole n t d rest
one_whole n ns t d rest canonical free =
    let whole : is_whole_span n t ≡ true = neither (is_whole_span n t) (level_constrains (n ∷ ns) rest 0) free in
    let (lo, hi) = whole_parts (is_at_most t.lo (first_end n)) (is_at_most Last t.hi) whole in
    let alone : rest ≡ end = alone_behind n ns t d rest canonical.placed hi in
    record {
      whole = whole;
      alone = alone;
      child = λ e. canonical.not_all (all_is n t d rest (at_most-antisym t.lo (first_end n) lo canonical.placed.0.from) (at_most-antisym t.hi Last (greatest_end t.hi) hi) e alone);
    }

are_beside : (n : Bool) (ns : List Bool) (g h : Level) → ArePlaced (n ∷ ns) g → ((k : ℕ) → level_constrains (n ∷ ns) g (suc k) ≡ true → level_constrains ns h k ≡ false) → AreBeside ns g h
are_beside n ns end h placed apart = tt
are_beside n ns (item s c rest) h placed apart = (
  record { placed = placed.2; not_all = placed.1; apart = λ k e. apart k (child_constrains n ns s c rest k e) },
  are_beside n ns rest h placed.3 (λ k e. apart k (rest_constrains n ns s c rest (suc k) e)),
)

apart_from : (n : Bool) (ns : List Bool) (g : Level) (t : Span) (d rest : Level) → ComesBefore (n ∷ ns) g (item t d rest) → (k : ℕ) → level_constrains (n ∷ ns) g (suc k) ≡ true → level_constrains ns d k ≡ false
apart_from n ns g t d rest before k e =
    not_true (level_constrains ns d k) (λ e'. let low = before (suc k) (suc k) e (child_constrains n ns t d rest k e') in absurd (omega (arith, low)))

-- where the parts of one level come before those of another, what both have in common has the items of the first
pub kept_items : (ns : List Bool) (g h : Level) → IsCanonicalLevel ns g → IsCanonicalLevel ns h → (g ≡ end → ⊥) → (h ≡ end → ⊥) → ComesBefore ns g h → both g h ≡ grafted (first_child h) g
kept_items ns end h canonical other some some' before = absurd (some refl)
kept_items ns (item s c more) end canonical other some some' before = absurd (some' refl)
kept_items [] (item s c more) (item t d rest) canonical other some some' before = absurd canonical.placed
kept_items (n ∷ ns) (item s c more) (item t end rest) canonical other some some' before =
    absurd ((one_whole n ns t end rest other (first_free n ns s c more (item t end rest) canonical before)).child refl)
kept_items (n ∷ ns) (item s c more) (item t (item u d x) rest) canonical other some some' before =
    let one = one_whole n ns t (item u d x) rest other (first_free n ns s c more (item t (item u d x) rest) canonical before) in
    let w = some_held ns (item u d x) other.placed.2 in
    subst (λ (r : Level). both (item s c more) (item t (item u d x) r) ≡ grafted (item u d x) (item s c more)) (sym one.alone)
    (grafts n ns (item s c more) t u d x w.tuple one.whole canonical.placed
    (are_beside n ns (item s c more) (item u d x) canonical.placed (apart_from n ns (item s c more) t (item u d x) rest before))
    other.placed.2 w.fits w.is)
