-- The tree of a point set is canonical, and holds the tuples whose position at the part is in a listed span.
use Rattle.std.proofs.Common.{◌≡◌, ◌&&◌, ◌||◌, ℕ, zero, suc, Bool, true, false, cond, List, [], ◌∷◌, refl, ap, ap₂, sym, ◌∙◌, subst}
use Rattle.rx_value.specs.declared.order.End.{End}
use Rattle.rx_value.specs.declared.order.End.TheVariants.{Last}
use Rattle.rx_value.specs.declared.order.Span.{Span}
use Rattle.rx_value.specs.Order.{is_at_most}
use Rattle.rx_value.specs.Spans.{IsAtMost, IsBelow, IsSpan, is_inside, first_end, whole_span, is_whole_span}
use Rattle.rx_value.proofs.Ends.{at_most-same, at_most-trans, below-at_most, below-at_most-trans, below-irrefl}
use Rattle.std.proofs.Math.Bool.{and-true, or-false}
use Rattle.rx_tree.specs.Tree.{Level}
use Rattle.rx_tree.specs.Tree.Level.{end, item}
use Rattle.rx_tree.specs.Tree.Tree.{everything, items}
use Rattle.rx_tree.specs.Member.{IsPosition, IsTuple, level_holds, child_holds, holds}
use Rattle.rx_tree.specs.Canonical.{BeginsFrom, Differs, ArePlaced, IsNotAll, IsCanonicalLevel, IsCanonical}
use Rattle.rx_tree.specs.Points.{AreApart, AreSpansAt, is_inside_any, is_inside_at, is_whole_list, is_whole_at, items_of, items_at, point_tree}
use Rattle.rx_tree.proofs.Bools.{and_parts}
use Rattle.rx_value.proofs.Meeting.{inside}

pub end_not_all : (ns : List Bool) → IsNotAll ns end
end_not_all [] = tt
end_not_all (n ∷ ns) = λ e. absurd (cc e)

begins : (e : End) (spans : List Span) → AreApart e spans → BeginsFrom e (items_of spans)
begins e [] apart = tt
begins e (s ∷ rest) apart = below-at_most e s.lo apart.0

differs : (s : Span) (spans : List Span) → AreApart s.hi spans → Differs s end (items_of spans)
differs s [] apart = tt
differs s (t ∷ rest) apart = λ touch same. below-irrefl t.lo (subst (λ (e : End). IsBelow e t.lo) touch apart.0)

rest_placed : (n : Bool) (ns : List Bool) (e : End) (spans : List Span) → IsAtMost (first_end n) e → AreApart e spans → ArePlaced (n ∷ ns) (items_of spans)
rest_placed n ns e [] from apart = tt
rest_placed n ns e (s ∷ rest) from apart =
    let lower = at_most-trans (first_end n) e s.lo from (below-at_most e s.lo apart.0) in
    let upper = at_most-trans (first_end n) s.lo s.hi lower (below-at_most s.lo s.hi apart.1) in
    (record { span = apart.1; from = lower; rises = begins s.hi rest apart.2; differs = differs s rest apart.2 }, end_not_all ns, tt, rest_placed n ns s.hi rest upper apart.2)

items_placed : (n : Bool) (ns : List Bool) (s : Span) (rest : List Span) → IsAtMost (first_end n) s.lo → IsSpan s → AreApart s.hi rest → ArePlaced (n ∷ ns) (items_of (s ∷ rest))
items_placed n ns s rest from span apart = (
  record { span = span; from = from; rises = begins s.hi rest apart; differs = differs s rest apart },
  end_not_all ns,
  tt,
  rest_placed n ns s.hi rest (at_most-trans (first_end n) s.lo s.hi from (below-at_most s.lo s.hi span)) apart,
)

pub whole_is_span : (n : Bool) → IsSpan (whole_span n)
whole_is_span true = refl
whole_is_span false = refl

pub whole_is_whole : (n : Bool) → is_whole_span n (whole_span n) ≡ true
whole_is_whole true = refl
whole_is_whole false = refl

some_items : (parts : List Bool) (k : ℕ) (s : Span) (rest : List Span) → AreSpansAt parts k (s ∷ rest) → items_at parts k (s ∷ rest) ≡ end → ⊥
some_items [] k s rest fits e = fits
some_items (n ∷ ns) zero s rest fits e = absurd (cc e)
some_items (n ∷ ns) (suc k) s rest fits e = absurd (cc e)

list_not_all : (n : Bool) (ns : List Bool) (s : Span) (rest : List Span) → is_whole_list n (s ∷ rest) ≡ false → IsNotAll (n ∷ ns) (items_of (s ∷ rest))
list_not_all n ns s [] apart e =
    let is : s ≡ whole_span n = cc e in
    absurd (cc (sym (ap (is_whole_span n) is ∙ whole_is_whole n) ∙ apart))
list_not_all n ns s (t ∷ rest) apart e = absurd (cc e)

-- the items of a point set that isn't all are a canonical level
items_canonical : (parts : List Bool) (k : ℕ) (s : Span) (rest : List Span) → AreSpansAt parts k (s ∷ rest) → is_whole_at parts k (s ∷ rest) ≡ false → IsCanonicalLevel parts (items_at parts k (s ∷ rest))
items_canonical [] k s rest fits apart = absurd fits
items_canonical (n ∷ ns) zero s rest fits apart = record { placed = items_placed n ns s rest fits.0 fits.1 fits.2; not_all = list_not_all n ns s rest apart }
items_canonical (n ∷ ns) (suc k) s rest fits apart =
    let below = items_canonical ns k s rest fits apart in
    record {
      placed = (record { span = whole_is_span n; from = at_most-same (first_end n); rises = tt; differs = tt }, below.not_all, below.placed, tt);
      not_all = λ e. some_items ns k s rest fits (cc e);
    }

pub has_items : (parts : List Bool) (l : Level) → IsCanonicalLevel parts l → (l ≡ end → ⊥) → IsCanonical parts (items l)
has_items parts end canonical some = some refl
has_items parts (item s c rest) canonical some = canonical

point_by : (parts : List Bool) (k : ℕ) (s : Span) (rest : List Span) (b : Bool) → is_whole_at parts k (s ∷ rest) ≡ b → AreSpansAt parts k (s ∷ rest) → IsCanonical parts (cond b everything (items (items_at parts k (s ∷ rest))))
point_by parts k s rest true is fits = tt
point_by parts k s rest false is fits = has_items parts (items_at parts k (s ∷ rest)) (items_canonical parts k s rest fits is) (some_items parts k s rest fits)

-- the tree of a point set is canonical
pub point_canonical : (parts : List Bool) (k : ℕ) (spans : List Span) → AreSpansAt parts k spans → IsCanonical parts (point_tree parts k spans)
point_canonical parts k [] fits = tt
point_canonical parts k (s ∷ rest) fits = point_by parts k s rest (is_whole_at parts k (s ∷ rest)) refl fits

items_hold : (spans : List Span) (p : End) (ps : List End) → level_holds (items_of spans) (p ∷ ps) ≡ is_inside_any spans p
items_hold [] p ps = refl
items_hold (s ∷ rest) p ps = ap₂ (λ x y. x || y) (and-true (is_inside s p)) (items_hold rest p ps)

pub child_is_level : (c : Level) (ps : List End) → (c ≡ end → ⊥) → child_holds c ps ≡ level_holds c ps
child_is_level end ps some = absurd (some refl)
child_is_level (item s c rest) ps some = refl

-- a whole span holds each position of its part
pub whole_inside : (n : Bool) (s : Span) (p : End) → is_whole_span n s ≡ true → IsPosition n p → is_inside s p ≡ true
whole_inside n s p whole here =
    let (lo, hi) = and_parts (is_at_most s.lo (first_end n)) (is_at_most Last s.hi) whole in
    inside s p (at_most-trans s.lo (first_end n) p lo here.from) (below-at_most-trans p Last s.hi here.cut hi)

level_at : (parts : List Bool) (k : ℕ) (s : Span) (rest : List Span) (ps : List End) → AreSpansAt parts k (s ∷ rest) → IsTuple parts ps → level_holds (items_at parts k (s ∷ rest)) ps ≡ is_inside_at k (s ∷ rest) ps
level_at [] k s rest ps fits tuple = absurd fits
level_at (n ∷ ns) k s rest [] fits tuple = absurd tuple
level_at (n ∷ ns) zero s rest (p ∷ ps) fits tuple = items_hold (s ∷ rest) p ps
level_at (n ∷ ns) (suc k) s rest (p ∷ ps) fits tuple =
    ap (λ x. (x && child_holds (items_at ns k (s ∷ rest)) ps) || false) (whole_inside n (whole_span n) p (whole_is_whole n) tuple.0)
    ∙ or-false (child_holds (items_at ns k (s ∷ rest)) ps)
    ∙ child_is_level (items_at ns k (s ∷ rest)) ps (some_items ns k s rest fits)
    ∙ level_at ns k s rest ps fits tuple.1

whole_list : (n : Bool) (spans : List Span) (p : End) → is_whole_list n spans ≡ true → IsPosition n p → is_inside_any spans p ≡ true
whole_list n [] p whole here = absurd (cc whole)
whole_list n (s ∷ []) p whole here = ap (λ x. x || false) (whole_inside n s p whole here)
whole_list n (s ∷ t ∷ rest) p whole here = absurd (cc whole)

whole_at : (parts : List Bool) (k : ℕ) (spans : List Span) (ps : List End) → is_whole_at parts k spans ≡ true → IsTuple parts ps → is_inside_at k spans ps ≡ true
whole_at [] k spans ps whole tuple = absurd (cc whole)
whole_at (n ∷ ns) k spans [] whole tuple = absurd tuple
whole_at (n ∷ ns) zero spans (p ∷ ps) whole tuple = whole_list n spans p whole tuple.0
whole_at (n ∷ ns) (suc k) spans (p ∷ ps) whole tuple = whole_at ns k spans ps whole tuple.1

holds_by : (parts : List Bool) (k : ℕ) (s : Span) (rest : List Span) (ps : List End) (b : Bool) → is_whole_at parts k (s ∷ rest) ≡ b → AreSpansAt parts k (s ∷ rest) → IsTuple parts ps → holds (cond b everything (items (items_at parts k (s ∷ rest)))) ps ≡ is_inside_at k (s ∷ rest) ps
holds_by parts k s rest ps true is fits tuple = sym (whole_at parts k (s ∷ rest) ps is tuple)
holds_by parts k s rest ps false is fits tuple = level_at parts k s rest ps fits tuple

no_spans : (k : ℕ) (ps : List End) → is_inside_at k [] ps ≡ false
no_spans k [] = refl
no_spans zero (p ∷ ps) = refl
no_spans (suc k) (p ∷ ps) = no_spans k ps

-- the tree of a point set holds exactly the tuples whose position at the part is in a listed span
pub point_holds : (parts : List Bool) (k : ℕ) (spans : List Span) (ps : List End) → AreSpansAt parts k spans → IsTuple parts ps → holds (point_tree parts k spans) ps ≡ is_inside_at k spans ps
point_holds parts k [] ps fits tuple = sym (no_spans k ps)
point_holds parts k (s ∷ rest) ps fits tuple = holds_by parts k s rest ps (is_whole_at parts k (s ∷ rest)) refl fits tuple
