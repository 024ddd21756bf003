-- What lies between spans that are apart.
use Rattle.std.proofs.Common.{◌≡◌, ◌&&◌, ◌||◌, ◌⊎◌, Bool, true, false, not, inl, inr, List, [], ◌∷◌, refl, ap, sym, ◌∙◌}
use Rattle.std.specs.Prelude.{if◌then◌else◌}
use Rattle.rx_value.specs.declared.order.End.{End}
use Rattle.rx_value.specs.declared.order.End.TheVariants.{Last}
use Rattle.rx_value.specs.declared.order.Span.{Span}
use Rattle.rx_value.specs.Order.{is_at_most}
use Rattle.rx_value.specs.Spans.{IsAtMost, IsBelow, IsSpan, is_inside}
use Rattle.rx_value.proofs.Ends.{at_most-same, at_most-trans, below-at_most}
use Rattle.rx_value.proofs.Meeting.{inside_bounds}
use Rattle.rx_tree.specs.Points.{AreApart, is_inside_any}
use Rattle.rx_spans.specs.Spans.{AreApartFrom, gaps_from}

last_gap : (e : End) (x : Bool) → is_at_most Last e ≡ x → AreApartFrom e (if x then [] else record { lo = e; hi = Last } ∷ [])
last_gap e true is = tt
last_gap e false is = (at_most-same e, is, tt)

last_apart : (d e : End) (x : Bool) → is_at_most Last e ≡ x → IsBelow d e → AreApart d (if x then [] else record { lo = e; hi = Last } ∷ [])
last_apart d e true is low = tt
last_apart d e false is low = (low, is, tt)

gaps_apart : (d e : End) (spans : List Span) → IsBelow d e → AreApart e spans → AreApart d (gaps_from e spans)
gaps_apart d e [] low apart = last_apart d e (is_at_most Last e) refl low
gaps_apart d e (s ∷ rest) low apart = (low, apart.0, gaps_apart s.lo s.hi rest apart.1 apart.2)

-- the gaps between spans that are apart are apart
pub gaps_are_apart : (e : End) (spans : List Span) → AreApart e spans → AreApartFrom e (gaps_from e spans)
gaps_are_apart e [] apart = last_gap e (is_at_most Last e) refl
gaps_are_apart e (s ∷ rest) apart = (at_most-same e, apart.0, gaps_apart s.lo s.hi rest apart.1 apart.2)

or_parts : (a b : Bool) → (a || b) ≡ true → (a ≡ true) ⊎ (b ≡ true)
or_parts true b e = inl refl
or_parts false b e = inr e

-- a position in one of some spans behind an end isn't below that end
inside_behind : (e p : End) (spans : List Span) → AreApart e spans → is_inside_any spans p ≡ true → IsAtMost e p
inside_behind e p [] apart held = absurd (cc held)
inside_behind e p (s ∷ rest) apart held = elim (or_parts (is_inside s p) (is_inside_any rest p) held) [
  | inl here ↦ at_most-trans e s.lo p (below-at_most e s.lo apart.0) (inside_bounds s p here).0
  | inr later ↦ at_most-trans e s.hi p (at_most-trans e s.lo s.hi (below-at_most e s.lo apart.0) (below-at_most s.lo s.hi apart.1)) (inside_behind s.hi p rest apart.2 later)
]

-- a position stands to an end (a), to a span behind it (b, c: not below its ends), and is in spans behind that (d)
first_gap : (a b c d : Bool) → (b ≡ true → a ≡ true) → (c ≡ true → b ≡ true) → (d ≡ true → c ≡ true) → ((a && not b) || (c && not d)) ≡ (a && not ((b && not c) || d))
first_gap false true c d f g h = absurd (cc (f refl))
first_gap false false true d f g h = absurd (cc (g refl))
first_gap false false false d f g h = refl
first_gap true false true d f g h = absurd (cc (g refl))
first_gap true false false true f g h = absurd (cc (h refl))
first_gap true false false false f g h = refl
first_gap true true false d f g h = refl
first_gap true true true d f g h = refl

last_holds : (e p : End) (x a : Bool) → is_at_most Last e ≡ x → is_at_most Last p ≡ false → is_at_most e p ≡ a → is_inside_any (if x then [] else record { lo = e; hi = Last } ∷ []) p ≡ (is_at_most e p && true)
last_holds e p true true is cut from = absurd (cc (at_most-trans Last e p is from, cut))
last_holds e p true false is cut from = sym (ap (λ x. x && true) from)
last_holds e p false true is cut from = rw from (rw cut refl)
last_holds e p false false is cut from = rw from refl

-- a cut from the end on is in a gap exactly where it is in none of the spans
pub gaps_hold : (e p : End) (spans : List Span) → AreApart e spans → is_at_most Last p ≡ false → is_inside_any (gaps_from e spans) p ≡ (is_at_most e p && not (is_inside_any spans p))
gaps_hold e p [] apart cut = last_holds e p (is_at_most Last e) (is_at_most e p) refl cut refl
gaps_hold e p (s ∷ rest) apart cut =
    ap (λ x. is_inside (record { lo = e; hi = s.lo }) p || x) (gaps_hold s.hi p rest apart.2 cut)
    ∙ first_gap (is_at_most e p) (is_at_most s.lo p) (is_at_most s.hi p) (is_inside_any rest p)
    (λ h. at_most-trans e s.lo p (below-at_most e s.lo apart.0) h)
    (λ h. at_most-trans s.lo s.hi p (below-at_most s.lo s.hi apart.1) h)
    (inside_behind s.hi p rest apart.2)
