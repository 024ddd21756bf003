-- Canonical trees that hold the same tuples are equal.
use Rattle.std.proofs.Common.{◌≡◌, inl, inr, Bool, true, false, List, [], ◌∷◌, refl, ap, sym, ◌∙◌, subst}
use Rattle.rx_value.specs.declared.order.End.{End}
use Rattle.rx_value.specs.declared.order.End.TheVariants.{Last}
use Rattle.rx_value.specs.declared.order.Span.{Span}
use Rattle.rx_value.specs.Spans.{IsAtMost, IsBelow, first_end, whole_span}
use Rattle.rx_value.proofs.Ends.{at_most-same, at_most-trans, at_most-antisym, at_most-from_equal, at_most-equal_or_below, below-at_most, below-cut, ends_split, greatest_end}
use Rattle.rx_tree.specs.Tree.{Level, Tree}
use Rattle.rx_tree.specs.Tree.Level.{end, item}
use Rattle.rx_tree.specs.Tree.Tree.{everything, nothing, items}
use Rattle.rx_tree.specs.Member.{IsTuple, HoldSame, level_holds, child_holds}
use Rattle.rx_tree.specs.Canonical.{BeginsFrom, ArePlaced, IsNotAll, IsCanonical}
use Rattle.rx_tree.proofs.Bools.{differ}
use Rattle.rx_tree.proofs.Places.{first_cut, firsts, firsts_fit, nothing_before, held_inside, held_at_lower, held_after, lower_position, upper_position}

-- a tuple at which a test of tuples has an answer
pub record Witness (ns : List Bool) (test : List End → Bool) (answer : Bool) : Type 0 where
  pub tuple : List End
  pub fits : IsTuple ns tuple
  pub is : test tuple ≡ answer

-- something is held below an item
pub some_held : (ns : List Bool) (c : Level) → ArePlaced ns c → Witness ns (child_holds c) true
some_held ns end placed = record { tuple = firsts ns; fits = firsts_fit ns; is = refl }
some_held [] (item s c rest) placed = absurd placed
some_held (n ∷ ns) (item s c rest) placed =
    let w = some_held ns c placed.2 in
    record { tuple = s.lo ∷ w.tuple; fits = (lower_position n s c rest placed.0, w.fits); is = held_at_lower n ns s c rest w.tuple placed ∙ w.is }

-- an item without a child that begins above the first position leaves that out
missing_before : (n : Bool) (ns : List Bool) (l : Level) (e : End) → ArePlaced (n ∷ ns) l → BeginsFrom e l → IsBelow (first_end n) e → Witness (n ∷ ns) (level_holds l) false
missing_before n ns l e placed begins low = record {
  tuple = first_end n ∷ firsts ns;
  fits = (first_cut n, firsts_fit ns);
  is = nothing_before n ns l e (first_end n) (firsts ns) placed begins low;
}

-- what is left out from the first item's upper end on
missing_at_upper : (n : Bool) (ns : List Bool) (s : Span) (c rest : Level) (e : End) → ArePlaced (n ∷ ns) (item s c rest) → IsBelow s.hi Last → BeginsFrom e rest → IsBelow s.hi e → Witness (n ∷ ns) (level_holds (item s c rest)) false
missing_at_upper n ns s c rest e placed cut begins low = record {
  tuple = s.hi ∷ firsts ns;
  fits = (upper_position n s c rest placed.0 cut, firsts_fit ns);
  is = held_after s c rest s.hi (firsts ns) (at_most-same s.hi) ∙ nothing_before n ns rest e s.hi (firsts ns) placed.3 begins low;
}

whole_by_ends : (n : Bool) (s : Span) → first_end n ≡ s.lo → s.hi ≡ Last → s ≡ whole_span n
whole_by_ends n s lo hi = λ i. record { lo = sym lo i; hi = hi i }

-- one item without a child that isn't whole
missing_alone : (n : Bool) (ns : List Bool) (s : Span) → ArePlaced (n ∷ ns) (item s end end) → IsNotAll (n ∷ ns) (item s end end) → Witness (n ∷ ns) (level_holds (item s end end)) false
missing_alone n ns s placed not_all = elim (at_most-equal_or_below (first_end n) s.lo placed.0.from) [
  | inr low ↦ missing_before n ns (item s end end) s.lo placed (at_most-same s.lo) low
  | inl lo ↦ elim (at_most-equal_or_below s.hi Last (greatest_end s.hi)) [
    | inr cut ↦ missing_at_upper n ns s end end Last placed cut tt cut
    | inl hi ↦ absurd (not_all (ap (λ x. item x end end) (whole_by_ends n s lo hi)))
  ]
]

-- an item without a child before another: the two touch, and what the second leaves out is left out, or a gap is
missing_next : (n : Bool) (ns : List Bool) (s t : Span) (d more : Level) → ArePlaced (n ∷ ns) (item s end (item t d more)) → (s.hi ≡ t.lo → Witness ns (child_holds d) false) → Witness (n ∷ ns) (level_holds (item s end (item t d more))) false
missing_next n ns s t d more placed below = elim (at_most-equal_or_below s.hi t.lo placed.0.rises) [
  | inr gap ↦ missing_at_upper n ns s end (item t d more) t.lo placed (below-cut s.hi t.lo gap) (at_most-same t.lo) gap
  | inl touch ↦
      let w = below touch in
      record {
        tuple = t.lo ∷ w.tuple;
        fits = (lower_position n t d more placed.3.0, w.fits);
        is = held_after s end (item t d more) t.lo w.tuple placed.0.rises ∙ held_at_lower n ns t d more w.tuple placed.3 ∙ w.is;
      }
]

-- a canonical level with items leaves something out
pub some_missing : (ns : List Bool) (s : Span) (c rest : Level) → ArePlaced ns (item s c rest) → IsNotAll ns (item s c rest) → Witness ns (level_holds (item s c rest)) false
some_missing [] s c rest placed not_all = absurd placed
some_missing (n ∷ ns) s (item u d x) rest placed not_all =
    let w = some_missing ns u d x placed.2 placed.1 in
    record { tuple = s.lo ∷ w.tuple; fits = (lower_position n s (item u d x) rest placed.0, w.fits); is = held_at_lower n ns s (item u d x) rest w.tuple placed ∙ w.is }
some_missing (n ∷ ns) s end end placed not_all = missing_alone n ns s placed not_all
some_missing (n ∷ ns) s end (item t end more) placed not_all = missing_next n ns s t end more placed (λ touch. absurd (placed.0.differs touch refl))
some_missing (n ∷ ns) s end (item t (item u d x) more) placed not_all = missing_next n ns s t (item u d x) more placed (λ touch. some_missing ns u d x placed.3.2 placed.3.1)

-- two levels over these parts hold the same tuples
abbrev pub LevelsHoldSame : List Bool → Level → Level → Type 0
LevelsHoldSame ns l m = (ps : List End) → IsTuple ns ps → level_holds l ps ≡ level_holds m ps

-- the same tuples go on below two items
abbrev pub ChildrenHoldSame : List Bool → Level → Level → Type 0
ChildrenHoldSame ns c d = (ps : List End) → IsTuple ns ps → child_holds c ps ≡ child_holds d ps

-- levels that hold the same begin at the same end
not_earlier : (n : Bool) (ns : List Bool) (s : Span) (c rest : Level) (t : Span) (d more : Level) → ArePlaced (n ∷ ns) (item s c rest) → ArePlaced (n ∷ ns) (item t d more) → LevelsHoldSame (n ∷ ns) (item s c rest) (item t d more) → IsBelow s.lo t.lo → ⊥
not_earlier n ns s c rest t d more placed other same low =
    let w = some_held ns c placed.2 in
    differ (level_holds (item s c rest) (s.lo ∷ w.tuple)) (level_holds (item t d more) (s.lo ∷ w.tuple))
    (same (s.lo ∷ w.tuple) (lower_position n s c rest placed.0, w.fits))
    (held_at_lower n ns s c rest w.tuple placed ∙ w.is)
    (nothing_before n ns (item t d more) t.lo s.lo w.tuple other (at_most-same t.lo) low)

-- the first item of one level doesn't end before that of the other
not_shorter : (n : Bool) (ns : List Bool) (s : Span) (c rest : Level) (t : Span) (d more : Level) → ArePlaced (n ∷ ns) (item s c rest) → ArePlaced (n ∷ ns) (item t d more) → IsAtMost t.lo s.lo → LevelsHoldSame (n ∷ ns) (item s c rest) (item t d more)
    → ((e : Level) → ArePlaced ns e → IsNotAll ns e → ChildrenHoldSame ns e d → c ≡ e) → IsBelow s.hi t.hi → ⊥
not_shorter n ns s c end t d more placed other lo same only low =
    let w = some_held ns d other.2 in
    let here = upper_position n s c end placed.0 (below-cut s.hi t.hi low) in
    let from = at_most-trans t.lo s.lo s.hi lo (below-at_most s.lo s.hi placed.0.span) in
    differ (level_holds (item t d more) (s.hi ∷ w.tuple)) (level_holds (item s c end) (s.hi ∷ w.tuple))
    (sym (same (s.hi ∷ w.tuple) (here, w.fits)))
    (held_inside n ns t d more s.hi w.tuple other from low ∙ w.is)
    (held_after s c end s.hi w.tuple (at_most-same s.hi))
not_shorter n ns s c (item u e x) t d more placed other lo same only low =
    let here = upper_position n s c (item u e x) placed.0 (below-cut s.hi t.hi low) in
    let from = at_most-trans t.lo s.lo s.hi lo (below-at_most s.lo s.hi placed.0.span) in
    let there : (qs : List End) → level_holds (item t d more) (s.hi ∷ qs) ≡ child_holds d qs = λ qs. held_inside n ns t d more s.hi qs other from low in
    let after : (qs : List End) → level_holds (item s c (item u e x)) (s.hi ∷ qs) ≡ level_holds (item u e x) (s.hi ∷ qs) = λ qs. held_after s c (item u e x) s.hi qs (at_most-same s.hi) in
    elim (at_most-equal_or_below s.hi u.lo placed.0.rises) [
      | inr gap ↦
          let w = some_held ns d other.2 in
          differ (level_holds (item t d more) (s.hi ∷ w.tuple)) (level_holds (item s c (item u e x)) (s.hi ∷ w.tuple))
          (sym (same (s.hi ∷ w.tuple) (here, w.fits)))
          (there w.tuple ∙ w.is)
          (after w.tuple ∙ nothing_before n ns (item u e x) u.lo s.hi w.tuple placed.3 (at_most-same u.lo) gap)
      | inl touch ↦
          let at_u : (qs : List End) → level_holds (item u e x) (s.hi ∷ qs) ≡ child_holds e qs =
          λ qs. ap (λ p. level_holds (item u e x) (p ∷ qs)) touch ∙ held_at_lower n ns u e x qs placed.3 in
          let alike : ChildrenHoldSame ns e d = λ qs fits. sym (at_u qs) ∙ sym (after qs) ∙ same (s.hi ∷ qs) (here, fits) ∙ there qs in
          placed.0.differs touch (only e placed.3.2 placed.3.1 alike)
    ]

-- the items after two first ones with the same span hold the same
rest_same : (n : Bool) (ns : List Bool) (s : Span) (c rest : Level) (t : Span) (d more : Level) → ArePlaced (n ∷ ns) (item s c rest) → ArePlaced (n ∷ ns) (item t d more) → s.hi ≡ t.hi → LevelsHoldSame (n ∷ ns) (item s c rest) (item t d more) → LevelsHoldSame (n ∷ ns) rest more
rest_same n ns s c rest t d more placed other hi same [] fits = absurd fits
rest_same n ns s c rest t d more placed other hi same (p ∷ qs) fits = elim (ends_split p s.hi) [
  | inl past ↦
      sym (held_after s c rest p qs past) ∙ same (p ∷ qs) fits
      ∙ held_after t d more p qs (subst (λ (e : End). IsAtMost e p) hi past)
  | inr low ↦
      nothing_before n ns rest s.hi p qs placed.3 placed.0.rises low
      ∙ sym (nothing_before n ns more t.hi p qs other.3 other.0.rises (subst (λ (e : End). IsBelow p e) hi low))
]

equal_ends : (a b : End) → (IsBelow a b → ⊥) → (IsBelow b a → ⊥) → a ≡ b
equal_ends a b f g = elim (ends_split a b) [
  | inr low ↦ absurd (f low)
  | inl back ↦ elim (ends_split b a) [ inr low ↦ absurd (g low) | inl on ↦ at_most-antisym a b on back ]
]

-- children below which the same goes on are equal, if levels that hold the same are
child_from : (ns : List Bool) (c d : Level) → (LevelsHoldSame ns c d → c ≡ d) → ArePlaced ns c → IsNotAll ns c → ArePlaced ns d → IsNotAll ns d → ChildrenHoldSame ns c d → c ≡ d
child_from ns end end only placed not_all other not_other same = refl
child_from ns end (item t d more) only placed not_all other not_other same =
    let w = some_missing ns t d more other not_other in
    absurd (differ true (level_holds (item t d more) w.tuple) (same w.tuple w.fits) refl w.is)
child_from ns (item s c rest) end only placed not_all other not_other same =
    let w = some_missing ns s c rest placed not_all in
    absurd (differ true (level_holds (item s c rest) w.tuple) (sym (same w.tuple w.fits)) refl w.is)
child_from ns (item s c rest) (item t d more) only placed not_all other not_other same = only same

same_item : (s t : Span) (c d rest more : Level) → s.lo ≡ t.lo → s.hi ≡ t.hi → c ≡ d → rest ≡ more → item s c rest ≡ item t d more
same_item s t c d rest more lo hi below after = λ i. item (record { lo = lo i; hi = hi i }) (below i) (after i)

-- levels in place that hold the same tuples are equal
pub same_levels : (ns : List Bool) (l m : Level) → ArePlaced ns l → ArePlaced ns m → LevelsHoldSame ns l m → l ≡ m
same_levels ns end end placed other same = refl
same_levels ns end (item t d more) placed other same =
    let w = some_held ns (item t d more) other in
    absurd (differ (level_holds (item t d more) w.tuple) false (sym (same w.tuple w.fits)) w.is refl)
same_levels ns (item s c rest) end placed other same =
    let w = some_held ns (item s c rest) placed in
    absurd (differ (level_holds (item s c rest) w.tuple) false (same w.tuple w.fits) w.is refl)
same_levels [] (item s c rest) (item t d more) placed other same = absurd placed
same_levels (n ∷ ns) (item s c rest) (item t d more) placed other same =
    let back : LevelsHoldSame (n ∷ ns) (item t d more) (item s c rest) = λ ps fits. sym (same ps fits) in
    let lo : s.lo ≡ t.lo = equal_ends s.lo t.lo
    (not_earlier n ns s c rest t d more placed other same)
    (not_earlier n ns t d more s c rest other placed back) in
    let only : (e : Level) → ArePlaced ns e → IsNotAll ns e → ChildrenHoldSame ns c e → c ≡ e =
    λ e in_place not_all alike. child_from ns c e (same_levels ns c e placed.2 in_place) placed.2 placed.1 in_place not_all alike in
    let alike : ChildrenHoldSame ns c d =
    λ qs fits. sym (held_at_lower n ns s c rest qs placed)
    ∙ same (s.lo ∷ qs) (lower_position n s c rest placed.0, fits)
    ∙ ap (λ p. level_holds (item t d more) (p ∷ qs)) lo
    ∙ held_at_lower n ns t d more qs other in
    let below : c ≡ d = only d other.2 other.1 alike in
    let hi : s.hi ≡ t.hi = equal_ends s.hi t.hi
    (not_shorter n ns s c rest t d more placed other (at_most-from_equal t.lo s.lo (sym lo)) same
    (λ e in_place not_all h. only e in_place not_all (λ qs fits. alike qs fits ∙ sym (h qs fits))))
    (not_shorter n ns t d more s c rest other placed (at_most-from_equal s.lo t.lo lo) back
    (λ e in_place not_all h. sym below ∙ only e in_place not_all (λ qs fits. sym (h qs fits)))) in
    same_item s t c d rest more lo hi below
    (same_levels (n ∷ ns) rest more placed.3 other.3 (rest_same n ns s c rest t d more placed other hi same))

-- canonical trees that hold the same tuples are equal
pub same_trees : (parts : List Bool) (t u : Tree) → IsCanonical parts t → IsCanonical parts u → HoldSame parts t u → t ≡ u
same_trees parts everything everything canonical other same = refl
same_trees parts everything nothing canonical other same = absurd (differ true false (same (firsts parts) (firsts_fit parts)) refl refl)
same_trees parts everything (items end) canonical other same = absurd other
same_trees parts everything (items (item s c rest)) canonical other same =
    let w = some_missing parts s c rest other.placed other.not_all in
    absurd (differ true (level_holds (item s c rest) w.tuple) (same w.tuple w.fits) refl w.is)
same_trees parts nothing everything canonical other same = absurd (differ true false (sym (same (firsts parts) (firsts_fit parts))) refl refl)
same_trees parts nothing nothing canonical other same = refl
same_trees parts nothing (items end) canonical other same = absurd other
same_trees parts nothing (items (item s c rest)) canonical other same =
    let w = some_held parts (item s c rest) other.placed in
    absurd (differ (level_holds (item s c rest) w.tuple) false (sym (same w.tuple w.fits)) w.is refl)
same_trees parts (items end) u canonical other same = absurd canonical
same_trees parts (items (item s c rest)) everything canonical other same =
    let w = some_missing parts s c rest canonical.placed canonical.not_all in
    absurd (differ true (level_holds (item s c rest) w.tuple) (sym (same w.tuple w.fits)) refl w.is)
same_trees parts (items (item s c rest)) nothing canonical other same =
    let w = some_held parts (item s c rest) canonical.placed in
    absurd (differ (level_holds (item s c rest) w.tuple) false (same w.tuple w.fits) w.is refl)
same_trees parts (items (item s c rest)) (items end) canonical other same = absurd other
same_trees parts (items (item s c rest)) (items (item t d more)) canonical other same =
    ap items (same_levels parts (item s c rest) (item t d more) canonical.placed other.placed same)
