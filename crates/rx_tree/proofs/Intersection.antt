-- What two levels have in common is in place, and holds what both hold.
use Rattle.std.proofs.Common.{◌≡◌, ◌&&◌, ◌||◌, Bool, true, false, List, [], ◌∷◌, Option, Some, None, refl, ap, ap₂, sym, ◌∙◌}
use Rattle.rx_value.specs.declared.order.End.{End}
use Rattle.rx_value.specs.declared.order.Span.{Span}
use Rattle.rx_value.specs.Spans.{IsAtMost, is_inside, is_inside_part, meet_span, first_end, whole_span}
use Rattle.rx_value.proofs.Ends.{at_most-trans, below-at_most}
use Rattle.rx_value.proofs.Meeting.{IsMet, met, meet_span_common}
use Rattle.std.proofs.Math.Bool.{and-true, and-false, and-or_distrib_right}
use Rattle.rx_tree.specs.Tree.{Level, Tree}
use Rattle.rx_tree.specs.Tree.Level.{end, item}
use Rattle.rx_tree.specs.Tree.Tree.{everything, nothing, items}
use Rattle.rx_tree.specs.Member.{IsTuple, level_holds, child_holds, holds}
use Rattle.rx_tree.specs.Canonical.{BeginsFrom, ArePlaced, IsNotAll, IsCanonicalLevel, IsCanonical}
use Rattle.rx_tree.specs.Weld.{glue, EndsBy}
use Rattle.rx_tree.specs.Meet.{unless_end, meet_child, piece_of, put_piece, across, both, tree_of_items, tree_and}
use Rattle.rx_tree.proofs.Bools.{differ, spread}
use Rattle.rx_tree.proofs.Sets.{whole_inside, whole_is_whole}
use Rattle.rx_tree.proofs.Unique.{some_missing}
use Rattle.rx_tree.proofs.Welding.{Follows, begins_later, weld_placed, weld_begins, weld_ends, weld_holds, glue_placed, glue_begins, glue_holds}

-- a part before a level begins where its span does
put_begins : (e : End) (s t : Span) (m : Option Span) (c : Option Level) (rest : Level) → meet_span s t ≡ m → ((x : Span) → IsMet s t x → IsAtMost e x.lo) → BeginsFrom e rest → BeginsFrom e (put_piece (piece_of m c) rest)
put_begins e s t None c rest is from later = later
put_begins e s t (Some m) None rest is from later = later
put_begins e s t (Some m) (Some c) rest is from later = weld_begins e m c rest (from m (met s t m is))

-- what an item and a level have in common begins no lower than the item
across_begins : (f : Level → Level) (c : Level) (e : End) (s : Span) (h : Level) → IsAtMost e s.lo → BeginsFrom e (across f c s h)
across_begins f c e s end from = tt
across_begins f c e s (item t d rest) from =
    put_begins e s t (meet_span s t) (meet_child f c d) (across f c s rest) refl
    (λ x m. at_most-trans e s.lo x.lo from m.first.lo)
    (across_begins f c e s rest from)

rest_begins : (n : Bool) (ns : List Bool) (e : End) (s : Span) (c rest : Level) → ArePlaced (n ∷ ns) (item s c rest) → IsAtMost e s.lo → BeginsFrom e rest
rest_begins n ns e s c rest placed from = begins_later e s.hi rest (at_most-trans e s.lo s.hi from (below-at_most s.lo s.hi placed.0.span)) placed.0.rises

-- nor lower than the level
across_begins_level : (f : Level → Level) (c : Level) (n : Bool) (ns : List Bool) (e : End) (s : Span) (h : Level) → ArePlaced (n ∷ ns) h → BeginsFrom e h → BeginsFrom e (across f c s h)
across_begins_level f c n ns e s end placed from = tt
across_begins_level f c n ns e s (item t d rest) placed from =
    put_begins e s t (meet_span s t) (meet_child f c d) (across f c s rest) refl
    (λ x m. at_most-trans e t.lo x.lo from m.second.lo)
    (across_begins_level f c n ns e s rest placed.3 (rest_begins n ns e t d rest placed from))

put_ends : (s t : Span) (m : Option Span) (c : Option Level) (rest : Level) → meet_span s t ≡ m → EndsBy s.hi rest → EndsBy s.hi (put_piece (piece_of m c) rest)
put_ends s t None c rest is by = by
put_ends s t (Some m) None rest is by = by
put_ends s t (Some m) (Some c) rest is by = weld_ends s.hi m c rest (met s t m is).first.hi by

-- and ends no later than the item
across_ends : (f : Level → Level) (c : Level) (s : Span) (h : Level) → EndsBy s.hi (across f c s h)
across_ends f c s end = tt
across_ends f c s (item t d rest) = put_ends s t (meet_span s t) (meet_child f c d) (across f c s rest) refl (across_ends f c s rest)

-- a level that may stand below an item
pub record IsChild (ns : List Bool) (c : Level) : Type 0 where
  pub placed : ArePlaced ns c
  pub not_all : IsNotAll ns c

abbrev IsChildPart : List Bool → Option Level → Type 0
IsChildPart ns None = Unit {0}
IsChildPart ns (Some c) = IsChild ns c

put_placed : (n : Bool) (ns : List Bool) (s t : Span) (m : Option Span) (c : Option Level) (rest : Level) → meet_span s t ≡ m → IsAtMost (first_end n) s.lo → IsChildPart ns c → BeginsFrom t.hi rest → ArePlaced (n ∷ ns) rest → ArePlaced (n ∷ ns) (put_piece (piece_of m c) rest)
put_placed n ns s t None c rest is from child begins placed = placed
put_placed n ns s t (Some m) None rest is from child begins placed = placed
put_placed n ns s t (Some m) (Some c) rest is from child begins placed =
    let x = met s t m is in
    weld_placed n ns m c rest (record {
      span = x.span;
      from = at_most-trans (first_end n) s.lo m.lo from x.first.lo;
      rises = begins_later m.hi t.hi rest x.second.hi begins;
      not_all = child.not_all;
      child = child.placed;
      after = placed;
    })

-- what an item and a level have in common is in place, where what goes on below is
across_placed : (f : Level → Level) (c : Level) (n : Bool) (ns : List Bool) (s : Span) (h : Level) → ((d : Level) → IsChild ns d → IsChildPart ns (meet_child f c d)) → IsAtMost (first_end n) s.lo → ArePlaced (n ∷ ns) h → ArePlaced (n ∷ ns) (across f c s h)
across_placed f c n ns s end children from placed = tt
across_placed f c n ns s (item t d rest) children from placed =
    put_placed n ns s t (meet_span s t) (meet_child f c d) (across f c s rest) refl from
    (children d (record { placed = placed.2; not_all = placed.1 }))
    (across_begins_level f c n ns t.hi s rest placed.3 placed.0.rises)
    (across_placed f c n ns s rest children from placed.3)

abbrev goes_on : Option Level → List End → Bool
goes_on None ps = false
goes_on (Some c) ps = child_holds c ps

unless_holds : (e : Level) (ps : List End) → goes_on (unless_end e) ps ≡ level_holds e ps
unless_holds end ps = refl
unless_holds (item s c rest) ps = refl

-- what goes on below both children
child_law : (f : Level → Level) (c d : Level) (ps : List End) → level_holds (f d) ps ≡ (level_holds c ps && level_holds d ps) → goes_on (meet_child f c d) ps ≡ (child_holds c ps && child_holds d ps)
child_law f end d ps h = refl
child_law f (item s c rest) end ps h = sym (and-true (level_holds (item s c rest) ps))
child_law f (item s c rest) (item t d more) ps h = unless_holds (f (item t d more)) ps ∙ h

put_holds : (n : Bool) (ns : List Bool) (s t : Span) (m : Option Span) (c : Option Level) (rest : Level) (p : End) (ps : List End) → meet_span s t ≡ m → IsAtMost (first_end n) s.lo → IsChildPart ns c → BeginsFrom t.hi rest → ArePlaced (n ∷ ns) rest
    → level_holds (put_piece (piece_of m c) rest) (p ∷ ps) ≡ ((is_inside_part m p && goes_on c ps) || level_holds rest (p ∷ ps))
put_holds n ns s t None c rest p ps is from child begins placed = refl
put_holds n ns s t (Some m) None rest p ps is from child begins placed = ap (λ x. x || level_holds rest (p ∷ ps)) (sym (and-false (is_inside m p)))
put_holds n ns s t (Some m) (Some c) rest p ps is from child begins placed =
    let x = met s t m is in
    weld_holds n ns m c rest p ps (record {
      span = x.span;
      from = at_most-trans (first_end n) s.lo m.lo from x.first.lo;
      rises = begins_later m.hi t.hi rest x.second.hi begins;
      not_all = child.not_all;
      child = child.placed;
      after = placed;
    })

-- what is known of the function that gives what two children have in common
record Meets (ns : List Bool) (c : Level) : Type 0 where
  children : (d : Level) → IsChild ns d → IsChildPart ns (meet_child (both c) c d)
  holds : (d : Level) (ps : List End) → ArePlaced ns d → level_holds (both c d) ps ≡ (level_holds c ps && level_holds d ps)

across_holds : (n : Bool) (ns : List Bool) (c : Level) (s : Span) (h : Level) (p : End) (ps : List End) → Meets ns c → IsAtMost (first_end n) s.lo → ArePlaced (n ∷ ns) h
    → level_holds (across (both c) c s h) (p ∷ ps) ≡ ((is_inside s p && child_holds c ps) && level_holds h (p ∷ ps))
across_holds n ns c s end p ps meets from placed = sym (and-false (is_inside s p && child_holds c ps))
across_holds n ns c s (item t d rest) p ps meets from placed =
    put_holds n ns s t (meet_span s t) (meet_child (both c) c d) (across (both c) c s rest) p ps refl from
    (meets.children d (record { placed = placed.2; not_all = placed.1 }))
    (across_begins_level (both c) c n ns t.hi s rest placed.3 placed.0.rises)
    (across_placed (both c) c n ns s rest meets.children from placed.3)
    ∙ ap (λ x. (x && goes_on (meet_child (both c) c d) ps) || level_holds (across (both c) c s rest) (p ∷ ps)) ((meet_span_common s t).positions p)
    ∙ ap (λ x. ((is_inside s p && is_inside t p) && x) || level_holds (across (both c) c s rest) (p ∷ ps)) (child_law (both c) c d ps (meets.holds d ps placed.2))
    ∙ ap (λ x. ((is_inside s p && is_inside t p) && (child_holds c ps && child_holds d ps)) || x) (across_holds n ns c s rest p ps meets from placed.3)
    ∙ spread (is_inside s p) (child_holds c ps) (is_inside t p) (child_holds d ps) (level_holds rest (p ∷ ps))

-- what two levels have in common begins no lower than the first
pub both_begins : (n : Bool) (ns : List Bool) (e : End) (a b : Level) → ArePlaced (n ∷ ns) a → BeginsFrom e a → BeginsFrom e (both a b)
both_begins n ns e end b placed from = tt
both_begins n ns e (item s c rest) b placed from =
    glue_begins e (across (both c) c s b) (both rest b)
    (across_begins (both c) c e s b from)
    (both_begins n ns e rest b placed.3 (rest_begins n ns e s c rest placed from))

-- a level is in place with what it has in common with others, and holds what both hold
pub record IsMetRight (ns : List Bool) (a : Level) : Type 0 where
  pub placed : (b : Level) → ArePlaced ns b → ArePlaced ns (both a b)
  pub holds : (b : Level) (ps : List End) → ArePlaced ns b → level_holds (both a b) ps ≡ (level_holds a ps && level_holds b ps)

all_held : (n : Bool) (ns : List Bool) (ps : List End) → IsTuple (n ∷ ns) ps → level_holds (item (whole_span n) end end) ps ≡ true
all_held n ns [] fits = absurd fits
all_held n ns (p ∷ ps) fits = rw (whole_inside n (whole_span n) p (whole_is_whole n) fits.0) refl

-- what a level that isn't all has in common with another isn't all
both_not_all : (ns : List Bool) (s : Span) (c rest b : Level) → ArePlaced ns (item s c rest) → IsNotAll ns (item s c rest) → IsMetRight ns (item s c rest) → ArePlaced ns b → IsNotAll ns (both (item s c rest) b)
both_not_all [] s c rest b placed not_all meets other = tt
both_not_all (n ∷ ns) s c rest b placed not_all meets other = λ e.
    let w = some_missing (n ∷ ns) s c rest placed not_all in
    differ (level_holds (both (item s c rest) b) w.tuple) (level_holds (both (item s c rest) b) w.tuple) refl
    (ap (λ x. level_holds x w.tuple) e ∙ all_held n ns w.tuple w.fits)
    (meets.holds b w.tuple other ∙ ap (λ x. x && level_holds b w.tuple) w.is)

unless_child : (ns : List Bool) (e : Level) → IsChild ns e → IsChildPart ns (unless_end e)
unless_child ns end child = tt
unless_child ns (item s c rest) child = child

children_from : (ns : List Bool) (c : Level) → IsChild ns c → IsMetRight ns c → (d : Level) → IsChild ns d → IsChildPart ns (meet_child (both c) c d)
children_from ns end child meets d other = other
children_from ns (item s c rest) child meets end other = child
children_from ns (item s c rest) child meets (item t d more) other =
    unless_child ns (both (item s c rest) (item t d more)) (record {
      placed = meets.placed (item t d more) other.placed;
      not_all = both_not_all ns s c rest (item t d more) child.placed child.not_all meets other.placed;
    })

nothing_empty : (l : Level) → level_holds l [] ≡ false
nothing_empty end = refl
nothing_empty (item s c rest) = refl

both_follows : (n : Bool) (ns : List Bool) (s : Span) (c rest b : Level) → ArePlaced (n ∷ ns) (item s c rest) → Meets ns c → IsMetRight (n ∷ ns) rest → ArePlaced (n ∷ ns) b → Follows n ns s.hi (across (both c) c s b) (both rest b)
both_follows n ns s c rest b placed meets after other = record {
  first = across_placed (both c) c n ns s b meets.children placed.0.from other;
  second = after.placed b other;
  ends = across_ends (both c) c s b;
  begins = both_begins n ns s.hi rest b placed.3 placed.0.rises;
}

both_holds : (n : Bool) (ns : List Bool) (s : Span) (c rest b : Level) (ps : List End) → ArePlaced (n ∷ ns) (item s c rest) → Meets ns c → IsMetRight (n ∷ ns) rest → ArePlaced (n ∷ ns) b
    → level_holds (glue (across (both c) c s b) (both rest b)) ps ≡ (level_holds (item s c rest) ps && level_holds b ps)
both_holds n ns s c rest b [] placed meets after other = nothing_empty (glue (across (both c) c s b) (both rest b))
both_holds n ns s c rest b (p ∷ ps) placed meets after other =
    glue_holds n ns s.hi (across (both c) c s b) (both rest b) p ps (both_follows n ns s c rest b placed meets after other)
    ∙ ap₂ (λ x y. x || y) (across_holds n ns c s b p ps meets placed.0.from other) (after.holds b (p ∷ ps) other)
    ∙ sym (and-or_distrib_right (is_inside s p && child_holds c ps) (level_holds rest (p ∷ ps)) (level_holds b (p ∷ ps)))

-- what two levels in place have in common is in place, and holds exactly what both hold
pub both_law : (ns : List Bool) (a : Level) → ArePlaced ns a → IsMetRight ns a
both_law ns end placed = record { placed = λ b other. tt; holds = λ b ps other. refl }
both_law [] (item s c rest) placed = absurd placed
both_law (n ∷ ns) (item s c rest) placed =
    let below = both_law ns c placed.2 in
    let after = both_law (n ∷ ns) rest placed.3 in
    let meets : Meets ns c = record { children = children_from ns c (record { placed = placed.2; not_all = placed.1 }) below; holds = below.holds } in
    record {
      placed = λ b other. glue_placed n ns s.hi (across (both c) c s b) (both rest b) (both_follows n ns s c rest b placed meets after other);
      holds = λ b ps other. both_holds n ns s c rest b ps placed meets after other;
    }

tree_of_items_canonical : (parts : List Bool) (l : Level) → IsCanonicalLevel parts l → IsCanonical parts (tree_of_items l)
tree_of_items_canonical parts end canonical = tt
tree_of_items_canonical parts (item s c rest) canonical = canonical

tree_of_items_holds : (l : Level) (ps : List End) → holds (tree_of_items l) ps ≡ level_holds l ps
tree_of_items_holds end ps = refl
tree_of_items_holds (item s c rest) ps = refl

-- what two canonical trees have in common is canonical
pub and_canonical : (parts : List Bool) (t u : Tree) → IsCanonical parts t → IsCanonical parts u → IsCanonical parts (tree_and t u)
and_canonical parts everything u canonical other = other
and_canonical parts nothing u canonical other = tt
and_canonical parts (items l) everything canonical other = canonical
and_canonical parts (items l) nothing canonical other = tt
and_canonical parts (items end) (items m) canonical other = absurd canonical
and_canonical parts (items (item s c rest)) (items end) canonical other = absurd other
and_canonical parts (items (item s c rest)) (items (item t d more)) canonical other =
    let law = both_law parts (item s c rest) canonical.placed in
    tree_of_items_canonical parts (both (item s c rest) (item t d more)) (record {
      placed = law.placed (item t d more) other.placed;
      not_all = both_not_all parts s c rest (item t d more) canonical.placed canonical.not_all law other.placed;
    })

-- and holds exactly what both hold
pub and_holds : (parts : List Bool) (t u : Tree) (ps : List End) → IsCanonical parts t → IsCanonical parts u → holds (tree_and t u) ps ≡ (holds t ps && holds u ps)
and_holds parts everything u ps canonical other = refl
and_holds parts nothing u ps canonical other = refl
and_holds parts (items l) everything ps canonical other = sym (and-true (level_holds l ps))
and_holds parts (items l) nothing ps canonical other = sym (and-false (level_holds l ps))
and_holds parts (items end) (items m) ps canonical other = absurd canonical
and_holds parts (items (item s c rest)) (items end) ps canonical other = absurd other
and_holds parts (items (item s c rest)) (items (item t d more)) ps canonical other =
    tree_of_items_holds (both (item s c rest) (item t d more)) ps
    ∙ (both_law parts (item s c rest) canonical.placed).holds (item t d more) ps other.placed
