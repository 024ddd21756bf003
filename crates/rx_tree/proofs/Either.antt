-- The tuples of either of two trees: canonical, and exactly those that one of them holds.
use Rattle.std.proofs.Common.{◌≡◌, ◌&&◌, ◌||◌, Bool, true, false, cond, List, [], ◌∷◌, refl, ap, ap₂, sym, ◌∙◌}
use Rattle.std.proofs.Math.Bool.{or-true, or-false}
use Rattle.rx_value.specs.declared.order.End.{End}
use Rattle.rx_value.specs.declared.order.Span.{Span}
use Rattle.rx_value.specs.Spans.{is_inside, is_whole_span, whole_span}
use Rattle.rx_tree.specs.Tree.{Level, Tree, is_end}
use Rattle.rx_tree.specs.Tree.Level.{end, item}
use Rattle.rx_tree.specs.Tree.Tree.{everything, nothing, items}
use Rattle.rx_tree.specs.Member.{IsTuple, level_holds, child_holds, holds}
use Rattle.rx_tree.specs.Canonical.{ArePlaced, IsNotAll, IsCanonical}
use Rattle.rx_tree.specs.Union.{lay_all, is_all, either_child, either, tree_or}
use Rattle.rx_tree.proofs.Bools.{differ, and_parts}
use Rattle.rx_tree.proofs.Places.{held_at_lower}
use Rattle.rx_tree.proofs.Sets.{end_not_all, child_is_level, has_items, whole_inside, whole_is_whole}
use Rattle.rx_tree.proofs.Unique.{some_held}
use Rattle.rx_tree.proofs.Intersection.{IsChild}
use Rattle.rx_tree.proofs.Layers.{IsEither, AreLaid, lay_all_law}

pub end_child : (ns : List Bool) → IsChild ns end
end_child ns = record { placed = tt; not_all = end_not_all ns }

is_end-end : (l : Level) → is_end l ≡ true → l ≡ end
is_end-end end e = refl
is_end-end (item s c rest) e = absurd (cc e)

whole_item : (n : Bool) (s : Span) (c rest : Level) → item s c rest ≡ item (whole_span n) end end → is_all n (item s c rest) ≡ true
whole_item n s c rest e = ap (is_all n) e ∙ ap (λ x. x && true) (whole_is_whole n)

-- a level that the test doesn't find to be all isn't all
pub isnt_all : (n : Bool) (ns : List Bool) (l : Level) → is_all n l ≡ false → IsNotAll (n ∷ ns) l
isnt_all n ns end e = λ is. absurd (cc is)
isnt_all n ns (item s c rest) e = λ is. absurd (cc (sym (whole_item n s c rest is) ∙ e))

item_held : (s : Span) (c rest : Level) (p : End) (ps : List End) → is_inside s p ≡ true → c ≡ end → level_holds (item s c rest) (p ∷ ps) ≡ true
item_held s c rest p ps here below =
    ap₂ (λ x y. (x && child_holds y ps) || level_holds rest (p ∷ ps)) here below

-- a level that is all holds every tuple
pub all_holds : (n : Bool) (ns : List Bool) (l : Level) (p : End) (ps : List End) → is_all n l ≡ true → IsTuple (n ∷ ns) (p ∷ ps) → level_holds l (p ∷ ps) ≡ true
all_holds n ns end p ps e tuple = absurd (cc e)
all_holds n ns (item s c rest) p ps e tuple =
    let (whole, ends) = and_parts (is_whole_span n s) (is_end c && is_end rest) e in
    let (below, after) = and_parts (is_end c) (is_end rest) ends in
    item_held s c rest p ps (whole_inside n s p whole tuple.0) (is_end-end c below)

-- what is held by a level of parts that there are
record Given (n : Bool) (ns : List Bool) (a b l : Level) : Type 0 where
  laid : AreLaid n ns a b l
  some : l ≡ end → ⊥

given_child : (n : Bool) (ns : List Bool) (a b l : Level) (x : Bool) → is_all n l ≡ x → Given n ns a b l → IsChild (n ∷ ns) (cond x end l)
given_child n ns a b l true e g = end_child (n ∷ ns)
given_child n ns a b l false e g = record { placed = g.laid.placed; not_all = isnt_all n ns l e }

given_holds : (n : Bool) (ns : List Bool) (a b l : Level) (x : Bool) (ps : List End) → is_all n l ≡ x → Given n ns a b l → IsTuple (n ∷ ns) ps → child_holds (cond x end l) ps ≡ (level_holds a ps || level_holds b ps)
given_holds n ns a b l x [] e g tuple = absurd tuple
given_holds n ns a b l true (p ∷ ps) e g tuple = sym (all_holds n ns l p ps e tuple) ∙ g.laid.holds p ps tuple.1
given_holds n ns a b l false (p ∷ ps) e g tuple = child_is_level l (p ∷ ps) g.some ∙ g.laid.holds p ps tuple.1

or_first : (a b : Bool) → a ≡ true → (a || b) ≡ true
or_first true b e = refl
or_first false b e = absurd (cc e)

-- the items of a level that has some, laid over another, are some
laid_some : (n : Bool) (ns : List Bool) (s : Span) (c rest b l : Level) → ArePlaced (n ∷ ns) (item s c rest) → AreLaid n ns (item s c rest) b l → l ≡ end → ⊥
laid_some n ns s c rest b l placed laid e =
    let w = some_held ns c placed.2 in
    let held = held_at_lower n ns s c rest w.tuple placed ∙ w.is in
    differ (level_holds l (s.lo ∷ w.tuple)) (level_holds l (s.lo ∷ w.tuple)) refl
    (laid.holds s.lo w.tuple w.fits ∙ or_first (level_holds (item s c rest) (s.lo ∷ w.tuple)) (level_holds b (s.lo ∷ w.tuple)) held)
    (ap (λ x. level_holds x (s.lo ∷ w.tuple)) e)

laid_given : (f : Level → Level → Level) (n : Bool) (ns : List Bool) (s : Span) (c rest b : Level) → IsEither ns f → ArePlaced (n ∷ ns) (item s c rest) → ArePlaced (n ∷ ns) b → Given n ns (item s c rest) b (lay_all f (item s c rest) b)
laid_given f n ns s c rest b either placed other =
    let laid = lay_all_law f n ns (item s c rest) b either placed other in
    record { laid = laid; some = laid_some n ns s c rest b (lay_all f (item s c rest) b) placed laid }

child_either : (n : Bool) (ns : List Bool) (c d : Level) → IsEither ns (either_child ns) → IsChild (n ∷ ns) c → IsChild (n ∷ ns) d → IsChild (n ∷ ns) (either_child (n ∷ ns) c d)
child_either n ns end d below first second = end_child (n ∷ ns)
child_either n ns (item s c rest) end below first second = end_child (n ∷ ns)
child_either n ns (item s c rest) (item t d more) below first second =
    let l = lay_all (either_child ns) (item s c rest) (item t d more) in
    given_child n ns (item s c rest) (item t d more) l (is_all n l) refl
    (laid_given (either_child ns) n ns s c rest (item t d more) below first.placed second.placed)

holds_either : (n : Bool) (ns : List Bool) (c d : Level) (ps : List End) → IsEither ns (either_child ns) → IsChild (n ∷ ns) c → IsChild (n ∷ ns) d → IsTuple (n ∷ ns) ps → child_holds (either_child (n ∷ ns) c d) ps ≡ (child_holds c ps || child_holds d ps)
holds_either n ns end d ps below first second tuple = refl
holds_either n ns (item s c rest) end ps below first second tuple = sym (or-true (child_holds (item s c rest) ps))
holds_either n ns (item s c rest) (item t d more) ps below first second tuple =
    let l = lay_all (either_child ns) (item s c rest) (item t d more) in
    given_holds n ns (item s c rest) (item t d more) l (is_all n l) ps refl
    (laid_given (either_child ns) n ns s c rest (item t d more) below first.placed second.placed) tuple

nothing_below : (c d : Level) (ps : List End) → IsChild [] c → child_holds end ps ≡ (child_holds c ps || child_holds d ps)
nothing_below end d ps first = refl
nothing_below (item s c rest) d ps first = absurd first.placed

-- what goes on below either of two children is a child, below which goes on what does below one of them
pub either_law : (ns : List Bool) → IsEither ns (either_child ns)
either_law [] = record { child = λ c d first second. end_child []; holds = λ c d ps first second tuple. nothing_below c d ps first }
either_law (n ∷ ns) =
    let below = either_law ns in
    record { child = λ c d first second. child_either n ns c d below first second; holds = λ c d ps first second tuple. holds_either n ns c d ps below first second tuple }

tree_by : (n : Bool) (ns : List Bool) (a b l : Level) (x : Bool) → is_all n l ≡ x → Given n ns a b l → IsCanonical (n ∷ ns) (cond x everything (items l))
tree_by n ns a b l true e g = tt
tree_by n ns a b l false e g = has_items (n ∷ ns) l (record { placed = g.laid.placed; not_all = isnt_all n ns l e }) g.some

tree_holds : (n : Bool) (ns : List Bool) (a b l : Level) (x : Bool) (ps : List End) → is_all n l ≡ x → Given n ns a b l → IsTuple (n ∷ ns) ps → holds (cond x everything (items l)) ps ≡ (level_holds a ps || level_holds b ps)
tree_holds n ns a b l x [] e g tuple = absurd tuple
tree_holds n ns a b l true (p ∷ ps) e g tuple = sym (all_holds n ns l p ps e tuple) ∙ g.laid.holds p ps tuple.1
tree_holds n ns a b l false (p ∷ ps) e g tuple = g.laid.holds p ps tuple.1

-- either of two canonical trees is canonical
pub or_canonical : (parts : List Bool) (t u : Tree) → IsCanonical parts t → IsCanonical parts u → IsCanonical parts (tree_or parts t u)
or_canonical parts everything u canonical other = tt
or_canonical parts nothing u canonical other = other
or_canonical parts (items l) everything canonical other = tt
or_canonical parts (items l) nothing canonical other = canonical
or_canonical parts (items end) (items m) canonical other = absurd canonical
or_canonical parts (items (item s c rest)) (items end) canonical other = absurd other
or_canonical [] (items (item s c rest)) (items (item t d more)) canonical other = tt
or_canonical (n ∷ ns) (items (item s c rest)) (items (item t d more)) canonical other =
    let l = lay_all (either_child ns) (item s c rest) (item t d more) in
    tree_by n ns (item s c rest) (item t d more) l (is_all n l) refl
    (laid_given (either_child ns) n ns s c rest (item t d more) (either_law ns) canonical.placed other.placed)

-- and holds exactly what one of them holds
pub or_holds : (parts : List Bool) (t u : Tree) (ps : List End) → IsCanonical parts t → IsCanonical parts u → IsTuple parts ps → holds (tree_or parts t u) ps ≡ (holds t ps || holds u ps)
or_holds parts everything u ps canonical other tuple = refl
or_holds parts nothing u ps canonical other tuple = refl
or_holds parts (items l) everything ps canonical other tuple = sym (or-true (level_holds l ps))
or_holds parts (items l) nothing ps canonical other tuple = sym (or-false (level_holds l ps))
or_holds parts (items end) (items m) ps canonical other tuple = absurd canonical
or_holds parts (items (item s c rest)) (items end) ps canonical other tuple = absurd other
or_holds [] (items (item s c rest)) (items (item t d more)) ps canonical other tuple = absurd canonical.placed
or_holds (n ∷ ns) (items (item s c rest)) (items (item t d more)) ps canonical other tuple =
    let l = lay_all (either_child ns) (item s c rest) (item t d more) in
    tree_holds n ns (item s c rest) (item t d more) l (is_all n l) ps refl
    (laid_given (either_child ns) n ns s c rest (item t d more) (either_law ns) canonical.placed other.placed) tuple
