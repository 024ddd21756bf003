-- Items of a level laid over another, by the parts from that of the level on.
use Rattle.std.proofs.Common.{◌≡◌, ◌&&◌, ◌-◌, ◌≤◌, Bool, true, false, cond, List, [], ◌∷◌, length, get_or, take, drop, length-drop, refl, ap, ap₂, sym, ◌∙◌, arith}
use Rattle.std.proofs.lemmas.List.{take_all}
use Rattle.rx_value.specs.declared.order.Span.{Span}
use Rattle.rx_value.specs.Spans.{is_whole_span}
use Rattle.rx_tree.specs.Tree.{Level, is_end}
use Rattle.rx_tree.specs.Tree.Level.{end, item}
use Rattle.rx_tree.specs.Join.{join_level, length_of}
use Rattle.rx_tree.specs.Canonical.{ArePlaced}
use Rattle.rx_tree.specs.Union.{lay_all, either_child, either, is_all}
use Rattle.rx_tree.proofs.Layers.{IsNew}
use Rattle.rx_tree.proofs.Unions.{either_turn}
use Rattle.rx_tree.specs.Cuts.{AreInOrder}
use Rattle.rx_tree.specs.Bare.{is_bare}
use Rattle.rx_or.specs.Cover.{covered}
use Rattle.rx_or.specs.Below.{union_below, ArePlacedBelow, unless_all, covered_by}
use Rattle.rx_tree.proofs.Order.{left_begins, left_differs}
use Rattle.rx_tree.proofs.Sides.{placed_order}
use Rattle.rx_or.proofs.Covered.{covered_lay}

pub placed_left : (parts : List Bool) (l m : Level) → ArePlaced parts (join_level l m) → ArePlaced parts l
placed_left [] end m placed = tt
placed_left [] (item u c l) m placed = absurd placed
placed_left (n ∷ ns) end m placed = tt
placed_left (n ∷ ns) (item u c l) m placed =
    (record { span = placed.0.span; from = placed.0.from; rises = left_begins u.hi l m placed.0.rises; differs = left_differs u c l m placed.0.differs }, placed.1, placed.2, placed_left (n ∷ ns) l m placed.3)

pub placed_from : (parts : List Bool) (l : Level) (i : Span) (d r : Level) → ArePlaced parts (join_level l (item i d r)) → ArePlaced parts (item i d r)
placed_from parts end i d r placed = placed
placed_from [] (item u c l) i d r placed = absurd placed
placed_from (n ∷ ns) (item u c l) i d r placed = placed_from (n ∷ ns) l i d r placed.3

pub placed_alone : (parts : List Bool) (s : Span) (c rest : Level) → ArePlaced parts (item s c rest) → ArePlaced parts (item s c end)
placed_alone [] s c rest placed = absurd placed
placed_alone (n ∷ ns) s c rest placed = (record { span = placed.0.span; from = placed.0.from; rises = tt; differs = tt }, placed.1, placed.2, tt)

pub placed_rest : (parts : List Bool) (s : Span) (c rest : Level) → ArePlaced parts (item s c rest) → ArePlaced parts rest
placed_rest [] s c rest placed = absurd placed
placed_rest (n ∷ ns) s c rest placed = placed.3

pub placed_item : (parts : List Bool) (l : Level) (i : Span) (d r : Level) → ArePlaced parts (join_level l (item i d r)) → ArePlaced parts (item i d end)
placed_item parts l i d r placed = placed_alone parts i d r (placed_from parts l i d r placed)

pub placed_right : (parts : List Bool) (l : Level) (i : Span) (d r : Level) → ArePlaced parts (join_level l (item i d r)) → ArePlaced parts r
placed_right parts l i d r placed = placed_rest parts i d r (placed_from parts l i d r placed)

pub placed_below : (parts : List Bool) (s : Span) (c rest : Level) → ArePlaced parts (item s c rest) → ArePlacedBelow parts c
placed_below [] s c rest placed = tt
placed_below (n ∷ ns) s c rest placed = placed.2

new_alone : (n : Bool) (ns : List Bool) (s : Span) (c : Level) → ArePlaced (n ∷ ns) (item s c end) → IsNew n ns s c
new_alone n ns s c placed = record { span = placed.0.span; from = placed.0.from; child = record { placed = placed.2; not_all = placed.1 } }

-- covering a level lays an item without a child over it
cover_lay : (parts : List Bool) (s : Span) (c l : Level) → c ≡ end → ArePlaced parts (item s c end) → ArePlaced parts l → covered s l ≡ either parts (item s c end) l
cover_lay [] s c l is alone placed = absurd alone
cover_lay (n ∷ ns) s end l is alone placed = covered_lay n ns s l placed (new_alone n ns s end alone)
cover_lay (n ∷ ns) s (item t d rest) l is alone placed = absurd (cc is)

pub parts_order : (parts : List Bool) (l : Level) → ArePlaced parts l → AreInOrder l
parts_order [] end placed = tt
parts_order [] (item s c rest) placed = absurd placed
parts_order (n ∷ ns) l placed = placed_order n ns l placed

-- nothing goes on below fewer than two parts but all
pub below_last : (parts below : List Bool) (n : Bool) (c d : Level) → parts ≡ n ∷ below → below ≡ [] → end ≡ union_below parts c d
below_last parts below n c d e f = sym (ap (λ p. union_below p c d) (e ∙ ap (λ x. n ∷ x) f))

pub below_none : (parts : List Bool) (c d : Level) → parts ≡ [] → end ≡ union_below parts c d
below_none parts c d e = sym (ap (λ p. union_below p c d) e)

no_length : (l : Level) → length_of l ≡ 0 → l ≡ end
no_length end e = refl
no_length (item s c rest) e = absurd (omega (arith, e))

either_end : (ns : List Bool) (c d : Level) → d ≡ end → end ≡ either_child ns c d
either_end [] c d e = refl
either_end (n ∷ ns) end d e = refl
either_end (n ∷ ns) (item s c rest) end e = refl
either_end (n ∷ ns) (item s c rest) (item t d more) e = absurd (cc e)

either_first : (ns : List Bool) (c d : Level) → c ≡ end → end ≡ either_child ns c d
either_first [] c d e = refl
either_first (n ∷ ns) end d e = refl
either_first (n ∷ ns) (item s c rest) d e = absurd (cc e)

-- all goes on below a child that holds all
pub below_first : (parts : List Bool) (c d : Level) → length_of c ≡ 0 → end ≡ union_below parts c d
below_first [] c d e = refl
below_first (n ∷ ns) c d e = either_first ns c d (no_length c e)

pub below_second : (parts : List Bool) (c d : Level) → length_of d ≡ 0 → end ≡ union_below parts c d
below_second [] c d e = refl
below_second (n ∷ ns) c d e = either_end ns c d (no_length d e)

either_some : (m : Bool) (ms : List Bool) (c d : Level) → (length_of c ≡ 0 → ⊥) → (length_of d ≡ 0 → ⊥) → cond (is_all m (lay_all (either_child ms) c d)) end (lay_all (either_child ms) c d) ≡ either_child (m ∷ ms) c d
either_some m ms end d some other = absurd (some refl)
either_some m ms (item s c rest) end some other = absurd (other refl)
either_some m ms (item s c rest) (item t d more) some other = refl

-- below two children that have items goes on the union of their levels, or all where that is all
pub below_some : (parts below ms : List Bool) (n m : Bool) (c d l : Level) → parts ≡ n ∷ below → below ≡ m ∷ ms → (length_of c ≡ 0 → ⊥) → (length_of d ≡ 0 → ⊥) → l ≡ either below c d → cond (is_all m l) end l ≡ union_below parts c d
below_some parts below ms n m c d l e f some other is =
    let laid : l ≡ lay_all (either_child ms) c d = is ∙ ap (λ p. either p c d) f in
    ap (λ x. cond (is_all m x) end x) laid
    ∙ either_some m ms c d some other
    ∙ sym (ap (λ p. union_below p c d) (e ∙ ap (λ x. n ∷ x) f))

and_end : (h : Bool) → h ≡ (h && (true && true))
and_end true = refl
and_end false = refl

whole_alone : (n : Bool) (s : Span) (c : Level) → length_of c ≡ 0 → is_whole_span n s ≡ is_all n (item s c end)
whole_alone n s end e = and_end (is_whole_span n s)
whole_alone n s (item t d rest) e = absurd (omega (arith, e))

-- one item without a child is all where it is whole
pub all_alone : (n : Bool) (l left c right : Level) (s : Span) → l ≡ join_level left (item s c right) → length_of left ≡ 0 → length_of right ≡ 0 → length_of c ≡ 0 → is_whole_span n s ≡ is_all n l
all_alone n l end c end s e no_left no_right no_child = whole_alone n s c no_child ∙ sym (ap (is_all n) e)
all_alone n l end c (item t d rest) s e no_left no_right no_child = absurd (omega (arith, no_right))
all_alone n l (item t d rest) c right s e no_left no_right no_child = absurd (omega (arith, no_left))

and_none : (a b : Bool) → b ≡ false → (a && b) ≡ false
and_none true b e = e
and_none false b e = refl

some_end : (l : Level) → (length_of l ≡ 0 → ⊥) → is_end l ≡ false
some_end end some = absurd (some refl)
some_end (item s c rest) some = refl

join_some : (l : Level) (s : Span) (c r : Level) → is_end (join_level l (item s c r)) ≡ false
join_some end s c r = refl
join_some (item t d l) s c r = refl

not_left : (n : Bool) (left c right : Level) (s : Span) → (length_of left ≡ 0 → ⊥) → is_all n (join_level left (item s c right)) ≡ false
not_left n end c right s some = absurd (some refl)
not_left n (item t d l) c right s some = and_none (is_whole_span n t) (is_end d && is_end (join_level l (item s c right))) (and_none (is_end d) (is_end (join_level l (item s c right))) (join_some l s c right))

not_right : (n : Bool) (left c right : Level) (s : Span) → (length_of right ≡ 0 → ⊥) → is_all n (join_level left (item s c right)) ≡ false
not_right n end c right s some = and_none (is_whole_span n s) (is_end c && is_end right) (and_none (is_end c) (is_end right) (some_end right some))
not_right n (item t d l) c right s some = and_none (is_whole_span n t) (is_end d && is_end (join_level l (item s c right))) (and_none (is_end d) (is_end (join_level l (item s c right))) (join_some l s c right))

and_first : (a b : Bool) → a ≡ false → (a && b) ≡ false
and_first true b e = absurd (cc e)
and_first false b e = refl

not_child : (n : Bool) (left c right : Level) (s : Span) → (length_of c ≡ 0 → ⊥) → is_all n (join_level left (item s c right)) ≡ false
not_child n end c right s some = and_none (is_whole_span n s) (is_end c && is_end right) (and_first (is_end c) (is_end right) (some_end c some))
not_child n (item t d l) c right s some = and_none (is_whole_span n t) (is_end d && is_end (join_level l (item s c right))) (and_none (is_end d) (is_end (join_level l (item s c right))) (join_some l s c right))

-- an item that has a child or a neighbour isn't all
pub all_not : (n : Bool) (l left c right : Level) (s : Span) → l ≡ join_level left (item s c right) → (length_of left ≡ 0 → length_of right ≡ 0 → length_of c ≡ 0 → ⊥) → false ≡ is_all n l
all_not n l end c end s e some = sym (ap (is_all n) e ∙ not_child n end c end s (λ h. some refl refl h))
all_not n l end c (item t d rest) s e some = sym (ap (is_all n) e ∙ not_right n end c (item t d rest) s (λ h. omega (arith, h)))
all_not n l (item t d rest) c right s e some = sym (ap (is_all n) e ∙ not_left n (item t d rest) c right s (λ h. omega (arith, h)))

first_of_list : (xs : List Bool) → 1 ≤ length xs → xs ≡ get_or xs 0 false ∷ drop 1 xs
first_of_list [] some = absurd (omega (arith, some))
first_of_list (x ∷ xs) some = refl

-- a list that isn't empty, as its first and the rest of it as a slice
pub first_and_rest : (xs : List Bool) → 1 ≤ length xs → xs ≡ get_or xs 0 false ∷ take (length xs - 1) (drop 1 xs)
first_and_rest xs some = first_of_list xs some ∙ ap (λ ys. get_or xs 0 false ∷ ys) (sym (take_all (length xs - 1) (drop 1 xs) (omega (arith, length-drop 1 xs))))

pub first_and_drop : (xs : List Bool) → 1 ≤ length xs → xs ≡ get_or xs 0 false ∷ drop 1 xs
first_and_drop xs some = first_of_list xs some

-- a test that a level is all decides what goes on below
pub all_below : (m : Bool) (l u : Level) (b : Bool) → b ≡ is_all m l → b ≡ true → cond (is_all m l) end l ≡ u → end ≡ u
all_below m l u b e so is = sym (ap (λ x. cond x end l) (sym e ∙ so)) ∙ is

pub some_below : (m : Bool) (l u : Level) (b : Bool) → b ≡ is_all m l → b ≡ false → cond (is_all m l) end l ≡ u → l ≡ u
some_below m l u b e not is = sym (ap (λ x. cond x end l) (sym e ∙ not)) ∙ is

no_end : (l : Level) → is_end l ≡ true → l ≡ end
no_end end e = refl
no_end (item s c rest) e = absurd (cc e)

is_end_none : (l : Level) → length_of l ≡ 0 → is_end l ≡ true
is_end_none end e = refl
is_end_none (item s c rest) e = absurd (omega (arith, e))

-- one item without a child, and one that has a child or a neighbour
pub bare_alone : (l left c right : Level) (s : Span) → l ≡ join_level left (item s c right) → length_of left ≡ 0 → length_of right ≡ 0 → length_of c ≡ 0 → true ≡ is_bare l
bare_alone l end c right s e no_left no_right no_child = sym (ap is_bare e ∙ ap₂ (λ x y. x && y) (is_end_none c no_child) (is_end_none right no_right))
bare_alone l (item t d rest) c right s e no_left no_right no_child = absurd (omega (arith, no_left))

bare_not_child : (c right : Level) → (length_of right ≡ 0 → length_of c ≡ 0 → ⊥) → (is_end c && is_end right) ≡ false
bare_not_child end end some = absurd (some refl refl)
bare_not_child end (item t d rest) some = refl
bare_not_child (item s c rest) right some = refl

pub bare_not : (l left c right : Level) (s : Span) → l ≡ join_level left (item s c right) → (length_of left ≡ 0 → length_of right ≡ 0 → length_of c ≡ 0 → ⊥) → false ≡ is_bare l
bare_not l end c right s e some = sym (ap is_bare e ∙ bare_not_child c right (λ a b. some refl a b))
bare_not l (item t d rest) c right s e some = sym (ap is_bare e ∙ and_none (is_end d) (is_end (join_level rest (item s c right))) (join_some rest s c right))

both_true : (a b : Bool) → (a && b) ≡ true → (a ≡ true) × (b ≡ true)
both_true true b e = (refl, e)
both_true false b e = absurd (cc e)

-- laying the item of a level that has no other, and no child
pub bare_opened : (left c right x : Level) (s : Span) → is_bare (join_level left (item s c right)) ≡ true → covered s x ≡ covered_by (join_level left (item s c right)) x
bare_opened end c right x s e = refl
bare_opened (item t d rest) c right x s e = absurd (cc (sym (and_none (is_end d) (is_end (join_level rest (item s c right))) (join_some rest s c right)) ∙ e))

bare_cover : (parts : List Bool) (g : Level) (s : Span) (c rest : Level) → c ≡ end → rest ≡ end → ArePlaced parts g → ArePlaced parts (item s c rest) → covered s g ≡ either parts g (item s c rest)
bare_cover parts g s end end e f first second = cover_lay parts s end g refl second first ∙ sym (either_turn parts g (item s end end) first second)
bare_cover parts g s end (item u x more) e f first second = absurd (cc f)
bare_cover parts g s (item t d more) rest e f first second = absurd (cc e)

pub bare_lay : (parts : List Bool) (g h : Level) → is_bare h ≡ true → ArePlaced parts g → ArePlaced parts h → covered_by h g ≡ either parts g h
bare_lay parts g end e first second = absurd (cc e)
bare_lay parts g (item s c rest) e first second =
    let ends = both_true (is_end c) (is_end rest) e in
    bare_cover parts g s c rest (no_end c ends.0) (no_end rest ends.1) first second

-- a level that isn't all stands, and one that is all leaves nothing to say
pub all_unless : (parts : List Bool) (n : Bool) (ns : List Bool) (l : Level) (b : Bool) → parts ≡ n ∷ ns → b ≡ is_all n l → b ≡ true → end ≡ unless_all parts l
all_unless parts n ns l b is e so = sym (ap (λ p. unless_all p l) is ∙ ap (λ x. cond x end l) (sym e ∙ so))

pub some_unless : (parts : List Bool) (n : Bool) (ns : List Bool) (l : Level) (b : Bool) → parts ≡ n ∷ ns → b ≡ is_all n l → b ≡ false → l ≡ unless_all parts l
some_unless parts n ns l b is e not = sym (ap (λ p. unless_all p l) is ∙ ap (λ x. cond x end l) (sym e ∙ not))

pub none_unless : (parts : List Bool) (l : Level) → parts ≡ [] → end ≡ unless_all parts l
none_unless parts l is = sym (ap (λ p. unless_all p l) is)
