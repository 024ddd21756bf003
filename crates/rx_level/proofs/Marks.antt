-- Marks of the nodes that a link leads to.
use Rattle.std.proofs.Common.{◌≡◌, ◌+◌, ◌<◌, ◌≤◌, ◌⊎◌, inl, inr, arith, ℕ, zero, suc, Bool, true, false, List, [], ◌∷◌, length, get_or, set, replicate, Option, Some, None, IsSome, refl, ap, sym, ◌∙◌, subst}
use Rattle.std.specs.List.{count_by}
use Rattle.std.proofs.lemmas.Bool.Decides.{eqb_tells}
use Rattle.std.proofs.lemmas.List.{length-set, get_or-set_same, get_or-set_other}
use Rattle.slab.specs.Slab.{Slab, get}
use Rattle.rx_level.specs.declared.nodes.Node.{Node}
use Rattle.rx_level.specs.Store.{leads, links_in, IsThere, IsSound, rank_of, rank_in}
use Rattle.rx_level.specs.Under.{IsUnder, IsMarked, IsClosed, IsMarking, IsNumberUnder}
use Rattle.rx_level.specs.Under.IsUnder.{here, below}
use Rattle.rx_level.proofs.Counts.{slot, leads_same}
use Rattle.rx_level.proofs.Unfolding.{link_there}
use Rattle.rx_level.proofs.Reach.{led}

pub marking_none : (s : Slab Node) (r : Option ℕ) (marks : List Bool) → IsClosed s marks → r ≡ None → IsMarking s r marks marks
marking_none s r marks closed is = record {
  long = refl;
  closed = closed;
  kept = λ m h. h;
  found = λ m e there. absurd (cc (is, e));
  only = λ m h. inl h;
}

some_number : (k m : ℕ) → Some k ≡ Some m → k ≡ m
some_number k m e = cc e

pub marking_absent : (s : Slab Node) (r : Option ℕ) (k : ℕ) (marks : List Bool) → IsClosed s marks → r ≡ Some k → get s k ≡ None → IsMarking s r marks marks
marking_absent s r k marks closed is gone = record {
  long = refl;
  closed = closed;
  kept = λ m h. h;
  found = λ m e there. absurd (cc (ap (get s) (some_number k m (sym is ∙ e)), gone, there));
  only = λ m h. inl h;
}

pub marking_marked : (s : Slab Node) (r : Option ℕ) (k : ℕ) (marks : List Bool) → IsClosed s marks → r ≡ Some k → IsMarked marks k → IsMarking s r marks marks
marking_marked s r k marks closed is marked = record {
  long = refl;
  closed = closed;
  kept = λ m h. h;
  found = λ m e there. subst (λ (x : ℕ). IsMarked marks x) (some_number k m (sym is ∙ e)) marked;
  only = λ m h. inl h;
}

marked_set : (marks : List Bool) (k m : ℕ) → k < length marks → IsMarked marks m → IsMarked (set marks k true) m
marked_set marks k m within h = elim (eqb_tells m k) [
  | inl e ↦ subst (λ (x : ℕ). IsMarked (set marks k true) x) (sym e.1) (get_or-set_same marks k true false within)
  | inr e ↦ get_or-set_other marks k m true false e.1 ∙ h
]

-- what is under a link of a node is under the node
pub under_down : (s : Slab Node) (r q : Option ℕ) (k : ℕ) → IsUnder s r k → ((m : ℕ) → leads m q ≤ links_in m (get s k)) → (m : ℕ) → IsUnder s q m → IsUnder s r m
under_down s r q k top among m (here m' e there) =
    below m' k top (omega (arith, among m', ap (leads m') e, leads_same m'))
under_down s r q k top among m (below m' k' u to) = below m' k' (under_down s r q k top among k' u) to

-- a link of a node leads to a node
target_there : (s : Slab Node) → IsSound s [] → (k : ℕ) (q : Option ℕ) → ((m : ℕ) → leads m q ≤ links_in m (get s k)) → (m : ℕ) → q ≡ Some m → IsSome (get s m)
target_there s sound k q among m is = subst (λ (x : Option ℕ). IsThere s x) is (link_there s None [] sound k q among)

-- the marks of a node's three links, one after another
record Three (s : Slab Node) (c l r : Option ℕ) (m0 m3 : List Bool) : Type 0 where
  long : length m3 ≡ length m0
  closed : IsClosed s m3
  kept : (m : ℕ) → IsMarked m0 m → IsMarked m3 m
  child : (m : ℕ) → c ≡ Some m → IsSome (get s m) → IsMarked m3 m
  left : (m : ℕ) → l ≡ Some m → IsSome (get s m) → IsMarked m3 m
  right : (m : ℕ) → r ≡ Some m → IsSome (get s m) → IsMarked m3 m

three : (s : Slab Node) (c l r : Option ℕ) (m0 m1 m2 m3 : List Bool) → IsMarking s c m0 m1 → IsMarking s l m1 m2 → IsMarking s r m2 m3 → Three s c l r m0 m3
three s c l r m0 m1 m2 m3 one two last = record {
  long = last.long ∙ two.long ∙ one.long;
  closed = last.closed;
  kept = λ m h. last.kept m (two.kept m (one.kept m h));
  child = λ m e there. last.kept m (two.kept m (one.found m e there));
  left = λ m e there. last.kept m (two.found m e there);
  right = λ m e there. last.found m e there;
}

-- a node that has a link to m has one of its three there
links_marked : (s : Slab Node) → IsSound s [] → (k : ℕ) (c l r : Option ℕ) (m0 m3 : List Bool) → ((m : ℕ) → links_in m (get s k) ≡ leads m c + leads m l + leads m r) → Three s c l r m0 m3 → (m : ℕ) → 0 < links_in m (get s k) → IsMarked m3 m
links_marked s sound k c l r m0 m3 inside t m to = elim (eqb_tells (leads m c) 0) [
  | inr e ↦ let is = led m c (omega (arith, e.1)) in t.child m is (target_there s sound k c (λ x. omega (arith, inside x)) m is)
  | inl e ↦ elim (eqb_tells (leads m l) 0) [
    | inr d ↦ let is = led m l (omega (arith, d.1)) in t.left m is (target_there s sound k l (λ x. omega (arith, inside x)) m is)
    | inl d ↦ let is = led m r (omega (arith, e.1, d.1, inside m, to)) in t.right m is (target_there s sound k r (λ x. omega (arith, inside x)) m is)
  ]
]

marks_from : (s : Slab Node) (root : Option ℕ) (k : ℕ) (c l r : Option ℕ) (m0 m1 m2 m3 : List Bool) → IsUnder s root k
    → ((m : ℕ) → links_in m (get s k) ≡ leads m c + leads m l + leads m r)
    → IsMarking s c m0 m1 → IsMarking s l m1 m2 → IsMarking s r m2 m3 → (m : ℕ) → IsMarked m3 m → IsMarked m0 m ⊎ IsUnder s root m
marks_from s root k c l r m0 m1 m2 m3 top inside one two last m h = elim (last.only m h) [
  | inr u ↦ inr (under_down s root r k top (λ x. omega (arith, inside x)) m u)
  | inl h2 ↦ elim (two.only m h2) [
    | inr u ↦ inr (under_down s root l k top (λ x. omega (arith, inside x)) m u)
    | inl h1 ↦ elim (one.only m h1) [
      | inr u ↦ inr (under_down s root c k top (λ x. omega (arith, inside x)) m u)
      | inl h0 ↦ inl h0
    ]
  ]
]

pub marking_whole : (s : Slab Node) → IsSound s [] → (root : Option ℕ) (k : ℕ) (v : Node) (m0 m1 m2 m3 : List Bool)
    → root ≡ Some k → get s k ≡ Some v
    → IsMarking s v.child m0 m1 → IsMarking s v.left m1 m2 → IsMarking s v.right m2 m3
    → k < length m3 → IsMarking s root m0 (set m3 k true)
marking_whole s sound root k v m0 m1 m2 m3 is there one two last within =
    let inside : (m : ℕ) → links_in m (get s k) ≡ leads m v.child + leads m v.left + leads m v.right = (λ m. ap (links_in m) there) in
    let top : IsUnder s root k = here k is (cc there) in
    let t = three s v.child v.left v.right m0 m1 m2 m3 one two last in
    let own : IsMarked (set m3 k true) k = get_or-set_same m3 k true false within in
    record {
      long = length-set m3 k true ∙ t.long;
      closed = λ a m marked to. elim (eqb_tells a k) [
        | inl e ↦ marked_set m3 k m within (links_marked s sound k v.child v.left v.right m0 m3 inside t m (subst (λ (x : ℕ). 0 < links_in m (get s x)) e.1 to))
        | inr e ↦ marked_set m3 k m within (t.closed a m (sym (get_or-set_other m3 k a true false e.1) ∙ marked) to)
      ];
      kept = λ m h. marked_set m3 k m within (t.kept m h);
      found = λ m e at_m. subst (λ (x : ℕ). IsMarked (set m3 k true) x) (some_number k m (sym is ∙ e)) own;
      only = λ m h. elim (eqb_tells m k) [
        | inl e ↦ inr (subst (λ (x : ℕ). IsUnder s root x) (sym e.1) top)
        | inr e ↦ marks_from s root k v.child v.left v.right m0 m1 m2 m3 top inside one two last m (sym (get_or-set_other m3 k m true false e.1) ∙ h)
      ];
    }

pub unmarked : (n i : ℕ) → get_or (replicate n false) i false ≡ false
unmarked zero i = refl
unmarked (suc n) zero = refl
unmarked (suc n) (suc i) = unmarked n i

pub no_marks : (s : Slab Node) (marks : List Bool) → ((m : ℕ) → get_or marks m false ≡ false) → IsClosed s marks
no_marks s marks none k m marked to = absurd (cc (marked, none k))

under_marked : (s : Slab Node) (r : Option ℕ) (old new : List Bool) → IsMarking s r old new → (m : ℕ) → IsUnder s r m → IsMarked new m
under_marked s r old new marking m (here m' e there) = marking.found m' e there
under_marked s r old new marking m (below m' k u to) = marking.closed k m' (under_marked s r old new marking k u) to

pub numbered : (s : Slab Node) (r : Option ℕ) (count : ℕ) (old marks : List Bool) → ((m : ℕ) → get_or old m false ≡ false) → IsMarking s r old marks → count ≡ count_by (λ marked. marked) marks → IsNumberUnder s r count
numbered s r count old marks none marking number = record {
  marks = marks;
  exact = λ m. ((λ h. elim (marking.only m h) [ inl before ↦ absurd (cc (before, none m)) | inr u ↦ u ]), under_marked s r old marks marking m);
  number = number;
}

-- the links of a node have lower ranks than a link to it
pub record LowerRanks (s : Slab Node) (root c l r : Option ℕ) : Type 0 where
  pub child : rank_of s c < rank_of s root
  pub left : rank_of s l < rank_of s root
  pub right : rank_of s r < rank_of s root

pub lower_ranks : (s : Slab Node) → IsSound s [] → (root : Option ℕ) (k : ℕ) (v : Node) → root ≡ Some k → get s k ≡ Some v → LowerRanks s root v.child v.left v.right
lower_ranks s sound root k v is there =
    let shape = sound.shaped k v there in
    let rank : rank_of s root ≡ v.rank = ap (rank_of s) is ∙ ap rank_in there in
    record { child = omega (arith, shape.child, rank); left = omega (arith, shape.left, rank); right = omega (arith, shape.right, rank) }

slot_within : (xs : List (Option Node)) (k : ℕ) (v : Node) → slot xs k ≡ Some v → k < length xs
slot_within [] k v is = absurd (cc is)
slot_within (x ∷ xs) zero v is = omega arith
slot_within (x ∷ xs) (suc k) v is = omega (arith, slot_within xs k v is)

-- the number of a node is below that of its slots
pub within_slots : (s : Slab Node) (k : ℕ) (v : Node) → get s k ≡ Some v → k < length s.slots
within_slots s k v is = slot_within s.slots k v is
