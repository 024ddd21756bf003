-- How the links of a store follow a change of one node.
use Rattle.std.proofs.Common.{◌≡◌, ◌≢◌, ◌+◌, ◌<◌, ◌≤◌, inl, inr, sum_by, slice_index_or, arith, ℕ, zero, suc, List, [], ◌∷◌, Option, Some, None, IsSome, refl, ap, sym, ◌∙◌, subst}
use Rattle.std.proofs.lemmas.List.Sums.{sum_by-cons}
use Rattle.std.proofs.lemmas.Bool.Decides.{eqb_tells}
use Rattle.slab.specs.Slab.{Slab, get, Updates}
use Rattle.rx_level.specs.declared.nodes.Node.{Node}
use Rattle.rx_level.specs.Store.{leads, links_in, links_to, owed, linked_in, held_in, rank_in, height_in, count_in, size_in, part_in, at, held_of, rank_of, height_of, count_of, size_of, part_of, IsAt, bare, IsShaped, IsNearly, IsSound}

abbrev pub slot : List (Option Node) → ℕ → Option Node
slot xs k = slice_index_or xs k None

pub sum_none : (f : Option Node → ℕ) → f None ≡ 0 → (ys : List (Option Node)) → ((k : ℕ) → slot ys k ≡ None) → sum_by f ys ≡ 0
sum_none f zero_at [] gone = refl
sum_none f zero_at (y ∷ ys) gone =
    let first : f y ≡ 0 = ap f (gone 0) ∙ zero_at in
    let rest : sum_by f ys ≡ 0 = sum_none f zero_at ys (λ k. gone (suc k)) in
    omega (arith, sum_by-cons f y ys, first, rest)

pub sum_same : (f : Option Node → ℕ) → f None ≡ 0 → (xs ys : List (Option Node)) → ((k : ℕ) → slot ys k ≡ slot xs k) → sum_by f ys ≡ sum_by f xs
sum_same f zero_at [] ys same = sum_none f zero_at ys same
sum_same f zero_at (x ∷ xs) [] same = sym (sum_none f zero_at (x ∷ xs) (λ k. sym (same k)))
sum_same f zero_at (x ∷ xs) (y ∷ ys) same =
    let first : f y ≡ f x = ap f (same 0) in
    let rest : sum_by f ys ≡ sum_by f xs = sum_same f zero_at xs ys (λ k. same (suc k)) in
    omega (arith, sum_by-cons f x xs, sum_by-cons f y ys, first, rest)

-- where all slots but one are the same, the sums differ by that slot
pub sum_change : (f : Option Node → ℕ) → f None ≡ 0 → (xs ys : List (Option Node)) (key : ℕ) → ((k : ℕ) → k ≢ key → slot ys k ≡ slot xs k) → sum_by f ys + f (slot xs key) ≡ sum_by f xs + f (slot ys key)
sum_change f zero_at [] [] key same = refl
sum_change f zero_at [] (y ∷ ys) zero same =
    let rest : sum_by f ys ≡ 0 = sum_none f zero_at ys (λ k. same (suc k) (λ e. cc e)) in
    omega (arith, sum_by-cons f y ys, rest, zero_at)
sum_change f zero_at [] (y ∷ ys) (suc key) same =
    let first : f y ≡ 0 = ap f (same 0 (λ e. cc e)) ∙ zero_at in
    let rest : sum_by f ys + f None ≡ 0 + f (slot ys key) = sum_change f zero_at [] ys key (λ k other. same (suc k) (λ e. other (cc e))) in
    omega (arith, sum_by-cons f y ys, first, rest)
sum_change f zero_at (x ∷ xs) [] zero same =
    let rest : sum_by f xs ≡ 0 = sum_none f zero_at xs (λ k. sym (same (suc k) (λ e. cc e))) in
    omega (arith, sum_by-cons f x xs, rest, zero_at)
sum_change f zero_at (x ∷ xs) [] (suc key) same =
    let first : f x ≡ 0 = ap f (sym (same 0 (λ e. cc e))) ∙ zero_at in
    let rest : 0 + f (slot xs key) ≡ sum_by f xs + f None = sum_change f zero_at xs [] key (λ k other. same (suc k) (λ e. other (cc e))) in
    omega (arith, sum_by-cons f x xs, first, rest)
sum_change f zero_at (x ∷ xs) (y ∷ ys) zero same =
    let rest : sum_by f ys ≡ sum_by f xs = sum_same f zero_at xs ys (λ k. same (suc k) (λ e. cc e)) in
    omega (arith, sum_by-cons f x xs, sum_by-cons f y ys, rest)
sum_change f zero_at (x ∷ xs) (y ∷ ys) (suc key) same =
    let first : f y ≡ f x = ap f (same 0 (λ e. cc e)) in
    let rest : sum_by f ys + f (slot xs key) ≡ sum_by f xs + f (slot ys key) = sum_change f zero_at xs ys key (λ k other. same (suc k) (λ e. other (cc e))) in
    omega (arith, sum_by-cons f x xs, sum_by-cons f y ys, first, rest)

-- a slot's links are among all
pub slot-le-sum : (f : Option Node → ℕ) → f None ≡ 0 → (xs : List (Option Node)) (k : ℕ) → f (slot xs k) ≤ sum_by f xs
slot-le-sum f zero_at [] k = omega (arith, zero_at)
slot-le-sum f zero_at (x ∷ xs) zero = omega (arith, sum_by-cons f x xs)
slot-le-sum f zero_at (x ∷ xs) (suc k) = omega (arith, sum_by-cons f x xs, slot-le-sum f zero_at xs k)

pub links_in-le : (s : Slab Node) (m k : ℕ) → links_in m (get s k) ≤ links_to s m
links_in-le s m k = slot-le-sum (links_in m) refl s.slots k

pub links_to-updates : (old new : Slab Node) (key : ℕ) (slot_now : Option Node) → Updates old new key slot_now → (m : ℕ) → links_to new m + links_in m (get old key) ≡ links_to old m + links_in m slot_now
links_to-updates old new key slot_now u m =
    let e : links_in m (get new key) ≡ links_in m slot_now = ap (links_in m) u.changed in
    omega (arith, e, sum_change (links_in m) refl old.slots new.slots key u.others)

led_self : (key k : ℕ) → k ≡ key → leads key (Some k) ≡ 0 → ⊥
led_self key k e h = absurd (grind (arith, e, h))

-- a node that no link of this one leads to
leads_other : (key : ℕ) (r : Option ℕ) → leads key r ≡ 0 → (old new : Slab Node) → ((k : ℕ) → k ≢ key → get new k ≡ get old k) → at new r ≡ at old r
leads_other key None h old new same = refl
leads_other key (Some k) h old new same = same k (λ e. led_self key k e h)

pub rank-bare : (o : Option Node) → rank_in (bare o) ≡ rank_in o
rank-bare None = refl
rank-bare (Some v) = refl

pub height-bare : (o : Option Node) → height_in (bare o) ≡ height_in o
height-bare None = refl
height-bare (Some v) = refl

pub count-bare : (o : Option Node) → count_in (bare o) ≡ count_in o
count-bare None = refl
count-bare (Some v) = refl

pub size-bare : (o : Option Node) → size_in (bare o) ≡ size_in o
size-bare None = refl
size-bare (Some v) = refl

pub part-bare : (o : Option Node) → part_in (bare o) ≡ part_in o
part-bare None = refl
part-bare (Some v) = refl

-- a link leads to the same node, but for its counts
pub record LeadsAlike (old new : Slab Node) (r : Option ℕ) : Type 0 where
  pub same : bare (at new r) ≡ bare (at old r)

pub alike : (old new : Slab Node) (r : Option ℕ) → at new r ≡ at old r → LeadsAlike old new r
alike old new r e = record { same = ap bare e }

pub alike_rank : (old new : Slab Node) (r : Option ℕ) → LeadsAlike old new r → rank_of new r ≡ rank_of old r
alike_rank old new r h = sym (rank-bare (at new r)) ∙ ap rank_in h.same ∙ rank-bare (at old r)

pub alike_height : (old new : Slab Node) (r : Option ℕ) → LeadsAlike old new r → height_of new r ≡ height_of old r
alike_height old new r h = sym (height-bare (at new r)) ∙ ap height_in h.same ∙ height-bare (at old r)

pub alike_count : (old new : Slab Node) (r : Option ℕ) → LeadsAlike old new r → count_of new r ≡ count_of old r
alike_count old new r h = sym (count-bare (at new r)) ∙ ap count_in h.same ∙ count-bare (at old r)

pub alike_size : (old new : Slab Node) (r : Option ℕ) → LeadsAlike old new r → size_of new r ≡ size_of old r
alike_size old new r h = sym (size-bare (at new r)) ∙ ap size_in h.same ∙ size-bare (at old r)

pub alike_part : (old new : Slab Node) (r : Option ℕ) → LeadsAlike old new r → part_of new r ≡ part_of old r
alike_part old new r h = sym (part-bare (at new r)) ∙ ap part_in h.same ∙ part-bare (at old r)

IsAt-same : (old new : Slab Node) (p : ℕ) (r : Option ℕ) → LeadsAlike old new r → IsAt old p r → IsAt new p r
IsAt-same old new p None e h = tt
IsAt-same old new p (Some k) e h = alike_part old new (Some k) e ∙ h

-- a node's shape depends on what its links lead to
pub IsShaped-same : (old new : Slab Node) (v : Node) → LeadsAlike old new v.child → LeadsAlike old new v.left → LeadsAlike old new v.right → IsShaped old v → IsShaped new v
IsShaped-same old new v ec el er h = record {
  child = rw (alike_rank old new v.child ec) h.child;
  left = rw (alike_rank old new v.left el) h.left;
  right = rw (alike_rank old new v.right er) h.right;
  near = rw (alike_height old new v.left el, alike_height old new v.right er) h.near;
  height = h.height ∙ (rw (alike_height old new v.left el, alike_height old new v.right er) refl);
  count = h.count ∙ omega (arith, alike_count old new v.left el, alike_count old new v.right er);
  size = h.size ∙ omega (arith, alike_size old new v.child ec, alike_size old new v.left el, alike_size old new v.right er);
  below = IsAt-same old new (v.part + 1) v.child ec h.below;
  before = IsAt-same old new v.part v.left el h.before;
  after = IsAt-same old new v.part v.right er h.after;
}

pub leads_unlike : (m key : ℕ) → m ≢ key → leads m (Some key) ≡ 0
leads_unlike m key other = let h : key ≢ m = (λ e. other (sym e)) in grind (arith, h)

pub leads_same : (m : ℕ) → leads m (Some m) ≡ 1
leads_same m = grind arith

-- a node goes that nothing uses, and its links are owed
pub settled : (old new : Slab Node) (key : ℕ) (v : Node) → get old key ≡ Some v → v.links ≡ 0 → v.held ≡ 0 → Updates old new key None → (rest : List (Option ℕ)) → IsNearly old (Some key) rest → IsSound new (v.child ∷ v.left ∷ v.right ∷ rest)
settled old new key v is no_links not_held u rest h =
    let count = links_to-updates old new key None u in
    let inside : (m : ℕ) → links_in m (get old key) ≡ leads m v.child + leads m v.left + leads m v.right = (λ m. ap (links_in m) is) in
    let free : links_to old key + owed key rest ≡ 0 = sym (h.links key) ∙ ap linked_in is ∙ no_links in
    let at_key : linked_in (get new key) ≡ links_to new key + owed key (v.child ∷ v.left ∷ v.right ∷ rest) =
    omega (arith, free, inside key, count key, links_in-le old key key, ap linked_in u.changed) in
    record {
      links = λ m. elim (eqb_tells m key) [
        | inl e ↦ subst (λ (x : ℕ). linked_in (get new x) ≡ links_to new x + owed x (v.child ∷ v.left ∷ v.right ∷ rest)) (sym e.1) at_key
        | inr e ↦ omega (arith, h.links m, count m, inside m, ap linked_in (u.others m e.1))
      ];
      used = λ m there. elim (eqb_tells m key) [
        | inl e ↦ absurd (cc (e.1, there, u.changed))
        | inr e ↦ rw (u.others m e.1) (omega (arith, h.used m (rw (u.others m e.1) at there), leads_unlike m key e.1))
      ];
      shaped = λ m w here. elim (eqb_tells m key) [
        | inl e ↦ absurd (cc (e.1, here, u.changed))
        | inr e ↦
            let was : get old m ≡ Some w = sym (u.others m e.1) ∙ here in
            let none_leads : leads key w.child + leads key w.left + leads key w.right ≡ 0 = omega (arith, free, links_in-le old key m, ap (links_in key) was) in
            IsShaped-same old new w
            (alike old new w.child (leads_other key w.child (omega (arith, none_leads)) old new u.others))
            (alike old new w.left (leads_other key w.left (omega (arith, none_leads)) old new u.others))
            (alike old new w.right (leads_other key w.right (omega (arith, none_leads)) old new u.others))
            (h.shaped m w was)
      ];
    }

recounted_alike : (old new : Slab Node) (key : ℕ) (v w : Node) → get old key ≡ Some v → bare (Some w) ≡ bare (Some v) → Updates old new key (Some w) → (r : Option ℕ) → LeadsAlike old new r
recounted_alike old new key v w is e u None = record { same = refl }
recounted_alike old new key v w is e u (Some k) = elim (eqb_tells k key) [
  | inl s ↦ record { same = subst (λ (x : ℕ). bare (get new x) ≡ bare (get old x)) (sym s.1) (ap bare u.changed ∙ e ∙ sym (ap bare is)) }
  | inr s ↦ record { same = ap bare (u.others k s.1) }
]

IsShaped-count : (s : Slab Node) (v : Node) (links held : ℕ) → IsShaped s v → IsShaped s (record v { links = links; held = held })
IsShaped-count s v links held h = record { child = h.child; left = h.left; right = h.right; near = h.near; height = h.height; count = h.count; size = h.size; below = h.below; before = h.before; after = h.after }

IsShaped-some : (old new : Slab Node) (w x : Node) → Some w ≡ Some x → ((r : Option ℕ) → LeadsAlike old new r) → IsShaped old w → IsShaped new x
IsShaped-some old new w x e same h =
    let is : w ≡ x = cc in
    subst (λ (y : Node). IsShaped new y) is (IsShaped-same old new w (same w.child) (same w.left) (same w.right) h)

kept_used : (o : Option Node) → IsSome o → ((v : Node) → o ≡ Some v → 0 < v.links + v.held) → 0 < held_in o + linked_in o + 0
kept_used None there uses = cc there
kept_used (Some v) there uses = omega (arith, uses v refl)

-- a node that is used keeps its place
pub kept : (s : Slab Node) (key : ℕ) (rest : List (Option ℕ)) → ((v : Node) → get s key ≡ Some v → 0 < v.links + v.held) → IsNearly s (Some key) rest → IsSound s rest
kept s key rest uses h = record {
  links = h.links;
  used = λ m there. elim (eqb_tells m key) [
    | inl e ↦ subst (λ (x : ℕ). 0 < held_of s x + linked_in (get s x) + 0) (sym e.1) (kept_used (get s key) (subst (λ (x : ℕ). IsSome (get s x)) e.1 there) uses)
    | inr e ↦ omega (arith, h.used m there, leads_unlike m key e.1)
  ];
  shaped = h.shaped;
}

-- no link is owed
pub owed_none : (s : Slab Node) (spare : Option ℕ) (rest : List (Option ℕ)) → IsNearly s spare (None ∷ rest) → IsNearly s spare rest
owed_none s spare rest h = record { links = λ m. omega (arith, h.links m); used = h.used; shaped = h.shaped }

-- one node's counts change
pub recounted : (old new : Slab Node) (key : ℕ) (v : Node) (links held : ℕ) → get old key ≡ Some v → Updates old new key (Some (record v { links = links; held = held })) → (spare spare' : Option ℕ) (rest rest' : List (Option ℕ)) → links + owed key rest ≡ v.links + owed key rest' → ((m : ℕ) → m ≢ key → owed m rest' ≡ owed m rest) → 0 < held + links + leads key spare' → ((m : ℕ) → m ≢ key → leads m spare ≤ leads m spare') → IsNearly old spare rest → IsNearly new spare' rest'
recounted old new key v links held is u spare spare' rest rest' here others uses spares h =
    let w : Node = record v { links = links; held = held } in
    let count : (m : ℕ) → links_to new m + links_in m (get old key) ≡ links_to old m + links_in m (Some w) = links_to-updates old new key (Some w) u in
    let inside : (m : ℕ) → links_in m (get old key) ≡ links_in m (Some w) = (λ m. ap (links_in m) is) in
    let at_key : linked_in (get new key) ≡ links_to new key + owed key rest' =
    omega (arith, h.links key, ap linked_in is, ap linked_in u.changed, count key, inside key, here) in
    let used_key : 0 < held_of new key + linked_in (get new key) + leads key spare' = omega (arith, ap held_in u.changed, ap linked_in u.changed, uses) in
    let same : (r : Option ℕ) → LeadsAlike old new r = recounted_alike old new key v w is refl u in
    record {
      links = λ m. elim (eqb_tells m key) [
        | inl e ↦ subst (λ (x : ℕ). linked_in (get new x) ≡ links_to new x + owed x rest') (sym e.1) at_key
        | inr e ↦ omega (arith, h.links m, count m, inside m, ap linked_in (u.others m e.1), others m e.1)
      ];
      used = λ m there. elim (eqb_tells m key) [
        | inl e ↦ subst (λ (x : ℕ). 0 < held_of new x + linked_in (get new x) + leads x spare') (sym e.1) used_key
        | inr e ↦ rw (u.others m e.1) (omega (arith, h.used m (rw (u.others m e.1) at there), spares m e.1))
      ];
      shaped = λ m x here. elim (eqb_tells m key) [
        | inl e ↦
            let now : get new key ≡ Some x = subst (λ (y : ℕ). get new y ≡ Some x) e.1 here in
            let is_w : Some w ≡ Some x = sym u.changed ∙ now in
            IsShaped-some old new w x is_w same (IsShaped-count old v links held (h.shaped key v is))
        | inr e ↦ IsShaped-same old new x (same x.child) (same x.left) (same x.right) (h.shaped m x (sym (u.others m e.1) ∙ here))
      ];
    }

-- the node is there, as its counts are those read
pub record HasCounts (s : Slab Node) (key links held : ℕ) : Type 0 where
  pub node : Node
  pub is : get s key ≡ Some node
  pub links_are : node.links ≡ links
  pub held_are : node.held ≡ held

pub has_counts : (s : Slab Node) (key links held : ℕ) (o : Option Node) → get s key ≡ o → linked_in o ≡ links → held_in o ≡ held → 0 < links + held → HasCounts s key links held
has_counts s key links held None is l h some = absurd (omega (arith, l, h, some))
has_counts s key links held (Some v) is l h some = record { node = v; is = is; links_are = l; held_are = h }

pub lowered : (old new : Slab Node) (key links held : ℕ) → links + 1 ≡ linked_in (get old key) → held ≡ held_of old key → ((v : Node) → get old key ≡ Some v → Updates old new key (Some (record v { links = links; held = held }))) → (rest : List (Option ℕ)) → IsSound old (Some key ∷ rest) → IsNearly new (Some key) rest
lowered old new key links held l h u rest sound =
    let there : HasCounts old key (links + 1) held = has_counts old key (links + 1) held (get old key) refl (sym l) (sym h) (omega arith) in
    recounted old new key there.node links held there.is (u there.node there.is) None (Some key) (Some key ∷ rest) rest
    (omega (arith, there.links_are, leads_same key))
    (λ m other. omega (arith, leads_unlike m key other))
    (omega (arith, leads_same key))
    (λ m other. omega arith)
    sound

pub lowered_held : (old new : Slab Node) (key links held : ℕ) → links ≡ linked_in (get old key) → held + 1 ≡ held_of old key → ((v : Node) → get old key ≡ Some v → Updates old new key (Some (record v { links = links; held = held }))) → (rest : List (Option ℕ)) → IsSound old rest → IsNearly new (Some key) rest
lowered_held old new key links held l h u rest sound =
    let there : HasCounts old key links (held + 1) = has_counts old key links (held + 1) (get old key) refl (sym l) (sym h) (omega arith) in
    recounted old new key there.node links held there.is (u there.node there.is) None (Some key) rest rest
    (omega (arith, there.links_are))
    (λ m other. refl)
    (omega (arith, leads_same key))
    (λ m other. omega arith)
    sound

pub has_node : (s : Slab Node) (key : ℕ) (o : Option Node) → get s key ≡ o → IsSome o → HasCounts s key (linked_in o) (held_in o)
has_node s key None is there = cc there
has_node s key (Some v) is there = record { node = v; is = is; links_are = refl; held_are = refl }

pub raised_held : (old new : Slab Node) (key links held : ℕ) → IsSome (get old key) → links ≡ linked_in (get old key) → held ≡ held_of old key + 1 → ((v : Node) → get old key ≡ Some v → Updates old new key (Some (record v { links = links; held = held }))) → (rest : List (Option ℕ)) → IsSound old rest → IsSound new rest
raised_held old new key links held some l h u rest sound =
    let there : HasCounts old key (linked_in (get old key)) (held_in (get old key)) = has_node old key (get old key) refl some in
    recounted old new key there.node links held there.is (u there.node there.is) None None rest rest
    (omega (arith, there.links_are, l))
    (λ m other. refl)
    (omega (arith, h))
    (λ m other. omega arith)
    sound

pub turned : (old new : Slab Node) (key links held : ℕ) → links ≡ linked_in (get old key) + 1 → held + 1 ≡ held_of old key → ((v : Node) → get old key ≡ Some v → Updates old new key (Some (record v { links = links; held = held }))) → (rest : List (Option ℕ)) → IsSound old rest → IsSound new (Some key ∷ rest)
turned old new key links held l h u rest sound =
    let there : HasCounts old key (linked_in (get old key)) (held + 1) = has_counts old key (linked_in (get old key)) (held + 1) (get old key) refl refl (sym h) (omega arith) in
    recounted old new key there.node links held there.is (u there.node there.is) None None rest (Some key ∷ rest)
    (omega (arith, there.links_are, leads_same key, l))
    (λ m other. omega (arith, leads_unlike m key other))
    (omega (arith, l))
    (λ m other. omega arith)
    sound

added_shape : (old new : Slab Node) (key : ℕ) (now : Option Node) (x : Node) → Updates old new key now → leads key x.child ≡ 0 → leads key x.left ≡ 0 → leads key x.right ≡ 0 → IsShaped old x → IsShaped new x
added_shape old new key now x u c l r h =
    IsShaped-same old new x
    (alike old new x.child (leads_other key x.child c old new u.others))
    (alike old new x.left (leads_other key x.left l old new u.others))
    (alike old new x.right (leads_other key x.right r old new u.others))
    h

-- a node comes that takes over what is owed
pub added : (old new : Slab Node) (key : ℕ) (w : Node) → get old key ≡ None → Updates old new key (Some w) → w.links ≡ 0 → 0 < w.held → IsShaped old w → (rest : List (Option ℕ)) → IsSound old (w.child ∷ w.left ∷ w.right ∷ rest) → IsSound new rest
added old new key w gone u no_links is_held shape rest h =
    let count : (m : ℕ) → links_to new m + links_in m (get old key) ≡ links_to old m + links_in m (Some w) = links_to-updates old new key (Some w) u in
    let inside : (m : ℕ) → links_in m (get old key) ≡ 0 = (λ m. ap (links_in m) gone) in
    let free : links_to old key + owed key (w.child ∷ w.left ∷ w.right ∷ rest) ≡ 0 = sym (h.links key) ∙ ap linked_in gone in
    let at_key : linked_in (get new key) ≡ links_to new key + owed key rest = omega (arith, free, inside key, count key, ap linked_in u.changed, no_links) in
    let used_key : 0 < held_of new key + linked_in (get new key) + 0 = omega (arith, ap held_in u.changed, is_held) in
    record {
      links = λ m. elim (eqb_tells m key) [
        | inl e ↦ subst (λ (x : ℕ). linked_in (get new x) ≡ links_to new x + owed x rest) (sym e.1) at_key
        | inr e ↦ omega (arith, h.links m, count m, inside m, ap linked_in (u.others m e.1))
      ];
      used = λ m there. elim (eqb_tells m key) [
        | inl e ↦ subst (λ (x : ℕ). 0 < held_of new x + linked_in (get new x) + 0) (sym e.1) used_key
        | inr e ↦ rw (u.others m e.1) (h.used m (rw (u.others m e.1) at there))
      ];
      shaped = λ m x here. elim (eqb_tells m key) [
        | inl e ↦
            let now : get new key ≡ Some x = subst (λ (y : ℕ). get new y ≡ Some x) e.1 here in
            let is_w : w ≡ x = cc (u.changed, now) in
            subst (λ (y : Node). IsShaped new y) is_w (added_shape old new key (Some w) w u
            (omega (arith, free)) (omega (arith, free)) (omega (arith, free)) shape)
        | inr e ↦
            let was : get old m ≡ Some x = sym (u.others m e.1) ∙ here in
            let none_leads : leads key x.child + leads key x.left + leads key x.right ≡ 0 = omega (arith, free, links_in-le old key m, ap (links_in key) was) in
            added_shape old new key (Some w) x u (omega (arith, none_leads)) (omega (arith, none_leads)) (omega (arith, none_leads)) (h.shaped m x was)
      ];
    }

at_slots : (old new : Slab Node) → new.slots ≡ old.slots → (r : Option ℕ) → at new r ≡ at old r
at_slots old new e None = refl
at_slots old new e (Some k) = ap (λ xs. slice_index_or xs k None) e

-- nothing but the slots matters
pub slots_sound : (old new : Slab Node) → new.slots ≡ old.slots → (rest : List (Option ℕ)) → IsSound old rest → IsSound new rest
slots_sound old new e rest h = record {
  links = λ m. ap linked_in (at_slots old new e (Some m)) ∙ h.links m ∙ ap (λ n. n + owed m rest) (ap (λ xs. sum_by (links_in m) xs) (sym e));
  used = λ m there. rw (at_slots old new e (Some m)) (h.used m (rw (at_slots old new e (Some m)) at there));
  shaped = λ m v here. IsShaped-same old new v
      (alike old new v.child (at_slots old new e v.child)) (alike old new v.left (at_slots old new e v.left)) (alike old new v.right (at_slots old new e v.right))
      (h.shaped m v (sym (at_slots old new e (Some m)) ∙ here));
}
