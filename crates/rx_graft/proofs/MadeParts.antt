-- The parts of a level that are hung below, and the ends of it.
use Rattle.std.proofs.Common.{◌≡◌, inl, inr, ◌+◌, ◌<◌, ◌≤◌, arith, ℕ, List, [], ◌∷◌, drop, length, slice_get, Option, Some, None, refl, ap, sym, ◌∙◌, subst, add-one}
use Rattle.slab.specs.Slab.{Slab, slab_len}
use Rattle.rx_value.specs.declared.order.Span.{Span}
use Rattle.rx_tree.specs.Tree.{level_size}
use Rattle.rx_tree.specs.Tree.Level.{end}
use Rattle.rx_level.specs.declared.nodes.Node.{Node}
use Rattle.rx_level.specs.Tree.{fork_of, plain, tall, IsNear}
use Rattle.rx_level.specs.Store.{held_of, leads, tree_of}
use Rattle.rx_level.specs.Step.{Step, IsLent, Lent, level_of, tall_of}
use Rattle.rx_level.proofs.Heights.{even_tree, fork_near}
use Rattle.rx_level.proofs.Steps.{held_there, keeps_root}
use Rattle.rx_level.proofs.Lending.{lent_held}
use Rattle.rx_graft.specs.Hang.{hung, hung_below, depth_of}
use Rattle.rx_graft.specs.Made.{Made, Among, levels_of, IsReady, Adds, Hangs}
use Rattle.rx_graft.proofs.ListedLinks.{leads_among}
use Rattle.rx_graft.proofs.Depths.{links_from, Smaller, smaller, some_item, below_none, below_some}
use Rattle.rx_graft.proofs.GraftedTrees.{node_of, tree_forked}
use Rattle.rx_graft.proofs.Adding.{adds_given, stays}
use Rattle.rx_graft.proofs.Ready.{ready_given, link_lent, links_stay}
use Rattle.rx_graft.proofs.Wholes.{Opened, Three, Whole, opened_level}

pub opened : (a : Slab Node) (links : List (Option ℕ)) (es : List Made) (key : ℕ) (span : Span) (child left right : Option ℕ) → IsReady a links es → IsLent a [] (Some key)
    → fork_of (tree_of a (Some key)) ≡ Some (record { span = span; child = tree_of a child; left = tree_of a left; right = tree_of a right })
    → Lent a [] child → Lent a [] left → Lent a [] right → Opened a key span child left right
opened a links es key span child left right ready root fork lent_c lent_l lent_r = record {
  tree = tree_forked a ready.owns.sound key root.there _ fork;
  root = root;
  lent_child = lent_c;
  lent_left = lent_l;
  lent_right = lent_r;
}

-- the levels of a node's parts
pub parts_smaller : (a : Slab Node) (key : ℕ) (span : Span) (child left right : Option ℕ) → Opened a key span child left right → Smaller (level_of a (Some key)) (level_of a child) (level_of a left) (level_of a right)
parts_smaller a key span child left right o = smaller (level_of a (Some key)) (level_of a child) (level_of a left) (level_of a right) span (opened_level a key span child left right o)

-- a part that is still to be hung, after others were
pub record Later (b : Slab Node) (size deep : ℕ) (q : Option ℕ) : Type 0 where
  pub lent : Lent b [] q
  pub size_same : level_size (level_of b q) ≡ size
  pub deep_same : depth_of (level_of b q) ≡ deep

pub later : (a b : Slab Node) (links : List (Option ℕ)) (es fs : List Made) (g : List (Option ℕ)) (q : Option ℕ) → IsReady a links es → Adds a b es fs g → Lent a [] q → Later b (level_size (level_of a q)) (depth_of (level_of a q)) q
later a b links es fs g q ready adds lent =
    let s = stays a b _ ready.owns.sound adds.step q lent in
    record { lent = s.lent; size_same = ap (λ t. level_size (plain t)) s.tree; deep_same = ap (λ t. depth_of (plain t)) s.tree }

-- the sides of a node are near in height once they are made
pub sides_near : (a d : Slab Node) (links : List (Option ℕ)) (i key : ℕ) (span : Span) (child left right x y z : Option ℕ) (es fs : List Made) → IsReady a links es → Three a d links i key child left right x y z es fs
    → fork_of (tree_of a (Some key)) ≡ Some (record { span = span; child = tree_of a child; left = tree_of a left; right = tree_of a right }) → IsNear (tall_of d y) (tall_of d z)
sides_near a d links i key span child left right x y z es fs ready t fork =
    let near : IsNear (tall_of a left) (tall_of a right) = fork_near (tree_of a (Some key)) _ (even_tree a ready.owns.sound (Some key)) fork in
    (omega (arith, near.0, t.tall_y, t.tall_z), omega (arith, near.1, t.tall_y, t.tall_z))

-- what the memory holds is lent
pub known_lent : (a : Slab Node) (links : List (Option ℕ)) (es : List Made) (e : Made) → IsReady a links es → Among es e → Lent a [] e.1
known_lent a links es e ready h =
    let room : (m : ℕ) → leads m e.1 ≤ held_of a m = (λ m. omega (arith, leads_among es e h m, ready.owns.owned m)) in
    lent_held a [] e.1 (held_there a e.1 room) (λ m. omega (arith, room m))

-- what was made before is given once more
pub known_whole : (a e : Slab Node) (links : List (Option ℕ)) (i key : ℕ) (r : Option ℕ) (es : List Made) → IsReady a links es → Among es ((key, i), r) → Step a e [] (r ∷ []) → slab_len e ≡ slab_len a → Whole a e links i key r es es
known_whole a e links i key r es ready among step live =
    let known = ready.known ((key, i), r) among in
    let ready_e = ready_given a e (r ∷ []) links es ready step in
    let same : tree_of e r ≡ tree_of a r = keeps_root a e [] (r ∷ []) step r (λ m. omega (arith, leads_among es ((key, i), r) among m, ready.owns.owned m)) in
    record {
      hangs = record {
        adds = adds_given a e es (r ∷ []) ready.owns.sound step;
        ready = ready_e;
        places = λ w h. inl h;
        deep = known.deep;
        live = omega (arith, live);
        made = (ready_e.known ((key, i), r) among).made;
      };
      level = ap plain same ∙ known.level;
      tall = ap tall same ∙ known.tall;
    }

-- what is hung at the end of a level
pub record Ends (a e : Slab Node) (links : List (Option ℕ)) (i : ℕ) (child link : Option ℕ) (es : List Made) : Type 0 where
  pub hangs : Hangs a e links (i + 1) child es es link
  pub level : level_of e link ≡ hung_below (drop i (levels_of a links)) (level_of a child)

pub ends : (a e : Slab Node) (links : List (Option ℕ)) (i : ℕ) (child link : Option ℕ) (es : List Made) → IsReady a links es → i < length links → slice_get links i ≡ Some link → child ≡ None → Step a e [] (link ∷ []) → slab_len e ≡ slab_len a → Ends a e links i child link es
ends a e links i child link es ready within is none step live =
    let sound = ready.owns.sound in
    let at_a = link_lent a links ready.lent i within link is in
    let s = stays a e (link ∷ []) sound step link at_a.lent in
    let kept = links_stay a e (link ∷ []) sound step links ready.lent in
    let at_e = link_lent e links kept.lent i within link is in
    let empty : level_of a child ≡ end = ap (level_of a) none in
    let flat : depth_of (level_of a child) ≡ 0 = ap depth_of empty in
    record {
      hangs = record {
        adds = adds_given a e es (link ∷ []) sound step;
        ready = ready_given a e (link ∷ []) links es ready step;
        places = λ w h. inl h;
        deep = omega (arith, flat);
        live = omega (arith, live);
        made = λ m h. inr (at_e.stands m h);
      };
      level = ap plain s.tree ∙ sym (below_none (level_of a link) _ _ (level_of a child) (links_from a links i within link is) empty);
    }

level_some : (a : Slab Node) (links : List (Option ℕ)) (es : List Made) (q : Option ℕ) (k : ℕ) → IsReady a links es → Lent a [] q → q ≡ Some k → level_of a q ≡ end → ⊥
level_some a links es None k ready lent is e = absurd (cc is)
level_some a links es (Some n) k ready lent is e =
    let o = node_of a ready.owns.sound n _ refl lent.there in
    absurd (some_item (level_of a o.node.left) o.node.span (level_of a o.node.child) (level_of a o.node.right) (sym (ap plain o.tree) ∙ e))

-- what hangs below an item with a child
pub below_child : (a e : Slab Node) (links : List (Option ℕ)) (i : ℕ) (child link r : Option ℕ) (k : ℕ) (es : List Made) → IsReady a links es → i < length links → slice_get links i ≡ Some link → Lent a [] child → child ≡ Some k
    → level_of e r ≡ hung (drop (i + 1) (levels_of a links)) (level_of a child) → level_of e r ≡ hung_below (drop i (levels_of a links)) (level_of a child)
below_child a e links i child link r k es ready within is lent some made =
    made
    ∙ ap (λ n. hung (drop n (levels_of a links)) (level_of a child)) (add-one i)
    ∙ sym (below_some (level_of a link) _ _ (level_of a child) (links_from a links i within link is) (level_some a links es child k ready lent some))

-- the same where the place's root goes by another name
pub record Again (a e : Slab Node) (links : List (Option ℕ)) (i : ℕ) (root r : Option ℕ) (es : List Made) : Type 0 where
  pub hangs : Hangs a e links i root es es r
  pub level : level_of e r ≡ hung (drop i (levels_of a links)) (level_of a root)
  pub tall : tall_of e r ≡ tall_of a root

pub known_again : (a e : Slab Node) (links : List (Option ℕ)) (i key : ℕ) (root r : Option ℕ) (es : List Made) → root ≡ Some key → IsReady a links es → Among es ((key, i), r) → Step a e [] (r ∷ []) → slab_len e ≡ slab_len a → Again a e links i root r es
known_again a e links i key root r es is ready among step live =
    let w = known_whole a e links i key r es ready among step live in
    subst (λ x. Again a e links i x r es) (sym is) (record { hangs = w.hangs; level = w.level; tall = w.tall })
