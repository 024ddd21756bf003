-- What hangs below a level, from what hangs below its parts.
use Rattle.std.proofs.Common.{◌≡◌, ◌⊎◌, inl, inr, ◌+◌, ◌-◌, ◌<◌, ◌≤◌, max, arith, ℕ, suc, List, [], ◌∷◌, ◌++◌, drop, length, Option, Some, refl, ap, sym, ◌∙◌, subst}
use Rattle.std.proofs.lemmas.List.{length_push}
use Rattle.slab.specs.Slab.{Slab, slab_len}
use Rattle.rx_value.specs.declared.order.Span.{Span}
use Rattle.rx_tree.specs.Tree.Level.{item}
use Rattle.rx_tree.specs.Join.{join_level}
use Rattle.rx_level.specs.declared.nodes.Node.{Node}
use Rattle.rx_level.specs.Tree.{Tree, fork_of, plain, tall}
use Rattle.rx_level.specs.Tree.Tree.{some}
use Rattle.rx_level.specs.Store.{leads, owed, tree_of}
use Rattle.rx_level.specs.Step.{Step, Lent, level_of, tall_of}
use Rattle.rx_level.specs.Standing.{StandsAt, StandsIn}
use Rattle.rx_level.specs.Standing.StandsAt.{here, below as deeper, left as on_left, right as on_right}
use Rattle.rx_level.proofs.Counts.{leads_same}
use Rattle.rx_level.proofs.Heights.{forked}
use Rattle.rx_level.proofs.Steps.{keeps_root}
use Rattle.rx_graft.specs.Hang.{hung, hung_below, depth_of}
use Rattle.rx_graft.specs.Made.{Place, Made, Among, handles_of, levels_of, StandsInOne, IsMadeOf, IsKnown, IsReady, Adds, StandsFrom, Hangs}
use Rattle.rx_graft.proofs.ListedLinks.{among_either, leads_among, owed_handles}
use Rattle.rx_graft.proofs.Depths.{onward, hung_whole, smaller}
use Rattle.rx_graft.proofs.GraftedTrees.{nodes_of, standing, stands_where, rooted}
use Rattle.rx_graft.proofs.GraftedTrees.Where.{at_top, in_child, in_left, in_right}
use Rattle.rx_graft.proofs.Adding.{adds_step, adds_then, adds_all_owned, stays}
use Rattle.rx_graft.proofs.Ready.{links_stay, known_stays}

from_child : (d k : ℕ) (s : Span) (c l r t : Tree) → t ≡ some k s c l r → (p : Place) → StandsFrom (d + 1) c p → StandsFrom d t p
from_child d k s c l r t is p h = record {
  below = suc h.below;
  depth = omega (arith, h.depth);
  stands = subst (λ u. StandsAt p.0 (suc h.below) u) (sym is) (deeper h.below k s c l r h.stands);
}

from_left : (d k : ℕ) (s : Span) (c l r t : Tree) → t ≡ some k s c l r → (p : Place) → StandsFrom d l p → StandsFrom d t p
from_left d k s c l r t is p h = record {
  below = h.below;
  depth = h.depth;
  stands = subst (λ u. StandsAt p.0 h.below u) (sym is) (on_left h.below k s c l r h.stands);
}

from_right : (d k : ℕ) (s : Span) (c l r t : Tree) → t ≡ some k s c l r → (p : Place) → StandsFrom d r p → StandsFrom d t p
from_right d k s c l r t is p h = record {
  below = h.below;
  depth = h.depth;
  stands = subst (λ u. StandsAt p.0 h.below u) (sym is) (on_right h.below k s c l r h.stands);
}

-- a node with what it leads to, in a store
pub record Opened (a : Slab Node) (key : ℕ) (span : Span) (child left right : Option ℕ) : Type 0 where
  pub tree : tree_of a (Some key) ≡ some key span (tree_of a child) (tree_of a left) (tree_of a right)
  pub root : Lent a [] (Some key)
  pub lent_child : Lent a [] child
  pub lent_left : Lent a [] left
  pub lent_right : Lent a [] right

pub opened_level : (a : Slab Node) (key : ℕ) (span : Span) (child left right : Option ℕ) → Opened a key span child left right → level_of a (Some key) ≡ join_level (level_of a left) (item span (level_of a child) (level_of a right))
opened_level a key span child left right o = ap plain o.tree

-- a node doesn't stand in a smaller tree
not_own : (a : Slab Node) (links : List (Option ℕ)) (es : List Made) (key d : ℕ) (q : Option ℕ) → IsReady a links es → Lent a [] q → nodes_of (tree_of a q) < nodes_of (tree_of a (Some key))
    → (p : Place) → StandsFrom d (tree_of a q) p → p.0 ≡ key → ⊥
not_own a links es key d q ready lent less p h is =
    let small = (standing a ready.owns.sound p.0 h.below (tree_of a q) h.stands q refl lent).small in
    let same : nodes_of (tree_of a (Some p.0)) ≡ nodes_of (tree_of a (Some key)) = ap (λ k. nodes_of (tree_of a (Some k))) is in
    absurd (omega (arith, small, same, less))

-- what was made of a link, in a later store
made_later : (b d : Slab Node) (links : List (Option ℕ)) (es fs : List Made) (x : Option ℕ) → IsMadeOf b links es x → tree_of d x ≡ tree_of b x
    → ((m : ℕ) → StandsInOne b links m → StandsInOne d links m) → ((m : ℕ) → owed m (handles_of es) ≤ owed m (handles_of fs)) → IsMadeOf d links fs x
made_later b d links es fs x made same stands more = λ m h. elim (made m (subst (λ t. StandsIn m t) same h)) [
  | inl owned ↦ inl (omega (arith, owned, more m))
  | inr stood ↦ inr (stands m stood)
]

more_owed : (a b : Slab Node) (es fs : List Made) (g : List (Option ℕ)) → Adds a b es fs g → (m : ℕ) → owed m (handles_of es) ≤ owed m (handles_of fs)
more_owed a b es fs g adds m =
    let e : owed m (handles_of fs) ≡ owed m (handles_of es) + owed m (handles_of adds.came) = ap (λ l. owed m (handles_of l)) adds.is ∙ owed_handles m es adds.came in
    omega (arith, e)

-- the three parts of a node are made
pub record Three (a d : Slab Node) (links : List (Option ℕ)) (i key : ℕ) (child left right x y z : Option ℕ) (es fs : List Made) : Type 0 where
  pub adds : Adds a d es fs (x ∷ y ∷ z ∷ [])
  pub ready : IsReady d links fs
  pub places : (e : Made) → Among fs e → Among es e ⊎ StandsFrom i (tree_of a (Some key)) e.0
  pub other : ((e : Made) → Among es e → e.0 ≡ (key, i) → ⊥) → (e : Made) → Among fs e → e.0 ≡ (key, i) → ⊥
  pub within : i < length links
  pub deep : depth_of (level_of a (Some key)) ≤ length links - i
  pub live : slab_len d + length es ≤ slab_len a + length fs
  pub made_x : IsMadeOf d links fs x
  pub made_y : IsMadeOf d links fs y
  pub made_z : IsMadeOf d links fs z
  pub level_x : level_of d x ≡ hung_below (drop i (levels_of a links)) (level_of a child)
  pub level_y : level_of d y ≡ hung (drop i (levels_of a links)) (level_of a left)
  pub level_z : level_of d z ≡ hung (drop i (levels_of a links)) (level_of a right)
  pub tall_y : tall_of d y ≡ tall_of a left
  pub tall_z : tall_of d z ≡ tall_of a right

pub three : (a b c d : Slab Node) (links : List (Option ℕ)) (i key : ℕ) (span : Span) (child left right x y z : Option ℕ) (es f1 f2 f3 : List Made)
    → IsReady a links es → Opened a key span child left right
    → Hangs a b links (i + 1) child es f1 x → level_of b x ≡ hung_below (drop i (levels_of a links)) (level_of a child) → i < length links
    → Hangs b c links i left f1 f2 y → level_of c y ≡ hung (drop i (levels_of b links)) (level_of b left) → tall_of c y ≡ tall_of b left
    → Hangs c d links i right f2 f3 z → level_of d z ≡ hung (drop i (levels_of c links)) (level_of c right) → tall_of d z ≡ tall_of c right
    → Three a d links i key child left right x y z es f3
three a b c d links i key span child left right x y z es f1 f2 f3 ready o one is_x within two is_y tall_y last is_z tall_z =
    let sound = ready.owns.sound in
    let l1 = stays a b _ sound one.adds.step left o.lent_left in
    let r1 = stays a b _ sound one.adds.step right o.lent_right in
    let r2 = stays b c _ one.adds.step.sound two.adds.step right r1.lent in
    let right_same : tree_of c right ≡ tree_of a right = r2.tree ∙ r1.tree in
    let k1 = links_stay a b _ sound one.adds.step links ready.lent in
    let k2 = links_stay b c _ one.adds.step.sound two.adds.step links k1.lent in
    let k3 = links_stay c d _ two.adds.step.sound last.adds.step links k2.lent in
    let x2 : tree_of c x ≡ tree_of b x = keeps_root b c [] _ two.adds.step x (λ m. omega (arith, one.adds.step.held m)) in
    let x3 : tree_of d x ≡ tree_of c x = keeps_root c d [] _ last.adds.step x (λ m. omega (arith, one.adds.step.held m, two.adds.step.held m)) in
    let y3 : tree_of d y ≡ tree_of c y = keeps_root c d [] _ last.adds.step y (λ m. omega (arith, two.adds.step.held m)) in
    let both : Adds a c es f2 (x ∷ y ∷ []) = adds_then a b c es f1 f2 (x ∷ []) (y ∷ []) (x ∷ y ∷ []) one.adds two.adds (λ m. omega arith) in
    let nodes : nodes_of (tree_of a (Some key)) ≡ 1 + nodes_of (tree_of a child) + nodes_of (tree_of a left) + nodes_of (tree_of a right) = ap nodes_of o.tree in
    let from_right_of : (e : Made) → StandsFrom i (tree_of c right) e.0 → StandsFrom i (tree_of a right) e.0 = (λ e h. subst (λ t. StandsFrom i t e.0) right_same h) in
    let from_left_of : (e : Made) → StandsFrom i (tree_of b left) e.0 → StandsFrom i (tree_of a left) e.0 = (λ e h. subst (λ t. StandsFrom i t e.0) l1.tree h) in
    let parts = smaller (level_of a (Some key)) (level_of a child) (level_of a left) (level_of a right) span (opened_level a key span child left right o) in
    let depth_l : depth_of (level_of b left) ≡ depth_of (level_of a left) = ap (λ t. depth_of (plain t)) l1.tree in
    let depth_r : depth_of (level_of c right) ≡ depth_of (level_of a right) = ap (λ t. depth_of (plain t)) right_same in
    record {
      adds = adds_then a c d es f2 f3 (x ∷ y ∷ []) (z ∷ []) (x ∷ y ∷ z ∷ []) both last.adds (λ m. omega arith);
      ready = last.ready;
      places = λ e h3. elim (last.places e h3) [
        | inr s ↦ inr (from_right i key span _ _ _ _ o.tree e.0 (from_right_of e s))
        | inl h2 ↦ elim (two.places e h2) [
          | inr s ↦ inr (from_left i key span _ _ _ _ o.tree e.0 (from_left_of e s))
          | inl h1 ↦ elim (one.places e h1) [
            | inr s ↦ inr (from_child i key span _ _ _ _ o.tree e.0 s)
            | inl h0 ↦ inl h0
          ]
        ]
      ];
      other = λ before e h3 is.
          let number : e.0.0 ≡ key = ap (λ (p : Place). p.0) is in
          elim (last.places e h3) [
            | inr s ↦ not_own a links es key i right ready o.lent_right (omega (arith, nodes)) e.0 (from_right_of e s) number
            | inl h2 ↦ elim (two.places e h2) [
              | inr s ↦ not_own a links es key i left ready o.lent_left (omega (arith, nodes)) e.0 (from_left_of e s) number
              | inl h1 ↦ elim (one.places e h1) [
                | inr s ↦ not_own a links es key (i + 1) child ready o.lent_child (omega (arith, nodes)) e.0 s number
                | inl h0 ↦ before e h0 is
              ]
            ]
          ];
      within = within;
      deep = omega (arith, parts.deep, one.deep, two.deep, last.deep, depth_l, depth_r, within);
      live = omega (arith, one.live, two.live, last.live);
      made_x = made_later b d links f1 f3 x one.made (x3 ∙ x2) (λ m h. k3.stands m (k2.stands m h)) (λ m. omega (arith, more_owed b c f1 f2 _ two.adds m, more_owed c d f2 f3 _ last.adds m));
      made_y = made_later c d links f2 f3 y two.made y3 k3.stands (more_owed c d f2 f3 _ last.adds);
      made_z = last.made;
      level_x = ap plain (x3 ∙ x2) ∙ is_x;
      level_y = ap plain y3 ∙ is_y ∙ (λ j. hung (drop i (k1.levels j)) (plain (l1.tree j)));
      level_z = is_z ∙ (λ j. hung (drop i ((k2.levels ∙ k1.levels) j)) (plain (right_same j)));
      tall_y = ap tall y3 ∙ tall_y ∙ ap tall l1.tree;
      tall_z = tall_z ∙ ap tall right_same;
    }

-- what the node of a place says of what was made there
pub record Whole (a e : Slab Node) (links : List (Option ℕ)) (i key : ℕ) (r : Option ℕ) (es fs : List Made) : Type 0 where
  pub hangs : Hangs a e links i (Some key) es fs r
  pub level : level_of e r ≡ hung (drop i (levels_of a links)) (level_of a (Some key))
  pub tall : tall_of e r ≡ tall_of a (Some key)

-- the node that was made, with its parts
record Built (a e : Slab Node) (links : List (Option ℕ)) (i key : ℕ) (r : Option ℕ) (fs : List Made) : Type 0 where
  level : level_of e r ≡ hung (drop i (levels_of a links)) (level_of a (Some key))
  tall : tall_of e r ≡ tall_of a (Some key)
  made : IsMadeOf e links fs r

built : (a d e : Slab Node) (links : List (Option ℕ)) (i key : ℕ) (span span' : Span) (child left right x y z r : Option ℕ) (es fs gs : List Made)
    → Opened a key span child left right → Three a d links i key child left right x y z es fs
    → Step d e (x ∷ y ∷ z ∷ []) (r ∷ r ∷ []) → gs ≡ fs ++ ((key, i), r) ∷ [] → span' ≡ span
    → fork_of (tree_of e r) ≡ Some (record { span = span'; child = tree_of d x; left = tree_of d y; right = tree_of d z })
    → ((m : ℕ) → StandsInOne d links m → StandsInOne e links m)
    → Built a e links i key r gs
built a d e links i key span span' child left right x y z r es fs gs o t step is same fork stands =
    let f = forked (tree_of e r) _ fork in
    let root = (rooted e step.sound r f.number span' (tree_of d x) (tree_of d y) (tree_of d z) f.is).root_is in
    let owed_in : (m : ℕ) → owed m (handles_of gs) ≡ owed m (handles_of fs) + leads m r = (λ m. let sum = owed_handles m fs (((key, i), r) ∷ []) in let whole : owed m (handles_of gs) ≡ owed m (handles_of (fs ++ ((key, i), r) ∷ [])) = ap (λ l. owed m (handles_of l)) is in omega (arith, sum, whole)) in
    let later : (q : Option ℕ) → IsMadeOf d links fs q → (m : ℕ) → StandsIn m (tree_of d q) → (0 < owed m (handles_of gs)) ⊎ StandsInOne e links m = (λ q made m h. elim (made m h) [
      | inl owned ↦ inl (omega (arith, owned, owed_in m))
      | inr stood ↦ inr (stands m stood)
    ]) in
    let on = onward a links i t.within in
    let heights : tall_of a (Some key) ≡ 1 + max (tall_of a left) (tall_of a right) = ap tall o.tree in
    let height : tall_of e r ≡ 1 + max (tall_of d y) (tall_of d z) = ap tall f.is in
    record {
      level = ap plain f.is
          ∙ (λ j. join_level (t.level_y j) (item (same j) (t.level_x j) (t.level_z j)))
          ∙ sym (hung_whole (level_of a on.link) _ _ span (level_of a (Some key)) (level_of a left) (level_of a child) (level_of a right) on.is (opened_level a key span child left right o));
      tall = omega (arith, heights, height, t.tall_y, t.tall_z);
      made = λ m h. elim (stands_where m f.number span' (tree_of d x) (tree_of d y) (tree_of d z) (tree_of e r) f.is h) [
        | at_top top ↦ inl (let one : leads m r ≡ leads m (Some m) = ap (leads m) root ∙ ap (λ k. leads m (Some k)) (sym top) in omega (arith, owed_in m, one, leads_same m))
        | in_child s ↦ later x t.made_x m s
        | in_left s ↦ later y t.made_y m s
        | in_right s ↦ later z t.made_z m s
      ];
    }

pub whole : (a d e : Slab Node) (links : List (Option ℕ)) (i key : ℕ) (span span' : Span) (child left right x y z r : Option ℕ) (es fs gs : List Made)
    → IsReady a links es → Opened a key span child left right → Three a d links i key child left right x y z es fs
    → Step d e (x ∷ y ∷ z ∷ []) (r ∷ r ∷ []) → gs ≡ fs ++ ((key, i), r) ∷ [] → span' ≡ span
    → fork_of (tree_of e r) ≡ Some (record { span = span'; child = tree_of d x; left = tree_of d y; right = tree_of d z })
    → slab_len e ≤ slab_len d + 1
    → Whole a e links i key r es gs
whole a d e links i key span span' child left right x y z r es fs gs ready o t step is same fork live =
    let sound = ready.owns.sound in
    let adds : Adds a e es gs (r ∷ []) = adds_step a d e es fs gs (((key, i), r) ∷ []) (x ∷ y ∷ z ∷ []) (x ∷ y ∷ z ∷ []) (r ∷ r ∷ []) (r ∷ []) t.adds step is (λ m. omega arith) (λ m. omega arith) in
    let kd = links_stay a d _ sound t.adds.step links ready.lent in
    let ke = links_stay a e _ sound adds.step links ready.lent in
    let stands : (m : ℕ) → StandsInOne d links m → StandsInOne e links m = (λ m h. ke.stands m (kd.stood m h)) in
    let b = built a d e links i key span span' child left right x y z r es fs gs o t step is same fork stands in
    let owned = adds_all_owned a e es gs (r ∷ []) ready.owns adds in
    let owned_d = adds_all_owned a d es fs (x ∷ y ∷ z ∷ []) ready.owns t.adds in
    let root = stays a e _ sound adds.step (Some key) o.root in
    let more : (m : ℕ) → owed m (handles_of fs) ≤ owed m (handles_of gs) = (λ m. let sum = owed_handles m fs (((key, i), r) ∷ []) in let all : owed m (handles_of gs) ≡ owed m (handles_of (fs ++ ((key, i), r) ∷ [])) = ap (λ l. owed m (handles_of l)) is in omega (arith, sum, all)) in
    let lent_place : (w : Made) → Among fs w → Lent a [] (Some w.0.0) = (λ w h. elim (t.places w h) [
      | inl h0 ↦ (ready.known w h0).lent
      | inr s ↦ (standing a sound w.0.0 s.below (tree_of a (Some key)) s.stands (Some key) refl o.root).lent
    ]) in
    let long : length gs ≡ length fs + 1 = ap length is ∙ length_push fs ((key, i), r) in
    let entry : IsKnown e links gs ((key, i), r) = record {
      lent = root.lent;
      level = b.level ∙ (λ j. hung (drop i (sym ke.levels j)) (plain (sym root.tree j)));
      tall = b.tall ∙ ap tall (sym root.tree);
      deep = subst (λ u. depth_of (plain u) ≤ length links - i) (sym root.tree) t.deep;
      made = b.made;
    } in
    let ready_e : IsReady e links gs = record {
      owns = record { sound = step.sound; owned = λ m. omega (arith, owned m) };
      lent = ke.lent;
      known = λ w h. elim (among_either fs (((key, i), r) ∷ []) w (subst (λ l. Among l w) is h)) [
        | inl old ↦
            let at_e = stays a e _ sound adds.step (Some w.0.0) (lent_place w old) in
            let at_d = stays a d _ sound t.adds.step (Some w.0.0) (lent_place w old) in
            known_stays d e links fs gs w (t.ready.known w old) (record { tree = at_e.tree ∙ sym at_d.tree; lent = at_e.lent })
            (keeps_root d e (x ∷ y ∷ z ∷ []) (r ∷ r ∷ []) step w.1 (λ m. omega (arith, owned_d m, leads_among fs w old m)))
            (ke.levels ∙ sym kd.levels) stands more
        | inr new ↦ elim new [ inl this ↦ subst (λ v. IsKnown e links gs v) this entry | inr never ↦ absurd never ]
      ];
    } in
    record {
      hangs = record {
        adds = adds;
        ready = ready_e;
        places = λ w h. elim (among_either fs (((key, i), r) ∷ []) w (subst (λ l. Among l w) is h)) [
          | inl old ↦ t.places w old
          | inr new ↦ elim new [
            | inl this ↦ inr (subst (λ (v : Made). StandsFrom i (tree_of a (Some key)) v.0) this (record { below = 0; depth = omega arith; stands = subst (λ u. StandsAt key 0 u) (sym o.tree) (here span (tree_of a child) (tree_of a left) (tree_of a right)) }))
            | inr never ↦ absurd never
          ]
        ];
        deep = t.deep;
        live = omega (arith, t.live, live, long);
        made = b.made;
      };
      level = b.level;
      tall = b.tall;
    }
