-- What calls add to a memory of pairs of levels that were met.
use Rattle.std.proofs.Common.{◌≡◌, inl, inr, ◌≤◌, ◌+◌, ℕ, List, [], ◌∷◌, ◌++◌, Option, Some, None, arith, refl, ap, sym, ◌∙◌, subst}
use Rattle.slab.specs.Slab.{Slab}
use Rattle.rx_tree.specs.Meet.{both}
use Rattle.rx_level.specs.declared.nodes.Node.{Node}
use Rattle.rx_level.specs.Store.{IsSound, owed}
use Rattle.rx_level.specs.Step.{Step, Lent, level_of}
use Rattle.rx_pairs.specs.Pairs.{Made, Among, Lacks, IsSo, IsReady, Adds}
use Rattle.rx_pairs.proofs.Listed.{among_either, leads_among, lacks_from, lacks_each}
use Rattle.rx_pairs.proofs.Remembered.{adds_none, adds_spent, adds_then, adds_all_owned, adds_memory_owned, all_three, so_stays, keeps_given, keeps_spent, ready_after, remembered, known_lent}
use Rattle.rx_and.specs.MetPairs.{IsMet, AreBelow, Meets, sizes_of}
use Rattle.rx_cut.proofs.Staying.{stays}

-- the memory is ready for the next call
pub ready_next : (n : ℕ) (a b : Slab Node) (es fs : List Made) (g : List (Option ℕ)) → IsReady IsMet a es → Meets n a b es fs g → IsReady IsMet b fs
ready_next n a b es fs g ready meets = ready_after IsMet a b es fs g ready meets.keeps

-- a step that gives alone
pub meets_given : (n : ℕ) (a b : Slab Node) (es : List Made) (g : List (Option ℕ)) → IsReady IsMet a es → Step a b [] g → Meets n a b es es g
meets_given n a b es g ready step = record { keeps = keeps_given IsMet a b es g ready step; fewer = λ e among. inl among }

below_more : (n m : ℕ) (s : Slab Node) (e : Made) → n ≤ m → IsSo (AreBelow n) s e → IsSo (AreBelow m) s e
below_more n m s e low is = omega (arith, low, is)

pub meets_more : (n m : ℕ) (a b : Slab Node) (es fs : List Made) (g : List (Option ℕ)) → n ≤ m → Meets n a b es fs g → Meets m a b es fs g
meets_more n m a b es fs g low meets = record {
  keeps = meets.keeps;
  fewer = λ e among. elim (meets.fewer e among) [ inl old ↦ inl old | inr is ↦ inr (below_more n m b e low is) ];
}

-- one call after another
pub meets_then : (n m most : ℕ) (a b c : Slab Node) (es fs gs : List Made) (g h out : List (Option ℕ)) → IsReady IsMet a es → Meets n a b es fs g → Meets m b c fs gs h → n ≤ most → m ≤ most → ((k : ℕ) → owed k out ≡ owed k g + owed k h) → Meets most a c es gs out
meets_then n m most a b c es fs gs g h out ready one two low low' fits =
    let owns = adds_memory_owned a b es fs g ready.owns one.keeps.adds in
    record {
      keeps = record { adds = adds_then a b c es fs gs g h out one.keeps.adds two.keeps.adds fits; known = two.keeps.known };
      fewer = λ e among. elim (two.fewer e among) [
        | inr is ↦ inr (below_more m most c e low' is)
        | inl there ↦ elim (one.fewer e there) [
          | inl old ↦ inl old
          | inr is ↦ inr (below_more n most c e low (so_stays (AreBelow n) b c [] _ e two.keeps.adds.step (λ k. omega (arith, owns.owned k, leads_among fs e there k)) is))
        ]
      ];
    }

-- what was given is spent, and other handles are given
pub meets_spent : (n : ℕ) (a b c : Slab Node) (es fs : List Made) (g s t out : List (Option ℕ)) → IsReady IsMet a es → Meets n a b es fs g → Step b c s t → ((k : ℕ) → owed k s ≤ owed k g) → ((k : ℕ) → owed k out + owed k s ≡ owed k g + owed k t) → Meets n a c es fs out
meets_spent n a b c es fs g s t out ready one two low fits = record {
  keeps = keeps_spent IsMet a b c es fs g s t out ready one.keeps.adds one.keeps.known two low fits;
  fewer = λ e among. elim (one.fewer e among) [
    | inl old ↦ inl old
    | inr is ↦ inr (so_stays (AreBelow n) b c s t e two (λ k. omega (arith, low k, adds_all_owned a b es fs g ready.owns one.keeps.adds k, leads_among fs e among k)) is)
  ];
}

-- three that were made, the second before the first, are spent for one
pub meets_three : (n1 n2 n3 n : ℕ) (a b c d e : Slab Node) (es fs gs hs : List Made) (x y z : Option ℕ) (t : List (Option ℕ)) → IsReady IsMet a es → Meets n1 a b es fs (y ∷ []) → Meets n2 b c fs gs (x ∷ []) → Meets n3 c d gs hs (z ∷ [])
    → Step d e (x ∷ y ∷ z ∷ []) t → n1 ≤ n → n2 ≤ n → n3 ≤ n → Meets n a e es hs t
meets_three n1 n2 n3 n a b c d e es fs gs hs x y z t ready one two last step low low' low'' =
    meets_spent n a d e es hs (x ∷ y ∷ z ∷ []) (x ∷ y ∷ z ∷ []) t t ready
    (meets_then n n3 n a c d es gs hs (x ∷ y ∷ []) (z ∷ []) (x ∷ y ∷ z ∷ []) ready
    (meets_then n1 n2 n a b c es fs gs (y ∷ []) (x ∷ []) (x ∷ y ∷ []) ready one two low low' (λ k. omega arith))
    last (omega arith) low'' (λ k. omega arith))
    step (λ k. omega arith) (λ k. omega arith)

-- three that were made are spent for none
pub adds_three : (n1 n2 n3 : ℕ) (a b c d e : Slab Node) (es fs gs hs : List Made) (x y z : Option ℕ) → Meets n1 a b es fs (y ∷ []) → Meets n2 b c fs gs (x ∷ []) → Meets n3 c d gs hs (z ∷ []) → Step d e (x ∷ y ∷ z ∷ []) [] → Adds a e es hs []
adds_three n1 n2 n3 a b c d e es fs gs hs x y z one two last step =
    adds_spent a d e es hs (x ∷ y ∷ z ∷ []) (x ∷ y ∷ z ∷ []) [] [] (all_three a b c d es fs gs hs x y z one.keeps.adds two.keeps.adds last.keeps.adds) step (λ k. omega arith) (λ k. omega arith)

-- a pair that is met is none of those that were met for it
pub not_met_yet : (n : ℕ) (a b : Slab Node) (es fs : List Made) (i j : ℕ) (g : List (Option ℕ)) → Meets n a b es fs g → Lacks es (i, j) → n ≤ sizes_of b (Some i) (Some j) → Lacks fs (i, j)
not_met_yet n a b es fs i j g meets lacks most =
    lacks_from fs (i, j) (λ e among same. elim (meets.fewer e among) [
      | inl old ↦ lacks_each es (i, j) lacks e old same
      | inr is ↦
          let sizes : sizes_of b (Some e.0.0) (Some e.0.1) ≡ sizes_of b (Some i) (Some j) = ap (λ p. sizes_of b (Some p.0) (Some p.1)) same in
          absurd (omega (arith, is, sizes, most))
    ])

-- a pair that was met is remembered
pub meets_remembered : (n : ℕ) (a b c : Slab Node) (es fs gs : List Made) (i j : ℕ) (r : Option ℕ) → IsReady IsMet a es → Meets n a b es fs (r ∷ []) → Step b c [] (Some i ∷ Some j ∷ r ∷ []) → gs ≡ fs ++ ((i, j), r) ∷ []
    → level_of b r ≡ both (level_of b (Some i)) (level_of b (Some j)) → Lent b [] (Some i) → Lent b [] (Some j) → Lent b [] r → sizes_of b (Some i) (Some j) ≤ n → Meets (n + 1) a c es gs (r ∷ [])
meets_remembered n a b c es fs gs i j r ready meets step is level lent_i lent_j lent_r most =
    let sound = meets.keeps.adds.step.sound in
    let owns = adds_memory_owned a b es fs (r ∷ []) ready.owns meets.keeps.adds in
    let first = stays b c _ sound step (Some i) lent_i in
    let second = stays b c _ sound step (Some j) lent_j in
    record {
      keeps = remembered IsMet a b c es fs gs i j r ready meets.keeps step is level (λ k lent. (stays b c _ sound step k lent).level) lent_i lent_j lent_r;
      fewer = λ e among. elim (among_either fs (((i, j), r) ∷ []) e (subst (λ l. Among l e) is among)) [
        | inl there ↦ elim (meets.fewer e there) [
          | inl old ↦ inl old
          | inr low ↦ inr (below_more n (n + 1) c e (omega arith) (so_stays (AreBelow n) b c [] _ e step (λ k. omega (arith, owns.owned k, leads_among fs e there k)) low))
        ]
        | inr new ↦ elim new [
          | inl this ↦ inr (subst (λ v. IsSo (AreBelow (n + 1)) c v) this (omega (arith, first.size_same, second.size_same, most)))
          | inr never ↦ absurd never
        ]
      ];
    }

-- what was met is given back where it isn't remembered
pub adds_forgotten : (n : ℕ) (a b c d : Slab Node) (es fs gs : List Made) (r : Option ℕ) → Meets n a b es fs (r ∷ []) → Step b c [] [] → Step c d (r ∷ []) [] → gs ≡ fs → Adds a d es gs []
adds_forgotten n a b c d es fs gs r meets step free is =
    subst (λ l. Adds a d es l []) (sym is)
    (adds_spent a c d es fs (r ∷ []) (r ∷ []) [] [] (adds_spent a b c es fs (r ∷ []) [] [] (r ∷ []) meets.keeps.adds step (λ k. omega arith) (λ k. omega arith)) free (λ k. omega arith) (λ k. omega arith))

-- the answer for a pair that was met before, held once more
pub met_before : (a b : Slab Node) (es : List Made) (i j : ℕ) (r : Option ℕ) → IsReady IsMet a es → Among es ((i, j), r) → Step a b [] (r ∷ []) → level_of b r ≡ both (level_of a (Some i)) (level_of a (Some j))
met_before a b es i j r ready among step =
    (stays a b _ ready.owns.sound step r (known_lent IsMet a es i j r ready among)).level ∙ ready.known ((i, j), r) among

-- no level is given
pub meets_none : (n : ℕ) (a : Slab Node) (es : List Made) → IsReady IsMet a es → Meets n a a es es (None ∷ [])
meets_none n a es ready = meets_given n a a es (None ∷ []) ready (record { sound = ready.owns.sound; held = λ m. omega arith; keeps = λ m more. refl })

-- a level that is none is given as none
pub meets_absent : (n : ℕ) (a b : Slab Node) (es fs : List Made) (r : Option ℕ) → r ≡ None → Meets n a b es fs (r ∷ []) → Meets n a b es fs (None ∷ [])
meets_absent n a b es fs r is meets = subst (λ x. Meets n a b es fs (x ∷ [])) is meets

-- nothing is added where a call leaves the store as it was
pub adds_same : (a b : Slab Node) (es : List Made) → IsReady IsMet a es → b ≡ a → Adds a b es es []
adds_same a b es ready is = subst (λ x. Adds a x es es []) (sym is) (adds_none a es ready.owns.sound)

-- a memory of nothing is ready
pub ready_none : (a : Slab Node) (es : List Made) → es ≡ [] → IsSound a [] → IsReady IsMet a es
ready_none a es none sound = subst (λ l. IsReady IsMet a l) (sym none) (record { owns = record { sound = sound; owned = λ m. omega arith }; known = λ e among. absurd among })
