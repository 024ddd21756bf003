-- The fronts of a list of conditions, one longer each time.
use Rattle.std.proofs.Common.{arith, ◌≡◌, ◌≤◌, ◌&&◌, ◌||◌, ℕ, zero, suc, Bool, true, false, List, [], ◌∷◌, length, drop, refl, ap, sym, ◌∙◌, subst}
use Rattle.std.proofs.Math.Bool.{and_assoc, or_assoc, and-true, or-false}
use Rattle.rx_value.specs.declared.shapes.Part.{Part}
use Rattle.rx_value.specs.declared.order.End.{End}
use Rattle.rx_cond.specs.Tree.{Tree, Trees, trees, none, more}
use Rattle.rx_regions.specs.Cans.{can_be}
use Rattle.rx_ranges.specs.Subterms.{front, HoldsUnder, HoldsUnderEach, joined_can}
use Rattle.rx_cond_graph.specs.Giving.{combined}

head_is : {A : Type 0} (x y : A) (xs ys : List A) → x ∷ xs ≡ y ∷ ys → x ≡ y
head_is x y xs ys e = cc e

-- no condition is joined yet
pub none_joined : (meets sign : Bool) (parts : List Part) (ps : List End) → meets ≡ joined_can meets sign none parts ps
none_joined true sign parts ps = refl
none_joined false sign parts ps = refl

one_joined : (meets sign : Bool) (x : Tree) (parts : List Part) (ps : List End) → combined meets (joined_can meets sign none parts) (can_be sign x parts) ps ≡ joined_can meets sign (more x none) parts ps
one_joined true sign x parts ps = sym (and-true (can_be sign x parts ps))
one_joined false sign x parts ps = sym (or-false (can_be sign x parts ps))

behind : (meets sign : Bool) (x : Tree) (items : Trees) (t : Tree) (longer : Trees) (parts : List Part) (ps : List End)
    → combined meets (joined_can meets sign items parts) (can_be sign t parts) ps ≡ joined_can meets sign longer parts ps
    → combined meets (joined_can meets sign (more x items) parts) (can_be sign t parts) ps ≡ joined_can meets sign (more x longer) parts ps
behind true sign x items t longer parts ps same = and_assoc (can_be sign x parts ps) (joined_can true sign items parts ps) (can_be sign t parts ps) ∙ ap (λ b. can_be sign x parts ps && b) same
behind false sign x items t longer parts ps same = or_assoc (can_be sign x parts ps) (joined_can false sign items parts ps) (can_be sign t parts ps) ∙ ap (λ b. can_be sign x parts ps || b) same

-- the next condition is joined to those before it
pub front_next : (meets sign : Bool) (i : ℕ) (list : List Tree) (t : Tree) (rest : List Tree) (parts : List Part) → drop i list ≡ t ∷ rest → (ps : List End)
    → combined meets (joined_can meets sign (front i (trees list)) parts) (can_be sign t parts) ps ≡ joined_can meets sign (front (suc i) (trees list)) parts ps
front_next meets sign zero [] t rest parts is ps = absurd (cc is)
front_next meets sign (suc i) [] t rest parts is ps = absurd (cc is)
front_next meets sign zero (x ∷ xs) t rest parts is ps =
    subst (λ (y : Tree). combined meets (joined_can meets sign none parts) (can_be sign y parts) ps ≡ joined_can meets sign (more x none) parts ps) (head_is x t xs rest is) (one_joined meets sign x parts ps)
front_next meets sign (suc i) (x ∷ xs) t rest parts is ps =
    behind meets sign x (front i (trees xs)) t (front (suc i) (trees xs)) parts ps (front_next meets sign i xs t rest parts is ps)

-- a front as long as the list is the list
pub front_whole : (n : ℕ) (list : List Tree) → length list ≤ n → front n (trees list) ≡ trees list
front_whole zero [] long = refl
front_whole (suc n) [] long = refl
front_whole zero (x ∷ xs) long = absurd (omega (arith, long))
front_whole (suc n) (x ∷ xs) long = ap (more x) (front_whole n xs (omega (arith, long)))

module _ (P : Bool → Tree → Type 0) (sign : Bool) where
  -- what is so of each of a front, and of the next one
  pub each_next : (i : ℕ) (list : List Tree) (t : Tree) (rest : List Tree) → drop i list ≡ t ∷ rest → HoldsUnderEach P sign (front i (trees list)) → HoldsUnder P sign t → HoldsUnderEach P sign (front (suc i) (trees list))
  each_next zero [] t rest is each one = absurd (cc is)
  each_next (suc i) [] t rest is each one = absurd (cc is)
  each_next zero (x ∷ xs) t rest is each one = (subst (HoldsUnder P sign) (sym (head_is x t xs rest is)) one, tt)
  each_next (suc i) (x ∷ xs) t rest is each one = (each.0, each_next i xs t rest is each.1 one)

  -- what is so of each is so of one
  pub each_at : (i : ℕ) (list : List Tree) (t : Tree) (rest : List Tree) → drop i list ≡ t ∷ rest → HoldsUnderEach P sign (trees list) → HoldsUnder P sign t
  each_at zero [] t rest is each = absurd (cc is)
  each_at (suc i) [] t rest is each = absurd (cc is)
  each_at zero (x ∷ xs) t rest is each = subst (HoldsUnder P sign) (head_is x t xs rest is) each.0
  each_at (suc i) (x ∷ xs) t rest is each = each_at i xs t rest is each.1
