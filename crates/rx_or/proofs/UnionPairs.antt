-- What calls add to a memory of pairs of children, of which it tells what goes on below either.
use Rattle.std.proofs.Common.{◌≡◌, ℕ, Bool, cond, List, [], ◌∷◌, ◌++◌, Option, Some, arith, refl, ap, ap₂, sym, ◌∙◌, subst}
use Rattle.slab.specs.Slab.{Slab}
use Rattle.rx_tree.specs.Tree.{Level}
use Rattle.rx_tree.specs.Tree.Level.{end, item}
use Rattle.rx_tree.specs.Canonical.{ArePlaced}
use Rattle.rx_tree.specs.Union.{is_all, either_child}
use Rattle.rx_tree.proofs.Unions.{either_turn}
use Rattle.rx_level.specs.declared.nodes.Node.{Node}
use Rattle.rx_level.specs.Step.{Step, Lent, level_of}
use Rattle.rx_cut.proofs.Staying.{stays}
use Rattle.rx_pairs.specs.Pairs.{Made, Among, IsReady, Adds, Keeps}
use Rattle.rx_pairs.proofs.Remembered.{adds_given, adds_spent, adds_then, all_three, keeps_given, keeps_spent, ready_after, known_lent, remembered}
use Rattle.rx_or.specs.Below.{union_below, ArePlacedBelow, IsUnionBelow}
use Rattle.rx_or.proofs.United.{given_lent}

-- a memory stays ready while a level is cut
pub cut_ready : (R : Level → Level → Level → Type 0) (a b : Slab Node) (es : List Made) (cut : List (Option ℕ)) → IsReady R a es → Step a b [] cut → IsReady R b es
cut_ready R a b es cut ready step = ready_after R a b es es cut ready (keeps_given R a b es cut ready step)

-- what is made of a level that was cut, which is let go
pub cut_keeps : (R : Level → Level → Level → Type 0) (a b d e : Slab Node) (es fs : List Made) (cut whole : Option ℕ) → IsReady R a es → Step a b [] (cut ∷ []) → Keeps R b d es fs (whole ∷ []) → Step d e (cut ∷ []) [] → Keeps R a e es fs (whole ∷ [])
cut_keeps R a b d e es fs cut whole ready step made free =
    keeps_spent R a d e es fs (cut ∷ whole ∷ []) (cut ∷ []) [] (whole ∷ []) ready
    (adds_then a b d es es fs (cut ∷ []) (whole ∷ []) (cut ∷ whole ∷ []) (adds_given a b es (cut ∷ []) ready.owns.sound step) made.adds (λ m. omega arith))
    made.known free (λ m. omega arith) (λ m. omega arith)

-- three that were made are spent for none
pub three_adds : (R : Level → Level → Level → Type 0) (a b c d e : Slab Node) (es fs gs hs : List Made) (x y z : Option ℕ) → Keeps R a b es fs (y ∷ []) → Keeps R b c fs gs (x ∷ []) → Keeps R c d gs hs (z ∷ []) → Step d e (x ∷ y ∷ z ∷ []) [] → Adds a e es hs []
three_adds R a b c d e es fs gs hs x y z one two last step =
    adds_spent a d e es hs (x ∷ y ∷ z ∷ []) (x ∷ y ∷ z ∷ []) [] [] (all_three a b c d es fs gs hs x y z one.adds two.adds last.adds) step (λ k. omega arith) (λ k. omega arith)

child_turn : (ns : List Bool) (c d : Level) → ArePlaced ns c → ArePlaced ns d → either_child ns c d ≡ either_child ns d c
child_turn [] c d first second = refl
child_turn (n ∷ ns) end end first second = refl
child_turn (n ∷ ns) end (item t d more) first second = refl
child_turn (n ∷ ns) (item s c rest) end first second = refl
child_turn (n ∷ ns) (item s c rest) (item t d more) first second = ap (λ l. cond (is_all n l) end l) (either_turn (n ∷ ns) (item s c rest) (item t d more) first second)

-- it is the same which of two children comes first
pub below_turn : (parts : List Bool) (c d : Level) → ArePlacedBelow parts c → ArePlacedBelow parts d → union_below parts c d ≡ union_below parts d c
below_turn [] c d first second = refl
below_turn (n ∷ ns) c d first second = child_turn ns c d first second

pub pair_turned : (parts : List Bool) (a : Slab Node) (c d : Option ℕ) (i j : ℕ) → c ≡ Some i → d ≡ Some j → ArePlacedBelow parts (level_of a c) → ArePlacedBelow parts (level_of a d)
    → union_below parts (level_of a (Some j)) (level_of a (Some i)) ≡ union_below parts (level_of a c) (level_of a d)
pair_turned parts a c d i j is_c is_d first second =
    ap₂ (λ x y. union_below parts (level_of a x) (level_of a y)) (sym is_d) (sym is_c) ∙ below_turn parts (level_of a d) (level_of a c) second first

-- the answer for a pair that was made before, held once more
pub known_level : (parts : List Bool) (a b : Slab Node) (es : List Made) (i j : ℕ) (r : Option ℕ) → IsReady (IsUnionBelow parts) a es → Among es ((i, j), r) → Step a b [] (r ∷ []) → level_of b r ≡ union_below parts (level_of a (Some i)) (level_of a (Some j))
known_level parts a b es i j r ready among step =
    (stays a b _ ready.owns.sound step r (known_lent (IsUnionBelow parts) a es i j r ready among)).level ∙ ready.known ((i, j), r) among

-- a pair that was made is remembered
pub new_pair : (parts : List Bool) (a b c : Slab Node) (es gs : List Made) (i j : ℕ) (r : Option ℕ) → IsReady (IsUnionBelow parts) a es → Step a b [] (r ∷ []) → level_of b r ≡ union_below parts (level_of a (Some i)) (level_of a (Some j))
    → Step b c [] (Some i ∷ Some j ∷ r ∷ []) → gs ≡ es ++ ((i, j), r) ∷ [] → Lent a [] (Some i) → Lent a [] (Some j) → Keeps (IsUnionBelow parts) a c es gs (r ∷ [])
new_pair parts a b c es gs i j r ready one level step is lent_i lent_j =
    let first = stays a b _ ready.owns.sound one (Some i) lent_i in
    let second = stays a b _ ready.owns.sound one (Some j) lent_j in
    remembered (IsUnionBelow parts) a b c es es gs i j r ready (keeps_given (IsUnionBelow parts) a b es (r ∷ []) ready one) step is
    (level ∙ sym (ap₂ (union_below parts) first.level second.level))
    (λ k lent. (stays b c _ one.sound step k lent).level) first.lent second.lent (given_lent a b r one)

pub new_level : (parts : List Bool) (a b c : Slab Node) (i j : ℕ) (r : Option ℕ) (x : Level) → Step a b [] (r ∷ []) → level_of b r ≡ x → Step b c [] (Some i ∷ Some j ∷ r ∷ []) → level_of c r ≡ x
new_level parts a b c i j r x one level step = (stays b c _ one.sound step r (given_lent a b r one)).level ∙ level

-- what was made is let go where it isn't remembered
pub forgotten : (R : Level → Level → Level → Type 0) (a b c d : Slab Node) (es gs : List Made) (r : Option ℕ) → IsReady R a es → Step a b [] (r ∷ []) → Step b c [] [] → Step c d (r ∷ []) [] → gs ≡ es → Adds a d es gs []
forgotten R a b c d es gs r ready one step free is =
    subst (λ l. Adds a d es l []) (sym is)
    (adds_spent a c d es es (r ∷ []) (r ∷ []) [] [] (adds_spent a b c es es (r ∷ []) [] [] (r ∷ []) (adds_given a b es (r ∷ []) ready.owns.sound one) step (λ k. omega arith) (λ k. omega arith)) free (λ k. omega arith) (λ k. omega arith))
