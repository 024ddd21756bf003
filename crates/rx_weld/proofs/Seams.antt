-- Levels put one behind the other, by what stands where they meet.
use Rattle.std.proofs.Common.{◌≡◌, ◌+◌, ℕ, zero, suc, Option, Some, None, arith, refl, ap, sym, ◌∙◌, subst}
use Rattle.rx_value.specs.declared.order.Span.{Span}
use Rattle.rx_tree.specs.Tree.{Level}
use Rattle.rx_tree.specs.Tree.Level.{end, item}
use Rattle.rx_tree.specs.Join.{join_level, length_of}
use Rattle.rx_tree.specs.Weld.{weld, glue}
use Rattle.rx_tree.proofs.Welding.{weld_apart}
use Rattle.rx_level.specs.Entries.{Entry, entry_at}
use Rattle.rx_weld.specs.Seamless.{IsSeamless}
use Rattle.rx_weld.specs.Seam.{IsSeam}

-- levels whose items can't be one where they meet are joined
pub glue_joined : (a b : Level) → IsSeamless a → (IsSeam a b → ⊥) → glue a b ≡ join_level a b
glue_joined end b apart none = refl
glue_joined (item s c end) end apart none = refl
glue_joined (item s c end) (item t d more) apart none = weld_apart s c (item t d more) (λ touch same. none (touch, same))
glue_joined (item s c (item t d rest)) b apart none =
    ap (weld s c) (glue_joined (item t d rest) b apart.1 none) ∙ weld_apart s c (item t d (join_level rest b)) apart.0

-- the items at which two levels meet
pub seam_parted : (before : Level) (s t : Span) (c d rest : Level) → IsSeam (join_level before (item s c end)) (item t d rest) → (s.hi ≡ t.lo) × (c ≡ d)
seam_parted end s t c d rest seam = seam
seam_parted (item u e end) s t c d rest seam = seam
seam_parted (item u e (item v f more)) s t c d rest seam = seam_parted (item v f more) s t c d rest seam

-- of a second level the first item tells alone
pub seam_first : (a : Level) (t : Span) (d rest more : Level) → IsSeam a (item t d rest) → IsSeam a (item t d more)
seam_first end t d rest more seam = seam
seam_first (item s c end) t d rest more seam = seam
seam_first (item s c (item u e after)) t d rest more seam = seam_first (item u e after) t d rest more seam

-- a level without items meets no other
pub no_seam : (a b : Level) → length_of a ≡ 0 → IsSeam a b → ⊥
no_seam end b none seam = seam
no_seam (item s c rest) b none seam = absurd (omega (arith, none))

-- nor is it met by any
pub seam_none : (a b : Level) → entry_at 0 b ≡ None → IsSeam a b → ⊥
seam_none end b none seam = seam
seam_none (item s c end) end none seam = seam
seam_none (item s c end) (item t d more) none seam = absurd (cc none)
seam_none (item s c (item u e rest)) b none seam = seam_none (item u e rest) b none seam

-- a level with items has a last one
pub last_there : (i : ℕ) (a : Level) → i + 1 ≡ length_of a → entry_at i a ≡ None → ⊥
last_there i end long none = absurd (omega (arith, long))
last_there zero (item s c rest) long none = absurd (cc none)
last_there (suc i) (item s c rest) long none = last_there i rest (omega (arith, long)) none

-- two items are one where the first ends where the second begins and has the same child
abbrev AreOne : Entry → Entry → Type 0
AreOne x y = (x.span.hi ≡ y.span.lo) × (x.below ≡ y.below)

some_known : (x y : Entry) → Some x ≡ Some y → x ≡ y
some_known x y e = ap (λ (o : Option Entry). elim o [ Some z ↦ z | None ↦ x ]) e

-- the last item of one level and the first of another are one at a seam
pub seam_from : (i : ℕ) (a b : Level) (x y : Entry) → i + 1 ≡ length_of a → entry_at i a ≡ Some x → entry_at 0 b ≡ Some y → AreOne x y → IsSeam a b
seam_from i end b x y long first second one = absurd (omega (arith, long))
seam_from zero (item s c end) end x y long first second one = absurd (cc second)
seam_from zero (item s c end) (item t d more) x y long first second one =
    subst (λ (z : Entry). AreOne z (record { span = t; below = d })) (sym (some_known (record { span = s; below = c }) x first))
    (subst (λ (w : Entry). AreOne x w) (sym (some_known (record { span = t; below = d }) y second)) one)
seam_from zero (item s c (item u e rest)) b x y long first second one = absurd (omega (arith, long))
seam_from (suc i) (item s c end) b x y long first second one = absurd (omega (arith, long))
seam_from (suc i) (item s c (item u e rest)) b x y long first second one = seam_from i (item u e rest) b x y (omega (arith, long)) first second one

-- and only there
pub seam_to : (i : ℕ) (a b : Level) (x y : Entry) → i + 1 ≡ length_of a → entry_at i a ≡ Some x → entry_at 0 b ≡ Some y → IsSeam a b → AreOne x y
seam_to i end b x y long first second seam = absurd seam
seam_to zero (item s c end) end x y long first second seam = absurd seam
seam_to zero (item s c end) (item t d more) x y long first second seam =
    subst (λ (w : Entry). AreOne x w) (some_known (record { span = t; below = d }) y second)
    (subst (λ (z : Entry). AreOne z (record { span = t; below = d })) (some_known (record { span = s; below = c }) x first) seam)
seam_to zero (item s c (item u e rest)) b x y long first second seam = absurd (omega (arith, long))
seam_to (suc i) (item s c end) b x y long first second seam = absurd (omega (arith, long))
seam_to (suc i) (item s c (item u e rest)) b x y long first second seam = seam_to i (item u e rest) b x y (omega (arith, long)) first second seam
