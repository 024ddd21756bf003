-- The tuples of positions that a tree holds. A list says of each part whether it may be NULL.
use Rattle.std.specs.Prelude.{◌≡◌, ◌&&◌, ◌||◌, Bool, true, false, List, [], ◌∷◌}
use Rattle.rx_value.specs.declared.order.End.{End}
use Rattle.rx_value.specs.declared.order.End.TheVariants.{Last}
use Rattle.rx_value.specs.Spans.{IsAtMost, IsBelow, is_inside, first_end}
use Rattle.rx_tree.specs.Tree.{Level, Tree, is_end}
use Rattle.rx_tree.specs.Tree.Level.{end, item}
use Rattle.rx_tree.specs.Tree.Tree.{everything, nothing, items}

-- a position of a part: a cut that isn't below the first one
pub record IsPosition (nullable : Bool) (p : End) : Type 0 where
  pub from : IsAtMost (first_end nullable) p
  pub cut : IsBelow p Last

-- one position of each part
abbrev pub IsTuple : List Bool → List End → Type 0
IsTuple [] [] = Unit {0}
IsTuple (n ∷ ns) (p ∷ ps) = IsPosition n p × IsTuple ns ps
IsTuple _ _ = ⊥

-- A level holds a tuple where the first position is in an item's span, and that item has no child or the rest is in the child.
abbrev pub level_holds : Level → List End → Bool
level_holds end ps = false
level_holds (item s c rest) [] = false
level_holds (item s c rest) (p ∷ ps) = (is_inside s p && (is_end c || level_holds c ps)) || level_holds rest (p ∷ ps)

-- what goes on below an item: all, where it has no child
abbrev pub child_holds : Level → List End → Bool
child_holds c ps = is_end c || level_holds c ps

-- Everything holds all tuples, and nothing none.
abbrev pub holds : Tree → List End → Bool
holds everything ps = true
holds nothing ps = false
holds (items l) ps = level_holds l ps

-- two trees over these parts hold the same tuples
abbrev pub HoldSame : List Bool → Tree → Tree → Type 0
HoldSame parts t u = (ps : List End) → IsTuple parts ps → holds t ps ≡ holds u ps
