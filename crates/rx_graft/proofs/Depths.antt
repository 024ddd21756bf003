-- Levels hung below, by the parts of the level.
use Rattle.std.proofs.Common.{◌≡◌, ◌+◌, ◌<◌, max, arith, ℕ, zero, suc, List, [], ◌∷◌, drop, length, slice_get, Option, Some, refl, ap, sym, ◌∙◌}
use Rattle.slab.specs.Slab.{Slab}
use Rattle.rx_value.specs.declared.order.Span.{Span}
use Rattle.rx_tree.specs.Tree.{Level, level_size}
use Rattle.rx_tree.specs.Tree.Level.{end, item}
use Rattle.rx_tree.specs.Join.{join_level}
use Rattle.rx_tree.proofs.Joining.{size-join}
use Rattle.rx_level.specs.declared.nodes.Node.{Node}
use Rattle.rx_level.specs.Step.{level_of}
use Rattle.rx_graft.specs.Hang.{in_place, hung, hung_below, depth_of}
use Rattle.rx_graft.specs.Made.{levels_of}

pub hung_end : (ds : List Level) → hung ds end ≡ end
hung_end [] = refl
hung_end (d ∷ ds) = refl

hung_none : (l : Level) → hung [] l ≡ end
hung_none end = refl
hung_none (item s c rest) = refl

pub hung-join : (ds : List Level) (a b : Level) → hung ds (join_level a b) ≡ join_level (hung ds a) (hung ds b)
hung-join [] end b = refl
hung-join [] (item s c rest) b = sym (hung_none b)
hung-join (d ∷ ds) end b = refl
hung-join (d ∷ ds) (item s c rest) b = ap (item s (in_place d c (hung ds c))) (hung-join (d ∷ ds) rest b)

pub depth-join : (a b : Level) → depth_of (join_level a b) ≡ max (depth_of a) (depth_of b)
depth-join end b = omega arith
depth-join (item s c rest) b = let e = depth-join rest b in omega (arith, e)

-- an item between two levels, hung below
pub hung_whole : (d : Level) (ds xs : List Level) (s : Span) (whole before below after : Level) → xs ≡ d ∷ ds → whole ≡ join_level before (item s below after)
    → hung xs whole ≡ join_level (hung xs before) (item s (hung_below xs below) (hung xs after))
hung_whole d ds xs s whole before below after is opened =
    ap (λ ys. hung ys whole) is
    ∙ ap (hung (d ∷ ds)) opened
    ∙ hung-join (d ∷ ds) before (item s below after)
    ∙ ap (λ ys. join_level (hung ys before) (item s (hung_below ys below) (hung ys after))) (sym is)

-- the list of levels from a link on
pub links_from : (s : Slab Node) (links : List (Option ℕ)) (i : ℕ) → i < length links → (link : Option ℕ) → slice_get links i ≡ Some link → drop i (levels_of s links) ≡ level_of s link ∷ drop (suc i) (levels_of s links)
links_from s [] i within link is = absurd (omega (arith, within))
links_from s (r ∷ rest) zero within link is = let same : r ≡ link = cc is in ap (λ x. level_of s x ∷ levels_of s rest) same
links_from s (r ∷ rest) (suc i) within link is = links_from s rest i (omega (arith, within)) link is

-- where a list goes on there is one to hang
pub record Onward (s : Slab Node) (links : List (Option ℕ)) (i : ℕ) : Type 0 where
  pub link : Option ℕ
  pub is : drop i (levels_of s links) ≡ level_of s link ∷ drop (suc i) (levels_of s links)

pub onward : (s : Slab Node) (links : List (Option ℕ)) (i : ℕ) → i < length links → Onward s links i
onward s [] i within = absurd (omega (arith, within))
onward s (r ∷ rest) zero within = record { link = r; is = refl }
onward s (r ∷ rest) (suc i) within = let o = onward s rest i (omega (arith, within)) in record { link = o.link; is = o.is }

-- the parts of a level are smaller, and go less far down
pub record Smaller (whole below before after : Level) : Type 0 where
  pub child : level_size below < level_size whole
  pub left : level_size before < level_size whole
  pub right : level_size after < level_size whole
  pub deep : depth_of whole ≡ max (depth_of before) (max (1 + depth_of below) (depth_of after))

pub smaller : (whole below before after : Level) (span : Span) → whole ≡ join_level before (item span below after) → Smaller whole below before after
smaller whole below before after span e =
    let size : level_size whole ≡ level_size before + (1 + level_size below + level_size after) = ap level_size e ∙ size-join before (item span below after) in
    record {
      child = omega (arith, size);
      left = omega (arith, size);
      right = omega (arith, size);
      deep = ap depth_of e ∙ depth-join before (item span below after);
    }

pub some_item : (a : Level) (s : Span) (c b : Level) → join_level a (item s c b) ≡ end → ⊥
some_item end s c b e = cc e
some_item (item t d rest) s c b e = cc e

pub in_place_some : (d c x : Level) → (c ≡ end → ⊥) → in_place d c x ≡ x
in_place_some d end x some = absurd (some refl)
in_place_some d (item s c rest) x some = refl

-- what hangs below a level without items, and below one with some
pub below_none : (d : Level) (ds xs : List Level) (c : Level) → xs ≡ d ∷ ds → c ≡ end → hung_below xs c ≡ d
below_none d ds xs c is none = ap (λ ys. hung_below ys c) is ∙ ap (λ y. in_place d y (hung ds y)) none

pub below_some : (d : Level) (ds xs : List Level) (c : Level) → xs ≡ d ∷ ds → (c ≡ end → ⊥) → hung_below xs c ≡ hung ds c
below_some d ds xs c is some = ap (λ ys. hung_below ys c) is ∙ in_place_some d c (hung ds c) some
