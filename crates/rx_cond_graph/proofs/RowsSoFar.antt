-- A set of keys made of others one after another, and what is left of them.
use Rattle.std.proofs.Common.{arith, ◌≡◌, ◌&&◌, ◌||◌, ℕ, Option, Some, None, Bool, true, false, List, [], ◌∷◌, refl, ap, sym, ◌∙◌, subst}
use Rattle.std.proofs.Math.Bool.{and_assoc, or_assoc, and-true, or-false}
use Rattle.rx_value.specs.declared.values.Value.{Value}
use Rattle.rx_value.specs.declared.values.Value.TheVariants.{Null, Int, Text}
use Rattle.rx_value.specs.declared.shapes.Part.{Part}
use Rattle.rx_value.specs.declared.order.End.{End}
use Rattle.rx_value.specs.Keys.{cut_value}
use Rattle.rx_cond.specs.declared.conds.Op.TheVariants.{Eq}
use Rattle.rx_regions.specs.Places.{is_at_some}
use Rattle.rx_regions.specs.Cans.{at_spot, compares, spot_of}
use Rattle.rx_regions.specs.Places.{is_at, place}
use Rattle.std.specs.declared.cmp.Ordering.TheVariants.{Less}
use Rattle.rx_cond.specs.Test.{is_null_value}
use Rattle.rx_single.specs.Single.{flags_of, says}
use Rattle.rx_single.proofs.Comparisons.{compares_says, cut_some, null_is_less}
use Rattle.rx_graph.specs.declared.handles.Root.{Root}
use Rattle.rx_graph.specs.Graph.{Graph, Steps, tree_in}
use Rattle.rx_sets.specs.Sets.{KeySet, IsTreeOf}
use Rattle.rx_cond_graph.specs.Giving.{GivesTreeOf, agree_all, agree_any, combined}
use Rattle.rx_cond_graph.proofs.Sames.{gives_same}
use Rattle.rx_cond_graph.proofs.Going.{joined_step, tree_kept}

-- what is made so far, and with what is left it makes the whole
pub record SoFar (whole left : KeySet) (meets : Bool) (old new : Graph) (made : Root) : Type 0 where
  pub set : KeySet
  pub gives : GivesTreeOf set old new made
  pub makes : (ps : List End) → combined meets set left ps ≡ whole ps

unit : (meets : Bool) (f : KeySet) (ps : List End) → combined meets (λ qs. meets) f ps ≡ f ps
unit true f ps = refl
unit false f ps = refl

-- nothing is made yet
pub so_far_first : (whole : KeySet) (meets : Bool) (old new : Graph) (made : Root) → GivesTreeOf (λ ps. meets) old new made → SoFar whole whole meets old new made
so_far_first whole meets old new made gives = record { set = λ ps. meets; gives = gives; makes = unit meets whole }

joined_twice : (meets : Bool) (f g h : KeySet) (ps : List End) → combined meets (combined meets f g) h ps ≡ combined meets f (combined meets g h) ps
joined_twice true f g h ps = and_assoc (f ps) (g ps) (h ps)
joined_twice false f g h ps = or_assoc (f ps) (g ps) (h ps)

inside : (meets : Bool) (f g h : KeySet) (ps : List End) → g ps ≡ h ps → combined meets f g ps ≡ combined meets f h ps
inside true f g h ps same = ap (λ x. f ps && x) same
inside false f g h ps same = ap (λ x. f ps || x) same

-- one more is joined
pub so_far_next : (whole left next more : KeySet) (meets : Bool) (a b c d : Graph) (w n r : Root) → SoFar whole left meets a b w
    → ((ps : List End) → combined meets next more ps ≡ left ps) → GivesTreeOf next b c n → Steps c d (w ∷ n ∷ []) (r ∷ [])
    → ((e f : KeySet) → IsTreeOf c.nullable e (tree_in c w) → IsTreeOf c.nullable f (tree_in c n) → IsTreeOf c.nullable (combined meets e f) (tree_in d r))
    → SoFar whole more meets a d r
so_far_next whole left next more meets a b c d w n r so_far splits gives step joins =
    let parts : c.nullable ≡ a.nullable = gives.step.parts ∙ so_far.gives.step.parts in
    let second : IsTreeOf c.nullable next (tree_in c n) = subst (λ (ns : List Bool). IsTreeOf ns next (tree_in c n)) (sym gives.step.parts) gives.tree in
    record {
      set = combined meets so_far.set next;
      gives = record {
        step = joined_step a b c d w n r so_far.gives.step gives.step step;
        tree = subst (λ (ns : List Bool). IsTreeOf ns (combined meets so_far.set next) (tree_in d r)) parts
            (joins so_far.set next (tree_kept a b c w (n ∷ []) so_far.set so_far.gives gives.step) second);
      };
      makes = λ ps. joined_twice meets so_far.set next more ps ∙ inside meets so_far.set (combined meets next more) left ps (splits ps) ∙ so_far.makes ps;
    }

done : (meets : Bool) (f left : KeySet) (ps : List End) → left ps ≡ meets → combined meets f left ps ≡ f ps
done true f left ps none = ap (λ x. f ps && x) none ∙ and-true (f ps)
done false f left ps none = ap (λ x. f ps || x) none ∙ or-false (f ps)

-- nothing is left
pub so_far_last : (whole left : KeySet) (meets : Bool) (old new : Graph) (made : Root) → ((ps : List End) → left ps ≡ meets) → SoFar whole left meets old new made
    → GivesTreeOf whole old new made
so_far_last whole left meets old new made none so_far =
    gives_same so_far.set whole old new made (λ ps tuple. sym (done meets so_far.set left ps (none ps)) ∙ so_far.makes ps) so_far.gives

said_equal : (n : Option ℕ) (w : Value) (p : End) → is_null_value w ≡ false → (is_at p Null ≡ true → place p w ≡ Less) → says (flags_of true Eq n) w p ≡ is_at_some p w
said_equal n w p some less = grind arith

equal_some : (n : Option ℕ) (v : Value) (p : End) → is_null_value v ≡ false → compares true Eq v n p ≡ is_at_some p (cut_value n v)
equal_some n v p some =
    let cut : is_null_value (cut_value n v) ≡ false = cut_some n v ∙ some in
    sym (compares_says true Eq n p v some) ∙ said_equal n (cut_value n v) p cut (null_is_less (cut_value n v) p cut)

equal_null : (n : Option ℕ) (p : End) → compares true Eq Null n p ≡ is_at_some p (cut_value n Null)
equal_null n p = grind arith

-- a comparison with a value is true where the value stands
pub equal_is : (v : Value) (n : Option ℕ) (p : End) → compares true Eq v n p ≡ is_at_some p (cut_value n v)
equal_is Null n p = equal_null n p
equal_is (Int m) n p = equal_some n (Int m) p refl
equal_is (Text t) n p = equal_some n (Text t) p refl

at_same : (v : Value) (s : Option (Part × End)) → at_spot (compares true Eq v) s ≡ at_spot (λ n p. is_at_some p (cut_value n v)) s
at_same v None = refl
at_same v (Some s) = equal_is v s.0.chars s.1

-- the values of a key, the first one and the others
pub agree_step : (parts : List Part) (column : ℕ) (more : List ℕ) (value : Value) (others : List Value) (columns : List ℕ) (values : List Value) → columns ≡ column ∷ more → values ≡ value ∷ others
    → (ps : List End) → combined true (λ qs. at_spot (compares true Eq value) (spot_of column parts qs)) (agree_all parts more others) ps ≡ agree_all parts columns values ps
agree_step parts column more value others columns values is was ps =
    ap (λ x. x && agree_all parts more others ps) (at_same value (spot_of column parts ps))
    ∙ sym (ap (λ x. agree_all parts x values ps) is ∙ ap (λ x. agree_all parts (column ∷ more) x ps) was)

-- the lists of values of a row test, the first one and the others
pub any_step : (parts : List Part) (columns : List ℕ) (key : List Value) (more left : List (List Value)) → left ≡ key ∷ more
    → (ps : List End) → combined false (agree_all parts columns key) (agree_any parts columns more) ps ≡ agree_any parts columns left ps
any_step parts columns key more left is ps = sym (ap (λ x. agree_any parts columns x ps) is)
