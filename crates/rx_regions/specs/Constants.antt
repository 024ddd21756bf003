-- The constants of a condition, and positions that stand alike to them: those of one region.
use Rattle.std.specs.Prelude.{◌≡◌, ℕ, ◌==◌, ◌||◌, if◌then◌else◌, List, [], ◌∷◌, ◌++◌, Option}
use Rattle.std.specs.List.{flat_map, zip}
use Rattle.rx_value.specs.declared.values.Value.{Value}
use Rattle.rx_value.specs.declared.values.Value.TheVariants.{Null, Text}
use Rattle.rx_value.specs.declared.order.End.{End}
use Rattle.rx_value.specs.declared.shapes.Part.{Part}
use Rattle.rx_value.specs.Order.{is_at_most, below, above}
use Rattle.rx_value.specs.Keys.{cut_value}
use Rattle.rx_like.specs.Pattern.{literal_prefix, is_plain}
use Rattle.rx_cond.specs.declared.conds.Operand.TheVariants.{Column, Constant}
use Rattle.rx_cond.specs.Tree.{Tree, Trees, truth, compare, member, row_member, is_null, like, neg, conj, disj, none, more}
use Rattle.rx_regions.specs.Places.{raised}
use Rattle.rx_regions.specs.Cans.{fills}

-- a constant as the part has it, where it isn't NULL
abbrev pub constant : Option ℕ → Value → List Value
constant n Null = []
constant n v = cut_value n v ∷ []

-- a prefix raised, where there is one
abbrev pub listed_raised : List ℕ → List Value
listed_raised [] = []
listed_raised (b ∷ bs) = Text (raised (b ∷ bs)) ∷ []

-- The constants of LIKE: its prefix as the part has it, and where there is a wildcard and the part has room for more than the prefix also the raised one.
abbrev pub like_constants : Option ℕ → List ℕ → List Value
like_constants n pattern =
    cut_value n (Text (literal_prefix pattern))
    ∷ (if is_plain pattern || fills n (literal_prefix pattern) then [] else listed_raised (literal_prefix pattern))

-- these, where the part is of this column
abbrev pub on_column : ℕ → Part → List Value → List Value
on_column column part values = if part.column == column then values else []

abbrev mutual
  -- the constants that a condition compares a part with
  pub constants : Tree → Part → List Value
  constants (truth t) part = []
  constants (compare op (Column c) (Constant v)) part = on_column c part (constant part.chars v)
  constants (compare op (Constant v) (Column c)) part = on_column c part (constant part.chars v)
  constants (compare op (Constant u) (Constant v)) part = []
  constants (compare op (Column c) (Column d)) part = []
  constants (member (Column c) list) part = on_column c part (flat_map (constant part.chars) list)
  constants (member (Constant v) list) part = []
  constants (row_member columns list) part = flat_map (λ key. flat_map (λ e. on_column e.0 part (constant part.chars e.1)) (zip columns key)) list
  constants (is_null operand) part = []
  constants (like c pattern) part = on_column c part (like_constants part.chars pattern)
  constants (neg t) part = constants t part
  constants (conj items) part = all_constants items part
  constants (disj items) part = all_constants items part

  -- the constants that these compare a part with
  pub all_constants : Trees → Part → List Value
  all_constants none part = []
  all_constants (more t ts) part = constants t part ++ all_constants ts part

-- two positions stand alike to a value: both before its point or neither, and both behind it or neither
pub record StandAlike (p q : End) (v : Value) : Type 0 where
  pub point : is_at_most (below v) p ≡ is_at_most (below v) q
  pub behind : is_at_most (above v) p ≡ is_at_most (above v) q

-- two positions stand alike to each of these values
abbrev pub AreAlike : List Value → End → End → Type 0
AreAlike [] p q = Unit {0}
AreAlike (v ∷ vs) p q = StandAlike p q v × AreAlike vs p q

-- two tuples have a position for each part, that stand alike to NULL and to the part's values
abbrev pub AllAlike : (Part → List Value) → List Part → List End → List End → Type 0
AllAlike values [] [] [] = Unit {0}
AllAlike values (part ∷ parts) (p ∷ ps) (q ∷ qs) = AreAlike (Null ∷ values part) p q × AllAlike values parts ps qs
AllAlike values _ _ _ = ⊥
