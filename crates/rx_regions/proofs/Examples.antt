-- Where conditions can be true and where false, by examples: on one part, at the positions where its regions begin.
use Rattle.std.proofs.Common.{◌≡◌, ℕ, Bool, true, false, List, [], ◌∷◌, refl}
use Rattle.std.specs.Prelude.{pos, map, Option, Some, None}
use Rattle.std.specs.declared.cmp.Ordering.TheVariants.{Less}
use Rattle.std.specs.Fmt.{take_chars}
use Rattle.std.specs.Str.{is_utf8, chars}
use Rattle.rx_value.specs.declared.values.Value.{Value}
use Rattle.rx_value.specs.declared.values.Value.TheVariants.{Null, Int, Text}
use Rattle.rx_value.specs.declared.order.End.{End}
use Rattle.rx_value.specs.Order.{value_cmp, below, above}
use Rattle.rx_value.specs.Keys.{cut_value}
use Rattle.rx_cond.specs.declared.conds.Op.TheVariants as op
use Rattle.rx_cond.specs.declared.conds.Operand.TheVariants.{Column, Constant}
use Rattle.rx_cond.specs.Tree.{Tree, compare, member, row_member, like, neg, conj, disj, none, more}
use Rattle.rx_regions.specs.Cans.{can_be}
use Rattle.rx_regions.specs.Constants.{constants}

-- an integer
abbrev i : ℕ → Value
i n = Int (pos n)

-- what a condition on column 0 can be at each of these positions of a part with this prefix length
abbrev row : Bool → Tree → Option ℕ → List End → List Bool
row sign t n ps = map (λ p. can_be sign t (record { column = 0; descending = false; chars = n } ∷ []) (p ∷ [])) ps

-- NULL, the gap below, the point 5, the gap above
abbrev five : List End
five = below Null ∷ above Null ∷ below (i 5) ∷ above (i 5) ∷ []

greater : row true (compare op.Gt (Column 0) (Constant (i 5))) None five ≡ false ∷ false ∷ false ∷ true ∷ []
greater = refl

not_greater : row false (compare op.Gt (Column 0) (Constant (i 5))) None five ≡ false ∷ true ∷ true ∷ false ∷ []
not_greater = refl

turned_round : row true (compare op.Gt (Constant (i 5)) (Column 0)) None five ≡ false ∷ true ∷ false ∷ false ∷ []
turned_round = refl

unequal : row true (compare op.Ne (Column 0) (Constant (i 5))) None five ≡ false ∷ true ∷ false ∷ true ∷ []
unequal = refl

safe_null : row true (compare op.SafeEq (Column 0) (Constant Null)) None five ≡ true ∷ false ∷ false ∷ false ∷ []
safe_null = refl

not_safe_null : row false (compare op.SafeEq (Column 0) (Constant Null)) None five ≡ false ∷ true ∷ true ∷ true ∷ []
not_safe_null = refl

-- NOT (a BETWEEN 3 AND 7): NULL, below 3, 3, between, 7, above 7
not_between : row true (neg (conj (more (compare op.Ge (Column 0) (Constant (i 3))) (more (compare op.Le (Column 0) (Constant (i 7))) none)))) None
    (below Null ∷ above Null ∷ below (i 3) ∷ above (i 3) ∷ below (i 7) ∷ above (i 7) ∷ []) ≡ false ∷ true ∷ false ∷ false ∷ false ∷ true ∷ []
not_between = refl

-- a NOT IN (1, NULL) is never true
not_in : row true (neg (member (Column 0) (i 1 ∷ Null ∷ []))) None (below Null ∷ above Null ∷ below (i 1) ∷ above (i 1) ∷ []) ≡ false ∷ false ∷ false ∷ false ∷ []
not_in = refl

-- s < 'abc' on a part of two characters keeps the point 'ab'
short : row true (compare op.Lt (Column 0) (Constant (Text (97 ∷ 98 ∷ 99 ∷ [])))) (Some 2)
    (below Null ∷ above Null ∷ below (Text (97 ∷ 98 ∷ [])) ∷ above (Text (97 ∷ 98 ∷ [])) ∷ []) ≡ false ∷ true ∷ true ∷ false ∷ []
unfolding take_chars
short = refl

-- s LIKE 'abc%': below 'abc', from 'abc' on, from 'abd' on
begins_abc : row true (like 0 (97 ∷ 98 ∷ 99 ∷ 37 ∷ [])) None
    (below Null ∷ above Null ∷ below (Text (97 ∷ 98 ∷ 99 ∷ [])) ∷ above (Text (97 ∷ 98 ∷ 99 ∷ [])) ∷ below (Text (97 ∷ 98 ∷ 100 ∷ [])) ∷ []) ≡ false ∷ false ∷ true ∷ true ∷ false ∷ []
unfolding is_utf8 chars lib.Utf8.encode
begins_abc = refl

-- s LIKE 'ab_d%': from 'ab' on, from 'ac' on; it can be false everywhere
begins_ab : row true (like 0 (97 ∷ 98 ∷ 95 ∷ 100 ∷ 37 ∷ [])) None
    (above Null ∷ below (Text (97 ∷ 98 ∷ [])) ∷ above (Text (97 ∷ 98 ∷ [])) ∷ below (Text (97 ∷ 99 ∷ [])) ∷ []) ≡ false ∷ true ∷ true ∷ false ∷ []
unfolding is_utf8 chars lib.Utf8.encode
begins_ab = refl

not_begins_ab : row false (like 0 (97 ∷ 98 ∷ 95 ∷ 100 ∷ 37 ∷ [])) None (below Null ∷ above Null ∷ below (Text (97 ∷ 98 ∷ [])) ∷ []) ≡ true ∷ true ∷ true ∷ []
not_begins_ab = refl

-- Bytes that are no UTF-8 can change places where they are cut: 97 130 comes before 97 200, but cut to one character 97 130 comes behind 97.
uncut : value_cmp (Text (97 ∷ 130 ∷ [])) (Text (97 ∷ 200 ∷ [])) ≡ Less
uncut = refl

no_text : row true (compare op.Lt (Column 0) (Constant (Text (97 ∷ 200 ∷ [])))) (Some 1) (below (cut_value (Some 1) (Text (97 ∷ 130 ∷ []))) ∷ []) ≡ false ∷ []
unfolding take_chars
no_text = refl

-- the constants of a condition on column 0, for a part with this prefix length
abbrev of_part : Tree → Option ℕ → List Value
of_part t n = constants t (record { column = 0; descending = false; chars = n })

-- s LIKE 'abc%': 'abc' and 'abd', but on a part of two characters 'ab' alone
bounds_of_abc : of_part (like 0 (97 ∷ 98 ∷ 99 ∷ 37 ∷ [])) None ≡ Text (97 ∷ 98 ∷ 99 ∷ []) ∷ Text (97 ∷ 98 ∷ 100 ∷ []) ∷ []
unfolding is_utf8 chars lib.Utf8.encode
bounds_of_abc = refl

point_of_abc : of_part (like 0 (97 ∷ 98 ∷ 99 ∷ 37 ∷ [])) (Some 2) ≡ Text (97 ∷ 98 ∷ []) ∷ []
unfolding is_utf8 chars lib.Utf8.encode take_chars
point_of_abc = refl

-- a IN (1, NULL) OR b = 2 OR (a, b) IN ((3, 4)): 1 and 3
listed : of_part (disj (more (member (Column 0) (i 1 ∷ Null ∷ [])) (more (compare op.Eq (Column 1) (Constant (i 2))) (more (row_member (0 ∷ 1 ∷ []) ((i 3 ∷ i 4 ∷ []) ∷ [])) none)))) None ≡ i 1 ∷ i 3 ∷ []
listed = refl
