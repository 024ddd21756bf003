-- Reading WHERE, GROUP BY and ORDER BY.
use Rattle.std.specs.Prelude.{ℕ, ◌≤◌, List, [], ◌∷◌, length, codes, Option, Some, None, IfSome}
use Rattle.std.specs.Option.{option_or}
use Rattle.rx_token.specs.declared.kinds.Token.{Token}
use Rattle.rx_token.specs.declared.signs.TheConstants.{COMMA}
use Rattle.rx_reading.specs.Reading.{Reader, Gives, ◌>>=◌, after_word, after_sign, name_at, number_in, direction_at, items_at}
use Rattle.rx_reading.specs.declared.read.Read.{Read}
use Rattle.rx_cond.specs.declared.conds.Tri.TheVariants.{T}
use Rattle.rx_where.specs.Raw.{RawTree, truth, raw_tree_of}
use Rattle.rx_where.specs.Conditions.{longest_at}
use Rattle.rx_script.specs.declared.statements.RawBy.{RawBy}
use Rattle.rx_script.specs.declared.statements.RawBy.TheVariants.{Column, Place}
use Rattle.rx_script.specs.declared.statements.RawOrder.{RawOrder}
use Rattle.rx_script.specs.declared.clauses.Clauses.{Clauses}

-- What is found, taken for what it means, is what the reader gives for these tokens, which may take none of them.
abbrev pub MaybeAs : {A B : Type 0} → (A → B) → Reader B → List Token → Option (Read A) → Type 0
MaybeAs meaning reader ts found = Gives meaning reader ts found × IfSome found (λ x. length x.rest.now ≤ length ts)

-- what is read behind a word, and what stands for it where there is no such word
abbrev pub optional_of : {A : Type 0} → A → Reader A → List Token → Option (List Token) → Option (A × List Token)
optional_of absent item ts None = Some (absent, ts)
optional_of absent item ts (Some behind) = item behind

-- [word item]
abbrev pub optional_at : {A : Type 0} → List ℕ → A → Reader A → Reader A
optional_at word absent item ts = optional_of absent item ts (after_word word ts)

-- BY item {"," item}
abbrev pub by_items_at : {A : Type 0} → Reader A → Reader (List A)
by_items_at item ts = after_word (codes "BY") ts >>= items_at (after_sign COMMA) item

-- [WHERE cond], and without it TRUE
abbrev pub where_at : Reader RawTree
where_at ts = optional_at (codes "WHERE") (truth T) longest_at ts

-- [GROUP BY name {"," name}]
abbrev pub group_at : Reader (List (List ℕ))
group_at ts = optional_at (codes "GROUP") [] (by_items_at name_at) ts

-- name
abbrev pub by_column_at : Reader RawBy
by_column_at ts = name_at ts >>= λ name. Some (Column name.0, name.1)

-- number
abbrev pub by_place_at : Reader RawBy
by_place_at [] = None
by_place_at (t ∷ ts) = number_in t.kind >>= λ n. Some (Place n t.text, ts)

-- name | number
abbrev pub by_at : Reader RawBy
by_at ts = option_or (by_column_at ts) (by_place_at ts)

-- (name | number) [ASC|DESC]
unfoldable pub order_part_at : Reader RawOrder
order_part_at ts =
    by_at ts >>= λ by. let direction = direction_at by.1 in Some (record { by = by.0; falling = direction.0 }, direction.1)

-- [ORDER BY order {"," order}]
abbrev pub order_at : Reader (List RawOrder)
order_at ts = optional_at (codes "ORDER") [] (by_items_at order_part_at) ts

-- what stands behind the table, with a condition as a tree
pub record WrittenClauses : Type 0 where
  pub cond : RawTree
  pub group : List (List ℕ)
  pub order : List RawOrder

-- clauses as they are written
abbrev pub clauses_of : Clauses → WrittenClauses
clauses_of c = record { cond = raw_tree_of c.cond; group = c.group; order = c.order }

-- [WHERE cond] [GROUP BY name {"," name}] [ORDER BY order {"," order}]
unfoldable pub clauses_at : Reader WrittenClauses
clauses_at ts =
    where_at ts >>= λ cond. group_at cond.1 >>= λ group. order_at group.1 >>= λ order.
    Some (record { cond = cond.0; group = group.0; order = order.0 }, order.1)
