-- Reading select lists.
use Rattle.std.specs.Prelude.{ℕ, Bool, true, false, List, codes, Option, Some, None}
use Rattle.std.specs.Option.{option_or}
use Rattle.rx_token.specs.declared.kinds.Token.{Token}
use Rattle.rx_token.specs.declared.signs.TheConstants.{OPEN, CLOSE, COMMA, STAR}
use Rattle.rx_reading.specs.Reading.{Reader, ◌>>=◌, after_word, after_sign, name_at, items_at}
use Rattle.rx_script.specs.declared.statements.Aggregate.{Aggregate}
use Rattle.rx_script.specs.declared.statements.Aggregate.TheVariants.{Count, Sum, Min, Max}
use Rattle.rx_script.specs.declared.statements.RawItem.{RawItem}
use Rattle.rx_script.specs.declared.statements.RawItem.TheVariants.{Column, CountRows, CountDistinct, Of}
use Rattle.rx_script.specs.declared.statements.RawItems.{RawItems}
use Rattle.rx_script.specs.declared.statements.RawItems.TheVariants.{Every, Listed}

-- a word, and what stands between parentheses behind it
abbrev pub called_at : {A : Type 0} → List ℕ → Reader A → Reader A
called_at word inner ts =
    after_word word ts >>= λ front. after_sign OPEN front >>= λ behind. inner behind >>= λ x. after_sign CLOSE x.1 >>= λ rest.
    Some (x.0, rest)

-- the column of an aggregate
abbrev pub of_at : Aggregate → Reader RawItem
of_at aggregate ts = name_at ts >>= λ name. Some (Of aggregate name.0, name.1)

-- "*"
abbrev pub rows_at : Reader RawItem
rows_at ts = after_sign STAR ts >>= λ rest. Some (CountRows, rest)

-- DISTINCT name {"," name}
abbrev pub different_at : Reader RawItem
different_at ts =
    after_word (codes "DISTINCT") ts >>= λ behind. items_at (after_sign COMMA) name_at behind >>= λ names.
    Some (CountDistinct names.0, names.1)

-- what stands between the parentheses of COUNT
unfoldable pub counted_at : Reader RawItem
counted_at ts = option_or (rows_at ts) (option_or (different_at ts) (of_at Count ts))

-- name
abbrev pub column_at : Reader RawItem
column_at ts = name_at ts >>= λ name. Some (Column name.0, name.1)

-- name | COUNT "(" "*" ")" | COUNT "(" DISTINCT name {"," name} ")" | (COUNT|SUM|MIN|MAX) "(" name ")"
unfoldable pub item_at : Reader RawItem
item_at ts =
    option_or (called_at (codes "COUNT") counted_at ts)
    (option_or (called_at (codes "SUM") (of_at Sum) ts)
    (option_or (called_at (codes "MIN") (of_at Min) ts)
    (option_or (called_at (codes "MAX") (of_at Max) ts) (column_at ts))))

-- "*"
abbrev pub every_at : Reader RawItems
every_at ts = after_sign STAR ts >>= λ rest. Some (Every, rest)

-- item {"," item}
abbrev pub listed_at : Reader RawItems
listed_at ts = items_at (after_sign COMMA) item_at ts >>= λ list. Some (Listed list.0, list.1)

-- "*" | item {"," item}
abbrev pub select_list_at : Reader RawItems
select_list_at ts = option_or (every_at ts) (listed_at ts)

-- whether DISTINCT stands there, by what follows DISTINCT and ALL
abbrev pub quantity_of : List Token → Option (List Token) → Option (List Token) → Bool × List Token
quantity_of ts None None = (false, ts)
quantity_of ts (Some rest) all = (true, rest)
quantity_of ts None (Some rest) = (false, rest)

-- [DISTINCT|ALL]
abbrev pub quantity_at : List Token → Bool × List Token
quantity_at ts = quantity_of ts (after_word (codes "DISTINCT") ts) (after_word (codes "ALL") ts)
