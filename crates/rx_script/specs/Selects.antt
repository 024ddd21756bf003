-- Reading SELECT.
use Rattle.std.specs.Prelude.{ℕ, Bool, true, false, List, [], ◌∷◌, codes, Option, Some, None, if◌then◌else◌}
use Rattle.rx_token.specs.declared.kinds.Token.{Token}
use Rattle.rx_reading.specs.Reading.{Reader, ◌>>=◌, after_word, name_at}
use Rattle.rx_script.specs.declared.selects.Head.{Head}
use Rattle.rx_script.specs.declared.selects.Source.{Source}
use Rattle.rx_script.specs.Items.{quantity_at, select_list_at}
use Rattle.rx_script.specs.Hints.{hints_at}
use Rattle.rx_script.specs.Clauses.{WrittenClauses, clauses_at}
use Rattle.rx_script.specs.Statements.{WrittenSelect}

-- SELECT [DISTINCT|ALL] ("*" | item {"," item})
unfoldable pub head_at : Reader Head
head_at ts =
    after_word (codes "SELECT") ts >>= λ behind. let distinct = quantity_at behind in
    select_list_at distinct.1 >>= λ items. Some (record { distinct = distinct.0; items = items.0 }, items.1)

-- FROM name {hint}
unfoldable pub source_at : Reader Source
source_at ts =
    after_word (codes "FROM") ts >>= λ behind. name_at behind >>= λ table. hints_at table.1 >>= λ hints.
    Some (record { table = table.0; hints = hints.0 }, hints.1)

-- a SELECT of its parts
abbrev pub made_select : Head → Source → WrittenClauses → WrittenSelect
made_select head source clauses = record {
  distinct = head.distinct;
  items = head.items;
  table = source.table;
  hints = source.hints;
  cond = clauses.cond;
  group = clauses.group;
  order = clauses.order;
}

-- what is read, where nothing stands behind it
abbrev pub if_whole : {A : Type 0} → A → List Token → Option A
if_whole a [] = Some a
if_whole a (t ∷ ts) = None

-- the tokens are a SELECT
unfoldable pub select_at : List Token → Option WrittenSelect
select_at ts =
    head_at ts >>= λ head. source_at head.1 >>= λ source. clauses_at source.1 >>= λ clauses.
    if_whole (made_select head.0 source.0 clauses.0) clauses.1
