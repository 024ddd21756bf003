-- What the questions of a script keep, whatever the script is.
use Rattle.std.specs.Prelude.{◌≡◌, ℕ, ◌<◌, true, length, All}
use Rattle.rx_value.specs.declared.shapes.Schema.{Schema}
use Rattle.rx_cond.specs.Columns.{columns_of}
use Rattle.rx_query.specs.declared.statements.By.{By}
use Rattle.rx_query.specs.declared.statements.By.TheVariants.{Column, Place}
use Rattle.rx_query.specs.Steps.{Question, Request, Step, columns_listed}
use Rattle.rx_query.specs.Steps.Request.{select, change}
use Rattle.rx_query.specs.Grouping.{grouped}

-- a column of so many, or a place of so many
abbrev pub ByWithin : ℕ → ℕ → By → Type 0
ByWithin columns places (Column n) = n < columns
ByWithin columns places (Place n) = n < places

-- A question names columns of the schema and places of its select list, says of each index whether it may be used, and
-- no column of it stands for many rows at once.
pub record IsQuestion (schema : Schema) (q : Question) : Type 0 where
  pub items : All (λ n. n < length schema.columns) (columns_listed q.items)
  pub cond : All (λ n. n < length schema.columns) (columns_of q.cond)
  pub group : All (λ n. n < length schema.columns) q.group
  pub order : All (λ o. ByWithin (length schema.columns) (length q.items) o.by) q.order
  pub usable : length q.usable ≡ length schema.indexes
  pub by_group : grouped q ≡ true

-- a SELECT asks such a question
abbrev pub IsRequest : Schema → Request → Type 0
IsRequest schema (select q) = IsQuestion schema q
IsRequest schema (change settings) = Unit {0}

-- the same of a step
abbrev pub IsStep : Schema → Step → Type 0
IsStep schema step = IsRequest schema step.request
