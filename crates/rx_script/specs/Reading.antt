-- Reading a whole segment.
use Rattle.std.specs.Prelude.{List, Option}
use Rattle.std.specs.Option.{option_or, option_map}
use Rattle.rx_token.specs.declared.kinds.Token.{Token}
use Rattle.rx_script.specs.Statements.{Written, select, change}
use Rattle.rx_script.specs.Selects.{select_at}
use Rattle.rx_script.specs.Sets.{set_at}

-- the tokens are a SELECT or a SET
unfoldable pub statement_at : List Token → Option Written
statement_at ts = option_or (option_map (λ s. select s) (select_at ts)) (option_map (λ settings. change settings) (set_at ts))
