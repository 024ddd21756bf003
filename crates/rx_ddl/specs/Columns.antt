-- Columns as they are declared.
use Rattle.std.specs.Prelude.{ℕ, List, [], codes, Option, Some, None}
use Rattle.std.specs.Option.{option_or}
use Rattle.rx_token.specs.declared.kinds.Token.{Token}
use Rattle.rx_token.specs.declared.signs.TheConstants.{OPEN, PLUS, MINUS}
use Rattle.rx_reading.specs.Reading.{Reader, ◌>>=◌, after_word, after_sign, word_at, name_at, text_at, number_at, past, many_at, enclosed_at}
use Rattle.rx_reading.specs.declared.items.Separator.TheVariants.{Nothing}
use Rattle.rx_ddl.specs.declared.statements.Argument.{Argument}
use Rattle.rx_ddl.specs.declared.statements.Argument.TheVariants.{Number as Count, Text}
use Rattle.rx_ddl.specs.declared.statements.Attribute.{Attribute}
use Rattle.rx_ddl.specs.declared.statements.Attribute.TheVariants.{Unsigned, Zerofill, NotNull, Null, CharacterSet, Collate, Other}
use Rattle.rx_ddl.specs.declared.statements.ColumnDefinition.{ColumnDefinition}

-- a number as an argument
abbrev pub number_argument_at : Reader Argument
number_argument_at ts = number_at ts >>= λ n. Some (Count n.0, n.1)

-- a text as an argument
abbrev pub text_argument_at : Reader Argument
text_argument_at ts = text_at ts >>= λ text. Some (Text text.0, text.1)

-- arg := number | string
abbrev pub argument_at : Reader Argument
argument_at ts = option_or (number_argument_at ts) (text_argument_at ts)

-- the arguments where a parenthesis opens, and none where it doesn't
abbrev pub arguments_of : List Token → Option (List Token) → Option (List Argument × List Token)
arguments_of ts None = Some ([], ts)
arguments_of ts (Some behind) = enclosed_at argument_at ts

-- ["(" arg {"," arg} ")"]
unfoldable pub arguments_at : Reader (List Argument)
arguments_at ts = arguments_of ts (after_sign OPEN ts)

-- an attribute that is one word
abbrev pub mark_at : List ℕ → Attribute → Reader Attribute
mark_at word attribute ts = after_word word ts >>= λ rest. Some (attribute, rest)

-- NOT NULL
abbrev pub not_null_at : Reader Attribute
not_null_at ts = after_word (codes "NOT") ts >>= mark_at (codes "NULL") NotNull

-- UNSIGNED | ZEROFILL | NOT NULL | NULL | AUTO_INCREMENT
unfoldable pub marked_at : Reader Attribute
marked_at ts =
    option_or (mark_at (codes "UNSIGNED") Unsigned ts)
    (option_or (mark_at (codes "ZEROFILL") Zerofill ts)
    (option_or (not_null_at ts)
    (option_or (mark_at (codes "NULL") Null ts)
    (mark_at (codes "AUTO_INCREMENT") Other ts))))

-- the tokens behind a text
abbrev pub past_text : List Token → Option (List Token)
past_text ts = text_at ts >>= λ text. Some text.1

-- the tokens behind a word
abbrev pub past_word : List Token → Option (List Token)
past_word ts = word_at ts >>= λ word. Some word.1

-- the tokens behind a number
abbrev pub past_number : List Token → Option (List Token)
past_number ts = number_at ts >>= λ n. Some n.1

-- the tokens behind a number with a sign
abbrev pub past_signed : ℕ → List Token → Option (List Token)
past_signed sign ts = after_sign sign ts >>= past_number

-- the tokens behind string | NULL | ["+"|"-"] number | word, where the word may be a reserved one
unfoldable pub past_default : List Token → Option (List Token)
past_default ts =
    option_or (past_text ts)
    (option_or (past_word ts)
    (option_or (past_number ts)
    (option_or (past_signed PLUS ts) (past_signed MINUS ts))))

-- COMMENT string
abbrev pub past_comment : List Token → Option (List Token)
past_comment ts = after_word (codes "COMMENT") ts >>= past_text

-- COMMENT string | DEFAULT (string | NULL | ["+"|"-"] number | word)
abbrev pub other_at : Reader Attribute
other_at ts = option_or (past_comment ts) (after_word (codes "DEFAULT") ts >>= past_default) >>= λ rest. Some (Other, rest)

-- CHARACTER SET word
abbrev pub character_set_at : Reader Attribute
character_set_at ts =
    after_word (codes "CHARACTER") ts >>= λ behind. after_word (codes "SET") behind >>= λ set. word_at set >>= λ word.
    Some (CharacterSet word.0, word.1)

-- COLLATE word
abbrev pub collate_at : Reader Attribute
collate_at ts = after_word (codes "COLLATE") ts >>= λ behind. word_at behind >>= λ word. Some (Collate word.0, word.1)

-- an attribute
unfoldable pub attribute_at : Reader Attribute
attribute_at ts = option_or (marked_at ts) (option_or (other_at ts) (option_or (character_set_at ts) (collate_at ts)))

-- {attr}
abbrev pub attributes_at : Reader (List Attribute)
attributes_at ts = many_at (past Nothing) attribute_at ts

-- name word ["(" arg {"," arg} ")"] {attr}
unfoldable pub column_at : Reader ColumnDefinition
column_at ts =
    name_at ts >>= λ name. word_at name.1 >>= λ kind. arguments_at kind.1 >>= λ arguments. attributes_at arguments.1 >>= λ attributes.
    Some (record { name = name.0; kind = kind.0; arguments = arguments.0; attributes = attributes.0 }, attributes.1)
