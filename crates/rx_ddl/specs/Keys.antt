-- Keys as they are declared.
use Rattle.std.specs.Prelude.{ℕ, List, codes, Option, Some, None}
use Rattle.std.specs.Option.{option_or}
use Rattle.rx_token.specs.declared.kinds.Token.{Token}
use Rattle.rx_token.specs.declared.signs.TheConstants.{OPEN, CLOSE}
use Rattle.rx_reading.specs.Reading.{Reader, ◌>>=◌, after_word, after_sign, word_at, name_at, number_at, after_key, direction_at, past, many_at, enclosed_at}
use Rattle.rx_reading.specs.declared.items.Separator.TheVariants.{Nothing}
use Rattle.rx_ddl.specs.declared.statements.KeyKind.{KeyKind}
use Rattle.rx_ddl.specs.declared.statements.KeyKind.TheVariants.{Primary, Unique, Plain, Fulltext, Spatial}
use Rattle.rx_ddl.specs.declared.statements.KeyPart.{KeyPart}
use Rattle.rx_ddl.specs.declared.statements.Method.{Method}
use Rattle.rx_ddl.specs.declared.statements.Method.TheVariants.{Using, Comment}
use Rattle.rx_ddl.specs.declared.statements.KeyDefinition.{KeyDefinition}
use Rattle.rx_ddl.specs.Columns.{past_comment}

-- the prefix length behind a parenthesis, and none where there isn't one
abbrev pub prefix_of : List Token → Option (List Token) → Option (Option ℕ × List Token)
prefix_of ts None = Some (None, ts)
prefix_of ts (Some behind) = number_at behind >>= λ n. after_sign CLOSE n.1 >>= λ rest. Some (Some n.0, rest)

-- ["(" number ")"]
abbrev pub prefix_at : Reader (Option ℕ)
prefix_at ts = prefix_of ts (after_sign OPEN ts)

-- name ["(" number ")"] [ASC|DESC]
unfoldable pub part_at : Reader KeyPart
part_at ts =
    name_at ts >>= λ name. prefix_at name.1 >>= λ chars. let direction = direction_at chars.1 in
    Some (record { column = name.0; prefix = chars.0; descending = direction.0 }, direction.1)

-- USING word
abbrev pub using_at : Reader Method
using_at ts = after_word (codes "USING") ts >>= λ behind. word_at behind >>= λ word. Some (Using word.0, word.1)

-- COMMENT string
abbrev pub remark_at : Reader Method
remark_at ts = past_comment ts >>= λ rest. Some (Comment, rest)

-- USING word | COMMENT string
abbrev pub method_at : Reader Method
method_at ts = option_or (using_at ts) (remark_at ts)

-- {USING word | COMMENT string}
abbrev pub methods_at : Reader (List Method)
methods_at ts = many_at (past Nothing) method_at ts

-- a word that a key of some kind begins with
abbrev pub kind_mark_at : List ℕ → KeyKind → Reader KeyKind
kind_mark_at word kind ts = after_word word ts >>= λ rest. Some (kind, rest)

-- KEY or INDEX, which stays
abbrev pub plain_mark_at : Reader KeyKind
plain_mark_at ts = after_key ts >>= λ rest. Some (Plain, ts)

-- What a key begins with, PRIMARY, UNIQUE, FULLTEXT, SPATIAL, or KEY or INDEX, and the tokens from KEY or INDEX on.
unfoldable pub key_kind_at : Reader KeyKind
key_kind_at ts =
    option_or (kind_mark_at (codes "PRIMARY") Primary ts)
    (option_or (kind_mark_at (codes "UNIQUE") Unique ts)
    (option_or (kind_mark_at (codes "FULLTEXT") Fulltext ts)
    (option_or (kind_mark_at (codes "SPATIAL") Spatial ts) (plain_mark_at ts))))

-- behind PRIMARY stands KEY without a name, behind the others KEY or INDEX and a name
abbrev pub key_name_at : KeyKind → Reader (List ℕ)
key_name_at Primary ts = after_word (codes "KEY") ts >>= λ rest. Some (codes "PRIMARY", rest)
key_name_at Unique ts = after_key ts >>= name_at
key_name_at Plain ts = after_key ts >>= name_at
key_name_at Fulltext ts = after_key ts >>= name_at
key_name_at Spatial ts = after_key ts >>= name_at

-- a key of this kind, from KEY or INDEX on
unfoldable pub key_at : KeyKind → Reader KeyDefinition
key_at kind ts =
    key_name_at kind ts >>= λ name. enclosed_at part_at name.1 >>= λ parts. methods_at parts.1 >>= λ methods.
    Some (record { kind = kind; name = name.0; parts = parts.0; methods = methods.0 }, methods.1)
