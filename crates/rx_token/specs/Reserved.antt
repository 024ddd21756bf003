-- The words that are names only between quotes.
use Rattle.std.specs.Prelude.{ℕ, Bool, true, false, ◌&&◌, List, [], ◌∷◌, codes}
use Rattle.std.specs.List.{list_any}
use Rattle.rx_value.specs.Names.{same_name}
use Rattle.rx_token.specs.declared.kinds.Token.{Token}
use Rattle.rx_token.specs.declared.kinds.TokenKind.{TokenKind}
use Rattle.rx_token.specs.declared.kinds.TokenKind.TheVariants.{Word, Quoted, Number, Str, Sign}

-- the reserved words
abbrev pub reserved : List (List ℕ)
reserved =
    codes "SELECT" ∷ codes "DISTINCT" ∷ codes "ALL" ∷ codes "FROM" ∷ codes "USE"
    ∷ codes "IGNORE" ∷ codes "INDEX" ∷ codes "KEY" ∷ codes "WHERE" ∷ codes "GROUP" ∷ codes "BY"
    ∷ codes "ORDER" ∷ codes "ASC" ∷ codes "DESC" ∷ codes "AND" ∷ codes "OR" ∷ codes "NOT"
    ∷ codes "IN" ∷ codes "BETWEEN" ∷ codes "LIKE" ∷ codes "IS" ∷ codes "NULL" ∷ codes "TRUE"
    ∷ codes "FALSE" ∷ codes "SET" ∷ []

-- one of the reserved words, without ASCII case
unfoldable pub is_reserved : List ℕ → Bool
is_reserved word = list_any (same_name word) reserved

-- the kind of a word without quotes
abbrev pub is_word_kind : TokenKind → Bool
is_word_kind Word = true
is_word_kind Quoted = false
is_word_kind (Number n) = false
is_word_kind Str = false
is_word_kind (Sign n) = false

-- a token is this word without quotes, without ASCII case
unfoldable pub is_word_of : List ℕ → Token → Bool
is_word_of word token = is_word_kind token.kind && same_name token.text word
