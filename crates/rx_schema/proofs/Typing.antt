-- The types of columns that are read.
use Rattle.std.proofs.Common.{ℕ, ◌≤◌, List, [], ◌∷◌, codes, Some, None, refl, sym, subst, inl, inr, arith}
use Rattle.std.specs.Prelude.{nat_le, unwrap_or}
use Rattle.std.specs.List.{AllByRecursion}
use Rattle.std.proofs.lemmas.Bool.{cond_both, leb-true}
use Rattle.rx_value.specs.declared.shapes.Column.{Column}
use Rattle.rx_value.specs.declared.shapes.Schema.{Schema}
use Rattle.rx_value.specs.Shape.{HasWidth, IsColType}
use Rattle.rx_value.specs.Names.{same_name}
use Rattle.rx_ddl.specs.Canonical.{IsName}
use Rattle.rx_ddl.specs.declared.statements.Argument.{Argument}
use Rattle.rx_ddl.specs.declared.statements.Argument.TheVariants.{Number, Text}
use Rattle.rx_ddl.specs.declared.statements.ColumnDefinition.{ColumnDefinition}
use Rattle.rx_schema.specs.declared.types.TypeWord.{TypeWord}
use Rattle.rx_schema.specs.declared.types.TypeWord.TheVariants as is
use Rattle.rx_schema.specs.Columns.{typed}
use Rattle.rx_schema.specs.Profile.{type_word, characters}
use Rattle.rx_schema.specs.Tables.{IsDeclarable}
use Rattle.rx_schema.proofs.Every.{every_both, from_all}

-- what is true of each width of an integer
pub by_width : (P : ℕ → Type 0) → P 8 → P 16 → P 24 → P 32 → P 64 → (bits : ℕ) → HasWidth bits → P bits
by_width P a b c d e bits (inl f) = subst P (sym f) a
by_width P a b c d e bits (inr (inl f)) = subst P (sym f) b
by_width P a b c d e bits (inr (inr (inl f))) = subst P (sym f) c
by_width P a b c d e bits (inr (inr (inr (inl f)))) = subst P (sym f) d
by_width P a b c d e bits (inr (inr (inr (inr f)))) = subst P (sym f) e

-- a column with a name, of one of the types
pub record IsTypedColumn (column : Column) : Type 0 where
  pub name : IsName column.name
  pub kind : IsColType column.kind

pub typed_columns : (s : Schema) → IsDeclarable s → AllByRecursion IsTypedColumn s.columns
typed_columns s is =
    every_both (λ c. IsName c.name) (λ c. IsColType c.kind) IsTypedColumn (λ c n k. record { name = n; kind = k }) s.columns (from_all _ s.columns is.columns) (from_all _ s.columns is.shape.types)

-- an integer type of a word has one of the widths
abbrev IsSizedWord : TypeWord → Type 0
IsSizedWord (is.Whole bits) = HasWidth bits
IsSizedWord is.VarChar = Unit {0}
IsSizedWord is.Other = Unit {0}

word_sized : (word : List ℕ) → IsSizedWord (type_word word)
unfolding type_word
word_sized word =
    cond_both (same_name word (codes "tinyint")) _ _ IsSizedWord (λ e. (inl refl))
    (λ e. cond_both (same_name word (codes "smallint")) _ _ IsSizedWord (λ f. (inr (inl refl)))
    (λ f. cond_both (same_name word (codes "mediumint")) _ _ IsSizedWord (λ g. (inr (inr (inl refl))))
    (λ g. cond_both (same_name word (codes "int")) _ _ IsSizedWord (λ h. (inr (inr (inr (inl refl)))))
    (λ h. cond_both (same_name word (codes "bigint")) _ _ IsSizedWord (λ i. (inr (inr (inr (inr refl)))))
    (λ i. cond_both (same_name word (codes "varchar")) is.VarChar is.Other IsSizedWord (λ j. tt) (λ j. tt))))))

-- at most 255 characters
few_characters : (arguments : List Argument) → unwrap_or (characters arguments) 0 ≤ 255
few_characters [] = omega arith
few_characters (Number n ∷ []) = cond_both (nat_le n 255) (Some n) None (λ o. unwrap_or o 0 ≤ 255) (λ e. leb-true n 255 e) (λ e. omega arith)
few_characters (Text text ∷ []) = omega arith
few_characters (a ∷ b ∷ arguments) = omega arith

typed_kind : (word : TypeWord) (column : ColumnDefinition) → IsSizedWord word → IsColType (typed word column)
typed_kind (is.Whole bits) column h = h
typed_kind is.VarChar column h = few_characters column.arguments
typed_kind is.Other column h = omega arith

pub column_kind : (column : ColumnDefinition) → IsColType (typed (type_word column.kind) column)
column_kind column = typed_kind (type_word column.kind) column (word_sized column.kind)
