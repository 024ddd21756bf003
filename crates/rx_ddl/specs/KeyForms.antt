-- The grammar of keys: which tokens spell each form, and what it stands for.
use Rattle.std.specs.Prelude.{ℕ, List, map, codes, Option, Some, None}
use Rattle.rx_token.specs.declared.signs.TheConstants.{OPEN, CLOSE}
use Rattle.rx_reading.specs.Forms.{Form, NoToken, ◌>>◌, Word, AnyWord, Number, Sign, Name, Text, Listed, values, DirectionForm, SpellsDirection, is_descending, IndexWord, SpellsIndexWord, SpellsEach, SpellsEnclosed}
use Rattle.rx_ddl.specs.declared.statements.KeyKind.{KeyKind}
use Rattle.rx_ddl.specs.declared.statements.KeyKind.TheVariants.{Primary, Unique, Plain, Fulltext, Spatial}
use Rattle.rx_ddl.specs.declared.statements.KeyPart.{KeyPart}
use Rattle.rx_ddl.specs.declared.statements.Method.{Method}
use Rattle.rx_ddl.specs.declared.statements.Method.TheVariants.{Using, Comment}
use Rattle.rx_ddl.specs.declared.statements.KeyDefinition.{KeyDefinition}

-- ["(" number ")"]
pub data PrefixForm : Type 0 where
  whole : PrefixForm
  of_characters : ℕ → PrefixForm

-- the tokens of a prefix length
abbrev pub SpellsPrefix : PrefixForm → Form
SpellsPrefix whole = NoToken
SpellsPrefix (of_characters n) = Sign OPEN >> Number n >> Sign CLOSE

-- the length, where there is one
abbrev pub prefix_value : PrefixForm → Option ℕ
prefix_value whole = None
prefix_value (of_characters n) = Some n

-- name ["(" number ")"] [ASC|DESC]
pub record PartForm : Type 0 where
  pub column : List ℕ
  pub prefix : PrefixForm
  pub direction : DirectionForm

-- the tokens of a part
abbrev pub SpellsPart : PartForm → Form
SpellsPart p = Name p.column >> SpellsPrefix p.prefix >> SpellsDirection p.direction

-- the part that it is
abbrev pub part_value : PartForm → KeyPart
part_value p = record { column = p.column; prefix = prefix_value p.prefix; descending = is_descending p.direction }

-- parts := "(" part {"," part} ")"
abbrev pub SpellsParts : Listed PartForm → Form
SpellsParts list = SpellsEnclosed SpellsPart list

-- USING word | COMMENT string
pub data MethodForm : Type 0 where
  using_word : List ℕ → MethodForm
  remark : List ℕ → MethodForm

-- the tokens behind the parts
abbrev pub SpellsMethod : MethodForm → Form
SpellsMethod (using_word word) = Word (codes "USING") >> AnyWord word
SpellsMethod (remark text) = Word (codes "COMMENT") >> Text text

-- what it says; of COMMENT nothing is kept
abbrev pub method_value : MethodForm → Method
method_value (using_word word) = Using word
method_value (remark text) = Comment

-- PRIMARY KEY | [UNIQUE|FULLTEXT|SPATIAL] (KEY|INDEX) name
pub data FrontForm : Type 0 where
  primary : FrontForm
  unique : IndexWord → List ℕ → FrontForm
  fulltext : IndexWord → List ℕ → FrontForm
  spatial : IndexWord → List ℕ → FrontForm
  plain : IndexWord → List ℕ → FrontForm

-- the tokens before the parts
abbrev pub SpellsFront : FrontForm → Form
SpellsFront primary = Word (codes "PRIMARY") >> Word (codes "KEY")
SpellsFront (unique word name) = Word (codes "UNIQUE") >> SpellsIndexWord word >> Name name
SpellsFront (fulltext word name) = Word (codes "FULLTEXT") >> SpellsIndexWord word >> Name name
SpellsFront (spatial word name) = Word (codes "SPATIAL") >> SpellsIndexWord word >> Name name
SpellsFront (plain word name) = SpellsIndexWord word >> Name name

-- the kind of the key
abbrev pub front_kind : FrontForm → KeyKind
front_kind primary = Primary
front_kind (unique word name) = Unique
front_kind (fulltext word name) = Fulltext
front_kind (spatial word name) = Spatial
front_kind (plain word name) = Plain

-- the name of the key; the primary key is PRIMARY
abbrev pub front_name : FrontForm → List ℕ
front_name primary = codes "PRIMARY"
front_name (unique word name) = name
front_name (fulltext word name) = name
front_name (spatial word name) = name
front_name (plain word name) = name

-- (PRIMARY KEY parts | [UNIQUE|FULLTEXT|SPATIAL] (KEY|INDEX) name parts) {USING word | COMMENT string}
pub record KeyForm : Type 0 where
  pub front : FrontForm
  pub parts : Listed PartForm
  pub methods : List MethodForm

-- the tokens of a key
abbrev pub SpellsKey : KeyForm → Form
SpellsKey k = SpellsFront k.front >> SpellsParts k.parts >> SpellsEach SpellsMethod k.methods

-- the key that it is
abbrev pub key_value : KeyForm → KeyDefinition
key_value k = record {
  kind = front_kind k.front;
  name = front_name k.front;
  parts = values part_value k.parts;
  methods = map method_value k.methods;
}
