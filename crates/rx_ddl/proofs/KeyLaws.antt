-- Keys: what is read is spelled, and what is spelled is read.
use Rattle.std.proofs.Common.{◌≡◌, ℕ, Bool, false, List, [], length, map, Option, Some, None, refl, sym, ap, subst, ◌∙◌, ⊎_elim, codes, arith}
use Rattle.std.specs.Option.{option_and_then, option_or}
use Rattle.std.specs.Str.{str_eq_ignore_ascii_case}
use Rattle.rx_token.specs.declared.kinds.Token.{Token}
use Rattle.rx_token.specs.declared.signs.TheConstants.{OPEN, CLOSE}
use Rattle.rx_reading.specs.Reading.{after_word, after_sign, word_at, name_at, past, more_at, gathered, enclosed_at, number_at, after_key, direction_at}
use Rattle.rx_reading.specs.declared.items.Separator.TheVariants.{Nothing}
use Rattle.rx_reading.specs.Forms.{◌>>◌, Word, Sign, Name, Text, values, SpellsEach, AnyWord, Number, DirectionForm, unsaid, ascending, descending, SpellsDirection, is_descending, IndexWord, key, index, SpellsIndexWord}
use Rattle.rx_reading.proofs.Steps.{stepped, then_gives, then_none, one_of, first_gives, second_gives, same_value}
use Rattle.rx_reading.proofs.Spelled.{word_spelled, word_read, sign_spelled, sign_read, name_spelled, name_read, Read}
use Rattle.rx_ddl.specs.declared.statements.KeyKind.{KeyKind}
use Rattle.rx_ddl.specs.declared.statements.KeyKind.TheVariants.{Primary, Unique, Plain, Fulltext, Spatial}
use Rattle.rx_ddl.specs.declared.statements.KeyPart.{KeyPart}
use Rattle.rx_ddl.specs.declared.statements.Method.{Method}
use Rattle.rx_ddl.specs.declared.statements.Method.TheVariants.{Using, Comment}
use Rattle.rx_ddl.specs.declared.statements.KeyDefinition.{KeyDefinition}
use Rattle.rx_ddl.specs.Columns.{past_text, past_comment}
use Rattle.rx_ddl.specs.Keys.{prefix_of, prefix_at, part_at, using_at, remark_at, method_at, methods_at, kind_mark_at, plain_mark_at, key_kind_at, key_name_at, key_at}
use Rattle.rx_ddl.specs.KeyForms.{PrefixForm, whole, of_characters, SpellsPrefix, prefix_value, PartForm, SpellsPart, part_value, SpellsParts, MethodForm, using_word, remark, SpellsMethod, method_value, FrontForm, primary, unique, fulltext, spatial, plain, SpellsFront, front_kind, front_name, KeyForm, SpellsKey, key_value}
use Rattle.rx_reading.proofs.Each.{Shrinks, Within, one_shrinks, shrinks_within, then_shrinks, then_within, no_token_within, each_within, each_spelled, each_read}
use Rattle.rx_reading.proofs.Choices.{direction_spelled, direction_read, direction_within, index_word_spelled, index_word_read, index_word_shrinks}
use Rattle.rx_ddl.proofs.Enclosed.{enclosed_spelled, enclosed_read, enclosed_within}
use Rattle.rx_reading.proofs.FirstTokens.{sign_shrinks, word_shrinks, any_word_shrinks, text_shrinks, number_shrinks, word_no_word, word_no_sign, Ends, end_no_word, end_no_open, pair, any_word_spelled, any_word_read, number_spelled, number_read}
use Rattle.rx_ddl.proofs.ColumnLaws.{past_text_spelled, past_text_read}

-- a prefix length
abbrev length_step : ℕ × List Token → Option (Option ℕ × List Token)
length_step n = option_and_then (λ (rest : List Token). Some (pair (Some n.0) rest)) (after_sign CLOSE n.1)

abbrev PrefixRead : List Token → Option ℕ × List Token → Type 0
PrefixRead ts x = Read SpellsPrefix prefix_value ts x

prefix_by : (ts : List Token) (o : Option (List Token)) → after_sign OPEN ts ≡ o → (x : Option ℕ × List Token) → prefix_of ts o ≡ Some x → PrefixRead ts x
prefix_by ts None is x e = subst (PrefixRead ts) (same_value (pair None ts) x e) (record { form = whole; spelled = refl; stands = refl })
prefix_by ts (Some behind) is x e =
    let (n, read, e1) = stepped length_step (number_at behind) x e in
    let (rest, close, same) = stepped (λ (rest : List Token). Some (pair (Some n.0) rest)) (after_sign CLOSE n.1) x e1 in
    subst (PrefixRead ts) (same_value (pair (Some n.0) rest) x same) (record {
      form = of_characters n.0;
      spelled = (behind, sign_spelled OPEN ts behind is, (n.1, number_spelled behind n read, sign_spelled CLOSE n.1 rest close));
      stands = refl;
    })

prefix_read : (p : PrefixForm) (ts rest : List Token) → SpellsPrefix p ts rest → after_sign OPEN rest ≡ None → prefix_at ts ≡ Some (pair (prefix_value p) rest)
prefix_read whole ts rest s none = subst (λ (us : List Token). prefix_of us (after_sign OPEN us) ≡ Some (pair None rest)) (sym s) (ap (prefix_of rest) none)
prefix_read (of_characters n) ts rest (behind, opened, (end, s, close)) none =
    ap (prefix_of ts) (sign_read OPEN ts behind opened)
    ∙ then_gives length_step (number_read n behind end s) (then_gives (λ (rest : List Token). Some (pair (Some n) rest)) (sign_read CLOSE end rest close) refl)

prefix_within : (p : PrefixForm) → Within (SpellsPrefix p)
prefix_within whole = no_token_within
prefix_within (of_characters n) =
    then_within (Sign OPEN) (Number n >> Sign CLOSE) (shrinks_within (Sign OPEN) (sign_shrinks OPEN))
    (then_within (Number n) (Sign CLOSE) (shrinks_within (Number n) (number_shrinks n)) (shrinks_within (Sign CLOSE) (sign_shrinks CLOSE)))

-- ASC and DESC
direction_closed : (d : DirectionForm) (ts rest : List Token) → SpellsDirection d ts rest → Ends rest → after_sign OPEN ts ≡ None
direction_closed unsaid ts rest s end = ap (after_sign OPEN) s ∙ end_no_open rest end
direction_closed ascending ts rest s end = word_no_sign (codes "ASC") OPEN ts rest s
direction_closed descending ts rest s end = word_no_sign (codes "DESC") OPEN ts rest s

-- a part
abbrev made_part : List ℕ → Option ℕ → Bool × List Token → KeyPart × List Token
made_part name chars direction = (record { column = name; prefix = chars; descending = direction.0 }, direction.1)

abbrev chars_step : List ℕ → Option ℕ × List Token → Option (KeyPart × List Token)
chars_step name chars = Some (made_part name chars.0 (direction_at chars.1))

abbrev part_step : List ℕ × List Token → Option (KeyPart × List Token)
part_step name = option_and_then (chars_step name.0) (prefix_at name.1)

abbrev PartRead : List Token → KeyPart × List Token → Type 0
PartRead ts x = Read SpellsPart part_value ts x

part_same : (f : PartForm) (n : List ℕ) (g : Option ℕ) (h : Bool) → f.column ≡ n → prefix_value f.prefix ≡ g → is_descending f.direction ≡ h → part_value f ≡ record { column = n; prefix = g; descending = h }
part_same f n g h a b c =
    ap (λ (v : List ℕ). record { column = v; prefix = prefix_value f.prefix; descending = is_descending f.direction }) a
    ∙ ap (λ (v : Option ℕ). record { column = n; prefix = v; descending = is_descending f.direction }) b
    ∙ ap (λ (v : Bool). record { column = n; prefix = g; descending = v }) c

part_spelled : (ts : List Token) (x : KeyPart × List Token) → part_at ts ≡ Some x → PartRead ts x
unfolding part_at
part_spelled ts x e =
    let (name, name_is, e1) = stepped part_step (name_at ts) x e in
    let (chars, chars_are, same) = stepped (chars_step name.0) (prefix_at name.1) x e1 in
    let g = prefix_by name.1 (after_sign OPEN name.1) refl chars chars_are in
    let h = direction_spelled chars.1 in
    let form : PartForm = record { column = name.0; prefix = g.form; direction = h.form } in
    subst (PartRead ts) (same_value (made_part name.0 chars.0 (direction_at chars.1)) x same) (record {
      form = form;
      spelled = (name.1, name_spelled ts name name_is, (chars.1, g.spelled, h.spelled));
      stands = part_same form name.0 chars.0 (direction_at chars.1).0 refl g.stands h.stands;
    })

part_read : (p : PartForm) (ts rest : List Token) → SpellsPart p ts rest → Ends rest → part_at ts ≡ Some (pair (part_value p) rest)
unfolding part_at
part_read p ts rest (n, name_is, (c, chars_are, direction_is)) end =
    then_gives part_step (name_read p.column ts n name_is)
    (then_gives (chars_step p.column) (prefix_read p.prefix n c chars_are (direction_closed p.direction c rest direction_is end))
    (ap (λ (d : Bool × List Token). Some (made_part p.column (prefix_value p.prefix) d)) (direction_read p.direction c rest direction_is (end_no_word (codes "ASC") rest end) (end_no_word (codes "DESC") rest end))))

part_shrinks : (p : PartForm) → Shrinks (SpellsPart p)
part_shrinks p =
    then_shrinks (Name p.column) (SpellsPrefix p.prefix >> SpellsDirection p.direction) (one_shrinks _)
    (then_within (SpellsPrefix p.prefix) (SpellsDirection p.direction) (prefix_within p.prefix) (direction_within p.direction))

-- USING and COMMENT
abbrev word_value : List ℕ × List Token → Option (Method × List Token)
word_value word = Some (Using word.0, word.1)

abbrev using_step : List Token → Option (Method × List Token)
using_step behind = option_and_then word_value (word_at behind)

abbrev no_word_value : List Token → Option (Method × List Token)
no_word_value rest = Some (Comment, rest)

abbrev MethodRead : List Token → Method × List Token → Type 0
MethodRead ts x = Read SpellsMethod method_value ts x

method_spelled : (ts : List Token) (x : Method × List Token) → method_at ts ≡ Some x → MethodRead ts x
method_spelled ts x e =
    ⊎_elim
    (λ f.
    let (mid, is, next) = stepped using_step (after_word (codes "USING") ts) x f in
    let (y, word_is, same) = stepped word_value (word_at mid) x next in
    subst (MethodRead ts) (same_value (pair (Using y.0) y.1) x same) (record { form = using_word y.0; spelled = (mid, word_spelled (codes "USING") ts mid is, any_word_spelled mid y word_is); stands = refl }))
    (λ f.
    let (rest, comment_is, same) = stepped no_word_value (past_comment ts) x f in
    let (mid, is, next) = stepped past_text (after_word (codes "COMMENT") ts) rest comment_is in
    let (text, s) = past_text_spelled mid rest next in
    subst (MethodRead ts) (same_value (pair Comment rest) x same) (record { form = remark text; spelled = (mid, word_spelled (codes "COMMENT") ts mid is, s); stands = refl }))
    (one_of (using_at ts) (remark_at ts) x e)

method_read : (m : MethodForm) (ts rest : List Token) → SpellsMethod m ts rest → method_at ts ≡ Some (pair (method_value m) rest)
method_read (using_word word) ts rest (mid, s, m) =
    first_gives (remark_at ts) (then_gives using_step (word_read (codes "USING") ts mid s) (then_gives word_value (any_word_read word mid rest m) refl))
method_read (remark text) ts rest (mid, s, m) =
    second_gives (then_none using_step (word_no_word (codes "COMMENT") (codes "USING") refl ts mid s))
    (then_gives no_word_value (then_gives past_text (word_read (codes "COMMENT") ts mid s) (past_text_read text mid rest m)) refl)

method_shrinks : (m : MethodForm) → Shrinks (SpellsMethod m)
method_shrinks (using_word word) = then_shrinks (Word (codes "USING")) (AnyWord word) (word_shrinks (codes "USING")) (shrinks_within (AnyWord word) (any_word_shrinks word))
method_shrinks (remark text) = then_shrinks (Word (codes "COMMENT")) (Text text) (word_shrinks (codes "COMMENT")) (shrinks_within (Text text) (text_shrinks text))

no_method : (ts : List Token) → ((word : List ℕ) → after_word word ts ≡ None) → method_at ts ≡ None
no_method ts none = second_gives (then_none using_step (none (codes "USING"))) (then_none no_word_value (then_none past_text (none (codes "COMMENT"))))

abbrev MethodsRead : List Token → List Method × List Token → Type 0
MethodsRead ts x = Read (SpellsEach SpellsMethod) (map method_value) ts x

methods_spelled : (ts : List Token) (x : List Method × List Token) → methods_at ts ≡ Some x → MethodsRead ts x
methods_spelled ts x e =
    subst (MethodsRead ts) (same_value (gathered [] (more_at (past Nothing) method_at (length ts) ts)) x e) (each_spelled (past Nothing) method_at SpellsMethod method_value method_spelled (length ts) ts)

methods_read : (list : List MethodForm) (ts rest : List Token) → SpellsEach SpellsMethod list ts rest → Ends rest → methods_at ts ≡ Some (pair (map method_value list) rest)
methods_read list ts rest s end =
    ap (λ (m : List Method × List Token). Some (gathered [] m)) (each_read (past Nothing) method_at SpellsMethod method_value method_shrinks method_read list (length ts) ts rest s (omega arith) (no_method rest (λ word. end_no_word word rest end)))

-- what a key begins with, and its name
record FrontRead (ts : List Token) (front : KeyKind) (x : List ℕ × List Token) : Type 0 where
  pub form : FrontForm
  pub spelled : SpellsFront form ts x.1
  pub kind : front_kind form ≡ front
  pub name : front_name form ≡ x.0

abbrev primary_step : List Token → Option (List ℕ × List Token)
primary_step rest = Some (codes "PRIMARY", rest)

-- KEY or INDEX, and a name
name_spelled_behind : (ts : List Token) (x : List ℕ × List Token) → option_and_then name_at (after_key ts) ≡ Some x → (w : IndexWord) × (SpellsIndexWord w >> Name x.0) ts x.1
name_spelled_behind ts x e =
    let (mid, is, next) = stepped name_at (after_key ts) x e in
    let (w, s) = index_word_spelled ts mid is in
    (w, (mid, s, name_spelled mid x next))

-- a first word, and what follows it
abbrev Marked : List Token → List ℕ → KeyKind → KeyKind × List Token → Type 0
Marked ts word kind front = Word word ts front.1 × (kind ≡ front.0)

kind_marked : (word : List ℕ) (kind : KeyKind) (ts : List Token) (front : KeyKind × List Token) → kind_mark_at word kind ts ≡ Some front → Marked ts word kind front
kind_marked word kind ts front e =
    let (rest, is, same) = stepped (λ (rest : List Token). Some (pair kind rest)) (after_word word ts) front e in
    let p = same_value (pair kind rest) front same in
    (subst (λ (us : List Token). Word word ts us) (ap (λ (y : KeyKind × List Token). y.1) p) (word_spelled word ts rest is), ap (λ (y : KeyKind × List Token). y.0) p)

primary_front : (ts mid : List Token) (x : List ℕ × List Token) → Word (codes "PRIMARY") ts mid → key_name_at Primary mid ≡ Some x → FrontRead ts Primary x
primary_front ts mid x s e =
    let (rest, is, same) = stepped primary_step (after_word (codes "KEY") mid) x e in
    subst (FrontRead ts Primary) (same_value (pair (codes "PRIMARY") rest) x same) (record { form = primary; spelled = (mid, s, word_spelled (codes "KEY") mid rest is); kind = refl; name = refl })

unique_front : (ts mid : List Token) (x : List ℕ × List Token) → Word (codes "UNIQUE") ts mid → key_name_at Unique mid ≡ Some x → FrontRead ts Unique x
unique_front ts mid x s e = let (w, t) = name_spelled_behind mid x e in record { form = unique w x.0; spelled = (mid, s, t); kind = refl; name = refl }

fulltext_front : (ts mid : List Token) (x : List ℕ × List Token) → Word (codes "FULLTEXT") ts mid → key_name_at Fulltext mid ≡ Some x → FrontRead ts Fulltext x
fulltext_front ts mid x s e = let (w, t) = name_spelled_behind mid x e in record { form = fulltext w x.0; spelled = (mid, s, t); kind = refl; name = refl }

spatial_front : (ts mid : List Token) (x : List ℕ × List Token) → Word (codes "SPATIAL") ts mid → key_name_at Spatial mid ≡ Some x → FrontRead ts Spatial x
spatial_front ts mid x s e = let (w, t) = name_spelled_behind mid x e in record { form = spatial w x.0; spelled = (mid, s, t); kind = refl; name = refl }

plain_front : (ts : List Token) (x : List ℕ × List Token) → key_name_at Plain ts ≡ Some x → FrontRead ts Plain x
plain_front ts x e = let (w, t) = name_spelled_behind ts x e in record { form = plain w x.0; spelled = t; kind = refl; name = refl }

-- a front of the kind that its first word has
abbrev Fronts : List Token → List Token → KeyKind → Type 0
Fronts ts mid kind = (x : List ℕ × List Token) → key_name_at kind mid ≡ Some x → FrontRead ts kind x

by_kind : (ts mid : List Token) (k kind : KeyKind) → k ≡ kind → Fronts ts mid k → Fronts ts mid kind
by_kind ts mid k kind e f = subst (Fronts ts mid) e f

abbrev plain_step : List Token → List Token → Option (KeyKind × List Token)
plain_step ts rest = Some (Plain, ts)

plain_by : (ts : List Token) (front : KeyKind × List Token) → plain_mark_at ts ≡ Some front → Fronts ts front.1 front.0
plain_by ts front e =
    let (rest, is, same) = stepped (plain_step ts) (after_key ts) front e in
    subst (λ (y : KeyKind × List Token). Fronts ts y.1 y.0) (same_value (pair Plain ts) front same) (plain_front ts)

front_spelled : (ts : List Token) (front : KeyKind × List Token) → key_kind_at ts ≡ Some front → Fronts ts front.1 front.0
unfolding key_kind_at
front_spelled ts front e =
    ⊎_elim (λ f. let m = kind_marked (codes "PRIMARY") Primary ts front f in by_kind ts front.1 Primary front.0 m.1 (λ x. primary_front ts front.1 x m.0))
    (λ f. ⊎_elim (λ g. let m = kind_marked (codes "UNIQUE") Unique ts front g in by_kind ts front.1 Unique front.0 m.1 (λ x. unique_front ts front.1 x m.0))
    (λ g. ⊎_elim (λ h. let m = kind_marked (codes "FULLTEXT") Fulltext ts front h in by_kind ts front.1 Fulltext front.0 m.1 (λ x. fulltext_front ts front.1 x m.0))
    (λ h. ⊎_elim (λ i. let m = kind_marked (codes "SPATIAL") Spatial ts front i in by_kind ts front.1 Spatial front.0 m.1 (λ x. spatial_front ts front.1 x m.0)) (plain_by ts front)
    (one_of (kind_mark_at (codes "SPATIAL") Spatial ts) (plain_mark_at ts) front h))
    (one_of (kind_mark_at (codes "FULLTEXT") Fulltext ts) (option_or (kind_mark_at (codes "SPATIAL") Spatial ts) (plain_mark_at ts)) front g))
    (one_of (kind_mark_at (codes "UNIQUE") Unique ts) (option_or (kind_mark_at (codes "FULLTEXT") Fulltext ts) (option_or (kind_mark_at (codes "SPATIAL") Spatial ts) (plain_mark_at ts))) front f))
    (one_of (kind_mark_at (codes "PRIMARY") Primary ts) (option_or (kind_mark_at (codes "UNIQUE") Unique ts) (option_or (kind_mark_at (codes "FULLTEXT") Fulltext ts) (option_or (kind_mark_at (codes "SPATIAL") Spatial ts) (plain_mark_at ts)))) front e)

-- a front is read as its kind and its name
record FrontGives (f : FrontForm) (ts rest : List Token) : Type 0 where
  pub mid : List Token
  pub kind : key_kind_at ts ≡ Some (pair (front_kind f) mid)
  pub name : key_name_at (front_kind f) mid ≡ Some (pair (front_name f) rest)

name_behind : (w : IndexWord) (name : List ℕ) (ts rest : List Token) → (SpellsIndexWord w >> Name name) ts rest → option_and_then name_at (after_key ts) ≡ Some (pair name rest)
name_behind w name ts rest (mid, s, m) = then_gives name_at (index_word_read w ts mid s) (name_read name mid rest m)

mark_gives : (word : List ℕ) (kind : KeyKind) (ts mid : List Token) → Word word ts mid → kind_mark_at word kind ts ≡ Some (pair kind mid)
mark_gives word kind ts mid s = then_gives (λ (rest : List Token). Some (pair kind rest)) (word_read word ts mid s) refl

no_kind_mark : (word : List ℕ) (kind : KeyKind) (ts : List Token) → after_word word ts ≡ None → kind_mark_at word kind ts ≡ None
no_kind_mark word kind ts none = then_none (λ (rest : List Token). Some (pair kind rest)) none

other_kind : (v w : List ℕ) (kind : KeyKind) → str_eq_ignore_ascii_case v w ≡ false → (ts mid : List Token) → Word v ts mid → kind_mark_at w kind ts ≡ None
other_kind v w kind d ts mid s = no_kind_mark w kind ts (word_no_word v w d ts mid s)

other_index_kind : (i : IndexWord) (w : List ℕ) (kind : KeyKind) → str_eq_ignore_ascii_case (codes "KEY") w ≡ false → str_eq_ignore_ascii_case (codes "INDEX") w ≡ false → (ts mid : List Token) → SpellsIndexWord i ts mid → kind_mark_at w kind ts ≡ None
other_index_kind key w kind d e ts mid s = other_kind (codes "KEY") w kind d ts mid s
other_index_kind index w kind d e ts mid s = other_kind (codes "INDEX") w kind e ts mid s

front_read : (f : FrontForm) (ts rest : List Token) → SpellsFront f ts rest → FrontGives f ts rest
unfolding key_kind_at
front_read primary ts rest (mid, s, m) = record {
  mid = mid;
  kind = first_gives _ (mark_gives (codes "PRIMARY") Primary ts mid s);
  name = then_gives primary_step (word_read (codes "KEY") mid rest m) refl;
}
front_read (unique w name) ts rest (mid, s, m) = record {
  mid = mid;
  kind = second_gives (other_kind (codes "UNIQUE") (codes "PRIMARY") Primary refl ts mid s) (first_gives _ (mark_gives (codes "UNIQUE") Unique ts mid s));
  name = name_behind w name mid rest m;
}
front_read (fulltext w name) ts rest (mid, s, m) = record {
  mid = mid;
  kind = second_gives (other_kind (codes "FULLTEXT") (codes "PRIMARY") Primary refl ts mid s) (second_gives (other_kind (codes "FULLTEXT") (codes "UNIQUE") Unique refl ts mid s) (first_gives _ (mark_gives (codes "FULLTEXT") Fulltext ts mid s)));
  name = name_behind w name mid rest m;
}
front_read (spatial w name) ts rest (mid, s, m) = record {
  mid = mid;
  kind = second_gives (other_kind (codes "SPATIAL") (codes "PRIMARY") Primary refl ts mid s) (second_gives (other_kind (codes "SPATIAL") (codes "UNIQUE") Unique refl ts mid s) (second_gives (other_kind (codes "SPATIAL") (codes "FULLTEXT") Fulltext refl ts mid s) (first_gives _ (mark_gives (codes "SPATIAL") Spatial ts mid s))));
  name = name_behind w name mid rest m;
}
front_read (plain w name) ts rest (mid, s, m) = record {
  mid = ts;
  kind = second_gives (other_index_kind w (codes "PRIMARY") Primary refl refl ts mid s) (second_gives (other_index_kind w (codes "UNIQUE") Unique refl refl ts mid s) (second_gives (other_index_kind w (codes "FULLTEXT") Fulltext refl refl ts mid s) (second_gives (other_index_kind w (codes "SPATIAL") Spatial refl refl ts mid s)
      (then_gives (plain_step ts) (index_word_read w ts mid s) refl))));
  name = name_behind w name ts rest (mid, s, m);
}

named_shrinks : (w : IndexWord) (name : List ℕ) → Shrinks (SpellsIndexWord w >> Name name)
named_shrinks w name = then_shrinks (SpellsIndexWord w) (Name name) (index_word_shrinks w) (shrinks_within (Name name) (one_shrinks _))

front_shrinks : (f : FrontForm) → Shrinks (SpellsFront f)
front_shrinks primary = then_shrinks (Word (codes "PRIMARY")) (Word (codes "KEY")) (word_shrinks (codes "PRIMARY")) (shrinks_within (Word (codes "KEY")) (word_shrinks (codes "KEY")))
front_shrinks (unique w name) = then_shrinks (Word (codes "UNIQUE")) (SpellsIndexWord w >> Name name) (word_shrinks (codes "UNIQUE")) (shrinks_within (SpellsIndexWord w >> Name name) (named_shrinks w name))
front_shrinks (fulltext w name) = then_shrinks (Word (codes "FULLTEXT")) (SpellsIndexWord w >> Name name) (word_shrinks (codes "FULLTEXT")) (shrinks_within (SpellsIndexWord w >> Name name) (named_shrinks w name))
front_shrinks (spatial w name) = then_shrinks (Word (codes "SPATIAL")) (SpellsIndexWord w >> Name name) (word_shrinks (codes "SPATIAL")) (shrinks_within (SpellsIndexWord w >> Name name) (named_shrinks w name))
front_shrinks (plain w name) = named_shrinks w name

-- a key
abbrev made_key : KeyKind → List ℕ → List KeyPart → List Method × List Token → KeyDefinition × List Token
made_key kind name parts methods = (record { kind = kind; name = name; parts = parts; methods = methods.0 }, methods.1)

abbrev methods_step : KeyKind → List ℕ → List KeyPart → List Method × List Token → Option (KeyDefinition × List Token)
methods_step kind name parts methods = Some (made_key kind name parts methods)

abbrev parts_step : KeyKind → List ℕ → List KeyPart × List Token → Option (KeyDefinition × List Token)
parts_step kind name parts = option_and_then (methods_step kind name parts.0) (methods_at parts.1)

abbrev name_step : KeyKind → List ℕ × List Token → Option (KeyDefinition × List Token)
name_step kind name = option_and_then (parts_step kind name.0) (enclosed_at part_at name.1)

abbrev pub KeyRead : List Token → KeyDefinition × List Token → Type 0
KeyRead ts x = Read SpellsKey key_value ts x

key_same : (f : KeyForm) (k : KeyKind) (n : List ℕ) (g : List KeyPart) (h : List Method) → front_kind f.front ≡ k → front_name f.front ≡ n → values part_value f.parts ≡ g → map method_value f.methods ≡ h → key_value f ≡ record { kind = k; name = n; parts = g; methods = h }
key_same f k n g h a b c d =
    ap (λ (v : KeyKind). record { kind = v; name = front_name f.front; parts = values part_value f.parts; methods = map method_value f.methods }) a
    ∙ ap (λ (v : List ℕ). record { kind = k; name = v; parts = values part_value f.parts; methods = map method_value f.methods }) b
    ∙ ap (λ (v : List KeyPart). record { kind = k; name = n; parts = v; methods = map method_value f.methods }) c
    ∙ ap (λ (v : List Method). record { kind = k; name = n; parts = g; methods = v }) d

pub key_spelled : (ts : List Token) (front : KeyKind × List Token) → key_kind_at ts ≡ Some front → (x : KeyDefinition × List Token) → key_at front.0 front.1 ≡ Some x → KeyRead ts x
unfolding key_at
key_spelled ts front is x e =
    let (name, name_is, e1) = stepped (name_step front.0) (key_name_at front.0 front.1) x e in
    let (parts, parts_are, e2) = stepped (parts_step front.0 name.0) (enclosed_at part_at name.1) x e1 in
    let (methods, methods_are, same) = stepped (methods_step front.0 name.0 parts.0) (methods_at parts.1) x e2 in
    let f = front_spelled ts front is name name_is in
    let g = enclosed_spelled part_at SpellsPart part_value part_spelled name.1 parts parts_are in
    let h = methods_spelled parts.1 methods methods_are in
    let form : KeyForm = record { front = f.form; parts = g.form; methods = h.form } in
    subst (KeyRead ts) (same_value (made_key front.0 name.0 parts.0 methods) x same) (record {
      form = form;
      spelled = (name.1, f.spelled, (parts.1, g.spelled, h.spelled));
      stands = key_same form front.0 name.0 parts.0 methods.0 f.kind f.name g.stands h.stands;
    })

-- a key is read from what its front is read as
pub record KeyGives (k : KeyForm) (ts rest : List Token) : Type 0 where
  pub front : KeyKind × List Token
  pub kind : key_kind_at ts ≡ Some front
  pub read : key_at front.0 front.1 ≡ Some (pair (key_value k) rest)

pub key_read : (k : KeyForm) (ts rest : List Token) → SpellsKey k ts rest → Ends rest → KeyGives k ts rest
unfolding key_at
key_read k ts rest (n, front_is, (p, parts_are, methods_are)) end =
    let f = front_read k.front ts n front_is in
    record {
      front = pair (front_kind k.front) f.mid;
      kind = f.kind;
      read = then_gives (name_step (front_kind k.front)) f.name
          (then_gives (parts_step (front_kind k.front) (front_name k.front)) (enclosed_read part_at SpellsPart part_value part_shrinks part_read k.parts n p parts_are)
          (then_gives (methods_step (front_kind k.front) (front_name k.front) (values part_value k.parts)) (methods_read k.methods p rest methods_are end) refl));
    }

pub key_shrinks : (k : KeyForm) → Shrinks (SpellsKey k)
key_shrinks k =
    then_shrinks (SpellsFront k.front) (SpellsParts k.parts >> SpellsEach SpellsMethod k.methods) (front_shrinks k.front)
    (then_within (SpellsParts k.parts) (SpellsEach SpellsMethod k.methods) (enclosed_within SpellsPart part_shrinks k.parts)
    (each_within SpellsMethod (λ m. shrinks_within (SpellsMethod m) (method_shrinks m)) k.methods))
