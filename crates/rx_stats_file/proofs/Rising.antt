-- The members of an object that was read stand in the order of the bytes of their names, so that the first bad one has the least name.
use Rattle.std.proofs.Common.{◌≡◌, ◌≢◌, ℕ, Bool, true, false, not, cond, List, ◌∷◌, find, Option, Some, None, option_map, option_and_then, IfSome, IfErr, Result, Ok, Err, ok_or, codes, bytes_eq, Ordering, Less, Equal, Greater, nat_cmp, refl, ap, ◌∙◌, subst, arith}
use Rattle.std.specs.Ordering.{match_ordering, ordering_reverse}
use Rattle.std.specs.Cmp.Lexicographic.{slice_cmp}
use Rattle.std.specs.Str.{is_utf8}
use Rattle.std.proofs.lemmas.Cmp.{nat_list_cmp_total, tied_itself}
use Rattle.json.specs.Json as json
use Rattle.json.specs.Lex.{tokens}
use Rattle.serde_json.specs.Data.{Data, null, boolean, number, string, array, object, Items, no_items, item, Members, no_members, member, put}
use Rattle.serde_json.specs.Find.{as_object}
use Rattle.serde_json.specs.Read.{number_of, of_json, of_items, of_members, max_depth, read}
use Rattle.rx_value.specs.declared.shapes.Index.{Index}
use Rattle.rx_value.specs.declared.shapes.Schema.{Schema}
use Rattle.rx_stats_file.specs.declared.faults.StatsFault.{StatsFault}
use Rattle.rx_stats_file.specs.declared.faults.StatsFault.TheVariants.{BadStats, NoMemory}
use Rattle.rx_stats_file.specs.Outcomes.{FaultOf, then_of}
use Rattle.rx_stats_file.specs.Members.{Member, listed, json_of, only_value, only_record, records_in, records_of}
use Rattle.rx_stats_file.proofs.Fitting.{All_first}
use Rattle.rx_stats_file.specs.Statistics.{is_good, replaced, unless_bad, given, stats_in, stats_of, IsLeastBad, TellsLeast}

-- ---- what rises

-- a name is less than each of the members'
abbrev Below : List ℕ → Members → Type 0
Below k no_members = Unit {0}
Below k (member l d ms) = (slice_cmp nat_cmp k l ≡ Less) × Below k ms

-- the names of members rise, here and within
abbrev mutual
  RiseIn : Data → Type 0
  RiseIn null = Unit {0}
  RiseIn (boolean b) = Unit {0}
  RiseIn (number n) = Unit {0}
  RiseIn (string s) = Unit {0}
  RiseIn (array ds) = RiseItems ds
  RiseIn (object ms) = Rise ms

  RiseItems : Items → Type 0
  RiseItems no_items = Unit {0}
  RiseItems (item d ds) = RiseIn d × RiseItems ds

  Rise : Members → Type 0
  Rise no_members = Unit {0}
  Rise (member k d ms) = Below k ms × RiseIn d × Rise ms

-- ---- a member more

below_less : (k l : List ℕ) (ms : Members) → slice_cmp nat_cmp k l ≡ Less → Below l ms → Below k ms
below_less k l no_members less b = tt
below_less k l (member m d ms) less b = (nat_list_cmp_total.trans k l m less b.0, below_less k l ms less b.1)

below_by : (o : Ordering) (l k m : List ℕ) (d e : Data) (ms : Members) → slice_cmp nat_cmp l k ≡ Less → Below l (member m e ms) → Below l (put k d ms)
    → Below l (match_ordering o (member k d (member m e ms)) (member m d ms) (member m e (put k d ms)))
below_by Less l k m d e ms less b later = (less, b)
below_by Equal l k m d e ms less b later = b
below_by Greater l k m d e ms less b later = (b.0, later)

below_put : (l k : List ℕ) (d : Data) (ms : Members) → slice_cmp nat_cmp l k ≡ Less → Below l ms → Below l (put k d ms)
below_put l k d no_members less b = (less, tt)
below_put l k d (member m e ms) less b = below_by (slice_cmp nat_cmp k m) l k m d e ms less b (below_put l k d ms less b.1)

turned : (k l : List ℕ) → slice_cmp nat_cmp k l ≡ Greater → slice_cmp nat_cmp l k ≡ Less
turned k l e = nat_list_cmp_total.antisymm l k ∙ ap ordering_reverse e

rise_by : (o : Ordering) (k l : List ℕ) (d e : Data) (ms : Members) → slice_cmp nat_cmp k l ≡ o → RiseIn d → Rise (member l e ms) → Rise (put k d ms)
    → Rise (match_ordering o (member k d (member l e ms)) (member l d ms) (member l e (put k d ms)))
rise_by Less k l d e ms is x r later = ((is, below_less k l ms is r.0), x, r)
rise_by Equal k l d e ms is x r later = (r.0, x, r.2)
rise_by Greater k l d e ms is x r later = (below_put l k d ms (turned k l is) r.0, r.1, later)

rise_put : (k : List ℕ) (d : Data) (ms : Members) → RiseIn d → Rise ms → Rise (put k d ms)
rise_put k d no_members x r = (tt, x, tt)
rise_put k d (member l e ms) x r = rise_by (slice_cmp nat_cmp k l) k l d e ms refl x r (rise_put k d ms x r.2)

-- ---- what is read

some_map : {A B : Type 0} (P : A → Type 0) (Q : B → Type 0) (h : A → B) → ((a : A) → P a → Q (h a)) → (o : Option A) → IfSome o P → IfSome (option_map h o) Q
some_map P Q h k None x = tt
some_map P Q h k (Some a) x = k a x

some_then : {A B : Type 0} (P : A → Type 0) (Q : B → Type 0) (h : A → Option B) → ((a : A) → P a → IfSome (h a) Q) → (o : Option A) → IfSome o P → IfSome (option_and_then h o) Q
some_then P Q h k None x = tt
some_then P Q h k (Some a) x = k a x

any_some : {A : Type 0} (o : Option A) → IfSome o (λ _. Unit {0})
any_some None = tt
any_some (Some a) = tt

mutual
  rise_json : (j : json.Json) → IfSome (of_json j) RiseIn
  rise_json json.null = tt
  rise_json (json.boolean b) = tt
  rise_json (json.number s) = some_map (λ _. Unit {0}) RiseIn number (λ a x. tt) (number_of s) (any_some (number_of s))
  rise_json (json.string s) = tt
  rise_json (json.array js) = some_map RiseItems RiseIn array (λ a x. x) (of_items js) (rise_items js)
  rise_json (json.object ms) = some_map Rise RiseIn object (λ a x. x) (of_members ms no_members) (rise_members ms no_members tt)

  rise_items : (js : json.Items) → IfSome (of_items js) RiseItems
  rise_items json.no_items = tt
  rise_items (json.item j js) = some_then RiseIn RiseItems (λ d. option_map (item d) (of_items js)) (λ d x. some_map RiseItems RiseItems (item d) (λ ds y. (x, y)) (of_items js) (rise_items js)) (of_json j) (rise_json j)

  rise_members : (ms : json.Members) (found : Members) → Rise found → IfSome (of_members ms found) Rise
  rise_members json.no_members found r = r
  rise_members (json.member k j ms) found r = some_then RiseIn Rise (λ d. of_members ms (put k d found)) (λ d x. rise_members ms (put k d found) (rise_put k d found x r)) (of_json j) (rise_json j)

rise_of : (o : Option json.Json) → IfSome (option_and_then of_json o) RiseIn
rise_of None = tt
rise_of (Some j) = rise_json j

json_rises : (text : List ℕ) (b : Bool) (value : Data) → cond b (read text) None ≡ Some value → RiseIn value
json_rises text true value is = subst (λ o. IfSome o RiseIn) is (rise_of (option_and_then (λ p. json.if_last p.0 p.1) (json.value max_depth (tokens text))))
json_rises text false value is = absurd (cc is)

object_rises : (value : Data) (ms : Members) → RiseIn value → as_object value ≡ Some ms → Rise ms
object_rises null ms r is = absurd (cc is)
object_rises (boolean b) ms r is = absurd (cc is)
object_rises (number n) ms r is = absurd (cc is)
object_rises (string s) ms r is = absurd (cc is)
object_rises (array ds) ms r is = absurd (cc is)
object_rises (object found) ms r is = subst Rise (cc is) r

value_by : (b : Bool) (e value : Data) → RiseIn e → cond b (Some e) None ≡ Some value → RiseIn value
value_by true e value r is = subst RiseIn (cc is) r
value_by false e value r is = absurd (cc is)

value_rises : (name : List ℕ) (ms : Members) (value : Data) → Rise ms → only_value name (listed ms) ≡ Some value → RiseIn value
value_rises name no_members value r is = absurd (cc is)
value_rises name (member k e no_members) value r is = value_by (bytes_eq k name) e value r.1 is
value_rises name (member k e (member l f ms)) value r is = absurd (cc is)

-- ---- the first bad member

above : (indexes : List Index) (k : List ℕ) (ms : Members) → Below k ms → IsLeastBad indexes (listed ms) k
above indexes k no_members b = λ i d lt. absurd (omega (arith, lt))
above indexes k (member l e ms) b =
    All_first (λ m. is_good indexes m ≡ false → slice_cmp nat_cmp m.0 k ≢ Less) (l, e) (listed ms)
    (λ bad less. absurd (cc (less, nat_list_cmp_total.antisymm l k ∙ ap ordering_reverse b.0))) (above indexes k ms b.1)

least_by : (indexes : List Index) (k : List ℕ) (e : Data) (ms : Members) (m : Member) (b : Bool) → is_good indexes (k, e) ≡ b → Below k ms
    → cond (not b) (Some (k, e)) (find (λ x. not (is_good indexes x)) (listed ms)) ≡ Some m
    → (find (λ x. not (is_good indexes x)) (listed ms) ≡ Some m → IsLeastBad indexes (listed ms) m.0) → IsLeastBad indexes ((k, e) ∷ listed ms) m.0
least_by indexes k e ms m true good b is later =
    All_first (λ x. is_good indexes x ≡ false → slice_cmp nat_cmp x.0 m.0 ≢ Less) (k, e) (listed ms) (λ bad less. absurd (cc (good, bad))) (later is)
least_by indexes k e ms m false good b is later =
    let found : ◌≡◌ {A = Member} (k, e) m = cc is in
    let same : k ≡ m.0 = ap (λ (x : Member). x.0) found in
    subst (IsLeastBad indexes ((k, e) ∷ listed ms)) same
    (All_first (λ x. is_good indexes x ≡ false → slice_cmp nat_cmp x.0 k ≢ Less) (k, e) (listed ms) (λ bad less. absurd (cc (less, tied_itself nat_list_cmp_total k))) (above indexes k ms b))

first_least : (indexes : List Index) (ms : Members) (m : Member) → Rise ms → find (λ x. not (is_good indexes x)) (listed ms) ≡ Some m → IsLeastBad indexes (listed ms) m.0
first_least indexes no_members m r is = absurd (cc is)
first_least indexes (member k e ms) m r is = least_by indexes k e ms m (is_good indexes (k, e)) refl r.0 is (first_least indexes ms m r.2)

-- ---- the field at fault

given_least : (indexes : List Index) (base : List (List ℕ)) (ms : Members) (field : List ℕ) → Rise ms → given indexes base (listed ms) ≡ Err field → IsLeastBad indexes (listed ms) field
given_least indexes base ms field r is = go (find (λ x. not (is_good indexes x)) (listed ms)) refl is where
  go : (o : Option Member) → find (λ x. not (is_good indexes x)) (listed ms) ≡ o → unless_bad o (replaced indexes base (listed ms)) ≡ Err field → IsLeastBad indexes (listed ms) field
  go None e told = absurd (cc told)
  go (Some m) e told = subst (IsLeastBad indexes (listed ms)) (cc told) (first_least indexes ms m r e)

in_least : (schema : Schema) (base : List (List ℕ)) (value : Data) (members : List Member) (field : List ℕ) → RiseIn value → records_in value ≡ Some members → stats_in schema base value ≡ Err field
    → IsLeastBad schema.indexes members field
unfolding stats_in
in_least schema base value members field r is told = by_value (only_record value) refl is told where
  by_object : (o : Option Members) → ((ms : Members) → o ≡ Some ms → Rise ms) → option_map listed o ≡ Some members → then_of (ok_or (option_map listed o) (codes "records_per_key")) (given schema.indexes base) ≡ Err field
      → IsLeastBad schema.indexes members field
  by_object None h some e = absurd (cc some)
  by_object (Some ms) h some e =
      let same : listed ms ≡ members = cc some in
      subst (λ l. IsLeastBad schema.indexes l field) same (given_least schema.indexes base ms field (h ms refl) e)

  by_members : (o : Option Members) → ((ms : Members) → o ≡ Some ms → Rise ms) → (d : Data) → option_and_then (only_value (codes "records_per_key")) (option_map listed o) ≡ Some d → RiseIn d
  by_members None h d e = absurd (cc e)
  by_members (Some ms) h d e = value_rises (codes "records_per_key") ms d (h ms refl) e

  by_value : (o : Option Data) → only_record value ≡ o → option_map listed (option_and_then as_object o) ≡ Some members
      → then_of (ok_or (option_map listed (option_and_then as_object o)) (codes "records_per_key")) (given schema.indexes base) ≡ Err field → IsLeastBad schema.indexes members field
  by_value None e some t = absurd (cc some)
  by_value (Some d) e some t =
      by_object (as_object d) (λ ms o. object_rises d ms (by_members (as_object value) (λ found f. object_rises value found r f) d e) o) some t

of_least : (schema : Schema) (base : List (List ℕ)) (text : List ℕ) (members : List Member) (field : List ℕ) → records_of text ≡ Some members → stats_of schema base text ≡ Err field
    → IsLeastBad schema.indexes members field
unfolding stats_of
of_least schema base text members field is told = go (json_of text) refl is told where
  go : (o : Option Data) → json_of text ≡ o → option_and_then records_in o ≡ Some members → then_of (ok_or o (codes "json")) (stats_in schema base) ≡ Err field → IsLeastBad schema.indexes members field
  go None e some t = absurd (cc some)
  go (Some value) e some t = in_least schema base value members field (json_rises text (is_utf8 text) value e) some t

least_of : (schema : Schema) (base : List (List ℕ)) (text : List ℕ) (fault : StatsFault) → FaultOf (stats_of schema base text) fault → TellsLeast schema text fault
least_of schema base text (BadStats field) told = λ members is. of_least schema base text members field is told
least_of schema base text NoMemory told = tt

pub least_told : (schema : Schema) (base : List (List ℕ)) (text : List ℕ) (r : Result (List (List ℕ)) StatsFault) → IfErr r (FaultOf (stats_of schema base text)) → IfErr r (TellsLeast schema text)
least_told schema base text (Ok statistics) told = tt
least_told schema base text (Err fault) told = least_of schema base text fault told

pub fault_least : (schema : Schema) (base : List (List ℕ)) (text : List ℕ) (fault : StatsFault) → FaultOf (stats_of schema base text) fault → TellsLeast schema text fault
fault_least schema base text fault told = least_of schema base text fault told
