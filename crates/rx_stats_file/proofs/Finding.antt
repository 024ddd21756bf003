-- What the functions that read find.
use Rattle.std.proofs.Common.{◌≡◌, ℕ, ◌+◌, ◌<◌, Bool, true, false, ◌&&◌, cond, is_some, List, [], ◌∷◌, ◌++◌, length, map, take, get_or, zip, filter_map, eqb, min, le_of_eq, append-nil, ap₂, Some, None, IsUtf8, refl, sym, ap, ◌∙◌, arith, eq-eqb, ne_eqb}
use Rattle.std.specs.Str.{is_utf8}
use Rattle.std.specs.List.{list_all, cons_option}
use Rattle.std.proofs.lemmas.Str.{IsUtf8-from_is_utf8, is_utf8-from_IsUtf8}
use Rattle.std.proofs.lemmas.List.{take_more, take_all, map-append, length-map}
use Rattle.std.proofs.lemmas.List.Elements.{filter_map-append}
use Rattle.std.proofs.lemmas.List.Folds.{list_all-map}
use Rattle.std.proofs.lemmas.Slice.Zip.{length-zip, get_or-zip}
use Rattle.serde_json.specs.Data.{Data}
use Rattle.serde_json.specs.Find.{as_array}
use Rattle.serde_json.specs.Read.{read}
use Rattle.serde_json.specs.View.{view, items_view}
use Rattle.serde_json.specs.declared.value.Value.{Value}
use Rattle.rx_value.specs.declared.shapes.Index.{Index}
use Rattle.rx_stats_file.specs.Members.{listed_items, json_of}
use Rattle.rx_stats_file.specs.Statistics.{number_of, are_numbers_for, is_list_for, numbers_of}

-- ---- texts

pub json_there : (text : List ℕ) (value : Data) → IsUtf8 text → read text ≡ Some value → Some value ≡ json_of text
json_there text value utf8 is = rw (is_utf8-from_IsUtf8 text utf8) (sym is)

not_there : (text : List ℕ) (b : Bool) → is_utf8 text ≡ b → (IsUtf8 text → read text ≡ None) → None ≡ cond b (read text) None
not_there text true e h = sym (h (IsUtf8-from_is_utf8 text e))
not_there text false e h = refl

pub json_missing : (text : List ℕ) → (IsUtf8 text → read text ≡ None) → None ≡ json_of text
json_missing text h = not_there text (is_utf8 text) refl h

-- ---- lists of numbers

pub items_listed : (values : List Value) → listed_items (items_view values) ≡ map view values
items_listed [] = refl
items_listed (value ∷ values) = ap (λ l. view value ∷ l) (items_listed values)

-- as many items as parts
pub as_many_items : (index : Index) (items : List Value) (a b : ℕ) (passes : Bool) → a ≡ length items → b ≡ length index.parts → a ≡ b
    → passes ≡ list_all (λ item. is_some (number_of (view item))) items → passes ≡ are_numbers_for index (map view items)
as_many_items index items a b passes first second same told =
    told ∙ sym (list_all-map (λ item. is_some (number_of item)) view items)
    ∙ ap (λ t. t && list_all (λ item. is_some (number_of item)) (map view items)) (sym (eq-eqb (length (map view items)) (length index.parts) (length-map items view ∙ sym first ∙ same ∙ second)))

-- more or fewer
pub other_count : (index : Index) (items : List Value) (a b : ℕ) → a ≡ length items → b ≡ length index.parts → (a ≡ b → ⊥) → eqb a b ≡ are_numbers_for index (map view items)
other_count index items a b first second apart =
    ne_eqb a b apart
    ∙ ap (λ t. t && list_all (λ item. is_some (number_of item)) (map view items)) (sym (ne_eqb (length (map view items)) (length index.parts) (λ e. apart (first ∙ sym (length-map items view) ∙ e ∙ sym second))))

pub list_there : (index : Index) (value : Data) (values items : List Value) → as_array value ≡ Some (items_view values) → items ≡ values → are_numbers_for index (map view items) ≡ is_list_for index value
list_there index value values items is whole = rw (is, items_listed values, whole) refl

pub numbers_there : (value : Data) (values : List Value) → as_array value ≡ Some (items_view values) → filter_map number_of (map view values) ≡ numbers_of value
numbers_there value values is = rw (is, items_listed values) refl

-- what one item more adds
numbers_more : (values : List Value) (n : ℕ) (item : Value) → n < length values → item ≡ get_or values n item
    → filter_map number_of (map view (take (n + 1) values)) ≡ filter_map number_of (map view (take n values)) ++ filter_map number_of (view item ∷ [])
numbers_more values n item lt is =
    ap (λ l. filter_map number_of (map view l)) (take_more values n item lt ∙ ap (λ x. take n values ++ x ∷ []) (sym is))
    ∙ ap (filter_map number_of) (map-append view (take n values) (item ∷ []))
    ∙ filter_map-append number_of (map view (take n values)) (view item ∷ [])

pub number_taken : (values : List Value) (n number : ℕ) (item : Value) (numbers after : List ℕ) → n < length values → item ≡ get_or values n item → number_of (view item) ≡ Some number
    → numbers ≡ filter_map number_of (map view (take n values)) → after ≡ numbers ++ number ∷ [] → after ≡ filter_map number_of (map view (take (n + 1) values))
number_taken values n number item numbers after lt is taken so_far e =
    e ∙ ap (λ l. l ++ number ∷ []) so_far ∙ ap (λ o. filter_map number_of (map view (take n values)) ++ cons_option o []) (sym taken) ∙ sym (numbers_more values n item lt is)

pub no_number : (values : List Value) (n : ℕ) (item : Value) (numbers : List ℕ) → n < length values → item ≡ get_or values n item → number_of (view item) ≡ None
    → numbers ≡ filter_map number_of (map view (take n values)) → numbers ≡ filter_map number_of (map view (take (n + 1) values))
no_number values n item numbers lt is none so_far =
    so_far ∙ sym (append-nil (filter_map number_of (map view (take n values)))) ∙ ap (λ o. filter_map number_of (map view (take n values)) ++ cons_option o []) (sym none)
    ∙ sym (numbers_more values n item lt is)

-- ---- pairs

-- what one pair more adds
pub pair_more : {A B C : Type 0} (f : A × B → C) (xs : List A) (ys : List B) (n m : ℕ) (x : A) (y : B) → n < length xs → n < length ys → x ≡ get_or xs n x → y ≡ get_or ys n y → m ≡ n + 1
    → map f (take m (zip xs ys)) ≡ map f (take n (zip xs ys)) ++ f (x, y) ∷ []
pair_more {A} {B} f xs ys n m x y left right is_x is_y more =
    let pair : get_or (zip xs ys) n (x, y) ≡ (x, y) = get_or-zip xs ys n (x, y) left right ∙ ap₂ (λ (a : A) (b : B). (a, b)) (sym is_x) (sym is_y) in
    let within : n < length (zip xs ys) = rw (length-zip xs ys) (grind arith) in
    ap (λ k. map f (take k (zip xs ys))) more
    ∙ ap (map f) (take_more (zip xs ys) n (x, y) within ∙ ap (λ p. take n (zip xs ys) ++ p ∷ []) pair)
    ∙ map-append f (take n (zip xs ys)) ((x, y) ∷ [])

pub all_pairs : {A B C : Type 0} (f : A × B → C) (xs : List A) (ys : List B) (n : ℕ) → n ≡ min (length xs) (length ys) → map f (take n (zip xs ys)) ≡ map f (zip xs ys)
all_pairs f xs ys n e = ap (map f) (take_all n (zip xs ys) (le_of_eq (length-zip xs ys ∙ sym e)))
