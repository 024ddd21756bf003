-- Rows with the numbers that their keys begin with, sorted by these first.
use Rattle.std.proofs.Common.{◌≡◌, ◌⊎◌, inl, inr, ℕ, zero, suc, ◌+◌, ◌<◌, ◌≤◌, Bool, true, false, ◌&&◌, List, [], ◌∷◌, ◌++◌, take, drop, length, get_or, All, refl, sym, ap, ap₂, ◌∙◌, subst, arith}
use Rattle.std.specs.declared.cmp.Ordering.{Ordering}
use Rattle.std.specs.declared.cmp.Ordering.TheVariants.{Less, Equal, Greater}
use Rattle.std.specs.Ordering.{ordering_then, is_lt, is_gt, is_eq, nat_cmp}
use Rattle.std.specs.Cmp.{IsTotalOrder}
use Rattle.std.specs.List.Sorted.{IsPermutation, IsSorted, IsSortedBy}
use Rattle.std.proofs.lemmas.Cmp.{on_total, then_total, nat_cmp_total}
use Rattle.std.proofs.lemmas.List.{map-append, length-map, get_or_default, take_more}
use Rattle.std.proofs.lemmas.List.Elements.{All-get_or, All-push}
use Rattle.std.proofs.lemmas.List.Sorted.{All-permutation, IsPermutation-map}
use Rattle.std.proofs.lemmas.Option.{unwrap_or-slice_get}
use Rattle.rx_value.specs.declared.values.Value.{Value}
use Rattle.rx_value.specs.declared.shapes.Part.{Part}
use Rattle.rx_value.proofs.KeyOrder.{by_key, by_key_total}
use Rattle.std.proofs.lemmas.Cmp.{tied_back}
use Rattle.rx_index.specs.Steps.{pairs_up}
use Rattle.rx_index.specs.declared.heads.Field.{Field}
use Rattle.rx_index.specs.declared.orders.Placed.{Placed}
use Rattle.rx_index.specs.Entries.{row_at, entry_cmp}
use Rattle.rx_index.specs.Heads.{IsHead, IsFields, AreExact}
use Rattle.rx_index.specs.Placed.{placed_cmp, words_cmp, IsPlaced, ids_in, ArePlaced, IsWords, IsNumbered, IsOrdered, TellApart}
use Rattle.rx_index.proofs.Sorting.{range_more, entry_total}
use Rattle.rx_index.proofs.Rising.{head_rises, same_head}
use Rattle.std.proofs.Math.ListN.{drop_of_length-le, length-drop}

-- the same order where an id without a row has no values
abbrev pub by_number : List Part → List (List Value) → Placed → Placed → Ordering
by_number parts rows a b = placed_cmp [] parts rows a b

pub number_total : (parts : List Part) (rows : List (List Value)) → IsTotalOrder (by_number parts rows)
number_total parts rows =
    then_total (on_total (λ (p : Placed). p.head) nat_cmp_total) (then_total (on_total (λ (p : Placed). p.next) nat_cmp_total) (on_total (λ (p : Placed). p.id) (entry_total parts rows)))

pub words_total : IsTotalOrder words_cmp
words_total = then_total (on_total (λ (p : Placed). p.head) nat_cmp_total) (then_total (on_total (λ (p : Placed). p.next) nat_cmp_total) (on_total (λ (p : Placed). p.id) nat_cmp_total))

-- ---- one row more

pub one_more : (first second : List Field) (rows : List (List Value)) (list after : List Placed) (place : Placed) (id : ℕ) → ArePlaced first second rows id list → place.id ≡ id
    → IsHead 0 first (row_at rows id) place.head → IsHead 0 second (row_at rows id) place.next → after ≡ list ++ place ∷ [] → ArePlaced first second rows (id + 1) after
one_more first second rows list after place id h same f g e = subst (ArePlaced first second rows (id + 1)) (sym e) (record {
  heads = All-push (IsPlaced first second rows) list place h.heads (record {
    head = subst (λ n. IsHead 0 first (row_at rows n) place.head) (sym same) f;
    next = subst (λ n. IsHead 0 second (row_at rows n) place.next) (sym same) g;
  });
  ids = map-append (λ (p : Placed). p.id) list (place ∷ []) ∙ ap₂ (λ ids n. ids ++ n ∷ []) h.ids same ∙ sym (range_more id);
})

pub ids_more : (list : List Placed) (n : ℕ) (place : Placed) (ids after : List ℕ) → n < length list → place ≡ get_or list n place → ids ≡ ids_in (take n list) → after ≡ ids ++ place.id ∷ []
    → after ≡ ids_in (take (n + 1) list)
ids_more list n place ids after lt is e f =
    f ∙ ap (λ l. l ++ place.id ∷ []) e
    ∙ sym (ap ids_in (take_more list n place lt ∙ ap (λ p. take n list ++ p ∷ []) (sym is)) ∙ map-append (λ (p : Placed). p.id) (take n list) (place ∷ []))

-- ---- in the order of words rows are in that of entries

nat_greater : (x y : ℕ) → nat_cmp x y ≡ Greater → y < x
nat_greater x y p = grind arith

nat_same : (x y : ℕ) → nat_cmp x y ≡ Equal → x ≡ y
nat_same x y p = grind arith

not_less : (k : Ordering) (tail : Ordering) → (is_gt k ≡ false → ⊥) → is_lt (ordering_then k tail) ≡ false
not_less Less tail h = absurd (h refl)
not_less Equal tail h = absurd (h refl)
not_less Greater tail h = refl

nothing_behind : (parts : List Part) (r s : List Value) → parts ≡ [] → by_key parts r s ≡ Equal
nothing_behind [] r s e = refl
nothing_behind (p ∷ ps) r s e = absurd (cc e)

module _ (parts : List Part) (rows : List (List Value)) (first second : List Field) (whole : Bool) (is : IsWords parts first second whole) where
  abbrev row_of : Placed → List Value
  row_of p = row_at rows p.id

  abbrev rest : List Part
  rest = drop (length first) parts

  -- where the first words are equal, the keys go on with the other parts
  goes_on : AreExact first → (a b : Placed) → IsPlaced first second rows a → IsPlaced first second rows b → b.head ≡ a.head → by_key parts (row_of b) (row_of a) ≡ by_key rest (row_of b) (row_of a)
  goes_on x a b f g e = same_head first parts 0 (row_of b) (row_of a) b.head is.are_first x g.head (subst (IsHead 0 first (row_of a)) (sym e) f.head)

  -- where the first words are equal and the second one is greater, the key is behind
  second_greater : (a b : Placed) → IsPlaced first second rows a → IsPlaced first second rows b → b.head ≡ a.head → a.next < b.next → (AreExact first) ⊎ (second ≡ []) → is_gt (by_key parts (row_of b) (row_of a)) ≡ false → ⊥
  second_greater a b f g e lt (inl x) h =
      let le : b.next ≤ a.next = head_rises second rest 0 (row_of b) (row_of a) b.next a.next is.are_second (ap is_gt (sym (goes_on x a b f g e)) ∙ h) g.next f.next in
      omega (arith, lt, le)
  second_greater a b f g e lt (inr none) h =
      let p : b.next ≡ 0 = subst (λ l. IsHead 0 l (row_of b) b.next) none g.next in
      omega (arith, lt, p)

  -- where all fields tell keys apart, equal words are equal keys
  same_key : whole ≡ true → (a b : Placed) → IsPlaced first second rows a → IsPlaced first second rows b → b.head ≡ a.head → b.next ≡ a.next → by_key parts (row_of b) (row_of a) ≡ Equal
  same_key w a b f g e n =
      let all = is.all w in
      goes_on all.0 a b f g e
      ∙ same_head second rest 0 (row_of b) (row_of a) b.next is.are_second all.1 g.next (subst (IsHead 0 second (row_of a)) (sym n) f.next)
      ∙ nothing_behind (drop (length second) rest) (row_of b) (row_of a) (drop_of_length-le rest (omega (arith, all.2, length-drop (length first) parts)))

  agree_by : (a b : Placed) (o p : Ordering) (tail : Ordering) → nat_cmp b.head a.head ≡ o → nat_cmp b.next a.next ≡ p → IsPlaced first second rows a → IsPlaced first second rows b
      → (b.head ≡ a.head → b.next ≡ a.next → is_lt tail ≡ false → is_lt (entry_cmp parts rows b.id a.id) ≡ false)
      → is_lt (ordering_then o (ordering_then p tail)) ≡ false → is_lt (entry_cmp parts rows b.id a.id) ≡ false
  agree_by a b Less p tail e q f g on h = absurd (cc h)
  agree_by a b Equal Less tail e q f g on h = absurd (cc h)
  agree_by a b Equal Equal tail e q f g on h = on (nat_same b.head a.head e) (nat_same b.next a.next q) h
  agree_by a b Equal Greater tail e q f g on h =
      not_less (by_key parts (row_of b) (row_of a)) (nat_cmp b.id a.id) (second_greater a b f g (nat_same b.head a.head e) (nat_greater b.next a.next q) is.apart)
  agree_by a b Greater p tail e q f g on h = not_less (by_key parts (row_of b) (row_of a)) (nat_cmp b.id a.id) (λ k.
      let l : b.head ≤ a.head = head_rises first parts 0 (row_of b) (row_of a) b.head a.head is.are_first k g.head f.head in
      let m : a.head < b.head = nat_greater b.head a.head e in
      omega (arith, l, m))

  agree : (a b : Placed) → IsPlaced first second rows a → IsPlaced first second rows b → is_lt (by_number parts rows b a) ≡ false → is_lt (entry_cmp parts rows b.id a.id) ≡ false
  agree a b f g h = agree_by a b (nat_cmp b.head a.head) (nat_cmp b.next a.next) (entry_cmp parts rows b.id a.id) refl refl f g (λ e n k. k) h

  agree_whole : whole ≡ true → (a b : Placed) → IsPlaced first second rows a → IsPlaced first second rows b → is_lt (words_cmp b a) ≡ false → is_lt (entry_cmp parts rows b.id a.id) ≡ false
  agree_whole w a b f g h = agree_by a b (nat_cmp b.head a.head) (nat_cmp b.next a.next) (nat_cmp b.id a.id) refl refl f g
      (λ e n k. ap (λ o. is_lt (ordering_then o (nat_cmp b.id a.id))) (same_key w a b f g e n) ∙ k) h

  id_at : (list : List Placed) (k d : ℕ) → get_or (ids_in list) k d ≡ (get_or list k (record { head = 0; next = 0; id = d })).id
  id_at [] k d = refl
  id_at (x ∷ xs) zero d = refl
  id_at (x ∷ xs) (suc k) d = id_at xs k d

  ids_rise : (cmp : Placed → Placed → Ordering) → ((a b : Placed) → IsPlaced first second rows a → IsPlaced first second rows b → is_lt (cmp b a) ≡ false → is_lt (entry_cmp parts rows b.id a.id) ≡ false)
      → (list : List Placed) → All (IsPlaced first second rows) list → IsSortedBy (λ x y. is_lt (cmp x y)) list → IsSorted (entry_cmp parts rows) (ids_in list)
  ids_rise cmp agrees list placed up k d lo lt =
      let p : Placed = record { head = 0; next = 0; id = d } in
      let n : k + 1 < length list = omega (arith, lt, length-map list (λ (x : Placed). x.id)) in
      ap₂ (λ x y. is_lt (entry_cmp parts rows x y)) (id_at list (k + 1) d) (id_at list k d)
      ∙ agrees (get_or list k p) (get_or list (k + 1) p) (All-get_or (IsPlaced first second rows) list k p (omega (arith, n)) placed) (All-get_or (IsPlaced first second rows) list (k + 1) p n placed) (up k p lo n)

order_by : (parts : List Part) (rows : List (List Value)) (list sorted : List Placed) (whole : Bool) (h : IsNumbered parts rows list whole) → (cmp : Placed → Placed → Ordering)
    → ((a b : Placed) → IsPlaced h.first h.second rows a → IsPlaced h.first h.second rows b → is_lt (cmp b a) ≡ false → is_lt (entry_cmp parts rows b.id a.id) ≡ false)
    → IsPermutation list sorted → IsSortedBy (λ x y. is_lt (cmp x y)) sorted → IsOrdered parts rows sorted
order_by parts rows list sorted whole h cmp agrees moved up =
    let placed = All-permutation (IsPlaced h.first h.second rows) list sorted moved h.placed.heads in
    record {
      order = record {
        each = subst (λ l. IsPermutation l (ids_in sorted)) h.placed.ids (IsPermutation-map (λ (p : Placed). p.id) list sorted moved);
        rising = ids_rise parts rows h.first h.second whole h.words cmp agrees sorted placed up;
      };
      first = h.first;
      second = h.second;
      whole = whole;
      words = h.words;
      placed = placed;
    }

pub order_is : (parts : List Part) (rows : List (List Value)) (list sorted : List Placed) (whole : Bool) → IsNumbered parts rows list whole → IsPermutation list sorted → IsSortedBy (λ x y. is_lt (by_number parts rows x y)) sorted
    → IsOrdered parts rows sorted
order_is parts rows list sorted whole h moved up = order_by parts rows list sorted whole h (by_number parts rows) (agree parts rows h.first h.second whole h.words) moved up

pub order_of_words : (parts : List Part) (rows : List (List Value)) (list sorted : List Placed) → IsNumbered parts rows list true → IsPermutation list sorted → IsSortedBy (λ x y. is_lt (words_cmp x y)) sorted
    → IsOrdered parts rows sorted
order_of_words parts rows list sorted h moved up = order_by parts rows list sorted true h words_cmp (agree_whole parts rows h.first h.second true h.words refl) moved up

-- rows with the same words have equal keys where these are whole
pub apart_by_words : (parts : List Part) (rows : List (List Value)) (list sorted : List Placed) → IsNumbered parts rows list true → IsPermutation list sorted → TellApart parts rows sorted
apart_by_words parts rows list sorted h moved i j d il jl e n =
    let placed = All-permutation (IsPlaced h.first h.second rows) list sorted moved h.placed.heads in
    same_key parts rows h.first h.second true h.words refl (get_or sorted j d) (get_or sorted i d)
    (All-get_or (IsPlaced h.first h.second rows) sorted j d jl placed) (All-get_or (IsPlaced h.first h.second rows) sorted i d il placed) e n

-- no words at all
pub none_numbered : (parts : List Part) (rows : List (List Value)) (list : List Placed) → ArePlaced [] [] rows (length rows) list → IsNumbered parts rows list false
none_numbered parts rows list h = record {
  first = [];
  second = [];
  words = record { are_first = tt; are_second = tt; apart = inl tt; all = λ w. absurd (cc w) };
  placed = h;
}

-- words of a whole that isn't asked for
pub any_numbered : (parts : List Part) (rows : List (List Value)) (list : List Placed) (whole : Bool) → IsNumbered parts rows list whole → IsNumbered parts rows list false
any_numbered parts rows list whole h = record {
  first = h.first;
  second = h.second;
  words = record { are_first = h.words.are_first; are_second = h.words.are_second; apart = h.words.apart; all = λ w. absurd (cc w) };
  placed = h.placed;
}

-- ---- equal keys have the same words

back : (parts : List Part) (r s : List Value) → by_key parts r s ≡ Equal → by_key parts s r ≡ Equal
back parts r s e = tied_back (by_key_total parts) r s e

same_number : (fields : List Field) (parts : List Part) (r s : List Value) (m n : ℕ) → IsFields parts fields → by_key parts r s ≡ Equal → IsHead 0 fields r m → IsHead 0 fields s n → m ≡ n
same_number fields parts r s m n is e f g =
    omega (arith, head_rises fields parts 0 r s m n is (ap is_gt e) f g, head_rises fields parts 0 s r n m is (ap is_gt (back parts r s e)) g f)

same_second : (parts : List Part) (rows : List (List Value)) (first second : List Field) (whole : Bool) (is : IsWords parts first second whole) (a b : Placed) → IsPlaced first second rows a → IsPlaced first second rows b
    → by_key parts (row_at rows a.id) (row_at rows b.id) ≡ Equal → a.head ≡ b.head → (AreExact first) ⊎ (second ≡ []) → a.next ≡ b.next
same_second parts rows first second whole is a b f g e h (inl x) =
    same_number second (drop (length first) parts) (row_at rows a.id) (row_at rows b.id) a.next b.next is.are_second
    (sym (goes_on parts rows first second whole is x b a g f h) ∙ e) f.next g.next
same_second parts rows first second whole is a b f g e h (inr none) =
    subst (λ l. IsHead 0 l (row_at rows a.id) a.next) none f.next ∙ sym (subst (λ l. IsHead 0 l (row_at rows b.id) b.next) none g.next)

pub words_agree : (parts : List Part) (rows : List (List Value)) (list : List Placed) (o : IsOrdered parts rows list) (a b : Placed) → IsPlaced o.first o.second rows a → IsPlaced o.first o.second rows b
    → by_key parts (row_at rows a.id) (row_at rows b.id) ≡ Equal → (a.head ≡ b.head) × (a.next ≡ b.next)
words_agree parts rows list o a b f g e =
    let h : a.head ≡ b.head = same_number o.first parts (row_at rows a.id) (row_at rows b.id) a.head b.head o.words.are_first e f.head g.head in
    (h, same_second parts rows o.first o.second o.whole o.words a b f g e h o.words.apart)

equal_of : (o : Ordering) → is_eq o ≡ true → o ≡ Equal
equal_of Less e = absurd (cc e)
equal_of Equal e = refl
equal_of Greater e = absurd (cc e)

apart_by : (b c : Bool) → (b ≡ true → ⊥) → b && c ≡ false
apart_by true c h = absurd (h refl)
apart_by false c h = refl

-- where the words differ, entries don't pair up
pub words_apart : (parts : List Part) (rows : List (List Value)) (list : List Placed) (o : IsOrdered parts rows list) (a b : Placed) → IsPlaced o.first o.second rows a → IsPlaced o.first o.second rows b
    → ((a.head ≡ b.head) × (a.next ≡ b.next) → ⊥) → pairs_up parts rows a.id b.id ≡ false
words_apart parts rows list o a b f g differ = apart_by (is_eq (by_key parts (row_at rows a.id) (row_at rows b.id))) _ (λ e. differ (words_agree parts rows list o a b f g (equal_of _ e)))

-- the id at a place
pub id_same : (list : List Placed) (k : ℕ) → get_or (ids_in list) k 0 ≡ (get_or list k (record { head = 0; next = 0; id = 0 })).id
id_same [] k = refl
id_same (x ∷ xs) zero = refl
id_same (x ∷ xs) (suc k) = id_same xs k

pub as_many_ids : (list : List Placed) → length (ids_in list) ≡ length list
as_many_ids list = length-map list (λ (p : Placed). p.id)

pub row_there : (rows : List (List Value)) (id : ℕ) (row : List Value) → id < length rows → row ≡ get_or rows id row → row ≡ row_at rows id
row_there rows id row lt e = e ∙ get_or_default rows id row [] lt ∙ sym (unwrap_or-slice_get rows id [])
