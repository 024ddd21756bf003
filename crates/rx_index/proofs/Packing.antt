-- Rows with one short word are sorted as single numbers.
use Rattle.std.proofs.Common.{◌≡◌, ◌⊎◌, inl, inr, ℕ, zero, suc, ◌+◌, ◌*◌, ◌/◌, ◌%◌, ◌<◌, ◌≤◌, ◌^◌, true, false, List, [], ◌∷◌, ◌++◌, length, map, get_or, refl, sym, ap, ap₂, ◌∙◌, subst, arith}
use Rattle.std.specs.declared.cmp.Ordering.TheVariants.{Greater}
use Rattle.std.specs.Ordering.{ordering_then, is_lt, nat_cmp}
use Rattle.std.specs.List.Sorted.{IsPermutation, IsSorted, IsSortedBy}
use Rattle.std.proofs.lemmas.List.{map-append, get_or-map, length-map}
use Rattle.std.proofs.lemmas.List.Elements.{All-push}
use Rattle.std.proofs.lemmas.List.Sorted.{IsPermutation-map}
use Rattle.std.proofs.lemmas.Nat.{div-add-mod'}
use Rattle.rx_value.specs.declared.values.Value.{Value}
use Rattle.rx_value.specs.declared.shapes.Part.{Part}
use Rattle.rx_index.specs.declared.heads.Field.{Field}
use Rattle.rx_index.specs.declared.orders.Placed.{Placed}
use Rattle.rx_index.specs.Entries.{row_at}
use Rattle.rx_index.specs.Heads.{IsHead, count_of, sizes}
use Rattle.rx_index.specs.Placed.{words_cmp, IsWords, IsNumbered, IsOrdered, TellApart}
use Rattle.rx_index.specs.Packed.{packed, unpacked, IsBrief, ArePackedTo, AreSorted}
use Rattle.rx_index.proofs.Numbering.{one_more, order_of_words, apart_by_words}
use Rattle.rx_index.proofs.Spaces.{digit_within, step}

-- ---- a word is below the number of words

head_within : (before : ℕ) (fields : List Field) (row : List Value) (n : ℕ) → IsHead before fields row n → n + 1 ≤ (before + 1) * sizes fields
head_within before [] row n h = omega (arith, h)
head_within before (field ∷ fields) row n h =
    omega (arith, head_within (before * (count_of field.shape + 1) + h.0) fields row n h.2, step before (count_of field.shape) h.0 (sizes fields) (digit_within field row h.0 h.1))

pub word_fits : (fields : List Field) (row : List Value) (n : ℕ) → sizes fields ≤ 2 ^ 96 → IsHead 0 fields row n → n < 2 ^ 96
word_fits fields row n few h = omega (arith, head_within 0 fields row n h, few)

-- ---- one row more

pub none_packed : (fields : List Field) (rows : List (List Value)) (numbers : List ℕ) → numbers ≡ [] → ArePackedTo fields rows 0 numbers
none_packed fields rows numbers e = record { list = []; placed = record { heads = λ k d lt. absurd (omega (arith, lt)); ids = refl }; are = e; brief = λ k d lt. absurd (omega (arith, lt)) }

pub packed_more : (fields : List Field) (rows : List (List Value)) (numbers after : List ℕ) (head id : ℕ) → id < 4294967296 → ArePackedTo fields rows id numbers
    → IsHead 0 fields (row_at rows id) head → after ≡ numbers ++ packed (record { head = head; next = 0; id = id }) ∷ [] → ArePackedTo fields rows (id + 1) after
packed_more fields rows numbers after head id below h is e =
    let place : Placed = record { head = head; next = 0; id = id } in
    record {
      list = h.list ++ place ∷ [];
      placed = one_more fields [] rows h.list (h.list ++ place ∷ []) place id h.placed refl is refl refl;
      are = e ∙ ap (λ l. l ++ packed place ∷ []) h.are ∙ sym (map-append packed h.list (place ∷ []));
      brief = All-push IsBrief h.list place h.brief (record { next = refl; id = below });
    }

-- ---- what was packed is unpacked

quotient : (h i : ℕ) → i < 4294967296 → (h * 4294967296 + i) / 4294967296 ≡ h
quotient h i lt = omega (arith, lt)

rest : (h i : ℕ) → i < 4294967296 → (h * 4294967296 + i) % 4294967296 ≡ i
rest h i lt = omega (arith, lt)

abbrev place_of : ℕ → ℕ → ℕ → Placed
place_of head next id = record { head = head; next = next; id = id }

same_place : (a b : Placed) → a.head ≡ b.head → a.next ≡ b.next → a.id ≡ b.id → a ≡ b
same_place a b e f g = ap (λ h. place_of h a.next a.id) e ∙ ap (λ n. place_of b.head n a.id) f ∙ ap (λ i. place_of b.head b.next i) g

back : (p : Placed) → IsBrief p → unpacked (packed p) ≡ p
back p b = same_place (unpacked (packed p)) p (quotient p.head p.id b.id) (sym b.next) (rest p.head p.id b.id)

all_back : (list : List Placed) → ((k : ℕ) (d : Placed) → k < length list → IsBrief (get_or list k d)) → map unpacked (map packed list) ≡ list
all_back [] h = refl
all_back (p ∷ ps) h = ap₂ (λ x xs. x ∷ xs) (back p (h 0 p (omega arith))) (all_back ps (λ k d lt. h (suc k) d (omega (arith, lt))))

-- ---- numbers in order are rows in order

not_behind : (m n : ℕ) → is_lt (nat_cmp n m) ≡ false → m ≤ n
not_behind m n e = grind (arith, e)

words_in_order : (a b c d : ℕ) → a < c → is_lt (ordering_then (nat_cmp c a) (ordering_then (nat_cmp 0 0) (nat_cmp d b))) ≡ false
words_in_order a b c d lt = ap (λ o. is_lt (ordering_then o (ordering_then (nat_cmp 0 0) (nat_cmp d b)))) (greater a c lt) where
  greater : (x y : ℕ) → x < y → nat_cmp y x ≡ Greater
  greater x y h = grind (arith, h)

ids_in_order : (a b d : ℕ) → b ≤ d → is_lt (ordering_then (nat_cmp a a) (ordering_then (nat_cmp 0 0) (nat_cmp d b))) ≡ false
ids_in_order a b d le = grind (arith, le)

below_or : (a c : ℕ) → (a < c) ⊎ (c ≤ a)
below_or zero zero = inr (omega arith)
below_or zero (suc c) = inl (omega arith)
below_or (suc a) zero = inr (omega arith)
below_or (suc a) (suc c) = elim (below_or a c) [ inl h ↦ inl (omega (arith, h)) | inr h ↦ inr (omega (arith, h)) ]

by_words : (a b c d : ℕ) → a * 4294967296 + b ≤ c * 4294967296 + d → d < 4294967296 → is_lt (ordering_then (nat_cmp c a) (ordering_then (nat_cmp 0 0) (nat_cmp d b))) ≡ false
by_words a b c d le lt = elim (below_or a c) [
  | inl h ↦ words_in_order a b c d h
  | inr h ↦
      let same : a ≡ c = omega (arith, h, le, lt) in
      subst (λ x. is_lt (ordering_then (nat_cmp x a) (ordering_then (nat_cmp 0 0) (nat_cmp d b))) ≡ false) same (ids_in_order a b d (omega (arith, same, le)))
]

in_order : (m n : ℕ) → m ≤ n → is_lt (words_cmp (unpacked n) (unpacked m)) ≡ false
in_order m n le =
    by_words (m / 4294967296) (m % 4294967296) (n / 4294967296) (n % 4294967296) (omega (arith, div-add-mod' m 4294967296, div-add-mod' n 4294967296, le)) (omega arith)

rows_in_order : (sorted : List ℕ) → IsSorted nat_cmp sorted → IsSortedBy (λ x y. is_lt (words_cmp x y)) (map unpacked sorted)
rows_in_order sorted up k d lo lt =
    let n : k + 1 < length sorted = omega (arith, lt, length-map sorted unpacked) in
    ap₂ (λ x y. is_lt (words_cmp x y)) (get_or-map unpacked sorted (k + 1) 0 d n) (get_or-map unpacked sorted k 0 d (omega (arith, n)))
    ∙ in_order (get_or sorted k 0) (get_or sorted (k + 1) 0) (not_behind (get_or sorted k 0) (get_or sorted (k + 1) 0) (up k 0 lo n))

module _ (parts : List Part) (rows : List (List Value)) (fields : List Field) (words : IsWords parts fields [] true) (numbers : List ℕ) (p : ArePackedTo fields rows (length rows) numbers) (list : List Placed) (s : AreSorted numbers list) where
  numbered : IsNumbered parts rows p.list true
  numbered = record { first = fields; second = []; words = words; placed = p.placed }

  moved : IsPermutation p.list list
  moved = subst (IsPermutation p.list) (sym s.are)
      (subst (λ l. IsPermutation l (map unpacked s.sorted)) (ap (map unpacked) p.are ∙ all_back p.list p.brief) (IsPermutation-map unpacked numbers s.sorted s.same))

  pub packed_order : IsOrdered parts rows list
  packed_order = order_of_words parts rows p.list list numbered moved (subst (IsSortedBy (λ x y. is_lt (words_cmp x y))) (sym s.are) (rows_in_order s.sorted s.rising))

  pub packed_apart : TellApart parts rows list
  packed_apart = apart_by_words parts rows p.list list numbered moved
