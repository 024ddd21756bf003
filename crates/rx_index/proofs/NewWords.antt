-- Where words tell keys apart, there are as many different keys as rows with other words than the one before them.
use Rattle.std.proofs.Common.{◌≡◌, ℕ, zero, suc, ◌+◌, ◌-◌, ◌<◌, ◌≤◌, Bool, true, false, not, ◌&&◌, ◌||◌, nat_eq, cond, List, [], ◌∷◌, ◌++◌, length, map, filter, take, get_or, refl, sym, ap, ap₂, ◌∙◌, subst, arith}
use Rattle.std.specs.declared.cmp.Ordering.{Ordering}
use Rattle.std.specs.declared.cmp.Ordering.TheVariants.{Less, Equal, Greater}
use Rattle.std.specs.Ordering.{is_eq}
use Rattle.std.specs.List.{range_with_len}
use Rattle.std.proofs.lemmas.List.{length-map, get_or-map, take_all}
use Rattle.std.proofs.lemmas.List.FromFn.{length-range_with_len, get_or-range_with_len}
use Rattle.std.proofs.lemmas.List.Elements.{All-get_or}
use Rattle.rx_value.specs.declared.values.Value.{Value}
use Rattle.rx_value.specs.declared.shapes.Part.{Part}
use Rattle.rx_value.proofs.KeyOrder.{by_key}
use Rattle.rx_index.specs.declared.orders.Placed.{Placed}
use Rattle.rx_index.specs.Entries.{row_at}
use Rattle.rx_index.specs.Different.{HasDifferent, fronts}
use Rattle.rx_index.specs.Marks.{is_new, count_marked, AreMarked, no_place, same_words, has_new_words, count_new_words}
use Rattle.rx_index.specs.Placed.{IsPlaced, IsOrdered, ids_in, TellApart}
use Rattle.rx_index.proofs.Numbering.{words_agree, id_same, as_many_ids}
use Rattle.rx_index.proofs.Marking.{all_counted}
use Rattle.rx_index.proofs.Sorting.{range_more}

-- ---- one row more

abbrev passed : Bool → ℕ
passed true = 1
passed false = 0

pass_alone : {X : Type 0} (x : X) (b : Bool) → length (cond b (x ∷ []) []) ≡ 0 + passed b
pass_alone x true = omega arith
pass_alone x false = omega arith

pass_front : {X : Type 0} (y : X) (more ys : List X) (n : ℕ) (b : Bool) → length more ≡ length ys + n → length (cond b (y ∷ more) more) ≡ length (cond b (y ∷ ys) ys) + n
pass_front y more ys n true h = omega (arith, h)
pass_front y more ys n false h = h

pass_more : {X : Type 0} (p : X → Bool) (xs : List X) (x : X) → length (filter p (xs ++ x ∷ [])) ≡ length (filter p xs) + passed (p x)
pass_more {X} p [] x = pass_alone x (p x)
pass_more {X} p (y ∷ ys) x = pass_front y (filter p (ys ++ x ∷ [])) (filter p ys) (passed (p x)) (p y) (pass_more p ys x)

one_more : (list : List Placed) (n : ℕ) (b : Bool) → has_new_words list n ≡ b → count_new_words list (n + 1) ≡ count_new_words list n + passed b
one_more list n b e =
    ap (λ l. length (filter (has_new_words list) l)) (range_more n)
    ∙ pass_more (has_new_words list) (range_with_len 0 n) n
    ∙ ap (λ c. count_new_words list n + passed c) e

pub counted_new : (list : List Placed) (n count : ℕ) → has_new_words list n ≡ true → count ≡ count_new_words list n → count + 1 ≡ count_new_words list (n + 1)
counted_new list n count e h = omega (arith, h, one_more list n true e)

pub counted_old : (list : List Placed) (n count : ℕ) → has_new_words list n ≡ false → count ≡ count_new_words list n → count ≡ count_new_words list (n + 1)
counted_old list n count e h = omega (arith, h, one_more list n false e)

one_at_most : (list : List Placed) (n : ℕ) (b : Bool) → has_new_words list n ≡ b → count_new_words list n ≤ n → count_new_words list (n + 1) ≤ n + 1
one_at_most list n true e h = omega (arith, one_more list n true e, h)
one_at_most list n false e h = omega (arith, one_more list n false e, h)

pub at_most : (list : List Placed) (n : ℕ) → count_new_words list n ≤ n
at_most list zero = omega arith
at_most list (suc n) =
    let next : suc n ≡ n + 1 = omega arith in
    subst (λ k. count_new_words list k ≤ k) (sym next) (one_at_most list n (has_new_words list n) refl (at_most list n))

-- ---- words and keys

equal_of : (o : Ordering) → is_eq o ≡ true → o ≡ Equal
equal_of Less e = absurd (cc e)
equal_of Equal e = refl
equal_of Greater e = absurd (cc e)

eq_nat : (m n : ℕ) → nat_eq m n ≡ true → m ≡ n
eq_nat m n e = grind (arith, e)

eq_same : (m n : ℕ) → m ≡ n → nat_eq m n ≡ true
eq_same m n e = grind (arith, e)

both : (b c : Bool) → b && c ≡ true → (b ≡ true) × (c ≡ true)
both true true e = (refl, refl)
both true false e = absurd (cc e)
both false c e = absurd (cc e)

mark_of : {X : Type 0} (x : X) (marks : List Bool) (ys : List X) (b : Bool) → length marks ≡ length ys → length (cond b (b ∷ marks) marks) ≡ length (cond b (x ∷ ys) ys)
mark_of x marks ys true h = ap suc h
mark_of x marks ys false h = h

marks_of : {X : Type 0} (p : X → Bool) (xs : List X) → count_marked (map p xs) ≡ length (filter p xs)
marks_of {X} p [] = refl
marks_of {X} p (x ∷ xs) = mark_of x (filter (λ m. m) (map p xs)) (filter p xs) (p x) (marks_of p xs)

module _ (parts : List Part) (rows : List (List Value)) (list : List Placed) (o : IsOrdered parts rows list) (apart : TellApart parts rows list) where
  abbrev at : ℕ → Placed
  at i = get_or list i no_place

  abbrev keys_equal : ℕ → ℕ → Bool
  keys_equal i j = is_eq (by_key parts (row_at rows (at i).id) (row_at rows (at j).id))

  agree_by : (i j : ℕ) (w k : Bool) → same_words (at i) (at j) ≡ w → keys_equal i j ≡ k → i < length list → j < length list → w ≡ k
  agree_by i j true true e f il jl = refl
  agree_by i j false false e f il jl = refl
  agree_by i j true false e f il jl =
      let s = both (nat_eq (at i).head (at j).head) (nat_eq (at i).next (at j).next) e in
      let q = apart i j no_place il jl (eq_nat _ _ s.0) (eq_nat _ _ s.1) in
      absurd (cc (f, ap is_eq q))
  agree_by i j false true e f il jl =
      let w = words_agree parts rows list o (at i) (at j) (All-get_or (IsPlaced o.first o.second rows) list i no_place il o.placed)
      (All-get_or (IsPlaced o.first o.second rows) list j no_place jl o.placed) (equal_of _ f) in
      absurd (cc (e, ap₂ (λ b c. b && c) (eq_same _ _ w.0) (eq_same _ _ w.1)))

  new_as_key : (i : ℕ) → i < length list → has_new_words list i ≡ is_new (take (length parts) parts) rows (ids_in list) i
  new_as_key i lt =
      ap (λ b. nat_eq i 0 || not b) (agree_by (i - 1) i (same_words (at (i - 1)) (at i)) (keys_equal (i - 1) i) refl refl (omega (arith, lt)) lt)
      ∙ ap₂ (λ x y. nat_eq i 0 || not (is_eq (by_key parts (row_at rows x) (row_at rows y)))) (sym (id_same list (i - 1))) (sym (id_same list i))
      ∙ sym (ap (λ ps. is_new ps rows (ids_in list) i) (take_all (length parts) parts (omega arith)))

  abbrev marks : List Bool
  marks = map (has_new_words list) (range_with_len 0 (length list))

  marked : AreMarked parts (length parts) rows (ids_in list) marks
  marked = record {
    as_many = length-map (range_with_len 0 (length list)) (has_new_words list) ∙ length-range_with_len 0 (length list) ∙ sym (as_many_ids list);
    each = λ i lt.
        let within : i < length list = omega (arith, lt, as_many_ids list) in
        let there : i < length (range_with_len 0 (length list)) = omega (arith, within, length-range_with_len 0 (length list)) in
        let same : get_or (range_with_len 0 (length list)) i 0 ≡ i = omega (arith, get_or-range_with_len 0 (length list) i 0 within) in
        get_or-map (has_new_words list) (range_with_len 0 (length list)) i 0 false there ∙ ap (has_new_words list) same ∙ new_as_key i within;
  }

  pub words_count_keys : HasDifferent (fronts parts (length parts) rows) (count_new_words list (length list))
  words_count_keys = subst (HasDifferent (fronts parts (length parts) rows)) (marks_of (has_new_words list) (range_with_len 0 (length list))) (all_counted parts rows (ids_in list) o.order (length parts) marks marked)
