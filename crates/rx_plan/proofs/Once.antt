-- What is known of the indexes is there and is one list.
use Rattle.std.proofs.Common.{◌≡◌, ◌<◌, ◌+◌, ℕ, zero, suc, Bool, true, false, List, [], ◌∷◌, ◌++◌, length, map, slice_get, Option, Some, None, All, if◌then◌else◌, refl, ap, ap₂, sym, ◌∙◌, subst, add-one, arith}
use Rattle.std.specs.List.{range_with_len, AllByRecursion}
use Rattle.std.proofs.lemmas.List.{length-map, map_push}
use Rattle.std.proofs.lemmas.List.Elements.{All-nil, All-push, All-from_recursion, recursion_from_All}
use Rattle.rx_value.specs.declared.shapes.Schema.{Schema}
use Rattle.rx_query.specs.declared.settings.Settings.{Settings}
use Rattle.rx_query.specs.Steps.{Question}
use Rattle.rx_ranges.specs.Answers.{Answer}
use Rattle.rx_ranges.proofs.One.{one_answer}
use Rattle.rx_ranges.proofs.Some.{some_answer}
use Rattle.rx_estimate.specs.Estimates.{parts_in}
use Rattle.rx_build.specs.Given.{answer_for}
use Rattle.rx_build.proofs.Given.{given_is_answer}
use Rattle.rx_plan.specs.Naming.{is_usable, index_numbers}
use Rattle.rx_plan.specs.Known.{Known, items_limit, IsKnown, IsKnownAs, AreKnown, known_at, known_of}
use Rattle.rx_plan.proofs.Named.{range_more}

module _ (settings : Settings) (q : Question) (schema : Schema) where
  answer_by : (index : ℕ) (b : Bool) → is_usable q index ≡ b → (answer : Option Answer) × IsKnownAs settings q schema index answer
  answer_by index true e =
      let (answer, is) = some_answer schema.columns (parts_in schema index) (items_limit settings.memory) q.cond in
      (Some answer, (e, is))
  answer_by index false e = (None, e)

  -- what is known of so many first indexes
  record AreFirst (n : ℕ) : Type 0 where
    known : List Known
    numbers : map (λ k. k.index) known ≡ range_with_len 0 n
    each : All (IsKnown settings q schema) known

  first_more : (n : ℕ) → AreFirst n → AreFirst (n + 1)
  first_more n so_far =
      let (answer, is) = answer_by n (is_usable q n) refl in
      let k : Known = record { index = n; answer = answer } in
      record {
        known = so_far.known ++ k ∷ [];
        numbers = map_push (λ (x : Known). x.index) so_far.known k ∙ ap (λ l. l ++ n ∷ []) so_far.numbers ∙ sym (range_more n);
        each = All-push (IsKnown settings q schema) so_far.known k so_far.each is;
      }

  first_known : (n : ℕ) → AreFirst n
  first_known zero = record { known = []; numbers = refl; each = All-nil (IsKnown settings q schema) }
  first_known (suc n) = subst AreFirst (add-one n) (first_more n (first_known n))

  pub some_known : (known : List Known) × AreKnown settings q schema known
  some_known =
      let all = first_known (length schema.indexes) in
      (all.known, record { numbers = all.numbers; each = all.each })

  one_at : (index : ℕ) (a b : Option Answer) → IsKnownAs settings q schema index a → IsKnownAs settings q schema index b → a ≡ b
  one_at index None None h k = refl
  one_at index None (Some b) h k = absurd (cc (h, k.0))
  one_at index (Some a) None h k = absurd (cc (h.0, k))
  one_at index (Some a) (Some b) h k = ap Some (one_answer schema.columns (parts_in schema index) (items_limit settings.memory) q.cond a b h.1 k.1)

  same_fields : (x y : Known) → x.index ≡ y.index → x.answer ≡ y.answer → x ≡ y
  same_fields x y e f = λ i. record { index = e i; answer = f i }

  same_known : (xs ys : List Known) → map (λ k. k.index) xs ≡ map (λ k. k.index) ys → AllByRecursion (IsKnown settings q schema) xs → AllByRecursion (IsKnown settings q schema) ys → xs ≡ ys
  same_known [] [] e h k = refl
  same_known [] (y ∷ ys) e h k = absurd (cc e)
  same_known (x ∷ xs) [] e h k = absurd (cc e)
  same_known (x ∷ xs) (y ∷ ys) e h k =
      let index : x.index ≡ y.index = cc e in
      let later : map (λ (z : Known). z.index) xs ≡ map (λ (z : Known). z.index) ys = cc e in
      let here = one_at y.index x.answer y.answer (subst (λ (n : ℕ). IsKnownAs settings q schema n x.answer) index h.0) k.0 in
      ap₂ (λ z l. z ∷ l) (same_fields x y index here) (same_known xs ys later h.1 k.1)

  pub one_known : (a b : List Known) → AreKnown settings q schema a → AreKnown settings q schema b → a ≡ b
  one_known a b h k =
      same_known a b (h.numbers ∙ sym k.numbers) (recursion_from_All (IsKnown settings q schema) a h.each) (recursion_from_All (IsKnown settings q schema) b k.each)

-- ---- what is known as a function

numbers_known : (settings : Settings) (q : Question) (schema : Schema) (ns : List ℕ) → map (λ k. k.index) (map (known_at settings q schema q.cond) ns) ≡ ns
numbers_known settings q schema [] = refl
numbers_known settings q schema (n ∷ ns) = ap (λ l. n ∷ l) (numbers_known settings q schema ns)

known_if : (settings : Settings) (q : Question) (schema : Schema) (n : ℕ) (b : Bool) → is_usable q n ≡ b
    → IsKnownAs settings q schema n (if b then Some (answer_for schema.columns (parts_in schema n) (items_limit settings.memory) q.cond) else None)
known_if settings q schema n true e = (e, given_is_answer schema.columns (parts_in schema n) (items_limit settings.memory) q.cond)
known_if settings q schema n false e = e

each_known : (settings : Settings) (q : Question) (schema : Schema) (ns : List ℕ) → AllByRecursion (IsKnown settings q schema) (map (known_at settings q schema q.cond) ns)
each_known settings q schema [] = tt
each_known settings q schema (n ∷ ns) = (known_if settings q schema n (is_usable q n) refl, each_known settings q schema ns)

pub known_are : (settings : Settings) (q : Question) (schema : Schema) → AreKnown settings q schema (known_of settings q schema)
known_are settings q schema = record {
  numbers = numbers_known settings q schema (index_numbers schema);
  each = All-from_recursion (IsKnown settings q schema) (known_of settings q schema) (each_known settings q schema (index_numbers schema));
}

pub known_same : (settings : Settings) (q : Question) (schema : Schema) (known : List Known) → AreKnown settings q schema known → known ≡ known_of settings q schema
known_same settings q schema known are = one_known settings q schema known (known_of settings q schema) are (known_are settings q schema)
