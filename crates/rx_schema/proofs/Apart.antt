-- Columns by number and by name, where no two have one name.
use Rattle.std.proofs.Common.{◌≡◌, ℕ, zero, suc, ◌<◌, Bool, true, false, ◌||◌, List, [], ◌∷◌, length, Some, refl, ap, ◌∙◌, inl, inr, arith}
use Rattle.std.specs.Prelude.{slice_get, nat_eq}
use Rattle.std.specs.List.{AllByRecursion}
use Rattle.std.proofs.lemmas.Bool.{cases_Bool, eqb-true, eq-eqb}
use Rattle.std.proofs.lemmas.List.{length-map}
use Rattle.rx_value.specs.declared.shapes.Column.{Column}
use Rattle.rx_schema.specs.Names.{is_among}
use Rattle.rx_schema.specs.Indexes.{column_number}
use Rattle.rx_schema.specs.Tables.{names_of}
use Rattle.rx_schema.specs.Writing.{name_of}
use Rattle.rx_schema.proofs.Places.{numbered}
use Rattle.rx_schema.proofs.Repeats.{same, same_self, same_turned, Apart}

-- the name of the column at a place
abbrev pub name_at : List Column → ℕ → List ℕ
name_at columns n = name_of (slice_get columns n)

every_at : (P : List ℕ → Type 0) (columns : List Column) (n : ℕ) → AllByRecursion P (names_of columns) → n < length columns → P (name_at columns n)
every_at P [] n h within = absurd (omega arith)
every_at P (c ∷ columns) zero h within = h.0
every_at P (c ∷ columns) (suc n) h within = every_at P columns n h.1 (omega arith)

unequal : (a b : ℕ) → nat_eq a b ≡ false → a ≡ b → ⊥
unequal a b e f = let g : nat_eq a b ≡ true = eq-eqb a b f in cc

unequal_below : (a b : ℕ) → nat_eq (suc a) (suc b) ≡ false → nat_eq a b ≡ false
unequal_below a b e =
    elim (cases_Bool (nat_eq a b)) [
      | inl f ↦ absurd (unequal (suc a) (suc b) e (ap suc (eqb-true a b f)))
      | inr f ↦ f
    ]

-- two places have two names
pub places_apart : (columns : List Column) (a b : ℕ) → Apart (names_of columns) → a < length columns → b < length columns → nat_eq a b ≡ false → same (name_at columns b) (name_at columns a) ≡ false
places_apart [] a b apart first second e = absurd (omega arith)
places_apart (c ∷ columns) zero zero apart first second e = absurd cc
places_apart (c ∷ columns) zero (suc b) apart first second e = every_at (λ m. same m c.name ≡ false) columns b apart.0 (omega arith)
places_apart (c ∷ columns) (suc a) zero apart first second e = same_turned c.name (name_at columns a) ∙ every_at (λ m. same m c.name ≡ false) columns a apart.0 (omega arith)
places_apart (c ∷ columns) (suc a) (suc b) apart first second e = places_apart columns a b apart.1 (omega arith) (omega arith) (unequal_below a b e)

or_right : (a b : Bool) → b ≡ true → (a || b) ≡ true
or_right true b e = refl
or_right false b e = e

-- the name of a column is one of the names
pub among_at : (columns : List Column) (n : ℕ) → n < length columns → is_among (names_of columns) (name_at columns n) ≡ true
among_at [] n within = absurd (omega arith)
among_at (c ∷ columns) zero within = rw (same_self c.name) refl
among_at (c ∷ columns) (suc n) within = or_right (same (name_at columns n) c.name) (is_among (names_of columns) (name_at columns n)) (among_at columns n (omega arith))

pub named_at : (columns : List Column) (n : ℕ) (name : List ℕ) → slice_get (names_of columns) n ≡ Some name → name_at columns n ≡ name
named_at [] n name e = absurd cc
named_at (c ∷ columns) zero name e = cc
named_at (c ∷ columns) (suc n) name e = named_at columns n name e

-- the number of a column's name is the column's
pub number_back : (columns : List Column) (n : ℕ) → Apart (names_of columns) → n < length columns → column_number (names_of columns) (name_at columns n) ≡ n
number_back columns n apart within =
    let here = numbered (names_of columns) (name_at columns n) (among_at columns n within) in
    let number = column_number (names_of columns) (name_at columns n) in
    let count = length-map columns (λ c. c.name) in
    let there = here.within in
    elim (cases_Bool (nat_eq number n)) [
      | inl e ↦ eqb-true number n e
      | inr e ↦
          let other : same (name_at columns n) (name_at columns number) ≡ false = places_apart columns number n apart (omega arith) within e in
          let name : name_at columns number ≡ here.name = named_at columns number here.name here.there in
          let equal : same (name_at columns n) (name_at columns number) ≡ true = ap (same (name_at columns n)) name ∙ here.equal in
          absurd cc
    ]
