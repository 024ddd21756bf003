-- Entries by name after a change.
use Rattle.std.proofs.Common.{◌≡◌, ◌≢◌, ◌<◌, ℕ, Bool, true, false, List, [], ◌∷◌, ◌++◌, length, get_or, slice_set, Option, Some, None, arith, refl, sym, ap, subst, ◌∙◌, cond, ltb}
use Rattle.std.specs.List.{position, position_or_len, slice_get}
use Rattle.std.specs.Option.{option_or}
use Rattle.std.proofs.lemmas.Bool.{false_from_ne_true, ltb-true, ltb-false}
use Rattle.std.proofs.lemmas.Option.{slice_get-get_or, slice_get_past, get_or_from_slice_get}
use Rattle.std.proofs.lemmas.Slice.Eq.{bytes_eq-Decides}
use Rattle.std.proofs.lemmas.List.Folds.{find-set, find_past, find-append, find_at}
use Rattle.std.proofs.lemmas.List.Quantifiers.{position-Some}
use Rattle.rx_outside.specs.declared.entries.Entry.{Entry}
use Rattle.rx_outside.specs.Entries.{is_named, entry_in, ChangesEntry}
use Rattle.rx_outside.specs.Files.{OthersStay}

cond_some : (b : Bool) (i j : ℕ) → Some i ≡ cond b (Some j) None → (b ≡ true) × (i ≡ j)
cond_some true i j h = (refl, cc h)
cond_some false i j h = absurd (cc h)

cond_none : (b : Bool) (j : ℕ) → None ≡ cond b (Some j) None → b ≡ false
cond_none true j h = absurd (cc h)
cond_none false j h = refl

-- the place that was found
record IsPlace (name : List ℕ) (es : List Entry) (i : ℕ) : Type 0 where
  pub first : i ≡ position_or_len (is_named name) es
  pub within : i < length es

is_place : (name : List ℕ) (es : List Entry) (i : ℕ) → Some i ≡ position (is_named name) es → IsPlace name es i
is_place name es i h =
    let (test, same) = cond_some (ltb (position_or_len (is_named name) es) (length es)) i (position_or_len (is_named name) es) h in
    let below = ltb-true (position_or_len (is_named name) es) (length es) test in
    record { first = same; within = omega (arith, same, below) }

-- an entry with this name has no other
other_name : (e : Entry) (name q : List ℕ) → is_named name e ≡ true → q ≢ name → is_named q e ≡ false
other_name e name q h apart = false_from_ne_true (is_named q e) (λ t. apart (sym ((bytes_eq-Decides e.name q).0 t) ∙ (bytes_eq-Decides e.name name).0 h))

-- an entry was written in the place of its name
written : (name : List ℕ) (es : List Entry) (i : ℕ) (old new : Entry) → Some i ≡ position (is_named name) es → old ≡ get_or es i old → new.name ≡ old.name → (entry_in (slice_set es i new) name ≡ Some new) × OthersStay (entry_in es) (entry_in (slice_set es i new)) name
written name es i old new h is same =
    let place = is_place name es i h in
    let named : (e : Entry) → Type 0 = λ e. is_named name e ≡ true in
    let old_named : is_named name old ≡ true = subst named (sym is) (position-Some (is_named name) es i old (sym h)).1 in
    let new_named : is_named name new ≡ true = rw same old_named in (
      find-set (is_named name) es i new place.first place.within new_named,
      λ q apart. find_past (is_named q) es i new old (subst (λ (e : Entry). is_named q e ≡ false) is (other_name old name q old_named apart)) (other_name new name q new_named apart),
    )

-- the entry of a name that isn't there
pub entry_in-none : (name : List ℕ) (es : List Entry) → None ≡ position (is_named name) es → entry_in es name ≡ None
entry_in-none name es h =
    let past = ltb-false (position_or_len (is_named name) es) (length es) (cond_none (ltb (position_or_len (is_named name) es) (length es)) (position_or_len (is_named name) es) h) in
    find_at (is_named name) es ∙ slice_get_past es (position_or_len (is_named name) es) past

option_or-none : (o : Option Entry) → option_or o None ≡ o
option_or-none None = refl
option_or-none (Some e) = refl

-- an entry was added for a name that wasn't there
added : (name : List ℕ) (es : List Entry) (new : Entry) → None ≡ position (is_named name) es → new.name ≡ name → (entry_in (es ++ new ∷ []) name ≡ Some new) × OthersStay (entry_in es) (entry_in (es ++ new ∷ [])) name
added name es new h same =
    let named : is_named name new ≡ true = (bytes_eq-Decides new.name name).1 same in (
      find-append (is_named name) es (new ∷ []) ∙ rw (entry_in-none name es h, named) refl,
      λ q apart. find-append (is_named q) es (new ∷ []) ∙ rw (other_name new name q named apart) (option_or-none (entry_in es q)),
    )

-- the entry at the place of its name, with any default
pub entry_in-at : (name : List ℕ) (es : List Entry) (i : ℕ) (d : Entry) → Some i ≡ position (is_named name) es → entry_in es name ≡ Some (get_or es i d)
entry_in-at name es i d at =
    let place = is_place name es i at in
    find_at (is_named name) es ∙ ap (slice_get es) (sym place.first) ∙ slice_get-get_or es i d place.within

-- a change of the entry at the place of its name
pub changes_in_place : (change : Option Entry → Option Entry) (name : List ℕ) (slice es : List Entry) (i : ℕ) (d new : Entry) → slice ≡ es → Some i ≡ position (is_named name) slice → new.name ≡ (get_or es i d).name → Some new ≡ change (Some (get_or es i d)) → ChangesEntry es (slice_set es i new) name change
changes_in_place change name slice es i d new all h same made =
    let at : Some i ≡ position (is_named name) es = h ∙ ap (position (is_named name)) all in
    let there = slice_get-get_or es i d (is_place name es i at).within in
    let is = sym (get_or_from_slice_get es i (get_or es i d) (get_or es i d) there) in
    let (here, others) = written name es i (get_or es i d) new at is same in
    record { changed = here ∙ made ∙ ap change (sym (entry_in-at name es i d at)); others = others }

-- a change of a name that wasn't there
pub changes_at_end : (change : Option Entry → Option Entry) (name : List ℕ) (slice es : List Entry) (new : Entry) → slice ≡ es → None ≡ position (is_named name) slice → new.name ≡ name → Some new ≡ change None → ChangesEntry es (es ++ new ∷ []) name change
changes_at_end change name slice es new all h same made =
    let at : ◌≡◌ {A = Option ℕ} None (position (is_named name) es) = h ∙ ap (position (is_named name)) all in
    let (here, others) = added name es new at same in
    record { changed = here ∙ made ∙ ap change (sym (entry_in-none name es at)); others = others }

-- a name that isn't there stays missing
pub changes_nothing : (change : Option Entry → Option Entry) (name : List ℕ) (es : List Entry) → None ≡ position (is_named name) es → None ≡ change None → ChangesEntry es es name change
changes_nothing change name es at made =
    let none = entry_in-none name es at in
    record { changed = none ∙ made ∙ ap change (sym none); others = λ q apart. refl }
