-- What a walk hasn't passed, an item at a time.
use Rattle.std.proofs.Common.{◌≡◌, ◌<◌, ◌≤◌, ◌+◌, ◌-◌, ℕ, zero, suc, Bool, true, false, [], reverse, Some, None, refl, ap, sym, ◌∙◌, arith}
use Rattle.rx_value.specs.declared.order.Span.{Span}
use Rattle.rx_tree.specs.Tree.{Level}
use Rattle.rx_tree.specs.Tree.Level.{end, item}
use Rattle.rx_tree.specs.Join.{join_level, length_of}
use Rattle.rx_level.specs.Entries.{Entry, entry_at}
use Rattle.rx_level.proofs.Entries.{span_of_entry, below_of}
use Rattle.rx_cover.specs.Cover.{stretches, stretch_of}
use Rattle.rx_walk.specs.Walk.{take_level, drop_level, place_ahead, ahead, meet_stretch}
use Rattle.rx_walk.proofs.Runs.{meets_rising, stretches_last, turned_last}

-- an item as it stands
here : (s : Span) (c rest : Level) (e : Entry) → Some (record { span = s; below = c }) ≡ Some e → item s c rest ≡ item e.span e.below rest
here s c rest e is =
    let span : s ≡ e.span = span_of_entry (record { span = s; below = c }) e is in
    let below : c ≡ e.below = below_of (record { span = s; below = c }) e is in
    λ i. item (span i) (below i) rest

drop_at : (k : ℕ) (l : Level) (e : Entry) → entry_at k l ≡ Some e → drop_level k l ≡ item e.span e.below (drop_level (suc k) l)
drop_at k end e is = absurd (cc is)
drop_at zero (item s c rest) e is = here s c rest e is
drop_at (suc k) (item s c rest) e is = drop_at k rest e is

take_at : (k : ℕ) (l : Level) (e : Entry) → entry_at k l ≡ Some e → take_level (suc k) l ≡ join_level (take_level k l) (item e.span e.below end)
take_at k end e is = absurd (cc is)
take_at zero (item s c rest) e is = here s c end e is
take_at (suc k) (item s c rest) e is = ap (item s c) (take_at k rest e is)

drop_all : (k : ℕ) (l : Level) → length_of l ≤ k → drop_level k l ≡ end
drop_all zero end few = refl
drop_all (suc k) end few = refl
drop_all zero (item s c rest) few = absurd (omega (arith, few))
drop_all (suc k) (item s c rest) few = drop_all k rest (omega (arith, few))

-- nothing is ahead of a walk that has passed all
pub none_ahead : (falls : Bool) (passed : ℕ) (l : Level) → length_of l ≤ passed → ahead falls passed l ≡ []
none_ahead false passed l few = ap stretches (drop_all passed l few)
none_ahead true passed l few =
    let no : length_of l - passed ≡ 0 = omega (arith, few) in
    ap (λ (k : ℕ). reverse (stretches (take_level k l))) no

-- the item ahead, and what is ahead behind it
pub item_met : (falls : Bool) (passed : ℕ) (l : Level) (e : Entry) → passed < length_of l → entry_at (place_ahead falls passed (length_of l)) l ≡ Some e
    → ahead falls passed l ≡ meet_stretch falls (stretch_of e.span e.below) (ahead falls (passed + 1) l)
item_met false passed l e low is =
    let next : suc passed ≡ passed + 1 = omega arith in
    ap stretches (drop_at passed l e is)
    ∙ sym (meets_rising (stretch_of e.span e.below) (stretches (drop_level (suc passed) l)))
    ∙ ap (λ (k : ℕ). meet_stretch false (stretch_of e.span e.below) (stretches (drop_level k l))) next
item_met true passed l e low is =
    let up : length_of l - passed ≡ suc (length_of l - 1 - passed) = omega (arith, low) in
    let down : length_of l - 1 - passed ≡ length_of l - (passed + 1) = omega (arith, low) in
    ap (λ (k : ℕ). reverse (stretches (take_level k l))) up
    ∙ ap (λ (m : Level). reverse (stretches m)) (take_at (length_of l - 1 - passed) l e is)
    ∙ ap reverse (stretches_last (take_level (length_of l - 1 - passed) l) e.span e.below)
    ∙ turned_last (stretches (take_level (length_of l - 1 - passed) l)) (stretch_of e.span e.below)
    ∙ ap (λ (k : ℕ). meet_stretch true (stretch_of e.span e.below) (reverse (stretches (take_level k l)))) down

-- an item is at each place below the number of items
pub entry_there : (i : ℕ) (l : Level) → i < length_of l → entry_at i l ≡ None → ⊥
entry_there i end low is = omega (arith, low)
entry_there zero (item s c rest) low is = cc is
entry_there (suc i) (item s c rest) low is = entry_there i rest (omega (arith, low)) is

-- the same of a count and a place
pub item_at : (falls : Bool) (passed count place : ℕ) (l : Level) (s : Span) (c : Level) → count ≡ length_of l → passed < count → place ≡ place_ahead falls passed count → entry_at place l ≡ Some (record { span = s; below = c })
    → ahead falls passed l ≡ meet_stretch falls (stretch_of s c) (ahead falls (passed + 1) l)
item_at falls passed count place l s c many low at is =
    let there : place ≡ place_ahead falls passed (length_of l) = at ∙ ap (place_ahead falls passed) many in
    item_met falls passed l (record { span = s; below = c }) (omega (arith, many, low)) (sym (ap (λ (i : ℕ). entry_at i l) there) ∙ is)

pub place_low : (falls : Bool) (passed count : ℕ) → passed < count → place_ahead falls passed count < count
place_low true passed count low = omega (arith, low)
place_low false passed count low = low
