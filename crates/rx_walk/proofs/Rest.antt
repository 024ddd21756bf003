-- What a walk has still to give, from step to step.
use Rattle.std.proofs.Common.{◌≡◌, ◌<◌, ◌≤◌, ◌-◌, ℕ, suc, Bool, true, false, List, [], ◌∷◌, ◌++◌, map, reverse, length, slice_index, refl, ap, sym, ◌∙◌, arith, append_assoc, length-append}
use Rattle.std.specs.List.{flat_map}
use Rattle.std.proofs.lemmas.List.{map-append}
use Rattle.rx_value.specs.declared.values.Value.{Value}
use Rattle.rx_value.specs.declared.order.Span.{Span}
use Rattle.rx_value.specs.declared.ranges.KeyRange.{KeyRange}
use Rattle.rx_tree.specs.Tree.{Level}
use Rattle.rx_tree.specs.Tree.Level.{end, item}
use Rattle.rx_tree.specs.Join.{length_of}
use Rattle.rx_cover.specs.Cover.{Stretch, stretches, in_order, behind_point, full_range, stretch_ranges, level_cover}
use Rattle.rx_cover.specs.Cover.Stretch.{deep, full}
use Rattle.rx_walk.specs.Walk.{take_level, ahead}
use Rattle.rx_walk.specs.Ranges.{behind_points, is_first, rest_at, rest_met}

take_whole : (l : Level) → take_level (length_of l) l ≡ l
take_whole end = refl
take_whole (item s c rest) =
    let up : length_of (item s c rest) ≡ suc (length_of rest) = omega arith in
    ap (λ (k : ℕ). take_level k (item s c rest)) up ∙ ap (item s c) (take_whole rest)

-- all is ahead of a walk that has passed nothing
pub all_ahead : (f : Bool) (l : Level) → ahead f 0 l ≡ in_order f (stretches l)
all_ahead false l = refl
all_ahead true l =
    let long : length_of l - 0 ≡ length_of l = omega arith in
    ap (λ (k : ℕ). reverse (stretches (take_level k l))) long ∙ ap (λ (m : Level). reverse (stretches m)) (take_whole l)

-- where the walk has begun no level below, all ranges are left
pub rest_fresh : (left below : Level → List KeyRange) (first n : Bool) (list : List Stretch) → ((c : Level) → left c ≡ below c) → rest_met left below first n list ≡ flat_map (stretch_ranges below first n) list
rest_fresh left below first n [] same = refl
rest_fresh left below first n (deep v c ∷ more) same = ap (λ (l : List KeyRange). map (behind_point v) l ++ flat_map (stretch_ranges below first n) more) (same c)
rest_fresh left below first n (full s ∷ more) same = refl

-- a walk that has passed nothing has all ranges of a level to give
pub fresh_level : (d : ℕ) (first : Bool) (parts falling : List Bool) (l : Level) (places : List ℕ) → ((k : ℕ) → d ≤ k → slice_index places k ≡ 0) → rest_at d first parts falling l places ≡ level_cover first parts falling l
fresh_level d first [] falling l places none = refl
fresh_level d first (n ∷ ns) [] l places none = refl
fresh_level d first (n ∷ ns) (f ∷ fs) l places none =
    ap (λ (p : ℕ). rest_met (λ c. rest_at (suc d) false ns fs c places) (level_cover false ns fs) first n (ahead f p l)) (none d (omega arith))
    ∙ ap (rest_met (λ c. rest_at (suc d) false ns fs c places) (level_cover false ns fs) first n) (all_ahead f l)
    ∙ rest_fresh (λ c. rest_at (suc d) false ns fs c places) (level_cover false ns fs) first n (in_order f (stretches l)) (λ c. fresh_level (suc d) false ns fs c places (λ k low. none k (omega (arith, low))))

-- points before points
behind_both : (vs : List Value) (v : Value) (r : KeyRange) → behind_points vs (behind_point v r) ≡ behind_points (vs ++ v ∷ []) r
behind_both vs v r = ap (λ (ps : List Value). record { points = ps; last = r.last }) (sym (append_assoc vs (v ∷ []) r.points))

pub map_behind : (vs : List Value) (v : Value) (list : List KeyRange) → map (behind_points vs) (map (behind_point v) list) ≡ map (behind_points (vs ++ v ∷ [])) list
map_behind vs v [] = refl
map_behind vs v (r ∷ list) = λ i. behind_both vs v r i ∷ map_behind vs v list i

pub not_first : (vs : List Value) (v : Value) → is_first (vs ++ v ∷ []) ≡ false
not_first [] v = refl
not_first (w ∷ vs) v = refl

pub one_deeper : (vs : List Value) (v : Value) → length (vs ++ v ∷ []) ≡ suc (length vs)
one_deeper vs v = omega (arith, length-append vs (v ∷ []))

-- what is left of a level below a point, as the level itself has it
pub below_point : (vs : List Value) (v : Value) (ns fs : List Bool) (c : Level) (places : List ℕ)
    → map (behind_points (vs ++ v ∷ [])) (rest_at (length (vs ++ v ∷ [])) (is_first (vs ++ v ∷ [])) ns fs c places) ≡ map (behind_points vs) (map (behind_point v) (rest_at (suc (length vs)) false ns fs c places))
below_point vs v ns fs c places =
    ap (λ (d : ℕ). map (behind_points (vs ++ v ∷ [])) (rest_at d (is_first (vs ++ v ∷ [])) ns fs c places)) (one_deeper vs v)
    ∙ ap (λ (b : Bool). map (behind_points (vs ++ v ∷ [])) (rest_at (suc (length vs)) b ns fs c places)) (not_first vs v)
    ∙ sym (map_behind vs v (rest_at (suc (length vs)) false ns fs c places))

-- what is left of a part's level
abbrev pub rest_of_part : List Value → Bool → Bool → List Bool → List Bool → List ℕ → Level → List KeyRange
rest_of_part vs n f ns fs places l =
    map (behind_points vs) (rest_met (λ c. rest_at (suc (length vs)) false ns fs c places) (level_cover false ns fs) (is_first vs) n (ahead f (slice_index places (length vs)) l))

abbrev rest_listed : List Value → Bool → List Bool → List Bool → List ℕ → List Stretch → List KeyRange
rest_listed vs n ns fs places list = map (behind_points vs) (rest_met (λ c. rest_at (suc (length vs)) false ns fs c places) (level_cover false ns fs) (is_first vs) n list)

-- the rest behind what is passed
passed_on : (vs : List Value) (n f : Bool) (ns fs : List Bool) (places : List ℕ) (passed : ℕ) (l : Level) (list : List Stretch) → slice_index places (length vs) ≡ passed → ((k : ℕ) → length vs < k → slice_index places k ≡ 0)
    → ahead f passed l ≡ list → rest_of_part vs n f ns fs places l ≡ map (behind_points vs) (flat_map (stretch_ranges (level_cover false ns fs) (is_first vs) n) list)
passed_on vs n f ns fs places passed l list here after is =
    ap (λ (p : ℕ). rest_listed vs n ns fs places (ahead f p l)) here
    ∙ ap (rest_listed vs n ns fs places) is
    ∙ ap (map (behind_points vs)) (rest_fresh (λ c. rest_at (suc (length vs)) false ns fs c places) (level_cover false ns fs) (is_first vs) n list (λ c. fresh_level (suc (length vs)) false ns fs c places (λ k low. after k (omega (arith, low)))))

-- a full span gives one range, and is passed
pub full_given : (vs : List Value) (n f : Bool) (ns fs : List Bool) (old new : List ℕ) (passed : ℕ) (s : Span) (x : Stretch) (l : Level) → slice_index new (length vs) ≡ passed → ((k : ℕ) → length vs < k → slice_index new k ≡ 0)
    → x ≡ full s → ahead f (slice_index old (length vs)) l ≡ x ∷ ahead f passed l
    → rest_of_part vs n f ns fs old l ≡ behind_points vs (full_range (is_first vs) n s) ∷ rest_of_part vs n f ns fs new l
full_given vs n f ns fs old new passed s x l here after met is =
    ap (rest_listed vs n ns fs old) (is ∙ ap (λ (y : Stretch). y ∷ ahead f passed l) met)
    ∙ ap (λ (rest : List KeyRange). behind_points vs (full_range (is_first vs) n s) ∷ rest) (sym (passed_on vs n f ns fs new passed l (ahead f passed l) here after refl))

nothing_left : (vs : List Value) (list : List KeyRange) → map (behind_points vs) list ≡ [] → list ≡ []
nothing_left vs [] e = refl
nothing_left vs (r ∷ list) e = absurd (cc e)

-- a point below which nothing is left is passed
pub deep_passed : (vs : List Value) (n f : Bool) (ns fs : List Bool) (old new : List ℕ) (passed : ℕ) (v : Value) (c : Level) (x : Stretch) (l : Level) → slice_index new (length vs) ≡ passed → ((k : ℕ) → length vs < k → slice_index new k ≡ 0)
    → map (behind_points (vs ++ v ∷ [])) (rest_at (length (vs ++ v ∷ [])) (is_first (vs ++ v ∷ [])) ns fs c old) ≡ []
    → x ≡ deep v c → ahead f (slice_index old (length vs)) l ≡ x ∷ ahead f passed l
    → rest_of_part vs n f ns fs old l ≡ rest_of_part vs n f ns fs new l
deep_passed vs n f ns fs old new passed v c x l here after empty met is =
    let none : map (behind_points vs) (map (behind_point v) (rest_at (suc (length vs)) false ns fs c old)) ≡ [] = sym (below_point vs v ns fs c old) ∙ empty in
    ap (rest_listed vs n ns fs old) (is ∙ ap (λ (y : Stretch). y ∷ ahead f passed l) met)
    ∙ map-append (behind_points vs) (map (behind_point v) (rest_at (suc (length vs)) false ns fs c old)) (flat_map (stretch_ranges (level_cover false ns fs) (is_first vs) n) (ahead f passed l))
    ∙ ap (λ (list : List KeyRange). list ++ map (behind_points vs) (flat_map (stretch_ranges (level_cover false ns fs) (is_first vs) n) (ahead f passed l))) none
    ∙ sym (passed_on vs n f ns fs new passed l (ahead f passed l) here after refl)

-- a point below which something is left gives that first
pub deep_given : (vs : List Value) (n f : Bool) (ns fs : List Bool) (old new : List ℕ) (passed : ℕ) (v : Value) (c : Level) (x : Stretch) (l : Level) (r : KeyRange) → slice_index new (length vs) ≡ slice_index old (length vs)
    → map (behind_points (vs ++ v ∷ [])) (rest_at (length (vs ++ v ∷ [])) (is_first (vs ++ v ∷ [])) ns fs c old) ≡ r ∷ map (behind_points (vs ++ v ∷ [])) (rest_at (length (vs ++ v ∷ [])) (is_first (vs ++ v ∷ [])) ns fs c new)
    → x ≡ deep v c → ahead f (slice_index old (length vs)) l ≡ x ∷ ahead f passed l
    → rest_of_part vs n f ns fs old l ≡ r ∷ rest_of_part vs n f ns fs new l
deep_given vs n f ns fs old new passed v c x l r kept given met is =
    let listed : ahead f (slice_index old (length vs)) l ≡ deep v c ∷ ahead f passed l = is ∙ ap (λ (y : Stretch). y ∷ ahead f passed l) met in
    let inner : map (behind_points vs) (map (behind_point v) (rest_at (suc (length vs)) false ns fs c old)) ≡ r ∷ map (behind_points vs) (map (behind_point v) (rest_at (suc (length vs)) false ns fs c new)) =
    sym (below_point vs v ns fs c old) ∙ given ∙ ap (λ (list : List KeyRange). r ∷ list) (below_point vs v ns fs c new) in
    ap (rest_listed vs n ns fs old) listed
    ∙ map-append (behind_points vs) (map (behind_point v) (rest_at (suc (length vs)) false ns fs c old)) (flat_map (stretch_ranges (level_cover false ns fs) (is_first vs) n) (ahead f passed l))
    ∙ ap (λ (list : List KeyRange). list ++ map (behind_points vs) (flat_map (stretch_ranges (level_cover false ns fs) (is_first vs) n) (ahead f passed l))) inner
    ∙ ap (λ (list : List KeyRange). r ∷ list) (sym (map-append (behind_points vs) (map (behind_point v) (rest_at (suc (length vs)) false ns fs c new)) (flat_map (stretch_ranges (level_cover false ns fs) (is_first vs) n) (ahead f passed l))))
    ∙ ap (λ (list : List Stretch). r ∷ rest_listed vs n ns fs new list) (sym listed)
    ∙ ap (λ (p : ℕ). r ∷ rest_listed vs n ns fs new (ahead f p l)) (sym kept)

-- the same by the number of points and the points of the level below, as they go by other names
pub full_given_at : (vs : List Value) (n f : Bool) (ns fs : List Bool) (old new : List ℕ) (at passed : ℕ) (s : Span) (x : Stretch) (r : KeyRange) → at ≡ length vs → slice_index new at ≡ passed → ((k : ℕ) → at < k → slice_index new k ≡ 0)
    → r ≡ behind_points vs (full_range (is_first vs) n s) → x ≡ full s → (l : Level) → ahead f (slice_index old (length vs)) l ≡ x ∷ ahead f passed l
    → rest_of_part vs n f ns fs old l ≡ r ∷ rest_of_part vs n f ns fs new l
full_given_at vs n f ns fs old new at passed s x r long here after given met l is =
    full_given vs n f ns fs old new passed s x l (ap (slice_index new) (sym long) ∙ here) (λ k low. after k (omega (arith, long, low))) met is
    ∙ ap (λ (q : KeyRange). q ∷ rest_of_part vs n f ns fs new l) (sym given)

abbrev left_below : List Value → List Bool → List Bool → Level → List ℕ → List KeyRange
left_below w ns fs c places = map (behind_points w) (rest_at (length w) (is_first w) ns fs c places)

pub deep_passed_at : (vs w : List Value) (n f : Bool) (ns fs : List Bool) (old new : List ℕ) (at passed : ℕ) (v : Value) (c : Level) (x : Stretch) → at ≡ length vs → slice_index new at ≡ passed → ((k : ℕ) → at < k → slice_index new k ≡ 0)
    → w ≡ vs ++ v ∷ [] → map (behind_points w) (rest_at (length w) (is_first w) ns fs c old) ≡ [] → x ≡ deep v c → (l : Level) → ahead f (slice_index old (length vs)) l ≡ x ∷ ahead f passed l
    → rest_of_part vs n f ns fs old l ≡ rest_of_part vs n f ns fs new l
deep_passed_at vs w n f ns fs old new at passed v c x long here after deeper empty met l is =
    deep_passed vs n f ns fs old new passed v c x l (ap (slice_index new) (sym long) ∙ here) (λ k low. after k (omega (arith, long, low))) (ap (λ (u : List Value). left_below u ns fs c old) (sym deeper) ∙ empty) met is

pub deep_given_at : (vs w : List Value) (n f : Bool) (ns fs : List Bool) (old new : List ℕ) (passed : ℕ) (v : Value) (c : Level) (x : Stretch) (r : KeyRange) → w ≡ vs ++ v ∷ [] → ((k : ℕ) → k < length w → slice_index new k ≡ slice_index old k)
    → map (behind_points w) (rest_at (length w) (is_first w) ns fs c old) ≡ r ∷ map (behind_points w) (rest_at (length w) (is_first w) ns fs c new)
    → x ≡ deep v c → (l : Level) → ahead f (slice_index old (length vs)) l ≡ x ∷ ahead f passed l
    → rest_of_part vs n f ns fs old l ≡ r ∷ rest_of_part vs n f ns fs new l
deep_given_at vs w n f ns fs old new passed v c x r deeper kept given met l is =
    deep_given vs n f ns fs old new passed v c x l r (kept (length vs) (omega (arith, ap length deeper, one_deeper vs v)))
    (ap (λ (u : List Value). left_below u ns fs c old) (sym deeper) ∙ given ∙ ap (λ (u : List Value). r ∷ left_below u ns fs c new) deeper) met is
