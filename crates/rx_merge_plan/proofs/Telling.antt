-- How many seeks were made, as far as a number goes.
use Rattle.std.proofs.Common.{◌≡◌, ℕ, ◌+◌, ◌≤◌, not, Bool, true, false, List, [], ◌∷◌, min, refl, sym, ap, ap₂, ◌∙◌, arith}
use Rattle.std.specs.List.{sum_by, AllZip}
use Rattle.std.proofs.lemmas.List.Sums.{sum_by-cons}
use Rattle.rx_query.specs.declared.settings.Settings.{Settings}
use Rattle.rx_store.specs.Tables.{Meaning}
use Rattle.rx_estimate.specs.Estimates.{uses_statistics, seeks_for, dive_seeks}
use Rattle.rx_cost.specs.declared.candidates.Scan.{Scan}
use Rattle.rx_plan.specs.Seeks.{most_told, seeks_of_scan}
use Rattle.rx_merge_plan.specs.Disjuncts.{IsCountedScan}
use Rattle.rx_merge_plan.specs.Lists.{AreCounted, scan_seeks, told_after}

-- more after more
pub told_twice : (first sum done more : ℕ) → sum ≡ told_after first done → told_after sum more ≡ told_after first (done + more)
told_twice first sum done more e = grind (arith, e)

-- a number that was told of so many is added
pub added : (seeks told n m sum : ℕ) → told ≡ min most_told n → n ≡ m → sum ≡ min (seeks + told) most_told → sum ≡ told_after seeks m
added seeks told n m sum t e s = grind (arith, t, e, s)

pub told_none : (seeks : ℕ) → seeks ≤ most_told → seeks ≡ told_after seeks 0
told_none seeks h = grind (arith, h)

not_not : (b : Bool) → not (not b) ≡ b
not_not true = refl
not_not false = refl

-- the seeks that counted scans tell of are those of their ranges
one_counted : (settings : Settings) (table : Meaning) (scan counted : Scan) → IsCountedScan settings table scan counted → seeks_of_scan counted ≡ dive_seeks settings.dive_limit scan.ranges
one_counted settings table scan counted h =
    ap seeks_of_scan h.is ∙ ap (λ b. sum_by (seeks_for b) scan.ranges) (not_not (uses_statistics settings.dive_limit scan.ranges))

all_counted : (settings : Settings) (table : Meaning) (scans counted : List Scan) → AreCounted settings table scans counted → sum_by seeks_of_scan counted ≡ scan_seeks settings scans
all_counted settings table [] [] h = refl
all_counted settings table [] (c ∷ cs) h = absurd h
all_counted settings table (s ∷ ss) [] h = absurd h
all_counted settings table (s ∷ ss) (c ∷ cs) h =
    omega (arith, sum_by-cons seeks_of_scan c cs, sum_by-cons (λ (x : Scan). dive_seeks settings.dive_limit x.ranges) s ss, one_counted settings table s c h.0, all_counted settings table ss cs h.1)

-- and so are those of the scans of disjuncts
pub lists_counted : (settings : Settings) (table : Meaning) (lists counted : List (List Scan)) → AllZip (AreCounted settings table) lists counted
    → sum_by (sum_by seeks_of_scan) counted ≡ sum_by (scan_seeks settings) lists
lists_counted settings table [] [] h = refl
lists_counted settings table [] (c ∷ cs) h = absurd h
lists_counted settings table (s ∷ ss) [] h = absurd h
lists_counted settings table (s ∷ ss) (c ∷ cs) h =
    omega (arith, sum_by-cons (sum_by seeks_of_scan) c cs, sum_by-cons (scan_seeks settings) s ss, all_counted settings table s c h.0, lists_counted settings table ss cs h.1)
