-- Calls of a table that follow each other.
use Rattle.std.proofs.Common.{◌≡◌, ◌<◌, ◌≤◌, ℕ, zero, suc, ◌+◌, Option, Some, None, IfSome, IfNone, refl, ap, ap₂, sym, ◌∙◌, arith}
use Rattle.rx_value.specs.Counting.{rise}
use Rattle.rx_store.specs.declared.tables.Counts.{Counts}
use Rattle.rx_store.specs.declared.tables.TableFault.{TableFault}
use Rattle.rx_store.specs.declared.tables.TableFault.TheVariants.{ReadFault, Damaged, NoMemory}
use Rattle.rx_store.specs.Tables.{Meaning, Tally, Keeps, Caused, IsChained, with_rows, add_counts}

-- a cause since an earlier call, where what the table means stays and no count falls
Caused-since : (m n : Meaning) (a b c : Tally) (fault : TableFault) → n ≡ m → a.faults ≤ b.faults → a.damages ≤ b.damages → Caused n b c fault → Caused m a c fault
Caused-since m n a b c ReadFault same faults damages h = (omega (arith, faults, h.0), λ e. h.1 (ap (λ t. t.sure) same ∙ e))
Caused-since m n a b c (Damaged at) same faults damages h = (omega (arith, damages, h.0), ap (λ t. t.flawed at) (sym same) ∙ h.1)
Caused-since m n a b c NoMemory same faults damages h = tt

stop-since : (m n : Meaning) (a b c : Tally) (stop : Option TableFault) → n ≡ m → a.faults ≤ b.faults → a.damages ≤ b.damages → IfSome stop (Caused n b c) → IfSome stop (Caused m a c)
stop-since m n a b c None same faults damages h = tt
stop-since m n a b c (Some fault) same faults damages h = Caused-since m n a b c fault same faults damages h

spent-since : {S : Type 0} {spent : S → S → Type 0} → IsChained spent → (stop : Option TableFault) (a b c : S) → spent a b → IfNone stop (spent b c) → IfNone stop (spent a c)
spent-since law None a b c p q = law.chain a b c p q
spent-since law (Some fault) a b c p q = tt

module _ {S : Type 0} {means : S → Meaning} {tally : S → Tally} {kept spent : S → S → Type 0} where
  -- where no call comes, all is kept
  pub Keeps-same : IsChained kept → IsChained spent → (t : S) → Keeps means tally kept spent None t t
  Keeps-same keeping spending t = record { means_stays = refl; kept_so = keeping.same t; spent_so = spending.same t; faults_later = omega arith; damages_later = omega arith; sure = λ e. refl; cause = tt }

  -- what calls that answer and those behind them keep, all of them keep
  pub Keeps-chain : IsChained kept → IsChained spent → (stop : Option TableFault) (a b c : S)
      → Keeps means tally kept spent None a b → Keeps means tally kept spent stop b c → Keeps means tally kept spent stop a c
  Keeps-chain keeping spending stop a b c p q = record {
    means_stays = q.means_stays ∙ p.means_stays;
    kept_so = keeping.chain a b c p.kept_so q.kept_so;
    spent_so = spent-since spending stop a b c p.spent_so q.spent_so;
    faults_later = omega (arith, p.faults_later, q.faults_later);
    damages_later = omega (arith, p.damages_later, q.damages_later);
    sure = λ e. q.sure (ap (λ m. m.sure) p.means_stays ∙ e) ∙ p.sure e;
    cause = stop-since (means a) (means b) (tally a) (tally b) (tally c) stop p.means_stays p.faults_later p.damages_later q.cause;
  }

  -- what each turn of a loop keeps, the loop keeps
  pub Keeps-loop : IsChained kept → IsChained spent → (turns : ℕ) (state : ℕ → S)
      → ((i : ℕ) → i < turns → Keeps means tally kept spent None (state i) (state (suc i))) → Keeps means tally kept spent None (state 0) (state turns)
  Keeps-loop keeping spending zero state each = Keeps-same keeping spending (state 0)
  Keeps-loop keeping spending (suc turns) state each =
      Keeps-chain keeping spending None (state 0) (state turns) (state (suc turns))
      (Keeps-loop keeping spending turns state (λ i below. each i (omega (arith, below)))) (each turns (omega arith))

  -- memory may run out behind calls that answer
  pub Keeps-without_memory : IsChained kept → IsChained spent → (a b : S) → Keeps means tally kept spent None a b → Keeps means tally kept spent (Some NoMemory) a b
  Keeps-without_memory keeping spending a b p = Keeps-chain keeping spending (Some NoMemory) a b b p (record { means_stays = refl; kept_so = keeping.same b; spent_so = tt; faults_later = omega arith; damages_later = omega arith; sure = λ e. refl; cause = tt })

rise-zero : (c : ℕ) → c ≡ rise 0 c
rise-zero c = grind arith

rise-more : (n m c : ℕ) → rise m (rise n c) ≡ rise (n + m) c
rise-more n m c = grind arith

pub with_rows-zero : (c : Counts) → c ≡ with_rows 0 c
with_rows-zero c = ap (λ r. record c { rows = r }) (rise-zero c.rows)

-- one row more after n
pub with_rows-more : (n : ℕ) (a b c : Counts) → b ≡ with_rows n a → c ≡ with_rows 1 b → c ≡ with_rows (n + 1) a
with_rows-more n a b c p q = q ∙ ap (with_rows 1) p ∙ ap (λ r. record a { rows = r }) (rise-more n 1 a.rows)

-- so many rows, and no seek and no entry
pub with_rows-add : (n : ℕ) (c : Counts) → with_rows n c ≡ add_counts (record { seeks = 0; entries = 0; rows = n }) c
with_rows-add n c = ap₂ (λ s e. record { seeks = s; entries = e; rows = rise n c.rows }) (rise-zero c.seeks) (rise-zero c.entries)

-- the sums of counts
sum_of : Counts → Counts → Counts
sum_of x y = record { seeks = x.seeks + y.seeks; entries = x.entries + y.entries; rows = x.rows + y.rows }
