-- What a value and a text give, by what was found in them.
use Rattle.std.proofs.Common.{◌≡◌, ◌⊎◌, inl, inr, ℕ, List, codes, Some, None, Err, ok_or, sym, ap, subst}
use Rattle.serde_json.specs.Data.{Data}
use Rattle.rx_value.specs.declared.shapes.Schema.{Schema}
use Rattle.rx_stats_file.specs.declared.faults.StatsFault.{StatsFault}
use Rattle.rx_stats_file.specs.declared.faults.StatsFault.TheVariants.{BadStats, NoMemory}
use Rattle.rx_stats_file.specs.Outcomes.{Outcome, then_of, FaultOf}
use Rattle.rx_stats_file.specs.Members.{Member, json_of, records_in}
use Rattle.rx_stats_file.specs.Statistics.{given, stats_in, stats_of}

pub with_records : (schema : Schema) (base : List (List ℕ)) (value : Data) (members : List Member) → records_in value ≡ Some members → given schema.indexes base members ≡ stats_in schema base value
unfolding stats_in
with_records schema base value members is = sym (ap (λ o. then_of (ok_or o (codes "records_per_key")) (given schema.indexes base)) is)

no_records : (schema : Schema) (base : List (List ℕ)) (value : Data) → records_in value ≡ None → stats_in schema base value ≡ Err (codes "records_per_key")
unfolding stats_in
no_records schema base value is = ap (λ o. then_of (ok_or o (codes "records_per_key")) (given schema.indexes base)) is

pub with_value : (schema : Schema) (base : List (List ℕ)) (text : List ℕ) (value : Data) → json_of text ≡ Some value → stats_in schema base value ≡ stats_of schema base text
unfolding stats_of
with_value schema base text value is = sym (ap (λ o. then_of (ok_or o (codes "json")) (stats_in schema base)) is)

no_value : (schema : Schema) (base : List (List ℕ)) (text : List ℕ) → json_of text ≡ None → stats_of schema base text ≡ Err (codes "json")
unfolding stats_of
no_value schema base text is = ap (λ o. then_of (ok_or o (codes "json")) (stats_in schema base)) is

faulty : {A : Type 0} (said : Outcome A) (field : List ℕ) (fault : StatsFault) → said ≡ Err field → (fault ≡ BadStats field) ⊎ (fault ≡ NoMemory) → FaultOf said fault
faulty said field fault is told = elim told [ inl e ↦ subst (FaultOf said) (sym e) is | inr e ↦ subst (FaultOf said) (sym e) tt ]

pub records_missing : (schema : Schema) (base : List (List ℕ)) (value : Data) (fault : StatsFault) → records_in value ≡ None → (fault ≡ BadStats (codes "records_per_key")) ⊎ (fault ≡ NoMemory)
    → FaultOf (stats_in schema base value) fault
records_missing schema base value fault is told = faulty (stats_in schema base value) (codes "records_per_key") fault (no_records schema base value is) told

pub value_missing : (schema : Schema) (base : List (List ℕ)) (text : List ℕ) (fault : StatsFault) → json_of text ≡ None → (fault ≡ BadStats (codes "json")) ⊎ (fault ≡ NoMemory)
    → FaultOf (stats_of schema base text) fault
value_missing schema base text fault is told = faulty (stats_of schema base text) (codes "json") fault (no_value schema base text is) told
