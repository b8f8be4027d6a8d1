-- What is data has fields in each table whose type has it.
use Rattle.eco_store.proofs.Common.{◌≡◌, ◌≤◌, ℕ, List, Option, Some, arith, subst, unwrap_or, Id, Indexed, fields_for, need, Registration}
use Rattle.eco_store.proofs.Common.{TableState, AllHaveIds, no_table, slot_of, type_at, MeetsNeeds, arity_in_store, read, IsStore}
use Rattle.eco_store.specs.Lent.{AreTablesOf, KeepData, KeepsData}
use Rattle.eco_store.proofs.Needing.{needed}
use Rattle.eco_archetypes.proofs.Shows.{shows}

pub kept_data : (w : Indexed Registration) (s : List (Option TableState)) → MeetsNeeds (need w) s → KeepData (read w s) s
kept_data w s covers n i k at =
    let own : fields_for (arity_in_store (read w s) i) ≤ need w i = needed w s i in
    let wide : need w i ≤ k = covers.each n i k at in
    omega arith

pub kept_there : (w : Indexed Registration) (s : List (Option TableState)) (n : ℕ) (t : TableState) → MeetsNeeds (need w) s → slot_of s n ≡ Some t
    → KeepsData (read w s) t
kept_there w s n t covers at = subst (λ o. KeepsData (read w s) (unwrap_or o no_table)) at (kept_data w s covers n)

-- the tables that a store lends are its own
pub lent_tables : (w : Indexed Registration) (s : List (Option TableState)) → IsStore w s → MeetsNeeds (need w) s → AllHaveIds s
    → ((n m : ℕ) (ids : List Id) → type_at s n ≡ Some ids → type_at s m ≡ Some ids → n ≡ m) → AreTablesOf (read w s) s
lent_tables w s store covers own kinds = record { shown = shows w s store own; kept = kept_data w s covers; kinds = kinds }
