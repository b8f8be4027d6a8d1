-- Queries that were added to a world, and what is answered to them.
use Rattle.std.specs.Prelude.{◌≡◌, ℕ, Bool, List, [], ◌∷◌, ◌++◌, MatchOption, Result, IsTrue, length, slice_get}
use Rattle.std.specs.List.{list_all}
use Rattle.eco_ids.specs.declared.id.Id.{Id}
use Rattle.eco_ids.specs.declared.refusal.Refusal.{Refusal}
use Rattle.eco_ids.specs.declared.refusal.Refusal.TheVariants.{NoSuchQuery, OutOfMemory}
use Rattle.eco_ids.specs.Layout.{ListedTable}
use Rattle.eco_ids.specs.Outcome.{Answers}
use Rattle.eco_ids.specs.Terms.{QueryTerm}
use Rattle.eco_ids.specs.World.{WorldState}
use Rattle.eco_query.specs.Queries.{holds}
use Rattle.eco_world.specs.declared.query_id.QueryId.{QueryId}
use Rattle.eco_world.specs.Layouts.{ListsBy}

-- the world has one query more, behind the others, and the answer is its place
abbrev pub AddsQuery : WorldState → List QueryTerm → Result QueryId Refusal → WorldState → Type 0
AddsQuery w slots r new = Answers (record { 0 = length w.queries }) (record w { queries = w.queries ++ slots ∷ [] }) r new

-- the world has a query of this number, and this is so of what it asks
abbrev pub OfQuery : WorldState → ℕ → (List QueryTerm → Type 0) → Type 0
OfQuery w n IsSo = MatchOption (slice_get w.queries n) ⊥ IsSo

-- the world has no query of this number; or memory was wanting, where what it asks may want some
abbrev pub RefusesQuery : WorldState → ℕ → (List QueryTerm → Bool) → Refusal → Type 0
RefusesQuery w n may_want why =
    MatchOption (slice_get w.queries n) (why ≡ NoSuchQuery) (λ slots. (why ≡ OutOfMemory) × IsTrue (may_want slots))

-- all these slots hold on an entity of this type
abbrev pub all_slots_hold : List QueryTerm → List Id → Bool
all_slots_hold slots ids = list_all (holds ids) slots

-- these are the tables of a layout of the world on whose type all these slots hold
abbrev pub ListsFor : WorldState → List QueryTerm → List ListedTable → Type 0
ListsFor w slots = ListsBy w (all_slots_hold slots)
