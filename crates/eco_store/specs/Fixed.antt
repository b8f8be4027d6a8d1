-- Entries that some slots have wherever they hold.
use Rattle.std.specs.Prelude.{◌≡◌, ℕ, ⊤, IsTrue, List, [], ◌∷◌, Option}
use Rattle.std.specs.List.{slice_index_or}
use Rattle.eco_ids.specs.Answer.{entries_of}
use Rattle.eco_ids.specs.Order.{id_cmp, is_ascending}
use Rattle.eco_ids.specs.Terms.{QueryTerm}
use Rattle.eco_ids.specs.declared.id.Id.{Id}
use Rattle.eco_tables.specs.Table.{TableState}
use Rattle.eco_tables.specs.Tables.{table_in}
use Rattle.eco_query.specs.Queries.{QuerySlot, holds, matches_type}
use Rattle.eco_store.specs.declared.standing.Standing.{Standing}

-- the term has just this entry on each type on which it holds
abbrev pub IsFixed : QueryTerm → Option Id → Type 0
IsFixed t e = (ids : List Id) → IsTrue (is_ascending id_cmp ids) → IsTrue (holds ids t) → entries_of ids t ≡ e ∷ []

-- so has each of the terms
abbrev pub AreFixed : List QueryTerm → List (Option Id) → Type 0
AreFixed [] [] = ⊤
AreFixed [] (e ∷ es) = ⊥
AreFixed (t ∷ ts) [] = ⊥
AreFixed (t ∷ ts) (e ∷ es) = IsFixed t e × AreFixed ts es

-- the type of the table at the place fulfils the query
abbrev pub FitsQuery : List (Option TableState) → List ℕ → List QuerySlot → Standing → Type 0
FitsQuery tables slots q s = IsTrue (matches_type (table_in tables (slice_index_or slots s.place 0)).ids q)
