-- Single entities get other types, all or none.
use Rattle.std.specs.Prelude.{ℕ, ◌+◌, ◌≤◌, ◌==◌, ◌≡◌, IsTrue, List, [], ◌∷◌, fold, map, nat_eq, Option, Some, if◌then◌else◌}
use Rattle.std.specs.List.{All, list_any}
use Rattle.eco_ids.specs.declared.id.Id.{Id}
use Rattle.eco_ids.specs.World.{Record}
use Rattle.eco_ids.specs.Indices.{changed, Indexed}
use Rattle.eco_tables.specs.Table.{TableState}
use Rattle.eco_tables.specs.Tables.{table_in}
use Rattle.eco_archetypes.specs.Archetypes.{type_at}
use Rattle.eco_store.specs.declared.moving.Move.{Move}
use Rattle.eco_archetypes.specs.Records.{with_type}

-- the store after a move of one entity: its ids are those of the type; values of ids that were there stay, and new ids hold
-- zeros. An entity that does not live changes nothing.
abbrev pub after_move : Indexed Record → Move → Indexed Record
after_move w m = changed w m.entity (with_type m.type_list)

-- the store after these moves, one after another
abbrev pub after_moves : Indexed Record → List Move → Indexed Record
after_moves w ms = fold after_move w ms

-- ---- how tables make it

-- the table in each of these slots has the type of the move at the same place
abbrev pub AreTyped : List (Option TableState) → List Move → List ℕ → Type 0
AreTyped slots ms ns = map (type_at slots) ns ≡ map (λ (m : Move). Some m.type_list) ms

-- how many come to a slot
abbrev pub arriving : List ℕ → ℕ → ℕ
arriving [] n = 0
arriving (m ∷ ms) n = (if m == n then 1 else 0) + arriving ms n

-- each slot has room for all that come
abbrev pub HasRoomFor : List (Option TableState) → List ℕ → Type 0
HasRoomFor slots to = (n : ℕ) → arriving to n ≤ (table_in slots n).room

-- the slots that moves go to: each is a target, has the type of its move, and room for all that come there
pub record AreMovesReady (slots : List (Option TableState)) (targets : List ℕ) (moves : List Move) (to : List ℕ) : Type 0 where
  pub typed : AreTyped slots moves to
  pub named : All (λ n. IsTrue (list_any (nat_eq n) targets)) to
  pub room : HasRoomFor slots to

-- the tables in some slots keep their types, and lose no more room than one row in the table in a slot takes
pub record AdmitsRow (old new : List (Option TableState)) (slots : List ℕ) (to : ℕ) : Type 0 where
  pub types : (n : ℕ) → IsTrue (list_any (nat_eq n) slots) → type_at new n ≡ type_at old n
  pub room : (n : ℕ) → IsTrue (list_any (nat_eq n) slots) → (table_in old n).room ≤ (table_in new n).room + arriving (to ∷ []) n

-- the table in a slot keeps its type, and its room but for one row
pub record LeavesRoom (old new : List (Option TableState)) (n : ℕ) : Type 0 where
  pub types : (ids : List Id) → type_at old n ≡ Some ids → type_at new n ≡ Some ids
  pub room : (table_in old n).room ≤ (table_in new n).room + 1
