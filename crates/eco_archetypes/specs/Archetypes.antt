-- Tables in slots, each found by its type and by the patterns that match its ids.
use Rattle.std.specs.Prelude.{◌≡◌, ◌≢◌, ℕ, ◌≤◌, Bool, MatchBool, false, IsTrue, ◌&&◌, nat_lt, nat_eq, length, map, List}
use Rattle.std.specs.Prelude.{◌∷◌, slice_get}
use Rattle.std.specs.Prelude.{Option, None, Some, option_map, is_some, Result, IfOk, MatchResult, OnOk, OnErr}
use Rattle.std.specs.List.{list_any, IsDistinct, flat_map}
use Rattle.eco_ids.specs.declared.id.Id.{Id}
use Rattle.eco_ids.specs.declared.pattern.Pattern.{Pattern}
use Rattle.eco_ids.specs.Matching.{pattern_matches}
use Rattle.eco_ids.specs.declared.entity.Entity.{Entity}
use Rattle.eco_ids.specs.Indices.{Indexed}
use Rattle.eco_entities.specs.Registration.{Registration}
use Rattle.eco_tables.specs.Table.{TableState, retyped_row, TableRow, entities_of}
use Rattle.eco_tables.specs.Tables.{slot_of, table_in, rowless_type}
use Rattle.eco_index.specs.Edges.{IsGraph}
use Rattle.eco_index.specs.TypeMap.{TypesDiffer, IsTypeMap, same_ids}
use Rattle.eco_index.specs.IdIndex.{Lists, any_matches}
use Rattle.eco_index.specs.Caching.{AreExact}
use Rattle.eco_index.specs.declared.cache.Cache.{Cache}
use Rattle.eco_archetypes.specs.Widths.{AreAgreed, StillCover}

-- the type of the table in a slot, if there is one
abbrev pub type_at : List (Option TableState) → ℕ → Option (List Id)
type_at slots n = option_map (λ (t : TableState). t.ids) (slot_of slots n)

-- there is a type, and it has just these ids
abbrev pub is_type : Option (List Id) → List Id → Bool
is_type None ids = false
is_type (Some own) ids = same_ids own ids

-- there is a type, and one of its ids matches
abbrev pub type_matches : Option (List Id) → Pattern → Bool
type_matches None p = false
type_matches (Some ids) p = any_matches ids p

-- there is a type, and one of its ids matches one of the patterns
abbrev pub has_one_of : List Pattern → Option (List Id) → Bool
has_one_of ps o = list_any (type_matches o) ps

-- the index lists, under each pattern, exactly the slots of the tables whose types have an id that it matches
abbrev pub IsIdIndex : (ℕ → Option (List Id)) → Lists → Type 0
IsIdIndex types lists = (p : Pattern) (n : ℕ) → lists p n ≡ type_matches (types n) p

-- no two tables have the same type, each is found by that and by what its type's ids match, nothing else is found, edges lead
-- from table to table, an id is as wide in each table, and caches have exactly the tables that they are to have
pub record IsArchetypes (slots : List (Option TableState)) (by_type : ℕ → ℕ → Bool) (by_id : Lists)
    (edges : List (List (Id × ℕ))) (caches : List Cache) : Type 0 where
  pub kinds : TypesDiffer (type_at slots)
  pub types : IsTypeMap (type_at slots) by_type
  pub matches : IsIdIndex (type_at slots) by_id
  pub graph : IsGraph (type_at slots) edges
  pub agreed : AreAgreed slots
  pub cached : AreExact (type_at slots) caches

-- each slot has what it had
abbrev pub SameSlots : List (Option TableState) → List (Option TableState) → Type 0
SameSlots old new = (n : ℕ) → slot_of new n ≡ slot_of old n

-- no table is gone, and each has the type that it had
abbrev pub KeepsTypes : List (Option TableState) → List (Option TableState) → Type 0
KeepsTypes old new = (n : ℕ) (ids : List Id) → type_at old n ≡ Some ids → type_at new n ≡ Some ids

-- some table has this type
abbrev pub SomeHasType : List (Option TableState) → List Id → Type 0
SomeHasType slots ids = (n : ℕ) × (type_at slots n ≡ Some ids)

-- the table in a slot has another type from now on, and its rows are under it; every other table stays
pub record TakesType (old new : List (Option TableState)) (n : ℕ) (ids : List Id) : Type 0 where
  pub typed : type_at new n ≡ Some ids
  pub rows : (table_in new n).rows ≡ map (retyped_row ids) (table_in old n).rows
  pub others : (m : ℕ) → m ≢ n → slot_of new m ≡ slot_of old m

-- a table of one row has this type from now on, or nothing has changed
abbrev pub MayTakeType : List (Option TableState) → List (Option TableState) → ℕ → List Id → Bool → Type 0
MayTakeType old new n ids takes =
    MatchBool takes (TakesType old new n ids × (length (table_in old n).rows ≡ 1)) (SameSlots old new)

-- there is a table in the slot, and it has no rows
abbrev pub is_rowless : List (Option TableState) → ℕ → Bool
is_rowless slots n = is_some (rowless_type (slot_of slots n))

-- each table without rows is in one of these slots
abbrev pub RowlessIn : List (Option TableState) → List ℕ → Type 0
RowlessIn slots allowed = (n : ℕ) → IsTrue (is_rowless slots n) → IsTrue (list_any (nat_eq n) allowed)

-- a table without rows is one that was so before, or the one in the slot that comes out
abbrev pub RowlessBut : {E : Type 0} →
    List (Option TableState) → List (Option TableState) → Result ℕ E → Type 0
RowlessBut old new r = (slots : List ℕ) → RowlessIn old slots →
    MatchResult r (λ n. RowlessIn new (n ∷ slots)) (λ e. RowlessIn new slots)

-- no table has less room than it had
abbrev pub KeepsRoom : List (Option TableState) → List (Option TableState) → Type 0
KeepsRoom old new = (n : ℕ) → (table_in old n).room ≤ (table_in new n).room

-- the row of the table in a slot, if it is there
abbrev pub row_at : List (Option TableState) → ℕ → ℕ → Option TableRow
row_at slots n row = slice_get (table_in slots n).rows row

-- each row is what and where it was
abbrev pub SameRows : List (Option TableState) → List (Option TableState) → Type 0
SameRows old new = (n row : ℕ) → row_at new n row ≡ row_at old n row

-- the table of a type was found, or was made without rows, and has room for so many more; no row changed, and no table went;
-- where memory was refused, nothing has changed
pub record FindsRoom {E : Type 0} (w : Indexed Registration) (old new : List (Option TableState)) (ids : List Id) (more : ℕ) (r : Result ℕ E)
    : Type 0 where
  pub typed : IfOk r (λ n. type_at new n ≡ Some ids)
  pub room : IfOk r (λ n. more ≤ (table_in new n).room)
  pub kept : OnOk r (KeepsRoom old new)
  pub rowless : RowlessBut old new r
  pub rows : SameRows old new
  pub types : KeepsTypes old new
  pub widths : StillCover w old new
  pub refused : OnErr r (SameSlots old new)

-- the table has rows, and its type passes the test
abbrev pub is_found_by : (List Id → Bool) → Option TableState → Bool
is_found_by test None = false
is_found_by test (Some t) = nat_lt 0 (length t.rows) && test t.ids

-- the table has rows, and its type an id that the pattern matches
abbrev pub is_found : Pattern → Option TableState → Bool
is_found p = is_found_by (list_any (pattern_matches p))

-- some table is found
abbrev pub FindsSome : (List Id → Bool) → List (Option TableState) → Type 0
FindsSome test slots = (n : ℕ) × IsTrue (is_found_by test (slot_of slots n))

-- the slots of all tables that are found, each once
pub record IsAllFound (test : List Id → Bool) (slots : List (Option TableState)) (found : List ℕ)
    : Type 0 where
  pub listed : (n : ℕ) → list_any (nat_eq n) found ≡ is_found_by test (slot_of slots n)
  pub distinct : IsDistinct nat_eq found

-- the table in the slot has rows, and its type passes the test
abbrev pub is_found_in : (List Id → Bool) → List (Option TableState) → ℕ → Bool
is_found_in test slots n = is_found_by test (slot_of slots n)

-- each slot has the type that it had, or none as before
abbrev pub SameTypes : List (Option TableState) → List (Option TableState) → Type 0
SameTypes old new = (n : ℕ) → type_at new n ≡ type_at old n

-- the entities that stand in the tables of these slots
abbrev pub standing_in : List (Option TableState) → List ℕ → List Entity
standing_in tables slots = flat_map (λ n. entities_of (table_in tables n).rows) slots

-- there is a type, and it passes the test
abbrev pub passes_at : (List Id → Bool) → Option (List Id) → Bool
passes_at test None = false
passes_at test (Some ids) = test ids

-- exactly the slots of the tables whose types pass the test are among these
abbrev pub ArePassing : (List Id → Bool) → List (Option TableState) → List ℕ → Type 0
ArePassing test slots found = (n : ℕ) → list_any (nat_eq n) found ≡ passes_at test (type_at slots n)

-- the table in the slot has rows
abbrev pub has_rows : List (Option TableState) → ℕ → Bool
has_rows slots n = nat_lt 0 (length (table_in slots n).rows)
