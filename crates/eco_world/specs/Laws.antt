-- The laws above the definitions of queries, listings and merges, as the contracts of `src/laws.rt` cite them.
use Rattle.std.specs.Prelude.{◌≡◌, ◌≤◌, ◌+◌, ◌↔◌, ℕ, Bool, IsTrue, IsFalse, Contains, List, [], length, map, slice_get, Some, Ok, Err}
use Rattle.std.specs.List.{list_any}
use Rattle.eco_ids.specs.declared.entity.Entity.{Entity}
use Rattle.eco_ids.specs.declared.id.Id.{Id}
use Rattle.eco_ids.specs.declared.pattern.Pattern.{Pattern}
use Rattle.eco_ids.specs.declared.refusal.Refusal.{Refusal}
use Rattle.eco_ids.specs.declared.refusal.Refusal.TheVariants.{NoMoreIds, NoSuchQuery, OutOfMemory}
use Rattle.eco_ids.specs.declared.value.Value.{Value}
use Rattle.eco_ids.specs.Answer.{answer}
use Rattle.eco_ids.specs.Births.{Admits}
use Rattle.eco_ids.specs.Data.{value_of}
use Rattle.eco_ids.specs.Layout.{ListedTable}
use Rattle.eco_ids.specs.Lawful.{IsLawful}
use Rattle.eco_ids.specs.Matching.{pattern_matches}
use Rattle.eco_ids.specs.Order.{has_item, id_cmp}
use Rattle.eco_ids.specs.Run.{Command, Runs}
use Rattle.eco_ids.specs.Terms.{QueryTerm}
use Rattle.eco_ids.specs.World.{OnEntities, WorldState, held_by, is_alive}
use Rattle.eco_stages.specs.Outcomes.{Outcomes}
use Rattle.eco_tables.specs.Column.{value_in}
use Rattle.eco_world.specs.declared.query_id.QueryId.{QueryId}
use Rattle.eco_world.specs.declared.table_rows.TableRows.{TableRows}
use Rattle.eco_world.specs.Cached.{AddsQuery, ListsFor, OfQuery, RefusesQuery, all_slots_hold}
use Rattle.eco_world.specs.Columns.{ListedColumn, ListsColumns}
use Rattle.eco_world.specs.Layouts.{LendsValues, ListsBy, ListsWith, lent_by}
use Rattle.eco_world.specs.Merging.{Merges, may_merge}
use Rattle.eco_world.specs.Queries.{may_query}

-- ---- listings

-- an entity stands in a listed table exactly where it lives and its type passes
abbrev pub StandWhere : WorldState → (List Id → Bool) → List ListedTable → Type 0
StandWhere w passes tables =
    (e : Entity) → ((t : ListedTable) × Contains tables t × Contains t.entities e) ↔ (IsTrue (is_alive w e) × IsTrue (passes (map (λ p. p.0) (held_by w e))))

-- so it is with the tables whose type passes, with those of a pattern, and with those of the slots of a query
pub record ListingsAreExact : Type 0 where
  pub by_type : (w : WorldState) (passes : List Id → Bool) (tables : List ListedTable) → ListsBy w passes tables → StandWhere w passes tables
  pub with_pattern : (w : WorldState) (p : Pattern) (tables : List ListedTable) → ListsWith w p tables → StandWhere w (list_any (pattern_matches p)) tables
  pub for_slots : (w : WorldState) (slots : List QueryTerm) (tables : List ListedTable) → ListsFor w slots tables
      → StandWhere w (all_slots_hold slots) tables

-- a value that is lent is the one that the world has for the entity in its row
abbrev pub ValuesAreLent : Type 0
ValuesAreLent =
    (w : WorldState) (t : TableRows) (i : Id) (row : ℕ) (e : Entity) → LendsValues w t → slice_get t.entities.now row ≡ Some e
    → (v : Value) → value_of w e i ≡ Some v → slice_get (lent_by t i) row ≡ Some v

-- an entity stands in a column of an id that is data exactly where it lives and has the id, and its row has its value
pub record ColumnsAreExact : Type 0 where
  pub stand : (w : WorldState) (i : Id) (columns : List ListedColumn) → ListsColumns w i columns → (e : Entity)
      → ((c : ListedColumn) × Contains columns c × Contains c.entities e)
      ↔ (IsTrue (is_alive w e) × IsTrue (has_item id_cmp (map (λ p. p.0) (held_by w e)) i))
  pub values : (w : WorldState) (i : Id) (columns : List ListedColumn) → ListsColumns w i columns → (c : ListedColumn) → Contains columns c
      → (row : ℕ) (e : Entity) → slice_get c.entities row ≡ Some e → slice_get c.values row ≡ Some (value_in (held_by w e) i)

-- ---- queries that were added

-- one that is added has the number that is answered, the others keep theirs, and nothing else changes
pub record QueriesAreAdded (w : WorldState) (slots : List QueryTerm) (id : QueryId) (new : WorldState) : Type 0 where
  pub here : OfQuery new id.0 (λ own. own ≡ slots)
  pub others : (n : ℕ) (own : List QueryTerm) → OfQuery w n (λ slots. slots ≡ own) → OfQuery new n (λ slots. slots ≡ own)
  pub last : length new.queries ≡ id.0 + 1
  pub rest : record new { queries = w.queries } ≡ w

abbrev pub AddedQueriesAreFound : Type 0
AddedQueriesAreFound =
    (w : WorldState) (slots : List QueryTerm) (id : QueryId) (new : WorldState) → AddsQuery w slots (Ok id) new → QueriesAreAdded w slots id new

-- no query is refused as absent that is there, and memory may be wanting only for one that is there and may want some
pub record QueriesAreRefused : Type 0 where
  pub absent : (w : WorldState) (n : ℕ) (may_want : List QueryTerm → Bool) → RefusesQuery w n may_want NoSuchQuery ↔ (length w.queries ≤ n)
  pub wanting : (w : WorldState) (n : ℕ) (may_want : List QueryTerm → Bool) (why : Refusal) → (why ≡ NoSuchQuery → ⊥)
      → RefusesQuery w n may_want why
      → (why ≡ OutOfMemory) × OfQuery w n (λ slots. IsTrue (may_want slots))

-- a query without results may want no memory
abbrev pub NoResultsWantNone : Type 0
NoResultsWantNone = (w : WorldState) (slots : List QueryTerm) → answer w slots ≡ [] → IsFalse (may_query w slots)

-- ---- merges

-- one that is refused passes the limit, changes nothing and may want no memory
abbrev pub RefusedMergesChangeNothing : Type 0
RefusedMergesChangeNothing =
    (w : WorldState) (n : ℕ) (commands : List Command) (why : Refusal) (new : WorldState) → Merges w n commands (Err why) new
    → (why ≡ NoMoreIds) × (new ≡ w) × IsFalse (may_merge w n commands)

-- nor may one that has nothing to do
abbrev pub EmptyMergesWantNone : Type 0
EmptyMergesWantNone = (w : WorldState) → IsFalse (may_merge w 0 [])

-- one that admits nothing is the run of its commands, and one without commands admits
pub record MergesRun : Type 0 where
  pub runs : (w : WorldState) (commands : List Command) (outcomes : Outcomes) (new : WorldState) → IsLawful w
      → Merges w 0 commands (Ok outcomes) new ↔ Runs w commands outcomes new
  pub admits : (w : WorldState) (n : ℕ) (new : WorldState) → Merges w n [] (Ok []) new ↔ OnEntities (λ v. Admits v n) w (Ok tt) new
