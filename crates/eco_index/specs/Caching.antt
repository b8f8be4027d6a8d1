-- Queries with the slots of the tables whose types fulfil them.
use Rattle.std.specs.Prelude.{◌≡◌, ◌≢◌, ℕ, ◌<◌, Bool, MatchBool, false, List, [], ◌∷◌, ◌++◌, length, map, slice_get}
use Rattle.std.specs.Prelude.{Option, None, Some, IfSome, is_some, nat_eq}
use Rattle.std.specs.HashSet.{spare}
use Rattle.std.specs.List.{list_any, swap_remove}
use Rattle.eco_ids.specs.declared.id.Id.{Id}
use Rattle.eco_ids.specs.Answer.{choices}
use Rattle.eco_ids.specs.Terms.{QueryTerm}
use Rattle.eco_query.specs.Queries.{QuerySlot, matches_type}
use Rattle.eco_index.specs.Answers.{asked}
use Rattle.eco_index.specs.Flat.{ChoicesState}
use Rattle.eco_index.specs.declared.cache.Cache.{Cache}

-- there is a type, and it fulfils the query
abbrev pub fulfils : Option (List Id) → List QuerySlot → Bool
fulfils None q = false
fulfils (Some ids) q = matches_type ids q

-- exactly the slots whose type fulfils the query are among these
abbrev pub AreThose : (ℕ → Option (List Id)) → List QuerySlot → List ℕ → Type 0
AreThose types q slots = (n : ℕ) → list_any (nat_eq n) slots ≡ fulfils (types n) q

-- the choices that terms have on a type, if there is one
abbrev pub choices_on : List QueryTerm → Option (List Id) → List (List (Option Id))
choices_on terms None = []
choices_on terms (Some ids) = choices ids terms

-- the terms have just one choice on the type of each of the slots, and these are they, slot by slot
abbrev pub AreOnly : (ℕ → Option (List Id)) → List QueryTerm → List ℕ → List (List (Option Id)) → Type 0
AreOnly types terms slots all = map (λ n. choices_on terms (types n)) slots ≡ map (λ c. c ∷ []) all

-- choices that have an entry for each slot of the query, and are the only ones on the types of the slots
pub record AreKept (types : ℕ → Option (List Id)) (q : List QuerySlot) (slots : List ℕ) (c : ChoicesState) : Type 0 where
  pub wide : c.width ≡ length q
  pub only : AreOnly types (asked q) slots c.all

-- the cache has exactly the slots whose type fulfils its query, and the only choice of each, if it keeps choices
pub record IsExact (types : ℕ → Option (List Id)) (c : Cache) : Type 0 where
  pub those : AreThose types c.query c.slots.keys
  pub kept : IfSome c.only (AreKept types c.query c.slots.keys)

-- so has each of the caches
abbrev pub AreExact : (ℕ → Option (List Id)) → List Cache → Type 0
AreExact types cs = (k : ℕ) (c : Cache) → slice_get cs k ≡ Some c → IsExact types c

-- the queries that caches keep, in their order
abbrev pub kept_queries : List Cache → List (List QuerySlot)
kept_queries cs = map (λ (c : Cache). c.query) cs

-- one cache comes behind the others: of this query, with these slots and choices
pub record AddsCache (old new : List Cache) (q : List QuerySlot) (ns : List ℕ) (o : Option ChoicesState) : Type 0 where
  pub cache : Cache
  pub query : cache.query ≡ q
  pub slots : cache.slots.keys ≡ ns
  pub only : cache.only ≡ o
  pub behind : new ≡ old ++ cache ∷ []

-- the cache of this number is there and of this query, and has these slots
pub record HasSlots (cs : List Cache) (number : ℕ) (q : List QuerySlot) (ns : List ℕ) : Type 0 where
  pub cache : Cache
  pub there : slice_get cs number ≡ Some cache
  pub query : cache.query ≡ q
  pub slots : cache.slots.keys ≡ ns

-- the cache keeps choices, and these, for just these slots
pub record HasChoices (c : Cache) (ns : List ℕ) (d : ChoicesState) : Type 0 where
  pub slots : c.slots.keys ≡ ns
  pub only : c.only ≡ Some d

-- the cache of this number is there and of this query, and keeps these choices for just these slots
pub record FindsChoices (cs : List Cache) (number : ℕ) (q : List QuerySlot) (ns : List ℕ) (d : ChoicesState) : Type 0 where
  pub cache : Cache
  pub there : slice_get cs number ≡ Some cache
  pub query : cache.query ≡ q
  pub kept : HasChoices cache ns d

-- what a cache keeps: a query, its slots, and choices, if it has these
pub record CacheState : Type 0 where
  pub query : List QuerySlot
  pub slots : List ℕ
  pub only : Option ChoicesState

abbrev pub cache_state : Cache → CacheState
cache_state c = record { query = c.query; slots = c.slots.keys; only = c.only }

-- what each of the caches keeps, in their order
abbrev pub cache_states : List Cache → List CacheState
cache_states cs = map cache_state cs

-- each of the caches takes one slot more without memory
abbrev pub HaveRoom : List Cache → Type 0
HaveRoom cs = (k : ℕ) (c : Cache) → slice_get cs k ≡ Some c → 0 < spare c.slots

-- the slot has this type now, or none; every other slot has what it had
pub record ChangesType (old new : ℕ → Option (List Id)) (n : ℕ) (o : Option (List Id)) : Type 0 where
  pub there : new n ≡ o
  pub others : (m : ℕ) → m ≢ n → new m ≡ old m

-- a cache that was exact before the slot's type changed is so again
abbrev pub IsTold : Cache → Cache → ℕ → Option (List Id) → Type 0
IsTold old new n o =
    (types types' : ℕ → Option (List Id)) → ChangesType types types' n o → IsExact types old → IsExact types' new

-- caches that were exact before the slot's type changed are so again
abbrev pub AreTold : List Cache → List Cache → ℕ → Option (List Id) → Type 0
AreTold old new n o =
    (types types' : ℕ → Option (List Id)) → ChangesType types types' n o → AreExact types old → AreExact types' new

-- a cache that was exact keeps choices as before, where there is no type or the type does not fulfil its query
abbrev pub KeepsStill : Cache → Cache → Option (List Id) → Type 0
KeepsStill old new o =
    (types : ℕ → Option (List Id)) → IsExact types old → fulfils o old.query ≡ false → is_some new.only ≡ is_some old.only

-- so does each of the caches
abbrev pub KeepStill : List Cache → List Cache → Option (List Id) → Type 0
KeepStill old new o =
    (k : ℕ) (c d : Cache) → slice_get old k ≡ Some c → slice_get new k ≡ Some d → KeepsStill c d o

-- what the caches were exact for they are exact for still
abbrev pub StayExact : List Cache → List Cache → Type 0
StayExact old new = (types : ℕ → Option (List Id)) → AreExact types old → AreExact types new

-- the choices with the only one of a type at the end
pub record KeepsNew (old new : ChoicesState) (cs : List (List (Option Id))) : Type 0 where
  pub choice : List (Option Id)
  pub alone : cs ≡ choice ∷ []
  pub wide : new.width ≡ old.width
  pub all : new.all ≡ old.all ++ choice ∷ []

-- the choices without the one at a place, where the last one stands then
pub record LosesOnly (old new : ChoicesState) (place : ℕ) : Type 0 where
  pub wide : new.width ≡ old.width
  pub there : place < length old.all
  pub all : new.all ≡ swap_remove old.all place []

-- the choices with the only one of a type: at the end, where its slot is new, and else at the place of its slot
pub record KeepsOnly (old new : ChoicesState) (cs : List (List (Option Id))) (place : ℕ) (is_new : Bool) : Type 0 where
  pub more : ChoicesState
  pub came : KeepsNew old more cs
  pub stands : MatchBool is_new (new ≡ more) (LosesOnly more new place)
