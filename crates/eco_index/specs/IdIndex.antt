-- For each pattern, the slots of the tables whose types have an id that it matches.
use Rattle.std.specs.Prelude.{◌≡◌, ℕ, Bool, true, false, cond, if◌then◌else◌, ◌&&◌, not, List, [], ◌∷◌, length, Option, None, Some, nat_eq}
use Rattle.std.specs.List.{list_any}
use Rattle.std.specs.HashMap.{HashMap, get}
use Rattle.eco_ids.specs.declared.entity.Entity.{Entity}
use Rattle.eco_ids.specs.declared.id.Id.{Id}
use Rattle.eco_ids.specs.declared.id.Id.TheVariants as id
use Rattle.eco_ids.specs.declared.pattern.Part.TheVariants.{Is, Each, Any}
use Rattle.eco_ids.specs.declared.pattern.Pattern.{Pattern}
use Rattle.eco_ids.specs.declared.pattern.Pattern.TheVariants.{One, Two}
use Rattle.eco_ids.specs.Matching.{pattern_matches}
use Rattle.eco_ids.specs.Order.{entity_eq}
use Rattle.eco_index.specs.declared.id_index.key.Key.{Key}
use Rattle.eco_index.specs.declared.id_index.key.Key.TheVariants as key
use Rattle.eco_index.specs.declared.id_index.slots.Slots.{Slots}
use Rattle.eco_index.specs.declared.id_index.slots.Slots.TheVariants as slots
use Rattle.eco_index.specs.contracts.id_index.key.KeyPartialEq.TheImpl as key_impl

-- the pattern matches the id
abbrev pub matches_id : Id → Pattern → Bool
matches_id i p = pattern_matches p i

-- one of the ids matches
abbrev pub any_matches : List Id → Pattern → Bool
any_matches ids p = list_any (pattern_matches p) ids

-- which slots are listed under each pattern
abbrev pub Lists : Type 0
Lists = Pattern → ℕ → Bool

-- no slot is listed
abbrev pub ListsNone : {P : Type 0} → (P → ℕ → Bool) → Type 0
ListsNone {P} now = (p : P) (n : ℕ) → now p n ≡ false

-- the same slots are listed under each pattern
abbrev pub ListsSame : {P : Type 0} → (P → ℕ → Bool) → (P → ℕ → Bool) → Type 0
ListsSame {P} old new = (p : P) (n : ℕ) → new p n ≡ old p n

-- the slot is listed, or not, under each pattern that the test picks; all else stays
abbrev pub Turns : {P : Type 0} → Bool → (P → Bool) → (P → ℕ → Bool) → (P → ℕ → Bool) → ℕ → Type 0
Turns {P} b picks old new slot = (p : P) (n : ℕ) → new p n ≡ cond (picks p && nat_eq slot n) b (old p n)

-- under the patterns that the test does not pick, and for other slots, nothing changed
abbrev pub KeepsRest : (Pattern → Bool) → Lists → Lists → ℕ → Type 0
KeepsRest picks old new slot = (p : Pattern) (n : ℕ) → (picks p && nat_eq slot n) ≡ false → new p n ≡ old p n

-- `==` of keys
abbrev pub same_key : Key → Key → Bool
same_key = (key_impl.eq-value).it

-- the key of a pattern
abbrev pub key_of : Pattern → Key
key_of (One e) = key.Single e
key_of (Two (Is r) (Is t)) = key.Pair r t
key_of (Two (Is r) Each) = key.Relationship r
key_of (Two (Is r) Any) = key.Relationship r
key_of (Two Each (Is t)) = key.Target t
key_of (Two Any (Is t)) = key.Target t
key_of (Two Each Each) = key.AnyPair
key_of (Two Each Any) = key.AnyPair
key_of (Two Any Each) = key.AnyPair
key_of (Two Any Any) = key.AnyPair

-- a pattern with the key
abbrev pub pattern_of : Key → Pattern
pattern_of (key.Single e) = One e
pattern_of (key.Pair r t) = Two (Is r) (Is t)
pattern_of (key.Relationship r) = Two (Is r) Any
pattern_of (key.Target t) = Two Any (Is t)
pattern_of key.AnyPair = Two Any Any

-- the pattern matches the id and none of the others
abbrev pub is_own : Id → List Id → Pattern → Bool
is_own i others p = matches_id i p && not (any_matches others p)

-- the keys of the patterns that match an id
abbrev pub keys_of : Id → List Key
keys_of (id.One e) = key.Single e ∷ []
keys_of (id.Two r t) = key.Pair r t ∷ key.Target t ∷ key.Relationship r ∷ key.AnyPair ∷ []

-- how many of the keys of a pair of r the id before it lacks: a pair has the last one too, and a pair of r the last two
abbrev pub own_count : Option Id → Entity → ℕ
own_count None r = 4
own_count (Some (id.One e)) r = 4
own_count (Some (id.Two q u)) r = if entity_eq q r then 2 else 3

-- the pattern matches the id, if there is one
abbrev pub matches_some : Option Id → Pattern → Bool
matches_some None p = false
matches_some (Some i) p = matches_id i p

-- the slot is listed, or not, under each pattern that matches the id, if there is one
abbrev pub HasTurned : Bool → Option Id → Lists → ℕ → Type 0
HasTurned b o now slot = (p : Pattern) → matches_some o p ≡ true → now p slot ≡ b

-- it is the pattern's key
abbrev pub has_key : Key → Pattern → Bool
has_key k p = same_key k (key_of p)

-- one of the keys is the pattern's
abbrev pub has_one : List Key → Pattern → Bool
has_one ks p = list_any (λ k. has_key k p) ks

-- one of the keys is the pattern's, and it matches none of these ids
abbrev pub has_own : List Key → List Id → Pattern → Bool
has_own ks others p = has_one ks p && not (any_matches others p)

-- the slots of a key
abbrev pub slots_of : Slots → List ℕ
slots_of (slots.One n) = n ∷ []
slots_of (slots.Close s) = s.value.slots
slots_of (slots.Many s) = s.value.keys

-- the slot is one of them from now on, or is not; all others stay
abbrev pub TurnsSlot : Bool → List ℕ → List ℕ → ℕ → Type 0
TurnsSlot b old new slot = (n : ℕ) →
    list_any (nat_eq n) new ≡ cond (nat_eq slot n) b (list_any (nat_eq n) old)

-- the same slots are among them
abbrev pub SameSlotsOf : List ℕ → List ℕ → Type 0
SameSlotsOf old new = (n : ℕ) → list_any (nat_eq n) new ≡ list_any (nat_eq n) old

-- the slot is there, and alone
abbrev pub is_only : List ℕ → ℕ → Bool
is_only ns n = nat_eq (length ns) 1 && list_any (nat_eq n) ns

-- the slot is among them, if there are any
abbrev pub has_slot : Option Slots → ℕ → Bool
has_slot None n = false
has_slot (Some s) n = list_any (nat_eq n) (slots_of s)

-- it is there and has no slot
abbrev pub is_empty : Option Slots → Bool
is_empty None = false
is_empty (Some s) = nat_eq (length (slots_of s)) 0

module _ {S : Type 0} where
  -- the slot is listed under the key
  abbrev pub is_listed : HashMap Key Slots S → Key → ℕ → Bool
  is_listed m k n = has_slot (get same_key m k) n

  -- each key that is kept has a slot
  abbrev pub KeepsNoEmpty : HashMap Key Slots S → Type 0
  KeepsNoEmpty m = (k : Key) → is_empty (get same_key m k) ≡ false

  -- the slot is listed under the pattern's key
  abbrev pub lists_of : HashMap Key Slots S → Lists
  lists_of m p n = is_listed m (key_of p) n
