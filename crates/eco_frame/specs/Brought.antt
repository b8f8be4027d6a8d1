-- What patterns bring, as a search meets it.
use Rattle.std.specs.Prelude.{◌≡◌, ℕ, zero, suc, ◌^◌, ◌↔◌, ⊤, Bool, List}
use Rattle.std.specs.Prelude.{[], ◌∷◌, map, flat_map, Option, Some, None, option_to_list, if◌then◌else◌}
use Rattle.indexmap.specs.IndexSet.{insert_all}
use Rattle.eco_ids.specs.declared.entity.TheConstants.{WITH}
use Rattle.eco_ids.specs.declared.id.Id.{Id}
use Rattle.eco_ids.specs.declared.id.Id.TheVariants as id
use Rattle.eco_ids.specs.declared.pattern.Part.{Part}
use Rattle.eco_ids.specs.declared.pattern.Part.TheVariants.{Is, Each, Any}
use Rattle.eco_ids.specs.declared.pattern.Pattern.{Pattern}
use Rattle.eco_ids.specs.declared.pattern.Pattern.TheVariants.{One, Two}
use Rattle.eco_ids.specs.contracts.pattern.PatternPartialEq.TheImpl as pattern_eq
use Rattle.eco_ids.specs.Indices.{IndexState, Retired, Free, Living}
use Rattle.eco_ids.specs.Least.{SomeOf}
use Rattle.eco_ids.specs.Order.{entity_eq}
use Rattle.eco_ids.specs.World.{WorldState, Record}
use Rattle.eco_query.specs.Queries.{IsPatternPart}
use Rattle.eco_systems.specs.Closing.{pattern_with_head}
use Rattle.eco_systems.specs.Writes.{BringsPattern, InClosedPatterns}
use Rattle.eco_frame.specs.declared.key.Key.{Key}

abbrev pub pattern_key : Pattern → Key
pattern_key p = record { pattern = p }

abbrev pub key_pattern : Key → Pattern
key_pattern k = k.pattern

-- the code's own test whether two patterns are the same
abbrev pub same_pattern : Pattern → Pattern → Bool
same_pattern = (pattern_eq.eq-value).it

-- the patterns, each once
abbrev pub unrepeated : List Pattern → List Pattern
unrepeated ps = insert_all same_pattern [] ps

-- the members are the patterns closed
abbrev pub AreClosed : WorldState → List Pattern → List Pattern → Type 0
AreClosed w patterns members = (p : Pattern) → SomeOf (λ q. q ≡ p) members ↔ InClosedPatterns w patterns p

-- it brings no pattern, nor itself
abbrev pub BringsNothing : WorldState → Pattern → Type 0
BringsNothing w p = (q : Pattern) → BringsPattern w p q → ⊥

-- what a pattern brings by an id of its head
abbrev pub brought_by : Pattern → Id → Option Pattern
brought_by p (id.One e) = None
brought_by p (id.Two r x) = if entity_eq r WITH then Some (pattern_with_head p x) else None

-- what it brings by all of them
abbrev pub brought : Pattern → List Id → List Pattern
brought p ids = flat_map (λ i. option_to_list (brought_by p i)) ids

-- ---- an end to all that patterns bring

-- the target, if the pattern names one, has numbers in range
abbrev pub HasKnownTarget : Pattern → Type 0
HasKnownTarget (One e) = ⊤
HasKnownTarget (Two p q) = IsPatternPart q

-- the numbers below n
unfoldable pub below : ℕ → List ℕ
below zero = []
below (suc n) = n ∷ below n

-- all targets with numbers below these
abbrev pub targets_below : ℕ → ℕ → List Part
targets_below indices generations =
    Each ∷ Any ∷ flat_map (λ i. map (λ g. Is (record { index = i; generation = g })) (below generations)) (below indices)

-- all patterns that an id may bring
abbrev pub keys_by : List Part → Id → List Key
keys_by targets (id.One e) = []
keys_by targets (id.Two r x) = pattern_key (One x) ∷ map (λ q. pattern_key (Two (Is x) q)) targets

-- the ids that somebody has at an index
abbrev pub ids_in : IndexState Record → List Id
ids_in Retired = []
ids_in (Free g) = []
ids_in (Living g r) = map (λ p. p.0) r.held

-- all patterns that ids of the world may bring
abbrev pub known_keys : WorldState → List Key
known_keys w = flat_map (keys_by (targets_below (2 ^ 32) (2 ^ 16))) (flat_map ids_in w.indices)
