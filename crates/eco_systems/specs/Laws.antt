-- The laws above the definitions, as the contracts of `src/laws.rt` cite them.
use Rattle.std.specs.Prelude.{◌≡◌, ◌↔◌, ◌<◌, ℕ, Bool, not, IsTrue, Contains, List, [], ◌∷◌, ◌++◌, length, map, slice_get, Some, None, Err, ◌⊎◌}
use Rattle.std.specs.List.{AllByRecursion, list_all}
use Rattle.eco_ids.specs.declared.entity.Entity.{Entity}
use Rattle.eco_ids.specs.declared.entity.TheConstants.{WITH}
use Rattle.eco_ids.specs.declared.id.Id.{Id}
use Rattle.eco_ids.specs.declared.id.Id.TheVariants as id
use Rattle.eco_ids.specs.declared.pattern.Pattern.{Pattern}
use Rattle.eco_ids.specs.declared.refusal.Refusal.{Refusal}
use Rattle.eco_ids.specs.Lawful.{IsLawful}
use Rattle.eco_ids.specs.Order.{entity_cmp, has_item}
use Rattle.eco_ids.specs.Outcome.{is_out_of_memory}
use Rattle.eco_ids.specs.Run.{Command, Runs}
use Rattle.eco_ids.specs.Terms.{Not}
use Rattle.eco_ids.specs.Traits.{Reaches}
use Rattle.eco_ids.specs.World.{WorldState, has}
use Rattle.eco_query.specs.Queries.{QuerySlot, patterns_of}
use Rattle.eco_systems.specs.Batches.{AreBatches, Conflict, joined}
use Rattle.eco_systems.specs.Closing.{Among, ListsClosed, pattern_head, pattern_with_head}
use Rattle.eco_systems.specs.Frames.{BatchDraws, FrameOutcomes, IsFrame, IsFrameAlone, IsSolo, IsFrameSoFar, IsSoloSoFar, FrameIsStopped, AreAscending}
use Rattle.eco_systems.specs.Frames.{AreFresh}
use Rattle.eco_systems.specs.Joining.{batched}
use Rattle.eco_systems.specs.Phases.{in_order, order_of}
use Rattle.eco_systems.specs.Rows.{ValuedRow, valued_rows}
use Rattle.eco_systems.specs.Systems.{IsLawfulSystem, SystemModel, matches_one}
use Rattle.eco_systems.specs.Writes.{BringsPattern, widened}

-- a frame of lawful systems on a lawful world is the run of its systems one by one: with the same draws, outcomes and last world
abbrev pub FramesAreSolo : Type 0
FramesAreSolo =
    (w : WorldState) (systems : List SystemModel) (draws : List BatchDraws) (outcomes : FrameOutcomes) (new : WorldState)
    → IsLawful w → AllByRecursion IsLawfulSystem systems → IsFrame w systems draws outcomes new → IsSolo w systems draws outcomes new

-- so is what was done of a frame that stopped
abbrev pub StoppedAreSolo : Type 0
StoppedAreSolo =
    (w : WorldState) (systems : List SystemModel) (draws : List BatchDraws) (outcomes : FrameOutcomes) (new : WorldState)
    → IsLawful w → AllByRecursion IsLawfulSystem systems → IsFrameSoFar w systems draws outcomes new → IsSoloSoFar w systems draws outcomes new

-- a frame that stopped has batches left, unless its systems have none
abbrev pub StoppedHaveMore : Type 0
StoppedHaveMore =
    (w : WorldState) (systems : List SystemModel) (draws : List BatchDraws) (outcomes : FrameOutcomes) (new : WorldState)
    (batches : List (List SystemModel)) → IsFrameSoFar w systems draws outcomes new → AreBatches w (in_order systems) batches
    → (batches ≡ []) ⊎ (length draws < length batches)

-- each row takes some number of draws, whichever they are
abbrev pub TakesSome : SystemModel → Type 0
TakesSome s = (row : ValuedRow) → (count : ℕ) × ((draws : List Entity) → length draws ≡ count → IsTrue (s.takes row draws))

-- of one list of draws each row takes one beginning at most
abbrev pub TakesOne : SystemModel → Type 0
TakesOne s =
    (row : ValuedRow) (mine others rest later : List Entity)
    → IsTrue (s.takes row mine) → IsTrue (s.takes row others) → mine ++ rest ≡ others ++ later → mine ≡ others

-- no command found memory wanting
abbrev pub was_ample : FrameOutcomes → Bool
was_ample outcomes = list_all (λ r. not (is_out_of_memory r)) outcomes

-- the draws decide what a frame of such systems leads to: where memory was ample it has one list of outcomes and one last world
abbrev pub DrawsDecide : Type 0
DrawsDecide =
    (w : WorldState) (systems : List SystemModel) (draws : List BatchDraws) (outcomes others : FrameOutcomes) (new other : WorldState)
    → AllByRecursion TakesOne systems → IsTrue (was_ample outcomes) → IsTrue (was_ample others)
    → IsFrame w systems draws outcomes new → IsFrame w systems draws others other → (outcomes ≡ others) × (new ≡ other)

-- of one worker the draws are decided too
abbrev pub OneWorkerDecides : Type 0
OneWorkerDecides =
    (w : WorldState) (systems : List SystemModel) (draws other_draws : List BatchDraws) (outcomes others : FrameOutcomes) (new other : WorldState)
    → AllByRecursion TakesOne systems → IsTrue (was_ample outcomes) → IsTrue (was_ample others)
    → IsFrameAlone w systems draws outcomes new → IsFrameAlone w systems other_draws others other
    → (draws ≡ other_draws) × (outcomes ≡ others) × (new ≡ other)

-- a lawful world has a frame of such systems, or one that stops at a batch whose draws would pass the limit
abbrev pub FramesExist : Type 0
FramesExist =
    (w : WorldState) (systems : List SystemModel) → IsLawful w → AllByRecursion TakesSome systems
    → (draws : List BatchDraws) × (outcomes : FrameOutcomes) × (new : WorldState)
    × (IsFrame w systems draws outcomes new ⊎ FrameIsStopped w systems draws outcomes new)

-- a frame, also one that stopped, leaves a lawful world lawful
abbrev pub FramesKeepLawful : Type 0
FramesKeepLawful =
    (w : WorldState) (systems : List SystemModel) (draws : List BatchDraws) (outcomes : FrameOutcomes) (new : WorldState)
    → IsLawful w → IsFrameSoFar w systems draws outcomes new → IsLawful new

-- a command that is refused changes nothing, be it for want of memory
abbrev pub RefusedCommandsChangeNothing : Type 0
RefusedCommandsChangeNothing =
    (command : Command) (w : WorldState) (why : Refusal) (new : WorldState) → Runs w (command ∷ []) (Err why ∷ []) new → new ≡ w

-- a frame that stopped at its first batch changes nothing
abbrev pub StoppedAtOnceChangesNothing : Type 0
StoppedAtOnceChangesNothing =
    (w : WorldState) (systems : List SystemModel) (outcomes : FrameOutcomes) (new : WorldState)
    → IsFrameSoFar w systems [] outcomes new → (outcomes ≡ []) × (new ≡ w)

-- a lawful world has batches
abbrev pub BatchesExist : Type 0
BatchesExist = (w : WorldState) (systems : List SystemModel) → IsLawful w → (batches : List (List SystemModel)) × AreBatches w systems batches

-- there is one way to cut systems into batches
abbrev pub BatchesAreUnique : Type 0
BatchesAreUnique = (w : WorldState) (systems : List SystemModel) (xs ys : List (List SystemModel)) → AreBatches w systems xs → AreBatches w systems ys → xs ≡ ys

-- systems that are joined one by one, each to the open batch unless it conflicts with one of it, are cut into the batches, and none
-- is left out
abbrev pub JoiningMakesBatches : Type 0
JoiningMakesBatches =
    (w : WorldState) (at : ℕ → SystemModel) (clash : List ℕ → ℕ → ℕ → Bool)
    → ((before : List ℕ) (s t : ℕ) → IsTrue (clash before s t) ↔ Conflict w (map at before ++ at t ∷ []) (at s) (at t))
    → (first : ℕ) (rest : List ℕ)
    → (joined (batched clash [] [] (first ∷ rest)) ≡ first ∷ rest) × AreBatches w (map at (first ∷ rest)) (map (map at) (batched clash [] [] (first ∷ rest)))

-- an entry of a row stands at a slot that is no `!` slot, one of whose patterns reads it
abbrev pub EntriesAreRead : Type 0
EntriesAreRead =
    (w : WorldState) (slots : List QuerySlot) (row : ValuedRow) (n : ℕ) (i : Id)
    → Contains (valued_rows w slots) row → slice_get row.entries n ≡ Some (Some i)
    → (s : QuerySlot) × (slice_get slots n ≡ Some s) × IsTrue (matches_one (patterns_of s.term) i) × ((p : Pattern) → s.term ≡ Not p → ⊥)

-- a pattern brings another where its head has a pair of With, whose target is the head of the other
abbrev pub HeadsBring : Type 0
HeadsBring =
    (w : WorldState) (p q : Pattern)
    → BringsPattern w p q ↔ (h : Entity) × (x : Entity) × (pattern_head p ≡ Some h) × IsTrue (has w h (id.Two WITH x)) × (q ≡ pattern_with_head p x)

-- no patterns have no closed writes
abbrev pub NoneAreListed : Type 0
NoneAreListed = (w : WorldState) → ListsClosed w [] []

-- the closed writes of some patterns, and among them those of one more, are those of all these patterns
abbrev pub OneMoreIsListed : Type 0
OneMoreIsListed =
    (w : WorldState) (writes : List Pattern) (p : Pattern) (old new : List Pattern)
    → ListsClosed w writes old → Among w p old new → ListsClosed w (writes ++ p ∷ []) new

-- the closed writes of a pattern with a head are it with each head that With leads to, widened
abbrev pub HeadsAreAmong : Type 0
HeadsAreAmong =
    (w : WorldState) (p : Pattern) (head : Entity) (heads : List Entity) (old : List Pattern) → pattern_head p ≡ Some head
    → ((x : Entity) → IsTrue (has_item entity_cmp heads x) ↔ Reaches w WITH head x)
    → Among w p old (old ++ map (λ x. widened w (pattern_with_head p x)) heads)

-- a pattern without a head is closed by itself
abbrev pub HeadlessAreAmong : Type 0
HeadlessAreAmong = (w : WorldState) (p : Pattern) (old : List Pattern) → pattern_head p ≡ None → Among w p old (old ++ p ∷ [])

-- at the positions of declaration, in the order in which the systems run, stand the systems as they run
abbrev pub OrderHasSystems : Type 0
OrderHasSystems = (systems : List SystemModel) → map (slice_get systems) (order_of systems) ≡ map Some (in_order systems)

-- draws that ascend over all pieces are fresh
abbrev pub AscendingAreFresh : Type 0
AscendingAreFresh = (known : ℕ) (draws : BatchDraws) → AreAscending known draws → AreFresh known draws
