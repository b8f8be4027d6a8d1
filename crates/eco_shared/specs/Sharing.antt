-- The rule of the shared world. What is shown has one opening world and one history, which each view knows.
use Rattle.std.specs.Prelude.{◌≡◌, ℕ, true, false, List, [], ◌∷◌, ◌++◌, ◌⊎◌}
use mathlib.Core.Option.{some}
use lib.ListN.{get_elem?}
use Rattle.std.specs.Arc.{arc_value}
use Rattle.eco_ids.specs.World.{WorldState, first_world}
use Rattle.eco_histories.specs.Marks.{mark_of_book}
use Rattle.eco_histories.specs.declared.front.Front.{Front}
use Rattle.eco_histories.specs.declared.registry.HistoryMark.{HistoryMark}
use Rattle.eco_shared.specs.declared.merge.Merge.{Merge}
use Rattle.eco_shared.specs.declared.merge.Knows.{Knows}
use Rattle.eco_shared.specs.declared.shown.Shown.{Shown}
use Rattle.eco_shared.specs.Histories.{IsAfter, IsMerged}

-- the world that is shown
abbrev pub shown_world : Shown → WorldState
shown_world s = arc_value s.world

-- the history that is shown
abbrev pub history : Shown → List Merge
history s = s.front.seen.log

abbrev pub shown_state : Shown → WorldState × Front Merge
shown_state s = (arc_value s.world, s.front)

abbrev pub knows : WorldState → HistoryMark → Knows
knows start mark = record { known = true; start = start; mark = mark }

-- the world is nobody's: where nothing is known, none is
abbrev pub nothing : Knows
nothing = record { known = false; start = first_world 9; mark = record { number = 0; log_name = 0; cells_name = 0 } }

-- the second is of the same history, one merge longer, whose world that merge makes
abbrev pub Follows : Shown → Shown → Type 0
Follows s t = (t.front.seen.book ≡ s.front.seen.book) × (m : Merge) × (history t ≡ history s ++ m ∷ []) × IsMerged (shown_world s) m (shown_world t)

-- one merge more, or the same once more
abbrev pub GoesOn : Shown → Shown → Type 0
GoesOn s t = Follows s t ⊎ (shown_state t ≡ shown_state s)

-- what a view knows of what is shown
abbrev pub KnowsOf : Knows → Shown → Type 0
KnowsOf v s = IsAfter v.start (history s) (shown_world s) × (v.mark ≡ mark_of_book s.front.seen.book)

abbrev pub Kept : Shown → List Knows → Type 0
Kept s views = (by : ℕ) (v : Knows) → get_elem? views by ≡ some v → v.known ≡ true → KnowsOf v s

abbrev pub Sees : Knows → Shown → Shown → Knows → Type 0
Sees v s t w = (w ≡ v) × KnowsOf v t

abbrev pub Opens : Knows → Shown → Shown → Knows → Type 0
Opens v s t w = w ≡ knows (shown_world s) (mark_of_book s.front.seen.book)

abbrev pub Stays : Knows → Shown → Shown → Knows → Type 0
Stays v s t w = w ≡ v
