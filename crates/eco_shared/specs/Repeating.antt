-- A merge that is made once more.
use Rattle.std.specs.Prelude.{◌≡◌, ℕ, IsTrue, List, Ok, Option, None, Some}
use Rattle.std.specs.Arc.{arc_value}
use Rattle.eco_ids.specs.Run.{Command}
use Rattle.eco_ids.specs.World.{WorldState}
use Rattle.eco_stages.specs.Outcomes.{Outcomes, alike_in_memory}
use Rattle.eco_world.specs.Merging.{Merges}
use Rattle.eco_shared.specs.declared.merge.Merge.{Merge}
use Rattle.eco_shared.specs.declared.spare.Last.{Last}
use Rattle.eco_shared.specs.declared.spare.Spare.{Spare}
use Rattle.eco_shared.specs.Histories.{IsMerged, merge}

-- what a history has of it
abbrev pub merge_of : Last → Merge
merge_of l = merge l.admitted l.commands l.report

-- what comes of the world by the merge, made once more with memory wanting for the same commands; by none the same world
abbrev pub Leads : WorldState → Option Last → WorldState → Type 0
Leads w None new = new ≡ w
Leads w (Some last) new = (outcomes : Outcomes) × IsTrue (alike_in_memory outcomes last.report) × IsMerged w (merge last.admitted last.commands outcomes) new

-- whatever comes of the spare world is the world that is shown
abbrev pub Repeats : Spare → WorldState → Type 0
Repeats s now = (new : WorldState) → Leads (arc_value s.world) s.last new → new ≡ now

-- so it is of the spare world that there may be
abbrev pub KeepsUp : Option Spare → WorldState → Type 0
KeepsUp spare now = (s : Spare) → spare ≡ Some s → Repeats s now

-- from one world the same merge, with memory wanting for the same commands, has one report and leads to one world
abbrev pub MergesHaveOneEnd : Type 0
MergesHaveOneEnd =
    (w : WorldState) (n : ℕ) (cs : List Command) (rs qs : Outcomes) (new other : WorldState)
    → IsTrue (alike_in_memory rs qs) → Merges w n cs (Ok rs) new → Merges w n cs (Ok qs) other → (rs ≡ qs) × (new ≡ other)
