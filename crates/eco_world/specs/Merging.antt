-- What a merge answers, and the world that it leaves.
use Rattle.std.specs.Prelude.{◌≡◌, ℕ, Bool, ◌||◌, ◌&&◌, nat_lt, List, Result, Ok, MatchBool}
use Rattle.eco_ids.specs.Births.{may_admit}
use Rattle.eco_ids.specs.Indices.{admitted}
use Rattle.eco_ids.specs.Outcome.{Refuses}
use Rattle.eco_ids.specs.Run.{Command, Runs}
use Rattle.eco_ids.specs.World.{WorldState, entities, with_entities}
use Rattle.eco_ids.specs.declared.refusal.Refusal.{Refusal}
use Rattle.eco_ids.specs.declared.refusal.Refusal.TheVariants.{NoMoreIds}
use Rattle.eco_stages.specs.Merging.{has_commands}
use Rattle.eco_stages.specs.Outcomes.{Outcomes}

-- n more indices are known, and then the commands run on that world, one after another; the answer is their outcomes
abbrev pub RunsAdmitted : WorldState → ℕ → List Command → Result Outcomes Refusal → WorldState → Type 0
RunsAdmitted w n commands r new = (outcomes : Outcomes) × (r ≡ Ok outcomes) × Runs (with_entities w (admitted n (entities w))) commands outcomes new

-- refused where the indices would pass the limit, and nothing is admitted then
abbrev pub Merges : WorldState → ℕ → List Command → Result Outcomes Refusal → WorldState → Type 0
Merges w n commands r new = MatchBool (may_admit (entities w) n) (RunsAdmitted w n commands r new) (Refuses NoMoreIds w r new)

-- it may want memory where it isn't refused: for its indices, or for the report
abbrev pub may_merge : WorldState → ℕ → List Command → Bool
may_merge w n commands = may_admit (entities w) n && (nat_lt 0 n || has_commands commands)
