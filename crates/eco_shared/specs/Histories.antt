-- Histories of merges.
use Rattle.std.specs.Prelude.{◌≡◌, ℕ, List, [], ◌∷◌, Ok}
use Rattle.eco_ids.specs.Run.{Command}
use Rattle.eco_ids.specs.World.{WorldState}
use Rattle.eco_stages.specs.Outcomes.{Outcomes}
use Rattle.eco_world.specs.Merging.{Merges}
use Rattle.eco_shared.specs.declared.merge.Merge.{Merge}

-- the merge makes the new world of the world: its indices are admitted, and its commands run with its outcomes
abbrev pub IsMerged : WorldState → Merge → WorldState → Type 0
IsMerged w m new = Merges w m.admitted m.commands (Ok m.outcomes) new

-- the world comes after each merge of the history
abbrev pub IsAfter : WorldState → List Merge → WorldState → Type 0
IsAfter w [] new = new ≡ w
IsAfter w (m ∷ ms) new = (mid : WorldState) × IsMerged w m mid × IsAfter mid ms new

abbrev pub merge : ℕ → List Command → Outcomes → Merge
merge admitted commands outcomes = record { admitted = admitted; commands = commands; outcomes = outcomes }
