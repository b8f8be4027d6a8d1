-- Phases, and the order in which systems run.
use Rattle.std.specs.Prelude.{ℕ, ◌+◌, ◌==◌, Bool, List, [], ◌∷◌, filter, flat_map, if◌then◌else◌}
use Rattle.eco_systems.specs.declared.phase.Phase.{Phase}
use Rattle.eco_systems.specs.declared.phase.Phase.TheVariants.{OnLoad, PostLoad, PreUpdate, OnUpdate, OnValidate, PostUpdate, PreStore, OnStore}
use Rattle.eco_systems.specs.Systems.{SystemModel}

-- all phases, from the first to the last
abbrev pub phases : List Phase
phases = OnLoad ∷ PostLoad ∷ PreUpdate ∷ OnUpdate ∷ OnValidate ∷ PostUpdate ∷ PreStore ∷ OnStore ∷ []

-- the place of a phase among them
abbrev pub phase_rank : Phase → ℕ
phase_rank OnLoad = 0
phase_rank PostLoad = 1
phase_rank PreUpdate = 2
phase_rank OnUpdate = 3
phase_rank OnValidate = 4
phase_rank PostUpdate = 5
phase_rank PreStore = 6
phase_rank OnStore = 7

-- the system is one of the phase
abbrev pub runs_in : Phase → SystemModel → Bool
runs_in phase s = phase_rank s.phase == phase_rank phase

-- systems, in the order of declaration, run by phase, and within a phase as declared
abbrev pub in_order : List SystemModel → List SystemModel
in_order systems = flat_map (λ phase. filter (runs_in phase) systems) phases

-- the positions of the systems of a phase, the first of all counted as n
abbrev pub positions_from : Phase → ℕ → List SystemModel → List ℕ
positions_from phase n [] = []
positions_from phase n (s ∷ systems) =
    if runs_in phase s then n ∷ positions_from phase (n + 1) systems else positions_from phase (n + 1) systems

-- the positions of declaration, in the order in which the systems run
abbrev pub order_of : List SystemModel → List ℕ
order_of systems = flat_map (λ phase. positions_from phase 0 systems) phases
