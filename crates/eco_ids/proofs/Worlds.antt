-- Worlds for rows: what lives in them, written short.
use Rattle.eco_ids.proofs.Common.{ℕ, List, ◌++◌, map, None, Entity, Id, Living, IndexState, WorldState, Record, zeros, first_world}

-- the first handle of an index
abbrev pub e : ℕ → Entity
e n = record { index = n; generation = 0 }

-- an entity without a name that has these ids
abbrev pub having : List Id → IndexState Record
having ids = Living 0 (record { name = None; arity = None; held = map (λ i. (i, zeros)) ids })

-- these live after the built-ins
abbrev pub world : List (IndexState Record) → WorldState
world made = record (first_world 64) { indices = (first_world 64).indices ++ made }
