-- Frames, pieces and orders that compute: a world in which T and e live, e has T, and a system makes an entity for each row of T.
use Rattle.eco_systems.proofs.Common.{◌≡◌, Bool, true, false, List, [], ◌∷◌, ◌++◌, map, replicate, length, refl, None, Ok, Entity, First}
use Rattle.eco_systems.proofs.Common.{Living, Create, WorldState, Record, builtin_states, entities, zeros, order_of, BatchDraws, IsFrame, fresh_entity}
use Rattle.eco_systems.proofs.Common.{pieces_of, ValuedRow, SystemModel}
use Rattle.eco_query.specs.declared.access.Access.TheVariants.{InOut}
use Rattle.eco_systems.specs.declared.phase.Phase.TheVariants.{OnLoad, OnUpdate, OnStore}
use Rattle.eco_systems.proofs.FreshDraws.{ascending_are_fresh}
use Rattle.eco_ids.specs.declared.id.Id.TheVariants as id
use Rattle.eco_ids.specs.declared.pattern.Pattern.TheVariants as pattern
use Rattle.eco_ids.specs.Terms as ask

abbrev with_ids : List id.the_data → Record
with_ids is = record { name = None; arity = None; held = map (λ i. (i, zeros)) is }

abbrev start : WorldState
start = record {
  edition = First;
  limit = 12;
  queries = [];
  indices = builtin_states First ++ Living 0 (with_ids []) ∷ Living 0
      (with_ids (id.One (fresh_entity 9) ∷ [])) ∷ [];
}

abbrev last : WorldState
last = record start { indices = start.indices ++ Living 0 (with_ids []) ∷ [] }

abbrev takes_one : List Entity → Bool
takes_one [] = false
takes_one (e ∷ []) = true
takes_one (e ∷ f ∷ es) = false

abbrev spawner : SystemModel
spawner = record {
  phase = OnUpdate;
  slots = (record { access = InOut; term = ask.And (pattern.One (fresh_entity 9)) }) ∷ [];
  body_reads = [];
  writes = [];
  kills = false;
  takes = λ row draws. takes_one draws;
  records = λ row draws. map Create draws;
}

abbrev one_draw : BatchDraws
one_draw = ((fresh_entity 11 ∷ []) ∷ []) ∷ []

row_frame : IsFrame start (spawner ∷ []) (one_draw ∷ []) (Ok tt ∷ []) last
row_frame = (
  (spawner ∷ []) ∷ [],
  (refl, (λ h. h, tt), tt),
  (
    Ok tt ∷ [],
    [],
    last,
    (
      (ascending_are_fresh 11 one_draw refl, refl),
      Create (fresh_entity 11) ∷ [],
      (
        Create (fresh_entity 11) ∷ [],
        [],
        (Create (fresh_entity 11) ∷ [], [], (fresh_entity 11 ∷ [], [], [], refl, (refl, refl), refl, refl), refl, refl),
        refl,
        refl,
      ),
      (last, (entities last, (refl, refl), refl), refl),
    ),
    (refl, refl),
    refl,
  ),
)

-- 65 rows are a piece of 64 and one of 1
abbrev some_row : ValuedRow
some_row = record { entity = fresh_entity 9; entries = []; values = [] }

row_pieces : map length (pieces_of (replicate 65 some_row)) ≡ 64 ∷ 1 ∷ []
row_pieces = refl

-- systems of the last, the first and the middle phase, and one of the first more
row_order : order_of (record spawner { phase = OnStore } ∷ record spawner { phase = OnLoad } ∷ spawner ∷ record spawner { phase = OnLoad } ∷ [])
    ≡ 1 ∷ 3 ∷ 2 ∷ 0 ∷ []
row_order = refl
