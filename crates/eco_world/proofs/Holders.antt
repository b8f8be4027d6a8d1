-- Who has an id, as a store finds them by the pattern of that id.
use Rattle.eco_world.proofs.Common.{◌≡◌, Bool, true, false, cond, ◌||◌, List, [], ◌∷◌, map, filter, Some, refl, ap, ◌∙◌, is_some, list_any, find}
use Rattle.eco_world.proofs.Common.{Entity, Id, Value, pattern_matches, has_item, id_cmp, id_eq, id_eq_sym, WorldState, Record, entities, exactly}
use Rattle.eco_world.proofs.Common.{has_match, holders}
use Rattle.eco_ids.specs.Indices.{living}
use Rattle.eco_ids.proofs.Pairs.{parts_are_same}
use Rattle.eco_world.proofs.Held.{keys}
use Rattle.eco_ids.specs.declared.id.Id.TheVariants as id
use Rattle.eco_archetypes.specs.Holders as store

-- the pattern matches the id alone
pub matches_exactly : (i j : Id) → pattern_matches (exactly i) j ≡ id_eq i j
matches_exactly (id.One e) (id.One x) = refl
matches_exactly (id.One e) (id.Two s u) = refl
matches_exactly (id.Two r t) (id.One x) = refl
matches_exactly (id.Two r t) (id.Two s u) = parts_are_same r t s u

-- a type has the id where the pattern matches one of its ids
pub has_exactly : (ids : List Id) (i : Id) → list_any (pattern_matches (exactly i)) ids ≡ has_item id_cmp ids i
has_exactly ids i = ap (λ (t : Id → Bool). list_any t ids) (λ t j. (matches_exactly i j ∙ id_eq_sym i j) t)

-- the pattern of the id matches where the id is held
pub exactly_held : (i : Id) (held : List (Id × Value)) → list_any (pattern_matches (exactly i)) (keys held) ≡ is_some (find id_cmp i held)
exactly_held i [] = refl
exactly_held i (h ∷ held) =
    ap (λ b. b || list_any (pattern_matches (exactly i)) (keys held)) (matches_exactly i h.0)
    ∙ elim (id_eq i h.0) as (λ b. (b || list_any (pattern_matches (exactly i)) (keys held)) ≡ is_some (cond b (Some h.1) (find id_cmp i held))) [
      | true ↦
          refl
      | false ↦ exactly_held i held
    ]

found : (i : Id) (ps : List (Entity × Record)) → filter (λ (p : Entity × Record). has_match (exactly i) p.1) ps
    ≡ filter (λ (p : Entity × Record). is_some (find id_cmp i p.1.held)) ps
found i ps = λ t. filter (λ (p : Entity × Record). exactly_held i p.1.held t) ps

-- whom the store finds by the id's pattern has the id in the world
pub found_holders : (w : WorldState) (i : Id) → store.entities_with (entities w) (exactly i) ≡ holders w i
found_holders w i = ap (map (λ (p : Entity × Record). p.0)) (found i (living (entities w)))
