-- In a world of the first edition each step is that of the first edition: no id has a mirror, nothing clashes, and all that the
-- second edition adds to the definitions is gone by computation.
use Rattle.eco_ids.proofs.Common.{◌≡◌, ℕ, Bool, false, List, refl, Some, None, Option, option_map, Entity, First, Id, Cycle, TraitClash, option_or, cond}
use Rattle.eco_ids.proofs.Common.{IndexState, nobody, without, changed, with_closure, grown, is_builtin, is_reserved, IsLawful, IsOrderly}
use Rattle.eco_ids.proofs.Common.{late_traits, builtin_count, mirror_of, goes_too, has_clash, WorldState, Record, EXCLUSIVE, ACYCLIC, ◌∷◌, []}
use Rattle.eco_ids.specs.Terms.{QueryTerm}
use Rattle.eco_ids.specs.World.{is_symmetric, is_widened, is_exclusive}

module _ (limit : ℕ) (states : List (IndexState Record)) (queries : List (List QueryTerm)) where
  abbrev first : WorldState
  first = record { edition = First; limit = limit; indices = states; queries = queries }

  none_symmetric : (r : Entity) → is_symmetric first r ≡ false
  none_symmetric r = refl

  no_mirror : (e : Entity) (i : Id) → mirror_of first e i ≡ None
  no_mirror e i = refl

  grown_first : (e : Entity) (i : Id) (s : List Id) → grown first e i s ≡ changed first e (with_closure first s)
  grown_first e i s = refl

  lost_first : (goes : Entity → Id → Bool) → without first nobody (goes_too first goes) ≡ without first nobody goes
  lost_first goes = refl

  reserved_first : (e : Entity) (i : Id) → is_reserved first e i ≡ is_builtin first e
  reserved_first e i = refl

  calm_first : has_clash first ≡ false
  calm_first = refl

  -- a verdict where the world would grow to one of the first edition
  verdict_first : (cycle : Option Entity) → cond (has_clash first) (option_or (option_map Cycle cycle) (Some TraitClash))
      (option_map Cycle cycle) ≡ option_map Cycle cycle
  verdict_first cycle = refl

  late_first : late_traits first.edition ≡ EXCLUSIVE ∷ ACYCLIC ∷ []
  late_first = refl

  count_first : builtin_count first.edition ≡ 9
  count_first = refl

  widened_first : (r : Entity) → is_widened first r ≡ is_exclusive first r
  widened_first r = refl

  -- and no more is asked of the world
  lawful_first : IsOrderly first → IsLawful first
  lawful_first l = record { orderly = l; edition = tt }
