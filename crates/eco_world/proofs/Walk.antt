-- A walk over all known indices, from the first to the last.
use Rattle.eco_world.proofs.Common.{◌≡◌, ℕ, ◌+◌, ◌<◌, cond, List, [], ◌∷◌, ◌++◌, length, drop, flat_map, get_or, Some, None}
use Rattle.eco_world.proofs.Common.{slice_get, refl, sym, ap, ◌∙◌, subst, eq-eqb, drop_more, none-some, same_Some, slice_get-get_or, Entity, IndexState}
use Rattle.eco_world.proofs.Common.{Indexed, Retired, Free, Living, record_in, living_from}
use Rattle.eco_ids.specs.Indices.{record_of}
use Rattle.eco_entities.specs.Registration.{entity_at, entity_in}

module _ {A X : Type 0} (f : Entity × A → List X) where
  -- what f makes of the living from index k on
  abbrev pub walk : ℕ → List (IndexState A) → List X
  walk k xs = flat_map f (living_from k xs)

  -- what f makes of who lives in this state
  abbrev pub here : ℕ → IndexState A → List X
  here k Retired = []
  here k (Free g) = []
  here k (Living g r) = f (record { index = k; generation = g }, r)

  walk_first : (k : ℕ) (x : IndexState A) (xs : List (IndexState A)) → walk k (x ∷ xs) ≡ here k x ++ walk (k + 1) xs
  walk_first k Retired xs = refl
  walk_first k (Free g) xs = refl
  walk_first k (Living g r) xs = refl

  module _ (w : Indexed A) (k : ℕ) (within : k < length w.indices) where
    step : (x : IndexState A) → slice_get w.indices k ≡ Some x → walk k (drop k w.indices) ≡ here k x ++ walk (k + 1) (drop (k + 1) w.indices)
    step x at =
        let is : get_or w.indices k x ≡ x = same_Some _ _ (sym (slice_get-get_or w.indices k x within) ∙ at) in
        ap (walk k) (drop_more w.indices k x within ∙ ap (λ y. y ∷ drop (k + 1) w.indices) is)
        ∙ walk_first k x (drop (k + 1) w.indices)

    -- at an index where nobody lives the walk goes on
    pub walk_none : entity_at w k ≡ None → walk k (drop k w.indices) ≡ walk (k + 1) (drop (k + 1) w.indices)
    walk_none none = go (get_or w.indices k Retired) (slice_get-get_or w.indices k Retired within)
      where
        go : (x : IndexState A) → slice_get w.indices k ≡ Some x → walk k (drop k w.indices) ≡ walk (k + 1) (drop (k + 1) w.indices)
        go Retired at = step Retired at
        go (Free g) at = step (Free g) at
        go (Living g r) at = absurd (none-some (record { index = k; generation = g }) (sym none ∙ ap (entity_in k) at))

    -- at an index where someone lives
    pub walk_some : (e : Entity) → entity_at w k ≡ Some e → (r : A) × (record_of w e ≡ Some r)
        × (walk k (drop k w.indices) ≡ f (e, r) ++ walk (k + 1) (drop (k + 1) w.indices))
    walk_some e some = go (get_or w.indices k Retired) (slice_get-get_or w.indices k Retired within)
      where
        go : (x : IndexState A) → slice_get w.indices k ≡ Some x → (r : A) × (record_of w e ≡ Some r)
            × (walk k (drop k w.indices) ≡ f (e, r) ++ walk (k + 1) (drop (k + 1) w.indices))
        go Retired at = absurd (none-some e (sym (ap (entity_in k) at) ∙ some))
        go (Free g) at = absurd (none-some e (sym (ap (entity_in k) at) ∙ some))
        go (Living g r) at =
            let is : record { index = k; generation = g } ≡ e = same_Some _ _ (sym (ap (entity_in k) at) ∙ some) in
            subst (λ x. (d : A) × (record_of w x ≡ Some d) × (walk k (drop k w.indices) ≡ f (x, d) ++ walk (k + 1) (drop (k + 1) w.indices))) is
            (r, ap (λ o. record_in o g) at ∙ ap (λ b. cond b (Some r) None) (eq-eqb g g refl), step (Living g r) at)
