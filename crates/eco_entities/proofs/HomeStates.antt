-- What a slot shows of where its entity is kept.
use Rattle.eco_entities.proofs.Common.{◌≡◌, ℕ, ◌<◌, true, false, cond, List, length, get_or, slice_get, refl, sym, ap, ◌∙◌, Option, Some}
use Rattle.eco_entities.proofs.Common.{None, option_map, option_and_then, slice_get-get_or, Entity, Indexed, Living, record_in, Place, Slot, Registration}
use Rattle.eco_entities.proofs.Common.{subst, IsSome, entity_at, entity_in, own_place, is_living, place_in, registration_of, state_of}
use Rattle.std.specs.Option.{IfSome}
use Rattle.std.proofs.lemmas.Bool.Decides.{Decides-eqb}
use Rattle.eco_entities.proofs.Shown.{Names, Shows, length-states, living_shows, nobody_shows, slice_get-states}

-- who lives at an index, with its place
abbrev pub home_at : Indexed Registration → ℕ → Option (Entity × Place)
home_at w i = option_and_then (λ e. option_map (λ p. (e, p)) (own_place w e)) (entity_at w i)

-- the entity of a generation at an index, with its place
abbrev pub home_of : ℕ → ℕ → Option Place → Option (Entity × Place)
home_of i g place = option_map (λ p. (record { index = i; generation = g }, p)) place

-- the place of who lives at an index
own_living : (w : Indexed Registration) (i g : ℕ) (r : Registration) → slice_get w.indices i ≡ Some (Living g r)
    → own_place w (record { index = i; generation = g }) ≡ r.place
own_living w i g r at =
    ap (λ o. option_and_then (λ x. x.place) (record_in o g)) at
    ∙ ap (λ b. option_and_then (λ x. x.place) (cond b (Some r) None)) ((Decides-eqb g g).1 refl)

home_living : (w : Indexed Registration) (i g : ℕ) (r : Registration) → slice_get w.indices i ≡ Some (Living g r) → home_at w i ≡ home_of i g r.place
home_living w i g r at =
    ap (λ o. option_and_then (λ e. option_map (λ p. (e, p)) (own_place w e)) (entity_in i o)) at
    ∙ ap (home_of i g) (own_living w i g r at)

module _ (limit : ℕ) (label : Names) (slots : List Slot) (w : Indexed Registration) (view : Shows limit label slots w) (i : ℕ)
    (within : i < length w.indices)
  where
    pub slot_within : i < length slots
    slot_within = rw (← length-states label slots) (rw (← view) at within)

    module _ (d : Slot) where
      abbrev slot : Slot
      slot = get_or slots i d

      abbrev kept : Registration
      kept = registration_of (label i) slot

      shown : slice_get w.indices i ≡ Some (state_of (label i) slot)
      shown =
          ap (λ (v : Indexed Registration). slice_get v.indices i) (sym view) ∙ slice_get-states label slots i
          ∙ ap (option_map (state_of (label i))) (slice_get-get_or slots i d slot_within)

      pub nobody_home : is_living slot.state ≡ false → None ≡ home_at w i
      nobody_home dead =
          sym (ap (option_and_then (λ e. option_map (λ p. (e, p)) (own_place w e)))
          (ap (entity_in i) shown ∙ nobody_shows i slot.state slot.generation kept dead))

      -- where each who lives has a place, so has who lives here
      pub place_there : is_living slot.state ≡ true → IfSome (entity_at w i) (λ e. IsSome (own_place w e)) → IsSome (place_in slot)
      place_there lives placed =
          let at = shown ∙ ap Some (living_shows slot.state slot.generation kept lives) in
          subst IsSome (own_living w i slot.generation kept at)
          (subst (λ o. IfSome o (λ e. IsSome (own_place w e))) (ap (entity_in i) at) placed)

      pub home_shown : is_living slot.state ≡ true → home_of i slot.generation (place_in slot) ≡ home_at w i
      home_shown lives = sym (home_living w i slot.generation kept (shown ∙ ap Some (living_shows slot.state slot.generation kept lives)))
