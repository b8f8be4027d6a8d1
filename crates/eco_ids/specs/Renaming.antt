-- How a living entity gets another name. Said once, for whatever is kept of an entity.
use Rattle.std.specs.Prelude.{ℕ, Bool, not, ◌&&◌, List, [], ◌∷◌, Option, is_some, option_and_then, Result, MatchOption}
use Rattle.eco_ids.specs.declared.entity.Entity.{Entity}
use Rattle.eco_ids.specs.declared.refusal.Refusal.{Refusal}
use Rattle.eco_ids.specs.declared.refusal.Refusal.TheVariants.{NotAlive, Reserved, BadName, NameTaken}
use Rattle.eco_ids.specs.Indices.{Indexed, record_of, is_alive, changed}
use Rattle.eco_ids.specs.Names.{is_proper, is_borne, is_same_name}
use Rattle.eco_ids.specs.Outcome.{first_refusal, Refuses, Answers}

module _ {A : Type 0} (name_of : A → Option (List ℕ)) where
  -- the name of a living entity, where it has one
  abbrev pub own_name : Indexed A → Entity → Option (List ℕ)
  own_name w e = option_and_then name_of (record_of w e)

  -- what stands against a new name, in order: nobody lives there, the entity may not be changed, it is no name, or
  -- another living entity has it
  abbrev pub unfit_rename : Indexed A → Entity → Bool → Option (List ℕ) → Option Refusal
  unfit_rename w e fixed name =
      first_refusal
      ((not (is_alive w e), NotAlive) ∷ (fixed, Reserved) ∷ (not (is_proper name), BadName)
      ∷ (not (is_same_name (own_name w e) name) && is_borne name_of w name, NameTaken) ∷ [])

  -- only another name wants memory
  abbrev pub may_rename : Indexed A → Entity → Bool → Option (List ℕ) → Bool
  may_rename w e fixed name =
      not (is_some (unfit_rename w e fixed name)) && (is_some name && not (is_same_name (own_name w e) name))

  -- the entity has this name, or none, from then on, and nothing else changes
  abbrev pub RenamesWith : (Option (List ℕ) → A → A) → Indexed A → Entity → Bool → Option (List ℕ) → Result (Unit {0}) Refusal → Indexed A → Type 0
  RenamesWith with_name w e fixed name r new =
      MatchOption (unfit_rename w e fixed name) (Answers tt (changed w e (with_name name)) r new) (λ why. Refuses why w r new)
