-- Systems added to a list.
use Rattle.std.specs.Prelude.{◌≡◌, ℕ, Bool, not, List, [], ◌∷◌, ◌++◌, Option, string_bytes}
use Rattle.std.specs.List.{list_any}
use Rattle.eco_ids.specs.declared.refusal.Refusal.{Refusal}
use Rattle.eco_ids.specs.declared.refusal.Refusal.TheVariants.{BadName, SystemNameTaken}
use Rattle.eco_ids.specs.Names.{is_name, is_text}
use Rattle.eco_ids.specs.Outcome.{first_refusal}
use Rattle.eco_query.specs.Queries.{QuerySlot}
use Rattle.eco_systems.specs.declared.phase.Phase.{Phase}
use Rattle.eco_bodies.specs.declared.systems.System.{System}

module _ {B : Type 0} where
  -- one of the systems has the name
  abbrev pub has_system_named : List (System B) → List ℕ → Bool
  has_system_named systems name = list_any (λ s. is_text (string_bytes s.name) name) systems

  -- why a system of the name can't be added
  abbrev pub add_refusal : List (System B) → List ℕ → Option Refusal
  add_refusal systems name = first_refusal ((not (is_name name), BadName) ∷ (has_system_named systems name, SystemNameTaken) ∷ [])

  -- a system of this name, phase, query and body stands behind the others
  abbrev pub IsAdded : List (System B) → List ℕ → Phase → List QuerySlot → B → List (System B) → Type 0
  IsAdded old name phase query body new =
      (s : System B) × (new ≡ old ++ s ∷ []) × (string_bytes s.name ≡ name) × (s.phase ≡ phase) × (s.query ≡ query) × (s.body ≡ body)
