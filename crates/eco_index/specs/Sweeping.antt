-- What is left of what leads to slots where many of these lost their tables.
use Rattle.std.specs.Prelude.{◌≡◌, ℕ, Bool, cond, ◌&&◌, List, Option, None, Some}
use Rattle.eco_ids.specs.declared.id.Id.{Id}
use Rattle.eco_index.specs.Edges.{edge}

-- the slot, if there is one and it passes the test
abbrev pub kept_if : (ℕ → Bool) → Option ℕ → Option ℕ
kept_if stays None = None
kept_if stays (Some n) = cond (stays n) (Some n) None

-- under each key those of the slots stay that pass the test
abbrev pub KeepsListed : {P : Type 0} → (ℕ → Bool) → (P → ℕ → Bool) → (P → ℕ → Bool) → Type 0
KeepsListed {P} stays old new = (p : P) (n : ℕ) → new p n ≡ (old p n && stays n)

-- the edges between slots that pass the test stay, and no other
abbrev pub KeepsEdges : (ℕ → Bool) → List (List (Id × ℕ)) → List (List (Id × ℕ)) → Type 0
KeepsEdges stays old new = (n : ℕ) (i : Id) → edge new n i ≡ cond (stays n) (kept_if stays (edge old n i)) None
