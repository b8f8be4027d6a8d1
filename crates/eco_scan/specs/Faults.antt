-- What a text spells, and where it stops to be the beginning of a sentence.
use Rattle.std.specs.Prelude.{◌≡◌, ◌⊎◌, ℕ, ◌≤◌, List, ◌++◌, length, take}

-- the text spells something
abbrev pub IsSpelled : {X : Type 0} → (List ℕ → X → Type 0) → List ℕ → Type 0
IsSpelled {X} Spells text = (x : X) × Spells text x

-- the text is no sentence, and its first bytes, so many, are its longest beginning of one
pub record IsFault (Is : List ℕ → Type 0) (text : List ℕ) (at : ℕ) : Type 0 where
  pub nothing : ¬ Is text
  pub within : at ≤ length text
  pub begins : (more : List ℕ) × Is (take at text ++ more)
  pub longest : (n : ℕ) → n ≤ length text → (more : List ℕ) → Is (take n text ++ more) → n ≤ at

-- a text spells one thing at most
abbrev pub SpellsOnce : {X : Type 0} → (List ℕ → X → Type 0) → Type 0
SpellsOnce {X} Spells = (text : List ℕ) (a b : X) → Spells text a → Spells text b → a ≡ b

-- each text spells something, or has a first fault
abbrev pub SpellsOrFails : {X : Type 0} → (List ℕ → X → Type 0) → Type 0
SpellsOrFails {X} Spells = (text : List ℕ) → IsSpelled Spells text ⊎ ((at : ℕ) × IsFault (IsSpelled Spells) text at)
