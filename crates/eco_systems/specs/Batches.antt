-- Which systems run on one world: the batches between sync points.
use Rattle.std.specs.Prelude.{◌≡◌, IsTrue, List, [], ◌∷◌, ◌++◌, ◌⊎◌}
use Rattle.std.specs.List.{list_any}
use Rattle.eco_ids.specs.declared.pattern.Pattern.{Pattern}
use Rattle.eco_ids.specs.Least.{SomeOf}
use Rattle.eco_ids.specs.Matching.{pattern_overlaps}
use Rattle.eco_ids.specs.World.{WorldState}
use Rattle.eco_systems.specs.Systems.{SystemModel, system_reads}
use Rattle.eco_systems.specs.Writes.{IsClosedWrite, IsTraitWriter}

-- a closed write of s overlaps a read of t
abbrev pub Disturbs : WorldState → SystemModel → SystemModel → Type 0
Disturbs w s t = (p : Pattern) × IsClosedWrite w s.writes p × IsTrue (list_any (pattern_overlaps p) (system_reads t))

-- s and t, which comes later, can't run on one world: one of them kills, t or a system before it writes traits, or s disturbs t.
-- `until` are all systems up to t and with it
abbrev pub Conflict : WorldState → List SystemModel → SystemModel → SystemModel → Type 0
Conflict w until s t = IsTrue s.kills ⊎ (IsTrue t.kills ⊎ (SomeOf (IsTraitWriter w) until ⊎ Disturbs w s t))

-- no system of the batch conflicts with one before it; `before` are all systems before the batch, `inside` those of the batch
-- that were looked at
abbrev pub AreTogether : WorldState → List SystemModel → List SystemModel → List SystemModel → Type 0
AreTogether w before inside [] = Unit {0}
AreTogether w before inside (t ∷ batch) =
    (SomeOf (λ s. Conflict w (before ++ inside ++ t ∷ []) s t) inside → ⊥) × AreTogether w before (inside ++ t ∷ []) batch

-- the first of the batch conflicts with one of the batch before it
abbrev pub IsParted : WorldState → List SystemModel → List SystemModel → List SystemModel → Type 0
IsParted w before last [] = ⊥
IsParted w before last (t ∷ batch) = SomeOf (λ s. Conflict w (before ++ t ∷ []) s t) last

-- so it is with each batch after `last`
abbrev pub AreCut : WorldState → List SystemModel → List SystemModel → List (List SystemModel) → Type 0
AreCut w before last [] = Unit {0}
AreCut w before last (batch ∷ batches) = IsParted w before last batch × AreTogether w before [] batch × AreCut w (before ++ batch) batch batches

-- some lists, one behind another
abbrev pub joined : {A : Type 0} → List (List A) → List A
joined [] = []
joined (xs ∷ xss) = xs ++ joined xss

-- the batches cut the systems, as they run, into non-empty runs, so that no two systems of a batch conflict and the first of each
-- later batch conflicts with one of the batch before
abbrev pub AreBatches : WorldState → List SystemModel → List (List SystemModel) → Type 0
AreBatches w systems [] = systems ≡ []
AreBatches w systems ([] ∷ batches) = ⊥
AreBatches w systems ((s ∷ batch) ∷ batches) =
    (systems ≡ joined ((s ∷ batch) ∷ batches)) × AreTogether w [] [] (s ∷ batch) × AreCut w (s ∷ batch) (s ∷ batch) batches
