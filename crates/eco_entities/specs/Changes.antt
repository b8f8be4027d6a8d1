-- How one function of handles or names differs from another.
use Rattle.std.specs.Prelude.{◌≡◌, ◌≢◌}

-- another answer at one place, the old ones at the others
pub record ChangesAt {K V : Type 0} (old new : K → V) (k : K) (v : V) : Type 0 where
  pub here : new k ≡ v
  pub others : (j : K) → j ≢ k → new j ≡ old j

-- the same answers
pub record KeepsAnswers {K V : Type 0} (old new : K → V) : Type 0 where
  pub all : (k : K) → new k ≡ old k
