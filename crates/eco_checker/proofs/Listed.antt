-- Which numbers are listed, and that these are those of the values that are no step.
use Rattle.eco_checker.proofs.Common.{◌≡◌, ℕ, ◌+◌, zero, suc, List, [], ◌∷◌, ◌<◌, length, map, get_or, Option, Some, None, refl, ap, sym}
use Rattle.eco_checker.proofs.Common.{◌∙◌, arith, length-map, Data, step_in, WrittenStep, IsStepData, numbers_without, unless_found}
use Rattle.std.specs.List.{All, Contains, slice_get}
use Rattle.eco_ids.specs.declared.edition.Edition.{Edition}
use Rattle.eco_steps.specs.Laws.{StepsAreFound}
use Rattle.eco_checker.specs.Laws.{AreThoseOfNoStep}

module _ {A : Type 0} (find : Data → Option A) where
  -- in the value with this number nothing is found
  abbrev Lacks : List Data → ℕ → Type 0
  Lacks ds n = (d : Data) × (slice_get ds n ≡ Some d) × (find d ≡ None)

  lacks : (m : ℕ) (ds : List Data) (q : ℕ) → Contains (numbers_without find m ds) q → (n : ℕ) × (q ≡ m + n) × Lacks ds n
  lacks m [] q (k, lt, e) = absurd (omega arith)
  lacks m (d ∷ ds) q h = which (find d) (λ c. lacks (m + 1) ds q c) refl h where
    which : (o : Option A) → (Contains (numbers_without find (m + 1) ds) q → (n : ℕ) × (q ≡ (m + 1) + n) × Lacks ds n) → find d ≡ o
        → Contains (unless_found m o (numbers_without find (m + 1) ds)) q → (n : ℕ) × (q ≡ m + n) × Lacks (d ∷ ds) n
    which None rest none (zero, lt, e) = (zero, omega arith, (d, refl, none))
    which None rest none (suc k, lt, e) = let (n, is, there) = rest (k, omega arith, e) in (suc n, omega arith, there)
    which (Some x) rest is c = let (n, is, there) = rest c in (suc n, omega arith, there)

  listed : (m : ℕ) (ds : List Data) (n q : ℕ) → q ≡ m + n → Lacks ds n → Contains (numbers_without find m ds) q
  listed m [] n q is (e, at, none) = cc
  listed m (d ∷ ds) zero q is (e, at, none) = let same : d ≡ e = cc in rw (same, none) (zero, omega arith, omega arith)
  listed m (d ∷ ds) (suc n) q is there = behind (find d) (listed (m + 1) ds n q (omega arith) there) where
    behind : (o : Option A) → Contains (numbers_without find (m + 1) ds) q → Contains (unless_found m o (numbers_without find (m + 1) ds)) q
    behind None (k, lt, e) = (suc k, omega arith, e)
    behind (Some x) c = c

  -- each number that is listed is that of a value
  listed_below : (m : ℕ) (ds : List Data) (k q : ℕ) → k < length (numbers_without find m ds) → get_or (numbers_without find m ds) k q < m + length ds
  listed_below m [] k q lt = absurd (omega arith)
  listed_below m (d ∷ ds) k q lt = which (find d) (listed_below (m + 1) ds) k q lt where
    rest : List ℕ
    rest = numbers_without find (m + 1) ds

    which : (o : Option A) → ((k q : ℕ) → k < length rest → get_or rest k q < (m + 1) + length ds) → (k q : ℕ) → k < length (unless_found m o rest)
        → get_or (unless_found m o rest) k q < m + length (d ∷ ds)
    which None ih zero q lt = omega arith
    which None ih (suc k) q lt = let h = ih k q (omega arith) in omega arith
    which (Some x) ih k q lt = let h = ih k q lt in omega arith

  pub are_below : {V : Type 0} (view : V → Data) (vs : List V) (ds : List Data) (ns : List ℕ) → map view vs ≡ ds → ns ≡ numbers_without find 0 ds
      → All (λ n. n < length vs) ns
  are_below view vs ds ns same is k q lt =
      let few : k < length (numbers_without find 0 ds) = rw (← is) lt in
      let low : get_or (numbers_without find 0 ds) k q < length ds = let h = listed_below 0 ds k q few in omega arith in
      let at : get_or ns k q < length ds = rw is low in
      let long : length ds ≡ length vs = ap length (sym same) ∙ length-map vs view in omega arith

module _ (found : StepsAreFound) (edition : Edition) (d : Data) where
  none_means : step_in edition d ≡ None → (s : WrittenStep) → ¬ IsStepData edition d s
  none_means none s is = let some = (found edition d s).0 is in cc

  means_none : ((s : WrittenStep) → ¬ IsStepData edition d s) → step_in edition d ≡ None
  means_none never = cases (step_in edition d) refl where
    cases : (o : Option WrittenStep) → step_in edition d ≡ o → o ≡ None
    cases None at = refl
    cases (Some s) at = absurd (never s ((found edition d s).1 at))

pub are_those_of_no_step : StepsAreFound → AreThoseOfNoStep
are_those_of_no_step found edition ds n = (
  λ c.
      let (k, is, (d, at, none)) = lacks (step_in edition) 0 ds n c in
      let same : n ≡ k = omega arith in
      (d, ap (slice_get ds) same ∙ at, none_means found edition d none),
  λ (d, at, never). listed (step_in edition) 0 ds n n (omega arith) (d, at, means_none found edition d never),
)
