-- How many outcomes there are.
use Rattle.eco_stages.proofs.Common.{◌≤◌, ℕ, ◌+◌, List, [], ◌∷◌, flat_map, length, Err, Ok, Result, ap, append_assoc, length-append}
use Rattle.eco_stages.proofs.Common.{length-replicate, arith, Refusal, all_done, outcomes_of, until_refused}
use Rattle.eco_stages.specs.declared.outcomes.Refused.{Refused}

-- those that were refused are among them, and so are the done ones behind the last
pub counts : (rs : List Refused) (n : ℕ) → length rs + n ≤ length (outcomes_of rs n)
counts [] n = omega (arith, length-replicate {A = Result (Unit {0}) Refusal} n (Ok (tt {0})))
counts (r ∷ rs) n = omega (
  arith,
  counts rs n,
  ap length (append_assoc (until_refused r) (flat_map until_refused rs) (all_done n)),
  length-append (until_refused r) (outcomes_of rs n),
  length-append (all_done r.done) (Err r.refusal ∷ []),
)
