-- What commands answered.
use Rattle.std.specs.Prelude.{ℕ, Bool, true, false, ◌&&◌, List, [], ◌∷◌, ◌++◌, flat_map, replicate, Option, Some, None, Result, Ok, Err}
use Rattle.std.specs.Bool.{beq}
use Rattle.eco_ids.specs.Outcome.{is_out_of_memory}
use Rattle.eco_ids.specs.declared.refusal.Refusal.{Refusal}
use Rattle.eco_stages.specs.declared.outcomes.Refused.{Refused}

-- one for each command that ran: done, or why not
abbrev pub Outcomes : Type 0
Outcomes = List (Result (Unit {0}) Refusal)

-- so many commands were done
abbrev pub all_done : ℕ → Outcomes
all_done n = replicate n (Ok (tt {0}))

-- so many commands were done, and the next was refused
abbrev pub until_refused : Refused → Outcomes
until_refused r = all_done r.done ++ Err r.refusal ∷ []

-- behind those that were refused, each with the done ones before it, so many were done
abbrev pub outcomes_of : List Refused → ℕ → Outcomes
outcomes_of refused done = flat_map until_refused refused ++ all_done done

-- so many done ones, then what a refusal begins, if there is one
abbrev pub left : ℕ → Option Refusal → List Refused → ℕ → Outcomes
left done None rest last = all_done done
left done (Some refusal) rest last = all_done done ++ Err refusal ∷ outcomes_of rest last

-- both are of the same number of commands, and memory was wanting for the same of them
abbrev pub alike_in_memory : Outcomes → Outcomes → Bool
alike_in_memory [] [] = true
alike_in_memory [] (q ∷ qs) = false
alike_in_memory (r ∷ rs) [] = false
alike_in_memory (r ∷ rs) (q ∷ qs) = beq (is_out_of_memory q) (is_out_of_memory r) && alike_in_memory rs qs

-- what is written, in order, and for how many outcomes there is room in all
pub record Written : Type 0 where
  pub outcomes : Outcomes
  pub room : ℕ
