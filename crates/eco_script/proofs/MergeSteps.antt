-- The step of a merge, of what was read of its texts.
use Rattle.eco_script.proofs.Common.{◌≡◌, ℕ, ◌||◌, List, [], ◌∷◌, flat_map, Result, Ok, Err, IsTrue, IsFalse, refl, Refusal, OutOfMemory}
use Rattle.eco_script.proofs.Common.{is_out_of_memory, Meets, WorldState, ok_map, WrittenCommand, Outcomes, Merges, may_merge, Replies, merged}
use Rattle.eco_script.specs.Recording.{ReadsCommands, has_stages}
use Rattle.eco_ids.specs.Run as run
use Rattle.eco_steps.specs.Steps as step

module _ (w : WorldState) where
  -- a text was refused, or memory was wanting for what is recorded
  pub refused_merge : (n : ℕ) (ss : List (List WrittenCommand)) (why : Refusal)
      → (IsFalse (is_out_of_memory {A = List run.Command} (Err why)) → ReadsCommands w (flat_map (λ s. s) ss) (Err why))
      → (IsTrue (is_out_of_memory {A = List run.Command} (Err why)) → IsTrue (has_stages ss)) → Replies w (step.merge n ss) (Err why) w
  refused_merge n ss OutOfMemory read wanting = let there = wanting refl in (rw there refl, refl)
  refused_merge n ss why read wanting = (Err why, read refl, (refl, refl))

  -- where there is no stage there is no command
  wants_no_more : (n : ℕ) (ss : List (List WrittenCommand)) (cs : List run.Command) → ReadsCommands w (flat_map (λ s. s) ss) (Ok cs)
      → IsTrue (may_merge w n cs) → IsTrue (has_stages ss || may_merge w n [])
  wants_no_more n (s ∷ ss) cs read may = refl
  wants_no_more n [] cs read may = let q : cs ≡ [] = cc in rw q at may

  -- all texts were read, and the merge was made
  pub made_merge : (n : ℕ) (ss : List (List WrittenCommand)) (cs : List run.Command) (r : Result Outcomes Refusal) (new : WorldState)
      → ReadsCommands w (flat_map (λ s. s) ss) (Ok cs) → Meets (Merges w n cs) (may_merge w n cs) w r new → Replies w (step.merge n ss) (ok_map merged r) new
  made_merge n ss cs (Ok outcomes) new read met = (Ok cs, read, (Ok outcomes, met, refl))
  made_merge n ss cs (Err OutOfMemory) new read (may, same) = (wants_no_more n ss cs read may, same)
  made_merge n ss cs (Err why) new read met = (Ok cs, read, (Err why, met, refl))
