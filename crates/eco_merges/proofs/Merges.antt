-- Commands that are done one after another, and their outcomes.
use Rattle.eco_merges.proofs.Common.{◌≡◌, ◌≤◌, ◌<◌, ℕ, ◌+◌, ◌-◌, ◌^◌, List, [], ◌∷◌, ◌++◌, length, take, get_or, IsTrue}
use Rattle.eco_merges.proofs.Common.{Result, Ok, Err, IfOk, OnErr, OnOk, refl, sym, ap, ◌∙◌, append-nil, append_assoc, flat_map_more, take_more}
use Rattle.eco_merges.proofs.Common.{length-append, arith, Refusal, AreDone, all_commands, has_commands, Outcomes, Written}
use Rattle.eco_ids.specs.Laws.{RunsCompose}
use Rattle.eco_ids.specs.Outcome.{Meets}
use Rattle.eco_ids.specs.Run.{Command, Runs, Applies, may_want}
use Rattle.eco_ids.specs.World.{WorldState}

-- each command that ran has an outcome
pub runs_length : (cs : List Command) (rs : Outcomes) (w new : WorldState) → Runs w cs rs new → length rs ≡ length cs
runs_length [] [] w new ran = refl
runs_length [] (r ∷ rs) w new ran = absurd ran
runs_length (c ∷ cs) [] w new ran = absurd ran
runs_length (c ∷ cs) (r ∷ rs) w new ran = omega (arith, runs_length cs rs ran.0 new ran.2)

-- so there are as many outcomes more
pub grown : (w new : WorldState) (cs : List Command) (before after : Written) → AreDone w cs before after new
    → length after.outcomes ≡ length before.outcomes + length cs
grown w new cs before after done =
    omega (arith, ap length done.appended, length-append before.outcomes done.outcomes, runs_length cs done.outcomes w new done.ran)

-- before the first command
pub none_done : (w : WorldState) (before : Written) → AreDone w [] before before w
none_done w before = record { outcomes = []; appended = sym (append-nil before.outcomes); room = refl; ran = refl }

-- one command, whose outcome is written
pub one_done : (w new : WorldState) (c : Command) (r : Result (Unit {0}) Refusal) (before after : Written)
    → after.outcomes ≡ before.outcomes ++ r ∷ [] → after.room ≡ before.room → Meets (Applies c w) (may_want c w) w r new
    → AreDone w (c ∷ []) before after new
one_done w new c r before after written room met = record { outcomes = r ∷ []; appended = written; room = room; ran = (new, met, refl) }

-- commands, and others after them
pub both_done : RunsCompose → (w mid new : WorldState) (cs ds : List Command) (before between after : Written)
    → AreDone w cs before between mid → AreDone mid ds between after new → AreDone w (cs ++ ds) before after new
both_done compose w mid new cs ds before between after first then = record {
  outcomes = first.outcomes ++ then.outcomes;
  appended = then.appended ∙ ap (λ os. os ++ then.outcomes) first.appended ∙ append_assoc before.outcomes first.outcomes then.outcomes;
  room = then.room ∙ first.room;
  ran = compose cs ds w mid new first.outcomes then.outcomes first.ran then.ran;
}

module _ (stages : List (List Command)) (i : ℕ) (d : List Command) (less : i < length stages) where
  -- the commands of so many stages, and of one more
  pub stage_more : all_commands (take (i + 1) stages) ≡ all_commands (take i stages) ++ get_or stages i d
  stage_more = ap all_commands (take_more stages i d less) ∙ sym (flat_map_more (λ s. s) [] (take i stages) (get_or stages i d))

  -- and how many those are
  pub count_more : length (all_commands (take (i + 1) stages)) ≡ length (all_commands (take i stages)) + length (get_or stages i d)
  count_more = ap length stage_more ∙ length-append (all_commands (take i stages)) (get_or stages i d)

module _ {X E : Type 0} (cs : List Command) (count : ℕ) (most : count ≤ length cs) where
  -- room that is refused was wanted for a command
  pub some_there : (r : Result X E) → OnErr r (0 < count) → OnErr r (IsTrue (has_commands cs))
  some_there (Ok x) some = tt
  some_there (Err e) some = elim cs as (λ (ds : List Command). count ≤ length ds → IsTrue (has_commands ds)) [
    | [] ↦ λ less. absurd (omega (arith, less, some))
    | d ∷ ds ↦ λ less. refl
  ] most

  -- so many that they can't be counted have no room
  pub all_fit : (room : X → ℕ) → (count < 2 ^ 64 - 1 → length cs ≤ count) → (r : Result X E)
      → OnOk r (count < 2 ^ 63) → IfOk r (λ x. count ≤ room x) → IfOk r (λ x. length cs ≤ room x)
  all_fit room least (Err e) small fits = tt
  all_fit room least (Ok x) small fits = let counted : count < 2 ^ 64 - 1 = omega (arith, small) in omega (arith, least counted, fits)
