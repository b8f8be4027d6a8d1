-- A batch that was recorded and merged has run.
use Rattle.eco_frame.proofs.Common.{◌≡◌, ℕ, ◌+◌, ◌≤◌, Bool, true, true≢false, List, [], ◌∷◌, length, Ok, Err, is_ok, refl, sym, ap}
use Rattle.eco_frame.proofs.Common.{◌∙◌, subst, IsTrue, MatchBool, unwrap_or, suc, NoMoreIds, OutOfMemory, Command, Runs, WorldState, entities}
use Rattle.eco_frame.proofs.Common.{FrameOutcomes, with_admitted, SystemModel, Merges, RunsAdmitted, IsRecorded, CountsReport, HasRun, Progress}
use Rattle.std.specs.Result.{result_ok}
use Rattle.std.proofs.lemmas.Bool.{le-leb}
use Rattle.eco_ids.specs.declared.refusal.Refusal.{Refusal}
use Rattle.eco_ids.specs.Births.{may_admit}
use Rattle.eco_ids.specs.Outcome.{Meets, Refuses}

-- one outcome for each command
runs_length : (w : WorldState) (cs : List Command) (os : FrameOutcomes) (new : WorldState) → Runs w cs os new → length os ≡ length cs
runs_length w [] [] new h = refl
runs_length w [] (o ∷ os) new h = absurd h
runs_length w (c ∷ cs) [] new h = absurd h
runs_length w (c ∷ cs) (o ∷ os) new h = ap suc (runs_length h.0 cs os new h.2)

module _ (w : WorldState) (n : ℕ) (cs : List Command) (most : length w.indices + n ≤ w.limit) where
  admits : may_admit (entities w) n ≡ true
  admits = le-leb (length w.indices + n) w.limit most

  -- a merge that is done has run the commands
  ran : (os : FrameOutcomes) (new : WorldState) → Merges w n cs (Ok os) new → RunsAdmitted w n cs (Ok os) new
  ran os new h = subst (λ b. MatchBool b (RunsAdmitted w n cs (Ok os) new) (Refuses {A = FrameOutcomes} NoMoreIds w (Ok os) new)) admits h

  -- one that isn't done found no memory, and changed nothing
  abbrev Wanted : Refusal → WorldState → Type 0
  Wanted why new = (why ≡ OutOfMemory) × (new ≡ w)

  not_ran : (why : Refusal) (new : WorldState) → Merges w n cs (Err why) new → Wanted why new
  not_ran why new h =
      let r = subst (λ b. MatchBool b (RunsAdmitted w n cs (Err why) new) (Refuses {A = FrameOutcomes} NoMoreIds w (Err why) new)) admits h in
      absurd (true≢false (ap is_ok (sym r.1)))

  pub merge_wanted : (may : Bool) (why : Refusal) (new : WorldState) → Meets (Merges w n cs) may w (Err why) new → Wanted why new
  merge_wanted may OutOfMemory new h = (refl, h.1)
  merge_wanted may why new h = not_ran why new h

-- a batch that was recorded has run once it is merged
pub has_run : (workers : ℕ) (w new : WorldState) (batch : List SystemModel) (cs : List Command) (n : ℕ) (before after : Progress) (os : FrameOutcomes)
    → IsRecorded workers w batch cs n → length w.indices + n ≤ w.limit → Merges w n cs (Ok os) new
    → (total draws : ℕ) → total ≡ before.commands + length cs → draws ≡ before.drawn + n → CountsReport before os total draws after
    → HasRun workers w batch before after new
has_run workers w new batch cs n before after os r most m total draws count more is =
    let h = ran w n cs most os new m in
    let same : h.0 ≡ os = ap (λ r. unwrap_or (result_ok r) []) (sym h.1) in
    let runs = subst (λ x. Runs (with_admitted n w) cs x new) same h.2 in
    let len = runs_length (with_admitted n w) cs os new runs in
    record {
      draws = r.0;
      outcomes = os;
      runs = (
        (
          (r.2, subst (λ k. IsTrue (may_admit (entities w) k)) (sym r.3) (admits w n cs most)),
          cs,
          r.1,
          subst (λ k. Runs (with_admitted k w) cs os new) (sym r.3) runs,
        ),
        r.4,
        r.5,
      );
      reports = is.reports;
      commands = is.commands_are ∙ count ∙ ap (λ k. before.commands + k) (sym len);
      drawn = is.drawn_are ∙ more ∙ ap (λ k. before.drawn + k) (sym r.3);
      room = is.room;
    }
