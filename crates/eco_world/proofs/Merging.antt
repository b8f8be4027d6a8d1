-- Commands that are done where indices were admitted.
use Rattle.eco_world.proofs.Common.{◌≡◌, ℕ, List, [], ◌++◌, true, false, true≢false, MatchBool, Ok, is_ok, ap, subst, ◌∙◌, Admits}
use Rattle.eco_world.proofs.Common.{may_admit, admitted, Answers, Refuses, Command, Runs, WorldState, Record, OnEntities, entities, with_entities, NoMoreIds}
use Rattle.eco_world.proofs.Common.{AreDone, Written, Merges, RunsAdmitted}

-- their outcomes are the merge's
pub merged : (w mid new : WorldState) (n : ℕ) (cs : List Command) (before after : Written) → before.outcomes ≡ []
    → OnEntities (λ v. Admits {A = Record} v n) w (Ok (tt {0})) mid → AreDone mid cs before after new → Merges w n cs (Ok after.outcomes) new
merged w mid new n cs before after none known done =
    let same = done.appended ∙ ap (λ os. os ++ done.outcomes) none in
    elim (may_admit (entities w) n) as (λ b.
    MatchBool b (Answers (tt {0}) (admitted n (entities w)) (Ok (tt {0})) known.0) (Refuses NoMoreIds (entities w) (Ok (tt {0})) known.0)
    → MatchBool b (RunsAdmitted w n cs (Ok after.outcomes) new) (Refuses NoMoreIds w (Ok after.outcomes) new)) [
      | true ↦ λ m. (done.outcomes, ap Ok same, subst (λ y. Runs y cs done.outcomes new) (known.2 ∙ ap (with_entities w) m.1) done.ran)
      | false ↦ λ m. absurd (true≢false (ap is_ok m.0))
    ] known.1
