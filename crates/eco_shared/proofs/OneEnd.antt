-- The same merge of one world has one report and leads to one world.
use Rattle.eco_shared.proofs.Common.{◌≡◌, ℕ, Bool, true, false, true≢false, IsTrue, List, [], ◌∷◌, Result, Ok, Err, refl, sym, ap, ◌∙◌}
use Rattle.eco_shared.proofs.Common.{subst, MatchBool, WorldState, entities, with_entities}
use Rattle.std.specs.Bool.{beq}
use Rattle.eco_ids.specs.Births.{may_admit}
use Rattle.eco_ids.specs.Indices.{admitted}
use Rattle.eco_ids.specs.Outcome.{Meets, Refuses, is_out_of_memory}
use Rattle.eco_ids.specs.Run.{Command, Applies, Runs, may_want}
use Rattle.eco_ids.specs.declared.refusal.Refusal.{Refusal}
use Rattle.eco_ids.specs.declared.refusal.Refusal.TheVariants.{OutOfMemory, NoMoreIds}
use Rattle.eco_ids.proofs.Ascending.{first, second}
use Rattle.eco_ids.proofs.Ends.{IsSettled}
use Rattle.eco_ids.proofs.Runs.{applies_settled}
use Rattle.eco_stages.specs.Outcomes.{Outcomes, alike_in_memory}
use Rattle.eco_world.specs.Merging.{Merges, RunsAdmitted}

lacks : {A : Type 0} (r : Result A Refusal) → is_out_of_memory r ≡ true → r ≡ Err OutOfMemory
lacks (Ok x) e = absurd (true≢false (sym e))
lacks (Err OutOfMemory) e = refl
lacks (Err why) e = absurd (true≢false (sym e))

met : {A S : Type 0} (Step : Result A Refusal → S → Type 0) (may : Bool) (old : S) (r q : Result A Refusal) (new other : S) (b c : Bool)
    → IsSettled old Step → is_out_of_memory r ≡ b → is_out_of_memory q ≡ c → IsTrue (beq c b)
    → MatchBool b (IsTrue may × (new ≡ old)) (Step r new) → MatchBool c (IsTrue may × (other ≡ old)) (Step q other) → (r ≡ q) × (new ≡ other)
met Step may old r q new other true true s e f same h k = (lacks r e ∙ sym (lacks q f), h.1 ∙ sym k.1)
met Step may old r q new other false false s e f same h k = s.one r q new other h k
met Step may old r q new other true false s e f same h k = absurd (true≢false (sym same))
met Step may old r q new other false true s e f same h k = absurd (true≢false (sym same))

-- of two answers of one step, with memory wanting in both or in neither
meets_alike : {A S : Type 0} (Step : Result A Refusal → S → Type 0) (may : Bool) (old : S) (r q : Result A Refusal) (new other : S)
    → IsSettled old Step → IsTrue (beq (is_out_of_memory q) (is_out_of_memory r)) → Meets Step may old r new → Meets Step may old q other
    → (r ≡ q) × (new ≡ other)
meets_alike Step may old r q new other s same h k = met Step may old r q new other (is_out_of_memory r) (is_out_of_memory q) s refl refl same h k

runs_alike : (cs : List Command) (w : WorldState) (rs qs : Outcomes) (new other : WorldState) → IsTrue (alike_in_memory rs qs)
    → Runs w cs rs new → Runs w cs qs other → (rs ≡ qs) × (new ≡ other)
runs_alike [] w [] [] new other a h k = (refl, h ∙ sym k)
runs_alike [] w [] (q ∷ qs) new other a h k = absurd k
runs_alike [] w (r ∷ rs) qs new other a h k = absurd h
runs_alike (c ∷ cs) w [] qs new other a h k = absurd h
runs_alike (c ∷ cs) w (r ∷ rs) [] new other a h k = absurd k
runs_alike (c ∷ cs) w (r ∷ rs) (q ∷ qs) new other a h k =
    let both = meets_alike (Applies c w) (may_want c w) w r q h.0 k.0 (applies_settled c w) (first _ _ a) h.1 k.1 in
    let rest = runs_alike cs h.0 rs qs new other (second _ _ a) h.2 (subst (λ m. Runs m cs qs other) (sym both.1) k.2) in
    (ap (λ x. x ∷ rs) both.0 ∙ ap (λ xs. q ∷ xs) rest.0, rest.1)

ran : (b : Bool) (w : WorldState) (n : ℕ) (cs : List Command) (rs : Outcomes) (new : WorldState)
    → MatchBool b (RunsAdmitted w n cs (Ok rs) new) (Refuses NoMoreIds w (Ok rs) new) → Runs (with_entities w (admitted n (entities w))) cs rs new
ran true w n cs rs new h =
    let same : rs ≡ h.0 = cc (h.1) in
    subst (λ x. Runs (with_entities w (admitted n (entities w))) cs x new) (sym same) h.2
ran false w n cs rs new h = absurd (cc (h.0))

pub merges_alike : (w : WorldState) (n : ℕ) (cs : List Command) (rs qs : Outcomes) (new other : WorldState)
    → IsTrue (alike_in_memory rs qs) → Merges w n cs (Ok rs) new → Merges w n cs (Ok qs) other → (rs ≡ qs) × (new ≡ other)
merges_alike w n cs rs qs new other a h k =
    let fits = may_admit (entities w) n in
    runs_alike cs (with_entities w (admitted n (entities w))) rs qs new other a (ran fits w n cs rs new h) (ran fits w n cs qs other k)
