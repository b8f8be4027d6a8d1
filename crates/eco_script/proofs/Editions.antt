-- No step of a script changes the edition of the world.
use Rattle.eco_script.proofs.Common.{◌≡◌, ◌≤◌, ◌&&◌, ◌||◌, inl, inr, nat_le, arith, ℕ, Bool, true, false, List, [], ◌∷◌, Option}
use Rattle.eco_script.proofs.Common.{Some, None, Result, map, Ok, Err, IsTrue, MatchBool, MatchOption, refl, ap, ◌∙◌, Refusal, NoMoreIds, Reserved}
use Rattle.eco_script.proofs.Common.{Entity, Id, Makes, MakesAliveWith, bare, component_record, may_admit, Indexed, Answers, Meets, Refuses, is_out_of_memory}
use Rattle.eco_script.proofs.Common.{RenamesWith, QueryTerm, WorldState, Record, OnEntities, entities, has, is_alive, Outcomes, BatchDraws, BatchRuns, InTurn}
use Rattle.eco_script.proofs.Common.{Merges, RunsAdmitted, ok_map, FrameDone, Frames, FrameStop, AnswersAdded, Calls, On, ReadsSystem, Replies, Reply}
use Rattle.eco_script.proofs.Common.{StepReplies, done, shown, with_declared, NamedSystem, ScriptState, Phase}
use Rattle.eco_ids.specs.declared.edition.Edition.{Edition}
use Rattle.eco_ids.specs.declared.edition.Edition.TheVariants.{First}
use Rattle.eco_ids.specs.Builtin.{is_builtin, is_builtins}
use Rattle.eco_ids.specs.Cleanup.{Deletes}
use Rattle.eco_ids.specs.Edition.{largest_arity}
use Rattle.eco_ids.specs.Losses.{nobody, without}
use Rattle.eco_ids.specs.Mirrors.{goes_too}
use Rattle.eco_ids.specs.Order.{entity_eq, id_eq}
use Rattle.eco_ids.specs.Step.{Extends, Loses, changed, grown, unchanged, unfit, unfit_actor, unfit_set, with_name, with_value}
use Rattle.eco_ids.proofs.Grown.{grown_edition}
use Rattle.eco_systems.specs.Systems.{SystemModel}
use Rattle.eco_ids.specs.Run as run
use Rattle.eco_steps.specs.Actions as texts
use Rattle.eco_steps.specs.Steps as step

-- an arity that the edition allows is one that a component may have
pub arity_allowed : (edition : Edition) (n : ℕ) → n ≤ largest_arity edition → IsTrue (nat_le n (largest_arity First) || nat_le n (largest_arity edition))
arity_allowed edition n h = grind arith

-- the worlds are equal, and so are their editions
edition_of : (new w : WorldState) → new ≡ w → new.edition ≡ w.edition
edition_of new w e = ap (λ (v : WorldState). v.edition) e

-- where the step leads, the edition is that of this state, or of this world
abbrev KeepsBy : {A S : Type 0} → (S → Edition) → S → (Result A Refusal → S → Type 0) → Type 0
KeepsBy {A} {S} of s Step = (r : Result A Refusal) (new : S) → Step r new → of new ≡ of s

abbrev Keeps : {A : Type 0} → WorldState → (Result A Refusal → WorldState → Type 0) → Type 0
Keeps = KeepsBy (λ w. w.edition)

meets_keep : {A S : Type 0} (of : S → Edition) (s : S) (Step : Result A Refusal → S → Type 0) (may : Bool) → KeepsBy of s Step
    → KeepsBy of s (Meets Step may s)
meets_keep of s Step may keeps r new =
    elim (is_out_of_memory r) as (λ b. MatchBool b (IsTrue may × (new ≡ s)) (Step r new) → of new ≡ of s) [
      | true ↦ λ h. ap of h.1
      | false ↦ keeps r new
    ]

module _ (w : WorldState) where
  refuses_keeps : {A : Type 0} (why : Refusal) → Keeps w (Refuses {A = A} why w)
  refuses_keeps why r new h = edition_of new w h.1

  answers_keeps : {A : Type 0} (x : A) → Keeps w (Answers x w)
  answers_keeps x r new h = edition_of new w h.1

  meets_keeps : {A : Type 0} (Step : Result A Refusal → WorldState → Type 0) (may : Bool) → Keeps w Step → Keeps w (Meets Step may w)
  meets_keeps Step may keeps = meets_keep (λ v. v.edition) w Step may keeps

  calls_keeps : {A : Type 0} (Call : Result A Refusal → WorldState → Type 0) (reply : A → Reply) → Keeps w Call → Keeps w (Calls Call reply)
  calls_keeps Call reply keeps r new (x, c, is) = keeps x new c

  on_keeps : {A B : Type 0} (Reads : Result A Refusal → Type 0) (Goes : A → Result B Refusal → WorldState → Type 0)
      → ((x : A) → Keeps w (Goes x)) → Keeps w (On Reads w Goes)
  on_keeps Reads Goes keeps r new (Ok x, is, g) = keeps x r new g
  on_keeps Reads Goes keeps r new (Err why, is, g) = edition_of new w g.1

  -- what is done with the entities alone
  entities_keep : {A : Type 0} (Step : Indexed Record → Result A Refusal → Indexed Record → Type 0) → Keeps w (OnEntities Step w)
  entities_keep Step r new (after, steps, is) = ap (λ (v : WorldState). v.edition) is

  -- what leads to a world of the same edition
  leads_keeps : {A : Type 0} (x : A) (after : WorldState) → after.edition ≡ w.edition → Keeps w (Answers x after)
  leads_keeps x after same r new h = edition_of new after h.1 ∙ same

  -- refused, or it goes on
  option_keeps : {A : Type 0} (o : Option Refusal) (Step : Result A Refusal → WorldState → Type 0) → Keeps w Step
      → Keeps w (λ r new. MatchOption o (Step r new) (λ why. Refuses why w r new))
  option_keeps None Step keeps = keeps
  option_keeps (Some why) Step keeps = refuses_keeps why

  -- one way or the other
  bool_keeps : {A : Type 0} (b : Bool) (Step Other : Result A Refusal → WorldState → Type 0) → Keeps w Step → Keeps w Other
      → Keeps w (λ r new. MatchBool b (Step r new) (Other r new))
  bool_keeps true Step Other keeps others = keeps
  bool_keeps false Step Other keeps others = others

  extends_keeps : (e : Entity) (i : Id) (besides : Record → Record) → Keeps w (Extends w e i besides)
  extends_keeps e i besides r new (s, closure, verdict, judged, h) =
      option_keeps verdict (Answers tt (changed (grown w e i s) e besides))
      (leads_keeps tt (changed (grown w e i s) e besides) (grown_edition w e i s)) r new h

  loses_keeps : (goes : Entity → Id → Bool) → Keeps w (Loses w goes)
  loses_keeps goes = leads_keeps tt (without w nobody (goes_too w goes)) refl

  deletes_keeps : (IsRoot : Entity → Type 0) → Keeps w (Deletes w IsRoot)
  deletes_keeps IsRoot (Ok did) new (members, doomed, ends) = ap (λ (v : WorldState). v.edition) ends.0
  deletes_keeps IsRoot (Err why) new (members, doomed, ends) = edition_of new w ends.0

  applies_keeps : (c : run.Command) → Keeps w (run.Applies c w)
  applies_keeps (run.Create e) = entities_keep (λ v. MakesAliveWith v e (bare None))
  applies_keeps (run.Add e i) = option_keeps (unfit w e i) _ (bool_keeps (has w e i) _ _ (answers_keeps tt) (extends_keeps e i unchanged))
  applies_keeps (run.Remove e i) = option_keeps (unfit_actor w e) _ (loses_keeps (λ x j. entity_eq x e && id_eq j i))
  applies_keeps (run.Set e i v) =
      option_keeps (unfit_set w e i v) _
      (bool_keeps (has w e i) _ _ (leads_keeps tt (changed w e (with_value i v)) refl) (extends_keeps e i (with_value i v)))
  applies_keeps (run.Clear e) = option_keeps (unfit_actor w e) _ (loses_keeps (λ x j. entity_eq x e))
  applies_keeps (run.Rename e name) = entities_keep (λ v. RenamesWith (λ r. r.name) with_name v e (is_builtin w e) name)
  applies_keeps (run.Delete e) = option_keeps (unfit_actor w e) _ (deletes_keeps (λ x. x ≡ e))
  applies_keeps (run.DeleteWith i) = bool_keeps (is_builtins w i) _ _ (refuses_keeps Reserved) (deletes_keeps (λ x. IsTrue (has w x i)))
  applies_keeps (run.RemoveAll i) = bool_keeps (is_builtins w i) _ _ (refuses_keeps Reserved) (loses_keeps (λ x j. id_eq j i))

  command_keeps : (c : run.Command) → Keeps w (Meets (run.Applies c w) (run.may_want c w) w)
  command_keeps c = meets_keeps (run.Applies c w) (run.may_want c w) (applies_keeps c)

  added_keeps : (o : Option (List QueryTerm)) → Keeps w (AnswersAdded w o)
  added_keeps None = refuses_keeps _
  added_keeps (Some slots) = meets_keeps _ _ (answers_keeps _)

-- commands, one after another
runs_keep : (cs : List run.Command) (w : WorldState) (rs : Outcomes) (new : WorldState) → run.Runs w cs rs new → new.edition ≡ w.edition
runs_keep [] w [] new h = edition_of new w h
runs_keep [] w (r ∷ rs) new h = absurd h
runs_keep (c ∷ cs) w [] new h = absurd h
runs_keep (c ∷ cs) w (r ∷ rs) new (mid, one, more) = runs_keep cs mid rs new more ∙ command_keeps w c r mid one

merge_keeps : (w : WorldState) (n : ℕ) (cs : List run.Command) → Keeps w (Merges w n cs)
merge_keeps w n cs r new =
    elim (may_admit (entities w) n) as (λ b. MatchBool b (RunsAdmitted w n cs r new) (Refuses NoMoreIds w r new) → new.edition ≡ w.edition) [
      | true ↦ λ h. runs_keep cs _ h.0 new h.2
      | false ↦ λ h. edition_of new w h.1
    ]

replies_keep : (w : WorldState) (s : step.WrittenStep) → Keeps w (Replies w s)
replies_keep w (step.create name) = calls_keeps w _ _ (meets_keeps w _ _ (entities_keep w (λ v. Makes (λ r. r.name) v (bare name))))
replies_keep w (step.component name n) =
    calls_keeps w _ _ (meets_keeps w _ _ (entities_keep w (λ v. Makes (λ r. r.name) v (component_record (Some name) n))))
replies_keep w (step.change c) = calls_keeps w _ _ (on_keeps w _ _ (command_keeps w))
replies_keep w (step.has e i) = on_keeps w _ _ (λ x. on_keeps w _ _ (λ y. answers_keeps w _))
replies_keep w (step.get e i) = on_keeps w _ _ (λ x. on_keeps w _ _ (λ y. answers_keeps w _))
replies_keep w (step.show e) = on_keeps w _ _ (λ x. bool_keeps w (is_alive w x) _ _ (answers_keeps w (shown x)) (refuses_keeps w _))
replies_keep w step.list = meets_keeps w _ _ (answers_keeps w _)
replies_keep w (step.query text) = on_keeps w _ _ (λ q. meets_keeps w _ _ (answers_keeps w _))
replies_keep w (step.cache text) = on_keeps w _ _ (λ q. calls_keeps w _ _ (meets_keeps w _ _ (λ r new h. ap (λ (v : WorldState). v.edition) h.1)))
replies_keep w (step.cached n) = added_keeps w _
replies_keep w (step.merge n ss) = meets_keeps w _ _ (on_keeps w _ _ (λ cs. calls_keeps w _ _ (merge_keeps w n cs)))
replies_keep w (step.system name phase text actions) = λ r new h. absurd h
replies_keep w step.frame = λ r new h. absurd h

-- ---- systems and frames

turns_keep : (batches : List (List SystemModel)) (draws : List BatchDraws) (w : WorldState) (outcomes : Outcomes) (new : WorldState)
    → InTurn BatchRuns w batches draws outcomes new → new.edition ≡ w.edition
turns_keep [] [] w outcomes new h = edition_of new w h.1
turns_keep [] (d ∷ ds) w outcomes new h = absurd h
turns_keep (b ∷ bs) [] w outcomes new h = absurd h
turns_keep (b ∷ bs) (d ∷ ds) w outcomes new (now, later, mid, (may, commands, records, ran), more, is) =
    turns_keep bs ds mid later new more ∙ runs_keep commands _ now mid ran

frames_keep : (w : WorldState) (systems : List SystemModel) (x : Result FrameDone FrameStop) (new : WorldState)
    → Frames BatchRuns w systems x new → new.edition ≡ w.edition
frames_keep w systems (Ok r) new (draws, (batches, are, turns), count, drawn) = turns_keep batches draws w r.outcomes new turns
frames_keep w systems (Err stop) new (draws, outcomes, (ran, rest, are, turns, none), count) = turns_keep ran draws w outcomes new turns

declared_edition : (s : ScriptState) (d : Result NamedSystem Refusal) → (with_declared s d).world.edition ≡ s.world.edition
declared_edition s (Ok system) = refl
declared_edition s (Err why) = refl

-- a system is declared, or refused
abbrev Declared : ScriptState → List ℕ → Phase → List ℕ → List texts.WrittenAction → Result Reply Refusal → ScriptState → Type 0
Declared s name phase text actions r new =
    (d : Result NamedSystem Refusal) × ReadsSystem s name phase text actions d × (r ≡ ok_map (λ _. done) d) × (new ≡ with_declared s d)

declares_keep : (s : ScriptState) (name : List ℕ) (phase : Phase) (text : List ℕ) (actions : List texts.WrittenAction)
    → KeepsBy (λ t. t.world.edition) s (Declared s name phase text actions)
declares_keep s name phase text actions r new (d, reads, says, is) = ap (λ (t : ScriptState). t.world.edition) is ∙ declared_edition s d

-- a step of a script, whichever it is
pub step_keeps : (workers : ℕ) (s : step.WrittenStep) (old : ScriptState) (r : Result Reply Refusal) (new : ScriptState) → StepReplies workers old s r new
    → new.world.edition ≡ old.world.edition
step_keeps workers (step.system name phase text actions) old r new h =
    meets_keep (λ t. t.world.edition) old (Declared old name phase text actions) true (declares_keep old name phase text actions) r new h
step_keeps workers step.frame old r new (x, inl h, is) = frames_keep old.world (map (λ d. d.system) old.systems) x new.world h.0.batches
step_keeps workers step.frame old r new (x, inr h, is) = ap (λ (t : ScriptState). t.world.edition) h.1
step_keeps workers s old r new h = replies_keep old.world s r new.world h.0
