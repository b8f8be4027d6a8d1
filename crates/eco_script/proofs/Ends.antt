-- Each step has some answer on every world: what it can't be done for, what it is done with, or that memory was wanting.
use Rattle.eco_script.proofs.Common.{◌≡◌, ℕ, Bool, true, false, not, ◌&&◌, List, [], ◌∷◌, map, Option, Some, None, Result, Ok, Err, is_some}
use Rattle.eco_script.proofs.Common.{inr, refl, ap, arith, slice_get, inl, IsTrue, MatchBool, MatchOption, list_all, Entity, Id, Refusal, NotAlive, DeadId}
use Rattle.eco_script.proofs.Common.{Reserved, NotData, TooWide, BadName, NameTaken, Taken, NoMoreIds, NoSuchQuery, OutOfMemory, answer, Makes, MakesAliveWith}
use Rattle.eco_script.proofs.Common.{bare, component_record, may_admit, may_make, Indexed, admitted, is_free_at, next_entity, with_new, lookup, is_borne}
use Rattle.eco_script.proofs.Common.{is_proper, is_taken, is_same_name, first_refusal, is_out_of_memory, Refuses, Answers, Meets, RenamesWith, QueryTerm}
use Rattle.eco_script.proofs.Common.{WorldState, Record, OnEntities, has, names_living, is_alive, living, entities, with_entities, SpellsId, SpellsQuery}
use Rattle.eco_script.proofs.Common.{SpellsRef, QuerySlot, ReadsAll, entity_of_placed, id_of, ok_both, ok_map, query_of, FrameStop, ScriptState, Reply, truth}
use Rattle.eco_script.proofs.Common.{got, shown, listed, found, merged, stopped, AnswersAdded, Calls, On, Replies, StepReplies, WrittenChange, Does, step_lines}
use Rattle.eco_store.specs.Answers.{asked}
use Rattle.eco_ids.specs.Builtin.{is_builtin, is_builtins}
use Rattle.eco_ids.specs.Data.{arity, fits}
use Rattle.eco_ids.specs.Step.{Extends, changed, has_ids, is_held, is_reserved, own_name, unchanged, unfit_actor, with_name, with_value}
use Rattle.eco_script.specs.Recording.{MakesOfNamed, ReadsChange}
use Rattle.eco_script.specs.References.{ReadsBoth, ReadsEntity, ReadsId, ReadsQuery}
use Rattle.eco_script.specs.Values.{shown_value}
use Rattle.eco_ids.specs.Run as run
use Rattle.eco_steps.specs.Commands as change
use Rattle.eco_steps.specs.Steps as step

-- some answer, and some state after it
abbrev Ends : {A S : Type 0} → (Result A Refusal → S → Type 0) → Type 0
Ends {A} {S} Step = (r : Result A Refusal) × (new : S) × Step r new

-- it is not that memory was wanting
abbrev is_plain : Refusal → Bool
is_plain why = not (is_out_of_memory {A = Unit {0}} (Err why))

plain_error : (A : Type 0) (why : Refusal) → is_plain why ≡ true → is_out_of_memory {A = A} (Err why) ≡ false
plain_error A OutOfMemory p = cc
plain_error A _ p = refl

-- a first refusal is one of those that stand there
plain_refusal : (cs : List (Bool × Refusal)) → list_all (λ c. is_plain c.1) cs ≡ true → (why : Refusal) → first_refusal cs ≡ Some why → is_plain why ≡ true
plain_refusal [] p why e = cc
plain_refusal ((true, x) ∷ cs) p why e = grind arith
plain_refusal ((false, x) ∷ cs) p why e = grind (arith, plain_refusal cs)

-- refused by the first of some tests, or it goes on
first_ends : {A S : Type 0} (cs : List (Bool × Refusal)) → list_all (λ c. is_plain c.1) cs ≡ true → (Later : Result A Refusal → S → Type 0)
    (may later : Bool) (s : S) → (first_refusal cs ≡ None → may ≡ later) → Ends (Meets Later later s)
    → Ends (Meets (λ r new. MatchOption (first_refusal cs) (Later r new) (λ why. Refuses why s r new)) may s)
first_ends {A} {S} cs plain Later may later s same ends = which (first_refusal cs) refl where
  which : (o : Option Refusal) → first_refusal cs ≡ o → Ends (Meets (λ r new. MatchOption o (Later r new) (λ why. Refuses why s r new)) may s)
  which None at = rw (same at) ends
  which (Some why) at = (Err why, s, rw (plain_error A why (plain_refusal cs plain why at)) (refl, refl))

-- likewise by a test of built-ins alone
builtin_ends : (w : WorldState) (Later : Result (Unit {0}) Refusal → WorldState → Type 0) (builtin may later : Bool)
    → (builtin ≡ false → may ≡ later) → Ends (Meets Later later w)
    → Ends (Meets (λ r new. MatchBool builtin (Refuses Reserved w r new) (Later r new)) may w)
builtin_ends w Later true may later same ends = (Err Reserved, w, (refl, refl))
builtin_ends w Later false may later same ends = rw (same refl) ends

-- what is done at once, or may want memory and finds none
once_ends : (w after : WorldState) (Later : Result (Unit {0}) Refusal → WorldState → Type 0) (b : Bool)
    → Ends (Meets (λ r new. MatchBool b (Answers tt after r new) (Later r new)) (not b) w)
once_ends w after Later true = (Ok tt, after, (refl, refl))
once_ends w after Later false = (Err OutOfMemory, w, (refl, refl))

-- what is done with the entities is done with the world
entities_end : {A : Type 0} (Step : Indexed Record → Result A Refusal → Indexed Record → Type 0) (may : Bool) (w : WorldState)
    → Ends (Meets (Step (entities w)) may (entities w)) → Ends (Meets (OnEntities Step w) may w)
entities_end Step may w (r, new, met) = (
  r,
  with_entities w new,
  elim (is_out_of_memory r) as (λ b. MatchBool b (IsTrue may × (new ≡ entities w)) (Step (entities w) r new)
      → MatchBool b (IsTrue may × (with_entities w new ≡ w)) (OnEntities Step w r (with_entities w new))) [
        | true ↦ λ h. (h.0, ap (with_entities w) h.1)
        | false ↦ λ h. (new, h, refl)
      ] met,
)

makes_end : (v : Indexed Record) (d : Record) → Ends (Meets (Makes (λ r. r.name) v d) (may_make (λ r. r.name) v d.name) v)
makes_end v d =
    first_ends ((not (is_proper d.name), BadName) ∷ (is_borne (λ r. r.name) v d.name, NameTaken) ∷ []) refl
    (λ r new. MatchOption (next_entity v) (Refuses NoMoreIds v r new) (λ e. Answers e (with_new v e d) r new)) _ (is_some (next_entity v)) v
    (λ fit. rw fit refl) (next (next_entity v)) where
      next : (o : Option Entity) → Ends (Meets (λ r new. MatchOption o (Refuses NoMoreIds v r new) (λ e. Answers e (with_new v e d) r new)) (is_some o) v)
      next None = (Err NoMoreIds, v, (refl, refl))
      next (Some x) = (Err OutOfMemory, v, (refl, refl))

alive_ends : (v after : Indexed Record) (free : Bool)
    → Ends (Meets (λ r new. MatchBool free (Answers {A = Unit {0}} tt after r new) (Refuses Taken v r new)) free v)
alive_ends v after true = (Err OutOfMemory, v, (refl, refl))
alive_ends v after false = (Err Taken, v, (refl, refl))

actor_ends : (w : WorldState) (e : Entity) (Later : Result (Unit {0}) Refusal → WorldState → Type 0) (may later : Bool)
    → (unfit_actor w e ≡ None → may ≡ later) → Ends (Meets Later later w)
    → Ends (Meets (λ r new. MatchOption (unfit_actor w e) (Later r new) (λ why. Refuses why w r new)) may w)
actor_ends w e Later may later = first_ends ((not (is_alive w e), NotAlive) ∷ (is_builtin w e, Reserved) ∷ []) refl Later may later w

applies_end : (w : WorldState) (c : run.Command) → Ends (Meets (run.Applies c w) (run.may_want c w) w)
applies_end w (run.Create e) = entities_end (λ v. MakesAliveWith v e (bare None)) _ w (alive_ends (entities w) _ (is_free_at (entities w) e))
applies_end w (run.Add e i) =
    first_ends ((not (is_alive w e), NotAlive) ∷ (is_reserved w e i, Reserved) ∷ (not (names_living w i), DeadId) ∷ []) refl _ _ (not (has w e i)) w
    (λ fit. rw fit refl) (once_ends w w (Extends w e i unchanged) (has w e i))
applies_end w (run.Set e i v) =
    first_ends
    ((not (is_alive w e), NotAlive) ∷ (is_reserved w e i, Reserved) ∷ (not (names_living w i), DeadId) ∷ (not (is_some (arity w i)), NotData)
    ∷ (not (fits w i v), TooWide) ∷ []) refl _ _ (not (has w e i)) w (λ fit. rw fit refl)
    (once_ends w (changed w e (with_value i v)) (Extends w e i (with_value i v)) (has w e i))
applies_end w (run.Remove e i) = actor_ends w e _ _ (has w e i) (λ fit. rw fit refl) (Ok tt, _, (refl, refl))
applies_end w (run.Clear e) = actor_ends w e _ _ (has_ids w e) (λ fit. rw fit refl) (Ok tt, _, (refl, refl))
applies_end w (run.Delete e) = actor_ends w e _ _ true (λ fit. rw fit refl) (Err OutOfMemory, w, (refl, refl))
applies_end w (run.DeleteWith i) = builtin_ends w _ (is_builtins w i) _ true (λ is. rw is refl) (Err OutOfMemory, w, (refl, refl))
applies_end w (run.RemoveAll i) = builtin_ends w _ (is_builtins w i) _ (is_held w i) (λ is. rw is refl) (Ok tt, _, (refl, refl))
applies_end w (run.Rename e name) =
    entities_end (λ v. RenamesWith (λ r. r.name) with_name v e (is_builtin w e) name) _ w
    (first_ends
    ((not (is_alive w e), NotAlive) ∷ (is_builtin w e, Reserved) ∷ (not (is_proper name), BadName)
    ∷ (not (is_same_name (own_name w e) name) && is_taken w name, NameTaken) ∷ []) refl _ _
    (is_some name && not (is_same_name (own_name w e) name)) (entities w) (λ fit. rw fit refl) (Ok tt, _, (refl, refl)))

show_ends : (w : WorldState) (e : Entity) (b : Bool)
    → Ends (λ r new. MatchBool b (Answers (shown e) w r new) (Refuses NotAlive w r new))
show_ends w e true = (Ok (shown e), w, (refl, refl))
show_ends w e false = (Err NotAlive, w, (refl, refl))

added_ends : (w : WorldState) (o : Option (List QueryTerm)) → Ends (AnswersAdded w o)
added_ends w None = (Err NoSuchQuery, w, (refl, refl))
added_ends w (Some slots) = (Ok (found (answer w slots)), w, (refl, refl))

calls_end : {A : Type 0} (Call : Result A Refusal → WorldState → Type 0) (reply : A → Reply) → Ends Call → Ends (Calls Call reply)
calls_end Call reply (x, new, c) = (ok_map reply x, new, (x, c, refl))

on_ends : {A B : Type 0} (Reads : Result A Refusal → Type 0) (w : WorldState) (Goes : A → Result B Refusal → WorldState → Type 0)
    → ((n : Result A Refusal) × Reads n) → ((x : A) → Ends (Goes x)) → Ends (On Reads w Goes)
on_ends Reads w Goes (Ok x, is) goes = let (r, new, g) = goes x in (r, new, (Ok x, is, g))
on_ends Reads w Goes (Err why, is) goes = (Err why, w, (Err why, is, (refl, refl)))

-- a merge of no stage only makes indices known
empty_merge_ends : (w : WorldState) (n : ℕ) (b : Bool) → may_admit (entities w) n ≡ b → Ends (Replies w (step.merge n []))
empty_merge_ends w n true e =
    let after = with_entities w (admitted n (entities w)) in (Ok (merged []), after, (Ok [], refl, (Ok [], rw e ([], refl, refl), refl)))
empty_merge_ends w n false e = (Err NoMoreIds, w, (Ok [], refl, (Err NoMoreIds, rw e (refl, refl), refl)))

-- a step on the world alone
abbrev is_of_world : step.WrittenStep → Bool
is_of_world (step.system name phase text actions) = false
is_of_world step.frame = false
is_of_world _ = true

of_world : (old : ScriptState) (s : step.WrittenStep) → Ends (Replies old.world s)
    → Ends (λ r (new : ScriptState). Replies old.world s r new.world × (new.systems ≡ old.systems))
of_world old s (r, new, p) = (r, record { world = new; systems = old.systems }, (p, refl))

-- under any names each text is answered in some way
pub record TextsRead : Type 0 where
  pub refs : (entity_named : List ℕ → Option Entity) → ReadsAll SpellsRef (entity_of_placed entity_named)
  pub ids : (entity_named : List ℕ → Option Entity) → ReadsAll SpellsId (id_of entity_named)
  pub queries : (entity_named : List ℕ → Option Entity) → ReadsAll SpellsQuery (query_of entity_named)

module _ (texts : TextsRead) where
  reads_entity : (w : WorldState) (text : List ℕ) → (n : Result Entity Refusal) × ReadsEntity w text n
  unfolding ReadsEntity
  reads_entity w text = texts.refs (lookup w) text

  reads_id : (w : WorldState) (text : List ℕ) → (n : Result Id Refusal) × ReadsId w text n
  unfolding ReadsId
  reads_id w text = texts.ids (lookup w) text

  reads_query : (w : WorldState) (text : List ℕ) → (n : Result (List QuerySlot) Refusal) × ReadsQuery w text n
  unfolding ReadsQuery
  reads_query w text = let (n, is) = texts.queries (lookup w) text in (n, inl is)

  reads_both : (w : WorldState) (e i : List ℕ) → (n : Result (Entity × Id) Refusal) × ReadsBoth w e i n
  reads_both w e i =
      let (x, is) = reads_entity w e in
      let (y, of) = reads_id w i in
      (ok_both (λ a b. (a, b)) x y, (x, y, is, of, refl))

  made : {A C : Type 0} (Reads : Result A Refusal → Type 0) (make : A → C) → ((n : Result A Refusal) × Reads n)
      → (r : Result C Refusal) × MakesOfNamed Reads make r
  made Reads make (n, is) = (ok_map make n, (n, is, refl))

  reads_change : (w : WorldState) (c : WrittenChange) → (r : Result run.Command Refusal) × ReadsChange w c r
  reads_change w (change.add e i) = made _ _ (reads_both w e i)
  reads_change w (change.remove e i) = made _ _ (reads_both w e i)
  reads_change w (change.set e i v) = made _ _ (reads_both w e i)
  reads_change w (change.clear e) = made _ _ (reads_entity w e)
  reads_change w (change.rename e name) = made _ _ (reads_entity w e)
  reads_change w (change.delete e) = made _ _ (reads_entity w e)
  reads_change w (change.delete_with i) = made _ _ (reads_id w i)
  reads_change w (change.remove_all i) = made _ _ (reads_id w i)

  replies_end : (w : WorldState) (s : step.WrittenStep) → IsTrue (is_of_world s) → Ends (Replies w s)
  replies_end w (step.create name) _ = calls_end _ _ (entities_end (λ v. Makes (λ r. r.name) v (bare name)) _ w (makes_end (entities w) (bare name)))
  replies_end w (step.component name n) _ =
      let d = component_record (Some name) n in calls_end _ _ (entities_end (λ v. Makes (λ r. r.name) v d) _ w (makes_end (entities w) d))
  replies_end w (step.change c) _ = calls_end _ _ (on_ends (ReadsChange w c) w _ (reads_change w c) (applies_end w))
  replies_end w (step.has e i) _ =
      on_ends _ w _ (reads_entity w e) (λ x. on_ends _ w _ (reads_id w i) (λ y. (Ok (truth (has w x y)), w, (refl, refl))))
  replies_end w (step.get e i) _ =
      on_ends _ w _ (reads_entity w e) (λ x. on_ends _ w _ (reads_id w i) (λ y. (Ok (got (shown_value w x y)), w, (refl, refl))))
  replies_end w (step.show e) _ = on_ends _ w _ (reads_entity w e) (λ x. show_ends w x (is_alive w x))
  replies_end w step.list _ = (Ok (listed (map (λ p. p.0) (living w))), w, (refl, refl))
  replies_end w (step.query text) _ = on_ends _ w _ (reads_query w text) (λ q. (Ok (found (answer w (asked q))), w, (refl, refl)))
  replies_end w (step.cache text) _ = on_ends _ w _ (reads_query w text) (λ q. calls_end _ _ (Err OutOfMemory, w, (refl, refl)))
  replies_end w (step.cached n) _ = added_ends w (slice_get w.queries n)
  replies_end w (step.merge n []) _ = empty_merge_ends w n (may_admit (entities w) n) refl
  replies_end w (step.merge n (s ∷ ss)) _ = (Err OutOfMemory, w, (refl, refl))
  replies_end w (step.system name phase text actions) never = cc
  replies_end w step.frame never = cc

  step_ends : (workers : ℕ) (old : ScriptState) (s : step.WrittenStep) → Ends (StepReplies workers old s)
  step_ends workers old (step.system name phase text actions) = (Err OutOfMemory, old, (refl, refl))
  step_ends workers old step.frame =
      let stop : FrameStop = record { batches = 0; refusal = OutOfMemory } in (Ok (stopped stop), old, (Err stop, inr (refl, refl), refl))
  step_ends workers old s = of_world old s (replies_end old.world s refl)

  -- some lines, and some state after them
  pub some_step : (workers : ℕ) (s : step.WrittenStep) (old : ScriptState) → (t : List ℕ) × (e : ScriptState) × Does workers old s t e
  some_step workers s old = let (r, new, p) = step_ends workers old s in (step_lines new.world r, new, (r, p, refl))
