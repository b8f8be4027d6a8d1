-- What each step of a script answers, and the world that it leaves.
use Rattle.std.specs.Prelude.{◌≡◌, ◌⊎◌, ℕ, Bool, true, ◌||◌, List, [], ◌∷◌, ◌++◌, flat_map, map, slice_get, Option, Some, None, Result, Ok, Err}
use Rattle.std.specs.Prelude.{MatchResult, MatchBool, IfErr}
use Rattle.std.specs.Option.{option_map_or}
use Rattle.eco_ids.specs.declared.entity.Entity.{Entity}
use Rattle.eco_ids.specs.declared.refusal.Refusal.{Refusal}
use Rattle.eco_ids.specs.declared.refusal.Refusal.TheVariants.{NotAlive, NoSuchQuery, OutOfMemory}
use Rattle.eco_ids.specs.Answer.{Row, answer}
use Rattle.eco_ids.specs.Births.{Creates, may_create, MakesComponent, may_make_component}
use Rattle.eco_ids.specs.Outcome.{Refuses, Answers, Meets}
use Rattle.eco_ids.specs.Terms.{QueryTerm}
use Rattle.eco_ids.specs.World.{WorldState, has, is_alive, living}
use Rattle.eco_store.specs.Answers.{asked}
use Rattle.eco_ids.specs.Run as run
use Rattle.eco_grammar.specs.Readings.{ok_map}
use Rattle.eco_world.specs.Cached.{AddsQuery}
use Rattle.eco_stages.specs.Outcomes.{Outcomes}
use Rattle.eco_world.specs.Merging.{Merges, may_merge}
use Rattle.eco_world.specs.Queries.{may_query}
use Rattle.eco_systems.specs.declared.phase.Phase.{Phase}
use Rattle.eco_bodies.specs.Actions.{first_action_refusal}
use Rattle.eco_bodies.specs.declared.script.Script.{Script}
use Rattle.eco_bodies.specs.declared.systems.System.{System}
use Rattle.eco_frame.specs.Reports.{FrameDone, IsFrameBy}
use Rattle.eco_frame.specs.Stops.{IsWhy}
use Rattle.eco_frame.specs.declared.stop.FrameStop.{FrameStop}
use Rattle.eco_script.specs.Recording.{ReadsActions, ReadsChange, ReadsCommands, has_stages}
use Rattle.eco_script.specs.References.{ReadsEntity, ReadsId, ReadsQuery}
use Rattle.eco_script.specs.States.{NamedSystem, ScriptState, name_refusal, script_system}
use Rattle.eco_script.specs.Systems.{model_by, named, recorded_by, handles_taken}
use Rattle.eco_steps.specs.Actions as texts
use Rattle.eco_steps.specs.Commands.{WrittenChange}
use Rattle.eco_steps.specs.Steps as step
use Rattle.eco_script.specs.Values.{Shown, shown_value}

-- what a step answers where it is done: that it is done, who was made, whether it is so, a value or none, one entity, all
-- living ones, the results of a query, the number of a query that was added, the outcomes of the commands of a merge, what a frame
-- did, or where it stopped
pub data Reply : Type 0 where
  done : Reply
  made : Entity → Reply
  truth : Bool → Reply
  got : Option Shown → Reply
  shown : Entity → Reply
  listed : List Entity → Reply
  found : List Row → Reply
  kept : ℕ → Reply
  merged : Outcomes → Reply
  framed : FrameDone → Reply
  stopped : FrameStop → Reply

-- the call is made, and its answer is the step's
abbrev pub Calls : {A : Type 0} → (Result A Refusal → WorldState → Type 0) → (A → Reply) → Result Reply Refusal → WorldState → Type 0
Calls {A} Call reply r new = (x : Result A Refusal) × Call x new × (r ≡ ok_map reply x)

-- the text names something, and the step goes on with it; or the text is refused, and with it the step
abbrev pub On : {A B : Type 0} → (Result A Refusal → Type 0) → WorldState → (A → Result B Refusal → WorldState → Type 0)
    → Result B Refusal → WorldState → Type 0
On {A} Reads w Goes r new = (named : Result A Refusal) × Reads named × MatchResult named (λ x. Goes x r new) (λ why. Refuses why w r new)

-- the texts of a change name a command, and its call is made
abbrev pub Changes : WorldState → WrittenChange → Result (Unit {0}) Refusal → WorldState → Type 0
Changes w c = On (ReadsChange w c) w (λ command. Meets (run.Applies command w) (run.may_want command w) w)

-- a query that was added, if there is such a one, is answered on the world as it is now
abbrev pub AnswersAdded : WorldState → Option (List QueryTerm) → Result Reply Refusal → WorldState → Type 0
AnswersAdded w None = Refuses NoSuchQuery w
AnswersAdded w (Some slots) = Meets (Answers (found (answer w slots)) w) (may_query w slots) w

-- what a step on the world alone answers, and the world after it; a system and a frame are no such steps. Texts are read from left to right, and the first
-- that is refused is the step's refusal. A listing may find no memory, and so may a query that has a result, one that is added, and a merge that
-- has stages or makes indices known.
abbrev pub Replies : WorldState → step.WrittenStep → Result Reply Refusal → WorldState → Type 0
Replies w (step.create name) = Calls (Meets (Creates w name) (may_create w name) w) made
Replies w (step.component name arity) = Calls (Meets (MakesComponent w (Some name) arity) (may_make_component w (Some name)) w) made
Replies w (step.change c) = Calls (Changes w c) (λ _. done)
Replies w (step.has e i) = On (ReadsEntity w e) w (λ x. On (ReadsId w i) w (λ y. Answers (truth (has w x y)) w))
Replies w (step.get e i) = On (ReadsEntity w e) w (λ x. On (ReadsId w i) w (λ y. Answers (got (shown_value w x y)) w))
Replies w (step.show e) = On (ReadsEntity w e) w (λ x r new. MatchBool (is_alive w x) (Answers (shown x) w r new) (Refuses NotAlive w r new))
Replies w step.list = Meets (Answers (listed (map (λ p. p.0) (living w))) w) true w
Replies w (step.query text) = On (ReadsQuery w text) w (λ q. Meets (Answers (found (answer w (asked q))) w) (may_query w (asked q)) w)
Replies w (step.cache text) = On (ReadsQuery w text) w (λ q. Calls (Meets (AddsQuery w (asked q)) true w) (λ id. kept id.0))
Replies w (step.cached n) = AnswersAdded w (slice_get w.queries n)
Replies w (step.merge n stages) =
    Meets (On (ReadsCommands w (flat_map (λ s. s) stages)) w (λ commands. Calls (Merges w n commands) merged)) (has_stages stages || may_merge w n []) w
Replies w (step.system name phase text actions) = λ r new. ⊥
Replies w step.frame = λ r new. ⊥

-- what is read is gone on with, or its refusal is the answer
abbrev pub Then : {A C : Type 0} → (Result A Refusal → Type 0) → (A → Result C Refusal → Type 0) → Result C Refusal → Type 0
Then {A} Reads Goes r = (x : Result A Refusal) × Reads x × MatchResult x (λ y. Goes y r) (λ why. r ≡ Err why)

-- refused for this reason, if it is one
abbrev pub unless : {A : Type 0} → Option Refusal → Result A Refusal → Result A Refusal
unless refusal r = option_map_or (λ why. Err why) refusal r

-- the system that the texts name: query and actions are read from left to right, then the actions must fit the query, and then the
-- name must be one that no other system has; the first refusal is the answer
abbrev pub ReadsSystem : ScriptState → List ℕ → Phase → List ℕ → List texts.WrittenAction → Result NamedSystem Refusal → Type 0
ReadsSystem s name phase text actions =
    Then (ReadsQuery s.world text) (λ slots. Then (ReadsActions s.world actions) (λ acts r.
    r ≡ unless (first_action_refusal slots acts) (unless (name_refusal s.systems name) (Ok (script_system name phase slots acts)))))

-- it stands behind the others, where it was not refused
abbrev pub with_declared : ScriptState → Result NamedSystem Refusal → ScriptState
with_declared s (Ok system) = record { world = s.world; systems = s.systems ++ system ∷ [] }
with_declared s (Err why) = s

-- a system is declared or refused; memory may be wanting for it
abbrev pub DeclaresSystem : ScriptState → List ℕ → Phase → List ℕ → List texts.WrittenAction → Result Reply Refusal → ScriptState → Type 0
DeclaresSystem s name phase text actions =
    Meets (λ r new. (d : Result NamedSystem Refusal) × ReadsSystem s name phase text actions d
    × (r ≡ ok_map (λ _. done) d) × (new ≡ with_declared s d)) true s

-- why a frame of these systems stopped, as it is said of any list of scripts that are these systems
abbrev pub IsWhyStopped : ScriptState → FrameStop → ScriptState → Type 0
IsWhyStopped s stop new =
    (listed : List (System Script)) × (map named listed ≡ s.systems) × IsWhy handles_taken recorded_by model_by s.world listed stop new.world

-- a frame of the systems runs by so many workers, to its end or to a stop; systems are as they were
abbrev pub RunsFrame : ℕ → ScriptState → Result FrameDone FrameStop → ScriptState → Type 0
RunsFrame workers s x new =
    IsFrameBy workers s.world (map (λ d. d.system) s.systems) x new.world × IfErr x (λ stop. IsWhyStopped s stop new) × (new.systems ≡ s.systems)

-- memory was wanting before anything was done of it
abbrev pub StopsAtOnce : ScriptState → Result FrameDone FrameStop → ScriptState → Type 0
StopsAtOnce s x new = (x ≡ Err (record { batches = 0; refusal = OutOfMemory })) × (new ≡ s)

-- what a frame answers
abbrev pub frame_reply : Result FrameDone FrameStop → Reply
frame_reply (Ok r) = framed r
frame_reply (Err stop) = stopped stop

-- what the step answers, and what it leaves: a system is declared, a frame runs the systems declared so far by so many workers, and
-- every other step is one on the world alone
abbrev pub StepReplies : ℕ → ScriptState → step.WrittenStep → Result Reply Refusal → ScriptState → Type 0
StepReplies workers old (step.system name phase text actions) r new = DeclaresSystem old name phase text actions r new
StepReplies workers old step.frame r new =
    (x : Result FrameDone FrameStop) × (RunsFrame workers old x new ⊎ StopsAtOnce old x new) × (r ≡ Ok (frame_reply x))
StepReplies workers old s r new = Replies old.world s r new.world × (new.systems ≡ old.systems)
