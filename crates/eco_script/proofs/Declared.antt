-- Systems that are declared, and frames of them.
use Rattle.eco_script.proofs.Common.{◌≡◌, ℕ, Bool, List, [], ◌∷◌, ◌++◌, map, Option, Some, None, Result, Ok, Err, IfOk, IfErr, IsOkAnd}
use Rattle.eco_script.proofs.Common.{MatchOption, IsFalse, refl, ap, subst, true≢false, ◌∙◌, ◌||◌, not, inl, string_bytes, list_any, map-append}
use Rattle.eco_script.proofs.Common.{Refusal, BadName, OutOfMemory, SystemNameTaken, is_name, is_text, is_out_of_memory, WorldState, QuerySlot, Phase, Action}
use Rattle.eco_script.proofs.Common.{FrameDone, IsFrameBy, FrameStop, done, frame_reply, unless, DeclaresSystem, ReadsSystem, StepReplies, NamedSystem}
use Rattle.eco_script.proofs.Common.{ScriptState, is_declared, name_refusal, script_system, model_by, named, reached, recorded_by, handles_taken, IsScriptOf}
use Rattle.eco_script.proofs.Common.{ReadsBody}
use Rattle.std.specs.Bool.{⊤}
use Rattle.eco_ids.specs.declared.pattern.Pattern.{Pattern}
use Rattle.eco_bodies.specs.Actions.{first_action_refusal, is_kill, script_writes}
use Rattle.eco_bodies.specs.Added.{IsAdded, add_refusal, has_system_named}
use Rattle.eco_bodies.specs.Bodies.{system_with}
use Rattle.eco_bodies.specs.Scripts.{script_commands, script_taken}
use Rattle.eco_bodies.specs.declared.script.Script.{Script}
use Rattle.eco_bodies.specs.declared.systems.System.{System}
use Rattle.eco_frame.specs.Stops.{IsWhy}
use Rattle.eco_script.specs.References.{ReadsQuery}
use Rattle.eco_ids.specs.Outcome as outcome
use Rattle.eco_steps.specs.Actions as texts
use Rattle.eco_steps.specs.Steps as step

-- ---- bodies

-- what is said of a script that was made is what it is
pub body_of : (slots : List QuerySlot) (acts : List Action) (r : Result Script Refusal) → IsFalse (is_out_of_memory r)
    → MatchOption (first_action_refusal slots acts) (IfErr r (λ why. why ≡ OutOfMemory)) (λ why. r ≡ Err why)
    → IfOk r (λ s. s.actions.items ≡ acts) → IfOk r (λ s. s.writes.items ≡ script_writes slots acts) → IfOk r (λ s. s.kills ≡ list_any is_kill acts)
    → MatchOption (first_action_refusal slots acts) (IsOkAnd r (IsScriptOf slots acts)) (λ why. r ≡ Err why)
body_of slots acts r plain refused a w k = which (first_action_refusal slots acts) r plain refused a w k where
  which : (o : Option Refusal) (r : Result Script Refusal) → IsFalse (is_out_of_memory r)
      → MatchOption o (IfErr r (λ why. why ≡ OutOfMemory)) (λ why. r ≡ Err why)
      → IfOk r (λ s. s.actions.items ≡ acts) → IfOk r (λ s. s.writes.items ≡ script_writes slots acts) → IfOk r (λ s. s.kills ≡ list_any is_kill acts)
      → MatchOption o (IsOkAnd r (IsScriptOf slots acts)) (λ why. r ≡ Err why)
  which (Some why) r plain refused a w k = refused
  which None (Ok s) plain refused a w k = record { actions_are = a; writes_are = w; kills_are = k }
  which None (Err why) plain refused a w k = wanted why plain refused where
    wanted : (why : Refusal) → IsFalse (is_out_of_memory {A = Script} (Err why)) → why ≡ OutOfMemory → ⊥
    wanted why plain is = true≢false (rw is at plain)

-- nothing but this is said of a script that was not made
refused_unless : {A : Type 0} (slots : List QuerySlot) (acts : List Action) (o : Option Refusal) (why : Refusal) (r : Result Script Refusal)
    (x y : Result A Refusal) → r ≡ Err why → y ≡ Err why → MatchOption o (IsOkAnd r (IsScriptOf slots acts)) (λ other. r ≡ Err other) → y ≡ unless o x
refused_unless slots acts None why (Ok b) x y is at fits = cc
refused_unless slots acts None why (Err e) x y is at fits = absurd fits
refused_unless slots acts (Some other) why r x y is at fits = let same : why ≡ other = cc in at ∙ ap Err same

fitting : (slots : List QuerySlot) (acts : List Action) (o : Option Refusal) (body : Script) (r : Result Script Refusal) → r ≡ Ok body
    → MatchOption o (IsOkAnd r (IsScriptOf slots acts)) (λ why. r ≡ Err why) → (o ≡ None) × IsScriptOf slots acts body
fitting slots acts (Some why) body r is fits = cc
fitting slots acts None body (Err why) is fits = absurd fits
fitting slots acts None body (Ok b) is fits = let same : b ≡ body = cc in (refl, subst (IsScriptOf slots acts) same fits)

-- ---- names

named_so : (systems : List (System Script)) (name : List ℕ) → is_declared (map named systems) name ≡ has_system_named systems name
named_so [] name = refl
named_so (s ∷ ss) name = ap (λ b. is_text (string_bytes s.name) name || b) (named_so ss name)

refusal_so : (systems : List (System Script)) (name : List ℕ) → name_refusal (map named systems) name ≡ add_refusal systems name
refusal_so systems name = ap (λ b. outcome.first_refusal ((not (is_name name), BadName) ∷ (b, SystemNameTaken) ∷ [])) (named_so systems name)

-- ---- systems

-- a system of the list by what it shows
abbrev shape : List ℕ → Phase → List QuerySlot → List Action → List Pattern → Bool → NamedSystem
shape name phase slots acts writes kills =
    record { name = name; system = system_with phase slots [] writes kills (script_taken acts) (script_commands writes acts) }

shaped : (s : System Script) (name : List ℕ) (phase : Phase) (slots : List QuerySlot) (acts : List Action) (writes : List Pattern) (kills : Bool)
    → string_bytes s.name ≡ name → s.phase ≡ phase → s.query ≡ slots → s.body.actions.items ≡ acts → s.body.writes.items ≡ writes → s.body.kills ≡ kills
    → named s ≡ shape name phase slots acts writes kills
shaped s name phase slots acts writes kills n p q a w k = rw (n, p, q, a, w, k) refl

module _ (w : WorldState) (old : List (System Script)) (name : List ℕ) (phase : Phase) (text : List ℕ) (acts : List texts.WrittenAction) where
  -- one of the texts was refused, or memory was wanting
  pub refused_system : (why : Refusal) → (IsFalse (is_out_of_memory {A = NamedSystem} (Err why)) → ReadsSystem (reached w old) name phase text acts (Err why))
      → DeclaresSystem (reached w old) name phase text acts (Err why) (reached w old)
  refused_system OutOfMemory read = (refl, refl)
  refused_system why read = (Err why, read refl, refl, refl)

  pub refused_query : (why : Refusal) → ReadsQuery w text (Err why) → DeclaresSystem (reached w old) name phase text acts (Err why) (reached w old)
  refused_query why read = refused_system why (λ plain. (Err why, read, refl))

  module _ (slots : List QuerySlot) (query : ReadsQuery w text (Ok slots)) where
    body_refused : (why : Refusal) → ReadsBody w slots acts (Err why) → ReadsSystem (reached w old) name phase text acts (Err why)
    body_refused why (Err other, read, is) = let same : why ≡ other = cc in (Ok slots, query, (Err other, read, ap Err same))
    body_refused why (Ok these, read, fits) =
        (Ok slots, query, (Ok these, read, refused_unless slots these (first_action_refusal slots these) why (Err why) _ (Err why) refl refl fits))

    pub refused_body : (why : Refusal) → (IsFalse (is_out_of_memory {A = Script} (Err why)) → ReadsBody w slots acts (Err why))
        → DeclaresSystem (reached w old) name phase text acts (Err why) (reached w old)
    refused_body OutOfMemory read = (refl, refl)
    refused_body why read = (Err why, body_refused why (read refl), refl, refl)

    -- what the texts name, where its name is refused or not
    named_of : (body : Script) (o : Option Refusal) → add_refusal old name ≡ o → ReadsBody w slots acts (Ok body)
        → (these : List Action) × IsScriptOf slots these body
        × ReadsSystem (reached w old) name phase text acts (unless o (Ok (script_system name phase slots these)))
    named_of body o at (Err why, read, is) = cc
    named_of body o at (Ok these, read, fits) =
        let (none, made) = fitting slots these (first_action_refusal slots these) body (Ok body) refl fits in
        let same : name_refusal (map named old) name ≡ o = refusal_so old name ∙ at in
        (these, made, (Ok slots, query, (Ok these, read, rw (none, same) refl)))

    -- its name was refused, or memory was wanting
    pub refused_name : (body : Script) (why : Refusal) → ReadsBody w slots acts (Ok body)
        → MatchOption (add_refusal old name) (why ≡ OutOfMemory) (λ other. why ≡ other)
        → DeclaresSystem (reached w old) name phase text acts (Err why) (reached w old)
    refused_name body why read refused = which (add_refusal old name) refl refused where
      which : (o : Option Refusal) → add_refusal old name ≡ o → MatchOption o (why ≡ OutOfMemory) (λ other. why ≡ other)
          → DeclaresSystem (reached w old) name phase text acts (Err why) (reached w old)
      which None at is = rw is (refl, refl)
      which (Some other) at is =
          rw is (refused_system other (λ _. (named_of body (Some other) at read).2))

    -- it was added
    pub added_system : (body : Script) (new : List (System Script)) → ReadsBody w slots acts (Ok body)
        → MatchOption (add_refusal old name) ⊤ (λ _. ⊥) → IsAdded old name phase slots body new
        → DeclaresSystem (reached w old) name phase text acts (Ok done) (reached w new)
    added_system body new read none (s, is, n, p, q, b) = which (add_refusal old name) refl none where
      which : (o : Option Refusal) → add_refusal old name ≡ o → MatchOption o ⊤ (λ _. ⊥)
          → DeclaresSystem (reached w old) name phase text acts (Ok done) (reached w new)
      which (Some why) at none = absurd none
      which None at none =
          let (these, made, names) = named_of body None at read in
          let system = script_system name phase slots these in
          let same : named s ≡ system =
          shaped s name phase slots these (script_writes slots these) (list_any is_kill these) n p q (ap (λ (x : Script). x.actions.items) b ∙ made.actions_are)
          (ap (λ (x : Script). x.writes.items) b ∙ made.writes_are) (ap (λ (x : Script). x.kills) b ∙ made.kills_are) in
          let more : map named new ≡ map named old ++ system ∷ [] =
          ap (map named) is ∙ map-append named old (s ∷ []) ∙ ap (λ d. map named old ++ d ∷ []) same in
          (Ok system, names, refl, ap (λ ds. let t : ScriptState = record { world = w; systems = ds } in t) more)

-- ---- frames

models_so : (systems : List (System Script)) → map (λ d. d.system) (map named systems) ≡ map model_by systems
models_so [] = refl
models_so (s ∷ ss) = ap (λ ms. model_by s ∷ ms) (models_so ss)

-- a frame of the systems that are kept is one of those that were declared
pub frame_runs : (workers : ℕ) (w new : WorldState) (systems : List (System Script)) (x : Result FrameDone FrameStop)
    → IsFrameBy workers w (map model_by systems) x new → IfErr x (λ stop. IsWhy handles_taken recorded_by model_by w systems stop new)
    → StepReplies workers (reached w systems) step.frame (Ok (frame_reply x)) (reached new systems)
frame_runs workers w new systems (Ok r) runs why = (Ok r, inl (rw (models_so systems) runs, why, refl), refl)
frame_runs workers w new systems (Err stop) runs why = (Err stop, inl (rw (models_so systems) runs, (systems, refl, why), refl), refl)
