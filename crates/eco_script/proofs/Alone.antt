-- Scripts of one worker, whose frames run to their end.
use Rattle.eco_script.proofs.Common.{◌≡◌, ℕ, ◌+◌, true, false, true≢false, inl, inr, List, [], ◌∷◌, ◌++◌, length, map, refl, sym, ap}
use Rattle.eco_script.proofs.Common.{subst, ◌∙◌, Option, Some, None, Result, Ok, Err, IsFalse, IsTrue, MatchBool, or_parts, AllByRecursion, list_any}
use Rattle.eco_script.proofs.Common.{Refusal, is_out_of_memory, Phase, FrameOutcomes, FrameDone, drawn_in, ok_map, ReadsSystem, Reply, RunsFrame, StepReplies}
use Rattle.eco_script.proofs.Common.{done, framed, unless, with_declared, NamedSystem, ScriptState, name_refusal, script_system, TextInMemory, TextToEnd}
use Rattle.eco_script.proofs.Common.{has_stopped, has_wanted, step_lines, HaveOneText}
use Rattle.eco_systems.specs.Laws.{OneWorkerDecides, TakesOne, was_ample}
use Rattle.eco_bodies.specs.Actions.{first_action_refusal}
use Rattle.eco_bodies.specs.Laws.{ScriptsTakeOne}
use Rattle.eco_script.proofs.Determined.{Laws, step_once, text_once}
use Rattle.eco_steps.specs.Actions as texts
use Rattle.eco_steps.specs.Steps as step

-- ---- systems that were declared

-- each of them takes one front of what there is to draw
abbrev TakeOne : List NamedSystem → Type 0
TakeOne systems = AllByRecursion TakesOne (map (λ d. d.system) systems)

one_more : (systems : List NamedSystem) (more : NamedSystem) → TakeOne systems → TakesOne more.system → TakeOne (systems ++ more ∷ [])
one_more [] more all one = (one, tt)
one_more (s ∷ ss) more all one = (all.0, one_more ss more all.1 one)

not_refused : {A : Type 0} (o : Option Refusal) (x : A) (r : Result A Refusal) → Ok x ≡ unless o r → Ok x ≡ r
not_refused None x r is = is
not_refused (Some why) x r is = cc

module _ (one : ScriptsTakeOne) (s : ScriptState) (all : TakeOne s.systems) where
  with_one_more : (name : List ℕ) (phase : Phase) (text : List ℕ) (acts : List texts.WrittenAction) (d : Result NamedSystem Refusal)
      → ReadsSystem s name phase text acts d → TakeOne (with_declared s d).systems
  with_one_more name phase text acts (Err why) reads = all
  with_one_more name phase text acts (Ok system) (Err why, q, is) = cc
  with_one_more name phase text acts (Ok system) (Ok slots, q, (Err why, a, is)) = cc
  with_one_more name phase text acts (Ok system) (Ok slots, q, (Ok own, a, is)) =
      let named = script_system name phase slots own in
      let other = name_refusal s.systems name in
      let fit : Ok system ≡ unless other (Ok named) = not_refused (first_action_refusal slots own) system (unless other (Ok named)) is in
      let made : Ok system ≡ Ok named = not_refused other system (Ok named) fit in
      let same : named ≡ system = cc in
      one_more s.systems system all (subst (λ (d : NamedSystem). TakesOne d.system) same (one own))

  step_keeps_one : (t : step.WrittenStep) (r : Result Reply Refusal) (new : ScriptState) → StepReplies 1 s t r new → TakeOne new.systems
  step_keeps_one (step.system name phase text acts) r new h =
      elim (is_out_of_memory r) as (λ b. MatchBool b (IsTrue true × (new ≡ s))
      ((d : Result NamedSystem Refusal) × ReadsSystem s name phase text acts d × (r ≡ ok_map (λ _. done) d) × (new ≡ with_declared s d))
      → TakeOne new.systems) [
        | true ↦ λ k. subst (λ (v : ScriptState). TakeOne v.systems) (sym k.1) all
        | false ↦ λ (d, reads, says, is). subst (λ (v : ScriptState). TakeOne v.systems) (sym is) (with_one_more name phase text acts d reads)
      ] h
  step_keeps_one step.frame r new (x, inl h, is) = subst TakeOne (sym h.2) all
  step_keeps_one step.frame r new (x, inr h, is) = subst (λ (v : ScriptState). TakeOne v.systems) (sym h.1) all
  step_keeps_one t r new h = subst TakeOne (sym h.1) all

-- ---- frames

ample : (outcomes : FrameOutcomes) → IsFalse (list_any is_out_of_memory outcomes) → IsTrue (was_ample outcomes)
ample [] none = refl
ample (o ∷ os) none =
    let (one, others) = or_parts (is_out_of_memory o) (list_any is_out_of_memory os) none in
    rw one (ample os others)

done_so : (r q : FrameDone) → r.batches ≡ q.batches → r.outcomes ≡ q.outcomes → r.drawn ≡ q.drawn → r ≡ q
done_so r q a b c = rw (a, b, c) refl

module _ (decides : OneWorkerDecides) (s : ScriptState) (all : TakeOne s.systems) where
  -- of frames that ran to their end
  whole_once : (r q : FrameDone) (new other : ScriptState) → IsFalse (list_any is_out_of_memory r.outcomes) → IsFalse (list_any is_out_of_memory q.outcomes)
      → RunsFrame 1 s (Ok r) new → RunsFrame 1 s (Ok q) other → (r ≡ q) × (new ≡ other)
  whole_once r q new other f g (p, why, is) (h, reason, at) =
      let (ds, ran, count, drawn) = p.alone refl in
      let (es, went, long, taken) = h.alone refl in
      let (draws, outcomes, world) = decides s.world (map (λ d. d.system) s.systems) ds es r.outcomes q.outcomes new.world other.world all
      (ample r.outcomes f) (ample q.outcomes g) ran went in (
        done_so r q (count ∙ ap length draws ∙ sym long) outcomes (drawn ∙ ap drawn_in draws ∙ sym taken),
        state_so new other world (is ∙ sym at),
      ) where
        state_so : (a b : ScriptState) → a.world ≡ b.world → a.systems ≡ b.systems → a ≡ b
        state_so a b w d = rw (w, d) refl

  frame_once : (r q : Result Reply Refusal) (new other : ScriptState) → IsFalse (has_wanted r) → IsFalse (has_wanted q) → IsFalse (has_stopped r)
      → IsFalse (has_stopped q) → StepReplies 1 s step.frame r new → StepReplies 1 s step.frame q other → (r ≡ q) × (new ≡ other)
  frame_once r q new other f g m n (Err stop, p, is) h = absurd (true≢false (ap has_stopped (sym is) ∙ m))
  frame_once r q new other f g m n (Ok x, inr p, is) h = cc
  frame_once r q new other f g m n (Ok x, inl p, is) (Err stop, h, at) = absurd (true≢false (ap has_stopped (sym at) ∙ n))
  frame_once r q new other f g m n (Ok x, inl p, is) (Ok y, inr h, at) = cc
  frame_once r q new other f g m n (Ok x, inl p, is) (Ok y, inl h, at) =
      let (same, end) = whole_once x y new other (ap has_wanted (sym is) ∙ f) (ap has_wanted (sym at) ∙ g) p h in
      (is ∙ ap (λ z. Ok (framed z)) same ∙ sym at, end)

  step_alone : Laws → (t : step.WrittenStep) (r q : Result Reply Refusal) (new other : ScriptState) → IsFalse (has_wanted r) → IsFalse (has_wanted q)
      → IsFalse (has_stopped r) → IsFalse (has_stopped q) → StepReplies 1 s t r new → StepReplies 1 s t q other → (r ≡ q) × (new ≡ other)
  step_alone l step.frame r q new other f g m n p h = frame_once r q new other f g m n p h
  step_alone l t r q new other f g m n p h = step_once l s 1 1 t refl r q new other f g p h

-- ---- texts

text_alone : ScriptsTakeOne → Laws → OneWorkerDecides → (s : ScriptState) → TakeOne s.systems → (ss : List step.WrittenStep) (t u : List ℕ) (e f : ScriptState)
    → TextToEnd 1 s ss t e → TextToEnd 1 s ss u f → (t ≡ u) × (e ≡ f)
text_alone takes l decides s all [] t u e f (p, q) (h, k) = (p ∙ sym h, q ∙ sym k)
text_alone takes l decides s all (x ∷ xs) t u e f (a, rest, m, (r, does, v, is), more, p) (b, other, n, (q, goes, y, at), less, h) =
    let (found, ended) = or_parts (has_wanted r) (has_stopped r) v in
    let (sought, halted) = or_parts (has_wanted q) (has_stopped q) y in
    let (one, mid) = step_alone decides s all l x r q m n found sought ended halted does goes in
    let lines : a ≡ b = is ∙ ap (λ k. step_lines k.world r) mid ∙ ap (step_lines n.world) one ∙ sym at in
    let (same, end) = text_alone takes l decides m (step_keeps_one takes s all x r m does) xs rest other e f more
    (subst (λ k. TextToEnd 1 k xs other f) (sym mid) less) in
    (p ∙ ap (λ k. k ++ rest) lines ∙ ap (λ k. b ++ k) same ∙ sym h, end)

pub to_end_in_memory : (workers : ℕ) (s : ScriptState) (ss : List step.WrittenStep) (t : List ℕ) (e : ScriptState) → TextToEnd workers s ss t e
    → TextInMemory workers s ss t e
to_end_in_memory workers s [] t e h = h
to_end_in_memory workers s (x ∷ xs) t e (a, rest, m, (r, p, f, is), more, h) =
    (a, rest, m, (r, p, (or_parts (has_wanted r) (has_stopped r) f).0, is), to_end_in_memory workers m xs rest e more, h)

pub texts_once : ScriptsTakeOne → OneWorkerDecides → Laws → HaveOneText
texts_once takes decides l = record {
  frameless = text_once l;
  alone = λ script. text_alone takes l decides _ tt script.steps;
}
