-- Frames that ran, and their reports.
use Rattle.eco_frame.proofs.Common.{◌≡◌, ℕ, zero, suc, ◌<◌, ◌≤◌, List, [], ◌∷◌, ◌++◌, length, map, take, drop, Result, Ok, Err}
use Rattle.eco_frame.proofs.Common.{refl, sym, ap, ◌∙◌, subst, arith, le_of_suc-le-suc, map-append, take-append-drop, take_all, AllByRecursion}
use Rattle.eco_frame.proofs.Common.{WorldState, AreBatches, joined, AscendingRuns, BatchDraws, BatchRuns, BatchRunsSolo, FrameOutcomes, FramesAreSolo}
use Rattle.eco_frame.proofs.Common.{StoppedAreSolo, in_order, IsLawfulSystem, SystemModel, ArePlaced, model_at, HasFewPieces, HaveRun, RunsBy, done_of}
use Rattle.eco_frame.proofs.Common.{FrameDone, Frames, IsFrameBy, Progress, FrameStop}
use Rattle.eco_ids.specs.Lawful.{IsLawful}
use Rattle.eco_frame.proofs.Turns.{turns_weaker}

map_twice : {V A X : Type 0} (f : A → X) (items : V → List A) (vs : List V) → map (λ v. map f (items v)) vs ≡ map (map f) (map items vs)
map_twice f items [] = refl
map_twice f items (v ∷ vs) = ap (λ l. map f (items v) ∷ l) (map_twice f items vs)

-- it stopped before its first batch
stopped_at_once : (Way : WorldState → List SystemModel → BatchDraws → FrameOutcomes → WorldState → Type 0) (w : WorldState)
    (systems : List SystemModel)
    (batches : List (List SystemModel)) → AreBatches w (in_order systems) batches → (stop : FrameStop) → stop.batches ≡ 0
    → Frames Way w systems (Err stop) w
stopped_at_once Way w systems batches h stop none = ([], [], ([], batches, h, (refl, refl), λ all. refl), none)

-- behind the first ones some are left
some_left : {A B : Type 0} (f : A → B) (xs : List A) (k : ℕ) → k < length xs → map f (drop k xs) ≡ [] → ⊥
some_left f [] k less none = omega (arith, less)
some_left f (x ∷ xs) zero less none = let long = ap length none in omega (arith, long)
some_left f (x ∷ xs) (suc k) less none = some_left f xs k (le_of_suc-le-suc less) none

module _ (workers : ℕ) (w new : WorldState) (systems : List SystemModel) {V : Type 0} (items : V → List ℕ) (batches : List V) (p : Progress) where
  -- all batches ran
  pub all_ran : ArePlaced w systems (map items batches) → HaveRun workers w (map (λ b. map (model_at systems) (items b)) batches) p new
      → Frames (RunsBy workers) w systems (Ok (done_of p)) new
  all_ran placed h =
      let shape = map_twice (model_at systems) items batches in
      (h.draws, (map (λ b. map (model_at systems) (items b)) batches, subst (AreBatches w (in_order systems)) (sym shape) placed.1, h.run), h.count, h.drawn)

  -- the first ones ran
  pub some_ran : (k : ℕ) (stop : FrameStop) → stop.batches ≡ length p.reports.items → k < length batches → ArePlaced w systems (map items batches)
      → HaveRun workers w (map (λ b. map (model_at systems) (items b)) (take k batches)) p new → Frames (RunsBy workers) w systems (Err stop) new
  some_ran k stop count less placed h =
      let f : V → List SystemModel = λ b. map (model_at systems) (items b) in
      let whole : map f (take k batches) ++ map f (drop k batches) ≡ map (map (model_at systems)) (map items batches) =
      sym (map-append f (take k batches) (drop k batches)) ∙ ap (map f) (take-append-drop k batches) ∙ map_twice (model_at systems) items batches in (
        h.draws,
        joined p.reports.items,
        (
          map f (take k batches),
          map f (drop k batches),
          subst (AreBatches w (in_order systems)) (sym whole) placed.1,
          h.run,
          λ none. absurd (some_left f batches k less none),
        ),
        count ∙ h.count,
      )

-- the same, as the code finds systems and batches
module _ (workers : ℕ) (w new : WorldState) {S V : Type 0} (f : S → SystemModel) (items : V → List ℕ)
    (own systems : List S) (those batches : List V) (p : Progress)
    (same : own ≡ systems) (alike : those ≡ batches) (placed : ArePlaced w (map f systems) (map items batches)) (n : ℕ)
    (ran : HaveRun workers w (map (λ b. map (model_at (map f own)) (items b)) (take n those)) p new) where
  found : HaveRun workers w (map (λ b. map (model_at (map f systems)) (items b)) (take n batches)) p new
  found = subst (λ bs. HaveRun workers w (map (λ b. map (model_at (map f systems)) (items b)) (take n bs)) p new) alike
      (subst (λ ss. HaveRun workers w (map (λ b. map (model_at (map f ss)) (items b)) (take n those)) p new) same ran)

  pub whole_frame : n ≡ length those → (r : FrameDone) → r ≡ done_of p → Frames (RunsBy workers) w (map f systems) (Ok r) new
  whole_frame all r is =
      let enough : length batches ≤ n = let long = ap length alike in omega (arith, all, long) in
      subst (λ x. Frames (RunsBy workers) w (map f systems) (Ok x) new) (sym is)
      (all_ran workers w new (map f systems) items batches p placed
      (subst (λ bs. HaveRun workers w (map (λ b. map (model_at (map f systems)) (items b)) bs) p new) (take_all n batches enough) found))

  pub stopped_frame : (stop : FrameStop) → stop.batches ≡ length p.reports.items → n < length those
      → Frames (RunsBy workers) w (map f systems) (Err stop) new
  stopped_frame stop count less =
      let within : n < length batches = let long = ap length alike in omega (arith, less, long) in
      some_ran workers w new (map f systems) items batches p n stop count within placed found

-- a frame whose batches go in one way is one whose batches go in the other
frames_weaker : (One Other : WorldState → List SystemModel → BatchDraws → FrameOutcomes → WorldState → Type 0)
    → ((w : WorldState) (b : List SystemModel) (d : BatchDraws) (o : FrameOutcomes) (new : WorldState) → One w b d o new → Other w b d o new)
    → (w : WorldState) (systems : List SystemModel) (r : Result FrameDone FrameStop) (new : WorldState)
    → Frames One w systems r new → Frames Other w systems r new
frames_weaker One Other weaker w systems (Ok r) new h =
    (h.0, (h.1.0, h.1.1, turns_weaker One Other weaker w h.1.0 h.0 r.outcomes new h.1.2), h.2, h.3)
frames_weaker One Other weaker w systems (Err s) new h =
    (h.0, h.1, (h.2.0, h.2.1, h.2.2, turns_weaker One Other weaker w h.2.0 h.0 h.1 new h.2.3, h.2.4), h.3)

-- a frame of lawful systems on a lawful world is the run of its systems one by one
solo_of : FramesAreSolo → StoppedAreSolo → (w : WorldState) (systems : List SystemModel) (r : Result FrameDone FrameStop) (new : WorldState)
    → IsLawful w → AllByRecursion IsLawfulSystem systems → Frames BatchRuns w systems r new → Frames BatchRunsSolo w systems r new
solo_of whole stopped w systems (Ok r) new lawful all h = (h.0, whole w systems h.0 r.outcomes new lawful all h.1, h.2, h.3)
solo_of whole stopped w systems (Err s) new lawful all h = (h.0, h.1, stopped w systems h.0 h.1 new lawful all h.2, h.3)

-- a batch of few pieces runs
abbrev FewRuns : WorldState → List SystemModel → BatchDraws → FrameOutcomes → WorldState → Type 0
FewRuns w batch draws outcomes new = BatchRuns w batch draws outcomes new × HasFewPieces w batch

-- a frame of lawful systems by so many workers on a lawful world may be read in each way
pub frame_by : FramesAreSolo → StoppedAreSolo → (workers : ℕ) (w : WorldState) (systems : List SystemModel) (r : Result FrameDone FrameStop)
    (new : WorldState)
    → IsLawful w → AllByRecursion IsLawfulSystem systems → Frames (RunsBy workers) w systems r new → IsFrameBy workers w systems r new
frame_by whole stopped workers w systems r new lawful all ran =
    let batches = frames_weaker (RunsBy workers) BatchRuns (λ v b d o n h. h.0) w systems r new ran in
    record {
      batches = batches;
      alone = λ one. frames_weaker (RunsBy workers) AscendingRuns (λ v b d o n h. (h.0, h.1 one)) w systems r new ran;
      solo = solo_of whole stopped w systems r new lawful all batches;
      few = frames_weaker (RunsBy workers) FewRuns (λ v b d o n h. (h.0, h.2)) w systems r new ran;
    }

-- and so may one that stopped before its first batch
pub frame_stopped_at_once : (workers : ℕ) (w : WorldState) (systems : List SystemModel) (batches : List (List SystemModel))
    → AreBatches w (in_order systems) batches → (stop : FrameStop) → stop.batches ≡ 0 → IsFrameBy workers w systems (Err stop) w
frame_stopped_at_once workers w systems batches h stop none = record {
  batches = stopped_at_once BatchRuns w systems batches h stop none;
  alone = λ one. stopped_at_once AscendingRuns w systems batches h stop none;
  solo = stopped_at_once BatchRunsSolo w systems batches h stop none;
  few = stopped_at_once FewRuns w systems batches h stop none;
}
