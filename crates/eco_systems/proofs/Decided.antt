-- The draws of a frame decide what it leads to, and one worker's draws are decided themselves.
use Rattle.eco_systems.proofs.Common.{◌≡◌, ℕ, ◌+◌, Bool, true, false, not, ◌&&◌, List, [], ◌∷◌, ◌++◌, length, refl, sym, ap}
use Rattle.eco_systems.proofs.Common.{◌∙◌, subst, IsTrue, true≢false, MatchBool, Result, arith, append_assoc, AllByRecursion, append_cancel_left}
use Rattle.eco_systems.proofs.Common.{list_all-append, Entity, Refusal, Meets, is_out_of_memory, Command, Applies, may_want, Runs, WorldState, first, second}
use Rattle.eco_systems.proofs.Common.{applies_settled, AreBatches, joined, AscendingRuns, BatchDraws, BatchRuns, Goes, InTurn, FrameOutcomes, all_drawn}
use Rattle.eco_systems.proofs.Common.{fresh_from, with_admitted, DrawsDecide, OneWorkerDecides, TakesOne, was_ample, in_order, BatchRecords, PiecesRecord}
use Rattle.eco_systems.proofs.Common.{RowsRecord, pieces_of, ValuedRow, valued_rows, SystemModel}
use Rattle.eco_systems.proofs.Frames.{all_in_order, all_joined}
use Rattle.eco_systems.proofs.FreshDraws.{fresh_split}
use Rattle.eco_systems.proofs.Lists.{joined_append}
use Rattle.eco_systems.proofs.OneCut.{batches_unique}

-- ---- recordings whose draws are beginnings of one list

-- where two lists that go on to one list begin with the same, what comes behind goes on to one list too
behind : {A : Type 0} (d e xs ys : List A) → d ≡ e → d ++ xs ≡ e ++ ys → xs ≡ ys
behind d e xs ys same whole = append_cancel_left e xs ys (ap (λ l. l ++ xs) (sym same) ∙ whole)

regroup : {A : Type 0} (d b x e c y : List A) → (d ++ b) ++ x ≡ (e ++ c) ++ y → d ++ (b ++ x) ≡ e ++ (c ++ y)
regroup d b x e c y h = sym (append_assoc d b x) ∙ h ∙ append_assoc e c y

rows_once : (s : SystemModel) → TakesOne s → (rows : List ValuedRow) (d e x y : List Entity) (c k : List Command)
    → RowsRecord s rows d c → RowsRecord s rows e k → d ++ x ≡ e ++ y → (d ≡ e) × (c ≡ k)
rows_once s one [] d e x y c k g h whole = (g.0 ∙ sym h.0, g.1 ∙ sym h.1)
rows_once s one (row ∷ rows) d e x y c k g h whole =
    let parts : g.0 ++ (g.1 ++ x) ≡ h.0 ++ (h.1 ++ y) = regroup g.0 g.1 x h.0 h.1 y (ap (λ l. l ++ x) (sym g.5) ∙ whole ∙ ap (λ l. l ++ y) h.5) in
    let mine : g.0 ≡ h.0 = one row g.0 h.0 (g.1 ++ x) (h.1 ++ y) g.3 h.3 parts in
    let rest = rows_once s one rows g.1 h.1 x y g.2 h.2 g.4 h.4 (behind g.0 h.0 (g.1 ++ x) (h.1 ++ y) mine parts) in
    (g.5 ∙ (λ i. mine i ++ rest.0 i) ∙ sym h.5, g.6 ∙ (λ i. s.records row (mine i) ++ rest.1 i) ∙ sym h.6)

pieces_once : (s : SystemModel) → TakesOne s → (pieces : List (List ValuedRow)) (ds es : List (List Entity)) (x y : List Entity) (c k : List Command)
    → PiecesRecord s pieces ds c → PiecesRecord s pieces es k → joined ds ++ x ≡ joined es ++ y → (ds ≡ es) × (c ≡ k)
pieces_once s one [] [] [] x y c k g h whole = (refl, g ∙ sym h)
pieces_once s one [] [] (e ∷ es) x y c k g h whole = absurd h
pieces_once s one (p ∷ ps) (d ∷ ds) [] x y c k g h whole = absurd h
pieces_once s one (p ∷ ps) (d ∷ ds) (e ∷ es) x y c k g h whole =
    let parts = regroup d (joined ds) x e (joined es) y whole in
    let mine = rows_once s one p d e (joined ds ++ x) (joined es ++ y) g.0 h.0 g.2 h.2 parts in
    let rest = pieces_once s one ps ds es x y g.1 h.1 g.3 h.3 (behind d e (joined ds ++ x) (joined es ++ y) mine.0 parts) in
    ((λ i. mine.0 i ∷ rest.0 i), g.4 ∙ (λ i. mine.1 i ++ rest.1 i) ∙ sym h.4)
pieces_once s one _ _ es x y c k g h whole = absurd g

batch_once : (w : WorldState) (ss : List SystemModel) (ds es : BatchDraws) (x y : List Entity) (c k : List Command) → AllByRecursion TakesOne ss
    → BatchRecords w ss ds c → BatchRecords w ss es k → all_drawn ds ++ x ≡ all_drawn es ++ y → (ds ≡ es) × (c ≡ k)
batch_once w [] [] [] x y c k one g h whole = (refl, g ∙ sym h)
batch_once w [] [] (e ∷ es) x y c k one g h whole = absurd h
batch_once w (s ∷ ss) (d ∷ ds) [] x y c k one g h whole = absurd h
batch_once w (s ∷ ss) (d ∷ ds) (e ∷ es) x y c k one g h whole =
    let parts = regroup (joined d) (all_drawn ds) x (joined e) (all_drawn es) y
    (ap (λ l. l ++ x) (sym (joined_append d (joined ds))) ∙ whole ∙ ap (λ l. l ++ y) (joined_append e (joined es))) in
    let mine = pieces_once s one.0 (pieces_of (valued_rows w s.slots)) d e (all_drawn ds ++ x) (all_drawn es ++ y) g.0 h.0 g.2 h.2 parts in
    let rest = batch_once w ss ds es x y g.1 h.1 one.1 g.3 h.3
    (behind (joined d) (joined e) (all_drawn ds ++ x) (all_drawn es ++ y) (ap joined mine.0) parts) in
    ((λ i. mine.0 i ∷ rest.0 i), g.4 ∙ (λ i. mine.1 i ++ rest.1 i) ∙ sym h.4)
batch_once w _ _ es x y c k one g h whole = absurd g

-- ---- runs in which no memory was wanting

done : (wanting : Bool) (P Q : Type 0) → IsTrue (not wanting) → MatchBool wanting P Q → Q
done true P Q ample h = absurd (true≢false (sym ample))
done false P Q ample h = h

step_once : (c : Command) (w : WorldState) (r q : Result (Unit {0}) Refusal) (new other : WorldState) → IsTrue (not (is_out_of_memory r))
    → IsTrue (not (is_out_of_memory q)) → Meets (Applies c w) (may_want c w) w r new → Meets (Applies c w) (may_want c w) w q other
    → (r ≡ q) × (new ≡ other)
step_once c w r q new other a b g h = (applies_settled c w).one r q new other (done (is_out_of_memory r) _ _ a g) (done (is_out_of_memory q) _ _ b h)

runs_decided : (cs : List Command) (w : WorldState) (rs qs : FrameOutcomes) (new other : WorldState) → IsTrue (was_ample rs) → IsTrue (was_ample qs)
    → Runs w cs rs new → Runs w cs qs other → (rs ≡ qs) × (new ≡ other)
runs_decided [] w [] [] new other a b g h = (refl, g ∙ sym h)
runs_decided [] w [] (q ∷ qs) new other a b g h = absurd h
runs_decided (c ∷ cs) w (r ∷ rs) [] new other a b g h = absurd h
runs_decided (c ∷ cs) w (r ∷ rs) (q ∷ qs) new other a b g h =
    let now = step_once c w r q g.0 h.0 (first (not (is_out_of_memory r)) _ a) (first (not (is_out_of_memory q)) _ b) g.1 h.1 in
    let later = runs_decided cs g.0 rs qs new other (second (not (is_out_of_memory r)) _ a) (second (not (is_out_of_memory q)) _ b) g.2
    (subst (λ m. Runs m cs qs other) (sym now.1) h.2) in
    ((λ i. now.0 i ∷ later.0 i), later.1)
runs_decided _ w _ qs new other a b g h = absurd g

-- a batch that is recorded on one world, whose draws go on to one list
batch_decided : (w : WorldState) (batch : List SystemModel) (ds es : BatchDraws) (x y : List Entity) (rs qs : FrameOutcomes) (new other : WorldState)
    → AllByRecursion TakesOne batch → IsTrue (was_ample rs) → IsTrue (was_ample qs) → all_drawn ds ++ x ≡ all_drawn es ++ y
    → BatchRuns w batch ds rs new → BatchRuns w batch es qs other → (ds ≡ es) × (rs ≡ qs) × (new ≡ other)
batch_decided w batch ds es x y rs qs new other one a b whole g h =
    let recorded = batch_once w batch ds es x y g.1 h.1 one g.2 h.2 whole in
    let run : Runs (with_admitted (length (all_drawn ds)) w) g.1 qs other =
    subst (λ cs. Runs (with_admitted (length (all_drawn ds)) w) cs qs other) (sym recorded.1)
    (subst (λ d. Runs (with_admitted (length (all_drawn d)) w) h.1 qs other) (sym recorded.0) h.3) in
    let ran = runs_decided g.1 (with_admitted (length (all_drawn ds)) w) rs qs new other a b g.3 run in
    (recorded.0, ran.0, ran.1)

-- ---- batch after batch

abbrev AllFit : (BatchDraws → BatchDraws → Type 0) → List BatchDraws → List BatchDraws → Type 0
AllFit Fits [] es = Unit {0}
AllFit Fits (d ∷ ds) [] = Unit {0}
AllFit Fits (d ∷ ds) (e ∷ es) = Fits d e × AllFit Fits ds es

module _ (Way : WorldState → List SystemModel → BatchDraws → FrameOutcomes → WorldState → Type 0) (Fits : BatchDraws → BatchDraws → Type 0)
    (once : (w : WorldState) (batch : List SystemModel) (d e : BatchDraws) (rs qs : FrameOutcomes) (new other : WorldState) → AllByRecursion TakesOne batch
    → Fits d e
    → IsTrue (was_ample rs) → IsTrue (was_ample qs) → Way w batch d rs new → Way w batch e qs other
    → (d ≡ e) × (rs ≡ qs) × (new ≡ other)) where
  turns_once : (batches : List (List SystemModel)) (w : WorldState) (ds es : List BatchDraws) (rs qs : FrameOutcomes) (new other : WorldState)
      → AllByRecursion (AllByRecursion TakesOne) batches → AllFit Fits ds es → IsTrue (was_ample rs) → IsTrue (was_ample qs)
      → InTurn Way w batches ds rs new → InTurn Way w batches es qs other → (ds ≡ es) × (rs ≡ qs) × (new ≡ other)
  turns_once [] w [] [] rs qs new other one fit a b g h = (refl, g.0 ∙ sym h.0, g.1 ∙ sym h.1)
  turns_once [] w [] (e ∷ es) rs qs new other one fit a b g h = absurd h
  turns_once (t ∷ ts) w (d ∷ ds) [] rs qs new other one fit a b g h = absurd h
  turns_once (t ∷ ts) w (d ∷ ds) (e ∷ es) rs qs new other one fit a b g h =
      let left : IsTrue (was_ample g.0 && was_ample g.1) = sym (list_all-append (λ r. not (is_out_of_memory r)) g.0 g.1) ∙ ap was_ample (sym g.5) ∙ a in
      let right : IsTrue (was_ample h.0 && was_ample h.1) = sym (list_all-append (λ r. not (is_out_of_memory r)) h.0 h.1) ∙ ap was_ample (sym h.5) ∙ b in
      let now = once w t d e g.0 h.0 g.2 h.2 one.0 fit.0 (first (was_ample g.0) _ left) (first (was_ample h.0) _ right) g.3 h.3 in
      let later = turns_once ts g.2 ds es g.1 h.1 new other one.1 fit.1 (second (was_ample g.0) _ left) (second (was_ample h.0) _ right) g.4
      (subst (λ m. InTurn Way m ts es h.1 other) (sym now.2) h.4) in
      ((λ i. now.0 i ∷ later.0 i), g.5 ∙ (λ i. now.1 i ++ later.1 i) ∙ sym h.5, later.2)
  turns_once _ w _ es rs qs new other one fit a b g h = absurd g

  -- all batches that there are
  goes_once : (w : WorldState) (systems : List SystemModel) (ds es : List BatchDraws) (rs qs : FrameOutcomes) (new other : WorldState)
      → AllByRecursion TakesOne systems → AllFit Fits ds es → IsTrue (was_ample rs) → IsTrue (was_ample qs)
      → Goes Way w systems ds rs new → Goes Way w systems es qs other → (ds ≡ es) × (rs ≡ qs) × (new ≡ other)
  goes_once w systems ds es rs qs new other one fit a b g h =
      turns_once g.0 w ds es rs qs new other (of_batches g.0 g.1) fit a b g.2
      (subst (λ batches. InTurn Way w batches es qs other) (batches_unique w (in_order systems) h.0 g.0 h.1 g.1) h.2)
    where
      of_batches : (batches : List (List SystemModel)) → AreBatches w (in_order systems) batches → AllByRecursion (AllByRecursion TakesOne) batches
      of_batches [] cut = tt
      of_batches ([] ∷ ts) cut = absurd cut
      of_batches ((s ∷ t) ∷ ts) cut = all_joined TakesOne ((s ∷ t) ∷ ts) (subst (AllByRecursion TakesOne) cut.0 (all_in_order TakesOne systems one))

-- the draws are given
pub draws_decide : DrawsDecide
draws_decide w systems draws outcomes others new other one a b g h =
    let all = goes_once BatchRuns (λ d e. d ≡ e)
    (λ w batch d e rs qs new other one same a b g h. batch_decided w batch d e [] [] rs qs new other one a b (ap (λ l. all_drawn l ++ []) same) g h)
    w systems draws draws outcomes others new other one (all_same draws) a b g h in
    (all.1, all.2)
  where
    all_same : (ds : List BatchDraws) → AllFit (λ d e. d ≡ e) ds ds
    all_same [] = tt
    all_same (d ∷ ds) = (refl, all_same ds)

-- the draws ascend, so they go on to one list
ascending_once : (w : WorldState) (batch : List SystemModel) (d e : BatchDraws) (rs qs : FrameOutcomes) (new other : WorldState)
    → AllByRecursion TakesOne batch
    → IsTrue (was_ample rs) → IsTrue (was_ample qs) → AscendingRuns w batch d rs new → AscendingRuns w batch e qs other
    → (d ≡ e) × (rs ≡ qs) × (new ≡ other)
ascending_once w batch d e rs qs new other one a b g h =
    let known : ℕ = length w.indices in
    let m : ℕ = length (all_drawn d) in
    let n : ℕ = length (all_drawn e) in
    let swapped : m + n ≡ n + m = omega arith in
    batch_decided w batch d e (fresh_from (known + m) n) (fresh_from (known + n) m) rs qs new other one a b
    (ap (λ l. l ++ fresh_from (known + m) n) g.1 ∙ sym (fresh_split known m n) ∙ ap (fresh_from known) swapped ∙ fresh_split known n m
    ∙ ap (λ l. l ++ fresh_from (known + n) m) (sym h.1)) g.0 h.0

pub one_worker_decides : OneWorkerDecides
one_worker_decides w systems draws drawn_others outcomes others new other one a b g h =
    goes_once AscendingRuns (λ d e. Unit {0})
    (λ w batch d e rs qs new other one fit a b g h. ascending_once w batch d e rs qs new other one a b g h)
    w systems draws drawn_others outcomes others new other one (any_fit draws drawn_others) a b g h
  where
    any_fit : (ds es : List BatchDraws) → AllFit (λ d e. Unit {0}) ds es
    any_fit [] es = tt
    any_fit (d ∷ ds) [] = tt
    any_fit (d ∷ ds) (e ∷ es) = (tt, any_fit ds es)
