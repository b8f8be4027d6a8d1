-- Batches that ran one after another, and one more.
use Rattle.eco_frame.proofs.Common.{◌≡◌, ℕ, ◌+◌, List, [], ◌∷◌, ◌++◌, length, map, take, vec_len, refl, sym, ap, ◌∙◌, subst}
use Rattle.eco_frame.proofs.Common.{append_assoc, arith, length-append, append-nil, WorldState, joined, BatchDraws, InTurn, FrameOutcomes, all_drawn}
use Rattle.eco_frame.proofs.Common.{SystemModel, HasRun, HaveRun, RunsBy, drawn_in, Progress}

module _ (Goes : WorldState → List SystemModel → BatchDraws → FrameOutcomes → WorldState → Type 0) where
  -- one batch more goes
  turn_more : (w : WorldState) (bs : List (List SystemModel)) (ds : List BatchDraws) (os : FrameOutcomes) (mid : WorldState) (b : List SystemModel)
      (d : BatchDraws) (o : FrameOutcomes) (new : WorldState) → InTurn Goes w bs ds os mid → Goes mid b d o new
      → InTurn Goes w (bs ++ b ∷ []) (ds ++ d ∷ []) (os ++ o) new
  turn_more w [] [] os mid b d o new h g =
      (o, [], new, subst (λ m. Goes m b d o new) h.1 g, (refl, refl), ap (λ l. l ++ o) h.0 ∙ sym (append-nil o))
  turn_more w [] (x ∷ ds) os mid b d o new h g = absurd h
  turn_more w (x ∷ bs) [] os mid b d o new h g = absurd h
  turn_more w (x ∷ bs) (y ∷ ds) os mid b d o new h g =
      (h.0, h.1 ++ o, h.2, h.3, turn_more h.2 bs ds h.1 mid b d o new h.4 g, ap (λ l. l ++ o) h.5 ∙ append_assoc h.0 h.1 o)

module _ (One Other : WorldState → List SystemModel → BatchDraws → FrameOutcomes → WorldState → Type 0)
    (weaker : (w : WorldState) (b : List SystemModel) (d : BatchDraws) (o : FrameOutcomes) (new : WorldState) → One w b d o new → Other w b d o new) where
  -- batches that go in one way go in the other
  pub turns_weaker : (w : WorldState) (bs : List (List SystemModel)) (ds : List BatchDraws) (os : FrameOutcomes) (new : WorldState)
      → InTurn One w bs ds os new → InTurn Other w bs ds os new
  turns_weaker w [] [] os new h = h
  turns_weaker w [] (x ∷ ds) os new h = absurd h
  turns_weaker w (b ∷ bs) [] os new h = absurd h
  turns_weaker w (b ∷ bs) (d ∷ ds) os new h = (h.0, h.1, h.2, weaker w b d h.0 h.2 h.3, turns_weaker h.2 bs ds h.1 new h.4, h.5)

pub joined_append : {A : Type 0} (xss : List (List A)) (xs : List A) → joined (xss ++ xs ∷ []) ≡ joined xss ++ xs
joined_append [] xs = append-nil xs
joined_append (x ∷ xss) xs = ap (λ l. x ++ l) (joined_append xss xs) ∙ sym (append_assoc x (joined xss) xs)

drawn_more : (ds : List BatchDraws) (d : BatchDraws) → drawn_in (ds ++ d ∷ []) ≡ drawn_in ds + length (all_drawn d)
drawn_more [] d = omega arith
drawn_more (x ∷ ds) d = let h = drawn_more ds d in omega (arith, h)

-- nothing ran yet
pub none_run : (workers : ℕ) (w : WorldState) (p : Progress) → p.reports.items ≡ [] → p.commands ≡ 0 → p.drawn ≡ 0 → HaveRun workers w [] p w
none_run workers w p none commands draws = record {
  draws = [];
  run = (ap joined none, refl);
  count = ap length none;
  drawn = draws;
  counted = commands ∙ sym (ap (λ l. length (joined l)) none);
}

-- one batch more ran
pub run_more : (workers : ℕ) (w mid new : WorldState) (bs : List (List SystemModel)) (b : List SystemModel) (before after : Progress)
    → HaveRun workers w bs before mid → HasRun workers mid b before after new → HaveRun workers w (bs ++ b ∷ []) after new
run_more workers w mid new bs b before after h g =
    let outcomes = ap joined g.reports ∙ joined_append before.reports.items g.outcomes in
    let len = ap length outcomes ∙ length-append (joined before.reports.items) g.outcomes in
    let long = ap length g.reports ∙ length-append before.reports.items (g.outcomes ∷ []) in
    let draws = length-append h.draws (g.draws ∷ []) in
    let more = drawn_more h.draws g.draws in
    let count = h.count in
    let drawn_before = h.drawn in
    let drawn_now = g.drawn in
    let counted = h.counted in
    let commands = g.commands in
    record {
      draws = h.draws ++ g.draws ∷ [];
      run = subst (λ os. InTurn (RunsBy workers) w (bs ++ b ∷ []) (h.draws ++ g.draws ∷ []) os new) (sym outcomes)
          (turn_more (RunsBy workers) w bs h.draws (joined before.reports.items) mid b g.draws g.outcomes new h.run g.runs);
      count = omega (arith, long, draws, count);
      drawn = omega (arith, more, drawn_before, drawn_now);
      counted = omega (arith, counted, commands, len);
    }

-- a batch that is refused changes nothing of what ran
pub run_stays : {X : Type 0} (workers : ℕ) (w mid new : WorldState) (f : X → List SystemModel) (bs : List X) (k : ℕ) (before after : Progress)
    → after ≡ before → new ≡ mid → length before.reports.items ≡ k → HaveRun workers w (map f (take k bs)) before mid
    → HaveRun workers w (map f (take (vec_len after.reports) bs)) after new
run_stays workers w mid new f bs k before after same still count run =
    let long : vec_len after.reports ≡ k = ap (λ (p : Progress). vec_len p.reports) same ∙ before.reports.ok.0 ∙ count in
    subst (λ v. HaveRun workers w (map f (take (vec_len after.reports) bs)) after v) (sym still)
    (subst (λ p. HaveRun workers w (map f (take (vec_len after.reports) bs)) p mid) (sym same)
    (subst (λ n. HaveRun workers w (map f (take n bs)) before mid) (sym long) run))
