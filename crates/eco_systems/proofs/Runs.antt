-- What the commands of a system leave as it was.
use Rattle.eco_systems.proofs.Common.{◌≡◌, List, [], ◌∷◌, ◌++◌, refl, sym, ap, ◌∙◌, subst, IsTrue, ◌⊎◌, inl, inr, AllByRecursion}
use Rattle.eco_systems.proofs.Common.{Entity, Id, Command, may_want, Runs, WorldState, has, Disturbs, FrameOutcomes, RowsRecord, PiecesRecord, Records}
use Rattle.eco_systems.proofs.Common.{pieces_of, ValuedRow, valued_rows, SystemModel, IsLawfulSystem, IsDeclared, system_reads, matches_one, IsTraitWriter}
use Rattle.eco_systems.proofs.Covered.{IsTraitId, TraitsWithin, Written, applies_effect, no_traits, read_untouched}
use Rattle.eco_systems.proofs.Follows.{meets}
use Rattle.eco_systems.proofs.Common.{all_append}
use Rattle.eco_systems.proofs.Same.{LooksSame}
use Rattle.eco_systems.proofs.Steps.{Effect, effect_itself, effect_then}

-- a run of two lists is a run after a run
pub record Split (cs ds : List Command) (w new : WorldState) (rs : FrameOutcomes) : Type 0 where
  pub now : FrameOutcomes
  pub later : FrameOutcomes
  pub mid : WorldState
  pub first_run : Runs w cs now mid
  pub second_run : Runs mid ds later new
  pub outcomes : rs ≡ now ++ later

pub runs_split : (cs ds : List Command) (w new : WorldState) (rs : FrameOutcomes) → Runs w (cs ++ ds) rs new → Split cs ds w new rs
runs_split [] ds w new rs h = record { now = []; later = rs; mid = w; first_run = refl; second_run = h; outcomes = refl }
runs_split (c ∷ cs) ds w new [] h = absurd h
runs_split (c ∷ cs) ds w new (r ∷ rs) h =
    let rest = runs_split cs ds h.0 new rs h.2 in
    record {
      now = r ∷ rest.now;
      later = rest.later;
      mid = rest.mid;
      first_run = (h.0, h.1, rest.first_run);
      second_run = rest.second_run;
      outcomes =
          ap (λ os. r ∷ os) rest.outcomes;
    }

-- ---- what a system records is what it declares

module _ (s : SystemModel) (law : IsLawfulSystem s) where
  rows_declared : (rows : List ValuedRow) (draws : List Entity) (commands : List Command) → RowsRecord s rows draws commands →
      AllByRecursion (IsDeclared s.writes s.kills) commands
  rows_declared [] draws commands h = subst (AllByRecursion (IsDeclared s.writes s.kills)) (sym h.1) tt
  rows_declared (row ∷ rows) draws commands h =
      subst (AllByRecursion (IsDeclared s.writes s.kills)) (sym h.6)
      (all_append (IsDeclared s.writes s.kills) (s.records row h.0) h.2 (law.declared row h.0 h.3) (rows_declared rows h.1 h.2 h.4))

  pieces_declared : (pieces : List (List ValuedRow)) (draws : List (List Entity)) (commands : List Command) → PiecesRecord s pieces draws commands →
      AllByRecursion (IsDeclared s.writes s.kills) commands
  pieces_declared [] [] commands h = subst (AllByRecursion (IsDeclared s.writes s.kills)) (sym h) tt
  pieces_declared (p ∷ ps) (d ∷ ds) commands h =
      subst (AllByRecursion (IsDeclared s.writes s.kills)) (sym h.4)
      (all_append (IsDeclared s.writes s.kills) h.0 h.1 (rows_declared p d h.0 h.2) (pieces_declared ps ds h.1 h.3))
  pieces_declared _ _ commands h = absurd h

  pub records_declared : (w : WorldState) (draws : List (List Entity)) (commands : List Command) → Records w s draws commands →
      AllByRecursion (IsDeclared s.writes s.kills) commands
  records_declared w draws commands h = pieces_declared (pieces_of (valued_rows w s.slots)) draws commands h

-- ---- the commands of a system that writes no traits

module _ (start : WorldState) (s : SystemModel) (plain : IsTraitWriter start s → ⊥) where
  -- they change what is written, and give no traits
  abbrev SystemEffect : WorldState → WorldState → Type 0
  SystemEffect w new = Effect s.kills w new (Written start s.writes) (λ j. IsTraitId start.edition j → ⊥)

  traits_after : {w new : WorldState} → SystemEffect w new → TraitsWithin start w → TraitsWithin start new
  traits_after {w = w} x within = (x.edition ∙ within.0, λ y j trait h. had y j trait (x.gains y j h))
    where
      had : (y : Entity) (j : Id) → IsTraitId start.edition j → IsTrue (has w y j) ⊎ (IsTraitId start.edition j → ⊥) → IsTrue (has start y j)
      had y j trait (inl a) = within.1 y j trait a
      had y j trait (inr none) = absurd (none trait)

  runs_effect : (cs : List Command) (w : WorldState) (rs : FrameOutcomes) (new : WorldState) → AllByRecursion (IsDeclared s.writes s.kills) cs →
      TraitsWithin start w → Runs w cs rs new → SystemEffect w new
  runs_effect [] w [] new d within h = rw h effect_itself
  runs_effect (c ∷ cs) w (r ∷ rs) new d within h =
      let one = (meets _ (may_want c w) w effect_itself (applies_effect start s.writes (no_traits start s plain) w within c d.0)).at r h.0 h.1 in
      effect_then one (runs_effect cs h.0 rs new d.1 (traits_after one within) h.2)
  runs_effect _ w _ new d within h = absurd h

  pub runs_traits : (cs : List Command) (w : WorldState) (rs : FrameOutcomes) (new : WorldState) → AllByRecursion (IsDeclared s.writes s.kills) cs →
      TraitsWithin start w → Runs w cs rs new → TraitsWithin start new
  runs_traits cs w rs new d within h = traits_after (runs_effect cs w rs new d within h) within

  -- and of one that kills nothing and disturbs no read of t they leave what t sees
  pub runs_same : (t : SystemModel) → (IsTrue s.kills → ⊥) → (Disturbs start s t → ⊥)
      → (cs : List Command) (w : WorldState) (rs : FrameOutcomes) (new : WorldState)
      → AllByRecursion (IsDeclared s.writes s.kills) cs → TraitsWithin start w → Runs w cs rs new → LooksSame (matches_one (system_reads t)) w new
  runs_same t tame apart cs w rs new d within h =
      let effect = runs_effect cs w rs new d within h in
      record { edition = effect.edition; arity = effect.arity tame; held = λ x j m. effect.held tame x j (read_untouched start s t apart j m) }
