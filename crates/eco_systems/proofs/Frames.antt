-- Every frame is the run of its systems one by one.
use Rattle.eco_systems.proofs.Common.{◌≡◌, ℕ, Bool, true, false, cond, List, [], ◌∷◌, ◌++◌, length, refl, sym, ap, ◌∙◌, subst, IsTrue}
use Rattle.eco_systems.proofs.Common.{inl, inr, Option, option_map, unwrap_or, MatchBool, Ok, filter, flat_map, AllByRecursion, option_and_then, find}
use Rattle.eco_systems.proofs.Common.{append-nil, list_any-append, or_left, Entity, Id, NoMoreIds, may_admit, Indexed, admitted, IsLawful, pattern_matches}
use Rattle.eco_systems.proofs.Common.{Answers, Refuses, id_cmp, Command, Runs, WorldState, Record, entities, record_of, has_in, runs_lawful, reads, Disturbs}
use Rattle.eco_systems.proofs.Common.{Conflict, AreTogether, AreCut, AreBatches, joined, FrameOutcomes, BatchDraws, all_drawn, BatchRuns, OneByOne}
use Rattle.eco_systems.proofs.Common.{BatchRunsSolo, InTurn, with_admitted, FramesAreSolo, FramesKeepLawful, StoppedAreSolo, StoppedAtOnceChangesNothing}
use Rattle.eco_systems.proofs.Common.{in_order, phases, runs_in, Records, PiecesRecord, BatchRecords, pieces_of, SystemModel, IsDeclared, IsLawfulSystem}
use Rattle.eco_systems.proofs.Common.{system_reads, matches_one, IsTraitWriter, SomeOf}
use Rattle.eco_ids.proofs.Admits.{admits_lawful, more_free}
use Rattle.eco_systems.specs.declared.phase.Phase.{Phase}
use Rattle.eco_systems.proofs.Answers.{Sees, sees_reads}
use Rattle.eco_systems.proofs.Covered.{TraitsWithin}
use Rattle.eco_systems.proofs.Common.{all_append, some_left, some_right}
use Rattle.eco_systems.proofs.Rows.{rows_same}
use Rattle.eco_systems.proofs.Runs.{runs_split, records_declared, runs_traits, runs_same}
use Rattle.eco_systems.proofs.Same.{LooksSame, looks_then}

-- ---- indices that are admitted show in no answer

module _ (w : WorldState) (n : ℕ) where
  same_records : (x : Entity) → record_of (with_admitted n w) x ≡ record_of w x
  same_records x = more_free w.indices n x.index x.generation

  looks_admitted : (seen : Id → Bool) → LooksSame seen w (with_admitted n w)
  looks_admitted seen = record {
    edition = refl;
    arity = λ x. ap (λ (o : Option Record). option_and_then (λ r. r.arity) o) (same_records x);
    held = λ x j h. ap (λ (o : Option Record). find id_cmp j (unwrap_or (option_map (λ r. r.held) o) [])) (same_records x);
  }

  traits_admitted : (start : WorldState) → TraitsWithin start w → TraitsWithin start (with_admitted n w)
  traits_admitted start within = (within.0, λ x j trait h. within.1 x j trait (ap (λ o. has_in o j) (sym (same_records x)) ∙ h))

  pub lawful_admitted : IsTrue (may_admit (entities w) n) → IsLawful w → IsLawful (with_admitted n w)
  lawful_admitted room l =
      let after : Indexed Record = admitted n (entities w) in
      admits_lawful w n (Ok tt) (with_admitted n w) l
      (after, subst (λ b. MatchBool b (Answers tt after (Ok tt) after) (Refuses NoMoreIds (entities w) (Ok tt) after)) (sym room) (refl, refl), refl)

pub all_apart_append : {A : Type 0} (P : A → Type 0) (xs ys : List A) → AllByRecursion P (xs ++ ys) → AllByRecursion P xs × AllByRecursion P ys
all_apart_append P [] ys h = (tt, h)
all_apart_append P (x ∷ xs) ys h = let rest = all_apart_append P xs ys h.1 in ((h.0, rest.0), rest.1)

pub all_joined : {A : Type 0} (P : A → Type 0) (xss : List (List A)) → AllByRecursion P (joined xss) → AllByRecursion (AllByRecursion P) xss
all_joined P [] h = tt
all_joined P (xs ∷ xss) h = let parts = all_apart_append P xs (joined xss) h in (parts.0, all_joined P xss parts.1)

-- ---- what no conflict says

-- s, which stands before t in its batch, kills nothing, writes no traits and disturbs no read of t
record Apart (start : WorldState) (s t : SystemModel) : Type 0 where
  tame : IsTrue s.kills → ⊥
  plain : IsTraitWriter start s → ⊥
  apart : Disturbs start s t → ⊥

-- so it is with each two of a batch
abbrev Quiet : WorldState → List SystemModel → Type 0
Quiet start [] = Unit {0}
Quiet start (s ∷ ss) = AllByRecursion (Apart start s) ss × Quiet start ss

module _ (start : WorldState) (before : List SystemModel) where
  apart_from_rest : (inside rest : List SystemModel) (s : SystemModel) → ((P : SystemModel → Type 0) → P s → SomeOf P inside) →
      AreTogether start before inside rest → AllByRecursion (Apart start s) rest
  apart_from_rest inside [] s among h = tt
  apart_from_rest inside (t ∷ rest) s among h =
      let until : List SystemModel = before ++ inside ++ t ∷ [] in
      let none : Conflict start until s t → ⊥ = λ c. h.0 (among (λ x. Conflict start until x t) c) in (
        record {
          tame = λ k. none (inl k);
          plain = λ w. none
              (inr (inr (inl
              (some_left (IsTraitWriter start) (before ++ inside) (t ∷ [])
              (some_right (IsTraitWriter start) before inside (among (IsTraitWriter start) w))))));
          apart = λ d. none (inr (inr (inr d)));
        },
        apart_from_rest (inside ++ t ∷ []) rest s (λ P p. some_left P inside (t ∷ []) (among P p)) h.1,
      )

  quiet_together : (inside rest : List SystemModel) → AreTogether start before inside rest → Quiet start rest
  quiet_together inside [] h = tt
  quiet_together inside (t ∷ rest) h =
      (apart_from_rest (inside ++ t ∷ []) rest t (λ P p. some_right P inside (t ∷ []) (inl p)) h.1, quiet_together (inside ++ t ∷ []) rest h.1)

-- a batch of two and more begins on a world whose traits were there at the frame's start
abbrev Ready : WorldState → WorldState → List SystemModel → Type 0
Ready start w [] = Unit {0}
Ready start w (s ∷ []) = Unit {0}
Ready start w (s ∷ t ∷ ss) = TraitsWithin start w

-- ---- a batch

sees_own : (s : SystemModel) → Sees (matches_one (system_reads s)) s.slots
sees_own s = sees_reads (matches_one (system_reads s)) s.slots
    (λ i m. list_any-append (λ p. pattern_matches p i) (reads s.slots) s.body_reads ∙ or_left _ _ m)

-- what is recorded on a world is recorded on one that looks the same
records_same : (w new : WorldState) (s : SystemModel) (draws : List (List Entity)) (commands : List Command) → IsLawful w → IsLawful new
    → IsLawfulSystem s
    → LooksSame (matches_one (system_reads s)) w new → Records w s draws commands → Records new s draws commands
records_same w new s draws commands l m law p h =
    subst (λ rows. PiecesRecord s (pieces_of rows) draws commands)
    (sym (rows_same (matches_one (system_reads s)) w new s.slots l m law.positive (sees_own s) p)) h

-- without commands nothing happens
nothing_runs : (w : WorldState) (commands : List Command) (outcomes : FrameOutcomes) (new : WorldState) → commands ≡ [] → Runs w commands outcomes new →
    (outcomes ≡ []) × (new ≡ w)
nothing_runs w [] [] new none h = (refl, h)
nothing_runs w [] (r ∷ rs) new none h = absurd h
nothing_runs w (c ∷ cs) outcomes new none h = absurd cc

module _ (start : WorldState) where
  -- each sees the same on both worlds
  abbrev AllLook : WorldState → WorldState → List SystemModel → Type 0
  AllLook base cur = AllByRecursion (λ t. LooksSame (matches_one (system_reads t)) base cur)

  -- each later system sees the same after the commands of s
  looks_on : (base cur mid : WorldState) (s : SystemModel) (ss : List SystemModel) →
      ((t : SystemModel) → Apart start s t → LooksSame (matches_one (system_reads t)) cur mid)
      → AllByRecursion (Apart start s) ss → AllLook base cur ss → AllLook base mid ss
  looks_on base cur mid s [] on a p = tt
  looks_on base cur mid s (t ∷ ts) on a p = (looks_then p.0 (on t a.0), looks_on base cur mid s ts on a.1 p.1)

  ready : (w : WorldState) (ss : List SystemModel) → TraitsWithin start w → Ready start w ss
  ready w [] within = tt
  ready w (s ∷ []) within = tt
  ready w (s ∷ t ∷ ss) within = within

  -- and the batch goes on
  later : (base cur mid : WorldState) (s : SystemModel) (ss : List SystemModel) (commands : List Command) (now : FrameOutcomes)
      → AllByRecursion (IsDeclared s.writes s.kills) commands → Runs cur commands now mid → Ready start cur (s ∷ ss)
      → AllByRecursion (Apart start s) ss
      → AllLook base cur ss → Ready start mid ss × AllLook base mid ss
  later base cur mid s [] commands now declared run within a p = (tt, tt)
  later base cur mid s (t ∷ ts) commands now declared run within a p = (
    ready mid (t ∷ ts) (runs_traits start s (a.0).plain commands cur now mid declared within run),
    looks_on base cur mid s (t ∷ ts) (λ u apart. runs_same start s apart.plain u apart.tame apart.apart commands cur now mid declared within run) a p,
  )

  one_by_one : (base cur : WorldState) (ss : List SystemModel) (ds : BatchDraws) (commands : List Command) (outcomes : FrameOutcomes) (new : WorldState)
      → IsLawful base → IsLawful cur → AllByRecursion IsLawfulSystem ss → Quiet start ss → Ready start cur ss → AllLook base cur ss
      → BatchRecords base ss ds commands → Runs cur commands outcomes new → OneByOne cur ss ds outcomes new
  one_by_one base cur [] [] commands outcomes new l m laws quiet within same rec run = nothing_runs cur commands outcomes new rec run
  one_by_one base cur (s ∷ ss) (d ∷ ds) commands outcomes new l m laws quiet within same rec run =
      let split = runs_split rec.0 rec.1 cur new outcomes (subst (λ cs. Runs cur cs outcomes new) rec.4 run) in
      let declared = records_declared s laws.0 base d rec.0 rec.2 in
      let next = later base cur split.mid s ss rec.0 split.now declared split.first_run within quiet.0 same.1 in (
        rec.0,
        split.now,
        split.later,
        split.mid,
        records_same base cur s d rec.0 l m laws.0 same.0 rec.2,
        split.first_run,
        one_by_one base split.mid ss ds rec.1 split.later new l (runs_lawful rec.0 cur split.now split.mid m split.first_run) laws.1 quiet.1
            next.0 next.1 rec.3 split.second_run,
        split.outcomes,
      )
  one_by_one base cur _ _ commands outcomes new l m laws quiet within same rec run = absurd rec

  -- systems that write no traits give none
  batch_traits : (base cur : WorldState) (ss : List SystemModel) (ds : BatchDraws) (commands : List Command) (outcomes : FrameOutcomes) (new : WorldState)
      → AllByRecursion IsLawfulSystem ss → (SomeOf (IsTraitWriter start) ss → ⊥) → TraitsWithin start cur → BatchRecords base ss ds commands →
      Runs cur commands outcomes new → TraitsWithin start new
  batch_traits base cur [] [] commands outcomes new laws none within rec run = rw (nothing_runs cur commands outcomes new rec run).1 within
  batch_traits base cur (s ∷ ss) (d ∷ ds) commands outcomes new laws none within rec run =
      let split = runs_split rec.0 rec.1 cur new outcomes (subst (λ cs. Runs cur cs outcomes new) rec.4 run) in
      batch_traits base split.mid ss ds rec.1 split.later new laws.1 (λ x. none (inr x))
      (runs_traits start s (λ x. none (inl x)) rec.0 cur split.now split.mid (records_declared s laws.0 base d rec.0 rec.2) within split.first_run)
      rec.3 split.second_run
  batch_traits base cur _ _ commands outcomes new laws none within rec run = absurd rec

  ready_batch : (before batch : List SystemModel) (w : WorldState) → AreTogether start before [] batch →
      ((SomeOf (IsTraitWriter start) before → ⊥) → TraitsWithin start w) → Ready start w batch
  ready_batch before [] w h within = tt
  ready_batch before (s ∷ []) w h within = tt
  ready_batch before (s ∷ t ∷ ss) w h within =
      within (λ x. (h.1).0
      (inl (inr (inr (inl (some_left (IsTraitWriter start) (before ++ s ∷ []) (t ∷ []) (some_left (IsTraitWriter start) before (s ∷ []) x)))))))

  all_look : (w : WorldState) (n : ℕ) (ss : List SystemModel) → AllLook w (with_admitted n w) ss
  all_look w n [] = tt
  all_look w n (s ∷ ss) = (looks_admitted w n (matches_one (system_reads s)), all_look w n ss)

  -- a batch, and what it hands on
  record Handed (before batch : List SystemModel) (w : WorldState) (draws : BatchDraws) (outcomes : FrameOutcomes) (new : WorldState) : Type 0 where
    solo : BatchRunsSolo w batch draws outcomes new
    lawful : IsLawful new
    within : (SomeOf (IsTraitWriter start) (before ++ batch) → ⊥) → TraitsWithin start new

  one_batch : (before batch : List SystemModel) (w : WorldState) (draws : BatchDraws) (outcomes : FrameOutcomes) (new : WorldState)
      → IsLawful w → AllByRecursion IsLawfulSystem batch → AreTogether start before [] batch →
      ((SomeOf (IsTraitWriter start) before → ⊥) → TraitsWithin start w)
      → BatchRuns w batch draws outcomes new → Handed before batch w draws outcomes new
  one_batch before batch w draws outcomes new l laws together within h =
      let n : ℕ = length (all_drawn draws) in
      let m : IsLawful (with_admitted n w) = lawful_admitted w n (h.0).1 l in
      let handed : (SomeOf (IsTraitWriter start) before → ⊥)
      → TraitsWithin start (with_admitted n w) = λ none. traits_admitted w n start (within none) in
      record {
        solo = (
          h.0,
          one_by_one w (with_admitted n w) batch draws h.1 outcomes new l m laws (quiet_together start before [] batch together)
              (ready_batch before batch (with_admitted n w) together handed) (all_look w n batch) h.2 h.3,
        );
        lawful = runs_lawful h.1 (with_admitted n w) outcomes new m h.3;
        within = λ none.
            batch_traits w (with_admitted n w) batch draws h.1 outcomes new laws (λ x. none (some_right (IsTraitWriter start) before batch x))
            (handed (λ x. none (some_left (IsTraitWriter start) before batch x))) h.2 h.3;
      }

  -- ---- batch after batch

  in_turn : (batches rest : List (List SystemModel)) (before last : List SystemModel) (w : WorldState) (draws : List BatchDraws) (outcomes : FrameOutcomes)
      (new : WorldState)
      → IsLawful w → AllByRecursion (AllByRecursion IsLawfulSystem) batches → AreCut start before last (batches ++ rest) →
      ((SomeOf (IsTraitWriter start) before → ⊥) → TraitsWithin start w)
      → InTurn BatchRuns w batches draws outcomes new → InTurn BatchRunsSolo w batches draws outcomes new
  in_turn [] rest before last w [] outcomes new l laws areCut within h = h
  in_turn (b ∷ bs) rest before last w (d ∷ ds) outcomes new l laws areCut within h =
      let one = one_batch before b w d h.0 h.2 l laws.0 areCut.1 within h.3 in
      (h.0, h.1, h.2, one.solo, in_turn bs rest (before ++ b) b h.2 ds h.1 new one.lawful laws.1 areCut.2 one.within h.4, h.5)
  in_turn _ rest before last w _ outcomes new l laws areCut within h = absurd h

  all_in_turn : (batches rest : List (List SystemModel)) (systems : List SystemModel) (draws : List BatchDraws) (outcomes : FrameOutcomes) (new : WorldState)
      → IsLawful start → AllByRecursion IsLawfulSystem systems → AreBatches start systems (batches ++ rest) →
      InTurn BatchRuns start batches draws outcomes new → InTurn BatchRunsSolo start batches draws outcomes new
  all_in_turn [] rest systems [] outcomes new l laws cuts h = h
  all_in_turn ([] ∷ bs) rest systems ds outcomes new l laws cuts h = absurd cuts
  all_in_turn ((s ∷ b) ∷ bs) rest systems (d ∷ ds) outcomes new l laws cuts h =
      let each = all_apart_append (AllByRecursion IsLawfulSystem) ((s ∷ b) ∷ bs) rest
      (all_joined IsLawfulSystem ((s ∷ b) ∷ (bs ++ rest)) (subst (AllByRecursion IsLawfulSystem) cuts.0 laws)) in
      let one = one_batch [] (s ∷ b) start d h.0 h.2 l (each.0).0 cuts.1 (λ none. (refl, λ x j trait k. k)) h.3 in
      (h.0, h.1, h.2, one.solo, in_turn bs rest (s ∷ b) (s ∷ b) h.2 ds h.1 new one.lawful (each.0).1 cuts.2 one.within h.4, h.5)
  all_in_turn _ rest systems _ outcomes new l laws cuts h = absurd h

-- what holds of all systems holds of them in their order
all_kept : {A : Type 0} (P : A → Type 0) (q : A → Bool) (xs : List A) → AllByRecursion P xs → AllByRecursion P (filter q xs)
all_kept P q [] h = tt
all_kept P q (x ∷ xs) h = elim (q x) as (λ b. AllByRecursion P (cond b (x ∷ filter q xs) (filter q xs))) [
  | true ↦ (h.0, all_kept P q xs h.1)
  | false ↦ all_kept P q xs h.1
]

pub all_in_order : (P : SystemModel → Type 0) (systems : List SystemModel) → AllByRecursion P systems → AllByRecursion P (in_order systems)
all_in_order P systems h = go phases
  where
    go : (ps : List Phase) → AllByRecursion P (flat_map (λ phase. filter (runs_in phase) systems) ps)
    go [] = tt
    go (phase ∷ ps) = all_append P (filter (runs_in phase) systems) _ (all_kept P (runs_in phase) systems h) (go ps)

-- every frame is the run of its systems one by one, with the same draws, outcomes and last world
pub frame_is_solo : FramesAreSolo
frame_is_solo w systems draws outcomes new l laws h = (
  h.0,
  h.1,
  all_in_turn w h.0 [] (in_order systems) draws outcomes new l (all_in_order IsLawfulSystem systems laws)
      (subst (AreBatches w (in_order systems)) (sym (append-nil h.0)) h.1) h.2,
)

-- and so is what was done of one that stopped
pub part_is_solo : StoppedAreSolo
part_is_solo w systems draws outcomes new l laws h =
    (h.0, h.1, h.2, all_in_turn w h.0 h.1 (in_order systems) draws outcomes new l (all_in_order IsLawfulSystem systems laws) h.2 h.3, h.4)

-- a frame, also one that stopped, leaves a lawful world lawful
lawful_in_turn : (batches : List (List SystemModel)) (w : WorldState) (draws : List BatchDraws) (outcomes : FrameOutcomes) (new : WorldState) → IsLawful w →
    InTurn BatchRuns w batches draws outcomes new → IsLawful new
lawful_in_turn [] w [] outcomes new l h = subst IsLawful (sym h.1) l
lawful_in_turn (b ∷ bs) w (d ∷ ds) outcomes new l h =
    let n : ℕ = length (all_drawn d) in
    let run = h.3 in
    lawful_in_turn bs h.2 ds h.1 new (runs_lawful run.1 (with_admitted n w) h.0 h.2 (lawful_admitted w n run.0.1 l) run.3) h.4
lawful_in_turn _ w _ outcomes new l h = absurd h

pub frames_lawful : FramesKeepLawful
frames_lawful w systems draws outcomes new l h = lawful_in_turn h.0 w draws outcomes new l h.3

-- and one that stopped at its first batch has done nothing
none_done : (done : List (List SystemModel)) (w : WorldState) (outcomes : FrameOutcomes) (new : WorldState) → InTurn BatchRuns w done [] outcomes new →
    (outcomes ≡ []) × (new ≡ w)
none_done [] w outcomes new h = h
none_done (b ∷ bs) w outcomes new h = absurd h

pub nothing_done : StoppedAtOnceChangesNothing
nothing_done w systems outcomes new h = none_done h.0 w outcomes new h.3
