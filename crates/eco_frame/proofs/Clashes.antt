-- Two outlines clash exactly where their systems conflict.
use Rattle.eco_frame.proofs.BatchesCommon.{◌≡◌, ℕ, zero, suc, ◌==◌, Bool, false, ◌||◌, ◌↔◌, List, [], ◌∷◌, ◌++◌, map, length, refl, sym, ap, ◌∙◌, subst}
use Rattle.eco_frame.proofs.BatchesCommon.{true≢false, IsTrue, Option, Some, None, slice_get, arith, eqb-true, AllZip, list_any, map-append, same_Some}
use Rattle.eco_frame.proofs.BatchesCommon.{none-some, some_exact, pattern_overlaps, WorldState, batched, in_order, order_of, SomeOf, IsTraitWriter}
use Rattle.eco_frame.proofs.BatchesCommon.{writes_trait, OutlineModel, ArePlacedBatches, IsOutline, clash_of, clash_at, closed_in, cut_of, disturbs}
use Rattle.eco_frame.proofs.BatchesCommon.{kills_in, kills_too, late_at, no_system, reads_in, system_in, system_of, system_at, systems_of, traits_in}
use Rattle.eco_frame.proofs.BatchesCommon.{Declared}
use Rattle.std.proofs.lemmas.Bool.Decides.{Decides-or}
use Rattle.eco_ids.proofs.Further.{found_at}
use Rattle.eco_systems.specs.Batches.{Conflict, Disturbs, AreBatches}
use Rattle.eco_systems.specs.Laws.{JoiningMakesBatches, OrderHasSystems}
use Rattle.eco_systems.specs.Systems.{SystemModel, system_reads}
use Rattle.eco_frame.proofs.Brings.{closed_alone}

-- ---- an outline for each system

module _ (w : WorldState) where
  abbrev Outlined : Option Declared → Option OutlineModel → Type 0
  Outlined None None = Unit {0}
  Outlined None (Some o) = ⊥
  Outlined (Some d) None = ⊥
  Outlined (Some d) (Some o) = IsOutline w d o

  outlined_at : (ds : List Declared) (os : List OutlineModel) → AllZip (IsOutline w) ds os → (k : ℕ) → Outlined (slice_get ds k) (slice_get os k)
  outlined_at [] [] h k = tt
  outlined_at (d ∷ ds) (o ∷ os) h zero = h.0
  outlined_at (d ∷ ds) (o ∷ os) h (suc k) = outlined_at ds os h.1 k
  outlined_at _ _ h k = absurd h

  traits_exact : (d : Option Declared) (o : Option OutlineModel) → Outlined d o → IsTrue (traits_in o) ↔ IsTraitWriter w (system_in d)
  traits_exact None None h = (λ t. absurd (true≢false (sym t)), λ x. absurd ((closed_alone w [] tt (x.1).0).1 (x.1).1))
  traits_exact (Some d) (Some o) h = (
    λ t. (h.closed (writes_trait w.edition)).0 (sym h.traits ∙ t),
    λ x. h.traits ∙ (h.closed (writes_trait w.edition)).1 x,
  )
  traits_exact _ _ h = absurd h

  module _ (ds : List Declared) (os : List OutlineModel) (all : AllZip (IsOutline w) ds os) where
    some_write : (ks : List ℕ) → IsTrue (list_any (λ k. traits_in (slice_get os k)) ks) ↔ SomeOf (IsTraitWriter w) (map (system_at ds) ks)
    some_write = some_exact (λ k. traits_in (slice_get os k)) (IsTraitWriter w) (system_at ds)
        (λ k. traits_exact (slice_get ds k) (slice_get os k) (outlined_at ds os all k))

  no_disturbance : (t : SystemModel) → Disturbs w no_system t → ⊥
  no_disturbance t x = (closed_alone w [] tt (x.1).0).1 (x.1).1

  kills_exact : (d : Option Declared) (o : Option OutlineModel) → Outlined d o → IsTrue (kills_in o) ↔ IsTrue (system_in d).kills
  kills_exact None None h = (λ k. k, λ k. k)
  kills_exact (Some d) (Some o) h = (λ k. sym h.kills ∙ k, λ k. h.kills ∙ k)
  kills_exact _ _ h = absurd h

  kills_too_exact : (d : Option Declared) → IsTrue (kills_too d) ↔ IsTrue (system_in d).kills
  kills_too_exact None = (λ k. k, λ k. k)
  kills_too_exact (Some d) = (λ k. k, λ k. k)

  same_reads : (d : Option Declared) → reads_in d ≡ system_reads (system_in d)
  same_reads None = refl
  same_reads (Some d) = refl

  disturbs_listed : (d : Option Declared) (o : Option OutlineModel) → Outlined d o → (t : SystemModel)
      → IsTrue (disturbs (closed_in o) (system_reads t)) ↔ Disturbs w (system_in d) t
  disturbs_listed None None h t = (λ k. absurd (true≢false (sym k)), λ x. absurd (no_disturbance t x))
  disturbs_listed (Some d) (Some o) h t = h.closed (λ p. list_any (pattern_overlaps p) (system_reads t))
  disturbs_listed _ _ h t = absurd h

  disturbs_exact : (d t : Option Declared) (o : Option OutlineModel) → Outlined d o
      → IsTrue (disturbs (closed_in o) (reads_in t)) ↔ Disturbs w (system_in d) (system_in t)
  disturbs_exact d t o h =
      subst (λ reads. IsTrue (disturbs (closed_in o) reads) ↔ Disturbs w (system_in d) (system_in t)) (sym (same_reads t))
      (disturbs_listed d o h (system_in t))

  module _ (late : Bool) (until : List SystemModel) (is_late : IsTrue late ↔ SomeOf (IsTraitWriter w) until) where
    pair_exact : (s t : Option Declared) (o : Option OutlineModel) → Outlined s o
        → IsTrue (clash_of o t late) ↔ Conflict w until (system_in s) (system_in t)
    pair_exact s t o h =
        Decides-or (kills_in o) (kills_too t || (late || disturbs (closed_in o) (reads_in t))) (kills_exact s o h)
        (Decides-or (kills_too t) (late || disturbs (closed_in o) (reads_in t)) (kills_too_exact t)
        (Decides-or late (disturbs (closed_in o) (reads_in t)) is_late (disturbs_exact s t o h)))

  pub clash_exact : (ds : List Declared) (os : List OutlineModel) → AllZip (IsOutline w) ds os → (before : List ℕ) (s t : ℕ) →
      IsTrue (clash_at os ds before s t) ↔ Conflict w (map (system_at ds) before ++ system_at ds t ∷ []) (system_at ds s) (system_at ds t)
  clash_exact ds os all before s t =
      pair_exact (late_at os before t) (map (system_at ds) before ++ system_at ds t ∷ [])
      (subst (λ until. IsTrue (late_at os before t) ↔ SomeOf (IsTraitWriter w) until) (map-append (system_at ds) before (t ∷ []))
      (some_write ds os all (before ++ t ∷ [])))
      (slice_get ds s) (slice_get ds t) (slice_get os s) (outlined_at ds os all s)

-- ---- the systems in their order

-- the system at a position of declaration is the one that is declared there
declared_there : (ds : List Declared) (k : ℕ) (s : SystemModel) → slice_get (systems_of ds) k ≡ Some s → system_at ds k ≡ s
declared_there [] k s h = absurd (none-some s h)
declared_there (d ∷ ds) zero s h = same_Some (system_of d) s h
declared_there (d ∷ ds) (suc k) s h = declared_there ds k s h

-- the systems stand in their order at the positions in it
at_order : OrderHasSystems → (ds : List Declared) → map (system_at ds) (order_of (systems_of ds)) ≡ in_order (systems_of ds)
at_order has ds =
    found_at (slice_get (systems_of ds)) (system_at ds) (declared_there ds) (order_of (systems_of ds)) (in_order (systems_of ds)) (has (systems_of ds))

-- a list is empty where its length is 0
pub is_none : (order : List ℕ) (b : Bool) → b ≡ (length order == 0) → IsTrue b → order ≡ []
is_none [] b is h = refl
is_none (x ∷ xs) b is h = let e : suc (length xs) ≡ 0 = eqb-true (suc (length xs)) 0 (sym is ∙ h) in absurd (omega (arith, e))

pub not_none : (order : List ℕ) (b : Bool) → b ≡ (length order == 0) → b ≡ false → order ≡ [] → ⊥
not_none [] b is h e = true≢false (sym is ∙ h)
not_none (x ∷ xs) b is h e = let z : suc (length xs) ≡ 0 = ap length e in absurd (omega (arith, z))

pub none_placed : OrderHasSystems → (w : WorldState) (ds : List Declared) → order_of (systems_of ds) ≡ [] → ArePlacedBatches w ds []
none_placed has w ds none = (sym none, sym (at_order has ds) ∙ ap (map (system_at ds)) none)

-- what is cut are the batches, where the outlines are those of the systems on the world
pub cut_placed : OrderHasSystems → JoiningMakesBatches → (w : WorldState) (ds : List Declared) (os : List OutlineModel) (order : List ℕ)
    → order ≡ order_of (systems_of ds) → AllZip (IsOutline w) ds os → ArePlacedBatches w ds (cut_of os ds order)
cut_placed has makes w ds os [] is all = none_placed has w ds (sym is)
cut_placed has makes w ds os (first ∷ rest) is all =
    let joined = makes w (system_at ds) (clash_at os ds) (clash_exact w ds os all) first rest in (
      joined.0 ∙ is,
      subst (λ ss. AreBatches w ss (map (map (system_at ds)) (batched (clash_at os ds) [] [] (first ∷ rest))))
          (ap (map (system_at ds)) is ∙ at_order has ds) joined.1,
    )

-- lists of positions that are cut are the batches
pub cuts_are_placed : OrderHasSystems → JoiningMakesBatches → (w : WorldState) (ds : List Declared) (os : List OutlineModel) (order : List ℕ)
    → order ≡ order_of (systems_of ds) → AllZip (IsOutline w) ds os → (places : List (List ℕ)) → places ≡ cut_of os ds order
    → ArePlacedBatches w ds places
cuts_are_placed has makes w ds os order is all places made = subst (ArePlacedBatches w ds) (sym made) (cut_placed has makes w ds os order is all)

pub cut_some : (os : List OutlineModel) (ds : List Declared) (order : List ℕ) → (order ≡ [] → ⊥)
    → batched (clash_at os ds) [] [] order ≡ cut_of os ds order
cut_some os ds [] some = absurd (some refl)
cut_some os ds (k ∷ ks) some = refl
