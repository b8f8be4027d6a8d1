-- A lawful world has batches: its closed writes can be listed, so that what conflicts is decided.
use Rattle.eco_systems.proofs.Common.{◌≡◌, Bool, ◌||◌, ◌↔◌, inl, inr, List, [], ◌∷◌, ◌++◌, map, refl, sym, subst, true≢false}
use Rattle.eco_systems.proofs.Common.{IsTrue, Option, Some, None, list_any, Decides-or, map-id, append-nil, append_assoc, Entity, WITH, Pattern, IsLawful, root}
use Rattle.eco_systems.proofs.Common.{next, pattern_overlaps, entity_cmp, has_item, Reaches, WorldState, has, is_alive, second, same_or_apart, entity_cmp_total}
use Rattle.eco_systems.proofs.Common.{same_entity, AreBatches, Conflict, batched, SystemModel, system_reads, IsTraitWriter, SomeOf, widened, writes_trait}
use Rattle.eco_ids.proofs.Listable.{In, decide_bool, listed, sorted}
use Rattle.eco_ids.proofs.LivingLists.{living_in, the_living}
use Rattle.eco_systems.specs.Closing.{Among, ListsClosed, pattern_head, pattern_with_head}
use Rattle.eco_systems.proofs.ClosedLists.{among_reached, among_wild, lists_more, lists_none}
use Rattle.eco_systems.proofs.JoinedOneByOne.{batched_are_batches}
use Rattle.eco_ids.specs.declared.id.Id.TheVariants as id

module _ (w : WorldState) (l : IsLawful w) where
  -- With leads to the living, but for where it begins
  inside : (h : Entity) {x : Entity} → Reaches w WITH h x → In x (h ∷ the_living w)
  inside h (root e) = inl (sym e)
  inside h (next {a = a} {b = b} walk edge) = inr (living_in w b (second (is_alive w WITH) _ (l.orderly.living a (id.Two WITH b) edge)))

  -- all that With leads to from an entity
  heads : (h : Entity) → (xs : List Entity) × ((x : Entity) → IsTrue (has_item entity_cmp xs x) ↔ Reaches w WITH h x)
  heads h =
      let all = listed (λ c. c ≡ h) (λ c d. IsTrue (has w c (id.Two WITH d))) (λ c. same_or_apart c h) (λ c d. decide_bool (has w c (id.Two WITH d)))
      (h ∷ the_living w) (λ x m. inside h m) in
      let up = sorted entity_cmp_total same_entity all.0 in
      (up.0, λ x. (λ m. (all.1 x).0 ((up.2 x).0 m), λ m. (up.2 x).1 ((all.1 x).1 m)))

  closed_more : (p : Pattern) (old : List Pattern) → (new : List Pattern) × Among w p old new
  closed_more p old = by (pattern_head p) refl
    where
      by : (o : Option Entity) → pattern_head p ≡ o → (new : List Pattern) × Among w p old new
      by None at = (old ++ p ∷ [], among_wild w p old at)
      by (Some h) at =
          let xs = heads h in
          (old ++ map (λ x. widened w (pattern_with_head p x)) xs.0, among_reached w p h xs.0 old at xs.1)

  closed_from : (done : List Pattern) (old : List Pattern) → ListsClosed w done old → (rest : List Pattern) →
      (closed : List Pattern) × ListsClosed w (done ++ rest) closed
  closed_from done old is [] = (old, subst (λ ps. ListsClosed w ps old) (sym (append-nil done)) is)
  closed_from done old is (p ∷ rest) =
      let more = closed_more p old in
      let last = closed_from (done ++ p ∷ []) more.0 (lists_more w done p old more.0 is more.1) rest in
      (last.0, subst (λ ps. ListsClosed w ps last.0) (append_assoc done (p ∷ []) rest) last.1)

  closed_list : (writes : List Pattern) → (closed : List Pattern) × ListsClosed w writes closed
  closed_list = closed_from [] [] (lists_none w)

  -- ---- what conflicts, as a test

  abbrev writes_some : SystemModel → Bool
  writes_some s = list_any (writes_trait w.edition) (closed_list s.writes).0

  abbrev disturbs : SystemModel → SystemModel → Bool
  disturbs s t = list_any (λ p. list_any (pattern_overlaps p) (system_reads t)) (closed_list s.writes).0

  abbrev clash : List SystemModel → SystemModel → SystemModel → Bool
  clash before s t = s.kills || (t.kills || (list_any writes_some (before ++ t ∷ []) || disturbs s t))

  some_writes : (ss : List SystemModel) → IsTrue (list_any writes_some ss) ↔ SomeOf (IsTraitWriter w) ss
  some_writes [] = (λ t. absurd (true≢false (sym t)), λ x. absurd x)
  some_writes (s ∷ ss) = Decides-or (writes_some s) (list_any writes_some ss) ((closed_list s.writes).1 (writes_trait w.edition)) (some_writes ss)

  clash_exact : (before : List SystemModel) (s t : SystemModel) → IsTrue (clash before s t) ↔ Conflict w (map (λ x. x) before ++ t ∷ []) s t
  clash_exact before s t =
      subst (λ xs. IsTrue (clash before s t) ↔ Conflict w (xs ++ t ∷ []) s t) (sym (map-id before))
      (Decides-or s.kills (t.kills || (list_any writes_some (before ++ t ∷ []) || disturbs s t)) (λ k. k, λ k. k)
      (Decides-or t.kills (list_any writes_some (before ++ t ∷ []) || disturbs s t) (λ k. k, λ k. k)
      (Decides-or (list_any writes_some (before ++ t ∷ [])) (disturbs s t) (some_writes (before ++ t ∷ []))
      ((closed_list s.writes).1 (λ p. list_any (pattern_overlaps p) (system_reads t))))))

  pub batches_of : (systems : List SystemModel) → (batches : List (List SystemModel)) × AreBatches w systems batches
  batches_of [] = ([], refl)
  batches_of (s ∷ systems) = (
    map (map (λ x. x)) (batched clash [] [] (s ∷ systems)),
    subst (λ xs. AreBatches w xs (map (map (λ x. x)) (batched clash [] [] (s ∷ systems)))) (map-id (s ∷ systems))
        (batched_are_batches w (λ x. x) clash clash_exact s systems),
  )
