-- A delete has an end: the doomed can be listed, and whoever forbids it first can be found.
use Rattle.eco_ids.proofs.Common.{List, IsTrue, Ok, Err, refl, ⊎_elim, arith, common_steps, Entity, DELETE, ON_DELETE, PANIC, Id, Two, One, after_delete}
use Rattle.eco_ids.proofs.Common.{Deletes, Doomed, Ends, Forbids, HoldsOn, Names, IsDoomed, root, next, has_item, entity_cmp, WorldState, is_alive}
use Rattle.eco_ids.specs.declared.refusal.Refusal.TheVariants.{Panic}
use Rattle.eco_ids.specs.Cleanup.{policy}
use Rattle.eco_ids.proofs.Endings.{End}
use Rattle.eco_ids.proofs.Facts.{same_or_apart}
use Rattle.eco_ids.proofs.IdOrder.{entity_cmp_total, same_entity}
use Rattle.eco_ids.proofs.Listable.{In, Decided, IsLeastOf, decide_as, decide_bool, decide_false, decide_both, decide_either, item_in, least_of, listed}
use Rattle.eco_ids.proofs.Listable.{some_of, sorted}
use Rattle.eco_ids.proofs.LivingLists.{has_alive, living_in, some_held, the_living}

decide_names : (w : WorldState) (action : Entity) (i : Id) (member : Entity) → Decided (Names w action i member)
decide_names w action (One x) member = decide_both (same_or_apart x member) (same_or_apart (policy w x ON_DELETE) action)
decide_names w action (Two r t) member = grind (arith, common_steps, decide_either, decide_both, same_or_apart)

decide_holds_on : (w : WorldState) (action member holder : Entity) → Decided (HoldsOn w action member holder)
decide_holds_on w action member holder = some_held w holder (λ i. Names w action i member) (λ i. decide_names w action i member)

module _
    (w : WorldState) (IsRoot : Entity → Type 0) (is_root : (e : Entity) → Decided (IsRoot e))
    (alive : (e : Entity) → IsRoot e → IsTrue (is_alive w e)) where
  doomed_lives : {e : Entity} → Doomed w IsRoot e → IsTrue (is_alive w e)
  doomed_lives {e = e} (root r) = alive e r
  doomed_lives (next {b = b} member held) = has_alive w b held.0 held.1

  doomed_listed : (members : List Entity) × IsDoomed w IsRoot members
  doomed_listed =
      let all = listed IsRoot (HoldsOn w DELETE) is_root (decide_holds_on w DELETE) (the_living w) (λ e d. living_in w e (doomed_lives d)) in
      let up = sorted entity_cmp_total same_entity all.0 in
      (up.0, record { ascending = up.1; exact = λ e. (λ h. (all.1 e).0 ((up.2 e).0 h), λ d. (up.2 e).1 ((all.1 e).1 d)) })

module _ (w : WorldState) (members : List Entity) where
  decide_forbids : (holder member : Entity) → Decided (Forbids w members holder member)
  decide_forbids holder member =
      decide_as (λ s. (s.0.0, s.0.1, s.1.0, s.1.1)) (λ f. ((f.0, f.1), (f.2, f.3)))
      (decide_both (decide_both (decide_bool (is_alive w holder)) (decide_false (has_item entity_cmp members holder)))
      (decide_both (decide_bool (has_item entity_cmp members member)) (decide_holds_on w PANIC member holder)))

  forbidden : (holder member : Entity) → Forbids w members holder member → In member members
  forbidden holder member f = item_in same_entity members member f.2

  abbrev ForbidsSome : Entity → Type 0
  ForbidsSome holder = (member : Entity) × Forbids w members holder member

  first_member : (holder : Entity) → IsLeastOf entity_cmp ForbidsSome holder → End (Ends w members)
  first_member holder first =
      ⊎_elim (λ m. (Err (Panic holder m.0), w, (refl, holder, m.0, refl, (m.1.passes, (λ h n f. first.least h (n, f)), m.1.least))))
      (λ none. absurd (none first.passes.0 first.passes.1))
      (least_of entity_cmp_total (Forbids w members holder) (decide_forbids holder) members (forbidden holder))

  ends : End (Ends w members)
  ends =
      let decide_some : (h : Entity) → Decided (ForbidsSome h) = λ h. some_of (Forbids w members h) (decide_forbids h) members (forbidden h) in
      ⊎_elim (λ h. first_member h.0 h.1) (λ none. (Ok tt, after_delete w members, (refl, λ h m f. none h (m, f))))
      (least_of entity_cmp_total ForbidsSome decide_some (the_living w) (λ h s. living_in w h (s.1).0))

pub deletes_end : (w : WorldState) (IsRoot : Entity → Type 0) → ((e : Entity) → Decided (IsRoot e))
    → ((e : Entity) → IsRoot e → IsTrue (is_alive w e)) → End (Deletes w IsRoot)
deletes_end w IsRoot is_root alive =
    let members = doomed_listed w IsRoot is_root alive in
    let end = ends w members.0 in
    (end.0, end.1, (members.0, members.1, end.2))
