-- Ids that say how pairs behave, among others.
use Rattle.eco_traits.proofs.Common.{◌≡◌, ◌↔◌, Bool, true, false, inl, inr, List, refl, sym, ap, ◌∙◌, subst, true≢false, IsTrue, IsFalse}
use Rattle.eco_traits.proofs.Common.{◌&&◌, ◌||◌, list_any, Edition, Entity, ACYCLIC, EXCLUSIVE, SYMMETRIC, WITH, Id, One, Two, has_symmetric, id_cmp}
use Rattle.eco_traits.proofs.Common.{id_eq, entity_eq, has_item, both, first, second, any_is, id_eq_is, id_eq_itself, or_parts, or_right, entity_eq_is}
use Rattle.eco_traits.proofs.Common.{entity_eq_itself, is_with, is_trait, LacksTraits}
use Rattle.eco_ids.proofs.Facts.{or_left}

-- what a member passes, one of them passes
pub member : (p : Id → Bool) (ids : List Id) (j : Id) → IsTrue (has_item id_cmp ids j) → IsTrue (p j) → IsTrue (list_any p ids)
member p ids j h is = let m = any_is (λ y. id_eq y j) ids h in m.2 p (subst (λ z. IsTrue (p z)) (sym (id_eq_is m.0 j m.1)) is)

pub not_so : (b : Bool) → (IsTrue b → ⊥) → b ≡ false
not_so true f = absurd (f refl)
not_so false f = refl

of_with : (i : Id) → IsTrue (is_with i) → (x : Entity) × (i ≡ Two WITH x)
of_with (One c) h = absurd (true≢false (sym h))
of_with (Two r t) h = (t, ap (λ q. Two q t) (entity_eq_is r WITH h))

pub with_among : (ids : List Id) (b : Bool) → b ≡ list_any is_with ids → IsTrue b ↔ ((x : Entity) × IsTrue (has_item id_cmp ids (Two WITH x)))
with_among ids b same = (
  λ h.
      let m = any_is is_with ids (sym same ∙ h) in
      let pair = of_with m.0 m.1 in
      (pair.0, m.2 (λ y. id_eq y (Two WITH pair.0)) (subst (λ i. IsTrue (id_eq m.0 i)) pair.1 (id_eq_itself m.0))),
  λ pair. same ∙ member is_with ids (Two WITH pair.0) pair.1 (entity_eq_itself WITH),
)

module _ (d : Edition) where
  lacks : (ids : List Id) → list_any (is_trait d) ids ≡ false → (j : Id) → IsTrue (is_trait d j) → has_item id_cmp ids j ≡ false
  lacks ids none j is = not_so (has_item id_cmp ids j) (λ h. true≢false (sym (member (is_trait d) ids j h is) ∙ none))

  lacked : (ids : List Id) → LacksTraits d ids → (i : Id) → IsTrue (is_trait d i) → IsTrue (has_item id_cmp ids i) → ⊥
  lacked ids none (One c) is there =
      elim (or_parts (entity_eq c EXCLUSIVE) _ is) as (λ _. ⊥) [
        | inl k ↦ true≢false (sym (subst (λ e. IsTrue (has_item id_cmp ids (One e))) (entity_eq_is c EXCLUSIVE k) there) ∙ none.0)
        | inr m ↦ elim (or_parts (entity_eq c ACYCLIC) _ m) as (λ _. ⊥) [
          | inl k ↦ true≢false (sym (subst (λ e. IsTrue (has_item id_cmp ids (One e))) (entity_eq_is c ACYCLIC k) there) ∙ none.1)
          | inr k ↦
              let is_it = subst (λ e. IsTrue (has_item id_cmp ids (One e))) (entity_eq_is c SYMMETRIC (second (has_symmetric d) _ k)) there in
              true≢false (sym (both (has_symmetric d) _ (first (has_symmetric d) _ k) is_it) ∙ none.3)
        ]
      ]
  lacked ids none (Two r t) is there =
      true≢false (sym (subst (λ q. IsTrue (has_item id_cmp ids (Two q t))) (entity_eq_is r WITH is) there) ∙ none.2 t)

  pub traits_among : (ids : List Id) (b : Bool) → b ≡ list_any (is_trait d) ids → IsFalse b ↔ LacksTraits d ids
  traits_among ids b same = (
    λ h.
        let none = sym same ∙ h in (
          lacks ids none (One EXCLUSIVE) (or_left (entity_eq EXCLUSIVE EXCLUSIVE)
              (entity_eq EXCLUSIVE ACYCLIC || (has_symmetric d && entity_eq EXCLUSIVE SYMMETRIC))
              (entity_eq_itself EXCLUSIVE)),
          lacks ids none (One ACYCLIC)
              (or_right (entity_eq ACYCLIC EXCLUSIVE) _
              (or_left (entity_eq ACYCLIC ACYCLIC) (has_symmetric d && entity_eq ACYCLIC SYMMETRIC) (entity_eq_itself ACYCLIC))),
          λ x. lacks ids none (Two WITH x) (entity_eq_itself WITH),
          not_so (has_symmetric d && has_item id_cmp ids (One SYMMETRIC)) (λ k.
              true≢false (sym (second (has_symmetric d) (has_item id_cmp ids (One SYMMETRIC)) k) ∙ lacks ids none (One SYMMETRIC)
              (or_right (entity_eq SYMMETRIC EXCLUSIVE) _ (or_right (entity_eq SYMMETRIC ACYCLIC) _
              (both (has_symmetric d) _ (first (has_symmetric d) (has_item id_cmp ids (One SYMMETRIC)) k) (entity_eq_itself SYMMETRIC)))))),
        ),
    λ none. same ∙ not_so (list_any (is_trait d) ids) (λ h.
        let m = any_is (is_trait d) ids h in lacked ids none m.0 m.1 (m.2 (λ y. id_eq y m.0) (id_eq_itself m.0))),
  )
