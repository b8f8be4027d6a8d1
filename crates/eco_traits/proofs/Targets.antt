-- A target stands for the type that an add leads to.
use Rattle.eco_traits.proofs.Common.{◌≡◌, true, false, List, [], Option, None, Some, unwrap_or, refl, ap, subst, ◌∙◌, IsTrue, Ok, Entity, Id, id_cmp}
use Rattle.eco_traits.proofs.Common.{is_ascending, with_item, WorldState, has, names_living, FindsTarget, IsAmong, IsPlain, IsSound, AddLeadsTo, Replaces}
use Rattle.eco_traits.proofs.Common.{type_of_entity}
use Rattle.std.specs.Prelude.{IfSome}
use Rattle.eco_traits.specs.Target.{TakesOwn, target_by}
use Rattle.eco_traits.specs.declared.target.Target.TheVariants.{With}
use Rattle.eco_traits.proofs.Plain.{AreTraitsOf, plain_leads_to}
use Rattle.eco_traits.proofs.Walks.{has_listed}

module _ (w : WorldState) (e : Entity) (i : Id) (own : List Id) (lives : names_living w i ≡ true) (owns : Some own ≡ type_of_entity w e) where
  own_is : own ≡ unwrap_or (type_of_entity w e) []
  own_is = ap (λ o. unwrap_or o []) owns

  -- it comes alone
  pub plain_target : (ids : List Id) → has w e i ≡ false → IsSound w → AreTraitsOf w i ids → IsPlain w.edition i ids
      → IsTrue (is_ascending id_cmp own)
      → FindsTarget w e i (Ok With)
  plain_target ids absent sound traits plain up =
      subst (λ all. AddLeadsTo w e i (Ok (with_item id_cmp all i))) own_is
      (plain_leads_to w e i ids own (with_item id_cmp own i) lives absent sound traits plain owns up refl)

module _ (w : WorldState) (e : Entity) (i : Id) (own : List Id) (owns : Some own ≡ type_of_entity w e) where
  -- it comes in the place of the one that is replaced, or alone
  placed : (replaced : Option Id) → Replaces w e i own replaced → FindsTarget w e i (Ok (target_by replaced))
  placed replaced leads = by replaced (subst (λ all. Replaces w e i all replaced) (ap (λ o. unwrap_or o []) owns) leads)
    where
      by : (o : Option Id) → Replaces w e i (unwrap_or (type_of_entity w e) []) o → FindsTarget w e i (Ok (target_by o))
      by None h = h
      by (Some old) h = h

  pub short_target_found : (answer : Option (Option Id)) → IfSome answer (Replaces w e i own)
      → IfSome answer (λ replaced. FindsTarget w e i (Ok (target_by replaced)))
  short_target_found None h = h
  short_target_found (Some replaced) h = placed replaced h

  takes : (replaced : Option Id) → IsAmong own replaced → TakesOwn w e (target_by replaced)
  takes None h = h
  takes (Some old) h = has_listed w e old own owns ∙ h

  pub short_target_there : (answer : Option (Option Id)) → IfSome answer (IsAmong own)
      → IfSome answer (λ replaced. TakesOwn w e (target_by replaced))
  short_target_there None h = h
  short_target_there (Some replaced) h = takes replaced h
