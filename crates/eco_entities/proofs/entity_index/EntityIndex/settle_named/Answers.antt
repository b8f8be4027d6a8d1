use Rattle.eco_entities.proofs.Common.{◌≡◌, ◌≢◌, ◌∙◌, ap, inl, refl, Some, Indexed, next_entity, with_new, Registration, newcomer, IsListed, err_says}
use Rattle.eco_entities.proofs.NamedEntities.{borne_shown, unused_shown}
use Rattle.eco_entities.proofs.Owners.{apart_from_next, own-new}
use Rattle.eco_entities.proofs.Registers.{registry_same, registry_gain}
use Rattle.eco_entities.proofs.Renaming.{fit_free}
use Rattle.eco_entities.proofs.entity_index.EntityIndex.settle_named.Goals as goal

pub invariant_of-self-in-Ok : goal.invariant_of-self-in-Ok
invariant_of-self-in-Ok c =
    let e = c.args.entity in
    let name = c.args.text.now in
    let w = c.self.inside.slots in
    let next : next_entity w ≡ Some e = ap next_entity c.self.view_is ∙ c.requires.next in
    let own = rw c.in-Some.is at c.in_ok-own.ensures.ok in
    rw (c.in-Ok.ensures.ok, own.0)
    (registry_gain name e c.self.invariant own.1 c.requires.proper own.2 (λ n x apart other mine h. c.in_ok-own.ensures.others n x other h)
    (own-new w e (Some name) c.args.arity next))

pub invariant_of-self-in-Err : goal.invariant_of-self-in-Err
invariant_of-self-in-Err c =
    let e = c.args.entity in
    let name = c.args.text.now in
    let w = c.self.inside.slots in
    let next : next_entity w ≡ Some e = ap next_entity c.self.view_is ∙ c.requires.next in
    let own = rw c.in-Some.is at c.in_ok-own.ensures.ok in
    rw c.in-Err.ensures.err
    (registry_same c.self.invariant (λ n x mine h.
    let other : n ≢ name = λ is. own.1 x (mine ∙ ap Some is) in
    c.remove.ensures.others n x other (inl (apart_from_next w e x n next mine)) (c.in_ok-own.ensures.others n x other h))
    (record { all = λ k. refl }))

pub returns-in_err-own-clause-err : goal.returns-in_err-own-clause-err
returns-in_err-own-clause-err c =
    let name = c.args.text.now in
    err_says c.from_residual.result
    (fit_free c.args.self.now name c.requires.proper (unused_shown _ c.args.self.now name c.self.view_is c.in_err-own.ensures.err), c.self.view_is)

pub returns-in_default-clause-ok : goal.returns-in_default-clause-ok
returns-in_default-clause-ok c =
    let taken = rw c.in_default.is at c.in_ok-own.ensures.ok in
    record {
      borne = borne_shown _ c.args.self.now c.args.text.now c.self.view_is (IsListed c.self.inside.names) c.self.invariant taken.0;
      same = c.self.view_is;
    }

pub returns-in-Ok-clause-ok : goal.returns-in-Ok-clause-ok
returns-in-Ok-clause-ok c =
    let e = c.args.entity in
    let name = c.args.text.now in
    let own = rw c.in-Some.is at c.in_ok-own.ensures.ok in (
      fit_free c.args.self.now name c.requires.proper (unused_shown _ c.args.self.now name c.self.view_is own.1),
      c.in-Ok.ensures.ok ∙ (ap (λ n. with_new c.self.inside.slots e (newcomer (Some n) c.args.arity)) own.0
          ∙ ap (λ (v : Indexed Registration). with_new v e (newcomer (Some name) c.args.arity)) c.self.view_is),
    )

pub returns-in-Err-clause-err : goal.returns-in-Err-clause-err
returns-in-Err-clause-err c =
    let name = c.args.text.now in
    let own = rw c.in-Some.is at c.in_ok-own.ensures.ok in
    (fit_free c.args.self.now name c.requires.proper (unused_shown _ c.args.self.now name c.self.view_is own.1), c.in-Err.ensures.err ∙ c.self.view_is)

pub invariant_of-self : goal.invariant_of-self
invariant_of-self c =
    let failed = c.in_err-own.ensures in
    registry_same c.self.invariant (λ n x mine h. failed.others n x (λ is. failed.err x (mine ∙ ap Some is)) h) (record { all = λ k. refl })
