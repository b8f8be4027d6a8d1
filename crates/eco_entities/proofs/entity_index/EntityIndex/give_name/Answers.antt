use Rattle.eco_entities.proofs.Common.{◌≡◌, ◌≢◌, ◌∙◌, refl, ap, sym, true, false, inl, inr, ◌⊎◌, IsTrue, Some, option_map, Indexed, changed, tag_of}
use Rattle.eco_entities.proofs.Common.{is_alive, may_rename, own_name, err_says, label_text, Registration, given_name, renamed, IsListed, IsUnused}
use Rattle.eco_entities.proofs.NamedEntities.{borne_shown, unused_shown}
use Rattle.eco_entities.proofs.Owners.{apart_from, own-renamed}
use Rattle.eco_entities.proofs.Registers.{cases_entity, registry_gain, registry_same}
use Rattle.eco_entities.proofs.Renaming.{rename_free, rename_may, uncalled}
use Rattle.eco_entities.proofs.entity_index.EntityIndex.give_name.Goals.{After-self}
use Rattle.eco_entities.proofs.entity_index.EntityIndex.give_name.Goals as goal

pub invariant_of-self : goal.invariant_of-self
invariant_of-self c =
    let failed = c.in_err-own.ensures in
    registry_same c.self.invariant (λ n x mine h. failed.others n x (λ is. failed.err x (mine ∙ ap Some is)) h) (record { all = λ k. refl })

pub invariant_of-self-in-Ok-Some : goal.invariant_of-self-in-Ok-Some
invariant_of-self-in-Ok-Some c =
    let e = c.args.entity in
    let name = c.args.name.now in
    let w = c.self.inside.slots in
    let old = c.as_str.result.now in
    let own = rw c.in-Some.is at c.in_ok-own.ensures.ok in
    let alive : is_alive w e ≡ true = rw c.self.view_is c.requires.alive in
    let named : own_name given_name w e ≡ Some old = sym c.in-Ok-Some.ensures.was
    ∙ (ap (option_map label_text) c.in-Ok-Some.field-0-is ∙ ap Some (sym c.as_str.ensures)) in
    let differ : name ≢ old = λ is. own.1 e (named ∙ ap Some (sym is)) in
    rw (c.in-Ok-Some.ensures.ok, own.0)
    (registry_gain name e c.self.invariant own.1 c.requires.proper
    (c.remove.ensures.others name e differ (inr (ap Some c.tag_of-tag.ensures)) own.2)
    (λ n x apart other mine h.
    let kept : n ≢ old = λ is. apart (c.self.invariant.unique x e n mine (named ∙ ap Some (sym is))) in
    c.remove.ensures.others n x kept (inl (apart_from w e x n alive apart mine)) (c.in_ok-own.ensures.others n x other h))
    (own-renamed w e (Some name) alive))

pub invariant_of-self-in-Ok-None : goal.invariant_of-self-in-Ok-None
invariant_of-self-in-Ok-None c =
    let e = c.args.entity in
    let name = c.args.name.now in
    let w = c.self.inside.slots in
    let own = rw c.in-Some.is at c.in_ok-own.ensures.ok in
    let alive : is_alive w e ≡ true = rw c.self.view_is c.requires.alive in
    rw (c.in-Ok-None.ensures.ok, own.0)
    (registry_gain name e c.self.invariant own.1 c.requires.proper own.2 (λ n x apart other mine h. c.in_ok-own.ensures.others n x other h)
    (own-renamed w e (Some name) alive))

pub invariant_of-self-in-Err : goal.invariant_of-self-in-Err
invariant_of-self-in-Err c =
    let e = c.args.entity in
    let name = c.args.name.now in
    let w = c.self.inside.slots in
    let own = rw c.in-Some.is at c.in_ok-own.ensures.ok in
    let alive : is_alive w e ≡ true = rw c.self.view_is c.requires.alive in
    rw c.in-Err.ensures.err
    (registry_same c.self.invariant (λ n x mine h.
    let other : n ≢ name = λ is. own.1 x (mine ∙ ap Some is) in
    let theirs : own_name given_name w x ≡ Some n = mine in
    let kept : (x.index ≢ e.index) ⊎ (c.name_tag-kept.result ≡ Some (tag_of n)) = elim (cases_entity x e) [
      | inl same ↦ inr (c.name_tag-kept.ensures ∙ ap (option_map tag_of)
          (ap (λ (v : Indexed Registration). own_name given_name v e) c.in-Err.ensures.err ∙ (ap (own_name given_name w) (sym same) ∙ theirs)))
      | inr apart ↦ inl (apart_from w e x n alive apart theirs)
    ] in
    c.remove-in-Err.ensures.others n x other kept (c.in_ok-own.ensures.others n x other h))
    (record { all = λ k. refl }))

-- a name that nobody has may be given
may : (c : goal.After-self) → IsUnused (own_name given_name c.self.inside.slots) c.args.name.now
    → IsTrue (may_rename given_name c.args.self.now c.args.entity false (Some c.args.name.now))
may c unused =
    let e = c.args.entity in
    let name = c.args.name.now in
    let w = c.self.inside.slots in
    let other = uncalled c.args.self.now e name (rw c.self.view_is at (unused e)) in
    rename_may c.args.self.now e name c.requires.alive c.requires.proper other (unused_shown w c.args.self.now name c.self.view_is unused)

pub returns-in_err-own-clause-err : goal.returns-in_err-own-clause-err
returns-in_err-own-clause-err c =
    err_says c.from_residual.result (may (goal.at.returns-in_err-own-clause-err c).After-self c.in_err-own.ensures.err, c.self.view_is)

pub returns-in_default-clause-ok : goal.returns-in_default-clause-ok
returns-in_default-clause-ok c =
    let taken = rw c.in_default.is at c.in_ok-own.ensures.ok in
    record {
      borne = borne_shown _ c.args.self.now c.args.name.now c.self.view_is (IsListed c.self.inside.names) c.self.invariant taken.0;
      same = c.self.view_is;
    }

pub returns-in-Ok-Some-clause-ok : goal.returns-in-Ok-Some-clause-ok
returns-in-Ok-Some-clause-ok c =
    let e = c.args.entity in
    let name = c.args.name.now in
    let v = c.args.self.now in
    let own = rw c.in-Some.is at c.in_ok-own.ensures.ok in
    let new = c.in-Ok-Some.ensures.ok ∙ (ap (λ n. changed c.self.inside.slots e (renamed (Some n))) own.0
    ∙ ap (λ (w : Indexed Registration). changed w e (renamed (Some name))) c.self.view_is) in
    rw new (rename_free v e name c.requires.alive c.requires.proper (unused_shown _ v name c.self.view_is own.1))

pub returns-in-Ok-None-clause-ok : goal.returns-in-Ok-None-clause-ok
returns-in-Ok-None-clause-ok c =
    let e = c.args.entity in
    let name = c.args.name.now in
    let v = c.args.self.now in
    let own = rw c.in-Some.is at c.in_ok-own.ensures.ok in
    let new = c.in-Ok-None.ensures.ok ∙ (ap (λ n. changed c.self.inside.slots e (renamed (Some n))) own.0
    ∙ ap (λ (w : Indexed Registration). changed w e (renamed (Some name))) c.self.view_is) in
    rw new (rename_free v e name c.requires.alive c.requires.proper (unused_shown _ v name c.self.view_is own.1))

pub returns-in-Err-clause-err : goal.returns-in-Err-clause-err
returns-in-Err-clause-err c =
    let own = rw c.in-Some.is at c.in_ok-own.ensures.ok in
    (may (goal.at.returns-in-Err-clause-err c).After-self own.1, c.in-Err.ensures.err ∙ c.self.view_is)
