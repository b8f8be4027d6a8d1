use Rattle.eco_store.proofs.Common.{◌≡◌, IsTrue, ap, sym, ◌∙◌, refl, subst, unwrap_or, list_any, nat_eq, changed, no_table, toggled}
use Rattle.eco_store.proofs.Common.{typed_table, seen, with_type, rows_from_slots, Layout, SameSlots, StayingState}
use Rattle.eco_store.proofs.Coupled.{leaves_from, move_leaves, not_turned}
use Rattle.eco_store.proofs.Laid.{plans_seen, seen_alike}
use Rattle.eco_store.proofs.Stepping.{leads_to}
use Rattle.eco_store.proofs.layout.Layout.step_beside.Goals.{else-place-kept-via-then-place-kept+in_ok-turn+else-branch, else-place-kept-via-else-place-kept}
use Rattle.eco_store.proofs.layout.Layout.step_beside.Goals as goal

-- it goes to the table of the next type, and so far no slot has changed
pub returns : goal.returns
returns c =
    let l = c.args.self.now in
    let e = c.args.step.0 in
    let id = c.args.step.1 in
    let to = c.in_ok-to.to in
    let m = c.else-place-kept.self in
    let m1 = c.step_target.new.self in
    let plans = c.in_ok-to.ensures.plans in
    let Still : Layout → Type 0 = λ x.
    (x.entities ≡ l.entities) × SameSlots l.archetypes x.archetypes × (x.staying.targets ≡ l.staying.targets) in
    let still : Still m = elim c.else-place-kept.branch [
      | else-place-kept-via-then-place-kept+in_ok-turn+else-branch w ↦ subst Still (sym w.self-is) (
        w.turn.ensures.entities,
        not_turned _ _ _ w.if-branch.false w.in_ok-turn.ensures.took,
        ap (λ (q : StayingState). q.targets) w.turn.ensures.staying,
      )
      | else-place-kept-via-else-place-kept w ↦ subst Still (sym w.self-is) (refl, (λ n. refl), refl)
    ] in
    let same = still.1 in
    let as_was = seen_alike l.entities l.archetypes m still.0 (rows_from_slots _ _ same) in
    let typed = typed_table m1.archetypes to _ c.in_ok-to.ensures.typed in
    record {
      steps = record {
        laid = c.go_to.ensures.carries.laid;
        tries = record {
          ok =
              c.go_to.ensures.seen ∙ (λ t. changed ((plans_seen m m1 plans ∙ as_was) t) e (with_type (typed t)))
              ∙ ap (λ o. changed (seen l) e (with_type (toggled (unwrap_or o no_table).ids id))) (same c.place_of-place.result.table)
              ∙ leads_to (seen l) e _ c.place_of-place.ensures.typed (λ ids. toggled ids id);
          err = tt;
        };
      };
      kept =
          leaves_from l.archetypes m.archetypes c.go_to.new.self.archetypes c.args.kept same
          (move_leaves m.archetypes m1.archetypes c.go_to.new.self.archetypes c.args.kept to m1.staying.targets c.in_ok-to.ensures.types
          c.in_ok-to.ensures.kept c.go_to.ensures.carries.admits
          (plans.targets c.args.kept (subst (λ ts. IsTrue (list_any (nat_eq c.args.kept) ts)) (sym still.2) c.requires.kept)));
    }
