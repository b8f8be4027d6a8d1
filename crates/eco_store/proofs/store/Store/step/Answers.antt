use Rattle.eco_store.proofs.Common.{◌≢◌, sym, ap, ◌∙◌, subst, err_from_is_err_and, toggled, seen, Some, typed_table}
use Rattle.eco_store.proofs.Laid.{sought_laid, sought_seen, sought_settled, still_settled, tried_none}
use Rattle.eco_store.proofs.Stepping.{leads_to}
use Rattle.eco_store.proofs.StoreChanges.{same_read}
use Rattle.eco_store.proofs.store.Store.step.Goals as goal

pub carry-requires-clause-laid : goal.carry-requires-clause-laid
carry-requires-clause-laid c =
    let tables = c.make_room.ensures.finds in
    sought_laid c.self.inside.layout _ tables.rows c.self.invariant.laid tables.widths c.in_ok-to.to c.in_ok-to.ensures.finds.rowless

pub carry-requires-clause-apart : goal.carry-requires-clause-apart
carry-requires-clause-apart c = subst (λ n. c.place_of-place.result.table ≢ n) (sym c.in_ok-to.ensures.same) c.in-Some.ensures.apart

pub invariant_of-self : goal.invariant_of-self
invariant_of-self c =
    sought_settled c.self.inside.layout _ c.make_room.ensures.finds.rows c.self.invariant c.make_room.ensures.finds.widths c.in_err-to.ensures.finds.rowless

pub invariant_of-self-2 : goal.invariant_of-self-2
invariant_of-self-2 c = still_settled c.self.inside.layout _ c.carry.ensures.carries.staying c.self.invariant c.carry.ensures.carries.laid

pub returns-in_err-to : goal.returns-in_err-to
returns-in_err-to c =
    let l = c.self.inside.layout in
    let p = err_from_is_err_and c.from_residual.result c.from_residual.ensures.1 in
    rw (← c.self.view_is)
    (tried_none _ _ c.from_residual.result _ _ p.1 (same_read l.entities l.archetypes _ c.make_room.ensures.finds.rows))

pub returns : goal.returns
returns c =
    let l = c.self.inside.layout in
    let s1 = c.make_room.new.self in
    let typed = c.in_ok-to.ensures.finds.typed ∙ ap Some (typed_table l.archetypes c.in-Some.led _ c.in-Some.ensures.typed) in
    rw (← c.self.view_is) (record {
      ok =
          sought_seen l s1 c.make_room.ensures.finds.rows _ c.in_ok-to.to c.args.e _ typed c.carry.ensures.seen
          ∙ leads_to (seen l) c.args.e _ c.place_of-place.ensures.typed (λ ids. toggled ids c.args.id);
      err = tt;
    })
