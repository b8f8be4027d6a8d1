use Rattle.eco_store.proofs.Common.{◌≡◌, IsSome, Some, unwrap_or, subst, sym, ◌∙◌, err_from_is_err_and, changed, own_place, no_table}
use Rattle.eco_store.proofs.Common.{toggled, rows_from_slots, seen, with_type}
use Rattle.eco_store.proofs.Coupled.{not_turned}
use Rattle.eco_store.proofs.Laid.{seen_alike, sought_laid, sought_seen, sought_settled, still_settled, tried_none}
use Rattle.eco_store.proofs.Stepping.{leads_to}
use Rattle.eco_store.proofs.StoreChanges.{same_read}
use Rattle.eco_store.proofs.store.Store.step_anew.Goals as goal

pub step-requires : goal.step-requires
step-requires c =
    subst IsSome (sym (not_turned _ _ _ c.if-branch.false c.in_ok-turn.ensures.took c.place_of-place.result.table)) c.place_of-place.ensures.there

pub carry-requires-clause-laid : goal.carry-requires-clause-laid
carry-requires-clause-laid c =
    sought_laid c.turn.new.self _ c.step.ensures.finds.rows c.turn.ensures.laid c.step.ensures.finds.widths c.in_ok-to.to c.in_ok-to.ensures.finds.rowless

pub carry-requires-clause-own : goal.carry-requires-clause-own
carry-requires-clause-own c =
    subst (λ w. own_place w c.args.e ≡ Some c.place_of-place.result) (sym c.turn.ensures.entities) c.place_of-place.ensures.own

-- the table was refused its type
pub invariant_of-self : goal.invariant_of-self
invariant_of-self c = still_settled c.self.inside.layout _ c.turn.ensures.staying c.self.invariant c.turn.ensures.laid

pub returns-in_err-turn : goal.returns-in_err-turn
returns-in_err-turn c =
    let p = err_from_is_err_and c.from_residual.result c.from_residual.ensures.1 in
    rw (← c.self.view_is) (tried_none _ _ c.from_residual.result _ _ p.1 c.in_err-turn.ensures.err)

-- it has it
pub invariant_of-self-then-branch : goal.invariant_of-self-then-branch
invariant_of-self-then-branch c = still_settled c.self.inside.layout _ c.turn.ensures.staying c.self.invariant c.turn.ensures.laid

-- no other table was found
pub invariant_of-self-in_err-to : goal.invariant_of-self-in_err-to
invariant_of-self-in_err-to c =
    sought_settled c.turn.new.self _ c.step.ensures.finds.rows
    (still_settled c.self.inside.layout _ c.turn.ensures.staying c.self.invariant c.turn.ensures.laid) c.step.ensures.finds.widths
    c.in_err-to.ensures.finds.rowless

pub returns-in_err-to : goal.returns-in_err-to
returns-in_err-to c =
    let l = c.self.inside.layout in
    let m = c.turn.new.self in
    let same = not_turned _ _ _ c.if-branch.false c.in_ok-turn.ensures.took in
    let p = err_from_is_err_and c.from_residual-in_err-to.result c.from_residual-in_err-to.ensures.1 in
    rw (← c.self.view_is)
    (tried_none _ _ c.from_residual-in_err-to.result _ _ p.1
    (same_read m.entities m.archetypes _ c.step.ensures.finds.rows ∙ seen_alike l.entities l.archetypes m c.turn.ensures.entities (rows_from_slots _ _ same)))

-- the row goes to it
pub invariant_of-self-2 : goal.invariant_of-self-2
invariant_of-self-2 c =
    still_settled c.turn.new.self _ c.carry.ensures.carries.staying
    (still_settled c.self.inside.layout _ c.turn.ensures.staying c.self.invariant c.turn.ensures.laid) c.carry.ensures.carries.laid

pub returns : goal.returns
returns c =
    let l = c.self.inside.layout in
    let m = c.turn.new.self in
    let p = c.place_of-place.result in
    let same = not_turned _ _ _ c.if-branch.false c.in_ok-turn.ensures.took in
    let as_was = seen_alike l.entities l.archetypes m c.turn.ensures.entities (rows_from_slots _ _ same) in
    rw (← c.self.view_is) (record {
      ok =
          sought_seen m _ c.step.ensures.finds.rows _ c.in_ok-to.to c.args.e _ c.in_ok-to.ensures.finds.typed c.carry.ensures.seen
          ∙ (λ t. changed (as_was t) c.args.e (with_type (toggled (unwrap_or (same p.table t) no_table).ids c.args.id)))
          ∙ leads_to (seen l) c.args.e _ c.place_of-place.ensures.typed (λ ids. toggled ids c.args.id);
      err = tt;
    })
