use Rattle.eco_store.proofs.Common.{◌∙◌, err_from_is_err_and, exchanged, seen}
use Rattle.eco_store.proofs.Laid.{sought_laid, sought_seen, sought_settled, still_settled, tried_none}
use Rattle.eco_store.proofs.Stepping.{has_typed, leads_to}
use Rattle.eco_store.proofs.StoreChanges.{same_read}
use Rattle.eco_store.proofs.store.Store.exchange.Goals as goal

pub exchange-requires-clause-there : goal.exchange-requires-clause-there
exchange-requires-clause-there c =
    has_typed (seen c.self.inside.layout) c.args.e _ c.place_of-place.ensures.typed c.args.leaving ∙ (rw (← c.self.view_is) at c.requires.there)

pub exchange-requires-clause-absent : goal.exchange-requires-clause-absent
exchange-requires-clause-absent c =
    has_typed (seen c.self.inside.layout) c.args.e _ c.place_of-place.ensures.typed c.args.coming ∙ (rw (← c.self.view_is) at c.requires.absent)

pub carry-requires-clause-laid : goal.carry-requires-clause-laid
carry-requires-clause-laid c =
    sought_laid c.self.inside.layout _ c.exchange.ensures.finds.rows c.self.invariant.laid c.exchange.ensures.finds.widths c.in_ok-to.to
    c.in_ok-to.ensures.finds.rowless

pub invariant_of-self : goal.invariant_of-self
invariant_of-self c =
    sought_settled c.self.inside.layout _ c.exchange.ensures.finds.rows c.self.invariant c.exchange.ensures.finds.widths c.in_err-to.ensures.finds.rowless

pub invariant_of-self-2 : goal.invariant_of-self-2
invariant_of-self-2 c = still_settled c.self.inside.layout _ c.carry.ensures.carries.staying c.self.invariant c.carry.ensures.carries.laid

pub returns-in_err-to : goal.returns-in_err-to
returns-in_err-to c =
    let l = c.self.inside.layout in
    let p = err_from_is_err_and c.from_residual.result c.from_residual.ensures.1 in
    rw (← c.self.view_is)
    (tried_none _ _ c.from_residual.result _ _ p.1 (same_read l.entities l.archetypes _ c.exchange.ensures.finds.rows))

pub returns : goal.returns
returns c =
    let l = c.self.inside.layout in
    rw (← c.self.view_is) (record {
      ok =
          sought_seen l _ c.exchange.ensures.finds.rows _ c.in_ok-to.to c.args.e _ c.in_ok-to.ensures.finds.typed c.carry.ensures.seen
          ∙ leads_to (seen l) c.args.e _ c.place_of-place.ensures.typed (λ ids. exchanged ids c.args.leaving c.args.coming);
      err = tt;
    })
