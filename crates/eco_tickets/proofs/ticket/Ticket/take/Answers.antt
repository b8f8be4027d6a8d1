use Rattle.eco_tickets.proofs.Common.{◌<◌, cond, arith, ap, ◌∙◌, none, ascends, Share}
use Rattle.atomic_table.specs.Table.{step}
use Rattle.eco_tickets.proofs.Steps.{takes}
use Rattle.eco_tickets.proofs.Totals.{ascends_push}
use Rattle.eco_tickets.proofs.ticket.Ticket.take.Goals as goal

pub fetch_add-found-requires : goal.fetch_add-found-requires
fetch_add-found-requires c =
    let self = c.args.self.now in
    let part = self.part in (
      c.requires.own,
      omega (arith, c.requires.word),
      takes c.args.word.now.shared.key c.args.word.now.shared.table_id.slots self.hand.id self.hand.me
          (step c.args.word.now.shared.table_id.slots 0 1 0 none) (omega arith) (self.refusals ∙ ap (λ b. cond b 1 0) c.if-self.false),
    )

pub invariant_of-self : goal.invariant_of-self
invariant_of-self c =
    let self = c.args.self.now in
    let below : c.fetch_add-found.result < self.hand.me.0.bound = omega (arith, c.if-found-bound.true, c.requires.bound) in
    let given = c.fetch_add-found.ensures.2.1 below in
    record {
      part = ap (λ (v : Share). v.parts) given.0 ∙ self.part;
      refusals = ap (λ (v : Share). v.refusals) given.0 ∙ self.refusals;
      empty = c.fetch_add-found.ensures.2.0 ∙ self.empty;
      ascending = ap (λ (v : Share). ascends v.numbers) given.0 ∙ ascends_push c.fetch_add-found.result self.hand.me.0.numbers self.ascending given.1;
    }
