use Rattle.eco_workers.proofs.Common.{◌-◌, min, sym, ap, ◌∙◌, arith, once, times}
use Rattle.eco_workers.proofs.OnlySeat.{alone}
use Rattle.eco_workers.proofs.round.Round.close.Goals as goal

pub returns-clause-alone : goal.returns-clause-alone
returns-clause-alone c =
    let r = c.args.self in
    let joined = c.gather-claim.ensures in
    alone r.base c.args.seats.items c.min-piece.result (c.min-index.result - c.from-3.result)
    (λ x. ap (times x) (sym joined.claimed) ∙ c.settle-piece.ensures.numbers x
    ∙ ap (λ b. once b (min c.settle-piece.result r.claims.shared.key.bound) x) r.claims_to.0
    ∙ ap (λ m. once 0 m x) (omega (arith, r.claims_to.1, c.min-piece.ensures, c.from.ensures)))
    (λ x. ap (times x) (sym joined.drawn) ∙ c.settle-index.ensures.numbers x
    ∙ ap (λ b. once b (min c.settle-index.result r.draws.shared.key.bound) x) r.draws_to.0
    ∙ ap (λ m. once r.base m x) (omega (
      arith,
      r.draws_to.0,
      r.draws_to.1,
      r.ordered.0,
      c.settle-index.ensures.base,
      c.min-index.ensures,
      c.from-2.ensures,
      c.from-3.ensures,
    )))
