use Rattle.eco_index.proofs.Common.{cond, None, sym, ap, ◌∙◌, lookup, same_id}
use Rattle.eco_index.specs.Sweeping.{kept_if}
use Rattle.eco_index.proofs.edges.keep_own.Goals as goal

pub returns-then-has_table : goal.returns-then-has_table
returns-then-has_table g c = λ i.
    c.keep_there.ensures i
    ∙ sym (ap (λ b. cond b (kept_if (g.T.Occupancy.has_table c.args.tables.now) (lookup (same_id i) c.args.own.now)) None)
    (sym c.has_table.ensures ∙ c.if-has_table.true))
