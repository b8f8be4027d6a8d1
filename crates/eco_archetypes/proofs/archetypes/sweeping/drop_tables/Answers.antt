use Rattle.eco_archetypes.proofs.Common.{◌∷◌, [], take, get_or, refl, inl, sym, ◌∙◌, subst, take_all, take_more, append_assoc, DropsRowless}
use Rattle.eco_archetypes.proofs.Sweeping.{drops_both, drops_none, less_both}
use Rattle.eco_archetypes.proofs.archetypes.sweeping.drop_tables.Goals as goal

pub loop-slot-init : goal.loop-slot-init
loop-slot-init c = record {
  dropped = drops_none c.args.tables.now;
  less = λ n. inl refl;
  rowless = λ others was. was;
  rows = λ n row. refl;
  exact = λ was. was;
}

pub loop-slot-preserved : goal.loop-slot-preserved
loop-slot-preserved c =
    let xs = c.args.slots.now in
    let i = c.loop-slot.slot-index in
    record {
      dropped =
          subst (DropsRowless c.args.tables.now c.drop_table.new.tables) (sym (take_more xs i 0 c.loop-slot-test.true))
          (drops_both c.args.tables.now c.loop-slot.tables c.drop_table.new.tables (take i xs) (get_or xs i 0 ∷ [])
          c.loop-slot.invariant.dropped c.drop_table.ensures.dropped);
      less = less_both c.args.tables.now c.loop-slot.tables c.drop_table.new.tables c.loop-slot.invariant.less c.drop_table.ensures.less;
      rowless = λ others was.
          c.drop_table.ensures.rowless others (c.loop-slot.invariant.rowless (get_or xs i 0 ∷ others)
          (rw (take_more xs i 0 c.loop-slot-test.true, append_assoc) at was));
      rows = λ n row. c.drop_table.ensures.rows n row ∙ c.loop-slot.invariant.rows n row;
      exact = λ was. c.drop_table.ensures.exact (c.loop-slot.invariant.exact was);
    }

pub returns-clause-rowless : goal.returns-clause-rowless
returns-clause-rowless c = rw (take_all c.loop-slot.slot-index c.args.slots.now c.loop-slot-test.false) at c.loop-slot.invariant.rowless

pub returns-clause-dropped : goal.returns-clause-dropped
returns-clause-dropped c = rw (take_all c.loop-slot.slot-index c.args.slots.now c.loop-slot-test.false) at c.loop-slot.invariant.dropped
