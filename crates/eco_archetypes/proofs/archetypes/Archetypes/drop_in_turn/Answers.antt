use Rattle.eco_archetypes.proofs.Common.{◌∷◌, [], take, get_or, refl, sym, ◌∙◌, subst, take_all, take_more, append_assoc, DropsRowless, Sweeps}
use Rattle.eco_archetypes.proofs.Sweeping.{drops_both, drops_none, drops_one}
use Rattle.eco_archetypes.proofs.archetypes.Archetypes.drop_in_turn.Goals as goal

pub loop-slot-init : goal.loop-slot-init
loop-slot-init c = record {
  dropped = drops_none c.args.self.now;
  rowless = λ others was. was;
  rows = λ n row. refl;
  widths = λ need was. was;
}

pub loop-slot-preserved : goal.loop-slot-preserved
loop-slot-preserved c =
    let xs = c.args.slots.now in
    let i = c.loop-slot.slot-index in
    record {
      dropped =
          subst (DropsRowless c.args.self.now c.drop_empty.new.self) (sym (take_more xs i 0 c.loop-slot-test.true))
          (drops_both c.args.self.now c.loop-slot.self c.drop_empty.new.self (take i xs) (get_or xs i 0 ∷ []) c.loop-slot.invariant.dropped
          (drops_one c.loop-slot.self c.drop_empty.new.self (get_or xs i 0) _ refl c.drop_empty.ensures.dropped c.drop_empty.ensures.kept));
      rowless = λ others was.
          c.drop_empty.ensures.rowless others (c.loop-slot.invariant.rowless (get_or xs i 0 ∷ others)
          (rw (take_more xs i 0 c.loop-slot-test.true, append_assoc) at was));
      rows = λ n row. c.drop_empty.ensures.rows n row ∙ c.loop-slot.invariant.rows n row;
      widths = λ need was. c.drop_empty.ensures.widths need (c.loop-slot.invariant.widths need was);
    }

pub returns : goal.returns
returns c =
    subst (Sweeps c.args.self.now c.loop-slot.self) (take_all c.loop-slot.slot-index c.args.slots.now c.loop-slot-test.false) c.loop-slot.invariant
