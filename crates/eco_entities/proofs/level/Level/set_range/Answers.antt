use Rattle.eco_entities.proofs.Common.{rules, inl, inr, arith, cases_lt, or_zero_r}
use Rattle.eco_entities.proofs.Bits.{mask_before, mask_after}
use Rattle.eco_entities.proofs.level.Level.set_range.Goals as goal

pub loop-at-init : goal.loop-at-init
loop-at-init c = record {
  count = search rules;
  below = λ w l. rw (mask_before c.args.from c.args.to w (omega arith) l, or_zero_r, c.self.view_is);
  rest = λ w l. rw c.self.view_is;
}

pub returns : goal.returns
returns c = record {
  count = c.loop-at.invariant.count;
  words = λ w. elim (cases_lt w c.loop-at.at) [
    | inl l ↦ c.loop-at.invariant.below w l
    | inr past ↦ rw (mask_after c.args.from c.args.to w (omega arith) (omega arith), or_zero_r) (c.loop-at.invariant.rest w past)
  ];
}
