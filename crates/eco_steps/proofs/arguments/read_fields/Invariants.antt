use Rattle.eco_steps.proofs.Common.{◌≡◌, ◌-◌, ◌++◌, pos, take, drop, replicate, map, option_map, view, FIELD_COUNT, each_in, integer_in}
use Rattle.eco_steps.proofs.arguments.read_fields.Given as goal

-- the fields so far, and those of what is left, are all fields; behind them there are zeros
abbrev pub invariant-loop-i : goal.invariant-loop-i
invariant-loop-i l = record {
  found : each_in integer_in (map view l.items) ≡ option_map (λ zs. take l.i l.fields ++ zs) (each_in integer_in (map view (drop l.i l.items)));
  zeros : drop l.i l.fields ≡ replicate (FIELD_COUNT - l.i) (pos 0);
}
