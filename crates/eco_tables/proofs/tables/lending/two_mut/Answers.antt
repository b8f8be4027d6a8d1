use Rattle.eco_tables.proofs.Common.{◌<◌, arith, length, refl, sym, ◌∙◌}
use Rattle.eco_tables.proofs.Slots.{both_set, high_at, low_at, set_other_way}
use Rattle.eco_tables.proofs.tables.lending.two_mut.Goals as goal

pub returns-then-from-to : goal.returns-then-from-to
returns-then-from-to c =
    let slots = c.args.slots.now in
    let split = c.split_at_mut-low.ensures in
    let within : c.args.from < length c.split_at_mut-low.result.0.now = omega (arith, c.if-from-to.true, split.front_len) in
    let some : 0 < length c.split_at_mut-low.result.1.now = omega (arith, c.requires.to, split.back_len) in (
      ((refl, refl), λ a b. both_set slots _ _ c.args.to split.value split.front_len c.args.from a b within),
      record {
        lends = tt;
        from = c.index-low-from.is ∙ sym (low_at slots _ _ c.args.to split.value split.front_len c.args.from c.index-low-from.result within);
        to = c.index-high-0.is ∙ sym (high_at slots _ _ c.args.to split.value split.front_len c.index-high-0.result some);
      },
    )

pub returns : goal.returns
returns c =
    let slots = c.args.slots.now in
    let split = c.split_at_mut-low-2.ensures in
    let within : c.args.to < length c.split_at_mut-low-2.result.0.now = omega (arith, c.requires.apart, c.if-from-to.false, split.front_len) in
    let some : 0 < length c.split_at_mut-low-2.result.1.now = omega (arith, c.requires.from, split.back_len) in (
      (
        (refl, refl),
        λ a b. both_set slots _ _ c.args.from split.value split.front_len c.args.to b a within
            ∙ set_other_way slots c.args.to c.args.from b a (λ e. c.requires.apart (sym e)),
      ),
      record {
        lends = tt;
        from = c.index-high-0-2.is ∙ sym (high_at slots _ _ c.args.from split.value split.front_len c.index-high-0-2.result some);
        to = c.index-low-to.is ∙ sym (low_at slots _ _ c.args.from split.value split.front_len c.args.to c.index-low-to.result within);
      },
    )
