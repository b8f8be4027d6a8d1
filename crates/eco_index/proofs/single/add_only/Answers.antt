use Rattle.eco_index.proofs.EntriesCommon.{◌≡◌, ◌+◌, ◌++◌, ◌∷◌, [], ap, length, length-append, map, sym, ◌∙◌, arith, choices, asks}
use Rattle.eco_index.proofs.Only.{only_step, several_step}
use Rattle.eco_index.proofs.single.add_only.Goals as goal

pub loop-place-preserved : goal.loop-place-preserved
loop-place-preserved c =
    let added = length-append c.loop-place.entries.items (c.in-Some.entry ∷ []) in
    let put = ap length c.in_ok-put.ensures in
    let more : length c.put.new.entries.items ≡ length c.loop-place.entries.items + 1 = omega (arith, added, put) in
    let was = c.loop-place.invariant.long in record {
      long = omega (arith, more, was);
      made =
          only_step c.args.ids.now c.args.slots.now c.loop-place.place c.index-slots-place.result c.loop-place.entries.items
          c.put.new.entries.items (map (λ own. c.args.entries.now.items ++ own) (choices c.args.ids.now (asks c.args.slots.now)))
          c.loop-place-test.true more (sym c.index-slots-place.is)
          (c.in_ok-put.ensures ∙ ap (λ es. c.loop-place.entries.items ++ es) (sym c.in-Some.ensures.one)) c.loop-place.invariant.made;
    }

pub returns-in_default-clause-several : goal.returns-in_default-clause-several
returns-in_default-clause-several c = λ no.
    several_step c.args.ids.now c.args.slots.now c.loop-place.place c.index-slots-place.result c.args.entries.now.items c.loop-place.entries.items
    c.loop-place-test.true (sym c.index-slots-place.is) c.in_default.ensures.several c.loop-place.invariant.made
