use Rattle.eco_index.proofs.CachesCommon.{false, sym}
use Rattle.eco_index.proofs.Onlies.{keeps_still, kept_still, kept_taken, those_told}
use Rattle.eco_index.proofs.cache.Cache.take_out.Goals as goal

pub returns-in_default-clause-told : goal.returns-in_default-clause-told
returns-in_default-clause-told c o none types types' change exact = record {
  those =
      those_told types types' c.args.slot o c.args.self.now.query false c.args.self.now.slots.keys c.swap_remove_full.new.self.keys change (sym none)
      c.in_default.ensures.updates.0 exact.those;
  kept =
      kept_still types types' c.args.slot o c.args.self.now.query c.args.self.now.slots.keys c.swap_remove_full.new.self.keys c.args.self.now.only change
      (sym c.in_default.ensures.index) c.in_default.ensures.keys c.in_default.ensures.updates.1
      exact.kept;
}

pub returns-in-Some-take-clause-told : goal.returns-in-Some-take-clause-told
returns-in-Some-take-clause-told c o none types types' change exact =
    let here = c.in-Some.ensures in
    record {
      those =
          those_told types types' c.args.slot o c.args.self.now.query false c.args.self.now.slots.keys c.swap_remove_full.new.self.keys change (sym none)
          here.updates.0 exact.those;
      kept =
          kept_taken types types' c.args.slot o c.args.self.now.query c.args.self.now.slots.keys c.swap_remove_full.new.self.keys c.in-Some.place
          c.args.self.now.only c.in-Some-take.only c.without.result change
          (sym here.index) here.keys here.updates.1 (sym c.in-Some-take.ensures.value)
          exact.kept c.without.ensures.lost;
    }

pub returns-in-Some-take-clause-kept : goal.returns-in-Some-take-clause-kept
returns-in-Some-take-clause-kept c types exact none =
    keeps_still types c.args.slot c.args.self.now.query c.args.self.now.slots.keys c.in-Some.place c.args.self.now.only c.in-Some-take.only
    c.without.result (sym c.in-Some.ensures.index) (sym c.in-Some-take.ensures.value) exact.kept c.without.ensures.none
