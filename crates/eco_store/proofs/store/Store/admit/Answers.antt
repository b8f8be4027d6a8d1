use Rattle.eco_store.proofs.Common.{nat_lt, Admit}
use Rattle.eco_store.proofs.BirthChanges.{admit_lifts}
use Rattle.eco_store.proofs.Needing.{admits, called}
use Rattle.eco_store.proofs.store.Store.admit.Goals as goal

pub invariant_of-self : goal.invariant_of-self
invariant_of-self c =
    let l = c.self.inside.layout in
    let laid = c.self.invariant.laid in
    let some = nat_lt 0 c.args.count in
    record {
      laid = record {
        store = (admit_lifts l.entities c.admit.new.self l.archetypes c.args.count some c.admit.result c.admit.ensures).0 laid.store;
        covers =
            called c.needs_never_grow.ensures (Admit c.args.count) l.entities c.admit.new.self _
            (c.admit.result, admits l.entities c.admit.new.self c.args.count some c.admit.result c.admit.ensures) laid.covers;
        tidy = laid.tidy;
      };
      done = c.self.invariant.done;
    }

pub returns : goal.returns
returns c = record {
  step =
      let l = c.self.inside.layout in
      rw (← c.self.view_is)
      (admit_lifts l.entities c.admit.new.self l.archetypes c.args.count (nat_lt 0 c.args.count) c.admit.result c.admit.ensures).1;
}
