use Rattle.eco_store.proofs.Common.{option_copied, Rename}
use Rattle.eco_store.proofs.Values.{rename_lifts}
use Rattle.eco_store.proofs.Needing.{called}
use Rattle.eco_store.proofs.store.Store.rename.Goals as goal

pub invariant_of-self : goal.invariant_of-self
invariant_of-self c =
    let l = c.self.inside.layout in
    let laid = c.self.invariant.laid in
    record {
      laid = record {
        store =
            (rename_lifts l.entities l.archetypes c.args.e (option_copied c.args.name) c.rename.new.self c.rename.result c.rename.ensures).0 laid.store;
        covers = called c.needs_never_grow.ensures (Rename c.args.e (option_copied c.args.name)) _ _ _ (c.rename.result, c.rename.ensures) laid.covers;
        tidy = laid.tidy;
      };
      done = c.self.invariant.done;
    }

pub returns : goal.returns
returns c = record {
  step =
      let l = c.self.inside.layout in
      rw (← c.self.view_is)
      (rename_lifts l.entities l.archetypes c.args.e (option_copied c.args.name) c.rename.new.self c.rename.result c.rename.ensures).1;
}
