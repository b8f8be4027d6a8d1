use Rattle.eco_world.proofs.Common.{◌∙◌, ◌++◌, IfSome, IsLawful, IsSettable, One, ap, asked_by, length-take-le, map, sym, take, world_with}
use Rattle.eco_ids.specs.Run.{Runs}
use Rattle.std.specs.Prelude.{length}
use Rattle.eco_stages.specs.Outcomes.{all_done}
use Rattle.eco_stages.specs.Recorded.{set_of_run}
use Rattle.eco_world.proofs.Rewriting.{ran_of}
use Rattle.eco_world.proofs.world.World.set_rows.Given.{Over}
use Rattle.eco_world.proofs.world.World.set_rows.Goals as goal

module _ (g : Over) (c : goal.After-push_done g) where
  -- the sets that were written are done one after another
  done : let own = c.self.inside in
      let qs = asked_by own.queries.items in
      let sets = take c.set_rows-count.result c.args.sets.now in
      let new = world_with own.edition c.set_rows-count.new.self.entities qs in
      Runs (world_with own.edition own.store.entities qs) (map (set_of_run c.args.id) sets) (all_done (length sets)) new
      × IsLawful new × IsSettable new c.args.id c.in-Some-One.arity
  done =
      let own = c.self.inside in
      let qs = asked_by own.queries.items in
      let able : IfSome c.args.known (IsSettable (world_with own.edition own.store.entities qs) c.args.id) = rw c.self.view_is c.requires.known in
      rw c.set_rows-count.ensures.written
      (ran_of own.edition qs c.in-Some-One.field-0-1 c.in-Some-One.arity
      (λ e. c.steps_keep_lawful.ensures.set e (One c.in-Some-One.field-0-1)) c.args.id c.in-Some-One.is-1
      c.builtin_count-least.result c.builtin_count-least.ensures g.row.N c.requires.few (take c.set_rows-count.result c.args.sets.now) own.store.entities
      (rw c.self.view_is c.is_lawful.ensures) (rw c.in-Some-One.is-0 at able) c.set_rows-count.ensures.rewrites c.set_rows-count.ensures.long)

pub invariant_of-self : goal.invariant_of-self
invariant_of-self g c = (done g c).1

pub returns-clause-done : goal.returns-clause-done
returns-clause-done g c = record {
  outcomes = all_done (length (take c.set_rows-count.result c.args.sets.now));
  appended = c.push_done.ensures.written
      ∙ ap (λ n. c.args.outcomes.now.outcomes ++ all_done n) (sym (length-take-le c.set_rows-count.result c.args.sets.now c.set_rows-count.ensures.within));
  room = c.push_done.ensures.room;
  ran = rw (← c.self.view_is) (done g c).0;
}

pub returns-clause-known : goal.returns-clause-known
returns-clause-known g c = rw c.in-Some-One.is-0 (done g c).2
