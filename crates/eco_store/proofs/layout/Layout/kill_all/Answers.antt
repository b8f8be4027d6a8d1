use Rattle.eco_store.proofs.Common.{◌≡◌, ◌-◌, length, take, drop, refl, sym, ap, subst, ◌∙◌, arith, length-drop, take_all, entity_cmp, has_item}
use Rattle.eco_store.proofs.Common.{after_deaths, seen, Thins}
use Rattle.eco_store.proofs.Dying.{more_die, nobody_dies}
use Rattle.eco_store.proofs.Thinning.{thins_same, thins_both}
use Rattle.eco_store.proofs.layout.Layout.kill_all.Goals as goal

pub loop-done-init : goal.loop-done-init
loop-done-init c = record {
  loses = record {
    laid = c.requires;
    targets = refl;
    thins = thins_same c.args.self.now.archetypes c.args.self.now.staying.targets;
  };
  seen = sym (nobody_dies (seen c.args.self.now));
}

pub loop-done-preserved : goal.loop-done-preserved
loop-done-preserved c =
    let es = c.args.dead.now in
    let done = c.loop-done.done in
    let was = c.loop-done.invariant in
    let next = c.kill_next-done.ensures in
    let s = c.loop-done.self.archetypes in
    let s1 = c.kill_next-done.new.self.archetypes in
    let l = c.args.self.now in
    let rest : take (length es - done) (drop done es) ≡ drop done es =
    take_all (length es - done) (drop done es) (let long = length-drop done es in omega (arith, long)) in
    record {
      loses = record {
        laid = next.loses.laid;
        targets = next.loses.targets ∙ was.loses.targets;
        thins =
            thins_both l.archetypes s s1 l.staying.targets was.loses.thins
            (subst (Thins s s1) was.loses.targets next.loses.thins);
      };
      seen =
          next.seen ∙ (λ t. after_deaths (was.seen t) (has_item entity_cmp (take c.kill_next-done.result (rest t))))
          ∙ more_die (seen l) es done c.kill_next-done.result;
    }

pub returns-clause-seen : goal.returns-clause-seen
returns-clause-seen c =
    c.loop-done.invariant.seen
    ∙ ap (λ es. after_deaths (seen c.args.self.now) (has_item entity_cmp es)) (take_all c.loop-done.done c.args.dead.now c.loop-done-test.false)
