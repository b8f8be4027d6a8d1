use Rattle.eco_entities.proofs.Common.{refl, get_by_text}
use Rattle.eco_entities.proofs.Listings.{listed_kept}
use Rattle.eco_entities.proofs.names.Names.insert_in_room.Goals as goal

pub returns-then-not-push-clause-others : goal.returns-then-not-push-clause-others
returns-then-not-push-clause-others c = λ other e apart h.
    let old = c.args.self.now in
    c.spill.ensures.others other e apart
    (listed_kept old.table c.push.new.self (get_by_text old.spilled) (get_by_text old.spilled) other e c.push.ensures.all refl h)

pub returns-clause-others : goal.returns-clause-others
returns-clause-others c = λ other e apart.
    let old = c.args.self.now in
    listed_kept old.table c.push.new.self (get_by_text old.spilled) (get_by_text old.spilled) other e c.push.ensures.all refl
