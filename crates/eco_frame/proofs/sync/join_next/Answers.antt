use Rattle.eco_frame.proofs.BatchesCommon.{◌∙◌, option_copied}
use Rattle.eco_frame.proofs.Done.{if_done}
use Rattle.eco_frame.proofs.Joins.{clash_found, joined_in, opened}
use Rattle.eco_frame.proofs.sync.join_next.Goals as goal

pub returns-then-clashes : goal.returns-then-clashes
returns-then-clashes c =
    if_done
    (λ made before rest late h. opened c.args.outlines.now c.args.systems.now (λ b. b.items) before c.args.at rest c.args.done.now.items c.push.new.self.items
    c.in_ok-take.field-0 c.args.batch.now c.take.new.self c.add.new.self c.in_ok-push.ensures.items c.in_ok-take.ensures.taken c.in_ok-take.ensures.fresh made
    (clash_found c.args.outlines.now c.args.systems.now before c.args.at c.args.late (option_copied c.declared_at.result) c.args.batch.now.places.items
    c.clashes.result (c.clashes.ensures c.args.outlines.now h) c.declared_at.ensures late ∙ c.if-clashes.true))
    c.add.result c.add.ensures

pub returns : goal.returns
returns c =
    if_done
    (λ made before rest late h. joined_in c.args.outlines.now c.args.systems.now (λ b. b.items) before c.args.at rest c.args.done.now.items
    c.args.batch.now c.add-2.new.self h made
    (clash_found c.args.outlines.now c.args.systems.now before c.args.at c.args.late (option_copied c.declared_at.result) c.args.batch.now.places.items
    c.clashes.result (c.clashes.ensures c.args.outlines.now h) c.declared_at.ensures late ∙ c.if-clashes.false))
    c.add-2.result c.add-2.ensures
