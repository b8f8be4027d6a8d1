use Rattle.eco_index.proofs.Onlies.{new_kept}
use Rattle.eco_index.proofs.cache.with_new.Goals as goal

pub returns-in-Ok-true : goal.returns-in-Ok-true
returns-in-Ok-true c =
    new_kept c.args.only c.push_only.new.self c.slots-terms.result.now c.args.query.now c.args.type_list.now c.slots-terms.ensures
    (c.in-Ok-true.ensures.one c.in-Ok-true.field-0-test) (c.in-Ok-true.ensures.only c.in-Ok-true.field-0-test)
