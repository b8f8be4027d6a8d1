use Rattle.eco_index.proofs.EntriesCommon.{◌≡◌, ◌-◌, sym, ◌∙◌, length, slice_get, Some, arith, rules}
use Rattle.eco_index.proofs.SeenIds.{last_above}
use Rattle.eco_index.proofs.seen.is_above.Goals as goal

pub returns-in-Some : goal.returns-in-Some
returns-in-Some c =
    let run = c.args.run.now in
    let at : slice_get run (length run - 1) ≡ Some c.in-Some.last.now = search rules in
    c.lt.ensures ∙ sym (last_above run c.args.id c.in-Some.last.now (length run - 1) c.requires (search (rules, arith)) at)
