use Rattle.eco_index.proofs.EntriesCommon.{◌++◌, ap, ◌∙◌, map, Some, rules, on_ok_weaker}
use Rattle.eco_index.proofs.Least.{matches_least}
use Rattle.eco_index.proofs.entries.add_least_of.Goals as goal

pub returns-else-has_any : goal.returns-else-has_any
returns-else-has_any c =
    on_ok_weaker c.add_matches.result
    (λ is. is ∙ ap (λ xs. c.args.entries.now.items ++ map Some xs) (matches_least c.args.pattern c.args.ids.now c.args.ids.now (search rules)))
    c.add_matches.ensures
