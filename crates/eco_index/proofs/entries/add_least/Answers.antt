use Rattle.eco_index.proofs.EntriesCommon.{◌≡◌, ◌++◌, ap, sym, ◌∙◌, map, refl, Some, rules, filter, on_ok_weaker, is_least_match, Is, Each, One, Two}
use Rattle.eco_index.proofs.Least.{matches_least}
use Rattle.eco_index.proofs.entries.add_least.Goals as goal

pub returns-in-One : goal.returns-in-One
returns-in-One c =
    let p = c.args.pattern.now in
    let ids = c.args.ids.now in
    let same : p ≡ One c.in-One.entity = search rules in
    on_ok_weaker c.add_matches.result
    (λ is. is ∙ ap (λ xs. c.args.entries.now.items ++ map Some xs) (matches_least (One c.in-One.entity) ids ids refl)
    ∙ ap (λ q. c.args.entries.now.items ++ map Some (filter (is_least_match q ids) ids)) (sym same))
    c.add_matches.ensures

pub returns-in-Two-Is-Each : goal.returns-in-Two-Is-Each
returns-in-Two-Is-Each c =
    let p = c.args.pattern.now in
    let ids = c.args.ids.now in
    let relationship = c.in-Two-Is-Each.relationship in
    let same : p ≡ Two (Is relationship) Each = search rules in
    on_ok_weaker c.add_matches-in-Two-Is-Each.result
    (λ is. is ∙ ap (λ xs. c.args.entries.now.items ++ map Some xs) (matches_least (Two (Is relationship) Each) ids ids refl)
    ∙ ap (λ q. c.args.entries.now.items ++ map Some (filter (is_least_match q ids) ids)) (sym same))
    c.add_matches-in-Two-Is-Each.ensures
