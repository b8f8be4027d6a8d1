use Rattle.eco_store.proofs.AnswersCommon.{map, ap, rules, standings, ◌∙◌, AreRanked, IfOk-weaker, read, Standing}
use Rattle.eco_store.proofs.IndexWalk.{walked_placed, walked_whose}
use Rattle.eco_store.proofs.Ranking.{ranked_placed, ranked_whose}
use Rattle.eco_archetypes.proofs.Shows.{shows}
use Rattle.eco_store.proofs.searching.standing_in.Goals as goal

pub returns-in-Some-clause-all : goal.returns-in-Some-clause-all
returns-in-Some-clause-all c =
    let s = c.args.tables.now in
    let are : AreRanked (standings 0 s c.args.slots.now) c.in-Some.list = search rules in
    λ test found.
    ranked_whose (read c.args.entities.now s) s (shows c.args.entities.now s c.requires.store c.rows_have_ids.ensures)
    c.handles_are_ordered.ensures.total c.handles_are_ordered.ensures.ties
    c.ascending_lists_are_sets.ensures.handles test c.args.slots.now found.listed found.distinct c.in-Some.list are

pub returns-in-Some-clause-placed : goal.returns-in-Some-clause-placed
returns-in-Some-clause-placed c =
    let s = c.args.tables.now in
    let are : AreRanked (standings 0 s c.args.slots.now) c.in-Some.list = search rules in
    ranked_placed (read c.args.entities.now s) s (shows c.args.entities.now s c.requires.store c.rows_have_ids.ensures)
    c.args.slots.now c.in-Some.list are.all

pub returns-in_ok-list-2-clause-all : goal.returns-in_ok-list-2-clause-all
returns-in_ok-list-2-clause-all c =
    let s = c.args.tables.now in
    let is = c.in_ok-list-2.ensures in
    λ test found.
    ap (map (λ (x : Standing). x.entity)) (c.among.ensures ∙ is.2)
    ∙ walked_whose c.args.entities.now s c.requires.store c.rows_have_ids.ensures c.args.slots.now is.0 is.1 test found

pub returns-in_ok-list-2-clause-placed : goal.returns-in_ok-list-2-clause-placed
returns-in_ok-list-2-clause-placed c =
    let s = c.args.tables.now in
    let is = c.in_ok-list-2.ensures in
    rw (c.among.ensures, is.2) (walked_placed c.args.entities.now s c.requires.store c.rows_have_ids.ensures c.args.slots.now is.0 is.1)

pub returns-else-count-gt0-clause-all : goal.returns-else-count-gt0-clause-all
returns-else-count-gt0-clause-all c =
    let s = c.args.tables.now in
    IfOk-weaker c.ranked.result _ _
    (λ v are test found.
    ranked_whose (read c.args.entities.now s) s (shows c.args.entities.now s c.requires.store c.rows_have_ids.ensures)
    c.handles_are_ordered.ensures.total c.handles_are_ordered.ensures.ties
    c.ascending_lists_are_sets.ensures.handles test c.args.slots.now found.listed found.distinct v are)
    c.ranked.ensures.ranked

pub returns-else-count-gt0-clause-placed : goal.returns-else-count-gt0-clause-placed
returns-else-count-gt0-clause-placed c =
    let s = c.args.tables.now in
    IfOk-weaker c.ranked.result _ _
    (λ v are.
    ranked_placed (read c.args.entities.now s) s (shows c.args.entities.now s c.requires.store c.rows_have_ids.ensures) c.args.slots.now v are.all)
    c.ranked.ensures.ranked

pub walked-requires-clause-housed : goal.walked-requires-clause-housed
walked-requires-clause-housed c = rw c.slot_count.ensures c.requires.housed
