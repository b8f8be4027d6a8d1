use Rattle.eco_store.proofs.Common.{sym, ◌∙◌, list_any, pattern_matches, slot_of, on_err}
use Rattle.eco_archetypes.proofs.Holders.{found_matches, some_listed, standing_apart, standing_whose, whose_ascend}
use Rattle.eco_archetypes.proofs.Sorting.{both_ok, sorted_is}
use Rattle.eco_store.proofs.store.Store.entities_with.Goals as goal

pub returns-clause-all : goal.returns-clause-all
returns-clause-all c =
    let found = c.in_ok-found.found in
    let test = list_any (pattern_matches c.args.pattern) in
    let shown = c.in_ok-found.ensures.lent.shown in
    let all = c.in_ok-found.ensures.found in
    both_ok _ _ _
    (λ v are sorted.
    sorted_is c.handles_are_ordered.ensures.total c.handles_are_ordered.ensures.ties c.ascending_lists_are_sets.ensures.handles _ v.items _ are sorted
    (standing_apart c.args.self.now.entities found.tables.now test shown found.slots.items all.distinct)
    (whose_ascend c.args.self.now.entities test)
    (standing_whose c.args.self.now.entities found.tables.now test shown found.slots.items
    (λ n h. found_matches test (slot_of found.tables.now n) (sym (all.listed n) ∙ h)) (λ n h. all.listed n ∙ h)))
    c.entities_in.result (rw c.deref.ensures at c.entities_in.ensures.all) c.entities_in.ensures.sorted

pub returns-clause-some : goal.returns-clause-some
returns-clause-some c =
    let found = c.in_ok-found.found in
    on_err c.entities_in.result
    (some_listed c.args.self.now.entities found.tables.now (list_any (pattern_matches c.args.pattern)) c.in_ok-found.ensures.lent.shown found.slots.items
    c.in_ok-found.ensures.found.listed)
    (rw c.deref.ensures at c.entities_in.ensures.some)
