use Rattle.eco_archetypes.proofs.Common.{on_ok, group_at}
use Rattle.eco_archetypes.proofs.Searching.{all_more, listed_match}
use Rattle.eco_archetypes.proofs.archetypes.Archetypes.add_found.Goals as goal

pub add_new-requires-clause-listed : goal.add_new-requires-clause-listed
add_new-requires-clause-listed g c =
    listed_match c.args.self.now (g.T.TypeTest.test c.args.test.now) c.listed-slots.result.now
    (group_at (g.T.TypeTest.groups c.args.test.now) c.args.group) c.args.place c.pattern.result c.requires.place.1 c.pattern.ensures
    c.listed-slots.ensures.listed

pub returns-clause-ok : goal.returns-clause-ok
returns-clause-ok g c =
    on_ok c.add_new.result
    (λ is. rw is (all_more c.args.self.now (g.T.TypeTest.test c.args.test.now) c.listed-slots.result.now
    (group_at (g.T.TypeTest.groups c.args.test.now) c.args.group) c.args.place c.pattern.result c.requires.place.1 c.pattern.ensures
    c.listed-slots.ensures.listed c.args.found.now.items c.requires.found c.listed-slots.ensures.distinct))
    c.add_new.ensures.ok
