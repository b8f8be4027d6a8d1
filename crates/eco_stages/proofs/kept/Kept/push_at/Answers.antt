use Rattle.std.proofs.Common.{rules}
use Rattle.eco_stages.proofs.Common.{take}
use Rattle.eco_stages.proofs.Keeping.{all_keep, as_it_was, ends_in_set, grown}
use Rattle.eco_stages.specs.Recorded.{names_of}
use Rattle.eco_stages.specs.declared.width.Width.TheVariants.{One, Three, Eight}
use Rattle.eco_stages.proofs.kept.Kept.push_at.Goals as goal

pub returns-in-One-clause-yes : goal.returns-in-One-clause-yes
returns-in-One-clause-yes c done =
    let own = c.args.self.now in
    ends_in_set c.args.width One c.in-One.is own
    (record { ones = c.push_narrowed.new.list; threes = own.threes; eights = own.eights; ids = own.ids; names = own.names })
    c.args.entity c.args.value (search rules) (c.push_narrowed.ensures.whole done) (c.push_narrowed.ensures.yes done)

pub returns-in-One-clause-kept : goal.returns-in-One-clause-kept
returns-in-One-clause-kept c =
    let own = c.args.self.now in
    all_keep own (record { ones = c.push_narrowed.new.list; threes = own.threes; eights = own.eights; ids = own.ids; names = own.names })
    (grown c.push_narrowed.result (c.args.entity, take 1 c.args.value.0) own.ones.items c.push_narrowed.new.list.items
    c.push_narrowed.ensures.yes c.push_narrowed.ensures.no)
    (as_it_was own.threes.items)
    (as_it_was own.eights.items)
    (as_it_was own.ids.items)
    (as_it_was (names_of own))

pub returns-in-Three-clause-yes : goal.returns-in-Three-clause-yes
returns-in-Three-clause-yes c done =
    let own = c.args.self.now in
    ends_in_set c.args.width Three c.in-Three.is own
    (record { ones = own.ones; threes = c.push_narrowed-in-Three.new.list; eights = own.eights; ids = own.ids; names = own.names })
    c.args.entity c.args.value (search rules) (c.push_narrowed-in-Three.ensures.whole done) (c.push_narrowed-in-Three.ensures.yes done)

pub returns-in-Three-clause-kept : goal.returns-in-Three-clause-kept
returns-in-Three-clause-kept c =
    let own = c.args.self.now in
    all_keep own (record { ones = own.ones; threes = c.push_narrowed-in-Three.new.list; eights = own.eights; ids = own.ids; names = own.names })
    (as_it_was own.ones.items)
    (grown c.push_narrowed-in-Three.result (c.args.entity, take 3 c.args.value.0) own.threes.items c.push_narrowed-in-Three.new.list.items
    c.push_narrowed-in-Three.ensures.yes c.push_narrowed-in-Three.ensures.no)
    (as_it_was own.eights.items)
    (as_it_was own.ids.items)
    (as_it_was (names_of own))

pub returns-in-Eight-clause-yes : goal.returns-in-Eight-clause-yes
returns-in-Eight-clause-yes c done =
    let own = c.args.self.now in
    ends_in_set c.args.width Eight c.in-Eight.is own
    (record { ones = own.ones; threes = own.threes; eights = c.push_narrowed-in-Eight.new.list; ids = own.ids; names = own.names })
    c.args.entity c.args.value (search rules) (c.push_narrowed-in-Eight.ensures.whole done) (c.push_narrowed-in-Eight.ensures.yes done)

pub returns-in-Eight-clause-kept : goal.returns-in-Eight-clause-kept
returns-in-Eight-clause-kept c =
    let own = c.args.self.now in
    all_keep own (record { ones = own.ones; threes = own.threes; eights = c.push_narrowed-in-Eight.new.list; ids = own.ids; names = own.names })
    (as_it_was own.ones.items)
    (as_it_was own.threes.items)
    (grown c.push_narrowed-in-Eight.result (c.args.entity, take 8 c.args.value.0) own.eights.items c.push_narrowed-in-Eight.new.list.items
    c.push_narrowed-in-Eight.ensures.yes c.push_narrowed-in-Eight.ensures.no)
    (as_it_was own.ids.items)
    (as_it_was (names_of own))
