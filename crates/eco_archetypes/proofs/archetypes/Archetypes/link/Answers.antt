use Rattle.eco_archetypes.proofs.Common.{sym, ◌∙◌, none_is}
use Rattle.eco_archetypes.proofs.Leads.{link_apart, back_free, found_joined}
use Rattle.eco_archetypes.proofs.archetypes.Archetypes.link.Goals as goal

pub link-linked-requires-clause-apart : goal.link-linked-requires-clause-apart
link-linked-requires-clause-apart c =
    link_apart c.self.invariant c.args.from c.args.to c.args.id
    (rw (← c.self.view_is) at c.requires.from) (rw (← c.self.view_is) at c.requires.ascending) (rw (← c.self.view_is) at c.requires.to)

pub link-linked-requires-clause-from : goal.link-linked-requires-clause-from
link-linked-requires-clause-from c = sym c.get.ensures ∙ none_is c.get.result c.if-is_none.ensures

pub link-linked-requires-clause-to : goal.link-linked-requires-clause-to
link-linked-requires-clause-to c =
    back_free c.self.invariant c.args.from c.args.to c.args.id
    (rw (← c.self.view_is) at c.requires.from) (rw (← c.self.view_is) at c.requires.ascending) (rw (← c.self.view_is) at c.requires.to)
    c.self.inside.edges.twofold (sym c.get.ensures ∙ none_is c.get.result c.if-is_none.ensures)

pub invariant_of-self : goal.invariant_of-self
invariant_of-self c =
    found_joined c.self.invariant c.args.from c.args.to c.args.id
    (rw (← c.self.view_is) at c.requires.from) (rw (← c.self.view_is) at c.requires.ascending) (rw (← c.self.view_is) at c.requires.to)
    c.link-linked.new.self.lists.items c.link-linked.result c.link-linked.ensures.ok c.link-linked.ensures.err
