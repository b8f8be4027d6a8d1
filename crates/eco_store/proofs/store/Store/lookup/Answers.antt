use Rattle.eco_store.proofs.Common.{refl, sym, ◌∙◌, given_name, row_at, record_for, record_name}
use Rattle.eco_store.proofs.Newborn.{named_entity-map}
use Rattle.eco_store.proofs.store.Store.lookup.Goals as goal

pub returns : goal.returns
returns c =
    let l = c.self.inside.layout in
    rw (← c.self.view_is)
    (c.lookup.ensures.named_entity
    ∙ sym (named_entity-map (record_for (row_at l.archetypes)) given_name record_name (λ a. refl) l.entities c.args.name.now))
