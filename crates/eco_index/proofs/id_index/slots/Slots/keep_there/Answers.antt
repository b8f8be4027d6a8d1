use Rattle.eco_index.proofs.Common.{rules, length, ap, sym, ◌∙◌, ◌&&◌, ◌≡◌, nat_eq, list_any, slots_of}
use Rattle.std.proofs.lemmas.Fn.{filter_same}
use Rattle.eco_index.proofs.Sweeping.{left_any}
use Rattle.eco_index.proofs.id_index.slots.Slots.keep_there.Goals as goal

pub returns-in-Many-clause-left : goal.returns-in-Many-clause-left
returns-in-Many-clause-left g c = λ n.
    let stays = g.T.Occupancy.has_table c.args.tables.now in
    let same : c.deref_mut-in-Many.result.now.keys ≡ slots_of c.args.self.now =
    ap (λ s. s.keys) c.deref_mut-in-Many.ensures.value ∙ sym (ap slots_of c.in-Many.is) in
    left_any stays c.deref_mut-in-Many.result.now.keys c.retain.new.self.keys c.is_empty-in-Many.result
    (λ is. sym (ap (λ s. length s.keys) c.deref-in-Many.ensures) ∙ c.is_empty-in-Many.ensures.0 is)
    (filter_same _ stays _ (λ k b f' call. search rules) _ _ c.retain.ensures.filtered) n
    ∙ ap (λ ns. list_any (nat_eq n) ns && stays n) same
