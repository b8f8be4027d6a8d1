use Rattle.eco_index.proofs.Common.{◌≡◌, ap, subst, ◌∙◌, rules, IsDistinct, lookup, same_id, id_eq-Decides, filter_same_pairs}
use Rattle.std.specs.Map.{keys_of}
use Rattle.std.proofs.lemmas.Fn.{filter_same}
use Rattle.eco_index.specs.EdgeList.{edges_of, HasEachIdOnce}
use Rattle.eco_index.specs.Sweeping.{kept_if}
use Rattle.eco_index.proofs.SlotEdges.{filtered_apart}
use Rattle.eco_index.proofs.Sweeping.{kept_values}
use Rattle.eco_index.proofs.edges.edge_list.EdgeList.keep_there.Goals as goal

pub invariant_of-self-in-Few : goal.invariant_of-self-in-Few
invariant_of-self-in-Few g c =
    let stays = g.T.Occupancy.has_table c.args.tables.now in
    filtered_apart (λ e. stays e.1) c.in-Few.few.items c.retain.new.self.items (subst HasEachIdOnce c.in-Few.is c.self.invariant)
    (filter_same _ (λ e. stays e.1) _ (λ k b f' call. search rules) _ _ c.retain.ensures.filtered)

pub returns-in-Few : goal.returns-in-Few
returns-in-Few g c = λ i.
    let stays = g.T.Occupancy.has_table c.args.tables.now in
    let seen = c.self.view_is in
    let few = ap edges_of c.in-Few.is in
    let same : c.in-Few.few.items ≡ c.args.self.now = cc in
    kept_values same_id id_eq-Decides stays c.in-Few.few.items c.retain.new.self.items (subst HasEachIdOnce c.in-Few.is c.self.invariant)
    (filter_same _ (λ e. stays e.1) _ (λ k b f' call. search rules) _ _ c.retain.ensures.filtered) i
    ∙ ap (λ es. kept_if stays (lookup (same_id i) es)) same

pub returns-in-Many : goal.returns-in-Many
returns-in-Many g c = λ i.
    let stays = g.T.Occupancy.has_table c.args.tables.now in
    let seen = c.self.view_is in
    let many = ap edges_of c.in-Many.is in
    let here = ap (λ m. m.entries) c.deref_mut.ensures.value in
    let same : c.deref_mut.result.now.entries ≡ c.args.self.now = cc in
    let read = ap (λ m. m.entries) c.deref.ensures in
    let counted : c.deref.result.now.entries ≡ c.deref_mut.result.now.entries = cc in
    kept_values same_id id_eq-Decides stays c.deref_mut.result.now.entries c.retain-in-Many.new.self.entries
    (subst (λ es. IsDistinct same_id (keys_of es)) counted c.len-count.ensures.unique)
    (filter_same_pairs _ (λ e. stays e.1) _ (λ k v b w f' call. search rules) _ _ c.retain-in-Many.ensures.filtered) i
    ∙ ap (λ es. kept_if stays (lookup (same_id i) es)) same
