use Rattle.eco_index.proofs.Common.{◌≡◌, ap, subst, ◌∙◌, not, cond, None, rules, id_eq, lookup, same_id}
use Rattle.std.proofs.lemmas.Fn.{filter_same}
use Rattle.eco_index.specs.EdgeList.{edges_of, HasEachIdOnce}
use Rattle.eco_index.proofs.SlotEdges.{taken, filtered_apart}
use Rattle.eco_index.proofs.edges.edge_list.EdgeList.take.Goals as goal

pub invariant_of-self-in-Few : goal.invariant_of-self-in-Few
invariant_of-self-in-Few c =
    filtered_apart (λ e. not (id_eq c.args.id e.0)) c.in-Few.few.items c.retain.new.self.items (subst HasEachIdOnce c.in-Few.is c.self.invariant)
    (filter_same _ (λ e. not (id_eq c.args.id e.0)) _ (λ k b f' call. search rules) _ _ c.retain.ensures.filtered)

pub returns-in-Few : goal.returns-in-Few
returns-in-Few c = λ i.
    let seen = c.self.view_is in
    let few = ap edges_of c.in-Few.is in
    let same : c.in-Few.few.items ≡ c.args.self.now = cc in
    taken c.args.id c.in-Few.few.items c.retain.new.self.items
    (filter_same _ (λ e. not (id_eq c.args.id e.0)) _ (λ k b f' call. search rules) _ _ c.retain.ensures.filtered) i
    ∙ ap (λ es. cond (same_id c.args.id i) None (lookup (same_id i) es)) same
