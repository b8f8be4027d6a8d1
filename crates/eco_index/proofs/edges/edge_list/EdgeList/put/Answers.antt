use Rattle.eco_index.proofs.Common.{◌≡◌, ◌++◌, ◌∷◌, [], ap, sym, subst, ◌∙◌, lookup, same_id}
use Rattle.std.specs.List.{IsDistinct}
use Rattle.std.specs.Map.{keys_of}
use Rattle.eco_index.specs.EdgeList.{edges_of, HasEachIdOnce}
use Rattle.eco_index.proofs.SlotEdges.{added, apart_pushed, two_apart}
use Rattle.eco_index.proofs.edges.edge_list.EdgeList.put.Goals as goal

pub invariant_of-self-in-One : goal.invariant_of-self-in-One
invariant_of-self-in-One c =
    let seen = c.self.view_is in
    let one = ap edges_of c.in-One.is in
    let same : c.in-One.own ∷ [] ≡ c.args.self.now = cc in
    two_apart c.in_ok-both-in-One.field-0.items c.in-One.own c.args.id c.args.to c.in_ok-both-in-One.ensures
    (ap (lookup (same_id c.args.id)) same ∙ c.requires)

pub invariant_of-self-in_ok-push-in-Few : goal.invariant_of-self-in_ok-push-in-Few
invariant_of-self-in_ok-push-in-Few c =
    let seen = c.self.view_is in
    let few = ap edges_of c.in-Few.is in
    let same : c.in-Few.few.items ≡ c.args.self.now = cc in
    subst (λ es. IsDistinct same_id (keys_of es)) (sym c.in_ok-push-in-Few.ensures.items)
    (apart_pushed c.in-Few.few.items c.args.id c.args.to (subst HasEachIdOnce c.in-Few.is c.self.invariant)
    (ap (lookup (same_id c.args.id)) same ∙ c.requires))

pub returns-in_ok-insert-in-Many-clause-ok : goal.returns-in_ok-insert-in-Many-clause-ok
returns-in_ok-insert-in-Many-clause-ok c =
    let seen = c.self.view_is in
    let many = ap edges_of c.in-Many.is in
    let here = ap (λ m. m.entries) c.deref_mut.ensures.value in
    let same : c.deref_mut.result.now.entries ≡ c.args.self.now = cc in
    added c.deref_mut.result.now.entries c.insert.new.self.entries c.args.id c.args.to c.in_ok-insert-in-Many.ensures.entries
    (ap (lookup (same_id c.args.id)) same ∙ c.requires)
    ∙ ap (λ es. es ++ (c.args.id, c.args.to) ∷ []) same
