use Rattle.eco_world.proofs.Common.{◌≡◌, ◌++◌, ◌∷◌, [], List, map, length, refl, ap, sym, ◌∙◌, subst, append_assoc, append-nil, arith}
use Rattle.eco_world.proofs.Common.{All, map-append, All-push, id_cmp, without_item, TypeChange, asked_by}
use Rattle.eco_world.proofs.Removals.{taken_out_of_all}
use Rattle.eco_world.proofs.world.World.changes_without.Goals as goal

no_items : {X : Type 0} (xs : List X) → length xs ≡ 0 → xs ≡ []
no_items [] none = refl
no_items (x ∷ xs) none = absurd (omega (arith, none))

pub loop-ids-preserved : goal.loop-ids-preserved
loop-ids-preserved c =
    let new : TypeChange = record { from = c.in-Some.ids; to = c.in_ok-to.to } in
    let was = c.loop-ids.invariant in
    let changes : c.push.new.self.items ≡ c.loop-ids.changes.items ++ new ∷ [] = c.in_ok-push.ensures.items in
    let steps = c.in-Some.ensures.steps in
    record {
      rest =
          was.rest ∙ ap (λ xs. c.loop-ids.yielded ++ xs) steps.0
          ∙ sym (append_assoc c.loop-ids.yielded (c.in-Some.ids ∷ []) c.next.new.self.rest.items);
      types =
          ap (map (λ (x : TypeChange). x.from)) changes ∙ map-append (λ (x : TypeChange). x.from) c.loop-ids.changes.items (new ∷ [])
          ∙ ap (λ xs. xs ++ c.in-Some.ids ∷ []) was.types;
      taken =
          subst (All (λ (x : TypeChange). x.to ≡ without_item id_cmp x.from c.args.id)) (sym changes)
          (All-push (λ (x : TypeChange). x.to ≡ without_item id_cmp x.from c.args.id) c.loop-ids.changes.items new was.taken c.in_ok-to.ensures.is);
    }

pub returns : goal.returns
returns c =
    let qs = asked_by c.self.inside.queries.items in
    let none : c.loop-ids.ids-iterator.rest.items ≡ [] = no_items c.loop-ids.ids-iterator.rest.items
    (omega (arith, c.loop-ids.ids-iterator.rest.ok, c.in-None.ensures.steps.0)) in
    let all : c.loop-ids.yielded ≡ c.in_ok-types.types.items =
    sym (append-nil c.loop-ids.yielded) ∙ sym (c.loop-ids.invariant.rest ∙ ap (λ xs. c.loop-ids.yielded ++ xs) none)
    ∙ c.into_iter-ids-iterator.ensures.into_iter_gives.0 in
    rw (← c.self.view_is)
    (taken_out_of_all c.self.inside.edition c.self.inside.store.entities qs c.args.id c.in_ok-types.types.items c.loop-ids.changes.items c.self.invariant
    (rw c.exactly.ensures at c.in_ok-types.ensures.listed) (c.loop-ids.invariant.types ∙ all) c.loop-ids.invariant.taken)
