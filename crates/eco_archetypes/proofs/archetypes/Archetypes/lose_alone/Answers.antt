use Rattle.eco_archetypes.proofs.Common.{◌≡◌, Some, refl, ap, sym, subst, ◌∙◌, same_Some, id_cmp, has_item, without_item, fingerprint, table_in}
use Rattle.eco_archetypes.proofs.Common.{then_told, TakesType}
use Rattle.eco_archetypes.proofs.ArchetypeLemmas.{found_ready}
use Rattle.eco_archetypes.proofs.Turnings.{found_turned}
use Rattle.eco_archetypes.proofs.archetypes.Archetypes.lose_alone.Goals as goal

pub invariant_of-self : goal.invariant_of-self
invariant_of-self c = found_ready c.self.invariant (λ p n. refl) c.reserve_one.ensures.same

pub mark_without-left-requires : goal.mark_without-left-requires
mark_without-left-requires c = ap (λ ids. has_item id_cmp ids c.args.id) c.type_in-old.ensures.ids ∙ (rw (← c.self.view_is) at c.requires.has)

pub invariant_of-self-in_err-add : goal.invariant_of-self-in_err-add
invariant_of-self-in_err-add c = found_ready c.self.invariant c.in_err-add.ensures.err c.reserve_one.ensures.same

pub invariant_of-self-2 : goal.invariant_of-self-2
invariant_of-self-2 c =
    let s = c.self.inside.tables in
    let new = c.type_in.result.now in
    let is : new ≡ without_item id_cmp (table_in s c.args.slot).ids c.args.id =
    same_Some _ _ (sym c.type_in.ensures.typed ∙ c.lose.ensures.turned.typed) in
    let left : c.mark_without-left.result ≡ fingerprint new =
    c.mark_without-left.ensures ∙ ap (λ ids. fingerprint (without_item id_cmp ids c.args.id)) c.type_in-old.ensures.ids ∙ ap fingerprint (sym is) in
    found_turned c.self.invariant c.type_in-old.ensures.typed (subst (TakesType s c.lose.new.tables c.args.slot) (sym is) c.lose.ensures.turned)
    (λ n e. (rw (← c.self.view_is) at c.requires.absent) n (e ∙ ap Some is))
    (rw left at c.in_ok-add.ensures.ok) (rw (c.mark-mark.ensures, left) at c.leave.ensures)
    c.lose.ensures.index c.cut.ensures c.lose.ensures.agreed (then_told _ _ _ _ _ c.reserve_one.ensures.same c.tell.ensures.told)
