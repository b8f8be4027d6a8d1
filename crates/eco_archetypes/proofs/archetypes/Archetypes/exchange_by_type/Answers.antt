use Rattle.eco_archetypes.proofs.Common.{◌≡◌, ◌≢◌, Some, sym, ap, ◌∙◌, id_cmp, has_item, type_at}
use Rattle.eco_archetypes.proofs.Exchanges.{exchanged_apart}
use Rattle.eco_archetypes.proofs.ArchetypeLemmas.{typed_table}
use Rattle.eco_archetypes.proofs.Turnings.{if_ok}
use Rattle.eco_archetypes.proofs.archetypes.Archetypes.exchange_by_type.Goals as goal

pub returns-clause-apart : goal.returns-clause-apart
returns-clause-apart c =
    let s = c.args.self.now in
    let s1 = c.room_for.new.self in
    let own = c.type_in.result.now in
    let was = rw c.self.view_is at c.type_in.ensures.typed in
    let kept = c.room_for.ensures.types c.args.slot own was in
    let lacks = ap (λ ids. has_item id_cmp ids c.args.coming) (sym (typed_table s c.args.slot own was)) ∙ c.requires.absent in
    if_ok (λ n. type_at s1 n ≡ Some c.in_ok-type_list.type_list) (λ n. c.args.slot ≢ n) c.room_for.result
    (λ n typed. exchanged_apart s1 c.args.slot n own c.args.leaving c.args.coming kept (typed ∙ ap Some c.in_ok-type_list.ensures) lacks)
    c.room_for.ensures.typed
