use Rattle.eco_archetypes.proofs.Common.{◌≡◌, ◌+◌, Some, option_map, take, drop, slice_get, sym, ap, ◌∙◌, option_copied, id_cmp, has_item}
use Rattle.eco_archetypes.proofs.Common.{TableState, exchanged, type_at}
use Rattle.eco_archetypes.proofs.Exchanges.{exchanged_apart, exchanged_is}
use Rattle.eco_archetypes.proofs.ArchetypeLemmas.{typed_table}
use Rattle.eco_archetypes.proofs.archetypes.Archetypes.first_exchanged.Goals as goal

found_typed : (c : goal.Then-differs_there)
    → type_at c.args.self.now c.in_ok-to.to ≡ Some (exchanged c.type_in-own.result.now c.args.leaving c.args.coming)
found_typed c =
    let s = c.args.self.now in
    let own = c.type_in-own.result.now in
    let other = c.type_list-other.result.now in
    let place = c.in_ok-place.place in
    let at = sym c.get.ensures ∙ ap option_copied c.in_ok-get.was in
    let typed = rw c.self.view_is at (ap (option_map (λ (t : TableState). t.ids)) at ∙ ap Some (sym c.type_list-other.ensures.ids)) in
    let mine = c.as_slice.ensures.ids in
    let theirs = c.as_slice-2.ensures.ids in
    let yes = c.if-differs_there.true in
    let there = ap (λ xs. slice_get xs place) (sym theirs) ∙ c.differs_there.ensures.there yes in
    let before = ap (λ xs. take place xs) (sym mine) ∙ c.differs_there.ensures.before yes ∙ ap (λ xs. take place xs) theirs in
    let behind = ap (λ xs. drop (place + 1) xs) (sym mine) ∙ c.differs_there.ensures.behind yes ∙ ap (λ xs. drop (place + 1) xs) theirs in
    let is = exchanged_is own other c.args.leaving c.args.coming place c.as_slice.ensures.ascending c.as_slice-2.ensures.ascending
    c.in_ok-place.ensures.found there before behind in
    typed ∙ ap (λ ids. Some ids) (sym is)

pub returns-then-differs_there-clause-apart : goal.returns-then-differs_there-clause-apart
returns-then-differs_there-clause-apart c =
    let s = c.args.self.now in
    let own = c.type_in-own.result.now in
    let was = rw c.self.view_is at c.type_in-own.ensures.typed in
    let lacks = ap (λ ids. has_item id_cmp ids c.args.coming) (sym (typed_table s c.args.slot own was)) ∙ c.requires.absent in
    exchanged_apart s c.args.slot c.in_ok-to.to own c.args.leaving c.args.coming was (found_typed c) lacks

pub returns-then-differs_there-clause-typed : goal.returns-then-differs_there-clause-typed
returns-then-differs_there-clause-typed c =
    let own = typed_table c.args.self.now c.args.slot c.type_in-own.result.now (rw c.self.view_is at c.type_in-own.ensures.typed) in
    found_typed c ∙ ap (λ ids. Some (exchanged ids c.args.leaving c.args.coming)) (sym own)
