use Rattle.eco_traits.proofs.Common.{false, sym, ap, ◌∙◌, ◌&&◌, not, filter, true≢false, same_tests, list_any, is_with, has_item, id_cmp, is_pair_of}
use Rattle.eco_traits.proofs.Common.{One, ACYCLIC, EXCLUSIVE}
use Rattle.eco_traits.proofs.Traits.{with_among}
use Rattle.eco_traits.proofs.Replaced.{replaces}
use Rattle.eco_traits.proofs.target.short_way.Goals as goal

pub returns-clause-replaces : goal.returns-clause-replaces
returns-clause-replaces g c =
    let ids = c.as_slice.ensures.ids in
    let told = c.of-told.ensures in
    let brings = with_among c.args.traits.now c.of-told.result.brings (told.brings ∙ ap (list_any is_with) ids) in
    let acyclic = told.acyclic ∙ ap (λ ids. has_item id_cmp ids (One ACYCLIC)) ids in
    let exclusive = told.exclusive ∙ ap (λ ids. has_item id_cmp ids (One EXCLUSIVE)) ids in
    replaces (g.H.Holdings.world c.args.holdings.now) c.args.relationship c.args.target c.args.traits.now c.requires.traits
    c.args.entity c.args.own.now c.in_ok-replaced.replaced c.requires.lives c.requires.absent c.requires.own c.replaced_by.ensures.ascending
    c.requires.sound (sym c.ties_symmetric.ensures ∙ c.if-ties_symmetric.false)
    (sym c.is_wrong_policy.ensures ∙ c.if-is_wrong_policy.false)
    (λ x. same_tests _ false (λ h. absurd (true≢false (sym (brings.1 (x, h)) ∙ c.if-told.false))) (λ h. absurd (true≢false (sym h))))
    (λ h. c.may_close.ensures c.if-may_close.false (acyclic ∙ h))
    (c.in_ok-replaced.ensures.left ∙ ap (λ b. filter (λ id. not (b && is_pair_of c.args.relationship id)) c.args.own.now) exclusive)
