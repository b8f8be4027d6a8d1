use Rattle.eco_store.proofs.AnswersCommon.{◌≡◌, Option, Bor, sym, ◌∙◌, subst, IsSome, Slot, patterns_of, term_view, group_at, groups_of, same_Some}
use Rattle.eco_store.proofs.Groups.{group_is}
use Rattle.eco_store.proofs.asking.Asking.slot_of.Goals as goal

pub unwrap-requires : goal.unwrap-requires
unwrap-requires c =
    let found = group_is c.slots.result.now c.args.self.now.query.now c.slots.ensures c.args.group c.positive_at.result c.positive_at.ensures c.requires in
    subst (λ (o : Option (Bor Slot)). IsSome o) (sym found.1) cc

pub returns : goal.returns
returns c =
    let found = group_is c.slots.result.now c.args.self.now.query.now c.slots.ensures c.args.group c.positive_at.result c.positive_at.ensures c.requires in
    let same = same_Some _ _ (sym found.1 ∙ c.unwrap.ensures) in
    subst (λ (s : Bor Slot). group_at (groups_of c.args.self.now.query.now) c.args.group ≡ patterns_of (term_view s.now.term)) same found.2
