use Rattle.eco_index.proofs.Common.{◌≡◌, false, subst, sym, list_any, nat_eq}
use Rattle.eco_index.proofs.SlotLists.{covered, offered}
use Rattle.eco_index.proofs.id_index.slot_list.SlotList.offer.Goals as goal

pub invariant_of-self : goal.invariant_of-self
invariant_of-self c =
    let own = c.self.inside in
    covered own.first own.slots.items own.places.items c.cover.new.places.items c.self.invariant c.in_err-cover.ensures.kept

pub invariant_of-self-in_err-push : goal.invariant_of-self-in_err-push
invariant_of-self-in_err-push c =
    let own = c.self.inside in
    rw c.in_err-push.ensures.items
    (covered own.first own.slots.items own.places.items c.cover.new.places.items c.self.invariant c.in_ok-cover.ensures.kept)

pub invariant_of-self-2 : goal.invariant_of-self-2
invariant_of-self-2 c =
    let own = c.self.inside in
    let new : list_any (nat_eq c.args.slot) own.slots.items ≡ false =
    subst (λ l. list_any (nat_eq c.args.slot) l.slots ≡ false) (sym c.self.view_is) c.requires in
    rw (c.in_ok-push.ensures.items, c.len-place.ensures, own.slots.ok.0)
    (offered own.first own.slots.items c.cover.new.places.items c.args.slot c.in-Some.away
    (covered own.first own.slots.items own.places.items c.cover.new.places.items c.self.invariant c.in_ok-cover.ensures.kept)
    new c.in-Some.ensures.1 c.in_ok-cover.ensures.enough)
