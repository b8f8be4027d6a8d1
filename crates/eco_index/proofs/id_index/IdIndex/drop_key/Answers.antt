use Rattle.eco_index.proofs.Common.{None, IfSome, subst, Updates, same_key}
use Rattle.eco_index.proofs.Places.{full_without, marked_without}
use Rattle.eco_index.proofs.id_index.IdIndex.drop_key.Goals as goal

pub invariant_of-self : goal.invariant_of-self
invariant_of-self c =
    let own = c.args.self.now in
    let m' = c.swap_remove_index.new.self in
    let went = c.swap_remove_index.ensures in
    record {
      full = full_without own.slots m' own.full c.swap_remove_index.result went.updates went.unchanged;
      marked = marked_without own.slots m' own.marks c.note.new.self own.marked c.note.ensures.kept c.swap_remove_index.result went.updates went.unchanged;
    }

pub invariant_of-self-in_default : goal.invariant_of-self-in_default
invariant_of-self-in_default c =
    let own = c.args.self.now in
    let m' = c.swap_remove_index.new.self in
    let went = c.swap_remove_index.ensures in
    record {
      full = full_without own.slots m' own.full c.swap_remove_index.result went.updates went.unchanged;
      marked = marked_without own.slots m' own.marks own.marks own.marked (λ k might. might) c.swap_remove_index.result went.updates went.unchanged;
    }

pub returns-in-Some : goal.returns-in-Some
returns-in-Some c =
    subst (λ o. IfSome o (λ e. Updates same_key c.args.self.now.slots c.swap_remove_index.new.self e.0 None)) c.swap_remove_index.ensures.entry
    c.swap_remove_index.ensures.updates

pub returns-in_default : goal.returns-in_default
returns-in_default c =
    subst (λ o. IfSome o (λ e. Updates same_key c.args.self.now.slots c.swap_remove_index.new.self e.0 None)) c.swap_remove_index.ensures.entry
    c.swap_remove_index.ensures.updates
