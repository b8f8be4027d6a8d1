use Rattle.eco_index.proofs.Common.{true, true≢false, is_some, slice_get, Some, ap, ◌∙◌, cond, nat_eq, with_value_at, has_slot, is_empty, on_err, on_ok}
use Rattle.eco_index.proofs.Keys.{as_before, none_empty, still_marked, turned}
use Rattle.eco_index.proofs.Places.{same_slots, written_at}
use Rattle.eco_index.proofs.id_index.IdIndex.add.Goals as goal

pub invariant_of-self : goal.invariant_of-self
invariant_of-self c =
    let own = c.args.self.now in
    let m' = with_value_at own.slots c.in-Some.place c.add.new.self in
    let e = c.pair_mut-own.ensures in
    let puts = written_at own.slots c.args.key c.in-Some.place _ c.in-Some.ensures.at e.unique c.add.new.self in
    let had = ap Some (same_slots (slice_get own.slots.entries c.in-Some.place) _ _ e.value c.in-Some.ensures.at) ∙ c.in-Some.ensures.value in
    record {
      full = none_empty own.slots m' c.args.key (Some c.add.new.self) puts own.full (c.add.ensures.full (ap is_empty had ∙ own.full c.args.key));
      marked = still_marked own.slots m' c.args.key (Some c.add.new.self) puts own.marks own.marked
          (λ unmarked. absurd (true≢false (ap is_some (had ∙ own.marked c.args.key unmarked))));
    }

pub returns-clause-ok : goal.returns-clause-ok
returns-clause-ok c =
    let m = c.args.self.now.slots in
    let m' = with_value_at m c.in-Some.place c.add.new.self in
    let e = c.pair_mut-own.ensures in
    let puts = written_at m c.args.key c.in-Some.place _ c.in-Some.ensures.at e.unique c.add.new.self in
    let had = ap Some (same_slots (slice_get m.entries c.in-Some.place) _ _ e.value c.in-Some.ensures.at) ∙ c.in-Some.ensures.value in
    on_ok c.add.result
    (λ changed. turned m m' c.args.key (Some c.add.new.self) puts c.args.slot true
    (λ n. changed n ∙ ap (λ o. cond (nat_eq c.args.slot n) true (has_slot o n)) had))
    c.add.ensures.ok

pub returns-clause-err : goal.returns-clause-err
returns-clause-err c =
    let m = c.args.self.now.slots in
    let m' = with_value_at m c.in-Some.place c.add.new.self in
    let e = c.pair_mut-own.ensures in
    let puts = written_at m c.args.key c.in-Some.place _ c.in-Some.ensures.at e.unique c.add.new.self in
    let had = ap Some (same_slots (slice_get m.entries c.in-Some.place) _ _ e.value c.in-Some.ensures.at) ∙ c.in-Some.ensures.value in
    on_err c.add.result
    (λ same. as_before m m' c.args.key (Some c.add.new.self) puts (λ n. same n ∙ ap (λ o. has_slot o n) had))
    c.add.ensures.err
