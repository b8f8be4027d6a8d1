use Rattle.eco_index.proofs.Common.{false, true≢false, is_some, slice_get, None, Some, sym, ap, ◌∙◌, cond, nat_eq, with_value_at, has_slot, is_empty}
use Rattle.std.proofs.lemmas.Option.{slice_get_within}
use Rattle.eco_index.proofs.Keys.{none_empty, none_listed, only_one, still_marked, turned}
use Rattle.eco_index.proofs.Places.{goes_at, same_slots, written_at}
use Rattle.eco_index.proofs.id_index.IdIndex.take.Goals as goal

pub returns-in_default : goal.returns-in_default
returns-in_default c = none_listed c.args.self.now.slots c.args.key c.args.slot (sym c.in_default.ensures.value)

pub drop_key-requires : goal.drop_key-requires
drop_key-requires c = slice_get_within c.args.self.now.slots.entries c.in-Some.place _ c.in-Some.ensures.at

pub pair_mut-own-requires : goal.pair_mut-own-requires
pair_mut-own-requires c = slice_get_within c.args.self.now.slots.entries c.in-Some.place _ c.in-Some.ensures.at

pub invariant_of-self : goal.invariant_of-self
invariant_of-self c =
    let own = c.args.self.now in
    let m' = with_value_at own.slots c.in-Some.place c.take.new.self in
    let e = c.pair_mut-own.ensures in
    let puts = written_at own.slots c.args.key c.in-Some.place _ c.in-Some.ensures.at e.unique c.take.new.self in
    let had = ap Some (same_slots (slice_get own.slots.entries c.in-Some.place) _ _ e.value c.in-Some.ensures.at) ∙ c.in-Some.ensures.value in
    record {
      full = none_empty own.slots m' c.args.key (Some c.take.new.self) puts own.full (c.take.ensures.full (ap is_empty had ∙ own.full c.args.key));
      marked = still_marked own.slots m' c.args.key (Some c.take.new.self) puts own.marks own.marked
          (λ unmarked. absurd (true≢false (ap is_some (had ∙ own.marked c.args.key unmarked))));
    }

pub returns-then-is_only : goal.returns-then-is_only
returns-then-is_only c =
    let m = c.args.self.now.slots in
    let m' = c.drop_key.new.self.slots in
    turned m m' c.args.key None (goes_at m c.args.key c.in-Some.place _ c.in-Some.ensures.at m' c.drop_key.ensures) c.args.slot false
    (λ n. only_one _ c.args.slot (sym c.is_only.ensures ∙ c.if-is_only.true) n
    ∙ ap (λ o. cond (nat_eq c.args.slot n) false (has_slot o n)) c.in-Some.ensures.value)

pub returns-else-is_only : goal.returns-else-is_only
returns-else-is_only c =
    let m = c.args.self.now.slots in
    let m' = with_value_at m c.in-Some.place c.take.new.self in
    let e = c.pair_mut-own.ensures in
    let puts = written_at m c.args.key c.in-Some.place _ c.in-Some.ensures.at e.unique c.take.new.self in
    let had = ap Some (same_slots (slice_get m.entries c.in-Some.place) _ _ e.value c.in-Some.ensures.at) ∙ c.in-Some.ensures.value in
    turned m m' c.args.key (Some c.take.new.self) puts c.args.slot false
    (λ n. c.take.ensures.taken n ∙ ap (λ o. cond (nat_eq c.args.slot n) false (has_slot o n)) had)
