use Rattle.eco_tables.proofs.Common.{◌≡◌, ap, ◌∙◌, Some, unwrap_or, All-nil, HasIds, no_table, slot_of, table_in, with_rows, without_rows}
use Rattle.eco_tables.proofs.RowIds.{joined_have}
use Rattle.eco_tables.proofs.Slots.{both_lent, both_still, some_within}
use Rattle.eco_tables.proofs.tables.Tables.move_rows.Goals as goal

pub two_mut-source-requires : goal.two_mut-source-requires
two_mut-source-requires c = rw c.as_mut_slice.ensures.value record {
  apart = c.requires.apart;
  from = some_within _ _ (rw c.self.view_is c.requires.source);
  to = some_within _ _ (rw c.self.view_is c.requires.target);
}

pub move_all_between-requires : goal.move_all_between-requires
move_all_between-requires c =
    let lent = c.as_mut_slice.ensures.value ∙ c.self.view_is in
    let source = c.two_mut-source.ensures.from ∙ ap (λ xs. slot_of xs c.args.from) lent in
    let target = c.two_mut-source.ensures.to ∙ ap (λ xs. slot_of xs c.args.to) lent in
    record {
      source = rw source c.requires.source;
      target = rw target c.requires.target;
      room = rw (source, target) c.requires.room;
      widths = rw (source, target) c.requires.widths;
    }

pub invariant_of-self : goal.invariant_of-self
invariant_of-self c =
    let slots = c.self.inside.slots.items in
    let from = c.args.from in
    let to = c.args.to in
    let lent = c.as_mut_slice.ensures.value in
    let moved = c.move_all_between in
    let some_from = rw (← c.self.view_is) at c.requires.source in
    let some_to = rw (← c.self.view_is) at c.requires.target in
    let source = c.two_mut-source.ensures.from ∙ ap (λ xs. slot_of xs from) lent in
    let target = c.two_mut-source.ensures.to ∙ ap (λ xs. slot_of xs to) lent in
    let left : moved.new.source ≡ Some (without_rows (table_in slots from)) =
    moved.ensures.source ∙ ap (λ o. Some (without_rows (unwrap_or o no_table))) source in
    let grown : moved.new.target ≡ Some (with_rows (table_in slots to) (table_in slots from).rows) =
    moved.ensures.target ∙ (λ t. Some (with_rows (unwrap_or (target t) no_table) (unwrap_or (source t) no_table).rows)) in
    rw (both_lent c.self.inside.slots.len slots c.as_mut_slice.result.now from to moved.new.source moved.new.target lent c.self.inside.slots.ok.0, left, grown)
    (both_still slots _ _ c.self.invariant from to _ _ c.requires.apart (some_within slots from some_from) (some_within slots to some_to)
    some_from some_to (λ has. All-nil (HasIds (table_in slots from).ids)) (joined_have (table_in slots to) (table_in slots from).rows)
    (λ up. up) (λ up. up))
