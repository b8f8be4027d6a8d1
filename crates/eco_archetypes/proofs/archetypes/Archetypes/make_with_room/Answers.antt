use Rattle.std.proofs.lemmas.Result.{IfOk-from_err, MatchResult-from_err}
use Rattle.eco_archetypes.proofs.Common.{option_map, ap, ◌∙◌, err_says, need, TableState}
use Rattle.eco_archetypes.proofs.ArchetypeLemmas.{rows_from_slots, then_rows}
use Rattle.eco_archetypes.proofs.Makings.{rowless_same, rowless_set, rowless_reset, made_roomier, made_rows, made_typed}
use Rattle.eco_archetypes.proofs.Makings.{roomy_types, dropped_types, unmade_roomless}
use Rattle.eco_archetypes.proofs.Widths.{kept_widths, same_kept}
use Rattle.eco_archetypes.proofs.archetypes.Archetypes.make_with_room.Goals as goal

pub returns-in_err-slot : goal.returns-in_err-slot
returns-in_err-slot c = record {
  typed = IfOk-from_err c.from_residual.result _ c.from_residual.ensures.0;
  room = IfOk-from_err c.from_residual.result _ c.from_residual.ensures.0;
  kept = IfOk-from_err c.from_residual.result _ c.from_residual.ensures.0;
  rowless = λ slots was.
      MatchResult-from_err c.from_residual.result _ _ c.from_residual.ensures.0 (λ e. rowless_same _ _ c.in_err-slot.ensures.err slots was);
  rows = rows_from_slots _ _ c.in_err-slot.ensures.err;
  types = λ n ids had. ap (option_map (λ (t : TableState). t.ids)) (c.in_err-slot.ensures.err n) ∙ had;
  widths = kept_widths _ _ (same_kept _ _ c.in_err-slot.ensures.err) _;
  refused = err_says _ c.in_err-slot.ensures.err;
}

pub returns-in-Ok : goal.returns-in-Ok
returns-in-Ok c = record {
  typed = made_typed _ _ _ _ _ c.in_ok-slot.ensures.vacant c.in_ok-slot.ensures.makes _ c.reserve_rows.ensures.sets;
  room = c.in-Ok.ensures.room;
  kept = made_roomier _ _ _ _ _ c.in_ok-slot.ensures.vacant c.in_ok-slot.ensures.makes _ c.reserve_rows.ensures.sets;
  rowless = λ slots was. rowless_reset _ _ _ slots _ c.reserve_rows.ensures.sets (rowless_set _ _ _ slots _ c.in_ok-slot.ensures.makes was);
  rows = then_rows _ _ _ (made_rows _ _ _ _ _ c.in_ok-slot.ensures.vacant c.in_ok-slot.ensures.makes) c.reserve_rows.ensures.rows;
  types = roomy_types _ _ _ _ _ c.in_ok-slot.ensures.vacant c.in_ok-slot.ensures.makes _ c.reserve_rows.ensures.sets;
  widths = λ covers. c.reserve_rows.ensures.widths (need c.args.entities.now) (c.in_ok-slot.ensures.widths covers);
  refused = tt;
}

pub returns-in-Err : goal.returns-in-Err
returns-in-Err c = record {
  typed = tt;
  room = tt;
  kept = tt;
  rowless = λ slots was.
      c.drop_empty.ensures.rowless slots
      (rowless_reset _ _ _ slots _ c.reserve_rows.ensures.sets (rowless_set _ _ _ slots _ c.in_ok-slot.ensures.makes was));
  rows =
      then_rows _ _ _ (made_rows _ _ _ _ _ c.in_ok-slot.ensures.vacant c.in_ok-slot.ensures.makes)
      (then_rows _ _ _ c.reserve_rows.ensures.rows c.drop_empty.ensures.rows);
  types =
      dropped_types _ _ _ _ _ c.in_ok-slot.ensures.vacant c.in_ok-slot.ensures.makes _ c.reserve_rows.ensures.sets _ _
      c.drop_empty.ensures.dropped c.drop_empty.ensures.kept;
  widths = λ covers.
      c.drop_empty.ensures.widths (need c.args.entities.now)
      (c.reserve_rows.ensures.widths (need c.args.entities.now) (c.in_ok-slot.ensures.widths covers));
  refused =
      unmade_roomless _ _ _ _ _ _ _ c.in_ok-slot.ensures.vacant c.in_ok-slot.ensures.makes c.in-Err.ensures.refused
      c.drop_empty.ensures.dropped;
}
