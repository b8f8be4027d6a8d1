use Rattle.eco_tables.proofs.Common.{◌<◌, arith, ap, sym, ◌∙◌, get_or, length, unwrap_or, refl, zeros, ColumnState, pushed, value_in, held_in}
use Rattle.eco_tables.proofs.Held.{find-absent, found_at, mapped_all, mapped_more, not_yet, not_yet_all, place_id, place_within}
use Rattle.eco_tables.proofs.columns.push_from.Goals.{in-Some, in-None}
use Rattle.eco_tables.proofs.columns.push_from.Goals as goal

pub find_near-requires : goal.find_near-requires
find_near-requires c = c.requires.ascending

pub bounds-source-place : goal.bounds-source-place
bounds-source-place c = place_within _ _ _ c.in-Some.ensures.found

pub push_from-requires-clause-room : goal.push_from-requires-clause-room
push_from-requires-clause-room c =
    not_yet_all (λ x. 0 < x.room) (λ x. pushed x (value_in (held_in c.args.source.now c.args.row) x.id)) c.args.columns.now
    c.loop-column.columns c.loop-column.column-index
    c.column-item.result (omega arith) c.loop-column.invariant c.requires.room

pub push_from-requires-clause-row : goal.push_from-requires-clause-row
push_from-requires-clause-row c =
    let row : c.args.row < length (get_or c.args.source.now c.in-Some.place c.index-source-place.result).values =
    c.requires.row _ _ (place_within _ _ _ c.in-Some.ensures.found) in
    rw c.index-source-place.is row

pub push_from-requires-clause-width : goal.push_from-requires-clause-width
push_from-requires-clause-width c =
    let k = c.loop-column.column-index in
    let f = λ (x : ColumnState). pushed x (value_in (held_in c.args.source.now c.args.row) x.id) in
    let same = not_yet f c.args.columns.now c.loop-column.columns k c.column-item.result (omega arith) c.loop-column.invariant in
    ap (λ x. x.width) same
    ∙ c.requires.widths k c.column-item.result (omega arith) c.in-Some.place c.index-source-place.result (place_within _ _ _ c.in-Some.ensures.found)
    (ap (λ x. x.id) (sym same) ∙ sym c.id.ensures
    ∙ place_id c.args.source.now c.in-Some.place c.id.result c.in-Some.ensures.found c.index-source-place.result)
    ∙ sym (ap (λ x. x.width) c.index-source-place.is)

pub push_zeros-requires : goal.push_zeros-requires
push_zeros-requires c =
    not_yet_all (λ x. 0 < x.room) (λ x. pushed x (value_in (held_in c.args.source.now c.args.row) x.id)) c.args.columns.now
    c.loop-column.columns c.loop-column.column-index
    c.column-item.result (omega arith) c.loop-column.invariant c.requires.room

pub loop-column-init : goal.loop-column-init
loop-column-init c = refl

pub loop-column-preserved : goal.loop-column-preserved
loop-column-preserved c =
    let here = get_or c.loop-column.columns c.loop-column.column-index c.column-item.result in
    let source = c.args.source.now in
    let row = c.args.row in
    elim c.match-find_near.branch [
      | in-Some w ↦
          rw w.columns-is
          (mapped_more (λ x. pushed x (value_in (held_in source row) x.id)) c.args.columns.now c.loop-column.columns c.loop-column.column-index
          c.column-item.result w.push_from.new.self (omega arith) c.loop-column.auto.columns c.loop-column.invariant
          (w.push_from.ensures ∙ ap (λ v. pushed here v)
          (ap (λ x. get_or x.values row zeros) w.index-source-place.is
          ∙ sym (ap (λ o. unwrap_or o zeros)
          (found_at _ _ _ w.in-Some.ensures.found (λ x. get_or x.values row zeros) w.index-source-place.result c.requires.ascending))
          ∙ ap (λ i. value_in (held_in source row) i) c.id.ensures)))
      | in-None w ↦
          rw w.columns-is
          (mapped_more (λ x. pushed x (value_in (held_in source row) x.id)) c.args.columns.now c.loop-column.columns c.loop-column.column-index
          c.column-item.result w.push_zeros.new.self (omega arith) c.loop-column.auto.columns c.loop-column.invariant
          (w.push_zeros.ensures ∙ ap (λ v. pushed here v)
          (sym (ap (λ o. unwrap_or o zeros) (find-absent (λ x. get_or x.values row zeros) source c.id.result w.in-None.ensures.absent))
          ∙ ap (λ i. value_in (held_in source row) i) c.id.ensures)))
    ]

pub returns : goal.returns
returns c =
    mapped_all (λ x. pushed x (value_in (held_in c.args.source.now c.args.row) x.id)) c.args.columns.now c.loop-column.columns
    c.loop-column.column-index (omega arith) c.loop-column.invariant
