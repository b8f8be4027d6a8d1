use Rattle.eco_tables.proofs.Common.{◌≡◌, ◌<◌, ◌∙◌, ColumnState, ap, arith, get_or, get_or-map, get_or_default, held_in, length, length-map, map, pushed}
use Rattle.eco_tables.proofs.Common.{sym, unwrap_or, value_in, with_removed, zeros}
use Rattle.std.proofs.lemmas.List.{take_more_same}
use Rattle.eco_tables.proofs.Held.{found_at, id_at, mapped_more, not_yet}
use Rattle.eco_tables.proofs.columns.move_alike.Goals as goal

pub loop-place-preserved : goal.loop-place-preserved
loop-place-preserved c =
    let at = c.loop-place in
    let k = at.place in
    let row = c.args.row in
    let cs = c.args.columns.now in
    let ds = c.args.source.now in
    let f = λ (x : ColumnState). pushed x (value_in (held_in ds row) x.id) in
    let g = λ (x : ColumnState). with_removed x row in
    let id_of = λ (x : ColumnState). x.id in
    let here : k < length cs = omega (arith, c.loop-place-test.true, at.auto.columns) in
    let there : k < length ds = omega (arith, c.if-place-source.true, at.auto.source) in
    let own = c.index-columns-place-in-loop-place.result in
    let other = c.index-source-place-in-loop-place.result in
    let own_at : get_or at.columns k own ≡ get_or cs k own = not_yet f cs at.columns k own here at.invariant.taken in
    let other_at : get_or at.source k other ≡ get_or ds k other = not_yet g ds at.source k other there at.invariant.left in
    let own_told : get_or at.columns k c.index-columns-place.result ≡ get_or cs k own =
    not_yet f cs at.columns k c.index-columns-place.result here at.invariant.taken
    ∙ get_or_default cs k c.index-columns-place.result own here in
    let other_told : get_or at.source k c.index-source-place.result ≡ get_or ds k other =
    not_yet g ds at.source k c.index-source-place.result there at.invariant.left
    ∙ get_or_default ds k c.index-source-place.result other there in
    let same : (get_or cs k own).id ≡ (get_or ds k other).id =
    ap id_of (sym own_told) ∙ sym c.id.ensures ∙ c.is.ensures.exact.0 c.if-is.true ∙ c.id-then-place-source.ensures ∙ ap id_of other_told in
    let id = (get_or at.columns k own).id in
    let own_same : (get_or ds k other).id ≡ id = sym same ∙ ap id_of (sym own_at) in
    let value : get_or (get_or at.source k other).values row zeros ≡ value_in (held_in ds row) id =
    ap (λ x. get_or x.values row zeros) other_at
    ∙ sym (ap (λ o. unwrap_or o zeros)
    (found_at ds k id (id_at ds k other id there own_same) (λ x. get_or x.values row zeros) other c.requires.ascending)) in
    record {
      here = omega (arith, here);
      there = omega (arith, there);
      alike = take_more_same (map id_of cs) (map id_of ds) k id (rw (length-map cs id_of) here) (rw (length-map ds id_of) there) at.invariant.alike
          (get_or-map id_of cs k own id here ∙ same ∙ sym (get_or-map id_of ds k other id there));
      taken = mapped_more f cs at.columns k own c.take_from.new.self here at.auto.columns at.invariant.taken
          (c.take_from.ensures.taken ∙ ap (λ v. pushed (get_or at.columns k own) v) value);
      left = mapped_more g ds at.source k other c.take_from.new.source there at.auto.source at.invariant.left c.take_from.ensures.left;
    }
