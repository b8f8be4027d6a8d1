use Rattle.eco_script.proofs.Common.{rules, ◌≡◌, ◌+◌, ◌++◌, ◌∷◌, [], Some, take, flat_map, string_bytes, sym, ap, ◌∙◌, flat_map_more}
use Rattle.eco_script.proofs.Common.{take_more, Row, row_line}
use Rattle.std.specs.List.{slice_get}
use Rattle.std.proofs.lemmas.Option.{get_or_from_slice_get, slice_get_within}
use Rattle.eco_script.proofs.reply.push_row_lines.Goals as goal

pub loop-place-preserved : goal.loop-place-preserved
loop-place-preserved c =
    let all = c.args.results.now in
    let k = c.loop-place.place in
    let line = λ (r : Row). row_line r.entity r.entries in
    let row : Row = record { entity = c.get.result.0; entries = c.get.result.1.now } in
    let at : slice_get all k ≡ Some row = c.get.ensures in
    let front : take (k + 1) all ≡ take k all ++ row ∷ [] =
    take_more all k row (slice_get_within all k row at) ∙ ap (λ r. take k all ++ r ∷ []) (get_or_from_slice_get all k row row at) in
    let wrote : string_bytes c.write.new.self ≡ string_bytes c.loop-place.text ++ row_line row.entity row.entries = search rules in
    wrote ∙ ap (λ t. t ++ line row) c.loop-place.invariant ∙ flat_map_more line (string_bytes c.args.text.now) (take k all) row
    ∙ ap (λ rs. string_bytes c.args.text.now ++ flat_map line rs) (sym front)
