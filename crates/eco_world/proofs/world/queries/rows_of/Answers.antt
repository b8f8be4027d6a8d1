use Rattle.eco_world.proofs.Common.{rules, ◌≡◌, ◌++◌, ◌∷◌, [], Some, map, take, sym, ap, ◌∙◌, map_push, take_more, get_or_from_slice_get}
use Rattle.eco_world.proofs.Common.{slice_get_within, result_of}
use Rattle.std.specs.List.{slice_get}
use Rattle.eco_world.proofs.world.queries.rows_of.Goals as goal

pub loop-place-preserved : goal.loop-place-preserved
loop-place-preserved c =
    let all = c.args.results.now in
    let k = c.loop-place.place in
    let row = c.in_ok-of.field-0 in
    let at : slice_get all k ≡ Some (result_of row) = c.get.ensures ∙ ap Some (sym c.in_ok-of.ensures) in
    let pushed : c.push.new.self.items ≡ c.loop-place.rows.items ++ row ∷ [] = search rules in
    ap (map result_of) pushed ∙ map_push result_of c.loop-place.rows.items row ∙ ap (λ rs. rs ++ result_of row ∷ []) c.loop-place.invariant
    ∙ ap (λ r. take k all ++ r ∷ []) (sym (get_or_from_slice_get all k (result_of row) (result_of row) at))
    ∙ sym (take_more all k (result_of row) (slice_get_within all k (result_of row) at))
