use Rattle.eco_frame.proofs.Common.{rules, ◌≡◌, ◌++◌, ◌∷◌, [], flat_map, length, map, option_map, option_to_list, refl, sym, take, ap}
use Rattle.eco_frame.proofs.Common.{◌∙◌, get_or, append-nil, map_push, take_all, take_more, slice_get_read, part_at, body_with_rows, seen_part}
use Rattle.std.proofs.lemmas.Grind.{flat_map-append}
use Rattle.eco_frame.proofs.part.parts.Goals as goal

pub loop-place-preserved : goal.loop-place-preserved
loop-place-preserved g c =
    let f = part_at c.args.world.now c.args.systems.now in
    let places = c.args.places.now in
    let k = c.loop-place.place-index in
    let less = c.loop-place-test.true in
    let place = get_or places k 0 in
    let system = c.index-systems-place.result in
    let part = c.in_ok-ask.field-0 in
    let there = slice_get_read c.args.systems.now (length c.args.systems.now) place system refl (c.requires k 0 less) c.index-systems-place.is in
    let one : f place ≡ body_with_rows c.args.world.now system ∷ [] = ap (λ o. option_to_list (option_map (body_with_rows c.args.world.now) o)) there in
    let pushed : c.push.new.self.items ≡ c.loop-place.parts.items ++ part ∷ [] = search rules in
    ap (map seen_part) pushed ∙ map_push seen_part c.loop-place.parts.items part
    ∙ ap (λ ps. ps ++ seen_part part ∷ []) c.loop-place.invariant
    ∙ ap (λ p. flat_map f (take k places) ++ p ∷ []) c.in_ok-ask.ensures.ok
    ∙ ap (λ ps. flat_map f (take k places) ++ ps) (sym one ∙ sym (append-nil (f place)))
    ∙ sym (flat_map-append f (take k places) (place ∷ []))
    ∙ ap (flat_map f) (sym (take_more places k 0 less))

pub returns-clause-ok : goal.returns-clause-ok
returns-clause-ok g c =
    let f = part_at c.args.world.now c.args.systems.now in
    c.loop-place.invariant ∙ ap (flat_map f) (take_all c.loop-place.place-index c.args.places.now c.loop-place-test.false)
