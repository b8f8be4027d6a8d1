use Rattle.eco_ids.proofs.Common.{◌≡◌, ◌+◌, ◌-◌, length, drop, ap, ◌∙◌, length-set, slice_set}
use Rattle.eco_ids.proofs.Gaps.{length_down, moved_down, refill_whole}
use Rattle.std.specs.List.{copy_within}
use Rattle.eco_ids.proofs.id_list.insert_in_gap.Goals as goal

pub returns-clause-is : goal.returns-clause-is
returns-clause-is c =
    let ids = c.args.ids.now.items in
    let gone = c.args.gone in
    let place = c.args.place in
    let moved : c.copy_within.new.self ≡ copy_within ids gone (gone + place) (gone - 1) =
    c.copy_within.ensures.after ∙ ap (λ l. copy_within l gone (gone + place) (gone - 1)) c.as_mut_slice-ids.ensures.value in
    let written = slice_set c.copy_within.new.self (gone - 1 + place) c.args.id in
    let long = length-set c.copy_within.new.self (gone - 1 + place) c.args.id ∙ ap length moved
    ∙ length_down ids gone place c.requires.within c.requires.gone in
    ap (drop (gone - 1)) (refill_whole ids written long ∙ ap (λ l. slice_set l (gone - 1 + place) c.args.id) moved)
    ∙ moved_down ids gone place c.requires.within c.requires.gone c.args.id
