use Rattle.eco_ids.proofs.Common.{◌≡◌, ◌+◌, ◌<◌, ◌≤◌, length, drop, remove, ap, ◌∙◌, arith, length-drop}
use Rattle.eco_ids.proofs.Gaps.{length_up, moved_up, refill_whole, remove_behind}
use Rattle.std.specs.List.{copy_within}
use Rattle.eco_ids.proofs.id_list.IdList.remove.Goals as goal

pub returns-then-spilled : goal.returns-then-spilled
returns-then-spilled c =
    let ids = c.self.inside.ids.items in
    let gone = c.self.inside.gone in
    let place = c.args.place in
    let left = length-drop gone ids in
    let there : place < length (drop gone ids) = rw c.self.view_is c.requires in
    let less : gone + place < length ids = omega arith in
    let fits : gone + place ≤ length ids = omega arith in
    let moved : c.copy_within.new.self ≡ copy_within ids gone (gone + place) (gone + 1) =
    c.copy_within.ensures.after ∙ ap (λ l. copy_within l gone (gone + place) (gone + 1)) c.as_mut_slice-ids.ensures.value in
    ap (drop (gone + 1)) (refill_whole ids c.copy_within.new.self (ap length moved ∙ length_up ids gone place fits less) ∙ moved)
    ∙ moved_up ids gone place fits less ∙ ap (λ l. remove l place) c.self.view_is

pub returns-else-count-gt-FEW_MOVED : goal.returns-else-count-gt-FEW_MOVED
returns-else-count-gt-FEW_MOVED c =
    let ids = c.self.inside.ids.items in
    let gone = c.self.inside.gone in
    let place = c.args.place in
    let left = length-drop gone ids in
    let there : place < length (drop gone ids) = rw c.self.view_is c.requires in
    let fits : gone + place ≤ length ids = omega arith in
    ap (drop gone) c.remove.ensures.items ∙ remove_behind ids gone place fits ∙ ap (λ l. remove l place) c.self.view_is
