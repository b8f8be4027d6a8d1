use Rattle.eco_ids.proofs.Common.{◌≡◌, ◌+◌, ◌-◌, ◌≤◌, length, drop, insert, ap, ◌∙◌, arith, length-drop}
use Rattle.eco_ids.proofs.Gaps.{insert_behind}
use Rattle.eco_ids.proofs.id_list.IdList.insert_beside_gap.Goals as goal

pub returns-clause-ok : goal.returns-clause-ok
returns-clause-ok c =
    let ids = c.win_room-self-inside.new.ids.items in
    let gone = c.win_room-self-inside.result in
    let place = c.args.place in
    let same : drop gone ids ≡ c.args.self.now = c.win_room-self-inside.ensures.same ∙ c.self.view_is in
    let was = length-drop c.self.inside.gone c.self.inside.ids.items in
    let shown = ap length c.self.view_is in
    let left = length-drop gone ids in
    let alike = ap length same in
    let one = c.len.ensures.value in
    let two = c.len-2.ensures.value in
    let within : gone ≤ length ids = c.win_room-self-inside.ensures.within in
    let fits : gone + place ≤ length ids = omega arith in
    let at : c.len-2.result - (c.len.result - c.self.inside.gone - place) ≡ gone + place = omega arith in
    ap (drop gone) (c.in_ok-insert.ensures.ok ∙ ap (λ n. insert ids n c.args.id) at) ∙ insert_behind ids gone place fits c.args.id
    ∙ ap (λ l. insert l place c.args.id) same
