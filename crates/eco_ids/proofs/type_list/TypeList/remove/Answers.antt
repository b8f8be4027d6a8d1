use Rattle.eco_ids.proofs.Common.{◌≡◌, slice_get, Some, remove, rules, id_cmp, without_item}
use Rattle.eco_ids.proofs.Ascending.{ascending_without}
use Rattle.eco_ids.proofs.type_list.TypeList.remove.Goals as goal

pub returns-in-Ok-clause-ascending : goal.returns-in-Ok-clause-ascending
returns-in-Ok-clause-ascending c =
    let made : c.remove.new.self ≡ remove c.self.inside.ids c.in-Ok.place = search rules in
    let is : remove c.self.inside.ids c.in-Ok.place ≡ without_item id_cmp c.self.inside.ids c.args.id =
    rw c.self.view_is c.in-Ok.ensures.says.1 in
    rw (made, is) (ascending_without id_cmp _ c.args.id c.self.invariant.ascending)

pub invariant_of-self : goal.invariant_of-self
invariant_of-self c =
    let made : c.remove.new.self ≡ remove c.self.inside.ids c.in-Ok.place = search rules in
    let is : remove c.self.inside.ids c.in-Ok.place ≡ without_item id_cmp c.self.inside.ids c.args.id =
    rw c.self.view_is c.in-Ok.ensures.says.1 in
    let there : slice_get c.self.inside.ids c.in-Ok.place ≡ Some c.args.id = rw c.self.view_is c.in-Ok.ensures.there in
    rw made (record {
      ascending = rw is (ascending_without id_cmp _ c.args.id c.self.invariant.ascending);
      marked = c.left_by-self-inside.ensures _ c.in-Ok.place there c.self.invariant.marked;
    })
