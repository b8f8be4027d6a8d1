use Rattle.eco_ids.proofs.Common.{◌≡◌, ◌+◌, ◌-◌, ◌++◌, ℕ, suc, List, Id, length, take, drop, remove, ap, ◌∙◌, arith, slice_get, Some, id_cmp, without_item}
use Rattle.eco_ids.proofs.Common.{take_rest}
use Rattle.eco_ids.proofs.Ascending.{ascending_without}
use Rattle.eco_ids.proofs.type_list.TypeList.without_at.Goals as goal

-- a list that is filled with what is before the place and what is behind it
filled : (own shown new : List Id) (place : ℕ) → shown ≡ own
    → new ≡ take place shown ++ take (length shown - (place + 1)) (drop (place + 1) shown) → new ≡ remove own place
filled own shown new place same is =
    let on : place + 1 ≡ suc place = omega arith in
    is ∙ ap (λ ids. take place shown ++ ids) (take_rest shown (place + 1) ∙ ap (λ n. drop n shown) on) ∙ ap (λ ids. remove ids place) same

pub returns-clause-is : goal.returns-clause-is
returns-clause-is c =
    filled c.args.self.now c.as_slice-own.result.now c.in_ok-ids.ids c.args.place (c.as_slice-own.ensures ∙ c.self.view_is) c.in_ok-ids.ensures.is
    ∙ c.requires.says

pub invariant_of-result : goal.invariant_of-result
invariant_of-result c =
    let place = c.args.place in
    let made : c.in_ok-ids.ids ≡ remove c.self.inside.ids place =
    filled c.self.inside.ids c.as_slice-own.result.now c.in_ok-ids.ids place c.as_slice-own.ensures c.in_ok-ids.ensures.is in
    let is : remove c.self.inside.ids place ≡ without_item id_cmp c.self.inside.ids c.args.id = rw c.self.view_is c.requires.says in
    let there : slice_get c.self.inside.ids place ≡ Some c.args.id = rw c.self.view_is c.requires.there in
    rw made (record {
      ascending = rw is (ascending_without id_cmp _ c.args.id c.self.invariant.ascending);
      marked = c.left_by.ensures _ place there c.self.invariant.marked;
    })
