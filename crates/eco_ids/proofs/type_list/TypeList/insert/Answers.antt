use Rattle.eco_ids.proofs.Common.{◌≡◌, ◌+◌, ◌<◌, ◌≤◌, ◌++◌, ◌∷◌, List, [], Id, length, IsOk, IsTrue, insert, sym, ap, ◌∙◌, subst}
use Rattle.eco_ids.proofs.Common.{arith, rules, id_cmp, is_ascending, with_item, Err, SearchSays}
use Rattle.std.proofs.lemmas.List.{length-append}
use Rattle.std.proofs.lemmas.List.Edits.{insert_end, length-insert}
use Rattle.eco_ids.specs.Fingerprint.{IsTypeList, fingerprint}
use Rattle.eco_ids.proofs.Ascending.{ascending_with}
use Rattle.eco_ids.proofs.IdOrder.{id_cmp_total}
use Rattle.eco_ids.proofs.type_list.TypeList.insert.Goals as goal

pub returns-in_err-insert-clause-short : goal.returns-in_err-insert-clause-short
returns-in_err-insert-clause-short c = λ short.
    let is : insert c.self.inside.ids c.in-Err.place c.args.id ≡ with_item id_cmp c.self.inside.ids c.args.id =
    rw c.self.view_is c.in-Err.ensures.says.1 in
    let one_more : length (insert c.self.inside.ids c.in-Err.place c.args.id) ≡ length c.self.inside.ids + 1 =
    length-insert c.self.inside.ids c.in-Err.place c.args.id (rw c.self.view_is c.in-Err.ensures.within) in
    let few : length (with_item id_cmp c.self.inside.ids c.args.id) ≤ 3 = rw c.self.view_is short in
    let same : length (with_item id_cmp c.self.inside.ids c.args.id) ≡ length c.self.inside.ids + 1 = ap length (sym is) ∙ one_more in
    let fewer : length c.self.inside.ids < 3 = omega arith in
    let done : IsOk c.insert.result = c.insert.ensures.short fewer in
    search rules

pub invariant_of-self-in-Err : goal.invariant_of-self-in-Err
invariant_of-self-in-Err c =
    let made : c.insert.new.self ≡ insert c.self.inside.ids c.in-Err.place c.args.id = search rules in
    let is : insert c.self.inside.ids c.in-Err.place c.args.id ≡ with_item id_cmp c.self.inside.ids c.args.id =
    rw c.self.view_is c.in-Err.ensures.says.1 in
    rw made (record {
      ascending = rw is (ascending_with id_cmp_total _ c.args.id c.self.invariant.ascending);
      marked = c.joined_by-self-inside-in-Err.ensures _ c.in-Err.place c.self.invariant.marked;
    })

-- what is said of the slice is said of what it shows
at_end : (items shown : List Id) (id : Id) → shown ≡ items → (IsTrue (is_ascending id_cmp shown) → SearchSays id_cmp shown id (Err (length shown)))
    → IsTrue (is_ascending id_cmp items) → with_item id_cmp items id ≡ items ++ id ∷ []
at_end items shown id same says up =
    sym (subst (λ xs. IsTrue (is_ascending id_cmp xs) → SearchSays id_cmp xs id (Err (length xs))) same says up).1 ∙ insert_end items id

pub returns-in_err-push-clause-short : goal.returns-in_err-push-clause-short
returns-in_err-push-clause-short c = λ short.
    let items = c.self.inside.ids in
    let is = at_end items c.as_slice.result.now c.args.id c.as_slice.ensures (c.is_behind.ensures c.if-is_behind.true) c.self.invariant.ascending in
    let few : length (with_item id_cmp items c.args.id) ≤ 3 = rw c.self.view_is short in
    let same : length (with_item id_cmp items c.args.id) ≡ length items + 1 = ap length is ∙ length-append items (c.args.id ∷ []) in
    let fewer : length items < 3 = omega arith in
    let done : IsOk c.push.result = c.push.ensures.short fewer in
    search rules

pub invariant_of-self-then-is_behind : goal.invariant_of-self-then-is_behind
invariant_of-self-then-is_behind c =
    let items = c.self.inside.ids in
    let is = at_end items c.as_slice.result.now c.args.id c.as_slice.ensures (c.is_behind.ensures c.if-is_behind.true) c.self.invariant.ascending in
    subst (λ xs. IsTypeList xs c.joined_by-self-inside.result) (sym c.in_ok-push.ensures.ok) (record {
      ascending = subst (λ xs. IsTrue (is_ascending id_cmp xs)) is (ascending_with id_cmp_total items c.args.id c.self.invariant.ascending);
      marked = c.joined_by-self-inside.ensures items (length items) c.self.invariant.marked ∙ ap fingerprint (insert_end items c.args.id);
    })

pub returns-in_ok-push-clause-ok : goal.returns-in_ok-push-clause-ok
returns-in_ok-push-clause-ok c =
    let items = c.self.inside.ids in
    let is = at_end items c.as_slice.result.now c.args.id c.as_slice.ensures (c.is_behind.ensures c.if-is_behind.true) c.self.invariant.ascending in
    c.in_ok-push.ensures.ok ∙ sym is ∙ ap (λ xs. with_item id_cmp xs c.args.id) c.self.view_is
