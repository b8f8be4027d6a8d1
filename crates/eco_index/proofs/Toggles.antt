-- An id that comes and goes again leaves the type as it was.
use Rattle.eco_index.proofs.Common.{◌≡◌, ◌≢◌, ◌↔◌, true≢false, ◌&&◌, ◌||◌, not, Bool, true, false, cond, List, IsTrue, refl, sym}
use Rattle.eco_index.proofs.Common.{ap, ◌∙◌, Id, id_cmp, id_eq, has_item, with_item, without_item, is_ascending, ItemsJoin, ItemsLeave, id_ties, toggled}
use Rattle.eco_index.proofs.Common.{ascending_with, ascending_without, id_eq-Decides}
use Rattle.eco_ids.proofs.IdOrder.{id_cmp_total, same_id}
use Rattle.eco_ids.proofs.Members.{same_members}
use Rattle.eco_ids.proofs.SetLaws.{joins_with, leaves_without}
use Rattle.eco_index.proofs.EdgeLists.{way}

same_truth : (a b : Bool) → a ≡ b → IsTrue a ↔ IsTrue b
same_truth true true e = (λ t. t, λ t. t)
same_truth false false e = (λ t. t, λ t. t)
same_truth true false e = let bad = e in cc
same_truth false true e = let bad = e in cc

is_same : (i y : Id) → id_eq i y ≡ true → i ≡ y
is_same i y e = (id_eq-Decides i y).0 (id_ties i y ∙ e)

is_itself : (i : Id) → id_eq i i ≡ true
is_itself i = sym (id_ties i i) ∙ (id_eq-Decides i i).1 refl

join : ItemsJoin id_cmp
join = record { ascends = ascending_with id_cmp_total; joins = joins_with id_cmp_total }

leave : ItemsLeave id_cmp
leave = record { ascends = ascending_without id_cmp; leaves = leaves_without id_cmp_total }

pub twice : (ids : List Id) (i : Id) → IsTrue (is_ascending id_cmp ids) → toggled (toggled ids i) i ≡ ids
twice ids i up = way (has_item id_cmp ids i) (toggled (toggled ids i) i ≡ ids)
    (λ has.
    let less = without_item id_cmp ids i in
    let one : toggled ids i ≡ less = ap (λ b. cond b less (with_item id_cmp ids i)) has in
    let gone : has_item id_cmp less i ≡ false = leave.leaves ids i i ∙ ap (λ b. not b && has_item id_cmp ids i) (is_itself i) in
    let two : toggled less i ≡ with_item id_cmp less i = ap (λ b. cond b (without_item id_cmp less i) (with_item id_cmp less i)) gone in
    ap (λ xs. toggled xs i) one ∙ two
    ∙ same_members id_cmp_total same_id (with_item id_cmp less i) ids (join.ascends less i (leave.ascends ids i up)) up
    (λ y. same_truth _ _ (join.joins less i y ∙ ap (λ b. id_eq i y || b) (leave.leaves ids i y) ∙ back y (id_eq i y) refl has)))
    (λ lacks.
    let more = with_item id_cmp ids i in
    let one : toggled ids i ≡ more = ap (λ b. cond b (without_item id_cmp ids i) more) lacks in
    let there : has_item id_cmp more i ≡ true = join.joins ids i i ∙ ap (λ b. b || has_item id_cmp ids i) (is_itself i) in
    let two : toggled more i ≡ without_item id_cmp more i = ap (λ b. cond b (without_item id_cmp more i) (with_item id_cmp more i)) there in
    ap (λ xs. toggled xs i) one ∙ two
    ∙ same_members id_cmp_total same_id (without_item id_cmp more i) ids (leave.ascends more i (join.ascends ids i up)) up
    (λ y. same_truth _ _ (leave.leaves more i y ∙ ap (λ b. not (id_eq i y) && b) (join.joins ids i y) ∙ forth y (id_eq i y) refl lacks)))
  where
    back : (y : Id) (b : Bool) → id_eq i y ≡ b → has_item id_cmp ids i ≡ true → (b || (not b && has_item id_cmp ids y)) ≡ has_item id_cmp ids y
    back y true e has = sym (ap (has_item id_cmp ids) (sym (is_same i y e)) ∙ has)
    back y false e has = refl

    forth : (y : Id) (b : Bool) → id_eq i y ≡ b → has_item id_cmp ids i ≡ false → (not b && (b || has_item id_cmp ids y)) ≡ has_item id_cmp ids y
    forth y true e lacks = sym (ap (has_item id_cmp ids) (sym (is_same i y e)) ∙ lacks)
    forth y false e lacks = refl

-- the id makes another type of it
pub toggled_other : (ids : List Id) (i : Id) → toggled ids i ≢ ids
toggled_other ids i same = way (has_item id_cmp ids i) ⊥
    (λ has.
    let one : toggled ids i ≡ without_item id_cmp ids i = ap (λ b. cond b (without_item id_cmp ids i) (with_item id_cmp ids i)) has in
    let gone : has_item id_cmp (toggled ids i) i ≡ false = ap (λ xs. has_item id_cmp xs i) one ∙ leave.leaves ids i i
    ∙ ap (λ b. not b && has_item id_cmp ids i) (is_itself i) in
    true≢false (sym has ∙ ap (λ xs. has_item id_cmp xs i) (sym same) ∙ gone))
    (λ lacks.
    let one : toggled ids i ≡ with_item id_cmp ids i = ap (λ b. cond b (without_item id_cmp ids i) (with_item id_cmp ids i)) lacks in
    let there : has_item id_cmp (toggled ids i) i ≡ true = ap (λ xs. has_item id_cmp xs i) one ∙ join.joins ids i i
    ∙ ap (λ b. b || has_item id_cmp ids i) (is_itself i) in
    true≢false (sym there ∙ ap (λ xs. has_item id_cmp xs i) same ∙ lacks))
