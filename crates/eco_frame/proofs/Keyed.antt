-- Keys that are noted and found.
use Rattle.eco_frame.proofs.BatchesCommon.{◌≡◌, Bool, true, false, ◌||◌, List, [], ◌∷◌, ◌++◌, refl, sym, ap, ◌∙◌, subst, IsTrue}
use Rattle.eco_frame.proofs.BatchesCommon.{true≢false, Ordering, if◌then◌else◌, list_any, eq_by_cmp, or-false, list_any-append, insert_key, same_tests}
use Rattle.eco_frame.proofs.BatchesCommon.{Entity, Id, id_eq_is, entity_eq_is, has_any, IsNoted}
use Rattle.eco_ids.specs.Order.{entity_cmp, has_item, id_cmp}
use Rattle.eco_ids.specs.OrderLaws.{entity_ties, id_ties}
use Rattle.eco_ids.specs.contracts.entity.EntityPartialEq.TheImpl as entity_impl
use Rattle.eco_ids.specs.contracts.id.IdPartialEq.TheImpl as id_impl

some_push : {K : Type 0} (xs : List K) (x : K) → has_any (xs ++ x ∷ []) ≡ true
some_push [] x = refl
some_push (y ∷ ys) x = refl

some_where : {K : Type 0} (test : K → Bool) (xs : List K) → list_any test xs ≡ true → has_any xs ≡ true
some_where test [] h = absurd (true≢false (sym h))
some_where test (x ∷ xs) h = refl

module _ {K : Type 0} (R : K → K → Ordering) (is : (a b : K) → IsTrue (eq_by_cmp R a b) → a ≡ b) where
  back : (a b : K) → IsTrue (eq_by_cmp R a b) → IsTrue (eq_by_cmp R b a)
  back a b h = let e = is a b h in subst (λ c. IsTrue (eq_by_cmp R b c)) (sym e) (subst (λ c. IsTrue (eq_by_cmp R c b)) e h)

  turned : (a b : K) → eq_by_cmp R a b ≡ eq_by_cmp R b a
  turned a b = same_tests (eq_by_cmp R a b) (eq_by_cmp R b a) (back a b) (back b a)

  module _ (test : K → Bool) (x : K) (same : (y : K) → test y ≡ eq_by_cmp R x y) where
    found : (keys : List K) → list_any test keys ≡ has_item R keys x
    found [] = refl
    found (y ∷ ys) = λ i. (same y ∙ turned x y) i || found ys i

    noted : (old : List K) → IsNoted R old x (if list_any test old then old else (old ++ x ∷ []))
    noted old = by (list_any test old) refl
      where
        there : (y : K) → list_any test old ≡ true → (c : Bool) → eq_by_cmp R x y ≡ c → has_item R old y ≡ (has_item R old y || c)
        there y t false e = sym (or-false (has_item R old y))
        there y t true e =
            let h : has_item R old y ≡ true = ap (has_item R old) (sym (is x y e)) ∙ sym (found old) ∙ t in
            h ∙ sym (ap (λ b. b || true) h)

        by : (b : Bool) → list_any test old ≡ b → IsNoted R old x (if b then old else (old ++ x ∷ []))
        by true t = record { members = λ y. there y t (eq_by_cmp R x y) refl; some = some_where test old t }
        by false t = record {
          members = λ y. list_any-append (λ z. eq_by_cmp R z y) old (x ∷ []) ∙ ap (λ b. has_item R old y || b) (or-false (eq_by_cmp R x y));
          some = some_push old x;
        }

abbrev same_entity : Entity → Entity → Bool
same_entity = (entity_impl.eq-value).it

abbrev same_id : Id → Id → Bool
same_id = (id_impl.eq-value).it

pub id_found : (keys : List Id) (i : Id) → list_any (same_id i) keys ≡ has_item id_cmp keys i
id_found keys i = found id_cmp id_eq_is (same_id i) i (id_ties i) keys

pub entity_noted : (old new : List Entity) (e : Entity) → new ≡ insert_key same_entity old e → IsNoted entity_cmp old e new
entity_noted old new e made = subst (IsNoted entity_cmp old e) (sym made) (noted entity_cmp entity_eq_is (same_entity e) e (entity_ties e) old)

pub id_noted : (old new : List Id) (i : Id) → new ≡ insert_key same_id old i → IsNoted id_cmp old i new
id_noted old new i made = subst (IsNoted id_cmp old i) (sym made) (noted id_cmp id_eq_is (same_id i) i (id_ties i) old)
