-- An entity whose type is known gets another one.
use Rattle.eco_store.proofs.Common.{◌≡◌, Bool, false, cond, is_eq, is_lt, List, [], ◌∷◌, map, Option, None, Some, option_map, unwrap_or, is_some}
use Rattle.eco_store.proofs.Common.{IsTrue, ap, refl, subst, sym, ◌∙◌, same_Some, list_all, ordering_reverse, find, Entity, Id, Value, Indexed, Living}
use Rattle.eco_store.proofs.Common.{changed, change_kept, record_of, with_record, id_cmp, id_eq, has_item, is_ascending, Record, zeros, first, second, less}
use Rattle.eco_store.proofs.Common.{id_eq_itself, set_own, living_at, Place, Registration, own_place, retyped, value_in, TableState, table_in, no_row}
use Rattle.eco_store.proofs.Common.{AllHaveIds, IsStore, has_in_store, read, record_ids, type_in_store, with_type}
use Rattle.eco_ids.proofs.Exact.{keys_find}
use Rattle.eco_ids.proofs.IdOrder.{id_cmp_total}
use Rattle.eco_archetypes.proofs.Seated.{held_there, read_record, row_within}

-- an entity's type is that of its table
pub standing_type : (w : Indexed Registration) (s : List (Option TableState)) (e : Entity) (p : Place) → IsStore w s → own_place w e ≡ Some p
    → AllHaveIds s
    → type_in_store (read w s) e ≡ Some (table_in s p.table).ids
standing_type w s e p store own had =
    let r = held_there w s e p store own in
    ap (option_map record_ids) (read_record w s e r.0 r.1) ∙ ap (λ held. Some (map (λ q. q.0) held)) r.2
    ∙ ap Some (had p.table p.row no_row (row_within w s e p store own))

-- ids below an id are not it
not_alike : (i j : Id) → IsTrue (is_lt (id_cmp i j)) → id_eq j i ≡ false
not_alike i j h = ap is_eq (id_cmp_total.antisymm j i ∙ ap ordering_reverse (less (id_cmp i j) h))

map_alike : {X Y : Type 0} (f g : X → Y) (t : X → Bool) → ((x : X) → IsTrue (t x) → f x ≡ g x) → (xs : List X)
    → IsTrue (list_all t xs) → map f xs ≡ map g xs
map_alike f g t same [] all = refl
map_alike f g t same (x ∷ xs) all =
    let here = same x (first (t x) (list_all t xs) all) in
    let there = map_alike f g t same xs (second (t x) (list_all t xs) all) in
    λ i. here i ∷ there i

-- what is held stays under its own type
retyped-own : (held : List (Id × Value)) → IsTrue (is_ascending id_cmp (map (λ p. p.0) held)) → retyped (map (λ p. p.0) held) held ≡ held
retyped-own [] up = refl
retyped-own (p ∷ rest) up =
    let here : value_in (p ∷ rest) p.0 ≡ p.1 = ap (λ b. unwrap_or (cond b (Some p.1) (find id_cmp p.0 rest)) zeros) (id_eq_itself p.0) in
    let there : map (λ i. (i, value_in (p ∷ rest) i)) (map (λ q. q.0) rest) ≡ map (λ i. (i, value_in rest i)) (map (λ q. q.0) rest) =
    map_alike (λ i. (i, value_in (p ∷ rest) i)) (λ i. (i, value_in rest i)) (λ j. is_lt (id_cmp p.0 j))
    (λ j below. ap (λ b. (j, unwrap_or (cond b (Some p.1) (find id_cmp j rest)) zeros)) (not_alike p.0 j below)) (map (λ q. q.0) rest)
    (first _ _ up) in
    let tail = retyped-own rest (second _ _ up) in
    λ t. (p.0, here t) ∷ (there ∙ tail) t

module _ (v : Indexed Record) (e : Entity) (ids : List Id) (typed : type_in_store v e ≡ Some ids) where
  -- whether it has an id
  pub has_typed : (i : Id) → has_item id_cmp ids i ≡ has_in_store v e i
  has_typed i = by (record_of v e) typed
    where
      by : (o : Option Record) → option_map record_ids o ≡ Some ids
          → has_item id_cmp ids i ≡ is_some (find id_cmp i (unwrap_or (option_map (λ (r : Record). r.held) o) []))
      by None is = absurd (cc)
      by (Some k) is = ap (λ xs. has_item id_cmp xs i) (sym (same_Some (record_ids k) ids is)) ∙ sym (keys_find k.held i)

  -- a step leads to the type that its own leads to
  pub leads_to : (f : List Id → List Id) → changed v e (with_type (f ids)) ≡ changed v e (λ r. with_type (f (record_ids r)) r)
  leads_to f = by (record_of v e) typed
    where
      by : (o : Option Record) → option_map record_ids o ≡ Some ids
          → change_kept v e (with_type (f ids)) o ≡ change_kept v e (λ r. with_type (f (record_ids r)) r) o
      by None is = refl
      by (Some k) is = ap (λ xs. with_record v e (with_type (f xs) k)) (sym (same_Some (record_ids k) ids is))

  -- its own type changes nothing
  pub own_again : IsTrue (is_ascending id_cmp ids) → v ≡ changed v e (with_type ids)
  own_again up = by (record_of v e) refl typed
    where
      by : (o : Option Record) → record_of v e ≡ o → option_map record_ids o ≡ Some ids → v ≡ change_kept v e (with_type ids) o
      by None at is = refl
      by (Some k) at is =
          let own = same_Some (record_ids k) ids is in
          let held : retyped ids k.held ≡ k.held =
          subst (λ xs. retyped xs k.held ≡ k.held) own (retyped-own k.held (subst (λ xs. IsTrue (is_ascending id_cmp xs)) (sym own) up)) in
          let same = set_own v.indices e.index (Living e.generation k) (living_at v e k at) in
          sym ((λ t. with_record v e (record k { held = held t })) ∙ (λ t. record v { indices = same t }))
