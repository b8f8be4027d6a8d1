-- Ids with values, in the order of the ids.
use Rattle.eco_world.proofs.Common.{arith, ◌≡◌, Bool, true, false, cond, not, ◌&&◌, T, List, [], ◌∷◌, map, Option, Some, None, option_map}
use Rattle.eco_world.proofs.Common.{unwrap_or, refl, sym, ap, ◌∙◌, subst, is_some, is_eq, is_lt, Ordering, Less, Equal, Greater, true≢false, same_Some}
use Rattle.eco_world.proofs.Common.{none-some, find, put, by_order, where_key, is_sorted, below_all, is_sorted-where_key, find-where_key, Id, Value, id_cmp}
use Rattle.eco_world.proofs.Common.{id_eq, has_item, without_item, Entity, Record, WorldState, has, zeros, record_of, type_of_record, type_of, id_eq_sym}
use Rattle.eco_world.proofs.Common.{keys_find, keys_kept, id_eq_itself, id_cmp_total, same_id, first_T, second_T, value_in, retyped, with_held}
use Rattle.eco_ids.proofs.Entries.{apart, none_below}

abbrev pub Held : Type 0
Held = List (Id × Value)

abbrev pub keys : Held → List Id
keys = map (λ p. p.0)

less : (o : Ordering) → T (is_lt o) → o ≡ Less
less o p = grind arith

both : (a b : Bool) → T a → T b → T (a && b)
both a b p q = grind arith

below_less : (i j : Id) (held : Held) → id_cmp i j ≡ Less → T (below_all id_cmp j held) → T (below_all id_cmp i held)
below_less i j [] l below = tt
below_less i j (p ∷ held) l below =
    both _ _ (subst (λ r. T (is_lt r)) (sym (id_cmp_total.trans i j p.0 l (less _ (first_T _ _ below)))) tt) (below_less i j held l (second_T _ _ below))

-- ---- other ids

-- what has the old values, and zeros where there was none, is the old under its own ids
pub retyped_is : (new old : Held) → T (is_sorted id_cmp new) → ((i : Id) (v : Value) → find id_cmp i new ≡ Some v → value_in old i ≡ v) →
    retyped (keys new) old ≡ new
retyped_is [] old up values = refl
retyped_is (p ∷ new) old up values =
    ap (λ v. (p.0, v) ∷ retyped (keys new) old) (values p.0 p.1 (ap (λ b. cond b (Some p.1) (find id_cmp p.0 new)) (id_eq_itself p.0)))
    ∙ ap (λ held. p ∷ held)
    (retyped_is new old (second_T _ _ up)
    (λ i v at. values i v (ap (λ b. cond b (Some p.1) (find id_cmp i new)) (apart i p new v (first_T _ _ up) at) ∙ at)))

pub alike : (test : Id → Bool) (i j : Id) → id_cmp i j ≡ Equal → test j ≡ test i
alike test i j e = ap test (sym (same_id i j e))

pub kept_find : (test : Id → Bool) (held : Held) (i : Id) (v : Value) → find id_cmp i (where_key id_cmp test held) ≡ Some v
    → find id_cmp i held ≡ Some v
kept_find test held i v at = go (test i) (sym (find-where_key id_cmp test i (alike test i) held) ∙ at)
  where
    go : (b : Bool) → cond b (find id_cmp i held) None ≡ Some v → find id_cmp i held ≡ Some v
    go true e = e
    go false e = absurd (none-some v e)

-- an id goes from among the values as from among the ids
pub retyped_without : (held : Held) (i : Id) → T (is_sorted id_cmp held) →
    retyped (without_item id_cmp (keys held) i) held ≡ where_key id_cmp (λ j. not (id_eq j i)) held
retyped_without held i up =
    ap (λ ids. retyped ids held) (sym (keys_kept (λ j. not (id_eq j i)) held))
    ∙ retyped_is (where_key id_cmp (λ j. not (id_eq j i)) held) held (is_sorted-where_key id_cmp (λ j. not (id_eq j i)) held up)
    (λ j v at. ap (λ o. unwrap_or o zeros) (kept_find (λ k. not (id_eq k i)) held j v at))

-- ---- another value

pub none_written : (held : Held) (i : Id) (v : Value) → find id_cmp i held ≡ None → with_held held i v ≡ held
none_written [] i v none = refl
none_written (p ∷ held) i v none =
    elim (id_eq i p.0) as (λ b. id_eq i p.0 ≡ b → cond b (Some p.1) (find id_cmp i held) ≡ None → with_held (p ∷ held) i v ≡ p ∷ held) [
      | true ↦ λ e h. absurd (none-some p.1 (sym h))
      | false ↦ λ e h. ap (λ b. cond b (p.0, v) p ∷ with_held held i v) (id_eq_sym p.0 i ∙ e) ∙ ap (λ rest. p ∷ rest) (none_written held i v h)
    ] refl none

-- where the id is there, its value is written in its place
pub written_is : (held : Held) (i : Id) (v : Value) → T (is_sorted id_cmp held) → is_some (find id_cmp i held) ≡ true
    → with_held held i v ≡ put id_cmp i v held
written_is [] i v up there = absurd (true≢false (sym there))
written_is (p ∷ held) i v up there =
    elim (id_cmp i p.0) as (λ o. id_cmp i p.0 ≡ o → is_some (cond (is_eq o) (Some p.1) (find id_cmp i held)) ≡ true →
    with_held (p ∷ held) i v ≡ by_order o ((i, v) ∷ p ∷ held) ((p.0, v) ∷ held) (p ∷ put id_cmp i v held)) [
      | Less ↦ λ e some. absurd (true≢false (sym some ∙ ap is_some (none_below i held (below_less i p.0 held e (first_T _ _ up)))))
      | Equal ↦ λ e some.
          ap (λ b. cond b (p.0, v) p ∷ with_held held i v) (id_eq_sym p.0 i ∙ ap is_eq e)
          ∙ ap (λ rest. (p.0, v) ∷ rest)
          (none_written held i v (none_below i held (subst (λ j. T (below_all id_cmp j held)) (sym (same_id i p.0 e)) (first_T _ _ up))))
      | Greater ↦ λ e some.
          ap (λ b. cond b (p.0, v) p ∷ with_held held i v) (id_eq_sym p.0 i ∙ ap is_eq e)
          ∙ ap (λ rest. p ∷ rest) (written_is held i v (second_T _ _ up) some)
    ] refl there

-- ---- of an entity

abbrev has_of : Option Record → Id → Bool
has_of o i = is_some (find id_cmp i (unwrap_or (option_map (λ r. r.held) o) []))

has_of_some : (o : Option Record) (i : Id) (ids : List Id) → Some ids ≡ option_map type_of_record o → has_item id_cmp ids i ≡ has_of o i
has_of_some None i ids e = absurd (none-some ids (sym e))
has_of_some (Some d) i ids e = ap (λ xs. has_item id_cmp xs i) (same_Some ids (keys d.held) e) ∙ sym (keys_find d.held i)

-- a living entity has an id where its list of ids does
pub has_listed : (w : WorldState) (e : Entity) (i : Id) (ids : List Id) → Some ids ≡ option_map type_of_record (record_of w e) →
    has_item id_cmp ids i ≡ has w e i
has_listed w e i ids h = has_of_some (record_of w e) i ids h

listed_of : (o : Option Record) (ids : List Id) → Some ids ≡ option_map type_of_record o → ids ≡ keys (unwrap_or (option_map (λ r. r.held) o) [])
listed_of None ids e = absurd (none-some ids (sym e))
listed_of (Some d) ids e = same_Some ids (keys d.held) e

-- its list of ids is that of what it holds
pub listed : (w : WorldState) (e : Entity) (ids : List Id) → Some ids ≡ option_map type_of_record (record_of w e) → ids ≡ type_of w e
listed w e ids h = listed_of (record_of w e) ids h
