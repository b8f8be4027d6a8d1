-- What an entity has once a closure came to it, by its ids alone.
use Rattle.eco_traits.proofs.Common.{common_steps, arith, rules, ◌≡◌, if◌then◌else◌, ℕ, ◌+◌, ◌<◌, Bool, true, false, cond, not, ◌&&◌}
use Rattle.eco_traits.proofs.Common.{◌||◌, List, [], ◌∷◌, filter, fold, length, take, get_or, refl, sym, ap, ◌∙◌, true≢false, IsTrue, Option}
use Rattle.eco_traits.proofs.Common.{Some, None, Result, Ok, option_copied, option_map, unwrap_or, is_some, take_more, where_key, is_sorted-where_key, Entity}
use Rattle.eco_traits.proofs.Common.{Id, Refusal, id_cmp, id_eq, has_item, is_ascending, with_item, without_item, IsClosure, Judges, grown, is_replaced}
use Rattle.eco_traits.proofs.Common.{with_closure, WorldState, Record, has, names_living, record_of, and_right, or_left, or_comm, ascending_with, id_eq_sym}
use Rattle.eco_traits.proofs.Common.{keys_kept, keys_zeros, to_T, or_right, id_eq_is, id_eq_itself, id_cmp_total, same_id, same_members, joins_with, ExtendsTo}
use Rattle.eco_traits.proofs.Common.{AddLeadsTo, type_of_record}
use Rattle.std.proofs.lemmas.List.Sums.{fold-append}
use Rattle.std.specs.Borrow.{Bor}
use Rattle.eco_ids.proofs.Entries.{sorted_is}

-- ---- the ids of what is held

-- what isn't replaced, and each id of the closure put in its place
type_with : (w : WorldState) (s : List Id) (d : Record) → IsTrue (is_ascending id_cmp (type_of_record d))
    → fold (with_item id_cmp) (filter (λ i. not (is_replaced w s i)) (type_of_record d)) s ≡ type_of_record (with_closure w s d)
type_with w s d up =
    let stays : Id → Bool = λ i. not (is_replaced w s i) in
    let sorted = is_sorted-where_key id_cmp stays d.held (to_T _ (sorted_is d.held ∙ up)) in
    sym (keys_zeros s (where_key id_cmp stays d.held) sorted ∙ ap (λ ks. fold (with_item id_cmp) ks s) (keys_kept stays d.held))

-- ---- putting in one after the other

pub all_ascend : (xs ys : List Id) → IsTrue (is_ascending id_cmp xs) → IsTrue (is_ascending id_cmp (fold (with_item id_cmp) xs ys))
all_ascend xs [] up = up
all_ascend xs (y ∷ ys) up = all_ascend (with_item id_cmp xs y) ys (ascending_with id_cmp_total xs y up)

pub all_join : (xs ys : List Id) (j : Id) → has_item id_cmp (fold (with_item id_cmp) xs ys) j ≡ (has_item id_cmp ys j || has_item id_cmp xs j)
all_join xs [] j = refl
all_join xs (y ∷ ys) j = all_join (with_item id_cmp xs y) ys j ∙ ap (λ b. has_item id_cmp ys j || b) (joins_with id_cmp_total xs y j)
    ∙ regroup (has_item id_cmp ys j) (id_eq y j) (has_item id_cmp xs j)
  where
    regroup : (a b c : Bool) → (a || (b || c)) ≡ ((b || a) || c)
    regroup true b c = sym (ap (λ d. d || c) (or_comm b true))
    regroup false true c = refl
    regroup false false c = refl

-- two ascending lists, whichever is put into the other
pub either_way : (xs ys : List Id) → IsTrue (is_ascending id_cmp xs) → IsTrue (is_ascending id_cmp ys)
    → fold (with_item id_cmp) xs ys ≡ fold (with_item id_cmp) ys xs
either_way xs ys up vp =
    same_members id_cmp_total same_id _ _ (all_ascend xs ys up) (all_ascend ys xs vp)
    (λ j. let same = all_join xs ys j ∙ or_comm (has_item id_cmp ys j) (has_item id_cmp xs j) ∙ sym (all_join ys xs j) in (λ h. sym same ∙ h, λ h. same ∙ h))

-- ---- taking out one after the other

filter_same : (p q : Id → Bool) (xs : List Id) → ((y : Id) → p y ≡ q y) → filter p xs ≡ filter q xs
filter_same p q [] h = refl
filter_same p q (x ∷ xs) h = ap (λ b. cond b (x ∷ filter p xs) (filter p xs)) (h x) ∙ ap (λ ys. cond (q x) (x ∷ ys) ys) (filter_same p q xs h)

filter_twice : (p q : Id → Bool) (xs : List Id) → filter p (filter q xs) ≡ filter (λ y. p y && q y) xs
filter_twice p q [] = refl
filter_twice p q (x ∷ xs) = grind (arith, common_steps, filter_twice p q xs)

-- the ids without this one, where it goes
abbrev pub without_each : (Id → Bool) → List Id → Id → List Id
without_each goes ids i = if goes i then without_item id_cmp ids i else ids

filter_all : (xs : List Id) → xs ≡ filter (λ _. true) xs
filter_all [] = refl
filter_all (x ∷ xs) = ap (λ ys. x ∷ ys) (filter_all xs)

each_is : (goes : Id → Bool) (xs : List Id) (i : Id) → without_each goes xs i ≡ filter (λ y. not (goes i && id_eq y i)) xs
each_is goes xs i = elim (goes i) as (λ b. (if b then without_item id_cmp xs i else xs) ≡ filter
    (λ y. not (b && id_eq y i)) xs) [ true ↦ refl | false ↦ filter_all xs ]

-- of those that were looked at, all that go are out
pub each_out : (goes : Id → Bool) (own seen : List Id) → fold (without_each goes) own seen ≡ filter (λ y. not (goes y && has_item id_cmp seen y)) own
each_out goes own [] = filter_all own ∙ filter_same _ _ own (λ y. sym (ap not (and_right (goes y) false refl)))
each_out goes own (i ∷ seen) =
    each_out goes (without_each goes own i) seen ∙ ap (filter (λ y. not (goes y && has_item id_cmp seen y))) (each_is goes own i)
    ∙ filter_twice _ _ own ∙ filter_same _ _ own (λ y. ap (λ b. not (goes y && has_item id_cmp seen y) && not b) (same y (id_eq i y) refl)
    ∙ table (goes y) (has_item id_cmp seen y) (id_eq i y))
  where
    same : (y : Id) (b : Bool) → id_eq i y ≡ b → (goes i && id_eq y i) ≡ (goes y && id_eq i y)
    same y true e = ap (λ b. goes i && b) (id_eq_sym y i ∙ e) ∙ ap (λ x. goes x && true) (id_eq_is i y e) ∙ sym (ap (λ b. goes y && b) e)
    same y false e = ap (λ b. goes i && b) (id_eq_sym y i ∙ e) ∙ and_right (goes i) false refl ∙ sym (and_right (goes y) _ e)

    table : (g h e : Bool) → (not (g && h) && not (g && e)) ≡ not (g && (e || h))
    table false h e = refl
    table true true true = refl
    table true true false = refl
    table true false true = refl
    table true false false = refl

-- all were looked at
pub all_out : (goes : Id → Bool) (xs seen : List Id) → ((y : Id) → IsTrue (has_item id_cmp xs y) → IsTrue (has_item id_cmp seen y))
    → filter (λ y. not (goes y && has_item id_cmp seen y)) xs ≡ filter (λ y. not (goes y)) xs
all_out goes [] seen h = refl
all_out goes (x ∷ xs) seen h =
    ap (λ b. cond (not b) (x ∷ filter (λ y. not (goes y && has_item id_cmp seen y)) xs) (filter (λ y. not (goes y && has_item id_cmp seen y)) xs))
    (ap (λ b. goes x && b) (h x (or_left _ _ (id_eq_itself x))) ∙ and_true (goes x))
    ∙ ap (λ ys. cond (not (goes x)) (x ∷ ys) ys) (all_out goes xs seen (λ y k. h y (or_right _ _ k)))
  where
    and_true : (b : Bool) → (b && true) ≡ b
    and_true true = refl
    and_true false = refl

-- what stands behind the one reference, where it is there, else behind the other
pub behind_either : (o : Option (Bor (List Id))) (other : Bor (List Id)) (list : Option (List Id)) → option_copied o ≡ list
    → (unwrap_or o other).now ≡ unwrap_or list other.now
behind_either None other list e = ap (λ k. unwrap_or k other.now) e
behind_either (Some b) other list e = ap (λ k. unwrap_or k other.now) e

-- one more is folded in
pub fold_more : {A B : Type 0} (f : B → A → B) (start now new : B) (xs : List A) (k : ℕ) (d : A) → k < length xs
    → now ≡ fold f start (take k xs) → new ≡ f now (get_or xs k d) → new ≡ fold f start (take (k + 1) xs)
fold_more f start now new xs k d l is goes_on = grind (arith, common_steps, fold-append, take_more)

-- ---- all of it

pub some_record : (o : Option Record) (ids : List Id) → Some ids ≡ option_map type_of_record o
    → (d : Record) × (o ≡ Some d) × (ids ≡ type_of_record d)
some_record None ids e = absurd (true≢false (ap is_some e))
some_record (Some d) ids e = (d, refl, ap (λ o. unwrap_or o ids) e)

-- it lacks the id
pub lacked : (w : WorldState) (e : Entity) (i : Id) (r : Result (List Id) Refusal) → names_living w i ≡ true → has w e i ≡ false → ExtendsTo w e i r
    → AddLeadsTo w e i r
lacked w e i r lives absent extends = grind (arith, common_steps)

pub leads_to : (w : WorldState) (e : Entity) (i : Id) (s own kept all : List Id) (verdict : Option Refusal) → names_living w i ≡ true
    → has w e i ≡ false
    → IsClosure w i s → Judges w e s (grown w e i s) verdict → verdict ≡ None → Some own ≡ option_map type_of_record (record_of w e) → IsTrue
    (is_ascending id_cmp own)
    → kept ≡ filter (λ j. not (is_replaced w s j)) own → all ≡ fold (with_item id_cmp) kept s → AddLeadsTo w e i (Ok all)
leads_to w e i s own kept all verdict lives absent closure judges none owns up is_kept is_all = search (rules, some_record, type_with, lacked)
