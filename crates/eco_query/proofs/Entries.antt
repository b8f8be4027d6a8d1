-- Where a slot has an entry.
use Rattle.eco_query.proofs.Common.{◌≡◌, Bool, true, false, ◌&&◌, ◌||◌, List, [], ◌∷◌, map, is_some, Some, None, filter, Option}
use Rattle.eco_query.proofs.Common.{option_to_list, refl, ap, ◌∙◌, arith, tied_itself, IsTotalOrder, list_any, common_steps, is_least_match, same_filling}
use Rattle.eco_query.proofs.Common.{pattern_matches, id_cmp, has_item, Pattern, find, has_any, holds}
use Rattle.eco_ids.specs.declared.id.Id.{Id}
use Rattle.std.specs.Cmp.{both_ways}
use Rattle.std.specs.Ordering.{is_lt}
use Rattle.std.specs.declared.cmp.Ordering.{Ordering}
use Rattle.std.specs.declared.cmp.Ordering.TheVariants.{Less, Equal, Greater}
use Rattle.eco_query.proofs.Booleans.{and_left, and_right, and_both}
use Rattle.eco_query.proofs.Matched.{is_some_find}
use Rattle.eco_ids.specs.Terms as terms

or_right : (a b : Bool) → b ≡ true → (a || b) ≡ true
or_right true b e = refl
or_right false b e = e

or_none : (a : Bool) → (a || false) ≡ true → a ≡ true
or_none true e = refl
or_none false e = e

and_front : (a b c : Bool) → (a && (b && c)) ≡ true → (a && b) ≡ true
and_front true true c e = refl
and_front true false c e = e
and_front false b c e = e

is_less : (r : Ordering) → is_lt r ≡ true → r ≡ Less
is_less Less e = refl
is_less Equal e = cc
is_less Greater e = cc

any-filter : {A B : Type 0} (f : A → B) (p : A → Bool) (xs : List A) → has_any (map f (filter p xs)) ≡ list_any p xs
any-filter f p [] = refl
any-filter f p (x ∷ xs) = grind (arith, common_steps, any-filter f p xs)

any-found : {A B : Type 0} (f : A → B) (o : Option A) → has_any (map f (option_to_list o)) ≡ is_some o
any-found f None = refl
any-found f (Some x) = refl

-- where one is, so is the other
any-weaker : {A : Type 0} (p q : A → Bool) (xs : List A) → ((x : A) → p x ≡ true → q x ≡ true) → list_any p xs ≡ true → list_any q xs ≡ true
any-weaker p q [] h e = e
any-weaker p q (x ∷ xs) h e =
    elim (p x) as (λ c. p x ≡ c → (c || list_any p xs) ≡ true → (q x || list_any q xs) ≡ true) [
      | true ↦ λ is f. rw (h x is) refl
      | false ↦ λ is f. or_right (q x) (list_any q xs) (any-weaker p q xs h f)
    ] refl e

none-weaker : {A : Type 0} (p q : A → Bool) (xs : List A) → ((x : A) → p x ≡ true → q x ≡ true) → list_any q xs ≡ false → list_any p xs ≡ false
none-weaker p q xs h none = grind (arith, common_steps, any-weaker)

module _ (order : IsTotalOrder id_cmp) where
  -- a least of those that are so: it is one of them, and none is less
  record LeastOf (is : Id → Bool) (ids : List Id) : Type 0 where
    pub least : Id
    pub is_so : is least ≡ true
    pub among : (q : Id → Bool) → q least ≡ true → list_any q ids ≡ true
    pub none_less : list_any (λ j. is_lt (id_cmp j least) && is j) ids ≡ false

  -- none is less than itself
  none_own : (is : Id → Bool) (x : Id) (xs : List Id) → list_any (λ j. is_lt (id_cmp j x) && is j) xs ≡ false
      → list_any (λ j. is_lt (id_cmp j x) && is j) (x ∷ xs) ≡ false
  none_own is x xs none = rw (tied_itself order x) none

  lower : (i j k : Id) → is_lt (id_cmp i j) ≡ true → is_lt (id_cmp j k) ≡ true → is_lt (id_cmp i k) ≡ true
  lower i j k e f = ap is_lt (order.trans i j k (is_less (id_cmp i j) e) (is_less (id_cmp j k) f))

  least_of : (is : Id → Bool) (ids : List Id) → list_any is ids ≡ true → LeastOf is ids
  least_of is [] e = cc
  least_of is (x ∷ xs) e = rest (list_any is xs) refl (λ some. least_of is xs some) where
    against : (l : LeastOf is xs) (c : Bool) → (is_lt (id_cmp x l.least) && is x) ≡ c → LeastOf is (x ∷ xs)
    against l false not_less = record {
      least = l.least;
      is_so = l.is_so;
      among = λ q h. or_right (q x) (list_any q xs) (l.among q h);
      none_less = rw not_less l.none_less;
    }
    against l true lower_one = let
        below : (j : Id) (b : Bool) → (is_lt (id_cmp j x) && b) ≡ true → (is_lt (id_cmp j l.least) && b) ≡ true =
        λ j b h. and_both (is_lt (id_cmp j l.least)) b
        (lower j x l.least (and_left (is_lt (id_cmp j x)) b h) (and_left (is_lt (id_cmp x l.least)) (is x) lower_one))
        (and_right (is_lt (id_cmp j x)) b h) in record {
          least = x;
          is_so = and_right (is_lt (id_cmp x l.least)) (is x) lower_one;
          among = λ q h. rw h refl;
          none_less = none_own is x xs (none-weaker (λ j. is_lt (id_cmp j x) && is j) (λ j. is_lt (id_cmp j l.least) && is j) xs
              (λ j h. below j (is j) h) l.none_less);
        }

    rest : (c : Bool) → list_any is xs ≡ c → (list_any is xs ≡ true → LeastOf is xs) → LeastOf is (x ∷ xs)
    rest true some found = let l = found some in against l (is_lt (id_cmp x l.least) && is x) refl
    rest false none found = record {
      least = x;
      is_so = or_none (is x) (rw none at e);
      among = λ q h. rw h refl;
      none_less = none_own is x xs (none-weaker (λ j. is_lt (id_cmp j x) && is j) is xs (λ j h. and_right (is_lt (id_cmp j x)) (is j) h) none);
    }

  any-least : (p : Pattern) (ids : List Id) → list_any (is_least_match p ids) ids ≡ list_any (pattern_matches p) ids
  any-least p ids = both_ways _ _
      (any-weaker (is_least_match p ids) (pattern_matches p) ids (λ i e. and_left _ _ e))
      (λ e.
      let l = least_of (pattern_matches p) ids e in
      let none = none-weaker (λ j. is_lt (id_cmp j l.least) && (pattern_matches p j && same_filling p j l.least))
      (λ j. is_lt (id_cmp j l.least) && pattern_matches p j) ids
      (λ j h. and_front (is_lt (id_cmp j l.least)) (pattern_matches p j) (same_filling p j l.least) h) l.none_less in
      l.among (is_least_match p ids) (rw (l.is_so, none) refl))

  -- a pattern holds where an id matches it
  pub and_holds : (p : Pattern) (ids : List Id) → holds ids (terms.And p) ≡ list_any (pattern_matches p) ids
  and_holds p ids = any-filter Some (is_least_match p ids) ids ∙ any-least p ids

pub or_holds : (is ids : List Id) → holds ids (terms.Or is) ≡ list_any (has_item id_cmp ids) is
or_holds is ids = any-found Some (find (has_item id_cmp ids) is) ∙ is_some_find (has_item id_cmp ids) is
