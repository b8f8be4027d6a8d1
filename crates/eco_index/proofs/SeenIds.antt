-- Ids that were seen: one that is above a list that ascends is not in it, and all that is known of it stays so where one comes.
use Rattle.eco_index.proofs.EntriesCommon.{◌≡◌, ℕ, zero, suc, ◌+◌, Bool, true, false, ◌&&◌, ◌||◌, List, [], ◌∷◌, ◌++◌, length, Some}
use Rattle.eco_index.proofs.EntriesCommon.{refl, sym, ap, ◌∙◌, subst, arith, is_lt, is_eq, Less, slice_get, unwrap_or, IsTrue, Result, Ok, Err, is_ok}
use Rattle.eco_index.proofs.EntriesCommon.{list_all, BTreeSet, contains, list_all-append, list_any-append, get_or_from_slice_get, slice_get_within, has_item, id_cmp}
use Rattle.eco_index.proofs.EntriesCommon.{id_eq, is_ascending, SearchSays, Id, all_at, both, first, second, less, id_cmp_total, is_above}

and_true : (b : Bool) → (b && true) ≡ b
and_true true = refl
and_true false = refl

and_false : (b : Bool) → (b && false) ≡ false
and_false true = refl
and_false false = refl

all_get : (t : Id → Bool) (xs : List Id) (k : ℕ) (v : Id) → IsTrue (list_all t xs) → slice_get xs k ≡ Some v → IsTrue (t v)
all_get t xs k v h at = subst (λ w. IsTrue (t w)) (get_or_from_slice_get xs k v v at) (all_at t xs h k v (slice_get_within xs k v at))

-- what is above the last is above all
pub last_above : (xs : List Id) (x last : Id) (k : ℕ) → IsTrue (is_ascending id_cmp xs) → k + 1 ≡ length xs → slice_get xs k ≡ Some last
    → is_above xs x ≡ is_lt (id_cmp last x)
last_above [] x last k up e at = absurd (omega (arith, e))
last_above (y ∷ []) x last zero up e at = and_true _ ∙ ap (λ z. is_lt (id_cmp z x)) (ap (λ o. unwrap_or o y) at)
last_above (y ∷ []) x last (suc k) up e at = absurd (omega (arith, e))
last_above (y ∷ z ∷ zs) x last zero up e at = absurd (omega (arith, e))
last_above (y ∷ z ∷ zs) x last (suc k) up e at =
    ap (λ b. is_lt (id_cmp y x) && b) (last_above (z ∷ zs) x last k (second _ _ up) (omega (arith, e)) at) ∙ by (is_lt (id_cmp last x)) refl
  where
    y_below : id_cmp y last ≡ Less
    y_below = less _ (all_get (λ w. is_lt (id_cmp y w)) (z ∷ zs) k last (first _ _ up) at)

    by : (b : Bool) → is_lt (id_cmp last x) ≡ b → (is_lt (id_cmp y x) && b) ≡ b
    by true h = ap (λ r. is_lt r && true) (id_cmp_total.trans y last x y_below (less _ h))
    by false h = and_false _

pub above_absent : (xs : List Id) (x : Id) → IsTrue (is_above xs x) → has_item id_cmp xs x ≡ false
above_absent [] x h = refl
above_absent (y ∷ ys) x h = ap (λ r. is_eq r || has_item id_cmp ys x) (less _ (first _ _ h)) ∙ above_absent ys x (second _ _ h)

pub ascends_more : (xs : List Id) (x : Id) → IsTrue (is_ascending id_cmp xs) → IsTrue (is_above xs x) → IsTrue (is_ascending id_cmp (xs ++ x ∷ []))
ascends_more [] x up h = refl
ascends_more (y ∷ ys) x up h =
    both _ _ (list_all-append (λ w. is_lt (id_cmp y w)) ys (x ∷ []) ∙ both _ _ (first _ _ up) (both _ _ (first _ _ h) refl))
    (ascends_more ys x (second _ _ up) (second _ _ h))

-- what is above a longer list is above its beginning
pub above_front : (xs : List Id) (x i : Id) → IsTrue (is_above (xs ++ x ∷ []) i) → IsTrue (is_above xs i)
above_front xs x i h = first _ _ (sym (list_all-append (λ y. is_lt (id_cmp y i)) xs (x ∷ [])) ∙ h)

shuffled : (a e c : Bool) → ((a || (e || false)) || c) ≡ ((a || c) || e)
shuffled true e c = refl
shuffled false true true = refl
shuffled false true false = refl
shuffled false false true = refl
shuffled false false false = refl

module _ (run : List Id) (rest : BTreeSet Id) (x : Id) where
  -- the id comes behind the list
  pub seen_behind : (y : Id) → (has_item id_cmp (run ++ x ∷ []) y || contains id_cmp rest y)
      ≡ ((has_item id_cmp run y || contains id_cmp rest y) || id_eq x y)
  seen_behind y =
      ap (λ b. b || contains id_cmp rest y) (list_any-append (λ z. id_eq z y) run (x ∷ []))
      ∙ shuffled (has_item id_cmp run y) (id_eq x y) (contains id_cmp rest y)

pub found_says : (run : List Id) (x : Id) (r : Result ℕ ℕ) → SearchSays id_cmp run x r → is_ok r ≡ has_item id_cmp run x
found_says run x (Ok i) says = sym says.0
found_says run x (Err i) says = sym says.0
