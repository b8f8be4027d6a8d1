-- Patterns that are listed once.
use Rattle.eco_frame.proofs.BatchesCommon.{◌≡◌, Bool, true, false, ◌||◌, List, [], ◌∷◌, ◌++◌, map, refl, sym, ap, ◌∙◌, subst, IsTrue, true≢false}
use Rattle.eco_frame.proofs.BatchesCommon.{if◌then◌else◌, ℕ, ◌+◌, ◌<◌, get_or, length, take, map_push, take_more, AllByRecursion, list_any}
use Rattle.eco_frame.proofs.BatchesCommon.{list_any-append, insert_all, insert_key, neither, off, Pattern, WorldState, ListsClosed, widened, all_append}
use Rattle.eco_frame.proofs.BatchesCommon.{AreClosed, unrepeated, key_pattern, same_pattern, Key, or-false, or_assoc, append-nil, append_assoc, drop}
use Rattle.eco_frame.proofs.BatchesCommon.{map-append}
use Rattle.std.proofs.lemmas.List.{take-append-drop}
use Rattle.std.specs.List.{IsDistinct}
use Rattle.std.proofs.lemmas.Map.Keys.{IsDistinct-cons, IsDistinct-head, IsDistinct-tail}
use Rattle.eco_frame.proofs.Members.{from_map, in_map, passes, passing}
use Rattle.eco_frame.proofs.Patterns.{pattern_eq-Decides}
use Rattle.eco_frame.specs.contracts.key.KeyPartialEq.TheImpl as key_eq

insert_all_push : {K : Type 0} (eq : K → K → Bool) (ks xs : List K) (x : K) → insert_all eq ks (xs ++ x ∷ []) ≡ insert_key eq (insert_all eq ks xs) x
insert_all_push eq ks [] x = refl
insert_all_push eq ks (y ∷ ys) x = insert_all_push eq (insert_key eq ks y) ys x

-- ---- a test finds the same

one_more : (test : Pattern → Bool) (ks : List Pattern) (x : Pattern) → list_any test (insert_key same_pattern ks x) ≡ (list_any test ks || test x)
one_more test ks x = by (list_any (same_pattern x) ks) refl
  where
    by : (b : Bool) → list_any (same_pattern x) ks ≡ b → list_any test (if b then ks else ks ++ x ∷ []) ≡ (list_any test ks || test x)
    by true found =
        let one = passing (same_pattern x) ks found in
        let is = (pattern_eq-Decides x one.0).0 one.2 in
        there (test x) refl (λ t. passes test ks one.1 (subst (λ p. IsTrue (test p)) is t))
      where
        there : (b : Bool) → test x ≡ b → (IsTrue (test x) → IsTrue (list_any test ks)) → list_any test ks ≡ (list_any test ks || b)
        there true e f = f e ∙ sym (ap (λ c. c || true) (f e))
        there false e f = sym (or-false (list_any test ks))
    by false found = list_any-append test ks (x ∷ []) ∙ ap (λ c. list_any test ks || c) (or-false (test x))

all_more : (test : Pattern → Bool) (ks xs : List Pattern) → list_any test (insert_all same_pattern ks xs) ≡ (list_any test ks || list_any test xs)
all_more test ks [] = sym (or-false (list_any test ks))
all_more test ks (x ∷ xs) =
    all_more test (insert_key same_pattern ks x) xs
    ∙ ap (λ c. c || list_any test xs) (one_more test ks x)
    ∙ or_assoc (list_any test ks) (test x) (list_any test xs)

-- ---- what is put in first stands first

insert_all_append : (ks xs ys : List Pattern) → insert_all same_pattern ks (xs ++ ys) ≡ insert_all same_pattern (insert_all same_pattern ks xs) ys
insert_all_append ks [] ys = refl
insert_all_append ks (x ∷ xs) ys = insert_all_append (insert_key same_pattern ks x) xs ys

starts : (ks xs : List Pattern) → (rest : List Pattern) × (insert_all same_pattern ks xs ≡ ks ++ rest)
starts ks [] = ([], sym (append-nil ks))
starts ks (x ∷ xs) = by (λ js. starts js xs) (list_any (same_pattern x) ks)
  where
    by : ((js : List Pattern) → (rest : List Pattern) × (insert_all same_pattern js xs ≡ js ++ rest)) → (b : Bool)
        → (rest : List Pattern) × (insert_all same_pattern (if b then ks else ks ++ x ∷ []) xs ≡ ks ++ rest)
    by later true = later ks
    by later false = let more = later (ks ++ x ∷ []) in (x ∷ more.0, more.1 ∙ append_assoc ks (x ∷ []) more.0)

-- the closure, widened, lists the closed writes
pub lists_closed : (w : WorldState) (writes members listed : List Pattern) → AreClosed w writes members → listed ≡ unrepeated (map (widened w) members)
    → ListsClosed w writes listed
lists_closed w writes members listed closed made test = (
  λ h.
      let one = passing test (map (widened w) members) (sym (all_more test [] (map (widened w) members)) ∙ ap (list_any test) (sym made) ∙ h) in
      let from = from_map (widened w) members one.1 in
      (one.0, (from.0, (closed from.0).0 from.1, sym from.2), one.2),
  λ c. ap (list_any test) made ∙ all_more test [] (map (widened w) members)
      ∙ passes test (map (widened w) members) (in_map (widened w) (c.1).0 members ((closed (c.1).0).1 (c.1).1)) (subst (λ p. IsTrue (test p)) (c.1).2 c.2),
)

-- ---- each once

turned : (p q : Pattern) → same_pattern p q ≡ false → same_pattern q p ≡ false
turned p q h = off (same_pattern q p) (λ e.
    true≢false (sym ((pattern_eq-Decides p p).1 refl) ∙ subst (λ r. same_pattern p r ≡ false) ((pattern_eq-Decides q p).0 e) h))

apart_from_all : (x : Pattern) (ks : List Pattern) → list_any (same_pattern x) ks ≡ false → AllByRecursion (λ y. same_pattern y x ≡ false) ks
apart_from_all x [] h = tt
apart_from_all x (k ∷ ks) h = let parts = neither (same_pattern x k) _ h in (turned x k parts.0, apart_from_all x ks parts.1)

distinct_push : (ks : List Pattern) (x : Pattern) → IsDistinct same_pattern ks → AllByRecursion (λ y. same_pattern y x ≡ false) ks
    → IsDistinct same_pattern (ks ++ x ∷ [])
distinct_push [] x d apart = IsDistinct-cons same_pattern x [] tt d
distinct_push (k ∷ ks) x d apart =
    IsDistinct-cons same_pattern k (ks ++ x ∷ [])
    (all_append (λ y. same_pattern k y ≡ false) ks (x ∷ []) (IsDistinct-head same_pattern k ks d) (apart.0, tt))
    (distinct_push ks x (IsDistinct-tail same_pattern k ks d) apart.1)

distinct : (ks xs : List Pattern) → IsDistinct same_pattern ks → IsDistinct same_pattern (insert_all same_pattern ks xs)
distinct ks [] d = d
distinct ks (x ∷ xs) d = distinct (insert_key same_pattern ks x) xs (by (list_any (same_pattern x) ks) refl)
  where
    by : (b : Bool) → list_any (same_pattern x) ks ≡ b → IsDistinct same_pattern (if b then ks else ks ++ x ∷ [])
    by true e = d
    by false e = distinct_push ks x d (apart_from_all x ks e)

-- ---- keys of patterns

inserted : (ks : List Key) (k : Key) → map key_pattern (insert_key (key_eq.eq-value).it ks k) ≡ insert_key same_pattern (map key_pattern ks) k.pattern
inserted ks k = by (list_any ((key_eq.eq-value).it k) ks) refl
  where
    found : (ks : List Key) → list_any ((key_eq.eq-value).it k) ks ≡ list_any (same_pattern k.pattern) (map key_pattern ks)
    found [] = refl
    found (j ∷ js) = ap (λ c. same_pattern k.pattern j.pattern || c) (found js)

    by : (b : Bool) → list_any ((key_eq.eq-value).it k) ks ≡ b
        → map key_pattern (if b then ks else ks ++ k ∷ []) ≡ insert_key same_pattern (map key_pattern ks) k.pattern
    by true e = sym (ap (λ c. if c then map key_pattern ks else map key_pattern ks ++ k.pattern ∷ []) (sym (found ks) ∙ e))
    by false e = map_push key_pattern ks k ∙ sym (ap (λ c. if c then map key_pattern ks else map key_pattern ks ++ k.pattern ∷ []) (sym (found ks) ∙ e))

-- one more is widened
module _ (f : Pattern → Pattern) where
  pub once_more : (xs : List Pattern) (k : ℕ) (d : Pattern) (start old new : List Pattern) (y : Pattern) → k < length xs
      → old ≡ insert_all same_pattern start (map f (take k xs)) → y ≡ f (get_or xs k d) → new ≡ insert_key same_pattern old y
      → new ≡ insert_all same_pattern start (map f (take (k + 1) xs))
  once_more xs k d start old new y there before is made =
      made ∙ (λ i. insert_key same_pattern (before i) (is i)) ∙ sym (insert_all_push same_pattern start (map f (take k xs)) (f (get_or xs k d)))
      ∙ ap (insert_all same_pattern start) (sym (ap (map f) (take_more xs k d there) ∙ map_push f (take k xs) (get_or xs k d)))

  pub keyed_more : (ks : List Key) (k : ℕ) (d : Key) (old new : List Key) (key : Key) → k < length ks
      → map key_pattern old ≡ unrepeated (map f (map key_pattern (take k ks))) → key.pattern ≡ f (get_or ks k d).pattern
      → new ≡ insert_key (key_eq.eq-value).it old key → map key_pattern new ≡ unrepeated (map f (map key_pattern (take (k + 1) ks)))
  keyed_more ks k d old new key there before is made =
      ap (map key_pattern) made ∙ inserted old key ∙ (λ i. insert_key same_pattern (before i) (is i))
      ∙ sym (insert_all_push same_pattern [] (map f (map key_pattern (take k ks))) (f (get_or ks k d).pattern))
      ∙ ap unrepeated (sym (ap (λ l. map f (map key_pattern l)) (take_more ks k d there)
      ∙ ap (map f) (map_push key_pattern (take k ks) (get_or ks k d)) ∙ map_push f (map key_pattern (take k ks)) (get_or ks k d).pattern))

-- what is widened first stands first
pub widened_first : (f : Pattern → Pattern) (ps : List Pattern) (k : ℕ) (d : Pattern) (closed old : List Pattern) (y : Pattern) → k < length ps
    → old ≡ unrepeated (map f (take k ps)) → y ≡ f (get_or ps k d) → closed ≡ unrepeated (map f ps)
    → (rest : List Pattern) × (closed ≡ insert_key same_pattern old y ++ rest)
widened_first f ps k d closed old y there before is made =
    let front = map f (take (k + 1) ps) in
    let back = map f (drop (k + 1) ps) in
    let more = starts (unrepeated front) back in (
      more.0,
      made ∙ ap (λ l. unrepeated (map f l)) (sym (take-append-drop (k + 1) ps))
          ∙ ap unrepeated (map-append f (take (k + 1) ps) (drop (k + 1) ps)) ∙ insert_all_append [] front back ∙ more.1
          ∙ ap (λ l. l ++ more.0) (sym (once_more f ps k d [] old (insert_key same_pattern old y) y there before is refl)),
    )

none_distinct : IsDistinct same_pattern []
unfolding IsDistinct
none_distinct = tt

pub once_is_distinct : (listed ps : List Pattern) → listed ≡ unrepeated ps → IsDistinct same_pattern listed
once_is_distinct listed ps made = subst (IsDistinct same_pattern) (sym made) (distinct [] ps none_distinct)

-- ---- one pattern more, where it is known whether it stands there

pub stands : (ks : List Pattern) (k : Pattern) (b : Bool) → b ≡ list_any (same_pattern k) ks → b ≡ true → ks ≡ insert_key same_pattern ks k
stands ks k b is t = sym (ap (λ c. if c then ks else ks ++ k ∷ []) (sym is ∙ t))

pub pushed_once : (ks new : List Pattern) (k : Pattern) (b : Bool) → b ≡ list_any (same_pattern k) ks → b ≡ false → new ≡ ks ++ k ∷ []
    → new ≡ insert_key same_pattern ks k
pushed_once ks new k b is f made = made ∙ sym (ap (λ c. if c then ks else ks ++ k ∷ []) (sym is ∙ f))
