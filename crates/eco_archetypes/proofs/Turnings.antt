-- A table has one id more or less, where it stands.
use Rattle.eco_archetypes.proofs.Common.{◌≡◌, ◌≢◌, ℕ, Bool, true, false, true≢false, cond, not, ◌&&◌, ◌||◌}
use Rattle.eco_archetypes.proofs.Common.{if◌then◌else◌, List, [], ◌∷◌, map, Option, Some, None, option_map, unwrap_or, IsSome, IsTrue, Result, Ok}
use Rattle.eco_archetypes.proofs.Common.{Err, IfOk, nat_eq, Less, Equal, Greater, refl, sym, ap, ◌∙◌, ◌≤◌, ◌⊎◌, inl, inr}
use Rattle.eco_archetypes.proofs.Common.{find, by_order, cases_eq, same_Some}
use Rattle.eco_archetypes.proofs.Common.{Decides-eqb, Id, Pattern, id_cmp, id_eq, has_item}
use Rattle.eco_archetypes.proofs.Common.{with_item, without_item, id_eq_sym, equal_tie, or_right, id_cmp_total, same_id, joins_with, leaves_without, TableState}
use Rattle.eco_archetypes.proofs.Common.{paired, width_in, slot_of, table_in, no_table, turned, SetsSlot, Cuts, Lists, any_matches, matches_id, is_own, Turns}
use Rattle.eco_archetypes.proofs.Common.{ListsSame, AreTold, Cache, fingerprint, is_but, marks_turned, graph_cut, type_at}
use Rattle.eco_archetypes.proofs.Common.{type_matches, IsArchetypes, IsIdIndex, TakesType, SameSlots, AreAgreed, MeetsNeeds, KeepsWidths}
use Rattle.eco_ids.specs.OrderLaws.{id_ties}
use Rattle.eco_ids.proofs.SameIds.{id_eq-Decides}
use Rattle.eco_archetypes.proofs.ArchetypeLemmas.{index_turned, kinds_set}
use Rattle.eco_archetypes.proofs.Widths.{kept_agreed, kept_widths, same_kept}

-- ---- what the ids of a type match, once one came or went

is_same : (i j : Id) → id_eq i j ≡ true → i ≡ j
is_same i j e = same_id i j (equal_tie _ e)

swapped : (a b c : Bool) → (a || (b || c)) ≡ (b || (a || c))
swapped true true c = refl
swapped true false c = refl
swapped false b c = refl

doubled : (a c : Bool) → (a || c) ≡ (a || (a || c))
doubled true c = refl
doubled false c = refl

module _ (i : Id) (p : Pattern) where
  any_with : (ids : List Id) → any_matches (with_item id_cmp ids i) p ≡ (matches_id i p || any_matches ids p)
  any_with [] = refl
  any_with (y ∷ ys) =
      elim (id_cmp y i) as (λ r. id_cmp y i ≡ r → any_matches (by_order r (y ∷ with_item id_cmp ys i) (y ∷ ys) (i ∷ y ∷ ys)) p
      ≡ (matches_id i p || (matches_id y p || any_matches ys p))) [
        | Less ↦ λ e. ap (λ b. matches_id y p || b) (any_with ys) ∙ swapped (matches_id y p) (matches_id i p) (any_matches ys p)
        | Equal ↦ λ e. doubled (matches_id y p) (any_matches ys p) ∙ ap (λ j. matches_id j p || (matches_id y p || any_matches ys p)) (same_id y i e)
        | Greater ↦ λ e. refl
      ] refl

  any_apart : (ids : List Id) → (matches_id i p || any_matches ids p) ≡ (matches_id i p || any_matches (without_item id_cmp ids i) p)
  any_apart [] = refl
  any_apart (y ∷ ys) = by (id_eq y i) refl (any_apart ys)
    where
      by : (b : Bool) → id_eq y i ≡ b → (matches_id i p || any_matches ys p) ≡ (matches_id i p || any_matches (without_item id_cmp ys i) p)
          → (matches_id i p || (matches_id y p || any_matches ys p))
          ≡ (matches_id i p || any_matches (cond (not (id_eq y i)) (y ∷ without_item id_cmp ys i) (without_item id_cmp ys i)) p)
      by true e rest =
          ap (λ j. matches_id i p || (matches_id j p || any_matches ys p)) (is_same y i e) ∙ sym (doubled (matches_id i p) (any_matches ys p))
          ∙ rest
          ∙ sym (ap (λ b. matches_id i p || any_matches (cond (not b) (y ∷ without_item id_cmp ys i) (without_item id_cmp ys i)) p) e)
      by false e rest =
          swapped (matches_id i p) (matches_id y p) (any_matches ys p)
          ∙ ap (λ b. matches_id y p || b) rest
          ∙ swapped (matches_id y p) (matches_id i p) (any_matches (without_item id_cmp ys i) p)
          ∙ sym (ap (λ b. matches_id i p || any_matches (cond (not b) (y ∷ without_item id_cmp ys i) (without_item id_cmp ys i)) p) e)

  any_has : (ids : List Id) → has_item id_cmp ids i ≡ true → any_matches ids p ≡ (matches_id i p || any_matches ids p)
  any_has [] has = absurd (true≢false (sym has))
  any_has (y ∷ ys) has = by (id_eq y i) refl has (any_has ys)
    where
      by : (b : Bool) → id_eq y i ≡ b → (b || has_item id_cmp ys i) ≡ true
          → (has_item id_cmp ys i ≡ true → any_matches ys p ≡ (matches_id i p || any_matches ys p))
          → (matches_id y p || any_matches ys p) ≡ (matches_id i p || (matches_id y p || any_matches ys p))
      by true e h rest = doubled (matches_id y p) (any_matches ys p) ∙ ap (λ j. matches_id j p || (matches_id y p || any_matches ys p)) (is_same y i e)
      by false e h rest = ap (λ b. matches_id y p || b) (rest h) ∙ swapped (matches_id y p) (matches_id i p) (any_matches ys p)

  any_without : (ids : List Id) → has_item id_cmp ids i ≡ true → any_matches ids p ≡ (matches_id i p || any_matches (without_item id_cmp ids i) p)
  any_without ids has = any_has ids has ∙ any_apart ids

-- ---- the index
module _ (s s' : List (Option TableState)) (l l' : Lists) (n : ℕ) (i : Id) (ids : List Id) (index : IsIdIndex (type_at s) l)
    (had : type_at s n ≡ Some ids) (others : (m : ℕ) → m ≢ n → slot_of s' m ≡ slot_of s m) where
  turned_index : (b : Bool) (picks : Pattern → Bool) (now : List Id) → type_at s' n ≡ Some now → Turns b picks l l' n
      → ((p : Pattern) → cond (picks p && true) b (any_matches ids p) ≡ any_matches now p) → IsIdIndex (type_at s') l'
  turned_index b picks now has turns is =
      index_turned type_matches (type_at s) (type_at s') l l' n index (λ k other. ap (option_map (λ (t : TableState). t.ids)) (others k other)) b picks turns
      (λ p. ap (λ o. cond (picks p && true) b (type_matches o p)) had ∙ is p ∙ sym (ap (λ o. type_matches o p) has))

  pub index_gained : type_at s' n ≡ Some (with_item id_cmp ids i) → Turns true (matches_id i) l l' n → IsIdIndex (type_at s') l'
  index_gained has turns =
      turned_index true (matches_id i) (with_item id_cmp ids i) has turns
      (λ p. by (matches_id i p) (any_matches ids p) ∙ sym (any_with i p ids))
    where
      by : (a b : Bool) → cond (a && true) true b ≡ (a || b)
      by true b = refl
      by false b = refl

  pub index_lost : has_item id_cmp ids i ≡ true → type_at s' n ≡ Some (without_item id_cmp ids i)
      → Turns false (is_own i (without_item id_cmp ids i)) l l' n → IsIdIndex (type_at s') l'
  index_lost own has turns =
      turned_index false (is_own i (without_item id_cmp ids i)) (without_item id_cmp ids i) has turns
      (λ p. ap (cond (is_own i (without_item id_cmp ids i) p && true) false) (any_without i p ids own)
      ∙ by (matches_id i p) (any_matches (without_item id_cmp ids i) p))
    where
      by : (a b : Bool) → cond ((a && not b) && true) false (a || b) ≡ b
      by true true = refl
      by true false = refl
      by false b = refl

-- what was listed for an id that did not come after all is taken off again
pub index_back : (s s' : List (Option TableState)) (l l1 l2 : Lists) (n : ℕ) (i : Id) (ids : List Id) → IsIdIndex (type_at s) l → type_at s n ≡ Some ids
    → SameSlots s s' → Turns true (matches_id i) l l1 n → Turns false (is_own i ids) l1 l2 n → IsIdIndex (type_at s') l2
index_back s s' l l1 l2 n i ids index had same on off p m =
    off p m ∙ ap (cond (is_own i ids p && nat_eq n m) false) (on p m) ∙ by (nat_eq n m) refl
    ∙ index p m ∙ ap (λ o. type_matches (option_map (λ (t : TableState). t.ids) o) p) (sym (same m))
  where
    undone : (a b x : Bool) → x ≡ b → cond ((a && not b) && true) false (cond (a && true) true x) ≡ x
    undone true true x e = sym e
    undone true false x e = sym e
    undone false b x e = refl

    none : (a c x : Bool) → cond (c && false) false (cond (a && false) true x) ≡ x
    none true true x = refl
    none true false x = refl
    none false true x = refl
    none false false x = refl

    by : (c : Bool) → nat_eq n m ≡ c → cond (is_own i ids p && c) false (cond (matches_id i p && c) true (l p m)) ≡ l p m
    by true e =
        undone (matches_id i p) (any_matches ids p) (l p m)
        (ap (l p) (sym ((Decides-eqb n m).0 e)) ∙ index p n ∙ ap (λ o. type_matches o p) had)
    by false e = none (matches_id i p) (is_own i ids p) (l p m)

-- ---- how wide the ids are then
some_is : (o : Option ℕ) → IsSome o → o ≡ Some (unwrap_or o 0)
some_is None h = absurd (true≢false (sym h))
some_is (Some k) h = refl

found_width : (f : Id → ℕ) (ids : List Id) (j : Id) (k : ℕ) → find id_cmp j (paired ids (map f ids)) ≡ Some k
    → (k ≡ f j) × (has_item id_cmp ids j ≡ true)
found_width f [] j k e = absurd (let none : ◌≡◌ {A = Option ℕ} None (Some k) = e in cc)
found_width f (y ∷ ys) j k e = by (id_eq j y) refl e (found_width f ys j k)
  where
    by : (b : Bool) → id_eq j y ≡ b → cond b (Some (f y)) (find id_cmp j (paired ys (map f ys))) ≡ Some k
        → (find id_cmp j (paired ys (map f ys)) ≡ Some k → (k ≡ f j) × (has_item id_cmp ys j ≡ true))
        → (k ≡ f j) × ((id_eq y j || has_item id_cmp ys j) ≡ true)
    by true is h rest =
        (sym (same_Some (f y) k h) ∙ ap f (sym (is_same j y is)), ap (λ b. b || has_item id_cmp ys j) (id_eq_sym y j ∙ is))
    by false is h rest = ((rest h).0, or_right (id_eq y j) (has_item id_cmp ys j) (rest h).1)

module _ (s s' : List (Option TableState)) (n : ℕ) (ids : List Id) (i : Id) (w : ℕ) (sets : SetsSlot s s' n (Some (turned (table_in s n) ids i w)))
    (wide : (j : Id) → has_item id_cmp ids j ≡ true → id_eq j i ≡ false → IsSome (width_in (table_in s n) j)) where
  -- who has an id had it so wide, or is the table that turned, with the id that it turned by
  turned_in : (m : ℕ) (j : Id) (k : ℕ) → width_in (table_in s' m) j ≡ Some k
      → ((j ≡ i) × (k ≡ w) × (has_item id_cmp ids i ≡ true)) ⊎ (width_in (table_in s m) j ≡ Some k)
  turned_in m j k e = elim (cases_eq m n) [
    | inl here ↦
        let found = found_width (λ x. if id_eq x i then w else unwrap_or (width_in (table_in s n) x) 0) ids j k
        (sym (ap (λ o. width_in (unwrap_or o no_table) j) (ap (slot_of s') here ∙ sets.changed)) ∙ e) in
        by here found.0 found.1 (id_eq j i) refl
    | inr other ↦ inr (sym (ap (λ o. width_in (unwrap_or o no_table) j) (sets.others m other)) ∙ e)
  ]
    where
      by : m ≡ n → k ≡ (if id_eq j i then w else unwrap_or (width_in (table_in s n) j) 0) → has_item id_cmp ids j ≡ true → (b : Bool)
          → id_eq j i ≡ b
          → ((j ≡ i) × (k ≡ w) × (has_item id_cmp ids i ≡ true)) ⊎ (width_in (table_in s m) j ≡ Some k)
      by here is has true same =
          inl (
            is_same j i same,
            is ∙ ap (λ b. if b then w else unwrap_or (width_in (table_in s n) j) 0) same,
            ap (has_item id_cmp ids) (sym (is_same j i same)) ∙ has,
          )
      by here is has false other =
          inr (ap (λ x. width_in (table_in s x) j) here ∙ some_is (width_in (table_in s n) j) (wide j has other)
          ∙ ap Some (sym (is ∙ ap (λ b. if b then w else unwrap_or (width_in (table_in s n) j) 0) other)))

  pub gained_agreed : ((m k : ℕ) → width_in (table_in s m) i ≡ Some k → k ≡ w) → AreAgreed s → AreAgreed s'
  gained_agreed agrees agreed a b j k l e f = by (turned_in a j k e) (turned_in b j l f)
    where
      by : ((j ≡ i) × (k ≡ w) × (has_item id_cmp ids i ≡ true)) ⊎ (width_in (table_in s a) j ≡ Some k)
          → ((j ≡ i) × (l ≡ w) × (has_item id_cmp ids i ≡ true)) ⊎ (width_in (table_in s b) j ≡ Some l) → k ≡ l
      by (inl x) (inl y) = x.1 ∙ sym y.1
      by (inl x) (inr y) = x.1 ∙ sym (agrees b l (ap (width_in (table_in s b)) (sym x.0) ∙ y))
      by (inr x) (inl y) = agrees a k (ap (width_in (table_in s a)) (sym y.0) ∙ x) ∙ sym y.1
      by (inr x) (inr y) = agreed a b j k l x y

  pub gained_covers : (need : Id → ℕ) → need i ≤ w → MeetsNeeds need s → MeetsNeeds need s'
  gained_covers need enough covers = record { each = λ m j k e. by m j k (turned_in m j k e) }
    where
      by : (m : ℕ) (j : Id) (k : ℕ) → ((j ≡ i) × (k ≡ w) × (has_item id_cmp ids i ≡ true)) ⊎ (width_in (table_in s m) j ≡ Some k)
          → need j ≤ k
      by m j k (inl x) = rw (x.0, x.1) enough
      by m j k (inr x) = covers.each m j k x

  lost_in : has_item id_cmp ids i ≡ false → (m : ℕ) (j : Id) (k : ℕ) → width_in (table_in s' m) j ≡ Some k → width_in (table_in s m) j ≡ Some k
  lost_in gone m j k e = elim (turned_in m j k e) [
    | inl x ↦ absurd (true≢false (sym x.2 ∙ gone))
    | inr x ↦ x
  ]

  pub lost_agreed : has_item id_cmp ids i ≡ false → AreAgreed s → AreAgreed s'
  lost_agreed gone agreed a b j k l e f = agreed a b j k l (lost_in gone a j k e) (lost_in gone b j l f)

  pub lost_widths : has_item id_cmp ids i ≡ false → KeepsWidths s s'
  lost_widths gone need covers = record { each = λ m j k e. covers.each m j k (lost_in gone m j k e) }

-- an id that is there with one more was there before, or is that one; none with one less is that one
pub wide_gained : (t : TableState) (i : Id) → ((j : Id) → IsTrue (has_item id_cmp t.ids j) → IsSome (width_in t j))
    → (j : Id) → has_item id_cmp (with_item id_cmp t.ids i) j ≡ true → id_eq j i ≡ false → IsSome (width_in t j)
wide_gained t i wide j has other =
    wide j (sym (ap (λ b. b || has_item id_cmp t.ids j) (id_eq_sym i j ∙ other)) ∙ sym (joins_with id_cmp_total t.ids i j) ∙ has)

pub wide_lost : (t : TableState) (i : Id) → ((j : Id) → IsTrue (has_item id_cmp t.ids j) → IsSome (width_in t j))
    → (j : Id) → has_item id_cmp (without_item id_cmp t.ids i) j ≡ true → id_eq j i ≡ false → IsSome (width_in t j)
wide_lost t i wide j has other =
    wide j (sym (ap (λ b. not b && has_item id_cmp t.ids j) (id_eq_sym i j ∙ other)) ∙ sym (leaves_without id_cmp_total t.ids i j) ∙ has)

pub gone_lost : (ids : List Id) (i : Id) → has_item id_cmp (without_item id_cmp ids i) i ≡ false
gone_lost ids i =
    leaves_without id_cmp_total ids i i ∙ ap (λ b. not b && has_item id_cmp ids i) (sym (id_ties i i) ∙ (id_eq-Decides i i).1 refl)

pub covers_slots : (s s' : List (Option TableState)) → SameSlots s s' → KeepsWidths s s'
covers_slots s s' same = kept_widths s s' (same_kept s s' same)

pub agreed_slots : (s s' : List (Option TableState)) → SameSlots s s' → AreAgreed s → AreAgreed s'
agreed_slots s s' same = kept_agreed s s' (same_kept s s' same)

pub kept_slots : (s s' : List (Option TableState)) (n : ℕ) → SetsSlot s s' n (slot_of s n) → SameSlots s s'
kept_slots s s' n sets m = elim (cases_eq m n) [
  | inl here ↦ ap (slot_of s') here ∙ sets.changed ∙ ap (slot_of s) (sym here)
  | inr other ↦ sets.others m other
]

pub index_slots : (s s' : List (Option TableState)) (l l' : Lists) → IsIdIndex (type_at s) l → SameSlots s s' → ListsSame l l'
    → IsIdIndex (type_at s') l'
index_slots s s' l l' index same lists p n =
    lists p n ∙ index p n ∙ ap (λ o. type_matches (option_map (λ (t : TableState). t.ids) o) p) (sym (same n))

-- ---- all that finds the table
pub others_typed : {s s' : List (Option TableState)} {n : ℕ} {u : List Id} → TakesType s s' n u → (k : ℕ) → k ≢ n → type_at s' k ≡ type_at s k
others_typed takes k other = ap (option_map (λ (x : TableState). x.ids)) (takes.others k other)

pub found_turned : {ks ks' : List Cache} {s s' : List (Option TableState)} {m m' : ℕ → ℕ → Bool} {l l' : Lists} {g g' : List (List (Id × ℕ))}
    {m1 : ℕ → ℕ → Bool} {n : ℕ} {t u : List Id} → IsArchetypes s m l g ks → type_at s n ≡ Some t → TakesType s s' n u
    → ((k : ℕ) → type_at s k ≢ Some u) → Turns true (nat_eq (fingerprint u)) m m1 n
    → Turns false (is_but (fingerprint t) (fingerprint u)) m1 m' n → IsIdIndex (type_at s') l' → Cuts g g' n → AreAgreed s'
    → AreTold ks ks' n (Some u) → IsArchetypes s' m' l' g' ks'
found_turned {s = s} {s'} {m} {m'} {g = g} {g'} {m1} {n} {t} {u} found had takes absent on off index cuts agreed told = record {
  kinds = kinds_set (type_at s) (type_at s') n u (others_typed takes) takes.typed absent found.kinds;
  types = marks_turned (type_at s) (type_at s') m m1 m' n t u found.types had (others_typed takes) on takes.typed off;
  matches = index;
  graph = graph_cut (type_at s) (type_at s') g g' n found.graph cuts (others_typed takes);
  agreed = agreed;
  cached = told (type_at s) (type_at s') (record { there = takes.typed; others = others_typed takes }) found.cached;
}

pub if_ok : {T E : Type 0} (P Q : T → Type 0) (r : Result T E) → ((x : T) → P x → Q x) → IfOk r P → IfOk r Q
if_ok P Q (Ok x) f h = f x h
if_ok P Q (Err e) f h = h
