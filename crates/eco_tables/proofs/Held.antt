-- Columns, read by rows: they ascend by their ids, so an id is found where its column is.
use Rattle.eco_tables.proofs.Common.{◌≡◌, ℕ, zero, suc, ◌+◌, ◌<◌, ◌≤◌, Bool, true, false, cond, ◌||◌, List, [], ◌∷◌, ◌++◌}
use Rattle.eco_tables.proofs.Common.{map, length, get_or, take, drop, set, slice_get, Option, Some, None, refl, sym, ap, ◌∙◌, arith, IsTrue, subst, Less}
use Rattle.eco_tables.proofs.Common.{Equal, Greater, inl, inr, All, list_all, position_from, ordering_reverse, is_lt, is_eq, append-nil, drop-set-lt, drop_all}
use Rattle.eco_tables.proofs.Common.{take_all, get_or_default, get_or-map, length-map, map-set, take_more_set, All-set, All-push, cases_order, find, Id, Value}
use Rattle.eco_tables.proofs.Common.{id_cmp, id_eq, has_item, is_ascending, id_eq_sym, equal_tie, same_id, ColumnState, contents, column_with_value, written}
use Rattle.std.specs.Cmp.{tied_itself}
use Rattle.std.proofs.lemmas.List.Edits.{map_over_more}
use Rattle.eco_ids.specs.OrderLaws.{id_cmp_total}
use Rattle.eco_ids.proofs.Ascending.{all_at, first, second, less}

-- an id that is above all others is none of them
pub above-other : (cs : List ColumnState) (i : ℕ) (j : Id) (d : ColumnState) → i < length cs
    → IsTrue (list_all (λ y. is_lt (id_cmp j y)) (map (λ c. c.id) cs)) → id_eq (get_or cs i d).id j ≡ false
above-other [] i j d within above = absurd (omega arith)
above-other (c ∷ cs) zero j d within above =
    ap is_eq (id_cmp_total.antisymm c.id j ∙ ap ordering_reverse (less _ (first _ _ above)))
above-other (c ∷ cs) (suc i) j d within above = above-other cs i j d (omega arith) (second _ _ above)

-- an id is itself
pub same_eq : (a b : Id) → a ≡ b → id_eq a b ≡ true
same_eq a b e = ap (λ x. id_eq a x) (sym e) ∙ ap is_eq (tied_itself id_cmp_total a)

module _ {X : Type 0} (g : ColumnState → X) where
  -- where the ids ascend, a search for the id of a place finds what stands beside it
  pub find-ascending : (cs : List ColumnState) (i : ℕ) (id : Id) (d : ColumnState) → i < length cs
      → id ≡ (get_or cs i d).id → IsTrue (is_ascending id_cmp (map (λ c. c.id) cs))
      → find id_cmp id (map (λ c. (c.id, g c)) cs) ≡ Some (g (get_or cs i d))
  find-ascending [] i id d within is up = absurd (omega arith)
  find-ascending (c ∷ cs) zero id d within is up = rw (same_eq id c.id is) refl
  find-ascending (c ∷ cs) (suc i) id d within is up =
      let other : id_eq id c.id ≡ false = ap (λ x. id_eq x c.id) is ∙ above-other cs i c.id d (omega arith) (first _ _ up) in
      rw other (find-ascending cs i id d (omega arith) is (second _ _ up))

  -- a search for an id that no column has finds nothing
  pub find-absent : (cs : List ColumnState) (id : Id) → has_item id_cmp (map (λ c. c.id) cs) id ≡ false
      → find id_cmp id (map (λ c. (c.id, g c)) cs) ≡ None
  find-absent [] id none = refl
  find-absent (c ∷ cs) id none = by (id_eq c.id id) refl (λ rest. find-absent cs id rest)
    where
      by : (b : Bool) → id_eq c.id id ≡ b
          → (has_item id_cmp (map (λ c. c.id) cs) id ≡ false → find id_cmp id (map (λ c. (c.id, g c)) cs) ≡ None)
          → find id_cmp id (map (λ c. (c.id, g c)) (c ∷ cs)) ≡ None
      by true e rest = let bad = rw e at none in cc
      by false e rest =
          let later = rw e at none in
          let other : id_eq id c.id ≡ false = id_eq_sym id c.id ∙ e in
          rw other (rest later)

-- an id that is below all others is none of them
pub above-none : (is : List Id) (j : Id) → IsTrue (list_all (λ y. is_lt (id_cmp j y)) is) → has_item id_cmp is j ≡ false
above-none [] j above = refl
above-none (i ∷ is) j above =
    let other : id_eq i j ≡ false = ap is_eq (id_cmp_total.antisymm i j ∙ ap ordering_reverse (less _ (first _ _ above))) in
    rw other (above-none is j (second _ _ above))

-- a write of an id that no column has leaves all
pub written-absent : (cs : List ColumnState) (row : ℕ) (id : Id) (v : Value) → has_item id_cmp (map (λ c. c.id) cs) id ≡ false
    → map (λ c. written c row id v) cs ≡ cs
written-absent [] row id v none = refl
written-absent (c ∷ cs) row id v none = by (id_eq c.id id) refl (λ rest. written-absent cs row id v rest)
  where
    by : (b : Bool) → id_eq c.id id ≡ b
        → (has_item id_cmp (map (λ c. c.id) cs) id ≡ false → map (λ x. written x row id v) cs ≡ cs)
        → map (λ x. written x row id v) (c ∷ cs) ≡ c ∷ cs
    by true e rest = let bad = rw e at none in cc
    by false e rest = let later = rw e at none in rw e (ap (λ xs. c ∷ xs) (rest later))

-- where the ids ascend, a write of the id of a place is a write of that column alone
pub written-ascending : (cs : List ColumnState) (i row : ℕ) (id : Id) (v : Value) (d : ColumnState) → i < length cs
    → id ≡ (get_or cs i d).id → IsTrue (is_ascending id_cmp (map (λ c. c.id) cs))
    → set cs i (column_with_value (get_or cs i d) row v) ≡ map (λ c. written c row id v) cs
written-ascending [] i row id v d within is up = absurd (omega arith)
written-ascending (c ∷ cs) zero row id v d within is up =
    let same : id_eq c.id id ≡ true = same_eq c.id id (sym is) in
    let rest : map (λ x. written x row id v) cs ≡ cs =
    written-absent cs row id v (ap (λ x. has_item id_cmp (map (λ y. y.id) cs) x) is ∙ above-none (map (λ y. y.id) cs) c.id (first _ _ up)) in
    rw same (ap (λ xs. column_with_value c row v ∷ xs) (sym rest))
written-ascending (c ∷ cs) (suc i) row id v d within is up =
    let other : id_eq c.id id ≡ false = id_eq_sym c.id id ∙ ap (λ x. id_eq x c.id) is ∙ above-other cs i c.id d (omega arith) (first _ _ up) in
    rw other (ap (λ xs. c ∷ xs) (written-ascending cs i row id v d (omega arith) is (second _ _ up)))

-- the column at the place of an id
module _ (cs : List ColumnState) (i : ℕ) (id : Id) (at : slice_get (map (λ c. c.id) cs) i ≡ Some id) where
  of_place : (xs : List ColumnState) (k : ℕ) (d : ColumnState) → slice_get (map (λ c. c.id) xs) k ≡ Some id
      → (k < length xs) × (id ≡ (get_or xs k d).id)
  of_place [] k d e = let bad : ◌≡◌ {A = Option Id} None (Some id) = e in cc
  of_place (x ∷ xs) zero d e = (omega arith, (let same : ◌≡◌ {A = Option Id} (Some x.id) (Some id) = e in cc))
  of_place (x ∷ xs) (suc k) d e = let rest = of_place xs k d e in (omega arith, rest.1)

  pub place_within : i < length cs
  place_within = (of_place cs i (record { id = id; width = 0; values = []; room = 0 }) at).0

  pub place_id : (d : ColumnState) → id ≡ (get_or cs i d).id
  place_id d = (of_place cs i d at).1

  pub found_at : {X : Type 0} (g : ColumnState → X) (d : ColumnState) → IsTrue (is_ascending id_cmp (map (λ c. c.id) cs))
      → find id_cmp id (map (λ c. (c.id, g c)) cs) ≡ Some (g (get_or cs i d))
  found_at g d up = find-ascending g cs i id d place_within (place_id d) up

  pub written_at : (row : ℕ) (v : Value) (d : ColumnState) → IsTrue (is_ascending id_cmp (map (λ c. c.id) cs))
      → set cs i (column_with_value (get_or cs i d) row v) ≡ map (λ c. written c row id v) cs
  written_at row v d up = written-ascending cs i row id v d place_within (place_id d) up

  pub has_place : has_item id_cmp (map (λ c. c.id) cs) id ≡ true
  has_place = has_at cs i at
    where
      has_at : (xs : List ColumnState) (k : ℕ) → slice_get (map (λ c. c.id) xs) k ≡ Some id → has_item id_cmp (map (λ c. c.id) xs) id ≡ true
      has_at [] k e = let bad : ◌≡◌ {A = Option Id} None (Some id) = e in cc
      has_at (x ∷ xs) zero e =
          let same : x.id ≡ id = (let h : ◌≡◌ {A = Option Id} (Some x.id) (Some id) = e in cc) in
          rw (same_eq x.id id same) refl
      has_at (x ∷ xs) (suc k) e = by (id_eq x.id id) (has_at xs k e)
        where
          by : (b : Bool) → has_item id_cmp (map (λ c. c.id) xs) id ≡ true → (b || has_item id_cmp (map (λ c. c.id) xs) id) ≡ true
          by true h = refl
          by false h = h

-- one more turn of a loop that maps in place
pub mapped_more : {X : Type 0} (f : X → X) (xs ys : List X) (i : ℕ) (d y : X) → i < length xs → length ys ≡ length xs
    → ys ≡ map f (take i xs) ++ drop i xs → y ≡ f (get_or ys i d)
    → set ys i y ≡ map f (take (i + 1) xs) ++ drop (i + 1) xs
mapped_more f xs ys i d y within same done is =
    rw is (map_over_more f xs ys i (get_or ys i d) within done (get_or_default ys i d (get_or ys i d) (omega arith)))

-- what such a loop did not reach yet, and that in the end it reached all
pub not_yet : {X : Type 0} (f : X → X) (xs ys : List X) (i : ℕ) (d : X) → i < length xs → ys ≡ map f (take i xs) ++ drop i xs
    → get_or ys i d ≡ get_or xs i d
not_yet {X = X} f xs ys i d within done = ap (λ zs. get_or zs i d) done ∙ at xs i within
  where
    at : (zs : List X) (k : ℕ) → k < length zs → get_or (map f (take k zs) ++ drop k zs) k d ≡ get_or zs k d
    at [] k h = absurd (omega arith)
    at (z ∷ zs) zero h = refl
    at (z ∷ zs) (suc k) h = at zs k (omega arith)

pub not_yet_all : {X : Type 0} (P : X → Type 0) (f : X → X) (xs ys : List X) (i : ℕ) (d : X) → i < length xs → ys ≡ map f (take i xs) ++ drop i xs
    → All P xs → P (get_or ys i d)
not_yet_all P f xs ys i d within done all = subst P (sym (not_yet f xs ys i d within done)) (all i d within)

pub mapped_all : {X : Type 0} (f : X → X) (xs ys : List X) (i : ℕ) → length xs ≤ i → ys ≡ map f (take i xs) ++ drop i xs → ys ≡ map f xs
mapped_all f xs ys i past done =
    done ∙ ap (λ zs. map f zs ++ drop i xs) (take_all i xs past) ∙ ap (λ zs. map f xs ++ zs) (drop_all i xs past) ∙ append-nil (map f xs)

-- one more turn of a loop that takes room
pub contents_kept : (ys : List ColumnState) (i : ℕ) (d y : ColumnState) → contents y ≡ contents (get_or ys i d)
    → map contents (set ys i y) ≡ map contents ys
contents_kept [] i d y same = refl
contents_kept (c ∷ cs) zero d y same = ap (λ x. x ∷ map contents cs) same
contents_kept (c ∷ cs) (suc i) d y same = ap (λ xs. contents c ∷ xs) (contents_kept cs i d y same)

pub room_kept : (b : ℕ) (ys : List ColumnState) (i : ℕ) (d y : ColumnState) → i < length ys → (get_or ys i d).room ≤ y.room
    → All (λ c. b ≤ c.room) ys → All (λ c. b ≤ c.room) (set ys i y)
room_kept b ys i d y within more all = All-set (λ c. b ≤ c.room) ys i y (let had = all i d within in omega arith) all

pub room_more : (b : ℕ) (ys : List ColumnState) (i : ℕ) (y : ColumnState) → i < length ys → b ≤ y.room
    → All (λ c. b ≤ c.room) (take i ys) → All (λ c. b ≤ c.room) (take (i + 1) (set ys i y))
room_more b ys i y within more all = rw (take_more_set ys i y within) (All-push (λ c. b ≤ c.room) (take i ys) y all more)

-- what a loop did not reach yet
pub rest_at : (xs ys : List ColumnState) (i : ℕ) (d : ColumnState) → drop i ys ≡ drop i xs → get_or ys i d ≡ get_or xs i d
rest_at xs ys i d rest = sym (at ys i d) ∙ ap (λ zs. get_or zs 0 d) rest ∙ at xs i d
  where
    at : (zs : List ColumnState) (k : ℕ) (e : ColumnState) → get_or (drop k zs) 0 e ≡ get_or zs k e
    at [] zero e = refl
    at [] (suc k) e = refl
    at (z ∷ zs) zero e = refl
    at (z ∷ zs) (suc k) e = at zs k e

-- one more turn of a loop that joins, where a column may get more room than it needs
pub joined_more : (f : ColumnState → ColumnState) (xs ys : List ColumnState) (i : ℕ) (d y : ColumnState) → i < length xs → length ys ≡ length xs
    → map contents ys ≡ map contents (map f (take i xs) ++ drop i xs) → drop i ys ≡ drop i xs → contents y ≡ contents (f (get_or ys i d))
    → map contents (set ys i y) ≡ map contents (map f (take (i + 1) xs) ++ drop (i + 1) xs)
joined_more f xs ys i d y within same done rest is =
    let here = rest_at xs ys i d rest in
    map-set contents ys i y
    ∙ (λ t. set (done t) i ((is ∙ ap (λ x. contents (f x)) here) t))
    ∙ sym (map-set contents (map f (take i xs) ++ drop i xs) i (f (get_or xs i d)))
    ∙ ap (map contents) (map_over_more f xs (map f (take i xs) ++ drop i xs) i (get_or xs i d) within refl (turn xs i d within))
  where
    turn : (zs : List ColumnState) (k : ℕ) (e : ColumnState) → k < length zs → get_or zs k e ≡ get_or (map f (take k zs) ++ drop k zs) k (get_or zs k e)
    turn [] k e h = absurd (omega arith)
    turn (z ∷ zs) zero e h = refl
    turn (z ∷ zs) (suc k) e h = turn zs k e (omega arith)

pub rest_more : (xs ys : List ColumnState) (i : ℕ) (y : ColumnState) → drop i ys ≡ drop i xs → drop (i + 1) (set ys i y) ≡ drop (i + 1) xs
rest_more xs ys i y rest = drop-set-lt (i + 1) ys i y (omega arith) ∙ more ys i ∙ ap (drop 1) rest ∙ sym (more xs i)
  where
    more : (zs : List ColumnState) (k : ℕ) → drop (k + 1) zs ≡ drop 1 (drop k zs)
    more [] zero = refl
    more [] (suc k) = let e : suc k + 1 ≡ suc (suc k) = omega arith in rw e refl
    more (z ∷ zs) zero = refl
    more (z ∷ zs) (suc k) = let e : suc k + 1 ≡ suc (k + 1) = omega arith in rw e (more zs k)

-- ids of columns are looked for as ids are
pub positions : (cs : List ColumnState) (k : ℕ) (id : Id)
    → position_from (λ c. id_eq c.id id) k cs ≡ position_from (λ own. id_eq own id) k (map (λ c. c.id) cs)
positions [] k id = refl
positions (c ∷ cs) k id = ap (λ o. cond (id_eq c.id id) (Some k) o) (positions cs (k + 1) id)

-- an id before another is below it
pub below : (cs : List ColumnState) (j k : ℕ) (d e : ColumnState) → j < k → k < length cs → IsTrue (is_ascending id_cmp (map (λ c. c.id) cs))
    → id_cmp (get_or cs j d).id (get_or cs k e).id ≡ Less
below [] j k d e before within up = absurd (omega arith)
below (c ∷ cs) j zero d e before within up = absurd (omega arith)
below (c ∷ cs) zero (suc k) d e before within up =
    let in_cs : k < length cs = omega arith in
    let above : IsTrue (is_lt (id_cmp c.id (get_or (map (λ x. x.id) cs) k e.id))) =
    all_at (λ y. is_lt (id_cmp c.id y)) (map (λ x. x.id) cs) (first _ _ up) k e.id (rw (length-map cs (λ (x : ColumnState). x.id)) in_cs) in
    ap (id_cmp c.id) (sym (get_or-map (λ (x : ColumnState). x.id) cs k e e.id in_cs)) ∙ less _ above
below (c ∷ cs) (suc j) (suc k) d e before within up = below cs j k d e (omega arith) (omega arith) (second _ _ up)

-- the id at a place ties with itself
tied_here : (cs : List ColumnState) (m k : ℕ) (d e : ColumnState) (id : Id) → m < length cs → k ≡ m → (get_or cs k e).id ≡ id
    → id_cmp (get_or cs m d).id id ≡ Equal
tied_here cs m k d e id in_m same is =
    ap (λ x. id_cmp x.id id) (get_or_default cs m d e in_m ∙ ap (λ j. get_or cs j e) (sym same))
    ∙ ap (λ x. id_cmp x id) is ∙ tied_itself id_cmp_total id

-- what a look at a place says of where an id may be
pub past_less : (cs : List ColumnState) (m k : ℕ) (d e : ColumnState) (id : Id) → IsTrue (is_ascending id_cmp (map (λ c. c.id) cs)) → m < length cs
    → id_cmp (get_or cs m d).id id ≡ Less → (get_or cs k e).id ≡ id → k < length cs → m < k
past_less cs m k d e id up in_m less_m is in_k = elim (cases_order k m) [
  | inl same ↦ absurd (let bad : Less ≡ Equal = sym less_m ∙ tied_here cs m k d e id in_m same is in cc)
  | inr (inl before) ↦
      absurd (let bad : Less ≡ Greater = sym less_m ∙ id_cmp_total.antisymm (get_or cs m d).id id
      ∙ ap ordering_reverse (ap (λ x. id_cmp x (get_or cs m d).id) (sym is) ∙ below cs k m e d before in_m up) in cc)
  | inr (inr after) ↦ after
]

pub before_greater : (cs : List ColumnState) (m k : ℕ) (d e : ColumnState) (id : Id) → IsTrue (is_ascending id_cmp (map (λ c. c.id) cs)) → m < length cs
    → id_cmp (get_or cs m d).id id ≡ Greater → (get_or cs k e).id ≡ id → k < length cs → k < m
before_greater cs m k d e id up in_m greater is in_k = elim (cases_order k m) [
  | inl same ↦ absurd (let bad : Greater ≡ Equal = sym greater ∙ tied_here cs m k d e id in_m same is in cc)
  | inr (inl before) ↦ before
  | inr (inr after) ↦ absurd (let bad : Greater ≡ Less = sym greater ∙ ap (id_cmp (get_or cs m d).id) (sym is) ∙ below cs m k d e after in_k up in cc)
]

-- an id that is at no place is none of them
pub nowhere : (cs : List ColumnState) (id : Id) → ((k : ℕ) (d : ColumnState) → k < length cs → (get_or cs k d).id ≡ id → ⊥)
    → has_item id_cmp (map (λ c. c.id) cs) id ≡ false
nowhere [] id none = refl
nowhere (c ∷ cs) id none = by (id_eq c.id id) refl (nowhere cs id (λ k d within is. none (suc k) d (omega arith) is))
  where
    by : (b : Bool) → id_eq c.id id ≡ b → has_item id_cmp (map (λ x. x.id) cs) id ≡ false
        → has_item id_cmp (map (λ x. x.id) (c ∷ cs)) id ≡ false
    by true e rest = absurd (none 0 c (omega arith) (same_id c.id id (equal_tie _ e)))
    by false e rest = rw e rest

-- the id at a place
pub id_at : (cs : List ColumnState) (k : ℕ) (d : ColumnState) (id : Id) → k < length cs → (get_or cs k d).id ≡ id
    → slice_get (map (λ c. c.id) cs) k ≡ Some id
id_at [] k d id within is = absurd (omega arith)
id_at (c ∷ cs) zero d id within is = ap Some is
id_at (c ∷ cs) (suc k) d id within is = id_at cs k d id (omega arith) is
