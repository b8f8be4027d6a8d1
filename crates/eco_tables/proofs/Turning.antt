-- A table under another type: one column comes to the others, or goes.
use Rattle.eco_tables.proofs.Common.{◌≡◌, ℕ, zero, suc, ◌+◌, ◌≤◌, ◌<◌, Bool, true, false, not, cond, ◌&&◌, ◌||◌}
use Rattle.eco_tables.proofs.Common.{if◌then◌else◌, List, [], ◌∷◌, map, length, get_or, insert, remove, replicate, slice_get, Option, Some, None}
use Rattle.eco_tables.proofs.Common.{unwrap_or, refl, sym, ap, ◌∙◌, subst, arith, IsTrue, true≢false, Less, Equal, Greater, All, position_from, find}
use Rattle.eco_tables.proofs.Common.{by_order, not-true, length-replicate, All-cons, All-head, All-tail, All-filter, Entity, Id, zeros, id_cmp, id_eq, has_item}
use Rattle.eco_tables.proofs.Common.{is_ascending, with_item, without_item, id_eq_sym, or_right, ColumnState, held_in, value_in, kind_of, retyped, with_column}
use Rattle.eco_tables.proofs.Common.{without_column, TableState, rows_from, retyped_row, table_of, paired, width_among, width_in, AreKinds, HasShape, turned}
use Rattle.std.proofs.Common.{is_eq, is_lt}
use Rattle.eco_ids.proofs.Ascending.{first, second, ascending_with, ascending_without}
use Rattle.eco_ids.proofs.IdOrder.{id_cmp_total}
use Rattle.eco_ids.proofs.SetLaws.{joins_with, leaves_without}
use Rattle.eco_tables.proofs.Held.{above-other, above-none, same_eq, place_within, place_id}
use Rattle.eco_tables.proofs.Rows.{ascends, within_ids, outside, no_column, zeros_held, held_value, ids_of_kinds}
use Rattle.eco_tables.proofs.Widths.{is_same, or_first, same_within, width-each}

-- ---- where a new column stands

abbrev IsEnd : ColumnState → List ColumnState → ℕ → ℕ → Type 0
IsEnd c cs k m =
    (unwrap_or (position_from (λ d. not (is_lt (id_cmp d.id c.id))) k cs) (k + length cs) ≡ k + m)
    × (insert cs m c ≡ with_column cs c) × (m ≤ length cs)

end_of : (c : ColumnState) (cs : List ColumnState) (k : ℕ) → (m : ℕ) × IsEnd c cs k m
end_of c [] k = (0, (refl, refl, omega arith))
end_of c (d ∷ ds) k = by (is_lt (id_cmp d.id c.id)) refl (end_of c ds (k + 1))
  where
    later : Option ℕ
    later = position_from (λ x. not (is_lt (id_cmp x.id c.id))) (k + 1) ds

    by : (b : Bool) → is_lt (id_cmp d.id c.id) ≡ b → (m : ℕ) × IsEnd c ds (k + 1) m → (m : ℕ) × IsEnd c (d ∷ ds) k m
    by false e rest = (
      0,
      (
        ap (λ b. unwrap_or (cond (not b) (Some k) later) (k + length (d ∷ ds))) e ∙ (let n : k ≡ k + 0 = omega arith in n),
        sym (ap (λ b. if b then d ∷ with_column ds c else c ∷ d ∷ ds) e),
        omega arith,
      ),
    )
    by true e rest = (
      suc rest.0,
      (
        ap (λ b. unwrap_or (cond (not b) (Some k) later) (k + length (d ∷ ds))) e
            ∙ ap (unwrap_or later) (let n : k + suc (length ds) ≡ k + 1 + length ds = omega arith in n)
            ∙ rest.1.0 ∙ (let n : k + 1 + rest.0 ≡ k + suc rest.0 = omega arith in n),
        ap (λ xs. d ∷ xs) rest.1.1 ∙ sym (ap (λ b. if b then d ∷ with_column ds c else c ∷ d ∷ ds) e),
        omega (arith, rest.1.2),
      ),
    )

module _ (cs : List ColumnState) (c : ColumnState) (r : Option ℕ) (is : r ≡ position_from (λ d. not (is_lt (id_cmp d.id c.id))) 0 cs) where
  place_is : (n : ℕ) → n ≡ unwrap_or r (length cs) → n ≡ (end_of c cs 0).0
  place_is n at =
      let zero_more : length cs ≡ 0 + length cs = omega arith in
      let past : 0 + (end_of c cs 0).0 ≡ (end_of c cs 0).0 = omega arith in
      at ∙ (λ t. unwrap_or (is t) (zero_more t)) ∙ (end_of c cs 0).1.0 ∙ past

  pub place_fits : (n : ℕ) → n ≡ unwrap_or r (length cs) → n ≤ length cs
  place_fits n at = omega (arith, place_is n at, (end_of c cs 0).1.2)

  pub put_in_place : (n : ℕ) → n ≡ unwrap_or r (length cs) → insert cs n c ≡ with_column cs c
  put_in_place n at = ap (λ m. insert cs m c) (place_is n at) ∙ (end_of c cs 0).1.1

-- ---- what columns hold once one came or went

or_second : (b c : Bool) → (b || c) ≡ false → c ≡ false
or_second true c e = absurd (true≢false e)
or_second false c e = e

ids_with : (cs : List ColumnState) (c : ColumnState) → has_item id_cmp (map (λ x. x.id) cs) c.id ≡ false
    → map (λ x. x.id) (with_column cs c) ≡ with_item id_cmp (map (λ x. x.id) cs) c.id
ids_with [] c none = refl
ids_with (d ∷ ds) c none =
    elim (id_cmp d.id c.id) as (λ r. (is_eq r || has_item id_cmp (map (λ x. x.id) ds) c.id) ≡ false
    → map (λ x. x.id) (if is_lt r then d ∷ with_column ds c else c ∷ d ∷ ds)
    ≡ by_order r (d.id ∷ with_item id_cmp (map (λ x. x.id) ds) c.id) (d.id ∷ map (λ x. x.id) ds) (c.id ∷ d.id ∷ map (λ x. x.id) ds)) [
      | Less ↦ λ h. ap (λ is. d.id ∷ is) (ids_with ds c h)
      | Equal ↦ λ h. absurd (true≢false h)
      | Greater ↦ λ h. refl
    ] none

ids_without : (cs : List ColumnState) (i : Id) → map (λ x. x.id) (without_column cs i) ≡ without_item id_cmp (map (λ x. x.id) cs) i
ids_without [] i = refl
ids_without (d ∷ ds) i =
    elim (id_eq d.id i) as (λ b. map (λ x. x.id) (cond (not b) (d ∷ without_column ds i) (without_column ds i))
    ≡ cond (not b) (d.id ∷ without_item id_cmp (map (λ x. x.id) ds) i) (without_item id_cmp (map (λ x. x.id) ds) i)) [
      | true ↦ ids_without ds i
      | false ↦ ap (λ is. d.id ∷ is) (ids_without ds i)
    ]

without_absent : (cs : List ColumnState) (i : Id) → has_item id_cmp (map (λ x. x.id) cs) i ≡ false → without_column cs i ≡ cs
without_absent [] i none = refl
without_absent (d ∷ ds) i none =
    ap (λ b. cond (not b) (d ∷ without_column ds i) (without_column ds i)) (or_first (id_eq d.id i) _ none)
    ∙ ap (λ xs. d ∷ xs) (without_absent ds i (or_second (id_eq d.id i) _ none))

without_place : (cs : List ColumnState) (p : ℕ) (i : Id) (d : ColumnState) → p < length cs → i ≡ (get_or cs p d).id
    → IsTrue (is_ascending id_cmp (map (λ x. x.id) cs)) → remove cs p ≡ without_column cs i
without_place [] p i d within is up = absurd (omega arith)
without_place (c ∷ cs) zero i d within is up =
    sym (ap (λ b. cond (not b) (c ∷ without_column cs i) (without_column cs i)) (same_eq c.id i (sym is))
    ∙ without_absent cs i (ap (has_item id_cmp (map (λ x. x.id) cs)) is ∙ above-none (map (λ x. x.id) cs) c.id (first _ _ up)))
without_place (c ∷ cs) (suc p) i d within is up =
    ap (λ xs. c ∷ xs) (without_place cs p i d (omega arith) is (second _ _ up))
    ∙ sym (ap (λ b. cond (not b) (c ∷ without_column cs i) (without_column cs i))
    (id_eq_sym c.id i ∙ ap (λ x. id_eq x c.id) is ∙ above-other cs p c.id d (omega arith) (first _ _ up)))

-- the column of the id, at its place
pub removed_at : (cs : List ColumnState) (p : ℕ) (i : Id) → slice_get (map (λ c. c.id) cs) p ≡ Some i
    → IsTrue (is_ascending id_cmp (map (λ c. c.id) cs)) → remove cs p ≡ without_column cs i
removed_at cs p i at up =
    let d : ColumnState = record { id = i; width = 0; values = []; room = 0 } in
    without_place cs p i d (place_within cs p i at) (place_id cs p i at d) up

pub removed_none : (cs : List ColumnState) (i : Id) → has_item id_cmp (map (λ x. x.id) cs) i ≡ false → cs ≡ without_column cs i
removed_none cs i none = sym (without_absent cs i none)

module _ {X : Type 0} (g : ColumnState → X) where
  pub find_with : (cs : List ColumnState) (c : ColumnState) (j : Id) → has_item id_cmp (map (λ x. x.id) cs) c.id ≡ false
      → find id_cmp j (map (λ x. (x.id, g x)) (with_column cs c)) ≡ (if id_eq j c.id then Some (g c) else find id_cmp j (map (λ x. (x.id, g x)) cs))
  find_with [] c j none = refl
  find_with (d ∷ ds) c j none =
      elim (id_cmp d.id c.id) as (λ r. (is_eq r || has_item id_cmp (map (λ x. x.id) ds) c.id) ≡ false
      → find id_cmp j (map (λ x. (x.id, g x)) (if is_lt r then d ∷ with_column ds c else c ∷ d ∷ ds))
      ≡ (if id_eq j c.id then Some (g c) else find id_cmp j (map (λ x. (x.id, g x)) (d ∷ ds)))) [
        | Less ↦ λ h.
            ap (cond (id_eq j d.id) (Some (g d))) (find_with ds c j h)
            ∙ swap (id_eq j d.id) (id_eq j c.id) (Some (g d)) (Some (g c)) (find id_cmp j (map (λ x. (x.id, g x)) ds)) apart
        | Equal ↦ λ h. absurd (true≢false h)
        | Greater ↦ λ h. refl
      ] none
    where
      swap : (a b : Bool) (x y z : Option X) → (a ≡ true → b ≡ true → ⊥) → cond a x (cond b y z) ≡ cond b y (cond a x z)
      swap true true x y z h = absurd (h refl refl)
      swap true false x y z h = refl
      swap false b x y z h = refl

      apart : id_eq j d.id ≡ true → id_eq j c.id ≡ true → ⊥
      apart a b = true≢false (sym (same_eq d.id c.id (sym (is_same j d.id a) ∙ is_same j c.id b)) ∙ or_first (id_eq d.id c.id) _ none)

  pub find_without : (cs : List ColumnState) (i j : Id) → id_eq j i ≡ false
      → find id_cmp j (map (λ x. (x.id, g x)) (without_column cs i)) ≡ find id_cmp j (map (λ x. (x.id, g x)) cs)
  find_without [] i j other = refl
  find_without (d ∷ ds) i j other = by (id_eq d.id i) refl (find_without ds i j other)
    where
      by : (b : Bool) → id_eq d.id i ≡ b
          → find id_cmp j (map (λ x. (x.id, g x)) (without_column ds i)) ≡ find id_cmp j (map (λ x. (x.id, g x)) ds)
          → find id_cmp j (map (λ x. (x.id, g x)) (cond (not (id_eq d.id i)) (d ∷ without_column ds i) (without_column ds i)))
          ≡ cond (id_eq j d.id) (Some (g d)) (find id_cmp j (map (λ x. (x.id, g x)) ds))
      by true e rest =
          ap (λ b. find id_cmp j (map (λ x. (x.id, g x)) (cond (not b) (d ∷ without_column ds i) (without_column ds i)))) e
          ∙ rest
          ∙ sym (ap (λ b. cond b (Some (g d)) (find id_cmp j (map (λ x. (x.id, g x)) ds))) (ap (id_eq j) (is_same d.id i e) ∙ other))
      by false e rest =
          ap (λ b. find id_cmp j (map (λ x. (x.id, g x)) (cond (not b) (d ∷ without_column ds i) (without_column ds i)))) e
          ∙ ap (cond (id_eq j d.id) (Some (g d))) rest

all_with : (P : ColumnState → Type 0) (cs : List ColumnState) (c : ColumnState) → All P cs → P c → All P (with_column cs c)
all_with P [] c all here = All-cons P c [] here all
all_with P (d ∷ ds) c all here =
    elim (is_lt (id_cmp d.id c.id)) as (λ b. All P (if b then d ∷ with_column ds c else c ∷ d ∷ ds)) [
      | true ↦ All-cons P d (with_column ds c) (All-head P d ds all) (all_with P ds c (All-tail P d ds all) here)
      | false ↦ All-cons P c (d ∷ ds) here all
    ]

either : (b c d : Bool) → (c ≡ true → d ≡ true) → (b || c) ≡ true → (b || d) ≡ true
either true c d f h = refl
either false c d f h = f h

both : (b c d : Bool) → (c ≡ true → d ≡ true) → (not b && c) ≡ true → (not b && d) ≡ true
both true c d f h = h
both false c d f h = f h

-- ---- the kinds under the new type
module _ (ids : List Id) (cs : List ColumnState) (kinds : AreKinds ids (map kind_of cs)) where
  module _ (i : Id) (lacks : has_item id_cmp ids i ≡ false) where
    pub bare_kinds : AreKinds (with_item id_cmp ids i) (map kind_of cs)
    bare_kinds = record {
      ascending = kinds.ascending;
      within = λ j has. joins_with id_cmp_total ids i j ∙ or_right (id_eq i j) _ (kinds.within j has);
      wide = kinds.wide;
    }

    pub bare_wide : (j : Id) → has_item id_cmp (with_item id_cmp ids i) j ≡ true
        → width_among (map kind_of cs) j ≡ (if id_eq j i then 0 else width_among (map kind_of cs) j)
    bare_wide j has = by (id_eq j i) refl
      where
        by : (b : Bool) → id_eq j i ≡ b → width_among (map kind_of cs) j ≡ (if b then 0 else width_among (map kind_of cs) j)
        by true e = ap (width_among (map kind_of cs)) (is_same j i e) ∙ no_column ids cs kinds i (outside ids cs kinds i lacks)
        by false e = refl

  module _ (c : ColumnState) (lacks : has_item id_cmp ids c.id ≡ false) where
    none : has_item id_cmp (map (λ x. x.id) cs) c.id ≡ false
    none = outside ids cs kinds c.id lacks

    pub more_width : (j : Id) → width_among (map kind_of (with_column cs c)) j ≡ (if id_eq j c.id then c.width else width_among (map kind_of cs) j)
    more_width j = ap (λ o. unwrap_or o 0) (find_with (λ x. x.width) cs c j none) ∙ pick (id_eq j c.id)
      where
        pick : (b : Bool) → unwrap_or (if b then Some c.width else find id_cmp j (map kind_of cs)) 0
            ≡ (if b then c.width else width_among (map kind_of cs) j)
        pick true = refl
        pick false = refl

    more_ids : map (λ k. k.0) (map kind_of (with_column cs c)) ≡ with_item id_cmp (map (λ x. x.id) cs) c.id
    more_ids = ids_of_kinds (with_column cs c) ∙ ids_with cs c none

    pub more_kinds : 1 ≤ c.width → AreKinds (with_item id_cmp ids c.id) (map kind_of (with_column cs c))
    more_kinds some = record {
      ascending = subst (λ is. IsTrue (is_ascending id_cmp is)) (sym more_ids) (ascending_with id_cmp_total _ c.id (ascends ids cs kinds));
      within = λ j has.
          joins_with id_cmp_total ids c.id j
          ∙ either (id_eq c.id j) _ _ (within_ids ids cs kinds j)
          (sym (joins_with id_cmp_total (map (λ x. x.id) cs) c.id j) ∙ ap (λ is. has_item id_cmp is j) (sym more_ids) ∙ has);
      wide = λ j has.
          subst (λ n. 1 ≤ n) (sym (more_width j)) (by j (id_eq j c.id) refl
          (sym (joins_with id_cmp_total (map (λ x. x.id) cs) c.id j) ∙ ap (λ is. has_item id_cmp is j) (sym more_ids) ∙ has));
    }
      where
        by : (j : Id) (b : Bool) → id_eq j c.id ≡ b → (id_eq c.id j || has_item id_cmp (map (λ x. x.id) cs) j) ≡ true
            → 1 ≤ (if b then c.width else width_among (map kind_of cs) j)
        by j true e has = some
        by j false e has =
            kinds.wide j (ap (λ is. has_item id_cmp is j) (ids_of_kinds cs)
            ∙ sym (ap (λ b. b || has_item id_cmp (map (λ x. x.id) cs) j) (id_eq_sym c.id j ∙ e)) ∙ has)

    pub more_held : (n : ℕ) → c.values ≡ replicate n zeros → (k : ℕ) (j : Id)
        → value_in (held_in (with_column cs c) k) j ≡ value_in (held_in cs k) j
    more_held n blank k j = ap (λ o. unwrap_or o zeros) (find_with (λ x. get_or x.values k zeros) cs c j none) ∙ by (id_eq j c.id) refl
      where
        zero_at : (m r : ℕ) → get_or (replicate m zeros) r zeros ≡ zeros
        zero_at zero r = refl
        zero_at (suc m) zero = refl
        zero_at (suc m) (suc r) = zero_at m r

        by : (b : Bool) → id_eq j c.id ≡ b
            → unwrap_or (if b then Some (get_or c.values k zeros) else find id_cmp j (held_in cs k)) zeros ≡ value_in (held_in cs k) j
        by true e =
            ap (λ vs. get_or vs k zeros) blank ∙ zero_at n k
            ∙ sym (ap (value_in (held_in cs k)) (is_same j c.id e) ∙ zeros_held ids cs kinds k c.id none)
        by false e = refl

  module _ (i : Id) where
    fewer_ids : map (λ k. k.0) (map kind_of (without_column cs i)) ≡ without_item id_cmp (map (λ x. x.id) cs) i
    fewer_ids = ids_of_kinds (without_column cs i) ∙ ids_without cs i

    fewer_has : (j : Id) → has_item id_cmp (map (λ k. k.0) (map kind_of (without_column cs i))) j ≡ true
        → (not (id_eq i j) && has_item id_cmp (map (λ x. x.id) cs) j) ≡ true
    fewer_has j has = sym (leaves_without id_cmp_total (map (λ x. x.id) cs) i j) ∙ ap (λ is. has_item id_cmp is j) (sym fewer_ids) ∙ has

    fewer_width : (j : Id) → id_eq i j ≡ false → width_among (map kind_of (without_column cs i)) j ≡ width_among (map kind_of cs) j
    fewer_width j other = ap (λ o. unwrap_or o 0) (find_without (λ x. x.width) cs i j (id_eq_sym j i ∙ other))

    pub fewer_kinds : AreKinds (without_item id_cmp ids i) (map kind_of (without_column cs i))
    fewer_kinds = record {
      ascending = subst (λ is. IsTrue (is_ascending id_cmp is)) (sym fewer_ids) (ascending_without id_cmp _ i (ascends ids cs kinds));
      within = λ j has. leaves_without id_cmp_total ids i j ∙ both (id_eq i j) _ _ (within_ids ids cs kinds j) (fewer_has j has);
      wide = λ j has.
          subst (λ n. 1 ≤ n) (sym (fewer_width j (not-true (id_eq i j) (first _ _ (fewer_has j has)))))
          (kinds.wide j (ap (λ is. has_item id_cmp is j) (ids_of_kinds cs) ∙ second (not (id_eq i j)) _ (fewer_has j has)));
    }

    -- another id of the type that is left
    other : (j : Id) → has_item id_cmp (without_item id_cmp ids i) j ≡ true → id_eq i j ≡ false
    other j has = not-true (id_eq i j) (first _ _ (sym (leaves_without id_cmp_total ids i j) ∙ has))

    pub fewer_wide : (j : Id) → has_item id_cmp (without_item id_cmp ids i) j ≡ true
        → width_among (map kind_of (without_column cs i)) j ≡ (if id_eq j i then 0 else width_among (map kind_of cs) j)
    fewer_wide j has =
        fewer_width j (other j has) ∙ sym (ap (λ b. if b then 0 else width_among (map kind_of cs) j) (id_eq_sym j i ∙ other j has))

    pub fewer_held : (k : ℕ) (j : Id) → has_item id_cmp (without_item id_cmp ids i) j ≡ true
        → value_in (held_in (without_column cs i) k) j ≡ value_in (held_in cs k) j
    fewer_held k j has = ap (λ o. unwrap_or o zeros) (find_without (λ x. get_or x.values k zeros) cs i j (id_eq_sym j i ∙ other j has))

  -- what is seen of the table
  module _ (ids' : List Id) (ds : List ColumnState) (es : List Entity) (i : Id) (w room : ℕ)
      (wide : (j : Id) → has_item id_cmp ids' j ≡ true → width_among (map kind_of ds) j ≡ (if id_eq j i then w else width_among (map kind_of cs) j))
      (held : (k : ℕ) (j : Id) → has_item id_cmp ids' j ≡ true → value_in (held_in ds k) j ≡ value_in (held_in cs k) j) where
    width_read : (j : Id) → unwrap_or (find id_cmp j (paired ids (map (width_among (map kind_of cs)) ids))) 0 ≡ width_among (map kind_of cs) j
    width_read j = ap (λ o. unwrap_or o 0) (width-each ids (map kind_of cs) j) ∙ by (has_item id_cmp ids j) refl
      where
        by : (b : Bool) → has_item id_cmp ids j ≡ b
            → unwrap_or (if b then Some (width_among (map kind_of cs) j) else None) 0 ≡ width_among (map kind_of cs) j
        by true e = refl
        by false e = sym (no_column ids cs kinds j (outside ids cs kinds j e))

    same_numbers : (f g : Id → ℕ) (is : List Id) → ((j : Id) → has_item id_cmp is j ≡ true → f j ≡ g j) → map f is ≡ map g is
    same_numbers f g [] same = refl
    same_numbers f g (j ∷ js) same =
        let here : f j ≡ g j = same j (ap (λ b. b || has_item id_cmp js j) (same_eq j j refl)) in
        let there = same_numbers f g js (λ k has. same k (or_right (id_eq j k) _ has)) in
        λ t. here t ∷ there t

    turned_rows : (k : ℕ) (fs : List Entity)
        → map (retyped_row ids') (rows_from ds k fs) ≡ map (retyped_row ids') (map (retyped_row ids) (rows_from cs k fs))
    turned_rows k [] = refl
    turned_rows k (e ∷ fs) =
        let here = same_within ids' (value_in (held_in ds k)) (value_in (retyped ids (held_in cs k)))
        (λ j has. held k j has ∙ sym (held_value ids cs kinds k j)) in
        let there = turned_rows (suc k) fs in
        λ t. record { entity = e; held = here t } ∷ there t

    abbrev was : TableState
    was = table_of ids cs es room

    pub turned_table : table_of ids' ds es room ≡ turned was ids' i w
    turned_table =
        let widths = same_numbers (width_among (map kind_of ds)) (λ j. if id_eq j i then w else unwrap_or (width_in was j) 0) ids'
        (λ j has. wide j has ∙ ap (λ n. if id_eq j i then w else n) (sym (width_read j))) in
        let rows = turned_rows 0 es in
        λ t. record { ids = ids'; widths = widths t; rows = rows t; room = room }

-- ---- the shape
module _ (ids : List Id) (es : List Entity) (capacity : ℕ) (cs : List ColumnState) (room : ℕ) (shape : HasShape ids es capacity cs room) where
  pub shape_bare : (i : Id) → has_item id_cmp ids i ≡ false → HasShape (with_item id_cmp ids i) es capacity cs room
  shape_bare i lacks = record { kinds = bare_kinds ids cs shape.kinds i lacks; even = shape.even; roomy = shape.roomy; rows_room = shape.rows_room }

  pub shape_more : (c : ColumnState) → has_item id_cmp ids c.id ≡ false → 1 ≤ c.width → c.values ≡ replicate (length es) zeros → room ≤ c.room
      → HasShape (with_item id_cmp ids c.id) es capacity (with_column cs c) room
  shape_more c lacks some blank roomy = record {
    kinds = more_kinds ids cs shape.kinds c lacks some;
    even = all_with (λ x. length x.values ≡ length es) cs c shape.even (ap length blank ∙ length-replicate (length es) zeros);
    roomy = all_with (λ x. room ≤ x.room) cs c shape.roomy roomy;
    rows_room = shape.rows_room;
  }

  pub shape_fewer : (i : Id) → HasShape (without_item id_cmp ids i) es capacity (without_column cs i) room
  shape_fewer i = record {
    kinds = fewer_kinds ids cs shape.kinds i;
    even = All-filter (λ c. not (id_eq c.id i)) (λ x. length x.values ≡ length es) cs shape.even;
    roomy = All-filter (λ c. not (id_eq c.id i)) (λ x. room ≤ x.room) cs shape.roomy;
    rows_room = shape.rows_room;
  }
