-- Tables keep what values may need, whatever is done to them.
use Rattle.eco_archetypes.proofs.Common.{◌≡◌, ◌≢◌, ◌⊎◌, ◌++◌, ◌≤◌, ◌<◌, ◌==◌, ◌&&◌, ℕ, zero, suc, ◌+◌}
use Rattle.eco_archetypes.proofs.Common.{ℤ, pos, min, Bool, true, false, cond, IsTrue, List, [], ◌∷◌, length, take, drop, get_or, Option}
use Rattle.eco_archetypes.proofs.Common.{None, Some, OnSome, IfNone, unwrap_or, refl, sym, ap, ◌∙◌, subst, arith, inl, inr, eqb-true, cases_eq}
use Rattle.eco_archetypes.proofs.Common.{take_more, find, All, list_all, int_eq, Id, id_cmp, id_eq, first, second}
use Rattle.eco_archetypes.proofs.Common.{id_eq_is, TableState, paired, FitsId, width_in, empty_table, slot_of, table_in, no_table, SetsSlot, Moves}
use Rattle.eco_archetypes.proofs.Common.{MovesAll, need, SameSlots, AreAgreed, MeetsNeeds, KeepsWidths, IsWidth, AreWidths, FitsIn}
use Rattle.eco_ids.proofs.Zeros.{few_fields}
use Rattle.eco_ids.specs.declared.value.Value.{Value}
use Rattle.eco_ids.specs.declared.value.TheConstants.{FIELD_COUNT}
use Rattle.eco_ids.specs.Data.{is_zero_past}
use Rattle.eco_tables.specs.Column.{Fits}
use Rattle.eco_entities.specs.Registration.{Registration}
use Rattle.eco_ids.specs.Indices.{Indexed}

-- ---- tables that keep their widths

abbrev pub kinds : Option TableState → List (Id × ℕ)
kinds o = paired (unwrap_or o no_table).ids (unwrap_or o no_table).widths

-- each table has the widths that it had, or is gone
pub record AreKept (s s' : List (Option TableState)) : Type 0 where
  pub each : (n : ℕ) → (kinds (slot_of s' n) ≡ kinds (slot_of s n)) ⊎ (kinds (slot_of s' n) ≡ [])

module _ (s s' : List (Option TableState)) where
  kept_in : AreKept s s' → (n : ℕ) (i : Id) (k : ℕ) → width_in (table_in s' n) i ≡ Some k → width_in (table_in s n) i ≡ Some k
  kept_in kept n i k e = elim (kept.each n) [
    | inl same ↦ ap (find id_cmp i) (sym same) ∙ e
    | inr gone ↦ absurd (let none : ◌≡◌ {A = Option ℕ} None (Some k) = ap (find id_cmp i) (sym gone) ∙ e in cc)
  ]

  pub kept_agreed : AreKept s s' → AreAgreed s → AreAgreed s'
  kept_agreed kept agreed n m i k l a b = agreed n m i k l (kept_in kept n i k a) (kept_in kept m i l b)

  pub kept_widths : AreKept s s' → KeepsWidths s s'
  kept_widths kept need covers = record { each = λ n i k e. covers.each n i k (kept_in kept n i k e) }

  -- one table changes, or is dropped
  pub sets_kept : (n : ℕ) (o : Option TableState) → SetsSlot s s' n o → (kinds o ≡ kinds (slot_of s n)) ⊎ (kinds o ≡ []) → AreKept s s'
  sets_kept n o sets own = record {
    each = λ m. elim (cases_eq m n) [
      | inl here ↦ subst (λ k. (kinds (slot_of s' k) ≡ kinds (slot_of s k)) ⊎ (kinds (slot_of s' k) ≡ [])) (sym here)
          (subst (λ x. (kinds x ≡ kinds (slot_of s n)) ⊎ (kinds x ≡ [])) (sym sets.changed) own)
      | inr other ↦ inl (ap kinds (sets.others m other))
    ];
  }

  -- two tables change, and keep their ids and how wide these are
  joined_kept : (from to : ℕ) → kinds (slot_of s' from) ≡ kinds (slot_of s from) → kinds (slot_of s' to) ≡ kinds (slot_of s to)
      → ((n : ℕ) → n ≢ from → n ≢ to → slot_of s' n ≡ slot_of s n) → AreKept s s'
  joined_kept from to source target others = record {
    each = λ m. elim (cases_eq m from) [
      | inl here ↦ inl (ap (λ k. kinds (slot_of s' k)) here ∙ source ∙ sym (ap (λ k. kinds (slot_of s k)) here))
      | inr not_from ↦ elim (cases_eq m to) [
        | inl here ↦ inl (ap (λ k. kinds (slot_of s' k)) here ∙ target ∙ sym (ap (λ k. kinds (slot_of s k)) here))
        | inr not_to ↦ inl (ap kinds (others m not_from not_to))
      ]
    ];
  }

  -- a row, or all rows, go to another table
  pub moves_kept : (from row to : ℕ) → Moves s s' from row to → AreKept s s'
  moves_kept from row to moves = joined_kept from to (ap kinds moves.source) (ap kinds moves.target) moves.others

  pub moves_all_kept : (from to : ℕ) → MovesAll s s' from to → AreKept s s'
  moves_all_kept from to moves = joined_kept from to (ap kinds moves.source) (ap kinds moves.target) moves.others

  pub same_kept : SameSlots s s' → AreKept s s'
  same_kept same = record { each = λ n. inl (ap kinds (same n)) }

-- a table was dropped, if it had no rows
pub dropped_widths : (s s' : List (Option TableState)) (n : ℕ) (o : Option (List Id)) → OnSome o (SetsSlot s s' n None) → IfNone o (SameSlots s s')
    → KeepsWidths s s'
dropped_widths s s' n None dropped kept = kept_widths s s' (same_kept s s' kept)
dropped_widths s s' n (Some ids) dropped kept = kept_widths s s' (sets_kept s s' n None dropped (inr refl))

-- ---- a new table

pub widths_lengths : (need : Id → ℕ) (s : List (Option TableState)) (ids : List Id) (ws : List ℕ) → AreWidths need s ids ws → length ids ≡ length ws
widths_lengths need s [] [] ok = refl
widths_lengths need s [] (w ∷ ws) ok = absurd ok
widths_lengths need s (i ∷ is) [] ok = absurd ok
widths_lengths need s (i ∷ is) (w ∷ ws) ok = ap suc (widths_lengths need s is ws ok.1)

pub widths_few : (need : Id → ℕ) (s : List (Option TableState)) (ids : List Id) (ws : List ℕ) → AreWidths need s ids ws
    → All (λ w. w ≤ FIELD_COUNT) ws
widths_few need s [] [] ok k d within = absurd (omega arith)
widths_few need s [] (w ∷ ws) ok k d within = absurd ok
widths_few need s (i ∷ is) [] ok k d within = absurd ok
widths_few need s (i ∷ is) (w ∷ ws) ok zero d within = ok.0.few
widths_few need s (i ∷ is) (w ∷ ws) ok (suc k) d within = widths_few need s is ws ok.1 k d (omega arith)

-- one more
widths_more : (need : Id → ℕ) (s : List (Option TableState)) (ids : List Id) (ws : List ℕ) (i : Id) (w : ℕ) → AreWidths need s ids ws
    → IsWidth need s i w
    → AreWidths need s (ids ++ i ∷ []) (ws ++ w ∷ [])
widths_more need s [] [] i w ok is = (is, tt)
widths_more need s [] (v ∷ ws) i w ok is = absurd ok
widths_more need s (j ∷ js) [] i w ok is = absurd ok
widths_more need s (j ∷ js) (v ∷ ws) i w ok is = (ok.0, widths_more need s js ws i w ok.1 is)

-- those of the ids so far, and the next one's
pub widths_next : (need : Id → ℕ) (s : List (Option TableState)) (ids : List Id) (ws : List ℕ) (k : ℕ) (d : Id) (w : ℕ) → k < length ids
    → AreWidths need s (take k ids) ws → IsWidth need s (get_or ids k d) w → AreWidths need s (take (k + 1) ids) (ws ++ w ∷ [])
widths_next need s ids ws k d w within ok is =
    subst (λ xs. AreWidths need s xs (ws ++ w ∷ [])) (sym (take_more ids k d within)) (widths_more need s (take k ids) ws (get_or ids k d) w ok is)

width_found : (need : Id → ℕ) (s : List (Option TableState)) (ids : List Id) (ws : List ℕ) (i : Id) (k : ℕ) → AreWidths need s ids ws
    → find id_cmp i (paired ids ws) ≡ Some k → IsWidth need s i k
width_found need s [] ws i k ok e = absurd (cc)
width_found need s (j ∷ js) [] i k ok e = absurd ok
width_found need s (j ∷ js) (w ∷ ws) i k ok e = by (id_eq i j) refl (width_found need s js ws i k ok.1) e
  where
    by : (b : Bool) → id_eq i j ≡ b → (find id_cmp i (paired js ws) ≡ Some k → IsWidth need s i k)
        → cond b (Some w) (find id_cmp i (paired js ws)) ≡ Some k → IsWidth need s i k
    by true same rest h =
        let is : w ≡ k = cc in
        subst (λ x. IsWidth need s i x) is (subst (λ x. IsWidth need s x w) (sym (id_eq_is i j same)) ok.0)
    by false same rest h = rest h

module _ (need : Id → ℕ) (s s' : List (Option TableState)) (n : ℕ) (ids : List Id) (ws : List ℕ) (sets : SetsSlot s s' n (Some (empty_table ids ws)))
    (ok : AreWidths need s ids ws) where
  at_new : (m : ℕ) → m ≡ n → kinds (slot_of s' m) ≡ paired ids ws
  at_new m here = ap (λ k. kinds (slot_of s' k)) here ∙ ap kinds sets.changed

  -- who has the id had it, or is the new table
  made_in : (m : ℕ) (i : Id) (k : ℕ) → width_in (table_in s' m) i ≡ Some k
      → (width_in (table_in s m) i ≡ Some k) ⊎ ((m ≡ n) × IsWidth need s i k)
  made_in m i k e = elim (cases_eq m n) [
    | inl here ↦ inr (here, width_found need s ids ws i k ok (ap (find id_cmp i) (sym (at_new m here)) ∙ e))
    | inr other ↦ inl (ap (λ o. find id_cmp i (kinds o)) (sym (sets.others m other)) ∙ e)
  ]

  pub made_agreed : AreAgreed s → AreAgreed s'
  made_agreed agreed m l i j k a b = elim (made_in m i j a) [
    | inl old ↦ elim (made_in l i k b) [
      | inl other ↦ agreed m l i j k old other
      | inr new ↦ new.1.agrees m j old
    ]
    | inr new ↦ elim (made_in l i k b) [
      | inl other ↦ sym (new.1.agrees l k other)
      | inr twice ↦
          let both : ◌≡◌ {A = Option ℕ} (Some j) (Some k) =
          sym a ∙ ap (find id_cmp i) (at_new m new.0) ∙ sym (ap (find id_cmp i) (at_new l twice.0)) ∙ b in
          cc
    ]
  ]

  pub made_covers : MeetsNeeds need s → MeetsNeeds need s'
  made_covers covers = record {
    each = λ m i k e. elim (made_in m i k e) [
      | inl old ↦ covers.each m i k old
      | inr new ↦ new.1.covers covers
    ];
  }

-- ---- values

all_later : (t : ℤ → Bool) (xs : List ℤ) (m k : ℕ) → min m (length xs) ≤ k → IsTrue (list_all t (drop m xs)) → IsTrue (list_all t (drop k xs))
all_later t [] zero zero few all = refl
all_later t [] (suc m) zero few all = refl
all_later t [] zero (suc k) few all = refl
all_later t [] (suc m) (suc k) few all = refl
all_later t (x ∷ xs) zero zero few all = all
all_later t (x ∷ xs) zero (suc k) few all = all_later t xs zero k (omega arith) (from_start (second _ _ all))
  where
    from_start : IsTrue (list_all t xs) → IsTrue (list_all t (drop zero xs))
    from_start h = h
all_later t (x ∷ xs) (suc m) zero few all = absurd (omega (arith, few))
all_later t (x ∷ xs) (suc m) (suc k) few all = all_later t xs m k (omega (arith, few)) all

-- a value without fields past these has none past more
pub zero_later : (m k : ℕ) (v : Value) → IsTrue ((length v.0 == FIELD_COUNT) && is_zero_past m v) → min m FIELD_COUNT ≤ k
    → IsTrue ((length v.0 == FIELD_COUNT) && is_zero_past k v)
zero_later m k v h few =
    let long : (length v.0 == FIELD_COUNT) ≡ true = first _ _ h in
    let full : length v.0 ≡ FIELD_COUNT = eqb-true (length v.0) FIELD_COUNT long in
    rw long (all_later (λ x. int_eq x (pos 0)) v.0 m k (omega (arith, full, few)) (second (length v.0 == FIELD_COUNT) _ h))

fits_past : (k : ℕ) (v : Value) → IsTrue ((length v.0 == FIELD_COUNT) && is_zero_past k v) → Fits k v
fits_past k v h =
    let full : length v.0 ≡ FIELD_COUNT = eqb-true (length v.0) FIELD_COUNT (first _ _ h) in
    ap of_fields (sym (few_fields k v full (second (length v.0 == FIELD_COUNT) _ h)))
  where
    of_fields : List ℤ → Value
    of_fields xs = record { 0 = xs }

-- what all tables keep fits each
pub fits_each : (s : List (Option TableState)) (n : ℕ) (i : Id) (v : Value) → FitsIn s i v → FitsId (table_in s n) i v
fits_each s n i v fit k at =
    let wide = fit.1.each n i k at in
    fits_past k v (zero_later (fit.0 i) k v fit.2 (omega (arith, wide)))

-- ---- needs that fall

pub lowered : (w w' : Indexed Registration) (s : List (Option TableState)) → ((i : Id) → need w' i ≤ need w i) → MeetsNeeds (need w) s
    → MeetsNeeds (need w') s
lowered w w' s less covers = record {
  each = λ n i k e.
      let was = covers.each n i k e in
      let now = less i in
      omega (arith, was, now);
}
