-- The tables of a store are those of the world that it makes.
use Rattle.eco_world.proofs.Common.{◌≡◌, ◌≢◌, ℕ, zero, suc, ◌<◌, Bool, true, false, cond, not, nat_eq, nat_lt, List, [], ◌∷◌, map}
use Rattle.eco_world.proofs.Common.{length, slice_get, Option, Some, None, option_map, unwrap_or, is_some, is_eq, refl, sym, ap, ◌∙◌, subst, arith}
use Rattle.eco_world.proofs.Common.{IsTrue, true≢false, inl, inr, Contains, All, AllByRecursion, list_any, false_from_ne_true, nat_tests, Decides-eqb}
use Rattle.eco_world.proofs.Common.{get_or_from_slice_get, none-some, same_Some, slice_get-get_or, slice_get_within, WorldState, entities, is_alive, living}
use Rattle.eco_world.proofs.Common.{record_of, Entity, Id, ListedTable, is_distinct, entity_cmp, has_item, TableState, TableRow, HasIds, entities_of, no_row}
use Rattle.eco_world.proofs.Common.{no_table, slot_of, table_in, IsShown, Stands, both, first, second, or_left, or_parts, or_right, some_of, entity_eq_is}
use Rattle.eco_world.proofs.Common.{Record, type_of_record, passes_some, is_passed, HasTable, shown_at, shown_of, type_of}
use Rattle.std.specs.List.{IsDistinct}
use Rattle.std.proofs.lemmas.Map.Views.{Contains-from_any}
use Rattle.eco_archetypes.specs.Archetypes.{is_found_by, type_at, row_at}
use Rattle.eco_world.proofs.Layouts.{Covers, IsTable, all_of, element_cases, here, mapped_from, mapped_there, no_element, same_ids, same_type, there}

itself : (n : ℕ) → nat_eq n n ≡ true
itself n = (Decides-eqb n n).1 refl

pub any_of : (ms : List ℕ) (n : ℕ) → Contains ms n → list_any (nat_eq n) ms ≡ true
any_of [] n p = absurd (no_element n p)
any_of (m ∷ ms) n p = elim (element_cases m n ms p) as (λ _. list_any (nat_eq n) (m ∷ ms) ≡ true) [
  | inl e ↦ or_left (nat_eq n m) (list_any (nat_eq n) ms) (ap (nat_eq n) e ∙ itself n)
  | inr c ↦ or_right (nat_eq n m) (list_any (nat_eq n) ms) (any_of ms n c)
]

-- ---- rows of a table

row_of : (rows : List TableRow) (e : Entity) → Contains (entities_of rows) e
    → (k : ℕ) × (r : TableRow) × (slice_get rows k ≡ Some r) × (r.entity ≡ e)
row_of rows e p =
    let row = mapped_from (λ (r : TableRow). r.entity) rows e p in
    let at = row.1 in
    (at.0, row.0, slice_get-get_or rows at.0 row.0 at.1 ∙ ap Some at.2, row.2)

entity_in_row : (rows : List TableRow) (k : ℕ) (r : TableRow) → slice_get rows k ≡ Some r → Contains (entities_of rows) r.entity
entity_in_row rows k r at =
    mapped_there (λ (x : TableRow). x.entity) rows r (k, slice_get_within rows k r at, get_or_from_slice_get rows k r r at)

has_row : (rows : List TableRow) (e : Entity) → has_item entity_cmp (entities_of rows) e ≡ true → Contains (entities_of rows) e
has_row [] e h = absurd (true≢false (sym h))
has_row (r ∷ rows) e h =
    elim (or_parts (is_eq (entity_cmp r.entity e)) (has_item entity_cmp (entities_of rows) e) h) as (λ _. Contains (entities_of (r ∷ rows)) e) [
      | inl k ↦ subst (Contains (entities_of (r ∷ rows))) (entity_eq_is r.entity e k) (here r.entity (entities_of rows))
      | inr k ↦ there r.entity e (entities_of rows) (has_row rows e k)
    ]

-- rows of different entities list each once
distinct_rows : (rows : List TableRow)
    → ((i j : ℕ) (r x : TableRow) → slice_get rows i ≡ Some r → slice_get rows j ≡ Some x → r.entity ≡ x.entity → i ≡ j) →
    is_distinct (entities_of rows) ≡ true
distinct_rows [] once = refl
distinct_rows (r ∷ rows) once = both _ _ (by (has_item entity_cmp (entities_of rows) r.entity) refl)
    (distinct_rows rows (λ i j x y p q same. omega (arith, once (suc i) (suc j) x y p q same)))
  where
    by : (b : Bool) → has_item entity_cmp (entities_of rows) r.entity ≡ b → not b ≡ true
    by true h =
        let again = row_of rows r.entity (has_row rows r.entity h) in
        let same : 0 ≡ suc again.0 = once 0 (suc again.0) r again.1 refl again.2 (sym again.3) in
        absurd (omega arith)
    by false h = refl

some_row : (rows : List TableRow) → 0 < length rows → entities_of rows ≢ []
some_row [] within e = omega arith
some_row (r ∷ rows) within e = none_left e
  where
    none_left : ◌≡◌ {A = List Entity} (r.entity ∷ entities_of rows) [] → ⊥
    none_left h = cc

first_row : (rows : List TableRow) → 0 < length rows → (r : TableRow) × (slice_get rows 0 ≡ Some r)
first_row [] some = absurd (omega arith)
first_row (r ∷ rows) some = (r, refl)

has_rows : (rows : List TableRow) (k : ℕ) (r : TableRow) → slice_get rows k ≡ Some r → 0 < length rows
has_rows rows k r at = let within : k < length rows = slice_get_within rows k r at in omega arith

table_there : (o : Option TableState) → 0 < length (unwrap_or o no_table).rows → o ≡ Some (unwrap_or o no_table)
table_there None within = absurd (omega arith)
table_there (Some t) within = refl

-- ---- all tables that have rows

-- what is made of each table that has rows, among these in their slots
abbrev pub made_of : {X : Type 0} → (TableState → X) → List (Option TableState) → List X
made_of f [] = []
made_of f (None ∷ slots) = made_of f slots
made_of f (Some t ∷ slots) = cond (nat_lt 0 (length t.rows)) (f t ∷ made_of f slots) (made_of f slots)

abbrev pub with_rows : List (Option TableState) → List ListedTable
with_rows = made_of shown_of

-- where none is left, there is no slot
pub none_left : (slots : List (Option TableState)) → length slots ≡ 0 → slots ≡ []
none_left [] e = refl
none_left (o ∷ slots) e = absurd (omega (arith, e))

module _ {X : Type 0} (f : TableState → X) where
  -- it is made of the table in a slot of these
  abbrev Found : List (Option TableState) → X → Type 0
  Found slots x = (n : ℕ) × (table : TableState) × (slot_of slots n ≡ Some table) × (0 < length table.rows) × (f table ≡ x)

  pub found_made : (slots : List (Option TableState)) (x : X) → Contains (made_of f slots) x → Found slots x
  found_made [] x p = absurd (no_element x p)
  found_made (None ∷ slots) x p = let later = found_made slots x p in (suc later.0, later.1, later.2, later.3, later.4)
  found_made (Some table ∷ slots) x p = by (nat_lt 0 (length table.rows)) refl (found_made slots x) p
    where
      after : Found slots x → Found (Some table ∷ slots) x
      after later = (suc later.0, later.1, later.2, later.3, later.4)

      by : (b : Bool) → nat_lt 0 (length table.rows) ≡ b → (Contains (made_of f slots) x → Found slots x)
          → Contains (cond b (f table ∷ made_of f slots) (made_of f slots)) x → Found (Some table ∷ slots) x
      by true some rest q = elim (element_cases (f table) x (made_of f slots) q) as (λ _. Found (Some table ∷ slots) x) [
        | inl e ↦ let positive : 0 < length table.rows = grind (arith, nat_tests) in (0, table, refl, positive, e)
        | inr c ↦ after (rest c)
      ]
      by false none rest q = after (rest q)

with_rows_from : (slots : List (Option TableState)) (n : ℕ) (table : TableState) → slot_of slots n ≡ Some table → 0 < length table.rows →
    Contains (with_rows slots) (shown_of table)
with_rows_from [] n table at some = absurd (none-some table at)
with_rows_from (None ∷ slots) zero table at some = absurd (none-some table at)
with_rows_from (None ∷ slots) (suc n) table at some = with_rows_from slots n table at some
with_rows_from (Some u ∷ slots) zero table at some =
    let test : nat_lt 0 (length u.rows) ≡ true = ap (λ (x : TableState). nat_lt 0 (length x.rows)) (same_Some u table at) ∙ positive in
    subst (λ b. Contains (cond b (shown_of u ∷ with_rows slots) (with_rows slots)) (shown_of table)) (sym test)
    (subst (λ (x : TableState). Contains (shown_of u ∷ with_rows slots) (shown_of x)) (same_Some u table at)
    (here (shown_of u) (with_rows slots)))
  where
    positive : nat_lt 0 (length table.rows) ≡ true
    positive = grind (arith, nat_tests)
with_rows_from (Some u ∷ slots) (suc n) table at some =
    elim (nat_lt 0 (length u.rows)) as (λ b. Contains (cond b (shown_of u ∷ with_rows slots) (with_rows slots))
    (shown_of table)) [
      | true ↦ there (shown_of u) (shown_of table) (with_rows slots) (with_rows_from slots n table at some)
      | false ↦ with_rows_from slots n table at some
    ]

-- no two slots have tables of one type
abbrev pub HasKinds : List (Option TableState) → Type 0
HasKinds slots = (n m : ℕ) (ids : List Id) → type_at slots n ≡ Some ids → type_at slots m ≡ Some ids → n ≡ m

no_other : (x : ListedTable) (ts : List ListedTable) → ((t : ListedTable) → Contains ts t → x.ids ≡ t.ids → ⊥)
    → AllByRecursion (λ t. same_type x t ≡ false) ts
no_other x [] apart = tt
no_other x (t ∷ ts) apart =
    (false_from_ne_true (same_type x t) (λ e. apart t (here t ts) (same_ids x.ids t.ids e)), no_other x ts (λ u c. apart u (there t u ts c)))

pub kinds_differ : (slots : List (Option TableState)) → HasKinds slots → IsDistinct same_type (with_rows slots)
unfolding IsDistinct
kinds_differ [] kinds = tt
kinds_differ (None ∷ slots) kinds = kinds_differ slots (λ n m ids p q. omega (arith, kinds (suc n) (suc m) ids p q))
kinds_differ (Some table ∷ slots) kinds = by (nat_lt 0 (length table.rows))
    (kinds_differ slots (λ n m ids p q. omega (arith, kinds (suc n) (suc m) ids p q)))
  where
    by : (b : Bool) → IsDistinct same_type (with_rows slots) →
        IsDistinct same_type (cond b (shown_of table ∷ with_rows slots) (with_rows slots))
    by true rest = (no_other (shown_of table) (with_rows slots) apart, rest)
      where
        apart : (t : ListedTable) → Contains (with_rows slots) t → table.ids ≡ t.ids → ⊥
        apart t c same =
            let later = found_made shown_of slots t c in
            let again : 0 ≡ suc later.0 = kinds 0 (suc later.0) table.ids refl
            (ap (option_map (λ (x : TableState). x.ids)) later.2 ∙ ap Some (ap (λ (x : ListedTable). x.ids) later.4 ∙ sym same)) in
            omega arith
    by false rest = rest

-- ---- the tables of the world

stands_typed : (o : Option Record) (t : TableState) (row : ℕ) → Stands o t row → All (HasIds t.ids) t.rows →
    (is_some o ≡ true) × (t.ids ≡ map (λ p. p.0) (unwrap_or (option_map (λ (k : Record). k.held) o) []))
stands_typed None t row h typed = absurd h
stands_typed (Some k) t row h typed = (refl, sym (ap (map (λ p. p.0)) (h.held no_row) ∙ typed row no_row h.within))

module _ (w : WorldState) (slots : List (Option TableState)) (shown : IsShown (entities w) slots) (kinds : HasKinds slots) where
  row_lives : (n row : ℕ) (r : TableRow) → row_at slots n row ≡ Some r → IsTrue (is_alive w r.entity) × ((table_in slots n).ids ≡ type_of w r.entity)
  row_lives n row r at =
      let stands = stands_typed (record_of w r.entity) (table_in slots n) row (shown.rows n row r at) (shown.own n) in
      stands

  type_there : (n : ℕ) → 0 < length (table_in slots n).rows → type_at slots n ≡ Some (table_in slots n).ids
  type_there n some = ap (option_map (λ (t : TableState). t.ids)) (table_there (slot_of slots n) some)

  -- where a type with rows passes, some living entity's does
  some_passes : (passes : List Id → Bool) (n : ℕ) → 0 < length (table_in slots n).rows → passes (table_in slots n).ids ≡ true →
      list_any (λ (x : Entity × Record). passes (type_of_record x.1)) (living w) ≡ true
  some_passes passes n some fit =
      let row = first_row (table_in slots n).rows some in
      let own = row_lives n 0 row.0 row.1 in
      let known = some_of (record_of w row.0.entity) own.0 in
      passes_some (λ (r : Record). passes (type_of_record r)) (entities w) row.0.entity (
        known.0,
        known.1,
        ap (λ o. passes (map (λ p. p.0) (unwrap_or (option_map (λ (k : Record). k.held) o) []))) (sym known.1)
            ∙ ap passes (sym own.1) ∙ fit,
      )

  -- the row of a living entity
  row_there : (e : Entity) → IsTrue (is_alive w e) → (n : ℕ) × (row : ℕ) × (r : TableRow) × (row_at slots n row ≡ Some r) × (r.entity ≡ e)
  row_there e alive = let own = some_of (record_of w e) alive in shown.living e own.0 own.1

  pub table_is : (n : ℕ) → 0 < length (table_in slots n).rows → IsTable w (shown_of (table_in slots n))
  table_is n some = record {
    non_empty = some_row (table_in slots n).rows some;
    once = distinct_rows (table_in slots n).rows (λ i j r x p q same. (shown.once n i n j r x p q same).1);
    exact = λ e. (to e, from e);
  }
    where
      to : (e : Entity) → Contains (entities_of (table_in slots n).rows) e → IsTrue (is_alive w e) × ((table_in slots n).ids ≡ type_of w e)
      to e p =
          let row = row_of (table_in slots n).rows e p in
          subst (λ x. IsTrue (is_alive w x) × ((table_in slots n).ids ≡ type_of w x)) row.3 (row_lives n row.0 row.1 row.2)

      from : (e : Entity) → IsTrue (is_alive w e) × ((table_in slots n).ids ≡ type_of w e) → Contains (entities_of (table_in slots n).rows) e
      from e h =
          let row = row_there e h.0 in
          let own = row_lives row.0 row.1 row.2 row.3 in
          let kind : (table_in slots row.0).ids ≡ (table_in slots n).ids = own.1 ∙ ap (type_of w) row.4 ∙ sym h.1 in
          let same : n ≡ row.0 =
          kinds n row.0 (table_in slots n).ids (type_there n some)
          (type_there row.0 (has_rows (table_in slots row.0).rows row.1 row.2 row.3) ∙ ap Some kind) in
          subst (λ m. Contains (entities_of (table_in slots m).rows) e) (sym same)
          (subst (Contains (entities_of (table_in slots row.0).rows)) row.4 (entity_in_row (table_in slots row.0).rows row.1 row.2 row.3))

  -- tables of some slots, among them each whose type passes
  pub covers_of : (passes : List Id → Bool) (tables : List ListedTable)
      → ((t : ListedTable) → Contains tables t → (n : ℕ) × (0 < length (table_in slots n).rows) × (shown_of (table_in slots n) ≡ t))
      → ((n : ℕ) → 0 < length (table_in slots n).rows → passes (table_in slots n).ids ≡ true → Contains tables (shown_of (table_in slots n)))
      → Covers w passes tables
  covers_of passes tables from all = record {
    each = λ t p. let slot = from t p in subst (IsTable w) slot.2 (table_is slot.0 slot.1);
    all = λ e alive passed.
        let row = row_there e alive in
        let own = row_lives row.0 row.1 row.2 row.3 in
        let kind : (table_in slots row.0).ids ≡ type_of w e = own.1 ∙ ap (type_of w) row.4 in
        (shown_of (table_in slots row.0), all row.0 (has_rows (table_in slots row.0).rows row.1 row.2 row.3) (ap passes kind ∙ passed), kind);
  }

  pub all_covered : Covers w (λ _. true) (with_rows slots)
  all_covered = covers_of (λ _. true) (with_rows slots)
      (λ t p.
      let found = found_made shown_of slots t p in
      let is : table_in slots found.0 ≡ found.1 = ap (λ o. unwrap_or o no_table) found.2 in
      (found.0, subst (λ (x : TableState). 0 < length x.rows) (sym is) found.3, ap shown_of is ∙ found.4))
      (λ n some _. with_rows_from slots n (table_in slots n) (table_there (slot_of slots n) some) some)

  -- ---- those that a test finds

  shown_to : (ns : List ℕ) (t : ListedTable) → Contains (map (shown_at slots) ns) t
      → (n : ℕ) × (list_any (nat_eq n) ns ≡ true) × (shown_at slots n ≡ t)
  shown_to ns t p = let one = mapped_from (shown_at slots) ns t p in (one.0, any_of ns one.0 one.1, one.2)

  shown_from : (ns : List ℕ) (n : ℕ) → list_any (nat_eq n) ns ≡ true → Contains (map (shown_at slots) ns) (shown_at slots n)
  shown_from ns n h = mapped_there (shown_at slots) ns n (Contains-from_any {eq = nat_eq} (λ x y. (Decides-eqb x y).0) n ns h)

  -- tables of different slots have different types
  shown_differ : (ns : List ℕ) → ((n : ℕ) → list_any (nat_eq n) ns ≡ true → 0 < length (table_in slots n).rows) → IsDistinct nat_eq ns →
      IsDistinct same_type (map (shown_at slots) ns)
  unfolding IsDistinct
  shown_differ [] some distinct = tt
  shown_differ (n ∷ ns) some distinct = (
    apart ns distinct.0 (λ m h. some m (or_right (nat_eq m n) (list_any (nat_eq m) ns) h)),
    shown_differ ns (λ m h. some m (or_right (nat_eq m n) (list_any (nat_eq m) ns) h)) distinct.1,
  )
    where
      own : 0 < length (table_in slots n).rows
      own = some n (or_left (nat_eq n n) (list_any (nat_eq n) ns) (itself n))

      other : (m : ℕ) → nat_eq n m ≡ false → 0 < length (table_in slots m).rows → same_type (shown_at slots n) (shown_at slots m) ≡ false
      other m differ theirs = false_from_ne_true _ (λ e.
          let kind : (table_in slots m).ids ≡ (table_in slots n).ids = sym (same_ids (table_in slots n).ids (table_in slots m).ids e) in
          let same : n ≡ m = kinds n m (table_in slots n).ids (type_there n own) (type_there m theirs ∙ ap Some kind) in
          true≢false (sym (itself n) ∙ ap (nat_eq n) same ∙ differ))

      apart : (ms : List ℕ) → AllByRecursion (λ m. nat_eq n m ≡ false) ms
          → ((m : ℕ) → list_any (nat_eq m) ms ≡ true → 0 < length (table_in slots m).rows) →
          AllByRecursion (λ t. same_type (shown_at slots n) t ≡ false) (map (shown_at slots) ms)
      apart [] differ theirs = tt
      apart (m ∷ ms) differ theirs = (
        other m differ.0 (theirs m (or_left (nat_eq m m) (list_any (nat_eq m) ms) (itself m))),
        apart ms differ.1 (λ k h. theirs k (or_right (nat_eq k m) (list_any (nat_eq k) ms) h)),
      )

  module _ (passes : List Id → Bool) (ns : List ℕ) (found : (n : ℕ) → list_any (nat_eq n) ns ≡ is_found_by passes (slot_of slots n)) where
    found_rows : (n : ℕ) → list_any (nat_eq n) ns ≡ true → (0 < length (table_in slots n).rows)
        × (passes (table_in slots n).ids ≡ true)
    found_rows n h = found_in (slot_of slots n) (sym (found n) ∙ h)
      where
        found_in : (o : Option TableState) → is_found_by passes o ≡ true →
            (0 < length (unwrap_or o no_table).rows) × (passes (unwrap_or o no_table).ids ≡ true)
        found_in None h = absurd (true≢false (sym h))
        found_in (Some t) h = (positive t (first _ _ h), second _ _ h)
          where
            positive : (t : TableState) → nat_lt 0 (length t.rows) ≡ true → 0 < length t.rows
            positive t h = grind (arith, nat_tests)

    pub found_differ : IsDistinct nat_eq ns → IsDistinct same_type (map (shown_at slots) ns)
    found_differ distinct = shown_differ ns (λ n h. (found_rows n h).0) distinct

    -- each slot that was found has a table
    pub found_there : All (HasTable slots) ns
    found_there = all_of (HasTable slots) ns (λ n p. ap is_some (table_there (slot_of slots n) (found_rows n (any_of ns n p)).0))

    pub found_match : (t : ListedTable) → Contains (map (shown_at slots) ns) t → passes t.ids ≡ true
    found_match t p =
        let slot = shown_to ns t p in
        subst (λ (x : ListedTable). passes x.ids ≡ true) slot.2 (found_rows slot.0 slot.1).1

    -- where a table was found, somebody has an id that matches
    pub found_some : 0 < length ns → is_passed w passes ≡ true
    found_some some = by ns refl some
      where
        by : (ms : List ℕ) → ms ≡ ns → 0 < length ms → is_passed w passes ≡ true
        by [] same some = absurd (omega arith)
        by (m ∷ ms) same some =
            let rows = found_rows m (ap (list_any (nat_eq m)) (sym same) ∙ or_left (nat_eq m m) (list_any (nat_eq m) ms) (itself m)) in
            some_passes passes m rows.0 rows.1

    pub found_covered : Covers w passes (map (shown_at slots) ns)
    found_covered = covers_of passes (map (shown_at slots) ns)
        (λ t p. let slot = shown_to ns t p in (slot.0, (found_rows slot.0 slot.1).0, slot.2))
        (λ n some passed. shown_from ns n (found n ∙ is n (slot_of slots n) some passed))
      where
        is : (n : ℕ) (o : Option TableState) → 0 < length (unwrap_or o no_table).rows → passes (unwrap_or o no_table).ids ≡ true →
            is_found_by passes o ≡ true
        is n None some passed = absurd (omega arith)
        is n (Some t) some passed = both _ _ positive passed
          where
            positive : nat_lt 0 (length t.rows) ≡ true
            positive = grind (arith, nat_tests)
