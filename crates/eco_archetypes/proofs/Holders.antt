-- Who has ids that pass a test stands in a table whose type does.
use Rattle.eco_archetypes.proofs.PlacesCommon.{◌≡◌, ◌≢◌, ℕ, ◌<◌, Bool, true, false, true≢false, ◌&&◌, ◌||◌, IsTrue, ◌↔◌, nat_eq, nat_lt}
use Rattle.eco_archetypes.proofs.PlacesCommon.{same_tests, List, [], ◌∷◌, map, length, get_or, slice_get, Option, Some, None, option_map, unwrap_or, refl, sym, ap}
use Rattle.eco_archetypes.proofs.PlacesCommon.{◌∙◌, subst, arith, inl, inr, AllByRecursion, Contains, list_any, Decides-eqb, nat_tests, get_or-map, length-map}
use Rattle.eco_archetypes.proofs.PlacesCommon.{Contains-append_cases, Contains-append_left, Contains-append_right, get_or_from_slice_get, none-some, same_Some}
use Rattle.eco_archetypes.proofs.PlacesCommon.{slice_get-get_or, Record, Entity, Id, Indexed, living, record_of, entity_cmp, has_item, is_ascending, TableRow, TableState}
use Rattle.eco_archetypes.proofs.PlacesCommon.{entities_of, no_table, slot_of, table_in, is_found_by, FindsSome, standing_in, row_at, passes, entities_whose, IsShown}
use Rattle.eco_archetypes.proofs.PlacesCommon.{first, second, or_right, slice_get_within}
use Rattle.std.specs.List.{IsDistinct}
use Rattle.eco_ids.proofs.Passing.{PassesOwn, own_from_passed, passed_ascend, passed_from_own, passes_some, some_passes}
use Rattle.eco_archetypes.proofs.Sorting.{Apart, apart_append}
use Rattle.eco_archetypes.proofs.Shows.{stands_type}

pub first_row : (rows : List TableRow) → 0 < length rows → (r : TableRow) × (slice_get rows 0 ≡ Some r)
first_row [] none = absurd (omega arith)
first_row (r ∷ rows) some = (r, refl)

-- the table has rows and a match exactly where it is found
pub is_found_there : (test : List Id → Bool) (o : Option TableState) → 0 < length (unwrap_or o no_table).rows
    → test (unwrap_or o no_table).ids ≡ true →
    is_found_by test o ≡ true
is_found_there test None rows matches = absurd (omega arith)
is_found_there test (Some t) rows matches = let some : nat_lt 0 (length t.rows) ≡ true = grind (arith, nat_tests) in ap (λ b. b && test t.ids) some
    ∙ matches

pub found_matches : (test : List Id → Bool) (o : Option TableState) → is_found_by test o ≡ true → test (unwrap_or o no_table).ids ≡ true
found_matches test None h = absurd (true≢false (sym h))
found_matches test (Some t) h = second (nat_lt 0 (length t.rows)) (test t.ids) h

pub found_rows : (test : List Id → Bool) (o : Option TableState) → is_found_by test o ≡ true → 0 < length (unwrap_or o no_table).rows
found_rows test None h = absurd (true≢false (sym h))
found_rows test (Some t) h = let some = first (nat_lt 0 (length t.rows)) (test t.ids) h in grind (arith, nat_tests)

pub some_kept : (o : Option Record) (ids : List Id) → Some ids ≡ option_map (λ k. map (λ (h : Id × _). h.0) k.held) o →
    (k : Record) × (o ≡ Some k) × (map (λ h. h.0) k.held ≡ ids)
some_kept None ids e = absurd (none-some ids (sym e))
some_kept (Some k) ids e = (k, refl, sym (same_Some _ _ e))

module _ (w : Indexed Record) (s : List (Option TableState)) (test : List Id → Bool) (shown : IsShown w s) where
  -- the entity of a row has the ids of the row's table
  pub row_kept : (n row : ℕ) (r : TableRow) → row_at s n row ≡ Some r → (k : Record) × (record_of w r.entity ≡ Some k)
      × (map (λ h. h.0) k.held ≡ (table_in s n).ids)
  row_kept n row r at = some_kept (record_of w r.entity) (table_in s n).ids
      (stands_type (record_of w r.entity) (table_in s n) row (shown.rows n row r at) (shown.own n))

  -- who stands in a table whose type passes does
  pub found_has : (n row : ℕ) (r : TableRow) → row_at s n row ≡ Some r → test (table_in s n).ids ≡ true → PassesOwn (passes test) w r.entity
  found_has n row r at fit =
      let own = row_kept n row r at in
      (own.0, own.1, ap test own.2 ∙ fit)

  -- the row of an entity, in a table that is found
  abbrev pub StandsFound : Entity → Type 0
  StandsFound e = (n : ℕ) × (row : ℕ) × (r : TableRow) × (row_at s n row ≡ Some r) × (r.entity ≡ e) × (is_found_by test (slot_of s n) ≡ true)

  -- who passes stands in one
  pub has_found : (e : Entity) → PassesOwn (passes test) w e → StandsFound e
  has_found e own =
      let there = shown.living e own.0 own.1 in
      let kept = row_kept there.0 there.1 there.2 there.3 in
      let same : kept.0 ≡ own.0 = same_Some _ _ (sym kept.1 ∙ ap (record_of w) there.4 ∙ own.1) in
      let within = slice_get_within (table_in s there.0).rows there.1 there.2 there.3 in
      let matches = ap test (sym kept.2) ∙ ap (passes test) same ∙ own.2 in
      (there.0, there.1, there.2, there.3, there.4, is_found_there test (slot_of s there.0) (omega (arith, within)) matches)

  -- where a table is found, some living entity passes
  pub some_held : FindsSome test s → list_any (λ (x : Entity × Record). passes test x.1) (living w) ≡ true
  some_held found =
      let rows = found_rows test (slot_of s found.0) found.1 in
      let at = first_row (table_in s found.0).rows rows in
      passes_some (passes test) w at.0.entity (found_has found.0 0 at.0 at.1 (found_matches test (slot_of s found.0) found.1))

  -- some table is found exactly where some living entity has a match
  pub held_is : (b : Bool) → IsTrue b ↔ FindsSome test s → b ≡ list_any (λ (x : Entity × Record). passes test x.1) (living w)
  held_is b finds =
      same_tests b (list_any (λ (x : Entity × Record). passes test x.1) (living w))
      (λ h. some_held (finds.0 h))
      (λ h.
      let some = some_passes (passes test) w h in
      let there = has_found some.0 some.1 in
      finds.1 (there.0, there.5))

  -- where a list of all that is found is not empty, some living entity passes
  pub some_listed : (ns : List ℕ) → ((n : ℕ) → list_any (nat_eq n) ns ≡ is_found_by test (slot_of s n)) → 0 < length ns
      → list_any (λ (x : Entity × Record). passes test x.1) (living w) ≡ true
  some_listed [] listed h = absurd (omega (arith, h))
  some_listed (n ∷ ns) listed h = some_held (n, sym (listed n) ∙ ap (λ b. b || list_any (nat_eq n) ns) ((Decides-eqb n n).1 refl))

  -- ---- all of them

  -- where an entity stands that is listed
  abbrev StandsIn : List ℕ → Entity → Type 0
  StandsIn ns e = (n : ℕ) × (row : ℕ) × (r : TableRow) × (row_at s n row ≡ Some r) × (r.entity ≡ e) × (list_any (nat_eq n) ns ≡ true)

  in_rows : (rows : List TableRow) (e : Entity) → Contains (entities_of rows) e
      → (row : ℕ) × (r : TableRow) × (slice_get rows row ≡ Some r) × (r.entity ≡ e)
  in_rows rows e c =
      let d : TableRow = record { entity = e; held = [] } in
      let within : c.0 < length rows = rw (length-map rows (λ (r : TableRow). r.entity)) at c.1 in
      (c.0, get_or rows c.0 d, slice_get-get_or rows c.0 d within, sym (get_or-map (λ (r : TableRow). r.entity) rows c.0 d e within) ∙ c.2)

  pub standing_row : (ns : List ℕ) (e : Entity) → Contains (standing_in s ns) e → StandsIn ns e
  standing_row [] e c = absurd (omega (arith, c.1))
  standing_row (n ∷ ns) e c = elim (Contains-append_cases (entities_of (table_in s n).rows) (standing_in s ns) e c) as (λ _. StandsIn (n ∷ ns) e) [
    | inl here ↦
        let row = in_rows (table_in s n).rows e here in
        (n, row.0, row.1, row.2, row.3, ap (λ b. b || list_any (nat_eq n) ns) ((Decides-eqb n n).1 refl))
    | inr there ↦
        let row = standing_row ns e there in
        (row.0, row.1, row.2, row.3, row.4, or_right (nat_eq row.0 n) (list_any (nat_eq row.0) ns) row.5)
  ]

  rows_contain : (rows : List TableRow) (row : ℕ) (r : TableRow) → slice_get rows row ≡ Some r → Contains (entities_of rows) r.entity
  rows_contain rows row r at =
      let within = slice_get_within rows row r at in (
        row,
        rw length-map within,
        get_or-map (λ (x : TableRow). x.entity) rows row r r.entity within
            ∙ ap (λ (x : TableRow). x.entity) (get_or_from_slice_get rows row r r at),
      )

  pub row_standing : (ns : List ℕ) (n row : ℕ) (r : TableRow) → list_any (nat_eq n) ns ≡ true → row_at s n row ≡ Some r
      → Contains (standing_in s ns) r.entity
  row_standing [] n row r listed at = absurd (true≢false (sym listed))
  row_standing (m ∷ ns) n row r listed at = by (λ h. row_standing ns n row r h at) (nat_eq n m) refl
    where
      by : (list_any (nat_eq n) ns ≡ true → Contains (standing_in s ns) r.entity) → (b : Bool) → nat_eq n m ≡ b
          → Contains (standing_in s (m ∷ ns)) r.entity
      by rest true same =
          Contains-append_left (entities_of (table_in s m).rows) (standing_in s ns) r.entity
          (rows_contain (table_in s m).rows row r (ap (λ k. row_at s k row) (sym ((Decides-eqb n m).0 same)) ∙ at))
      by rest false other =
          Contains-append_right (entities_of (table_in s m).rows) (standing_in s ns) r.entity
          (rest (ap (λ b. b || list_any (nat_eq n) ns) (sym other) ∙ listed))

  -- no entity stands in two rows
  rows_apart : (n : ℕ) → Apart (entities_of (table_in s n).rows)
  rows_apart n i j d below within same =
      let rows = (table_in s n).rows in
      let q : TableRow = record { entity = d; held = [] } in
      let in_j : j < length rows = rw (length-map rows (λ (r : TableRow). r.entity)) at within in
      let in_i : i < length rows = omega arith in
      let two = shown.once n i n j (get_or rows i q) (get_or rows j q) (slice_get-get_or rows i q in_i) (slice_get-get_or rows j q in_j)
      (sym (get_or-map (λ (r : TableRow). r.entity) rows i q d in_i) ∙ same ∙ get_or-map (λ (r : TableRow). r.entity) rows j q d in_j) in
      absurd (omega (arith, two.1))

  absent : (m n : ℕ) (ns : List ℕ) → AllByRecursion (λ k. nat_eq m k ≡ false) ns → list_any (nat_eq n) ns ≡ true → m ≢ n
  absent m n [] all listed same = true≢false (sym listed)
  absent m n (k ∷ ns) all listed same = by (λ h. absent m n ns all.1 h same) (nat_eq n k) refl
    where
      by : (list_any (nat_eq n) ns ≡ true → ⊥) → (b : Bool) → nat_eq n k ≡ b → ⊥
      by rest true is = true≢false (sym (ap (λ x. nat_eq x k) same ∙ is) ∙ all.0)
      by rest false other = rest (ap (λ b. b || list_any (nat_eq n) ns) (sym other) ∙ listed)

  pub standing_apart : (ns : List ℕ) → IsDistinct nat_eq ns → Apart (standing_in s ns)
  unfolding IsDistinct
  standing_apart [] distinct = λ i j d below within. absurd (omega arith)
  standing_apart (n ∷ ns) distinct =
      apart_append (entities_of (table_in s n).rows) (standing_in s ns) (rows_apart n) (standing_apart ns distinct.1)
      (λ x y here there same.
      let one = in_rows (table_in s n).rows x here in
      let two = standing_row ns y there in
      absent n two.0 ns distinct.0 two.5 (shown.once n one.0 two.0 two.1 one.1 two.2 one.2 two.3 (one.3 ∙ same ∙ sym two.4)).0)

  -- who stands in the found tables, and who passes, are the same
  pub standing_whose : (ns : List ℕ) → ((n : ℕ) → list_any (nat_eq n) ns ≡ true → test (table_in s n).ids ≡ true)
      → ((n : ℕ) → is_found_by test (slot_of s n) ≡ true → list_any (nat_eq n) ns ≡ true)
      → (e : Entity) → Contains (standing_in s ns) e ↔ IsTrue (has_item entity_cmp (entities_whose w test) e)
  standing_whose ns sound whole e = (
    λ c.
        let row = standing_row ns e c in
        passed_from_own (passes test) w e (subst (PassesOwn (passes test) w) row.4 (found_has row.0 row.1 row.2 row.3 (sound row.0 row.5))),
    λ h.
        let row = has_found e (own_from_passed (passes test) w e h) in
        subst (Contains (standing_in s ns)) row.4 (row_standing ns row.0 row.1 row.2 (whole row.0 row.5) row.3),
  )

pub whose_ascend : (w : Indexed Record) (test : List Id → Bool) → IsTrue (is_ascending entity_cmp (entities_whose w test))
whose_ascend w test = passed_ascend (passes test) 0 w.indices
