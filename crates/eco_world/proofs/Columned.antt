-- The columns of the tables that list an id are those of the world.
use Rattle.eco_world.proofs.Common.{◌≡◌, ℕ, Bool, true, false, true≢false, ◌&&◌, nat_eq, nat_lt, List, [], ◌∷◌, map, filter, cond, length}
use Rattle.eco_world.proofs.Common.{IfSome, Option, None, Some, option_map, unwrap_or, is_some, All, AllByRecursion, Contains, list_any}
use Rattle.eco_world.proofs.Common.{IsPermutation, IsPermutation-map, Decides-eqb, length-map, arith, refl, sym, ap, subst, ◌∙◌, Id, arity, IsLawful}
use Rattle.eco_world.proofs.Common.{ListedTable, has_item, id_cmp, WorldState, entities, record_of, TableState, TableRow, no_table, slot_of, table_in}
use Rattle.eco_world.proofs.Common.{shown_at}
use Rattle.std.specs.List.{IsDistinct}
use Rattle.std.proofs.lemmas.Map.Views.{any-filter_same}
use Rattle.std.proofs.lemmas.Simd.{map-map}
use Rattle.eco_archetypes.specs.Archetypes.{ArePassing, IsAllFound, has_rows, is_found_by, passes_at, type_at, type_matches}
use Rattle.eco_query.specs.Queries.{exactly}
use Rattle.eco_store.specs.Lent.{AreTablesOf}
use Rattle.eco_world.proofs.Data.{data_wide}
use Rattle.eco_world.proofs.Holders.{has_exactly}
use Rattle.eco_world.proofs.Layouts.{all_of, layout_beside, mapped_from}
use Rattle.eco_world.proofs.Lending.{rows_show, stands_held}
use Rattle.eco_world.proofs.Tabled.{all_covered, any_of, found_covered, found_differ, found_match, with_rows}
use Rattle.eco_world.specs.Columns.{column_at, has_entities, HasValues, KeepsColumn, ListedColumn, ListsColumns}

abbrev has_id : Id → List Id → Bool
has_id i ids = has_item id_cmp ids i

-- what passes among what is made of items is made of the items that pass
picked : {X Y : Type 0} (p : Y → Bool) (q : X → Bool) (f : X → Y) → ((x : X) → p (f x) ≡ q x) → (xs : List X)
    → filter p (map f xs) ≡ map f (filter q xs)
picked p q f same [] = refl
picked p q f same (x ∷ xs) =
    ap (λ b. cond b (f x ∷ filter p (map f xs)) (filter p (map f xs))) (same x)
    ∙ (elim (q x) as (λ b. cond b (f x ∷ filter p (map f xs)) (filter p (map f xs)) ≡ map f (cond b (x ∷ filter q xs) (filter q xs))) [
      | true ↦ ap (λ ys. f x ∷ ys) (picked p q f same xs)
      | false ↦ picked p q f same xs
    ])

-- those of the columns that have entities are those of the tables that have rows
with_entities : (slots : List (Option TableState)) (i : Id) (ns : List ℕ)
    → filter has_entities (map (column_at slots i) ns) ≡ map (column_at slots i) (filter (has_rows slots) ns)
with_entities slots i =
    picked has_entities (has_rows slots) (column_at slots i)
    (λ n. ap (nat_lt 0) (length-map (table_in slots n).rows (λ (r : TableRow). r.entity)))

-- numbers of which each stands once do so too where some are left out
apart_left : (x : ℕ) (p : ℕ → Bool) (ns : List ℕ) → AllByRecursion (λ n. nat_eq x n ≡ false) ns
    → AllByRecursion (λ n. nat_eq x n ≡ false) (filter p ns)
apart_left x p [] apart = apart
apart_left x p (n ∷ ns) apart = by (p n) (apart_left x p ns apart.1)
  where
    by : (b : Bool) → AllByRecursion (λ m. nat_eq x m ≡ false) (filter p ns)
        → AllByRecursion (λ m. nat_eq x m ≡ false) (cond b (n ∷ filter p ns) (filter p ns))
    by true rest = (apart.0, rest)
    by false rest = rest

distinct_left : (p : ℕ → Bool) (ns : List ℕ) → IsDistinct nat_eq ns → IsDistinct nat_eq (filter p ns)
unfolding IsDistinct
distinct_left p [] once = once
distinct_left p (n ∷ ns) once = by (p n) (distinct_left p ns once.1)
  where
    by : (b : Bool) → IsDistinct nat_eq (filter p ns) → IsDistinct nat_eq (cond b (n ∷ filter p ns) (filter p ns))
    by true rest = (apart_left n p ns once.0, rest)
    by false rest = rest

module _ (w : WorldState) (i : Id) (slots : List (Option TableState)) (are : AreTablesOf (entities w) slots) (ns : List ℕ)
    (listed : (n : ℕ) → list_any (nat_eq n) ns ≡ type_matches (type_at slots n) (exactly i)) where
  -- the slots are those of the tables whose type has the id
  passing : ArePassing (has_id i) slots ns
  passing n = listed n ∙ by (type_at slots n)
    where
      by : (o : Option (List Id)) → type_matches o (exactly i) ≡ passes_at (has_id i) o
      by None = refl
      by (Some ids) = has_exactly ids i

  -- those of them whose tables have rows are all that are found
  rowed : (n : ℕ) → (has_rows slots n && passes_at (has_id i) (type_at slots n)) ≡ is_found_by (has_id i) (slot_of slots n)
  rowed n = by (slot_of slots n)
    where
      by : (o : Option TableState)
          → (nat_lt 0 (length (unwrap_or o no_table).rows) && passes_at (has_id i) (option_map (λ (t : TableState). t.ids) o)) ≡ is_found_by (has_id i) o
      by None = refl
      by (Some t) = refl

  all_found : IsDistinct nat_eq ns → IsAllFound (has_id i) slots (filter (has_rows slots) ns)
  all_found once = record {
    listed = λ n.
        any-filter_same (nat_eq n) (has_rows slots) (has_rows slots n) (λ k same. ap (has_rows slots) (sym ((Decides-eqb n k).0 same))) ns
        ∙ ap (λ b. has_rows slots n && b) (passing n) ∙ rowed n;
    distinct = distinct_left (has_rows slots) ns once;
  }

  -- a table of one of them has a column
  pub keep_columns : IsLawful w → is_some (arity w i) ≡ true → All (KeepsColumn slots i) ns
  keep_columns lawful fields = all_of (KeepsColumn slots i) ns (λ n p. record {
    has = in_type (slot_of slots n) (sym (passing n) ∙ any_of ns n p);
    wide = λ k at.
        let own = are.kept n i k at in
        let least = data_wide w lawful i fields in
        omega (arith, own, least);
  })
    where
      in_type : (o : Option TableState) → passes_at (has_id i) (option_map (λ (t : TableState). t.ids) o) ≡ true
          → has_id i (unwrap_or o no_table).ids ≡ true
      in_type None h = absurd (true≢false (sym h))
      in_type (Some t) h = h

  -- and its values are those of its entities
  own_values : (c : ListedColumn) → Contains (map (column_at slots i) ns) c → HasValues w i c
  own_values c p =
      let one = mapped_from (column_at slots i) ns c p in
      subst (HasValues w i) one.2
      (rows_show w i (table_in slots one.0).rows
      (λ k r at. stands_held (record_of w r.entity) (table_in slots one.0) k r (are.shown.rows one.0 k r at) at))

  pub lists_columns : IsDistinct nat_eq ns → ListsColumns w i (map (column_at slots i) ns)
  lists_columns once =
      let found = filter (has_rows slots) ns in
      let all = all_found once in
      let tables = map (shown_at slots) found in
      let columns = map (column_at slots i) found in
      let beside = layout_beside w (has_id i) tables (with_rows slots)
      (found_differ w slots are.shown are.kinds (has_id i) found all.listed all.distinct)
      (found_covered w slots are.shown are.kinds (has_id i) found all.listed)
      (found_match w slots are.shown are.kinds (has_id i) found all.listed)
      (all_covered w slots are.shown are.kinds) in
      let same : map (λ (t : ListedTable). t.entities) tables ≡ map (λ (c : ListedColumn). c.entities) columns =
      map-map (λ (t : ListedTable). t.entities) (shown_at slots) found ∙ sym (map-map (λ (c : ListedColumn). c.entities) (column_at slots i) found) in
      record {
        values = all_of (HasValues w i) (map (column_at slots i) ns) own_values;
        tables = (
          beside.0,
          beside.1,
          subst (IsPermutation (map (λ (t : ListedTable). t.entities) (filter (λ (t : ListedTable). has_id i t.ids) beside.0)))
              (same ∙ ap (map (λ (c : ListedColumn). c.entities)) (sym (with_entities slots i ns)))
              (IsPermutation-map (λ (t : ListedTable). t.entities) (filter (λ (t : ListedTable). has_id i t.ids) beside.0) tables beside.2),
        );
      }

-- so it is where the id is data
pub where_data : (o : Option ℕ) (P : Type 0) → P → IfSome o (λ _. P)
where_data None P h = tt
where_data (Some n) P h = h
