-- Values that are written in rows one behind the other, as the store shows them.
use Rattle.eco_store.proofs.Common.{◌≡◌, ℕ, ◌+◌, ◌<◌, suc, zero, List, [], ◌∷◌, length, map, take, drop, get_or, set, slice_get}
use Rattle.eco_store.proofs.Common.{IsTrue, Option, Some, None, option_map, option_and_then, unwrap_or, is_some, All, All-nil, ◌≤◌, refl, sym, ap, subst, ◌∙◌, arith}
use Rattle.eco_store.proofs.Common.{drop-cons, length-drop, length-map, length-set, map-set, get_or-set_other}
use Rattle.eco_store.proofs.Common.{get_or-set_same, get_or-take, slice_get-get_or, find}
use Rattle.eco_store.proofs.Common.{Entity, Id, Value, Indexed, id_cmp, has_item, Record, TableState, TableRow, no_row, no_table, map_state}
use Rattle.eco_store.proofs.Common.{table_in, rows_in, entities_of, row_at, SetsRows, Registration, own_place, IsStore, IsSeated, read, Place}
use Rattle.eco_store.proofs.Common.{record_for, seat_at, record_at, with_held, AllHaveIds}
use Rattle.std.specs.Prelude.{ℤ}
use Rattle.std.proofs.lemmas.List.{get_or-drop, get_or-map, length-take, set-get_or}
use Rattle.eco_ids.proofs.Exact.{keys_find}
use Rattle.eco_ids.specs.World.{padded}
use Rattle.std.proofs.lemmas.List.Elements.{All-cons}
use Rattle.std.proofs.lemmas.Option.{get_or_from_slice_get}
use Rattle.eco_ids.specs.Data.{is_zero_past}
use Rattle.eco_archetypes.proofs.Seated.{held_there, place_from_seat, read_record, row_within, seat_there}
use Rattle.eco_archetypes.specs.Records.{has_in_store}
use Rattle.eco_archetypes.specs.Seats.{seat_of}
use Rattle.eco_tables.specs.Tables.{row_in}
use Rattle.eco_store.proofs.Values.{written_read, written_store}
use Rattle.eco_store.proofs.Views.{at_each}
use Rattle.eco_store.specs.Runs.{IsRewrite, store_with_run}
use Rattle.eco_tables.specs.Runs.{IsRunOf, rows_with_run, run_values}
use Rattle.eco_tables.specs.Tables.{row_with}

-- who stands in a row is placed there
owner : (w : Indexed Registration) (s : List (Option TableState)) (n k : ℕ) (r : TableRow) → IsStore w s → row_at s n k ≡ Some r
    → own_place w r.entity ≡ Some (record { table = n; row = k })
owner w s n k r store at =
    let found = place_from_seat (slice_get w.indices r.entity.index) r.entity n k (store.seated.back n k r at) in
    ap (option_and_then (λ (x : Registration). x.place)) (record_at w r.entity found.0 found.1) ∙ found.2

-- sets of the entities of some rows, from one on
module _ (rows : List TableRow) (row : ℕ) (sets : List (Entity × List ℤ))
    (are : map (λ x. x.0) sets ≡ take (length sets) (drop row (entities_of rows))) where
  within : (k : ℕ) → k < length sets → row + k < length rows
  within k less = omega (
    arith,
    less,
    ap length are,
    length-map sets (λ (x : Entity × List ℤ). x.0),
    length-take (length sets) (drop row (entities_of rows)),
    length-drop row (entities_of rows),
    length-map rows (λ (r : TableRow). r.entity),
  )

  same_at : (k : ℕ) (x : Entity × List ℤ) → k < length sets → (get_or sets k x).0 ≡ (get_or rows (row + k) no_row).entity
  same_at k x less =
      let es = entities_of rows in
      sym (get_or-map (λ (y : Entity × List ℤ). y.0) sets k x x.0 less) ∙ ap (λ xs. get_or xs k x.0) are
      ∙ get_or-take (length sets) (drop row es) k x.0 less ∙ get_or-drop row es k x.0
      ∙ get_or-map (λ (r : TableRow). r.entity) rows (row + k) no_row x.0 (within k less)

-- who is placed in a row has an id exactly where the type of the rows does
pub has_there : (w : Indexed Registration) (s : List (Option TableState)) (e : Entity) (p : Place) (i : Id) → IsStore w s → AllHaveIds s
    → own_place w e ≡ Some p → has_in_store (read w s) e i ≡ has_item id_cmp (table_in s p.table).ids i
has_there w s e p i store have own =
    let held = held_there w s e p store own in
    ap (λ o. is_some (find id_cmp i (unwrap_or (option_map (λ (y : Record). y.held) o) []))) (read_record w s e held.0 held.1)
    ∙ ap (λ h. is_some (find id_cmp i h)) held.2 ∙ keys_find (row_in s p.table p.row).held i
    ∙ ap (λ js. has_item id_cmp js i) (have p.table p.row no_row (row_within w s e p store own))

-- a set of one who stands in a row is a run from there
pub run_of_one : (w : Indexed Registration) (s : List (Option TableState)) (p : Place) (i : Id) (arity least : ℕ) (x : Entity × List ℤ)
    → IsStore w s → own_place w x.0 ≡ Some p → IsRewrite (read w s) i arity least x
    → IsRunOf (drop p.row (entities_of (rows_in s p.table))) arity least (x ∷ [])
run_of_one w s p i arity least x store own is =
    let rows = rows_in s p.table in
    let es = entities_of rows in
    let within = row_within w s x.0 p store own in
    let seat = store.seated.there x.0.index (seat_of x.0 p.table p.row) (seat_there w x.0 p own) in
    let here : get_or es p.row x.0 ≡ x.0 =
    get_or-map (λ (r : TableRow). r.entity) rows p.row no_row x.0 within
    ∙ ap (λ (r : TableRow). r.entity) (get_or_from_slice_get rows p.row seat.0 no_row seat.1) ∙ seat.2 in
    let long : p.row < length es = let same = length-map rows (λ (r : TableRow). r.entity) in omega (arith, within, same) in
    record {
      entities = sym (ap (λ xs. take 1 xs) (drop-cons es p.row x.0 long) ∙ ap (λ e. e ∷ []) here);
      ordinary = All-cons (λ y. least ≤ y.0.index) x [] is.ordinary (All-nil (λ y. least ≤ y.0.index));
      few = All-cons (λ y. IsTrue (is_zero_past arity (padded y.1))) x [] is.few (All-nil (λ y. IsTrue (is_zero_past arity (padded y.1))));
    }

-- each is of a living entity that has the id, where the type of the rows has it
pub rewrites : (w : Indexed Registration) (s : List (Option TableState)) (n row : ℕ) (i : Id) (arity least : ℕ) (sets : List (Entity × List ℤ))
    → IsStore w s → AllHaveIds s → IsTrue (has_item id_cmp (table_in s n).ids i) → IsRunOf (drop row (entities_of (rows_in s n))) arity least sets
    → All (IsRewrite (read w s) i arity least) sets
rewrites w s n row i arity least sets store have typed run k x less =
    let rows = rows_in s n in
    let here = within rows row sets run.entities k less in
    let r = get_or rows (row + k) no_row in
    let e = (get_or sets k x).0 in
    let p : Place = record { table = n; row = row + k } in
    let own : own_place w e ≡ Some p =
    subst (λ y. own_place w y ≡ Some p) (sym (same_at rows row sets run.entities k x less))
    (owner w s n (row + k) r store (slice_get-get_or rows (row + k) no_row here)) in
    let held = held_there w s e p store own in
    let known = read_record w s e held.0 held.1 in
    record {
      alive = ap is_some known;
      had = has_there w s e p i store have own ∙ typed;
      ordinary = run.ordinary k x less;
      few = run.few k x less;
    }

-- a table that has a row is in a slot
slot_within : (s : List (Option TableState)) (n k : ℕ) → k < length (rows_in s n) → n < length s
slot_within [] n k less = absurd (omega (arith, less))
slot_within (x ∷ xs) zero k less = omega arith
slot_within (x ∷ xs) (suc n) k less = let inside = slot_within xs n k less in omega (arith, inside)

-- the tables with other rows in a slot
abbrev with_rows_in : List (Option TableState) → ℕ → List TableRow → List (Option TableState)
with_rows_in s n rows = set s n (Some (record (table_in s n) { rows = rows }))

sets_anew : (s : List (Option TableState)) (n : ℕ) (rows : List TableRow) → n < length s → SetsRows (rows_in s) (rows_in (with_rows_in s n rows)) n rows
sets_anew s n rows inside =
    let anew : Option TableState = Some (record (table_in s n) { rows = rows }) in
    record {
      changed = ap (λ o. (unwrap_or o no_table).rows) (get_or-set_same s n anew None inside);
      others = λ m other. ap (λ o. (unwrap_or o no_table).rows) (get_or-set_other s n m anew None other);
    }

-- where no row changes
same_rows : (w : Indexed Registration) (s s1 : List (Option TableState)) → ((n : ℕ) → rows_in s1 n ≡ rows_in s n) → IsStore w s
    → IsStore w s1 × (read w s1 ≡ read w s)
same_rows w s s1 same store =
    let ats : row_at s1 ≡ row_at s = λ t n k. slice_get (same n t) k in (
      record { seated = subst (IsSeated (seat_at w)) (sym ats) store.seated; placed = store.placed },
      λ t. record { limit = w.limit; indices = map (map_state (record_for (ats t))) w.indices },
    )

-- the rows with a run at the id are those of the entities with the values of the sets
pub run_written : (sets : List (Entity × List ℤ)) (w : Indexed Registration) (s s1 : List (Option TableState)) (n row : ℕ) (i : Id) → IsStore w s
    → SetsRows (rows_in s) (rows_in s1) n (rows_with_run (rows_in s n) row i (run_values sets))
    → map (λ x. x.0) sets ≡ take (length sets) (drop row (entities_of (rows_in s n)))
    → IsStore w s1 × (read w s1 ≡ store_with_run (read w s) i sets)
run_written [] w s s1 n row i store anew are =
    same_rows w s s1 (at_each n (λ m. rows_in s1 m ≡ rows_in s m) anew.changed anew.others) store
run_written (x ∷ xs) w s s1 n row i store anew are =
    let rows = rows_in s n in
    let es = entities_of rows in
    let there : row + 0 < length rows = within rows row (x ∷ xs) are 0 (let h : 0 < suc (length xs) = omega arith in h) in
    let here : row < length rows = omega (arith, there) in
    let r = get_or rows row no_row in
    let is : x.0 ≡ r.entity = same_at rows row (x ∷ xs) are 0 x (let h : 0 < suc (length xs) = omega arith in h)
    ∙ ap (λ m. (get_or rows m no_row).entity) (let h : row + 0 ≡ row = omega arith in h) in
    let p : Place = record { table = n; row = row } in
    let own : own_place w x.0 ≡ Some p =
    subst (λ y. own_place w y ≡ Some p) (sym is) (owner w s n row r store (slice_get-get_or rows row no_row here)) in
    let f = λ (held : List (Id × Value)). with_held held i (padded x.1) in
    let new = set rows row (row_with r i (padded x.1)) in
    let mid = with_rows_in s n new in
    let sets = sets_anew s n new (slot_within s n row here) in
    let entities : entities_of (rows_in mid n) ≡ es =
    ap entities_of sets.changed ∙ map-set (λ (y : TableRow). y.entity) rows row (row_with r i (padded x.1))
    ∙ ap (λ y. set es row y) (sym (get_or-map (λ (y : TableRow). y.entity) rows row no_row no_row.entity here)) ∙ set-get_or es row no_row.entity in
    let inside : row < length es = rw (length-map rows (λ (y : TableRow). y.entity)) here in
    let tail : map (λ y. y.0) xs ≡ take (length xs) (drop (suc row) es) =
    ap (drop 1) (are ∙ ap (take (suc (length xs))) (drop-cons es row no_row.entity inside)) in
    let rest : map (λ y. y.0) xs ≡ take (length xs) (drop (row + 1) (entities_of (rows_in mid n))) =
    tail ∙ ap (λ m. take (length xs) (drop m es)) (let h : suc row ≡ row + 1 = omega arith in h)
    ∙ ap (λ ys. take (length xs) (drop (row + 1) ys)) (sym entities) in
    let behind = run_written xs w mid s1 n (row + 1) i (written_store w s mid x.0 p f store own sets)
    (record {
      changed = anew.changed ∙ ap (λ rs. rows_with_run rs (row + 1) i (run_values xs)) (sym sets.changed);
      others = λ m other. anew.others m other ∙ sym (sets.others m other);
    }) rest in
    (behind.0, behind.1 ∙ ap (λ u. store_with_run u i xs) (written_read w s mid x.0 p f store own sets))

-- a run takes no row and brings none
pub length_run : (rows : List TableRow) (row : ℕ) (i : Id) (vs : List Value) → length (rows_with_run rows row i vs) ≡ length rows
length_run rows row i [] = refl
length_run rows row i (v ∷ vs) =
    let new = row_with (get_or rows row no_row) i v in
    length_run (set rows row new) (row + 1) i vs ∙ length-set rows row new
