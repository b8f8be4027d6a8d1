-- Runs: values of one id that are written in rows one behind the other.
use Rattle.eco_tables.proofs.Common.{◌≡◌, ℕ, ℤ, zero, suc, ◌+◌, ◌-◌, ◌<◌, ◌≤◌, true, IsTrue, List, [], ◌∷◌, ◌++◌, length, map, get_or, set}
use Rattle.eco_tables.proofs.Common.{take, drop, replicate, pos, list_all, refl, sym, ap, ◌∙◌, arith, subst, slice_get, Some}
use Rattle.eco_tables.proofs.Common.{All, All-head, All-map, All-push, All-tail}
use Rattle.eco_tables.proofs.Common.{append-nil, drop_all, take_all, take_more, length-append, length-map, length-replicate, length-set, map-append}
use Rattle.eco_tables.proofs.Common.{map-set, get_or-map, get_or-set_same, replicate-append-replicate, find, Entity, Id, Value, padded, id_cmp, is_ascending}
use Rattle.eco_tables.proofs.Common.{ColumnState, Fits, column_with_value, kind_of, written, TableRow, HasShape, rows_of, no_row, paired, table_of, width_among}
use Rattle.eco_tables.proofs.Common.{HasIds, RowsHaveIds, TableState, cases_lt, entities_of, inl, inr}
use Rattle.eco_tables.specs.Tables.{row_with}
use Rattle.std.proofs.lemmas.List.{append_assoc, drop-append-le, drop-replicate, length-drop, length-take-le, set-set, take-append-le}
use Rattle.std.specs.Ordering.{int_eq}
use Rattle.eco_ids.specs.Data.{is_zero_past}
use Rattle.eco_ids.specs.declared.value.TheConstants.{FIELD_COUNT}
use Rattle.eco_tables.specs.Runs.{IsRunOf, column_with_run, rows_with_run, run_values, table_with_run, values_with_run}
use Rattle.eco_tables.proofs.Held.{place_within, written_at}
use Rattle.eco_tables.proofs.Packing.{zeros_behind}
use Rattle.eco_tables.proofs.Rows.{ascends, changed_table, ids_of_kinds, kinds_same, written_held, written_kind}
use Rattle.eco_tables.proofs.RowIds.{written_has}
use Rattle.eco_tables.proofs.Shapes.{set_rows, shape_written}

-- the first fields of a value that fits them
pub refit_narrow : (m : ℕ) (fields : List ℤ) → m ≤ length fields → Fits m (padded fields)
    → padded (take m fields ++ drop m (replicate m (pos 0))) ≡ padded fields
refit_narrow m fields few fits =
    let none : drop m (replicate m (pos 0)) ≡ [] = drop_all m (replicate m (pos 0)) (omega (arith, length-replicate m (pos 0))) in
    ap (λ xs. padded (take m fields ++ xs)) none ∙ ap padded (append-nil (take m fields))
    ∙ ap padded (sym (take-append-le m fields (replicate (FIELD_COUNT - length fields) (pos 0)) few)) ∙ sym fits

-- zeros behind some fields are zeros behind the value
padded_more : (k : ℕ) (fields : List ℤ) → length fields + k ≤ FIELD_COUNT → padded (fields ++ replicate k (pos 0)) ≡ padded fields
padded_more k fields few =
    let long : length (fields ++ replicate k (pos 0)) ≡ length fields + k =
    length-append fields (replicate k (pos 0)) ∙ ap (λ n. length fields + n) (length-replicate k (pos 0)) in
    let rest = FIELD_COUNT - length (fields ++ replicate k (pos 0)) in
    let all : k + rest ≡ FIELD_COUNT - length fields = omega (arith, few, long) in
    let same : (fields ++ replicate k (pos 0)) ++ replicate rest (pos 0) ≡ fields ++ replicate (FIELD_COUNT - length fields) (pos 0) =
    append_assoc fields (replicate k (pos 0)) (replicate rest (pos 0))
    ∙ ap (λ xs. fields ++ xs) (replicate-append-replicate k rest (pos 0) ∙ ap (λ n. replicate n (pos 0)) all) in
    λ t. record { 0 = same t }

pub refit_wide : (m n : ℕ) (fields : List ℤ) → length fields ≡ n → n ≤ m → m ≤ FIELD_COUNT
    → padded (take n fields ++ drop n (replicate m (pos 0))) ≡ padded fields
refit_wide m n fields long most few =
    let all : take n fields ≡ fields = take_all n fields (omega (arith, long)) in
    let rest : drop n (replicate m (pos 0)) ≡ replicate (m - n) (pos 0) = drop-replicate n m (pos 0) in
    (λ t. padded (all t ++ rest t)) ∙ padded_more (m - n) fields (omega (arith, long, most, few))

-- past all fields that are there a value has zeros
pub zeros_past : (k n : ℕ) (fields : List ℤ) → length fields ≤ k → list_all (λ x. int_eq x (pos 0)) (drop k (fields ++ replicate n (pos 0))) ≡ true
zeros_past k n [] past = ap (list_all (λ x. int_eq x (pos 0))) (drop-replicate k n (pos 0)) ∙ zeros_behind (n - k) []
zeros_past zero n (f ∷ fields) past = absurd (omega arith)
zeros_past (suc k) n (f ∷ fields) past = zeros_past k n fields (omega arith)

-- the zeros behind the fields that are there say nothing
pub few_told : (k n : ℕ) (fields : List ℤ) → k ≤ length fields
    → list_all (λ x. int_eq x (pos 0)) (drop k fields) ≡ list_all (λ x. int_eq x (pos 0)) (drop k (fields ++ replicate n (pos 0)))
few_told k n fields few =
    sym (ap (list_all (λ x. int_eq x (pos 0))) (drop-append-le k fields (replicate n (pos 0)) few) ∙ zeros_behind n (drop k fields))

-- one value more in a column
values_more : (values : List Value) (row : ℕ) (vs : List Value) (v : Value)
    → values_with_run values row (vs ++ v ∷ []) ≡ set (values_with_run values row vs) (row + length vs) v
values_more values row [] v = ap (λ n. set values n v) (let h : row ≡ row + 0 = omega arith in h)
values_more values row (w ∷ vs) v =
    values_more (set values row w) (row + 1) vs v
    ∙ ap (λ n. set (values_with_run (set values row w) (row + 1) vs) n v) (let h : row + 1 + length vs ≡ row + suc (length vs) = omega arith in h)

pub length-values : (values : List Value) (row : ℕ) (vs : List Value) → length (values_with_run values row vs) ≡ length values
length-values values row [] = refl
length-values values row (v ∷ vs) = length-values (set values row v) (row + 1) vs ∙ length-set values row v

-- the values of one set more
values_taken : (sets : List (Entity × List ℤ)) (k : ℕ) (d : Entity × List ℤ) → k < length sets
    → run_values (take (k + 1) sets) ≡ run_values (take k sets) ++ padded (get_or sets k d).1 ∷ []
values_taken sets k d within = ap run_values (take_more sets k d within) ∙ map-append (λ s. padded s.1) (take k sets) (get_or sets k d ∷ [])

-- one more turn of a loop that writes the values of sets
pub put_more : (old items : List (List ℤ)) (first : ℕ) (sets : List (Entity × List ℤ)) (k row : ℕ) (d : Entity × List ℤ) (fields : List ℤ)
    → k < length sets → row ≡ first + k
    → map padded items ≡ values_with_run (map padded old) first (run_values (take k sets)) → padded fields ≡ padded (get_or sets k d).1
    → map padded (set items row fields) ≡ values_with_run (map padded old) first (run_values (take (k + 1) sets))
put_more old items first sets k row d fields within is done same =
    let long : length (run_values (take k sets)) ≡ k = length-map (take k sets) (λ s. padded s.1) ∙ length-take-le k sets (omega (arith, within)) in
    map-set padded items row fields
    ∙ (λ t. set (done t) (is t) (same t))
    ∙ ap (λ n. set (values_with_run (map padded old) first (run_values (take k sets))) (first + n) (padded (get_or sets k d).1)) (sym long)
    ∙ sym (values_more (map padded old) first (run_values (take k sets)) (padded (get_or sets k d).1))
    ∙ ap (values_with_run (map padded old) first) (sym (values_taken sets k d within))

-- the value of a set among those of all
pub value_fits : (P : Value → Type 0) (sets : List (Entity × List ℤ)) (k : ℕ) (d : Entity × List ℤ) → k < length sets → All P (run_values sets)
    → P (padded (get_or sets k d).1)
value_fits P sets k d within all =
    subst P (get_or-map (λ s. padded s.1) sets k d (padded d.1) within)
    (all k (padded d.1) (rw (length-map sets (λ (s : Entity × List ℤ). padded s.1)) within))

-- a run in a column is one of its values
pub column_run : (c : ColumnState) (row : ℕ) (vs : List Value)
    → column_with_run c row vs ≡ record { id = c.id; width = c.width; values = values_with_run c.values row vs; room = c.room }
column_run c row [] = refl
column_run c row (v ∷ vs) = column_run (column_with_value c row v) (row + 1) vs

-- the first sets are a run as far as each is of the entity at its place
pub run_begun : (es : List Entity) (arity least : ℕ) → IsRunOf es arity least []
run_begun es arity least = record { entities = refl; ordinary = λ k d within. absurd (omega arith); few = λ k d within. absurd (omega arith) }

pub run_more : (es : List Entity) (arity least : ℕ) (sets : List (Entity × List ℤ)) (k : ℕ) (e : Entity) (d : Entity × List ℤ)
    → k < length sets → k < length es → get_or es k e ≡ (get_or sets k d).0 → least ≤ (get_or sets k d).0.index
    → IsTrue (is_zero_past arity (padded (get_or sets k d).1))
    → IsRunOf es arity least (take k sets) → IsRunOf es arity least (take (k + 1) sets)
run_more es arity least sets k e d in_sets in_es same past few run =
    let s = get_or sets k d in
    let more : take (k + 1) sets ≡ take k sets ++ s ∷ [] = take_more sets k d in_sets in
    let long : length (take k sets) ≡ k = length-take-le k sets (omega (arith, in_sets)) in
    let longer : length (take (k + 1) sets) ≡ k + 1 = length-take-le (k + 1) sets (omega (arith, in_sets)) in
    record {
      entities = ap (map (λ x. x.0)) more ∙ map-append (λ x. x.0) (take k sets) (s ∷ [])
          ∙ (λ t. (run.entities ∙ ap (λ n. take n es) long) t ++ sym same t ∷ [])
          ∙ sym (take_more es k e in_es) ∙ ap (λ n. take n es) (sym longer);
      ordinary = rw more (All-push (λ x. least ≤ x.0.index) (take k sets) s run.ordinary past);
      few = rw more (All-push (λ x. IsTrue (is_zero_past arity (padded x.1))) (take k sets) s run.few few);
    }

-- the columns with these values at the id, from the row on
abbrev pub columns_with_run : List ColumnState → ℕ → Id → List Value → List ColumnState
columns_with_run cs row i [] = cs
columns_with_run cs row i (v ∷ vs) = columns_with_run (map (λ c. written c row i v) cs) (row + 1) i vs

ids_written : (cs : List ColumnState) (row : ℕ) (i : Id) (v : Value) → map (λ c. c.id) (map (λ c. written c row i v) cs) ≡ map (λ c. c.id) cs
ids_written cs row i v =
    sym (ids_of_kinds (map (λ c. written c row i v) cs)) ∙ ap (map (λ k. k.0)) (kinds_same (λ c. written c row i v) (written_kind row i v) cs)
    ∙ ids_of_kinds cs

-- where the ids ascend, they are written at the place of the id alone
pub run_at : (cs : List ColumnState) (p : ℕ) (i : Id) (row : ℕ) (vs : List Value) (d : ColumnState) → slice_get (map (λ c. c.id) cs) p ≡ Some i
    → IsTrue (is_ascending id_cmp (map (λ c. c.id) cs))
    → set cs p (column_with_run (get_or cs p d) row vs) ≡ columns_with_run cs row i vs
run_at cs p i row [] d at up = set_own cs p d
  where
    set_own : (xs : List ColumnState) (k : ℕ) (e : ColumnState) → set xs k (get_or xs k e) ≡ xs
    set_own [] k e = refl
    set_own (x ∷ xs) zero e = refl
    set_own (x ∷ xs) (suc k) e = ap (λ ys. x ∷ ys) (set_own xs k e)
run_at cs p i row (v ∷ vs) d at up =
    let one = column_with_value (get_or cs p d) row v in
    let ds = map (λ c. written c row i v) cs in
    let step : set cs p one ≡ ds = written_at cs p i at row v d up in
    let ids = ids_written cs row i v in
    let here : get_or ds p d ≡ one = ap (λ xs. get_or xs p d) (sym step) ∙ get_or-set_same cs p one d (place_within cs p i at) in
    sym (set-set cs p one (column_with_run one (row + 1) vs))
    ∙ (λ t. set (step t) p (column_with_run (sym here t) (row + 1) vs))
    ∙ run_at ds p i (row + 1) vs d (ap (λ xs. slice_get xs p) ids ∙ at) (subst (λ xs. IsTrue (is_ascending id_cmp xs)) (sym ids) up)

pub run_kinds : (cs : List ColumnState) (row : ℕ) (i : Id) (vs : List Value) → map kind_of (columns_with_run cs row i vs) ≡ map kind_of cs
run_kinds cs row i [] = refl
run_kinds cs row i (v ∷ vs) =
    run_kinds (map (λ c. written c row i v) cs) (row + 1) i vs ∙ kinds_same (λ c. written c row i v) (written_kind row i v) cs

-- a run leaves the shape
pub shape_run : (ids : List Id) (es : List Entity) (capacity : ℕ) (cs : List ColumnState) (room row : ℕ) (i : Id) (vs : List Value)
    → HasShape ids es capacity cs room → HasShape ids es capacity (columns_with_run cs row i vs) room
shape_run ids es capacity cs room row i [] shape = shape
shape_run ids es capacity cs room row i (v ∷ vs) shape =
    shape_run ids es capacity (map (λ c. written c row i v) cs) room (row + 1) i vs (shape_written ids es capacity cs room shape row i v)

-- the value fits the id in columns of these kinds
abbrev pub FitsKinds : List Id → List (Id × ℕ) → Id → Value → Type 0
FitsKinds ids kinds i v = (n : ℕ) → find id_cmp i (paired ids (map (width_among kinds) ids)) ≡ Some n → Fits n v

-- the rows of the columns with a run
pub rows_run : (ids : List Id) (es : List Entity) (capacity : ℕ) (cs : List ColumnState) (room row : ℕ) (i : Id) (vs : List Value)
    → HasShape ids es capacity cs room → row + length vs ≤ length es → All (FitsKinds ids (map kind_of cs) i) vs
    → rows_of ids (columns_with_run cs row i vs) es ≡ rows_with_run (rows_of ids cs es) row i vs
rows_run ids es capacity cs room row i [] shape there fits = refl
rows_run ids es capacity cs room row i (v ∷ vs) shape there fits =
    let ds = map (λ c. written c row i v) cs in
    let within : row < length es = omega arith in
    let same : map kind_of ds ≡ map kind_of cs = kinds_same (λ c. written c row i v) (written_kind row i v) cs in
    rows_run ids es capacity ds room (row + 1) i vs (shape_written ids es capacity cs room shape row i v) (omega arith)
    (subst (λ kinds. All (FitsKinds ids kinds i) vs) (sym same) (All-tail (FitsKinds ids (map kind_of cs) i) v vs fits))
    ∙ ap (λ rows. rows_with_run rows (row + 1) i vs)
    (set_rows ids cs es row i v no_row shape.even within
    (written_held ids cs shape.kinds row i v (All-head (FitsKinds ids (map kind_of cs) i) v vs fits)))

-- what holds of all values of so many fields holds of those of a run
pub run_values_all : (P : Value → Type 0) (n arity : ℕ) (sets : List (Entity × List ℤ)) → n ≤ FIELD_COUNT
    → ((v : Value) → length v.0 ≡ FIELD_COUNT → IsTrue (is_zero_past arity v) → P v) → All (λ s. length s.1 ≡ n) sets
    → All (λ s. IsTrue (is_zero_past arity (padded s.1))) sets → All P (run_values sets)
run_values_all P n arity sets most fits long few =
    All-map P (λ s. padded s.1) sets (λ k d within.
    fits (padded (get_or sets k d).1) (length-padded (get_or sets k d).1 (omega (arith, most, long k d within))) (few k d within))
  where
    length-padded : (fields : List ℤ) → length fields ≤ FIELD_COUNT → length (padded fields).0 ≡ FIELD_COUNT
    length-padded fields less =
        let all = length-append fields (replicate (FIELD_COUNT - length fields) (pos 0)) in
        let rest = length-replicate (FIELD_COUNT - length fields) (pos 0) in
        omega (arith, less, all, rest)

-- so many sets from a row on reach no further than the column
pub run_within : (sets : List (Entity × List ℤ)) (es rest : List Entity) (n row m : ℕ) → n ≤ length sets → n ≤ length rest → rest ≡ drop row es
    → row < length es → m ≡ length es → row + length (take n sets) ≤ m
run_within sets es rest n row m some few is there same =
    let taken = length-take-le n sets some in
    let left : length rest ≡ length es - row = ap length is ∙ length-drop row es in
    omega (arith, taken, left, few, there, same)

-- the table once the column of the id has the values of a run
module _ (ids : List Id) (es : List Entity) (capacity : ℕ) (cs : List ColumnState) (room : ℕ) (shape : HasShape ids es capacity cs room)
    (p row : ℕ) (i : Id) (vs : List Value) (at : slice_get (map (λ c. c.id) cs) p ≡ Some i) (own new : ColumnState) (is : own ≡ get_or cs p own)
    (ran : new ≡ column_with_run own row vs) where
  run_columns : set cs p new ≡ columns_with_run cs row i vs
  run_columns = ap (set cs p) (ran ∙ ap (λ x. column_with_run x row vs) is) ∙ run_at cs p i row vs own at (ascends ids cs shape.kinds)

  pub shape_ran : HasShape ids es capacity (set cs p new) room
  shape_ran = subst (λ xs. HasShape ids es capacity xs room) (sym run_columns) (shape_run ids es capacity cs room row i vs shape)

  pub table_ran : row + length vs ≤ length es → All (FitsKinds ids (map kind_of cs) i) vs
      → table_of ids (set cs p new) es room ≡ table_with_run (table_of ids cs es room) row i vs
  table_ran there fits =
      changed_table ids cs (set cs p new) es room room (rows_with_run (rows_of ids cs es) row i vs)
      (ap (map kind_of) run_columns ∙ run_kinds cs row i vs)
      (ap (λ xs. rows_of ids xs es) run_columns ∙ rows_run ids es capacity cs room row i vs shape there fits) refl

-- a run reaches no further than the entities
pub run_length : (es : List Entity) (arity least : ℕ) (sets : List (Entity × List ℤ)) → IsRunOf es arity least sets → length sets ≤ length es
run_length es arity least sets run = elim (cases_lt (length es) (length sets)) [
  | inr most ↦ most
  | inl past ↦
      let all : take (length sets) es ≡ es = take_all (length sets) es (omega (arith, past)) in
      let same : length sets ≡ length es = sym (length-map sets (λ s. s.0)) ∙ ap length run.entities ∙ ap length all in
      omega (arith, same)
]

-- each row keeps a value for each id
rows_ran_have : (ids : List Id) (rows : List TableRow) (row : ℕ) (i : Id) (vs : List Value) → row + length vs ≤ length rows → All (HasIds ids) rows
    → All (HasIds ids) (rows_with_run rows row i vs)
rows_ran_have ids rows row i [] there all = all
rows_ran_have ids rows row i (v ∷ vs) there all =
    let next = set rows row (row_with (get_or rows row no_row) i v) in
    let long : length next ≡ length rows = length-set rows row (row_with (get_or rows row no_row) i v) in
    rows_ran_have ids next (row + 1) i vs (omega (arith, there, long))
    (written_has (record { ids = ids; widths = []; rows = rows; room = 0 }) row i v (omega (arith, there)) all)

pub ran_has : (t : TableState) (row : ℕ) (i : Id) (sets : List (Entity × List ℤ)) (arity least : ℕ) → row < length t.rows
    → IsRunOf (drop row (entities_of t.rows)) arity least sets → RowsHaveIds t → RowsHaveIds (table_with_run t row i (run_values sets))
ran_has t row i sets arity least there run all =
    let few = run_length (drop row (entities_of t.rows)) arity least sets run in
    let left = length-drop row (entities_of t.rows) in
    let long = length-map t.rows (λ (r : TableRow). r.entity) in
    let many = length-map sets (λ (s : Entity × List ℤ). padded s.1) in
    rows_ran_have t.ids t.rows row i (run_values sets) (omega (arith, there, few, left, long, many)) all
