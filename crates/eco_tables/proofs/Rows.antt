-- Rows, as columns keep them.
use Rattle.eco_tables.proofs.Common.{◌≡◌, ◌≢◌, ℕ, zero, suc, ◌+◌, ◌-◌, ◌<◌, ◌≤◌, Bool, true, false, if◌then◌else◌, List, [], ◌∷◌, ◌++◌, map, length}
use Rattle.eco_tables.proofs.Common.{get_or, set, take, drop, slice_get, replicate, Option, Some, None, unwrap_or, IsTrue, refl, sym, ap, ◌∙◌, arith}
use Rattle.eco_tables.proofs.Common.{inl, inr, true≢false, All, swap_remove, ext_get_or, get_or-set_same, get_or-set_other, get_or_append_left}
use Rattle.eco_tables.proofs.Common.{get_or-append_right, get_or-replicate, length-replicate, length-map, length-set, get_or-map, take_all, drop_all}
use Rattle.eco_tables.proofs.Common.{append-nil, All-head, All-tail, cases_eq, false_from_ne_true, Entity, Id, Value, zeros, find, id_cmp, id_eq}
use Rattle.eco_tables.proofs.Common.{has_item, is_ascending, ColumnState, Fits, held_in, value_in, contents, kind_of, lengthened, with_removed}
use Rattle.eco_tables.proofs.Common.{column_with_value, with_held, written, retyped, TableRow, rows_from, rows_of, retyped_row, table_of, paired}
use Rattle.eco_tables.proofs.Common.{width_among, AreKinds, ColumnsAgree, entities_of}
use Rattle.eco_ids.proofs.Lists.{before, before_within, get_or-swap_remove, length-swap_remove}
use Rattle.eco_tables.proofs.Held.{found_at, find-absent, place_within, has_place}
use Rattle.eco_tables.proofs.Widths.{value-retyped, same_within, retyped-written, value-written, value-other, width-each, width-none}

-- a Vec's elements, after all of them were written through a slice
pub refilled : {X : Type 0} (n : ℕ) (ws xs : List X) → length ws ≡ length xs → length xs ≡ n → take n (ws ++ drop (length ws) xs) ≡ ws
refilled n ws xs same is =
    let none : drop (length ws) xs ≡ [] = drop_all (length ws) xs (omega arith) in
    ap (λ ys. take n (ws ++ ys)) none ∙ ap (λ ys. take n ys) (append-nil ws) ∙ take_all n ws (omega arith)

-- the same, where the slice was mapped in place
pub rewritten : {X : Type 0} (f : X → X) (n : ℕ) (ws slice xs : List X) → ws ≡ map f slice → slice ≡ xs → n ≡ length xs
    → take n (ws ++ drop (length ws) xs) ≡ map f xs
rewritten f n ws slice xs is same len =
    let e : ws ≡ map f xs = is ∙ ap (map f) same in
    refilled n ws xs (ap length e ∙ length-map xs f) (sym len) ∙ e

pub length-rows : (cs : List ColumnState) (k : ℕ) (es : List Entity) → length (rows_from cs k es) ≡ length es
length-rows cs k [] = refl
length-rows cs k (e ∷ es) = ap suc (length-rows cs (suc k) es)

pub entities_of-rows : (cs : List ColumnState) (k : ℕ) (es : List Entity) → entities_of (rows_from cs k es) ≡ es
entities_of-rows cs k [] = refl
entities_of-rows cs k (e ∷ es) = ap (λ xs. e ∷ xs) (entities_of-rows cs (suc k) es)

abbrev pub row_of : Entity → List ColumnState → ℕ → TableRow
row_of e cs k = record { entity = e; held = held_in cs k }

pub get_or-rows_from : (cs : List ColumnState) (k : ℕ) (es : List Entity) (i : ℕ) (d : Entity) (r : TableRow) → i < length es
    → get_or (rows_from cs k es) i r ≡ row_of (get_or es i d) cs (k + i)
get_or-rows_from cs k [] i d r within = absurd (omega arith)
get_or-rows_from cs k (e ∷ es) zero d r within = ap (λ n. row_of e cs n) (let h : k ≡ k + 0 = omega arith in h)
get_or-rows_from cs k (e ∷ es) (suc i) d r within =
    get_or-rows_from cs (suc k) es i d r (omega arith) ∙ ap (λ n. row_of (get_or es i d) cs n) (let h : suc k + i ≡ k + suc i = omega arith in h)

pub get_or-rows : (cs : List ColumnState) (es : List Entity) (i : ℕ) (d : Entity) (r : TableRow) → i < length es
    → get_or (rows_from cs 0 es) i r ≡ row_of (get_or es i d) cs i
get_or-rows cs es i d r within = get_or-rows_from cs 0 es i d r within ∙ ap (λ n. row_of (get_or es i d) cs n) (let h : 0 + i ≡ i = omega arith in h)

-- a place whose column entries are those of another place, column by column
pub held_same : (f : ColumnState → ColumnState) (cs : List ColumnState) (j k : ℕ)
    → All (λ c. ((f c).id ≡ c.id) × (get_or (f c).values j zeros ≡ get_or c.values k zeros)) cs
    → held_in (map f cs) j ≡ held_in cs k
held_same f [] j k same = refl
held_same f (c ∷ cs) j k same =
    let here = All-head (λ c. ((f c).id ≡ c.id) × (get_or (f c).values j zeros ≡ get_or c.values k zeros)) c cs same in
    let there = held_same f cs j k (All-tail (λ c. ((f c).id ≡ c.id) × (get_or (f c).values j zeros ≡ get_or c.values k zeros)) c cs same) in
    λ t. (here.0 t, here.1 t) ∷ there t

-- the same rows, row by row, from two lists of columns
pub rows_ext : (cs ds : List ColumnState) (es fs : List Entity) (rows : List TableRow) (d : Entity) (r : TableRow)
    → length rows ≡ length es
    → ((j : ℕ) → j < length es → row_of (get_or es j d) cs j ≡ get_or rows j r)
    → rows_from cs 0 es ≡ rows
rows_ext cs ds es fs rows d r lengths each =
    ext_get_or r (rows_from cs 0 es) rows (length-rows cs 0 es ∙ sym lengths)
    (λ j within. let in_es : j < length es = rw (length-rows cs 0 es) at within in get_or-rows cs es j d r in_es ∙ each j in_es)

-- a removal
pub swapped_rows : (cs : List ColumnState) (es : List Entity) (row : ℕ) (d : Entity) (r : TableRow)
    → All (λ c. length c.values ≡ length es) cs → row < length es
    → rows_from (map (λ c. with_removed c row) cs) 0 (swap_remove es row d) ≡ swap_remove (rows_from cs 0 es) row r
swapped_rows cs es row d r even there =
    let n = length-rows cs 0 es in
    rows_ext (map (λ c. with_removed c row) cs) cs (swap_remove es row d) es (swap_remove (rows_from cs 0 es) row r) d r
    (length-swap_remove (rows_from cs 0 es) row r ∙ ap (λ m. m - 1) n ∙ sym (length-swap_remove es row d))
    (λ j within.
    let inside : j < length es - 1 = rw (length-swap_remove es row d) at within in
    let was = before_within row (length es) j inside in
    (λ t. row_of (get_or-swap_remove es row j d d there inside t) (map (λ c. with_removed c row) cs) j)
    ∙ (λ t. record {
      entity = get_or es (before row (length es) j) d;
      held = held_same (λ c. with_removed c row) cs j (before row (length es) j) (λ k e in_cs. (
        refl,
        get_or-swap_remove (get_or cs k e).values row j zeros zeros (rw (even k e in_cs) there) (rw (even k e in_cs) inside)
            ∙ ap (λ m. get_or (get_or cs k e).values (before row m j) zeros) (even k e in_cs),
      )) t;
    })
    ∙ sym (get_or-rows cs es (before row (length es) j) d r was)
    ∙ ap (λ m. get_or (rows_from cs 0 es) (before row m j) r) (sym n)
    ∙ sym (get_or-swap_remove (rows_from cs 0 es) row j r r (rw n there) (rw n inside)))

-- more rows
rows_append : (cs : List ColumnState) (k : ℕ) (es fs : List Entity) → rows_from cs k (es ++ fs) ≡ rows_from cs k es ++ rows_from cs (k + length es) fs
rows_append cs k [] fs = ap (λ n. rows_from cs n fs) (let h : k ≡ k + 0 = omega arith in h)
rows_append cs k (e ∷ es) fs =
    ap (λ xs. row_of e cs k ∷ xs) (rows_append cs (suc k) es fs
    ∙ ap (λ n. rows_from cs (suc k) es ++ rows_from cs n fs) (let h : suc k + length es ≡ k + suc (length es) = omega arith in h))

-- the values that rows hold for an id
abbrev pub values_held : List TableRow → Id → List Value
values_held rows i = map (λ r. value_in r.held i) rows

last_joined : (rows : List TableRow) (cs : List ColumnState) (n m : ℕ) (r : TableRow) → m < length rows → All (λ c. length c.values ≡ n) cs
    → held_in (map (λ c. lengthened c (values_held rows c.id)) cs) (n + m) ≡ retyped (map (λ c. c.id) cs) (get_or rows m r).held
last_joined rows [] n m r there even = refl
last_joined rows (c ∷ cs) n m r there even =
    let here : get_or (c.values ++ values_held rows c.id) (n + m) zeros ≡ value_in (get_or rows m r).held c.id =
    get_or-append_right c.values (values_held rows c.id) n (n + m) zeros (All-head (λ x. length x.values ≡ n) c cs even) (omega arith)
    ∙ ap (λ k. get_or (values_held rows c.id) k zeros) (let h : n + m - n ≡ m = omega arith in h)
    ∙ get_or-map (λ (x : TableRow). value_in x.held c.id) rows m r zeros there in
    let rest = last_joined rows cs n m r there (All-tail (λ x. length x.values ≡ n) c cs even) in
    λ t. (c.id, here t) ∷ rest t

pub joined_rows : (cs : List ColumnState) (es : List Entity) (rows : List TableRow) → All (λ c. length c.values ≡ length es) cs
    → rows_from (map (λ c. lengthened c (values_held rows c.id)) cs) 0 (es ++ entities_of rows)
    ≡ rows_from cs 0 es ++ map (retyped_row (map (λ c. c.id) cs)) rows
joined_rows cs es rows even =
    let ds = map (λ c. lengthened c (values_held rows c.id)) cs in
    let nobody : Entity = record { index = 0; generation = 0 } in
    let nothing : TableRow = record { entity = nobody; held = [] } in
    let old : rows_from ds 0 es ≡ rows_from cs 0 es =
    rows_ext ds cs es es (rows_from cs 0 es) nobody nothing (length-rows cs 0 es)
    (λ j within.
    (λ t. record {
      entity = get_or es j nobody;
      held = held_same (λ c. lengthened c (values_held rows c.id)) cs j j (λ k d in_cs.
          (refl, get_or_append_left (get_or cs k d).values (values_held rows (get_or cs k d).id) zeros j (rw (even k d in_cs) within))) t;
    })
    ∙ sym (get_or-rows cs es j nobody nothing within)) in
    let start : 0 + length es ≡ length es = omega arith in
    let new : rows_from ds (length es) (entities_of rows) ≡ map (retyped_row (map (λ c. c.id) cs)) rows =
    ext_get_or nothing (rows_from ds (length es) (entities_of rows)) (map (retyped_row (map (λ c. c.id) cs)) rows)
    (length-rows ds (length es) (entities_of rows) ∙ length-map rows (λ r. r.entity) ∙ sym (length-map rows (retyped_row (map (λ c. c.id) cs))))
    (λ m within.
    let in_entities : m < length (entities_of rows) = rw (length-rows ds (length es) (entities_of rows)) at within in
    let in_rows : m < length rows = rw (length-map rows (λ (r : TableRow). r.entity)) at in_entities in
    let r = get_or rows m nothing in
    get_or-rows_from ds (length es) (entities_of rows) m nobody nothing in_entities
    ∙ (λ t. record {
      entity = get_or-map (λ (x : TableRow). x.entity) rows m nothing nobody in_rows t;
      held = last_joined rows cs (length es) m nothing in_rows even t;
    })
    ∙ sym (get_or-map (retyped_row (map (λ c. c.id) cs)) rows m nothing nothing in_rows)) in
    rows_append ds 0 es (entities_of rows) ∙ ap (λ n. rows_from ds 0 es ++ rows_from ds n (entities_of rows)) start ∙ (λ t. old t ++ new t)

-- the values of a column are what its rows hold
values_ext : (cs : List ColumnState) (es : List Entity) (i : Id) (vs : List Value) → length vs ≡ length es
    → ((k : ℕ) → k < length es → get_or vs k zeros ≡ value_in (held_in cs k) i) → vs ≡ values_held (rows_from cs 0 es) i
values_ext cs es i vs long each =
    let nobody : Entity = record { index = 0; generation = 0 } in
    let nothing : TableRow = record { entity = nobody; held = [] } in
    let n : length (values_held (rows_from cs 0 es) i) ≡ length es = length-map (rows_from cs 0 es) (λ r. value_in r.held i) ∙ length-rows cs 0 es in
    ext_get_or zeros vs (values_held (rows_from cs 0 es) i) (long ∙ sym n)
    (λ k within.
    let in_es : k < length es = rw long at within in
    each k in_es
    ∙ sym (get_or-map (λ (x : TableRow). value_in x.held i) (rows_from cs 0 es) k nothing zeros (rw (length-rows cs 0 es) in_es)
    ∙ ap (λ (x : TableRow). value_in x.held i) (get_or-rows cs es k nobody nothing in_es)))

pub values_at : (cs : List ColumnState) (es : List Entity) (p : ℕ) (i : Id) (d : ColumnState) → slice_get (map (λ c. c.id) cs) p ≡ Some i
    → IsTrue (is_ascending id_cmp (map (λ c. c.id) cs)) → All (λ c. length c.values ≡ length es) cs
    → (get_or cs p d).values ≡ values_held (rows_from cs 0 es) i
values_at cs es p i d at up even =
    values_ext cs es i (get_or cs p d).values (even p d (place_within cs p i at))
    (λ k within. sym (ap (λ o. unwrap_or o zeros) (found_at cs p i at (λ c. get_or c.values k zeros) d up)))

pub values_absent : (cs : List ColumnState) (es : List Entity) (i : Id) → has_item id_cmp (map (λ c. c.id) cs) i ≡ false
    → replicate (length es) zeros ≡ values_held (rows_from cs 0 es) i
values_absent cs es i none =
    values_ext cs es i (replicate (length es) zeros) (length-replicate (length es) zeros)
    (λ k within. get_or-replicate (length es) k zeros zeros within
    ∙ sym (ap (λ o. unwrap_or o zeros) (find-absent (λ c. get_or c.values k zeros) cs i none)))

-- a write
pub written_rows : (cs : List ColumnState) (es : List Entity) (row : ℕ) (i : Id) (v : Value) (r : TableRow)
    → All (λ c. length c.values ≡ length es) cs → row < length es
    → rows_from (map (λ c. written c row i v) cs) 0 es
    ≡ set (rows_from cs 0 es) row
    (record { entity = (get_or (rows_from cs 0 es) row r).entity; held = with_held (get_or (rows_from cs 0 es) row r).held i v })
written_rows cs es row i v r even there =
    let new : TableRow = record { entity = (get_or (rows_from cs 0 es) row r).entity; held = with_held (get_or (rows_from cs 0 es) row r).held i v } in
    let ds = map (λ c. written c row i v) cs in
    rows_ext ds cs es es (set (rows_from cs 0 es) row new) r.entity r
    (length-set (rows_from cs 0 es) row new ∙ length-rows cs 0 es)
    (λ j within. elim (cases_eq j row) [
      | inl same ↦
          let was = get_or-rows cs es row r.entity r there in
          (λ t. row_of (get_or es (same t) r.entity) ds (same t))
          ∙ (λ t. record { entity = get_or es row r.entity; held = written_here cs row i v (λ k d in_cs. rw (even k d in_cs) there) t })
          ∙ sym (λ t. record { entity = (was t).entity; held = with_held (was t).held i v })
          ∙ sym (ap (λ k. get_or (set (rows_from cs 0 es) row new) k r) same ∙ get_or-set_same (rows_from cs 0 es) row new r
          (rw (length-rows cs 0 es) there))
      | inr other ↦
          (λ t. record {
            entity = get_or es j r.entity;
            held = held_same (λ c. written c row i v) cs j j (λ k d in_cs. written_there (get_or cs k d) row j i v other) t;
          })
          ∙ sym (get_or-rows cs es j r.entity r within)
          ∙ sym (get_or-set_other (rows_from cs 0 es) row j new r other)
    ])
  where
    written_there : (c : ColumnState) (row j : ℕ) (i : Id) (v : Value) → j ≢ row
        → ((written c row i v).id ≡ c.id) × (get_or (written c row i v).values j zeros ≡ get_or c.values j zeros)
    written_there c row j i v other = by (id_eq c.id i)
      where
        by : (b : Bool) → ((if b then column_with_value c row v else c).id ≡ c.id) ×
            (get_or (if b then column_with_value c row v else c).values j zeros ≡ get_or c.values j zeros)
        by true = (refl, get_or-set_other c.values row j v zeros other)
        by false = (refl, refl)

    written_here : (ds : List ColumnState) (row : ℕ) (i : Id) (v : Value) → All (λ c. row < length c.values) ds
        → held_in (map (λ c. written c row i v) ds) row ≡ with_held (held_in ds row) i v
    written_here [] row i v all = refl
    written_here (d ∷ ds) row i v all =
        let rest = written_here ds row i v (All-tail (λ c. row < length c.values) d ds all) in
        let here = by (id_eq d.id i) (All-head (λ c. row < length c.values) d ds all) in
        λ t. here t ∷ rest t
      where
        by : (b : Bool) → row < length d.values
            → ◌≡◌ {A = Id × Value} ((if b then column_with_value d row v else d).id, get_or (if b then column_with_value d row v else d).values row zeros)
            (if b then (d.id, v) else (d.id, get_or d.values row zeros))
        by true h = ap (λ x. (d.id, x)) (get_or-set_same d.values row v zeros h)
        by false h = refl

-- the rows under columns that have only more room
pub contents_rows : (cs ds : List ColumnState) (k : ℕ) (es : List Entity) → map contents ds ≡ map contents cs → rows_from ds k es ≡ rows_from cs k es
contents_rows cs ds k [] same = refl
contents_rows cs ds k (e ∷ es) same =
    let held : held_in ds k ≡ held_in cs k = held_of ds k ∙ ap (λ xs. map (λ p. (p.0.0, get_or p.1 k zeros)) xs) same ∙ sym (held_of cs k) in
    let rest = contents_rows cs ds (suc k) es same in
    λ t. record { entity = e; held = held t } ∷ rest t
  where
    held_of : (xs : List ColumnState) (k : ℕ) → held_in xs k ≡ map (λ p. (p.0.0, get_or p.1 k zeros)) (map contents xs)
    held_of [] k = refl
    held_of (x ∷ xs) k = ap (λ ys. (x.id, get_or x.values k zeros) ∷ ys) (held_of xs k)

pub length-contents : (cs ds : List ColumnState) → map contents ds ≡ map contents cs → length ds ≡ length cs
length-contents cs ds same = sym (length-map ds contents) ∙ ap length same ∙ length-map cs contents

pub contents_kinds : (cs ds : List ColumnState) → map contents ds ≡ map contents cs → map kind_of ds ≡ map kind_of cs
contents_kinds cs ds same = firsts ds ∙ ap (map (λ p. p.0)) same ∙ sym (firsts cs)
  where
    firsts : (xs : List ColumnState) → map kind_of xs ≡ map (λ p. p.0) (map contents xs)
    firsts [] = refl
    firsts (x ∷ xs) = ap (λ ys. kind_of x ∷ ys) (firsts xs)

-- columns that were written over but for their room
pub refilled_columns : (n : ℕ) (ds slice cs : List ColumnState) → map contents ds ≡ map contents slice → slice ≡ cs → n ≡ length cs
    → (map contents ds ≡ map contents cs) × (take n (ds ++ drop (length ds) cs) ≡ ds)
refilled_columns n ds slice cs same is len =
    let all : map contents ds ≡ map contents cs = same ∙ ap (map contents) is in
    (all, refilled n ds cs (length-contents cs ds all) (sym len))

-- columns that took the rows of another table
pub joined_columns : (n : ℕ) (ds slice cs from source : List ColumnState) (fs es : List Entity)
    → map contents ds ≡ map contents (map (λ x. lengthened x (values_held (rows_from from 0 fs) x.id)) slice)
    → slice ≡ cs → from ≡ source → fs ≡ es → n ≡ length cs
    → (map contents ds ≡ map contents (map (λ x. lengthened x (values_held (rows_from source 0 es) x.id)) cs))
    × (take n (ds ++ drop (length ds) cs) ≡ ds)
joined_columns n ds slice cs from source fs es same is read listed len =
    let whole : List ColumnState = map (λ x. lengthened x (values_held (rows_from source 0 es) x.id)) cs in
    let all : map contents ds ≡ map contents whole =
    same ∙ (λ t. map contents (map (λ x. lengthened x (values_held (rows_from (read t) 0 (listed t)) x.id)) (is t))) in
    (all, refilled n ds cs (length-contents whole ds all ∙ length-map cs (λ x. lengthened x (values_held (rows_from source 0 es) x.id))) (sym len))

-- they show the same table
pub same_table : (ids : List Id) (es : List Entity) (cs ds : List ColumnState) (room : ℕ) → map contents ds ≡ map contents cs
    → table_of ids ds es room ≡ table_of ids cs es room
same_table ids es cs ds room same =
    let kinds = contents_kinds cs ds same in
    let rows = contents_rows cs ds 0 es same in
    λ t. record {
      ids = ids;
      widths = map (width_among (kinds t)) ids;
      rows = map (retyped_row ids) (rows t);
      room = room;
    }

pub kinds_same : (f : ColumnState → ColumnState) → ((c : ColumnState) → kind_of (f c) ≡ kind_of c) → (cs : List ColumnState)
    → map kind_of (map f cs) ≡ map kind_of cs
kinds_same f same [] = refl
kinds_same f same (c ∷ cs) = λ t. same c t ∷ kinds_same f same cs t

-- the table under columns of the same kinds
pub changed_table : (ids : List Id) (cs ds : List ColumnState) (es : List Entity) (room room' : ℕ) (rows : List TableRow)
    → map kind_of ds ≡ map kind_of cs
    → rows_of ids ds es ≡ rows → room ≡ room'
    → table_of ids ds es room ≡ record { ids = ids; widths = map (width_among (map kind_of cs)) ids; rows = rows; room = room' }
changed_table ids cs ds es room room' rows kinds shown left = λ t.
    record { ids = ids; widths = map (width_among (kinds t)) ids; rows = shown t; room = left t }

-- so it is where they were mapped
pub mapped_table : (ids : List Id) (f : ColumnState → ColumnState) (cs ds : List ColumnState) (es : List Entity) (room room' : ℕ) (rows : List TableRow)
    → ((c : ColumnState) → kind_of (f c) ≡ kind_of c) → ds ≡ map f cs → rows_of ids ds es ≡ rows → room ≡ room'
    → table_of ids ds es room ≡ record { ids = ids; widths = map (width_among (map kind_of cs)) ids; rows = rows; room = room' }
mapped_table ids f cs ds es room room' rows same mapped = changed_table ids cs ds es room room' rows (ap (map kind_of) mapped ∙ kinds_same f same cs)

pub written_kind : (row : ℕ) (i : Id) (v : Value) (c : ColumnState) → kind_of (written c row i v) ≡ kind_of c
written_kind row i v c = by (id_eq c.id i)
  where
    by : (b : Bool) → kind_of (if b then column_with_value c row v else c) ≡ kind_of c
    by true = refl
    by false = refl

pub ids_of_kinds : (cs : List ColumnState) → map (λ k. k.0) (map kind_of cs) ≡ map (λ c. c.id) cs
ids_of_kinds [] = refl
ids_of_kinds (c ∷ cs) = ap (λ is. c.id ∷ is) (ids_of_kinds cs)

ids_held : (cs : List ColumnState) (k : ℕ) → map (λ p. p.0) (held_in cs k) ≡ map (λ c. c.id) cs
ids_held [] k = refl
ids_held (c ∷ cs) k = ap (λ is. c.id ∷ is) (ids_held cs k)

-- a write of an id that isn't held
unwritten : (held : List (Id × Value)) (i : Id) (v : Value) → has_item id_cmp (map (λ p. p.0) held) i ≡ false → with_held held i v ≡ held
unwritten [] i v none = refl
unwritten (p ∷ held) i v none = by (id_eq p.0 i) refl (unwritten held i v)
  where
    by : (b : Bool) → id_eq p.0 i ≡ b → (has_item id_cmp (map (λ q. q.0) held) i ≡ false → with_held held i v ≡ held)
        → with_held (p ∷ held) i v ≡ p ∷ held
    by true e rest = let bad = rw e at none in cc
    by false e rest = let later = rw e at none in rw e (ap (λ xs. p ∷ xs) (rest later))

-- what the columns say of the type
module _ (ids : List Id) (cs : List ColumnState) (kinds : AreKinds ids (map kind_of cs)) where
  pub ascends : IsTrue (is_ascending id_cmp (map (λ c. c.id) cs))
  ascends = rw (← ids_of_kinds cs) kinds.ascending

  pub within_ids : (i : Id) → has_item id_cmp (map (λ c. c.id) cs) i ≡ true → has_item id_cmp ids i ≡ true
  within_ids i has = kinds.within i (rw (ids_of_kinds cs) has)

  -- an id that is none of the type's has no column
  pub outside : (i : Id) → has_item id_cmp ids i ≡ false → has_item id_cmp (map (λ c. c.id) cs) i ≡ false
  outside i none = false_from_ne_true _ (λ e. true≢false (sym (within_ids i e) ∙ none))

  -- nor has one without a width
  pub widthless : (i : Id) → width_among (map kind_of cs) i ≡ 0 → has_item id_cmp (map (λ c. c.id) cs) i ≡ false
  widthless i none = false_from_ne_true _ (λ e.
      let some : 1 ≤ width_among (map kind_of cs) i = kinds.wide i (rw (ids_of_kinds cs) e) in omega (arith, none, some))

  pub no_column : (i : Id) → has_item id_cmp (map (λ c. c.id) cs) i ≡ false → width_among (map kind_of cs) i ≡ 0
  no_column i none = width-none (map kind_of cs) i (rw (ids_of_kinds cs) none)

  -- the width of a column is its id's
  pub column_width : (p : ℕ) (i : Id) (d : ColumnState) → slice_get (map (λ c. c.id) cs) p ≡ Some i
      → find id_cmp i (paired ids (map (width_among (map kind_of cs)) ids)) ≡ Some (get_or cs p d).width
  column_width p i d at =
      let there = within_ids i (has_place cs p i at) in
      width-each ids (map kind_of cs) i
      ∙ ap (λ b. if b then Some (width_among (map kind_of cs) i) else None) there
      ∙ ap (λ o. Some (unwrap_or o 0)) (found_at cs p i at (λ c. c.width) d ascends)

  -- an id of the type without a column
  pub widthless_in : (i : Id) → has_item id_cmp ids i ≡ true → has_item id_cmp (map (λ c. c.id) cs) i ≡ false
      → find id_cmp i (paired ids (map (width_among (map kind_of cs)) ids)) ≡ Some 0
  widthless_in i there none =
      width-each ids (map kind_of cs) i
      ∙ ap (λ b. if b then Some (width_among (map kind_of cs) i) else None) there
      ∙ ap Some (no_column i none)

  pub no_width : (i : Id) → has_item id_cmp ids i ≡ false → find id_cmp i (paired ids (map (width_among (map kind_of cs)) ids)) ≡ None
  no_width i none =
      width-each ids (map kind_of cs) i ∙ ap (λ b. if b then Some (width_among (map kind_of cs) i) else None) none

  -- the id at a place
  id_at : (p : ℕ) (d : ColumnState) → p < length cs → slice_get (map (λ c. c.id) cs) p ≡ Some (get_or cs p d).id
  id_at p d there = by cs p there
    where
      by : (xs : List ColumnState) (k : ℕ) → k < length xs → slice_get (map (λ c. c.id) xs) k ≡ Some (get_or xs k d).id
      by [] k h = absurd (omega arith)
      by (x ∷ xs) zero h = refl
      by (x ∷ xs) (suc k) h = by xs k (omega arith)

  pub width_at : (p : ℕ) (d : ColumnState) → p < length cs
      → find id_cmp (get_or cs p d).id (paired ids (map (width_among (map kind_of cs)) ids)) ≡ Some (get_or cs p d).width
  width_at p d there = column_width p (get_or cs p d).id d (id_at p d there)

  -- a value that fits the id fits its column
  pub fits_columns : (i : Id) (v : Value) → ((n : ℕ) → find id_cmp i (paired ids (map (width_among (map kind_of cs)) ids)) ≡ Some n → Fits n v)
      → All (λ c. c.id ≡ i → Fits c.width v) cs
  fits_columns i v fits p d there is =
      fits (get_or cs p d).width (ap (λ x. find id_cmp x (paired ids (map (width_among (map kind_of cs)) ids))) (sym is) ∙ width_at p d there)

  -- what a row of the columns holds for an id that has none
  pub zeros_held : (k : ℕ) (i : Id) → has_item id_cmp (map (λ c. c.id) cs) i ≡ false → value_in (held_in cs k) i ≡ zeros
  zeros_held k i none = ap (λ o. unwrap_or o zeros) (find-absent (λ c. get_or c.values k zeros) cs i none)

  -- a table's row holds what the columns hold
  pub held_value : (k : ℕ) (i : Id) → value_in (retyped ids (held_in cs k)) i ≡ value_in (held_in cs k) i
  held_value k i = value-retyped ids (held_in cs k) i ∙ by (has_item id_cmp ids i) refl
    where
      by : (b : Bool) → has_item id_cmp ids i ≡ b → (if b then value_in (held_in cs k) i else zeros) ≡ value_in (held_in cs k) i
      by true e = refl
      by false e = sym (zeros_held k i (outside i e))

  -- a value that is written in a row
  pub written_held : (k : ℕ) (i : Id) (v : Value)
      → ((n : ℕ) → find id_cmp i (paired ids (map (width_among (map kind_of cs)) ids)) ≡ Some n → Fits n v)
      → retyped ids (with_held (held_in cs k) i v) ≡ with_held (retyped ids (held_in cs k)) i v
  written_held k i v fits =
      retyped-written ids (held_in cs k) (with_held (held_in cs k) i v) i v
      (λ there. by (has_item id_cmp (map (λ c. c.id) cs) i) refl there)
      (λ j other. value-other (held_in cs k) i j v other)
    where
      by : (b : Bool) → has_item id_cmp (map (λ c. c.id) cs) i ≡ b → has_item id_cmp ids i ≡ true → value_in (with_held (held_in cs k) i v) i ≡ v
      by true e there = value-written (held_in cs k) i v (rw (ids_held cs k) e)
      by false e there =
          let none : has_item id_cmp (map (λ p. p.0) (held_in cs k)) i ≡ false = rw (ids_held cs k) e in
          ap (λ held. value_in held i) (unwritten (held_in cs k) i v none) ∙ zeros_held k i e ∙ sym (fits 0 (widthless_in i there e))

  -- what is read row by row
  pub shown_rows : (k : ℕ) (es : List Entity) (i : Id) → values_held (map (retyped_row ids) (rows_from cs k es)) i ≡ values_held (rows_from cs k es) i
  shown_rows k [] i = refl
  shown_rows k (e ∷ es) i =
      let there = shown_rows (suc k) es i in
      λ t. held_value k i t ∷ there t

  pub narrow : (i : Id) → has_item id_cmp (map (λ c. c.id) cs) i ≡ false
      → unwrap_or (find id_cmp i (paired ids (map (width_among (map kind_of cs)) ids))) 0 ≡ 0
  narrow i none = ap (λ o. unwrap_or o 0) (width-each ids (map kind_of cs) i) ∙ by (has_item id_cmp ids i)
    where
      by : (b : Bool) → unwrap_or (if b then Some (width_among (map kind_of cs) i) else None) 0 ≡ 0
      by true = no_column i none
      by false = refl

-- rows that get the values of rows elsewhere: of ids in both types, which are as wide in both
module _ (ids sids : List Id) (cs ds : List ColumnState) (own : AreKinds ids (map kind_of cs)) (others : AreKinds sids (map kind_of ds))
    (agree : (i : Id) (m n : ℕ) → find id_cmp i (paired ids (map (width_among (map kind_of cs)) ids)) ≡ Some m
    → find id_cmp i (paired sids (map (width_among (map kind_of ds)) sids)) ≡ Some n → m ≡ n) where
  pub same_held : (k : ℕ) → retyped ids (retyped (map (λ c. c.id) cs) (held_in ds k)) ≡ retyped ids (retyped sids (held_in ds k))
  same_held k =
      same_within ids (value_in (retyped (map (λ c. c.id) cs) (held_in ds k))) (value_in (retyped sids (held_in ds k)))
      (λ i there. value-retyped (map (λ c. c.id) cs) (held_in ds k) i
      ∙ by i there (has_item id_cmp (map (λ c. c.id) cs) i) refl (has_item id_cmp sids i) refl
      ∙ sym (value-retyped sids (held_in ds k) i))
    where
      by : (i : Id) → has_item id_cmp ids i ≡ true → (b : Bool) → has_item id_cmp (map (λ c. c.id) cs) i ≡ b → (b2 : Bool)
          → has_item id_cmp sids i ≡ b2
          → (if b then value_in (held_in ds k) i else zeros) ≡ (if b2 then value_in (held_in ds k) i else zeros)
      by i there true e true e2 = refl
      by i there true e false e2 = zeros_held sids ds others k i (outside sids ds others i e2)
      by i there false e false e2 = refl
      by i there false e true e2 =
          let width : 0 ≡ width_among (map kind_of ds) i =
          agree i 0 (width_among (map kind_of ds) i) (widthless_in ids cs own i there e)
          (width-each sids (map kind_of ds) i ∙ ap (λ b. if b then Some (width_among (map kind_of ds) i) else None) e2) in
          sym (zeros_held sids ds others k i (widthless sids ds others i (sym width)))

  -- columns of one id are as wide
  pub columns_agree : ColumnsAgree cs ds
  columns_agree p c there q d there2 same =
      agree (get_or cs p c).id (get_or cs p c).width (get_or ds q d).width (width_at ids cs own p c there)
      (ap (λ x. find id_cmp x (paired sids (map (width_among (map kind_of ds)) sids))) same ∙ width_at sids ds others q d there2)

-- rows that change hands, under another type
pub taken_rows : (ids sids : List Id) (ds : List ColumnState) → AreKinds sids (map kind_of ds) → (k : ℕ) (es : List Entity)
    → map (retyped_row ids) (rows_from ds k es) ≡ map (retyped_row ids) (map (retyped_row sids) (rows_from ds k es))
taken_rows ids sids ds kinds k [] = refl
taken_rows ids sids ds kinds k (e ∷ es) =
    let held : retyped ids (held_in ds k) ≡ retyped ids (retyped sids (held_in ds k)) =
    same_within ids (value_in (held_in ds k)) (value_in (retyped sids (held_in ds k))) (λ i there. sym (held_value sids ds kinds k i)) in
    let rest = taken_rows ids sids ds kinds (suc k) es in
    λ t. record { entity = e; held = held t } ∷ rest t

-- a row of zeros
pub zeros_added : (ids : List Id) (cs : List ColumnState) → AreKinds ids (map kind_of cs)
    → retyped ids (retyped (map (λ c. c.id) cs) []) ≡ retyped ids []
zeros_added ids cs kinds =
    same_held ids [] cs [] kinds
    (record { ascending = refl; within = λ i has. has; wide = λ i has. absurd (true≢false (sym has)) })
    (λ i m n own none. let bad : ◌≡◌ {A = Option ℕ} None (Some n) = none in cc) 0

-- rows from a table, under its type
pub same_rows : (ids sids : List Id) (cs ds : List ColumnState)
    → ((k : ℕ) → retyped ids (retyped (map (λ c. c.id) cs) (held_in ds k)) ≡ retyped ids (retyped sids (held_in ds k)))
    → (k : ℕ) (es : List Entity)
    → map (retyped_row ids) (map (retyped_row (map (λ c. c.id) cs)) (rows_from ds k es)) ≡ map (retyped_row ids) (map (retyped_row sids) (rows_from ds k es))
same_rows ids sids cs ds same k [] = refl
same_rows ids sids cs ds same k (e ∷ es) =
    let there = same_rows ids sids cs ds same (suc k) es in
    λ t. record { entity = e; held = same k t } ∷ there t
