-- All rows of a table moved to the end of another, and their entities with them.
use Rattle.eco_store.proofs.Common.{◌≡◌, ◌≢◌, ℕ, zero, suc, ◌+◌, ◌-◌, ◌<◌, ◌≤◌, ◌==◌, ◌&&◌, nat_lt, Bool, true, false}
use Rattle.eco_store.proofs.Common.{if◌then◌else◌, List, [], ◌∷◌, ◌++◌, map, length, slice_get, set, get_or, Option, Some, None, option_map}
use Rattle.eco_store.proofs.Common.{unwrap_or, is_some, IsSome, IsTrue, zero-le, refl, sym, ap, subst, ◌∙◌, arith, inl, inr, cases_eq, le-ltb, ltb-true}
use Rattle.eco_store.proofs.Common.{ltb-false, Decides-ltb, get_or-map, length-map, map-id, slice_get-map, slice_get_past, slice_get_within, slice_get-get_or}
use Rattle.eco_store.proofs.Common.{get_or_from_slice_get, Entity, Id, changed, change_kept, Indexed, IndexState, Retired, Free, Living, is_alive, map_state}
use Rattle.eco_store.proofs.Common.{not_equal, record_at, Place, Registration, placed, TableState, TableRow, retyped_row, entities_of, slot_of, table_in}
use Rattle.eco_store.proofs.Common.{no_row, no_table, MovesAll, AllHaveIds, Transfer, TypeChange, type_at, row_at, changed_record, after_change, Seat}
use Rattle.eco_store.proofs.Common.{seated_entity, seat_of, held_of, record_for, read, seat_in, seat_at, seat_of_place, held_at, HasPlace, IsStore, change_of}
use Rattle.eco_store.proofs.Common.{place_after, placed_after, with_places, Pours, there_by_row, type_there, moves_all_types}
use Rattle.std.proofs.Math.Bool.{and-false}
use Rattle.eco_entities.specs.Rules.{IsRuled}
use Rattle.eco_store.proofs.Retyping.{other_type, own_type}
use Rattle.eco_store.proofs.RowChanges.{is_equal}
use Rattle.eco_store.proofs.RowCounts.{rows_bounded}
use Rattle.eco_archetypes.proofs.Seated.{no_some, one_some, place_from_seat, each_state}
use Rattle.eco_archetypes.proofs.Shows.{has_place}
use Rattle.eco_store.proofs.Views.{alike_set, ext_slice_get}

slice_get-front : {X : Type 0} (xs ys : List X) (i : ℕ) → i < length xs → slice_get (xs ++ ys) i ≡ slice_get xs i
slice_get-front [] ys i within = absurd (omega arith)
slice_get-front (x ∷ xs) ys zero within = refl
slice_get-front (x ∷ xs) ys (suc i) within = slice_get-front xs ys i (omega arith)

slice_get-behind : {X : Type 0} (xs ys : List X) (i : ℕ) → slice_get (xs ++ ys) (length xs + i) ≡ slice_get ys i
slice_get-behind [] ys i = let at : 0 + i ≡ i = omega arith in ap (slice_get ys) at
slice_get-behind (x ∷ xs) ys i =
    let at : length (x ∷ xs) + i ≡ suc (length xs + i) = omega arith in ap (slice_get (x ∷ xs ++ ys)) at ∙ slice_get-behind xs ys i

-- ---- places

module _ (t : Transfer) (end count : ℕ) (p : Place) where
  pub placed_there : p.table ≡ t.from → p.row < count → place_after t end count p ≡ record { table = t.to; row = end + p.row }
  placed_there here below = rw (is_equal p.table t.from here, (Decides-ltb p.row count).1 below) refl

  placed_elsewhere : p.table ≢ t.from → place_after t end count p ≡ p
  placed_elsewhere other = rw (not_equal p.table t.from other) refl

  placed_later : count ≤ p.row → place_after t end count p ≡ p
  placed_later above = rw (le-ltb p.row count above, and-false (p.table == t.from)) refl

  -- the next row does not touch other places
  placed_alike : (p.table ≡ t.from → p.row ≢ count) → place_after t end count p ≡ place_after t end (count + 1) p
  placed_alike apart =
      elim (cases_eq p.table t.from) [
        | inr other ↦ rw (not_equal p.table t.from other) refl
        | inl here ↦ ap (λ b. if p.table == t.from && b then record { table = t.to; row = end + p.row } else p) (by (nat_lt p.row count) refl (apart here))
      ]
    where
      by : (b : Bool) → nat_lt p.row count ≡ b → p.row ≢ count → nat_lt p.row count ≡ nat_lt p.row (count + 1)
      by true below other = below ∙ sym ((Decides-ltb p.row (count + 1)).1 (let less = ltb-true p.row count below in omega (arith, less)))
      by false above other =
          let past = ltb-false p.row count above in
          let more : count < p.row = omega (arith, past, other) in
          above ∙ sym (le-ltb p.row (count + 1) (omega (arith, more)))

-- before the first row nothing changed
pub places_before : (w : Indexed Registration) (t : Transfer) (end : ℕ) → with_places w t end 0 ≡ w
places_before w t end = λ i. record w { indices = (ap (λ f. map f w.indices) (λ j x. of_state x j) ∙ map-id w.indices) i }
  where
    of_place : (o : Option Place) → option_map (place_after t end 0) o ≡ o
    of_place None = refl
    of_place (Some p) = ap Some (placed_later t end 0 p zero-le)

    of_state : (x : IndexState Registration) → map_state (placed_after t end 0) x ≡ x
    of_state Retired = refl
    of_state (Free g) = refl
    of_state (Living g r) = λ i. Living g (record r { place = of_place r.place i })

-- the entity in the next row is placed
module _ (w : Indexed Registration) (s : List (Option TableState)) (store : IsStore w s) (t : Transfer) (end count : ℕ) (e : Entity)
    (seat : seat_at w e.index ≡ Some (seat_of e t.from count)) where
  own : (r : Registration) × (slice_get w.indices e.index ≡ Some (Living e.generation r)) × (r.place ≡ Some (record { table = t.from; row = count }))
  own = place_from_seat (slice_get w.indices e.index) e t.from count seat

  unplaced : slice_get (with_places w t end count).indices e.index ≡ Some (Living e.generation own.0)
  unplaced =
      slice_get-map (map_state (placed_after t end count)) w.indices e.index ∙ ap (option_map (map_state (placed_after t end count))) own.1
      ∙ (λ i. Some (Living e.generation (record own.0 {
        place = (ap (option_map (place_after t end count)) own.2
            ∙ ap Some (placed_later t end count (record { table = t.from; row = count }) refl-le) ∙ sym own.2) i;
      })))
    where
      refl-le : count ≤ count
      refl-le = omega arith

  pub next_alive : IsTrue (is_alive (with_places w t end count) e)
  next_alive = ap is_some (record_at (with_places w t end count) e own.0 unplaced)

  -- no other entity has that place
  only : (j g : ℕ) (r : Registration) (p : Place) → j ≢ e.index → slice_get w.indices j ≡ Some (Living g r) → r.place ≡ Some p
      → p.table ≡ t.from
      → p.row ≢ count
  only j g r p other at is here row =
      let mine = store.seated.there e.index (seat_of e t.from count) seat in
      let its = store.seated.there j (seat_of_place g p) (ap seat_in at ∙ ap (option_map (seat_of_place g)) is) in
      let same = one_some (row_at s t.from count) its.0 mine.0 (sym (λ i. row_at s (here i) (row i)) ∙ its.1) mine.1 in
      other (ap (λ (x : Entity). x.index) (sym its.2 ∙ ap (λ (x : TableRow). x.entity) same ∙ mine.2))

  alike : (j : ℕ) → j ≢ e.index → (o : Option (IndexState Registration)) → slice_get w.indices j ≡ o
      → option_map (map_state (placed_after t end count)) o ≡ option_map (map_state (placed_after t end (count + 1))) o
  alike j other None at = refl
  alike j other (Some Retired) at = refl
  alike j other (Some (Free g)) at = refl
  alike j other (Some (Living g r)) at = λ i. Some (Living g (record r { place = by r.place refl i }))
    where
      by : (o : Option Place) → r.place ≡ o → option_map (place_after t end count) o ≡ option_map (place_after t end (count + 1)) o
      by None is = refl
      by (Some p) is = ap Some (placed_alike t end count p (only j g r p other at is))

  pub next_placed : changed (with_places w t end count) e (placed (record { table = t.to; row = end + count })) ≡ with_places w t end (count + 1)
  next_placed =
      ap (change_kept (with_places w t end count) e (placed (record { table = t.to; row = end + count })))
      (record_at (with_places w t end count) e own.0 unplaced)
      ∙ (λ i. record w { indices = indices i })
    where
      new : IndexState Registration
      new = Living e.generation (placed (record { table = t.to; row = end + count }) own.0)

      here : slice_get (with_places w t end (count + 1)).indices e.index ≡ Some new
      here =
          slice_get-map (map_state (placed_after t end (count + 1))) w.indices e.index ∙ ap (option_map (map_state (placed_after t end (count + 1)))) own.1
          ∙ (λ i. Some (Living e.generation (record own.0 {
            place = (ap (option_map (place_after t end (count + 1))) own.2
                ∙ ap Some (placed_there t end (count + 1) (record { table = t.from; row = count }) refl (omega arith))) i;
          })))

      indices : set (with_places w t end count).indices e.index new ≡ (with_places w t end (count + 1)).indices
      indices =
          sym (alike_set (with_places w t end (count + 1)).indices (with_places w t end count).indices e.index new _ unplaced here (λ j other.
          slice_get-map (map_state (placed_after t end (count + 1))) w.indices j ∙ sym (alike j other (slice_get w.indices j) refl)
          ∙ sym (slice_get-map (map_state (placed_after t end count)) w.indices j)))

-- who stands in a row has its seat
pub seat_of_row : (w : Indexed Registration) (s : List (Option TableState)) (n k : ℕ) (es : List Entity) (d : Entity) → IsStore w s
    → es ≡ entities_of (table_in s n).rows → k < length es → seat_at w (get_or es k d).index ≡ Some (seat_of (get_or es k d) n k)
seat_of_row w s n k es d store is within =
    let rows = (table_in s n).rows in
    let as_many : length es ≡ length rows = ap length is ∙ length-map rows (λ (r : TableRow). r.entity) in
    let there : k < length rows = omega (arith, as_many, within) in
    let who : (get_or rows k no_row).entity ≡ get_or es k d =
    sym (get_or-map (λ (r : TableRow). r.entity) rows k no_row d there) ∙ ap (λ xs. get_or xs k d) (sym is) in
    subst (λ (x : Entity). seat_at w x.index ≡ Some (seat_of x n k)) who
    (store.seated.back n k (get_or rows k no_row) (slice_get-get_or rows k no_row there))

-- its place behind the rows of another table can be kept
pub row_fits : (w : Indexed Registration) (s : List (Option TableState)) (n m k end : ℕ) (es : List Entity) → IsRuled w → IsStore w s
    → es ≡ entities_of (table_in s n).rows → k < length es → end ≡ length (table_in s m).rows → end + k < 4294967295
row_fits w s n m k end es ruled store is within behind =
    let as_many : length es ≡ length (table_in s n).rows = ap length is ∙ length-map (table_in s n).rows (λ (r : TableRow). r.entity) in
    omega (arith, as_many, within, behind, rows_bounded w s ruled store n, rows_bounded w s ruled store m)

-- ---- rows and places

module _ (w : Indexed Registration) (s s1 : List (Option TableState)) (t : Transfer) (store : IsStore w s) (apart : t.from ≢ t.to)
    (moves : MovesAll s s1 t.from t.to) where
  abbrev end : ℕ
  end = length (table_in s t.to).rows

  abbrev count : ℕ
  count = length (table_in s t.from).rows

  abbrev ids : List Id
  ids = (table_in s t.to).ids

  abbrev w1 : Indexed Registration
  w1 = with_places w t end count

  abbrev after : Place → Place
  after = place_after t end count

  emptied : (table_in s1 t.from).rows ≡ []
  emptied = ap (λ o. (unwrap_or o no_table).rows) moves.source

  filled : (table_in s1 t.to).rows ≡ (table_in s t.to).rows ++ map (retyped_row ids) (table_in s t.from).rows
  filled = ap (λ o. (unwrap_or o no_table).rows) moves.target

  came : (k : ℕ) → row_at s1 t.to (end + k) ≡ option_map (retyped_row ids) (row_at s t.from k)
  came k =
      ap (λ rows. slice_get rows (end + k)) filled ∙ slice_get-behind (table_in s t.to).rows (map (retyped_row ids) (table_in s t.from).rows) k
      ∙ slice_get-map (retyped_row ids) (table_in s t.from).rows k

  stayed : (n k : ℕ) (r : TableRow) → n ≢ t.from → row_at s n k ≡ Some r → row_at s1 n k ≡ Some r
  stayed n k r other at =
      elim (cases_eq n t.to) [
        | inl here ↦
            let old : row_at s t.to k ≡ Some r = ap (λ m. row_at s m k) (sym here) ∙ at in
            ap (λ m. row_at s1 m k) here ∙ ap (λ rows. slice_get rows k) filled
            ∙ slice_get-front (table_in s t.to).rows _ k (slice_get_within (table_in s t.to).rows k r old) ∙ old
        | inr not_to ↦ ap (λ o. slice_get (unwrap_or o no_table).rows k) (moves.others n other not_to) ∙ at
      ]

  -- the place of a row that went, and of one that stayed
  place_went : (p : Place) (r : TableRow) → p.table ≡ t.from → row_at s p.table p.row ≡ Some r
      → after p ≡ record { table = t.to; row = end + p.row }
  place_went p r here at =
      placed_there t end count p here (slice_get_within (table_in s t.from).rows p.row r (ap (λ m. row_at s m p.row) (sym here) ∙ at))

  row_went : (p : Place) (r : TableRow) → p.table ≡ t.from → row_at s p.table p.row ≡ Some r
      → row_at s1 (after p).table (after p).row ≡ Some (retyped_row ids r)
  row_went p r here at =
      ap (λ (q : Place). row_at s1 q.table q.row) (place_went p r here at) ∙ came p.row
      ∙ ap (option_map (retyped_row ids)) (ap (λ m. row_at s m p.row) (sym here) ∙ at)

  row_stayed : (p : Place) (r : TableRow) → p.table ≢ t.from → row_at s p.table p.row ≡ Some r → row_at s1 (after p).table (after p).row ≡ Some r
  row_stayed p r other at =
      ap (λ (q : Place). row_at s1 q.table q.row) (placed_elsewhere t end count p other) ∙ stayed p.table p.row r other at

  -- each entity's row is where its place says
  found : (p : Place) (r : TableRow) → row_at s p.table p.row ≡ Some r
      → (x : TableRow) × (row_at s1 (after p).table (after p).row ≡ Some x) × (x.entity ≡ r.entity)
  found p r at =
      elim (cases_eq p.table t.from) [
        | inl here ↦ (retyped_row ids r, row_went p r here at, refl)
        | inr other ↦ (r, row_stayed p r other at, refl)
      ]

  -- each row came from somewhere
  came_from : (n k : ℕ) (x : TableRow) → row_at s1 n k ≡ Some x
      → (p : Place) × (r : TableRow) × (row_at s p.table p.row ≡ Some r) × (r.entity ≡ x.entity) × (after p ≡ record { table = n; row = k })
  came_from n k x at =
      elim (cases_eq n t.from) [
        | inl here ↦
            absurd (no_some (slice_get [] k) x (slice_get_past [] k zero-le)
            (sym (ap (λ rows. slice_get rows k) emptied) ∙ ap (λ m. row_at s1 m k) (sym here) ∙ at))
        | inr not_from ↦ elim (cases_eq n t.to) [
          | inr not_to ↦ (
            record { table = n; row = k },
            x,
            sym (ap (λ o. slice_get (unwrap_or o no_table).rows k) (moves.others n not_from not_to)) ∙ at,
            refl,
            placed_elsewhere t end count (record { table = n; row = k }) not_from,
          )
          | inl here ↦ by (nat_lt k end) refl here (ap (λ m. row_at s1 m k) (sym here) ∙ at)
        ]
      ]
    where
      by : (b : Bool) → nat_lt k end ≡ b → n ≡ t.to → row_at s1 t.to k ≡ Some x
          → (p : Place) × (r : TableRow) × (row_at s p.table p.row ≡ Some r) × (r.entity ≡ x.entity) × (after p ≡ record { table = n; row = k })
      by true below here there = (
        record { table = n; row = k },
        x,
        ap (λ m. row_at s m k) here
            ∙ sym (ap (λ rows. slice_get rows k) filled ∙ slice_get-front (table_in s t.to).rows _ k (ltb-true k end below)) ∙ there,
        refl,
        placed_elsewhere t end count (record { table = n; row = k }) (λ e. apart (sym e ∙ here)),
      )
      by false above here there =
          let past : end ≤ k = ltb-false k end above in
          let at_k : end + (k - end) ≡ k = omega (arith, past) in
          let row = mapped (row_at s t.from (k - end)) (sym (came (k - end)) ∙ ap (row_at s1 t.to) at_k ∙ there) in (
            record { table = t.from; row = k - end },
            row.0,
            row.1,
            ap (λ (r : TableRow). r.entity) row.2,
            place_went (record { table = t.from; row = k - end }) row.0 refl row.1 ∙ (λ i. record { table = sym here i; row = at_k i }),
          )
        where
          mapped : (o : Option TableRow) → option_map (retyped_row ids) o ≡ Some x → (r : TableRow) × (o ≡ Some r) × (retyped_row ids r ≡ x)
          mapped None h = absurd (no_some None x refl h)
          mapped (Some r) h = (r, refl, one_some (Some (retyped_row ids r)) (retyped_row ids r) x refl h)

  -- the seat that an entity had, and the one that it has
  abbrev seat_after : Seat → Seat
  seat_after q = seat_of_place q.generation (after (record { table = q.slot; row = q.row }))

  seats : (j : ℕ) → seat_at w1 j ≡ option_map seat_after (seat_at w j)
  seats j = ap seat_in (slice_get-map (map_state (placed_after t end count)) w.indices j)
      ∙ each_state (λ o. seat_in (option_map (map_state (placed_after t end count)) o) ≡ option_map seat_after (seat_in o)) refl refl (λ g. refl)
      (λ g r. of_place g r.place) (slice_get w.indices j)
    where
      of_place : (g : ℕ) (o : Option Place) → option_map (seat_of_place g) (option_map after o) ≡ option_map seat_after (option_map (seat_of_place g) o)
      of_place g None = refl
      of_place g (Some p) = refl

  pub whole_store : IsStore w1 s1
  whole_store = record {
    seated = record {
      there = λ j q at.
          let old = had (seat_at w j) q (sym (seats j) ∙ at) in
          let row = store.seated.there j old.0 old.1 in
          let now = found (record { table = old.0.slot; row = old.0.row }) row.0 row.1 in
          (now.0, ap (λ (x : Seat). row_at s1 x.slot x.row) (sym old.2) ∙ now.1, now.2 ∙ row.2 ∙ ap (seated_entity j) old.2);
      back = λ n k x at.
          let from = came_from n k x at in
          seats x.entity.index
          ∙ ap (option_map seat_after) (sym (ap (λ (e : Entity). seat_at w e.index) from.3) ∙ store.seated.back from.0.table from.0.row from.1 from.2)
          ∙ (λ i. Some (seat_of_place (from.3 i).generation (from.4 i)));
    };
    placed = λ j. subst HasPlace (sym (slice_get-map (map_state (placed_after t end count)) w.indices j)) (has (slice_get w.indices j) (store.placed j));
  }
    where
      had : (o : Option Seat) (q : Seat) → option_map seat_after o ≡ Some q → (x : Seat) × (o ≡ Some x) × (seat_after x ≡ q)
      had None q h = absurd (no_some None q refl h)
      had (Some x) q h = (x, refl, one_some (Some (seat_after x)) (seat_after x) q refl h)

      has_one : (o : Option Place) → IsSome o → IsSome (option_map after o)
      has_one None h = h
      has_one (Some p) h = refl

      has : (o : Option (IndexState Registration)) → HasPlace o → HasPlace (option_map (map_state (placed_after t end count)) o)
      has =
          each_state (λ o. HasPlace o → HasPlace (option_map (map_state (placed_after t end count)) o)) (λ h. h) (λ h. h) (λ g h. h)
          (λ g r. has_one r.place)

  pub whole_pours : IsSome (slot_of s t.from) → IsSome (slot_of s t.to) → Pours s s1 t.from t.to
  whole_pours source target = record {
    types = moves_all_types s s1 t.from t.to moves source target;
    emptied = ap length emptied;
    room = let left = ap (λ o. (unwrap_or o no_table).room) moves.target in omega (arith, left);
    others = moves.others;
  }

  module _ (have : AllHaveIds s) (kinds : (m k : ℕ) (xs : List Id) → type_at s m ≡ Some xs → type_at s k ≡ Some xs → m ≡ k)
      (source : IsSome (slot_of s t.from)) where
    abbrev change : TypeChange
    change = change_of s t

    row_type : (p : Place) (r : TableRow) → row_at s p.table p.row ≡ Some r → map (λ x. x.0) r.held ≡ (table_in s p.table).ids
    row_type p r at =
        let rows = (table_in s p.table).rows in
        sym (ap (λ (x : TableRow). map (λ y. y.0) x.held) (get_or_from_slice_get rows p.row r no_row at))
        ∙ have p.table p.row no_row (slice_get_within rows p.row r at)

    changes : (x : Registration) (p : Place) (r : TableRow) → x.place ≡ Some p → row_at s p.table p.row ≡ Some r
        → record_for (row_at s1) (placed_after t end count x) ≡ changed_record change (record_for (row_at s) x)
    changes x p r is at =
        let old : record_for (row_at s) x ≡ record { name = x.name; arity = x.arity; held = r.held } = λ i. record {
          name = x.name;
          arity = x.arity;
          held = (ap (λ o. held_at (row_at s) o) is ∙ ap held_of at) i;
        } in
        let new : record_for (row_at s1) (placed_after t end count x) ≡
        record { name = x.name; arity = x.arity; held = held_of (row_at s1 (after p).table (after p).row) } =
        λ i. record { name = x.name; arity = x.arity; held = held_at (row_at s1) (option_map after (is i)) } in
        new ∙ elim (cases_eq p.table t.from) [
          | inl here ↦
              (λ i. record { name = x.name; arity = x.arity; held = held_of (row_went p r here at i) })
              ∙ sym (own_type change (record { name = x.name; arity = x.arity; held = r.held })
              (row_type p r at ∙ ap (λ n. (table_in s n).ids) here))
          | inr other ↦
              (λ i. record { name = x.name; arity = x.arity; held = held_of (row_stayed p r other at i) })
              ∙ sym (other_type change (record { name = x.name; arity = x.arity; held = r.held })
              (λ same. other (kinds p.table t.from (table_in s t.from).ids
              (type_there s p.table (there_by_row s p.table p.row (slice_get_within (table_in s p.table).rows p.row r at))
              ∙ ap Some (sym (row_type p r at) ∙ same))
              (type_there s t.from source))))
        ] ∙ ap (changed_record change) (sym old)

    pub whole_read : read w1 s1 ≡ after_change (read w s) change
    whole_read = λ i. record {
      limit = w.limit;
      indices = ext_slice_get (read w1 s1).indices (after_change (read w s) change).indices (λ j.
          slice_get-map (map_state (record_for (row_at s1))) w1.indices j
          ∙ ap (option_map (map_state (record_for (row_at s1)))) (slice_get-map (map_state (placed_after t end count)) w.indices j)
          ∙ by j (slice_get w.indices j) refl
          ∙ sym (slice_get-map (map_state (changed_record change)) (read w s).indices j
          ∙ ap (option_map (map_state (changed_record change))) (slice_get-map (map_state (record_for (row_at s))) w.indices j))) i;
    }
      where
        by : (j : ℕ) (o : Option (IndexState Registration)) → slice_get w.indices j ≡ o
            → option_map (map_state (record_for (row_at s1))) (option_map (map_state (placed_after t end count)) o)
            ≡ option_map (map_state (changed_record change)) (option_map (map_state (record_for (row_at s))) o)
        by j None at = refl
        by j (Some Retired) at = refl
        by j (Some (Free g)) at = refl
        by j (Some (Living g x)) at =
            let place = has_place x.place (subst HasPlace at (store.placed j)) in
            let row = store.seated.there j (seat_of_place g place.0) (ap seat_in at ∙ ap (option_map (seat_of_place g)) place.1) in
            ap (λ k. Some (Living g k)) (changes x place.0 row.0 place.1 row.1)
