-- All who stand in a table die, the one in the last row first, and then the table is without rows.
use Rattle.eco_store.proofs.Common.{◌≡◌, ◌≢◌, ℕ, zero, suc, ◌+◌, ◌-◌, ◌<◌, ◌≤◌, ◌||◌, ◌++◌, Bool, true, false, IsTrue}
use Rattle.eco_store.proofs.Common.{IsSome, List, [], ◌∷◌, length, take, drop, set, get_or, slice_get, Option, Some, None, is_some, option_and_then}
use Rattle.eco_store.proofs.Common.{unwrap_or, refl, sym, ap, subst, ◌∙◌, arith, add-one, inl, inr, true≢false, swap_remove, drop-cons}
use Rattle.eco_store.proofs.Common.{take-append_seam, cases_lt, get_or-set_same, get_or-set_other, get_or_past, get_or-map, get_or-take, length-append}
use Rattle.eco_store.proofs.Common.{length-map, length-take-le, take-take, take_all, none-some, slice_get-get_or, slice_get_past, Entity, Indexed, is_alive}
use Rattle.eco_store.proofs.Common.{record_of, with_death, entity_cmp, entity_eq, has_item, living_at, record_at, TableState, TableRow, entities_of, slot_of}
use Rattle.eco_store.proofs.Common.{table_in, no_row, no_table, SetsSlot, Place, Registration, own_place, row_at, SameRows, after_deaths, with_deaths, rows_in}
use Rattle.eco_store.proofs.Common.{SetsRows, TakesRow, seat_of, HasPlace, IsStore, read, seat_at}
use Rattle.std.proofs.Math.ListN.{drop_of_length-le}
use Rattle.indexmap.proofs.MapLemmas.{swap_remove_last}
use Rattle.eco_store.proofs.Dying.{nobody_dies, one_dies}
use Rattle.eco_store.proofs.StoreChanges.{out_read, out_store, still_lives, same_read, same_store}
use Rattle.eco_archetypes.proofs.Seated.{place_from_seat, alive_same}
use Rattle.eco_archetypes.proofs.Shows.{has_place}
use Rattle.eco_store.proofs.Views.{at_each}

abbrev pub no_entity : Entity
no_entity = record { index = 0; generation = 0 }

-- who has no place lives no more
pub unplaced_dead : (w : Indexed Registration) (s : List (Option TableState)) (e : Entity) → IsStore w s → own_place w e ≡ None → is_alive w e ≡ false
unplaced_dead w s e store none = by (record_of w e) refl
  where
    by : (o : Option Registration) → record_of w e ≡ o → is_some o ≡ false
    by None is = refl
    by (Some r) is =
        let place = has_place r.place (subst HasPlace (living_at w e r is) (store.placed e.index)) in
        absurd (none-some place.0 (sym none ∙ ap (option_and_then (λ (x : Registration). x.place)) is ∙ place.1))

-- a list that begins with the entities of some rows
pub begun_rows : (rows : List TableRow) (es : List Entity) → es ≡ entities_of rows ++ drop (length rows) es
    → (take (length rows) es ≡ entities_of rows) × (length rows ≤ length es)
begun_rows rows es begun =
    let long : length (entities_of rows) ≡ length rows = length-map rows (λ (r : TableRow). r.entity) in
    let rest = drop (length rows) es in
    let all : length es ≡ length (entities_of rows) + length rest = ap length begun ∙ length-append (entities_of rows) rest in (
      (λ t. take (sym long t) (begun t)) ∙ take-append_seam (entities_of rows) rest,
      omega (arith, long, all),
    )

swap_last : (xs : List TableRow) (k : ℕ) → k < length xs → swap_remove (take (k + 1) xs) k no_row ≡ take k xs
swap_last xs k within =
    let long : length (take (k + 1) xs) ≡ k + 1 = length-take-le (k + 1) xs (omega (arith, within)) in
    let end : k ≡ length (take (k + 1) xs) - 1 = omega (arith, long) in
    ap (λ m. swap_remove (take (k + 1) xs) m no_row) end ∙ swap_remove_last (take (k + 1) xs) no_row
    ∙ ap (λ m. take m (take (k + 1) xs)) (sym end) ∙ take-take k (k + 1) xs (omega arith)

-- the one before those who died
next_dead : (es : List Entity) (k : ℕ) → k < length es → drop k es ≡ get_or es k no_entity ∷ drop (k + 1) es
next_dead es k within = rw add-one (drop-cons es k no_entity within)

pub one_more_died : {A : Type 0} (w : Indexed A) (es : List Entity) (left : ℕ) → 0 < left → left ≤ length es
    → with_death (with_deaths w (drop left es)) (get_or es (left - 1) no_entity) ≡ with_deaths w (drop (left - 1) es)
one_more_died w es left some within =
    let back : left - 1 + 1 ≡ left = omega (arith, some) in
    sym (ap (with_deaths w) (next_dead es (left - 1) (omega (arith, some, within)))
    ∙ ap (λ k. with_death (with_deaths w (drop k es)) (get_or es (left - 1) no_entity)) back)

one_first : (e : Entity) (es : List Entity) (x : Entity) → has_item entity_cmp (e ∷ es) x ≡ (has_item entity_cmp es x || entity_eq e x)
one_first e es x = by (entity_eq e x) (has_item entity_cmp es x)
  where
    by : (a b : Bool) → (a || b) ≡ (b || a)
    by true true = refl
    by true false = refl
    by false true = refl
    by false false = refl

module _ (w : Indexed Registration) (s : List (Option TableState)) (n : ℕ) (is_store : IsStore w s) (there : IsSome (slot_of s n)) where
  abbrev pub rows : List TableRow
  rows = rows_in s n

  abbrev pub standing : List Entity
  standing = entities_of rows

  -- the table with so many of its first rows
  abbrev pub shortened : ℕ → TableState
  shortened k = record (table_in s n) { rows = take k rows }

  abbrev pub cut : ℕ → List (Option TableState)
  cut k = set s n (Some (shortened k))

  within : n < length s
  within = elim (cases_lt n (length s)) [
    | inl lt ↦ lt
    | inr past ↦ absurd (true≢false (sym there ∙ ap is_some (get_or_past s n None past)))
  ]

  cut_sets : (k : ℕ) → SetsSlot s (cut k) n (Some (shortened k))
  cut_sets k = record {
    changed = get_or-set_same s n (Some (shortened k)) None within;
    others = λ m other. get_or-set_other s n m (Some (shortened k)) None other;
  }

  pub cut_here : (k : ℕ) → rows_in (cut k) n ≡ take k rows
  cut_here k = ap (λ o. (unwrap_or o no_table).rows) (cut_sets k).changed

  pub cut_others : (k m : ℕ) → m ≢ n → rows_in (cut k) m ≡ rows_in s m
  cut_others k m other = ap (λ o. (unwrap_or o no_table).rows) ((cut_sets k).others m other)

  -- who stands in the last row that is left dies next
  module _ (k : ℕ) (within : k < length rows) (store1 : IsStore (with_deaths w (drop (k + 1) standing)) (cut (k + 1))) where
    abbrev w1 : Indexed Registration
    w1 = with_deaths w (drop (k + 1) standing)

    abbrev e : Entity
    e = get_or standing k no_entity

    abbrev p : Place
    p = record { table = n; row = k }

    last_row : row_at (cut (k + 1)) n k ≡ Some (get_or rows k no_row)
    last_row =
        let long : length (take (k + 1) rows) ≡ k + 1 = length-take-le (k + 1) rows (omega (arith, within)) in
        ap (λ xs. slice_get xs k) (cut_here (k + 1)) ∙ slice_get-get_or (take (k + 1) rows) k no_row (omega (arith, long))
        ∙ ap Some (get_or-take (k + 1) rows k no_row (omega arith))

    last_is : (get_or rows k no_row).entity ≡ e
    last_is = sym (get_or-map (λ (r : TableRow). r.entity) rows k no_row no_entity within)

    last_own : own_place w1 e ≡ Some p
    last_own =
        let seat : seat_at w1 e.index ≡ Some (seat_of e n k) =
        subst (λ (x : Entity). seat_at w1 x.index ≡ Some (seat_of x n k)) last_is (store1.seated.back n k (get_or rows k no_row) last_row) in
        let own = place_from_seat (slice_get w1.indices e.index) e n k seat in
        ap (option_and_then (λ (r : Registration). r.place)) (record_at w1 e own.0 own.1) ∙ own.2

    last_takes : TakesRow (rows_in (cut (k + 1))) (rows_in (cut k)) p None
    last_takes = record {
      rows = record {
        changed =
            cut_here k ∙ sym (swap_last rows k within) ∙ sym (ap (λ xs. swap_remove xs k no_row) (cut_here (k + 1)));
        others = λ m other. cut_others k m other ∙ sym (cut_others (k + 1) m other);
      };
      filled =
          let long : length (entities_of (rows_in (cut k) n)) ≡ k =
          length-map (rows_in (cut k) n) (λ (r : TableRow). r.entity) ∙ ap length (cut_here k) ∙ length-take-le k rows (omega (arith, within)) in
          sym (slice_get_past (entities_of (rows_in (cut k) n)) k (omega (arith, long)));
    }

    pub last_lives : IsTrue (is_alive w1 e)
    last_lives = still_lives w1 (cut (k + 1)) (cut k) e p None store1 last_own last_takes.rows.changed last_takes.filled

    last_store : IsStore (with_death w1 e) (cut k)
    last_store = out_store w1 (cut (k + 1)) (cut k) e p None store1 last_own last_takes.rows.changed last_takes.filled last_takes.rows.others

    last_read : read (with_death w1 e) (cut k) ≡ with_death (read w1 (cut (k + 1))) e
    last_read = out_read w1 (cut (k + 1)) (cut k) e p None store1 last_own last_takes.rows.changed last_takes.filled last_takes.rows.others

  -- so many are left
  pub record AreLeft (k : ℕ) : Type 0 where
    pub store : IsStore (with_deaths w (drop k standing)) (cut k)
    pub read : read (with_deaths w (drop k standing)) (cut k) ≡ after_deaths (read w s) (has_item entity_cmp (drop k standing))

  all_left : AreLeft (length rows)
  all_left =
      let none : drop (length rows) standing ≡ [] =
      let long = length-map rows (λ (r : TableRow). r.entity) in drop_of_length-le standing (omega (arith, long)) in
      let same : SameRows s (cut (length rows)) =
      at_each n (λ m. (j : ℕ) → row_at (cut (length rows)) m j ≡ row_at s m j)
      (λ j. ap (λ xs. slice_get xs j) (cut_here (length rows) ∙ take_all (length rows) rows (omega arith)))
      (λ m other j. ap (λ xs. slice_get xs j) (cut_others (length rows) m other)) in
      record {
        store =
            subst (λ es. IsStore (with_deaths w es) (cut (length rows))) (sym none) (same_store w s (cut (length rows)) same is_store);
        read =
            ap (λ es. read (with_deaths w es) (cut (length rows))) none ∙ same_read w s (cut (length rows)) same ∙ sym (nobody_dies (read w s))
            ∙ sym (ap (λ es. after_deaths (read w s) (has_item entity_cmp es)) none);
      }

  less_left : (k : ℕ) → k < length rows → AreLeft (k + 1) → AreLeft k
  less_left k within left =
      let e = get_or standing k no_entity in
      let rest = drop (k + 1) standing in
      let w1 = with_deaths w rest in
      let long = length-map rows (λ (r : TableRow). r.entity) in
      let next : drop k standing ≡ e ∷ rest = next_dead standing k (omega (arith, long, within)) in
      let lives : IsTrue (is_alive (after_deaths (read w s) (has_item entity_cmp rest)) e) =
      sym (ap (λ v. is_alive v e) left.read) ∙ alive_same w1 (cut (k + 1)) e ∙ last_lives k within left.store in
      record {
        store = subst (λ es. IsStore (with_deaths w es) (cut k)) (sym next) (last_store k within left.store);
        read =
            ap (λ es. read (with_deaths w es) (cut k)) next ∙ last_read k within left.store ∙ ap (λ v. with_death v e) left.read
            ∙ sym (one_dies (has_item entity_cmp rest) (has_item entity_cmp (e ∷ rest)) e (one_first e rest) (read w s) lives)
            ∙ sym (ap (λ es. after_deaths (read w s) (has_item entity_cmp es)) next);
      }

  left_after : (j k : ℕ) → k + j ≡ length rows → AreLeft k
  left_after zero k is = subst AreLeft (omega (arith, is)) all_left
  left_after (suc j) k is = less_left k (omega (arith, is)) (left_after j (k + 1) (omega (arith, is)))

  pub are_left : (k : ℕ) → k ≤ length rows → AreLeft k
  are_left k within = left_after (length rows - k) k (omega (arith, within))

  -- who dies next lives
  pub next_lives : (es : List Entity) (left : ℕ) → es ≡ standing → 0 < left → left ≤ length es
      → IsTrue (is_alive (with_deaths w (drop left es)) (get_or es (left - 1) no_entity))
  next_lives es left is some within =
      let long : length es ≡ length rows = ap length is ∙ length-map rows (λ (r : TableRow). r.entity) in
      let back : left - 1 + 1 ≡ left = omega (arith, some) in
      let lives = last_lives (left - 1) (omega (arith, some, within, long)) (are_left (left - 1 + 1) (omega (arith, some, within, long))).store in
      subst (λ k. IsTrue (is_alive (with_deaths w (drop k es)) (get_or es (left - 1) no_entity))) back
      (subst (λ xs. IsTrue (is_alive (with_deaths w (drop (left - 1 + 1) xs)) (get_or xs (left - 1) no_entity))) (sym is) lives)

  -- all died, and the table is without rows
  module _ (s' : List (Option TableState)) (sets : SetsRows (rows_in s) (rows_in s') n []) where
    none_rows : SameRows (cut 0) s'
    none_rows =
        at_each n (λ m. (j : ℕ) → row_at s' m j ≡ row_at (cut 0) m j) (λ j. ap (λ xs. slice_get xs j) (sets.changed ∙ sym (cut_here 0)))
        (λ m other j. ap (λ xs. slice_get xs j) (sets.others m other ∙ sym (cut_others 0 m other)))

    pub cleared_store : IsStore (with_deaths w standing) s'
    cleared_store = same_store (with_deaths w standing) (cut 0) s' none_rows (are_left 0 (omega arith)).store

    pub cleared_read : read (with_deaths w standing) s' ≡ after_deaths (read w s) (has_item entity_cmp standing)
    cleared_read = same_read (with_deaths w standing) (cut 0) s' none_rows ∙ (are_left 0 (omega arith)).read
