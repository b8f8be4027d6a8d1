-- The store after an entity's row went, and the entity that took its place was placed anew.
use Rattle.eco_store.proofs.Common.{◌≡◌, ◌≢◌, ℕ, ◌<◌, ◌-◌, ◌+◌, ◌==◌, Bool, true, false, cond, List, map}
use Rattle.eco_store.proofs.Common.{length, get_or, set, slice_get, nat_lt, if◌then◌else◌, Option, Some, None, option_map, is_some}
use Rattle.eco_store.proofs.Common.{IfSome, IsTrue, refl, sym, ap, subst, ◌∙◌, arith, inl, inr, swap_remove, cases_eq}
use Rattle.eco_store.proofs.Common.{slice_get-get_or, slice_get-map, Entity, Id, changed, change_kept, with_record, Indexed, IndexState}
use Rattle.eco_store.proofs.Common.{Retired, Free, Living, record_of, with_death, raised, is_alive, map_state, Record, not_equal, slice_get-set_there}
use Rattle.eco_store.proofs.Common.{slice_get-set_other, living_at, record_at, retyped, TableState, TableRow, entities_of, retyped_row, row_in}
use Rattle.eco_store.proofs.Common.{no_row, row_at, SameRows, Place, Registration, placed, own_place, rows_in, MovesRow, fixed, Seat, IsSeated, seated_entity}
use Rattle.eco_store.proofs.Common.{seat_of, held_of, record_for, held_at, read, seat_in, seat_at, HasPlace, IsStore, with_type}
use Rattle.eco_archetypes.specs.Seats.{held_in_seat}
use Rattle.eco_store.proofs.RowChanges.{between_rows, moves_removes, moves_pushes, rows_removed, swap_at_row, swap_at_last, is_equal}
use Rattle.eco_store.proofs.SeatChanges.{Pushed, pushed_change, removed_change}
use Rattle.eco_archetypes.proofs.Seated.{no_some, one_some, read_at, place_from_seat, placed_record, seat_there, read_record, row_within}
use Rattle.eco_store.proofs.Views.{alike_set, at_each, bare, bare_at, changed_at, raised_either, seen_alike}

-- the same rows, as one function
rows_as : (s s' : List (Option TableState)) → SameRows s s' → row_at s' ≡ row_at s
rows_as s s' same = λ t n k. same n k t

pub same_store : (w : Indexed Registration) (s s' : List (Option TableState)) → SameRows s s' → IsStore w s → IsStore w s'
same_store w s s' same store = record {
  seated = subst (IsSeated (seat_at w)) (sym (rows_as s s' same)) store.seated;
  placed = store.placed;
}

pub same_read : (w : Indexed Registration) (s s' : List (Option TableState)) → SameRows s s' → read w s' ≡ read w s
same_read w s s' same = ap (λ E. record { limit = w.limit; indices = map (map_state (record_for E)) w.indices }) (rows_as s s' same)

-- ---- the entity that came to the place

fixed_other : (w : Indexed Registration) (moved : Option Entity) (p : Place) (j : ℕ) → ((m : Entity) → moved ≡ Some m → j ≢ m.index)
    → slice_get (fixed w moved p).indices j ≡ slice_get w.indices j
fixed_other w None p j apart = refl
fixed_other w (Some m) p j apart = by (record_of w m)
  where
    by : (o : Option Registration) → slice_get (change_kept w m (placed p) o).indices j ≡ slice_get w.indices j
    by None = refl
    by (Some r) = slice_get-set_other w.indices m.index j (Living m.generation (placed p r)) (apart m refl)

fixed_here : (w : Indexed Registration) (m : Entity) (p : Place) (r : Registration) → record_of w m ≡ Some r
    → slice_get (fixed w (Some m) p).indices m.index ≡ Some (Living m.generation (placed p r))
fixed_here w m p r h =
    ap (λ o. slice_get (change_kept w m (placed p) o).indices m.index) h
    ∙ slice_get-set_there w.indices m.index (Living m.generation (placed p r)) (Living m.generation r) (living_at w m r h)

fixed_limit : (w : Indexed Registration) (moved : Option Entity) (p : Place) → (fixed w moved p).limit ≡ w.limit
fixed_limit w None p = refl
fixed_limit w (Some m) p = by (record_of w m)
  where
    by : (o : Option Registration) → (change_kept w m (placed p) o).limit ≡ w.limit
    by None = refl
    by (Some r) = refl

fixed_bare : (w : Indexed Registration) (moved : Option Entity) (p : Place) (j : ℕ) → bare_at (fixed w moved p) j ≡ bare_at w j
fixed_bare w None p j = refl
fixed_bare w (Some m) p j =
    changed_at w m (placed p) (λ a b. option_map (map_state bare) b ≡ option_map (map_state bare) a) (λ o. refl) (λ g r. refl) j

fixed_placed : (w : Indexed Registration) (moved : Option Entity) (p : Place) (j : ℕ) → HasPlace (slice_get w.indices j) →
    HasPlace (slice_get (fixed w moved p).indices j)
fixed_placed w None p j had = had
fixed_placed w (Some m) p j had = changed_at w m (placed p) (λ a b. HasPlace a → HasPlace b) (λ o h. h) (λ g r h. refl) j had

raised_kept : (E : ℕ → ℕ → Option TableRow) (g : ℕ) → map_state (record_for E) (raised g) ≡ raised g
raised_kept E g = by (nat_lt g 65535)
  where
    by : (b : Bool) → map_state (record_for E) (if b then Free (g + 1) else Retired) ≡ (if b then Free (g + 1) else Retired)
    by true = refl
    by false = refl

-- ---- an entity's row goes, and whoever takes its place is placed there
module _ (w : Indexed Registration) (s s1 : List (Option TableState)) (e : Entity) (p : Place) (moved : Option Entity)
    (store : IsStore w s) (own : own_place w e ≡ Some p) (source : rows_in s1 p.table ≡ swap_remove (rows_in s p.table) p.row no_row)
    (filled : moved ≡ slice_get (entities_of (rows_in s1 p.table)) p.row) where
  abbrev rows : List TableRow
  rows = rows_in s p.table

  abbrev last : ℕ
  last = length rows - 1

  abbrev final : TableRow
  final = get_or rows last no_row

  inside : p.row < length rows
  inside = row_within w s e p store own

  own_seat : seat_at w e.index ≡ Some (seat_of e p.table p.row)
  own_seat = seat_there w e p own

  final_row : row_at s p.table last ≡ Some final
  final_row = slice_get-get_or rows last no_row (let h = inside in omega arith)

  final_seat : seat_at w final.entity.index ≡ Some (seat_of final.entity p.table last)
  final_seat = store.seated.back p.table last final final_row

  moved_from : moved ≡ option_map (λ (r : TableRow). r.entity) (slice_get (swap_remove rows p.row no_row) p.row)
  moved_from =
      filled ∙ ap (λ xs. slice_get (entities_of xs) p.row) source ∙ slice_get-map (λ (r : TableRow). r.entity) (swap_remove rows p.row no_row) p.row

  moved_some : last ≢ p.row → moved ≡ Some final.entity
  moved_some d = moved_from ∙ ap (option_map (λ (r : TableRow). r.entity)) (swap_at_row rows p.row inside d ∙ final_row)

  moved_none : last ≡ p.row → moved ≡ None
  moved_none is = moved_from ∙ ap (option_map (λ (r : TableRow). r.entity)) (sym (ap (slice_get (swap_remove rows p.row no_row)) is)
      ∙ swap_at_last rows p.row inside)

  -- who takes the place stood in the last row, and is another
  movers : (m : Entity) → moved ≡ Some m → (final.entity ≡ m) × (m.index ≢ e.index)
  movers m is =
      elim (cases_eq last p.row) [
        | inl same ↦ absurd (no_some moved m (moved_none same) is)
        | inr other ↦
            let who : final.entity ≡ m = one_some moved final.entity m (moved_some other) is in
            let stood = subst (λ (x : Entity). seat_at w x.index ≡ Some (seat_of x p.table last)) who final_seat in
            (who, λ h. other (ap (λ (q : Seat). q.row) (one_some (seat_at w e.index) _ _ (ap (seat_at w) (sym h) ∙ stood) own_seat)))
      ]

  final_record : (r : Registration) × (record_of w final.entity ≡ Some r)
  final_record =
      let found = place_from_seat (slice_get w.indices final.entity.index) final.entity p.table last final_seat in
      (found.0, record_at w final.entity found.0 found.1)

  pub movers_live : IfSome moved (λ m. IsTrue (is_alive w m))
  movers_live = by moved refl
    where
      by : (o : Option Entity) → moved ≡ o → IfSome o (λ m. IsTrue (is_alive w m))
      by None is = tt
      by (Some m) is = subst (λ x. IsTrue (is_alive w x)) (movers m is).0 (ap is_some final_record.1)

  abbrev now : Indexed Registration
  now = fixed w moved p

  own_record : (r : Registration) × (record_of w e ≡ Some r) × (r.place ≡ Some p)
  own_record = placed_record w e p own

  still_there : slice_get now.indices e.index ≡ Some (Living e.generation own_record.0)
  still_there = fixed_other w moved p e.index (λ m is h. (movers m is).1 (sym h)) ∙ living_at w e own_record.0 own_record.1

  still_recorded : record_of now e ≡ Some own_record.0
  still_recorded = record_at now e own_record.0 still_there

  pub still_lives : IsTrue (is_alive now e)
  still_lives = ap is_some still_recorded

  -- then its own state changes
  module _ (x : IndexState Registration) where
    abbrev after : Indexed Registration
    after = record now { indices = set now.indices e.index x }

    after_own : slice_get after.indices e.index ≡ Some x
    after_own = slice_get-set_there now.indices e.index x (Living e.generation own_record.0) still_there

    after_other : (j : ℕ) → j ≢ e.index → slice_get after.indices j ≡ slice_get now.indices j
    after_other j other = slice_get-set_other now.indices e.index j x other

    final_fixed : last ≢ p.row → seat_at after final.entity.index ≡ Some (seat_of final.entity p.table p.row)
    final_fixed d =
        ap seat_in (after_other final.entity.index (movers final.entity (moved_some d)).1
        ∙ ap (λ o. slice_get (fixed w o p).indices final.entity.index) (moved_some d) ∙ fixed_here w final.entity p final_record.0 final_record.1)

    others_kept : (j : ℕ) → j ≢ e.index → j ≢ final.entity.index → seat_at after j ≡ seat_at w j
    others_kept j not_e other =
        ap seat_in (after_other j not_e
        ∙ fixed_other w moved p j (λ m is h. other (h ∙ sym (ap (λ (y : Entity). y.index) (movers m is).0))))

    after_placed : HasPlace (Some x) → (j : ℕ) → HasPlace (slice_get after.indices j)
    after_placed has =
        at_each e.index (λ j. HasPlace (slice_get after.indices j)) (subst HasPlace (sym after_own) has)
        (λ j other. subst HasPlace (sym (after_other j other)) (fixed_placed w moved p j (store.placed j)))

    -- all is seen as before but what is seen of the entity
    after_read : (y : IndexState Record)
        → ((j : ℕ) → j ≢ e.index → option_map (held_in_seat (row_at s1)) (seat_at after j) ≡ option_map (held_in_seat (row_at s)) (seat_at w j))
        → option_map (map_state (record_for (row_at s1))) (Some x) ≡ Some y
        → read after s1 ≡ record (read w s) { indices = set (read w s).indices e.index y }
    after_read y others it =
        let was = read_at w s e.index _ (living_at w e own_record.0 own_record.1) in
        let indices = alike_set (read after s1).indices (read w s).indices e.index y _ was (read_at after s1 e.index _ after_own ∙ it)
        (λ j other. seen_alike w after s s1 j (ap (option_map (map_state bare)) (after_other j other) ∙ fixed_bare w moved p j) (others j other)) in
        λ t. record { limit = fixed_limit w moved p t; indices = indices t }

  -- it is taken out
  module _ (others : (n : ℕ) → n ≢ p.table → rows_in s1 n ≡ rows_in s n) where
    abbrev gone : IndexState Registration
    gone = raised e.generation

    out_change : IsSeated (seat_at (after gone)) (row_at s1)
        × ((j : ℕ) → j ≢ e.index → option_map (held_in_seat (row_at s1)) (seat_at (after gone) j) ≡ option_map (held_in_seat (row_at s)) (seat_at w j))
    out_change =
        removed_change (seat_at w) (seat_at (after gone)) (row_at s) (row_at s1) e.index e.generation p.table p.row last final store.seated
        (rows_removed s (row_at s1) p.table p.row inside (λ k. ap (λ xs. slice_get xs k) source) (λ n k o. ap (λ xs. slice_get xs k) (others n o)))
        own_seat final_row (ap seat_in (after_own gone) ∙ raised_either e.generation (λ x. seat_in (Some x) ≡ None) (λ h. refl) refl)
        (final_fixed gone) (others_kept gone)

    pub out_store : IsStore (with_death now e) s1
    out_store = record { seated = out_change.0; placed = after_placed gone (raised_either e.generation (λ x. HasPlace (Some x)) (λ h. tt) tt) }

    pub out_read : read (with_death now e) s1 ≡ with_death (read w s) e
    out_read = after_read gone (raised e.generation) out_change.1 (ap Some (raised_kept (row_at s1) e.generation))

  -- or moved to the end of another table
  module _ (to : Place) (ids : List Id) (moves : MovesRow (rows_in s) (rows_in s1) p to ids moved) where
    abbrev came : IndexState Registration
    came = Living e.generation (placed to own_record.0)

    abbrev came_row : TableRow
    came_row = retyped_row ids (row_in s p.table p.row)

    abbrev P' : ℕ → Option Seat
    P' = seat_at (after came)

    -- the seats when the row was taken out
    abbrev P1 : ℕ → Option Seat
    P1 j = cond (j == e.index) None (P' j)

    gone_between : P1 e.index ≡ None
    gone_between = ap (λ b. cond b None (P' e.index)) (is_equal e.index e.index refl)

    kept_between : (j : ℕ) → j ≢ e.index → P1 j ≡ P' j
    kept_between j other = ap (λ b. cond b None (P' j)) (not_equal j e.index other)

    abbrev E1 : ℕ → ℕ → Option TableRow
    E1 = between_rows s s1 p to ids moved inside moves

    between : IsSeated P1 E1 × ((j : ℕ) → j ≢ e.index → option_map (held_in_seat E1) (P1 j) ≡ option_map (held_in_seat (row_at s)) (seat_at w j))
    between =
        removed_change (seat_at w) P1 (row_at s) E1 e.index e.generation p.table p.row last final store.seated
        (moves_removes s s1 p to ids moved inside moves) own_seat final_row gone_between
        (λ d. kept_between final.entity.index (movers final.entity (moved_some d)).1 ∙ final_fixed came d)
        (λ j a b. kept_between j a ∙ others_kept came j a b)

    old_row : row_at s p.table p.row ≡ Some (row_in s p.table p.row)
    old_row = slice_get-get_or rows p.row no_row inside

    came_is : came_row.entity ≡ seated_entity e.index (seat_of e to.table to.row)
    came_is =
        let old = store.seated.there e.index _ own_seat in
        ap (λ (r : TableRow). r.entity) (one_some (row_at s p.table p.row) _ _ old_row old.1) ∙ old.2

    pushes : Pushed E1 (row_at s1) to.table to.row came_row
    pushes = moves_pushes s s1 p to ids moved inside moves

    -- seats and rows name each other again, and what each other entity holds stays
    to_change : IsSeated P' (row_at s1) × ((j : ℕ) → j ≢ e.index → option_map (held_in_seat (row_at s1)) (P' j) ≡ option_map (held_in_seat E1) (P1 j))
    to_change =
        pushed_change P1 P' E1 (row_at s1) e.index e.generation to.table to.row came_row between.0 pushes gone_between came_is
        (ap seat_in (after_own came)) (λ j other. sym (kept_between j other))

    to_is : changed now e (placed to) ≡ after came
    to_is = ap (change_kept now e (placed to)) still_recorded

    pub to_store : IsStore (changed now e (placed to)) s1
    to_store = subst (λ v. IsStore v s1) (sym to_is) (record { seated = to_change.0; placed = after_placed came refl })

    pub to_read : read (changed now e (placed to)) s1 ≡ changed (read w s) e (with_type ids)
    to_read =
        let r = own_record.0 in
        let new : IndexState Record = Living e.generation (record { name = r.name; arity = r.arity; held = retyped ids (held_of (row_at s p.table p.row)) }) in
        let held : held_of (row_at s1 to.table to.row) ≡ retyped ids (held_of (row_at s p.table p.row)) =
        ap held_of pushes.at_end ∙ sym (ap (λ o. retyped ids (held_of o)) old_row) in
        ap (λ v. read v s1) to_is
        ∙ after_read came new (λ j other. to_change.1 j other ∙ between.1 j other)
        (λ t. Some (Living e.generation (record { name = r.name; arity = r.arity; held = held t })))
        ∙ sym (ap (change_kept (read w s) e (with_type ids)) (read_record w s e r own_record.1)
        ∙ (λ t. with_record (read w s) e (record { name = r.name; arity = r.arity; held = retyped ids (held_at (row_at s) (own_record.2 t)) })))
