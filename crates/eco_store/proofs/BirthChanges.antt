-- The store after an entity came to live in a row of its own.
use Rattle.eco_store.proofs.Common.{◌≡◌, ◌≢◌, ℕ, ◌≤◌, List, [], ◌∷◌, ◌++◌, map, length, slice_get, Option, Some, None, option_map}
use Rattle.eco_store.proofs.Common.{is_some, IsTrue, replicate, Bool, ◌<◌, if◌then◌else◌, arith, true, false, ◌&&◌, nat_le, MatchBool, Result, Ok}
use Rattle.eco_store.proofs.Common.{MatchOption, zero, suc, ◌+◌, refl, sym, ap, subst, ◌∙◌, length-map, map-append, Record, Entity, Id, Refusal}
use Rattle.eco_store.proofs.Common.{NoMoreIds, Admits, may_admit, Makes, may_make, Meets, is_out_of_memory, Answers, Refuses, changed, change_kept, Indexed}
use Rattle.eco_store.proofs.Common.{IndexState, Retired, Free, Living, with_record, with_new, next_entity, is_alive, is_free_at, is_free_in, map_state}
use Rattle.eco_store.proofs.Common.{admitted, TableState, retyped_row, Place, CreatesRegistration, Registration, given_name, newcomer, placed, rows_in, PutsRow}
use Rattle.eco_store.proofs.Common.{IsSeated, held_of, row_at, SameRows, CreatesRecord, record_name, record_for, read, seat_in, seat_at, HasPlace, IsStore}
use Rattle.eco_store.proofs.Common.{newborn, slice_get_within, Decides-ltb, slice_get-set_there, slice_get-set_other, map-replicate, record_at}
use Rattle.eco_tables.specs.Tables.{new_row as row_of}
use Rattle.eco_archetypes.specs.Seats.{held_in_seat}
use Rattle.eco_store.proofs.RowChanges.{rows_pushed}
use Rattle.eco_store.proofs.SeatChanges.{Pushed, pushed_change}
use Rattle.eco_store.proofs.Views.{alike_but, alike_set, at_each, bare, seen_alike}
use Rattle.eco_archetypes.proofs.Seated.{each_state, read_at}
use Rattle.eco_store.proofs.Newborn.{create_done, create_made, create_refused, refused, Vacant, born_here, born_other, born_limit, next_is}
use Rattle.eco_store.proofs.StoreChanges.{same_read}

no_seat : (o : Option (IndexState Registration)) → Vacant o → seat_in o ≡ None
no_seat = each_state (λ o. Vacant o → seat_in o ≡ None) (λ v. refl) (λ v. refl) (λ g v. refl) (λ g r v. absurd v)

-- ---- an entity comes to live, and gets a row of its own
module _ (w w1 : Indexed Registration) (s s1 : List (Option TableState)) (e : Entity) (place : Place) (ids : List Id) (name : Option (List ℕ))
    (arity : Option ℕ) (store : IsStore w s) (puts : PutsRow (rows_in s) (rows_in s1) place e ids)
    (near : e.index ≤ length w.indices) (vacant : Vacant (slice_get w.indices e.index)) (is : w1 ≡ with_new w e (newcomer name arity)) where
  abbrev settled : Registration
  settled = placed place (newcomer name arity)

  abbrev w2 : Indexed Registration
  w2 = with_record w1 e settled

  born_at : slice_get w1.indices e.index ≡ Some (Living e.generation (newcomer name arity))
  born_at = ap (λ (v : Indexed Registration). slice_get v.indices e.index) is ∙ born_here w e (newcomer name arity) near

  w2_is : changed w1 e (placed place) ≡ w2
  w2_is = ap (change_kept w1 e (placed place)) (record_at w1 e (newcomer name arity) born_at)

  w2_here : slice_get w2.indices e.index ≡ Some (Living e.generation settled)
  w2_here = slice_get-set_there w1.indices e.index (Living e.generation settled) _ born_at

  w2_others : (j : ℕ) → j ≢ e.index → slice_get w2.indices j ≡ slice_get w.indices j
  w2_others j other =
      slice_get-set_other w1.indices e.index j (Living e.generation settled) other
      ∙ ap (λ (v : Indexed Registration). slice_get v.indices j) is ∙ born_other w e (newcomer name arity) near j other

  pushed : Pushed (row_at s) (row_at s1) place.table place.row (retyped_row ids (row_of e))
  pushed =
      rows_pushed (row_at s) (row_at s1) place.table place.row (rows_in s place.table) _ puts.end (λ k. refl)
      (λ k. ap (λ xs. slice_get xs k) puts.rows.changed) (λ n k o. ap (λ xs. slice_get xs k) (puts.rows.others n o))

  born_change : IsSeated (seat_at w2) (row_at s1)
      × ((j : ℕ) → j ≢ e.index → option_map (held_in_seat (row_at s1)) (seat_at w2 j) ≡ option_map (held_in_seat (row_at s)) (seat_at w j))
  born_change =
      pushed_change (seat_at w) (seat_at w2) (row_at s) (row_at s1) e.index e.generation place.table place.row _ store.seated pushed (no_seat _ vacant)
      refl (ap seat_in w2_here) (λ j other. ap seat_in (w2_others j other))

  pub born_store : IsStore (changed w1 e (placed place)) s1
  born_store = subst (λ v. IsStore v s1) (sym w2_is) (record {
    seated = born_change.0;
    placed =
        at_each e.index (λ j. HasPlace (slice_get w2.indices j)) (subst HasPlace (sym w2_here) refl)
        (λ j other. subst HasPlace (sym (w2_others j other)) (store.placed j));
  })

  pub born_read : read (changed w1 e (placed place)) s1 ≡ with_new (read w s) e (newborn name arity ids)
  born_read =
      let child = newborn name arity ids in
      let near' : e.index ≤ length (read w s).indices = rw length-map near in
      let indices = alike_but (read w2 s1).indices (with_new (read w s) e child).indices e.index
      (read_at w2 s1 e.index _ w2_here ∙ (λ t. Some (Living e.generation (record { name = name; arity = arity; held = held_of (pushed.at_end t) })))
      ∙ sym (born_here (read w s) e child near'))
      (λ j other.
      seen_alike w w2 s s1 j (ap (option_map (map_state bare)) (w2_others j other)) (born_change.1 j other)
      ∙ sym (born_other (read w s) e child near' j other)) in
      let limits : w1.limit ≡ (with_new (read w s) e child).limit =
      ap (λ (v : Indexed Registration). v.limit) is ∙ born_limit w e (newcomer name arity) ∙ sym (born_limit (read w s) e child) in
      ap (λ v. read v s1) w2_is ∙ (λ t. record { limit = limits t; indices = indices t })

-- a free handle
pub free_is : {A : Type 0} (w : Indexed A) (e : Entity) → IsTrue (is_free_at w e) → (g : ℕ) × (slice_get w.indices e.index ≡ Some (Free g))
free_is {A} w e = by (slice_get w.indices e.index)
  where
    by : (o : Option (IndexState A)) → IsTrue (is_free_in o e.generation) → (g : ℕ) × (o ≡ Some (Free g))
    by None h = absurd (cc)
    by (Some Retired) h = absurd (cc)
    by (Some (Free g)) h = (g, refl)
    by (Some (Living g r)) h = absurd (cc)

pub is_free_at-read : (w : Indexed Registration) (s : List (Option TableState)) (e : Entity) → is_free_at (read w s) e ≡ is_free_at w e
is_free_at-read w s e =
    ap (λ o. is_free_in o e.generation) (read_at w s e.index _ refl)
    ∙ each_state (λ o. is_free_in (option_map (map_state (record_for (row_at s))) o) e.generation ≡ is_free_in o e.generation) refl refl (λ g. refl)
    (λ g r. refl) (slice_get w.indices e.index)

-- ---- more indices become known

fresh_seat : (xs : List (IndexState Registration)) (n j : ℕ) → seat_in (slice_get (xs ++ replicate n (Free 0)) j) ≡ seat_in (slice_get xs j)
fresh_seat [] zero j = refl
fresh_seat [] (suc n) zero = refl
fresh_seat [] (suc n) (suc j) = fresh_seat [] n j
fresh_seat (x ∷ xs) n zero = refl
fresh_seat (x ∷ xs) n (suc j) = fresh_seat xs n j

fresh_placed : (xs : List (IndexState Registration)) (n j : ℕ) → HasPlace (slice_get xs j) → HasPlace (slice_get (xs ++ replicate n (Free 0)) j)
fresh_placed [] zero j had = had
fresh_placed [] (suc n) zero had = tt
fresh_placed [] (suc n) (suc j) had = fresh_placed [] n j tt
fresh_placed (x ∷ xs) n zero had = had
fresh_placed (x ∷ xs) n (suc j) had = fresh_placed xs n j had

pub admitted_store : (w : Indexed Registration) (s : List (Option TableState)) (n : ℕ) → IsStore w s → IsStore (admitted n w) s
admitted_store w s n store = record {
  seated = subst (λ P. IsSeated P (row_at s)) (sym (λ t j. fresh_seat w.indices n j t)) store.seated;
  placed = λ j. fresh_placed w.indices n j (store.placed j);
}

pub admitted_read : (w : Indexed Registration) (s : List (Option TableState)) (n : ℕ) → read (admitted n w) s ≡ admitted n (read w s)
admitted_read w s n =
    λ t. record {
      limit = w.limit;
      indices = (map-append (map_state (record_for (row_at s))) w.indices (replicate n (Free 0))
          ∙ ap (λ ys. map (map_state (record_for (row_at s))) w.indices ++ ys) (map-replicate (map_state (record_for (row_at s))) n (Free 0))) t;
    }

-- who is placed at once is as if placed later
pub placed_new : (w : Indexed Registration) (e : Entity) (d : Registration) (p : Place) → next_entity w ≡ Some e
    → with_new w e (placed p d) ≡ changed (with_new w e d) e (placed p)
placed_new w e d p next =
    let near = (next_is w e next).0 in
    let r = placed p d in
    let w1 = with_new w e d in
    let here = born_here w e d near in
    let indices = alike_set (with_new w e r).indices w1.indices e.index (Living e.generation r) _ here (born_here w e r near)
    (λ j other. born_other w e r near j other ∙ sym (born_other w e d near j other)) in
    let limits : (with_new w e r).limit ≡ w1.limit = born_limit w e r ∙ sym (born_limit w e d) in
    (λ t. record { limit = limits t; indices = indices t }) ∙ sym (ap (change_kept w1 e (placed p)) (record_at w1 e d here))

-- who has no name is made where somebody can be
pub creates_unnamed : (w : Indexed Registration) (e : Entity) (arity : Option ℕ) → next_entity w ≡ Some e
    → Meets (Makes given_name w (newcomer None arity)) (may_make given_name w None) w (Ok e) (with_new w e (newcomer None arity))
creates_unnamed w e arity next =
    let d = newcomer None arity in
    let made : Result Entity Refusal = Ok e in
    subst (λ n. MatchOption n (Refuses NoMoreIds w made (with_new w e d)) (λ x. Answers x (with_new w x d) made (with_new w e d)))
    (sym next) (refl, refl)

-- ---- an entity that is made alive

-- at an index that is known
known_new : {A : Type 0} (w : Indexed A) (e : Entity) (d : A) → e.index < length w.indices → with_record w e d ≡ with_new w e d
known_new w e d known =
    ap (λ b. if b then with_record w e d else record w { indices = w.indices ++ Living e.generation d ∷ [] }) (sym ((Decides-ltb _ _).1 known))

module _ (w w1 : Indexed Registration) (s s1 : List (Option TableState)) (e : Entity) (place : Place) (store : IsStore w s)
    (puts : PutsRow (rows_in s) (rows_in s1) place e []) (free : IsTrue (is_free_at w e)) (is : w1 ≡ with_record w e (newcomer None None)) where
  found : (g : ℕ) × (slice_get w.indices e.index ≡ Some (Free g))
  found = free_is w e free

  known : e.index < length w.indices
  known = slice_get_within w.indices e.index _ found.1

  vacant : Vacant (slice_get w.indices e.index)
  vacant = subst Vacant (sym found.1) tt

  as_new : w1 ≡ with_new w e (newcomer None None)
  as_new = is ∙ known_new w e (newcomer None None) known

  pub made_alive_store : IsStore (changed w1 e (placed place)) s1
  made_alive_store = born_store w w1 s s1 e place [] None None store puts (omega (arith, known)) vacant as_new

  pub made_alive_read : read (changed w1 e (placed place)) s1 ≡ with_record (read w s) e (newborn None None [])
  made_alive_read =
      born_read w w1 s s1 e place [] None None store puts (omega (arith, known)) vacant as_new
      ∙ sym (known_new (read w s) e (newborn None None []) (rw length-map known))

-- who was made alive lives
pub made_lives : (w w1 : Indexed Registration) (e : Entity) → IsTrue (is_free_at w e) → w1 ≡ with_record w e (newcomer None None)
    → IsTrue (is_alive w1 e)
made_lives w w1 e free is =
    let known = slice_get_within w.indices e.index _ (free_is w e free).1 in
    ap is_some (record_at w1 e (newcomer None None) (ap (λ (x : Indexed Registration). slice_get x.indices e.index)
    (is ∙ known_new w e (newcomer None None) known) ∙ born_here w e (newcomer None None) (omega (arith, known))))

pub admit_lifts : (w w1 : Indexed Registration) (s : List (Option TableState)) (n : ℕ) (some : Bool) (r : Result (Unit {0}) Refusal)
    → Meets (Admits w n) (may_admit w n && some) w r w1
    → (IsStore w s → IsStore w1 s) × Meets (Admits (read w s) n) (may_admit (read w s) n && some) (read w s) r (read w1 s)
admit_lifts w w1 s n some r h = by (is_out_of_memory r) h
  where
    fits : nat_le (length (read w s).indices + n) w.limit ≡ nat_le (length w.indices + n) w.limit
    fits = ap (λ l. nat_le (l + n) w.limit) (length-map w.indices (map_state (record_for (row_at s))))

    ends : (b : Bool) → MatchBool b (Answers tt (admitted n w) r w1) (Refuses NoMoreIds w r w1)
        → (IsStore w s → IsStore w1 s) × MatchBool b (Answers tt (admitted n (read w s)) r (read w1 s)) (Refuses NoMoreIds (read w s) r (read w1 s))
    ends true q = (λ store. subst (λ v. IsStore v s) (sym q.1) (admitted_store w s n store), (q.0, ap (λ v. read v s) q.1 ∙ admitted_read w s n))
    ends false q = (λ store. subst (λ v. IsStore v s) (sym q.1) store, (q.0, ap (λ v. read v s) q.1))

    by : (b : Bool) → MatchBool b (IsTrue (may_admit w n && some) × (w1 ≡ w)) (Admits w n r w1)
        → (IsStore w s → IsStore w1 s)
        × MatchBool b (IsTrue (may_admit (read w s) n && some) × (read w1 s ≡ read w s)) (Admits (read w s) n r (read w1 s))
    by true q = (λ store. subst (λ v. IsStore v s) (sym q.1) store, (ap (λ b. b && some) fits ∙ q.0, ap (λ v. read v s) q.1))
    by false q =
        let e = ends (nat_le (length w.indices + n) w.limit) q in
        (e.0, subst (λ b. MatchBool b (Answers tt (admitted n (read w s)) r (read w1 s)) (Refuses NoMoreIds (read w s) r (read w1 s))) (sym fits) e.1)

-- ---- a creation

module _ (w w1 : Indexed Registration) (s s1 : List (Option TableState)) (name : Option (List ℕ)) (arity : Option ℕ) (ids : List Id) (v : Indexed Record)
    (view : read w s ≡ v) where
  -- one that is refused leaves what was seen
  pub still_refused : SameRows s s1 → (why : Refusal) → CreatesRegistration w name arity (refused why) w1
      → (w1 ≡ w) × ((new : Indexed Record) → new ≡ read w1 s1 → CreatesRecord v name arity ids (refused why) new)
  still_refused rows why h =
      let r =
      create_refused (record_for (row_at s)) given_name record_name (λ a. refl) w (newcomer name arity) (newborn name arity ids) refl w1 why h in (
        r.0,
        λ new is.
            subst (CreatesRecord v name arity ids (refused why)) (sym (is ∙ ap (λ x. read x s1) r.0 ∙ same_read w s s1 rows))
            (subst (λ x. CreatesRecord x name arity ids (refused why) (read w s)) view r.1),
      )

  -- one that is done makes the next entity, which then gets a row
  module _ (e : Entity) (h : CreatesRegistration w name arity (Ok e) w1) where
    made : (next_entity w ≡ Some e) × (w1 ≡ with_new w e (newcomer name arity))
    made = create_made (record_for (row_at s)) given_name record_name (λ a. refl) w (newcomer name arity) (newborn name arity ids) refl w1 e h

    next : (e.index ≤ length w.indices) × Vacant (slice_get w.indices e.index)
    next = next_is w e made.0

    pub created_alive : IsTrue (is_alive w1 e)
    created_alive =
        ap is_some (record_at w1 e (newcomer name arity) (ap (λ (x : Indexed Registration). slice_get x.indices e.index) made.1
        ∙ born_here w e (newcomer name arity) next.0))

    pub still_created : (p : Place) (w2 : Indexed Registration) → w2 ≡ changed w1 e (placed p) → IsStore w s → PutsRow (rows_in s) (rows_in s1) p e ids
        → IsStore w2 s1 × CreatesRecord v name arity ids (Ok e) (read w2 s1)
    still_created p w2 is store puts = (
      rw is (born_store w w1 s s1 e p ids name arity store puts next.0 next.1 made.1),
      subst (λ x. CreatesRecord x name arity ids (Ok e) (read w2 s1)) view
          (create_done (record_for (row_at s)) given_name record_name (λ a. refl) w (newcomer name arity) (newborn name arity ids) refl w1 _ e h
          (ap (λ x. read x s1) is ∙ born_read w w1 s s1 e p ids name arity store puts next.0 next.1 made.1)),
    )
