-- What a store answers of one entity, and the store after a value or a name was written.
use Rattle.eco_store.proofs.Common.{◌≡◌, ◌≢◌, ℕ, Bool, true, false, not, ◌&&◌, List, [], ◌∷◌}
use Rattle.eco_store.proofs.Common.{slice_get, set, get_or, Option, Some, None, option_map, option_and_then, unwrap_or, is_some, IsTrue}
use Rattle.eco_store.proofs.Common.{Result, MatchBool, MatchOption, refl, sym, ap, subst, ◌∙◌, find}
use Rattle.eco_store.proofs.Common.{slice_get-get_or, Record, Entity, Id, Refusal, NotAlive, Reserved, BadName, NameTaken, Value, changed, change_kept, Indexed}
use Rattle.eco_store.proofs.Common.{Living, record_of, map_state, id_cmp, Meets, is_out_of_memory, first_refusal, Answers, Refuses}
use Rattle.eco_store.proofs.Common.{TableState, TableRow, table_in, row_in, no_row, rows_in, SetsRows, Place}
use Rattle.eco_store.proofs.Common.{Registration, given_name, own_place, renamed, Seat, IsSeated, seat_of, held_of, row_at, record_for, record_name, held_at}
use Rattle.eco_store.proofs.Common.{held_in_store, read, seat_in, seat_at, HasPlace, IsStore, Stands, slice_get-set_there}
use Rattle.eco_store.proofs.Common.{slice_get-set_other, living_at, map-set}
use Rattle.eco_ids.specs.Names.{is_proper, is_same_name}
use Rattle.eco_ids.specs.Renaming.{own_name, unfit_rename, RenamesWith, may_rename}
use Rattle.eco_ids.specs.Step.{with_name}
use Rattle.eco_archetypes.specs.Seats.{held_in_seat}
use Rattle.eco_archetypes.proofs.Seated.{one_some, placed_record, seat_there, read_record, row_within, held_there}
use Rattle.eco_archetypes.proofs.Seated.{read_at, record_of-read, alive_same}
use Rattle.eco_store.proofs.SeatChanges.{rewritten_seated, who}
use Rattle.eco_store.proofs.Newborn.{is_borne-map}
use Rattle.eco_store.proofs.Views.{alike_set, at_each, changed_at, seen_alike}

-- what a search of an entity's row finds, the entity has
pub value_found : (o : Option Record) (t : TableState) (row : ℕ) (i : Id) (v : Option Value) → Stands o t row
    → ((r : TableRow) → v ≡ find id_cmp i (get_or t.rows row r).held)
    → v ≡ find id_cmp i (unwrap_or (option_map (λ (k : Record). k.held) o) [])
value_found None t row i v h is = absurd h
value_found (Some k) t row i v h is = is no_row ∙ ap (find id_cmp i) (sym (h.held no_row))

-- ---- an entity's row holds something else
module _ (w : Indexed Registration) (s s1 : List (Option TableState)) (e : Entity) (p : Place) (f : List (Id × Value) → List (Id × Value))
    (store : IsStore w s) (own : own_place w e ≡ Some p)
    (sets : SetsRows (rows_in s) (rows_in s1) p.table (set (rows_in s p.table) p.row
    (record { entity = (row_in s p.table p.row).entity; held = f (row_in s p.table p.row).held }))) where
  abbrev rows : List TableRow
  rows = (table_in s p.table).rows

  abbrev old_row : TableRow
  old_row = row_in s p.table p.row

  abbrev new_row : TableRow
  new_row = record { entity = old_row.entity; held = f old_row.held }

  old_there : row_at s p.table p.row ≡ Some old_row
  old_there = slice_get-get_or rows p.row no_row (row_within w s e p store own)

  new_there : row_at s1 p.table p.row ≡ Some new_row
  new_there = ap (λ xs. slice_get xs p.row) sets.changed ∙ slice_get-set_there rows p.row new_row old_row old_there

  elsewhere : (n k : ℕ) → (n ≡ p.table → k ≡ p.row → ⊥) → row_at s1 n k ≡ row_at s n k
  elsewhere =
      at_each p.table (λ n. (k : ℕ) → (n ≡ p.table → k ≡ p.row → ⊥) → row_at s1 n k ≡ row_at s n k)
      (λ k apart. ap (λ xs. slice_get xs k) sets.changed ∙ slice_get-set_other rows p.row k new_row (apart refl))
      (λ n other k apart. ap (λ xs. slice_get xs k) (sets.others n other))

  seat : seat_at w e.index ≡ Some (seat_of e p.table p.row)
  seat = seat_there w e p own

  -- each row has its entity still
  entities_same : (n k : ℕ) → who (row_at s1 n k) ≡ who (row_at s n k)
  entities_same =
      at_each p.table (λ n. (k : ℕ) → who (row_at s1 n k) ≡ who (row_at s n k))
      (at_each p.row (λ k. who (row_at s1 p.table k) ≡ who (row_at s p.table k)) (ap who new_there ∙ sym (ap who old_there))
      (λ k other. ap who (elsewhere p.table k (λ a. other))))
      (λ n other k. ap who (elsewhere n k (λ a b. other a)))

  pub written_store : IsStore w s1
  written_store = record { seated = rewritten_seated (seat_at w) (row_at s) (row_at s1) entities_same store.seated; placed = store.placed }

  others_seen : (j : ℕ) → j ≢ e.index → (o : Option Seat) → seat_at w j ≡ o → option_map (held_in_seat (row_at s1)) o ≡ option_map (held_in_seat (row_at s)) o
  others_seen j other None h = refl
  others_seen j other (Some q) h =
      let mine = store.seated.there j q h in
      let his = store.seated.there e.index (seat_of e p.table p.row) seat in
      ap (λ o. Some (held_of o)) (elsewhere q.slot q.row (λ a b.
      let both = one_some (row_at s p.table p.row) mine.0 his.0 (sym (λ t. row_at s (a t) (b t)) ∙ mine.1) his.1 in
      other (sym (ap (λ (x : Entity). x.index) mine.2) ∙ ap (λ (x : TableRow). x.entity.index) both ∙ ap (λ (x : Entity). x.index) his.2)))

  -- what the entity holds, its row does
  pub held_read : held_in_store (read w s) e ≡ old_row.held
  held_read =
      let r = held_there w s e p store own in
      ap (λ o. unwrap_or (option_map (λ (k : Record). k.held) o) []) (read_record w s e r.0 r.1) ∙ r.2

  abbrev held_anew : Record → Record
  held_anew r = record r { held = f r.held }

  pub written_read : read w s1 ≡ changed (read w s) e held_anew
  written_read =
      let r = placed_record w e p own in
      let living = living_at w e r.0 r.1 in
      let before : record_of (read w s) e ≡ Some (record_for (row_at s) r.0) = read_record w s e r.0 r.1 in
      let held : held_at (row_at s) r.0.place ≡ old_row.held = ap (held_at (row_at s)) r.2 ∙ ap held_of old_there in
      let after : Record = held_anew (record_for (row_at s) r.0) in
      let here : slice_get (read w s1).indices e.index ≡ Some (Living e.generation after) =
      read_at w s1 e.index _ living
      ∙ (λ t. Some (Living e.generation
      (record {
        name = r.0.name;
        arity = r.0.arity;
        held = (ap (held_at (row_at s1)) r.2 ∙ ap held_of new_there ∙ ap f (sym held)) t;
      }))) in
      let indices = alike_set (read w s1).indices (read w s).indices e.index (Living e.generation after) _ (read_at w s e.index _ living) here
      (λ j other. seen_alike w w s s1 j refl (others_seen j other (seat_at w j) refl)) in
      (λ t. record { limit = w.limit; indices = indices t }) ∙ sym (ap (change_kept (read w s) e held_anew) before)

-- ---- a name given
module _ (w : Indexed Registration) (s : List (Option TableState)) (e : Entity) (name : Option (List ℕ)) where
  renamed_store : IsStore w s → IsStore (changed w e (renamed name)) s
  renamed_store store = record {
    seated =
        subst (λ P. IsSeated P (row_at s)) (sym (λ t j. changed_at w e (renamed name) (λ a b. seat_in b ≡ seat_in a) (λ o. refl) (λ g r. refl) j t))
        store.seated;
    placed = λ j. changed_at w e (renamed name) (λ a b. HasPlace a → HasPlace b) (λ o h. h) (λ g r h. h) j (store.placed j);
  }

  renamed_read : read (changed w e (renamed name)) s ≡ changed (read w s) e (with_name name)
  renamed_read = by (record_of w e) ∙ ap (change_kept (read w s) e (with_name name)) (sym (record_of-read w s e))
    where
      by : (o : Option Registration) → read (change_kept w e (renamed name) o) s
          ≡ change_kept (read w s) e (with_name name) (option_map (record_for (row_at s)) o)
      by None = refl
      by (Some r) = λ t. record {
        limit = w.limit;
        indices = map-set (map_state (record_for (row_at s))) w.indices e.index
            (Living e.generation (renamed name r)) t;
      }

  name_same : own_name record_name (read w s) e ≡ own_name given_name w e
  name_same = ap (option_and_then record_name) (record_of-read w s e) ∙ by (record_of w e)
    where
      by : (o : Option Registration) → option_and_then record_name (option_map (record_for (row_at s)) o) ≡ option_and_then given_name o
      by None = refl
      by (Some r) = refl

  unfit_same : unfit_rename record_name (read w s) e false name ≡ unfit_rename given_name w e false name
  unfit_same = λ t.
      first_refusal
      ((not (alive_same w s e t), NotAlive) ∷ (false, Reserved) ∷ (not (is_proper name), BadName)
      ∷ (not (is_same_name (name_same t) name) && is_borne-map (record_for (row_at s)) given_name record_name (λ a. refl) w name t, NameTaken) ∷ [])

  may_same : may_rename record_name (read w s) e false name ≡ may_rename given_name w e false name
  may_same = λ t. not (is_some (unfit_same t)) && (is_some name && not (is_same_name (name_same t) name))

  pub rename_lifts : (w1 : Indexed Registration) (r : Result (Unit {0}) Refusal) →
      Meets (RenamesWith given_name renamed w e false name) (may_rename given_name w e false name) w r w1
      → (IsStore w s → IsStore w1 s) × Meets (RenamesWith record_name with_name (read w s) e false name) (may_rename record_name (read w s) e false name)
      (read w s) r (read w1 s)
  rename_lifts w1 r h = by (is_out_of_memory r) h
    where
      ends : (u : Option Refusal) → MatchOption u (Answers tt (changed w e (renamed name)) r w1) (λ why. Refuses why w r w1)
          → (IsStore w s → IsStore w1 s) × MatchOption u (Answers tt (changed (read w s) e (with_name name)) r (read w1 s))
          (λ why. Refuses why (read w s) r (read w1 s))
      ends None q = (λ store. subst (λ x. IsStore x s) (sym q.1) (renamed_store store), (q.0, ap (λ x. read x s) q.1 ∙ renamed_read))
      ends (Some why) q = (λ store. subst (λ x. IsStore x s) (sym q.1) store, (q.0, ap (λ x. read x s) q.1))

      by : (b : Bool) → MatchBool b (IsTrue (may_rename given_name w e false name) × (w1 ≡ w)) (RenamesWith given_name renamed w e false name r w1)
          → (IsStore w s → IsStore w1 s) × MatchBool b (IsTrue (may_rename record_name (read w s) e false name) × (read w1 s ≡ read w s))
          (RenamesWith record_name with_name (read w s) e false name r (read w1 s))
      by true q = (λ store. subst (λ x. IsStore x s) (sym q.1) store, (may_same ∙ q.0, ap (λ x. read x s) q.1))
      by false q =
          let k = ends (unfit_rename given_name w e false name) q in (
            k.0,
            subst (λ u. MatchOption u (Answers tt (changed (read w s) e (with_name name)) r (read w1 s)) (λ why. Refuses why (read w s) r (read w1 s)))
                (sym unfit_same) k.1,
          )
