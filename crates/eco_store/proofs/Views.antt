-- What is seen of a store after places and rows changed.
use Rattle.eco_store.proofs.Common.{◌≡◌, ◌≢◌, ℕ, suc, List, [], ◌∷◌, set, slice_get, Option, Some, None, option_map, unwrap_or, is_some}
use Rattle.eco_store.proofs.Common.{IsTrue, refl, sym, subst, ◌∙◌, ◌+◌, nat_lt, Bool, true, false, if◌then◌else◌, inl, inr, cases_eq}
use Rattle.eco_store.proofs.Common.{Record, Entity, Id, Value, changed, change_kept, Indexed, IndexState, Retired, Free, Living, record_of, is_alive, map_state}
use Rattle.eco_store.proofs.Common.{raised, TableState, TableRow, Place, Registration, row_at, record_for, held_at, read, seat_in, seat_at, seat_of_place}
use Rattle.eco_store.proofs.Common.{slice_get-set_there, slice_get-set_other, living_at}
use Rattle.eco_archetypes.specs.Seats.{held_in_seat}
use Rattle.eco_archetypes.proofs.Seated.{read_at}

-- what holds of one number and of each other holds of all
pub at_each : (n : ℕ) (C : ℕ → Type 0) → C n → ((m : ℕ) → m ≢ n → C m) → (m : ℕ) → C m
at_each n C here others m = elim (cases_eq m n) [
  | inl same ↦ subst C (sym same) here
  | inr other ↦ others m other
]

-- lists that read alike are the same
pub ext_slice_get : {X : Type 0} (xs ys : List X) → ((j : ℕ) → slice_get xs j ≡ slice_get ys j) → xs ≡ ys
ext_slice_get [] [] each = refl
ext_slice_get [] (y ∷ ys) each = let bad = each 0 in absurd (cc)
ext_slice_get (x ∷ xs) [] each = let bad = each 0 in absurd (cc)
ext_slice_get (x ∷ xs) (y ∷ ys) each =
    let head = each 0 in
    let first : x ≡ y = cc in
    let rest = ext_slice_get xs ys (λ j. each (suc j)) in
    λ t. first t ∷ rest t

-- lists that read alike but at one index, and there as well
pub alike_but : {X : Type 0} (xs ys : List X) (i : ℕ) → slice_get xs i ≡ slice_get ys i
    → ((j : ℕ) → j ≢ i → slice_get xs j ≡ slice_get ys j) → xs ≡ ys
alike_but xs ys i here others =
    ext_slice_get xs ys (at_each i (λ j. slice_get xs j ≡ slice_get ys j) here others)

-- a list that reads as another but at one index
pub alike_set : {X : Type 0} (xs ys : List X) (i : ℕ) (x old : X) → slice_get ys i ≡ Some old → slice_get xs i ≡ Some x
    → ((j : ℕ) → j ≢ i → slice_get xs j ≡ slice_get ys j) → xs ≡ set ys i x
alike_set xs ys i x old was here others =
    alike_but xs (set ys i x) i (here ∙ sym (slice_get-set_there ys i x old was)) (λ j other. others j other ∙ sym (slice_get-set_other ys i j x other))

-- what holds of each state that stays and of that of who changes, holds at each index
pub changed_at : {A : Type 0} (w : Indexed A) (e : Entity) (f : A → A) (Q : Option (IndexState A) → Option (IndexState A) → Type 0)
    → ((o : Option (IndexState A)) → Q o o) → ((g : ℕ) (r : A) → Q (Some (Living g r)) (Some (Living g (f r))))
    → (j : ℕ) → Q (slice_get w.indices j) (slice_get (changed w e f).indices j)
changed_at {A} w e f Q same there j = by (record_of w e) refl
  where
    by : (o : Option A) → record_of w e ≡ o → Q (slice_get w.indices j) (slice_get (change_kept w e f o).indices j)
    by None is = same _
    by (Some r) is =
        let now = Living e.generation (f r) in
        let was = living_at w e r is in
        at_each e.index (λ k. Q (slice_get w.indices k) (slice_get (set w.indices e.index now) k))
        (subst (λ o. Q o (slice_get (set w.indices e.index now) e.index)) (sym was)
        (subst (Q (Some (Living e.generation r))) (sym (slice_get-set_there w.indices e.index now _ was)) (there e.generation r)))
        (λ k other. subst (Q (slice_get w.indices k)) (sym (slice_get-set_other w.indices e.index k now other)) (same _)) j

-- who died leaves the index free, or retired
pub raised_either : {A : Type 0} (g : ℕ) (C : IndexState A → Type 0) → ((h : ℕ) → C (Free h)) → C Retired → C (raised g)
raised_either g C free retired = by (nat_lt g 65535)
  where
    by : (b : Bool) → C (if b then Free (g + 1) else Retired)
    by true = free (g + 1)
    by false = retired

pub alive_record : {A : Type 0} (w : Indexed A) (e : Entity) → IsTrue (is_alive w e) → (r : A) × (record_of w e ≡ Some r)
alive_record {A} w e = by (record_of w e)
  where
    by : (o : Option A) → IsTrue (is_some o) → (r : A) × (o ≡ Some r)
    by None h = absurd (cc)
    by (Some r) h = (r, refl)

-- the record without ids
abbrev pub bare : Registration → Record
bare r = record { name = r.name; arity = r.arity; held = [] }

-- the names and arities of the by index
abbrev pub bare_at : Indexed Registration → ℕ → Option (IndexState Record)
bare_at w i = option_map (map_state bare) (slice_get w.indices i)

abbrev glue : Option (IndexState Record) → Option (List (Id × Value)) → Option (IndexState Record)
glue None h = None
glue (Some Retired) h = Some Retired
glue (Some (Free g)) h = Some (Free g)
glue (Some (Living g r)) h = Some (Living g (record r { held = unwrap_or h [] }))

glued : (E : ℕ → ℕ → Option TableRow) (o : Option (IndexState Registration)) →
    option_map (map_state (record_for E)) o ≡ glue (option_map (map_state bare) o) (option_map (held_in_seat E) (seat_in o))
glued E None = refl
glued E (Some Retired) = refl
glued E (Some (Free g)) = refl
glued E (Some (Living g r)) = by r.place
  where
    by : (p : Option Place) → ◌≡◌ {A = Option (IndexState Record)} (Some (Living g (record { name = r.name; arity = r.arity; held = held_at E p })))
        (Some (Living g (record { name = r.name; arity = r.arity; held = unwrap_or (option_map (held_in_seat E) (option_map (seat_of_place g) p)) [] })))
    by None = refl
    by (Some p) = refl

-- what is seen at an index, by the name and the row
pub seen_alike : (w w' : Indexed Registration) (s s' : List (Option TableState)) (j : ℕ)
    → bare_at w' j ≡ bare_at w j
    → option_map (held_in_seat (row_at s')) (seat_at w' j) ≡ option_map (held_in_seat (row_at s)) (seat_at w j)
    → slice_get (read w' s').indices j ≡ slice_get (read w s).indices j
seen_alike w w' s s' j names rows =
    read_at w' s' j _ refl ∙ glued (row_at s') (slice_get w'.indices j) ∙ (λ t. glue (names t) (rows t))
    ∙ sym (read_at w s j _ refl ∙ glued (row_at s) (slice_get w.indices j))
