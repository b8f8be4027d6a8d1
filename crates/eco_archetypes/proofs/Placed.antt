-- An entity stands where its place says, and nowhere else.
use Rattle.eco_archetypes.proofs.PlacesCommon.{◌≡◌, ◌≢◌, ℕ, List, Option, Some, None, IfNone, option_and_then, sym, ap, subst, ◌∙◌, none-some, Entity}
use Rattle.eco_archetypes.proofs.PlacesCommon.{Indexed, TableRow, TableState, Place, Registration, own_place, row_at, Seat, seat_of, IsStore, seat_at, record_at}
use Rattle.eco_archetypes.proofs.Seated.{one_some, place_from_seat, seat_there}

-- what holds where there is nothing
pub if_none : {A P : Type 0} (o : Option A) → P → IfNone o P
if_none None p = p
if_none (Some a) p = tt

module _ (w : Indexed Registration) (s : List (Option TableState)) (store : IsStore w s) (e : Entity) where
  pub stands_at : (p : Place) → own_place w e ≡ Some p → (row : ℕ) × (r : TableRow) × (row_at s p.table row ≡ Some r) × (r.entity ≡ e)
  stands_at p own =
      let there = store.seated.there e.index (seat_of e p.table p.row) (seat_there w e p own) in (p.row, there.0, there.1, there.2)

  pub stands_only : (p : Place) → own_place w e ≡ Some p → (m row : ℕ) (r : TableRow) → row_at s m row ≡ Some r → r.entity ≡ e → m ≡ p.table
  stands_only p own m row r at is =
      let here = subst (λ (x : Entity). seat_at w x.index ≡ Some (seat_of x m row)) is (store.seated.back m row r at) in
      ap (λ (q : Seat). q.slot) (one_some (seat_at w e.index) _ _ here (seat_there w e p own))

  pub stands_nowhere : own_place w e ≡ None → (m row : ℕ) (r : TableRow) → row_at s m row ≡ Some r → r.entity ≢ e
  stands_nowhere none m row r at is =
      let found = place_from_seat _ r.entity m row (store.seated.back m row r at) in
      let own : own_place w r.entity ≡ Some (record { table = m; row = row }) =
      ap (option_and_then (λ (x : Registration). x.place)) (record_at w r.entity found.0 found.1) ∙ found.2 in
      none-some _ (sym none ∙ subst (λ x. own_place w x ≡ Some (record { table = m; row = row })) is own)
