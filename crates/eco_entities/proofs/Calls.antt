-- What holds between an index and what each kind of change makes of it holds between it and what a call makes of it.
use Rattle.eco_entities.proofs.Common.{◌≡◌, ℕ, ◌+◌, Option, Some, None, List, inl, inr, length, nat_lt, nat_le, Result, Ok, Err, IsTrue}
use Rattle.eco_entities.proofs.Common.{MatchOption, true, false, refl, cases_Bool, MatchBool-at_true, MatchBool-at_false, Entity, Refusal, Taken, NoMoreIds}
use Rattle.eco_entities.proofs.Common.{may_make, Admits, may_admit, unfit_name, Indexed, record_of, is_alive, is_free_at, next_entity, with_record, with_new}
use Rattle.eco_entities.proofs.Common.{with_death, admitted, changed, change_kept, Refuses, Answers, is_out_of_memory, unfit_rename, may_rename, Registration}
use Rattle.eco_entities.proofs.Common.{newcomer, given_name, placed, renamed, Call, Create, Admit, MakeAlive, Kill, Rename, SetPlace, LeadsTo}
use Rattle.eco_entities.proofs.Kept.{next_has_room, IsRoom, with_room}

module _ (P : Indexed Registration → Indexed Registration → Type 0) (stays : (w : Indexed Registration) → P w w)
    (chained : (w mid new : Indexed Registration) → P w mid → P mid new → P w new)
    (admits : (w : Indexed Registration) (n : ℕ) → P w (admitted n w))
    (settles : (w : Indexed Registration) (x : Entity) (r : Registration) → is_free_at w x ≡ true → P w (with_record w x r))
    (dies : (w : Indexed Registration) (x : Entity) → is_alive w x ≡ true → P w (with_death w x))
    (changes : (w : Indexed Registration) (x : Entity) (r new : Registration) → record_of w x ≡ Some r → new.arity ≡ r.arity
    → P w (with_record w x new)) where
  in_room : (w : Indexed Registration) (x : Entity) → P w (with_room w x)
  in_room w x = elim (cases_Bool (nat_lt x.index (length w.indices))) [
    | inl known ↦ rw known (stays w)
    | inr fresh ↦ rw fresh (admits w 1)
  ]

  comes : (w : Indexed Registration) (x : Entity) (r : Registration) → next_entity w ≡ Some x → P w (with_new w x r)
  comes w x r h =
      let room : IsRoom w x = next_has_room w x h in
      rw (← room.settled r) (chained w (with_room w x) (with_record (with_room w x) x r) (in_room w x) (settles (with_room w x) x r room.free))

  -- a change that keeps the arity
  change : (w : Indexed Registration) (x : Entity) (f : Registration → Registration) → ((r : Registration) → (f r).arity ≡ r.arity)
      → (o : Option Registration) → record_of w x ≡ o → P w (change_kept w x f o)
  change w x f keeps None h = stays w
  change w x f keeps (Some r) h = changes w x r (f r) h (keeps r)

  made : (w new : Indexed Registration) (d : Registration) (r : Result Entity Refusal) (u : Option Refusal) (o : Option Entity) → next_entity w ≡ o
      → MatchOption u (MatchOption o (Refuses NoMoreIds w r new) (λ x. Answers x (with_new w x d) r new)) (λ why. Refuses why w r new) → P w new
  made w new d r (Some why) o n h = rw h.1 (stays w)
  made w new d r None None n h = rw h.1 (stays w)
  made w new d r None (Some x) n h = rw h.1 (comes w x d n)

  renames : (w new : Indexed Registration) (x : Entity) (name : Option (List ℕ)) (r : Result (Unit {0}) Refusal) (u : Option Refusal)
      → MatchOption u (Answers tt (changed w x (renamed name)) r new) (λ why. Refuses why w r new) → P w new
  renames w new x name r None h = rw h.1 (change w x (renamed name) (λ k. refl) (record_of w x) refl)
  renames w new x name r (Some why) h = rw h.1 (stays w)

  pub called : (c : Call) (w new : Indexed Registration) → LeadsTo c w new → P w new
  called (Create name arity) w new h =
      elim (cases_Bool (is_out_of_memory h.0)) [
        | inl out ↦ let same : IsTrue (may_make given_name w name) × (new ≡ w) = MatchBool-at_true _ _ out h.1 in rw same.1 (stays w)
        | inr step ↦ made w new (newcomer name arity) h.0 (unfit_name given_name w name) (next_entity w) refl (MatchBool-at_false _ _ step h.1)
      ]
  called (Admit n) w new h =
      elim (cases_Bool (is_out_of_memory h.0)) [
        | inl out ↦ let same : IsTrue (may_admit w n) × (new ≡ w) = MatchBool-at_true _ _ out h.1 in rw same.1 (stays w)
        | inr step ↦
            let done : Admits w n h.0 new = MatchBool-at_false _ _ step h.1 in
            elim (cases_Bool (nat_le (length w.indices + n) w.limit)) [
              | inl room ↦ let all : (h.0 ≡ Ok tt) × (new ≡ admitted n w) = MatchBool-at_true _ _ room done in rw all.1 (admits w n)
              | inr full ↦ let refused : (h.0 ≡ Err NoMoreIds) × (new ≡ w) = MatchBool-at_false _ _ full done in rw refused.1 (stays w)
            ]
      ]
  called (MakeAlive x) w new h =
      elim (cases_Bool (is_free_at w x)) [
        | inl free ↦ let done : (h.0 ≡ Ok tt) × (new ≡ with_record w x (newcomer None None)) = MatchBool-at_true _ _ free h.1 in
            rw done.1 (settles w x (newcomer None None) free)
        | inr other ↦ let refused : (h.0 ≡ Err Taken) × (new ≡ w) = MatchBool-at_false _ _ other h.1 in rw refused.1 (stays w)
      ]
  called (Kill x) w new h = rw h.1 (dies w x h.0)
  called (Rename x name) w new h =
      elim (cases_Bool (is_out_of_memory h.0)) [
        | inl out ↦ let same : IsTrue (may_rename given_name w x false name) × (new ≡ w) = MatchBool-at_true _ _ out h.1 in rw same.1 (stays w)
        | inr step ↦ renames w new x name h.0 (unfit_rename given_name w x false name) (MatchBool-at_false _ _ step h.1)
      ]
  called (SetPlace x place) w new h = rw h.1 (change w x (placed place) (λ k. refl) (record_of w x) refl)
