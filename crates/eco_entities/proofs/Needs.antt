-- What an id may need never grows.
use Rattle.eco_entities.proofs.Common.{common_steps, ◌≡◌, ℕ, zero, suc, ◌≤◌, true, List, [], ◌∷◌, ◌++◌, slice_get, slice_set, replicate}
use Rattle.eco_entities.proofs.Common.{Option, Some, arith, cases_eq, le-ltb, ne_eqb, slice_get_within, Entity, Indexed, IndexState, Free, Living, record_of}
use Rattle.eco_entities.proofs.Common.{is_alive, is_free_at, with_record, with_death, admitted, raised, need_in, need_of, NeedsNeverGrow, Registration, Call}
use Rattle.eco_entities.proofs.Common.{LeadsTo, slice_get-set_same, slice_get-set_other, living_at}
use Rattle.eco_ids.specs.declared.id.Id.TheVariants.{One, Two}
use Rattle.eco_ids.specs.declared.value.TheConstants.{FIELD_COUNT}
use Rattle.eco_entities.proofs.States.{free_known, alive_known}
use Rattle.eco_entities.proofs.Calls.{called}

-- ---- one state

pub need_few : (o : Option (IndexState Registration)) (g : ℕ) → need_in o g ≤ FIELD_COUNT
need_few o g = grind (arith, common_steps)

-- who comes to live at a free index
need_settled : (f g : ℕ) (r : Registration) → need_in (Some (Living f r)) g ≤ need_in (Some (Free f)) g
need_settled f g r = grind (arith, common_steps, need_few, ne_eqb)

-- who dies
need_died : (f g : ℕ) (r : Registration) → need_in (Some (raised f)) g ≤ need_in (Some (Living f r)) g
need_died f g r = grind (arith, common_steps, ne_eqb, le-ltb)

-- ---- the index

-- another state at a known index, which needs no more
need_put : (w : Indexed Registration) (i : ℕ) (x y : IndexState Registration) (e : Entity) → slice_get w.indices i ≡ Some y
    → ((g : ℕ) → need_in (Some x) g ≤ need_in (Some y) g) → need_of (record w { indices = slice_set w.indices i x }) e ≤ need_of w e
need_put w i x y e was less = grind (arith, common_steps, cases_eq, slice_get_within, slice_get-set_same, slice_get-set_other)

need_appended : (xs ys : List (IndexState Registration)) (i g : ℕ) → need_in (slice_get (xs ++ ys) i) g ≤ need_in (slice_get xs i) g
need_appended [] ys i g = need_few (slice_get ys i) g
need_appended (x ∷ xs) ys zero g = omega arith
need_appended (x ∷ xs) ys (suc i) g = need_appended xs ys i g

need_admitted : (w : Indexed Registration) (e : Entity) (n : ℕ) → need_of (admitted n w) e ≤ need_of w e
need_admitted w e n = need_appended w.indices (replicate n (Free 0)) e.index e.generation

need_made_alive : (w : Indexed Registration) (e x : Entity) (r : Registration) → is_free_at w x ≡ true → need_of (with_record w x r) e ≤ need_of w e
need_made_alive w e x r free =
    need_put w x.index (Living x.generation r) (Free x.generation) e (free_known w x free) (λ g. need_settled x.generation g r)

need_dead : (w : Indexed Registration) (e x : Entity) → is_alive w x ≡ true → need_of (with_death w x) e ≤ need_of w e
need_dead w e x alive =
    let living : (r : Registration) × (slice_get w.indices x.index ≡ Some (Living x.generation r)) = alive_known w x alive in
    need_put w x.index (raised x.generation) (Living x.generation living.0) e living.1 (λ g. need_died x.generation g living.0)

-- a change that keeps the arity
need_changed : (w : Indexed Registration) (e x : Entity) (r new : Registration) → record_of w x ≡ Some r → new.arity ≡ r.arity →
    need_of (with_record w x new) e ≤ need_of w e
need_changed w e x r new h same = need_put w x.index (Living x.generation new) (Living x.generation r) e (living_at w x r h) (λ g. rw same (omega arith))

-- ---- each call

need_call : (c : Call) (w new : Indexed Registration) (e : Entity) → LeadsTo c w new → need_of new e ≤ need_of w e
need_call c w new e =
    called (λ v u. need_of u e ≤ need_of v e) (λ v. omega arith) (λ v mid u less fewer. omega (arith, less, fewer)) (λ v n. need_admitted v e n)
    (λ v x r free. need_made_alive v e x r free) (λ v x alive. need_dead v e x alive) (λ v x r u h same. need_changed v e x r u h same) c w new

pub never_grow : NeedsNeverGrow
never_grow old new c h (One e) = need_call c old new e h
never_grow old new c h (Two r t) =
    let first = need_call c old new r h in
    let second = need_call c old new t h in
    omega (arith, first, second)
