-- A handle that was killed stays dead.
use Rattle.eco_entities.proofs.Common.{common_steps, ◌≡◌, ◌≢◌, ℕ, zero, suc, ◌+◌, ◌<◌, ◌≤◌, Bool, true, false, List, [], ◌∷◌}
use Rattle.eco_entities.proofs.Common.{◌++◌, slice_get, slice_set, replicate, refl, Option, Some, None, is_some, arith, Ok, Err, if◌then◌else◌}
use Rattle.eco_entities.proofs.Common.{MatchOption, cases_eq, ne_eqb, slice_get_within, Entity, Refusal, NoMoreIds, unfit_name, Indexed, IndexState, Retired}
use Rattle.eco_entities.proofs.Common.{Free, Living, record_in, record_of, is_alive, is_free_at, next_entity, with_record, with_new, with_death, admitted}
use Rattle.eco_entities.proofs.Common.{Refuses, Answers, Registration, newcomer, given_name, Call, LeadsTo, RunsTo, NobodyLivesTwice, slice_get-set_same}
use Rattle.eco_entities.proofs.Common.{slice_get-set_other, living_at}
use Rattle.eco_entities.proofs.States.{free_known, alive_known, next_is}
use Rattle.eco_entities.proofs.Calls.{called}

-- the state is past the generation: nobody of that generation lives there or will
abbrev IsPastIn : Option (IndexState Registration) → ℕ → Type 0
IsPastIn None g = ⊥
IsPastIn (Some Retired) g = Unit {0}
IsPastIn (Some (Free f)) g = g < f
IsPastIn (Some (Living f r)) g = g < f

pub record IsPast (w : Indexed Registration) (e : Entity) : Type 0 where
  pub state : IsPastIn (slice_get w.indices e.index) e.generation

past_dead : (o : Option (IndexState Registration)) (g : ℕ) → IsPastIn o g → is_some (record_in o g) ≡ false
past_dead o g h = grind (arith, common_steps, ne_eqb)

pub past_not_alive : (w : Indexed Registration) (e : Entity) → IsPast w e → is_alive w e ≡ false
past_not_alive w e p = past_dead (slice_get w.indices e.index) e.generation p.state

past_known : (o : Option (IndexState Registration)) (g : ℕ) → IsPastIn o g → (x : IndexState Registration) × (o ≡ Some x)
past_known None g h = absurd h
past_known (Some x) g h = (x, refl)

raised_past : (f g : ℕ) (b : Bool) → g ≤ f → IsPastIn (Some (if b then Free (f + 1) else Retired)) g
raised_past f g b l = grind (arith, common_steps)

-- another state at some index, which is past too where it is this one
past_put : (w : Indexed Registration) (e : Entity) (i : ℕ) (x : IndexState Registration) → IsPast w e →
    (i ≡ e.index → IsPastIn (Some x) e.generation) → IsPast (record w { indices = slice_set w.indices i x }) e
past_put w e i x p here = grind (arith, common_steps, cases_eq, past_known, slice_get_within, slice_get-set_same, slice_get-set_other)

past_appended : (xs ys : List (IndexState Registration)) (i g : ℕ) → IsPastIn (slice_get xs i) g → IsPastIn (slice_get (xs ++ ys) i) g
past_appended [] ys i g h = absurd h
past_appended (x ∷ xs) ys zero g h = h
past_appended (x ∷ xs) ys (suc i) g h = past_appended xs ys i g h

past_admitted : (w : Indexed Registration) (e : Entity) (n : ℕ) → IsPast w e → IsPast (admitted n w) e
past_admitted w e n p = record { state = past_appended w.indices (replicate n (Free 0)) e.index e.generation p.state }

-- a free handle that comes to live
past_settled : (w : Indexed Registration) (e x : Entity) (r : Registration) → is_free_at w x ≡ true → IsPast w e → IsPast (with_record w x r) e
past_settled w e x r free p = grind (arith, common_steps, past_put, free_known)

past_died : (w : Indexed Registration) (e x : Entity) → is_alive w x ≡ true → IsPast w e → IsPast (with_death w x) e
past_died w e x alive p = grind (arith, common_steps, alive_known, past_put, raised_past)

-- the killed one
pub past_killed : (w : Indexed Registration) (e : Entity) → is_alive w e ≡ true → IsPast (with_death w e) e
past_killed w e alive = grind (arith, common_steps, alive_known, slice_get_within, slice_get-set_same, raised_past)

-- the next entity isn't one that is past
next_not_past : (w : Indexed Registration) (e x : Entity) → next_entity w ≡ Some x → IsPast w e → x ≢ e
next_not_past w e x h p same = grind (arith, common_steps, next_is, past_known, slice_get_within)

-- each call leaves it past

made_next : (w new : Indexed Registration) (x : Entity) (d : Registration) (u : Option Refusal) (o : Option Entity) → next_entity w ≡ o →
    MatchOption u (MatchOption o (Refuses {A = Entity} NoMoreIds w (Ok x) new) (λ y. Answers y (with_new w y d) (Ok x) new))
    (λ why. Refuses {A = Entity} why w (Ok x) new) → next_entity w ≡ Some x
made_next w new x d (Some why) o n h = let e : Ok x ≡ Err why = h.0 in cc
made_next w new x d None None n h = let e : Ok x ≡ Err NoMoreIds = h.0 in cc
made_next w new x d None (Some y) n h = let e : Ok x ≡ Ok y = h.0 in cc

past_changed : (w : Indexed Registration) (e x : Entity) (r new : Registration) → record_of w x ≡ Some r → IsPast w e → IsPast (with_record w x new) e
past_changed w e x r new h p = grind (arith, common_steps, past_put, living_at)

past_call : (c : Call) (w new : Indexed Registration) (e : Entity) → LeadsTo c w new → IsPast w e → IsPast new e
past_call c w new e =
    called (λ v u. IsPast v e → IsPast u e) (λ v p. p) (λ v mid u first second p. second (first p)) (λ v n. past_admitted v e n)
    (λ v x r free. past_settled v e x r free) (λ v x alive. past_died v e x alive) (λ v x r u h same. past_changed v e x r u h) c w new

past_run : (calls : List Call) (w new : Indexed Registration) (e : Entity) → RunsTo calls w new → IsPast w e → IsPast new e
past_run [] w new e h p = rw h p
past_run (c ∷ cs) w new e h p = past_run cs h.0 new e h.2 (past_call c w h.0 e h.1 p)

pub lives_once : NobodyLivesTwice
lives_once old later e calls alive runs =
    let p : IsPast later e = past_run calls (with_death old e) later e runs (past_killed old e alive) in (
      past_not_alive later e p,
      λ name arity x new h. next_not_past later e x
          (made_next later new x (newcomer name arity) (unfit_name given_name later name) (next_entity later) refl h) p,
    )
