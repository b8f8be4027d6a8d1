-- The names of the living after each change of a state.
use Rattle.eco_entities.proofs.Common.{common_steps, arith, ◌≡◌, ℕ, Bool, true, List, slice_get, refl, ap, ◌∙◌, Option, Some, None, is_some}
use Rattle.eco_entities.proofs.Common.{option_and_then, inl, inr, Result, Ok, Err, cases_Bool, MatchBool-at_true, MatchBool-at_false, Refusal, Taken, Admits}
use Rattle.eco_entities.proofs.Common.{MakesAliveWith, Meets, Place, slice_get_within, Entity, Indexed, Living, record_of, is_alive, is_free_at, with_record}
use Rattle.eco_entities.proofs.Common.{with_death, with_new, next_entity, changed, change_kept, own_name, Registration, newcomer, given_name, placed, renamed}
use Rattle.eco_entities.proofs.Common.{ChangesAt, KeepsAnswers, IsRegistry, slice_get-set_same, record_here, record_at}
use Rattle.std.proofs.lemmas.List.{set-set}
use Rattle.eco_entities.proofs.Registers.{cases_entity, registry_same, registry_nameless}
use Rattle.eco_entities.proofs.Common.{◌≢◌, sym, none-some, same_Some, IndexState, Free, Retired}
use Rattle.eco_entities.proofs.States.{alive_known, next_is}
use Rattle.eco_entities.proofs.Kept.{record-new, record_of_next, record-settled, record_of_free, record-died, record-replaced, record-admitted}

-- where what is kept changes at one entity, so do the names
pub names_follow : (w new : Indexed Registration) (e : Entity) (o : Option Registration) → ChangesAt (record_of w) (record_of new) e o →
    ChangesAt (own_name given_name w) (own_name given_name new) e (option_and_then given_name o)
names_follow w new e o c = record { here = ap (option_and_then given_name) c.here; others = λ j ne. ap (option_and_then given_name) (c.others j ne) }

-- where what is kept stays, so do the names
pub names_stay : (w new : Indexed Registration) → KeepsAnswers (record_of w) (record_of new)
    → KeepsAnswers (own_name given_name w) (own_name given_name new)
names_stay w new k = record { all = λ e. ap (option_and_then given_name) (k.all e) }

-- a newcomer has its name, and the others keep theirs
pub own-settled : (w : Indexed Registration) (e : Entity) (name : Option (List ℕ)) (arity : Option ℕ) → is_free_at w e ≡ true →
    ChangesAt (own_name given_name w) (own_name given_name (with_record w e (newcomer name arity))) e name
own-settled w e name arity free =
    names_follow w (with_record w e (newcomer name arity)) e (Some (newcomer name arity)) (record-settled w e (newcomer name arity) free)

pub own_of_free : (w : Indexed Registration) (e : Entity) → is_free_at w e ≡ true → own_name given_name w e ≡ None
own_of_free w e free = ap (option_and_then given_name) (record_of_free w e free)

-- the next entity has its name, and the others keep theirs
pub own-new : (w : Indexed Registration) (e : Entity) (name : Option (List ℕ)) (arity : Option ℕ) → next_entity w ≡ Some e →
    ChangesAt (own_name given_name w) (own_name given_name (with_new w e (newcomer name arity))) e name
own-new w e name arity next =
    names_follow w (with_new w e (newcomer name arity)) e (Some (newcomer name arity)) (record-new w e (newcomer name arity) next)

pub own_of_next : (w : Indexed Registration) (e : Entity) → next_entity w ≡ Some e → own_name given_name w e ≡ None
own_of_next w e next = ap (option_and_then given_name) (record_of_next w e next)

-- the dead have no name, and the others keep theirs
pub own-died : (w : Indexed Registration) (e : Entity) → is_alive w e ≡ true
    → ChangesAt (own_name given_name w) (own_name given_name (with_death w e)) e None
own-died w e alive = names_follow w (with_death w e) e None (record-died w e alive)

-- a change of what is kept of one entity
pub record-changed : (w : Indexed Registration) (e : Entity) (change : Registration → Registration) (r : Registration) → record_of w e ≡ Some r →
    ChangesAt (record_of w) (record_of (changed w e change)) e (Some (change r))
record-changed w e change r h =
    let is : changed w e change ≡ with_record w e (change r) = ap (change_kept w e change) h in
    let c : ChangesAt (record_of w) (record_of (with_record w e (change r))) e (Some (change r)) = record-replaced w e (change r) (ap is_some h) in
    record {
      here = ap (λ (v : Indexed Registration). record_of v e) is ∙ c.here;
      others = λ j ne. ap (λ (v : Indexed Registration). record_of v j) is ∙ c.others j ne;
    }

pub own-changed : (w : Indexed Registration) (e : Entity) (change : Registration → Registration) (r : Registration) →
    slice_get w.indices e.index ≡ Some (Living e.generation r)
    → ChangesAt (own_name given_name w) (own_name given_name (changed w e change)) e (given_name (change r))
own-changed w e change r here = names_follow w (changed w e change) e (Some (change r)) (record-changed w e change r (record_at w e r here))

pub own-renamed : (w : Indexed Registration) (e : Entity) (name : Option (List ℕ)) → is_alive w e ≡ true →
    ChangesAt (own_name given_name w) (own_name given_name (changed w e (renamed name))) e name
own-renamed w e name alive =
    let living : (r : Registration) × (slice_get w.indices e.index ≡ Some (Living e.generation r)) = alive_known w e alive in
    own-changed w e (renamed name) living.0 living.1

-- a place is no name
pub own-placed : (w : Indexed Registration) (e : Entity) (p : Place) → is_alive w e ≡ true →
    KeepsAnswers (own_name given_name w) (own_name given_name (changed w e (placed p)))
own-placed w e p alive =
    let living : (r : Registration) × (slice_get w.indices e.index ≡ Some (Living e.generation r)) = alive_known w e alive in
    let c : ChangesAt (own_name given_name w) (own_name given_name (changed w e (placed p))) e (given_name living.0) = own-changed w e
    (placed p) living.0 living.1 in
    record {
      all = λ j. grind (arith, common_steps, cases_entity, record_at);
    }

-- who dies after losing the name
pub death_of_renamed : (w : Indexed Registration) (e : Entity) (change : Registration → Registration) → is_alive w e ≡ true →
    with_death (changed w e change) e ≡ with_death w e
death_of_renamed w e change alive = grind (arith, common_steps, alive_known, record_at, set-set)

module _ {listed : List ℕ → Entity → Type 0} where
  -- a call that makes an entity alive keeps the registry
  pub registry_made_alive : (w new : Indexed Registration) (e : Entity) (r : Result (Unit {0}) Refusal) → IsRegistry listed (own_name given_name w) →
      MakesAliveWith w e (newcomer None None) r new → IsRegistry listed (own_name given_name new)
  registry_made_alive w new e r g h =
      elim (cases_Bool (is_free_at w e)) [
        | inl free ↦
            let done : (r ≡ Ok tt) × (new ≡ with_record w e (newcomer None None)) = MatchBool-at_true _ _ free h in
            rw done.1 (registry_nameless e g (own-settled w e None None free))
        | inr other ↦
            let refused : (r ≡ Err Taken) × (new ≡ w) = MatchBool-at_false _ _ other h in
            rw refused.1 g
      ]

  -- a call that admits keeps the registry
  pub registry_admitted : (w new : Indexed Registration) (n : ℕ) (may : Bool) (r : Result (Unit {0}) Refusal) → IsRegistry listed (own_name given_name w) →
      Meets (Admits w n) may w r new → IsRegistry listed (own_name given_name new)
  registry_admitted w new n may r g h = grind (arith, common_steps, cases_Bool, registry_same, names_stay, record-admitted)

pub alive_changed : (w : Indexed Registration) (e : Entity) (change : Registration → Registration) → is_alive w e ≡ true →
    is_alive (changed w e change) e ≡ true
alive_changed w e change alive = grind (arith, common_steps, alive_known, record_at, slice_get-set_same, slice_get_within, record_here)

-- ---- at one index lives one

-- who has a name lives
pub named_alive : (w : Indexed Registration) (e : Entity) (name : List ℕ) → own_name given_name w e ≡ Some name → is_alive w e ≡ true
named_alive w e name h = by (record_of w e) h
  where
    by : (o : Option Registration) → option_and_then given_name o ≡ Some name → is_some o ≡ true
    by None h = absurd (none-some name h)
    by (Some r) h = refl

abbrev generation_in : Option (IndexState Registration) → ℕ
generation_in (Some (Living g r)) = g
generation_in (Some (Free g)) = 0
generation_in (Some Retired) = 0
generation_in None = 0

pub one_alive : (w : Indexed Registration) (a b : Entity) → is_alive w a ≡ true → is_alive w b ≡ true → a.index ≡ b.index → a ≡ b
one_alive w a b alive_a alive_b same =
    let known_a = (alive_known w a alive_a).1 in
    let known_b = (alive_known w b alive_b).1 in
    let generation : a.generation ≡ b.generation = ap generation_in (sym known_a ∙ (ap (slice_get w.indices) same ∙ known_b)) in
    ap (λ i. record { index = i; generation = a.generation }) same ∙ ap (λ g. record { index = b.index; generation = g }) generation

-- another who has a name is at another index
pub apart_from : (w : Indexed Registration) (e x : Entity) (name : List ℕ) → is_alive w e ≡ true → x ≢ e → own_name given_name w x ≡ Some name
    → x.index ≢ e.index
apart_from w e x name alive apart own same = apart (one_alive w x e (named_alive w x name own) alive same)

-- and so is whoever has a name, where an entity comes to live
pub apart_from_next : (w : Indexed Registration) (e x : Entity) (name : List ℕ) → next_entity w ≡ Some e → own_name given_name w x ≡ Some name
    → x.index ≢ e.index
apart_from_next w e x name next own same =
    let known = (alive_known w x (named_alive w x name own)).1 in
    let there = sym (ap (slice_get w.indices) same) ∙ known in
    elim (next_is w e next) [
      | inl free ↦ grind (arith, common_steps, same_Some)
      | inr fresh ↦ grind (arith, common_steps, slice_get_within)
    ]
