-- What a rename answers.
use Rattle.eco_entities.proofs.Common.{common_steps, arith, ◌≡◌, ℕ, Bool, true, false, ◌&&◌, List, [], ◌∷◌, refl, sym, ap, ◌∙◌, Option}
use Rattle.eco_entities.proofs.Common.{Some, None, Result, Ok, Err, MatchOption, eqb, eqb-true, cases_Bool, and_parts, same_Some, Entity, Refusal, BadName}
use Rattle.eco_entities.proofs.Common.{NameTaken, unfit_name, Makes, Indexed, is_alive, changed, is_name, is_called, named_entity, Meets, first_refusal}
use Rattle.eco_entities.proofs.Common.{is_out_of_memory, own_name, RenamesWith, may_rename, Registration, newcomer, given_name, renamed, record_at, set_own}
use Rattle.eco_entities.proofs.NamedEntities.{text_refl, called_same}
use Rattle.eco_entities.proofs.States.{alive_known}

-- who doesn't bear the name isn't called by it
pub uncalled : (w : Indexed Registration) (e : Entity) (name : List ℕ) → (own_name given_name w e ≡ Some name → ⊥)
    → is_called name (own_name given_name w e) ≡ false
uncalled w e name ne = grind (arith, common_steps, cases_Bool, called_same)

-- another has it
pub rename_taken : (w : Indexed Registration) (e x : Entity) (name : List ℕ) → is_alive w e ≡ true → is_name name ≡ true →
    is_called name (own_name given_name w e) ≡ false → named_entity given_name w name ≡ Some x
    → RenamesWith given_name renamed w e false (Some name) (Err NameTaken) w
rename_taken w e x name alive good other found = rw (alive, good, other, found) (refl, refl)

-- nobody has it, so there is nothing against it
pub rename_may : (w : Indexed Registration) (e : Entity) (name : List ℕ) → is_alive w e ≡ true → is_name name ≡ true →
    is_called name (own_name given_name w e) ≡ false → named_entity given_name w name ≡ None → may_rename given_name w e false (Some name) ≡ true
rename_may w e name alive good other free = rw (alive, good, other, free) refl

-- a state set again
same_name : (r : Registration) (name : Option (List ℕ)) → r.name ≡ name → renamed name r ≡ r
same_name r name h = ap (λ n. renamed n r) (sym h)

-- its own name again changes nothing
pub renamed_same : (w : Indexed Registration) (e : Entity) (name : List ℕ) → is_alive w e ≡ true → own_name given_name w e ≡ Some name →
    changed w e (renamed (Some name)) ≡ w
renamed_same w e name alive own = grind (arith, common_steps, alive_known, record_at, same_name, set_own)

pub rename_same : (w : Indexed Registration) (e : Entity) (name : List ℕ) → is_alive w e ≡ true → is_name name ≡ true →
    own_name given_name w e ≡ Some name → RenamesWith given_name renamed w e false (Some name) (Ok tt) w
rename_same w e name alive good own = rw (alive, good, ap (is_called name) own, text_refl name) (refl, sym (renamed_same w e name alive own))

-- a name is refused for itself, and not for want of memory
unfit_whys : (A : Type 0) (a b : Bool) (why : Refusal) → first_refusal ((a, BadName) ∷ (b, NameTaken) ∷ []) ≡ Some why →
    is_out_of_memory {A = A} (Err why) ≡ false
unfit_whys A a b why h = grind (arith, common_steps, same_Some)

pub unfit_why : (A : Type 0) (w : Indexed Registration) (name : Option (List ℕ)) (why : Refusal) → unfit_name given_name w name ≡ Some why →
    is_out_of_memory {A = A} (Err why) ≡ false
unfit_why A w name why h = unfit_whys A _ _ why h

pub checked : (o : Option Refusal) (r : Result (Unit {0}) Refusal) (why : Refusal) → MatchOption o (r ≡ Ok tt) (λ y. r ≡ Err y) → r ≡ Err why
    → o ≡ Some why
checked None r why h e = absurd (let both : Ok tt ≡ Err why = sym h ∙ e in cc)
checked (Some y) r why h e = let both : Err y ≡ Err why = sym h ∙ e in cc

-- a create whose name is unfit
pub makes_refused : (w : Indexed Registration) (name : Option (List ℕ)) (arity : Option ℕ) (may : Bool) (why : Refusal)
    → unfit_name given_name w name ≡ Some why → Meets (Makes given_name w (newcomer name arity)) may w (Err why) w
makes_refused w name arity may why h = rw (unfit_why Entity w name why h, h) (refl, refl)

-- the test of two handles

pub same_entity : (a b : Entity) → true ≡ (eqb a.index b.index && eqb a.generation b.generation) → a ≡ b
same_entity a b h = grind (arith, common_steps, and_parts, eqb-true)

pub other_entity : (a b : Entity) → false ≡ (eqb a.index b.index && eqb a.generation b.generation) → a ≡ b → ⊥
other_entity a b h e = grind (arith, common_steps)

-- a name that nobody has is fit
pub fit_free : (w : Indexed Registration) (name : List ℕ) → is_name name ≡ true → named_entity given_name w name ≡ None
    → unfit_name given_name w (Some name) ≡ None
fit_free w name good free = rw (good, free) refl

pub rename_free : (w : Indexed Registration) (e : Entity) (name : List ℕ) → is_alive w e ≡ true → is_name name ≡ true
    → named_entity given_name w name ≡ None → RenamesWith given_name renamed w e false (Some name) (Ok tt) (changed w e (renamed (Some name)))
rename_free w e name alive good free = grind (arith, common_steps)
