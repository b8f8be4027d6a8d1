-- Runs of calls, and what holds of each.
use Rattle.std.specs.Prelude.{◌≡◌, ◌≢◌, ℕ, false, List, [], ◌∷◌, Option, None, Result, Ok, IsTrue}
use Rattle.eco_ids.specs.declared.entity.Entity.{Entity}
use Rattle.eco_ids.specs.declared.refusal.Refusal.{Refusal}
use Rattle.eco_ids.specs.Births.{Makes, Admits, may_admit, MakesAliveWith}
use Rattle.eco_ids.specs.Indices.{Indexed, is_alive, with_death, changed}
use Rattle.eco_ids.specs.Outcome.{Meets}
use Rattle.eco_entities.specs.Registration.{CreatesRegistration, Registration, RenamesRegistration, newcomer, given_name, placed}
use Rattle.eco_entities.specs.declared.place.Place.{Place}

-- a call that changes the index
pub data Call : Type 0 where
  Create : Option (List ℕ) → Option ℕ → Call
  Admit : ℕ → Call
  MakeAlive : Entity → Call
  Kill : Entity → Call
  Rename : Entity → Option (List ℕ) → Call
  SetPlace : Entity → Place → Call

-- the call leads from the old index to the new one, whatever it answers
abbrev pub LeadsTo : Call → Indexed Registration → Indexed Registration → Type 0
LeadsTo (Create name arity) old new = (r : Result Entity Refusal) × CreatesRegistration old name arity r new
LeadsTo (Admit n) old new = (r : Result (Unit {0}) Refusal) × Meets (Admits old n) (may_admit old n) old r new
LeadsTo (MakeAlive e) old new = (r : Result (Unit {0}) Refusal) × MakesAliveWith old e (newcomer None None) r new
LeadsTo (Kill e) old new = IsTrue (is_alive old e) × (new ≡ with_death old e)
LeadsTo (Rename e name) old new = (r : Result (Unit {0}) Refusal) × RenamesRegistration old e name r new
LeadsTo (SetPlace e p) old new = IsTrue (is_alive old e) × (new ≡ changed old e (placed p))

-- the calls, one after another, lead from the old index to the new one
abbrev pub RunsTo : List Call → Indexed Registration → Indexed Registration → Type 0
RunsTo [] old new = new ≡ old
RunsTo (c ∷ cs) old new = (mid : Indexed Registration) × LeadsTo c old mid × RunsTo cs mid new

-- who was killed never lives again, and no create answers that handle, whatever calls come in between
abbrev pub NobodyLivesTwice : Type 0
NobodyLivesTwice =
    (old later : Indexed Registration) (e : Entity) (calls : List Call) → IsTrue (is_alive old e) → RunsTo calls (with_death old e) later
    → (is_alive later e ≡ false)
    × ((name : Option (List ℕ)) (arity : Option ℕ) (x : Entity) (new : Indexed Registration) → Makes given_name later (newcomer name arity) (Ok x) new → x ≢ e)
