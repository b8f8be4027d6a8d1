-- Who is found by a name is who has it.
use Rattle.eco_ids.proofs.Common.{◌≡◌, ℕ, suc, ◌+◌, Bool, true, false, cond, List, [], ◌∷◌, ◌↔◌, IsTrue, slice_get, Some, None, Option, option_map, sym}
use Rattle.eco_ids.proofs.Common.{refl, ap, ◌∙◌, subst, arith, eq-eqb, option_and_then, same_Some, none-some, option_and_then_some, Entity}
use Rattle.eco_ids.proofs.Common.{Living, IndexState, record_in, living_from, IsLawful, is_called, lookup, WorldState, Record, record_of, living}
use Rattle.std.specs.Prelude.{find as find_item}
use Rattle.eco_ids.specs.Step.{own_name}
use Rattle.eco_ids.proofs.Births.{called, lookup_some}
use Rattle.eco_ids.proofs.Keeps.{some_of}
use Rattle.eco_ids.proofs.Records.{living_state}

-- who is found is known at an index, with this record, and is called so
record IsFound (name : List ℕ) (n : ℕ) (xs : List (IndexState Record)) (p : Entity × Record) : Type 0 where
  place : ℕ
  index : p.0.index ≡ n + place
  here : record_in (slice_get xs place) p.0.generation ≡ Some p.1
  called_so : IsTrue (is_called name p.1.name)

later : (name : List ℕ) (n : ℕ) (x : IndexState Record) (xs : List (IndexState Record)) (p : Entity × Record) → IsFound name (n + 1) xs p
    → IsFound name n
    (x ∷ xs) p
later name n x xs p m =
    let at : p.0.index ≡ (n + 1) + m.place = m.index in
    record { place = suc m.place; index = omega (arith, at); here = m.here; called_so = m.called_so }

found : (name : List ℕ) (n : ℕ) (xs : List (IndexState Record)) (p : Entity × Record)
    → find_item (λ q. is_called name q.1.name) (living_from n xs) ≡ Some p → IsFound name n xs p
found name n [] p h = absurd (none-some p h)
found name n (Living f r ∷ xs) p h = by (is_called name r.name) refl h (found name (n + 1) xs p)
  where
    by : {rest : Option (Entity × Record)} (b : Bool) → is_called name r.name ≡ b
        → cond b (Some (record { index = n; generation = f }, r)) rest ≡ Some p
        → (rest ≡ Some p → IsFound name (n + 1) xs p) → IsFound name n (Living f r ∷ xs) p
    by true called_so is go = subst (IsFound name n (Living f r ∷ xs)) (same_Some _ p is) (record {
      place = 0;
      index = omega arith;
      here = ap (λ b. cond b (Some r) None) (eq-eqb f f refl);
      called_so = called_so;
    })
    by false other is go = later name n (Living f r) xs p (go is)
found name n (x ∷ xs) p h = later name n x xs p (found name (n + 1) xs p h)

-- who is looked up has the name
has_name : (w : WorldState) (name : List ℕ) (e : Entity) → lookup w name ≡ Some e → own_name w e ≡ Some name
has_name w name e = by (find_item (λ q. is_called name q.1.name) (living w)) refl
  where
    by : (o : Option (Entity × Record)) → find_item (λ q. is_called name q.1.name) (living w) ≡ o → option_map (λ p. p.0) o ≡ Some e
        → own_name w e ≡ Some name
    by None at is = absurd (none-some e is)
    by (Some p) at is =
        let m = found name 0 w.indices p at in
        let same : p.0 ≡ e = same_Some p.0 e is in
        let place : m.place ≡ p.0.index = omega (arith, m.index) in
        let lives : record_of w p.0 ≡ Some p.1 = ap (λ k. record_in (slice_get w.indices k) p.0.generation) (sym place) ∙ m.here in
        ap (own_name w) (sym same) ∙ ap (option_and_then (λ (r : Record). r.name)) lives ∙ called p.1.name name m.called_so

pub names_find : (w : WorldState) (name : List ℕ) (e : Entity) → IsLawful w → (lookup w name ≡ Some e) ↔ (own_name w e ≡ Some name)
names_find w name e l = (has_name w name e, λ h. option_and_then_some (λ (r : Record). r.name) (record_of w e) name h (λ r lives named. finds r lives named h))
  where
    -- somebody is found, and who is found has the name, so it is e
    finds : (r : Record) → record_of w e ≡ Some r → r.name ≡ Some name → own_name w e ≡ Some name → lookup w name ≡ Some e
    finds r lives named h =
        let someone = some_of (lookup w name) (lookup_some 0 name w.indices e.index e.generation r (living_state w e r lives) named) in
        option_and_then_some (λ (x : Record). x.name) (record_of w someone.0) name (has_name w name someone.0 someone.1)
        (λ x other its_name. someone.1 ∙ ap Some (l.orderly.names someone.0 e x r name other lives its_name named))
