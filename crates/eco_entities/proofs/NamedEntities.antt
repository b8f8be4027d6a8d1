-- Who bears a name: the look-up in the registry and the search among the living find the same.
use Rattle.eco_entities.proofs.Common.{common_steps, ◌≡◌, ℕ, zero, suc, ◌+◌, ◌-◌, ◌≤◌, Bool, true, false, cond, List, [], ◌∷◌}
use Rattle.eco_entities.proofs.Common.{slice_get, refl, sym, ap, ◌∙◌, Option, Some, None, MatchOption, option_map, option_and_then, arith, cases_eq}
use Rattle.eco_entities.proofs.Common.{false≢true, ne_eqb, is_eq-slice_cmp, none-some, same_Some, bytes_eq-Decides, Entity, Indexed, IndexState, Retired}
use Rattle.eco_entities.proofs.Common.{Free, Living, record_in, record_of, living_from, is_text, is_called, named_entity, own_name, Registration, given_name}
use Rattle.eco_entities.proofs.Common.{HasNobody, IsBorne, IsRegistry, IsUnused, is_some, record_here}
use Rattle.std.proofs.Common.{IfNone, IfSome}
use Rattle.std.proofs.Common.{find}

-- `is_text` is equality

pub text_same : (xs ys : List ℕ) → is_text xs ys ≡ true → xs ≡ ys
text_same xs ys h = (bytes_eq-Decides xs ys).0 (sym (is_eq-slice_cmp xs ys) ∙ h)

pub text_refl : (xs : List ℕ) → is_text xs xs ≡ true
text_refl xs = is_eq-slice_cmp xs xs ∙ (bytes_eq-Decides xs xs).1 refl

pub called_same : (name : List ℕ) (own : Option (List ℕ)) → is_called name own ≡ true → own ≡ Some name
called_same name None h = absurd (false≢true h)
called_same name (Some own) h = ap Some (text_same own name h)

-- the search among the living

abbrev is_named : List ℕ → Entity × Registration → Bool
is_named name p = is_called name (given_name p.1)

-- nobody there has the name
abbrev NoNamedEntity : List (IndexState Registration) → List ℕ → Type 0
NoNamedEntity xs name = (i g : ℕ) (r : Registration) → record_in (slice_get xs i) g ≡ Some r → is_called name (given_name r) ≡ false

-- this one has it
abbrev IsNamedEntity : ℕ → List (IndexState Registration) → List ℕ → Entity × Registration → Type 0
IsNamedEntity n xs name q = (n ≤ q.0.index) × (record_in (slice_get xs (q.0.index - n)) q.0.generation ≡ Some q.1)
    × (is_called name (given_name q.1) ≡ true)

abbrev Found : ℕ → List (IndexState Registration) → List ℕ → Option (Entity × Registration) → Type 0
Found n xs name o = MatchOption o (NoNamedEntity xs name) (IsNamedEntity n xs name)

none_after : (x : IndexState Registration) (xs : List (IndexState Registration)) (name : List ℕ) →
    ((g : ℕ) (r : Registration) → record_in (Some x) g ≡ Some r → is_called name (given_name r) ≡ false) → NoNamedEntity xs name →
    NoNamedEntity (x ∷ xs) name
none_after x xs name here rest zero g r h = here g r h
none_after x xs name here rest (suc i) g r h = rest i g r h

-- one state in front, at which nobody has the name
found_later : (n : ℕ) (x : IndexState Registration) (xs : List (IndexState Registration)) (name : List ℕ) (o : Option (Entity × Registration)) →
    ((g : ℕ) (r : Registration) → record_in (Some x) g ≡ Some r → is_called name (given_name r) ≡ false) → Found (n + 1) xs name o →
    Found n (x ∷ xs) name o
found_later n x xs name None here rest = none_after x xs name here rest
found_later n x xs name (Some q) here rest = grind (arith, common_steps)

living_one : (g f : ℕ) (r q : Registration) → record_in (Some (Living g r)) f ≡ Some q → Some r ≡ Some q
living_one g f r q h = grind (arith, common_steps, cases_eq, record_here, none-some, ne_eqb)

found_living : (n g : ℕ) (r : Registration) (xs : List (IndexState Registration)) (name : List ℕ) (b : Bool) (o : Option (Entity × Registration)) →
    is_called name (given_name r) ≡ b → Found (n + 1) xs name o →
    Found n (Living g r ∷ xs) name (cond b (Some (record { index = n; generation = g }, r)) o)
found_living n g r xs name true o e rest = grind (arith, common_steps, record_here)
found_living n g r xs name false o e rest = grind (arith, common_steps, found_later, same_Some, living_one)

found_from : (n : ℕ) (xs : List (IndexState Registration)) (name : List ℕ) → Found n xs name (find (is_named name) (living_from n xs))
found_from n [] name = λ i g r h. absurd (none-some r h)
found_from n (Retired ∷ xs) name = found_later n Retired xs name _ (λ g r h. absurd (none-some r h)) (found_from (n + 1) xs name)
found_from n (Free f ∷ xs) name = found_later n (Free f) xs name _ (λ g r h. absurd (none-some r h)) (found_from (n + 1) xs name)
found_from n (Living g r ∷ xs) name = found_living n g r xs name (is_called name (given_name r)) _ refl (found_from (n + 1) xs name)

unnamed : {name : List ℕ} (o : Option Registration) → option_and_then given_name o ≡ Some name →
    ((r : Registration) → o ≡ Some r → is_called name (given_name r) ≡ false) → ⊥
unnamed {name} None h none = none-some name h
unnamed {name} (Some r) h none = false≢true (sym (none r refl) ∙ (ap (is_called name) h ∙ text_refl name))

-- who is found under a name, where exactly who has the name is found, is who the search among the living finds
abbrev pub FindsExactly : Indexed Registration → List ℕ → Option Entity → Type 0
FindsExactly w name f = ((e : Entity) → f ≡ Some e → own_name given_name w e ≡ Some name)
    × ((e : Entity) → own_name given_name w e ≡ Some name → f ≡ Some e)

finds_exactly : (w : Indexed Registration) (name : List ℕ) (o : Option (Entity × Registration)) (f g : Option Entity) → FindsExactly w name f
    → Found 0 w.indices name o → g ≡ f → g ≡ option_map (λ p. p.0) o
finds_exactly w name None f None exact none is = refl
finds_exactly w name None f (Some x) exact none is =
    absurd (unnamed (record_of w x) (exact.0 x (sym is)) (none x.index x.generation))
finds_exactly w name (Some q) f g exact has is =
    let place : q.0.index - 0 ≡ q.0.index = omega arith in
    let kept : record_of w q.0 ≡ Some q.1 = rw place at has.1 in
    let named : own_name given_name w q.0 ≡ Some name = ap (option_and_then given_name) kept ∙ called_same name (given_name q.1) has.2 in
    is ∙ exact.1 q.0 named

pub finds_named_entity : (w : Indexed Registration) (name : List ℕ) (f : Option Entity) → FindsExactly w name f → f ≡ named_entity given_name w name
finds_named_entity w name f exact = finds_exactly w name _ f f exact (found_from 0 w.indices name) refl

-- what is found in a registry: one who has the name, or nobody among all who are listed
pub registry_finds : (listed : List ℕ → Entity → Type 0) (w : Indexed Registration) (name : List ℕ) (f : Option Entity)
    → IsRegistry listed (own_name given_name w) → IfSome f (λ e. own_name given_name w e ≡ Some name)
    → IfNone f (HasNobody (own_name given_name w) name (listed name)) → FindsExactly w name f
registry_finds listed w name None r some none = (λ e h. absurd (none-some e h), λ e own. absurd (none e own (r.listed_so name e own)))
registry_finds listed w name (Some x) r some none =
    (λ e h. ap (own_name given_name w) (sym (same_Some x e h)) ∙ some, λ e own. ap Some (r.unique x e name some own))

pub registry_named_entity : (listed : List ℕ → Entity → Type 0) (w : Indexed Registration) (name : List ℕ) (f : Option Entity)
    → IsRegistry listed (own_name given_name w) → IfSome f (λ e. own_name given_name w e ≡ Some name)
    → IfNone f (HasNobody (own_name given_name w) name (listed name)) → f ≡ named_entity given_name w name
registry_named_entity listed w name f r some none = finds_named_entity w name f (registry_finds listed w name f r some none)

-- a name that nobody has
pub unused_name : (w : Indexed Registration) (name : List ℕ) → IsUnused (own_name given_name w) name → named_entity given_name w name ≡ None
unused_name w name unused = sym (finds_named_entity w name None (λ e h. absurd (none-some e h), λ e own. absurd (unused e own)))

-- one that somebody has
pub borne_name : (listed : List ℕ → Entity → Type 0) (w : Indexed Registration) (name : List ℕ) → IsRegistry listed (own_name given_name w)
    → IsBorne (own_name given_name w) name → is_some (named_entity given_name w name) ≡ true
borne_name listed w name r (x, own) =
    sym (ap is_some (finds_named_entity w name (Some x) (
      λ e h. ap (own_name given_name w) (sym (same_Some x e h)) ∙ own,
      λ e theirs. ap Some (r.unique x e name own theirs),
    )))

-- in an index that is shown
module _ (v w : Indexed Registration) (name : List ℕ) (shown : v ≡ w) where
  pub unused_shown : IsUnused (own_name given_name v) name → named_entity given_name w name ≡ None
  unused_shown unused = sym (ap (λ (x : Indexed Registration). named_entity given_name x name) shown) ∙ unused_name v name unused

  pub borne_shown : (listed : List ℕ → Entity → Type 0) → IsRegistry listed (own_name given_name v) → IsBorne (own_name given_name v) name
      → is_some (named_entity given_name w name) ≡ true
  borne_shown listed r borne =
      sym (ap (λ (x : Indexed Registration). is_some (named_entity given_name x name)) shown) ∙ borne_name listed v name r borne
