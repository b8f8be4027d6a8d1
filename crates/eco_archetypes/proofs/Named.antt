-- Whom the types of tables name.
use Rattle.eco_archetypes.proofs.Common.{◌≡◌, ℕ, zero, suc, Bool, true, false, ◌↔◌, inl, inr, List, [], ◌∷◌, nat_lt, length, Option, Some}
use Rattle.eco_archetypes.proofs.Common.{None, option_map, refl, sym, ◌∙◌, true≢false, IsTrue, list_any, false_from_ne_true, Id, second, or_parts}
use Rattle.eco_archetypes.proofs.Common.{or_right, TableState, slot_of, Lists, type_names, naming, names_match, same_tests, IsIdIndex, has_one_of, is_found_by}
use Rattle.eco_archetypes.proofs.Common.{type_at, is_named_by_some, names_in}
use Rattle.std.proofs.lemmas.Bool.{or_left}
use Rattle.eco_ids.specs.declared.entity.Entity.{Entity}
use Rattle.eco_index.specs.Naming.{ListsSome}

-- ---- types that name

abbrev own_type : Option TableState → Option (List Id)
own_type o = option_map (λ (t : TableState). t.ids) o

names_type : (e : Entity) (o : Option TableState) → has_one_of (naming e) (own_type o) ≡ names_in e o
names_type e None = refl
names_type e (Some t) = names_match e t.ids

at_slot : (e : Entity) (slots : List (Option TableState)) (n : ℕ) → names_in e (slot_of slots n) ≡ true → is_named_by_some slots e ≡ true
at_slot e [] n h = absurd (true≢false (sym h))
at_slot e (o ∷ slots) zero h = or_left (names_in e o) (is_named_by_some slots e) h
at_slot e (o ∷ slots) (suc n) h = or_right (names_in e o) (is_named_by_some slots e) (at_slot e slots n h)

some_slot_names : (e : Entity) (slots : List (Option TableState)) → is_named_by_some slots e ≡ true → (n : ℕ) × (names_in e (slot_of slots n) ≡ true)
some_slot_names e [] h = absurd (true≢false (sym h))
some_slot_names e (o ∷ slots) h =
    elim (or_parts (names_in e o) (is_named_by_some slots e) h) as (λ _. (n : ℕ) × (names_in e (slot_of (o ∷ slots) n) ≡ true)) [
      | inl here ↦ (0, here)
      | inr later ↦ let rest = some_slot_names e slots later in (suc rest.0, rest.1)
    ]

pub listed_named : (slots : List (Option TableState)) (now : Lists) (e : Entity) → IsIdIndex (type_at slots) now → (r : Bool)
    → IsTrue r ↔ ListsSome now (naming e) → r ≡ is_named_by_some slots e
listed_named slots now e index r is =
    same_tests r (is_named_by_some slots e)
    (λ h. let some = is.0 h in at_slot e slots some.0 (sym (listed some.0) ∙ some.1))
    (λ h. let some = some_slot_names e slots h in is.1 (some.0, listed some.0 ∙ some.1))
  where
    listed : (n : ℕ) → list_any (λ p. now p n) (naming e) ≡ names_in e (slot_of slots n)
    listed n = (λ t. list_any (λ p. index p n t) (naming e)) ∙ names_type e (slot_of slots n)

-- ---- who is named nowhere

found_names : (e : Entity) (o : Option TableState) → is_found_by (λ ids. type_names ids e) o ≡ true → names_in e o ≡ true
found_names e None h = h
found_names e (Some t) h = second (nat_lt 0 (length t.rows)) (type_names t.ids e) h

-- no table is found by a name that no type has
pub none_names : (slots : List (Option TableState)) (e : Entity) → is_named_by_some slots e ≡ false → (n : ℕ)
    → is_found_by (λ ids. type_names ids e) (slot_of slots n) ≡ false
none_names slots e none n =
    false_from_ne_true _ (λ found. true≢false (sym (at_slot e slots n (found_names e (slot_of slots n) found)) ∙ none))
