-- What a script's actions write allows them.
use Rattle.eco_bodies.proofs.Common.{◌≡◌, Bool, List, [], ◌∷◌, ◌++◌, Some, None, refl, ◌∙◌, IsTrue, list_all, list_any, list_any-append}
use Rattle.eco_bodies.proofs.Common.{Id, Pattern, pattern_matches, entity_eq, both, or_left, or_right, QuerySlot, exactly, matches_one, action_writes, is_kill}
use Rattle.eco_bodies.proofs.Common.{script_writes, is_allowed, Action, AddId, RemoveId, Put, Sum, Kill, Spawn}
use Rattle.eco_ids.proofs.Overlaps.{entity_eq_itself}
use Rattle.eco_ids.specs.declared.id.Id.TheVariants as id

exact_match : (i : Id) → IsTrue (pattern_matches (exactly i) i)
exact_match (id.One e) = entity_eq_itself e
exact_match (id.Two r t) = both (entity_eq r r) (entity_eq t t) (entity_eq_itself r) (entity_eq_itself t)

own : (i : Id) → IsTrue (matches_one (exactly i ∷ []) i)
own i = or_left (pattern_matches (exactly i) i) _ (exact_match i)

in_left : (xs ys : List Pattern) (i : Id) → IsTrue (matches_one xs i) → IsTrue (matches_one (xs ++ ys) i)
in_left xs ys i h = list_any-append (λ p. pattern_matches p i) xs ys ∙ or_left (matches_one xs i) (matches_one ys i) h

in_right : (xs ys : List Pattern) (i : Id) → IsTrue (matches_one ys i) → IsTrue (matches_one (xs ++ ys) i)
in_right xs ys i h = list_any-append (λ p. pattern_matches p i) xs ys ∙ or_right (matches_one xs i) (matches_one ys i) h

module _ (slots : List QuerySlot) (writes : List Pattern) (kills : Bool) where
  one_allowed : (a : Action) → ((i : Id) → IsTrue (matches_one (action_writes slots a) i) → IsTrue (matches_one writes i))
      → (IsTrue (is_kill a) → IsTrue kills)
      → IsTrue (is_allowed writes kills a)
  one_allowed (AddId i) m k = m i (own i)
  one_allowed (RemoveId i) m k = m i (own i)
  one_allowed (Put slot value) m k = refl
  one_allowed (Sum into from) m k = refl
  one_allowed Kill m k = k refl
  one_allowed (Spawn None) m k = refl
  one_allowed (Spawn (Some i)) m k = m i (own i)

  all_allowed : (actions : List Action) → ((i : Id) → IsTrue (matches_one (script_writes slots actions) i) → IsTrue (matches_one writes i))
      → (IsTrue (list_any is_kill actions) → IsTrue kills) → IsTrue (list_all (is_allowed writes kills) actions)
  all_allowed [] m k = refl
  all_allowed (a ∷ actions) m k =
      both (is_allowed writes kills a) _
      (one_allowed a (λ i h. m i (in_left (action_writes slots a) (script_writes slots actions) i h)) (λ h. k (or_left (is_kill a) _ h)))
      (all_allowed actions (λ i h. m i (in_right (action_writes slots a) (script_writes slots actions) i h)) (λ h. k (or_right (is_kill a) _ h)))

-- each action of a script is allowed by what they write together
pub script_allowed : (slots : List QuerySlot) (actions : List Action)
    → IsTrue (list_all (is_allowed (script_writes slots actions) (list_any is_kill actions)) actions)
script_allowed slots actions = all_allowed slots (script_writes slots actions) (list_any is_kill actions) actions (λ i h. h) (λ h. h)

-- the same of copies of them
pub allowed_by : (query slots : List QuerySlot) (actions xs ys : List Action) (writes : List Pattern) (kills : Bool)
    → slots ≡ query → xs ≡ actions → ys ≡ actions → writes ≡ script_writes slots xs → kills ≡ list_any is_kill ys
    → IsTrue (list_all (is_allowed writes kills) actions)
allowed_by query slots actions xs ys writes kills a b c d e = rw (d, e, a, b, c) (script_allowed query actions)
