-- Whom ids name is whom a key is kept of.
use Rattle.eco_index.proofs.Common.{◌≡◌, ℕ, Bool, true, false, ◌||◌, ◌↔◌, inl, inr, List, [], ◌∷◌, nat_eq, length, Option, Some, None}
use Rattle.eco_index.proofs.Common.{is_some, refl, sym, ap, ◌∙◌, true≢false, IsTrue, list_any, HashMap, get, Decides-eqb, Entity, Is, Any, Pattern, Key}
use Rattle.eco_index.proofs.Common.{Slots, is_empty, has_slot, key_of, lists_of, same_key, slots_of, KeepsNoEmpty}
use Rattle.std.proofs.lemmas.Bool.{or_left}
use Rattle.eco_ids.specs.declared.pattern.Pattern.TheVariants.{One, Two}
use Rattle.eco_ids.proofs.Facts.{or_parts, or_right}
use Rattle.eco_index.specs.Naming.{ListsSome, keeps_name}
use Rattle.eco_index.specs.TypeTests.{naming}
use Rattle.eco_index.proofs.Keys.{or_false}

some_slot : (o : Option Slots) → is_empty o ≡ false → is_some o ≡ true → (n : ℕ) × (has_slot o n ≡ true)
some_slot None full there = absurd (true≢false (sym there))
some_slot (Some s) full there = by (slots_of s) refl
  where
    by : (ns : List ℕ) → slots_of s ≡ ns → (n : ℕ) × (has_slot (Some s) n ≡ true)
    by [] is = absurd (true≢false (sym (ap (λ ns. nat_eq (length ns) 0) is) ∙ full))
    by (n ∷ ns) is = (n, ap (list_any (nat_eq n)) is ∙ or_left (nat_eq n n) (list_any (nat_eq n) ns) ((Decides-eqb n n).1 refl))

slot_some : (o : Option Slots) (n : ℕ) → has_slot o n ≡ true → is_some o ≡ true
slot_some None n h = absurd (true≢false (sym h))
slot_some (Some s) n h = refl

module _ {S : Type 0} (m : HashMap Key Slots S) (full : KeepsNoEmpty m) where
  abbrev keeps : Pattern → Bool
  keeps p = is_some (get same_key m (key_of p))

  to_listed : (ps : List Pattern) → list_any keeps ps ≡ true → ListsSome (lists_of m) ps
  to_listed [] h = absurd (true≢false (sym h))
  to_listed (p ∷ ps) h =
      elim (or_parts (keeps p) (list_any keeps ps) h) as (λ _. ListsSome (lists_of m) (p ∷ ps)) [
        | inl here ↦ let at = some_slot (get same_key m (key_of p)) (full (key_of p)) here in (at.0, or_left _ _ at.1)
        | inr later ↦ let rest = to_listed ps later in (rest.0, or_right (lists_of m p rest.0) _ rest.1)
      ]

  to_kept : (ps : List Pattern) (n : ℕ) → list_any (λ p. lists_of m p n) ps ≡ true → list_any keeps ps ≡ true
  to_kept [] n h = h
  to_kept (p ∷ ps) n h =
      elim (or_parts (lists_of m p n) (list_any (λ q. lists_of m q n) ps) h) as (λ _. list_any keeps (p ∷ ps) ≡ true) [
        | inl here ↦ or_left _ _ (slot_some _ n here)
        | inr later ↦ or_right (keeps p) _ (to_kept ps n later)
      ]

  pub kept_listed : (e : Entity) (r : Bool) → r ≡ keeps_name m e → IsTrue r ↔ ListsSome (lists_of m) (naming e)
  kept_listed e r is = (λ h. to_listed (naming e) (sym same ∙ h), λ some. same ∙ to_kept (naming e) some.0 some.1)
    where
      same : r ≡ list_any keeps (naming e)
      same = is ∙ ap (λ b. keeps (One e) || (keeps (Two (Is e) Any) || b)) (sym (or_false (keeps (Two Any (Is e)))))
