-- What the index of a key's entry says of the slots that the key has.
use Rattle.eco_index.proofs.Common.{◌≡◌, ℕ, cond, get_or, position, slice_get, Option, None, Some, IfNone, IfSome, refl, sym, ap, subst, unwrap_or}
use Rattle.eco_index.proofs.Common.{◌∙◌, Result, Ok, Err, OnOk, OnErr, true, false, true≢false, lookup, HashMap, IsUnchanged, IsUnique, Updates, get}
use Rattle.eco_index.proofs.Common.{keys, get_or_from_slice_get, slice_get-map, with_value_at, Key, Marks, Slots, KeepsNoEmpty, is_empty, same_key, AreMarked}
use Rattle.eco_index.proofs.Common.{KeepsMarks, may_be_kept}
use Rattle.std.specs.Option.{option_map}
use Rattle.std.proofs.lemmas.List.Quantifiers.{position-Some}
use Rattle.indexmap.proofs.CallerLemmas.{updates-with_value_at}
use Rattle.eco_index.proofs.Keys.{keys_same, more_marks, none_empty, still_marked}
use Rattle.eco_index.specs.contracts.id_index.key.KeyEq.TheImpl.Laws as key_laws

-- the key at the index where a key was looked up is that key
pub key_at : {S : Type 0} (m : HashMap Key Slots S) (k own : Key) (place : ℕ) (o : Slots) → position (same_key k) (keys m) ≡ Some place
    → slice_get m.entries place ≡ Some (own, o) → slice_get m.entries place ≡ Some (k, o)
key_at m k own place o found at =
    let key : get_or (keys m) place own ≡ own =
    get_or_from_slice_get (keys m) place own own (slice_get-map (λ e. e.0) m.entries place ∙ ap (option_map (λ e. e.0)) at) in
    at ∙ ap (λ q. Some (q, o)) (sym (keys_same k own (ap (same_key k) (sym key) ∙ (position-Some (same_key k) (keys m) place own found).1)))

module _ {S : Type 0} (m : HashMap Key Slots S) (k : Key) (place : ℕ) (o : Slots) (at : slice_get m.entries place ≡ Some (k, o)) where
  -- what goes at the index is the key
  pub goes_at : (m' : HashMap Key Slots S) → IfSome (slice_get m.entries place) (λ e. Updates same_key m m' e.0 None)
      → (q : Key) → get same_key m' q ≡ cond (same_key k q) None (get same_key m q)
  goes_at m' went q = (subst (λ x. IfSome x (λ e. Updates same_key m m' e.0 None)) at went).0 q

  -- a write at the index gives the key other slots
  pub written_at : IsUnique same_key m → (w : Slots) (q : Key)
      → get same_key (with_value_at m place w) q ≡ cond (same_key k q) (Some w) (get same_key m q)
  written_at unique w q = (updates-with_value_at m place w key_laws.laws-law unique k o at).0 q

-- what stands at an index is one
pub same_slots : (e : Option (Key × Slots)) (x y : Key × Slots) → e ≡ Some x → e ≡ Some y → x.1 ≡ y.1
same_slots e x y is is' = ap (λ r. (unwrap_or r x).1) (sym is ∙ is')

-- a key that goes leaves the others as they are
module _ {S : Type 0} (m m' : HashMap Key Slots S) where
  pub full_without : KeepsNoEmpty m → (r : Option (Key × Slots)) → IfSome r (λ e. Updates same_key m m' e.0 None)
      → IfNone r (IsUnchanged m m') → KeepsNoEmpty m'
  full_without full (Some e) went same = none_empty m m' e.0 None went.0 full refl
  full_without full None went same = λ q. ap (λ es. is_empty (lookup (same_key q) es)) same ∙ full q

  pub marked_without : (marks marks' : Marks) → AreMarked marks m → KeepsMarks marks marks' → (r : Option (Key × Slots))
      → IfSome r (λ e. Updates same_key m m' e.0 None) → IfNone r (IsUnchanged m m') → AreMarked marks' m'
  marked_without marks marks' were keeps (Some e) went same =
      still_marked m m' e.0 None went.0 marks' (more_marks marks marks' m keeps were) (λ unmarked. refl)
  marked_without marks marks' were keeps None went same =
      λ q unmarked. ap (λ es. lookup (same_key q) es) same ∙ more_marks marks marks' m keeps were q unmarked

-- a key that comes has slots, and may be kept; where it is refused, all is as it was
module _ {S T E : Type 0} (m m' : HashMap Key Slots S) (k : Key) (o : Slots) where
  pub full_with : KeepsNoEmpty m → is_empty (Some o) ≡ false → (r : Result T E) → OnOk r (Updates same_key m m' k (Some o))
      → OnErr r (IsUnchanged m m') → KeepsNoEmpty m'
  full_with full has (Ok x) came same = none_empty m m' k (Some o) came.0 full has
  full_with full has (Err e) came same = λ q. ap (λ es. is_empty (lookup (same_key q) es)) same ∙ full q

  pub marked_with : (marks : Marks) → AreMarked marks m → may_be_kept marks k ≡ true → (r : Result T E)
      → OnOk r (Updates same_key m m' k (Some o)) → OnErr r (IsUnchanged m m') → AreMarked marks m'
  marked_with marks were may (Ok x) came same =
      still_marked m m' k (Some o) came.0 marks were (λ unmarked. absurd (true≢false (sym may ∙ unmarked)))
  marked_with marks were may (Err e) came same = λ q unmarked. ap (λ es. lookup (same_key q) es) same ∙ were q unmarked
