-- Ids that values may stand at, and what a write leaves of that.
use Rattle.eco_world.proofs.Common.{◌≡◌, ℕ, Bool, MatchBool, sym, subst, ◌&&◌, ◌∷◌, [], not, Option, None, Some, IfSome, option_and_then}
use Rattle.eco_world.proofs.Common.{is_some, true, false, refl}
use Rattle.eco_world.proofs.Common.{◌∙◌, if◌then◌else◌, option_or, Entity, Id, One, Two, Refusal, NotAlive, Reserved, DeadId, NotData, TooWide}
use Rattle.eco_world.proofs.Common.{Value, is_builtin, arity, arity_of, fits, first_refusal, changed, is_reserved, with_value, WorldState, Record, is_alive}
use Rattle.eco_world.proofs.Common.{names_living, changed_each, MayNotSet, IsSettable, IsUnsettable, ap}
use Rattle.std.specs.Prelude.{IfErr, IfOk, Result, Ok, Err}
use Rattle.std.specs.Result.{result_ok}
use Rattle.eco_world.specs.Setting.{fields_at}

module _ (w : WorldState) (e : Entity) (i : Id) (v : Value) where
  alive_alike : (x : Entity) → is_alive (changed w e (with_value i v)) x ≡ is_alive w x
  alive_alike = changed_each w e (with_value i v) is_some (λ d at. refl)

  arity_alike : (x : Entity) → arity_of (changed w e (with_value i v)) x ≡ arity_of w x
  arity_alike = changed_each w e (with_value i v) (λ o. option_and_then (λ (r : Record). r.arity) o) (λ d at. refl)

  living_alike : (j : Id) → names_living (changed w e (with_value i v)) j ≡ names_living w j
  living_alike (One x) = alive_alike x
  living_alike (Two r t) = λ k. alive_alike r k && alive_alike t k

  fields_alike : (j : Id) → arity (changed w e (with_value i v)) j ≡ arity w j
  fields_alike (One x) = arity_alike x
  fields_alike (Two r t) = λ k. if is_builtin w r then None else option_or (arity_alike r k) (arity_alike t k)

  -- who lives and what has how many fields stays so
  pub settable_still : (j : Id) (fields : ℕ) → IsSettable w j fields → IsSettable (changed w e (with_value i v)) j fields
  settable_still j fields is = record { living = living_alike j ∙ is.living; has_fields = fields_alike j ∙ is.has_fields }

  -- what stands against an id stands against a set
  pub unsettable : is_alive w e ≡ true → is_reserved w e i ≡ false → (why : Refusal) → IsUnsettable w i why → MayNotSet w e i v why
  unsettable alive free why is = record {
    first =
        (λ k. first_refusal
        ((not (alive k), NotAlive) ∷ (free k, Reserved) ∷ (not (names_living w i), DeadId) ∷ (not (is_some (arity w i)), NotData)
        ∷ (not (fits w i v), TooWide) ∷ []))
        ∙ is.first ((not (fits w i v), TooWide) ∷ []);
    other = is.other;
  }

  pub known_still : (known : Option ℕ) → IfSome known (IsSettable w i) → IfSome known (IsSettable (changed w e (with_value i v)) i)
  known_still None is = tt
  known_still (Some fields) is = settable_still i fields is

  -- so it is whether the value was written or not
  pub known_kept : (w2 : WorldState) (known : Option ℕ) → IfSome known (IsSettable w i) → (had : Bool)
      → MatchBool had (w2 ≡ changed w e (with_value i v)) (w2 ≡ w) → IfSome known (IsSettable w2 i)
  known_kept w2 known is true eq = subst (λ x. IfSome known (IsSettable x i)) (sym eq) (known_still known is)
  known_kept w2 known is false eq = subst (λ x. IfSome known (IsSettable x i)) (sym eq) is

  pub others_kept : (w2 : WorldState) (had : Bool) → MatchBool had (w2 ≡ changed w e (with_value i v)) (w2 ≡ w)
      → (j : Id) → fields_at w2 j ≡ fields_at w j
  others_kept w2 true eq j = ap (λ x. fields_at x j) eq ∙ (λ k. if living_alike j k then fields_alike j k else None)
  others_kept w2 false eq j = ap (λ x. fields_at x j) eq

module _ (w : WorldState) (i : Id) where
  fields_settable : (fields : ℕ) → IsSettable w i fields → fields_at w i ≡ Some fields
  fields_settable fields is = ap (λ b. if b then arity w i else None) is.living ∙ is.has_fields

  no_fields : (why : Refusal) → IsUnsettable w i why → fields_at w i ≡ None
  no_fields why is = by (names_living w i) (arity w i) (is.first [])
    where
      by : (b : Bool) (o : Option ℕ) → first_refusal ((not b, DeadId) ∷ (not (is_some o), NotData) ∷ []) ≡ Some why → (if b then o else None) ≡ None
      by false o first = refl
      by true None first = refl
      by true (Some n) first = absurd (cc)

  -- who is told how many fields the id has, or why it has none, knows how many it has
  pub told_exactly : (r : Result ℕ Refusal) → IfOk r (IsSettable w i) → IfErr r (IsUnsettable w i) → result_ok r ≡ fields_at w i
  told_exactly (Ok fields) ok err = sym (fields_settable fields ok)
  told_exactly (Err why) ok err = sym (no_fields why err)
