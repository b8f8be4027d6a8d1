-- Values of ids that have as many fields as a type.
use Rattle.eco_ids.proofs.Common.{◌≡◌, ◌==◌, ◌&&◌, ◌∷◌, [], ℕ, Bool, false, not, length, is_some, Option, Some, None, option_map, unwrap_or, if◌then◌else◌}
use Rattle.eco_ids.proofs.Common.{IsTrue, refl, sym, ap, ◌∙◌, subst, none-some, find, id_cmp, first_refusal, is_reserved, arity, is_zero_past, IsLawful, unfit}
use Rattle.eco_ids.proofs.Common.{unfit_set, WorldState, Record, held_by, is_alive, names_living, record_of}
use Rattle.eco_ids.specs.declared.entity.Entity.{Entity}
use Rattle.eco_ids.specs.declared.id.Id.{Id}
use Rattle.eco_ids.specs.declared.refusal.Refusal.TheVariants.{NotAlive, Reserved, DeadId, NotData, TooWide}
use Rattle.eco_ids.specs.declared.value.Value.{Value}
use Rattle.eco_ids.specs.declared.value.TheConstants.{FIELD_COUNT}
use Rattle.eco_ids.specs.Data.{value_of}
use Rattle.eco_frame.specs.Fields.{is_of}

module _ (w : WorldState) (e : Entity) (i : Id) (n : ℕ) (typed : arity w i ≡ Some n) where
  -- what the entity has of the id is a value of so many fields
  pub fits_arity : IsLawful w → (v : Value) → value_of w e i ≡ Some v → IsTrue (is_of n v)
  fits_arity lawful v found = by (record_of w e) refl (sym (ap (λ (a : Option ℕ). if is_some a then find id_cmp i (held_by w e) else None) typed) ∙ found)
    where
      by : (o : Option Record) → record_of w e ≡ o → find id_cmp i (unwrap_or (option_map (λ (r : Record). r.held) o) []) ≡ Some v → IsTrue (is_of n v)
      by None at there = absurd (none-some v there)
      by (Some r) at there =
          subst (λ (a : Option ℕ). IsTrue ((length v.0 == FIELD_COUNT) && is_zero_past (unwrap_or a 0) v)) typed
          ((lawful.orderly.records e r at).values i v there)

  -- a value of so many fields fits: nothing stands against a set that does not stand against an add
  pub set_fits : (v : Value) → IsTrue (is_of n v) → unfit_set w e i v ≡ unfit w e i
  set_fits v narrow =
      ap
      (λ (a : Option ℕ). first_refusal
      ((not (is_alive w e), NotAlive) ∷ (is_reserved w e i, Reserved) ∷ (not (names_living w i), DeadId)
      ∷ (not (is_some a), NotData) ∷ (not ((length v.0 == FIELD_COUNT) && is_zero_past (unwrap_or a 0) v), TooWide) ∷ []))
      typed
      ∙ ap
      (λ (b : Bool). first_refusal
      ((not (is_alive w e), NotAlive) ∷ (is_reserved w e i, Reserved) ∷ (not (names_living w i), DeadId) ∷ (false, NotData) ∷ (not b, TooWide) ∷ []))
      narrow
