-- All entities of a type get another.
use Rattle.eco_store.proofs.Common.{◌≡◌, ◌≢◌, Bool, true, false, if◌then◌else◌, refl, ap, Record, retyped, same_ids, TypeChange}
use Rattle.eco_store.proofs.Common.{changed_record, record_ids, same_ids-Decides}

-- who has another type than the one that goes
pub other_type : (c : TypeChange) (k : Record) → record_ids k ≢ c.from → changed_record c k ≡ k
other_type c k apart = by (same_ids (record_ids k) c.from) refl
  where
    by : (b : Bool) → same_ids (record_ids k) c.from ≡ b → (if b then record k { held = retyped c.to k.held } else k) ≡ k
    by true same = absurd (apart ((same_ids-Decides (record_ids k) c.from).0 same))
    by false same = refl

-- who has the type that goes
pub own_type : (c : TypeChange) (k : Record) → record_ids k ≡ c.from → changed_record c k ≡ record k { held = retyped c.to k.held }
own_type c k same = ap (λ b. if b then record k { held = retyped c.to k.held } else k) ((same_ids-Decides (record_ids k) c.from).1 same)
