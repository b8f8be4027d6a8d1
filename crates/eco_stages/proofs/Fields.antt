-- Values of few fields.
use Rattle.eco_stages.proofs.Common.{◌≡◌, ℕ, List, length, take, IsTrue, ap}
use Rattle.std.specs.Prelude.{ℤ}
use Rattle.eco_ids.proofs.Zeros.{few_fields}
use Rattle.eco_ids.specs.Data.{is_zero_past}
use Rattle.eco_ids.specs.World.{padded}
use Rattle.eco_ids.specs.declared.value.Value.{Value}
use Rattle.eco_ids.specs.declared.value.TheConstants.{FIELD_COUNT}

-- with zeros behind so many fields these are the value
pub few_kept : (k : ℕ) (v : Value) → length v.0 ≡ FIELD_COUNT → IsTrue (is_zero_past k v) → padded (take k v.0) ≡ v
few_kept k v full zeros = ap of_fields (few_fields k v full zeros)
  where
    of_fields : List ℤ → Value
    of_fields xs = record { 0 = xs }
