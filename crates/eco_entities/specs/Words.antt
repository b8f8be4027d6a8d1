-- The bits of a list of 64-bit words: bit k stands in the word at k / 64.
use Rattle.std.specs.Prelude.{◌≡◌, ℕ, ◌-◌, ◌*◌, ◌/◌, ◌%◌, ◌^◌, ◌<◌, ◌==◌, min, Bool, true, false, nat_lt, List, length, slice_index, slice_set, bit_and, bit_or}
use Rattle.std.specs.Int.{bit_at, bit_not, w64}

-- the bit is set; past the last word none is
unfoldable pub has_bit : List ℕ → ℕ → Bool
has_bit words k = bit_at (slice_index words (k / 64)) (k % 64) == 1

-- the words with this bit set
unfoldable pub with_bit : List ℕ → ℕ → List ℕ
with_bit words k = slice_set words (k / 64) (bit_or (slice_index words (k / 64)) (1 * 2 ^ (k % 64) % 2 ^ 64))

-- the words with this bit cleared
unfoldable pub without_bit : List ℕ → ℕ → List ℕ
without_bit words k = slice_set words (k / 64) (bit_and (slice_index words (k / 64)) (bit_not w64 (1 * 2 ^ (k % 64) % 2 ^ 64)))

-- the bits of the word at w whose places lie from `from` up to `to`
unfoldable pub range_mask : ℕ → ℕ → ℕ → ℕ
range_mask from to w = 2 ^ min (to - w * 64) 64 - 2 ^ min (from - w * 64) 64

-- the bits from `from` up to `to` are set, the others stay
pub record FillsBits (from to : ℕ) (old new : List ℕ) : Type 0 where
  pub count : length new ≡ length old
  pub words : (w : ℕ) → slice_index new w ≡ bit_or (slice_index old w) (range_mask from to w)

-- w is the first word that has a bit
pub record IsFirstWord (words : List ℕ) (w : ℕ) : Type 0 where
  pub marked : 0 < slice_index words w
  pub before : (k : ℕ) → k < w → slice_index words k ≡ 0

-- k is the lowest bit that is set
pub record IsLowestBit (words : List ℕ) (k : ℕ) : Type 0 where
  pub set : has_bit words k ≡ true
  pub below : (j : ℕ) → j < k → has_bit words j ≡ false

-- a bit of the upper words is set exactly where the lower word at its place has a bit
pub record Summarizes (lower upper : List ℕ) : Type 0 where
  pub exact : (w : ℕ) → has_bit upper w ≡ nat_lt 0 (slice_index lower w)
