-- What a set of free indices keeps: three levels of words.
use Rattle.std.specs.Prelude.{◌≡◌, ℕ, ◌*◌, ◌^◌, ◌<◌, ◌≤◌, Bool, false, List, length, map}
use Rattle.std.specs.List.{range_with_len}
use Rattle.eco_entities.specs.Words.{has_bit, Summarizes}

-- the first n bits
unfoldable pub bits_below : ℕ → List ℕ → List Bool
bits_below n words = map (has_bit words) (range_with_len 0 n)

-- each level has room, and says of the level below which of its words have bits
pub record IsLevelled (len : ℕ) (indices words groups : List ℕ) : Type 0 where
  pub bounded : len < 2 ^ 32
  pub indices_room : len ≤ 64 * length indices
  pub words_room : length indices ≤ 64 * length words
  pub groups_room : length words ≤ 64 * length groups
  pub indices_bounded : length indices < 2 ^ 32
  pub words_bounded : length words < 2 ^ 32
  pub groups_bounded : length groups < 2 ^ 32
  pub words_say : Summarizes indices words
  pub groups_say : Summarizes words groups
  pub past : (k : ℕ) → len ≤ k → has_bit indices k ≡ false
