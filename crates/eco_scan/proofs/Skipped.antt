-- Bytes at which the machine stays between tokens, or inside of the same one.
use Rattle.eco_scan.proofs.Common.{◌≡◌, ℕ, ◌+◌, ◌-◌, ◌<◌, ◌≤◌, true, List, length, drop, nat_lt, slice_index, slice_range, Some, refl}
use Rattle.eco_scan.proofs.Common.{arith, length-drop, nat_tests, length-take-le, may_follow, is_digit, is_white, Point, Role, Spot, at, dot, generation, hash}
use Rattle.eco_scan.proofs.Common.{index, name_of, with_digit, Reached}
use Rattle.eco_scan.proofs.Loops.{reached_more}
use Rattle.eco_scan.proofs.Stuck.{slice_range_more}

module _ (text : List ℕ) (n : ℕ) (start : Point) where
  pub white_more : (s : Spot) → n < length text → is_white (slice_index text n) ≡ true → Reached start text n (at s)
      → Reached start text (n + 1) (at s)
  white_more s lt is run = reached_more start text n (at s) (at s) lt run (rw is refl)

  pub name_more : (o : Role) (from : ℕ) → from ≤ n → n < length text → may_follow (slice_index text n) ≡ true → n - from < 63
      → Reached start text n (name_of o from (slice_range text from n)) → Reached start text (n + 1) (name_of o from (slice_range text from (n + 1)))
  name_more o from le lt is short run =
      let count : length (slice_range text from n) ≡ n - from = length-take-le (n - from) (drop from text) (omega (arith, length-drop from text)) in
      let fits : nat_lt (length (slice_range text from n)) 63 ≡ true = grind (arith, nat_tests) in
      rw (slice_range_more text from n le lt)
      (reached_more start text n (name_of o from (slice_range text from n)) _ lt run (rw (is, fits) refl))

  pub index_more : (o : Role) (from i j : ℕ) → n < length text → is_digit (slice_index text n) ≡ true
      → with_digit 4294967295 i (slice_index text n) ≡ Some j
      → Reached start text n (index o from i) → Reached start text (n + 1) (index o from j)
  index_more o from i j lt is more run = reached_more start text n (index o from i) (index o from j) lt run (rw (is, more) refl)

  pub hash_more : (o : Role) (from : ℕ) → n < length text → is_digit (slice_index text n) ≡ true
      → Reached start text n (hash o from) → Reached start text (n + 1) (index o from (slice_index text n - 48))
  hash_more o from lt is run = reached_more start text n (hash o from) (index o from (slice_index text n - 48)) lt run (rw is refl)

  pub dot_more : (o : Role) (from i : ℕ) → n < length text → slice_index text n ≡ 46
      → Reached start text n (index o from i) → Reached start text (n + 1) (dot o from i)
  dot_more o from i lt is run = reached_more start text n (index o from i) (dot o from i) lt run (rw is refl)

  pub generation_more : (o : Role) (from i : ℕ) → n < length text → is_digit (slice_index text n) ≡ true
      → Reached start text n (dot o from i) → Reached start text (n + 1) (generation o from i (slice_index text n - 48))
  generation_more o from i lt is run =
      reached_more start text n (dot o from i) (generation o from i (slice_index text n - 48)) lt run (rw is refl)
