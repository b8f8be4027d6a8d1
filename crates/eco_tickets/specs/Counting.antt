-- The numbers from a base to below a bound, given out one by one through one word, to seats that each keep the list of what they were given.
use Rattle.std.specs.Prelude.{◌≡◌, ℕ, ◌+◌, ◌-◌, ◌^◌, ◌<◌, ◌≤◌, Bool, true, ◌&&◌, ltb, leb, eqb, List, [], ◌∷◌, ◌++◌, length, min, slice_index, cond}
use mathlib.Core.Option.{some}
use lib.ListN.{get_elem?}
use Rattle.atomic_table.specs.Table.{State, Me, Step}
use Rattle.atomic_table.specs.declared.shared.Seat.{Seat}
use Rattle.eco_tickets.specs.declared.word.Share.{Share}
use Rattle.eco_tickets.specs.declared.word.Span.{Span}

-- f of each, added up
abbrev pub total : {X : Type 0} → (X → ℕ) → List X → ℕ
total f [] = 0
total f (x ∷ xs) = f x + total f xs

-- how often x stands in the list
abbrev pub times : ℕ → List ℕ → ℕ
times x xs = total (λ y. cond (eqb y x) 1 0) xs

-- 1 where x is one of the numbers from a to below b, and else 0
abbrev pub once : ℕ → ℕ → ℕ → ℕ
once a b x = cond (leb a x && ltb x b) 1 0

-- each is below n
abbrev pub all_below : ℕ → List ℕ → Bool
all_below n [] = true
all_below n (x ∷ xs) = ltb x n && all_below n xs

-- each is above n
abbrev pub all_above : ℕ → List ℕ → Bool
all_above n [] = true
all_above n (x ∷ xs) = ltb n x && all_above n xs

-- each is above those before it: they ascend, and none comes twice
abbrev pub ascends : List ℕ → Bool
ascends [] = true
ascends (x ∷ xs) = all_above x xs && ascends xs

abbrev pub share : ℕ → ℕ → List ℕ → ℕ → Share
share bound parts numbers refusals = record { bound = bound; parts = parts; numbers = numbers; refusals = refusals }

-- the one seat of a new word
abbrev pub whole : Span → Share
whole k = share k.bound k.parts [] 0

abbrev pub took : Share → ℕ → Share
took v n = share v.bound v.parts (v.numbers ++ n ∷ []) v.refusals

abbrev pub refused : Share → Share
refused v = share v.bound v.parts v.numbers (v.refusals + 1)

-- one part goes to a new seat, which was given nothing
abbrev pub less_one : Share → Share
less_one v = share v.bound (v.parts - 1) v.numbers v.refusals

abbrev pub one_part : Share → Share
one_part v = share v.bound 1 [] 0

abbrev pub both : Share → Share → Share
both v w = share v.bound (v.parts + w.parts) (v.numbers ++ w.numbers) (v.refusals + w.refusals)

abbrev pub spent : Share
spent = share 0 0 [] 0

-- what the rule says of one seat: it was refused at most once a part, and with no part it has nothing
pub record ShareFits (k : Span) (word : ℕ) (v : Share) : Type 0 where
  pub bound : 0 < v.parts → v.bound ≡ k.bound
  pub refusals : v.refusals ≤ v.parts
  pub idle : v.parts ≡ 0 → v.numbers ≡ []
  pub below : all_below word v.numbers ≡ true

-- The lists of all seats together have each number from the base to below the word once, up to the bound. The word exceeds the bound by the number of seats
-- that were refused
pub record IsCounted (k : Span) (word : ℕ) (views : List Share) : Type 0 where
  pub base : k.base ≤ word
  pub room : k.bound + k.parts + 1 < 2 ^ 64
  pub parts : total (λ v. v.parts) views ≡ k.parts
  pub refusals : total (λ v. v.refusals) views ≡ word - k.bound
  pub numbers : (x : ℕ) → total (λ v. times x v.numbers) views ≡ once k.base (min word k.bound) x
  pub each : (by : ℕ) (v : Share) → get_elem? views by ≡ some v → ShareFits k word v

abbrev pub Counts : Span → State (Unit {0}) Share → Type 0
Counts k s = (length s.words ≡ 1) × IsCounted k (slice_index s.words 0) s.views

-- The number found is given where it is below the bound, and is above all that the seat was given. Else the seat was refused
abbrev pub Takes : Step (Unit {0}) → Me (Unit {0}) Share → ℕ → Me (Unit {0}) Share → Type 0
Takes st m found m' = (m'.1 ≡ m.1) × (found < m.0.bound → (m'.0 ≡ took m.0 found) × (all_below found m.0.numbers ≡ true))
    × (m.0.bound ≤ found → m'.0 ≡ refused m.0)

-- what a seat was given
abbrev pub numbers_of : Seat (Unit {0}) Share → List ℕ
numbers_of s = s.me.0.numbers
