-- One bit of a list of words: set, cleared, and what the word around it then is.
use Rattle.eco_entities.proofs.Common.{common_steps, ◌≡◌, ◌≢◌, ℕ, ◌+◌, ◌-◌, ◌*◌, ◌/◌, ◌%◌, ◌^◌, ◌<◌, ◌≤◌, zero}
use Rattle.eco_entities.proofs.Common.{suc, ◌==◌, Bool, true, false, nat_lt, Option, Some, None, MatchOption, cond, List, [], ◌∷◌, length, set}
use Rattle.eco_entities.proofs.Common.{get_or, refl, sym, ap, ◌∙◌, inl, inr, min, max, arith, lit<, eq-eqb, eqb-true, replicate, ◌++◌, cases_eq}
use Rattle.eco_entities.proofs.Common.{cases_lt, lt-ltb, ltb-true, ltb-false, or_zero_r, position_from, FillsBits, IsFirstWord, IsLowestBit, Summarizes}
use Rattle.std.proofs.lemmas.List.{get_or-set_same, get_or-set_other, get_or_past, length-set}
use Rattle.std.proofs.lemmas.Nat.Bits.{bit_at-zero, bit_at-lt, bit_at_set_same, bit_at_set_other, bit_at_clear_same, bit_at_clear_other, bit_at_or}
use Rattle.std.proofs.lemmas.Nat.Bits.{bit_at_mask_inside, bit_at_mask_below, bit_at_mask_above, bit_at-trailing_zeros}
use Rattle.std.proofs.Math.Nat.{pow-le-pow_right}
use Rattle.std.proofs.lemmas.Nat.{pow_pos, and_le_l}
use Rattle.std.specs.Int.{bit_at, w64, trailing_zeros}
use Rattle.eco_entities.specs.Words.{has_bit, with_bit, without_bit, range_mask}

-- a bit is set where the number's bit is 1
-- equal words have equal bits
pub has_bit_same : (us ws : List ℕ) (k : ℕ) → bit_at (get_or us (k / 64) 0) (k % 64) ≡ bit_at (get_or ws (k / 64) 0) (k % 64)
    → has_bit us k ≡ has_bit ws k
unfolding has_bit
has_bit_same us ws k e = ap (λ n. n == 1) e

pub has_bit_word : (us ws : List ℕ) (k : ℕ) → get_or us (k / 64) 0 ≡ get_or ws (k / 64) 0 → has_bit us k ≡ has_bit ws k
has_bit_word us ws k e = has_bit_same us ws k (ap (λ n. bit_at n (k % 64)) e)

pub has_bit_one : (ws : List ℕ) (k : ℕ) → bit_at (get_or ws (k / 64) 0) (k % 64) ≡ 1 → has_bit ws k ≡ true
unfolding has_bit
has_bit_one ws k e = eq-eqb _ _ e

pub has_bit_zero : (ws : List ℕ) (k : ℕ) → bit_at (get_or ws (k / 64) 0) (k % 64) ≡ 0 → has_bit ws k ≡ false
unfolding has_bit
has_bit_zero ws k e = ap (λ n. n == 1) e

-- a word without bits has none of them set
pub has_bit_of_zero : (ws : List ℕ) (k : ℕ) → get_or ws (k / 64) 0 ≡ 0 → has_bit ws k ≡ false
has_bit_of_zero ws k e = has_bit_zero ws k (ap (λ n. bit_at n (k % 64)) e ∙ bit_at-zero (k % 64))

-- a number with a bit isn't 0
pub pos_of_bit : (n i : ℕ) → bit_at n i ≡ 1 → 0 < n
pos_of_bit zero i e = absurd (omega (arith, bit_at-zero i, e))
pos_of_bit (suc n) i e = omega arith

-- a word with a bit isn't 0
pub word_of_bit : (ws : List ℕ) (k : ℕ) → has_bit ws k ≡ true → 0 < get_or ws (k / 64) 0
unfolding has_bit
word_of_bit ws k e = pos_of_bit _ (k % 64) (eqb-true _ _ e)

-- another bit, where one word changes and keeps that one
other_bit : (ws : List ℕ) (k j x : ℕ) → j ≢ k → k / 64 < length ws →
    (j % 64 ≢ k % 64 → bit_at x (j % 64) ≡ bit_at (get_or ws (k / 64) 0) (j % 64)) → has_bit (set ws (k / 64) x) j ≡ has_bit ws j
other_bit ws k j x ne l kept =
    elim (cases_eq (j / 64) (k / 64)) [
      | inl e ↦
          let apart : j % 64 ≢ k % 64 = omega arith in
          has_bit_same _ ws j (rw (e, get_or-set_same) (kept apart))
      | inr apart ↦ has_bit_word _ ws j (rw get_or-set_other)
    ]

-- with_bit

pub length-with_bit : (ws : List ℕ) (k : ℕ) → length (with_bit ws k) ≡ length ws
unfolding with_bit
length-with_bit ws k = length-set ws _ _

pub has_bit-with_bit_same : (ws : List ℕ) (k : ℕ) → k / 64 < length ws → has_bit (with_bit ws k) k ≡ true
unfolding with_bit
has_bit-with_bit_same ws k l =
    let below : k % 64 < 64 = omega arith in
    has_bit_one _ k (rw get_or-set_same (bit_at_set_same w64 _ (k % 64) below))

pub has_bit-with_bit_other : (ws : List ℕ) (k j : ℕ) → j ≢ k → k / 64 < length ws → has_bit (with_bit ws k) j ≡ has_bit ws j
unfolding with_bit
has_bit-with_bit_other ws k j ne l =
    let below : k % 64 < 64 = omega arith in
    other_bit ws k j _ ne l (bit_at_set_other w64 _ (k % 64) below (j % 64))

pub word-with_bit_other : (ws : List ℕ) (k w : ℕ) → w ≢ k / 64 → get_or (with_bit ws k) w 0 ≡ get_or ws w 0
unfolding with_bit
word-with_bit_other ws k w ne = rw get_or-set_other

-- without_bit

pub length-without_bit : (ws : List ℕ) (k : ℕ) → length (without_bit ws k) ≡ length ws
unfolding without_bit
length-without_bit ws k = length-set ws _ _

pub has_bit-without_bit_same : (ws : List ℕ) (k : ℕ) → k / 64 < length ws → has_bit (without_bit ws k) k ≡ false
unfolding without_bit
has_bit-without_bit_same ws k l =
    let below : k % 64 < 64 = omega arith in
    has_bit_zero _ k (rw get_or-set_same (bit_at_clear_same w64 _ (k % 64) below))

pub has_bit-without_bit_other : (ws : List ℕ) (k j : ℕ) → j ≢ k → k / 64 < length ws → has_bit (without_bit ws k) j ≡ has_bit ws j
unfolding without_bit
has_bit-without_bit_other ws k j ne l =
    let below : k % 64 < 64 = omega arith in
    let here : j % 64 < 64 = omega arith in
    other_bit ws k j _ ne l (bit_at_clear_other w64 _ (k % 64) below (j % 64) here)

pub word-without_bit_other : (ws : List ℕ) (k w : ℕ) → w ≢ k / 64 → get_or (without_bit ws k) w 0 ≡ get_or ws w 0
unfolding without_bit
word-without_bit_other ws k w ne = rw get_or-set_other

-- the summary

-- one word changes below, and its bit above as it does
summarizes_at : (lower lower' upper upper' : List ℕ) (k : ℕ) → Summarizes lower upper → has_bit upper' k ≡ nat_lt 0 (get_or lower' k 0)
    → ((w : ℕ) → w ≢ k → has_bit upper' w ≡ has_bit upper w) → ((w : ℕ) → w ≢ k → get_or lower' w 0 ≡ get_or lower w 0)
    → Summarizes lower' upper'
summarizes_at lower lower' upper upper' k s here bits words = record {
  exact = λ w. elim (cases_eq w k) [
    | inl e ↦ rw e here
    | inr apart ↦ bits w apart ∙ s.exact w ∙ ap (nat_lt 0) (sym (words w apart))
  ];
}

-- a bit set below is set above
pub summarizes-with_bit : (lower upper : List ℕ) (k : ℕ) → Summarizes lower upper → k / 64 < length lower → k / 64 / 64 < length upper →
    Summarizes (with_bit lower k) (with_bit upper (k / 64))
summarizes-with_bit lower upper k s l u =
    summarizes_at lower _ upper _ (k / 64) s
    (has_bit-with_bit_same upper (k / 64) u ∙ sym (lt-ltb _ _ (word_of_bit (with_bit lower k) k (has_bit-with_bit_same lower k l))))
    (λ w apart. has_bit-with_bit_other upper (k / 64) w apart u) (word-with_bit_other lower k)

-- the last bit of a word is cleared above too
pub summarizes_emptied : (lower upper : List ℕ) (k : ℕ) → Summarizes lower upper → get_or (without_bit lower k) (k / 64) 0 ≡ 0 →
    k / 64 / 64 < length upper → Summarizes (without_bit lower k) (without_bit upper (k / 64))
summarizes_emptied lower upper k s z u =
    summarizes_at lower _ upper _ (k / 64) s (has_bit-without_bit_same upper (k / 64) u ∙ ap (nat_lt 0) (sym z))
    (λ w apart. has_bit-without_bit_other upper (k / 64) w apart u) (word-without_bit_other lower k)

-- clearing a bit adds none
pub word-without_bit_le : (ws : List ℕ) (k : ℕ) → k / 64 < length ws → get_or (without_bit ws k) (k / 64) 0 ≤ get_or ws (k / 64) 0
unfolding without_bit
word-without_bit_le ws k l = rw get_or-set_same (and_le_l _ _)

-- a word that keeps a bit stays marked
pub summarizes_kept : (lower upper : List ℕ) (k : ℕ) → Summarizes lower upper → (get_or (without_bit lower k) (k / 64) 0 ≡ 0 → ⊥) →
    k / 64 < length lower → Summarizes (without_bit lower k) upper
summarizes_kept lower upper k s ne l =
    let new : 0 < get_or (without_bit lower k) (k / 64) 0 = omega (arith, ne) in
    let old : 0 < get_or lower (k / 64) 0 = omega (arith, word-without_bit_le lower k l) in
    summarizes_at lower _ upper _ (k / 64) s (s.exact (k / 64) ∙ lt-ltb _ _ old ∙ sym (lt-ltb _ _ new)) (λ w apart. refl) (word-without_bit_other lower k)

-- the lowest bit of the first word that has any

pub lowest_of_first : (ws : List ℕ) (at : ℕ) → IsFirstWord ws at → get_or ws at 0 < 2 ^ 64
    → IsLowestBit ws (at * 64 + trailing_zeros w64 (get_or ws at 0))
lowest_of_first ws at f fits =
    let found : (trailing_zeros w64 (get_or ws at 0) < 64) × (bit_at (get_or ws at 0) (trailing_zeros w64 (get_or ws at 0)) ≡ 1)
    × ((i : ℕ) → i < trailing_zeros w64 (get_or ws at 0) → bit_at (get_or ws at 0) i ≡ 0) = bit_at-trailing_zeros w64 (get_or ws at 0) f.marked fits in
    let below : trailing_zeros w64 (get_or ws at 0) < 64 = found.0 in
    let word : (at * 64 + trailing_zeros w64 (get_or ws at 0)) / 64 ≡ at = omega arith in
    let place : (at * 64 + trailing_zeros w64 (get_or ws at 0)) % 64 ≡ trailing_zeros w64 (get_or ws at 0) = omega arith in
    record {
      set = has_bit_one ws _ (rw (word, place) found.1);
      below = λ j l. elim (cases_lt (j / 64) at) [
        | inl before ↦ has_bit_of_zero ws j (f.before (j / 64) before)
        | inr after ↦
            let here : j / 64 ≡ at = omega arith in
            has_bit_zero ws j (rw here (found.2 (j % 64) (omega arith)))
      ];
    }

-- a range

pub mask_order : (low high : ℕ) → low ≤ high → 2 ^ low ≤ 2 ^ high
mask_order low high l = pow-le-pow_right (lit< tt) l

pub mask_is : (low high : ℕ) → low ≤ high → (2 ^ high - 1) - (2 ^ low - 1) ≡ 2 ^ high - 2 ^ low
mask_is low high l = omega (arith, mask_order low high l, pow_pos low)

pub mask_before : (from to w : ℕ) → from ≤ to → w < from / 64 → range_mask from to w ≡ 0
unfolding range_mask
mask_before from to w l b =
    grind (arith, common_steps)

pub mask_after : (from to w : ℕ) → from ≤ to → to ≤ w * 64 → range_mask from to w ≡ 0
unfolding range_mask
mask_after from to w l a =
    grind (arith, common_steps)

pub bit_at-mask_inside : (from to k : ℕ) → from ≤ k → k < to → bit_at (range_mask from to (k / 64)) (k % 64) ≡ 1
unfolding range_mask
bit_at-mask_inside from to k l h = bit_at_mask_inside _ _ (k % 64) (omega arith) (omega arith)

pub bit_at-mask_below : (from to k : ℕ) → k < from → bit_at (range_mask from to (k / 64)) (k % 64) ≡ 0
unfolding range_mask
bit_at-mask_below from to k l = bit_at_mask_below _ _ (k % 64) (omega arith)

pub bit_at-mask_above : (from to k : ℕ) → to ≤ k → bit_at (range_mask from to (k / 64)) (k % 64) ≡ 0
unfolding range_mask
bit_at-mask_above from to k h = bit_at_mask_above _ _ (k % 64) (omega arith)

pub has_bit-fill_inside : (from to : ℕ) (old new : List ℕ) (k : ℕ) → FillsBits from to old new → from ≤ k → k < to → has_bit new k ≡ true
has_bit-fill_inside from to old new k f l h =
    has_bit_one new k
    (rw (f.words (k / 64), bit_at_or) (omega (arith, bit_at-mask_inside from to k l h, bit_at-lt (get_or old (k / 64) 0) (k % 64))))

pub has_bit-fill_below : (from to : ℕ) (old new : List ℕ) (k : ℕ) → FillsBits from to old new → k < from → has_bit new k ≡ has_bit old k
has_bit-fill_below from to old new k f l =
    has_bit_same new old k
    (rw (f.words (k / 64), bit_at_or) (omega (arith, bit_at-mask_below from to k l)))

pub has_bit-fill_above : (from to : ℕ) (old new : List ℕ) (k : ℕ) → FillsBits from to old new → to ≤ k → has_bit new k ≡ has_bit old k
has_bit-fill_above from to old new k f h =
    has_bit_same new old k
    (rw (f.words (k / 64), bit_at_or) (omega (arith, bit_at-mask_above from to k h)))

-- a word that the range reaches has a bit
pub word_filled : (from to w : ℕ) (old new : List ℕ) → FillsBits from to old new → from < to → from / 64 ≤ w → w < to / 64 + min 1 (to % 64) →
    0 < get_or new w 0
word_filled from to w old new f l after within =
    let word : max from (w * 64) / 64 ≡ w = omega arith in
    let low : from ≤ max from (w * 64) = omega arith in
    let high : max from (w * 64) < to = omega arith in
    let set : 0 < get_or new (max from (w * 64) / 64) 0 = word_of_bit new (max from (w * 64))
    (has_bit-fill_inside from to old new (max from (w * 64)) f low high) in
    rw word at set

-- a range set below is a range set above
pub summarizes_filled : (from to up_to : ℕ) (lower lower' upper upper' : List ℕ) → Summarizes lower upper → from < to →
    up_to ≡ to / 64 + min 1 (to % 64) → FillsBits from to lower lower' → FillsBits (from / 64) up_to upper upper' → Summarizes lower' upper'
summarizes_filled from to up_to lower lower' upper upper' s l up f g = record {
  exact = λ w. elim (cases_lt w (from / 64)) [
    | inl before ↦
        let same : get_or lower' w 0 ≡ get_or lower w 0 = f.words w ∙ rw (mask_before from to w (omega arith) before) (or_zero_r _) in
        has_bit-fill_below (from / 64) up_to upper upper' w g before ∙ (s.exact w ∙ ap (λ n. nat_lt 0 n) (sym same))
    | inr after ↦ elim (cases_lt w up_to) [
      | inl within ↦ has_bit-fill_inside (from / 64) up_to upper upper' w g after within
          ∙ sym (lt-ltb _ _ (word_filled from to w lower lower' f l after (omega arith)))
      | inr past ↦
          let same : get_or lower' w 0 ≡ get_or lower w 0 = f.words w ∙ rw (mask_after from to w (omega arith) (omega arith)) (or_zero_r _) in
          has_bit-fill_above (from / 64) up_to upper upper' w g past ∙ (s.exact w ∙ ap (λ n. nat_lt 0 n) (sym same))
    ]
  ];
}

-- words without bits at the end

pub get_or-zeros : (ws : List ℕ) (n w : ℕ) → get_or (ws ++ replicate n 0) w 0 ≡ get_or ws w 0
get_or-zeros [] zero w = refl
get_or-zeros [] (suc n) zero = refl
get_or-zeros [] (suc n) (suc w) = get_or-zeros [] n w
get_or-zeros (x ∷ ws) n zero = refl
get_or-zeros (x ∷ ws) n (suc w) = get_or-zeros ws n w

pub has_bit-appended : (n : ℕ) (old new : List ℕ) (k : ℕ) → new ≡ old ++ replicate n 0 → has_bit new k ≡ has_bit old k
has_bit-appended n old new k a = has_bit_word new old k (rw a (get_or-zeros old n (k / 64)))

pub summarizes-appended_above : (n : ℕ) (lower upper upper' : List ℕ) → Summarizes lower upper → upper' ≡ upper ++ replicate n 0
    → Summarizes lower upper'
summarizes-appended_above n lower upper upper' s a = record { exact = λ w. has_bit-appended n upper upper' w a ∙ s.exact w }

pub summarizes-appended_below : (n : ℕ) (lower lower' upper : List ℕ) → Summarizes lower upper → lower' ≡ lower ++ replicate n 0
    → Summarizes lower' upper
summarizes-appended_below n lower lower' upper s a = record {
  exact = λ w. s.exact w ∙ ap (nat_lt 0) (sym (ap (λ ws. get_or ws w 0) a ∙ get_or-zeros lower n w));
}

-- one level down

-- the lowest bit above names the first word below that has a bit
-- what has no bit above has none below
pub none_of_none : (lower upper : List ℕ) (k : ℕ) → Summarizes lower upper → ((w : ℕ) → has_bit upper w ≡ false) → has_bit lower k ≡ false
none_of_none lower upper k s none =
    has_bit_of_zero lower k (omega (arith, ltb-false 0 (get_or lower (k / 64) 0) (sym (s.exact (k / 64)) ∙ none (k / 64))))

-- the place of a word with a bit lies within the words
pub within_of_word : (ws : List ℕ) (w : ℕ) → 0 < get_or ws w 0 → w < length ws
within_of_word ws w pos = grind (arith, common_steps, cases_lt, get_or_past)

-- the first word that has a bit, where the words are counted from n
abbrev FirstFrom : ℕ → List ℕ → Option ℕ → Type 0
FirstFrom n ws r = MatchOption r ((k : ℕ) → get_or ws k 0 ≡ 0)
    (λ p. (n ≤ p) × (0 < get_or ws (p - n) 0) × ((k : ℕ) → k < p - n → get_or ws k 0 ≡ 0))

zeros_after : (x : ℕ) (ws : List ℕ) (k : ℕ) → x ≡ 0 → ((j : ℕ) → j < k → get_or ws j 0 ≡ 0) → get_or (x ∷ ws) k 0 ≡ 0
zeros_after x ws zero z below = z
zeros_after x ws (suc k) z below = below k (omega arith)

first_later : (n x : ℕ) (ws : List ℕ) (r : Option ℕ) → x ≡ 0 → FirstFrom (n + 1) ws r → FirstFrom n (x ∷ ws) r
first_later n x ws None z rest = λ k. zeros_after x ws k z (λ j l. rest j)
first_later n x ws (Some p) z rest =
    let e : p - n ≡ suc (p - (n + 1)) = omega (arith, rest.0) in
    (omega (arith, rest.0), rw e rest.1, λ k l. zeros_after x ws k z (λ j h. rest.2 j (omega (arith, l, h, e))))

first_here : (n x : ℕ) (ws : List ℕ) (b : Bool) → nat_lt 0 x ≡ b → FirstFrom (n + 1) ws (position_from (λ w. nat_lt 0 w) (n + 1) ws) →
    FirstFrom n (x ∷ ws) (cond b (Some n) (position_from (λ w. nat_lt 0 w) (n + 1) ws))
first_here n x ws b e rest = grind (arith, common_steps, ltb-true, ltb-false, first_later)

pub first_from : (n : ℕ) (ws : List ℕ) → FirstFrom n ws (position_from (λ w. nat_lt 0 w) n ws)
first_from n [] = λ k. refl
first_from n (x ∷ ws) = first_here n x ws (nat_lt 0 x) refl (first_from (n + 1) ws)

first_is : (ws : List ℕ) (r : Option ℕ) → FirstFrom 0 ws r → MatchOption r ((k : ℕ) → get_or ws k 0 ≡ 0) (IsFirstWord ws)
first_is ws None f = f
first_is ws (Some p) f = let e : p - 0 ≡ p = omega arith in record { marked = rw e at f.1; before = rw e at f.2 }

pub first_word_or_none : (ws : List ℕ) (r : Option ℕ) → r ≡ position_from (λ w. nat_lt 0 w) 0 ws
    → MatchOption r ((k : ℕ) → get_or ws k 0 ≡ 0) (IsFirstWord ws)
first_word_or_none ws r e = first_is ws r (rw e (first_from 0 ws))
