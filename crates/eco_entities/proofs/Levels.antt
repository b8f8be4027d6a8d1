-- The three levels of a set of free indices: what each change leaves of them, and of the flags that they show.
use Rattle.eco_entities.proofs.Common.{rules, common_steps, ◌≡◌, ℕ, zero, suc, ◌+◌, ◌-◌, ◌*◌, ◌/◌, ◌%◌, ◌^◌, ◌<◌, ◌≤◌}
use Rattle.eco_entities.proofs.Common.{Bool, true, false, List, [], ◌∷◌, ◌++◌, length, get_or, take, replicate, slice_set, refl, sym, ap, ◌∙◌}
use Rattle.eco_entities.proofs.Common.{◌≢◌, inl, inr, min, Some, None, arith, position_from, cases_eq, cases_lt, false≢true, with_bit, without_bit, FillsBits}
use Rattle.eco_entities.proofs.Common.{IsLowestBit, Summarizes}
use Rattle.std.proofs.lemmas.List.{append-nil, take_all, same_lists, length-set, length-append, length-replicate, length-take, get_or-set_same}
use Rattle.std.proofs.lemmas.List.{get_or-set_other, get_or_append_left, get_or-append_right, get_or-replicate, get_or-take}
use Rattle.std.proofs.lemmas.List.FromFn.{length-map-range_with_len, get_or-map-range_with_len}
use Rattle.std.proofs.lemmas.Nat.Bits.{bit_at-zero}
use Rattle.eco_entities.specs.Words.{has_bit}
use Rattle.eco_entities.specs.FreeBits.{bits_below, IsLevelled}
use Rattle.eco_entities.proofs.Bits.{length-with_bit, length-without_bit, has_bit-with_bit_same, has_bit-with_bit_other, has_bit-without_bit_same}
use Rattle.eco_entities.proofs.Bits.{has_bit-without_bit_other, has_bit-fill_inside, has_bit-fill_below, has_bit-fill_above, has_bit-appended}
use Rattle.eco_entities.proofs.Bits.{summarizes-with_bit, summarizes_filled, summarizes-appended_above, summarizes-appended_below}

-- the flags

pub length-bits_below : (n : ℕ) (ws : List ℕ) → length (bits_below n ws) ≡ n
unfolding bits_below
length-bits_below n ws = length-map-range_with_len (has_bit ws) 0 n

pub get_or-bits_below : (n : ℕ) (ws : List ℕ) (k : ℕ) (d : Bool) → k < n → get_or (bits_below n ws) k d ≡ has_bit ws k
unfolding bits_below
get_or-bits_below n ws k d l = get_or-map-range_with_len (has_bit ws) 0 n k k d l (omega arith)

-- flags are equal where each is
pub flags_are : (n : ℕ) (ws : List ℕ) (xs : List Bool) → length xs ≡ n → ((k : ℕ) (d : Bool) → k < n → has_bit ws k ≡ get_or xs k d)
    → bits_below n ws ≡ xs
flags_are n ws xs e same =
    same_lists _ _ (length-bits_below n ws ∙ sym e)
    (λ k d l. let below : k < n = rw length-bits_below at l in get_or-bits_below n ws k d below ∙ same k d below)

-- one flag changes as its bit does
flags_set : (n : ℕ) (ws new : List ℕ) (i : ℕ) (b : Bool) → i < n → has_bit new i ≡ b →
    ((k : ℕ) → k ≢ i → has_bit new k ≡ has_bit ws k) → bits_below n new ≡ slice_set (bits_below n ws) i b
flags_set n ws new i b l here others =
    flags_are n _ _ (length-set _ i b ∙ length-bits_below n ws)
    (λ k d within. elim (cases_eq k i) [
      | inl e ↦
          let there : i < length (bits_below n ws) = rw length-bits_below l in
          rw (e, get_or-set_same) here
      | inr ne ↦ others k ne ∙ rw (get_or-set_other) (sym (get_or-bits_below n ws k d within))
    ])

pub flags-with_bit : (n : ℕ) (ws : List ℕ) (i : ℕ) → i < n → i / 64 < length ws
    → bits_below n (with_bit ws i) ≡ slice_set (bits_below n ws) i true
flags-with_bit n ws i l room =
    flags_set n ws (with_bit ws i) i true l (has_bit-with_bit_same ws i room) (λ k ne. has_bit-with_bit_other ws i k ne room)

pub flags-without_bit : (n : ℕ) (ws : List ℕ) (i : ℕ) → i < n → i / 64 < length ws
    → bits_below n (without_bit ws i) ≡ slice_set (bits_below n ws) i false
flags-without_bit n ws i l room =
    flags_set n ws (without_bit ws i) i false l (has_bit-without_bit_same ws i room) (λ k ne. has_bit-without_bit_other ws i k ne room)

-- the flags from `from` on are all set
pub flags_filled : (n from : ℕ) (old new : List ℕ) → from ≤ n → FillsBits from n old new →
    bits_below n new ≡ take from (bits_below n old) ++ replicate (n - from) true
flags_filled n from old new l f =
    let front : length (take from (bits_below n old)) ≡ from = length-take from (bits_below n old) ∙ rw length-bits_below (omega arith) in
    let whole : length (take from (bits_below n old) ++ replicate (n - from) true) ≡ n =
    length-append (take from (bits_below n old)) (replicate (n - from) true) ∙ rw (front, length-replicate) (omega arith) in
    flags_are n _ _ whole
    (λ k d b. elim (cases_lt k from) [
      | inl before ↦
          let in_front : k < length (take from (bits_below n old)) = rw front before in
          has_bit-fill_below from n old new k f before ∙ rw (get_or_append_left, get_or-take) (sym (get_or-bits_below n old k d b))
      | inr after ↦
          let within : k - from < n - from = omega arith in
          has_bit-fill_inside from n old new k f after b ∙ rw (get_or-append_right _ _ from k d front after, get_or-replicate) refl
    ])

pub flags_filled_from : (n from : ℕ) (old new : List ℕ) (xs : List Bool) → bits_below n old ≡ xs → from ≤ n → FillsBits from n old new →
    bits_below n new ≡ take from xs ++ replicate (length xs - from) true
flags_filled_from n from old new xs e l f = grind (arith, common_steps, length-bits_below, flags_filled)

-- more flags, none of them set
pub flags_grown : (n m len : ℕ) (old new : List ℕ) → new ≡ old ++ replicate len 0 → ((k : ℕ) → n ≤ k → has_bit old k ≡ false) →
    bits_below (n + m) new ≡ bits_below n old ++ replicate m false
flags_grown n m len old new a past =
    let whole : length (bits_below n old ++ replicate m false) ≡ n + m = length-append (bits_below n old) (replicate m false)
    ∙ rw (length-bits_below, length-replicate) refl in
    grind (
      arith,
      common_steps,
      flags_are,
      has_bit-appended,
      cases_lt,
      length-bits_below,
      get_or_append_left,
      get_or-bits_below,
      get_or-append_right,
      get_or-replicate,
    )

-- the first flag that is set

pub position_at : (n k : ℕ) (xs : List Bool) → get_or xs k false ≡ true → ((j : ℕ) → j < k → get_or xs j false ≡ false) →
    position_from (λ b. b) n xs ≡ Some (n + k)
position_at n k [] set below = absurd (false≢true set)
position_at n zero (x ∷ xs) set below = rw set (ap Some (omega arith))
position_at n (suc k) (x ∷ xs) set below =
    let clear : x ≡ false = below 0 (omega arith) in
    let shift : n + 1 + k ≡ n + suc k = omega arith in
    rw clear (position_at (n + 1) k xs set (λ j l. below (suc j) (omega arith)) ∙ ap Some shift)

pub position_none : (n : ℕ) (xs : List Bool) → ((j : ℕ) → j < length xs → get_or xs j false ≡ false) → position_from (λ b. b) n xs ≡ None
position_none n [] clear = refl
position_none n (x ∷ xs) clear =
    let here : x ≡ false = clear 0 (omega arith) in
    rw here (position_none (n + 1) xs (λ j l. clear (suc j) (omega arith)))

pub flags_lowest : (n k : ℕ) (ws : List ℕ) → IsLowestBit ws k → k < n → position_from (λ b. b) 0 (bits_below n ws) ≡ Some k
flags_lowest n k ws l b =
    let start : 0 + k ≡ k = omega arith in
    position_at 0 k _ (get_or-bits_below n ws k false b ∙ l.set)
    (λ j under. get_or-bits_below n ws j false (omega arith) ∙ l.below j under)
    ∙ ap Some start

pub flags_none : (n : ℕ) (ws : List ℕ) → ((k : ℕ) → has_bit ws k ≡ false) → position_from (λ b. b) 0 (bits_below n ws) ≡ None
flags_none n ws none =
    position_none 0 _ (λ j l. let b : j < n = rw length-bits_below at l in get_or-bits_below n ws j false b ∙ none j)

-- the levels

pub levelled-set : (len : ℕ) (indices words groups : List ℕ) (i : ℕ) → IsLevelled len indices words groups → i < len →
    IsLevelled len (with_bit indices i) (with_bit words (i / 64)) (with_bit groups (i / 64 / 64))
levelled-set len indices words groups i v l = grind (arith, common_steps, length-with_bit, summarizes-with_bit, has_bit-with_bit_other)

-- from the end on there is nothing to fill
pub nothing_filled : (xs : List Bool) (from : ℕ) → length xs ≤ from → xs ≡ take from xs ++ replicate (length xs - from) true
nothing_filled xs from l = grind (arith, common_steps, append-nil, take_all)

-- an index among the flags lies below their number
pub in_flags : (n : ℕ) (ws : List ℕ) (xs : List Bool) (i : ℕ) → bits_below n ws ≡ xs → i < length xs → i < n
in_flags n ws xs i e l = let whole : length xs ≡ n = ap length (sym e) ∙ length-bits_below n ws in omega arith

pub levelled-clear : (len : ℕ) (indices words groups words' groups' : List ℕ) (i : ℕ) → IsLevelled len indices words groups → i < len →
    length words' ≡ length words → length groups' ≡ length groups → Summarizes (without_bit indices i) words' → Summarizes words' groups' →
    IsLevelled len (without_bit indices i) words' groups'
levelled-clear len indices words groups words' groups' i v l same_words same_groups words_say groups_say =
    grind (arith, common_steps, length-without_bit, has_bit-without_bit_other)

pub levelled-fill : (len from : ℕ) (indices words groups indices' words' groups' : List ℕ) → IsLevelled len indices words groups → from < len →
    FillsBits from len indices indices' → FillsBits (from / 64) (len / 64 + min 1 (len % 64)) words words' →
    FillsBits (from / 64 / 64) ((len / 64 + min 1 (len % 64)) / 64 + min 1 ((len / 64 + min 1 (len % 64)) % 64)) groups groups' →
    IsLevelled len indices' words' groups'
levelled-fill len from indices words groups indices' words' groups' v l f g h = record {
  bounded = v.bounded;
  indices_room = rw f.count v.indices_room;
  words_room = rw (f.count, g.count) v.words_room;
  groups_room = rw (g.count, h.count) v.groups_room;
  indices_bounded = rw f.count v.indices_bounded;
  words_bounded = rw g.count v.words_bounded;
  groups_bounded = rw h.count v.groups_bounded;
  words_say = summarizes_filled from len _ indices indices' words words' v.words_say l refl f g;
  groups_say = summarizes_filled (from / 64) (len / 64 + min 1 (len % 64)) _ words words' groups groups' v.groups_say (omega arith) refl g h;
  past = λ k p. has_bit-fill_above from len indices indices' k f p ∙ v.past k p;
}

-- growth, from the top level down

pub length-appended : (n : ℕ) (old new : List ℕ) → new ≡ old ++ replicate n 0 → length new ≡ length old + n
length-appended n old new a = rw (a, length-append, length-replicate) refl

pub levelled_groups : (len n : ℕ) (indices words groups groups' : List ℕ) → IsLevelled len indices words groups →
    groups' ≡ groups ++ replicate n 0 → length groups' < 2 ^ 32 → IsLevelled len indices words groups'
levelled_groups len n indices words groups groups' v a b = grind (arith, common_steps, length-appended, summarizes-appended_above)

pub levelled_words : (len n : ℕ) (indices words words' groups : List ℕ) → IsLevelled len indices words groups → words' ≡ words ++ replicate n 0 →
    length words' ≤ 64 * length groups → length words' < 2 ^ 32 → IsLevelled len indices words' groups
levelled_words len n indices words words' groups v a room b = search (rules, length-appended, summarizes-appended_above, summarizes-appended_below)

pub levelled_indices : (len len' n : ℕ) (indices indices' words groups : List ℕ) → IsLevelled len indices words groups → len ≤ len' →
    len' < 2 ^ 32 →
    len' ≤ 64 * length indices' → indices' ≡ indices ++ replicate n 0 → length indices' ≤ 64 * length words → length indices' < 2 ^ 32 →
    IsLevelled len' indices' words groups
levelled_indices len len' n indices indices' words groups v more bounded enough a room b = record {
  bounded = bounded;
  indices_room = enough;
  words_room = room;
  groups_room = v.groups_room;
  indices_bounded = b;
  words_bounded = v.words_bounded;
  groups_bounded = v.groups_bounded;
  words_say = summarizes-appended_below n indices indices' words v.words_say a;
  groups_say = v.groups_say;
  past = λ k p. has_bit-appended n indices indices' k a ∙ v.past k (omega arith);
}

-- no index is known at first
pub levelled_none : IsLevelled 0 [] [] []
unfolding has_bit
levelled_none = grind (arith, common_steps, bit_at-zero)

-- only known indices are free
pub below_len : (len : ℕ) (indices words groups : List ℕ) (k : ℕ) → IsLevelled len indices words groups → has_bit indices k ≡ true → k < len
below_len len indices words groups k v set = grind (arith, common_steps, cases_lt)
