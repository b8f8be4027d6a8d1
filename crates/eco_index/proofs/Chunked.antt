-- Lists of one width, one behind another.
use Rattle.eco_index.proofs.EntriesCommon.{◌≡◌, ℕ, zero, suc, ◌+◌, ◌*◌, ◌/◌, ◌<◌, ◌≤◌, List, [], ◌∷◌, ◌++◌, length, take}
use Rattle.eco_index.proofs.EntriesCommon.{drop, map, slice_get, get_or, Option, Some, refl, sym, ap, ◌∙◌, ◌-◌, arith, suc-add, append_assoc}
use Rattle.eco_index.proofs.EntriesCommon.{length-append, swap_remove, flat_map, mul-le-mul_right, suc-mul, mul-div_cancel, drop-append_seam, set-append_seam}
use Rattle.eco_index.proofs.EntriesCommon.{take-append_seam, take-append-le, drop-append-le, length-take-le, length-drop, take_more, append-nil, take-append-drop}
use Rattle.eco_index.proofs.EntriesCommon.{flat_map-map, get_or_from_slice_get, slice_get_within, Id, ChoicesState, chunks, IsEven}
use Rattle.eco_ids.proofs.Common.{take-length}
use Rattle.std.proofs.Math.ListN.{set}
use Rattle.std.proofs.lemmas.Grind.{flat_map-append}

-- the lists of some items, and of one more
pub flat_map-more : {X Y : Type 0} (f : X → List Y) (xs : List X) (p : ℕ) (d : X) → p < length xs
    → flat_map f (take (p + 1) xs) ≡ flat_map f (take p xs) ++ f (get_or xs p d)
flat_map-more f xs p d lt =
    ap (flat_map f) (take_more xs p d lt) ∙ flat_map-append f (take p xs) (get_or xs p d ∷ [])
    ∙ ap (λ ys. flat_map f (take p xs) ++ ys) (append-nil (f (get_or xs p d)))

-- the lists joined
abbrev pub joined : {X : Type 0} → List (List X) → List X
joined xss = flat_map (λ x. x) xss

pub length_chunks : {X : Type 0} (n w : ℕ) (xs : List X) → length (chunks n w xs) ≡ n
length_chunks zero w xs = refl
length_chunks (suc n) w xs = ap suc (length_chunks n w (drop w xs))

pub chunk_within : (p n w : ℕ) → p < n → p * w + w ≤ n * w
chunk_within p n w lt = let h : suc p * w ≤ n * w = mul-le-mul_right w (omega (arith, lt)) in let e = suc-mul p w in omega (arith, h, e)

drop_none : {X : Type 0} (a : ℕ) → drop {A = X} a [] ≡ []
drop_none zero = refl
drop_none (suc a) = refl

drop_twice : {X : Type 0} (a b : ℕ) (xs : List X) → drop a (drop b xs) ≡ drop (b + a) xs
drop_twice a zero xs = let e : a ≡ zero + a = omega arith in ap (λ k. drop k xs) e
drop_twice a (suc b) [] = drop_none a ∙ sym (drop_none (suc b + a))
drop_twice a (suc b) (x ∷ xs) = drop_twice a b xs ∙ ap (λ k. drop k (x ∷ xs)) (sym (suc-add b a))

moved : (p w : ℕ) → w + p * w ≡ suc p * w
moved p w = let e = suc-mul p w in omega (arith, e)

pub chunk_read : {X : Type 0} (n w p : ℕ) (xs : List X) → p < n → slice_get (chunks n w xs) p ≡ Some (take w (drop (p * w) xs))
chunk_read zero w p xs lt = absurd (omega (arith, lt))
chunk_read (suc n) w zero xs lt = let e : 0 ≡ 0 * w = omega arith in ap (λ k. Some (take w (drop k xs))) e
chunk_read (suc n) w (suc p) xs lt =
    chunk_read n w p (drop w xs) (omega (arith, lt))
    ∙ ap (λ ys. Some (take w ys)) (drop_twice (p * w) w xs)
    ∙ ap (λ k. Some (take w (drop k xs))) (moved p w)

no_items : {X : Type 0} (xs : List X) → length xs ≡ 0 → xs ≡ []
no_items [] e = refl
no_items (x ∷ xs) e = absurd (omega (arith, e))

pub chunks_append : {X : Type 0} (n m w : ℕ) (xs ys : List X) → length xs ≡ n * w → chunks (n + m) w (xs ++ ys) ≡ chunks n w xs ++ chunks m w ys
chunks_append zero m w xs ys e =
    let k : 0 + m ≡ m = omega arith in
    ap (λ j. chunks j w (xs ++ ys)) k ∙ ap (λ zs. chunks m w (zs ++ ys)) (no_items xs (omega (arith, e)))
chunks_append (suc n) m w xs ys e =
    let s = suc-mul n w in
    let long : w ≤ length xs = omega (arith, e, s) in
    let cut = length-drop w xs in
    ap (λ k. chunks k w (xs ++ ys)) (suc-add n m)
    ∙ ap (λ z. z ∷ chunks (n + m) w (drop w (xs ++ ys))) (take-append-le w xs ys long)
    ∙ ap (λ z. take w xs ∷ chunks (n + m) w z) (drop-append-le w xs ys long)
    ∙ ap (λ z. take w xs ∷ z) (chunks_append n m w (drop w xs) ys (omega (arith, e, s, cut)))

-- one list of its own length
pub chunk_alone : {X : Type 0} (w : ℕ) (xs : List X) → length xs ≡ w → chunks 1 w xs ≡ xs ∷ []
chunk_alone w xs e = ap (λ k. take k xs ∷ []) (sym e) ∙ ap (λ ys. ys ∷ []) (take-length xs)

-- each item alone
pub chunks_alone : {X : Type 0} (xs : List X) → chunks (length xs) 1 xs ≡ map (λ x. x ∷ []) xs
chunks_alone [] = refl
chunks_alone (x ∷ xs) = ap (λ zs. (x ∷ []) ∷ zs) (chunks_alone xs)

pub chunks_even : {X : Type 0} (n w : ℕ) (xs : List X) → length xs ≡ n * w → IsEven w (chunks n w xs)
chunks_even zero w xs e = tt
chunks_even (suc n) w xs e =
    let s = suc-mul n w in
    let cut = length-drop w xs in
    (length-take-le w xs (omega (arith, e, s)), chunks_even n w (drop w xs) (omega (arith, e, s, cut)))

pub chunks_joined : {X : Type 0} (w : ℕ) (cs : List (List X)) → IsEven w cs → chunks (length cs) w (joined cs) ≡ cs
chunks_joined w [] even = refl
chunks_joined w (c ∷ cs) even =
    ap (λ k. take k (c ++ joined cs) ∷ chunks (length cs) w (drop k (c ++ joined cs))) (sym even.0)
    ∙ ap (λ z. z ∷ chunks (length cs) w (drop (length c) (c ++ joined cs))) (take-append_seam c (joined cs))
    ∙ ap (λ z. c ∷ chunks (length cs) w z) (drop-append_seam c (joined cs))
    ∙ ap (λ z. c ∷ z) (chunks_joined w cs even.1)

pub length_joined : {X : Type 0} (w : ℕ) (cs : List (List X)) → IsEven w cs → length (joined cs) ≡ length cs * w
length_joined w [] even = omega arith
length_joined w (c ∷ cs) even =
    let rest = length_joined w cs even.1 in
    let one = even.0 in
    let s = suc-mul (length cs) w in
    let both = length-append c (joined cs) in
    omega (arith, rest, one, s, both)

-- ---- an entry in front of each

-- the lists, each with one of these in front
abbrev pub led_lists : {X : Type 0} → List X → List (List X) → List (List X)
led_lists es cs = flat_map (λ e. map (λ x. e ∷ x) cs) es

even_append : {X : Type 0} (w : ℕ) (cs ds : List (List X)) → IsEven w cs → IsEven w ds → IsEven w (cs ++ ds)
even_append w [] ds one two = two
even_append w (c ∷ cs) ds one two = (one.0, even_append w cs ds one.1 two)

led_even : {X : Type 0} (w : ℕ) (e : X) (cs : List (List X)) → IsEven w cs → IsEven (suc w) (map (λ x. e ∷ x) cs)
led_even w e [] even = tt
led_even w e (c ∷ cs) even = (ap suc even.0, led_even w e cs even.1)

lists_even : {X : Type 0} (w : ℕ) (es : List X) (cs : List (List X)) → IsEven w cs → IsEven (suc w) (led_lists es cs)
lists_even w [] cs even = tt
lists_even w (e ∷ es) cs even = even_append (suc w) (map (λ x. e ∷ x) cs) (led_lists es cs) (led_even w e cs even) (lists_even w es cs even)

lists_joined : {X : Type 0} (es : List X) (cs : List (List X)) → joined (led_lists es cs) ≡ flat_map (λ e. flat_map (λ x. e ∷ x) cs) es
lists_joined [] cs = refl
lists_joined (e ∷ es) cs =
    flat_map-append (λ x. x) (map (λ x. e ∷ x) cs) (led_lists es cs)
    ∙ ap (λ zs. zs ++ joined (led_lists es cs)) (flat_map-map (λ x. x) (λ x. e ∷ x) cs)
    ∙ ap (λ zs. flat_map (λ x. e ∷ x) cs ++ zs) (lists_joined es cs)

-- so many lists come out
led_count : {X : Type 0} (w : ℕ) (es : List X) (cs : List (List X)) (xs : List X) → IsEven w cs → xs ≡ flat_map (λ e. flat_map (λ x. e ∷ x) cs) es
    → length xs ≡ length (led_lists es cs) * suc w
led_count w es cs xs even is = ap length (is ∙ sym (lists_joined es cs)) ∙ length_joined (suc w) (led_lists es cs) (lists_even w es cs even)

led_divided : {X : Type 0} (w : ℕ) (es : List X) (cs : List (List X)) (xs : List X) → IsEven w cs → xs ≡ flat_map (λ e. flat_map (λ x. e ∷ x) cs) es
    → length xs / suc w ≡ length (led_lists es cs)
led_divided w es cs xs even is = ap (λ k. k / suc w) (led_count w es cs xs even is) ∙ mul-div_cancel (length (led_lists es cs)) (omega arith)

pub led_length : {X : Type 0} (w : ℕ) (es : List X) (cs : List (List X)) (xs : List X) → IsEven w cs → xs ≡ flat_map (λ e. flat_map (λ x. e ∷ x) cs) es
    → length xs ≡ (length xs / suc w) * suc w
led_length w es cs xs even is = led_count w es cs xs even is ∙ ap (λ k. k * suc w) (sym (led_divided w es cs xs even is))

pub led_chunks : {X : Type 0} (w : ℕ) (es : List X) (cs : List (List X)) (xs : List X) → IsEven w cs → xs ≡ flat_map (λ e. flat_map (λ x. e ∷ x) cs) es
    → chunks (length xs / suc w) (suc w) xs ≡ led_lists es cs
led_chunks w es cs xs even is =
    ap (λ k. chunks k (suc w) xs) (led_divided w es cs xs even is)
    ∙ ap (chunks (length (led_lists es cs)) (suc w)) (is ∙ sym (lists_joined es cs))
    ∙ chunks_joined (suc w) (led_lists es cs) (lists_even w es cs even)

pub led_more : {X : Type 0} (e : X) (cs : List (List X)) (p : ℕ) (c xs base : List X) → slice_get cs p ≡ Some c
    → xs ≡ base ++ flat_map (λ x. e ∷ x) (take p cs) → (xs ++ e ∷ []) ++ c ≡ base ++ flat_map (λ x. e ∷ x) (take (p + 1) cs)
led_more e cs p c xs base at is =
    append_assoc xs (e ∷ []) c
    ∙ ap (λ zs. zs ++ e ∷ c) is
    ∙ append_assoc base (flat_map (λ x. e ∷ x) (take p cs)) (e ∷ c)
    ∙ ap (λ zs. base ++ zs)
    (sym (flat_map-more (λ x. e ∷ x) cs p c (slice_get_within cs p c at)
    ∙ ap (λ z. flat_map (λ x. e ∷ x) (take p cs) ++ e ∷ z) (get_or_from_slice_get cs p c c at)))

-- ---- the last list in the place of another

-- some lists, one, and some more
chunks_around : {X : Type 0} (p m w : ℕ) (front c bs : List X) → length front ≡ p * w → length c ≡ w
    → chunks (p + (1 + m)) w (front ++ (c ++ bs)) ≡ chunks p w front ++ c ∷ chunks m w bs
chunks_around p m w front c bs before one =
    let alone : length c ≡ 1 * w = omega (arith, one) in
    chunks_append p (1 + m) w front (c ++ bs) before
    ∙ ap (λ zs. chunks p w front ++ zs) (chunks_append 1 m w c bs alone ∙ ap (λ zs. zs ++ chunks m w bs) (chunk_alone w c one))

-- one of the lists is another
chunks_put : {X : Type 0} (p m w : ℕ) (front c b bs : List X) → length front ≡ p * w → length c ≡ w → length b ≡ w
    → chunks (p + (1 + m)) w (front ++ (c ++ bs)) ≡ set (chunks (p + (1 + m)) w (front ++ (b ++ bs))) p c
chunks_put p m w front c b bs before one other =
    chunks_around p m w front c bs before one
    ∙ sym (ap (λ k. set (chunks p w front ++ b ∷ chunks m w bs) k c) (sym (length_chunks p w front)) ∙ set-append_seam (chunks p w front) b (chunks m w bs) c)
    ∙ ap (λ zs. set zs p c) (sym (chunks_around p m w front b bs before other))

-- a list is what stands before a place, there, and after it
around : {X : Type 0} (a w : ℕ) (xs : List X) → xs ≡ take a xs ++ (take w (drop a xs) ++ drop (a + w) xs)
around a w xs =
    sym (take-append-drop a xs)
    ∙ ap (λ zs. take a xs ++ zs) (sym (take-append-drop w (drop a xs)) ∙ ap (λ zs. take w (drop a xs) ++ zs) (drop_twice w a xs))

-- the first lists
chunks_taken : {X : Type 0} (n w : ℕ) (xs : List X) → n * w ≤ length xs → chunks n w (take (n * w) xs) ≡ take n (chunks (n + 1) w xs)
chunks_taken n w xs most =
    let early = take (n * w) xs in
    let rest = drop (n * w) xs in
    sym (ap (λ k. take k (chunks n w early ++ chunks 1 w rest)) (sym (length_chunks n w early)) ∙ take-append_seam (chunks n w early) (chunks 1 w rest))
    ∙ ap (take n) (sym (chunks_append n 1 w early rest (length-take-le (n * w) xs most)))
    ∙ ap (λ zs. take n (chunks (n + 1) w zs)) (take-append-drop (n * w) xs)

module _ {X : Type 0} (n w p : ℕ) (xs : List X) (there : p ≤ n) (long : length xs ≡ (n + 1) * w) where
  all : (n + 1) * w ≡ n * w + w
  all = let s = suc-mul n w in let k : n + 1 ≡ suc n = omega arith in ap (λ j. j * w) k ∙ omega (arith, s)

  within : p * w + w ≤ n * w + w
  within = let h : p * w ≤ n * w = mul-le-mul_right w there in omega (arith, h)

  before : length (take (p * w) xs) ≡ p * w
  before = length-take-le (p * w) xs (omega (arith, within, all, long))

  at_of : (k : ℕ) → k * w + w ≤ n * w + w → length (take w (drop (k * w) xs)) ≡ w
  at_of k most = let cut = length-drop (k * w) xs in length-take-le w (drop (k * w) xs) (omega (arith, most, cut, all, long))

  -- the last list is written over another
  written : chunks (n + 1) w (take (p * w) xs ++ (take w (drop (n * w) xs) ++ drop (p * w + w) xs))
      ≡ set (chunks (n + 1) w xs) p (take w (drop (n * w) xs))
  written =
      let k : n + 1 ≡ p + (1 + (n - p)) = omega (arith, there) in
      ap (λ j. chunks j w (take (p * w) xs ++ (take w (drop (n * w) xs) ++ drop (p * w + w) xs))) k
      ∙ chunks_put p (n - p) w (take (p * w) xs) (take w (drop (n * w) xs)) (take w (drop (p * w) xs)) (drop (p * w + w) xs) before (at_of n (omega arith))
      (at_of p within)
      ∙ ap (λ j. set (chunks j w (take (p * w) xs ++ (take w (drop (p * w) xs) ++ drop (p * w + w) xs))) p (take w (drop (n * w) xs))) (sym k)
      ∙ ap (λ zs. set (chunks (n + 1) w zs) p (take w (drop (n * w) xs))) (sym (around (p * w) w xs))

  pub written_long : length (take (p * w) xs ++ (take w (drop (n * w) xs) ++ drop (p * w + w) xs)) ≡ (n + 1) * w
  written_long =
      let one = length-append (take (p * w) xs) (take w (drop (n * w) xs) ++ drop (p * w + w) xs) in
      let two = length-append (take w (drop (n * w) xs)) (drop (p * w + w) xs) in
      let at = at_of n (omega arith) in
      let cut = length-drop (p * w + w) xs in
      omega (arith, one, two, at, cut, before, within, all, long)

  pub last_moved : chunks n w (take (n * w) (take (p * w) xs ++ (take w (drop (n * w) xs) ++ drop (p * w + w) xs)))
      ≡ swap_remove (chunks (n + 1) w xs) p []
  last_moved =
      let count : n + 1 - 1 ≡ n = omega arith in
      let last : get_or (chunks (n + 1) w xs) n [] ≡ take w (drop (n * w) xs) =
      get_or_from_slice_get (chunks (n + 1) w xs) n _ [] (chunk_read (n + 1) w n xs (omega arith)) in
      let many : length (chunks (n + 1) w xs) - 1 ≡ n = ap (λ k. k - 1) (length_chunks (n + 1) w xs) ∙ count in
      chunks_taken n w _ (omega (arith, written_long, all))
      ∙ ap (take n) (written ∙ ap (set (chunks (n + 1) w xs) p) (sym last))
      ∙ ap (λ k. take k (set (chunks (n + 1) w xs) p (get_or (chunks (n + 1) w xs) k []))) (sym many)

-- how many lists there are, where one is there
pub count_before : (n w : ℕ) (xs : List (Option Id)) (s : ChoicesState) (count place : ℕ) → record { width = w; all = chunks n w xs } ≡ s
    → count ≡ length s.all → place < length s.all → count - 1 + 1 ≡ n
count_before n w xs s count place is many there =
    let long : length s.all ≡ n = ap (λ (v : ChoicesState). length v.all) (sym is) ∙ length_chunks n w xs in
    omega (arith, long, many, there)
