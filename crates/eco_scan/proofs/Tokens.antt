-- Tokens at the beginning of what is left of a text: bytes, access words and digits.
use Rattle.eco_scan.proofs.Common.{◌≡◌, ℕ, ◌+◌, ◌-◌, ◌*◌, ◌/◌, ◌%◌, ◌^◌, ◌<◌, ◌≤◌, Bool, true, false, ◌&&◌}
use Rattle.eco_scan.proofs.Common.{◌||◌, List, [], ◌∷◌, ◌++◌, if◌then◌else◌, nat_lt, nat_le, ◌==◌, Some, None, codes, decimal, Option}
use Rattle.eco_scan.proofs.Common.{option_and_then, sym, refl, ap, ◌∙◌, subst, append_assoc, append-nil, arith, ltb-true, lt-ltb, le-leb, leb-true}
use Rattle.eco_scan.proofs.Common.{cond-false, cond-true, Decides-eqb, nat_tests, common_steps, bytes_eq-Decides, may_follow, and_from, and_parts, or_left}
use Rattle.eco_scan.proofs.Common.{or_right, decimal_by_steps, is_prefix, with_digit, Before, Role, whole, sole, Spot, behind, after, is_front, access_of}
use Rattle.eco_scan.proofs.Common.{behind_atom, enter, move_at, is_white, is_digit, WrittenPart, WrittenAtom, single, IsTok, access_word, Access, In, Out}
use Rattle.eco_scan.proofs.Common.{InOut, InOutNone, Head, Plain, Alone}
use Rattle.eco_scan.proofs.ByteTests.{white_not_word, digit_is, is_digit_of, one_digit, more_digits}

abbrev pub Sat : {X : Type 0} → Option X → (X → Type 0) → Type 0
Sat None P = ⊥
Sat (Some x) P = P x

pub sat_if : {X : Type 0} (c : Bool) (x y : Option X) (P : X → Type 0) (G : Type 0) → (c ≡ true → Sat x P → G) → (c ≡ false → Sat y P → G)
    → Sat (if c then x else y) P → G
sat_if true x y P G f g s = f refl s
sat_if false x y P G f g s = g refl s

pub if_sat : {X : Type 0} (c : Bool) (x y : Option X) (P : X → Type 0) → c ≡ true → Sat x P → Sat (if c then x else y) P
if_sat true x y P e s = s
if_sat false x y P e s = cc

pub else_sat : {X : Type 0} (c : Bool) (x y : Option X) (P : X → Type 0) → c ≡ false → Sat y P → Sat (if c then x else y) P
else_sat true x y P e s = cc
else_sat false x y P e s = s

pub same_byte : (b k : ℕ) → (b == k) ≡ true → b ≡ k
same_byte b k e = (Decides-eqb b k).0 e

-- ---- tokens

pub tok_cons : (k : ℕ) (t : List ℕ) (b : ℕ) (u v : List ℕ) → IsTok (k ∷ t) (b ∷ u) v → (b ≡ k) × IsTok t u v
tok_cons k t b u v (white, w, e) = (cc, (white, w, cc))

pub tok_uncons : (k : ℕ) (t : List ℕ) (b : ℕ) (u v : List ℕ) → b ≡ k → IsTok t u v → IsTok (k ∷ t) (b ∷ u) v
tok_uncons k t b u v same (white, w, e) = (white, w, cc)

pub tok_nil : (k : ℕ) (t v : List ℕ) → IsTok (k ∷ t) [] v → ⊥
tok_nil k t v (white, w, e) = cc

-- ---- bytes

pub white_elim : (P : ℕ → Type 0) → P 32 → P 9 → P 10 → P 13 → (b : ℕ) → is_white b ≡ true → P b
white_elim P p q s t b w = grind (arith, common_steps, same_byte)

pub word_not : (b k : ℕ) → may_follow b ≡ true → may_follow k ≡ false → (b == k) ≡ false
word_not b k w f = grind (arith, common_steps, same_byte)

pub behind_white : (h : Head) (c : Before) (x : WrittenAtom) (b : ℕ) → is_white b ≡ true → behind_atom h c x b ≡ None
behind_white Alone c x b w = refl
behind_white h c x b w = white_elim (λ b. behind_atom h c x b ≡ None) refl refl refl refl b w

pub behind_word : (h : Head) (c : Before) (x : WrittenAtom) (b : ℕ) → may_follow b ≡ true → behind_atom h c x b ≡ None
behind_word Plain c x b w = cond-false (b == 124) _ _ (word_not b 124 w refl) ∙ cond-false (b == 44) _ _ (word_not b 44 w refl)
behind_word Alone c x b w = refl
behind_word _ c x b w = cond-false (b == 44) _ _ (word_not b 44 w refl)

-- no white space goes on
pub enter_white : (n : ℕ) (s : Spot) (b : ℕ) → is_white b ≡ true → enter n s b ≡ None
enter_white n (behind (whole c) p) b w = behind_white c.head c (single p) b w
enter_white n (behind (sole c) p) b w = refl
enter_white n (after c x) b w = behind_white c.head c x b w
enter_white n s b w = white_elim (λ b. enter n s b ≡ None) refl refl refl refl b w

-- behind a name no letter or digit goes on
pub word_stops : (n : ℕ) (o : Role) (p : WrittenPart) (b : ℕ) → may_follow b ≡ true → move_at n (behind o p) b ≡ None
word_stops n o p b w = grind (arith, common_steps, white_not_word, cond-false, behind_word, word_not)

pub digit_word : (b : ℕ) → is_digit b ≡ true → may_follow b ≡ true
digit_word b d = grind (arith, nat_tests)

pub none_sat : {X : Type 0} (o : Option X) (P : X → Type 0) → o ≡ None → Sat o P → ⊥
none_sat None P e s = s
none_sat (Some x) P e s = cc

-- ---- access words

pub four : (k : ℕ) → is_front (codes "in" ++ k ∷ []) ≡ false → is_front (codes "out" ++ k ∷ []) ≡ false
    → is_front (codes "inout" ++ k ∷ []) ≡ false
    → is_front (codes "none" ++ k ∷ []) ≡ false → (a : Access) → is_front (access_word a ++ k ∷ []) ≡ false
four k p q s t In = p
four k p q s t Out = q
four k p q s t InOut = s
four k p q s t InOutNone = t

pub word_ends : (b : ℕ) → is_white b ≡ true → (a : Access) → is_front (access_word a ++ b ∷ []) ≡ false
word_ends b w = grind (arith, common_steps, white_elim, four)

pub prefix_of : (k t : List ℕ) → is_prefix k (k ++ t) ≡ true
prefix_of [] t = refl
prefix_of (x ∷ k) t = cond-true (x == x) _ _ ((Decides-eqb x x).1 refl) ∙ prefix_of k t

pub front_of : (a : Access) (k t : List ℕ) → access_word a ≡ k ++ t → is_front k ≡ true
front_of In k t e =
    let f : codes "inout" ≡ k ++ (t ++ codes "out") = ap (λ s. s ++ codes "out") e ∙ append_assoc k t (codes "out") in
    or_left _ _ (or_left _ _ (subst (λ s. is_prefix k s ≡ true) (sym f) (prefix_of k (t ++ codes "out"))))
front_of Out k t e = or_left _ _ (or_right (is_prefix k (codes "inout")) _ (subst (λ s. is_prefix k s ≡ true) (sym e) (prefix_of k t)))
front_of InOut k t e = or_left _ _ (or_left _ _ (subst (λ s. is_prefix k s ≡ true) (sym e) (prefix_of k t)))
front_of InOutNone k t e =
    or_right (is_prefix k (codes "inout") || is_prefix k (codes "out")) _ (subst (λ s. is_prefix k s ≡ true) (sym e) (prefix_of k t))

pub access_of_word : (a : Access) → access_of (access_word a) ≡ Some a
access_of_word In = refl
access_of_word Out = refl
access_of_word InOut = refl
access_of_word InOutNone = refl

pub word_of_access : (m : List ℕ) (Q : Access → Type 0) → Sat (access_of m) Q → (a : Access) × (access_word a ≡ m) × Q a
word_of_access m Q s = grind (arith, common_steps, sat_if, bytes_eq-Decides)

pub then_out : {X Y : Type 0} (o : Option X) (f : X → Option Y) (P : Y → Type 0) → Sat (option_and_then f o) P → Sat o (λ x. Sat (f x) P)
then_out None f P s = s
then_out (Some x) f P s = s

pub some_out : {X Y : Type 0} (o : Option X) (f : X → Y) (P : Y → Type 0) → Sat (option_and_then (λ x. Some (f x)) o) P
    → (x : X) × (o ≡ Some x) × P (f x)
some_out None f P s = absurd s
some_out (Some x) f P s = (x, refl, s)

-- ---- digits

-- digits behind a number, up to a bound
abbrev pub digits : ℕ → ℕ → List ℕ → Option ℕ
digits most i [] = Some i
digits most i (b ∷ t) = if is_digit b then option_and_then (λ j. digits most j t) (with_digit most i b) else None

pub digits_in : (most i j k : ℕ) (t : List ℕ) → digits most i (k ∷ t) ≡ Some j
    → (is_digit k ≡ true) × (n : ℕ) × (with_digit most i k ≡ Some n) × (digits most n t ≡ Some j)
digits_in most i j k t e = grind (arith, common_steps)

pub digits_out : (most i j k n : ℕ) (t : List ℕ) → is_digit k ≡ true → with_digit most i k ≡ Some n → digits most n t ≡ Some j
    → digits most i (k ∷ t) ≡ Some j
digits_out most i j k n t d g e = cond-true (is_digit k) _ _ d ∙ ap (λ o. option_and_then (λ j. digits most j t) o) g ∙ e

pub digits_more : (most i j k n : ℕ) (t : List ℕ) → digits most i t ≡ Some j → is_digit k ≡ true → with_digit most j k ≡ Some n
    → digits most i (t ++ k ∷ []) ≡ Some n
digits_more most i j k n [] e d g =
    let same : i ≡ j = cc in digits_out most i n k n [] d (rw same g) refl
digits_more most i j k n (c ∷ t) e d g =
    let (dc, m, gc, rest) = digits_in most i j c t e in digits_out most i n c m (t ++ k ∷ []) dc gc (digits_more most m j k n t rest d g)

-- a number's first digit and the others
pub number_front : (most n : ℕ) → most < 2 ^ 64 → n ≤ most
    → (c : ℕ) × (t : List ℕ) × (decimal n ≡ c ∷ t) × (is_digit c ≡ true) × (digits most (c - 48) t ≡ Some n)
number_front most n fits le =
    decimal_by_steps (λ m ds. m ≤ most → (c : ℕ) × (t : List ℕ) × (ds ≡ c ∷ t) × (is_digit c ≡ true) × (digits most (c - 48) t ≡ Some m))
    (λ m lt _. let same : (48 + m) - 48 ≡ m = omega arith in (48 + m, [], refl, is_digit_of m lt, ap (λ k. Some k) same))
    (λ m ds ge ih small.
    let lt : m % 10 < 10 = omega arith in
    let pos : 0 < m / 10 = omega arith in
    let same : 10 * (m / 10) + ((48 + m % 10) - 48) ≡ m = omega arith in
    let test : (nat_lt 0 (m / 10) && nat_le (10 * (m / 10) + ((48 + m % 10) - 48)) most) ≡ true =
    and_from _ _ (lt-ltb 0 (m / 10) pos) (le-leb (10 * (m / 10) + ((48 + m % 10) - 48)) most (omega arith)) in
    let grows : with_digit most (m / 10) (48 + m % 10) ≡ Some m =
    cond-true (nat_lt 0 (m / 10) && nat_le (10 * (m / 10) + ((48 + m % 10) - 48)) most) _ _ test ∙ ap (λ k. Some k) same in
    let (c, t, e, d, run) = ih (omega arith) in (
      c,
      t ++ (48 + m % 10) ∷ [],
      ap (λ xs. xs ++ (48 + m % 10) ∷ []) e,
      d,
      digits_more most (c - 48) (m / 10) (48 + m % 10) m t run (is_digit_of (m % 10) lt) grows,
    ))
    n (omega arith) le

pub grown_is : (most i k n : ℕ) → with_digit most i k ≡ Some n → (0 < i) × (n ≡ 10 * i + (k - 48)) × (n ≤ most)
grown_is most i k n e = grind (arith, common_steps, leb-true, ltb-true, and_parts)

pub number_more : (most i j : ℕ) (t : List ℕ) → most < 2 ^ 64 → i ≤ most → digits most i t ≡ Some j
    → (decimal i ++ t ≡ decimal j) × (j ≤ most)
number_more most i j [] fits le e = let same : i ≡ j = cc in (append-nil (decimal i) ∙ ap decimal same, omega arith)
number_more most i j (k ∷ t) fits le e =
    let (d, n, g, rest) = digits_in most i j k t e in
    let (pos, same, small) = grown_is most i k n g in
    let (f, last) = number_more most n j t fits small rest in
    let grows : decimal i ++ k ∷ [] ≡ decimal n = more_digits i k pos d (omega arith) ∙ ap decimal (sym same) in
    (sym (append_assoc (decimal i) (k ∷ []) t) ∙ ap (λ s. s ++ t) grows ∙ f, last)

pub number_back : (most b j : ℕ) (t : List ℕ) → 9 ≤ most → most < 2 ^ 64 → is_digit b ≡ true → digits most (b - 48) t ≡ Some j
    → (b ∷ t ≡ decimal j) × (j ≤ most)
number_back most b j t least fits d e =
    let range = digit_is b d in
    let (f, last) = number_more most (b - 48) j t fits (omega arith) e in
    (ap (λ s. s ++ t) (one_digit b d) ∙ f, last)
