-- From any point that the machine comes to some sentence goes on.
use Rattle.eco_scan.proofs.Common.{◌≡◌, ℕ, ◌+◌, Bool, true, false, not, ◌&&◌, List, [], ◌∷◌, ◌++◌, length, IfSome}
use Rattle.eco_scan.proofs.Common.{if◌then◌else◌, ◌==◌, Some, None, codes, Option, option_map, option_and_then, sym, refl, ap, subst, append-nil}
use Rattle.eco_scan.proofs.Common.{arith, length-append, Decides-eqb, common_steps, bytes_eq-Decides, may_begin, Reference, name, handle, is_white, is_digit}
use Rattle.eco_scan.proofs.Common.{is_lone, Before, Role, whole, first, second, sole, takes_wildcard, Spot, slot, word, shut, body, atom, part, behind, after}
use Rattle.eco_scan.proofs.Common.{Point, at, letters, bar, name_of, hash, index, dot, generation, slots_with, others_with, begun, part_of_word, is_prefix}
use Rattle.eco_scan.proofs.Common.{is_front, part_or, atom_or, body_or, behind_atom, enter, move_at, move, advance, runs, WrittenPart, named, each, WrittenAtom}
use Rattle.eco_scan.proofs.Common.{single, pair, WrittenSlot, access_word, Access, InOut, Head, Plain, Not, Optional, Alone, and_parts, not-false, or_cases}
use Rattle.eco_scan.proofs.ByteTests.{if_some_cond}
use Rattle.eco_scan.proofs.Tokens.{Sat}
use Rattle.eco_scan.proofs.Rest.{IsNamed, After, Follow, Rest, move_out}

-- a wildcard is no reference
abbrev pub FitsAt : Spot → Type 0
FitsAt (behind (sole c) p) = IsNamed p
FitsAt _ = Unit {0}

abbrev pub Fits : Point → Type 0
Fits (at s) = FitsAt s
Fits (letters ss m) = is_front m ≡ true
Fits _ = Unit {0}

fits_if : (c : Bool) (x y : Option Point) → IfSome x Fits → IfSome y Fits → IfSome (if c then x else y) Fits
fits_if true x y f g = f
fits_if false x y f g = g

fits_then : {X : Type 0} (o : Option X) (f : X → Option Point) → ((x : X) → IfSome (f x) Fits) → IfSome (option_and_then f o) Fits
fits_then None f h = tt
fits_then (Some x) f h = h x

fits_behind : (o : Role) (p : WrittenPart) → takes_wildcard o ≡ true → FitsAt (behind o p)
fits_behind (sole c) p e = cc
fits_behind _ p e = tt

fits_named : (o : Role) (from : ℕ) (n : Reference) → FitsAt (behind o (named from n))
fits_named (sole c) from n = tt
fits_named _ from n = tt

fits_word : (o : Role) (from : ℕ) (m : List ℕ) → (is_lone m && not (takes_wildcard o)) ≡ false → FitsAt (behind o (part_of_word from m))
fits_word o from m e = grind (arith, common_steps, fits_behind, not-false, fits_named)

fits_part : (n : ℕ) (o : Role) (b : ℕ) (y : Option Point) → IfSome y Fits → IfSome (part_or n o b y) Fits
fits_part n o b y h = fits_if (may_begin b) _ _ tt (fits_if (b == 35) _ _ tt
    (if_some_cond ((b == 42) && takes_wildcard o) _ _ Fits (λ e. fits_behind o each (and_parts _ _ e).1) (λ _. h)))

fits_atom : (n : ℕ) (c : Before) (b : ℕ) (y : Option Point) → IfSome y Fits → IfSome (atom_or n c b y) Fits
fits_atom n c b y h = fits_part n (whole c) b _ (fits_if (b == 40) _ _ tt h)

fits_body : (n : ℕ) (ss : List WrittenSlot) (a : Access) (b : ℕ) (y : Option Point) → IfSome y Fits → IfSome (body_or n ss a b y) Fits
fits_body n ss a b y h = fits_atom n (begun ss a Plain) b _ (fits_if (b == 33) _ _ tt (fits_if (b == 63) _ _ tt h))

fits_after : (h : Head) (c : Before) (x : WrittenAtom) (b : ℕ) → IfSome (behind_atom h c x b) Fits
fits_after Plain c x b = fits_if (b == 124) _ _ tt (fits_if (b == 44) _ _ tt tt)
fits_after Not c x b = fits_if (b == 44) _ _ tt tt
fits_after Optional c x b = fits_if (b == 44) _ _ tt tt
fits_after Alone c x b = tt

fits_enter : (n : ℕ) (s : Spot) (b : ℕ) → IfSome (enter n s b) Fits
fits_enter n (slot ss) b = fits_body n ss InOut b _ (fits_if (b == 91) _ _ tt tt)
fits_enter n (word ss) b = if_some_cond (is_front (b ∷ [])) _ _ Fits (λ e. e) (λ _. tt)
fits_enter n (shut ss a) b = fits_if (b == 93) _ _ tt tt
fits_enter n (body ss a) b = fits_body n ss a b _ tt
fits_enter n (atom c) b = fits_atom n c b _ tt
fits_enter n (part o) b = fits_part n o b _ tt
fits_enter n (behind (whole c) p) b = fits_after c.head c (single p) b
fits_enter n (behind (first c) p) b = fits_if (b == 44) _ _ tt tt
fits_enter n (behind (second c p) q) b = fits_if (b == 41) _ _ tt tt
fits_enter n (behind (sole c) p) b = tt
fits_enter n (after c x) b = fits_after c.head c x b

fits_at : (n : ℕ) (s : Spot) (b : ℕ) → FitsAt s → IfSome (move_at n s b) Fits
fits_at n s b f = fits_if (is_white b) _ _ f (fits_enter n s b)

fits_move : (n : ℕ) (p : Point) (b : ℕ) → Fits p → IfSome (move n p b) Fits
fits_move n (at s) b f = fits_at n s b f
fits_move n (letters ss m) b f = grind (arith, common_steps, if_some_cond, fits_then, fits_at)
fits_move n (bar c x) b f = fits_if (b == 124) _ _ tt tt
fits_move n (name_of o from m) b f = grind (arith, common_steps, fits_if, if_some_cond, fits_at, fits_word)
fits_move n (hash o from) b f = fits_if (is_digit b) _ _ tt tt
fits_move n (index o from i) b f = grind (arith, common_steps, fits_if, fits_then)
fits_move n (dot o from i) b f = fits_if (is_digit b) _ _ tt tt
fits_move n (generation o from i g) b f = grind (arith, common_steps, fits_if, fits_then, fits_at, fits_named)

pub fits_run : (u : List ℕ) (n m : ℕ) (p q : Point) → Fits p → runs advance (n, p) u ≡ Some (m, q) → Fits q × (m ≡ n + length u)
fits_run [] n m p q f e =
    let both' : ◌≡◌ {A = ℕ × Point} (n, p) (m, q) = cc in
    let same : p ≡ q = ap (λ (s : ℕ × Point). s.1) both' in
    let count : n ≡ m = ap (λ (s : ℕ × Point). s.0) both' in
    (subst Fits same f, omega arith)
fits_run (b ∷ u) n m p q f e =
    elim (move n p b) as (λ o. IfSome o Fits → option_and_then (λ q. runs advance q u) (option_map (λ q. (n + 1, q)) o) ≡ Some (m, q)
    → Fits q × (m ≡ n + length (b ∷ u))) [
      | None ↦ λ _ f. let bad : ◌≡◌ {A = Option (ℕ × Point)} None (Some (m, q)) = f in cc
      | Some t ↦ λ g f. let (last, count) = fits_run u (n + 1) m t q g f in (last, omega arith)
    ] (fits_move n p b f) e

-- some text goes on from there to the end of a sentence
abbrev pub Live : ℕ → Point → Type 0
Live n p = (size : ℕ) × (r : List WrittenSlot) × (u : List ℕ) × (n + length u ≡ size) × Rest size r p u

-- a byte that leads to such a point
live_by : (n : ℕ) (p : Point) (b : ℕ) (q : Point) → move n p b ≡ Some q → Live (n + 1) q → Live n p
live_by n p b q e (size, r, u, place, h) =
    (size, r, b ∷ u, omega arith, move_out size r n p b u (omega arith) (subst (λ o. Sat o (λ q. Rest size r q u)) (sym e) h))

live_atom_end : (h : Head) (n : ℕ) (c : Before) (x : WrittenAtom) → (r : List WrittenSlot) × After n r h c x []
live_atom_end Plain n c x = (slots_with Plain c x, ([], [], [], refl, refl, refl))
live_atom_end Not n c x = (slots_with Not c x, ([], refl, refl))
live_atom_end Optional n c x = (slots_with Optional c x, ([], refl, refl))
live_atom_end Alone n c x = (slots_with Alone c x, (refl, refl))

live_after : (n : ℕ) (c : Before) (x : WrittenAtom) → Live n (at (after c x))
live_after n c x = let (r, h) = live_atom_end c.head n c x in (n, r, [], (let e : n + 0 ≡ n = omega arith in e), ([], ([], refl, refl), h))

live_second : (n : ℕ) (c : Before) (p q : WrittenPart) → Live n (at (behind (second c p) q))
live_second n c p q = live_by n (at (behind (second c p) q)) 41 (at (after c (pair p q))) refl (live_after (n + 1) c (pair p q))

live_behind : (n : ℕ) (o : Role) (p : WrittenPart) → FitsAt (behind o p) → Live n (at (behind o p))
live_behind n (whole c) p f = let (r, h) = live_atom_end c.head n c (single p) in
    (n, r, [], (let e : n + 0 ≡ n = omega arith in e), ([], ([], refl, refl), h))
live_behind n (first c) p f =
    live_by n (at (behind (first c) p)) 44 (at (part (second c p))) refl
    (live_by (n + 1) (at (part (second c p))) 42 (at (behind (second c p) each)) refl (live_second (n + 1 + 1) c p each))
live_behind n (second c p) q f = live_second n c p q
live_behind n (sole c) p f = (n, slots_with c.head c (single p), [], (let e : n + 0 ≡ n = omega arith in e), ([], ([], refl, refl), (f, refl, refl)))

live_body : (n : ℕ) (ss : List WrittenSlot) (a : Access) → Live n (at (body ss a))
live_body n ss a = live_by n (at (body ss a)) 42 (at (behind (whole (begun ss a Plain)) each)) refl (live_behind (n + 1) (whole (begun ss a Plain)) each tt)

live_shut : (n : ℕ) (ss : List WrittenSlot) (a : Access) → Live n (at (shut ss a))
live_shut n ss a = live_by n (at (shut ss a)) 93 (at (body ss a)) refl (live_body (n + 1) ss a)

front_rest : (k w : List ℕ) → is_prefix k w ≡ true → (t : List ℕ) × (w ≡ k ++ t)
front_rest [] w e = (w, refl)
front_rest (x ∷ k) [] e = cc
front_rest (x ∷ k) (y ∷ w) e =
    elim (x == y) as (λ c. (x == y) ≡ c → (if c then is_prefix k w else false) ≡ true → (t : List ℕ) × (y ∷ w ≡ (x ∷ k) ++ t)) [
      | true ↦ λ f g. let same : x ≡ y = (Decides-eqb x y).0 f in let (t, h) = front_rest k w g in (t, cc)
      | false ↦ λ f g. cc
    ] refl e

front_word : (m : List ℕ) → is_front m ≡ true → (a : Access) × (t : List ℕ) × (access_word a ≡ m ++ t)
front_word m e = grind (arith, common_steps, or_cases, front_rest)

live_letters : (n : ℕ) (ss : List WrittenSlot) (m : List ℕ) → is_front m ≡ true → Live n (letters ss m)
live_letters n ss m e =
    let (a, t, word_is) = front_word m e in
    let (size, r, u, place, (v, (white, w, f), s)) = live_shut (n + length t) ss a in
    let count : length (t ++ u) ≡ length t + length u = length-append t u in
    (size, r, t ++ u, omega arith, (a, t, v, word_is, (white, w, ap (λ u. t ++ u) f), s))

live_generation : (n : ℕ) (o : Role) (from i g : ℕ) → Live n (generation o from i g)
live_generation n o from i g =
    let (size, r, u, place, (v, tok, f)) = live_behind n o (named from (handle i g)) (fits_named o from (handle i g)) in
    (size, r, u, place, ([], g, v, refl, tok, f))

live_dot : (n : ℕ) (o : Role) (from i : ℕ) → Live n (dot o from i)
live_dot n o from i = live_by n (dot o from i) 48 (generation o from i 0) refl (live_generation (n + 1) o from i 0)

live_index : (n : ℕ) (o : Role) (from i : ℕ) → Live n (index o from i)
live_index n o from i = live_by n (index o from i) 46 (dot o from i) refl (live_dot (n + 1) o from i)

live_hash : (n : ℕ) (o : Role) (from : ℕ) → Live n (hash o from)
live_hash n o from = live_by n (hash o from) 48 (index o from 0) refl (live_index (n + 1) o from 0)

live_part : (n : ℕ) (o : Role) → Live n (at (part o))
live_part n o = live_by n (at (part o)) 35 (hash o n) refl (live_hash (n + 1) o n)

live_word : (n : ℕ) (o : Role) (from : ℕ) (m : List ℕ) → FitsAt (behind o (part_of_word from m)) → Live n (name_of o from m)
live_word n o from m f =
    let (size, r, u, place, (v, tok, h)) = live_behind n o (part_of_word from m) f in
    (size, r, u, place, ([], v, refl, omega arith, tok, subst (λ m. Follow size r o (part_of_word from m) v) (sym (append-nil m)) h))

-- behind a lone `_` that is no reference a letter goes on
live_name : (n : ℕ) (o : Role) (from : ℕ) (m : List ℕ) → Live n (name_of o from m)
live_name n o from m =
    elim (is_lone m && not (takes_wildcard o)) as (λ c. (is_lone m && not (takes_wildcard o)) ≡ c → Live n (name_of o from m)) [
      | false ↦ λ e. live_word n o from m (fits_word o from m e)
      | true ↦ λ e.
          let same : m ≡ 95 ∷ [] = (bytes_eq-Decides m (codes "_")).0 (and_parts _ _ e).0 in
          subst (λ m. Live n (name_of o from m)) (sym same)
          (live_by n (name_of o from (95 ∷ [])) 97 (name_of o from (95 ∷ 97 ∷ [])) refl
          (live_word (n + 1) o from (95 ∷ 97 ∷ []) (fits_named o from (name (95 ∷ 97 ∷ [])))))
    ] refl

pub live : (n : ℕ) (p : Point) → Fits p → Live n p
live n (at (slot ss)) f = live_by n (at (slot ss)) 42 (at (behind (whole (begun ss InOut Plain)) each)) refl
    (live_behind (n + 1) (whole (begun ss InOut Plain)) each tt)
live n (at (word ss)) f = live_by n (at (word ss)) 105 (letters ss (codes "i")) refl (live_letters (n + 1) ss (codes "i") refl)
live n (at (shut ss a)) f = live_shut n ss a
live n (at (body ss a)) f = live_body n ss a
live n (at (atom c)) f = live_by n (at (atom c)) 42 (at (behind (whole c) each)) refl (live_behind (n + 1) (whole c) each tt)
live n (at (part o)) f = live_part n o
live n (at (behind o p)) f = live_behind n o p f
live n (at (after c x)) f = live_after n c x
live n (letters ss m) f = live_letters n ss m f
live n (bar c x) f = live_by n (bar c x) 124 (at (atom (others_with c x))) refl
    (live_by (n + 1) (at (atom (others_with c x))) 42 (at (behind (whole (others_with c x)) each)) refl
    (live_behind (n + 1 + 1) (whole (others_with c x)) each tt))
live n (name_of o from m) f = live_name n o from m
live n (hash o from) f = live_hash n o from
live n (index o from i) f = live_index n o from i
live n (dot o from i) f = live_dot n o from i
live n (generation o from i g) f = live_generation n o from i g
