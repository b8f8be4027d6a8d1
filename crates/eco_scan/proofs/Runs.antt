-- The machine over a whole text: it ends exactly with the slots that are left of the text where it begins.
use Rattle.eco_scan.proofs.Common.{◌≡◌, ℕ, ◌+◌, List, [], ◌∷◌, ◌++◌, length, Some, None, codes, decimal, Option, option_map}
use Rattle.eco_scan.proofs.Common.{option_and_then, sym, refl, ap, ◌∙◌, subst, inl, inr, append-nil, arith, length-append, name, handle, WrittenPart}
use Rattle.eco_scan.proofs.Common.{named, each, any, WrittenAtom, single, WrittenSlot, IsTok, IsPart, access_word, AreMoreSlots, Access, In, Out, InOut}
use Rattle.eco_scan.proofs.Common.{InOutNone, Head, Plain, Not, Optional, Alone, Before, whole, first, second, sole, Spot, slot, word, shut, body, atom, part}
use Rattle.eco_scan.proofs.Common.{behind, after, Point, at, letters, bar, name_of, hash, index, dot, generation, slots_with, begun, part_of_word, move, end_at}
use Rattle.eco_scan.proofs.Common.{end, advance, runs}
use Rattle.eco_scan.proofs.Tokens.{Sat, tok_nil, number_front}
use Rattle.eco_scan.proofs.Rest.{After, Follow, AtomThen, BodyThen, Then, Rest, move_in, move_out}

-- ---- runs

pub sat_some : {X : Type 0} (o : Option X) (P : X → Type 0) → Sat o P → (x : X) × (o ≡ Some x) × P x
sat_some None P s = absurd s
sat_some (Some x) P s = (x, refl, s)

-- what is left of the text at a point is left, after some of it, at the point where the machine then is
pub run_in : (size : ℕ) (r : List WrittenSlot) (u v : List ℕ) (n : ℕ) (p : Point) → n + length (u ++ v) ≡ size → Rest size r p (u ++ v)
    → (q : Point) × (runs advance (n, p) u ≡ Some (n + length u, q)) × Rest size r q v
run_in size r [] v n p place h = (p, ap (λ k. Some (k, p)) (let e : n ≡ n + 0 = omega arith in e), h)
run_in size r (b ∷ u) v n p place h =
    let (q, e, s) = sat_some (move n p b) (λ q. Rest size r q (u ++ v)) (move_in size r n p b (u ++ v) place h) in
    let (t, f, last) = run_in size r u v (n + 1) q (omega arith) s in
    let more : (n + 1) + length u ≡ n + length (b ∷ u) = omega arith in
    (t, ap (λ o. option_and_then (λ q. runs advance q u) (option_map (λ q. (n + 1, q)) o)) e ∙ f ∙ ap (λ k. Some (k, t)) more, last)

pub run_out : (size : ℕ) (r : List WrittenSlot) (u v : List ℕ) (n m : ℕ) (p q : Point) → n + length (u ++ v) ≡ size
    → runs advance (n, p) u ≡ Some (m, q)
    → Rest size r q v → Rest size r p (u ++ v)
run_out size r [] v n m p q place e h = let both' : ◌≡◌ {A = ℕ × Point} (n, p) (m, q) = cc in
    let same : p ≡ q = ap (λ (s : ℕ × Point). s.1) both' in subst (λ p. Rest size r p v) (sym same) h
run_out size r (b ∷ u) v n m p q place e h =
    move_out size r n p b (u ++ v) place
    (elim (move n p b) as (λ o. option_and_then (λ q. runs advance q u) (option_map (λ q. (n + 1, q)) o) ≡ Some (m, q)
    → Sat o (λ t. Rest size r t (u ++ v))) [
      | None ↦ λ f. let bad : ◌≡◌ {A = Option (ℕ × Point)} None (Some (m, q)) = f in cc
      | Some t ↦ λ f. run_out size r u v (n + 1) m t q (omega arith) f h
    ] e)

-- ---- at the end

pub nil_parts : (a b : List ℕ) → [] ≡ a ++ b → b ≡ []
nil_parts [] b e = sym e
nil_parts (x ∷ a) b e = cc

module _ (size : ℕ) (r : List WrittenSlot) where
  slots_end : (front more : List WrittenSlot) (s : WrittenSlot) → AreMoreSlots size [] more → r ≡ front ++ s ∷ more → r ≡ front ++ s ∷ []
  slots_end front [] s h e = e
  slots_end front (t ∷ more) s (a, b, tok, iss, h) e = absurd (tok_nil 44 [] a tok)

  after_end : (h : Head) (c : Before) (x : WrittenAtom) → After size r h c x [] → r ≡ slots_with h c x
  after_end Plain c x ([], v, ss, same, slots, e) = slots_end c.slots ss _ (subst (λ v. AreMoreSlots size v ss) (sym same) slots) e
  after_end Plain c x (y ∷ ys, v, ss, (a, d, tok, isy, more), slots, e) = absurd (tok_nil 124 (codes "|") a tok)
  after_end Not c x (ss, slots, e) = slots_end c.slots ss _ slots e
  after_end Optional c x (ss, slots, e) = slots_end c.slots ss _ slots e
  after_end Alone c x (none, e) = e

  end_after : (h : Head) (c : Before) (x : WrittenAtom) → r ≡ slots_with h c x → After size r h c x []
  end_after Plain c x e = ([], [], [], refl, refl, e)
  end_after Not c x e = ([], refl, e)
  end_after Optional c x e = ([], refl, e)
  end_after Alone c x e = (refl, e)

  part_end : (v : List ℕ) (p : WrittenPart) → IsPart size [] v p → ⊥
  part_end v (named from (name [])) (token, (same, ok), tok, place) = cc
  part_end v (named from (name (k ∷ ks))) (token, (same, ok), tok, place) = tok_nil k ks v (rw same at tok)
  part_end v (named from (handle i g)) (token, (same, small, least), tok, place) = tok_nil 35 _ v (rw same at tok)
  part_end v each tok = tok_nil 42 [] v tok
  part_end v any tok = tok_nil 95 [] v tok

  atom_end : (c : Before) → AtomThen size r c [] → ⊥
  atom_end c (inl (p, v, s, f)) = part_end v p s
  atom_end c (inr (v, tok, s)) = tok_nil 40 [] v tok

  body_end : (ss : List WrittenSlot) (a : Access) → BodyThen size r ss a [] → ⊥
  body_end ss a (inl s) = atom_end (begun ss a Plain) s
  body_end ss a (inr (inl (v, tok, s))) = tok_nil 33 [] v tok
  body_end ss a (inr (inr (v, tok, s))) = tok_nil 63 [] v tok

  word_end : (a : Access) (v : List ℕ) → IsTok (access_word a) [] v → ⊥
  word_end In v t = tok_nil 105 (codes "n") v t
  word_end Out v t = tok_nil 111 (codes "ut") v t
  word_end InOut v t = tok_nil 105 (codes "nout") v t
  word_end InOutNone v t = tok_nil 110 (codes "one") v t

  then_end : (s : Spot) → Then size r s [] → end_at s ≡ Some r
  then_end (slot ss) (inl s) = absurd (body_end ss InOut s)
  then_end (slot ss) (inr (v, tok, s)) = absurd (tok_nil 91 [] v tok)
  then_end (word ss) (a, v, tok, s) = absurd (word_end a v tok)
  then_end (shut ss a) (v, tok, s) = absurd (tok_nil 93 [] v tok)
  then_end (body ss a) s = absurd (body_end ss a s)
  then_end (atom c) s = absurd (atom_end c s)
  then_end (part o) (p, v, s, f) = absurd (part_end v p s)
  then_end (behind (whole c) p) s = ap (λ k. Some k) (sym (after_end c.head c (single p) s))
  then_end (behind (first c) p) (v, tok, s) = absurd (tok_nil 44 [] v tok)
  then_end (behind (second c p) q) (v, tok, s) = absurd (tok_nil 41 [] v tok)
  then_end (behind (sole c) (named from n)) (named', none, e) = ap (λ k. Some k) (sym e)
  then_end (behind (sole c) each) s = absurd s.0
  then_end (behind (sole c) any) s = absurd s.0
  then_end (after c x) s = ap (λ k. Some k) (sym (after_end c.head c x s))

  at_end : (s : Spot) → Rest size r (at s) [] → end_at s ≡ Some r
  at_end s (v, (white, w, e), t) = then_end s (subst (λ v. Then size r s v) (nil_parts white v e) t)

  pub end_in : (p : Point) → Rest size r p [] → end p ≡ Some r
  end_in (at s) h = at_end s h
  end_in (letters ss m) (a, [], v, e, (white, w, f), (x, tok, s)) = absurd (tok_nil 93 [] x (subst (λ v. IsTok (codes "]") v x) (nil_parts white v f) tok))
  end_in (letters ss m) (a, k ∷ t, v, e, tok, s) = absurd (tok_nil k t v tok)
  end_in (bar c x) (v, tok, s) = absurd (tok_nil 124 [] v tok)
  end_in (name_of o from m) ([], v, words, small, tok, f) =
      at_end (behind o (part_of_word from m)) (v, tok, subst (λ m. Follow size r o (part_of_word from m) v) (append-nil m) f)
  end_in (name_of o from m) (k ∷ t, v, words, small, tok, f) = absurd (tok_nil k t v tok)
  end_in (hash o from) (i, g, v, small, least, (white, w, e), f) =
      absurd (let bad : length (decimal i ++ (46 ∷ decimal g) ++ (white ++ v)) ≡ 0 = ap length (sym e) in
      omega (arith, length-append (decimal i ++ (46 ∷ decimal g)) (white ++ v), length-append (decimal i) (46 ∷ decimal g)))
  end_in (index o from i) ([], j, g, v, run, least, tok, f) = absurd (tok_nil 46 (decimal g) v tok)
  end_in (index o from i) (k ∷ t, j, g, v, run, least, tok, f) = absurd (tok_nil k (t ++ (46 ∷ decimal g)) v tok)
  end_in (dot o from i) (g, v, least, tok, f) =
      let (c, t, e, d, run) = number_front 65535 g (omega arith) (omega arith) in
      absurd (tok_nil c t v (subst (λ w. IsTok w [] v) e tok))
  end_in (generation o from i g) ([], h, v, run, tok, f) =
      let same : h ≡ g = cc in at_end (behind o (named from (handle i g))) (v, tok, subst (λ h. Follow size r o (named from (handle i h)) v) same f)
  end_in (generation o from i g) (k ∷ t, h, v, run, tok, f) = absurd (tok_nil k t v tok)

  end_out_at : (s : Spot) → end_at s ≡ Some r → Rest size r (at s) []
  end_out_at (slot ss) e = cc
  end_out_at (word ss) e = cc
  end_out_at (shut ss a) e = cc
  end_out_at (body ss a) e = cc
  end_out_at (atom c) e = cc
  end_out_at (part o) e = cc
  end_out_at (behind (whole c) p) e = ([], ([], refl, refl), end_after c.head c (single p) cc)
  end_out_at (behind (first c) p) e = cc
  end_out_at (behind (second c p) q) e = cc
  end_out_at (behind (sole c) (named from n)) e = ([], ([], refl, refl), (tt, refl, cc))
  end_out_at (behind (sole c) each) e = cc
  end_out_at (behind (sole c) any) e = cc
  end_out_at (after c x) e = ([], ([], refl, refl), end_after c.head c x cc)

  pub end_out : (p : Point) → end p ≡ Some r → Rest size r p []
  end_out (at s) e = end_out_at s e
  end_out (letters ss m) e = cc
  end_out (bar c x) e = cc
  end_out (name_of o from m) e =
      let (v, tok, f) = end_out_at (behind o (part_of_word from m)) e in
      ([], v, refl, omega arith, tok, subst (λ m. Follow size r o (part_of_word from m) v) (sym (append-nil m)) f)
  end_out (hash o from) e = cc
  end_out (index o from i) e = cc
  end_out (dot o from i) e = cc
  end_out (generation o from i g) e =
      let (v, tok, f) = end_out_at (behind o (named from (handle i g))) e in ([], g, v, refl, tok, f)

-- ---- whole texts

module _ (p : Point) (text : List ℕ) (r : List WrittenSlot) where
  -- the machine reads all of what is left there, and ends with the slots
  pub read_in : Rest (length text) r p text → (q : Point) × (runs advance (0, p) text ≡ Some (length text, q)) × (end q ≡ Some r)
  read_in s =
      let h : Rest (length text) r p (text ++ []) = subst (λ t. Rest (length text) r p t) (sym (append-nil text)) s in
      let whole' : 0 + length (text ++ []) ≡ length text = omega (arith, ap length (append-nil text)) in
      let (q, e, last) = run_in (length text) r text [] 0 p whole' h in
      let counts : 0 + length text ≡ length text = omega arith in
      (q, e ∙ ap (λ k. Some (k, q)) counts, end_in (length text) r q last)

  pub read_out : (n : ℕ) (q : Point) → runs advance (0, p) text ≡ Some (n, q) → end q ≡ Some r → Rest (length text) r p text
  read_out n q e last =
      let whole' : 0 + length (text ++ []) ≡ length text = omega (arith, ap length (append-nil text)) in
      let h : Rest (length text) r p (text ++ []) = run_out (length text) r text [] 0 n p q whole' e (end_out (length text) r q last) in
      subst (λ t. Rest (length text) r p t) (append-nil text) h

-- one list of slots at most is left there
pub rest_once : (p : Point) (text : List ℕ) (r s : List WrittenSlot) → Rest (length text) r p text → Rest (length text) s p text → r ≡ s
rest_once p text r s h k =
    let (q, e, f) = read_in p text r h in
    let (t, g, i) = read_in p text s k in
    let both' : ◌≡◌ {A = ℕ × Point} (length text, q) (length text, t) = cc in
    let same : q ≡ t = ap (λ (s : ℕ × Point). s.1) both' in
    cc
