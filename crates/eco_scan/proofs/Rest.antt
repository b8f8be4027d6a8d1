-- What is left of a text at each point of the machine, and that the machine goes on exactly there.
use Rattle.eco_scan.proofs.Common.{◌≡◌, ℕ, ◌+◌, ◌-◌, ◌^◌, ◌<◌, ◌≤◌, true, false, not, ◌&&◌, ◌⊎◌, List, [], ◌∷◌}
use Rattle.eco_scan.proofs.Common.{◌++◌, length, if◌then◌else◌, nat_lt, ◌==◌, Some, None, codes, decimal, Option, option_and_then, sym, refl, ap}
use Rattle.eco_scan.proofs.Common.{◌∙◌, subst, inl, inr, append_assoc, append-nil, arith, length-append, ltb-true, lt-ltb, list_all, cond-false}
use Rattle.eco_scan.proofs.Common.{common_steps, bytes_eq-Decides, may_follow, may_begin, and_from, and_parts, name, handle, is_white, is_digit, with_digit}
use Rattle.eco_scan.proofs.Common.{is_lone, Before, Role, whole, first, second, sole, takes_wildcard, Spot, slot, word, shut, body, atom, part, behind, after}
use Rattle.eco_scan.proofs.Common.{Point, at, letters, bar, name_of, hash, index, dot, generation, slots_with, others_with, begun, part_of_word, is_front}
use Rattle.eco_scan.proofs.Common.{access_of, part_or, atom_or, body_or, comma, behind_atom, enter, move_at, move, WrittenPart, named, each, any, WrittenAtom}
use Rattle.eco_scan.proofs.Common.{single, pair, WrittenBody, absent, optional, alternatives, WrittenSlot, IsTok, IsPart, IsAtom, AreMore, IsBody, access_word}
use Rattle.eco_scan.proofs.Common.{IsSlot, AreMoreSlots, Access, In, Out, InOut, InOutNone, Head, Plain, Not, Optional, Alone, body_of}
use Rattle.eco_scan.proofs.ByteTests.{name_parts, name_of_parts}
use Rattle.eco_scan.proofs.Tokens.{Sat, sat_if, if_sat, else_sat, same_byte, tok_cons, tok_uncons, enter_white, word_stops, digit_word, none_sat, four}
use Rattle.eco_scan.proofs.Tokens.{word_ends, front_of, access_of_word, word_of_access, then_out, some_out, digits, digits_in, digits_out, number_front}
use Rattle.eco_scan.proofs.Tokens.{number_back}

-- a reference is a name or a handle
abbrev pub IsNamed : WrittenPart → Type 0
IsNamed (named from r) = Unit {0}
IsNamed each = ⊥
IsNamed any = ⊥

module _ (size : ℕ) (r : List WrittenSlot) where
  -- ---- what the grammar wants behind each token

  abbrev pub After : Head → Before → WrittenAtom → List ℕ → Type 0
  After Plain c x u = (ys : List WrittenAtom) × (v : List ℕ) × (ss : List WrittenSlot) × AreMore size u v ys × AreMoreSlots size v ss
      × (r ≡ c.slots ++ (record { access = c.access; body = alternatives (c.others ++ x ∷ ys) }) ∷ ss)
  After Not c x u = (ss : List WrittenSlot) × AreMoreSlots size u ss × (r ≡ c.slots ++ (record { access = c.access; body = absent x }) ∷ ss)
  After Optional c x u = (ss : List WrittenSlot) × AreMoreSlots size u ss × (r ≡ c.slots ++ (record { access = c.access; body = optional x }) ∷ ss)
  After Alone c x u = (u ≡ []) × (r ≡ slots_with Alone c x)

  abbrev pub Second : Before → WrittenPart → WrittenPart → List ℕ → Type 0
  Second c p q u = (v : List ℕ) × IsTok (codes ")") u v × After c.head c (pair p q) v

  abbrev pub Follow : Role → WrittenPart → List ℕ → Type 0
  Follow (whole c) p u = After c.head c (single p) u
  Follow (first c) p u = (v : List ℕ) × IsTok (codes ",") u v × ((q : WrittenPart) × (w : List ℕ) × IsPart size v w q × Second c p q w)
  Follow (second c p) q u = Second c p q u
  Follow (sole c) p u = IsNamed p × (u ≡ []) × (r ≡ slots_with c.head c (single p))

  abbrev pub PartThen : Role → List ℕ → Type 0
  PartThen o u = (p : WrittenPart) × (v : List ℕ) × IsPart size u v p × Follow o p v

  abbrev pub AtomThen : Before → List ℕ → Type 0
  AtomThen c u = PartThen (whole c) u ⊎ ((v : List ℕ) × IsTok (codes "(") u v × PartThen (first c) v)

  abbrev pub BodyThen : List WrittenSlot → Access → List ℕ → Type 0
  BodyThen ss a u = AtomThen (begun ss a Plain) u
      ⊎ (((v : List ℕ) × IsTok (codes "!") u v × AtomThen (begun ss a Not) v)
      ⊎ ((v : List ℕ) × IsTok (codes "?") u v × AtomThen (begun ss a Optional) v))

  abbrev pub ShutThen : List WrittenSlot → Access → List ℕ → Type 0
  ShutThen ss a u = (v : List ℕ) × IsTok (codes "]") u v × BodyThen ss a v

  abbrev pub WordThen : List WrittenSlot → List ℕ → Type 0
  WordThen ss u = (a : Access) × (v : List ℕ) × IsTok (access_word a) u v × ShutThen ss a v

  abbrev pub SlotThen : List WrittenSlot → List ℕ → Type 0
  SlotThen ss u = BodyThen ss InOut u ⊎ ((v : List ℕ) × IsTok (codes "[") u v × WordThen ss v)

  abbrev pub Then : Spot → List ℕ → Type 0
  Then (slot ss) u = SlotThen ss u
  Then (word ss) u = WordThen ss u
  Then (shut ss a) u = ShutThen ss a u
  Then (body ss a) u = BodyThen ss a u
  Then (atom c) u = AtomThen c u
  Then (part o) u = PartThen o u
  Then (behind o p) u = Follow o p u
  Then (after c x) u = After c.head c x u

  abbrev pub Rest : Point → List ℕ → Type 0
  Rest (at s) u = (v : List ℕ) × IsTok [] u v × Then s v
  Rest (letters ss m) u = (a : Access) × (t : List ℕ) × (v : List ℕ) × (access_word a ≡ m ++ t) × IsTok t u v × ShutThen ss a v
  Rest (bar c x) u = (v : List ℕ) × IsTok (codes "|") u v × AtomThen (others_with c x) v
  Rest (name_of o from m) u = (t : List ℕ) × (v : List ℕ) × (list_all may_follow t ≡ true) × (length t ≤ 63 - length m) × IsTok t u v
      × Follow o (part_of_word from (m ++ t)) v
  Rest (hash o from) u = (i : ℕ) × (g : ℕ) × (v : List ℕ) × (i < 2 ^ 32) × (g < 2 ^ 16) × IsTok (decimal i ++ (46 ∷ decimal g)) u v
      × Follow o (named from (handle i g)) v
  Rest (index o from i) u = (t : List ℕ) × (j : ℕ) × (g : ℕ) × (v : List ℕ) × (digits 4294967295 i t ≡ Some j) × (g < 2 ^ 16)
      × IsTok (t ++ (46 ∷ decimal g)) u v × Follow o (named from (handle j g)) v
  Rest (dot o from i) u = (g : ℕ) × (v : List ℕ) × (g < 2 ^ 16) × IsTok (decimal g) u v × Follow o (named from (handle i g)) v
  Rest (generation o from i g) u = (t : List ℕ) × (h : ℕ) × (v : List ℕ) × (digits 65535 g t ≡ Some h) × IsTok t u v
      × Follow o (named from (handle i h)) v

  -- ---- what may follow an atom

  pub atom_split : (c : Before) (x : WrittenAtom) (u v : List ℕ) → IsAtom size u v x → After c.head c x v → AtomThen c u
  atom_split c (single p) u v s f = inl (p, v, s, f)
  atom_split c (pair p q) u v (a, b, d, e, left, isp, comma', isq, right) f = inr (a, left, (p, b, isp, (d, comma', (q, e, isq, (v, right, f)))))

  pub atom_join : (c : Before) (u : List ℕ) → AtomThen c u → (x : WrittenAtom) × (v : List ℕ) × IsAtom size u v x × After c.head c x v
  atom_join c u (inl (p, v, s, f)) = (single p, v, s, f)
  atom_join c u (inr (a, left, (p, b, isp, (d, comma', (q, e, isq, (v, right, f)))))) = (pair p q, v, (a, b, d, e, left, isp, comma', isq, right), f)

  body_split : (ss : List WrittenSlot) (a : Access) (k : WrittenBody) (more : List WrittenSlot) (u v : List ℕ) → IsBody size u v k
      → AreMoreSlots size v more
      → r ≡ ss ++ (record { access = a; body = k }) ∷ more → BodyThen ss a u
  body_split ss a (absent x) more u v (w, tok, s) slots e = inr (inl (w, tok, atom_split (begun ss a Not) x w v s (more, slots, e)))
  body_split ss a (optional x) more u v (w, tok, s) slots e = inr (inr (w, tok, atom_split (begun ss a Optional) x w v s (more, slots, e)))
  body_split ss a (alternatives []) more u v s slots e = absurd s
  body_split ss a (alternatives (x ∷ xs)) more u v (w, s, others) slots e =
      inl (atom_split (begun ss a Plain) x u w s (xs, v, more, others, slots, e))

  body_join : (ss : List WrittenSlot) (a : Access) (u : List ℕ) → BodyThen ss a u
      → (k : WrittenBody) × (v : List ℕ) × (more : List WrittenSlot) × IsBody size u v k × AreMoreSlots size v more
      × (r ≡ ss ++ (record { access = a; body = k }) ∷ more)
  body_join ss a u (inl s) =
      let (x, w, isx, (xs, v, more, others, slots, e)) = atom_join (begun ss a Plain) u s in
      (alternatives (x ∷ xs), v, more, (w, isx, others), slots, e)
  body_join ss a u (inr (inl (w, tok, s))) =
      let (x, v, isx, (more, slots, e)) = atom_join (begun ss a Not) w s in (absent x, v, more, (w, tok, isx), slots, e)
  body_join ss a u (inr (inr (w, tok, s))) =
      let (x, v, isx, (more, slots, e)) = atom_join (begun ss a Optional) w s in (optional x, v, more, (w, tok, isx), slots, e)

  pub slot_split : (ss : List WrittenSlot) (s : WrittenSlot) (more : List WrittenSlot) (u v : List ℕ) → IsSlot size u v s → AreMoreSlots size v more
      → r ≡ ss ++ s ∷ more
      → SlotThen ss u
  slot_split ss s more u v (w, inl (same, none), k) slots e =
      let f : s ≡ record { access = InOut; body = s.body } = ap (λ (a : Access). let t : WrittenSlot = record { access = a; body = s.body } in t) none in
      inl (body_split ss InOut s.body more u v (rw same k) slots (e ∙ ap (λ t. ss ++ t ∷ more) f))
  slot_split ss s more u v (w, inr (a, b, opens, isw, shuts), k) slots e =
      inr (a, opens, (s.access, b, isw, (w, shuts, body_split ss s.access s.body more w v k slots e)))

  pub slot_join : (ss : List WrittenSlot) (u : List ℕ) → SlotThen ss u
      → (s : WrittenSlot) × (v : List ℕ) × (more : List WrittenSlot) × IsSlot size u v s × AreMoreSlots size v more × (r ≡ ss ++ s ∷ more)
  slot_join ss u (inl t) =
      let (k, v, more, isk, slots, e) = body_join ss InOut u t in
      (record { access = InOut; body = k }, v, more, (u, inl (refl, refl), isk), slots, e)
  slot_join ss u (inr (a, opens, (access, b, isw, (w, shuts, t)))) =
      let (k, v, more, isk, slots, e) = body_join ss access w t in
      (record { access = access; body = k }, v, more, (w, inr (a, b, opens, isw, shuts), isk), slots, e)

  comma_in : (h : Head) (c : Before) (x : WrittenAtom) (b : ℕ) (u : List ℕ) (more : List WrittenSlot) → AreMoreSlots size (b ∷ u) more
      → r ≡ c.slots ++ (record { access = c.access; body = body_of h c.others x }) ∷ more → Sat (comma h c x b) (λ q. Rest q u)
  comma_in h c x b u [] e f = cc
  comma_in h c x b u (s ∷ ss) (a, v, tok, iss, slots) f =
      let t = tok_cons 44 [] b u a tok in
      subst (λ k. Sat (comma h c x k) (λ q. Rest q u)) (sym t.0) (
        a,
        t.1,
        slot_split (slots_with h c x) s ss a v iss slots
            (f ∙ sym (append_assoc c.slots (record { access = c.access; body = body_of h c.others x } ∷ []) (s ∷ ss))),
      )

  comma_out : (h : Head) (c : Before) (x : WrittenAtom) (b : ℕ) (u : List ℕ) → Sat (comma h c x b) (λ q. Rest q u)
      → (more : List WrittenSlot) × AreMoreSlots size (b ∷ u) more
      × (r ≡ c.slots ++ (record { access = c.access; body = body_of h c.others x }) ∷ more)
  comma_out h c x b u s =
      sat_if (b == 44) _ _ (λ q. Rest q u) _
      (λ e (a, tok, t).
      let (s', v, ss, iss, slots, f) = slot_join (slots_with h c x) a t in (
        s' ∷ ss,
        (a, v, tok_uncons 44 [] b u a (same_byte b 44 e) tok, iss, slots),
        f
            ∙ append_assoc c.slots (record { access = c.access; body = body_of h c.others x } ∷ []) (s' ∷ ss),
      ))
      (λ _ z. absurd z) s

  after_in : (h : Head) (c : Before) (x : WrittenAtom) (b : ℕ) (u : List ℕ) → After h c x (b ∷ u) → Sat (behind_atom h c x b) (λ q. Rest q u)
  after_in Plain c x b u ([], v, ss, same, slots, e) =
      let t = comma_in Plain c x b u ss (rw same slots) e in
      elim (b == 124) as (λ k. (b == 124) ≡ k → Sat (if k then Some (bar c x) else comma Plain c x b) (λ q. Rest q u)) [
        | true ↦ λ f. absurd (subst (λ k. Sat (comma Plain c x k) (λ q. Rest q u) → ⊥) (sym (same_byte b 124 f)) (λ z. z) t)
        | false ↦ λ f. t
      ] refl
  after_in Plain c x b u (y ∷ ys, v, ss, (a, d, tok, isy, more), slots, e) =
      let t = tok_cons 124 (codes "|") b u a tok in
      subst (λ k. Sat (behind_atom Plain c x k) (λ q. Rest q u)) (sym t.0) (
        a,
        t.1,
        atom_split (others_with c x) y a d isy (
          ys,
          v,
          ss,
          more,
          slots,
          e ∙ ap (λ zs. c.slots ++ (record { access = c.access; body = alternatives zs }) ∷ ss) (sym (append_assoc c.others (x ∷ []) (y ∷ ys))),
        ),
      )
  after_in Not c x b u (ss, slots, e) = comma_in Not c x b u ss slots e
  after_in Optional c x b u (ss, slots, e) = comma_in Optional c x b u ss slots e
  after_in Alone c x b u (none, e) = cc

  after_out : (h : Head) (c : Before) (x : WrittenAtom) (b : ℕ) (u : List ℕ) → Sat (behind_atom h c x b) (λ q. Rest q u) → After h c x (b ∷ u)
  after_out Plain c x b u s =
      sat_if (b == 124) _ _ (λ q. Rest q u) _
      (λ e (a, tok, t).
      let (y, d, isy, (ys, v, ss, more, slots, f)) = atom_join (others_with c x) a t in (
        y ∷ ys,
        v,
        ss,
        (a, d, tok_uncons 124 (codes "|") b u a (same_byte b 124 e) tok, isy, more),
        slots,
        f ∙ ap (λ zs. c.slots ++ (record { access = c.access; body = alternatives zs }) ∷ ss) (append_assoc c.others (x ∷ []) (y ∷ ys)),
      ))
      (λ _ t. let (ss, slots, e) = comma_out Plain c x b u t in ([], b ∷ u, ss, refl, slots, e)) s
  after_out Not c x b u s = comma_out Not c x b u s
  after_out Optional c x b u s = comma_out Optional c x b u s
  after_out Alone c x b u s = absurd s

  -- ---- a part

  each_taken : (o : Role) (v : List ℕ) → Follow o each v → takes_wildcard o ≡ true
  each_taken (sole c) v f = absurd f.0
  each_taken _ v f = refl

  -- a lone `_` is taken where what follows it is there
  lone_taken : (o : Role) (from : ℕ) (m v : List ℕ) → Follow o (part_of_word from m) v → (is_lone m && not (takes_wildcard o)) ≡ false
  lone_taken o from m v f = grind (arith, common_steps)

  part_in : (n : ℕ) (o : Role) (b : ℕ) (u : List ℕ) (y : Option Point) → n + length (b ∷ u) ≡ size → PartThen o (b ∷ u)
      → Sat (part_or n o b y) (λ q. Rest q u)
  part_in n o b u y place (named from (name []), v, (token, (same, ok), tok, begins), f) = cc
  part_in n o b u y place (named from (name (k ∷ ks)), v, (token, (same, ok), tok, begins), f) =
      let t = tok_cons k ks b u v (rw same at tok) in
      let (letter, words, small, not_lone) = name_parts k ks ok in
      let b_is : b ≡ k = t.0 in
      let here : from ≡ n = omega arith in
      let lone : is_lone (b ∷ ks) ≡ false = rw b_is not_lone in
      let part_is : named from (name (k ∷ ks)) ≡ part_of_word n (b ∷ ks) = sym (cond-false (is_lone (b ∷ ks)) _ _ lone ∙ cc) in
      if_sat (may_begin b) _ _ (λ q. Rest q u) (rw b_is letter) (ks, v, words, omega arith, t.1, subst (λ p. Follow o p v) part_is f)
  part_in n o b u y place (named from (handle i g), v, (token, (same, small, least), tok, begins), f) =
      let whole' : token ≡ 35 ∷ (decimal i ++ (46 ∷ decimal g)) = same ∙ ap (λ s. 35 ∷ s) (append_assoc (decimal i) (codes ".") (decimal g)) in
      let t = tok_cons 35 (decimal i ++ (46 ∷ decimal g)) b u v (rw whole' at tok) in
      let here : from ≡ n = omega arith in
      subst (λ k. Sat (part_or n o k y) (λ q. Rest q u)) (sym t.0) (i, g, v, small, least, t.1, rw (← here) f)
  part_in n o b u y place (each, v, tok, f) =
      let t = tok_cons 42 [] b u v tok in
      subst (λ k. Sat (part_or n o k y) (λ q. Rest q u)) (sym t.0)
      (if_sat (takes_wildcard o) _ _ (λ q. Rest q u) (each_taken o v f) (v, t.1, f))
  part_in n o b u y place (any, v, tok, f) =
      let t = tok_cons 95 [] b u v tok in
      subst (λ k. Sat (part_or n o k y) (λ q. Rest q u)) (sym t.0) ([], v, refl, omega arith, t.1, f)

  part_out : (n : ℕ) (o : Role) (b : ℕ) (u : List ℕ) (y : Option Point) → n + length (b ∷ u) ≡ size → Sat (part_or n o b y) (λ q. Rest q u)
      → PartThen o (b ∷ u) ⊎ Sat y (λ q. Rest q u)
  part_out n o b u y place s =
      sat_if (may_begin b) _ _ (λ q. Rest q u) _
      (λ letter (t, v, words, small, tok, f).
      elim (is_lone (b ∷ t)) as (λ c. is_lone (b ∷ t) ≡ c → Follow o (if c then any else named n (name (b ∷ t))) v → PartThen o (b ∷ u)
      ⊎ Sat y (λ q. Rest q u)) [
        | true ↦ λ e g.
            let same : b ∷ t ≡ 95 ∷ [] = (bytes_eq-Decides (b ∷ t) (codes "_")).0 e in
            let b_is : b ≡ 95 = cc in
            let t_is : t ≡ [] = cc in
            inl (any, v, tok_uncons 95 [] b u v b_is (rw t_is at tok), g)
        | false ↦ λ e g.
            inl (named n (name (b ∷ t)), v, (b ∷ t, (refl, name_of_parts b t letter words (omega arith) e), tok_uncons b t b u v refl tok, place), g)
      ] refl f)
      (λ _ s. sat_if (b == 35) _ _ (λ q. Rest q u) _
      (λ e (i, g, v, small, least, tok, f).
      inl (
        named n (handle i g),
        v,
        (
          35 ∷ (decimal i ++ (46 ∷ decimal g)),
          (sym (ap (λ s. 35 ∷ s) (append_assoc (decimal i) (codes ".") (decimal g))), small, least),
          tok_uncons 35 (decimal i ++ (46 ∷ decimal g)) b u v (same_byte b 35 e) tok,
          place,
        ),
        f,
      ))
      (λ _ s. sat_if ((b == 42) && takes_wildcard o) _ _ (λ q. Rest q u) _
      (λ e (v, tok, f). inl (each, v, tok_uncons 42 [] b u v (same_byte b 42 (and_parts _ _ e).0) tok, f))
      (λ _ s. inr s) s) s) s

  atom_in : (n : ℕ) (c : Before) (b : ℕ) (u : List ℕ) (y : Option Point) → n + length (b ∷ u) ≡ size → AtomThen c (b ∷ u)
      → Sat (atom_or n c b y) (λ q. Rest q u)
  atom_in n c b u y place (inl s) = part_in n (whole c) b u _ place s
  atom_in n c b u y place (inr (v, tok, s)) = grind (arith, common_steps, tok_cons)

  atom_out : (n : ℕ) (c : Before) (b : ℕ) (u : List ℕ) (y : Option Point) → n + length (b ∷ u) ≡ size → Sat (atom_or n c b y) (λ q. Rest q u)
      → AtomThen c (b ∷ u) ⊎ Sat y (λ q. Rest q u)
  atom_out n c b u y place s =
      elim (part_out n (whole c) b u _ place s) [
        | inl t ↦ inl (inl t)
        | inr t ↦ sat_if (b == 40) _ _ (λ q. Rest q u) _ (λ e (v, tok, s). inl (inr (v, tok_uncons 40 [] b u v (same_byte b 40 e) tok, s)))
            (λ _ s. inr s) t
      ]

  body_in : (n : ℕ) (ss : List WrittenSlot) (a : Access) (b : ℕ) (u : List ℕ) (y : Option Point) → n + length (b ∷ u) ≡ size
      → BodyThen ss a (b ∷ u)
      → Sat (body_or n ss a b y) (λ q. Rest q u)
  body_in n ss a b u y place (inl s) = atom_in n (begun ss a Plain) b u _ place s
  body_in n ss a b u y place (inr (inl (v, tok, s))) = grind (arith, common_steps, tok_cons)
  body_in n ss a b u y place (inr (inr (v, tok, s))) = grind (arith, common_steps, tok_cons)

  body_out : (n : ℕ) (ss : List WrittenSlot) (a : Access) (b : ℕ) (u : List ℕ) (y : Option Point) → n + length (b ∷ u) ≡ size
      → Sat (body_or n ss a b y) (λ q. Rest q u) → BodyThen ss a (b ∷ u) ⊎ Sat y (λ q. Rest q u)
  body_out n ss a b u y place s =
      elim (atom_out n (begun ss a Plain) b u _ place s) [
        | inl t ↦ inl (inl t)
        | inr t ↦
            sat_if (b == 33) _ _ (λ q. Rest q u) _ (λ e (v, tok, s). inl (inr (inl (v, tok_uncons 33 [] b u v (same_byte b 33 e) tok, s))))
            (λ _ s. sat_if (b == 63) _ _ (λ q. Rest q u) _ (λ e (v, tok, s). inl (inr (inr (v, tok_uncons 63 [] b u v (same_byte b 63 e) tok, s))))
            (λ _ s. inr s) s) t
      ]

  -- ---- between tokens

  enter_in : (n : ℕ) (s : Spot) (b : ℕ) (u : List ℕ) → n + length (b ∷ u) ≡ size → Then s (b ∷ u) → Sat (enter n s b) (λ q. Rest q u)
  enter_in n (slot ss) b u place (inl s) = body_in n ss InOut b u _ place s
  enter_in n (slot ss) b u place (inr (v, tok, s)) =
      let t = tok_cons 91 [] b u v tok in subst (λ k. Sat (enter n (slot ss) k) (λ q. Rest q u)) (sym t.0) (v, t.1, s)
  enter_in n (word ss) b u place (a, v, tok, s) =
      elim (access_word a) as (λ w. access_word a ≡ w → IsTok w (b ∷ u) v → Sat (enter n (word ss) b) (λ q. Rest q u)) [
        | [] ↦ λ e. absurd (elim a as (λ a. access_word a ≡ [] → ⊥)
            [ In ↦ λ e. cc | Out ↦ λ e. cc | InOut ↦ λ e. cc | InOutNone ↦ λ e. cc ] e)
        | k ∷ t ↦ λ e tok.
            let p = tok_cons k t b u v tok in
            let b_is : b ≡ k = p.0 in
            let f : access_word a ≡ (b ∷ []) ++ t = e ∙ ap (λ x. x ∷ t) (sym b_is) in
            if_sat (is_front (b ∷ [])) _ _ (λ q. Rest q u) (front_of a (b ∷ []) t f) (a, t, v, f, p.1, s)
      ] refl tok
  enter_in n (shut ss a) b u place (v, tok, s) =
      let t = tok_cons 93 [] b u v tok in subst (λ k. Sat (enter n (shut ss a) k) (λ q. Rest q u)) (sym t.0) (v, t.1, s)
  enter_in n (body ss a) b u place s = body_in n ss a b u None place s
  enter_in n (atom c) b u place s = atom_in n c b u None place s
  enter_in n (part o) b u place s = part_in n o b u None place s
  enter_in n (behind (whole c) p) b u place s = after_in c.head c (single p) b u s
  enter_in n (behind (first c) p) b u place (v, tok, s) =
      let t = tok_cons 44 [] b u v tok in subst (λ k. Sat (enter n (behind (first c) p) k) (λ q. Rest q u)) (sym t.0) (v, t.1, s)
  enter_in n (behind (second c p) q) b u place (v, tok, s) =
      let t = tok_cons 41 [] b u v tok in subst (λ k. Sat (enter n (behind (second c p) q) k) (λ q. Rest q u)) (sym t.0) (v, t.1, s)
  enter_in n (behind (sole c) p) b u place (named', none, e) = cc
  enter_in n (after c x) b u place s = after_in c.head c x b u s

  only_left : {A : Type 0} → A ⊎ ⊥ → A
  only_left (inl a) = a
  only_left (inr z) = absurd z

  enter_out : (n : ℕ) (s : Spot) (b : ℕ) (u : List ℕ) → n + length (b ∷ u) ≡ size → Sat (enter n s b) (λ q. Rest q u) → Then s (b ∷ u)
  enter_out n (slot ss) b u place s =
      elim (body_out n ss InOut b u _ place s) [
        | inl t ↦ inl t
        | inr t ↦ sat_if (b == 91) _ _ (λ q. Rest q u) _ (λ e (v, tok, s). inr (v, tok_uncons 91 [] b u v (same_byte b 91 e) tok, s)) (λ _ z. absurd z) t
      ]
  enter_out n (word ss) b u place s =
      sat_if (is_front (b ∷ [])) _ _ (λ q. Rest q u) _
      (λ _ (a, t, v, e, tok, s). (a, v, subst (λ w. IsTok w (b ∷ u) v) (sym e) (tok_uncons b t b u v refl tok), s)) (λ _ z. absurd z) s
  enter_out n (shut ss a) b u place s =
      sat_if (b == 93) _ _ (λ q. Rest q u) _ (λ e (v, tok, s). (v, tok_uncons 93 [] b u v (same_byte b 93 e) tok, s)) (λ _ z. absurd z) s
  enter_out n (body ss a) b u place s = only_left (body_out n ss a b u None place s)
  enter_out n (atom c) b u place s = only_left (atom_out n c b u None place s)
  enter_out n (part o) b u place s = only_left (part_out n o b u None place s)
  enter_out n (behind (whole c) p) b u place s = after_out c.head c (single p) b u s
  enter_out n (behind (first c) p) b u place s =
      sat_if (b == 44) _ _ (λ q. Rest q u) _ (λ e (v, tok, s). (v, tok_uncons 44 [] b u v (same_byte b 44 e) tok, s)) (λ _ z. absurd z) s
  enter_out n (behind (second c p) q) b u place s =
      sat_if (b == 41) _ _ (λ q. Rest q u) _ (λ e (v, tok, s). (v, tok_uncons 41 [] b u v (same_byte b 41 e) tok, s)) (λ _ z. absurd z) s
  enter_out n (behind (sole c) p) b u place s = absurd s
  enter_out n (after c x) b u place s = after_out c.head c x b u s

  skip_in : (n : ℕ) (s : Spot) (b : ℕ) (u : List ℕ) → n + length (b ∷ u) ≡ size → Rest (at s) (b ∷ u) → Sat (move_at n s b) (λ q. Rest q u)
  skip_in n s b u place (v, ([], w, e), t) =
      let here : Sat (enter n s b) (λ q. Rest q u) = enter_in n s b u place (subst (λ v. Then s v) (sym e) t) in
      elim (is_white b) as (λ c. is_white b ≡ c → Sat (if c then Some (at s) else enter n s b) (λ q. Rest q u)) [
        | true ↦ λ f. absurd (none_sat (enter n s b) (λ q. Rest q u) (enter_white n s b f) here)
        | false ↦ λ f. here
      ] refl
  skip_in n s b u place (v, (k ∷ white, w, e), t) =
      let same : b ≡ k = cc in
      let rest : u ≡ white ++ v = cc in
      if_sat (is_white b) _ _ (λ q. Rest q u) (rw same (and_parts _ _ w).0) (v, (white, (and_parts _ _ w).1, rest), t)

  skip_out : (n : ℕ) (s : Spot) (b : ℕ) (u : List ℕ) → n + length (b ∷ u) ≡ size → Sat (move_at n s b) (λ q. Rest q u) → Rest (at s) (b ∷ u)
  skip_out n s b u place h =
      sat_if (is_white b) _ _ (λ q. Rest q u) _ (λ e (v, (white, w, f), t). (v, (b ∷ white, and_from _ _ e w, ap (λ s. b ∷ s) f), t))
      (λ _ h. (b ∷ u, ([], refl, refl), enter_out n s b u place h)) h

  -- ---- at every point

  pub move_in : (n : ℕ) (p : Point) (b : ℕ) (u : List ℕ) → n + length (b ∷ u) ≡ size → Rest p (b ∷ u) → Sat (move n p b) (λ q. Rest q u)
  move_in n (at s) b u place h = skip_in n s b u place h
  move_in n (letters ss m) b u place (a, [], v, e, tok, shuts) =
      let word_is : m ≡ access_word a = sym (e ∙ append-nil m) in
      let found : access_of m ≡ Some a = ap access_of word_is ∙ access_of_word a in
      let s : Sat (move_at n (shut ss a) b) (λ q. Rest q u) = skip_in n (shut ss a) b u place (v, tok, shuts) in
      let white : is_white b ≡ true → is_front (access_word a ++ b ∷ []) ≡ false = λ w. word_ends b w a in
      let bracket : b ≡ 93 → is_front (access_word a ++ b ∷ []) ≡ false =
      λ w. subst (λ b. is_front (access_word a ++ b ∷ []) ≡ false) (sym w) (four 93 refl refl refl refl a) in
      let ends : is_front (access_word a ++ b ∷ []) ≡ false =
      sat_if (is_white b) _ _ (λ q. Rest q u) (is_front (access_word a ++ b ∷ []) ≡ false) (λ w _. white w)
      (λ _ t. sat_if (b == 93) _ _ (λ q. Rest q u) (is_front (access_word a ++ b ∷ []) ≡ false) (λ w _. bracket (same_byte b 93 w))
      (λ _ z. absurd z) t) s in
      else_sat (is_front (m ++ b ∷ [])) _ _ (λ q. Rest q u) (subst (λ m. is_front (m ++ b ∷ []) ≡ false) (sym word_is) ends)
      (subst (λ o. Sat (option_and_then (λ a. move_at n (shut ss a) b) o) (λ q. Rest q u)) (sym found) s)
  move_in n (letters ss m) b u place (a, k ∷ t, v, e, tok, shuts) =
      let p = tok_cons k t b u v tok in
      let f : access_word a ≡ (m ++ b ∷ []) ++ t =
      e ∙ ap (λ x. m ++ x ∷ t) (sym p.0) ∙ sym (append_assoc m (b ∷ []) t) in
      if_sat (is_front (m ++ b ∷ [])) _ _ (λ q. Rest q u) (front_of a (m ++ b ∷ []) t f) (a, t, v, f, p.1, shuts)
  move_in n (bar c x) b u place (v, tok, s) =
      let t = tok_cons 124 [] b u v tok in subst (λ k. Sat (move n (bar c x) k) (λ q. Rest q u)) (sym t.0) (v, t.1, s)
  move_in n (name_of o from m) b u place ([], v, words, small, tok, f) =
      let s : Sat (move_at n (behind o (part_of_word from m)) b) (λ q. Rest q u) =
      skip_in n (behind o (part_of_word from m)) b u place (v, tok, subst (λ m. Follow o (part_of_word from m) v) (append-nil m) f) in
      elim (may_follow b) as (λ c. may_follow b ≡ c → Sat (if c then (if nat_lt (length m) 63 then Some (name_of o from (m ++ b ∷ [])) else None)
      else (if is_lone m && not (takes_wildcard o) then None else move_at n (behind o (part_of_word from m)) b)) (λ q. Rest q u)) [
        | true ↦ λ e. absurd (none_sat (move_at n (behind o (part_of_word from m)) b) (λ q. Rest q u) (word_stops n o (part_of_word from m) b e) s)
        | false ↦ λ e. else_sat (is_lone m && not (takes_wildcard o)) _ _ (λ q. Rest q u)
            (lone_taken o from m v (subst (λ m. Follow o (part_of_word from m) v) (append-nil m) f)) s
      ] refl
  move_in n (name_of o from m) b u place (k ∷ t, v, words, small, tok, f) =
      let p = tok_cons k t b u v tok in
      let b_is : b ≡ k = p.0 in
      let longer : length (m ++ b ∷ []) ≡ length m + 1 = length-append m (b ∷ []) in
      let joins : m ++ k ∷ t ≡ (m ++ b ∷ []) ++ t = ap (λ x. m ++ x ∷ t) (sym b_is) ∙ sym (append_assoc m (b ∷ []) t) in
      if_sat (may_follow b) _ _ (λ q. Rest q u) (rw b_is (and_parts _ _ words).0)
      (if_sat (nat_lt (length m) 63) _ _ (λ q. Rest q u) (lt-ltb (length m) 63 (omega arith))
      (t, v, (and_parts _ _ words).1, omega arith, p.1, subst (λ w. Follow o (part_of_word from w) v) joins f))
  move_in n (hash o from) b u place (i, g, v, small, least, tok, f) =
      let (c, t, e, d, run) = number_front 4294967295 i (omega arith) (omega arith) in
      let tok' : IsTok (c ∷ (t ++ (46 ∷ decimal g))) (b ∷ u) v = subst (λ w. IsTok (w ++ (46 ∷ decimal g)) (b ∷ u) v) e tok in
      let p = tok_cons c (t ++ (46 ∷ decimal g)) b u v tok' in
      let b_is : b ≡ c = p.0 in
      if_sat (is_digit b) _ _ (λ q. Rest q u) (rw b_is d) (t, i, g, v, rw b_is run, least, p.1, f)
  move_in n (index o from i) b u place ([], j, g, v, run, least, tok, f) =
      let p = tok_cons 46 (decimal g) b u v tok in
      let same : j ≡ i = cc in
      subst (λ k. Sat (move n (index o from i) k) (λ q. Rest q u)) (sym p.0) (g, v, least, p.1, rw (← same) f)
  move_in n (index o from i) b u place (k ∷ t, j, g, v, run, least, tok, f) =
      let p = tok_cons k (t ++ (46 ∷ decimal g)) b u v tok in
      let b_is : b ≡ k = p.0 in
      let (d, j', grows, rest) = digits_in 4294967295 i j k t run in
      if_sat (is_digit b) _ _ (λ q. Rest q u) (rw b_is d)
      (subst (λ o'. Sat (option_and_then (λ j. Some (index o from j)) o') (λ q. Rest q u)) (sym (ap (with_digit 4294967295 i) b_is ∙ grows))
      (t, j, g, v, rest, least, p.1, f))
  move_in n (dot o from i) b u place (g, v, least, tok, f) =
      let (c, t, e, d, run) = number_front 65535 g (omega arith) (omega arith) in
      let p = tok_cons c t b u v (subst (λ w. IsTok w (b ∷ u) v) e tok) in
      let b_is : b ≡ c = p.0 in
      if_sat (is_digit b) _ _ (λ q. Rest q u) (rw b_is d) (t, g, v, rw b_is run, p.1, f)
  move_in n (generation o from i g) b u place ([], h, v, run, tok, f) =
      let same : h ≡ g = cc in
      let s : Sat (move_at n (behind o (named from (handle i g))) b) (λ q. Rest q u) =
      skip_in n (behind o (named from (handle i g))) b u place (v, tok, rw (← same) f) in
      elim (is_digit b) as (λ c. is_digit b ≡ c → Sat (if c then option_and_then (λ h. Some (generation o from i h)) (with_digit 65535 g b)
      else move_at n (behind o (named from (handle i g))) b) (λ q. Rest q u)) [
        | true ↦ λ e. absurd (none_sat (move_at n (behind o (named from (handle i g))) b) (λ q. Rest q u)
            (word_stops n o (named from (handle i g)) b (digit_word b e)) s)
        | false ↦ λ e. s
      ] refl
  move_in n (generation o from i g) b u place (k ∷ t, h, v, run, tok, f) =
      let p = tok_cons k t b u v tok in
      let b_is : b ≡ k = p.0 in
      let (d, j', grows, rest) = digits_in 65535 g h k t run in
      if_sat (is_digit b) _ _ (λ q. Rest q u) (rw b_is d)
      (subst (λ o'. Sat (option_and_then (λ h. Some (generation o from i h)) o') (λ q. Rest q u)) (sym (ap (with_digit 65535 g) b_is ∙ grows))
      (t, h, v, rest, p.1, f))

  pub move_out : (n : ℕ) (p : Point) (b : ℕ) (u : List ℕ) → n + length (b ∷ u) ≡ size → Sat (move n p b) (λ q. Rest q u) → Rest p (b ∷ u)
  move_out n (at s) b u place h = skip_out n s b u place h
  move_out n (letters ss m) b u place h =
      sat_if (is_front (m ++ b ∷ [])) _ _ (λ q. Rest q u) _
      (λ _ (a, t, v, e, tok, s). (a, b ∷ t, v, e ∙ append_assoc m (b ∷ []) t, tok_uncons b t b u v refl tok, s))
      (λ _ h.
      let (a, word_is, s) = word_of_access m (λ a. Sat (move_at n (shut ss a) b) (λ q. Rest q u))
      (then_out (access_of m) (λ a. move_at n (shut ss a) b) (λ q. Rest q u) h) in
      let (v, tok, t) = skip_out n (shut ss a) b u place s in
      (a, [], v, word_is ∙ sym (append-nil m), tok, t)) h
  move_out n (bar c x) b u place h =
      sat_if (b == 124) _ _ (λ q. Rest q u) _ (λ e (v, tok, s). (v, tok_uncons 124 [] b u v (same_byte b 124 e) tok, s)) (λ _ z. absurd z) h
  move_out n (name_of o from m) b u place h =
      sat_if (may_follow b) _ _ (λ q. Rest q u) _
      (λ w h. sat_if (nat_lt (length m) 63) _ _ (λ q. Rest q u) _
      (λ l (t, v, words, small, tok, f).
      let less : length m < 63 = ltb-true (length m) 63 l in
      let longer : length (m ++ b ∷ []) ≡ length m + 1 = length-append m (b ∷ []) in (
        b ∷ t,
        v,
        and_from _ _ w words,
        omega arith,
        tok_uncons b t b u v refl tok,
        subst (λ w. Follow o (part_of_word from w) v)
            (append_assoc m (b ∷ []) t) f,
      ))
      (λ _ z. absurd z) h)
      (λ _ h. sat_if (is_lone m && not (takes_wildcard o)) _ _ (λ q. Rest q u) _ (λ _ z. absurd z)
      (λ _ h. let (v, tok, f) = skip_out n (behind o (part_of_word from m)) b u place h in
      ([], v, refl, omega arith, tok, subst (λ m. Follow o (part_of_word from m) v) (sym (append-nil m)) f)) h) h
  move_out n (hash o from) b u place h =
      sat_if (is_digit b) _ _ (λ q. Rest q u) _
      (λ d (t, j, g, v, run, least, tok, f).
      let (e, small) = number_back 4294967295 b j t (omega arith) (omega arith) d run in
      (j, g, v, omega arith, least, subst (λ w. IsTok (w ++ (46 ∷ decimal g)) (b ∷ u) v) e (tok_uncons b (t ++ (46 ∷ decimal g)) b u v refl tok), f))
      (λ _ z. absurd z) h
  move_out n (index o from i) b u place h =
      sat_if (is_digit b) _ _ (λ q. Rest q u) _
      (λ d h.
      let (k, grows, (t, j, g, v, run, least, tok, f)) = some_out (with_digit 4294967295 i b) (λ j. index o from j) (λ q. Rest q u) h in
      (b ∷ t, j, g, v, digits_out 4294967295 i j b k t d grows run, least, tok_uncons b (t ++ (46 ∷ decimal g)) b u v refl tok, f))
      (λ _ h. sat_if (b == 46) _ _ (λ q. Rest q u) _
      (λ e (g, v, least, tok, f). ([], i, g, v, refl, least, tok_uncons 46 (decimal g) b u v (same_byte b 46 e) tok, f))
      (λ _ z. absurd z) h) h
  move_out n (dot o from i) b u place h =
      sat_if (is_digit b) _ _ (λ q. Rest q u) _
      (λ d (t, g, v, run, tok, f).
      let (e, small) = number_back 65535 b g t (omega arith) (omega arith) d run in
      (g, v, omega arith, subst (λ w. IsTok w (b ∷ u) v) e (tok_uncons b t b u v refl tok), f))
      (λ _ z. absurd z) h
  move_out n (generation o from i g) b u place h =
      sat_if (is_digit b) _ _ (λ q. Rest q u) _
      (λ d h.
      let (k, grows, (t, j, v, run, tok, f)) = some_out (with_digit 65535 g b) (λ h. generation o from i h) (λ q. Rest q u) h in
      (b ∷ t, j, v, digits_out 65535 g j b k t d grows run, tok_uncons b t b u v refl tok, f))
      (λ _ h. let (v, tok, f) = skip_out n (behind o (named from (handle i g))) b u place h in
      ([], g, v, refl, tok, f)) h
