-- Closed writes, pattern by pattern.
use Rattle.eco_systems.proofs.Common.{◌≡◌, Bool, false, ◌||◌, ◌↔◌, ◌⊎◌, inl, inr, List, [], ◌∷◌, ◌++◌, map, refl, sym, ap}
use Rattle.eco_systems.proofs.Common.{◌∙◌, subst, true≢false, IsTrue, Some, None, list_any, same_Some, none-some, list_any-append, Entity, WITH, Is}
use Rattle.eco_systems.proofs.Common.{Each, Any, Pattern, One, Two, root, next, entity_cmp, entity_eq, has_item, Reaches, WorldState, has, or_left, or_parts}
use Rattle.eco_systems.proofs.Common.{or_right, entity_eq_is, entity_eq_itself, SomeOf, BringsPattern, InClosedPatterns, widened}
use Rattle.eco_systems.specs.Closing.{pattern_head, pattern_with_head, ClosedPasses, ListsClosed, Among}
use Rattle.eco_systems.proofs.Common.{some_left, some_right}
use Rattle.eco_ids.specs.declared.id.Id.TheVariants as id

-- ---- the closed patterns of some are those of each

module _ (w : WorldState) where
  from_more : (xs ys : List Pattern) {p : Pattern} → InClosedPatterns w (xs ++ ys) p → InClosedPatterns w xs p ⊎ InClosedPatterns w ys p
  from_more xs ys {p = p} (root h) = parts xs h
    where
      parts : (xs : List Pattern) → SomeOf (λ q. q ≡ p) (xs ++ ys) → InClosedPatterns w xs p ⊎ InClosedPatterns w ys p
      parts [] h = inr (root h)
      parts (x ∷ xs) (inl e) = inl (root (inl e))
      parts (x ∷ xs) (inr h) = more (parts xs h)
        where
          more : InClosedPatterns w xs p ⊎ InClosedPatterns w ys p → InClosedPatterns w (x ∷ xs) p ⊎ InClosedPatterns w ys p
          more (inl c) = inl (wider c)
            where
              wider : {q : Pattern} → InClosedPatterns w xs q → InClosedPatterns w (x ∷ xs) q
              wider (root r) = root (inr r)
              wider (next c b) = next (wider c) b
          more (inr c) = inr c
  from_more xs ys (next c b) = on (from_more xs ys c) b
    where
      on : {p q : Pattern} → InClosedPatterns w xs p ⊎ InClosedPatterns w ys p → BringsPattern w p q
          → InClosedPatterns w xs q ⊎ InClosedPatterns w ys q
      on (inl c) b = inl (next c b)
      on (inr c) b = inr (next c b)

  into_left : (xs ys : List Pattern) {p : Pattern} → InClosedPatterns w xs p → InClosedPatterns w (xs ++ ys) p
  into_left xs ys {p = p} (root h) = root (some_left _ xs ys h)
  into_left xs ys (next c b) = next (into_left xs ys c) b

  into_right : (xs ys : List Pattern) {p : Pattern} → InClosedPatterns w ys p → InClosedPatterns w (xs ++ ys) p
  into_right xs ys {p = p} (root h) = root (some_right _ xs ys h)
  into_right xs ys (next c b) = next (into_right xs ys c) b

  pub passes_parts : (xs ys : List Pattern) (test : Pattern → Bool) → ClosedPasses w (xs ++ ys) test → ClosedPasses w xs test ⊎ ClosedPasses w ys test
  passes_parts xs ys test h = go (from_more xs ys (h.1).1)
    where
      go : InClosedPatterns w xs (h.1).0 ⊎ InClosedPatterns w ys (h.1).0 → ClosedPasses w xs test ⊎ ClosedPasses w ys test
      go (inl c) = inl (h.0, ((h.1).0, c, (h.1).2), h.2)
      go (inr c) = inr (h.0, ((h.1).0, c, (h.1).2), h.2)

  pub passes_left : (xs ys : List Pattern) (test : Pattern → Bool) → ClosedPasses w xs test → ClosedPasses w (xs ++ ys) test
  passes_left xs ys test h = (h.0, ((h.1).0, into_left xs ys (h.1).1, (h.1).2), h.2)

  pub passes_right : (xs ys : List Pattern) (test : Pattern → Bool) → ClosedPasses w ys test → ClosedPasses w (xs ++ ys) test
  passes_right xs ys test h = (h.0, ((h.1).0, into_right xs ys (h.1).1, (h.1).2), h.2)

  -- one pattern more
  pub lists_more : (writes : List Pattern) (p : Pattern) (old new : List Pattern) → ListsClosed w writes old → Among w p old new →
      ListsClosed w (writes ++ p ∷ []) new
  lists_more writes p old new h more test = (
    λ t. there ((more test).0 t),
    λ c. (more test).1 (here (passes_parts writes (p ∷ []) test c)),
  )
    where
      there : IsTrue (list_any test old) ⊎ ClosedPasses w (p ∷ []) test → ClosedPasses w (writes ++ p ∷ []) test
      there (inl o) = passes_left writes (p ∷ []) test ((h test).0 o)
      there (inr c) = passes_right writes (p ∷ []) test c

      here : ClosedPasses w writes test ⊎ ClosedPasses w (p ∷ []) test → IsTrue (list_any test old) ⊎ ClosedPasses w (p ∷ []) test
      here (inl c) = inl ((h test).1 c)
      here (inr c) = inr c

  nothing_closed : {p : Pattern} → InClosedPatterns w [] p → ⊥
  nothing_closed (root h) = h
  nothing_closed (next c b) = nothing_closed c

  pub lists_none : ListsClosed w [] []
  lists_none test = (λ h. absurd (true≢false (sym h)), λ c. absurd (nothing_closed (c.1).1))

  -- ---- the closed patterns of one are those with the heads that With leads to

  own_head : (p : Pattern) (h : Entity) → pattern_head p ≡ Some h → pattern_with_head p h ≡ p
  own_head (One e) h at = ap One (sym (same_Some e h at))
  own_head (Two (Is r) q) h at = ap (λ x. Two (Is x) q) (sym (same_Some r h at))
  own_head _ h at = absurd (none-some h at)

  one_brings : (p : Pattern) (a b : Entity) → IsTrue (has w a (id.Two WITH b)) → BringsPattern w (pattern_with_head p a) (pattern_with_head p b)
  one_brings (One c) a b h = h
  one_brings (Two r t) a b h = (h, refl)

  reach_to_closed : (p : Pattern) (h : Entity) → pattern_head p ≡ Some h → {x : Entity} → Reaches w WITH h x →
      InClosedPatterns w (p ∷ []) (pattern_with_head p x)
  reach_to_closed p h is (root e) = root (inl (sym (ap (pattern_with_head p) e ∙ own_head p h is)))
  reach_to_closed p h is (next {a = a} {b = b} member edge) = next (reach_to_closed p h is member) (one_brings p a b edge)

  brought_head : (p : Pattern) (a : Entity) (q : Pattern) → BringsPattern w (pattern_with_head p a) q → (x : Entity) × IsTrue (has w a (id.Two WITH x)) ×
      (q ≡ pattern_with_head p x)
  brought_head (One c) a (One x) h = (x, h, refl)
  brought_head (Two r t) a (Two (Is x) u) h = (x, h.0, ap (Two (Is x)) h.1)
  brought_head _ a _ h = absurd h

  closed_to_reach : (p : Pattern) (h : Entity) → pattern_head p ≡ Some h → {q : Pattern} → InClosedPatterns w (p ∷ []) q
      → (x : Entity) × Reaches w WITH h x ×
      (q ≡ pattern_with_head p x)
  closed_to_reach p h is (root (inl e)) = (h, root refl, sym e ∙ sym (own_head p h is))
  closed_to_reach p h is (root (inr n)) = absurd n
  closed_to_reach p h is (next {a = a} {b = b} member brings) =
      let m = closed_to_reach p h is member in
      let n = brought_head p m.0 b (subst (λ r. BringsPattern w r b) m.2 brings) in
      (n.0, next m.1 n.1, n.2)

  listed_head : (p : Pattern) (heads : List Entity) (test : Pattern → Bool) →
      IsTrue (list_any test (map (λ x. widened w (pattern_with_head p x)) heads)) →
      (x : Entity) × IsTrue (has_item entity_cmp heads x) × IsTrue (test (widened w (pattern_with_head p x)))
  listed_head p [] test h = absurd (true≢false (sym h))
  listed_head p (y ∷ ys) test h =
      elim (or_parts (test (widened w (pattern_with_head p y))) _ h) as (λ _. (x : Entity) × IsTrue (entity_eq y x || has_item entity_cmp ys x) ×
      IsTrue (test (widened w (pattern_with_head p x)))) [
        | inl k ↦ (y, or_left _ _ (entity_eq_itself y), k)
        | inr k ↦ let rest = listed_head p ys test k in (rest.0, or_right (entity_eq y rest.0) _ rest.1, rest.2)
      ]

  head_listed : (p : Pattern) (heads : List Entity) (test : Pattern → Bool) (x : Entity) → IsTrue (has_item entity_cmp heads x) →
      IsTrue (test (widened w (pattern_with_head p x))) → IsTrue (list_any test (map (λ y. widened w (pattern_with_head p y)) heads))
  head_listed p [] test x h t = absurd (true≢false (sym h))
  head_listed p (y ∷ ys) test x h t =
      elim (or_parts (entity_eq y x) (has_item entity_cmp ys x) h) as (λ _. IsTrue
      (test (widened w (pattern_with_head p y)) || list_any test (map (λ z. widened w (pattern_with_head p z)) ys))) [
        | inl k ↦ or_left _ _ (subst (λ z. IsTrue (test (widened w (pattern_with_head p z)))) (sym (entity_eq_is y x k)) t)
        | inr k ↦ or_right (test (widened w (pattern_with_head p y))) _ (head_listed p ys test x k t)
      ]

  -- a pattern with a head
  pub among_reached : (p : Pattern) (h : Entity) (heads : List Entity) (old : List Pattern) → pattern_head p ≡ Some h →
      ((x : Entity) → IsTrue (has_item entity_cmp heads x) ↔ Reaches w WITH h x) →
      Among w p old (old ++ map (λ x. widened w (pattern_with_head p x)) heads)
  among_reached p h heads old at exact test = (
    λ t. there (or_parts (list_any test old) _ (sym (list_any-append test old (map (λ x. widened w (pattern_with_head p x)) heads)) ∙ t)),
    λ c. list_any-append test old (map (λ x. widened w (pattern_with_head p x)) heads) ∙ here c,
  )
    where
      there : IsTrue (list_any test old) ⊎ IsTrue (list_any test (map (λ x. widened w (pattern_with_head p x)) heads)) →
          IsTrue (list_any test old) ⊎ ClosedPasses w (p ∷ []) test
      there (inl o) = inl o
      there (inr m) =
          let x = listed_head p heads test m in
          inr (widened w (pattern_with_head p x.0), (pattern_with_head p x.0, reach_to_closed p h at ((exact x.0).0 x.1), refl), x.2)

      here : IsTrue (list_any test old) ⊎ ClosedPasses w (p ∷ []) test →
          IsTrue (list_any test old || list_any test (map (λ x. widened w (pattern_with_head p x)) heads))
      here (inl o) = or_left _ _ o
      here (inr c) =
          let x = closed_to_reach p h at (c.1).1 in
          or_right (list_any test old) _ (head_listed p heads test x.0 ((exact x.0).1 x.1) (subst (λ q. IsTrue (test q)) ((c.1).2 ∙ ap (widened w) x.2) c.2))

  pub heads_bring : (p q : Pattern) → BringsPattern w p q
      ↔ (h : Entity) × (x : Entity) × (pattern_head p ≡ Some h) × IsTrue (has w h (id.Two WITH x)) × (q ≡ pattern_with_head p x)
  heads_bring p q = (
    there p q,
    λ (h, x, at, pair, is). subst (BringsPattern w p) (sym is) (subst (λ r. BringsPattern w r (pattern_with_head p x)) (own_head p h at)
        (one_brings p h x pair)),
  )
    where
      there : (p q : Pattern) → BringsPattern w p q
          → (h : Entity) × (x : Entity) × (pattern_head p ≡ Some h) × IsTrue (has w h (id.Two WITH x)) × (q ≡ pattern_with_head p x)
      there (One c) (One x) b = (c, x, refl, b, refl)
      there (Two (Is r) t) (Two (Is x) u) b = (r, x, refl, b.0, ap (Two (Is x)) b.1)
      there (Two Each t) (One x) b = absurd b
      there (Two Each t) (Two p u) b = absurd b
      there (Two Any t) (One x) b = absurd b
      there (Two Any t) (Two p u) b = absurd b
      there _ _ b = absurd b

  -- one without: nothing is brought
  wild_brings : (p q : Pattern) → pattern_head p ≡ None → BringsPattern w p q → ⊥
  wild_brings p q at b = let (h, x, is, pair, more) = (heads_bring p q).0 b in none-some h (sym at ∙ is)

  wild_widened : (p : Pattern) → pattern_head p ≡ None → widened w p ≡ p
  wild_widened (One e) at = absurd (none-some e (sym at))
  wild_widened (Two (Is r) t) at = absurd (none-some r (sym at))
  wild_widened _ at = refl

  wild_alone : (p : Pattern) → pattern_head p ≡ None → {q : Pattern} → InClosedPatterns w (p ∷ []) q → p ≡ q
  wild_alone p at (root (inl e)) = e
  wild_alone p at (root (inr n)) = absurd n
  wild_alone p at (next {a = a} {b = b} member brings) = absurd (wild_brings p b at (subst (λ r. BringsPattern w r b) (sym (wild_alone p at member)) brings))

  pub among_wild : (p : Pattern) (old : List Pattern) → pattern_head p ≡ None → Among w p old (old ++ p ∷ [])
  among_wild p old at test = (
    λ t. there (or_parts (list_any test old) _ (sym (list_any-append test old (p ∷ [])) ∙ t)),
    λ c. list_any-append test old (p ∷ []) ∙ here c,
  )
    where
      there : IsTrue (list_any test old) ⊎ IsTrue (test p || false) → IsTrue (list_any test old) ⊎ ClosedPasses w (p ∷ []) test
      there (inl o) = inl o
      there (inr m) = elim (or_parts (test p) false m) as (λ _. IsTrue (list_any test old) ⊎ ClosedPasses w (p ∷ []) test) [
        | inl k ↦ inr (p, (p, root (inl refl), sym (wild_widened p at)), k)
        | inr k ↦ absurd (true≢false (sym k))
      ]

      here : IsTrue (list_any test old) ⊎ ClosedPasses w (p ∷ []) test → IsTrue (list_any test old || (test p || false))
      here (inl o) = or_left _ _ o
      here (inr c) =
          let same = wild_alone p at (c.1).1 in
          or_right (list_any test old) _ (or_left _ _ (subst (λ q. IsTrue (test q)) ((c.1).2 ∙ ap (widened w) (sym same) ∙ wild_widened p at) c.2))
