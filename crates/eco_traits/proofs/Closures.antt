-- The closure of an id is the walk of pairs of With from its head.
use Rattle.eco_traits.proofs.Common.{◌≡◌, ◌||◌, ◌↔◌, inl, inr, List, [], ◌∷◌, refl, sym, ap, ◌∙◌, subst, true≢false, IsTrue}
use Rattle.eco_traits.proofs.Common.{Entity, WITH, Id, One, Two, root, next, id_cmp, id_eq, entity_cmp, entity_eq, has_item, is_ascending, IsClosure, Brings}
use Rattle.eco_traits.proofs.Common.{InClosure, Reaches, WorldState, has, head_of, with_head, with_heads, or_left, same_id, or_parts, or_right, id_eq_is}
use Rattle.eco_traits.proofs.Common.{id_eq_itself, entity_eq_is, entity_eq_itself, HasSameIds, IfOk, IsReach, Result, Ok, Err}
use Rattle.eco_traits.proofs.Members.{only}

-- ---- the id with many heads

has_head : (i : Id) (heads : List Entity) (x : Entity) → IsTrue (has_item entity_cmp heads x)
    → IsTrue (has_item id_cmp (with_heads i heads) (with_head i x))
has_head i [] x h = absurd (true≢false (sym h))
has_head i (y ∷ ys) x h =
    elim (or_parts (entity_eq y x) (has_item entity_cmp ys x) h) as (λ _. IsTrue
    (id_eq (with_head i y) (with_head i x) || has_item id_cmp (with_heads i ys) (with_head i x))) [
      | inl k ↦ or_left _ _ (subst (λ z. IsTrue (id_eq (with_head i y) (with_head i z))) (entity_eq_is y x k) (id_eq_itself (with_head i y)))
      | inr k ↦ or_right _ _ (has_head i ys x k)
    ]

pub head_of_item : (i : Id) (heads : List Entity) (j : Id) → IsTrue (has_item id_cmp (with_heads i heads) j)
    → (x : Entity) × IsTrue (has_item entity_cmp heads x) × (with_head i x ≡ j)
head_of_item i [] j h = absurd (true≢false (sym h))
head_of_item i (y ∷ ys) j h =
    elim (or_parts (id_eq (with_head i y) j) (has_item id_cmp (with_heads i ys) j) h) as (λ _. (x : Entity) × IsTrue
    (entity_eq y x || has_item entity_cmp ys x) × (with_head i x ≡ j)) [
      | inl k ↦ (y, or_left _ _ (entity_eq_itself y), id_eq_is (with_head i y) j k)
      | inr k ↦ let rest = head_of_item i ys j k in (rest.0, or_right _ _ rest.1, rest.2)
    ]

-- ---- the closure

pub own_head : (i : Id) → with_head i (head_of i) ≡ i
own_head (One e) = refl
own_head (Two r t) = refl

one_brings : (w : WorldState) (i : Id) (a b : Entity) → IsTrue (has w a (Two WITH b)) → Brings w (with_head i a) (with_head i b)
one_brings w (One c) a b h = h
one_brings w (Two r t) a b h = (h, refl)

pub reach_to_closure : (w : WorldState) (i : Id) {x : Entity} → Reaches w WITH (head_of i) x → InClosure w i (with_head i x)
reach_to_closure w i (root e) = root (ap (with_head i) e ∙ own_head i)
reach_to_closure w i (next {a = a} {b = b} member edge) = next (reach_to_closure w i member) (one_brings w i a b edge)

brought : (w : WorldState) (i : Id) (a : Entity) (b : Id) → Brings w (with_head i a) b
    → (x : Entity) × IsTrue (has w a (Two WITH x)) × (b ≡ with_head i x)
brought w (One c) a (One x) h = (x, h, refl)
brought w (One c) a (Two r t) h = absurd h
brought w (Two r t) a (One x) h = absurd h
brought w (Two r t) a (Two x u) h = (x, h.0, ap (Two x) h.1)

pub closure_to_reach : (w : WorldState) (i : Id) {j : Id} → InClosure w i j → (x : Entity) × Reaches w WITH (head_of i) x × (j ≡ with_head i x)
closure_to_reach w i (root e) = (head_of i, root refl, e ∙ sym (own_head i))
closure_to_reach w i (next {a = a} {b = b} member brings) =
    let m = closure_to_reach w i member in
    let n = brought w i m.0 b (subst (λ k. Brings w k b) m.2 brings) in
    (n.0, next m.1 n.1, n.2)

pub closure_of_heads : (w : WorldState) (i : Id) (heads : List Entity) (s : List Id)
    → ((x : Entity) → IsTrue (has_item entity_cmp heads x) ↔ Reaches w WITH (head_of i) x)
    → ((j : Id) → has_item id_cmp s j ≡ has_item id_cmp (with_heads i heads) j) → IsTrue (is_ascending id_cmp s) → IsClosure w i s
closure_of_heads w i heads s exact same up = record {
  ascending = up;
  exact = λ j. (
    λ h. let m = head_of_item i heads j (sym (same j) ∙ h) in subst (InClosure w i) m.2 (reach_to_closure w i ((exact m.0).0 m.1)),
    λ h. let m = closure_to_reach w i h in same j ∙ subst (λ k. IsTrue (has_item id_cmp (with_heads i heads) k)) (sym m.2)
        (has_head i heads m.0 ((exact m.0).1 m.1)),
  );
}

-- ---- nothing is brought

stays : (w : WorldState) (r a : Entity) → ((x : Entity) → IsTrue (has w a (Two r x)) → ⊥) → {b : Entity} → Reaches w r a b → b ≡ a
stays w r a none (root e) = e
stays w r a none (next {a = c} {b = b} member edge) = absurd (none b (subst (λ x. IsTrue (has w x (Two r b))) (stays w r a none member) edge))

pub closure_alone : (w : WorldState) (i : Id) → ((x : Entity) → IsTrue (has w (head_of i) (Two WITH x)) → ⊥) → IsClosure w i (i ∷ [])
closure_alone w i none = record {
  ascending = refl;
  exact = λ j. (
    λ h. root (sym (only same_id i j h)),
    λ h.
        let m = closure_to_reach w i h in
        let is : j ≡ i = m.2 ∙ ap (with_head i) (stays w WITH (head_of i) none m.1) ∙ own_head i in
        or_left _ _ (subst (λ k. IsTrue (id_eq i k)) (sym is) (id_eq_itself i)),
  );
}

-- ---- all that a walk leads to

pub closure_of_walk : {E : Type 0} (w : WorldState) (i : Id) (head : Entity) (reached heads : List Entity) (r : Result (List Id) E) → head ≡ head_of i
    → heads ≡ reached → IsReach w WITH head reached → IfOk r (λ s. HasSameIds s (with_heads i heads)) → IfOk r (λ s. IsTrue (is_ascending id_cmp s))
    → IfOk r (λ s. IsClosure w i s)
closure_of_walk w i head reached heads (Ok s) is same all members up =
    closure_of_heads w i heads s (λ x. (
      λ h. subst (λ e. Reaches w WITH e x) is ((all x).0 (subst (λ xs. IsTrue (has_item entity_cmp xs x)) same h)),
      λ h. subst (λ xs. IsTrue (has_item entity_cmp xs x)) (sym same) ((all x).1 (subst (λ e. Reaches w WITH e x) (sym is) h)),
    )) members up
closure_of_walk w i head reached heads (Err e) is same all members up = tt
