-- Worked rows: whom a delete takes, what it leaves, and what forbids it.
use Rattle.eco_ids.proofs.Common.{◌≡◌, true, false, cond, [], ◌∷◌, is_some, IsTrue, ◌==◌, Some, None, sym, refl, ap, subst, inl, inr, true≢false, Entity}
use Rattle.eco_ids.proofs.Common.{DELETE, ON_DELETE, PANIC, CHILD_OF, Id, Two, One, after_delete, Doomed, Forbids, HoldsOn, Names, Free, root, id_eq}
use Rattle.eco_ids.proofs.Common.{WorldState, has, zeros}
use Rattle.eco_ids.proofs.Facts.{id_eq_is}
use Rattle.eco_ids.proofs.Meaning.{doomed_closed}
use Rattle.eco_ids.proofs.Worlds.{e, having, world}

-- a tree: r 9 with children g 10 and s 11, p 12 a child of g, k 13 of p
abbrev tree : WorldState
tree = world (having [] ∷ having (Two CHILD_OF (e 9) ∷ []) ∷ having (Two CHILD_OF (e 9) ∷ []) ∷ having (Two CHILD_OF (e 10) ∷ []) ∷ having
    (Two CHILD_OF (e 12) ∷ []) ∷ [])

grandchild : Doomed tree (λ x. x ≡ e 10) (e 13)
grandchild = doomed_closed tree _ (e 12) (e 13) (doomed_closed tree _ (e 10) (e 12) (root refl) (Two CHILD_OF (e 10), refl, inr (refl, refl)))
    (Two CHILD_OF (e 12), refl, inr (refl, refl))

subtree : after_delete tree (e 10 ∷ e 12 ∷ e 13 ∷ []) ≡ world (having [] ∷ Free 1 ∷ having (Two CHILD_OF (e 9) ∷ []) ∷ Free 1 ∷ Free 1 ∷ [])
subtree = refl

-- mixed roles: T 9 takes its holders with it, R 10, h 11 has T, z 12 has (R, h) and (R, z)
abbrev mixed : WorldState
mixed = world (having (Two ON_DELETE DELETE ∷ []) ∷ having [] ∷ having (One (e 9) ∷ []) ∷ having (Two (e 10) (e 11) ∷ Two (e 10) (e 12) ∷ []) ∷ [])

holder : Doomed mixed (λ x. x ≡ e 9) (e 11)
holder = doomed_closed mixed _ (e 9) (e 11) (root refl) (One (e 9), refl, (refl, refl))

stripped : after_delete mixed (e 9 ∷ e 11 ∷ []) ≡ world (Free 1 ∷ having [] ∷ Free 1 ∷ having (Two (e 10) (e 12) ∷ []) ∷ [])
stripped = refl

-- without a policy a holder is not taken: h 11 has T 9
abbrev tagged : WorldState
tagged = world (having [] ∷ having [] ∷ having (One (e 9) ∷ []) ∷ [])

only : (i j : Id) → IsTrue (is_some (cond (id_eq i j) (Some zeros) None)) → i ≡ j
only i j h = elim (id_eq i j) as (λ b. id_eq i j ≡ b → IsTrue (is_some (cond b (Some zeros) None)) →
    i ≡ j) [ true ↦ λ k _. id_eq_is i j k | false ↦ λ k no. absurd (true≢false (sym no)) ] refl h

spared : HoldsOn tagged DELETE (e 9) (e 11) → ⊥
spared h = no_policy h.0 h.1 h.2
  where
    no_policy : (i : Id) → IsTrue (has tagged (e 11) i) → Names tagged DELETE i (e 9) → ⊥
    no_policy i there named =
        let same : One (e 9) ≡ i = sym (only i (One (e 9)) there) in
        let policy_is = (subst (λ j. Names tagged DELETE j (e 9)) (sym same) named).1 in
        true≢false (sym (ap (λ (x : Entity). x.index == 7) policy_is))

-- a deep Panic: c 10 is a child of g 9 and may not die while it is held, h 11 has c
abbrev guarded : WorldState
guarded = world (having [] ∷ having (Two CHILD_OF (e 9) ∷ Two ON_DELETE PANIC ∷ []) ∷ having (One (e 10) ∷ []) ∷ [])

deep : Forbids guarded (e 9 ∷ e 10 ∷ []) (e 11) (e 10)
deep = (refl, refl, refl, (One (e 10), refl, (refl, refl)))

-- h 11 has c and is a child of g as well: the only holder of c dies with it, and nothing forbids the delete
abbrev doomed_holder : WorldState
doomed_holder = world (having [] ∷ having (Two CHILD_OF (e 9) ∷ Two ON_DELETE PANIC ∷ []) ∷ having (One (e 10) ∷ Two CHILD_OF (e 9) ∷ []) ∷ [])

permitted : (m : Entity) → Forbids doomed_holder (e 9 ∷ e 10 ∷ e 11 ∷ []) (e 11) m → ⊥
permitted m f = true≢false f.1

-- R 9 takes its holders with it: h 11 has (R, t 10)
abbrev relation : WorldState
relation = world (having (Two ON_DELETE DELETE ∷ []) ∷ having [] ∷ having (Two (e 9) (e 10) ∷ []) ∷ [])

by_relationship : Doomed relation (λ x. x ≡ e 9) (e 11)
by_relationship = doomed_closed relation _ (e 9) (e 11) (root refl) (Two (e 9) (e 10), refl, inl (refl, refl))
