-- Worked rows: what With brings, and a walk that would close a cycle.
use Rattle.eco_ids.proofs.Facts.{only}
use Rattle.eco_ids.proofs.MirrorRows.{alone, lone_pair, pair_added}
use Rattle.eco_ids.proofs.Common.{◌≡◌, [], ◌∷◌, IsTrue, Some, None, Err, sym, refl, subst, true≢false, is_le, Entity, WITH, CHILD_OF, Id, Two}
use Rattle.eco_ids.proofs.Common.{One, Cycle, root, next, entity_cmp, Adds, IsClosure, with_closure, ClosesCycle, InClosure, Reaches}
use Rattle.eco_ids.proofs.Common.{Brings, WorldState, zeros, Ok, has, ap, unchanged, ◌==◌}
use Rattle.eco_ids.proofs.Worlds.{e, having, world}
use Rattle.eco_ids.proofs.Gains.{same_relationship, same_target}

-- Power 9 goes with Resp 10, Loves 11 with Likes 12; Pears 13, e 14
abbrev liking : WorldState
liking = world (having (Two WITH (e 10) ∷ []) ∷ having [] ∷ having (Two WITH (e 12) ∷ []) ∷ having [] ∷ having [] ∷ having [] ∷ [])

power : InClosure liking (One (e 9)) (One (e 10))
power = next (root refl) refl

loves : InClosure liking (Two (e 11) (e 13)) (Two (e 12) (e 13))
loves = next (root refl) (refl, refl)

-- the target's With brings nothing
pears : Brings liking (Two (e 13) (e 11)) (Two (e 13) (e 12)) → ⊥
pears h = true≢false (sym h.0)

with_both : with_closure liking (One (e 9) ∷ One (e 10) ∷ []) (record { name = None; arity = None; held = [] }) ≡
    record { name = None; arity = None; held = (One (e 9), zeros) ∷ (One (e 10), zeros) ∷ [] }
with_both = refl

-- A 9 goes with B 10, and B with C 11: two levels
abbrev levels : WorldState
levels = world (having (Two WITH (e 10) ∷ []) ∷ having (Two WITH (e 11) ∷ []) ∷ having [] ∷ [])

two_levels : InClosure levels (One (e 9)) (One (e 11))
two_levels = next {a = One (e 10)} (next (root refl) refl) refl

-- a ring of With: A 9 goes with B 10, and B with A
abbrev ring : WorldState
ring = world (having (Two WITH (e 10) ∷ []) ∷ having (Two WITH (e 9) ∷ []) ∷ [])

ring_there : InClosure ring (One (e 9)) (One (e 10))
ring_there = next (root refl) refl

ring_back : InClosure ring (One (e 9)) (One (e 9))
ring_back = next ring_there refl

-- a 9 is a child of b 10, b of c 11: c can't be a child of a
abbrev family : WorldState
family = world (having (Two CHILD_OF (e 10) ∷ []) ∷ having (Two CHILD_OF (e 11) ∷ []) ∷ having [] ∷ [])

abbrev wanted : Id
wanted = Two CHILD_OF (e 9)

up : Reaches family CHILD_OF (e 9) (e 11)
up = next {a = e 10} (next (root refl) refl) refl

-- ChildOf goes with nothing
closure : IsClosure family wanted (wanted ∷ [])
closure = alone family wanted refl (lone_pair family CHILD_OF (e 9) (λ x. refl))

closes : ClosesCycle family (e 11) (wanted ∷ []) CHILD_OF
closes = (refl, e 9, refl, up)

least : (q : Entity) → ClosesCycle family (e 11) (wanted ∷ []) q → IsTrue (is_le (entity_cmp CHILD_OF q))
least q c = subst (λ r. IsTrue (is_le (entity_cmp CHILD_OF r))) (same_relationship (only wanted (Two q c.1) c.2)) refl

cycle : Adds family (e 11) wanted (Err (Cycle CHILD_OF)) family
cycle = (wanted ∷ [], closure, Some (Cycle CHILD_OF), (Some CHILD_OF, (closes, least), refl), (refl, refl))

-- a 9 becomes a child of b 10, who has no pair: an acyclic pair that closes no cycle
abbrev couple : WorldState
couple = world (having [] ∷ having [] ∷ [])

abbrev parent : Id
parent = Two CHILD_OF (e 10)

-- a walk from b leads nowhere
stays : (x : Entity) → Reaches couple CHILD_OF (e 10) x → x ≡ e 10
stays x (root at) = at
stays x (next {a = a} before leads) = absurd (true≢false (sym (subst (λ c. IsTrue (has couple c (Two CHILD_OF x))) (stays a before) leads)))

calm : (r : Entity) → ClosesCycle couple (e 9) (parent ∷ []) r → ⊥
calm r c =
    let same : parent ≡ Two r c.1 = only parent (Two r c.1) c.2 in
    let walk = subst (λ q. Reaches couple q (e 10) (e 9)) (sym (same_relationship same)) (subst (λ t. Reaches couple r t (e 9)) (sym (same_target same)) c.3) in
    true≢false (sym (ap (λ (x : Entity). x.index == 10) (stays (e 9) walk)))

child : Adds couple (e 9) parent (Ok tt) (world (having (parent ∷ []) ∷ having [] ∷ []))
child = pair_added couple (e 9) unchanged None (Ok tt) (world (having (parent ∷ []) ∷ having [] ∷ [])) CHILD_OF (e 10) (λ x. refl) (None, calm, refl) (refl, refl)
