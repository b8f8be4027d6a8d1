-- Worked rows of the second edition, computed.
use Rattle.eco_ids.proofs.Facts.{only}
use Rattle.eco_ids.proofs.Gains.{same_relationship}
use Rattle.eco_ids.proofs.Common.{Judges, grown, changed, Answers, Refuses, unchanged, with_value, MatchOption, Extends, Option, Result, Refusal}
use Rattle.eco_ids.proofs.Common.{◌≡◌, ℕ, false, map, refl, sym, ap, subst, true≢false, IsTrue, IsFalse, List, [], ◌∷◌, ◌++◌, Some, None, Ok, Err, ◌||◌}
use Rattle.eco_ids.proofs.Common.{inr, pos, codes}
use Rattle.eco_ids.specs.declared.edition.Edition.TheVariants.{First, Second}
use Rattle.eco_ids.specs.declared.entity.Entity.{Entity}
use Rattle.eco_ids.specs.declared.entity.TheConstants.{EXCLUSIVE, ACYCLIC, SYMMETRIC, WITH, ON_DELETE, ON_DELETE_TARGET, DELETE, PANIC}
use Rattle.eco_ids.specs.declared.id.Id.{Id}
use Rattle.eco_ids.specs.declared.id.Id.TheVariants.{One, Two}
use Rattle.eco_ids.specs.declared.refusal.Refusal.TheVariants.{InUse, Reserved, TooWide, TraitClash, NoMoreIds}
use Rattle.eco_ids.specs.declared.value.Value.{Value}
use Rattle.eco_ids.specs.Births.{Creates, MakesComponent}
use Rattle.eco_ids.specs.Cleanup.{Doomed, HoldsOn, after_delete}
use Rattle.eco_ids.specs.Indices.{IndexState, Free, Living}
use Rattle.eco_ids.specs.Least.{root, next}
use Rattle.eco_ids.specs.Order.{id_cmp, id_eq, has_item}
use Rattle.eco_ids.specs.Step.{Adds, Sets, Removes, Clears, RemovesAll, IsClosure, ClosesCycle}
use Rattle.eco_ids.specs.Traits.{Brings, InClosure}
use Rattle.eco_ids.specs.World.{WorldState, Record, world_of_edition, zeros, has, is_acyclic, held_by}
use Rattle.eco_ids.proofs.Facts.{id_eq_itself, not_both}

-- ---- closures of one id

pub alone : (w : WorldState) (i : Id) → IsTrue (id_eq i i) → ((k : Id) → Brings w i k → ⊥) → IsClosure w i (i ∷ [])
alone w i self none = record { ascending = refl; exact = λ j. (inside j, outside j) }
  where
    inside : (j : Id) → IsTrue (has_item id_cmp (i ∷ []) j) → InClosure w i j
    inside j h = root (sym (only i j h))

    here : IsTrue (has_item id_cmp (i ∷ []) i)
    here = ap (λ b. b || false) self

    outside : (j : Id) → InClosure w i j → IsTrue (has_item id_cmp (i ∷ []) j)
    outside j (root at) = subst (λ k. IsTrue (has_item id_cmp (i ∷ []) k)) (sym at) here
    outside j (next {a = a} before b) = absurd (none j (subst (λ k. Brings w k j) (sym (only i a (outside a before))) b))

pub lone_pair : (w : WorldState) (r t : Entity) → ((x : Entity) → IsFalse (has w r (Two WITH x))) → (k : Id) → Brings w (Two r t) k → ⊥
lone_pair w r t none (One x) b = absurd b
lone_pair w r t none (Two x u) b = not_both b.0 (none x)

lone_single : (w : WorldState) (c : Entity) → ((x : Entity) → IsFalse (has w c (Two WITH x))) → (k : Id) → Brings w (One c) k → ⊥
lone_single w c none (One x) b = not_both b (none x)
lone_single w c none (Two x u) b = absurd b

calm_pair : (w : WorldState) (e q u : Entity) → IsFalse (is_acyclic w q) → (r : Entity) → ClosesCycle w e (Two q u ∷ []) r → ⊥
calm_pair w e q u free r c = not_both (subst (λ x. IsTrue (is_acyclic w x)) (sym (same_relationship (only (Two q u) (Two r c.1) c.2))) c.0) free

calm_single : (w : WorldState) (e s r : Entity) → ClosesCycle w e (One s ∷ []) r → ⊥
calm_single w e s r c = true≢false (sym c.2)

-- an add of a pair, or of a single id, that brings nothing with it
module _ (w : WorldState) (x : Entity) (besides : Record → Record) (verdict : Option Refusal) (r : Result (Unit {0}) Refusal) (new : WorldState) where
  abbrev IsAdded : Id → Type 0
  IsAdded i = Judges w x (i ∷ []) (grown w x i (i ∷ [])) verdict
      → MatchOption verdict (Answers tt (changed (grown w x i (i ∷ [])) x besides) r new) (λ why. Refuses why w r new) → Extends w x i besides r new

  pub pair_added : (q u : Entity) → ((y : Entity) → IsFalse (has w q (Two WITH y))) → IsAdded (Two q u)
  pair_added q u none judged ends = (Two q u ∷ [], alone w (Two q u) (id_eq_itself (Two q u)) (lone_pair w q u none), verdict, judged, ends)

  single_added : (c : Entity) → ((y : Entity) → IsFalse (has w c (Two WITH y))) → IsAdded (One c)
  single_added c none judged ends = (One c ∷ [], alone w (One c) (id_eq_itself (One c)) (lone_single w c none), verdict, judged, ends)

-- ---- worlds

abbrev e : ℕ → Entity
e n = record { index = n; generation = 0 }

abbrev having : List Id → IndexState Record
having ids = Living 0 (record { name = None; arity = None; held = map (λ i. (i, zeros)) ids })

abbrev second : List (IndexState Record) → WorldState
second made = record { edition = Second; limit = 64; indices = (world_of_edition Second 64).indices ++ made; queries = [] }

-- Friend 10, a 11, b 12, c 13
abbrev four : List Id → List Id → List Id → List Id → WorldState
four ofF ofA ofB ofC = second (having ofF ∷ having ofA ∷ having ofB ∷ having ofC ∷ [])

abbrev S : List Id
S = One SYMMETRIC ∷ []

abbrev with : ℕ → Id
with n = Two (e 10) (e n)

abbrev begun : WorldState
begun = four S [] [] []

-- each row begins with: add Friend Symmetric, `ok`
begin : Adds (four [] [] [] []) (e 10) (One SYMMETRIC) (Ok tt) begun
begin =
    single_added (four [] [] [] []) (e 10) unchanged None (Ok tt) begun SYMMETRIC
    (λ x. refl) (None, calm_single (four [] [] [] []) (e 10) SYMMETRIC, refl) (refl, refl)

-- ---- row 1
abbrev ab : WorldState
ab = four S (with 12 ∷ []) (with 11 ∷ []) []

row1_add : Adds begun (e 11) (with 12) (Ok tt) ab
row1_add =
    pair_added begun (e 11) unchanged None (Ok tt) ab (e 10) (e 12)
    (λ x. refl) (None, calm_pair begun (e 11) (e 10) (e 12) refl, refl) (refl, refl)

row1_show_b : held_by ab (e 12) ≡ (with 11, zeros) ∷ []
row1_show_b = refl

row1_remove : Removes ab (e 12) (with 11) (Ok tt) begun
row1_remove = (refl, refl)

-- a pair with itself is its own mirror
row1_self : Adds begun (e 11) (with 11) (Ok tt) (four S (with 11 ∷ []) [] [])
row1_self =
    pair_added begun (e 11) unchanged None (Ok tt) (four S (with 11 ∷ []) [] []) (e 10) (e 11)
    (λ x. refl) (None, calm_pair begun (e 11) (e 10) (e 11) refl, refl) (refl, refl)

row1_unself : Removes (four S (with 11 ∷ []) [] []) (e 11) (with 11) (Ok tt) begun
row1_unself = (refl, refl)

-- ---- row 2
row2_exclusive : Adds begun (e 10) (One EXCLUSIVE) (Err TraitClash) begun
row2_exclusive =
    single_added begun (e 10) unchanged (Some TraitClash) (Err TraitClash) begun EXCLUSIVE
    (λ x. refl) (None, calm_single begun (e 10) EXCLUSIVE, refl) (refl, refl)

row2_target : Adds begun (e 11) (Two WITH (e 10)) (Err TraitClash) begun
row2_target =
    pair_added begun (e 11) unchanged (Some TraitClash) (Err TraitClash) begun WITH (e 10)
    (λ x. refl) (None, calm_pair begun (e 11) WITH (e 10) refl, refl) (refl, refl)

row2_with : Adds begun (e 10) (Two WITH (e 11)) (Err TraitClash) begun
row2_with =
    pair_added begun (e 10) unchanged (Some TraitClash) (Err TraitClash) begun WITH (e 11)
    (λ x. refl) (None, calm_pair begun (e 10) WITH (e 11) refl, refl) (refl, refl)

abbrev acyclic_b : WorldState
acyclic_b = four S [] (One ACYCLIC ∷ []) []

row2_acyclic : Adds begun (e 12) (One ACYCLIC) (Ok tt) acyclic_b
row2_acyclic =
    single_added begun (e 12) unchanged None (Ok tt) acyclic_b ACYCLIC
    (λ x. refl) (None, calm_single begun (e 12) ACYCLIC, refl) (refl, refl)

row2_symmetric : Adds acyclic_b (e 12) (One SYMMETRIC) (Err TraitClash) acyclic_b
row2_symmetric =
    single_added acyclic_b (e 12) unchanged (Some TraitClash) (Err TraitClash) acyclic_b SYMMETRIC
    (λ x. refl) (None, calm_single acyclic_b (e 12) SYMMETRIC, refl) (refl, refl)

row2_reserved : Adds acyclic_b (e 11) (Two (e 10) DELETE) (Err Reserved) acyclic_b
row2_reserved = (refl, refl)

row2_set_reserved : Sets acyclic_b (e 11) (Two (e 10) DELETE) zeros (Err Reserved) acyclic_b
row2_set_reserved = (refl, refl)

-- ---- row 3
row3_acyclic : Adds ab (e 10) (One ACYCLIC) (Err InUse) ab
row3_acyclic = (One ACYCLIC ∷ [], alone ab (One ACYCLIC) refl (lone_single ab ACYCLIC (λ x. refl)), Some InUse, refl, (refl, refl))

abbrev freed : WorldState
freed = four [] (with 12 ∷ []) (with 11 ∷ []) []

row3_off : Removes ab (e 10) (One SYMMETRIC) (Ok tt) freed
row3_off = (refl, refl)

row3_again : Adds freed (e 10) (One SYMMETRIC) (Err InUse) freed
row3_again = (One SYMMETRIC ∷ [], alone freed (One SYMMETRIC) refl (lone_single freed SYMMETRIC (λ x. refl)), Some InUse, refl, (refl, refl))

-- no longer symmetric: the mirror stays
row3_plain : Removes freed (e 11) (with 12) (Ok tt) (four [] [] (with 11 ∷ []) [])
row3_plain = (refl, refl)

-- ---- row 4
abbrev three : WorldState
three = four S (with 12 ∷ with 13 ∷ []) (with 11 ∷ []) (with 11 ∷ [])

row4_add : Adds ab (e 13) (with 11) (Ok tt) three
row4_add =
    pair_added ab (e 13) unchanged None (Ok tt) three (e 10) (e 11)
    (λ x. refl) (None, calm_pair ab (e 13) (e 10) (e 11) refl, refl) (refl, refl)

row4_clear : Clears three (e 11) (Ok tt) begun
row4_clear = (refl, refl)

-- clearing the relationship itself takes Symmetric from it, and no mirror of others' pairs
row4_clear_friend : Clears three (e 10) (Ok tt) (four [] (with 12 ∷ with 13 ∷ []) (with 11 ∷ []) (with 11 ∷ []))
row4_clear_friend = (refl, refl)

-- remove_all of a pair takes the mirrors from its target
row4_remove_all : RemovesAll three (with 11) (Ok tt) begun
row4_remove_all = (refl, refl)

-- ---- row 5
abbrev F : List Id
F = One SYMMETRIC ∷ Two ON_DELETE_TARGET DELETE ∷ []

row5_policy : Adds begun (e 10) (Two ON_DELETE_TARGET DELETE) (Ok tt) (four F [] [] [])
row5_policy =
    pair_added begun (e 10) unchanged None (Ok tt) (four F [] [] []) ON_DELETE_TARGET DELETE
    (λ x. refl) (None, calm_pair begun (e 10) ON_DELETE_TARGET DELETE refl, refl) (refl, refl)

abbrev chain : WorldState
chain = four F (with 12 ∷ []) (with 11 ∷ with 13 ∷ []) (with 12 ∷ [])

abbrev before : WorldState
before = four F (with 12 ∷ []) (with 11 ∷ []) []

row5_add : Adds (four F (with 12 ∷ []) (with 11 ∷ []) []) (e 12) (with 13) (Ok tt) chain
row5_add =
    pair_added before (e 12) unchanged None (Ok tt) chain (e 10) (e 13)
    (λ x. refl) (None, calm_pair before (e 12) (e 10) (e 13) refl, refl) (refl, refl)

holds_b : HoldsOn chain DELETE (e 11) (e 12)
holds_b = (with 11, refl, inr (refl, refl))

holds_c : HoldsOn chain DELETE (e 12) (e 13)
holds_c = (with 12, refl, inr (refl, refl))

row5_doomed : Doomed chain (λ x. x ≡ e 11) (e 13)
row5_doomed = next {a = e 12} (next {a = e 11} (root refl) holds_b) holds_c

row5_dead : after_delete chain (e 11 ∷ e 12 ∷ e 13 ∷ []) ≡ second (having F ∷ Free 1 ∷ Free 1 ∷ Free 1 ∷ [])
row5_dead = refl

-- ---- values aren't mirrored: Likes 10 with two fields, symmetric; a 11, b 12
abbrev value : List ℕ → Value
value ns = record { 0 = map pos ns }

abbrev numbered : List (Id × Value) → List (Id × Value) → WorldState
numbered ofA ofB = second (Living 0 (record { name = None; arity = Some 2; held = (One SYMMETRIC, zeros) ∷ [] }) ∷ Living 0
    (record { name = None; arity = None; held = ofA }) ∷ Living 0 (record { name = None; arity = None; held = ofB }) ∷ [])

set_mirrored : Sets (numbered [] []) (e 11) (with 12) (value (7 ∷ 0 ∷ 0 ∷ 0 ∷ 0 ∷ 0 ∷ 0 ∷ 0 ∷ [])) (Ok tt)
    (numbered ((with 12, value (7 ∷ 0 ∷ 0 ∷ 0 ∷ 0 ∷ 0 ∷ 0 ∷ 0 ∷ [])) ∷ []) ((with 11, zeros) ∷ []))
set_mirrored =
    pair_added (numbered [] []) (e 11) (with_value (with 12) (value (7 ∷ 0 ∷ 0 ∷ 0 ∷ 0 ∷ 0 ∷ 0 ∷ 0 ∷ []))) None (Ok tt)
    (numbered ((with 12, value (7 ∷ 0 ∷ 0 ∷ 0 ∷ 0 ∷ 0 ∷ 0 ∷ 0 ∷ [])) ∷ []) ((with 11, zeros) ∷ [])) (e 10) (e 12)
    (λ x. refl) (None, calm_pair (numbered [] []) (e 11) (e 10) (e 12) refl, refl) (refl, refl)

-- ---- eight fields
abbrev eight : Value
eight = value (1 ∷ 2 ∷ 3 ∷ 4 ∷ 5 ∷ 6 ∷ 7 ∷ 8 ∷ [])

abbrev M : ℕ → IndexState Record
M n = Living 0 (record { name = Some (codes "M"); arity = Some n; held = (Two ON_DELETE PANIC, zeros) ∷ [] })

abbrev one : List (Id × Value) → IndexState Record
one held = Living 0 (record { name = Some (codes "e"); arity = None; held = held })

fields_component : MakesComponent (world_of_edition Second 64) (Some (codes "M")) 8 (Ok (e 10)) (second (M 8 ∷ []))
fields_component = (record { limit = 64; indices = (second (M 8 ∷ [])).indices }, (refl, refl), refl)

fields_create : Creates (second (M 8 ∷ [])) (Some (codes "e")) (Ok (e 11)) (second (M 8 ∷ one [] ∷ []))
fields_create = (record { limit = 64; indices = (second (M 8 ∷ one [] ∷ [])).indices }, (refl, refl), refl)

abbrev unset : WorldState
unset = second (M 8 ∷ one [] ∷ [])

fields_set : Sets (second (M 8 ∷ one [] ∷ [])) (e 11) (One (e 10)) eight (Ok tt) (second (M 8 ∷ one ((One (e 10), eight) ∷ []) ∷ []))
fields_set =
    single_added unset (e 11) (with_value (One (e 10)) eight) None (Ok tt) (second (M 8 ∷ one ((One (e 10), eight) ∷ []) ∷ [])) (e 10)
    (λ x. refl) (None, calm_single unset (e 11) (e 10), refl) (refl, refl)

fields_wide : Sets (second (M 5 ∷ one [] ∷ [])) (e 11) (One (e 10)) eight (Err TooWide) (second (M 5 ∷ one [] ∷ []))
fields_wide = (refl, refl)

full : Creates (world_of_edition Second 10) None (Err NoMoreIds) (world_of_edition Second 10)
full = (record { limit = 10; indices = (world_of_edition Second 10).indices }, (refl, refl), refl)

-- ---- in a world of the first edition #9.0 is anybody: no mirror
abbrev first : List (IndexState Record) → WorldState
first made = record { edition = First; limit = 64; indices = (world_of_edition First 64).indices ++ made; queries = [] }

first_plain : Removes (first (having [] ∷ having S ∷ having (with 12 ∷ []) ∷ having (with 11 ∷ []) ∷ [])) (e 11) (with 12) (Ok tt)
    (first (having [] ∷ having S ∷ having [] ∷ having (with 11 ∷ []) ∷ []))
first_plain = (refl, refl)

first_created : Creates (first []) None (Ok (e 9)) (first (having [] ∷ []))
first_created = (_, (refl, refl), refl)
