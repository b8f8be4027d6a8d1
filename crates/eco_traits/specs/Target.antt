-- The type that an add leads to.
use Rattle.std.specs.Prelude.{Bool, true, [], unwrap_or, ◌≡◌, ◌↔◌, ◌||◌, ◌&&◌, not, List, map, filter, fold, option_map, Option, Some}
use Rattle.std.specs.Prelude.{None, Result, Ok, Err, IsTrue, IsFalse, false, MatchBool, MatchOption, if◌then◌else◌}
use Rattle.eco_ids.specs.declared.edition.Edition.{Edition}
use Rattle.eco_ids.specs.declared.entity.Entity.{Entity}
use Rattle.eco_ids.specs.declared.entity.TheConstants.{ACYCLIC, EXCLUSIVE, SYMMETRIC, WITH}
use Rattle.eco_ids.specs.declared.id.Id.{Id}
use Rattle.eco_ids.specs.declared.id.Id.TheVariants.{One, Two}
use Rattle.eco_ids.specs.declared.refusal.Refusal.{Refusal}
use Rattle.eco_ids.specs.declared.refusal.Refusal.TheVariants.{DeadId}
use Rattle.eco_ids.specs.Edition.{has_symmetric}
use Rattle.eco_ids.specs.Lawful.{IsLawful}
use Rattle.eco_ids.specs.Order.{entity_cmp, entity_eq, has_item, id_cmp, with_item, without_item}
use Rattle.eco_ids.specs.Outcome.{is_out_of_memory}
use Rattle.eco_ids.specs.Step.{IsClosure, Judges, grown, is_replaced, is_wrong_policy, with_closure}
use Rattle.eco_ids.specs.Traits.{Reaches}
use Rattle.eco_traits.specs.Closure.{LacksWith, head_of}
use Rattle.eco_traits.specs.declared.target.Target.{Target}
use Rattle.eco_traits.specs.declared.target.Target.TheVariants.{Own, With, Instead, Other}
use Rattle.eco_ids.specs.World.{Record, WorldState, has, is_acyclic, names_living, record_of}

-- the ids of a record
abbrev pub type_of_record : Record → List Id
type_of_record r = map (λ p. p.0) r.held

-- the ids of a living entity
abbrev pub type_of_entity : WorldState → Entity → Option (List Id)
type_of_entity w e = option_map type_of_record (record_of w e)

-- all that a walk of pairs of r leads to
abbrev pub IsReach : WorldState → Entity → Entity → List Entity → Type 0
IsReach w r from members = (b : Entity) → IsTrue (has_item entity_cmp members b) ↔ Reaches w r from b

-- the new list has what the old one has, and the targets of the pairs of r among the ids
abbrev pub AppendsTargets : Entity → List Id → List Entity → List Entity → Type 0
AppendsTargets r ids old new = (b : Entity) → has_item entity_cmp new b ≡ (has_item entity_cmp old b || has_item id_cmp ids (Two r b))

-- what the closure s does not replace
abbrev pub left_by : WorldState → List Id → List Id → List Id
left_by w s ids = filter (λ i. not (is_replaced w s i)) ids

-- that, and the closure
abbrev pub extended_by : WorldState → List Id → List Id → List Id
extended_by w s ids = fold (with_item id_cmp) (left_by w s ids) s

-- the target of a pair of r
abbrev pub target_by_pair : Entity → Id → Option Entity
target_by_pair r (One e) = None
target_by_pair r (Two q t) = if entity_eq q r then Some t else None

-- the id is a pair of r, which is acyclic, and its target leads back to e
abbrev pub ClosesBy : WorldState → Entity → Id → Entity → Type 0
ClosesBy w e i r = (t : Entity) × (i ≡ Two r t) × IsTrue (is_acyclic w r) × Reaches w r t e

-- the relationship of which the id closes a cycle, where it does
abbrev pub IsClosedBy : WorldState → Entity → Id → Option Entity → Type 0
IsClosedBy w e i None = (r : Entity) → ClosesBy w e i r → ⊥
IsClosedBy w e i (Some r) = ClosesBy w e i r

-- no id is a pair of With
abbrev pub BringsNone : List Id → Type 0
BringsNone ids = (x : Entity) → IsFalse (has_item id_cmp ids (Two WITH x))

-- no id says what pairs of the relationship bring along, replace, close or mirror
abbrev pub LacksTraits : Edition → List Id → Type 0
LacksTraits edition ids =
    (has_item id_cmp ids (One EXCLUSIVE) ≡ false) × (has_item id_cmp ids (One ACYCLIC) ≡ false) × BringsNone ids
    × ((has_symmetric edition && has_item id_cmp ids (One SYMMETRIC)) ≡ false)

-- neither Exclusive nor Acyclic, nor Symmetric where the edition has it
abbrev pub IsNoTrait : Edition → Entity → Type 0
IsNoTrait edition c = (entity_eq c EXCLUSIVE ≡ false) × (entity_eq c ACYCLIC ≡ false) × ((has_symmetric edition && entity_eq c SYMMETRIC) ≡ false)

-- what the pairs of With among the ids bring is no such trait, and brings nothing more
abbrev pub BringFreely : WorldState → List Id → Type 0
BringFreely w ids = (x : Entity) → IsTrue (has_item id_cmp ids (Two WITH x)) → IsNoTrait w.edition x × LacksWith w x

-- neither is the single id, where its entity has these ids
abbrev pub ComesFreely : WorldState → Entity → List Id → Type 0
ComesFreely w c ids = IsNoTrait w.edition c × BringFreely w ids

-- none of the entities is such a trait
abbrev pub AreNoTraits : Edition → List Entity → Type 0
AreNoTraits edition entities = (x : Entity) → IsTrue (has_item entity_cmp entities x) → IsNoTrait edition x

-- the entities are all that c brings along, however far, and c, and none is such a trait
abbrev pub AreFreeHeads : WorldState → Entity → List Entity → Type 0
AreFreeHeads w c heads = IsReach w WITH c heads × AreNoTraits w.edition heads

-- c, or one of those that it brings along, however far, is such a trait
abbrev pub BringsTrait : WorldState → Entity → Type 0
BringsTrait w c = (x : Entity) × Reaches w WITH c x × (IsNoTrait w.edition x → ⊥)

-- an id that brings nothing along, replaces nothing and has no mirror, and nothing stands against it, where its entity or its
-- relationship has these ids: a single id that is no trait which may come too late, or a pair of a relationship that is
-- neither exclusive nor acyclic nor symmetric, and no wrong cleanup pair; where relationships may be symmetric, no pair of
-- With either
abbrev pub IsPlain : Edition → Id → List Id → Type 0
IsPlain edition (One c) ids = IsNoTrait edition c × BringsNone ids
IsPlain edition (Two r t) ids =
    (is_wrong_policy (Two r t) ≡ false) × LacksTraits edition ids × ((has_symmetric edition && entity_eq r WITH) ≡ false)

-- a pair (r, t) ties a symmetric relationship to another: it is one of With, and who gets it, with these ids, or t is symmetric
abbrev pub ties : WorldState → List Id → Entity → Entity → Bool
ties w own r t = (has_symmetric w.edition && entity_eq r WITH) && (has_item id_cmp own (One SYMMETRIC) || has w t (One SYMMETRIC))

-- what is asked of a world: where relationships may be symmetric, that it is in order
abbrev pub IsSound : WorldState → Type 0
IsSound w = IsTrue (has_symmetric w.edition) → IsLawful w

-- an add of i to e that is still open: e lacks i, in which each entity lives; the first ids are those that e has, and the others
-- those of the entity that says how i behaves
pub record IsOpenAdd (w : WorldState) (e : Entity) (i : Id) (own_ids head_ids : List Id) : Type 0 where
  pub lives : IsTrue (names_living w i)
  pub absent : IsFalse (has w e i)
  pub sound : IsSound w
  pub own : Some own_ids ≡ type_of_entity w e
  pub traits : Some head_ids ≡ type_of_entity w (head_of i)

-- the type that e has once the closure s came to it
abbrev pub IsTypeAfter : WorldState → Entity → List Id → Result (List Id) Refusal → Type 0
IsTypeAfter w e s r = (d : Record) × (record_of w e ≡ Some d) × (r ≡ Ok (type_of_record (with_closure w s d)))

-- the type that e has
abbrev pub IsOwnType : WorldState → Entity → Result (List Id) Refusal → Type 0
IsOwnType w e r = (d : Record) × (record_of w e ≡ Some d) × (r ≡ Ok (type_of_record d))

-- the closure of i leads to a type, or something stands against it
abbrev pub ExtendsTo : WorldState → Entity → Id → Result (List Id) Refusal → Type 0
ExtendsTo w e i r =
    (s : List Id) × IsClosure w i s × (verdict : Option Refusal) × Judges w e s (grown w e i s) verdict
    × MatchOption verdict (IsTypeAfter w e s r) (λ why. r ≡ Err why)

-- an add of i to e leads to a type, or something stands against it: an entity in the id that isn't living; e has its own
-- type where it has the id already, and else what stands against the whole closure counts
abbrev pub AddLeadsTo : WorldState → Entity → Id → Result (List Id) Refusal → Type 0
AddLeadsTo w e i r = MatchBool (names_living w i) (MatchBool (has w e i) (IsOwnType w e r) (ExtendsTo w e i r)) (r ≡ Err DeadId)

-- the answer is that type or that refusal, or memory was wanting, which is asked for only once each entity in the id lives
abbrev pub FindsType : WorldState → Entity → Id → Result (List Id) Refusal → Type 0
FindsType w e i r = MatchBool (is_out_of_memory r) (IsTrue (names_living w i)) (AddLeadsTo w e i r)

-- the ids without the one that is replaced, if one is
abbrev pub without_replaced : Option Id → List Id → List Id
without_replaced None ids = ids
without_replaced (Some old) ids = without_item id_cmp ids old

-- the one that is replaced is among the ids, if one is
abbrev pub IsAmong : List Id → Option Id → Type 0
IsAmong ids None = Unit {0}
IsAmong ids (Some old) = has_item id_cmp ids old ≡ true

-- an add of i to e, which has these ids, leads to them with i in the place of the one that is replaced, if one is
abbrev pub Replaces : WorldState → Entity → Id → List Id → Option Id → Type 0
Replaces w e i own replaced = AddLeadsTo w e i (Ok (with_item id_cmp (without_replaced replaced own) i))

-- the type that a target stands for, where an id comes to these
abbrev pub type_meant : List Id → Id → Target → List Id
type_meant own i Own = own
type_meant own i With = with_item id_cmp own i
type_meant own i (Instead old) = with_item id_cmp (without_item id_cmp own old) i
type_meant own i (Other ids) = ids

-- the target is the entity's own type
abbrev pub is_own_type : Target → Bool
is_own_type Own = true
is_own_type With = false
is_own_type (Instead old) = false
is_own_type (Other ids) = false

-- the target of an id that comes in the place of the one that is replaced, or alone
abbrev pub target_by : Option Id → Target
target_by None = With
target_by (Some old) = Instead old

-- an id that gives its place up is one that e has
abbrev pub TakesOwn : WorldState → Entity → Target → Type 0
TakesOwn w e Own = Unit {0}
TakesOwn w e With = Unit {0}
TakesOwn w e (Instead old) = has w e old ≡ true
TakesOwn w e (Other ids) = Unit {0}

-- the type that an answer stands for, or the refusal
abbrev pub type_answered : List Id → Id → Result Target Refusal → Result (List Id) Refusal
type_answered own i (Ok t) = Ok (type_meant own i t)
type_answered own i (Err why) = Err why

-- the answer stands for that type, or is that refusal
abbrev pub FindsTarget : WorldState → Entity → Id → Result Target Refusal → Type 0
FindsTarget w e i r = FindsType w e i (type_answered (unwrap_or (type_of_entity w e) []) i r)
