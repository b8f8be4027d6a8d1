-- What forbids a delete, as it is found: table by table, each type judged once.
use Rattle.std.specs.Prelude.{Bool, not, ◌&&◌, List, fold, Option, None, Some, Result, Ok, Err, if◌then◌else◌}
use Rattle.std.specs.Ordering.{on, then_cmp}
use Rattle.std.specs.declared.cmp.Ordering.{Ordering}
use Rattle.eco_ids.specs.declared.entity.Entity.{Entity}
use Rattle.eco_ids.specs.declared.entity.TheConstants.{ON_DELETE, ON_DELETE_TARGET, PANIC}
use Rattle.eco_ids.specs.declared.id.Id.{Id}
use Rattle.eco_ids.specs.declared.id.Id.TheVariants.{One, Two}
use Rattle.eco_ids.specs.Cleanup.{Forbids, ForbidsFirst, policy}
use Rattle.eco_ids.specs.declared.refusal.Refusal.{Refusal}
use Rattle.eco_ids.specs.declared.refusal.Refusal.TheVariants.{OutOfMemory, Panic}
use Rattle.eco_ids.specs.Order.{entity_cmp, entity_eq, has_item}
use Rattle.eco_ids.specs.World.{WorldState}
use Rattle.eco_tables.specs.Table.{TableState, entities_of}
use Rattle.eco_tables.specs.Tables.{table_in}
use Rattle.eco_traits.specs.Firsts.{counted, former}
use Rattle.eco_traits.specs.Nodes.{is_falling, taken_among}
use Rattle.eco_traits.specs.declared.node.Node.{Node}
use Rattle.eco_traits.specs.declared.node.Node.TheVariants.{Root, Falling, Named}
use Rattle.eco_traits.specs.declared.objection.Objection.{Objection}

-- by holder, then by member
abbrev pub objection_cmp : Objection → Objection → Ordering
objection_cmp = then_cmp (on (λ o. o.holder) entity_cmp) (on (λ o. o.member) entity_cmp)

module _ (w : WorldState) (dead : List Entity) where
  -- the entity dies, and the owner's policy under the condition is Panic
  abbrev pub protects : Entity → Entity → Entity → Bool
  protects m owner condition = has_item entity_cmp dead m && entity_eq (policy w owner condition) PANIC

  -- the least of the first and of the dead that the id names under the policy Panic
  abbrev pub named_first : Option Entity → Id → Option Entity
  named_first first (One x) = former entity_cmp first (counted x (protects x x ON_DELETE))
  named_first first (Two r t) =
      former entity_cmp (former entity_cmp first (counted r (protects r r ON_DELETE))) (counted t (protects t r ON_DELETE_TARGET))

  -- the least of the dead that one of the ids names so
  abbrev pub first_protected : List Id → Option Entity
  first_protected ids = fold named_first None ids

  -- a holder and one of the dead, where there are both
  abbrev pub objection : Option Entity → Option Entity → Option Objection
  objection None m = None
  objection (Some h) None = None
  objection (Some h) (Some m) = Some (record { holder = h; member = m })

-- the least of the entities that do not die
abbrev pub first_outside : List Entity → List Entity → Option Entity
first_outside dead es = fold (λ first e. former entity_cmp first (counted e (not (has_item entity_cmp dead e)))) None es

module _ (w : WorldState) where
  -- the least objection of a table
  abbrev pub objection_at : List Entity → TableState → Option Objection
  objection_at dead t = objection w dead (first_outside dead (entities_of t.rows)) (first_protected w dead t.ids)

  -- only a table that names one who dies and does not fall may have one
  abbrev pub objection_of : List (Option TableState) → List Node → Node → Option Objection
  objection_of slots nodes (Root e) = None
  objection_of slots nodes (Falling n) = None
  objection_of slots nodes (Named n) = if is_falling nodes n then None else objection_at (taken_among slots nodes) (table_in slots n)

  -- the least of all
  abbrev pub first_objection : List (Option TableState) → List Node → Option Objection
  first_objection slots nodes = fold (λ first node. former objection_cmp first (objection_of slots nodes node)) None nodes

-- nobody forbids the delete of these members, or who forbids it first
abbrev pub JudgesDelete : WorldState → List Entity → Option Objection → Type 0
JudgesDelete w members None = (h m : Entity) → Forbids w members h m → ⊥
JudgesDelete w members (Some o) = ForbidsFirst w members o.holder o.member

-- the answer: nobody forbids it, or it is refused for who forbids it first, or for want of memory
abbrev pub AnswersDelete : {A : Type 0} → WorldState → List Entity → Result A Refusal → Type 0
AnswersDelete w members (Ok done) = (h m : Entity) → Forbids w members h m → ⊥
AnswersDelete w members (Err (Panic h m)) = ForbidsFirst w members h m
AnswersDelete w members (Err OutOfMemory) = Unit {0}
AnswersDelete w members (Err _) = ⊥
