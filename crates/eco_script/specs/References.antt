-- What the texts of a script name.
use Rattle.std.specs.Prelude.{◌≡◌, ℕ, List, Result}
use Rattle.eco_ids.specs.declared.entity.Entity.{Entity}
use Rattle.eco_ids.specs.declared.id.Id.{Id}
use Rattle.eco_ids.specs.declared.refusal.Refusal.{Refusal}
use Rattle.eco_ids.specs.Names.{lookup}
use Rattle.eco_ids.specs.World.{WorldState}
use Rattle.eco_scan.specs.Grammar.{SpellsId, SpellsQuery, SpellsRef}
use Rattle.eco_query.specs.Queries.{QuerySlot}
use Rattle.eco_grammar.specs.Readings.{Reads, ReadsInMemory, entity_of_placed, id_of, ok_both, query_of}

-- the text, a name or a handle with white space round it, names this entity, or is refused
unfoldable pub ReadsEntity : WorldState → List ℕ → Result Entity Refusal → Type 0
ReadsEntity w text = Reads SpellsRef (entity_of_placed (lookup w)) text

-- the text, an entity or a pair of two with white space round it, names this id, or is refused
unfoldable pub ReadsId : WorldState → List ℕ → Result Id Refusal → Type 0
ReadsId w text = Reads SpellsId (id_of (lookup w)) text

-- the text, slots joined by commas, spells this query, or is refused; memory may be wanting for what would be read else
unfoldable pub ReadsQuery : WorldState → List ℕ → Result (List QuerySlot) Refusal → Type 0
ReadsQuery w text = ReadsInMemory SpellsQuery (query_of (lookup w)) text

-- the texts name an entity and an id; else the answer is the refusal of the first that is refused
abbrev pub ReadsBoth : WorldState → List ℕ → List ℕ → Result (Entity × Id) Refusal → Type 0
ReadsBoth w e i r =
    (x : Result Entity Refusal) × (y : Result Id Refusal) × ReadsEntity w e x × ReadsId w i y × (r ≡ ok_both (λ a b. (a, b)) x y)
