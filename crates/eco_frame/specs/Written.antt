-- Whether one of some patterns overlaps a read, as keys tell.
use Rattle.std.specs.Prelude.{◌≡◌, Bool, false, ◌||◌, [], ◌∷◌, ◌++◌, Option, Some, None}
use Rattle.std.specs.List.{list_any}
use Rattle.eco_ids.specs.declared.entity.Entity.{Entity}
use Rattle.eco_ids.specs.declared.id.Id.TheVariants as id
use Rattle.eco_ids.specs.declared.pattern.Pattern.{Pattern}
use Rattle.eco_ids.specs.declared.pattern.Pattern.TheVariants.{One, Two}
use Rattle.eco_ids.specs.Matching.{pattern_overlaps}
use Rattle.eco_ids.specs.Order.{entity_cmp, has_item, id_cmp}
use Rattle.eco_query.specs.Queries.{has_any}
use Rattle.eco_frame.specs.Keys.{IsNoted, part_entity}
use Rattle.eco_frame.specs.declared.written.Written.{Written}

-- a read of pairs, by the entities that it names: one pair, the pairs of one relationship, those with one target, all pairs
abbrev pub overlaps_pairs : Written → Option Entity → Option Entity → Bool
overlaps_pairs s (Some r) (Some t) = has_item id_cmp s.ids.keys (id.Two r t) || has_item entity_cmp s.wide.keys r
overlaps_pairs s (Some r) None = has_item entity_cmp s.relationships.keys r
overlaps_pairs s None (Some t) = has_item entity_cmp s.targets.keys t || has_any s.wide.keys
overlaps_pairs s None None = has_any s.relationships.keys

abbrev pub overlaps : Written → Pattern → Bool
overlaps s (One e) = has_item id_cmp s.ids.keys (id.One e)
overlaps s (Two p q) = overlaps_pairs s (part_entity p) (part_entity q) || list_any (λ w. pattern_overlaps w (Two p q)) s.wild.items

-- nothing was put in
abbrev pub IsNothing : Written → Type 0
IsNothing s = (read : Pattern) → overlaps s read ≡ false

-- a single was put in
pub record HasSingle (old : Written) (e : Entity) (new : Written) : Type 0 where
  pub ids : IsNoted id_cmp old.ids.keys (id.One e) new.ids.keys
  pub wide : new.wide.keys ≡ old.wide.keys
  pub relationships : new.relationships.keys ≡ old.relationships.keys
  pub targets : new.targets.keys ≡ old.targets.keys
  pub wild : new.wild.items ≡ old.wild.items

-- a pair was put in
pub record HasPair (old : Written) (r t : Entity) (new : Written) : Type 0 where
  pub ids : IsNoted id_cmp old.ids.keys (id.Two r t) new.ids.keys
  pub wide : new.wide.keys ≡ old.wide.keys
  pub relationships : IsNoted entity_cmp old.relationships.keys r new.relationships.keys
  pub targets : IsNoted entity_cmp old.targets.keys t new.targets.keys
  pub wild : new.wild.items ≡ old.wild.items

-- all pairs of a relationship were put in
pub record HasAllPairs (old : Written) (r : Entity) (new : Written) : Type 0 where
  pub ids : new.ids.keys ≡ old.ids.keys
  pub wide : IsNoted entity_cmp old.wide.keys r new.wide.keys
  pub relationships : IsNoted entity_cmp old.relationships.keys r new.relationships.keys
  pub targets : new.targets.keys ≡ old.targets.keys
  pub wild : new.wild.items ≡ old.wild.items

abbrev pub HasPairs : Written → Entity → Option Entity → Written → Type 0
HasPairs old r (Some t) new = HasPair old r t new
HasPairs old r None new = HasAllPairs old r new

-- pairs of any relationship were put in
pub record HasWild (old : Written) (p : Pattern) (new : Written) : Type 0 where
  pub ids : new.ids.keys ≡ old.ids.keys
  pub wide : new.wide.keys ≡ old.wide.keys
  pub relationships : new.relationships.keys ≡ old.relationships.keys
  pub targets : new.targets.keys ≡ old.targets.keys
  pub wild : new.wild.items ≡ old.wild.items ++ p ∷ []
