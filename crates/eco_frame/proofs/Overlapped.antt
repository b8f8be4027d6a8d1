-- Patterns that are put in one by one, by keys.
use Rattle.eco_frame.proofs.BatchesCommon.{◌≡◌, Bool, true, false, ◌||◌, ◌&&◌, List, [], ◌∷◌, refl, sym, ap, ◌∙◌, Ordering, Less, Equal}
use Rattle.eco_frame.proofs.BatchesCommon.{Greater, is_eq, Option, Some, None, list_any, ordering_then, list_any-append, same_Some, none-some, Entity, Part, Is}
use Rattle.eco_frame.proofs.BatchesCommon.{Each, Any, Pattern, One, Two, pattern_overlaps, has_any, part_entity, overlaps, overlaps_pairs, HasAllPairs, HasPair}
use Rattle.eco_frame.proofs.BatchesCommon.{HasPairs, HasSingle, HasWild, IsNothing, and-true, or-false, or-true, or_assoc, IsNoted}
use Rattle.eco_ids.specs.Order.{entity_cmp, entity_eq, has_item, id_cmp, id_eq}
use Rattle.eco_frame.specs.declared.written.Written.{Written}
use Rattle.eco_ids.specs.declared.id.Id.TheVariants as id

-- what is new comes last
last_of_two : (a e x : Bool) → ((a || e) || x) ≡ ((a || x) || e)
last_of_two true e x = refl
last_of_two false true x = sym (or-true x)
last_of_two false false x = sym (or-false x)

last_of_three : (a e w x : Bool) → (((a || e) || w) || x) ≡ (((a || w) || x) || e)
last_of_three true e w x = refl
last_of_three false true w x = sym (or-true (w || x))
last_of_three false false w x = sym (or-false (w || x))

second_last : (a w e x : Bool) → ((a || (w || e)) || x) ≡ (((a || w) || x) || e)
second_last true w e x = refl
second_last false w e x = last_of_two w e x

pair_eq : (r t u v : Entity) → id_eq (id.Two r t) (id.Two u v) ≡ (entity_eq r u && entity_eq t v)
pair_eq r t u v = by (entity_cmp r u) (entity_cmp t v)
  where
    by : (a b : Ordering) → is_eq (ordering_then a b) ≡ (is_eq a && is_eq b)
    by Less b = refl
    by Equal b = refl
    by Greater b = refl

abbrev among : List Pattern → Pattern → Bool
among patterns read = list_any (λ p. pattern_overlaps p read) patterns

-- nothing overlaps where there are no keys
pub nothing : (s : Written) → s.ids.keys ≡ [] → s.wide.keys ≡ [] → s.relationships.keys ≡ [] → s.targets.keys ≡ [] → s.wild.items ≡ []
    → IsNothing s
nothing s ids wide relationships targets wild (One e) = ap (λ k. has_item id_cmp k (id.One e)) ids
nothing s ids wide relationships targets wild (Two p q) = λ i. pairs (part_entity p) (part_entity q) i || among (wild i) (Two p q)
  where
    pairs : (a b : Option Entity) → overlaps_pairs s a b ≡ false
    pairs (Some r) (Some t) = λ i. has_item id_cmp (ids i) (id.Two r t) || has_item entity_cmp (wide i) r
    pairs (Some r) None = ap (λ k. has_item entity_cmp k r) relationships
    pairs None (Some t) = λ i. has_item entity_cmp (targets i) t || has_any (wide i)
    pairs None None = ap has_any relationships

module _ (s s' : Written) where
  same_pairs : ((r t : Entity) → has_item id_cmp s'.ids.keys (id.Two r t) ≡ has_item id_cmp s.ids.keys (id.Two r t)) → s'.wide.keys ≡ s.wide.keys
      → s'.relationships.keys ≡ s.relationships.keys → s'.targets.keys ≡ s.targets.keys → (a b : Option Entity)
      → overlaps_pairs s' a b ≡ overlaps_pairs s a b
  same_pairs ids wide relationships targets (Some r) (Some t) = λ i. ids r t i || has_item entity_cmp (wide i) r
  same_pairs ids wide relationships targets (Some r) None = ap (λ k. has_item entity_cmp k r) relationships
  same_pairs ids wide relationships targets None (Some t) = λ i. has_item entity_cmp (targets i) t || has_any (wide i)
  same_pairs ids wide relationships targets None None = ap has_any relationships

  pub single_more : (e : Entity) → HasSingle s e s' → (read : Pattern) → overlaps s' read ≡ (overlaps s read || pattern_overlaps (One e) read)
  single_more e h (One f) = h.ids.members (id.One f)
  single_more e h (Two p q) =
      (λ i. same_pairs (λ r t. h.ids.members (id.Two r t)
      ∙ or-false _) h.wide h.relationships h.targets (part_entity p) (part_entity q) i || among (h.wild i) (Two p q))
      ∙ sym (or-false (overlaps s (Two p q)))

  pub wild_more : (p q : Part) → HasWild s (Two p q) s' → (read : Pattern) → overlaps s' read ≡ (overlaps s read || pattern_overlaps (Two p q) read)
  wild_more p q h (One f) = ap (λ k. has_item id_cmp k (id.One f)) h.ids ∙ sym (or-false (has_item id_cmp s.ids.keys (id.One f)))
  wild_more p q h (Two a b) =
      (λ i. same_pairs (λ r t. ap (λ k. has_item id_cmp k (id.Two r t)) h.ids) h.wide h.relationships h.targets (part_entity a) (part_entity b) i
      || (ap (λ k. among k (Two a b)) h.wild ∙ list_any-append (λ w. pattern_overlaps w (Two a b)) s.wild.items (Two p q ∷ [])
      ∙ ap (λ c. among s.wild.items (Two a b) || c) (or-false (pattern_overlaps (Two p q) (Two a b)))) i)
      ∙ sym (or_assoc (overlaps_pairs s (part_entity a) (part_entity b)) (among s.wild.items (Two a b)) (pattern_overlaps (Two p q) (Two a b)))

  -- pairs of one relationship more
  module _ (r : Entity) (relationships : IsNoted entity_cmp s.relationships.keys r s'.relationships.keys) (wild : s'.wild.items ≡ s.wild.items) where
    of_relationship : (u : Entity) (read : Pattern) → (has_item entity_cmp s'.relationships.keys u || among s'.wild.items read)
        ≡ ((has_item entity_cmp s.relationships.keys u || among s.wild.items read) || (entity_eq r u && true))
    of_relationship u read =
        (λ i. relationships.members u i || among (wild i) read)
        ∙ last_of_two (has_item entity_cmp s.relationships.keys u) (entity_eq r u) (among s.wild.items read)
        ∙ ap (λ e. (has_item entity_cmp s.relationships.keys u || among s.wild.items read) || e) (sym (and-true (entity_eq r u)))

    of_any : (read : Pattern) → (has_any s'.relationships.keys || among s'.wild.items read)
        ≡ ((has_any s.relationships.keys || among s.wild.items read) || true)
    of_any read = (λ i. relationships.some i || among s'.wild.items read) ∙ sym (or-true (has_any s.relationships.keys || among s.wild.items read))

  -- one pair more
  module _ (r t : Entity) (h : HasPair s r t s') where
    with_target : (v : Entity) (read : Pattern) → ((has_item entity_cmp s'.targets.keys v || has_any s'.wide.keys) || among s'.wild.items read)
        ≡ (((has_item entity_cmp s.targets.keys v || has_any s.wide.keys) || among s.wild.items read) || entity_eq t v)
    with_target v read =
        (λ i. (h.targets.members v i || has_any (h.wide i)) || among (h.wild i) read)
        ∙ last_of_three (has_item entity_cmp s.targets.keys v) (entity_eq t v) (has_any s.wide.keys) (among s.wild.items read)

    pub pair_more : (read : Pattern) → overlaps s' read ≡ (overlaps s read || pattern_overlaps (Two (Is r) (Is t)) read)
    pair_more (One f) = h.ids.members (id.One f)
    pair_more (Two (Is u) (Is v)) =
        (λ i. ((h.ids.members (id.Two u v) ∙ ap (λ e. has_item id_cmp s.ids.keys (id.Two u v) || e)
        (pair_eq r t u v)) i || has_item entity_cmp (h.wide i) u)
        || among (h.wild i) (Two (Is u) (Is v)))
        ∙ last_of_three (has_item id_cmp s.ids.keys (id.Two u v)) (entity_eq r u && entity_eq t v) (has_item entity_cmp s.wide.keys u)
        (among s.wild.items (Two (Is u) (Is v)))
    pair_more (Two (Is u) q) = of_relationship r h.relationships h.wild u (Two (Is u) q)
    pair_more (Two p (Is v)) = with_target v (Two p (Is v))
    pair_more (Two p q) = of_any r h.relationships h.wild (Two p q)

  -- all pairs of a relationship
  module _ (r : Entity) (h : HasAllPairs s r s') where
    of_wide : (u v : Entity) (read : Pattern)
        → ((has_item id_cmp s'.ids.keys (id.Two u v) || has_item entity_cmp s'.wide.keys u) || among s'.wild.items read)
        ≡ (((has_item id_cmp s.ids.keys (id.Two u v) || has_item entity_cmp s.wide.keys u) || among s.wild.items read) || (entity_eq r u && true))
    of_wide u v read =
        (λ i. (has_item id_cmp (h.ids i) (id.Two u v) || h.wide.members u i) || among (h.wild i) read)
        ∙ second_last (has_item id_cmp s.ids.keys (id.Two u v)) (has_item entity_cmp s.wide.keys u) (entity_eq r u) (among s.wild.items read)
        ∙ ap (λ e. ((has_item id_cmp s.ids.keys (id.Two u v) || has_item entity_cmp s.wide.keys u) || among s.wild.items read) || e)
        (sym (and-true (entity_eq r u)))

    any_target : (v : Entity) (read : Pattern) → ((has_item entity_cmp s'.targets.keys v || has_any s'.wide.keys) || among s'.wild.items read)
        ≡ (((has_item entity_cmp s.targets.keys v || has_any s.wide.keys) || among s.wild.items read) || true)
    any_target v read =
        (λ i. (has_item entity_cmp s'.targets.keys v || h.wide.some i) || among s'.wild.items read)
        ∙ ap (λ b. b || among s'.wild.items read) (or-true (has_item entity_cmp s'.targets.keys v))
        ∙ sym (or-true ((has_item entity_cmp s.targets.keys v || has_any s.wide.keys) || among s.wild.items read))

    all_more : (read : Pattern) → overlaps s' read ≡ (overlaps s read || pattern_overlaps (Two (Is r) Each) read)
    all_more (One f) = ap (λ k. has_item id_cmp k (id.One f)) h.ids ∙ sym (or-false (has_item id_cmp s.ids.keys (id.One f)))
    all_more (Two (Is u) (Is v)) = of_wide u v (Two (Is u) (Is v))
    all_more (Two (Is u) q) = of_relationship r h.relationships h.wild u (Two (Is u) q)
    all_more (Two p (Is v)) = any_target v (Two p (Is v))
    all_more (Two p q) = of_any r h.relationships h.wild (Two p q)

  -- pairs of one relationship, by the entities that the pattern names
  pub pairs_more : (p q : Part) (r : Entity) (o : Option Entity) → Some r ≡ part_entity p → o ≡ part_entity q → HasPairs s r o s'
      → (read : Pattern) → overlaps s' read ≡ (overlaps s read || pattern_overlaps (Two p q) read)
  pairs_more Each q r o at to h read = absurd (none-some r (sym at))
  pairs_more Any q r o at to h read = absurd (none-some r (sym at))
  pairs_more (Is e) q r (Some t) at to h read = by q to
    where
      by : (q : Part) → Some t ≡ part_entity q → overlaps s' read ≡ (overlaps s read || pattern_overlaps (Two (Is e) q) read)
      by (Is f) k = pair_more r t h read ∙ λ i. overlaps s read || pattern_overlaps (Two (Is (same_Some r e at i)) (Is (same_Some t f k i))) read
      by Each k = absurd (none-some t (sym k))
      by Any k = absurd (none-some t (sym k))
  pairs_more (Is e) q r None at to h read = by q to
    where
      wild : (q : Part) → pattern_overlaps (Two (Is r) Each) read ≡ pattern_overlaps (Two (Is e) Each) read
      wild q = ap (λ x. pattern_overlaps (Two (Is x) Each) read) (same_Some r e at)

      any_is_each : (read : Pattern) → pattern_overlaps (Two (Is e) Each) read ≡ pattern_overlaps (Two (Is e) Any) read
      any_is_each (One f) = refl
      any_is_each (Two a b) = refl

      by : (q : Part) → None ≡ part_entity q → overlaps s' read ≡ (overlaps s read || pattern_overlaps (Two (Is e) q) read)
      by (Is f) k = absurd (none-some f k)
      by Each k = all_more r h read ∙ ap (λ b. overlaps s read || b) (wild Each)
      by Any k = all_more r h read ∙ ap (λ b. overlaps s read || b) (wild Any ∙ any_is_each read)
