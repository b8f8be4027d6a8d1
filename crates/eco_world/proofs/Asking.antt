-- Whether some living entity has a pair.
use Rattle.eco_world.proofs.Common.{true≢false, ◌≡◌, Bool, false, ◌||◌, List, [], ◌∷◌, is_some, refl, sym, ap, ◌∙◌, IsTrue, ◌↔◌}
use Rattle.eco_world.proofs.Common.{false_from_ne_true, list_any, find, Entity, Id, One, Two, Value, pattern_matches, entity_eq, id_cmp, is_held, is_pair_of}
use Rattle.eco_world.proofs.Common.{is_used, Record, WorldState, entities, has, living, record_of, passes_some, some_passes, entry_of, has_in, type_of_record}
use Rattle.eco_world.proofs.Common.{exactly}
use Rattle.std.proofs.Math.Bool.{and-true}
use Rattle.eco_ids.specs.declared.pattern.Part.TheVariants.{Is, Any}
use Rattle.eco_world.proofs.Holders.{exactly_held}
use Rattle.eco_world.proofs.Held.{Held, keys}
use Rattle.eco_ids.specs.declared.pattern.Pattern.TheVariants as pattern

-- ---- a pair of a relationship

pair_matches : (r : Entity) (i : Id) → pattern_matches (pattern.Two (Is r) Any) i ≡ is_pair_of r i
pair_matches r (One e) = refl
pair_matches r (Two q t) = and-true (entity_eq r q)

pair_held : (r : Entity) (held : Held)
    → list_any (pattern_matches (pattern.Two (Is r) Any)) (keys held) ≡ list_any (λ (q : Id × Value). is_pair_of r q.0) held
pair_held r [] = refl
pair_held r (p ∷ held) = ap (λ b. b || list_any (pattern_matches (pattern.Two (Is r) Any)) (keys held)) (pair_matches r p.0)
    ∙ ap (λ b. is_pair_of r p.0 || b) (pair_held r held)

pair_living : (r : Entity) (ps : List (Entity × Record)) →
    list_any (λ (p : Entity × Record). list_any (pattern_matches (pattern.Two (Is r) Any)) (type_of_record p.1)) ps
    ≡ list_any (λ (p : Entity × Record). list_any (λ (q : Id × Value). is_pair_of r q.0) p.1.held) ps
pair_living r ps = λ t. list_any (λ (p : Entity × Record). pair_held r p.1.held t) ps

-- some living entity has a pair of the relationship
pub used_is : (w : WorldState) (r : Entity) → list_any (λ (p : Entity × Record). list_any (pattern_matches (pattern.Two (Is r) Any)) (type_of_record p.1))
    (living w) ≡ is_used w r
used_is w r = pair_living r (living w)

-- ---- a pair

abbrev has_pair : Entity → Entity → Record → Bool
has_pair r t d = list_any (pattern_matches (pattern.Two (Is r) (Is t))) (type_of_record d)

-- some living entity has the pair
pub target_is : (w : WorldState) (r t : Entity) →
    IsTrue (list_any (λ (p : Entity × Record). list_any (pattern_matches (pattern.Two (Is r) (Is t))) (type_of_record p.1)) (living w)) ↔
    ((holder : Entity) × IsTrue (has w holder (Two r t)))
target_is w r t = (to, from)
  where
    to : IsTrue (list_any (λ (p : Entity × Record). has_pair r t p.1) (living w)) → (holder : Entity) × IsTrue (has w holder (Two r t))
    to h =
        let own = some_passes (has_pair r t) (entities w) h in
        (own.0, ap (λ o. has_in o (Two r t)) own.1.1 ∙ sym (exactly_held (Two r t) own.1.0.held) ∙ own.1.2)

    from : (holder : Entity) × IsTrue (has w holder (Two r t)) → IsTrue (list_any (λ (p : Entity × Record). has_pair r t p.1) (living w))
    from x = let own = entry_of (record_of w x.0) (Two r t) x.1 in passes_some (has_pair r t) (entities w) x.0
        (own.0, own.2, exactly_held (Two r t) own.0.held ∙ ap is_some own.3)

-- ---- an id

-- some living entity has the id
pub held_is : (i : Id) (ps : List (Entity × Record)) → list_any (λ (p : Entity × Record). list_any (pattern_matches (exactly i)) (type_of_record p.1)) ps
    ≡ list_any (λ (p : Entity × Record). is_some (find id_cmp i p.1.held)) ps
held_is i ps = λ t. list_any (λ (p : Entity × Record). exactly_held i p.1.held t) ps

-- where nobody has it, none does
pub none_has : (w : WorldState) (i : Id) → is_held w i ≡ false → (e : Entity) → has w e i ≡ false
none_has w i none e = false_from_ne_true (has w e i) (λ there.
    let own = entry_of (record_of w e) i there in
    true≢false (sym (passes_some (λ r. is_some (find id_cmp i r.held)) (entities w) e (own.0, own.2, ap is_some own.3)) ∙ none))
