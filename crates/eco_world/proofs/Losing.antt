-- What a call takes away, with mirrors, as what it takes away alone or as losses one after another.
use Rattle.eco_world.proofs.Common.{arith, ◌≡◌, Bool, true, false, cond, not, ◌||◌, List, [], ◌∷◌, ◌++◌, length, get_or, take, ℕ, ◌+◌}
use Rattle.eco_world.proofs.Common.{◌<◌, Option, Some, None, is_some, IsTrue, refl, sym, ap, ◌∙◌, subst, true≢false, take_more, none-some}
use Rattle.eco_world.proofs.Common.{same_Some, where_key, list_any, Entity, Id, has_symmetric, IsLawful, keeping, nobody, without, at_mirror, goes_too}
use Rattle.eco_world.proofs.Common.{mirror_of, mirrored_pair, entity_cmp, entity_eq, has_item, id_cmp, id_eq, changed, Record, WorldState, has, is_alive}
use Rattle.eco_world.proofs.Common.{is_symmetric, record_of, both, first, second, id_eq_is, id_eq_itself, not_both, or_right, some_of, mirror_is, mirror_parts}
use Rattle.eco_world.proofs.Common.{mirrored_of, entity_eq_is, entity_eq_itself, with_type, IsAlone, mirror_holders, one_by_one, symmetric_target, takes}
use Rattle.eco_world.proofs.Common.{takes_id, with_holder, type_of}
use Rattle.eco_ids.proofs.LossMoves.{clear_moves, remove_all_moves, remove_moves, without_alike}
use Rattle.eco_world.specs.declared.loss.Loss.TheVariants.{All, Everywhere}
use Rattle.eco_world.proofs.Changes.{changed_alike, held_at}
use Rattle.eco_world.proofs.Held.{Held, keys}
use Rattle.eco_ids.specs.declared.id.Id.TheVariants as ids
use Rattle.eco_ids.proofs.LossMoves as moves

absorbed : (b c : Bool) → (IsTrue b → IsTrue c) → (b || c) ≡ c
absorbed b c f = grind arith

-- an id and its mirror: the mirror goes only where the id itself does
module _ (w : WorldState) (goes : Entity → Id → Bool) (x : Entity) (j : Id) where
  pub no_more : ((r t : Entity) → j ≡ ids.Two r t → IsTrue (is_symmetric w r) → IsTrue (goes t (ids.Two r x)) → IsTrue (goes x j)) →
      goes_too w goes x j ≡ goes x j
  no_more mirror = by (mirror_of w x j) refl
    where
      by : (o : Option (Entity × Id)) → mirror_of w x j ≡ o → goes_too w goes x j ≡ goes x j
      by None is = ap (λ o. at_mirror goes o || goes x j) is
      by (Some m) is =
          let p = mirror_parts w x j m is in
          ap (λ o. at_mirror goes o || goes x j) is
          ∙ absorbed (goes m.0 m.1) (goes x j) (λ h. mirror p.0 p.1 p.2 p.3 (subst (λ (y : Entity × Id). IsTrue (goes y.0 y.1)) p.4 h))

-- whoever has a pair of a symmetric relationship stands in the mirror's
pub mirrored : (w : WorldState) → IsLawful w → (r a b : Entity) → IsTrue (is_symmetric w r) → IsTrue (has w a (ids.Two r b))
    → IsTrue (has w b (ids.Two r a))
mirrored w lawful r a b symmetric there = (mirrored_of w lawful (first (has_symmetric w.edition) _ symmetric)).mirrors r a b symmetric there

-- ---- one id of one entity

module _ (w : WorldState) (e : Entity) (i : Id) where
  -- where nobody else has the mirror
  pub alone_taken : IsAlone w e i → without w nobody (goes_too w (takes_id e i)) ≡ without w nobody (takes_id e i)
  alone_taken alone = without_alike w (goes_too w (takes_id e i)) (takes_id e i) (λ x j there. no_more w (takes_id e i) x j (λ r t is symmetric goes.
      let at : t ≡ e = entity_eq_is t e (first (entity_eq t e) _ goes) in
      let same : ids.Two r x ≡ i = id_eq_is (ids.Two r x) i (second (entity_eq t e) _ goes) in
      let mirror : mirror_of w e i ≡ Some (x, ids.Two r e) = ap (mirror_of w e) (sym same) ∙ mirror_is w e r x symmetric in
      let itself : x ≡ e = alone (x, ids.Two r e) mirror in
      both (entity_eq x e) (id_eq j i) (subst (λ y. IsTrue (entity_eq y e)) (sym itself) (entity_eq_itself e))
      (subst (λ k. IsTrue (id_eq k i)) (sym (is ∙ ap (ids.Two r) (at ∙ sym itself) ∙ same)) (id_eq_itself i))))

  -- where the entity doesn't have it
  pub absent_taken : IsLawful w → has w e i ≡ false → without w nobody (goes_too w (takes_id e i)) ≡ without w nobody (takes_id e i)
  absent_taken lawful absent = without_alike w (goes_too w (takes_id e i)) (takes_id e i)
      (λ x j there. no_more w (takes_id e i) x j (λ r t is symmetric goes.
      let at : t ≡ e = entity_eq_is t e (first (entity_eq t e) _ goes) in
      let same : ids.Two r x ≡ i = id_eq_is (ids.Two r x) i (second (entity_eq t e) _ goes) in
      let pair : IsTrue (has w x (ids.Two r e)) = subst (λ y. IsTrue (has w x (ids.Two r y))) at (subst (λ k. IsTrue (has w x k)) is there) in
      absurd (not_both (subst (λ k. IsTrue (has w e k)) same (mirrored w lawful r x e symmetric pair)) absent)))

  -- where another has the mirror
  pub both_taken : (m : Entity × Id) → mirror_of w e i ≡ Some m →
      without w nobody (goes_too w (takes_id e i)) ≡ one_by_one (goes_too w (takes_id e i)) w (e ∷ m.0 ∷ [])
  both_taken m is = remove_moves w e i ∙ ap (λ o. one_by_one (goes_too w (takes_id e i)) w (e ∷ with_holder o [])) is

-- ---- all ids of an entity

holders_are : (w : WorldState) (e : Entity) (js : List Id) → moves.mirror_holders w e js ≡ mirror_holders w e js
holders_are w e [] = refl
holders_are w e (j ∷ js) = by (mirror_of w e j) (holders_are w e js)
  where
    by : (o : Option (Entity × Id)) → moves.mirror_holders w e js ≡ mirror_holders w e js →
        moves.with_holder o (moves.mirror_holders w e js) ≡ with_holder o (mirror_holders w e js)
    by None same = same
    by (Some m) same = ap (λ es. m.0 ∷ es) same

pub more_holders : (w : WorldState) (e : Entity) (js : List Id) (j : Id) → mirror_holders w e (js ++ j ∷ []) ≡ mirror_holders w e js ++ with_holder
    (mirror_of w e j) []
more_holders w e [] j = refl
more_holders w e (k ∷ js) j = by (mirror_of w e k) (more_holders w e js j)
  where
    by : (o : Option (Entity × Id)) → mirror_holders w e (js ++ j ∷ []) ≡ mirror_holders w e js ++ with_holder (mirror_of w e j) [] →
        with_holder o (mirror_holders w e (js ++ j ∷ [])) ≡ with_holder o (mirror_holders w e js) ++ with_holder (mirror_of w e j) []
    by None same = same
    by (Some m) same = ap (λ es. m.0 ∷ es) same

-- one more id
pub next_holder : (w : WorldState) (e : Entity) (js : List Id) (k : ℕ) (d : Id) (old new : List Entity) → k < length js
    → new ≡ old ++ with_holder (mirror_of w e (get_or js k d)) [] → old ≡ e ∷ mirror_holders w e (take k js)
    → new ≡ e ∷ mirror_holders w e (take (k + 1) js)
next_holder w e js k d old new below more was =
    more ∙ ap (λ xs. xs ++ with_holder (mirror_of w e (get_or js k d)) []) was
    ∙ ap (λ xs. e ∷ xs) (sym (more_holders w e (take k js) (get_or js k d)))
    ∙ ap (λ ks. e ∷ mirror_holders w e ks) (sym (take_more js k d below))

-- no relationship is symmetric
pub none_symmetric : (w : WorldState) (e : Entity) (js : List Id) → has_symmetric w.edition ≡ false → mirror_holders w e js ≡ []
none_symmetric w e [] plain = refl
none_symmetric w e (k ∷ ks) plain =
    ap (λ o. with_holder o (mirror_holders w e ks)) (ap (λ b. cond b (mirrored_pair w e k) None) plain) ∙ none_symmetric w e ks plain

-- no id has a mirror
pub none_hold : (w : WorldState) (e : Entity) (js : List Id) → list_any (λ j. is_some (mirror_of w e j)) js ≡ false → mirror_holders w e js ≡ []
none_hold w e [] h = refl
none_hold w e (k ∷ ks) h = go (mirror_of w e k) h (none_hold w e ks)
  where
    go : (o : Option (Entity × Id)) → (is_some o || list_any (λ j. is_some (mirror_of w e j)) ks) ≡ false →
        (list_any (λ j. is_some (mirror_of w e j)) ks ≡ false → mirror_holders w e ks ≡ []) → with_holder o (mirror_holders w e ks) ≡ []
    go None rest again = again rest
    go (Some m) rest again = absurd (true≢false rest)

-- whoever has an id that passes a test has an id
pub some_held : (test : Id → Bool) (held : Held) → IsTrue (list_any test (keys held)) → list_any (λ (h : Id × _). true) held ≡ true
some_held test [] h = absurd (true≢false (sym h))
some_held test (p ∷ held) h = refl

module _ (w : WorldState) (e : Entity) (d : Record) (lawful : IsLawful w) (at : record_of w e ≡ Some d) where
  pub cleared : without w nobody (goes_too w (takes (All e))) ≡ one_by_one (goes_too w (takes (All e))) w (e ∷ mirror_holders w e (keys d.held))
  cleared = clear_moves w e d lawful at ∙ ap (λ es. one_by_one (goes_too w (takes (All e))) w (e ∷ es)) (holders_are w e (keys d.held))

  all_go : (held : Held) → where_key id_cmp (λ j. not (goes_too w (takes (All e)) e j)) held ≡ []
  all_go [] = refl
  all_go (p ∷ held) =
      ap (λ b. cond (not b) (p ∷ where_key id_cmp (λ j. not (goes_too w (takes (All e)) e j)) held)
      (where_key id_cmp (λ j. not (goes_too w (takes (All e)) e j)) held))
      (or_right (at_mirror (takes (All e)) (mirror_of w e p.0)) (entity_eq e e) (entity_eq_itself e))
      ∙ all_go held

  -- where nobody has a mirror
  pub cleared_alone : mirror_holders w e (keys d.held) ≡ [] → without w nobody (goes_too w (takes (All e))) ≡ changed w e (with_type [])
  cleared_alone none =
      cleared ∙ ap (λ es. one_by_one (goes_too w (takes (All e))) w (e ∷ es)) none
      ∙ changed_alike w e (keeping (goes_too w (takes (All e)) e)) (with_type []) (λ r there. ap (λ held. record r { held = held }) (all_go r.held))

module _ (w : WorldState) (e : Entity) (lawful : IsLawful w) (alive : is_alive w e ≡ true) where
  here : (d : Record) × (record_of w e ≡ Some d)
  here = some_of (record_of w e) alive

  pub cleared_all : without w nobody (goes_too w (takes (All e))) ≡ one_by_one (goes_too w (takes (All e))) w (e ∷ mirror_holders w e (type_of w e))
  cleared_all = cleared w e here.0 lawful here.1
      ∙ ap (λ held. one_by_one (goes_too w (takes (All e))) w (e ∷ mirror_holders w e (keys held))) (sym (held_at w e here.0 here.1))

  pub cleared_plainly : mirror_holders w e (type_of w e) ≡ [] → without w nobody (goes_too w (takes (All e))) ≡ changed w e (with_type [])
  cleared_plainly none = cleared_alone w e here.0 lawful here.1 (ap (λ held. mirror_holders w e (keys held)) (sym (held_at w e here.0 here.1)) ∙ none)

-- ---- an id of all entities

module _ (w : WorldState) (i : Id) where
  -- where it is no pair of a symmetric relationship
  pub plainly_taken : symmetric_target w i ≡ None → without w nobody (goes_too w (takes (Everywhere i))) ≡ without w nobody (takes (Everywhere i))
  plainly_taken none = without_alike w (goes_too w (takes (Everywhere i))) (takes (Everywhere i))
      (λ x j there. no_more w (takes (Everywhere i)) x j (λ r t is symmetric goes.
      absurd (none-some x (sym none ∙ ap (symmetric_target w) (sym (id_eq_is (ids.Two r x) i goes)) ∙ ap (λ b. cond b (Some x) None) symmetric))))

  -- where nobody has it
  pub nowhere_taken : IsLawful w → ((e : Entity) → has w e i ≡ false) →
      without w nobody (goes_too w (takes (Everywhere i))) ≡ without w nobody (takes (Everywhere i))
  nowhere_taken lawful none = without_alike w (goes_too w (takes (Everywhere i))) (takes (Everywhere i))
      (λ x j there. no_more w (takes (Everywhere i)) x j (λ r t is symmetric goes.
      absurd (not_both (subst (λ k. IsTrue (has w t k)) (id_eq_is (ids.Two r x) i goes)
      (mirrored w lawful r x t symmetric (subst (λ k. IsTrue (has w x k)) is there))) (none t))))

  -- where it is one
  pub taken_everywhere : (target : Entity) (holders : List Entity) → symmetric_target w i ≡ Some target →
      ((x : Entity) → IsTrue (has w x i) → IsTrue (has_item entity_cmp holders x)) →
      without w nobody (goes_too w (takes (Everywhere i))) ≡ one_by_one (goes_too w (takes (Everywhere i))) w (target ∷ holders)
  taken_everywhere target holders is all =
      remove_all_moves w i holders all ∙ ap (λ es. one_by_one (goes_too w (takes (Everywhere i))) w (es ++ holders)) (listed i is)
    where
      listed : (j : Id) → symmetric_target w j ≡ Some target → moves.symmetric_target w j ≡ target ∷ []
      listed (ids.One c) h = absurd (none-some target h)
      listed (ids.Two r t) h = by (is_symmetric w r) h
        where
          by : (b : Bool) → cond b (Some t) None ≡ Some target → cond b (t ∷ []) [] ≡ target ∷ []
          by true h = ap (λ y. y ∷ []) (same_Some t target h)
          by false h = absurd (none-some target h)
