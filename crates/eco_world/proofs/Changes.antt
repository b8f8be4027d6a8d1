-- What the store makes of an entity's record, and what a step makes of it.
use Rattle.eco_world.proofs.Common.{◌≡◌, Bool, true, false, cond, ◌&&◌, T, List, [], ◌∷◌, Option, Some, None, option_map, unwrap_or, refl, sym}
use Rattle.eco_world.proofs.Common.{ap, ◌∙◌, subst, is_some, true≢false, IsTrue, MatchBool, Result, Ok, Err, OnOk, OnErr, false_from_ne_true, list_any}
use Rattle.eco_world.proofs.Common.{find, is_sorted, Entity, Id, Value, Living, change_kept, IsLawful, keeping, without, nobody, id_cmp, id_eq, entity_eq}
use Rattle.eco_world.proofs.Common.{has_item, with_item, without_item, changed, with_value, WorldState, Record, entities, with_entities, has, held_by, is_alive}
use Rattle.eco_world.proofs.Common.{record_of, with_record, keys_find, id_eq_is, not_both, keeps_all, without_one, living_state, record_ids, with_exchanged}
use Rattle.eco_world.proofs.Common.{with_toggled, with_type, record_with_written, type_of_entity, type_of_record, type_of}
use Rattle.eco_ids.proofs.Lists.{set_own}
use Rattle.eco_world.proofs.Held.{Held, keys, none_written, retyped_without, written_is}

-- what holds of either state that a call may leave, as it is seen, holds of the one that it left
pub by_result : {A B S X : Type 0} (P : X → Type 0) (seen : S → X) (r : Result A B) (old new : S) (x : X) → OnOk r (seen new ≡ x)
    → OnErr r (new ≡ old) →
    P x → P (seen old) → P (seen new)
by_result P seen (Ok a) old new x ok err done undone = subst P (sym ok) done
by_result P seen (Err b) old new x ok err done undone = subst (λ s. P (seen s)) (sym err) undone

module _ (w : WorldState) (e : Entity) where
  -- changes that do the same to the entity's record
  pub changed_alike : (f g : Record → Record) → ((d : Record) → record_of w e ≡ Some d → f d ≡ g d) → changed w e f ≡ changed w e g
  changed_alike f g same = go (record_of w e) refl
    where
      go : (o : Option Record) → record_of w e ≡ o → with_entities w (change_kept (entities w) e f o) ≡ with_entities w (change_kept (entities w) e g o)
      go None at = refl
      go (Some d) at = ap (with_record w e) (same d at)

  -- one that does nothing to it
  pub changed_same : (f : Record → Record) → ((d : Record) → record_of w e ≡ Some d → f d ≡ d) → changed w e f ≡ w
  changed_same f same = go (record_of w e) refl
    where
      go : (o : Option Record) → record_of w e ≡ o → with_entities w (change_kept (entities w) e f o) ≡ w
      go None at = refl
      go (Some d) at = ap (with_record w e) (same d at) ∙ ap (λ xs. record w { indices = xs })
          (set_own w.indices e.index (Living e.generation d) (living_state w e d at))

  pub held_at : (d : Record) → record_of w e ≡ Some d → held_by w e ≡ d.held
  held_at d at = ap (λ o. unwrap_or (option_map (λ (r : Record). r.held) o) []) at

  has_at : (i : Id) (d : Record) → record_of w e ≡ Some d → is_some (find id_cmp i d.held) ≡ has w e i
  has_at i d at = ap (λ held. is_some (find id_cmp i held)) (sym (held_at d at))

  -- an id that isn't there goes, and nothing changes
  pub nothing_taken : (i : Id) → has w e i ≡ false → without w nobody (λ x j. entity_eq x e && id_eq j i) ≡ w
  nothing_taken i absent =
      without_one w e (λ j. id_eq j i)
      ∙ changed_same (keeping (λ j. id_eq j i)) (λ d at. keeps_all (λ j. id_eq j i) d (λ j there. false_from_ne_true (id_eq j i) (λ is.
      not_both (subst (λ k. IsTrue (is_some (find id_cmp k d.held))) (id_eq_is j i is) there) (has_at i d at ∙ absent))))

  pub lists_at : (i : Id) (d : Record) → record_of w e ≡ Some d → has_item id_cmp (record_ids d) i ≡ has w e i
  lists_at i d at = sym (keys_find d.held i) ∙ has_at i d at

  -- an id that isn't there comes
  pub toggled_in : (i : Id) → has w e i ≡ false →
      changed w e (with_toggled i) ≡ changed w e (with_type (with_item id_cmp (unwrap_or (type_of_entity w e) []) i))
  toggled_in i absent =
      changed_alike (with_toggled i) (with_type (with_item id_cmp (unwrap_or (type_of_entity w e) []) i)) (λ d at.
      ap (λ ids. with_type ids d)
      (ap (λ b. cond b (without_item id_cmp (record_ids d) i) (with_item id_cmp (record_ids d) i)) (lists_at i d at ∙ absent)
      ∙ ap (λ o. with_item id_cmp (unwrap_or (option_map type_of_record o) []) i) (sym at)))

  -- one that is there goes
  pub toggled_out : (i : Id) → has w e i ≡ true → changed w e (with_toggled i) ≡ changed w e (with_type (without_item id_cmp (type_of w e) i))
  toggled_out i there =
      changed_alike (with_toggled i) (with_type (without_item id_cmp (type_of w e) i)) (λ d at.
      ap (λ ids. with_type ids d)
      (ap (λ b. cond b (without_item id_cmp (record_ids d) i) (with_item id_cmp (record_ids d) i)) (lists_at i d at ∙ there)
      ∙ ap (λ held. without_item id_cmp (keys held) i) (sym (held_at d at))))

  -- one comes in the place of another
  pub exchanged_in : (i j : Id) →
      changed w e (with_exchanged i j) ≡ changed w e (with_type (with_item id_cmp (without_item id_cmp (unwrap_or (type_of_entity w e) []) i) j))
  exchanged_in i j =
      changed_alike (with_exchanged i j) (with_type (with_item id_cmp (without_item id_cmp (unwrap_or (type_of_entity w e) []) i) j)) (λ d at.
      ap (λ o. with_type (with_item id_cmp (without_item id_cmp (unwrap_or (option_map type_of_record o) []) i) j) d) (sym at))

  module _ (lawful : IsLawful w) where
    pub sorted_at : (d : Record) → record_of w e ≡ Some d → T (is_sorted id_cmp d.held)
    sorted_at d at = (lawful.orderly.records e d at).ascending

    -- an id goes with its type
    pub typed_without : (i : Id) (ids : List Id) → ids ≡ without_item id_cmp (type_of w e) i →
        changed w e (with_type ids) ≡ without w nobody (λ x j. entity_eq x e && id_eq j i)
    typed_without i ids is =
        changed_alike (with_type ids) (keeping (λ j. id_eq j i)) (λ d at.
        ap (λ held. record d { held = held })
        (ap (λ js. (with_type js d).held) (is ∙ ap (λ held. without_item id_cmp (keys held) i) (held_at d at))
        ∙ retyped_without d.held i (sorted_at d at)))
        ∙ sym (without_one w e (λ j. id_eq j i))

    written_value : (i : Id) (v : Value) → has w e i ≡ true → changed w e (record_with_written i v) ≡ changed w e (with_value i v)
    written_value i v there = changed_alike (record_with_written i v) (with_value i v)
        (λ d at. ap (λ held. record d { held = held }) (written_is d.held i v (sorted_at d at) (has_at i d at ∙ there)))

    nothing_written : (i : Id) (v : Value) → has w e i ≡ false → changed w e (record_with_written i v) ≡ w
    nothing_written i v absent =
        changed_same (record_with_written i v)
        (λ d at. ap (λ held. record d { held = held }) (none_written d.held i v (none (find id_cmp i d.held) (has_at i d at ∙ absent))))
      where
        none : (o : Option Value) → is_some o ≡ false → o ≡ None
        none None h = refl
        none (Some x) h = absurd (true≢false h)

    -- what was written is a value where the id is there, else nothing
    pub written_there : (i : Id) (v : Value) (had : Bool) → had ≡ has w e i →
        MatchBool had (changed w e (record_with_written i v) ≡ changed w e (with_value i v)) (changed w e (record_with_written i v) ≡ w)
    written_there i v true is = written_value i v (sym is)
    written_there i v false is = nothing_written i v (sym is)

    -- so the world is lawful where it is with the value
    pub written_lawful : (i : Id) (v : Value) → (has w e i ≡ true → IsLawful (changed w e (with_value i v)))
        → IsLawful (changed w e (record_with_written i v))
    written_lawful i v then_lawful = by (has w e i) refl
      where
        by : (b : Bool) → has w e i ≡ b → IsLawful (changed w e (record_with_written i v))
        by true there = subst IsLawful (sym (written_value i v there)) (then_lawful there)
        by false absent = subst IsLawful (sym (nothing_written i v absent)) lawful

-- the ids of one who has none
no_ids : (w : WorldState) (e : Entity) → is_alive w e ≡ true → list_any (λ (h : Id × Value). true) (held_by w e) ≡ false →
    option_map record_ids (record_of w e) ≡ Some []
no_ids w e alive none = by (record_of w e) alive none
  where
    nothing : (held : Held) → list_any (λ (h : Id × Value). true) held ≡ false → Some (keys held) ≡ Some []
    nothing [] h = refl
    nothing (x ∷ held) h = absurd (true≢false h)

    by : (o : Option Record) → is_some o ≡ true
        → list_any (λ (h : Id × Value). true) (unwrap_or (option_map (λ (r : Record). r.held) o) []) ≡ false →
        option_map record_ids o ≡ Some []
    by None lives h = absurd (true≢false (sym lives))
    by (Some r) lives h = nothing r.held h

-- whose ids are not those of one who has none has an id
pub had_ids : (w : WorldState) (e : Entity) → is_alive w e ≡ true → (option_map record_ids (record_of w e) ≡ Some [] → ⊥) →
    list_any (λ (h : Id × Value). true) (held_by w e) ≡ true
had_ids w e alive some = by (list_any (λ (h : Id × Value). true) (held_by w e)) refl
  where
    by : (b : Bool) → list_any (λ (h : Id × Value). true) (held_by w e) ≡ b → b ≡ true
    by true h = refl
    by false h = absurd (some (no_ids w e alive h))
