-- What each command leaves as it was, and what it may give.
use Rattle.eco_systems.proofs.Common.{◌≡◌, ℕ, Bool, true, false, cond, not, ◌&&◌, ◌||◌, List, [], refl, sym, ap, ◌∙◌, subst, true≢false}
use Rattle.eco_systems.proofs.Common.{IsTrue, ◌⊎◌, inl, inr, Option, Some, None, is_some, option_map, unwrap_or, slice_get, MatchOption, MatchBool}
use Rattle.eco_systems.proofs.Common.{Result, Ok, Err, list_any, option_or, option_and_then, find, find-put, arith, and_right, slice_get_within, off}
use Rattle.eco_systems.proofs.Common.{OnEntities, MakesAliveWith, is_builtin, RenamesWith, first, second, Entity, Id, Refusal, Reserved, Taken, Value, bare}
use Rattle.eco_systems.proofs.Common.{MakesAlive, is_builtins, Deletes, Ends, names_any, arity_of, Indexed, IndexState, Retired, Free, Living, record_in}
use Rattle.eco_systems.proofs.Common.{is_free_at, is_free_in, root, id_cmp, entity_cmp, entity_eq, id_eq, has_item, Answers, Refuses, InClosure, WorldState}
use Rattle.eco_systems.proofs.Common.{Record, has, held_by, is_exclusive, is_symmetric, zeros, entities, with_entities, with_record, record_of, id_eq_is}
use Rattle.eco_systems.proofs.Common.{id_eq_itself, same_or_apart, any_is, id_cmp_total, has_in, some_of, entity_eq_is, IsWrite, write_known, open_living}
use Rattle.std.proofs.lemmas.Grind.{common_steps}
use Rattle.eco_ids.proofs.Births.{free_state}
use Rattle.eco_systems.proofs.Follows.{Follows, from_answer, from_refusal, unless, either}
use Rattle.eco_ids.specs.declared.id.Id.TheVariants.{One, Two}
use Rattle.eco_ids.specs.Delete.{DeletesOne, DeletesWith}
use Rattle.eco_ids.specs.Losses.{keeping, nobody, without}
use Rattle.eco_ids.specs.Mirrors.{mirror_of, at_mirror, goes_too}
use Rattle.eco_ids.specs.Step.{changed, with_name, with_value, with_closure, grown, unchanged, unfit, unfit_set, unfit_actor, unfit_rename, Extends, with_id}
use Rattle.eco_ids.specs.Step.{with_mirror, Adds, Sets, Removes, Clears, Renames, RemovesAll, IsClosure, is_replaced, is_pair_of}
use Rattle.eco_ids.proofs.Closures.{find_kept, zero_entry}
use Rattle.eco_ids.proofs.Exact.{closure_find, zero_find}
use Rattle.eco_ids.proofs.Losses.{record_left}
use Rattle.eco_ids.proofs.Mirrors.{mirror_parts}
use Rattle.eco_ids.specs.Indices as indexed

-- the ids of a record, and its arity
abbrev held_in : Option Record → List (Id × Value)
held_in o = unwrap_or (option_map (λ r. r.held) o) []

abbrev arity_in : Option Record → Option ℕ
arity_in o = option_and_then (λ r. r.arity) o

-- ---- what an add may touch: its closure, what an exclusive relationship of the closure replaces, and the mirror

abbrev pub IsEvicted : WorldState → Id → Id → Type 0
IsEvicted w i (One e) = ⊥
IsEvicted w i (Two r t) = IsTrue (is_exclusive w r) × (u : Entity) × InClosure w i (Two r u)

-- a pair of the same symmetric relationship
abbrev pub IsTwin : WorldState → Id → Id → Type 0
IsTwin w (One c) j = ⊥
IsTwin w (Two r t) (One x) = ⊥
IsTwin w (Two r t) (Two q u) = IsTrue (is_symmetric w r) × (q ≡ r)

abbrev pub Touches : WorldState → Id → Id → Type 0
Touches w i j = InClosure w i j ⊎ (IsEvicted w i j ⊎ IsTwin w i j)

-- what an add may give
abbrev pub Given : WorldState → Id → Id → Type 0
Given w i j = InClosure w i j ⊎ IsTwin w i j

-- what goes with an id
abbrev pub Goes : WorldState → Id → Id → Type 0
Goes w i j = (j ≡ i) ⊎ IsTwin w i j

-- the edition stays, and nobody has an id that he had not and was not given; what does not kill leaves arities, and what isn't touched
-- with its values
pub record Effect (kills : Bool) (w new : WorldState) (T G : Id → Type 0) : Type 0 where
  pub edition : new.edition ≡ w.edition
  pub arity : (IsTrue kills → ⊥) → (x : Entity) → arity_of new x ≡ arity_of w x
  pub held : (IsTrue kills → ⊥) → (x : Entity) (j : Id) → (T j → ⊥) → find id_cmp j (held_by new x) ≡ find id_cmp j (held_by w x)
  pub gains : (x : Entity) (j : Id) → IsTrue (has new x j) → IsTrue (has w x j) ⊎ G j

-- so it is where the step leads
abbrev pub Leads : Bool → WorldState → (Id → Type 0) → (Id → Type 0) → (Result (Unit {0}) Refusal → WorldState → Type 0) → Type 0
Leads kills w T G = Follows (λ r new. Effect kills w new T G)

module _ {kills : Bool} {T G : Id → Type 0} where
  pub effect_itself : {w : WorldState} → Effect kills w w T G
  effect_itself = record { edition = refl; arity = λ k x. refl; held = λ k x j h. refl; gains = λ x j h. inl h }

  -- one effect after another
  pub effect_then : {w mid new : WorldState} → Effect kills w mid T G → Effect kills mid new T G → Effect kills w new T G
  effect_then {w = w} {mid = mid} p q = record {
    edition = q.edition ∙ p.edition;
    arity = λ k x. q.arity k x ∙ p.arity k x;
    held = λ k x j h. q.held k x j h ∙ p.held k x j h;
    gains = λ x j h. had x j (q.gains x j h);
  }
    where
      had : (x : Entity) (j : Id) → IsTrue (has mid x j) ⊎ G j → IsTrue (has w x j) ⊎ G j
      had x j (inl a) = p.gains x j a
      had x j (inr g) = inr g

  -- one record is written
  effect_write : {w : WorldState} {e : Entity} {d : Record} {new : WorldState} → IsWrite w e d new → d.arity ≡ arity_of w e
      → ((j : Id) → (T j → ⊥) → find id_cmp j d.held ≡ find id_cmp j (held_by w e)) →
      ((j : Id) → IsTrue (is_some (find id_cmp j d.held)) → IsTrue (has w e j) ⊎ G j)
      → Effect kills w new T G
  effect_write {w = w} {e = e} {d = d} {new = new} write arity held gains = record {
    edition = write.edition;
    arity = λ k x. grind (arith, common_steps, same_or_apart);
    held = λ k x j h. grind (arith, common_steps, same_or_apart);
    gains = λ x j h. grind (arith, common_steps, same_or_apart);
  }

  -- the record of an entity is changed, where it lives
  effect_changed : (w : WorldState) (e : Entity) (change : Record → Record) → ((d : Record) → (change d).arity ≡ d.arity)
      → ((d : Record) (j : Id) → (T j → ⊥) → find id_cmp j (change d).held ≡ find id_cmp j d.held)
      → ((d : Record) (j : Id) → IsTrue (is_some (find id_cmp j (change d).held)) → IsTrue (is_some (find id_cmp j d.held)) ⊎ G j)
      → Effect kills w (changed w e change) T G
  effect_changed w e change arity held gains = go (record_of w e) refl
    where
      go : (o : Option Record) → record_of w e ≡ o → Effect kills w (with_entities w (indexed.change_kept (entities w) e change o)) T G
      go None at = effect_itself
      go (Some d) at =
          effect_write (write_known w e (change d) (open_living w e d at)) (arity d ∙ sym (ap arity_in at))
          (λ j h. held d j h ∙ sym (ap (λ o. find id_cmp j (held_in o)) at))
          (λ j h. subst (λ o. IsTrue (has_in o j) ⊎ G j) (sym at) (gains d j h))

-- ---- ids go

not_same : (i j : Id) → (j ≡ i → ⊥) → id_eq j i ≡ false
not_same i j n = off (id_eq j i) (λ e. n (id_eq_is j i e))

keeping_gains : (goes : Id → Bool) (o : Option Record) (j : Id) → IsTrue (has_in (option_map (keeping goes) o) j) → IsTrue (has_in o j)
keeping_gains goes None j h = h
keeping_gains goes (Some d) j h = kept_some (goes j) _ (ap is_some (sym (find_kept (λ k. not (goes k)) j d.held)) ∙ h)
  where
    kept_some : (b : Bool) (o : Option Value) → IsTrue (is_some (cond (not b) o None)) → IsTrue (is_some o)
    kept_some true o h = absurd (true≢false (sym h))
    kept_some false o h = h

keeping_held : (goes : Id → Bool) (o : Option Record) (j : Id) → goes j ≡ false →
    find id_cmp j (held_in (option_map (keeping goes) o)) ≡ find id_cmp j (held_in o)
keeping_held goes None j n = refl
keeping_held goes (Some d) j n = find_kept (λ k. not (goes k)) j d.held ∙ ap (λ b. cond (not b) (find id_cmp j d.held) None) n

keeping_arity : (goes : Id → Bool) (o : Option Record) → arity_in (option_map (keeping goes) o) ≡ arity_in o
keeping_arity goes None = refl
keeping_arity goes (Some d) = refl

-- ids of T go, and nobody dies
loses_effect : {kills : Bool} {T G : Id → Type 0} (w : WorldState) (goes : Entity → Id → Bool)
    → ((IsTrue kills → ⊥) → (x : Entity) (j : Id) → (T j → ⊥) → goes x j ≡ false) → Effect kills w (without w nobody goes) T G
loses_effect w goes stays = record {
  edition = refl;
  arity = λ k x. ap arity_in (record_left w nobody goes x) ∙ keeping_arity (goes x) (record_of w x);
  held = λ k x j n. ap (λ o. find id_cmp j (held_in o)) (record_left w nobody goes x) ∙ keeping_held (goes x) (record_of w x) j (stays k x j n);
  gains = λ x j h. inl (keeping_gains (goes x) (record_of w x) j (ap (λ o. has_in o j) (sym (record_left w nobody goes x)) ∙ h));
}

-- a mirror is one of the same relationship
twin_of : (w : WorldState) (x : Entity) (i j : Id) (m : Entity × Id) → mirror_of w x j ≡ Some m → m.1 ≡ i → IsTwin w i j
twin_of w x i j m is same =
    let p = mirror_parts w x j m is in
    let pair : Two p.0 x ≡ i = sym (ap (λ (y : Entity × Id). y.1) p.4) ∙ same in
    subst (λ y. IsTwin w y j) pair (subst (λ y. IsTwin w (Two p.0 x) y) (sym p.2) (p.3, refl))

-- what isn't touched stays, and so does what has its mirror elsewhere
stays_too : (w : WorldState) (i : Id) (goes : Entity → Id → Bool) → ((x : Entity) (j : Id) → (j ≡ i → ⊥) → goes x j ≡ false) →
    (x : Entity) (j : Id) → (Goes w i j → ⊥) → goes_too w goes x j ≡ false
stays_too w i goes stays x j n = by (mirror_of w x j) refl
  where
    by : (o : Option (Entity × Id)) → mirror_of w x j ≡ o → goes_too w goes x j ≡ false
    by None is = ap (λ o. at_mirror goes o || goes x j) is ∙ stays x j (λ k. n (inl k))
    by (Some m) is =
        ap (λ o. at_mirror goes o || goes x j) is
        ∙ ap (λ b. b || goes x j) (stays m.0 m.1 (λ k. n (inr (twin_of w x i j m is k)))) ∙ stays x j (λ k. n (inl k))

-- the ids that go are those of a test that i alone passes
goes_effect : {kills : Bool} {G : Id → Type 0} (w : WorldState) (i : Id) (goes : Entity → Id → Bool) →
    ((x : Entity) (j : Id) → (j ≡ i → ⊥) → goes x j ≡ false) → Effect kills w (without w nobody (goes_too w goes)) (Goes w i) G
goes_effect w i goes stays = loses_effect w (goes_too w goes) (λ tame. stays_too w i goes stays)

module _ {kills : Bool} {G : Id → Type 0} (w : WorldState) where
  pub removes_effect : (e : Entity) (i : Id) → Leads kills w (Goes w i) G (Removes w e i)
  removes_effect e i =
      unless w (unfit_actor w e) _ (λ why is. effect_itself)
      (from_answer _ (goes_effect w i (λ x j. entity_eq x e && id_eq j i) (λ x j n. and_right _ _ (not_same i j n))))

  pub removes_all_effect : (i : Id) → Leads kills w (Goes w i) G (RemovesAll w i)
  removes_all_effect i =
      either (is_builtins w i) _ _ (from_refusal Reserved w effect_itself) (from_answer _ (goes_effect w i (λ x j. id_eq j i) (λ x j n. not_same i j n)))

-- ---- the entities alone

module _ {kills : Bool} {T G : Id → Type 0} (w : WorldState) where
  in_world : (Step : Indexed Record → Result (Unit {0}) Refusal → Indexed Record → Type 0)
      → Follows (λ r v. Effect kills w (with_entities w v) T G) (Step (entities w)) → Leads kills w T G (OnEntities Step w)
  in_world Step follows = record { at = λ r new h. rw h.2 (follows.at r h.0 h.1) }

  pub renames_effect : (e : Entity) (name : Option (List ℕ)) → Leads kills w T G (Renames w e name)
  renames_effect e name =
      in_world (λ v. RenamesWith (λ r. r.name) with_name v e (is_builtin w e) name) (unless (entities w) (unfit_rename w e name) _ (λ why is. effect_itself)
      (from_answer _ (effect_changed w e (with_name name) (λ d. refl) (λ d j n. refl) (λ d j k. inl k))))

  -- a handle comes to live
  pub makes_alive_effect : (e : Entity) → Leads kills w T G (MakesAlive w e)
  makes_alive_effect e =
      in_world (λ v. MakesAliveWith v e (bare None)) (record { at = λ r v. by r v (is_free_at (entities w) e) refl })
    where
      effect : IsTrue (is_free_at (entities w) e) → Effect kills w (with_record w e (bare None)) T G
      effect free =
          let at : slice_get w.indices e.index ≡ Some (Free e.generation) = free_state (slice_get w.indices e.index) e.generation free in
          let dead : record_of w e ≡ None = ap (λ o. record_in o e.generation) at in
          effect_write
          (write_known w e (bare None)
          (record { within = slice_get_within w.indices e.index (Free e.generation) at; empty = λ g n. ap (λ o. record_in o g) at }))
          (sym (ap arity_in dead)) (λ j n. sym (ap (λ o. find id_cmp j (held_in o)) dead)) (λ j k. absurd (true≢false (sym k)))

      by : (r : Result (Unit {0}) Refusal) (v : Indexed Record) (b : Bool) → is_free_at (entities w) e ≡ b →
          MatchBool b (Answers tt (indexed.with_record (entities w) e (bare None)) r v) (Refuses Taken (entities w) r v) →
          Effect kills w (with_entities w v) T G
      by r v true free a = rw a.1 (effect free)
      by r v false free a = rw a.1 effect_itself

-- ---- add and set

or_none : (o : Option Value) → option_or o None ≡ o
or_none None = refl
or_none (Some v) = refl

pair_of : (r : Entity) (x : Id) → IsTrue (is_pair_of r x) → (u : Entity) × (x ≡ Two r u)
pair_of r (One e) h = absurd (true≢false (sym h))
pair_of r (Two q u) h = (u, ap (λ y. Two y u) (sym (entity_eq_is r q h)))

module _ (w : WorldState) (i : Id) (s : List Id) (closure : IsClosure w i s) where
  not_in : (j : Id) → (Touches w i j → ⊥) → has_item id_cmp s j ≡ false
  not_in j n = off (has_item id_cmp s j) (λ e. n (inl ((closure.exact j).0 e)))

  evicted : (j : Id) → IsTrue (is_replaced w s j) → IsEvicted w i j
  evicted (One e) h = absurd (true≢false (sym h))
  evicted (Two r t) h =
      let some : IsTrue (list_any (is_pair_of r) s) = first _ (not (has_item id_cmp s (Two r t))) (second (is_exclusive w r) _ h) in
      let item = any_is (is_pair_of r) s some in
      let pair = pair_of r item.0 item.1 in (
        first (is_exclusive w r) _ h,
        pair.0,
        (closure.exact (Two r pair.0)).0 (subst (λ x. IsTrue (has_item id_cmp s x)) pair.1 (item.2 (λ y. id_eq y item.0) (id_eq_itself item.0))),
      )

  not_replaced : (j : Id) → (Touches w i j → ⊥) → is_replaced w s j ≡ false
  not_replaced j n = off (is_replaced w s j) (λ e. n (inr (inl (evicted j e))))

  closure_held : (d : Record) (j : Id) → (Touches w i j → ⊥) → find id_cmp j (with_closure w s d).held ≡ find id_cmp j d.held
  closure_held d j n =
      closure_find w s d j
      ∙ (λ k. option_or (cond (not (not_replaced j n k)) (find id_cmp j d.held) None) (cond (not_in j n k) (Some zeros) None))
      ∙ or_none (find id_cmp j d.held)

  closure_gains : (d : Record) (j : Id) → IsTrue (is_some (find id_cmp j (with_closure w s d).held))
      → IsTrue (is_some (find id_cmp j d.held)) ⊎ Given w i j
  closure_gains d j h =
      either_some (not (is_replaced w s j)) (has_item id_cmp s j) (find id_cmp j d.held) (λ m. (closure.exact j).0 m)
      (ap is_some (sym (closure_find w s d j)) ∙ h)
    where
      either_some : (a b : Bool) (o : Option Value) → (IsTrue b → InClosure w i j) →
          IsTrue (is_some (option_or (cond a o None) (cond b (Some zeros) None))) → IsTrue (is_some o) ⊎ Given w i j
      either_some a true o within h = inr (inl (within refl))
      either_some true false None within h = absurd (true≢false (sym h))
      either_some true false (Some v) within h = inl refl
      either_some false false o within h = absurd (true≢false (sym h))

-- the mirror comes
mirror_effect : {kills : Bool} (w half : WorldState) (e : Entity) (i : Id) (o : Option (Entity × Id)) → mirror_of w e i ≡ o →
    Effect kills half (with_mirror half o) (Touches w i) (Given w i)
mirror_effect w half e i None is = effect_itself
mirror_effect w half e i (Some m) is =
    effect_changed half m.0 (with_id m.1) (λ d. refl)
    (λ d j n. zero_find d.held m.1 j ∙ ap (λ b. option_or (find id_cmp j d.held) (cond b (Some zeros) None))
    (not_same j m.1 (λ k. n (inr (inr (twin j k)))))
    ∙ or_none (find id_cmp j d.held))
    (λ d j h. came d j (some_of (find id_cmp j (with_id m.1 d).held) h))
  where
    twin : (j : Id) → m.1 ≡ j → IsTwin w i j
    twin j same =
        let p = mirror_parts w e i m is in
        let pair : Two p.0 e ≡ j = sym (ap (λ (y : Entity × Id). y.1) p.4) ∙ same in
        subst (λ y. IsTwin w y j) (sym p.2) (subst (λ y. IsTwin w (Two p.0 p.1) y) pair (p.3, refl))

    came : (d : Record) (j : Id) → (v : Value) × (find id_cmp j (with_id m.1 d).held ≡ Some v) → IsTrue (is_some (find id_cmp j d.held)) ⊎ Given w i j
    came d j v = elim (zero_entry d.held m.1 j v.0 v.1) as (λ _. IsTrue (is_some (find id_cmp j d.held)) ⊎ Given w i j) [
      | inl h ↦ inl (ap is_some h)
      | inr p ↦ inr (inr (twin j p.0))
    ]

-- what is done besides the closure touches no more than the add
abbrev Besides : Bool → WorldState → Entity → Id → (Record → Record) → Type 0
Besides kills w e i besides = (v : WorldState) → Effect kills v (changed v e besides) (Touches w i) (Given w i)

module _ {kills : Bool} (w : WorldState) (e : Entity) (i : Id) where
  extends_effect : (besides : Record → Record) → Besides kills w e i besides → Leads kills w (Touches w i) (Given w i) (Extends w e i besides)
  extends_effect besides more = record { at = λ r new x. (ends x.0 x.1 x.2).at r new x.4 }
    where
      ends : (s : List Id) → IsClosure w i s → (o : Option Refusal) →
          Leads kills w (Touches w i) (Given w i) (λ r new. MatchOption o (Answers tt (changed (grown w e i s) e besides) r new) (λ why. Refuses why w r new))
      ends s closure o =
          let half : Effect kills w (changed w e (with_closure w s)) (Touches w i) (Given w i) =
          effect_changed w e (with_closure w s) (λ d. refl) (closure_held w i s closure) (closure_gains w i s closure) in
          unless w o _ (λ why is. effect_itself)
          (from_answer _ (effect_then half (effect_then (mirror_effect w (changed w e (with_closure w s)) e i (mirror_of w e i) refl) (more (grown w e i s)))))

  pub adds_effect : Leads kills w (Touches w i) (Given w i) (Adds w e i)
  adds_effect =
      unless w (unfit w e i) _ (λ why is. effect_itself)
      (either (has w e i) _ _ (from_answer w effect_itself)
      (extends_effect unchanged (λ v. effect_changed v e unchanged (λ d. refl) (λ d j n. refl) (λ d j h. inl h))))

  value_besides : (v : Value) → Besides kills w e i (with_value i v)
  value_besides v u =
      effect_changed u e (with_value i v) (λ d. refl)
      (λ d j n. find-put id_cmp id_cmp_total j i v d.held ∙ ap (λ b. cond b (Some v) (find id_cmp j d.held)) (not_same i j (λ k. n (inl (root k)))))
      (λ d j h. there d j (id_eq j i) refl (ap is_some (sym (find-put id_cmp id_cmp_total j i v d.held)) ∙ h))
    where
      there : (d : Record) (j : Id) (b : Bool) → id_eq j i ≡ b → IsTrue (is_some (cond b (Some v) (find id_cmp j d.held))) →
          IsTrue (is_some (find id_cmp j d.held)) ⊎ Given w i j
      there d j true e h = inr (inl (root (id_eq_is j i e)))
      there d j false e h = inl h

  pub sets_effect : (v : Value) → Leads kills w (Touches w i) (Given w i) (Sets w e i v)
  sets_effect v =
      unless w (unfit_set w e i v) _ (λ why is. effect_itself)
      (either (has w e i) _ _ (from_answer _ (value_besides v w)) (extends_effect (with_value i v) (value_besides v)))

-- ---- what kills gives nothing

module _ {kills : Bool} (kill : IsTrue kills) {T G : Id → Type 0} (w : WorldState) where
  pub clears_effect : (e : Entity) → Leads kills w T G (Clears w e)
  clears_effect e =
      unless w (unfit_actor w e) _ (λ why is. effect_itself)
      (from_answer _ (loses_effect w (goes_too w (λ x j. entity_eq x e)) (λ tame. absurd (tame kill))))

  deletes_effect : (IsRoot : Entity → Type 0) → Leads kills w T G (Deletes w IsRoot)
  deletes_effect IsRoot = record { at = λ r new h. ends h.0 r new h.2 }
    where
      left : (b : Bool) (goes : Id → Bool) (o : Option Record) (j : Id) → IsTrue (has_in (cond b None (option_map (keeping goes) o)) j)
          → IsTrue (has_in o j)
      left true goes o j h = absurd (true≢false (sym h))
      left false goes o j h = keeping_gains goes o j h

      ends : (members : List Entity) (r : Result (Unit {0}) Refusal) (new : WorldState) → Ends w members r new → Effect kills w new T G
      ends members (Ok done) new k = record {
        edition = ap (λ (v : WorldState). v.edition) k.0;
        arity = λ tame. absurd (tame kill);
        held = λ tame. absurd (tame kill);
        gains = λ x j g. inl (left (has_item entity_cmp members x) (names_any members) (record_of w x) j
            (ap (λ o. has_in o j) (sym (record_left w (has_item entity_cmp members) (λ e i. names_any members i) x)) ∙ ap (λ v. has v x j) (sym k.0)
            ∙ g));
      }
      ends members (Err why) new k = rw k.0 effect_itself

  pub deletes_one_effect : (e : Entity) → Leads kills w T G (DeletesOne w e)
  deletes_one_effect e = unless w (unfit_actor w e) _ (λ why is. effect_itself) (deletes_effect (λ x. x ≡ e))

  pub deletes_with_effect : (i : Id) → Leads kills w T G (DeletesWith w i)
  deletes_with_effect i = either (is_builtins w i) _ _ (from_refusal Reserved w effect_itself) (deletes_effect (λ x. IsTrue (has w x i)))
