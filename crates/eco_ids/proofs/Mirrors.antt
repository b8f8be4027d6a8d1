-- Mirrors and clashes, relationship by relationship, and what keeps them.
use Rattle.eco_ids.proofs.Facts.{off}
use Rattle.eco_ids.proofs.Passing.{found_living, living_found}
use Rattle.eco_ids.proofs.Common.{◌≡◌, Bool, true, false, cond, ◌||◌, List, [], ◌∷◌, is_some, IsTrue, IsFalse}
use Rattle.eco_ids.proofs.Common.{Some, None, Option, option_map, unwrap_or, sym, refl, ap, ◌∙◌, subst, inl, inr, true≢false, find, list_any, none-some}
use Rattle.eco_ids.proofs.Common.{same_Some, Edition, First, Second, Entity, ACYCLIC, WITH, EXCLUSIVE, SYMMETRIC, Id, Two, One, Value}
use Rattle.eco_ids.proofs.Common.{IsLawful, IsOrderly, KeepsEdition, IsMirrored, id_cmp, id_eq, WorldState}
use Rattle.eco_ids.proofs.Common.{Record, has, record_of, entities, living, held_by, is_exclusive, is_acyclic, is_symmetric, has_symmetric, mirror_of}
use Rattle.eco_ids.proofs.Common.{mirrored_pair}
use Rattle.eco_ids.proofs.Common.{is_with, is_clashing, has_clash}
use Rattle.eco_ids.proofs.Ascending.{both, first, second}
use Rattle.eco_ids.proofs.Facts.{any_is, id_eq_is, id_eq_itself, not_both, or_left, or_parts, or_right}
use Rattle.eco_ids.proofs.Keeps.{entry_of}
use Rattle.eco_ids.proofs.Overlaps.{entity_eq_is}

-- ---- the living who pass a test

module _ (t : Entity × Record → Bool) (w : WorldState) where
  pub living_some : IsTrue (list_any t (living w)) → (e : Entity) × (r : Record) × (record_of w e ≡ Some r) × IsTrue (t (e, r))
  living_some = living_found t (entities w)

  pub some_living : (e : Entity) (r : Record) → record_of w e ≡ Some r → IsTrue (t (e, r)) → IsTrue (list_any t (living w))
  some_living = found_living t (entities w)

-- ---- clashes

-- no symmetric relationship is exclusive or acyclic, and none has a pair of With or is the target of one
pub record IsCalm (w : WorldState) : Type 0 where
  pub exclusive : (r : Entity) → IsTrue (is_symmetric w r) → IsTrue (is_exclusive w r) → ⊥
  pub acyclic : (r : Entity) → IsTrue (is_symmetric w r) → IsTrue (is_acyclic w r) → ⊥
  pub holder : (r x : Entity) → IsTrue (is_symmetric w r) → IsTrue (has w r (Two WITH x)) → ⊥
  pub target : (r x : Entity) → IsTrue (is_symmetric w r) → IsTrue (has w x (Two WITH r)) → ⊥

pub entry_any : (t : Id → Bool) (i : Id) (v : Value) (es : List (Id × Value)) → IsTrue (t i) → find id_cmp i es ≡ Some v
    → IsTrue (list_any (λ e. t e.0) es)
entry_any t i v [] p h = absurd (none-some v h)
entry_any t i v (e ∷ es) p h =
    elim (id_eq i e.0) as (λ b. id_eq i e.0 ≡ b → cond b (Some e.1) (find id_cmp i es) ≡ Some v → IsTrue (t e.0 || list_any (λ e. t e.0) es)) [
      | true ↦ λ m k. or_left (t e.0) _ (subst (λ x. IsTrue (t x)) (id_eq_is i e.0 m) p)
      | false ↦ λ m k. or_right (t e.0) _ (entry_any t i v es p k)
    ] refl h

any_entry : (j : Id) (es : List (Id × Value)) → IsTrue (list_any (λ h. id_eq j h.0) es) → IsTrue (is_some (find id_cmp j es))
any_entry j [] h = absurd (true≢false (sym h))
any_entry j (e ∷ es) h =
    elim (id_eq j e.0) as (λ b. IsTrue (b || list_any (λ h. id_eq j h.0) es) → IsTrue (is_some (cond b (Some e.1) (find id_cmp j es)))) [
      | true ↦ λ k. refl
      | false ↦ λ k. any_entry j es k
    ] h

pub with_is : (j : Id) → IsTrue (is_with j) → (x : Entity) × (j ≡ Two WITH x)
with_is (One c) h = absurd (true≢false (sym h))
with_is (Two r t) h = (t, ap (λ y. Two y t) (entity_eq_is r WITH h))

-- a pair of With among what it has
pub held_pair : (w : WorldState) (r : Entity) → IsTrue (list_any (λ h. is_with h.0) (held_by w r)) → (x : Entity) × IsTrue (has w r (Two WITH x))
held_pair w r h =
    let item = any_is (λ h. is_with h.0) (held_by w r) h in
    let pair = with_is item.0.0 item.1 in
    let there : IsTrue (has w r item.0.0) = any_entry item.0.0 (held_by w r) (item.2 (λ h. id_eq item.0.0 h.0) (id_eq_itself item.0.0)) in
    (pair.0, subst (λ j. IsTrue (has w r j)) pair.1 there)

-- what a symmetric one may not be
abbrev pub rest_of : WorldState → Entity → Bool
rest_of w r =
    is_exclusive w r || (is_acyclic w r || (list_any (λ h. is_with h.0) (held_by w r) || list_any (λ p. has w p.0 (Two WITH r)) (living w)))

module _ (w : WorldState) where
  clash_at : (r : Entity) → IsTrue (is_symmetric w r) → IsTrue (rest_of w r) → IsTrue (has_clash w)
  clash_at r symmetric rest =
      let d = entry_of (record_of w r) (One SYMMETRIC) (second (has_symmetric w.edition) _ symmetric) in
      both (has_symmetric w.edition) _ (first (has_symmetric w.edition) _ symmetric)
      (some_living (λ p. is_clashing w p.0) w r d.0 d.2 (both (is_symmetric w r) _ symmetric rest))

  pub held_with : (x y : Entity) → IsTrue (has w x (Two WITH y)) → IsTrue (list_any (λ h. is_with h.0) (held_by w x))
  held_with x y h =
      let q = entry_of (record_of w x) (Two WITH y) h in
      ap (λ (o : Option Record). list_any (λ h. is_with h.0) (unwrap_or (option_map (λ r. r.held) o) [])) q.2
      ∙ entry_any is_with (Two WITH y) q.1 q.0.held refl q.3

  pub living_with : (x y : Entity) → IsTrue (has w x (Two WITH y)) → IsTrue (list_any (λ p. has w p.0 (Two WITH y)) (living w))
  living_with x y h = let q = entry_of (record_of w x) (Two WITH y) h in some_living (λ p. has w p.0 (Two WITH y)) w x q.0 q.2 h

  pub calm_from : IsFalse (has_clash w) → IsCalm w
  calm_from none = record {
    exclusive = λ r s h. not_both (clash_at r s (or_left (is_exclusive w r) _ h)) none;
    acyclic = λ r s h. not_both (clash_at r s (or_right (is_exclusive w r) _ (or_left (is_acyclic w r) _ h))) none;
    holder = λ r x s h.
        not_both (clash_at r s (or_right (is_exclusive w r) _ (or_right (is_acyclic w r) _ (or_left _ _ (held_with r x h))))) none;
    target = λ r x s h. not_both (clash_at r s (or_right (is_exclusive w r) _ (or_right (is_acyclic w r) _
        (or_right (list_any (λ h. is_with h.0) (held_by w r)) _ (living_with x r h))))) none;
  }

  clashes : IsCalm w → IsTrue (has_clash w) → ⊥
  clashes c h =
      let e = living_some (λ p. is_clashing w p.0) w (second (has_symmetric w.edition) _ h) in
      let s : IsTrue (is_symmetric w e.0) = first (is_symmetric w e.0) _ e.3 in
      elim (or_parts (is_exclusive w e.0) _ (second (is_symmetric w e.0) _ e.3)) as (λ _. ⊥) [
        | inl a ↦ c.exclusive e.0 s a
        | inr m ↦ elim (or_parts (is_acyclic w e.0) _ m) as (λ _. ⊥) [
          | inl a ↦ c.acyclic e.0 s a
          | inr n ↦ elim (or_parts (list_any (λ h. is_with h.0) (held_by w e.0)) _ n) as (λ _. ⊥) [
            | inl a ↦ let p = held_pair w e.0 a in c.holder e.0 p.0 s p.1
            | inr a ↦ let x = living_some (λ p. has w p.0 (Two WITH e.0)) w a in c.target e.0 x.0 s x.3
          ]
        ]
      ]

  pub calm_to : IsCalm w → IsFalse (has_clash w)
  calm_to c = off (has_clash w) (clashes c)

-- ---- what an edition asks is kept

keeps_edition : (w new : WorldState) → new.edition ≡ w.edition → (IsTrue (has_symmetric w.edition) → IsMirrored w → IsMirrored new) →
    KeepsEdition w.edition w → KeepsEdition new.edition new
keeps_edition w new same go h = subst (λ d. KeepsEdition d new) (sym same) (by w.edition refl h)
  where
    by : (d : Edition) → w.edition ≡ d → KeepsEdition d w → KeepsEdition d new
    by First e k = tt
    by Second e k = go (ap has_symmetric e) k

pub lawful_after : {w new : WorldState} → IsLawful w → IsOrderly new → new.edition ≡ w.edition →
    (IsTrue (has_symmetric w.edition) → IsMirrored w → IsMirrored new) → IsLawful new
lawful_after {w = w} {new = new} l orderly same go = record { orderly = orderly; edition = keeps_edition w new same go l.edition }

-- where the trait was there before
pub symmetric_before : (w new : WorldState) (r : Entity) → new.edition ≡ w.edition →
    (IsTrue (has new r (One SYMMETRIC)) → IsTrue (has w r (One SYMMETRIC))) → IsTrue (is_symmetric new r) → IsTrue (is_symmetric w r)
symmetric_before w new r same had h =
    both (has_symmetric w.edition) _ (ap has_symmetric (sym same) ∙ first (has_symmetric new.edition) _ h) (had (second (has_symmetric new.edition) _ h))

-- a symmetric pair has its mirror
pub mirror_is : (w : WorldState) (e r t : Entity) → IsTrue (is_symmetric w r) → mirror_of w e (Two r t) ≡ Some (t, Two r e)
mirror_is w e r t h =
    ap (λ b. cond b (mirrored_pair w e (Two r t)) None) (first (has_symmetric w.edition) _ h)
    ∙ ap (λ b. cond b (Some (t, Two r e)) None) h

-- and nothing else has one
pub mirror_parts : (w : WorldState) (e : Entity) (i : Id) (m : Entity × Id) → mirror_of w e i ≡ Some m →
    (r : Entity) × (t : Entity) × (i ≡ Two r t) × IsTrue (is_symmetric w r) × (m ≡ (t, Two r e))
mirror_parts w e i m h = by i (has_symmetric w.edition) h
  where
    pair : (r t : Entity) (b : Bool) → is_symmetric w r ≡ b → cond b (Some (t, Two r e)) None ≡ Some m →
        (q : Entity) × (u : Entity) × (Two r t ≡ Two q u) × IsTrue (is_symmetric w q) × (m ≡ (u, Two q e))
    pair r t true s k = (r, t, refl, s, sym (same_Some (t, Two r e) m k))
    pair r t false s k = absurd (none-some m k)

    by : (j : Id) (b : Bool) → cond b (mirrored_pair w e j) None ≡ Some m →
        (q : Entity) × (u : Entity) × (j ≡ Two q u) × IsTrue (is_symmetric w q) × (m ≡ (u, Two q e))
    by j false k = absurd (none-some m k)
    by (One c) true k = absurd (none-some m k)
    by (Two r t) true k = pair r t (is_symmetric w r) refl k

-- where no id comes, nothing clashes
pub calm_fewer : (w new : WorldState) → new.edition ≡ w.edition → ((x : Entity) (i : Id) → IsTrue (has new x i) → IsTrue (has w x i)) → IsCalm w
    → IsCalm new
calm_fewer w new same had c = record {
  exclusive = λ r s h. c.exclusive r (before r s) (had r (One EXCLUSIVE) h);
  acyclic = λ r s h. c.acyclic r (before r s) (had r (One ACYCLIC) h);
  holder = λ r x s h. c.holder r x (before r s) (had r (Two WITH x) h);
  target = λ r x s h. c.target r x (before r s) (had x (Two WITH r) h);
}
  where
    before : (r : Entity) → IsTrue (is_symmetric new r) → IsTrue (is_symmetric w r)
    before r = symmetric_before w new r same (had r (One SYMMETRIC))

-- where who has what stays, the mirrors do
pub mirrored_same : (w new : WorldState) → new.edition ≡ w.edition → ((x : Entity) (i : Id) → has new x i ≡ has w x i) → IsMirrored w
    → IsMirrored new
mirrored_same w new same equal m = record {
  mirrors = λ r a b s edge. equal b (Two r a) ∙ m.mirrors r a b (symmetric_before w new r same (had r (One SYMMETRIC)) s) (had a (Two r b) edge);
  calm = calm_to new (calm_fewer w new same had (calm_from w m.calm));
}
  where
    had : (x : Entity) (i : Id) → IsTrue (has new x i) → IsTrue (has w x i)
    had x i h = sym (equal x i) ∙ h

-- a lawful world of an edition that has them has its mirrors
pub mirrored_of : (w : WorldState) → IsLawful w → IsTrue (has_symmetric w.edition) → IsMirrored w
mirrored_of w l = by w.edition l.edition
  where
    by : (d : Edition) → KeepsEdition d w → IsTrue (has_symmetric d) → IsMirrored w
    by First k h = absurd (true≢false (sym h))
    by Second k h = k
