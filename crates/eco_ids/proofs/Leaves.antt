-- Exactly which ids and values an add and a delete leave.
use Rattle.eco_ids.proofs.Losses.{nothing_left}
use Rattle.eco_ids.proofs.Common.{◌≡◌, Bool, true, false, cond, not, List, [], IsTrue, IsFalse, Some, None, Ok, Option, option_map, unwrap_or, sym, subst}
use Rattle.eco_ids.proofs.Common.{true≢false}
use Rattle.eco_ids.proofs.Common.{refl, ap, ◌∙◌, arith, MatchOption, MatchBool, Refuses, Answers, changed, unchanged, unfit, Extends, Refusal, Reserved}
use Rattle.eco_ids.proofs.Common.{NotAlive, DeadId, Two, find, option_or, common_steps, Entity, Id, Value, after_delete, Deletes, names_any}
use Rattle.eco_ids.proofs.Common.{DeletesOne, DeletesWith, keeping, id_cmp, has_item, entity_cmp, Adds, IsClosure, with_closure, grown, is_replaced, WorldState}
use Rattle.eco_ids.proofs.Common.{Record, has, record_of, zeros, is_alive, names_living, is_reserved, with_id, with_mirror, mirror_of, id_eq}
use Rattle.std.specs.Option.{option_and_then}
use Rattle.eco_ids.specs.Laws.{AddLeaves, DeleteLeaves}
use Rattle.eco_ids.proofs.Adds.{half}
use Rattle.eco_ids.proofs.Ascending.{second}
use Rattle.eco_ids.proofs.Closures.{find_kept}
use Rattle.eco_ids.proofs.Exact.{closure_find, zero_find}
use Rattle.eco_ids.proofs.Facts.{not_ok}
use Rattle.eco_ids.proofs.Grown.{grown_alive, grown_at, grown_each}
use Rattle.eco_ids.proofs.Keeps.{some_of}
use Rattle.eco_ids.proofs.Losses.{record_left}
use Rattle.eco_ids.proofs.Mirrors.{mirror_parts}
use Rattle.eco_ids.proofs.Records.{changed_apart, changed_unchanged, write_change}
use Rattle.eco_ids.proofs.Steps.{has_itself, passed, was_true}

-- the ids of a record
abbrev held_in : Option Record → List (Id × Value)
held_in o = unwrap_or (option_map (λ r. r.held) o) []

leaves_grown : (w : WorldState) (e : Entity) (i : Id) (s : List Id) (d : Record) → record_of w e ≡ Some d → IsTrue (names_living w i) →
    IsClosure w i s → AddLeaves w e i (grown w e i s)
leaves_grown w e i s d at named closure = record {
  closure = s;
  is_closure = closure;
  values = λ j.
      ap (λ o. find id_cmp j (held_in o)) (grown_at w e i s d at (has_itself w i s closure))
      ∙ closure_find w s d j
      ∙ ap (λ o. option_or (cond (not (is_replaced w s j)) (find id_cmp j (held_in o)) None) (cond (has_item id_cmp s j) (Some zeros) None)) (sym at);
  mirror = λ m is n j.
      let p = mirror_parts w e i m is in
      let holder : m.0 ≡ p.1 = ap (λ (x : Entity × Id). x.0) p.4 in
      let both_live : IsTrue (names_living w (Two p.0 p.1)) = subst (λ k. IsTrue (names_living w k)) p.2 named in
      let lives : IsTrue (is_alive w m.0) = ap (is_alive w) holder ∙ second (is_alive w p.0) (is_alive w p.1) both_live in
      let here = some_of (record_of w m.0) lives in
      let half_at : record_of (half w e s) m.0 ≡ Some here.0 = changed_apart w e (with_closure w s) m.0 n ∙ here.1 in
      ap (λ o. find id_cmp j (held_in (record_of (with_mirror (half w e s) o) m.0))) is
      ∙ ap (λ o. find id_cmp j (held_in o)) (write_change (half w e s) m.0 (with_id m.1) here.0 half_at).at
      ∙ zero_find here.0.held m.1 j
      ∙ ap (λ o. option_or (find id_cmp j (held_in o)) (cond (id_eq m.1 j) (Some zeros) None)) (sym here.1);
  others = λ x n apart. ap held_in (other x n apart (mirror_of w e i) refl);
  name = grown_each w e i s (λ o. option_and_then (λ (r : Record). r.name) o) (λ q. refl) (λ j q. refl);
  arity = grown_each w e i s (λ o. option_and_then (λ (r : Record). r.arity) o) (λ q. refl) (λ j q. refl);
  alive = grown_alive w e i s;
}
  where
    other : (x : Entity) → (x ≡ e → ⊥) → ((m : Entity × Id) → mirror_of w e i ≡ Some m → x ≡ m.0 → ⊥) → (o : Option (Entity × Id)) →
        mirror_of w e i ≡ o → record_of (with_mirror (half w e s) o) x ≡ record_of w x
    other x n apart None is = changed_apart w e (with_closure w s) x n
    other x n apart (Some m) is = changed_apart (half w e s) m.0 (with_id m.1) x (apart m is) ∙ changed_apart w e (with_closure w s) x n

pub adds_leave : (w : WorldState) (e : Entity) (i : Id) (new : WorldState) → IsFalse (has w e i) → Adds w e i (Ok tt) new → AddLeaves w e i new
adds_leave w e i new absent = go (unfit w e i) refl
  where
    done : (d : Record) → record_of w e ≡ Some d → IsTrue (names_living w i) → (s : List Id) → IsClosure w i s → (verdict : Option Refusal) →
        MatchOption verdict (Answers {A = Unit {0}} tt (changed (grown w e i s) e unchanged) (Ok tt) new) (λ why. Refuses {A = Unit {0}} why w (Ok tt) new) →
        AddLeaves w e i new
    done d at named s closure None a = subst (AddLeaves w e i) (sym (a.1 ∙ changed_unchanged (grown w e i s) e)) (leaves_grown w e i s d at named closure)
    done d at named s closure (Some why) a = absurd (not_ok a.0)

    extended : unfit w e i ≡ None → (b : Bool) → IsFalse b →
        MatchBool b (Answers {A = Unit {0}} tt w (Ok tt) new) (Extends w e i unchanged (Ok tt) new) → AddLeaves w e i new
    extended fit true apart h = absurd (true≢false apart)
    extended fit false apart x =
        let one = passed (not (is_alive w e)) NotAlive _ fit in
        let two = passed (is_reserved w e i) Reserved _ one.1 in
        let three = passed (not (names_living w i)) DeadId _ two.1 in
        let here = some_of (record_of w e) (was_true _ one.0) in
        done here.0 here.1 (was_true _ three.0) x.0 x.1 x.2 x.4

    go : (o : Option Refusal) → unfit w e i ≡ o →
        MatchOption o (MatchBool (has w e i) (Answers {A = Unit {0}} tt w (Ok tt) new) (Extends w e i unchanged (Ok tt) new))
        (λ why. Refuses {A = Unit {0}} why w (Ok tt) new) → AddLeaves w e i new
    go None fit h = extended fit (has w e i) absent h
    go (Some why) fit h = absurd (not_ok h.0)

-- an entity that doesn't die keeps the ids that name no doomed one
module _ (w : WorldState) (members : List Entity) (x : Entity) where
  left : IsFalse (has_item entity_cmp members x) → record_of (after_delete w members) x ≡ option_map (keeping (names_any members)) (record_of w x)
  left h = record_left w (has_item entity_cmp members) (λ e i. names_any members i) x
      ∙ ap (λ b. cond b None (option_map (keeping (names_any members)) (record_of w x))) h

  gone : IsTrue (has_item entity_cmp members x) → record_of (after_delete w members) x ≡ None
  gone h = record_left w (has_item entity_cmp members) (λ e i. names_any members i) x
      ∙ ap (λ b. cond b None (option_map (keeping (names_any members)) (record_of w x))) h

  kept_values : (o : Option Record) (j : Id) → find id_cmp j (held_in (option_map (keeping (names_any members)) o))
      ≡ cond (names_any members j) None (find id_cmp j (held_in o))
  kept_values None j = nothing_left (names_any members j)
  kept_values (Some r) j = grind (arith, common_steps, find_kept)

  kept_name : (o : Option Record) → option_and_then (λ r. r.name) (option_map (keeping (names_any members)) o) ≡ option_and_then (λ r. r.name) o
  kept_name None = refl
  kept_name (Some r) = refl

  kept_arity : (o : Option Record) → option_and_then (λ r. r.arity) (option_map (keeping (names_any members)) o) ≡ option_and_then (λ r. r.arity) o
  kept_arity None = refl
  kept_arity (Some r) = refl

deletes_leave : (w : WorldState) (IsRoot : Entity → Type 0) (new : WorldState) → Deletes w IsRoot (Ok tt) new → DeleteLeaves w IsRoot new
deletes_leave w IsRoot new d = grind (arith, common_steps, gone, left, kept_values, kept_name, kept_arity)

pub deletes_one_leaves : (e : Entity) (w : WorldState) (new : WorldState) → DeletesOne w e (Ok tt) new → DeleteLeaves w (λ x. x ≡ e) new
deletes_one_leaves e w new = grind (arith, common_steps, not_ok, deletes_leave)

pub deletes_with_leaves : (i : Id) (w : WorldState) (new : WorldState) → DeletesWith w i (Ok tt) new → DeleteLeaves w (λ x. IsTrue (has w x i)) new
deletes_with_leaves i w new = grind (arith, common_steps, not_ok, deletes_leave)
