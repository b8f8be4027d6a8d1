-- What stands against a closure.
use Rattle.eco_traits.proofs.Common.{common_steps, ◌≡◌, ℕ, zero, suc, ◌+◌, ◌<◌, false, ◌||◌, ◌⊎◌, inl, inr, List, [], ◌∷◌}
use Rattle.eco_traits.proofs.Common.{same_tests, length, take, get_or, refl, sym, ap, ◌∙◌, subst, true≢false, IsTrue, ◌↔◌, map, unwrap_or, Ok}
use Rattle.eco_traits.proofs.Common.{Err, Bool, true, cond, MatchBool, Option, Some, None, option_map, is_lt, arith, take_more, list_any, Entity, Id, Two}
use Rattle.eco_traits.proofs.Common.{Refusal, Cycle, InUse, NotAPolicy, TraitClash, late_traits, has_clash, is_with, would_clash, id_cmp, id_eq, entity_cmp}
use Rattle.eco_traits.proofs.Common.{has_item, is_ascending, IsClosure, IsFirstCycle, Judges, grown, is_late, is_used, is_wrong_policy, Value, WITH}
use Rattle.eco_traits.proofs.Common.{WorldState, Record, has, held_by, is_alive, living, names_living, record_of, entry_of, some_of, or_left}
use Rattle.eco_traits.proofs.Common.{same_relationship, all_item, id_cmp_total, same_id, first, second, or_parts, or_right, id_eq_is, entity_cmp_total}
use Rattle.eco_traits.proofs.Common.{ClosesBy, FindsType, IsClosedBy, IsSound, AddLeadsTo, extended_by, left_by, type_of_record}
use Rattle.std.specs.Option.{option_or}
use Rattle.std.specs.Cmp.{tied_itself}
use Rattle.std.specs.Ordering.{is_le}
use Rattle.eco_ids.specs.Outcome.{is_out_of_memory}
use Rattle.eco_ids.proofs.Clashes.{clash_is_local}
use Rattle.eco_ids.proofs.Mirrors.{living_some, some_living}
use Rattle.eco_traits.proofs.Members.{only, has_get, has_append}
use Rattle.eco_traits.proofs.Joined.{lacked, leads_to, some_record}

-- ---- ascending ids

-- an item stands before the place, at it, or above what is there
before_or_above : (xs : List Id) (k : ℕ) (d y : Id) → IsTrue (is_ascending id_cmp xs) → k < length xs → IsTrue (has_item id_cmp xs y)
    → IsTrue (has_item id_cmp (take k xs) y) ⊎ ((get_or xs k d ≡ y) ⊎ IsTrue (is_lt (id_cmp (get_or xs k d) y)))
before_or_above [] k d y up l h = absurd (true≢false (sym h))
before_or_above (x ∷ xs) zero d y up l h = elim (or_parts (id_eq x y) (has_item id_cmp xs y) h) as (λ _. IsTrue (has_item id_cmp (take zero (x ∷ xs)) y) ⊎
    ((x ≡ y) ⊎ IsTrue (is_lt (id_cmp x y)))) [
      | inl n ↦ inr (inl (id_eq_is x y n))
      | inr n ↦ inr (inr (all_item id_cmp_total same_id (λ z. is_lt (id_cmp x z)) xs y (first _ _ up) n))
    ]
before_or_above (x ∷ xs) (suc k) d y up l h = elim (or_parts (id_eq x y) (has_item id_cmp xs y) h) as (λ _. IsTrue
    (id_eq x y || has_item id_cmp (take k xs) y) ⊎ ((get_or xs k d ≡ y) ⊎ IsTrue (is_lt (id_cmp (get_or xs k d) y)))) [
      | inl n ↦ inl (or_left _ _ n)
      | inr n ↦ elim (before_or_above xs k d y (second _ _ up) (omega arith) n) as (λ _. IsTrue (id_eq x y || has_item id_cmp (take k xs) y) ⊎
          ((get_or xs k d ≡ y) ⊎ IsTrue (is_lt (id_cmp (get_or xs k d) y)))) [
            | inl m ↦ inl (or_right _ _ m)
            | inr m ↦ inr m
          ]
    ]

below_by_relationship : (r q t u : Entity) → IsTrue (is_lt (id_cmp (Two r t) (Two q u))) → IsTrue (is_le (entity_cmp r q))
below_by_relationship r q t u = grind (arith, common_steps, is_lt)

-- ---- traits that come too late

-- where no pairs of the entity are about, none does
pub none_late : (w : WorldState) (e : Entity) (s : List Id) (traits : List Entity) → is_used w e ≡ false → false ≡ list_any (is_late w e s) traits
none_late w e s [] unused = refl
none_late w e s (trait ∷ traits) unused = grind (arith, common_steps, none_late w e s traits)

-- ---- cycles

abbrev pub NoneCloses : WorldState → Entity → List Id → Type 0
NoneCloses w e s = (j : Id) (r : Entity) → IsTrue (has_item id_cmp s j) → ClosesBy w e j r → ⊥

pub no_cycle : (w : WorldState) (e : Entity) (s : List Id) → NoneCloses w e s → IsFirstCycle w e s None
no_cycle w e s none = λ r closes. none (Two r closes.1) r closes.2 (closes.1, refl, closes.0, closes.3)

pub first_found : (w : WorldState) (e : Entity) (s : List Id) (k : ℕ) (d : Id) (r : Entity) → IsTrue (is_ascending id_cmp s) → k < length s
    → NoneCloses w e (take k s) → (o : Option Entity) → IsClosedBy w e (get_or s k d) o → o ≡ Some r → IsFirstCycle w e s (Some r)
first_found w e s k d r up l none o says is =
    let closes : ClosesBy w e (get_or s k d) r = subst (IsClosedBy w e (get_or s k d)) is says in
    let here : IsTrue (has_item id_cmp s (Two r closes.0)) = subst (λ i. IsTrue (has_item id_cmp s i)) closes.1 (has_get id_cmp_total s k d l) in (
      (closes.2, closes.0, here, closes.3),
      λ q other.
          elim (before_or_above s k d (Two q other.1) up l other.2) as (λ _. IsTrue (is_le (entity_cmp r q))) [
            | inl m ↦ absurd (none (Two q other.1) q m (other.1, refl, other.0, other.3))
            | inr m ↦ elim m as (λ _. IsTrue (is_le (entity_cmp r q))) [
              | inl n ↦ subst (λ x. IsTrue (is_le (entity_cmp r x))) (same_relationship (sym closes.1 ∙ n)) (ap is_le (tied_itself entity_cmp_total r))
              | inr n ↦ below_by_relationship r q closes.0 other.1 (subst (λ i. IsTrue (is_lt (id_cmp i (Two q other.1)))) closes.1 n)
            ]
          ],
    )

-- one more that closes none
pub none_more : (w : WorldState) (e : Entity) (s : List Id) (k : ℕ) (d : Id) → k < length s → NoneCloses w e (take k s) → (o : Option Entity)
    → IsClosedBy w e (get_or s k d) o → o ≡ None → NoneCloses w e (take (k + 1) s)
none_more w e s k d l none o says is = λ j r h closes.
    elim (or_parts (has_item id_cmp (take k s) j) (has_item id_cmp (get_or s k d ∷ []) j)
    (sym (has_append id_cmp (take k s) (get_or s k d ∷ []) j) ∙ subst (λ xs. IsTrue (has_item id_cmp xs j)) (take_more s k d l) h)) as (λ _. ⊥) [
      | inl m ↦ none j r m closes
      | inr m ↦ subst (IsClosedBy w e (get_or s k d)) is says r (subst (λ i. ClosesBy w e i r) (sym (only same_id (get_or s k d) j m)) closes)
    ]

-- ---- all of it

abbrev pub verdict_of : Bool → Option Entity → Option Refusal
verdict_of clash o = cond clash (option_or (option_map Cycle o) (Some TraitClash)) (option_map Cycle o)

module _ (w : WorldState) (e : Entity) (s : List Id) (after : WorldState) where
  go : (v : Option Refusal) (b c : Bool) → b ≡ false
      → (c ≡ false → (o : Option Entity) × IsFirstCycle w e s o × (v ≡ verdict_of (has_clash after) o)) →
      (c ≡ true → v ≡ Some InUse) →
      MatchBool b (v ≡ Some NotAPolicy) (MatchBool c (v ≡ Some InUse) ((o : Option Entity) × IsFirstCycle w e s o × (v ≡ verdict_of (has_clash after) o)))
  go v true c p q r = absurd (true≢false p)
  go v false true p q r = r refl
  go v false false p q r = q refl

  pub judged_cycle : (o : Option Entity) (clash : Bool) (verdict : Option Refusal) → list_any is_wrong_policy s ≡ false →
      list_any (is_late w e s) (late_traits w.edition) ≡ false → IsFirstCycle w e s o → has_clash after ≡ clash → verdict ≡ verdict_of clash o →
      Judges w e s after verdict
  judged_cycle o clash verdict policy late first same is =
      go verdict (list_any is_wrong_policy s) (list_any (is_late w e s) (late_traits w.edition)) policy
      (λ _. (o, first, is ∙ ap (λ b. verdict_of b o) (sym same))) (λ k. absurd (true≢false (sym k ∙ late)))

-- what clashes in the world that it grows to is seen at a look
pub clash_seen : (w : WorldState) (e : Entity) (i : Id) (s : List Id) → IsTrue (is_alive w e) → IsTrue (names_living w i) → IsClosure w i s
    → IsSound w →
    has_clash (grown w e i s) ≡ would_clash w e s
clash_seen w e i s alive named closure sound =
    let d = some_of (record_of w e) alive in clash_is_local w e i s d.0 d.1 closure named sound

-- pairs of With among the ids of an entity
any_keys : (t : Id → Bool) (es : List (Id × Value)) → list_any t (map (λ p. p.0) es) ≡ list_any (λ h. t h.0) es
any_keys t [] = refl
any_keys t (e ∷ es) = ap (λ b. t e.0 || b) (any_keys t es)

pub with_held : (w : WorldState) (e : Entity) (own : List Id) → Some own ≡ option_map type_of_record (record_of w e) →
    list_any is_with own ≡ list_any (λ h. is_with h.0) (held_by w e)
with_held w e own owns =
    let d = some_record (record_of w e) own owns in
    ap (list_any is_with) d.2 ∙ any_keys is_with d.0.held
    ∙ sym (ap (λ (o : Option Record). list_any (λ h. is_with h.0) (unwrap_or (option_map (λ r. r.held) o) [])) d.1)

-- the target of some pair of With
pub target_any : (w : WorldState) (e : Entity) (b : Bool) → IsTrue b ↔ ((holder : Entity) × IsTrue (has w holder (Two WITH e))) →
    b ≡ list_any (λ p. has w p.0 (Two WITH e)) (living w)
target_any w e b exact = same_tests b (list_any (λ p. has w p.0 (Two WITH e)) (living w))
    (λ h.
    let x = exact.0 h in
    let d = entry_of (record_of w x.0) (Two WITH e) x.1 in
    some_living (λ p. has w p.0 (Two WITH e)) w x.0 d.0 d.2 x.1)
    (λ h. let x = living_some (λ p. has w p.0 (Two WITH e)) w h in exact.1 (x.0, x.3))

-- what stands against the closure is the answer
pub judged_refuses : (w : WorldState) (e : Entity) (i : Id) (s : List Id) (why : Refusal) → names_living w i ≡ true → has w e i ≡ false
    → IsClosure w i s
    → Judges w e s (grown w e i s) (Some why) → FindsType w e i (Err why)
judged_refuses w e i s why lives absent closure judges =
    elim (is_out_of_memory {A = List Id} (Err why)) as (λ b. MatchBool b (IsTrue (names_living w i)) (AddLeadsTo w e i (Err why))) [
      | true ↦ lives
      | false ↦ lacked w e i (Err why) lives absent (s, closure, Some why, judges, refl)
    ]

-- a closure that nothing stands against leads to the type that has it
pub judged_leads : (w : WorldState) (e : Entity) (i : Id) (s own all : List Id) (verdict : Option Refusal) → names_living w i ≡ true
    → has w e i ≡ false →
    IsClosure w i s → Judges w e s (grown w e i s) verdict → verdict ≡ None → Some own ≡ option_map type_of_record (record_of w e) →
    IsTrue (is_ascending id_cmp own) → all ≡ extended_by w s own → AddLeadsTo w e i (Ok all)
judged_leads w e i s own all verdict lives absent closure judges none owns up is_all =
    leads_to w e i s own (left_by w s own) all verdict lives absent closure judges none owns up refl is_all
