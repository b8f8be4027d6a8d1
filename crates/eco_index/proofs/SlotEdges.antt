-- What a change leaves of the edges of one slot.
use Rattle.eco_index.proofs.Common.{◌≡◌, ℕ, Bool, true, false, not, cond, List, [], ◌∷◌, ◌++◌, Option, Some, None, IfSome, filter, length, take, refl, sym, ap}
use Rattle.eco_index.proofs.Common.{subst, ◌∙◌, ◌<◌, suc, rules, get_or, IsEquivalence, ◌+◌, arith, is_some, lookup, Id, same_id, id_eq, id_ties, id_eq-Decides}
use Rattle.std.specs.List.{AllByRecursion, IsDistinct}
use Rattle.std.specs.Map.{keys_of}
use Rattle.std.specs.Option.{option_to_list}
use Rattle.std.proofs.lemmas.Map.Entries.{lookup-filter-keys}
use Rattle.std.proofs.lemmas.Map.Keys.{IsDistinct-push}
use Rattle.std.proofs.lemmas.Map.Made.{IsDistinct-keys_filter, is_some-lookup}
use Rattle.std.proofs.lemmas.Option.{slice_get-get_or}
use Rattle.std.proofs.lemmas.List.{take-append-drop}
use Rattle.std.proofs.Math.ListN.{drop}
use Rattle.std.proofs.Math.Seq.{take-suc}
use Rattle.indexmap.specs.IndexMap.{insert_entry}
use Rattle.indexmap.proofs.MapLemmas.{absent_before, absent_from_lookup, insert_entry-absent}
use Rattle.eco_index.proofs.EdgeLists.{way, popped, lookup_here, lookup_past}
use Rattle.eco_index.proofs.Sweeping.{equivalence}

-- equality of ids, as look-ups want it
pub id_laws : IsEquivalence same_id
id_laws = equivalence same_id id_eq-Decides

-- an entry at the end is not met by a look-up of another id
unmoved : (t : Id → Bool) (es : List (Id × ℕ)) (e : Id × ℕ) → t e.0 ≡ false → lookup t (es ++ e ∷ []) ≡ lookup t es
unmoved t [] e other = ap (λ b. cond b (Some e.1) None) other
unmoved t (x ∷ es) e other = ap (cond (t x.0) (Some x.1)) (unmoved t es e other)

-- an edge more, of an id that led nowhere
pub pushed : (es : List (Id × ℕ)) (i : Id) (to : ℕ) → lookup (same_id i) es ≡ None → (q : Id) →
    lookup (same_id q) (es ++ (i, to) ∷ []) ≡ cond (same_id i q) (Some to) (lookup (same_id q) es)
pushed es i to none q = way (same_id i q) (lookup (same_id q) (es ++ (i, to) ∷ []) ≡ cond (same_id i q) (Some to) (lookup (same_id q) es))
    (λ same.
    ap (λ k. lookup (same_id k) (es ++ (i, to) ∷ [])) (sym ((id_eq-Decides i q).0 same)) ∙ popped es i to none
    ∙ sym (ap (λ b. cond b (Some to) (lookup (same_id q) es)) same))
    (λ other.
    unmoved (same_id q) es (i, to) (id_laws.symm q i ∙ other) ∙ sym (ap (λ b. cond b (Some to) (lookup (same_id q) es)) other))

-- without the last one its id leads nowhere, and each other where it led
pub unpushed : (es : List (Id × ℕ)) (i : Id) (to : ℕ) → lookup (same_id i) es ≡ None → (q : Id) →
    lookup (same_id q) es ≡ cond (same_id i q) None (lookup (same_id q) (es ++ (i, to) ∷ []))
unpushed es i to none q = way (same_id i q) (lookup (same_id q) es ≡ cond (same_id i q) None (lookup (same_id q) (es ++ (i, to) ∷ [])))
    (λ same.
    ap (λ k. lookup (same_id k) es) (sym ((id_eq-Decides i q).0 same)) ∙ none
    ∙ sym (ap (λ b. cond b None (lookup (same_id q) (es ++ (i, to) ∷ []))) same))
    (λ other.
    sym (ap (λ b. cond b (Some to) (lookup (same_id q) es)) other) ∙ sym (pushed es i to none q)
    ∙ sym (ap (λ b. cond b None (lookup (same_id q) (es ++ (i, to) ∷ []))) other))

-- those of one id are gone
pub taken : (i : Id) (es kept : List (Id × ℕ)) → kept ≡ filter (λ e. not (id_eq i e.0)) es → (q : Id) →
    lookup (same_id q) kept ≡ cond (same_id i q) None (lookup (same_id q) es)
taken i es kept are q = ap (lookup (same_id q)) are
    ∙ lookup-filter-keys (same_id q) (λ k. not (id_eq i k)) (not (same_id i q))
    (λ k same. ap not (sym (id_ties i k)) ∙ ap (λ x. not (same_id i x)) (sym ((id_eq-Decides q k).0 same))) es
    ∙ turned (same_id i q) (lookup (same_id q) es)
  where
    turned : (b : Bool) (o : Option ℕ) → cond (not b) o None ≡ cond b None o
    turned true o = refl
    turned false o = refl

keys_push : (es : List (Id × ℕ)) (i : Id) (to : ℕ) → keys_of (es ++ (i, to) ∷ []) ≡ keys_of es ++ i ∷ []
keys_push [] i to = refl
keys_push (e ∷ es) i to = ap (λ ks. e.0 ∷ ks) (keys_push es i to)

-- ids stay apart as one comes that led nowhere
pub apart_pushed : (es : List (Id × ℕ)) (i : Id) (to : ℕ) → IsDistinct same_id (keys_of es) → lookup (same_id i) es ≡ None
    → IsDistinct same_id (keys_of (es ++ (i, to) ∷ []))
apart_pushed es i to distinct none =
    subst (IsDistinct same_id) (sym (keys_push es i to))
    (IsDistinct-push id_laws (keys_of es) i distinct (sym (is_some-lookup (same_id i) es) ∙ ap is_some none))

-- the first of some distinct ids are distinct
prefix_apart : (es rest : List (Id × ℕ)) → IsDistinct same_id (keys_of (es ++ rest)) → IsDistinct same_id (keys_of es)
unfolding IsDistinct
prefix_apart [] rest distinct = tt
prefix_apart (e ∷ es) rest distinct = (before es distinct.0, prefix_apart es rest distinct.1)
  where
    before : (xs : List (Id × ℕ)) → AllByRecursion (λ y. same_id e.0 y ≡ false) (keys_of (xs ++ rest))
        → AllByRecursion (λ y. same_id e.0 y ≡ false) (keys_of xs)
    before [] h = tt
    before (x ∷ xs) h = (h.0, before xs h.1)

pub none_apart : (es : List (Id × ℕ)) → es ≡ [] → IsDistinct same_id (keys_of es)
unfolding IsDistinct
none_apart es none = subst (λ (xs : List (Id × ℕ)). IsDistinct same_id (keys_of xs)) (sym none) tt

pub two_apart : (es : List (Id × ℕ)) (e : Id × ℕ) (i : Id) (to : ℕ) → es ≡ e ∷ (i, to) ∷ [] → lookup (same_id i) (e ∷ []) ≡ None
    → IsDistinct same_id (keys_of es)
unfolding IsDistinct
two_apart es e i to are none =
    subst (λ (xs : List (Id × ℕ)). IsDistinct same_id (keys_of xs)) (sym are) (apart_pushed (e ∷ []) i to (tt, tt) none)

pub filtered_apart : (p : Id × ℕ → Bool) (es kept : List (Id × ℕ)) → IsDistinct same_id (keys_of es) → kept ≡ filter p es
    → IsDistinct same_id (keys_of kept)
filtered_apart p es kept distinct are =
    subst (λ (xs : List (Id × ℕ)). IsDistinct same_id (keys_of xs)) (sym are) (IsDistinct-keys_filter same_id p es distinct)

-- what is left of distinct ids as the last goes, and that it stands alone
pub left_apart : (es left : List (Id × ℕ)) (r : Option (Id × ℕ)) → IsDistinct same_id (keys_of es) → es ≡ left ++ option_to_list r
    → IsDistinct same_id (keys_of left)
left_apart es left r distinct are =
    prefix_apart left (option_to_list r) (subst (λ (xs : List (Id × ℕ)). IsDistinct same_id (keys_of xs)) are distinct)

pub last_alone : (es left : List (Id × ℕ)) (r : Option (Id × ℕ)) → IsDistinct same_id (keys_of es) → es ≡ left ++ option_to_list r
    → IfSome r (λ edge. lookup (same_id edge.0) left ≡ None)
last_alone es left None distinct are = search rules
last_alone es left (Some e) distinct are =
    absent_before id_laws left [] e (subst (λ (xs : List (Id × ℕ)). IsDistinct same_id (keys_of xs)) are distinct)

-- an id that leads nowhere goes last into a map
pub added : (es es' : List (Id × ℕ)) (i : Id) (to : ℕ) → es' ≡ insert_entry same_id es i to → lookup (same_id i) es ≡ None → es' ≡ es ++ (i, to) ∷ []
added es es' i to are none = are ∙ insert_entry-absent same_id i to es (absent_from_lookup (same_id i) es none)

-- one more of a list of distinct ids goes into a map of those before it
pub added_next : (few es es' : List (Id × ℕ)) (k : ℕ) (d : Id × ℕ) → IsDistinct same_id (keys_of few) → k < length few → es ≡ take k few
    → es' ≡ insert_entry same_id es (get_or few k d).0 (get_or few k d).1 → es' ≡ take (k + 1) few
added_next few es es' k d distinct within so_far are =
    let e = get_or few k d in
    let one_more : k + 1 ≡ suc k = omega arith in
    let next : take (k + 1) few ≡ take k few ++ e ∷ [] = ap (λ j. take j few) one_more ∙ take-suc few k d within in
    let apart : IsDistinct same_id (keys_of (take (k + 1) few)) = prefix_apart (take (k + 1) few) (drop (k + 1) few)
    (subst (λ (xs : List (Id × ℕ)). IsDistinct same_id (keys_of xs)) (sym (take-append-drop (k + 1) few)) distinct) in
    let none : lookup (same_id e.0) (take k few) ≡ None = absent_before id_laws (take k few) [] e
    (subst (λ (xs : List (Id × ℕ)). IsDistinct same_id (keys_of xs)) next apart) in
    added es es' e.0 e.1 are (ap (lookup (same_id e.0)) so_far ∙ none) ∙ ap (λ xs. xs ++ e ∷ []) so_far ∙ sym next

-- an edge that is looked for, and one that is not, where none before it is
pub here_at : (t : Id → Bool) (es : List (Id × ℕ)) (k : ℕ) (d : Id × ℕ) → lookup t (take k es) ≡ None → k < length es → t (get_or es k d).0 ≡ true
    → lookup t es ≡ Some (get_or es k d).1
here_at t es k d none within is = lookup_here t es k (get_or es k d) none (slice_get-get_or es k d within) is

pub past_at : (t : Id → Bool) (es : List (Id × ℕ)) (k : ℕ) (d : Id × ℕ) → lookup t (take k es) ≡ None → k < length es → t (get_or es k d).0 ≡ false
    → lookup t (take (k + 1) es) ≡ None
past_at t es k d none within other =
    let next : k + 1 ≡ suc k = omega arith in
    rw next (lookup_past t es k (get_or es k d) none (slice_get-get_or es k d within) other)
