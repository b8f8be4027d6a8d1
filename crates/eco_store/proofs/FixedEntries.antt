-- Entries that slots have wherever they hold.
use Rattle.eco_store.proofs.AnswersCommon.{◌≡◌, ℕ, ◌+◌, ◌<◌, Bool, true, false, true≢false, cond, List, [], ◌∷◌, ◌++◌, map}
use Rattle.eco_store.proofs.AnswersCommon.{flat_map, filter, length, take, Option, Some, refl, sym, ap, ◌∙◌, subst, map-append, list_any, list_all}
use Rattle.eco_store.proofs.AnswersCommon.{is_lt, IsTrue, All, AllByRecursion, None, replicate, if◌then◌else◌, slice_index_or, take_more, recursion_from_All}
use Rattle.eco_store.proofs.AnswersCommon.{choices, is_least_match, pattern_matches, id_cmp, is_ascending, QueryTerm, Id, Pattern, first, second, id_cmp_total, Slot}
use Rattle.eco_store.proofs.AnswersCommon.{QuerySlot, exactly, has_any, matches_type, term_view, TableState, table_in, Standing, asked, asks}
use Rattle.eco_store.proofs.AnswersCommon.{results_at, shown, AllAscend, AreFixed, FitsQuery, IsFixed}
use Rattle.std.proofs.lemmas.List.{get_or-replicate}
use Rattle.std.specs.Cmp.{tied_itself}
use Rattle.eco_ids.specs.declared.id.Id.TheVariants.{One, Two}
use Rattle.eco_ids.proofs.Overlaps.{entity_eq_is}
use Rattle.eco_ids.specs.Answer as answers
use Rattle.eco_ids.specs.Terms as terms

-- ---- the entry of a slot

exact_match : (i j : Id) → pattern_matches (exactly i) j ≡ true → j ≡ i
exact_match (One a) (One b) h = ap One (sym (entity_eq_is a b h))
exact_match (One a) (Two s u) h = absurd (true≢false (sym h))
exact_match (Two r t) (One b) h = absurd (true≢false (sym h))
exact_match (Two r t) (Two s u) h = ap (λ x. Two x u) (sym (entity_eq_is r s (first _ _ h))) ∙ ap (Two r) (sym (entity_eq_is t u (second _ _ h)))

module _ (f : Id → Bool) (x : Id) (only : (j : Id) → f j ≡ true → j ≡ x) where
  none_above : (xs : List Id) → IsTrue (list_all (λ y. is_lt (id_cmp x y)) xs) → filter f xs ≡ []
  none_above [] h = refl
  none_above (y ∷ ys) h = by (f y) refl (none_above ys (second _ _ h))
    where
      by : (b : Bool) → f y ≡ b → filter f ys ≡ [] → cond b (y ∷ filter f ys) (filter f ys) ≡ []
      by true e rest = absurd (true≢false (sym (first _ _ h) ∙ ap (λ z. is_lt (id_cmp x z)) (only y e) ∙ ap is_lt (tied_itself id_cmp_total x)))
      by false e rest = rest

  -- of an ascending list, only one is left where all that are left are the same
  one_left : (xs : List Id) → IsTrue (is_ascending id_cmp xs) → has_any (map Some (filter f xs)) ≡ true → map Some (filter f xs) ≡ Some x ∷ []
  one_left [] up some = absurd (true≢false (sym some))
  one_left (y ∷ ys) up some = by (f y) refl (one_left ys (second _ _ up)) some
    where
      by : (b : Bool) → f y ≡ b → (has_any (map Some (filter f ys)) ≡ true → map Some (filter f ys) ≡ Some x ∷ [])
          → has_any (map Some (cond b (y ∷ filter f ys) (filter f ys))) ≡ true → map Some (cond b (y ∷ filter f ys) (filter f ys)) ≡ Some x ∷ []
      by true e rest some =
          ap (λ z. Some z ∷ map Some (filter f ys)) (only y e)
          ∙ ap (λ zs. Some x ∷ map Some zs) (none_above ys (subst (λ z. IsTrue (list_all (λ w. is_lt (id_cmp z w)) ys)) (only y e) (first _ _ up)))
      by false e rest some = rest some

-- a pattern that one id alone matches
pub exact_fixed : (p : Pattern) (i : Id) → p ≡ exactly i → IsFixed (terms.And p) (Some i)
exact_fixed p i is =
    subst (λ q. IsFixed (terms.And q) (Some i)) (sym is)
    (λ ids up h. one_left (is_least_match (exactly i) ids) i (λ j e. exact_match i j (first _ _ e)) ids up h)

pub not_fixed : (p : Pattern) → IsFixed (terms.Not p) None
not_fixed p ids up h = by (list_any (pattern_matches p) ids) h
  where
    by : (b : Bool) → has_any {A = Option Id} (if b then [] else None ∷ []) ≡ true
        → ◌≡◌ {A = List (Option Id)} (if b then [] else None ∷ []) (None ∷ [])
    by true h = absurd (true≢false (sym h))
    by false h = refl

-- ---- those of some slots

more_fixed : (ts : List QueryTerm) (es : List (Option Id)) (t : QueryTerm) (e : Option Id) → AreFixed ts es → IsFixed t e
    → AreFixed (ts ++ t ∷ []) (es ++ e ∷ [])
more_fixed [] [] t e all one = (one, tt)
more_fixed [] (x ∷ es) t e all one = absurd all
more_fixed (x ∷ ts) [] t e all one = absurd all
more_fixed (x ∷ ts) (y ∷ es) t e all one = (all.0, more_fixed ts es t e all.1 one)

-- one more slot has its entry
pub slot_fixed : (slots : List Slot) (k : ℕ) (s : Slot) (es new : List (Option Id)) (e : Option Id) → k < length slots → AreFixed (asks (take k slots)) es
    → slice_index_or slots k s ≡ s → IsFixed (term_view s.term) e → new ≡ es ++ e ∷ [] → AreFixed (asks (take (k + 1) slots)) new
slot_fixed slots k s es new e lt all at one are =
    subst (AreFixed (asks (take (k + 1) slots))) (sym are)
    (subst (λ ts. AreFixed ts (es ++ e ∷ []))
    (sym (ap asks (take_more slots k s lt ∙ ap (λ z. take k slots ++ z ∷ []) at)
    ∙ map-append (λ (z : Slot). term_view z.term) (take k slots) (s ∷ [])))
    (more_fixed (asks (take k slots)) es (term_view s.term) e all one))

-- they are the one choice on a type on which the slots hold
fixed_choices : (ids : List Id) (q : List QuerySlot) (es : List (Option Id)) → AreFixed (asked q) es → IsTrue (is_ascending id_cmp ids)
    → IsTrue (matches_type ids q) → choices ids (asked q) ≡ es ∷ []
fixed_choices ids [] [] all up h = refl
fixed_choices ids [] (x ∷ es) all up h = absurd all
fixed_choices ids (s ∷ q) [] all up h = absurd all
fixed_choices ids (s ∷ q) (e ∷ es) all up h =
    ap (λ zs. flat_map (λ x. map (λ rest. x ∷ rest) (choices ids (asked q))) zs) (all.0 ids up (first _ _ h))
    ∙ ap (λ cs. flat_map (λ x. map (λ rest. x ∷ rest) cs) (e ∷ [])) (fixed_choices ids q es all.1 up (second _ _ h))

-- ---- the results

-- the rows of an entity with these entries, before others
abbrev rows_before : Standing → List answers.Row → List (List (Option Id)) → List answers.Row
rows_before s rest cs = map (λ xs. let r : answers.Row = record { entity = s.entity; entries = xs } in r) cs ++ rest

-- all who stand where the query holds are the rows
pub fixed_shown : (tables : List (Option TableState)) (ns : List ℕ) (q : List QuerySlot) (es : List (Option Id)) → AreFixed (asked q) es
    → AllAscend tables → (ss : List Standing) → All (λ (s : Standing). s.place < length ns) ss → All (FitsQuery tables ns q) ss
    → map (shown (replicate (length ns) es)) ss ≡ results_at tables ns (asked q) ss
fixed_shown tables ns q es fixed up ss within fit =
    go ss (recursion_from_All (λ (s : Standing). s.place < length ns) ss within) (recursion_from_All (FitsQuery tables ns q) ss fit)
  where
    go : (ss : List Standing) → AllByRecursion (λ (s : Standing). s.place < length ns) ss → AllByRecursion (FitsQuery tables ns q) ss
        → map (shown (replicate (length ns) es)) ss ≡ results_at tables ns (asked q) ss
    go [] within fit = refl
    go (s ∷ ss) within fit =
        ap (λ zs. shown (replicate (length ns) es) s ∷ zs) (go ss within.1 fit.1)
        ∙ ap (λ xs. rows_before s (results_at tables ns (asked q) ss) (xs ∷ [])) (get_or-replicate (length ns) s.place es [] within.0)
        ∙ ap (rows_before s (results_at tables ns (asked q) ss))
        (sym (fixed_choices (table_in tables (slice_index_or ns s.place 0)).ids q es fixed (up (slice_index_or ns s.place 0)) fit.0))
