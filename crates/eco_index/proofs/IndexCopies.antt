-- An index once more: the same keys, each with the same slots.
use Rattle.eco_index.proofs.Common.{◌≡◌, ℕ, ◌+◌, Bool, true, false, cond, List, [], ◌∷◌, take, slice_get, Option, Some, None, refl, sym, ap}
use Rattle.eco_index.proofs.Common.{◌∙◌, add-one, true≢false, AllZip, lookup, Key, Slots, Marks, same_key, slots_of, may_be_kept, KeepsMarks}
use Rattle.eco_index.proofs.EdgeLists.{lookup_past}
use Rattle.eco_index.proofs.Keys.{keys_same}

abbrev pub AreCloned : {K : Type 0} → List (K × Slots) → List (K × Slots) → Type 0
AreCloned es copies = AllZip (λ e f. (f.0 ≡ e.0) × (slots_of f.1 ≡ slots_of e.1)) es copies

-- what depends on the slots of a key alone is as before
pub cloned : {K X : Type 0} (eq : K → K → Bool) (g : Option Slots → X) → ((s t : Slots) → slots_of t ≡ slots_of s → g (Some t) ≡ g (Some s)) → (k : K)
    → (es copies : List (K × Slots)) → AreCloned es copies → g (lookup (eq k) copies) ≡ g (lookup (eq k) es)
cloned eq g same k [] [] are = refl
cloned eq g same k [] (f ∷ fs) are = elim are [ ]
cloned eq g same k (e ∷ es) [] are = elim are [ ]
cloned eq g same k (e ∷ es) (f ∷ fs) are =
    ap (λ own. g (cond (eq k own) (Some f.1) (lookup (eq k) fs))) are.0.0 ∙ by (eq k e.0) (cloned eq g same k es fs are.1)
  where
    by : (b : Bool) → g (lookup (eq k) fs) ≡ g (lookup (eq k) es)
        → g (cond b (Some f.1) (lookup (eq k) fs)) ≡ g (cond b (Some e.1) (lookup (eq k) es))
    by true rest = same e.1 f.1 are.0.1
    by false rest = rest

-- one key more is marked
pub marked_more : (old new : Marks) (es : List (Key × Slots)) (n : ℕ) (e : Key × Slots) → slice_get es n ≡ Some e
    → KeepsMarks old new → may_be_kept new e.0 ≡ true
    → ((k : Key) → may_be_kept old k ≡ false → lookup (same_key k) (take n es) ≡ None)
    → (k : Key) → may_be_kept new k ≡ false → lookup (same_key k) (take (n + 1) es) ≡ None
marked_more old new es n e at keeps marked were k unmarked =
    rw add-one (lookup_past (same_key k) es n e (were k (before (may_be_kept old k) refl)) at (other (same_key k e.0) refl))
  where
    other : (b : Bool) → same_key k e.0 ≡ b → same_key k e.0 ≡ false
    other true same = absurd (true≢false (sym marked ∙ ap (may_be_kept new) (sym (keys_same k e.0 same)) ∙ unmarked))
    other false is = is

    before : (b : Bool) → may_be_kept old k ≡ b → may_be_kept old k ≡ false
    before true was = absurd (true≢false (sym (keeps k was) ∙ unmarked))
    before false was = was
