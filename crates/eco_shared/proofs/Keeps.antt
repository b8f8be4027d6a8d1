-- Each step keeps the rule.
use Rattle.eco_shared.proofs.Common.{◌≡◌, ◌≢◌, ℕ, zero, suc, true, false, true≢false, List, [], ◌∷◌, ◌++◌, set, refl, sym, ap}
use Rattle.eco_shared.proofs.Common.{◌∙◌, subst, ⊎_elim, mark_of_book, WorldState, Merge, Knows, Shown, IsAfter, IsMerged, shown_world, history, shown_state}
use Rattle.eco_shared.proofs.Common.{knows, nothing, KnowsOf, Follows, GoesOn, Kept, Sees, Opens, Stays}
use mathlib.Core.Option.{some, some-ne-none, some-injective}
use lib.ListN.{get_elem?}
use Rattle.crossbeam_utils.specs.Register.{Admits, Turns, TurnsAt, Forks, Merges}
use Rattle.atomic_table.proofs.Lists.{at_set, at_snoc}

off : false ≡ true → ⊥
off e = true≢false (sym e)

pub after_push : (w : WorldState) (ms : List Merge) (mid : WorldState) (m : Merge) (new : WorldState) → IsAfter w ms mid → IsMerged mid m new → IsAfter w
    (ms ++ m ∷ []) new
after_push w [] mid m new h one = (new, subst (λ v. IsMerged v m new) h one, refl)
after_push w (x ∷ ms) mid m new h one = (h.0, h.1, after_push h.0 ms mid m new h.2 one)

kept_set : (s : Shown) (views : List Knows) (by : ℕ) (w : Knows) → (w.known ≡ true → KnowsOf w s) → Kept s views → Kept s (set views by w)
kept_set s views by w mine others j u e k =
    ⊎_elim
    (λ (x : (j ≡ by) × (w ≡ u)). subst (λ (v : Knows). v.known ≡ true → KnowsOf v s) x.1 mine k)
    (λ (x : (j ≢ by) × (get_elem? views j ≡ some u)). others j u x.1 k)
    (at_set views by j w u e)

-- what is known of a state of the shared world is all that it says
same_names : (v : Knows) (s t : Shown) → shown_state t ≡ shown_state s → KnowsOf v s → KnowsOf v t
same_names v s t same h =
    subst (λ x. IsAfter v.start x.1.seen.log x.0 × (v.mark ≡ mark_of_book x.1.seen.book)) (sym same) h

-- one merge more is known
follows_names : (v : Knows) (s t : Shown) → Follows s t → KnowsOf v s → KnowsOf v t
follows_names v s t f h =
    let longer : IsAfter v.start (history s ++ f.1 ∷ []) (shown_world t) = after_push v.start (history s) (shown_world s) f.1 (shown_world t) h.0 f.3 in
    (subst (λ l. IsAfter v.start l (shown_world t)) (sym f.2) longer, h.1 ∙ sym (ap mark_of_book f.0))

pub begins : (s : Shown) → Kept s (nothing ∷ [])
begins s zero v e k = absurd (off (subst (λ (u : Knows). u.known ≡ true) (sym (some-injective _ _ e)) k))
begins s (suc by) v e k = absurd (some-ne-none v (sym e))

pub admits : Admits Kept nothing
admits s views h by v e k =
    ⊎_elim
    (λ (x : get_elem? views by ≡ some v). h by v x k)
    (λ (x : nothing ≡ v). absurd (off (subst (λ (u : Knows). u.known ≡ true) (sym x) k)))
    (at_snoc views nothing v by e)

-- the first publish, which adds nothing to the empty history
pub opens : (by : ℕ) (v : Knows) (s t : Shown) → history s ≡ [] → shown_state t ≡ shown_state s → TurnsAt Kept by v s t Opens
opens by v s t none same views h at =
    let w : Knows = knows (shown_world s) (mark_of_book s.front.seen.book) in
    let mine : KnowsOf w s = (subst (λ l. IsAfter (shown_world s) l (shown_world s)) (sym none) refl, refl) in
    let all : Kept s (set views by w) = kept_set s views by w (λ _. mine) h in
    (w, (λ j u e k. same_names u s t same (all j u e k)), refl)

pub enters : (by : ℕ) (v : Knows) → v.known ≡ true → Turns Kept by v (λ x. x) Sees
enters by v known s views h at = (v, kept_set s views by v (h by v at) h, (refl, h by v at known))

-- one merge more, or the same once more
goes_names : (v : Knows) (s t : Shown) → GoesOn s t → KnowsOf v s → KnowsOf v t
goes_names v s t g h = ⊎_elim (λ (f : Follows s t). follows_names v s t f h) (λ (e : shown_state t ≡ shown_state s). same_names v s t e h) g

-- whatever has this state is shown
pub goes_on : (by : ℕ) (v : Knows) (s op t : Shown) → GoesOn s op → shown_state t ≡ shown_state op → TurnsAt Kept by v s t Stays
goes_on by v s op t g same views h at =
    let all : Kept s (set views by v) = kept_set s views by v (h by v at) h in
    (v, (λ j u e k. same_names u op t same (goes_names u s op g (all j u e k))), refl)

pub forks : (by : ℕ) (v : Knows) → Forks Kept by v v v
forks by v s views h at j u e k =
    ⊎_elim
    (λ (x : get_elem? (set views by v) j ≡ some u). kept_set s views by v (h by v at) h j u x k)
    (λ (x : v ≡ u). subst (λ (w : Knows). w.known ≡ true → KnowsOf w s) x (h by v at) k)
    (at_snoc (set views by v) v u j e)

-- a viewer takes in what another view knows
pub merges : (by : ℕ) (v : Knows) (other : ℕ) (u : Knows) → Merges Kept by v other u u nothing
merges by v other u s views h at apart there =
    let was : get_elem? views other ≡ some u = ⊎_elim (λ (x : (other ≡ by) × (u ≡ u)). absurd (apart x.0))
    (λ (x : (other ≢ by) × (get_elem? views other ≡ some u)). x.1) (at_set views by other u u there) in
    kept_set s (set views by u) other nothing (λ k. absurd (off k)) (kept_set s views by u (h other u was) h)
