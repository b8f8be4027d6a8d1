-- The least of what may be there passes, and is below all that pass.
use Rattle.eco_traits.proofs.CleanupCommon.{◌≡◌, Bool, true, false, cond, ◌||◌, inl, inr, List, [], ◌∷◌, fold, Option, Some, None, refl, sym, ap}
use Rattle.eco_traits.proofs.CleanupCommon.{◌∙◌, subst, true≢false, IsTrue, Ordering, arith, or-false, or_assoc, IsTotalOrder, tied_itself, list_any, is_le}
use Rattle.eco_traits.proofs.CleanupCommon.{is_lt, ordering_reverse, or_parts, or_right, counted, former}
use Rattle.std.proofs.lemmas.Grind.{common_steps}
use Rattle.std.proofs.lemmas.Bool.{or_left}
use Rattle.std.specs.Bool.{IsFalse}

below : (r : Ordering) → IsTrue (is_lt r) → IsTrue (is_le r)
below r h = grind arith

not_above : (r s : Ordering) → s ≡ ordering_reverse r → is_lt r ≡ false → IsTrue (is_le s)
not_above r s turned h = grind arith

module _ {A : Type 0} {R : A → A → Ordering} (o : IsTotalOrder R) where
  -- nothing passes, or it passes and is below all that do
  abbrev pub IsFirst : (A → Bool) → Option A → Type 0
  IsFirst p None = (a : A) → IsFalse (p a)
  IsFirst p (Some a) = IsTrue (p a) × ((b : A) → IsTrue (p b) → IsTrue (is_le (R a b)))

  le_itself : (x : A) → IsTrue (is_le (R x x))
  le_itself x = ap is_le (tied_itself o x)

  le_after : (x y z : A) → IsTrue (is_le (R x y)) → IsTrue (is_le (R y z)) → IsTrue (is_le (R x z))
  le_after x y z h k = grind (arith, common_steps)

  pub first_alike : (p q : A → Bool) → ((a : A) → p a ≡ q a) → (one : Option A) → IsFirst p one → IsFirst q one
  first_alike p q alike None f = λ a. sym (alike a) ∙ f a
  first_alike p q alike (Some a) f = (sym (alike a) ∙ f.0, λ b h. f.1 b (alike b ∙ h))

  -- the first of two is that of both tests
  pub former_first : (p q : A → Bool) (one other : Option A) → IsFirst p one → IsFirst q other → IsFirst (λ a. p a || q a) (former R one other)
  former_first p q None other f g = first_alike q (λ a. p a || q a) (λ a. sym (ap (λ t. t || q a) (f a))) other g
  former_first p q (Some a) None f g = first_alike p (λ b. p b || q b) (λ b. sym (ap (λ t. p b || t) (g b) ∙ or-false (p b))) (Some a) f
  former_first p q (Some a) (Some b) f g = by (is_lt (R b a)) refl
    where
      by : (t : Bool) → is_lt (R b a) ≡ t → IsFirst (λ x. p x || q x) (cond t (Some b) (Some a))
      by true less = (
        or_right (p b) (q b) g.0,
        λ x h. elim (or_parts (p x) (q x) h) as (λ _. IsTrue (is_le (R b x))) [
          | inl k ↦ le_after b a x (below (R b a) less) (f.1 x k)
          | inr k ↦ g.1 x k
        ],
      )
      by false more = (
        or_left (p a) (q a) f.0,
        λ x h. elim (or_parts (p x) (q x) h) as (λ _. IsTrue (is_le (R a x))) [
          | inl k ↦ f.1 x k
          | inr k ↦ le_after a b x (not_above (R b a) (R a b) (o.antisymm a b) more) (g.1 x k)
        ],
      )

  -- the only one that may pass
  pub counted_first : (p : A → Bool) (a : A) (counts : Bool) → p a ≡ counts → ((b : A) → IsTrue (p b) → b ≡ a) → IsFirst p (counted a counts)
  counted_first p a true is only = (is, λ b h. subst (λ x. IsTrue (is_le (R a x))) (sym (only b h)) (le_itself a))
  counted_first p a false is only = λ b. by b (p b) refl
    where
      by : (b : A) (t : Bool) → p b ≡ t → IsFalse (p b)
      by b true h = absurd (true≢false (sym (subst (λ x. p x ≡ true) (only b h) h) ∙ is))
      by b false h = h

  -- the first of all that come one after another
  pub fold_first : {B : Type 0} (step : Option A → B → Option A) (q : B → A → Bool)
      → ((p : A → Bool) (one : Option A) (b : B) → IsFirst p one → IsFirst (λ a. p a || q b a) (step one b))
      → (p : A → Bool) (one : Option A) (bs : List B) → IsFirst p one → IsFirst (λ a. p a || list_any (λ b. q b a) bs) (fold step one bs)
  fold_first step q steps p one [] f = first_alike p (λ a. p a || false) (λ a. sym (or-false (p a))) one f
  fold_first step q steps p one (b ∷ bs) f =
      first_alike (λ a. (p a || q b a) || list_any (λ x. q x a) bs) (λ a. p a || (q b a || list_any (λ x. q x a) bs))
      (λ a. or_assoc (p a) (q b a) (list_any (λ x. q x a) bs)) (fold step (step one b) bs)
      (fold_first step q steps (λ a. p a || q b a) (step one b) bs (steps p one b f))
