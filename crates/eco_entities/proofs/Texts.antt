-- Look-ups by text in the trees of names.
use Rattle.eco_entities.proofs.Common.{common_steps, ◌≡◌, ℕ, Bool, true, false, cond, List, Option, arith, String, BTreeMap, get_by_text, update}
use Rattle.eco_entities.proofs.Common.{bytes_eq, cond-true, cond-false, false_from_ne_true, bytes_eq-Decides, Entity, ChangesAt}

-- a change under one key, seen by bytes
pub changes_text : {Y X : Type 0} (bs : List ℕ) (m n : BTreeMap (String Y) X) (w : Option X)
    → ((cs : List ℕ) → get_by_text n cs ≡ update bytes_eq (get_by_text m) bs w cs) → ChangesAt (get_by_text m) (get_by_text n) bs w
changes_text bs m n w u = grind (arith, common_steps, cond-true, bytes_eq-Decides, cond-false, false_from_ne_true)

-- a change in one of two trees
module _ (is_left : List ℕ → Bool) (left left' right right' : List ℕ → Option Entity) (k : List ℕ) (v : Option Entity) where
  pub left_changes : is_left k ≡ true → ChangesAt left left' k v
      → ChangesAt (λ n. cond (is_left n) (left n) (right n)) (λ n. cond (is_left n) (left' n) (right n)) k v
  left_changes here c = grind (arith, common_steps)

  pub right_changes : is_left k ≡ false → ChangesAt right right' k v
      → ChangesAt (λ n. cond (is_left n) (left n) (right n)) (λ n. cond (is_left n) (left n) (right' n)) k v
  right_changes here c = grind (arith, common_steps)
