-- A list whose first ids have gone, once one more left or came.
use Rattle.eco_ids.proofs.Common.{◌≡◌, ℕ, suc, ◌+◌, ◌-◌, ◌<◌, ◌≤◌, List, ◌∷◌, ◌++◌, length, take, drop, get_or, set, insert, remove, sym, ap, ◌∙◌, arith}
use Rattle.eco_ids.proofs.Common.{append_assoc, length-append, length-drop, length-take-le, take-append-drop, take_all, append-nil}
use Rattle.std.proofs.Math.Seq.{drop-cons, drop-drop, drop_at, length-paste, set_at, take-paste}
use Rattle.std.proofs.lemmas.List.{drop_all}
use Rattle.std.proofs.lemmas.List.Edits.{insert-append_right, remove-append_right}
use Rattle.std.specs.List.{copy_within, refill}

-- what is written over a whole list is what stands there
pub refill_whole : {X : Type 0} (xs ws : List X) → length ws ≡ length xs → refill (length xs) xs ws ≡ ws
refill_whole xs ws e =
    ap (λ l. take (length xs) (ws ++ l)) (drop_all (length ws) xs (omega arith)) ∙ ap (take (length xs)) (append-nil ws)
    ∙ take_all (length xs) ws (omega arith)

module _ {X : Type 0} (xs : List X) (g p : ℕ) (fits : g + p ≤ length xs) where
  front : length (take g xs) ≡ g
  front = length-take-le g xs (omega arith)

  split : take g xs ++ drop g xs ≡ xs
  split = take-append-drop g xs

  -- what stands behind both
  behind : drop (g + p) xs ≡ drop p (drop g xs)
  behind = sym (drop-drop p g xs)

  -- so many as are before the place
  part : length (take p (drop g xs)) ≡ p
  part = length-take-le p (drop g xs) (let long = length-drop g xs in omega arith)

  pub remove_behind : drop g (remove xs (g + p)) ≡ remove (drop g xs) p
  remove_behind =
      ap (λ l. drop g (remove l (g + p))) (sym split) ∙ ap (drop g) (remove-append_right (take g xs) (drop g xs) g (g + p) front (omega arith))
      ∙ drop_at (take g xs) _ g front ∙ ap (remove (drop g xs)) {x = g + p - g} {y = p} (omega arith)

  pub insert_behind : (x : X) → drop g (insert xs (g + p) x) ≡ insert (drop g xs) p x
  insert_behind x =
      ap (λ l. drop g (insert l (g + p) x)) (sym split) ∙ ap (drop g) (insert-append_right (take g xs) (drop g xs) g (g + p) x front (omega arith))
      ∙ drop_at (take g xs) _ g front ∙ ap (λ n. insert (drop g xs) n x) {x = g + p - g} {y = p} (omega arith)

  -- the ids before the place moved up by one
  pub moved_up : g + p < length xs → drop (g + 1) (copy_within xs g (g + p) (g + 1)) ≡ remove (drop g xs) p
  moved_up less =
      ap (λ n. drop (g + 1) (take (g + 1) xs ++ take n (drop g xs) ++ drop (g + 1 + n) xs)) {x = g + p - g} {y = p} (omega arith)
      ∙ ap (drop (g + 1)) (append_assoc (take (g + 1) xs) (take p (drop g xs)) (drop (g + 1 + p) xs))
      ∙ drop_at (take (g + 1) xs) _ (g + 1) (length-take-le (g + 1) xs (omega arith))
      ∙ ap (λ n. take p (drop g xs) ++ drop n xs) {x = g + 1 + p} {y = g + suc p} (omega arith)
      ∙ ap (λ l. take p (drop g xs) ++ l) (sym (drop-drop (suc p) g xs))

  pub length_up : g + p < length xs → length (copy_within xs g (g + p) (g + 1)) ≡ length xs
  length_up less = length-paste xs (g + 1) (drop g xs) (g + p - g) (omega arith) (let long = length-drop g xs in omega arith)

  module _ (one : 0 < g) where
    pub length_down : length (copy_within xs g (g + p) (g - 1)) ≡ length xs
    length_down = length-paste xs (g - 1) (drop g xs) (g + p - g) (omega arith) (let long = length-drop g xs in omega arith)

    -- the ids before the place moved down by one, and another stands there
    pub moved_down : (x : X) → drop (g - 1) (set (copy_within xs g (g + p) (g - 1)) (g - 1 + p) x) ≡ insert (drop g xs) p x
    moved_down x =
        ap (λ n. drop (g - 1) (set (take (g - 1) xs ++ take n (drop g xs) ++ drop (g - 1 + n) xs) (g - 1 + p) x)) {x = g + p - g} {y = p} (omega arith)
        ∙ ap (λ l. drop (g - 1) (set (kept ++ l) (g - 1 + p) x)) (drop-cons xs (g - 1 + p) x (omega arith))
        ∙ ap (drop (g - 1)) (set_at kept (get_or xs (g - 1 + p) x) (drop (suc (g - 1 + p)) xs) x (g - 1 + p) long)
        ∙ ap (drop (g - 1)) (append_assoc (take (g - 1) xs) (take p (drop g xs)) (x ∷ drop (suc (g - 1 + p)) xs))
        ∙ drop_at (take (g - 1) xs) _ (g - 1) low
        ∙ ap (λ n. take p (drop g xs) ++ x ∷ drop n xs) {x = suc (g - 1 + p)} {y = g + p} (omega arith)
        ∙ ap (λ l. take p (drop g xs) ++ x ∷ l) behind
      where
        kept : List X
        kept = take (g - 1) xs ++ take p (drop g xs)

        low : length (take (g - 1) xs) ≡ g - 1
        low = length-take-le (g - 1) xs (omega arith)

        long : length kept ≡ g - 1 + p
        long = let both = length-append (take (g - 1) xs) (take p (drop g xs)) in let it = part in let first = low in omega arith

-- those that are left moved to the front
pub closed_up : {X : Type 0} (xs : List X) (g n : ℕ) → g + n ≡ length xs → take n (copy_within xs g (length xs) 0) ≡ drop g xs
closed_up xs g n e =
    let long = length-drop g xs in
    let same : length xs - g ≡ n = omega arith in
    ap (λ k. take n (take 0 xs ++ take k (drop g xs) ++ drop (0 + k) xs)) same
    ∙ ap (λ k. take k (take 0 xs ++ take n (drop g xs) ++ drop (0 + n) xs)) {x = n} {y = 0 + n} (omega arith)
    ∙ take-paste xs 0 (drop g xs) n (omega arith) (omega arith)
    ∙ take_all n (drop g xs) (omega arith)
