-- The lines of the commands of a frame, batch by batch.
use Rattle.eco_script.proofs.Common.{◌≡◌, ℕ, ◌+◌, ◌<◌, ◌≤◌, List, [], ◌∷◌, ◌++◌, length, take, drop, get_or, refl, sym, ap}
use Rattle.eco_script.proofs.Common.{◌∙◌, arith, append_assoc, append-nil, length-append, take_more, take-append-drop, joined, Outcomes, command_line}
use Rattle.eco_script.proofs.Common.{command_lines}

lines_append : (k : ℕ) (xs ys : Outcomes) → command_lines k (xs ++ ys) ≡ command_lines k xs ++ command_lines (k + length xs) ys
lines_append k [] ys = let same : k ≡ k + 0 = omega arith in ap (λ n. command_lines n ys) same
lines_append k (x ∷ xs) ys =
    let count : k + 1 + length xs ≡ k + length (x ∷ xs) = omega arith in
    ap (λ t. command_line k x ++ t) (lines_append (k + 1) xs ys ∙ ap (λ n. command_lines (k + 1) xs ++ command_lines n ys) count)
    ∙ sym (append_assoc (command_line k x) (command_lines (k + 1) xs) _)

joined_append : {A : Type 0} (xs ys : List (List A)) → joined (xs ++ ys) ≡ joined xs ++ joined ys
joined_append [] ys = refl
joined_append (x ∷ xs) ys = ap (λ t. x ++ t) (joined_append xs ys) ∙ sym (append_assoc x (joined xs) (joined ys))

module _ (rs : List Outcomes) (i : ℕ) (r : Outcomes) (there : i < length rs) (is : r ≡ get_or rs i r) where
  front : joined (take (i + 1) rs) ≡ joined (take i rs) ++ r
  front =
      ap joined (take_more rs i r there) ∙ joined_append (take i rs) (get_or rs i r ∷ []) ∙ ap (λ t. joined (take i rs) ++ t) (append-nil (get_or rs i r))
      ∙ ap (λ t. joined (take i rs) ++ t) (sym is)

  -- so many commands are there with those of one more batch
  pub count_more : length (joined (take (i + 1) rs)) ≡ length (joined (take i rs)) + length r
  count_more = ap length front ∙ length-append (joined (take i rs)) r

  -- and no more than there are in all
  pub count_within : length (joined (take i rs)) + length r ≤ length (joined rs)
  count_within =
      let whole : length (joined rs) ≡ length (joined (take (i + 1) rs)) + length (joined (drop (i + 1) rs)) =
      ap (λ xs. length (joined xs)) (sym (take-append-drop (i + 1) rs)) ∙ ap length (joined_append (take (i + 1) rs) (drop (i + 1) rs))
      ∙ length-append (joined (take (i + 1) rs)) (joined (drop (i + 1) rs)) in
      omega (arith, count_more)

  -- the lines of the batches so far, and of one more
  pub lines_more : (text old new : List ℕ) (k : ℕ) → k ≡ length (joined (take i rs)) → old ≡ text ++ command_lines 0 (joined (take i rs))
      → new ≡ old ++ command_lines k r → new ≡ text ++ command_lines 0 (joined (take (i + 1) rs))
  lines_more text old new k at was wrote =
      wrote ∙ ap (λ t. t ++ command_lines k r) was ∙ append_assoc text (command_lines 0 (joined (take i rs))) (command_lines k r)
      ∙ ap (λ t. text ++ t) (ap (λ n. command_lines 0 (joined (take i rs)) ++ command_lines n r) (at ∙ sym zero)
      ∙ sym (lines_append 0 (joined (take i rs)) r) ∙ ap (command_lines 0) (sym front)) where
        zero : 0 + length (joined (take i rs)) ≡ length (joined (take i rs))
        zero = omega arith
