-- The slots that pass a test, so far: one more stands behind them, or is passed over.
use Rattle.eco_archetypes.proofs.Common.{◌≡◌, ℕ, ◌+◌, ◌<◌, ◌≤◌, Bool, true, false, cond, List, [], ◌∷◌, ◌++◌, length, get_or, take, filter, Option, sym, ap}
use Rattle.eco_archetypes.proofs.Common.{◌∙◌, append_assoc, nat_lt, TableState, table_in, has_rows}
use Rattle.std.proofs.lemmas.Bool.{lt-ltb, le-ltb}
use Rattle.std.proofs.lemmas.List.{append-nil}
use Rattle.std.proofs.lemmas.List.Elements.{filter_more}

module _ (p : ℕ → Bool) (xs : List ℕ) (i : ℕ) (base old new : List ℕ) (here : i < length xs) (so_far : old ≡ base ++ filter p (take i xs)) where
  step : (b : Bool) → p (get_or xs i 0) ≡ b → new ≡ old ++ cond b (get_or xs i 0 ∷ []) [] → new ≡ base ++ filter p (take (i + 1) xs)
  step b is added =
      added
      ∙ ap (λ zs. zs ++ cond b (get_or xs i 0 ∷ []) []) so_far
      ∙ append_assoc base (filter p (take i xs)) (cond b (get_or xs i 0 ∷ []) [])
      ∙ ap (λ c. base ++ (filter p (take i xs) ++ cond c (get_or xs i 0 ∷ []) [])) (sym is)
      ∙ ap (λ zs. base ++ zs) (sym (filter_more p xs i 0 here))

  pub put_more : p (get_or xs i 0) ≡ true → new ≡ old ++ get_or xs i 0 ∷ [] → new ≡ base ++ filter p (take (i + 1) xs)
  put_more is added = step true is added

  pub passed_over : p (get_or xs i 0) ≡ false → new ≡ old → new ≡ base ++ filter p (take (i + 1) xs)
  passed_over is same = step false is (same ∙ sym (append-nil old))

-- whether a table has rows, by their count
pub has_some : (s : List (Option TableState)) (n count : ℕ) → count ≡ length (table_in s n).rows → 0 < count → has_rows s n ≡ true
has_some s n count is some = ap (nat_lt 0) (sym is) ∙ lt-ltb 0 count some

pub has_none : (s : List (Option TableState)) (n count : ℕ) → count ≡ length (table_in s n).rows → count ≤ 0 → has_rows s n ≡ false
has_none s n count is none = ap (nat_lt 0) (sym is) ∙ le-ltb 0 count none
