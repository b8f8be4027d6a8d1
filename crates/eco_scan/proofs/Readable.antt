-- Each text spells something or has a first fault: a machine runs through it, or stops there.
use Rattle.eco_scan.proofs.Common.{◌≡◌, ℕ, suc, ◌+◌, ◌<◌, ◌⊎◌, List, [], ◌∷◌, length, get_or, take, Some, None, option_map}
use Rattle.eco_scan.proofs.Common.{option_and_then, refl, ap, ◌∙◌, subst, inl, inr, arith, take-length, WrittenSlot, SpellsId, SpellsQuery, SpellsRef}
use Rattle.eco_scan.proofs.Common.{Point, advance, runs, move, end, Stops, id_start, query_start, ref_start, SpellsOrFails}
use Rattle.eco_scan.proofs.Rest.{Rest}
use Rattle.eco_scan.proofs.Runs.{read_out}
use Rattle.eco_scan.proofs.Spelled.{start_out, id_out, id_fault, query_fault, ref_out, ref_fault}

-- the machine, at this count and point, runs through the whole text
abbrev RunsThrough : ℕ → Point → List ℕ → Type 0
RunsThrough m p text = (c : ℕ) × (q : Point) × (c ≡ m + length text) × (runs advance (m, p) text ≡ Some (c, q))

-- or it has no move at one of its bytes
abbrev Sticks : ℕ → Point → List ℕ → Type 0
Sticks m p text = (n : ℕ) × (c : ℕ) × (q : Point) × (c ≡ m + n) × (n < length text) × (runs advance (m, p) (take n text) ≡ Some (c, q))
    × (move c q (get_or text n 0) ≡ None)

through_more : (m b : ℕ) (p q : Point) (bs : List ℕ) → move m p b ≡ Some q → RunsThrough (m + 1) q bs ⊎ Sticks (m + 1) q bs
    → RunsThrough m p (b ∷ bs) ⊎ Sticks m p (b ∷ bs)
through_more m b p q bs e (inl (c, r, count, run)) =
    inl (c, r, omega arith, ap (λ o. option_and_then (λ s. runs advance s bs) (option_map (λ q. (m + 1, q)) o)) e ∙ run)
through_more m b p q bs e (inr (n, c, r, count, lt, run, stuck)) =
    inr (
      suc n,
      c,
      r,
      omega arith,
      omega arith,
      ap (λ o. option_and_then (λ s. runs advance s (take n bs)) (option_map (λ q. (m + 1, q)) o)) e
          ∙ run,
      stuck,
    )

through : (m : ℕ) (p : Point) (text : List ℕ) → RunsThrough m p text ⊎ Sticks m p text
through m p [] = inl (m, p, omega arith, refl)
through m p (b ∷ bs) =
    elim (move m p b) as (λ o. move m p b ≡ o → RunsThrough m p (b ∷ bs) ⊎ Sticks m p (b ∷ bs)) [
      | None ↦ λ e. inr (0, m, p, omega arith, omega arith, refl, e)
      | Some q ↦ λ e. through_more m b p q bs e (through (m + 1) q bs)
    ] refl

-- from a point of start, a text is left at an end, or there is a fault
ended_or_stops : (p : Point) (text : List ℕ) → ((r : List WrittenSlot) × Rest (length text) r p text) ⊎ ((n : ℕ) × Stops p text n)
ended_or_stops p text = elim (through 0 p text) [
  | inl (c, q, count, run) ↦
      (let at_end : c ≡ length text = omega arith in
      elim (end q) as (λ o. end q ≡ o → ((r : List WrittenSlot) × Rest (length text) r p text) ⊎ ((n : ℕ) × Stops p text n)) [
        | None ↦ λ e. inr (length text, (q, rw take-length (run ∙ ap (λ k. Some (k, q)) at_end), inr (refl, e)))
        | Some r ↦ λ e. inl (r, read_out p text r c q run e)
      ] refl)
  | inr (n, c, q, count, lt, run, stuck) ↦
      (let at_n : c ≡ n = omega arith in
      inr (n, (q, run ∙ ap (λ k. Some (k, q)) at_n, inl (lt, subst (λ k. move k q (get_or text n 0) ≡ None) at_n stuck))))
]

pub refs_or_fail : SpellsOrFails SpellsRef
refs_or_fail text = elim (ended_or_stops ref_start text) [
  | inl (slots, rest) ↦ (let (r, s, e) = ref_out text slots rest in inl (r, s))
  | inr (n, stops) ↦ inr (n, ref_fault text n stops)
]

pub ids_or_fail : SpellsOrFails SpellsId
ids_or_fail text = elim (ended_or_stops id_start text) [
  | inl (slots, rest) ↦ (let (x, s, e) = id_out text slots rest in inl (x, s))
  | inr (n, stops) ↦ inr (n, id_fault text n stops)
]

pub queries_or_fail : SpellsOrFails SpellsQuery
queries_or_fail text = elim (ended_or_stops query_start text) [
  | inl (slots, rest) ↦ inl (slots, start_out (length text) text slots rest)
  | inr (n, stops) ↦ inr (n, query_fault text n stops)
]
