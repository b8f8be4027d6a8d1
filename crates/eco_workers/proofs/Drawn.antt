-- Handles that were drawn, and their indices.
use Rattle.eco_workers.proofs.Common.{◌≡◌, ℕ, ◌<◌, ◌≤◌, Bool, true, false, List, [], ◌∷◌, ◌++◌, length, map, refl, sym, ap}
use Rattle.eco_workers.proofs.Common.{◌∙◌, inl, inr, arith, append-nil, length-map, Refusal, NoMoreIds, Command, Broke, Took, fresh, stopped_by}
use Rattle.eco_workers.proofs.Common.{IsStopped}
use Rattle.eco_ids.specs.declared.entity.Entity.{Entity}

-- what was drawn behind the first fresh handles are fresh handles too
behind : (old new : List ℕ) (mine : List Entity) → map fresh new ≡ map fresh old ++ mine → (indices : List ℕ) × (new ≡ old ++ indices)
    × (mine ≡ map fresh indices)
behind [] new mine e = (new, refl, sym e)
behind (x ∷ xs) [] mine e = absurd cc
behind (x ∷ xs) (y ∷ ys) mine e =
    let head : fresh y ≡ fresh x = cc in
    let same : y ≡ x = ap (λ (h : Entity). h.index) head in
    let rest = behind xs ys mine cc in
    (rest.0, ap (λ z. z ∷ ys) same ∙ ap (λ zs. x ∷ zs) rest.1, rest.2)

pub took_behind : (old new : List ℕ) (commands : List Entity → List Command) (taken : List Entity → ℕ) (stage stage' : List Command)
    → Took commands taken (map fresh old) (map fresh new) stage stage'
    → (mine : List ℕ) × (new ≡ old ++ mine) × ((taken (map fresh mine) ≡ length mine) × (stage' ≡ stage ++ commands (map fresh mine)))
took_behind old new commands taken stage stage' t =
    let b = behind old new t.0 t.1 in
    let all = t.2 [] in
    let same : t.0 ++ [] ≡ map fresh b.0 = append-nil t.0 ∙ b.2 in
    let count : length t.0 ≡ length b.0 = ap length b.2 ∙ length-map b.0 fresh in
    (b.0, b.1, (sym (ap taken same) ∙ all.0 ∙ count, all.1 ∙ ap (λ l. stage ++ commands l) same))

pub took_indices : (old new : List ℕ) (commands : List Entity → List Command) (taken : List Entity → ℕ) (empty stage : List Command)
    → empty ≡ []
    → Took commands taken (map fresh old) (map fresh new) empty stage
    → (mine : List ℕ) × (new ≡ old ++ mine) × ((taken (map fresh mine) ≡ length mine) × (stage ≡ commands (map fresh mine)))
took_indices old new commands taken empty stage none t =
    let b = took_behind old new commands taken empty stage t in
    (b.0, b.1, (b.2.0, b.2.1 ∙ ap (λ s. s ++ commands (map fresh b.0)) none))

pub is_stopped : (dry : Bool) (refusal : Refusal) → refusal ≡ stopped_by dry → IsStopped refusal
is_stopped true refusal is = inl is
is_stopped false refusal is = inr is

not_for_memory : (dry : Bool) (refusal : Refusal) → refusal ≡ stopped_by dry → refusal ≡ NoMoreIds → dry ≡ true
not_for_memory true refusal is no_more = refl
not_for_memory false refusal is no_more = absurd cc

pub broke_indices : (old new : List ℕ) (taken : List Entity → ℕ) (dry : Bool) (refusal : Refusal)
    → refusal ≡ stopped_by dry
    → Broke taken (map fresh old) (map fresh new) dry
    → (mine : List ℕ) × (new ≡ old ++ mine) × (length mine ≤ taken (map fresh mine))
    × (refusal ≡ NoMoreIds → (dry ≡ true) × (length mine < taken (map fresh mine)))
broke_indices old new taken dry refusal is h =
    let b = behind old new h.0 h.1 in
    let same : h.0 ++ [] ≡ map fresh b.0 = append-nil h.0 ∙ b.2 in
    let count : length h.0 ≡ length b.0 = ap length b.2 ∙ length-map b.0 fresh in
    let takes = ap taken same in
    let most = h.2 [] in (
      b.0,
      b.1,
      omega (arith, count, takes, most),
      (λ no_more.
          let dried = not_for_memory dry refusal is no_more in
          let more = h.3 dried [] in
          (dried, omega (arith, count, takes, more))),
    )
