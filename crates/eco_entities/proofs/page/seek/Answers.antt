use Rattle.eco_entities.proofs.Common.{◌≡◌, ℕ, length, slice_get, Some, refl, ◌%◌, ap, ◌∙◌, subst, MatchResult, slice_get_read, Label, IsEntry, IsGap}
use Rattle.eco_entities.proofs.Seats.{seat_is, seat_found}
use Rattle.eco_entities.proofs.page.seek.Goals as goal

pub returns-then-entries-place : goal.returns-then-entries-place
returns-then-entries-place c =
    let es = c.args.entries.now in
    let k = c.args.index in
    let e = c.index-entries-place.result in
    let read : slice_get es (k % 64) ≡ Some e = slice_get_read es (length es) (k % 64) e refl c.if-place-entries.true c.index-entries-place.is in
    let same : e.0 ≡ k = ap (λ (x : ℕ × Label). x.0) c.index-entries-place.is ∙ c.if-entries-place.true in
    subst (λ r. MatchResult r (IsEntry k es) (IsGap k es)) (seat_found k es (k % 64) e c.requires read same) (seat_is k es c.requires)
