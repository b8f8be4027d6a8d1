use Rattle.eco_entities.proofs.Common.{◌≡◌, ℕ, suc, ◌-◌, ◌<◌, length, drop, slice_get, Some, Err, refl, sym, ap, ◌∙◌, subst, arith}
use Rattle.eco_entities.proofs.Common.{MatchResult, nat_cmp, Less, Equal, ranked, slice_get_read, Label, IsEntry, IsGap}
use Rattle.eco_entities.proofs.Seats.{seat, seat_is, seat_found, seat_after}
use Rattle.eco_entities.proofs.page.seek_back.Goals as goal

pub returns-in-Equal : goal.returns-in-Equal
returns-in-Equal c =
    let es = c.args.entries.now in
    let k = c.args.index in
    let n = c.loop-place.place - 1 in
    let e = c.index-entries-place.result in
    let read : slice_get es n ≡ Some e =
    slice_get_read es (length es) n e refl (omega (arith, c.loop-place.invariant.0, c.loop-place-test.true)) c.index-entries-place.is in
    let same : e.0 ≡ k = ranked e.0 k Equal (c.in-Equal.ensures ∙ ap (λ (x : ℕ × Label). nat_cmp x.0 k) (sym c.index-entries-place.is)) in
    subst (λ r. MatchResult r (IsEntry k es) (IsGap k es)) (seat_found k es n e c.requires read same) (seat_is k es c.requires)

pub returns-in-Less : goal.returns-in-Less
returns-in-Less c =
    let es = c.args.entries.now in
    let k = c.args.index in
    let n = c.loop-place.place - 1 in
    let e = c.index-entries-place.result in
    let read : slice_get es n ≡ Some e =
    slice_get_read es (length es) n e refl (omega (arith, c.loop-place.invariant.0, c.loop-place-test.true)) c.index-entries-place.is in
    let below : e.0 < k = ranked e.0 k Less (c.in-Less.ensures ∙ ap (λ (x : ℕ × Label). nat_cmp x.0 k) (sym c.index-entries-place.is)) in
    let next : c.loop-place.place ≡ suc n = omega (arith, c.loop-place-test.true) in
    let past : seat k (drop (suc n) es) ≡ Err 0 = subst (λ m. seat k (drop m es) ≡ Err 0) next c.loop-place.invariant.1 in
    subst (IsGap k es) (sym next)
    (subst (λ r. MatchResult r (IsEntry k es) (IsGap k es)) (seat_after k es n e c.requires read below past) (seat_is k es c.requires))

pub returns : goal.returns
returns c =
    let es = c.args.entries.now in
    let k = c.args.index in
    let first : c.loop-place.place ≡ 0 = omega (arith, c.loop-place-test.false) in
    let past : seat k es ≡ Err 0 = subst (λ m. seat k (drop m es) ≡ Err 0) first c.loop-place.invariant.1 in
    subst (λ r. MatchResult r (IsEntry k es) (IsGap k es)) past (seat_is k es c.requires)
