-- What a clause says of a round and of its seats.
use Rattle.std.specs.Prelude.{◌≡◌, ℕ, ◌<◌, Bool, true, false, List, [], ◌∷◌, ◌++◌, count_by, Option, None, Result, Err, MatchOption, MatchResult}
use Rattle.std.specs.List.{range_with_len}
use Rattle.eco_ids.specs.declared.entity.Entity.{Entity}
use Rattle.eco_ids.specs.declared.refusal.Refusal.{Refusal}
use Rattle.eco_ids.specs.declared.refusal.Refusal.TheVariants.{NoMoreIds}
use Rattle.eco_workers.specs.declared.round.Round.{Round}
use Rattle.eco_workers.specs.declared.seat.Seat.{Seat}

-- how many pieces there are to claim, from 0
abbrev pub piece_count : Round → ℕ
piece_count r = r.pieces

-- the first index to be drawn
abbrev pub base_of : Round → ℕ
base_of r = r.base

-- the indices to be drawn are those below this
abbrev pub limit_of : Round → ℕ
limit_of r = r.limit

-- how many seats the round has
abbrev pub seats_of : Round → ℕ
seats_of r = r.seats

-- the pieces that the seat has claimed, in order
abbrev pub claimed : Seat → List ℕ
claimed s = s.claim.hand.me.0.numbers

-- the indices that the seat has drawn, in order
abbrev pub drawn : Seat → List ℕ
drawn s = s.draw.hand.me.0.numbers

-- the seat was refused a piece
abbrev pub is_done : Seat → Bool
is_done s = s.claim.over

-- the seat was refused an index
abbrev pub is_dry : Seat → Bool
is_dry s = s.draw.over

-- the seat is one of this round
abbrev pub IsSeatOf : Round → Seat → Type 0
IsSeatOf r s =
    (s.claim.hand.table_id ≡ r.claims.shared.table_id) × (s.claim.hand.me.0.bound ≡ r.pieces)
    × (s.draw.hand.table_id ≡ r.draws.shared.table_id) × (s.draw.hand.me.0.bound ≡ r.limit)

-- it is one that has claimed and drawn nothing, and was refused nothing
abbrev pub IsNewSeatOf : Round → Seat → Type 0
IsNewSeatOf r s = IsSeatOf r s × (claimed s ≡ []) × (drawn s ≡ []) × (is_done s ≡ false) × (is_dry s ≡ false)

-- what a claim does: a seat that was refused a piece before is refused again and stays as it is. Else the seat is refused, or it has
-- a piece more, which is the answer
abbrev pub ClaimsPiece : Round → Seat → Option ℕ → Seat → Type 0
ClaimsPiece r old answer new =
    (is_done old ≡ true → (answer ≡ None) × (new ≡ old))
    × (is_done old ≡ false → MatchOption answer
    ((is_done new ≡ true) × (claimed new ≡ claimed old))
    (λ n. (n < piece_count r) × (is_done new ≡ false) × (claimed new ≡ claimed old ++ n ∷ [])))

-- what a draw does: a seat that was refused an index before is refused again and stays as it is. Else the seat is refused, or it has
-- an index more, of which the answer is the handle of generation 0
abbrev pub Draws : Round → Seat → Result Entity Refusal → Seat → Type 0
Draws r old answer new =
    (is_dry old ≡ true → (answer ≡ Err NoMoreIds) × (new ≡ old))
    × (is_dry old ≡ false → MatchResult answer
    (λ e. (e.generation ≡ 0) × (e.index < limit_of r) × (is_dry new ≡ false) × (drawn new ≡ drawn old ++ e.index ∷ []))
    (λ why. (why ≡ NoMoreIds) × (is_dry new ≡ true) × (drawn new ≡ drawn old)))

-- how many of the seats were refused a piece
abbrev pub done_count : List Seat → ℕ
done_count seats = count_by is_done seats

-- and how many an index
abbrev pub dry_count : List Seat → ℕ
dry_count seats = count_by is_dry seats

-- a seat alone has claimed the first pieces and drawn the first indices, in order, without a gap
abbrev pub Alone : ℕ → List Seat → ℕ → ℕ → Type 0
Alone base seats pieces indices =
    (s : Seat) → seats ≡ s ∷ [] → (claimed s ≡ range_with_len 0 pieces) × (drawn s ≡ range_with_len base indices)
