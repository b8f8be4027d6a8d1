-- Rows of the grammar that compute.
use Rattle.eco_scan.proofs.Common.{◌≡◌, ℕ, List, [], ◌∷◌, Some, codes, Option, option_and_then, refl, inl, inr, arith, name, IsSpelled, IsFault}
use Rattle.eco_scan.proofs.Common.{named, each, any, single, pair, absent, alternatives, WrittenSlot, SpellsQuery, In, InOut, Point, end, advance, runs}
use Rattle.eco_scan.proofs.Common.{query_start}
use Rattle.eco_scan.proofs.Spelled.{query_fault}

row_inn : IsFault (IsSpelled SpellsQuery) (codes "[inn] P") 3
row_inn = query_fault (codes "[inn] P") 3 (_, refl, inl (omega arith, refl))

row_in_out : IsFault (IsSpelled SpellsQuery) (codes "[in out]") 4
row_in_out = query_fault (codes "[in out]") 4 (_, refl, inl (omega arith, refl))

row_not_group : IsFault (IsSpelled SpellsQuery) (codes "P || !F") 5
row_not_group = query_fault (codes "P || !F") 5 (_, refl, inl (omega arith, refl))

row_half_bar : IsFault (IsSpelled SpellsQuery) (codes "P |F") 3
row_half_bar = query_fault (codes "P |F") 3 (_, refl, inl (omega arith, refl))

row_comma : IsFault (IsSpelled SpellsQuery) (codes "P, ") 3
row_comma = query_fault (codes "P, ") 3 (_, refl, inr (refl, refl))

row_zero : IsFault (IsSpelled SpellsQuery) (codes "#01.0") 2
row_zero = query_fault (codes "#01.0") 2 (_, refl, inl (omega arith, refl))

row_generation : IsFault (IsSpelled SpellsQuery) (codes "#1.65536") 7
row_generation = query_fault (codes "#1.65536") 7 (_, refl, inl (omega arith, refl))

abbrev row_text : List ℕ
row_text = codes "[in]P,! F , (L,*)||_"

abbrev row_slots : List WrittenSlot
row_slots =
    (record { access = In; body = alternatives (single (named 4 (name (codes "P"))) ∷ []) })
    ∷ (record { access = InOut; body = absent (single (named 8 (name (codes "F")))) })
    ∷ (record { access = InOut; body = alternatives (pair (named 13 (name (codes "L"))) each ∷ single any ∷ []) }) ∷ []

abbrev row_last : Option (ℕ × Point)
row_last = runs advance (0, query_start) row_text

row_end : option_and_then (λ s. end s.1) row_last ≡ Some row_slots
row_end = refl
