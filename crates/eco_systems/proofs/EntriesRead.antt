-- An entry of a row stands at a slot that reads it.
use Rattle.eco_systems.proofs.Common.{◌≡◌, ℕ, zero, suc, ◌<◌, List, [], ◌∷◌, map, length, Option, Some, slice_get, subst, arith}
use Rattle.eco_systems.proofs.Common.{same_Some, refl, none-some, AllByRecursion, Entity, Id, WorldState, Record, living, QuerySlot, ValuedRow, valued}
use Rattle.eco_systems.proofs.Common.{valued_rows}
use Rattle.std.specs.Prelude.{Contains, get_or}
use Rattle.std.proofs.Common.{le_of_suc-le-suc}
use Rattle.eco_ids.proofs.Exact.{keys}
use Rattle.eco_ids.specs.Answer.{Row, answer, choices}
use Rattle.eco_systems.proofs.Answers.{AreRead, IsRead, asked, choices_read, read_parts}
use Rattle.eco_systems.proofs.Lists.{all_gathered, all_mapped}
use Rattle.eco_systems.proofs.Rows.{row_at}
use Rattle.eco_systems.specs.Laws.{EntriesAreRead}

anything : {A : Type 0} (xs : List A) → AllByRecursion (λ x. Unit {0}) xs
anything [] = tt
anything (x ∷ xs) = (tt, anything xs)

rows_read : (w : WorldState) (slots : List QuerySlot) → AllByRecursion (λ (row : ValuedRow). AreRead slots row.entries) (valued_rows w slots)
rows_read w slots =
    all_mapped (λ (r : Row). AreRead slots r.entries) (λ (row : ValuedRow). AreRead slots row.entries) (valued w slots) (λ r read. read)
    (answer w (asked slots))
    (all_gathered (λ (p : Entity × Record). Unit {0}) (λ (r : Row). AreRead slots r.entries) (λ p. map (row_at p.0) (choices (keys p.1.held) (asked slots)))
    (λ p any. all_mapped (AreRead slots) (λ (r : Row). AreRead slots r.entries) (row_at p.0) (λ es read. read) (choices (keys p.1.held) (asked slots))
    (choices_read (keys p.1.held) slots))
    (living w) (anything (living w)))

one_of : {A : Type 0} (P : A → Type 0) (xs : List A) (x : A) → AllByRecursion P xs → Contains xs x → P x
one_of {A} P xs x all h = by xs all h.0 h.1 h.2
  where
    by : (ys : List A) → AllByRecursion P ys → (k : ℕ) → k < length ys → get_or ys k x ≡ x → P x
    by [] all k within is = absurd (omega (arith, within))
    by (y ∷ ys) all zero within is = subst P is all.0
    by (y ∷ ys) all (suc k) within is = by ys all.1 k (le_of_suc-le-suc within) is

at_slot : (slots : List QuerySlot) (entries : List (Option Id)) (n : ℕ) (i : Id) → AreRead slots entries → slice_get entries n ≡ Some (Some i)
    → (s : QuerySlot) × (slice_get slots n ≡ Some s) × IsRead s.term (Some i)
at_slot [] [] n i read at = absurd (none-some (Some i) at)
at_slot [] (e ∷ es) n i read at = absurd read
at_slot (s ∷ ss) [] n i read at = absurd read
at_slot (s ∷ ss) (e ∷ es) zero i read at = (s, refl, subst (IsRead s.term) (same_Some e (Some i) at) read.0)
at_slot (s ∷ ss) (e ∷ es) (suc n) i read at = at_slot ss es n i read.1 at

pub entries_read : EntriesAreRead
entries_read w slots row n i there at =
    let (s, is, read) = at_slot slots row.entries n i
    (one_of (λ (r : ValuedRow). AreRead slots r.entries) (valued_rows w slots) row (rows_read w slots) there) at in
    let parts = read_parts s.term i read in
    (s, is, parts.0, parts.1)
