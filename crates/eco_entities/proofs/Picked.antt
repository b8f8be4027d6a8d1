-- The buckets that tags pick, where one bucket changes and where all are split.
use Rattle.eco_entities.proofs.Common.{HasMark, Option, None, none-some, arith, ◌≡◌, ℕ, ◌<◌, ◌*◌, ◌/◌}
use Rattle.eco_entities.proofs.Common.{Bool, true, false, List, [], ◌∷◌, ◌++◌, length, set, get_or}
use Rattle.eco_entities.proofs.Common.{slice_get, refl, sym, ap, subst, ◌∙◌, Some, option_map, same_Some, inl, inr, cases_eq}
use Rattle.eco_entities.proofs.Common.{slice_get-set_there, slice_get-set_other, slice_get_read, slice_get_within, Cell}
use Rattle.eco_entities.proofs.Common.{BucketState, IsAt, IsIn, KeepsAll, bucket_of}
use Rattle.eco_entities.proofs.Common.{cells_for, MatchBool-at_true}
use Rattle.eco_entities.proofs.Listed.{in_last, in_more, in_part}
use Rattle.std.proofs.Common.{length-set, MatchBool}

-- something is true of the bucket that the tag picks
abbrev pub Picks : (BucketState → Type 0) → List BucketState → ℕ → Type 0
Picks P buckets tag = (b : BucketState) × (slice_get buckets (bucket_of tag (length buckets)) ≡ Some b) × P b

-- the bucket that is read at a place
pub read_bucket : (buckets : List BucketState) (n count : ℕ) (b : BucketState) → n < count → count ≡ length buckets → b ≡ get_or buckets n b
    → slice_get buckets n ≡ Some b
read_bucket buckets n count b low counted is = slice_get_read buckets (length buckets) n b refl (omega (arith, low, counted)) is

-- one bucket changes
module _ (buckets : List BucketState) (n : ℕ) (old new : BucketState) (there : slice_get buckets n ≡ Some old) where
  counted : (tag : ℕ) → slice_get (set buckets n new) (bucket_of tag (length (set buckets n new)))
      ≡ slice_get (set buckets n new) (bucket_of tag (length buckets))
  counted tag = ap (λ m. slice_get (set buckets n new) (bucket_of tag m)) (length-set buckets n new)

  -- what is true of the new one where the tag picks it
  pub picked_here : (P : BucketState → Type 0) (tag : ℕ) → n ≡ bucket_of tag (length buckets) → P new → Picks P (set buckets n new) tag
  picked_here P tag is holds =
      (new, counted tag ∙ (ap (slice_get (set buckets n new)) (sym is) ∙ slice_get-set_there buckets n new old there), holds)

  -- what stays true of it stays true of what each tag picks
  pub picked_still : (P : BucketState → Type 0) (tag : ℕ) → (P old → P new) → Picks P buckets tag → Picks P (set buckets n new) tag
  picked_still P tag keeps (b, at, holds) = elim (cases_eq (bucket_of tag (length buckets)) n) [
    | inl same ↦
        let is : b ≡ old = same_Some b old (sym at ∙ (ap (slice_get buckets) same ∙ there)) in
        picked_here P tag (sym same) (keeps (subst P is holds))
    | inr away ↦ (b, counted tag ∙ (slice_get-set_other buckets n (bucket_of tag (length buckets)) new away ∙ at), holds)
  ]

  pub keeps_all : ((c : Cell) → IsIn c old.0 → IsIn c new.0) → ((tag : ℕ) → HasMark old tag → HasMark new tag)
      → KeepsAll buckets (set buckets n new)
  keeps_all cells marks = record {
    count = length-set buckets n new;
    cells = λ c. picked_still (λ b. IsIn c b.0) c.tag (cells c);
    marks = λ tag. picked_still (λ b. HasMark b tag) tag (marks tag);
  }

-- a bucket takes a cell, or has no room for it
module _ (cell : Cell) (old new : BucketState) (r : Bool) (done : MatchBool r (new ≡ (old.0 ++ cell ∷ [], old.1)) (new ≡ old)) where
  pub taken : r ≡ true → IsIn cell new.0
  taken h = subst (λ (b : BucketState). IsIn cell b.0) (sym (MatchBool-at_true _ _ h done)) (in_last cell old.0)

  pub cells_kept : (c : Cell) → IsIn c old.0 → IsIn c new.0
  cells_kept c h = by r done
    where
      by : (b : Bool) → MatchBool b (new ≡ (old.0 ++ cell ∷ [], old.1)) (new ≡ old) → IsIn c new.0
      by true is = subst (λ (b : BucketState). IsIn c b.0) (sym is) (in_more c old.0 (cell ∷ []) h)
      by false is = subst (λ (b : BucketState). IsIn c b.0) (sym is) h

  pub marks_kept : (tag : ℕ) → HasMark old tag → HasMark new tag
  marks_kept tag h = by r done
    where
      by : (b : Bool) → MatchBool b (new ≡ (old.0 ++ cell ∷ [], old.1)) (new ≡ old) → HasMark new tag
      by true is = subst (λ (b : BucketState). HasMark b tag) (sym is) h
      by false is = subst (λ (b : BucketState). HasMark b tag) (sym is) h

-- each bucket's cells in two
abbrev pub cells_at : List BucketState → ℕ → Option (List Cell)
cells_at buckets n = option_map (λ (b : BucketState). b.0) (slice_get buckets n)

abbrev pub ArePartsTo : ℕ → List BucketState → ℕ → List BucketState → Type 0
ArePartsTo count old n new = (j : ℕ) → j < n → cells_at new j ≡ option_map (cells_for j count) (cells_at old (j / 2))

-- the bucket with these cells
with_cells : (buckets : List BucketState) (n : ℕ) (cs : List Cell) → cells_at buckets n ≡ Some cs
    → (b : BucketState) × (slice_get buckets n ≡ Some b) × (b.0 ≡ cs)
with_cells buckets n cs is = by (slice_get buckets n) refl is
  where
    by : (o : Option BucketState) → slice_get buckets n ≡ o → option_map (λ (b : BucketState). b.0) o ≡ Some cs
        → (b : BucketState) × (slice_get buckets n ≡ Some b) × (b.0 ≡ cs)
    by None there h = absurd (none-some cs h)
    by (Some b) there h = (b, there, same_Some b.0 cs h)

half_of : (x n : ℕ) → x * (2 * n) / 4294967296 / 2 ≡ x * n / 4294967296
half_of x n = omega arith

pub parts_keep : (old new : List BucketState) (count : ℕ) → count ≡ 2 * length old → ArePartsTo count old count new → length new ≡ count
    → (c : Cell) → IsAt old c → IsAt new c
parts_keep old new count twice parts counted c (b, at, h) =
    let place : ℕ = bucket_of c.tag count in
    let half : place / 2 ≡ bucket_of c.tag (length old) = ap (λ m. bucket_of c.tag m / 2) twice ∙ half_of c.tag (length old) in
    let within : bucket_of c.tag (length old) < length old = slice_get_within old (bucket_of c.tag (length old)) b at in
    let low : place < count = omega (arith, half, within, twice) in
    let is : cells_at new place ≡ Some (cells_for place count b.0) =
    parts place low ∙ (ap (λ m. option_map (cells_for place count) (cells_at old m)) half
    ∙ ap (λ o. option_map (cells_for place count) (option_map (λ (d : BucketState). d.0) o)) at) in
    let (d, there, cells) = with_cells new place (cells_for place count b.0) is in
    (d, ap (λ m. slice_get new (bucket_of c.tag m)) counted ∙ there, subst (IsIn c) (sym cells) (in_part c place count b.0 refl h))
