-- The first of some ids that matches, where all that match fill the pattern as it does.
use Rattle.std.specs.Prelude.{◌≡◌, Bool, true, false, Option, Some, None}
use Rattle.eco_ids.specs.Answer.{same_filling}
use Rattle.eco_ids.specs.Matching.{pattern_matches}
use Rattle.eco_ids.specs.declared.id.Id.{Id}
use Rattle.eco_ids.specs.declared.pattern.Pattern.{Pattern}

-- the first match is the new one where no id before it matched, and the old one else, which the new one fills alike
abbrev pub IsJoined : Pattern → Id → Option Id → Option Id → Type 0
IsJoined p i None new = new ≡ Some i
IsJoined p i (Some own) new = (same_filling p own i ≡ true) × (new ≡ Some own)

-- only an id that matches counts
abbrev pub IsJoinedIf : Bool → Pattern → Id → Option Id → Option Id → Type 0
IsJoinedIf true p i old new = IsJoined p i old new
IsJoinedIf false p i old new = new ≡ old

-- the id matches, and does not fill the pattern as the first match before it does
abbrev pub IsOther : Pattern → Id → Option Id → Type 0
IsOther p i None = ⊥
IsOther p i (Some own) = (pattern_matches p i ≡ true) × (same_filling p own i ≡ false)

-- the first match among some ids, and among these and one more
abbrev pub IsNext : Pattern → Id → Option Id → Option Id → Type 0
IsNext p i old new = IsJoinedIf (pattern_matches p i) p i old new
