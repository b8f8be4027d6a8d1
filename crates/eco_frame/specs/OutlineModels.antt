-- What is worked out of a system once.
use Rattle.std.specs.Prelude.{ℕ, ◌≤◌, Bool, List, slice_range}
use Rattle.eco_ids.specs.declared.pattern.Pattern.{Pattern}
use Rattle.eco_frame.specs.declared.outline.Outline.{Outline}

-- its closed writes, whether one of them writes traits, and whether the system kills
pub record OutlineModel : Type 0 where
  pub closed : List Pattern
  pub writes_traits : Bool
  pub kills : Bool

-- the closed writes are a part of those of all systems
abbrev pub outline_of : List Pattern → Outline → OutlineModel
outline_of all o = record { closed = slice_range all o.start o.end; writes_traits = o.writes_traits; kills = o.kills }

-- the part lies within the first so many
pub record IsWithin (count : ℕ) (o : Outline) : Type 0 where
  pub start : o.start ≤ o.end
  pub end : o.end ≤ count
