-- A number that tells sets of ids apart, mostly, and that follows whatever joins or leaves a set.
use Rattle.std.specs.Prelude.{◌≡◌, ℕ, ◌%◌, ◌^◌, IsTrue, List, fold}
use Rattle.std.specs.List.{sum_by}
use Rattle.std.specs.Hash.FoldHasher as folding
use Rattle.eco_ids.specs.declared.id.Id.{Id}
use Rattle.eco_ids.specs.Hashing.{id_fed}
use Rattle.eco_ids.specs.Order.{id_cmp, is_ascending}

-- what one id adds: what it hashes to by itself
abbrev pub id_share : Id → ℕ
id_share i = folding.finish (fold folding.write folding.initial (id_fed i))

-- what all of them add, in 64 bits
abbrev pub fingerprint : List Id → ℕ
fingerprint ids = sum_by id_share ids % 2 ^ 64

-- the ids ascend, each once, and the number is their fingerprint
pub record IsTypeList (ids : List Id) (mark : ℕ) : Type 0 where
  pub ascending : IsTrue (is_ascending id_cmp ids)
  pub marked : mark ≡ fingerprint ids
