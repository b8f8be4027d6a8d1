-- Which keys of an index may be kept.
use Rattle.std.specs.Prelude.{◌≡◌, ◌<◌, ℕ, Bool, true, false, None, nat_lt, slice_index_or}
use Rattle.std.specs.HashMap.{HashMap, get}
use Rattle.eco_index.specs.declared.id_index.numbers.Numbers.{Numbers}
use Rattle.eco_index.specs.declared.id_index.marks.Marks.{Marks}
use Rattle.eco_index.specs.declared.id_index.key.Key.{Key}
use Rattle.eco_index.specs.declared.id_index.key.Key.TheVariants.{Single, Pair, Relationship, Target, AnyPair}
use Rattle.eco_index.specs.declared.id_index.slots.Slots.{Slots}
use Rattle.eco_index.specs.IdIndex.{same_key}

-- the number of an index, 0 past all that were written
abbrev pub number_at : Numbers → ℕ → ℕ
number_at ns n = slice_index_or ns.numbers.items n 0

-- what had a number other than 0 still has one
abbrev pub KeepsNumbers : Numbers → Numbers → Type 0
KeepsNumbers old new = (n : ℕ) → 0 < number_at old n → 0 < number_at new n

-- the mark of the key's entity for what it is in the key; a pair goes by its target
abbrev pub key_mark : Marks → Key → ℕ
key_mark m (Single e) = number_at m.singles e.index
key_mark m (Pair r t) = number_at m.pairs t.index
key_mark m (Relationship r) = number_at m.relationships r.index
key_mark m (Target t) = number_at m.targets t.index
key_mark m AnyPair = m.any_pair

-- the key has a mark
abbrev pub may_be_kept : Marks → Key → Bool
may_be_kept m k = nat_lt 0 (key_mark m k)

-- what might be kept still may
abbrev pub KeepsMarks : Marks → Marks → Type 0
KeepsMarks old new = (k : Key) → may_be_kept old k ≡ true → may_be_kept new k ≡ true

-- no key is kept that may not
abbrev pub AreMarked : {S : Type 0} → Marks → HashMap Key Slots S → Type 0
AreMarked marks m = (k : Key) → may_be_kept marks k ≡ false → get same_key m k ≡ None
