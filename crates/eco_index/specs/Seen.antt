-- Ids that were seen: a list that ascends, and a set.
use Rattle.std.specs.Prelude.{◌≡◌, Bool, ◌||◌, IsTrue, IsFalse, List}
use Rattle.std.specs.List.{list_all}
use Rattle.std.specs.Ordering.{is_lt}
use Rattle.std.specs.BTreeSet.{contains}
use Rattle.eco_ids.specs.Order.{has_item, id_cmp, id_eq, is_ascending}
use Rattle.eco_ids.specs.declared.id.Id.{Id}
use Rattle.eco_index.specs.declared.seen.Seen.{Seen}

-- the id is above each of the list
abbrev pub is_above : List Id → Id → Bool
is_above run i = list_all (λ y. is_lt (id_cmp y i)) run

-- the id is in the list or in the set
abbrev pub is_seen : Seen → Id → Bool
is_seen s i = has_item id_cmp s.run.items i || contains id_cmp s.rest i

-- the list ascends, and what is above all of it is not in the set
pub record AreApart (s : Seen) : Type 0 where
  pub ascends : IsTrue (is_ascending id_cmp s.run.items)
  pub apart : (i : Id) → IsTrue (is_above s.run.items i) → IsFalse (contains id_cmp s.rest i)

-- no id is seen
abbrev pub SeesNone : Seen → Type 0
SeesNone s = (i : Id) → IsFalse (is_seen s i)

-- the id is seen besides
abbrev pub SeesToo : Id → Seen → Seen → Type 0
SeesToo i old new = (x : Id) → is_seen new x ≡ (is_seen old x || id_eq i x)
