-- Which slots have the tables of types.
use Rattle.std.specs.Prelude.{◌≡◌, ℕ, Bool, false, not, ◌&&◌, nat_eq, List, Option, None, Some}
use Rattle.std.specs.Cmp.Lexicographic.{pointwise}
use Rattle.eco_ids.specs.declared.id.Id.{Id}
use Rattle.eco_ids.specs.contracts.id.IdPartialEq.TheImpl as id_impl
use Rattle.eco_ids.specs.Fingerprint.{fingerprint}

-- `==` of types: id by id
abbrev pub same_ids : List Id → List Id → Bool
same_ids = pointwise (id_impl.eq-value).it

-- it is the one number, and not the other
abbrev pub is_but : ℕ → ℕ → ℕ → Bool
is_but mark other m = nat_eq mark m && not (nat_eq other m)

-- there is a type, and it has the fingerprint
abbrev pub type_marked : Option (List Id) → ℕ → Bool
type_marked None mark = false
type_marked (Some ids) mark = nat_eq (fingerprint ids) mark

-- the map lists, under each number, exactly the slots of the tables whose types have it as their fingerprint
abbrev pub IsTypeMap : (ℕ → Option (List Id)) → (ℕ → ℕ → Bool) → Type 0
IsTypeMap types lists = (mark n : ℕ) → lists mark n ≡ type_marked (types n) mark

-- no two slots have the same type
abbrev pub TypesDiffer : (ℕ → Option (List Id)) → Type 0
TypesDiffer types = (n m : ℕ) (ids : List Id) → types n ≡ Some ids → types m ≡ Some ids → n ≡ m
