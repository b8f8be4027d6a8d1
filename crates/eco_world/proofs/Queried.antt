-- What holds of the world of a store holds whatever queries were added to it.
use Rattle.eco_world.proofs.Common.{true, List, [], IsTrue, Result, Ok, Err, ap, Entity, DELETE, PANIC, Id, One, Two, Refusal, Value, Doomed, Ends, Forbids}
use Rattle.eco_world.proofs.Common.{ForbidsFirst, HoldsOn, IsDoomed, Names, fits, Indexed, IsLawful, IsLawfulRecord, KeepsEdition, Least, root, next, Meets}
use Rattle.eco_world.proofs.Common.{QueryTerm, Edition, First, Second, Record, WorldState, names_living, least, world_of, world_with}
use Rattle.eco_world.proofs.Steps.{meets_as}

-- the same world with these queries, of an edition
abbrev asking : Edition → List (List QueryTerm) → WorldState → WorldState
asking d qs w = record w { edition = d; queries = qs }

-- ---- it is lawful

-- the mirrors and whatever clashes are not a matter of queries
edition_too : (d : Edition) (v : Indexed Record) (qs rs : List (List QueryTerm)) → KeepsEdition d (world_with d v qs) → KeepsEdition d (world_with d v rs)
edition_too First v qs rs m = tt
edition_too Second v qs rs m = record { mirrors = m.mirrors; calm = m.calm }

module _ (d : Edition) (v : Indexed Record) (qs rs : List (List QueryTerm)) where
  names_live : (i : Id) → IsTrue (names_living (world_with d v qs) i) → IsTrue (names_living (world_with d v rs) i)
  names_live (One e) h = h
  names_live (Two r t) h = h

  fits_too : (i : Id) (x : Value) → IsTrue (fits (world_with d v qs) i x) → IsTrue (fits (world_with d v rs) i x)
  fits_too (One e) x h = h
  fits_too (Two r t) x h = h

  record_too : (r : Record) → IsLawfulRecord (world_with d v qs) r → IsLawfulRecord (world_with d v rs) r
  record_too r was = record {
    name = was.name;
    arity = was.arity;
    ascending = was.ascending;
    values = λ i x at. fits_too i x (was.values i x at);
  }

  pub lawful_with : IsLawful (world_with d v qs) → IsLawful (world_with d v rs)
  lawful_with was = record {
    orderly = record {
      records = λ e r at. record_too r (was.orderly.records e r at);
      living = λ e i there. names_live i (was.orderly.living e i there);
      exclusive = was.orderly.exclusive;
      acyclic = was.orderly.acyclic;
      names = was.orderly.names;
      builtins = was.orderly.builtins;
      generations = was.orderly.generations;
      known = was.orderly.known;
      begun = was.orderly.begun;
      bounded = was.orderly.bounded;
    };
    edition = edition_too d v qs rs was.edition;
  }

-- ---- a delete takes the same

module _ (c d : Edition) (v : Indexed Record) (qs rs : List (List QueryTerm)) where
  names_on : (action : Entity) (i : Id) (m : Entity) → Names (world_with c v qs) action i m → Names (world_with d v rs) action i m
  names_on action (One x) m n = n
  names_on action (Two r t) m n = n

  holds_on : (action m h : Entity) → HoldsOn (world_with c v qs) action m h → HoldsOn (world_with d v rs) action m h
  holds_on action m h x = (x.0, x.1, names_on action x.0 m x.2)

  doomed_too : (IsRoot : Entity → Type 0) (e : Entity) → Doomed (world_with c v qs) IsRoot e → Doomed (world_with d v rs) IsRoot e
  doomed_too IsRoot e h =
      least (Least IsRoot (HoldsOn (world_with d v rs) DELETE)) (λ a p. root p) (λ a b member holds. next member (holds_on DELETE a b holds)) h

  forbids_too : (members : List Entity) (h m : Entity) → Forbids (world_with c v qs) members h m → Forbids (world_with d v rs) members h m
  forbids_too members h m f = (f.0, f.1, f.2, holds_on PANIC m h f.3)

list_too : (c d : Edition) (v : Indexed Record) (qs rs : List (List QueryTerm)) (IsRoot : Entity → Type 0) (members : List Entity)
    → IsDoomed (world_with c v qs) IsRoot members → IsDoomed (world_with d v rs) IsRoot members
list_too c d v qs rs IsRoot members all = record {
  ascending = all.ascending;
  exact = λ e. (λ h. doomed_too c d v qs rs IsRoot e ((all.exact e).0 h), λ h. (all.exact e).1 (doomed_too d c v rs qs IsRoot e h));
}

first_too : (c d : Edition) (v : Indexed Record) (qs rs : List (List QueryTerm)) (members : List Entity) (holder member : Entity)
    → ForbidsFirst (world_with c v qs) members holder member → ForbidsFirst (world_with d v rs) members holder member
first_too c d v qs rs members holder member f = (
  forbids_too c d v qs rs members holder member f.0,
  λ h m forbids. f.1 h m (forbids_too d c v rs qs members h m forbids),
  λ m forbids. f.2 m (forbids_too d c v rs qs members holder m forbids),
)

module _ (c d : Edition) (v new : Indexed Record) (qs rs : List (List QueryTerm)) (members : List Entity) where
  ends_too : (r : Result (Unit {0}) Refusal) → Ends (world_with c v qs) members r (world_with c new qs)
      → Ends (world_with d v rs) members r (world_with d new rs)
  ends_too (Ok done) x = (ap (asking d rs) x.0, λ h m forbids. x.1 h m (forbids_too d c v rs qs members h m forbids))
  ends_too (Err why) x = (ap (asking d rs) x.0, x.1, x.2, x.3, first_too c d v qs rs members x.1 x.2 x.4)

-- what a delete of a store promises it keeps in the world
pub ends_with : (edition : Edition) (v new : Indexed Record) (qs : List (List QueryTerm)) (r : Result (Unit {0}) Refusal) (IsRoot : Entity → Type 0)
    → ((members : List Entity) → IsDoomed (world_of v) IsRoot members → Meets (Ends (world_of v) members) true (world_of v) r (world_of new))
    → (members : List Entity) → IsDoomed (world_with edition v qs) IsRoot members
    → Meets (Ends (world_with edition v qs) members) true (world_with edition v qs) r (world_with edition new qs)
ends_with edition v new qs r IsRoot ends members all =
    meets_as (Ends (world_of v) members) (Ends (world_with edition v qs) members) true true (world_of v) (world_of new) _ _ r
    (λ wants same. (wants, ap (asking edition qs) same)) (ends_too First edition v new [] qs members r)
    (ends members (list_too edition First v qs [] IsRoot members all))
