-- What the readers of texts answer.
use Rattle.std.specs.Prelude.{◌≡◌, ◌⊎◌, ℕ, Bool, true, false, not, nat_lt, List, [], ◌∷◌, IsOk, Option, Some, None, Result, Ok, Err}
use Rattle.std.specs.Prelude.{if◌then◌else◌}
use Rattle.std.specs.List.{list_any}
use Rattle.eco_ids.specs.Terms.{QueryTerm}
use Rattle.eco_ids.specs.Terms as terms
use Rattle.eco_ids.specs.declared.entity.Entity.{Entity}
use Rattle.eco_ids.specs.declared.id.Id.{Id}
use Rattle.eco_ids.specs.declared.id.Id.TheVariants.{One, Two}
use Rattle.eco_ids.specs.declared.pattern.Part.{Part}
use Rattle.eco_ids.specs.declared.pattern.Part.TheVariants.{Is, Each, Any}
use Rattle.eco_ids.specs.declared.pattern.Pattern.{Pattern}
use Rattle.eco_ids.specs.declared.pattern.Pattern.TheVariants as pattern
use Rattle.eco_ids.specs.declared.refusal.Refusal.{Refusal}
use Rattle.eco_ids.specs.declared.refusal.Refusal.TheVariants.{Syntax, UnknownName, WildcardHere, TooManyTerms, NoPositive, OutOfMemory}
use Rattle.eco_scan.specs.Tokens.{Reference, name, handle}
use Rattle.eco_scan.specs.Grammar.{WrittenPart, named, each, any, WrittenAtom, single, pair, WrittenBody, absent, optional, alternatives, WrittenSlot}
use Rattle.eco_scan.specs.Grammar.{PlacedReference, has_wildcard, is_lone_wildcard, count_atoms}
use Rattle.eco_query.specs.Queries.{QuerySlot}
use Rattle.eco_scan.specs.Faults.{IsSpelled, IsFault}

-- what a text spells is answered as `meaning` says; a text that spells nothing is refused at its first fault
abbrev pub Reads : {X T : Type 0} → (List ℕ → X → Type 0) → (X → Result T Refusal)
    → List ℕ → Result T Refusal → Type 0
Reads {X} Spells meaning text r =
    ((x : X) × Spells text x × (r ≡ meaning x))
    ⊎ ((at : ℕ) × IsFault (IsSpelled Spells) text at × (r ≡ Err (Syntax at)))

-- a text is answered in one way at most
abbrev pub ReadsOnce : {X T : Type 0} → (List ℕ → X → Type 0) → (X → Result T Refusal) → Type 0
ReadsOnce {X} {T} Spells meaning = (text : List ℕ) (r s : Result T Refusal)
    → Reads Spells meaning text r → Reads Spells meaning text s → r ≡ s

-- each text is answered in some way
abbrev pub ReadsAll : {X T : Type 0} → (List ℕ → X → Type 0) → (X → Result T Refusal) → Type 0
ReadsAll {X} {T} Spells meaning = (text : List ℕ) → (r : Result T Refusal) × Reads Spells meaning text r

-- the entity that was found, or else no entity has the name that begins there
abbrev pub found_at : ℕ → Option Entity → Result Entity Refusal
found_at at (Some e) = Ok e
found_at at None = Err (UnknownName at)

-- a handle means itself, living or not; a name the entity that has it
abbrev pub entity_of_reference : (List ℕ → Option Entity) → ℕ → Reference → Result Entity Refusal
entity_of_reference entity_named at (name n) = found_at at (entity_named n)
entity_of_reference entity_named at (handle i g) = Ok (record { index = i; generation = g })

abbrev pub entity_of_placed : (List ℕ → Option Entity) → PlacedReference → Result Entity Refusal
entity_of_placed entity_named r = entity_of_reference entity_named r.at r.reference

-- a wildcard names no entity
abbrev pub entity_of_part : (List ℕ → Option Entity) → WrittenPart → Result Entity Refusal
entity_of_part entity_named (named at r) = entity_of_reference entity_named at r
entity_of_part entity_named each = Err WildcardHere
entity_of_part entity_named any = Err WildcardHere

-- a result's value through f
abbrev pub ok_map : {A B : Type 0} → (A → B) → Result A Refusal → Result B Refusal
ok_map f (Err e) = Err e
ok_map f (Ok a) = Ok (f a)

-- two results' values through f; else the first refusal
abbrev pub ok_both : {A B C : Type 0} → (A → B → C) → Result A Refusal → Result B Refusal → Result C Refusal
ok_both f (Err e) r = Err e
ok_both f (Ok a) (Err e) = Err e
ok_both f (Ok a) (Ok b) = Ok (f a b)

-- the single id of an entity
abbrev pub single_of : Result Entity Refusal → Result Id Refusal
single_of (Err f) = Err f
single_of (Ok e) = Ok (One e)

-- the id of an atom: wildcards are refused before unknown names
abbrev pub id_of : (List ℕ → Option Entity) → WrittenAtom → Result Id Refusal
id_of entity_named (single p) = single_of (entity_of_part entity_named p)
id_of entity_named (pair p q) =
    if has_wildcard (pair p q) then Err WildcardHere
    else ok_both (λ r t. Two r t) (entity_of_part entity_named p) (entity_of_part entity_named q)

-- a part of a pair's pattern
abbrev pub part_of : (List ℕ → Option Entity) → WrittenPart → Result Part Refusal
part_of entity_named (named at r) = ok_map (λ e. Is e) (entity_of_reference entity_named at r)
part_of entity_named each = Ok Each
part_of entity_named any = Ok Any

-- the pattern of an atom: wildcards stand in pairs alone
abbrev pub pattern_of_atom : (List ℕ → Option Entity) → WrittenAtom → Result Pattern Refusal
pattern_of_atom entity_named (single p) = ok_map (λ e. pattern.One e) (entity_of_part entity_named p)
pattern_of_atom entity_named (pair p q) =
    ok_both (λ r t. pattern.Two r t) (part_of entity_named p) (part_of entity_named q)

-- ---- queries

-- a wildcard stands as a single id, or behind `?`, or among alternatives
abbrev pub misplaces_wildcard : WrittenSlot → Bool
misplaces_wildcard s = misplaces s.body where
  misplaces : WrittenBody → Bool
  misplaces (absent x) = is_lone_wildcard x
  misplaces (optional x) = has_wildcard x
  misplaces (alternatives []) = false
  misplaces (alternatives (x ∷ [])) = is_lone_wildcard x
  misplaces (alternatives (x ∷ y ∷ xs)) = list_any has_wildcard (x ∷ y ∷ xs)

-- the slot asks for something that is there
abbrev pub is_positive_body : WrittenBody → Bool
is_positive_body (absent x) = false
is_positive_body (optional x) = false
is_positive_body (alternatives xs) = true

abbrev pub ids_of : (List ℕ → Option Entity) → List WrittenAtom → Result (List Id) Refusal
ids_of entity_named [] = Ok []
ids_of entity_named (x ∷ xs) = ok_both (λ i is. i ∷ is) (id_of entity_named x) (ids_of entity_named xs)

-- what a body asks
abbrev pub term_of_body : (List ℕ → Option Entity) → WrittenBody → Result QueryTerm Refusal
term_of_body entity_named (absent x) = ok_map (λ p. terms.Not p) (pattern_of_atom entity_named x)
term_of_body entity_named (optional x) = ok_map (λ i. terms.Optional i) (id_of entity_named x)
term_of_body entity_named (alternatives []) = Ok (terms.Or [])
term_of_body entity_named (alternatives (x ∷ [])) = ok_map (λ p. terms.And p) (pattern_of_atom entity_named x)
term_of_body entity_named (alternatives (x ∷ y ∷ xs)) =
    ok_map (λ is. terms.Or is) (ids_of entity_named (x ∷ y ∷ xs))

abbrev pub slot_of_written : (List ℕ → Option Entity) → WrittenSlot → Result QuerySlot Refusal
slot_of_written entity_named s = ok_map (λ a. record { access = s.access; term = a }) (term_of_body entity_named s.body)

abbrev pub slots_of_written : (List ℕ → Option Entity) → List WrittenSlot → Result (List QuerySlot) Refusal
slots_of_written entity_named [] = Ok []
slots_of_written entity_named (s ∷ ss) = ok_both (λ t ts. t ∷ ts) (slot_of_written entity_named s) (slots_of_written entity_named ss)

-- the query of some slots, or the first that holds: too many atoms, a wildcard where none may stand, nothing
-- asked for, an unknown name
abbrev pub query_of : (List ℕ → Option Entity) → List WrittenSlot → Result (List QuerySlot) Refusal
query_of entity_named slots =
    if nat_lt 32 (count_atoms slots) then Err TooManyTerms
    else (if list_any misplaces_wildcard slots then Err WildcardHere
    else (if not (list_any (λ s. is_positive_body s.body) slots) then Err NoPositive
    else slots_of_written entity_named slots))

-- an answer, or that memory for what would be answered is wanting
abbrev pub InMemory : {T : Type 0} → Result T Refusal → Result T Refusal → Type 0
InMemory answer r = (r ≡ answer) ⊎ (IsOk answer × (r ≡ Err OutOfMemory))

-- a text is answered likewise; memory may be wanting for what would be answered else
abbrev pub ReadsInMemory : {X T : Type 0} → (List ℕ → X → Type 0) → (X → Result T Refusal)
    → List ℕ → Result T Refusal → Type 0
ReadsInMemory {X} Spells meaning text r =
    Reads Spells meaning text r
    ⊎ ((x : X) × Spells text x × IsOk (meaning x) × (r ≡ Err OutOfMemory))
