use Rattle.eco_archetypes.proofs.Common.{◌≡◌, ℕ, List, [], ◌∷◌, true, true≢false, nat_eq, length, list_any, arith, Decides-eqb, sym, ◌∙◌, toggled, type_at}
use Rattle.eco_index.specs.Contents.{slots_by_mark}
use Rattle.eco_archetypes.proofs.ArchetypeLemmas.{none_typed}
use Rattle.eco_archetypes.proofs.archetypes.Archetypes.find_toggled.Goals as goal

nothing : (ns : List ℕ) (n : ℕ) → nat_eq (length ns) 0 ≡ true → list_any (nat_eq n) ns ≡ true → ⊥
nothing [] n empty there = true≢false (sym there)
nothing (x ∷ ns) n empty there = let none : length (x ∷ ns) ≡ 0 = (Decides-eqb (length (x ∷ ns)) 0).0 empty in absurd (omega (arith, none))

pub returns-then-is_empty-clause-none : goal.returns-then-is_empty-clause-none
returns-then-is_empty-clause-none c =
    rw (← c.self.view_is, ← c.type_in-own.ensures.ids)
    (none_typed (type_at c.self.inside.tables) (slots_by_mark c.self.inside.by_type) (toggled c.type_in-own.result.now c.args.id) c.slots.result.now
    c.self.invariant.types (rw c.toggled_mark.ensures at c.slots.ensures)
    (λ n there. absurd (nothing c.slots.result.now n (sym c.is_empty.ensures ∙ c.if-is_empty.true) there)))
