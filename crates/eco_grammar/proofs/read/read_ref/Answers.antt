use Rattle.eco_grammar.proofs.Common.{◌≡◌, refl, sym, ap, ◌∙◌, subst, inl, inr, IsFault, IsSpelled, PlacedReference, SpellsRef, named, single}
use Rattle.eco_grammar.proofs.Common.{part_view, IsProperPart}
use Rattle.eco_grammar.proofs.Spelled.{id_proper}
use Rattle.eco_grammar.specs.Readings as reading
use Rattle.eco_grammar.proofs.read.read_ref.Goals as goal

pub entity_of_part-requires : goal.entity_of_part-requires
entity_of_part-requires g c =
    let (r, spelled, same) = c.in-Ok.ensures.found in
    subst IsProperPart (sym same) (id_proper _ (single (named r.at r.reference)) spelled)

pub returns-in-Ok : goal.returns-in-Ok
returns-in-Ok g c =
    let found : (r : PlacedReference) × SpellsRef c.args.text.now r × (part_view c.in-Ok.part ≡ named r.at r.reference) =
    rw c.as_bytes.ensures.value at c.in-Ok.ensures.found in
    let (r, spelled, same) = found in
    inl (r, spelled, c.entity_of_part.ensures ∙ ap (reading.entity_of_part (g.N.Names.entity_named c.args.names.now)) same)

pub returns-in-Err : goal.returns-in-Err
returns-in-Err g c =
    let fault : IsFault (IsSpelled SpellsRef) c.args.text.now c.in-Err.at = rw c.as_bytes.ensures.value at c.in-Err.ensures.fault in
    inr (c.in-Err.at, fault, refl)
