use Rattle.eco_grammar.proofs.Common.{refl, inl, inr, IsFault, IsSpelled, SpellsId, atom_view}
use Rattle.eco_grammar.proofs.Spelled.{id_proper}
use Rattle.eco_grammar.proofs.read.read_id.Goals as goal

pub id_of_atom-requires : goal.id_of_atom-requires
id_of_atom-requires g c = id_proper _ (atom_view c.in-Ok.atom) c.in-Ok.ensures.found

pub returns-in-Ok : goal.returns-in-Ok
returns-in-Ok g c =
    let spelled : SpellsId c.args.text.now (atom_view c.in-Ok.atom) = rw c.as_bytes.ensures.value at c.in-Ok.ensures.found in
    rw c.id_of_atom.ensures (inl (atom_view c.in-Ok.atom, spelled, refl))

pub returns-in-Err : goal.returns-in-Err
returns-in-Err g c =
    let fault : IsFault (IsSpelled SpellsId) c.args.text.now c.in-Err.at = rw c.as_bytes.ensures.value at c.in-Err.ensures.fault in
    inr (c.in-Err.at, fault, refl)
