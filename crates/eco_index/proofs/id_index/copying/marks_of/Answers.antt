use Rattle.eco_index.proofs.Common.{◌≡◌, None, length, take, sym, ap, ◌∙◌, arith, nat_lt, option_map, subst, lookup, deref_pair, lt-ltb, same_key}
use Rattle.std.proofs.Math.Seq.{take-length}
use Rattle.eco_index.proofs.IndexCopies.{marked_more}
use Rattle.eco_index.proofs.id_index.copying.marks_of.Goals as goal

pub loop-place-preserved : goal.loop-place-preserved
loop-place-preserved c =
    marked_more c.loop-place.marks c.note.new.self c.args.slots.now.entries c.loop-place.place (c.unwrap.result.0.now, c.unwrap.result.1.now)
    (sym c.get_index.ensures.entry ∙ ap (option_map deref_pair) c.unwrap.ensures) c.note.ensures.kept
    (ap (nat_lt 0) c.in_ok-note.ensures.ok ∙ lt-ltb 0 _ (omega arith)) c.loop-place.invariant

pub returns : goal.returns
returns c k unmarked =
    let es = c.args.slots.now.entries in
    let end : c.loop-place.place ≡ length es = omega arith in
    subst (λ es. lookup (same_key k) es ≡ None) (ap (λ n. take n es) end ∙ take-length es) (c.loop-place.invariant k unmarked)
