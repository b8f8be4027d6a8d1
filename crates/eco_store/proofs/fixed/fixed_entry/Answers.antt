use Rattle.eco_store.proofs.AnswersCommon.{◌≡◌, Some, rules, subst, sym, term_view, IsFixed}
use Rattle.eco_query.specs.declared.term.Term.TheVariants.{And}
use Rattle.eco_store.proofs.FixedEntries.{exact_fixed}
use Rattle.eco_store.proofs.fixed.fixed_entry.Goals as goal

pub returns-in-Some : goal.returns-in-Some
returns-in-Some c =
    let same : c.args.slot.now.term ≡ And c.in-And.pattern = search rules in
    subst (λ t. IsFixed (term_view t) (Some c.in-Some.id)) (sym same) (exact_fixed c.in-And.pattern c.in-Some.id c.in-Some.ensures)
