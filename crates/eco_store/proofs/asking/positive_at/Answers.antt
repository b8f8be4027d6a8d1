use Rattle.eco_store.proofs.AnswersCommon.{rules, Slot, is_positive, term_view}
use Rattle.std.proofs.lemmas.Iterator.{YieldsList-from_slice}
use Rattle.std.proofs.lemmas.Iterator.Consumers.{YieldsList-from_filter, nth_from_yields_List}
use Rattle.eco_store.proofs.asking.positive_at.Goals as goal

pub returns : goal.returns
returns c =
    nth_from_yields_List c.nth.result c.nth.new.self c.args.group c.nth.ensures.ran
    (YieldsList-from_filter _ (λ (s : Slot). is_positive (term_view s.term)) (YieldsList-from_slice c.args.slots.now cc) c.filter.ensures.closure
    (λ x r q k. search (rules, k)))
