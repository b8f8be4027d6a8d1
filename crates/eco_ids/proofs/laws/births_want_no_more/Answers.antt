use Rattle.eco_ids.proofs.Common.{Bool, true, false, not, ◌&&◌, IsFalse, is_some, Some, None, Err, MatchBool, MatchOption, Option, sym, refl}
use Rattle.eco_ids.proofs.Common.{Entity, Refusal, NoMoreIds, Indexed, Refuses, Answers, Record, entities, bare, component_record, unfit_name, next_entity}
use Rattle.eco_ids.proofs.Common.{with_new}
use Rattle.eco_ids.proofs.Common.{Makes, may_make, admitted}
use Rattle.eco_ids.proofs.Facts.{not_ok}
use Rattle.eco_ids.proofs.laws.births_want_no_more.Goals as goal

-- a birth that is refused had an unfit name or no index
makes_none : (v : Indexed Record) (d : Record) (why : Refusal) (new : Indexed Record) → Makes (λ r. r.name) v d (Err why) new → IsFalse
    (may_make (λ r. r.name) v d.name)
makes_none v d why new = by (unfit_name (λ r. r.name) v d.name) (next_entity v)
  where
    by : (unfit : Option Refusal) (next : Option Entity)
        → MatchOption unfit (MatchOption next (Refuses {A = Entity} NoMoreIds v (Err why) new) (λ e. Answers e (with_new v e d) (Err why) new))
        (λ y. Refuses {A = Entity} y v (Err why) new)
        → IsFalse (not (is_some unfit) && is_some next)
    by (Some y) next h = refl
    by None None h = refl
    by None (Some e) h = absurd (not_ok (sym h.0))

past_limit : (b : Bool) (R Q : Type 0) → (R → ⊥) → MatchBool b R Q → IsFalse b
past_limit true R Q n h = absurd (n h)
past_limit false R Q n h = refl

pub returns : goal.returns
returns c = record {
  create = λ name w why new h. makes_none (entities w) (bare name) why h.0 h.1;
  component = λ name fields w why new h. makes_none (entities w) (component_record name fields) why h.0 h.1;
  admit = λ n w why new h. past_limit _ _ _ (λ (a : Answers {A = Unit {0}} tt (admitted n (entities w)) (Err why) h.0). not_ok (sym a.0)) h.1;
}
