use Rattle.eco_index.proofs.Common.{◌≡◌, ◌∙◌, ap, sym, list_any, names_entity, is_some, IfSome, IfNone, Option, Some, None, ℕ, []}
use Rattle.eco_index.proofs.PassedOver.{nobody_named, some_named}
use Rattle.eco_index.specs.TypeNames.{IsFirstNamed, named_from}
use Rattle.eco_index.proofs.type_names.is_named_in.Goals as goal

pub returns : goal.returns
returns c =
    c.is_some.ensures ∙ by c.first_named.result c.first_named.ensures.some c.first_named.ensures.none
    ∙ ap (list_any (λ j. names_entity j c.args.entity)) c.as_slice.ensures.ids
  where
    by : (o : Option ℕ) → IfSome o (IsFirstNamed c.as_slice.result.now 0 c.args.entity)
        → IfNone o (named_from c.as_slice.result.now 0 c.args.entity ≡ [])
        → is_some o ≡ list_any (λ j. names_entity j c.args.entity) c.as_slice.result.now
    by None some none = sym (nobody_named c.args.entity c.as_slice.result.now none)
    by (Some n) some none = sym (some_named c.args.entity c.as_slice.result.now _ _ some.first)
