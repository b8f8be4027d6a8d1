-- Rows of canonical texts that compute.
use Rattle.eco_grammar.proofs.Common.{◌≡◌, [], ◌∷◌, List, codes, refl, And, Or, Entity, One, Two, QuerySlot, In, Out, InOut, InOutNone}
use Rattle.std.specs.Fmt.{digits}
use Rattle.eco_ids.specs.Terms.{Not, Optional}
use Rattle.eco_ids.specs.declared.pattern.Part.TheVariants.{Is, Each, Any}
use Rattle.eco_query.specs.Canonical.{query_text}
use Rattle.eco_ids.specs.declared.pattern.Pattern.TheVariants as pattern

abbrev row_first : Entity
row_first = record { index = 9; generation = 0 }

abbrev row_second : Entity
row_second = record { index = 4294967295; generation = 65535 }

row_one : query_text ((record { access = In; term = And (pattern.One row_first) }) ∷ []) ≡ codes "[in] #9.0"
unfolding digits
row_one = refl

row_absent : query_text ((record { access = InOutNone; term = Not (pattern.Two (Is row_second) Each) }) ∷ []) ≡ codes "[none] !(#4294967295.65535, *)"
unfolding digits
row_absent = refl

row_optional : query_text ((record { access = Out; term = Optional (Two row_first row_second) }) ∷ []) ≡ codes "[out] ?(#9.0, #4294967295.65535)"
unfolding digits
row_optional = refl

row_group : query_text ((record { access = InOut; term = Or (One row_first ∷ Two row_first row_first ∷ One row_second ∷ []) }) ∷ [])
    ≡ codes "#9.0 || (#9.0, #9.0) || #4294967295.65535"
unfolding digits
row_group = refl

abbrev row_query : List QuerySlot
row_query =
    (record { access = InOut; term = And (pattern.Two Any (Is row_first)) })
    ∷ (record { access = In; term = Optional (One row_first) })
    ∷ (record { access = InOut; term = Not (pattern.Two Each Each) }) ∷ []

row_joined : query_text row_query ≡ codes "(_, #9.0), [in] ?#9.0, !(*, *)"
unfolding digits
row_joined = refl
