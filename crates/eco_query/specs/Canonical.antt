-- The canonical text of a query.
use Rattle.std.specs.Prelude.{ℕ, List, [], ◌∷◌, ◌++◌, flat_map, codes}
use Rattle.eco_ids.specs.Terms.{QueryTerm, And, Not, Optional, Or}
use Rattle.eco_ids.specs.Text.{id_text, pattern_text}
use Rattle.eco_ids.specs.declared.id.Id.{Id}
use Rattle.eco_query.specs.Queries.{QuerySlot}
use Rattle.eco_query.specs.declared.access.Access.{Access}
use Rattle.eco_query.specs.declared.access.Access.TheVariants.{In, Out, InOut, InOutNone}

-- texts of items, with a text between each two
abbrev pub joined_by : {A : Type 0} → List ℕ → (A → List ℕ) → List A → List ℕ
joined_by between text [] = []
joined_by between text (x ∷ xs) = text x ++ flat_map (λ y. between ++ text y) xs

-- nothing stands for `[inout]`
abbrev pub access_text : Access → List ℕ
access_text In = codes "[in] "
access_text Out = codes "[out] "
access_text InOut = []
access_text InOutNone = codes "[none] "

-- `#9.0 || #10.0`
abbrev pub alternatives_text : List Id → List ℕ
alternatives_text is = joined_by (codes " || ") id_text is

-- what a slot asks: `#9.0`, `!(#11.0, *)`, `?#9.0` or alternatives
abbrev pub term_text : QueryTerm → List ℕ
term_text (And p) = pattern_text p
term_text (Not p) = codes "!" ++ pattern_text p
term_text (Optional i) = codes "?" ++ id_text i
term_text (Or is) = alternatives_text is

abbrev pub slot_text : QuerySlot → List ℕ
slot_text s = access_text s.access ++ term_text s.term

-- `[in] #9.0, !#10.0, (#11.0, *)`
abbrev pub query_text : List QuerySlot → List ℕ
query_text slots = joined_by (codes ", ") slot_text slots
