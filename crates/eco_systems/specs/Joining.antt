-- Systems joined one by one into batches.
use Rattle.std.specs.Prelude.{Bool, List, [], ◌∷◌, ◌++◌, if◌then◌else◌}
use Rattle.std.specs.List.{list_any}

-- `clash before s t`: s and t clash, where these come before t in the frame
module _ {A : Type 0} (clash : List A → A → A → Bool) where
  -- each joins the open batch, unless it clashes with one of it; else it opens the next
  abbrev pub batched : List A → List A → List A → List (List A)
  batched before batch [] = batch ∷ []
  batched before batch (t ∷ rest) =
      if list_any (λ s. clash before s t) batch then batch ∷ batched (before ++ t ∷ []) (t ∷ []) rest
      else batched (before ++ t ∷ []) (batch ++ t ∷ []) rest
