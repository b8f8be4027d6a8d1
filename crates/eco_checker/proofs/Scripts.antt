-- A value is a script exactly where it has the three parts of one, and no number of an item is listed.
use Rattle.eco_checker.proofs.Common.{◌≡◌, ℕ, ◌+◌, true, List, [], ◌∷◌, Option, Some, None, option_map, option_and_then, refl, ap, sym}
use Rattle.eco_checker.proofs.Common.{◌∙◌, is_some, unwrap_or, Data, Parts, each_in, limit_in, list_in, parts_in, parts_of, parts_with, step_in}
use Rattle.eco_checker.proofs.Common.{version_in, WrittenScript, IsScriptData, WrittenStep, edition_in, first_edition, items_in}
use Rattle.eco_checker.proofs.Common.{numbers_without, third_items, unless_found}
use Rattle.std.proofs.lemmas.Option.{option_and_then_some}
use Rattle.eco_steps.specs.Decode.{script_in, script_of}
use Rattle.eco_steps.specs.Laws.{ScriptsAreFound}
use Rattle.eco_ids.specs.declared.edition.Edition.{Edition}
use Rattle.eco_ids.specs.declared.edition.Edition.TheVariants.{Second}

module _ {A : Type 0} (find : Data → Option A) where
  -- where no number is listed, something is found in each
  all_found : (n : ℕ) (ds : List Data) → numbers_without find n ds ≡ [] → (xs : List A) × (each_in find ds ≡ Some xs)
  all_found n [] e = ([], refl)
  all_found n (d ∷ ds) e = which (find d) (λ e. all_found (n + 1) ds e) e where
    which : (o : Option A) → (numbers_without find (n + 1) ds ≡ [] → (xs : List A) × (each_in find ds ≡ Some xs))
        → unless_found n o (numbers_without find (n + 1) ds) ≡ []
        → (xs : List A) × (option_and_then (λ x. option_map (λ ys. x ∷ ys) (each_in find ds)) o ≡ Some xs)
    which None rest e = cc
    which (Some x) rest e = let (xs, more) = rest e in (x ∷ xs, ap (option_map (λ ys. x ∷ ys)) more)

  -- and no number is listed where it is
  none_left : (n : ℕ) (ds : List Data) (xs : List A) → each_in find ds ≡ Some xs → numbers_without find n ds ≡ []
  none_left n [] xs e = refl
  none_left n (d ∷ ds) xs e = which (find d) (each_in find ds) (λ ys at. none_left (n + 1) ds ys at) e where
    which : (o : Option A) (rest : Option (List A)) → ((ys : List A) → rest ≡ Some ys → numbers_without find (n + 1) ds ≡ [])
        → option_and_then (λ x. option_map (λ ys. x ∷ ys) rest) o ≡ Some xs → unless_found n o (numbers_without find (n + 1) ds) ≡ []
    which (Some x) (Some ys) left e = left ys refl
    which _ _ left e = cc

-- the edition and the items of what has the three parts of a script
third_of_parts : (ds : List Data) (edition : Edition) (l : ℕ) (items : List Data) → parts_of ds ≡ Some (edition, l, items)
    → (first_edition ds ≡ edition) × (third_items ds ≡ items)
third_of_parts (a ∷ b ∷ c ∷ []) edition l items e =
    option_and_then_some (λ v. parts_with v b c) (version_in a) (edition, l, items) e
    (λ v is h. option_and_then_some (λ k. option_map (λ ds. (v, k, ds)) (list_in c)) (limit_in v b) (edition, l, items) h
    (λ k at n. whole v is k (list_in c) refl n)) where
      whole : (v : Edition) → version_in a ≡ Some v → (k : ℕ) (o : Option (List Data)) → list_in c ≡ o
          → option_map {U = Parts} (λ ds. (v, k, ds)) o ≡ Some (edition, l, items)
          → (unwrap_or (version_in a) Second ≡ edition) × (unwrap_or o [] ≡ items)
      whole v told k None is h = cc
      whole v told k (Some ds) is h =
          let same : (v, k, ds) ≡ (edition, l, items) = cc in
          (ap (λ o. unwrap_or o Second) told ∙ ap (λ (p : Parts). p.0) same, ap (λ (p : Parts). p.2) same)
third_of_parts _ edition l items e = cc

told_by_parts : (d : Data) (edition : Edition) (l : ℕ) (items : List Data) → parts_in d ≡ Some (edition, l, items)
    → (edition_in d ≡ edition) × (items_in d ≡ items)
told_by_parts d edition l items e =
    option_and_then_some parts_of (list_in d) (edition, l, items) e
    (λ ds is h. let (first, third) = third_of_parts ds edition l items h in
    (ap (λ o. first_edition (unwrap_or o [])) is ∙ first, ap (λ o. third_items (unwrap_or o [])) is ∙ third))

-- the numbers that are listed are those of the items of the three parts
numbers_by_parts : (d : Data) (edition : Edition) (l : ℕ) (items : List Data) → parts_in d ≡ Some (edition, l, items)
    → numbers_without (step_in (edition_in d)) 0 (items_in d) ≡ numbers_without (step_in edition) 0 items
numbers_by_parts d edition l items e =
    let (first, third) = told_by_parts d edition l items e in
    ap (λ v. numbers_without (step_in v) 0 (items_in d)) first ∙ ap (numbers_without (step_in edition) 0) third

module _ (found : ScriptsAreFound) (d : Data) where
  -- the script of such parts is found
  of_parts : (edition : Edition) (l : ℕ) (items : List Data) (o : Option (List WrittenStep)) → parts_in d ≡ Some (edition, l, items)
      → each_in (step_in edition) items ≡ o
      → script_in d ≡ option_map (λ ss. let s : WrittenScript = record { edition = edition; limit = l; steps = ss } in s) o
  of_parts edition l items o e f =
      ap (option_and_then script_of) e
      ∙ ap (option_map (λ ss. let s : WrittenScript = record { edition = edition; limit = l; steps = ss } in s)) f

  -- no fault, no other value
  pub script_without : is_some (parts_in d) ≡ true → numbers_without (step_in (edition_in d)) 0 (items_in d) ≡ [] → (s : WrittenScript) × IsScriptData d s
  script_without = parted (parts_in d) refl where
    parted : (o : Option Parts) → parts_in d ≡ o → is_some o ≡ true → numbers_without (step_in (edition_in d)) 0 (items_in d) ≡ []
        → (s : WrittenScript) × IsScriptData d s
    parted None is some none = cc
    parted (Some (edition, l, items)) is some none =
        let (ss, are) = all_found (step_in edition) 0 items (sym (numbers_by_parts d edition l items is) ∙ none) in
        let s : WrittenScript = record { edition = edition; limit = l; steps = ss } in
        (s, (found d s).1 (of_parts edition l items (Some ss) is are))

  -- a script, no fault
  pub none_of_script : (s : WrittenScript) → IsScriptData d s
      → (is_some (parts_in d) ≡ true) × (numbers_without (step_in (edition_in d)) 0 (items_in d) ≡ [])
  none_of_script s is = parted (parts_in d) refl where
    -- where none is found, it is none
    other : script_in d ≡ None → ⊥
    other none = let some = (found d s).0 is in cc

    stepped : (edition : Edition) (l : ℕ) (items : List Data) → parts_in d ≡ Some (edition, l, items)
        → (o : Option (List WrittenStep)) → each_in (step_in edition) items ≡ o → numbers_without (step_in (edition_in d)) 0 (items_in d) ≡ []
    stepped edition l items at None e = absurd (other (of_parts edition l items None at e))
    stepped edition l items at (Some ss) e = numbers_by_parts d edition l items at ∙ none_left (step_in edition) 0 items ss e

    parted : (o : Option Parts) → parts_in d ≡ o
        → (is_some (parts_in d) ≡ true) × (numbers_without (step_in (edition_in d)) 0 (items_in d) ≡ [])
    parted None at = absurd (other (ap (option_and_then script_of) at))
    parted (Some (edition, l, items)) at = (ap (λ o. is_some o) at, stepped edition l items at (each_in (step_in edition) items) refl)
