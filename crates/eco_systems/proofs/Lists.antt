-- Lists that are filtered, searched and gathered.
use Rattle.eco_systems.proofs.Common.{◌≡◌, Bool, true, false, cond, ◌&&◌, ◌||◌, List, [], ◌∷◌, ◌++◌, map, filter, refl, sym, ap}
use Rattle.eco_systems.proofs.Common.{◌∙◌, IsTrue, flat_map, list_any, AllByRecursion, map-append, Id, id_cmp, id_eq, has_item, is_ascending}
use Rattle.eco_systems.proofs.Common.{ascending_filter, id_eq_is, id_cmp_total, same_id, append_assoc, arith, joined, all_append}
use Rattle.eco_ids.proofs.Members.{same_members}
use Rattle.std.proofs.lemmas.Grind.{common_steps}

-- a filter by two tests is a filter after a filter
pub filter_both : {A : Type 0} (q r : A → Bool) (xs : List A) → filter (λ x. q x && r x) xs ≡ filter r (filter q xs)
filter_both q r [] = refl
filter_both q r (x ∷ xs) = grind (arith, common_steps, filter_both q r xs)

-- a search that asks for q finds nothing outside of q
pub any_filtered : {A : Type 0} (a q b : A → Bool) (xs : List A)
    → list_any (λ x. a x && (q x && b x)) xs ≡ list_any (λ x. a x && (q x && b x)) (filter q xs)
any_filtered a q b [] = refl
any_filtered a q b (x ∷ xs) = grind (arith, common_steps, any_filtered a q b xs)

pub any_kept : {A : Type 0} (q : A → Bool) (xs : List A) → list_any q xs ≡ list_any q (filter q xs)
any_kept q [] = refl
any_kept q (x ∷ xs) = grind (arith, common_steps, any_kept q xs)

-- what a filter keeps
pub item_filtered : (q : Id → Bool) (i : Id) (xs : List Id) → has_item id_cmp (filter q xs) i ≡ (q i && has_item id_cmp xs i)
item_filtered q i [] = none (q i)
  where
    none : (b : Bool) → false ≡ (b && false)
    none true = refl
    none false = refl
item_filtered q i (x ∷ xs) =
    elim (q x) as (λ c. q x ≡ c → has_item id_cmp (cond c (x ∷ filter q xs) (filter q xs)) i ≡ (q i && (id_eq x i || has_item id_cmp xs i))) [
      | true ↦ λ e. ap (λ b. id_eq x i || b) (item_filtered q i xs)
          ∙ elim (id_eq x i) as (λ t. id_eq x i ≡ t → (t || (q i && has_item id_cmp xs i)) ≡ (q i && (t || has_item id_cmp xs i))) [
            | true ↦ λ m. ap (λ b. b && true) (sym e ∙ ap q (id_eq_is x i m))
            | false ↦ λ m. refl
          ] refl
      | false ↦ λ e. item_filtered q i xs ∙ elim (id_eq x i) as (λ t. id_eq x i ≡ t
          → (q i && has_item id_cmp xs i) ≡ (q i && (t || has_item id_cmp xs i))) [
            | true ↦ λ m. ap (λ b. b && has_item id_cmp xs i) (sym (ap q (id_eq_is x i m)) ∙ e)
                ∙ sym (ap (λ b. b && true) (sym (ap q (id_eq_is x i m)) ∙ e))
            | false ↦ λ m. refl
          ] refl
    ] refl

-- two ascending lists with the same members that pass are filtered alike
pub same_filtered : (q : Id → Bool) (xs ys : List Id) → IsTrue (is_ascending id_cmp xs) → IsTrue (is_ascending id_cmp ys)
    → ((i : Id) → IsTrue (q i) → has_item id_cmp xs i ≡ has_item id_cmp ys i) → filter q xs ≡ filter q ys
same_filtered q xs ys up vp is =
    same_members id_cmp_total same_id (filter q xs) (filter q ys) (ascending_filter id_cmp q xs up) (ascending_filter id_cmp q ys vp)
    (λ i. (λ h. sym (alike i) ∙ h, λ h. alike i ∙ h))
  where
    alike : (i : Id) → has_item id_cmp (filter q xs) i ≡ has_item id_cmp (filter q ys) i
    alike i = grind (arith, common_steps, item_filtered)

-- nothing is gathered where each gives nothing
pub gathers_nothing : {A B : Type 0} (xs : List A) → flat_map (λ x. let none : List B = [] in none) xs ≡ []
gathers_nothing [] = refl
gathers_nothing (x ∷ xs) = gathers_nothing xs

-- what holds of each
pub all_gathered : {A B : Type 0} (P : A → Type 0) (Q : B → Type 0) (f : A → List B) → ((x : A) → P x → AllByRecursion Q (f x)) →
    (xs : List A) →
    AllByRecursion P xs → AllByRecursion Q (flat_map f xs)
all_gathered P Q f step [] p = tt
all_gathered P Q f step (x ∷ xs) p = all_append Q (f x) (flat_map f xs) (step x p.0) (all_gathered P Q f step xs p.1)

pub all_mapped : {A B : Type 0} (P : A → Type 0) (Q : B → Type 0) (f : A → B) → ((x : A) → P x → Q (f x)) → (xs : List A) →
    AllByRecursion P xs →
    AllByRecursion Q (map f xs)
all_mapped P Q f step [] p = tt
all_mapped P Q f step (x ∷ xs) p = (step x p.0, all_mapped P Q f step xs p.1)

pub all_pass : {A : Type 0} (q : A → Bool) (xs : List A) → AllByRecursion (λ x. IsTrue (q x)) (filter q xs)
all_pass q [] = tt
all_pass q (x ∷ xs) = grind (arith, common_steps, all_pass q xs)

-- maps that agree on each item
pub same_mapped : {A B : Type 0} (P : A → Type 0) (f g : A → B) → ((x : A) → P x → f x ≡ g x) → (xs : List A) → AllByRecursion P xs
    → map f xs ≡ map g xs
same_mapped P f g same [] p = refl
same_mapped P f g same (x ∷ xs) p = λ i. same x p.0 i ∷ same_mapped P f g same xs p.1 i

pub map_gathered : {A B C : Type 0} (f : A → List B) (g : B → C) (xs : List A) → map g (flat_map f xs) ≡ flat_map (λ x. map g (f x)) xs
map_gathered f g [] = refl
map_gathered f g (x ∷ xs) = map-append g (f x) (flat_map f xs) ∙ ap (λ zs. map g (f x) ++ zs) (map_gathered f g xs)

-- lists, one behind another
pub joined_append : {A : Type 0} (xss yss : List (List A)) → joined (xss ++ yss) ≡ joined xss ++ joined yss
joined_append [] yss = refl
joined_append (xs ∷ xss) yss = ap (λ l. xs ++ l) (joined_append xss yss) ∙ sym (append_assoc xs (joined xss) (joined yss))
