-- What holds of each of a list, and of one of them.
use Rattle.eco_ids.proofs.Common.{Bool, ◌↔◌, List, [], ◌∷◌, ◌++◌, map, list_any, IsTrue, AllByRecursion, inl, inr, sym, true≢false, SomeOf}
use Rattle.std.proofs.lemmas.Bool.Decides.{Decides-or}

-- what holds of each
pub all_append : {A : Type 0} (P : A → Type 0) (xs ys : List A) → AllByRecursion P xs → AllByRecursion P ys → AllByRecursion P (xs ++ ys)
all_append P [] ys p q = q
all_append P (x ∷ xs) ys p q = (p.0, all_append P xs ys p.1 q)

-- one of some
pub some_left : {A : Type 0} (P : A → Type 0) (xs ys : List A) → SomeOf P xs → SomeOf P (xs ++ ys)
some_left P [] ys h = absurd h
some_left P (x ∷ xs) ys (inl h) = inl h
some_left P (x ∷ xs) ys (inr h) = inr (some_left P xs ys h)

pub some_right : {A : Type 0} (P : A → Type 0) (xs ys : List A) → SomeOf P ys → SomeOf P (xs ++ ys)
some_right P [] ys h = h
some_right P (x ∷ xs) ys h = inr (some_right P xs ys h)

-- a test finds one exactly where one of those that it is exact for is so
pub some_exact : {A B : Type 0} (test : A → Bool) (P : B → Type 0) (f : A → B) → ((x : A) → IsTrue (test x) ↔ P (f x)) → (xs : List A) →
    IsTrue (list_any test xs) ↔ SomeOf P (map f xs)
some_exact test P f exact [] = (λ t. absurd (true≢false (sym t)), λ x. absurd x)
some_exact test P f exact (x ∷ xs) = Decides-or (test x) (list_any test xs) (exact x) (some_exact test P f exact xs)
