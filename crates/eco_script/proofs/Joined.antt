-- Items written one after another, with commas between.
use Rattle.eco_script.proofs.FormatsCommon.{◌≡◌, ℕ, ◌+◌, ◌<◌, List, ◌∷◌, [], ◌++◌, append-nil, codes, length, take, get_or, Option, refl}
use Rattle.eco_script.proofs.FormatsCommon.{ap, sym, ◌∙◌, put_two, flat_map_more, take_more, HasWritten, held_text, joined_by_commas, Shown}
use Rattle.std.specs.declared.fmt.Formatter.{Formatter}
use Rattle.eco_ids.specs.declared.id.Id.{Id}

pub same_held : (i j : Id) (v w : Option Shown) → i ≡ j → v ≡ w → held_text i v ≡ held_text j w
same_held i j v w p q = rw (p, q) refl

-- what stands in front of an item behind others
abbrev pub separator : {A : Type 0} → List A → List ℕ
separator [] = []
separator (x ∷ xs) = codes ", "

module _ {A : Type 0} (text : A → List ℕ) where
  separated : (xs : List A) (x : A) → codes ", " ≡ separator (xs ++ x ∷ [])
  separated [] x = refl
  separated (y ∷ ys) x = refl

  one_behind : (xs : List A) (x : A) → joined_by_commas text xs ++ (separator xs ++ text x) ≡ joined_by_commas text (xs ++ x ∷ [])
  one_behind [] x = sym (append-nil (text x))
  one_behind (y ∷ ys) x = flat_map_more (λ z. codes ", " ++ text z) (text y) ys x

  -- one more was written
  module _ (xs : List A) (i : ℕ) (d : A) (there : i < length xs) where
    pub next_separator : codes ", " ≡ separator (take (i + 1) xs)
    next_separator = separated (take i xs) (get_or xs i d) ∙ ap separator (sym (take_more xs i d there))

    pub joined_more : {W : Type 0} (took : W → List ℕ → W → Type 0) (f g h : Formatter W) (s t : List ℕ) → s ≡ separator (take i xs) → t ≡ text (get_or xs i d)
        → HasWritten took f (joined_by_commas text (take i xs)) g → HasWritten took g (s ++ t) h
        → HasWritten took f (joined_by_commas text (take (i + 1) xs)) h
    joined_more took f g h s t apart is before wrote =
        put_two took f g h (joined_by_commas text (take i xs)) (s ++ t) (joined_by_commas text (take (i + 1) xs)) before wrote
        (ap (λ u. joined_by_commas text (take i xs) ++ (u ++ t)) apart ∙ ap (λ u. joined_by_commas text (take i xs) ++ (separator (take i xs) ++ u)) is
        ∙ one_behind (take i xs) (get_or xs i d) ∙ ap (joined_by_commas text) (sym (take_more xs i d there)))
