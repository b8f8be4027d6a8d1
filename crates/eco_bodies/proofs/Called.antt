-- One more name among the names.
use Rattle.eco_bodies.proofs.Common.{◌≡◌, ℕ, Bool, true, false, cond, ◌||◌, List, refl, sym, ap, ◌∙◌, String, string_bytes, string_cmp}
use Rattle.std.specs.BTreeSet.{BTreeSet, UpdatesBy, contains_text}
use Rattle.std.specs.Cmp.Lexicographic.{slice_cmp}
use Rattle.std.specs.Ordering.{nat_cmp}
use Rattle.std.specs.Str.{bytes_eq}
use Rattle.std.proofs.lemmas.Map.Text.{btree_set_updates_text, is_eq-slice_cmp}
use Rattle.eco_ids.specs.Names.{is_text}

swapped : (a b : Bool) → cond a true b ≡ (b || a)
swapped true true = refl
swapped true false = refl
swapped false true = refl
swapped false false = refl

-- a name that is put among others is one of them, and nothing else changes
pub name_added : {Y : Type 0} (bs name : List ℕ) (old new : BTreeSet (String Y)) → bs ≡ name
    → UpdatesBy string_cmp (λ k. slice_cmp nat_cmp bs (string_bytes k)) old new true
    → (other : List ℕ) → contains_text new other ≡ (contains_text old other || is_text name other)
name_added bs name old new same updates other =
    btree_set_updates_text bs old new true updates other
    ∙ swapped (bytes_eq bs other) (contains_text old other)
    ∙ ap (λ b. contains_text old other || b) (sym (is_eq-slice_cmp bs other))
    ∙ ap (λ text. contains_text old other || is_text text other) same
