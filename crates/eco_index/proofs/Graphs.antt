-- The graph of tables as tables come and go.
use Rattle.eco_index.proofs.Common.{◌≡◌, ◌≢◌, ℕ, ◌&&◌, ◌||◌, Bool, true, false, cond, List, Option, Some, None, nat_eq, refl, sym, ap}
use Rattle.eco_index.proofs.Common.{◌∙◌, Decides-eqb, Id, same_id, edge, leads_to, Links, Cuts, IsGraph, toggled, id_eq-Decides}
use Rattle.eco_index.proofs.EdgeLists.{way, same_slot, leads_there}

some_is : {X : Type 0} (x y : X) → Some x ≡ Some y → x ≡ y
some_is x y e = cc

none_some : {X : Type 0} (P : Type 0) (x : X) → None ≡ Some x → P
none_some P x e = cc

-- a table comes to a slot that was empty
module _ (types types' : ℕ → Option (List Id)) (lists : List (List (Id × ℕ))) (slot : ℕ) where
  pub graph_made : IsGraph types lists → types slot ≡ None → ((k : ℕ) → k ≢ slot → types' k ≡ types k) → IsGraph types' lists
  graph_made graph vacant others n m i e =
      let was = graph n m i e in
      let there : n ≢ slot = λ is. none_some ⊥ was.0 (sym vacant ∙ ap types (sym is) ∙ was.1) in
      let here : m ≢ slot = λ is. none_some ⊥ (toggled was.0 i) (sym vacant ∙ ap types (sym is) ∙ was.2) in
      (was.0, others n there ∙ was.1, others m here ∙ was.2)

-- a table goes, and with it all edges from and to its slot
module _ (types types' : ℕ → Option (List Id)) (lists lists' : List (List (Id × ℕ))) (slot : ℕ) where
  pub graph_cut : IsGraph types lists → Cuts lists lists' slot → ((k : ℕ) → k ≢ slot → types' k ≡ types k) → IsGraph types' lists'
  graph_cut graph cuts others n m i e = way (nat_eq n slot || leads_to slot (edge lists n i))
      ((ids : List Id) × (types' n ≡ Some ids) × (types' m ≡ Some (toggled ids i)))
      (λ gone. none_some _ m (sym (cuts n i ∙ ap (λ b. cond b None (edge lists n i)) gone) ∙ e))
      (λ stays.
      let old : edge lists n i ≡ Some m = sym (cuts n i ∙ ap (λ b. cond b None (edge lists n i)) stays) ∙ e in
      let was = graph n m i old in
      let apart_n : n ≢ slot = λ is. let same = (Decides-eqb n slot).1 is in let bad = rw same at stays in cc in
      let apart_m : m ≢ slot = λ is. let same = leads_there slot (edge lists n i) (old ∙ ap Some is)
      in let bad = either (nat_eq n slot) (leads_to slot (edge lists n i)) stays same in cc in
      (was.0, others n apart_n ∙ was.1, others m apart_m ∙ was.2))
    where
      either : (a b : Bool) → (a || b) ≡ false → b ≡ true → false ≡ true
      either true b p q = cc
      either false b p q = cc

-- two tables are joined, whose types differ by the id
pub graph_linked : (types : ℕ → Option (List Id)) (lists lists' : List (List (Id × ℕ))) (a b : ℕ) (i : Id) (ids : List Id)
    → IsGraph types lists → Links lists lists' a i b → types a ≡ Some ids → types b ≡ Some (toggled ids i) → toggled (toggled ids i) i ≡ ids
    → IsGraph types lists'
graph_linked types lists lists' a b i ids graph links from to twice n m j e = way (nat_eq n b && same_id i j)
    ((own : List Id) × (types n ≡ Some own) × (types m ≡ Some (toggled own j)))
    (λ back.
    let is_b : n ≡ b = same_slot n b (and_left _ _ back) in
    let is_i : i ≡ j = (id_eq-Decides i j).0 (and_right _ _ back) in
    let is_a : a ≡ m = some_is a m (sym (links n j ∙ ap (λ x. cond x (Some a) (cond (nat_eq n a && same_id i j) (Some b) (edge lists n j))) back) ∙ e) in
    (toggled ids i, ap types is_b ∙ to, ap types (sym is_a) ∙ from ∙ ap Some (sym twice ∙ ap (toggled (toggled ids i)) is_i)))
    (λ no. way (nat_eq n a && same_id i j)
    ((own : List Id) × (types n ≡ Some own) × (types m ≡ Some (toggled own j)))
    (λ forth.
    let is_a : n ≡ a = same_slot n a (and_left _ _ forth) in
    let is_i : i ≡ j = (id_eq-Decides i j).0 (and_right _ _ forth) in
    let is_b : b ≡ m = some_is b m (sym (links n j ∙ ap (λ x. cond x (Some a) (cond (nat_eq n a && same_id i j) (Some b) (edge lists n j))) no
    ∙ ap (λ x. cond x (Some b) (edge lists n j)) forth) ∙ e) in
    (ids, ap types is_a ∙ from, ap types (sym is_b) ∙ to ∙ ap Some (ap (toggled ids) is_i)))
    (λ other. graph n m j (sym (links n j ∙ ap (λ x. cond x (Some a) (cond (nat_eq n a && same_id i j) (Some b) (edge lists n j))) no
    ∙ ap (λ x. cond x (Some b) (edge lists n j)) other) ∙ e)))
  where
    and_left : (p q : Bool) → (p && q) ≡ true → p ≡ true
    and_left true q r = refl
    and_left false q r = cc

    and_right : (p q : Bool) → (p && q) ≡ true → q ≡ true
    and_right true q r = r
    and_right false q r = cc
