-- A loss as changes of single entities, one after another.
use Rattle.eco_ids.proofs.Facts.{entity_eq_sym, neither, off}
use Rattle.eco_ids.proofs.Common.{◌≡◌, ℕ, suc, ◌+◌, arith, Bool, true, false, cond, not, ◌&&◌, ◌||◌, List, [], ◌∷◌, is_some, IsTrue, IsFalse, fold, sym, refl}
use Rattle.eco_ids.proofs.Common.{ap, ◌∙◌, subst}
use Rattle.eco_ids.proofs.Common.{Some, None, Option, true≢false, find, where_key, Entity, Id, Value, Living, IndexState, nobody, without}
use Rattle.eco_ids.proofs.Common.{keeping}
use Rattle.eco_ids.proofs.Common.{id_cmp, id_eq, entity_eq, has_item, entity_cmp, changed, WorldState, Record, has, record_of, entities, slice_get, Two, One}
use Rattle.eco_ids.proofs.Common.{IsLawful, mirror_of, at_mirror, goes_too}
use Rattle.eco_ids.proofs.Common.{is_symmetric, has_symmetric, if◌then◌else◌, inl, inr, ◌⊎◌, ◌++◌}
use Rattle.eco_ids.specs.Indices.{map_from}
use Rattle.eco_ids.specs.Losses.{left_at}
use Rattle.std.proofs.lemmas.List.Folds.{list_any-append}
use Rattle.eco_ids.proofs.Ascending.{first, second}
use Rattle.eco_ids.proofs.Exact.{keys, keys_find}
use Rattle.eco_ids.proofs.Facts.{id_eq_is, id_eq_itself, not_both, or_left, or_parts, or_right}
use Rattle.eco_ids.proofs.Keeps.{has_in}
use Rattle.eco_ids.proofs.Losses.{keeps_all, without_one}
use Rattle.eco_ids.proofs.Mirrors.{mirror_is, mirror_parts, mirrored_of}
use Rattle.eco_ids.proofs.Overlaps.{entity_eq_is, entity_eq_itself}
use Rattle.eco_ids.proofs.States.{record_at}

-- what goes in two steps goes in one
twice_kept : (p q : Id → Bool) (es : List (Id × Value)) →
    where_key id_cmp (λ i. not (q i)) (where_key id_cmp (λ i. not (p i)) es) ≡ where_key id_cmp (λ i. not (p i || q i)) es
twice_kept p q [] = refl
twice_kept p q (e ∷ es) = by (twice_kept p q es) (p e.0)
  where
    rest : List (Id × Value)
    rest = where_key id_cmp (λ i. not (p i)) es

    both : List (Id × Value)
    both = where_key id_cmp (λ i. not (p i || q i)) es

    by : where_key id_cmp (λ i. not (q i)) rest ≡ both → (b : Bool) →
        where_key id_cmp (λ i. not (q i)) (cond (not b) (e ∷ rest) rest) ≡ cond (not (b || q e.0)) (e ∷ both) both
    by again true = again
    by again false = λ t. cond (not (q e.0)) (e ∷ again t) (again t)

states_twice : (g h : Entity → Id → Bool) (n : ℕ) (xs : List (IndexState Record)) →
    map_from (left_at nobody h) n (map_from (left_at nobody g) n xs) ≡ map_from (left_at nobody (λ x i. g x i || h x i)) n xs
states_twice g h n [] = refl
states_twice g h n (Living k r ∷ xs) =
    let e : Entity = record { index = n; generation = k } in
    let here = twice_kept (g e) (h e) r.held in
    let rest = states_twice g h (n + 1) xs in
    λ t. Living k (record r { held = here t }) ∷ rest t
states_twice g h n (x ∷ xs) = ap (λ ys. x ∷ ys) (states_twice g h (n + 1) xs)

pub without_then : (w : WorldState) (g h : Entity → Id → Bool) → without (without w nobody g) nobody h ≡ without w nobody (λ x i. g x i || h x i)
without_then w g h = ap (λ xs. record w { indices = xs }) (states_twice g h 0 w.indices)

-- where the same goes of what is there, the same is left
same_kept : (p q : Id → Bool) (es : List (Id × Value)) → ((i : Id) → IsTrue (is_some (find id_cmp i es)) → p i ≡ q i) →
    where_key id_cmp (λ i. not (p i)) es ≡ where_key id_cmp (λ i. not (q i)) es
same_kept p q [] same = refl
same_kept p q (e ∷ es) same =
    let rest = same_kept p q es (λ i k. same i (later i (id_eq i e.0) k)) in
    λ t. cond (not (here t)) (e ∷ rest t) (rest t)
  where
    here : p e.0 ≡ q e.0
    here = same e.0 (ap (λ b. is_some (cond b (Some e.1) (find id_cmp e.0 es))) (id_eq_itself e.0))

    later : (i : Id) (b : Bool) → IsTrue (is_some (find id_cmp i es)) → IsTrue (is_some (cond b (Some e.1) (find id_cmp i es)))
    later i true k = refl
    later i false k = k

one_on : (g h : Entity → Id → Bool) (n : ℕ) (y : IndexState Record) (xs : List (IndexState Record)) →
    ((k m : ℕ) (r : Record) → slice_get (y ∷ xs) k ≡ Some (Living m r) → (i : Id) → IsTrue (is_some (find id_cmp i r.held)) →
    g (record { index = n + k; generation = m }) i ≡ h (record { index = n + k; generation = m }) i) →
    (k m : ℕ) (r : Record) → slice_get xs k ≡ Some (Living m r) → (i : Id) → IsTrue (is_some (find id_cmp i r.held)) →
    g (record { index = (n + 1) + k; generation = m }) i ≡ h (record { index = (n + 1) + k; generation = m }) i
one_on g h n y xs same k m r at i there =
    let is : n + suc k ≡ (n + 1) + k = omega arith in
    subst (λ j. g (record { index = j; generation = m }) i ≡ h (record { index = j; generation = m }) i) is (same (suc k) m r at i there)

states_alike : (g h : Entity → Id → Bool) (n : ℕ) (xs : List (IndexState Record)) →
    ((k m : ℕ) (r : Record) → slice_get xs k ≡ Some (Living m r) → (i : Id) → IsTrue (is_some (find id_cmp i r.held)) →
    g (record { index = n + k; generation = m }) i ≡ h (record { index = n + k; generation = m }) i) →
    map_from (left_at nobody g) n xs ≡ map_from (left_at nobody h) n xs
states_alike g h n [] same = refl
states_alike g h n (Living m r ∷ xs) same =
    let e : Entity = record { index = n; generation = m } in
    let at : n + 0 ≡ n = omega arith in
    let here = same_kept (g e) (h e) r.held (λ i there.
    subst (λ k. g (record { index = k; generation = m }) i ≡ h (record { index = k; generation = m }) i) at (same 0 m r refl i there)) in
    let rest = states_alike g h (n + 1) xs (one_on g h n (Living m r) xs same) in
    λ t. Living m (record r { held = here t }) ∷ rest t
states_alike g h n (x ∷ xs) same = ap (λ ys. x ∷ ys) (states_alike g h (n + 1) xs (one_on g h n x xs same))

pub without_alike : (w : WorldState) (g h : Entity → Id → Bool) → ((x : Entity) (i : Id) → IsTrue (has w x i) → g x i ≡ h x i) →
    without w nobody g ≡ without w nobody h
without_alike w g h same = ap (λ xs. record w { indices = xs }) (states_alike g h 0 w.indices (λ k m r at i there.
    let e : Entity = record { index = k; generation = m } in
    let is : k ≡ 0 + k = omega arith in
    subst (λ n. g (record { index = n; generation = m }) i ≡ h (record { index = n; generation = m }) i) is
    (same e i (ap (λ o. has_in o i) (record_at (entities w) e r at) ∙ there))))

-- nothing goes
without_nothing : (w : WorldState) → without w nobody (λ x i. false) ≡ w
without_nothing w = ap (λ xs. record w { indices = xs }) (go 0 w.indices)
  where
    go : (n : ℕ) (xs : List (IndexState Record)) → map_from (left_at nobody (λ x i. false)) n xs ≡ xs
    go n [] = refl
    go n (Living k r ∷ xs) = let here = keeps_all (λ i. false) r (λ i _. refl) in let rest = go (n + 1) xs in λ t. Living k (here t) ∷ rest t
    go n (x ∷ xs) = ap (λ ys. x ∷ ys) (go (n + 1) xs)

-- the entities lose what goes from each, one after another
abbrev pub one_by_one : (Entity → Id → Bool) → WorldState → List Entity → WorldState
one_by_one goes w es = fold (λ v e. changed v e (keeping (goes e))) w es

-- what goes from these alone
abbrev of_these : (Entity → Id → Bool) → List Entity → Entity → Id → Bool
of_these goes es x i = has_item entity_cmp es x && goes x i

some_more : (goes : Entity → Id → Bool) (e : Entity) (es : List Entity) (x : Entity) (i : Id) →
    of_these goes (e ∷ es) x i ≡ ((entity_eq x e && goes e i) || of_these goes es x i)
some_more goes e es x i = ap (λ b. (b || has_item entity_cmp es x) && goes x i) (entity_eq_sym e x) ∙ by (entity_eq x e) refl
  where
    absorbed : (b c : Bool) → b ≡ (b || (c && b))
    absorbed true c = refl
    absorbed false true = refl
    absorbed false false = refl

    by : (b : Bool) → entity_eq x e ≡ b → ((b || has_item entity_cmp es x) && goes x i) ≡ ((b && goes e i) || (has_item entity_cmp es x && goes x i))
    by true k = absorbed (goes x i) (has_item entity_cmp es x) ∙ ap (λ y. goes y i || (has_item entity_cmp es x && goes x i)) (entity_eq_is x e k)
    by false k = refl

these_lose : (goes : Entity → Id → Bool) (w : WorldState) (es : List Entity) → without w nobody (of_these goes es) ≡ one_by_one goes w es
these_lose goes w [] = without_nothing w
these_lose goes w (e ∷ es) =
    (λ t. without w nobody (λ x i. some_more goes e es x i t))
    ∙ sym (without_then w (λ x i. entity_eq x e && goes e i) (of_these goes es))
    ∙ ap (λ v. without v nobody (of_these goes es)) (without_one w e (goes e))
    ∙ these_lose goes (changed w e (keeping (goes e))) es

-- a loss is that of some entities one after another, in any order, where whoever is none of them has nothing that goes
pub losses_one_by_one : (w : WorldState) (goes : Entity → Id → Bool) (es : List Entity) →
    ((x : Entity) (i : Id) → IsTrue (has w x i) → IsFalse (has_item entity_cmp es x) → IsFalse (goes x i)) →
    without w nobody goes ≡ one_by_one goes w es
losses_one_by_one w goes es others = without_alike w goes (of_these goes es) (λ x i there. same x i there (has_item entity_cmp es x) refl)
    ∙ these_lose goes w es
  where
    same : (x : Entity) (i : Id) → IsTrue (has w x i) → (b : Bool) → has_item entity_cmp es x ≡ b
        → goes x i ≡ (has_item entity_cmp es x && goes x i)
    same x i there true h = sym (ap (λ c. c && goes x i) h)
    same x i there false h = others x i there h ∙ sym (ap (λ c. c && goes x i) h)

-- ---- which entities these are, in remove, clear and remove_all

abbrev pub with_holder : Option (Entity × Id) → List Entity → List Entity
with_holder None es = es
with_holder (Some m) es = m.0 ∷ es

-- who holds the mirrors of these ids of e
abbrev pub mirror_holders : WorldState → Entity → List Id → List Entity
mirror_holders w e [] = []
mirror_holders w e (j ∷ js) = with_holder (mirror_of w e j) (mirror_holders w e js)

-- whoever holds the mirror of one of them is among them
among_holders : (w : WorldState) (e : Entity) (js : List Id) (j : Id) (m : Entity × Id) → IsTrue (has_item id_cmp js j) → mirror_of w e j ≡ Some m →
    IsTrue (has_item entity_cmp (mirror_holders w e js) m.0)
among_holders w e [] j m h is = absurd (true≢false (sym h))
among_holders w e (k ∷ js) j m h is = by (or_parts (id_eq k j) (has_item id_cmp js j) h) (λ p. among_holders w e js j m p is)
  where
    later : (o : Option (Entity × Id)) → IsTrue (has_item entity_cmp (mirror_holders w e js) m.0) →
        IsTrue (has_item entity_cmp (with_holder o (mirror_holders w e js)) m.0)
    later None p = p
    later (Some n) p = or_right (entity_eq n.0 m.0) _ p

    by : IsTrue (id_eq k j) ⊎ IsTrue (has_item id_cmp js j) →
        (IsTrue (has_item id_cmp js j) → IsTrue (has_item entity_cmp (mirror_holders w e js) m.0)) →
        IsTrue (has_item entity_cmp (with_holder (mirror_of w e k) (mirror_holders w e js)) m.0)
    by (inl same) rest =
        ap (λ o. has_item entity_cmp (with_holder o (mirror_holders w e js)) m.0) (ap (mirror_of w e) (id_eq_is k j same) ∙ is)
        ∙ or_left (entity_eq m.0 m.0) _ (entity_eq_itself m.0)
    by (inr more) rest = later (mirror_of w e k) (rest more)

-- neither an id nor its mirror goes
stays_there : (w : WorldState) (goes : Entity → Id → Bool) (x : Entity) (j : Id) → IsFalse (goes x j) →
    ((r t : Entity) → j ≡ Two r t → IsTrue (is_symmetric w r) → IsTrue (goes t (Two r x)) → ⊥) → IsFalse (goes_too w goes x j)
stays_there w goes x j stays mirror = by (mirror_of w x j) refl
  where
    by : (o : Option (Entity × Id)) → mirror_of w x j ≡ o → IsFalse (goes_too w goes x j)
    by None is = ap (λ o. at_mirror goes o || goes x j) is ∙ stays
    by (Some m) is =
        let p = mirror_parts w x j m is in
        let gone : IsFalse (goes m.0 m.1) = off (goes m.0 m.1) (λ h.
        mirror p.0 p.1 p.2 p.3 (subst (λ (y : Entity × Id). IsTrue (goes y.0 y.1)) p.4 h)) in
        ap (λ o. at_mirror goes o || goes x j) is ∙ ap (λ b. b || goes x j) gone ∙ stays

turned_apart : (e x : Entity) → IsFalse (entity_eq e x) → IsFalse (entity_eq x e)
turned_apart e x h = entity_eq_sym x e ∙ h

-- a remove changes its entity, and the holder of the mirror where there is one
pub remove_moves : (w : WorldState) (e : Entity) (i : Id) →
    without w nobody (goes_too w (λ x j. entity_eq x e && id_eq j i))
    ≡ one_by_one (goes_too w (λ x j. entity_eq x e && id_eq j i)) w (e ∷ mirror_holders w e (i ∷ []))
remove_moves w e i = losses_one_by_one w (goes_too w goes) (e ∷ mirror_holders w e (i ∷ [])) (λ x j there apart.
    stays_there w goes x j (ap (λ b. b && id_eq j i) (turned_apart e x (neither (entity_eq e x) _ apart).0))
    (λ r t is symmetric gone.
    let at : t ≡ e = entity_eq_is t e (first (entity_eq t e) (id_eq (Two r x) i) gone) in
    let same : Two r x ≡ i = id_eq_is (Two r x) i (second (entity_eq t e) (id_eq (Two r x) i) gone) in
    let mirror : mirror_of w e i ≡ Some (x, Two r e) = ap (mirror_of w e) (sym same) ∙ mirror_is w e r x symmetric in
    not_both (among_holders w e (i ∷ []) i (x, Two r e) (or_left (id_eq i i) false (id_eq_itself i)) mirror) (neither (entity_eq e x) _ apart).1))
  where
    goes : Entity → Id → Bool
    goes x j = entity_eq x e && id_eq j i

-- a clear changes its entity, and the holder of each mirror of one of its pairs
pub clear_moves : (w : WorldState) (e : Entity) (d : Record) → IsLawful w → record_of w e ≡ Some d →
    without w nobody (goes_too w (λ x j. entity_eq x e))
    ≡ one_by_one (goes_too w (λ x j. entity_eq x e)) w (e ∷ mirror_holders w e (keys d.held))
clear_moves w e d l at = losses_one_by_one w (goes_too w goes) (e ∷ mirror_holders w e (keys d.held)) (λ x j there apart.
    stays_there w goes x j (turned_apart e x (neither (entity_eq e x) _ apart).0)
    (λ r t is symmetric gone.
    let here : t ≡ e = entity_eq_is t e gone in
    let edge : IsTrue (has w x (Two r e)) = subst (λ y. IsTrue (has w x (Two r y))) here (subst (λ k. IsTrue (has w x k)) is there) in
    let back : IsTrue (has w e (Two r x)) = (mirrored_of w l (first (has_symmetric w.edition) _ symmetric)).mirrors r x e symmetric edge in
    let listed : IsTrue (has_item id_cmp (keys d.held) (Two r x)) = sym (keys_find d.held (Two r x)) ∙ sym (ap (λ o. has_in o (Two r x)) at) ∙ back in
    not_both (among_holders w e (keys d.held) (Two r x) (x, Two r e) listed (mirror_is w e r x symmetric)) (neither (entity_eq e x) _ apart).1))
  where
    goes : Entity → Id → Bool
    goes x j = entity_eq x e

-- a remove_all changes those who have the id, and the target, where it is a symmetric pair
abbrev pub symmetric_target : WorldState → Id → List Entity
symmetric_target w (One c) = []
symmetric_target w (Two r t) = if is_symmetric w r then t ∷ [] else []

pub remove_all_moves : (w : WorldState) (i : Id) (holders : List Entity) →
    ((x : Entity) → IsTrue (has w x i) → IsTrue (has_item entity_cmp holders x)) →
    without w nobody (goes_too w (λ x j. id_eq j i)) ≡ one_by_one (goes_too w (λ x j. id_eq j i)) w (symmetric_target w i ++ holders)
remove_all_moves w i holders all = losses_one_by_one w (goes_too w goes) (symmetric_target w i ++ holders) (λ x j there apart.
    stays_there w goes x j (off (id_eq j i) (λ same.
    not_both (or_right (has_item entity_cmp (symmetric_target w i) x) _ (all x (subst (λ k. IsTrue (has w x k)) (id_eq_is j i same) there)))
    (sym (split x) ∙ apart)))
    (λ r t is symmetric same.
    not_both (or_left (has_item entity_cmp (symmetric_target w i) x) (has_item entity_cmp holders x)
    (subst (λ k. IsTrue (has_item entity_cmp (symmetric_target w k) x)) (id_eq_is (Two r x) i same) (target r x symmetric))) (sym (split x) ∙ apart)))
  where
    goes : Entity → Id → Bool
    goes x j = id_eq j i

    split : (x : Entity) → has_item entity_cmp (symmetric_target w i ++ holders) x ≡
        (has_item entity_cmp (symmetric_target w i) x || has_item entity_cmp holders x)
    split x = list_any-append (λ y. entity_eq y x) (symmetric_target w i) holders

    target : (r x : Entity) → IsTrue (is_symmetric w r) → IsTrue (has_item entity_cmp (symmetric_target w (Two r x)) x)
    target r x h = ap (λ b. has_item entity_cmp (cond b (x ∷ []) []) x) h ∙ or_left (entity_eq x x) false (entity_eq_itself x)
