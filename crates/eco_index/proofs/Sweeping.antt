-- What is left of what leads to slots where many of these lost their tables.
use Rattle.eco_index.proofs.Common.{◌≡◌, ℕ, ◌<◌, ◌≤◌, ◌&&◌, ◌||◌, Bool, true, false, not, cond, List, [], ◌∷◌, length, nat_eq}
use Rattle.eco_index.proofs.Common.{true≢false, rules, Option, Some, None, refl, sym, ap, subst, ◌∙◌, arith, inl, inr, nat_lt, filter, IsEquivalence}
use Rattle.eco_index.proofs.Common.{IsDistinct, list_any, lookup, cases_lt, Decides-eqb, slice_get_past, entity_eq-Decides, Entity, Id, Key, Single}
use Rattle.eco_index.proofs.Common.{Pair, Relationship, Target, AnyPair, Slots, edge, edge_of, IsTwofold, same_key, slots_of, has_slot, is_empty}
use Rattle.std.specs.Bool.{Decides}
use Rattle.std.specs.Map.{keys_of}
use Rattle.std.specs.Map.Calls.{RetainsPairs}
use Rattle.std.proofs.lemmas.Map.{NonePasses}
use Rattle.std.proofs.lemmas.Map.Entries.{lookup-filter-values, option_filter, none_past_head}
use Rattle.std.proofs.lemmas.Map.Keys.{IsDistinct-tail}
use Rattle.std.proofs.lemmas.Map.Views.{any-filter_same}
use Rattle.eco_index.specs.Sweeping.{kept_if, KeepsEdges}
use Rattle.eco_index.proofs.Keys.{keys_same, or_false}
use Rattle.eco_ids.specs.contracts.entity.EntityPartialEq.TheImpl as entity_impl

-- ---- maps whose values are slots

-- a test that decides whether two are the same
pub equivalence : {K : Type 0} (eq : K → K → Bool) → ((a b : K) → Decides (eq a b) (a ≡ b)) → IsEquivalence eq
equivalence {K} eq dec = record {
  refl = λ x. (dec x x).1 refl;
  symm = λ x y. by x y (eq x y) (eq y x) refl refl;
  congr = λ x y z same. ap (λ w. eq w z) ((dec x y).0 same);
}
  where
    by : (x y : K) (a b : Bool) → eq x y ≡ a → eq y x ≡ b → a ≡ b
    by x y true true p q = refl
    by x y false false p q = refl
    by x y true false p q = sym ((dec y x).1 (sym ((dec x y).0 p))) ∙ q
    by x y false true p q = sym p ∙ (dec x y).1 (sym ((dec y x).0 q))

filter_is : (stays : ℕ → Bool) (o : Option ℕ) → option_filter stays o ≡ kept_if stays o
filter_is stays None = refl
filter_is stays (Some n) = refl

-- of the entries those stay whose slots pass the test
pub kept_values : {K : Type 0} (eq : K → K → Bool) → ((a b : K) → Decides (eq a b) (a ≡ b)) → (stays : ℕ → Bool) (es kept : List (K × ℕ))
    → IsDistinct eq (keys_of es) → kept ≡ filter (λ e. stays e.1) es → (q : K) → lookup (eq q) kept ≡ kept_if stays (lookup (eq q) es)
kept_values eq dec stays es kept distinct are q =
    ap (lookup (eq q)) are ∙ lookup-filter-values (equivalence eq dec) stays q es distinct ∙ filter_is stays (lookup (eq q) es)

-- a slot that passes the test
pub kept_some : (stays : ℕ → Bool) (o : Option ℕ) (n : ℕ) → kept_if stays o ≡ Some n → (o ≡ Some n) × (stays n ≡ true)
kept_some stays None n e = cc
kept_some stays (Some m) n e = by (stays m) refl e
  where
    by : (b : Bool) → stays m ≡ b → cond b (Some m) None ≡ Some n → (◌≡◌ {A = Option ℕ} (Some m) (Some n)) × (stays n ≡ true)
    by true is e = (e, ap stays (sym (let same : m ≡ n = cc in same)) ∙ is)
    by false is e = cc

pub kept_stays : (stays : ℕ → Bool) (o : Option ℕ) (n : ℕ) → o ≡ Some n → stays n ≡ true → kept_if stays o ≡ Some n
kept_stays stays o n is there = ap (kept_if stays) is ∙ ap (λ b. cond b (Some n) None) there

-- ---- the index of keys

and_turned : (a b : Bool) → (a && b) ≡ (b && a)
and_turned true true = refl
and_turned true false = refl
and_turned false true = refl
and_turned false false = refl

-- of some slots those are left that pass the test; where none is left, none is found
pub left_any : (stays : ℕ → Bool) (ns left : List ℕ) (none : Bool) → (none ≡ true → length left ≡ 0) → left ≡ filter stays ns → (n : ℕ)
    → (not none && list_any (nat_eq n) left) ≡ (list_any (nat_eq n) ns && stays n)
left_any stays ns left none empty are n =
    some none refl ∙ ap (list_any (nat_eq n)) are
    ∙ any-filter_same (nat_eq n) stays (stays n) (λ k same. ap stays (sym ((Decides-eqb n k).0 same))) ns
    ∙ and_turned (stays n) (list_any (nat_eq n) ns)
  where
    none_in : (ms : List ℕ) → length ms ≡ 0 → list_any (nat_eq n) ms ≡ false
    none_in [] h = refl
    none_in (m ∷ ms) h = absurd (omega (arith, h))

    some : (b : Bool) → none ≡ b → (not b && list_any (nat_eq n) left) ≡ list_any (nat_eq n) left
    some true is = sym (none_in left (empty is))
    some false is = refl

pub key-Decides : (a b : Key) → Decides (same_key a b) (a ≡ b)
key-Decides a b = (keys_same a b, λ is. subst (λ c. same_key a c ≡ true) is (key_itself a))
  where
    itself : (e : Entity) → (entity_impl.eq-value).it e e ≡ true
    itself e = (entity_eq-Decides e e).1 refl

    key_itself : (a : Key) → same_key a a ≡ true
    key_itself (Single e) = itself e
    key_itself (Pair r u) = λ t. itself r t && itself u t
    key_itself (Relationship e) = itself e
    key_itself (Target e) = itself e
    key_itself AnyPair = refl

distribute : (c v a s : Bool) → ((c && (v && s)) || (a && s)) ≡ (((c && v) || a) && s)
distribute false v a s = refl
distribute true false a s = refl
distribute true true a true = refl
distribute true true true false = refl
distribute true true false false = refl

none_stays : (c v a s : Bool) → false ≡ (v && s) → (a && s) ≡ (((c && v) || a) && s)
none_stays false v a s h = refl
none_stays true false a s h = refl
none_stays true true true false h = refl
none_stays true true false false h = refl
none_stays true true a true h = absurd (true≢false (sym h))

module _ {K : Type 0} (eq : K → K → Bool) (dec : (a b : K) → Decides (eq a b) (a ≡ b)) where
  -- an entry of the key that has the slot
  abbrev any_slot : K → ℕ → K × Slots → Bool
  any_slot k n e = eq k e.0 && list_any (nat_eq n) (slots_of e.1)

  none_any : (k : K) (n : ℕ) (es : List (K × Slots)) → NonePasses (eq k) es → list_any (any_slot k n) es ≡ false
  none_any k n [] none = refl
  none_any k n (e ∷ es) none = λ t. (none.0 t && list_any (nat_eq n) (slots_of e.1)) || none_any k n es none.1 t

  listed_any : (k : K) (n : ℕ) (es : List (K × Slots)) → IsDistinct eq (keys_of es)
      → has_slot (lookup (eq k) es) n ≡ list_any (any_slot k n) es
  listed_any k n [] distinct = refl
  listed_any k n (e ∷ es) distinct =
      by (eq k e.0) refl (listed_any k n es (IsDistinct-tail eq e.0 (keys_of es) distinct))
    where
      by : (b : Bool) → eq k e.0 ≡ b → has_slot (lookup (eq k) es) n ≡ list_any (any_slot k n) es
          → has_slot (cond b (Some e.1) (lookup (eq k) es)) n ≡ ((b && list_any (nat_eq n) (slots_of e.1)) || list_any (any_slot k n) es)
      by true is rest =
          sym (ap (λ b. list_any (nat_eq n) (slots_of e.1) || b) (none_any k n es (none_past_head (equivalence eq dec) k e es distinct is))
          ∙ or_false (list_any (nat_eq n) (slots_of e.1)))
      by false is rest = rest

  -- a closure keeps of the slots of each key those that pass the test, and the key where one is left
  module _ {F : Type 0} (T : F → K → Slots → Bool → Slots → F → Type 0) (stays : ℕ → Bool) (f : F)
      (each : (k : K) (v : Slots) (b : Bool) (w : Slots) (f' : F) → T f k v b w f'
      → ((n : ℕ) → (b && list_any (nat_eq n) (slots_of w)) ≡ (list_any (nat_eq n) (slots_of v) && stays n))
      × (b ≡ true → is_empty (Some w) ≡ false) × (f' ≡ f)) where
    swept_any : (es kept : List (K × Slots)) → RetainsPairs T f es kept → (k : K) (n : ℕ)
        → list_any (any_slot k n) kept ≡ (list_any (any_slot k n) es && stays n)
    swept_any [] kept is k n = ap (list_any (any_slot k n)) is
    swept_any (e ∷ es) kept (b, w, f', rest, call, after, is) k n =
        let own = each e.0 e.1 b w f' call in
        ap (list_any (any_slot k n)) is
        ∙ by b (own.0 n) (swept_any es rest (subst (λ g. RetainsPairs T g es rest) own.2 after) k n)
      where
        by : (b : Bool) → (b && list_any (nat_eq n) (slots_of w)) ≡ (list_any (nat_eq n) (slots_of e.1) && stays n)
            → list_any (any_slot k n) rest ≡ (list_any (any_slot k n) es && stays n)
            → list_any (any_slot k n) (cond b ((e.0, w) ∷ rest) rest) ≡ (list_any (any_slot k n) (e ∷ es) && stays n)
        by true own later =
            (λ t. (eq k e.0 && own t) || later t)
            ∙ distribute (eq k e.0) (list_any (nat_eq n) (slots_of e.1)) (list_any (any_slot k n) es) (stays n)
        by false own later =
            later ∙ none_stays (eq k e.0) (list_any (nat_eq n) (slots_of e.1)) (list_any (any_slot k n) es) (stays n) own

    -- a key that was not kept is not kept
    pub swept_absent : (es kept : List (K × Slots)) → RetainsPairs T f es kept → (k : K) → lookup (eq k) es ≡ None → lookup (eq k) kept ≡ None
    swept_absent [] kept is k none = ap (lookup (eq k)) is
    swept_absent (e ∷ es) kept (b, w, f', rest, call, after, is) k none =
        ap (lookup (eq k)) is
        ∙ by (eq k e.0) b none refl (swept_absent es rest (subst (λ g. RetainsPairs T g es rest) (each e.0 e.1 b w f' call).2 after) k)
      where
        by : (c b : Bool) → cond c (Some e.1) (lookup (eq k) es) ≡ None → eq k e.0 ≡ c
            → (lookup (eq k) es ≡ None → lookup (eq k) rest ≡ None)
            → lookup (eq k) (cond b ((e.0, w) ∷ rest) rest) ≡ None
        by true b none is later = cc
        by false true none is later = ap (λ c. cond c (Some w) (lookup (eq k) rest)) is ∙ later none
        by false false none is later = later none

    -- each key that is kept has a slot
    pub swept_filled : (es kept : List (K × Slots)) → RetainsPairs T f es kept → (k : K) → is_empty (lookup (eq k) kept) ≡ false
    swept_filled [] kept is k = ap (λ xs. is_empty (lookup (eq k) xs)) is
    swept_filled (e ∷ es) kept (b, w, f', rest, call, after, is) k =
        let own = each e.0 e.1 b w f' call in
        ap (λ xs. is_empty (lookup (eq k) xs)) is
        ∙ by b (eq k e.0) own.1 refl (swept_filled es rest (subst (λ g. RetainsPairs T g es rest) own.2 after) k)
      where
        by : (b c : Bool) → (b ≡ true → is_empty (Some w) ≡ false) → eq k e.0 ≡ c → is_empty (lookup (eq k) rest) ≡ false
            → is_empty (lookup (eq k) (cond b ((e.0, w) ∷ rest) rest)) ≡ false
        by true true full is later = ap (λ c. is_empty (cond c (Some w) (lookup (eq k) rest))) is ∙ full refl
        by true false full is later = ap (λ c. is_empty (cond c (Some w) (lookup (eq k) rest))) is ∙ later
        by false c full is later = later

    pub swept_listed : (es kept : List (K × Slots)) → IsDistinct eq (keys_of es) → IsDistinct eq (keys_of kept) → RetainsPairs T f es kept
        → (k : K) (n : ℕ) → has_slot (lookup (eq k) kept) n ≡ (has_slot (lookup (eq k) es) n && stays n)
    swept_listed es kept before after retains k n =
        listed_any k n kept after ∙ swept_any es kept retains k n ∙ ap (λ b. b && stays n) (sym (listed_any k n es before))

-- ---- edges

less : (a b : ℕ) → a < b → nat_lt a b ≡ true
less a b h = search rules

past_all : (n slot len : ℕ) → nat_lt n slot ≡ false → len ≤ slot → len ≤ n
past_all n slot len is past = elim (cases_lt n slot) [
  | inl lt ↦ absurd (true≢false (sym (less n slot lt) ∙ is))
  | inr ge ↦ omega (arith, ge, past)
]

abbrev pub swept_edge : (ℕ → Bool) → List (List (Id × ℕ)) → ℕ → Id → Option ℕ
swept_edge stays g n i = cond (stays n) (kept_if stays (edge g n i)) None

-- all lists are gone through
pub swept_all : (stays : ℕ → Bool) (g now : List (List (Id × ℕ))) (slot : ℕ) → length g ≤ slot
    → ((n : ℕ) (i : Id) → edge now n i ≡ cond (nat_lt n slot) (swept_edge stays g n i) (edge g n i)) → KeepsEdges stays g now
swept_all stays g now slot past swept n i = swept n i ∙ by (nat_lt n slot) refl
  where
    nothing : (b : Bool) (o : Option ℕ) → o ≡ None → o ≡ cond b (kept_if stays o) None
    nothing true o none = none ∙ sym (ap (kept_if stays) none)
    nothing false o none = none

    by : (b : Bool) → nat_lt n slot ≡ b → cond b (swept_edge stays g n i) (edge g n i) ≡ swept_edge stays g n i
    by true is = refl
    by false is = nothing (stays n) (edge g n i) (ap (λ o. edge_of o i) (slice_get_past g n (past_all n slot (length g) is past)))

-- where edges between slots that pass the test stay, those that stay lead back
pub twofold_swept : (stays : ℕ → Bool) (g g' : List (List (Id × ℕ))) → KeepsEdges stays g g' → IsTwofold g → IsTwofold g'
twofold_swept stays g g' keeps twofold n m i e = back (stays n) refl (sym (keeps n i) ∙ e)
  where
    back : (b : Bool) → stays n ≡ b → cond b (kept_if stays (edge g n i)) None ≡ Some m → edge g' m i ≡ Some n
    back true here e =
        let was = kept_some stays (edge g n i) m e in
        keeps m i ∙ ap (λ b. cond b (kept_if stays (edge g m i)) None) was.1
        ∙ kept_stays stays (edge g m i) n (twofold n m i was.0) here
    back false here e = cc
