-- A search that asks its members in turn ends, with the least set.
use Rattle.eco_search.proofs.Common.{or_left, IsEquivalence}
use Rattle.std.proofs.Common.{◌≡◌, ℕ, suc, ◌+◌, ◌-◌, ◌<◌, ◌≤◌, Bool, true, false, cond, ◌||◌, ◌↔◌, ◌⊎◌, inl, inr}
use Rattle.std.proofs.Common.{List, [], ◌∷◌, ◌++◌, length, take, get_or, refl, sym, ap, ◌∙◌, subst, true≢false, IsTrue, arith, length-append}
use Rattle.std.proofs.Common.{append_assoc}
use Rattle.std.proofs.Math.Seq.{take-length}
use Rattle.std.proofs.lemmas.List.{append-nil, take_more, take-append-le}
use Rattle.std.proofs.Math.Bool.{or-false, or_assoc}
use Rattle.indexmap.specs.IndexSet.{insert_all, insert_key}
use Rattle.eco_ids.specs.Least.{Least, root, next}
use Rattle.eco_ids.proofs.Facts.{or_parts, or_right, same_tests}
use Rattle.eco_search.specs.Search.{IsTurn, is_among}
use Rattle.eco_search.proofs.Among.{only, among_get, among_append, among_front, among_back, among_cases}

module _ {A : Type 0} (eq : A → A → Bool) (laws : IsEquivalence eq) (same : (a b : A) → eq a b ≡ true → a ≡ b) where
  abbrev pub Has : List A → A → Type 0
  Has xs e = IsTrue (is_among eq xs e)

  -- ---- what is noted

  here : (e : A) → Has (e ∷ []) e
  here e = or_left _ _ (laws.refl e)

  pub noted_grows : (ms : List A) (e : A) → (more : List A) × (insert_key eq ms e ≡ ms ++ more)
  noted_grows ms e =
      elim (is_among eq ms e) as (λ b. (more : List A) × (cond b ms (ms ++ e ∷ []) ≡ ms ++ more)) [
        | true ↦ ([], sym (append-nil ms))
        | false ↦ (e ∷ [], refl)
      ]

  pub noted_all_grows : (ms es : List A) → (more : List A) × (insert_all eq ms es ≡ ms ++ more)
  noted_all_grows ms [] = ([], sym (append-nil ms))
  noted_all_grows ms (e ∷ es) =
      let one = noted_grows ms e in
      let rest = noted_all_grows (insert_key eq ms e) es in
      (one.0 ++ rest.0, rest.1 ∙ ap (λ xs. xs ++ rest.0) one.1 ∙ append_assoc ms one.0 rest.0)

  has_noted : (ms : List A) (e b : A) → is_among eq (insert_key eq ms e) b ≡ (is_among eq ms b || is_among eq (e ∷ []) b)
  has_noted ms e b =
      elim (is_among eq ms e) as (λ t. is_among eq ms e ≡ t → is_among eq (cond t ms (ms ++ e ∷ [])) b ≡ (is_among eq ms b || is_among eq (e ∷ []) b)) [
        | true ↦ λ m. same_tests _ _ (or_left _ _)
            (λ h. elim (or_parts (is_among eq ms b) (is_among eq (e ∷ []) b) h) as (λ _. IsTrue (is_among eq ms b)) [
              | inl k ↦ k
              | inr k ↦ subst (Has ms) (sym (only eq same e b k)) m
            ])
        | false ↦ λ m. among_append eq ms (e ∷ []) b
      ] refl

  pub has_noted_all : (ms es : List A) (b : A) → is_among eq (insert_all eq ms es) b ≡ (is_among eq ms b || is_among eq es b)
  has_noted_all ms [] b = sym (or-false _)
  has_noted_all ms (e ∷ es) b =
      has_noted_all (insert_key eq ms e) es b
      ∙ ap (λ t. t || is_among eq es b) (has_noted ms e b)
      ∙ or_assoc (is_among eq ms b) (is_among eq (e ∷ []) b) (is_among eq es b)
      ∙ ap (λ t. is_among eq ms b || t) (sym (among_append eq (e ∷ []) es b))

  -- ---- how many can still come

  pub left_of : List A → List A → ℕ
  left_of [] ms = 0
  left_of (u ∷ us) ms = cond (is_among eq ms u) (left_of us ms) (suc (left_of us ms))

  less_left : (us ms : List A) (e : A) → left_of us (ms ++ e ∷ []) ≤ left_of us ms
  unfolding left_of
  less_left [] ms e = omega arith
  less_left (u ∷ us) ms e =
      let rest = less_left us ms e in
      elim (is_among eq ms u) as (λ b. is_among eq ms u ≡ b
      → cond (is_among eq (ms ++ e ∷ []) u) (left_of us (ms ++ e ∷ [])) (suc (left_of us (ms ++ e ∷ []))) ≤ cond b (left_of us ms)
      (suc (left_of us ms))) [
        | true ↦ λ m. subst (λ b. cond b (left_of us (ms ++ e ∷ [])) (suc (left_of us (ms ++ e ∷ []))) ≤ left_of us ms)
            (sym (among_front eq ms (e ∷ []) u m)) rest
        | false ↦ λ m. elim (is_among eq (ms ++ e ∷ []) u) as (λ b. cond b (left_of us (ms ++ e ∷ [])) (suc (left_of us (ms ++ e ∷ []))) ≤ suc
            (left_of us ms)) [
              | true ↦ omega (arith, rest)
              | false ↦ omega (arith, rest)
            ]
      ] refl

  one_less : (us ms : List A) (e : A) → is_among eq ms e ≡ false → Has us e → left_of us (ms ++ e ∷ []) + 1 ≤ left_of us ms
  unfolding left_of
  one_less [] ms e m h = absurd (true≢false (sym h))
  one_less (u ∷ us) ms e m h =
      elim (or_parts (eq e u) (is_among eq us e) h) as (λ _. cond (is_among eq (ms ++ e ∷ []) u) (left_of us (ms ++ e ∷ []))
      (suc (left_of us (ms ++ e ∷ []))) + 1 ≤ cond (is_among eq ms u) (left_of us ms) (suc (left_of us ms))) [
        | inl k ↦
            let is : e ≡ u = same e u k in
            let isnt : is_among eq ms u ≡ false = subst (λ x. is_among eq ms x ≡ false) is m in
            let comes : is_among eq (ms ++ e ∷ []) u ≡ true = subst (Has (ms ++ e ∷ [])) is (among_back eq ms (e ∷ []) e (here e)) in
            let rest = less_left us ms e in
            subst (λ b. cond b (left_of us (ms ++ e ∷ [])) (suc (left_of us (ms ++ e ∷ []))) + 1 ≤ cond (is_among eq ms u) (left_of us ms)
            (suc (left_of us ms))) (sym comes)
            (subst (λ b. left_of us (ms ++ e ∷ []) + 1 ≤ cond b (left_of us ms) (suc (left_of us ms))) (sym isnt) (omega (arith, rest)))
        | inr k ↦
            let rest = one_less us ms e m k in
            elim (is_among eq ms u) as (λ b. is_among eq ms u ≡ b
            → cond (is_among eq (ms ++ e ∷ []) u) (left_of us (ms ++ e ∷ [])) (suc (left_of us (ms ++ e ∷ []))) + 1 ≤ cond b (left_of us ms)
            (suc (left_of us ms))) [
              | true ↦ λ t. subst (λ b. cond b (left_of us (ms ++ e ∷ [])) (suc (left_of us (ms ++ e ∷ []))) + 1 ≤ left_of us ms)
                  (sym (among_front eq ms (e ∷ []) u t)) rest
              | false ↦ λ t. elim (is_among eq (ms ++ e ∷ []) u) as (λ b. cond b (left_of us (ms ++ e ∷ [])) (suc (left_of us (ms ++ e ∷ []))) + 1 ≤ suc
                  (left_of us ms)) [
                    | true ↦ omega (arith, rest)
                    | false ↦ omega (arith, rest)
                  ]
            ] refl
      ]

  noted_pays : (us ms : List A) (e : A) → Has us e → left_of us (insert_key eq ms e) + length (insert_key eq ms e) ≤ left_of us ms + length ms
  noted_pays us ms e h =
      elim (is_among eq ms e) as (λ b. is_among eq ms e ≡ b
      → left_of us (cond b ms (ms ++ e ∷ [])) + length (cond b ms (ms ++ e ∷ [])) ≤ left_of us ms + length ms) [
        | true ↦ λ m. omega arith
        | false ↦ λ m. let less = one_less us ms e m h in let more = length-append ms (e ∷ []) in omega (arith, less, more)
      ] refl

  pub noted_all_pays : (us ms es : List A) → ((b : A) → Has es b → Has us b)
      → left_of us (insert_all eq ms es) + length (insert_all eq ms es) ≤ left_of us ms + length ms
  noted_all_pays us ms [] h = omega arith
  noted_all_pays us ms (e ∷ es) h =
      let one = noted_pays us ms e (h e (or_left _ _ (laws.refl e))) in
      let rest = noted_all_pays us (insert_key eq ms e) es (λ b k. h b (or_right _ _ k)) in
      omega (arith, one, rest)

  -- ---- where a search stands

  -- the members are reached; what those asked already lead to is noted
  pub record IsSearch (Leads : A → A → Type 0) (roots members : List A) (asked : ℕ) : Type 0 where
    pub sound : (a : A) → Has members a → Least (Has roots) Leads a
    pub rooted : (a : A) → Has roots a → Has members a
    pub closed : (a b : A) → Has (take asked members) a → Leads a b → Has members b
    pub within : asked ≤ length members

  module _ (Leads : A → A → Type 0) (roots : List A) where
    pub search_starts : (none members : List A) → none ≡ [] → members ≡ insert_all eq none roots → IsSearch Leads roots members 0
    search_starts none members empty noted = subst (λ xs. IsSearch Leads roots xs 0) (sym (noted ∙ ap (λ xs. insert_all eq xs roots) empty)) (record {
      sound = λ a h. root (sym (has_noted_all [] roots a) ∙ h);
      rooted = λ a h. has_noted_all [] roots a ∙ h;
      closed = λ a b h. absurd (true≢false (sym h));
      within = omega arith;
    })

    pub search_goes_on : (members found : List A) (asked : ℕ) (d : A) → IsSearch Leads roots members asked → asked < length members
        → ((b : A) → Has found b ↔ Leads (get_or members asked d) b) → IsSearch Leads roots (insert_all eq members found) (asked + 1)
    search_goes_on members found asked d s l exact =
        let m = get_or members asked d in
        let grown = noted_all_grows members found in
        let longer : length (insert_all eq members found) ≡ length members + length grown.0 = ap length grown.1 ∙ length-append members grown.0 in
        let asked_now : take (asked + 1) (insert_all eq members found) ≡ take asked members ++ m ∷ [] =
        ap (take (asked + 1)) grown.1 ∙ take-append-le (asked + 1) members grown.0 (omega (arith, l)) ∙ take_more members asked d l in
        record {
          sound = λ a h. elim (or_parts (is_among eq members a) (is_among eq found a) (sym (has_noted_all members found a) ∙ h)) as (λ _. Least
              (Has roots) Leads a) [
                | inl k ↦ s.sound a k
                | inr k ↦ next (s.sound m (among_get eq laws members asked d l)) ((exact a).0 k)
              ];
          rooted = λ a h. has_noted_all members found a ∙ or_left _ _ (s.rooted a h);
          closed = λ a b h edge. has_noted_all members found b
              ∙ elim (among_cases eq (take asked members) (m ∷ []) a (subst (λ xs. Has xs a) asked_now h)) as (λ _. IsTrue
              (is_among eq members b || is_among eq found b)) [
                | inl k ↦ or_left _ _ (s.closed a b k edge)
                | inr k ↦ or_right _ _ ((exact b).1 (subst (λ x. Leads x b) (only eq same m a k) edge))
              ];
          within = omega (arith, longer, l);
        }

    pub search_ends : (members : List A) (asked : ℕ) → IsSearch Leads roots members asked → length members ≤ asked → (a : A)
        → Has members a ↔ Least (Has roots) Leads a
    search_ends members asked s l a = (s.sound a, all)
      where
        asked_all : asked ≡ length members
        asked_all = omega (arith, l, s.within)

        whole : take asked members ≡ members
        whole = ap (λ n. take n members) asked_all ∙ take-length members

        all : {b : A} → Least (Has roots) Leads b → Has members b
        all (root r) = s.rooted _ r
        all (next {a = c} {b = b} member edge) = s.closed c b (subst (λ xs. Has xs c) (sym whole) (all member)) edge

  -- ---- one turn: a member is asked, and what it leads to is noted

  pub turn : (Leads : A → A → Type 0) (known members slice cleared found shown members' : List A) (asked : ℕ) (m : A) → slice ≡ members
      → m ≡ get_or slice asked m → cleared ≡ [] → shown ≡ found
      → ((b : A) → Has found b ↔ (Has cleared b ⊎ Leads m b)) → ((b : A) → Leads m b → Has known b)
      → members' ≡ insert_all eq members shown → IsTurn eq Leads known members asked members'
  turn Leads known members slice cleared found shown members' asked m is at none shows exact within noted = record {
    found = found;
    default = m;
    exact = λ b. (λ h. subst (λ x. Leads x b) here_is (leads b h), λ h. (exact b).1 (inr (subst (λ x. Leads x b) (sym here_is) h)));
    within = λ b h. within b (leads b h);
    noted = noted ∙ ap (insert_all eq members) shows;
  }
    where
      here_is : m ≡ get_or members asked m
      here_is = at ∙ ap (λ xs. get_or xs asked m) is

      leads : (b : A) → Has found b → Leads m b
      leads b h = elim ((exact b).0 h) as (λ _. Leads m b) [ inl k ↦ absurd (true≢false (sym (subst (λ xs. Has xs b) none k))) | inr k ↦ k ]

  pub turn_goes_on : (Leads : A → A → Type 0) (known roots members : List A) (asked : ℕ) (members' : List A)
      → IsTurn eq Leads known members asked members'
      → asked < length members → IsSearch Leads roots members asked → IsSearch Leads roots members' (asked + 1)
  turn_goes_on Leads known roots members asked members' t l s =
      subst (λ xs. IsSearch Leads roots xs (asked + 1)) (sym t.noted) (search_goes_on Leads roots members t.found asked t.default s l t.exact)

  pub turn_pays : (Leads : A → A → Type 0) (nodes members : List A) (asked : ℕ) (members' : List A)
      → IsTurn eq Leads nodes members asked members'
      → asked < length members
      → left_of nodes members' + (length members' - (asked + 1)) < left_of nodes members + (length members - asked)
  turn_pays Leads nodes members asked members' t l =
      let paid = noted_all_pays nodes members t.found t.within in
      let grown = noted_all_grows members t.found in
      let longer : length (insert_all eq members t.found) ≡ length members + length grown.0 = ap length grown.1 ∙ length-append members grown.0 in
      subst (λ xs. left_of nodes xs + (length xs - (asked + 1)) < left_of nodes members + (length members - asked)) (sym t.noted)
      (omega (arith, paid, longer, l))
