-- What the laws of listings, added queries and merges say.
use Rattle.eco_world.proofs.Common.{◌≡◌, ◌≤◌, ◌+◌, ◌↔◌, ℕ, zero, suc, Bool, true, false, cond, ◌&&◌, List, [], ◌∷◌, ◌++◌}
use Rattle.eco_world.proofs.Common.{filter, length, slice_get, IsTrue, IsFalse, Contains, Option, Some, None, option_map, Result, Ok, Err, MatchBool}
use Rattle.eco_world.proofs.Common.{MatchOption, refl, sym, ap, ◌∙◌, subst, arith, true≢false, inl, inr, ◌⊎◌, ◌||◌, is_some, unwrap_or}
use Rattle.eco_world.proofs.Common.{nat_lt, le-leb, length-append, append-nil, All-contains, All-contains_itself, All-filter, filter_passes, none-some}
use Rattle.eco_world.proofs.Common.{slice_get-map, slice_get_past, Id, Refusal, NoMoreIds, NoSuchQuery, OutOfMemory, Admits, may_admit, Indexed, admitted}
use Rattle.eco_world.proofs.Common.{ListedTable, IsLawful, Answers, Refuses, is_out_of_memory, Command, Runs, QueryTerm, Value, arity, OnEntities, Record}
use Rattle.eco_world.proofs.Common.{WorldState, entities, held_by, with_entities, zeros, value_in, not_ok, Outcomes, OfQuery, RefusesQuery, ListsBy}
use Rattle.eco_world.proofs.Common.{has_commands, Merges, RunsAdmitted, may_merge}
use Rattle.eco_world.specs.declared.query_id.QueryId.{QueryId}
use Rattle.eco_world.specs.Laws.{AddedQueriesAreFound, EmptyMergesWantNone, RefusedMergesChangeNothing, StandWhere, ValuesAreLent}
use Rattle.eco_world.proofs.Common.{Contains-permutation, Entity, IsPermutation, IsPermutation-sym, has_item, id_cmp, map}
use Rattle.eco_ids.specs.Layout.{IsLayout}
use Rattle.eco_ids.specs.World.{is_alive}
use Rattle.eco_world.proofs.Layouts.{element_cases, here, mapped_from, mapped_there, no_element, there}
use Rattle.eco_world.specs.Columns.{HasValues, ListedColumn, ListsColumns, has_entities}

-- ---- listings

kept : {A : Type 0} (q : A → Bool) (xs : List A) (x : A) → Contains (filter q xs) x → Contains xs x × IsTrue (q x)
kept q xs x h = (
  All-contains (Contains xs) (filter q xs) x (All-filter q (Contains xs) xs (All-contains_itself xs)) h,
  All-contains (λ y. q y ≡ true) (filter q xs) x (filter_passes q xs) h,
)

keeps : {A : Type 0} (q : A → Bool) (xs : List A) (x : A) → Contains xs x → IsTrue (q x) → Contains (filter q xs) x
keeps q [] x h p = absurd (no_element x h)
keeps q (y ∷ ys) x h p = by (q y) refl (element_cases y x ys h) (λ c. keeps q ys x c p)
  where
    by : (b : Bool) → q y ≡ b → (y ≡ x) ⊎ Contains ys x → (Contains ys x → Contains (filter q ys) x)
        → Contains (cond b (y ∷ filter q ys) (filter q ys)) x
    by true is (inl same) go = subst (λ z. Contains (y ∷ filter q ys) z) same (here y (filter q ys))
    by true is (inr c) go = there y x (filter q ys) (go c)
    by false is (inl same) go = absurd (true≢false (sym p ∙ ap q (sym same) ∙ is))
    by false is (inr c) go = go c

pub exact : (w : WorldState) (passes : List Id → Bool) (tables : List ListedTable) → ListsBy w passes tables → StandWhere w passes tables
exact w passes tables h e = (
  λ stands.
      let at = kept (λ (t : ListedTable). passes t.ids) h.0 stands.0 (subst (λ ts. Contains ts stands.0) h.2 stands.1) in
      let lives = (h.1.exact e stands.0 at.0).0 stands.2 in
      (lives.0, ap passes (sym lives.1) ∙ at.1),
  λ lives.
      let found = h.1.all e lives.0 in
      let ids = ((h.1.exact e found.0 found.1).0 found.2).1 in (
        found.0,
        subst (λ ts. Contains ts found.0) (sym h.2) (keeps (λ (t : ListedTable). passes t.ids) h.0 found.0 found.1 (ap passes ids ∙ lives.1)),
        found.2,
      ),
)

pub lent_values : ValuesAreLent
lent_values w t i row e lends at v has =
    ap (λ vs. slice_get vs row) (lends.values i) ∙ slice_get-map (λ x. value_in (held_by w x) i) t.entities.now row
    ∙ ap (option_map (λ x. value_in (held_by w x) i)) at ∙ ap (λ o. Some (unwrap_or o zeros)) (of_data (is_some (arity w i)) has)
  where
    of_data : {o : Option Value} (b : Bool) → cond b o None ≡ Some v → o ≡ Some v
    of_data true h = h
    of_data false h = absurd (none-some v h)

-- ---- columns

somebody : (xs : List Entity) (e : Entity) → Contains xs e → IsTrue (nat_lt 0 (length xs))
somebody xs e h = let within = h.1 in le-leb 1 (length xs) (omega (arith, within))

pub columns_stand : (w : WorldState) (i : Id) (columns : List ListedColumn) → ListsColumns w i columns → (e : Entity)
    → ((c : ListedColumn) × Contains columns c × Contains c.entities e)
    ↔ (IsTrue (is_alive w e) × IsTrue (has_item id_cmp (map (λ p. p.0) (held_by w e)) i))
columns_stand w i columns h e = (
  λ stands.
      let c = stands.0 in
      let listed = mapped_there of_column used c (keeps has_entities columns c stands.1 (somebody c.entities e stands.2)) in
      let t = mapped_from of_table having c.entities (Contains-permutation (map of_column used) (map of_table having) c.entities
      (IsPermutation-sym (map of_table having) (map of_column used) same) listed) in
      let at = kept has_it layout t.0 t.1 in
      let lives = (is.exact e t.0 at.0).0 (subst (λ xs. Contains xs e) (sym t.2) stands.2) in
      (lives.0, subst (λ ids. IsTrue (has_item id_cmp ids i)) lives.1 at.1),
  λ lives.
      let t = is.all e lives.0 in
      let ids = ((is.exact e t.0 t.1).0 t.2).1 in
      let listed = mapped_there of_table having t.0 (keeps has_it layout t.0 t.1 (subst (λ own. IsTrue (has_item id_cmp own i)) (sym ids) lives.1)) in
      let c = mapped_from of_column used t.0.entities (Contains-permutation (map of_table having) (map of_column used) t.0.entities same listed) in
      (c.0, (kept has_entities columns c.0 c.1).0, subst (λ xs. Contains xs e) (sym c.2) t.2),
)
  where
    of_table : ListedTable → List Entity
    of_table t = t.entities

    of_column : ListedColumn → List Entity
    of_column c = c.entities

    layout : List ListedTable
    layout = h.tables.0

    is : IsLayout w layout
    is = h.tables.1

    has_it : ListedTable → Bool
    has_it t = has_item id_cmp t.ids i

    having : List ListedTable
    having = filter has_it layout

    used : List ListedColumn
    used = filter has_entities columns

    same : IsPermutation (map of_table having) (map of_column used)
    same = h.tables.2

pub columns_hold : (w : WorldState) (i : Id) (columns : List ListedColumn) → ListsColumns w i columns → (c : ListedColumn) → Contains columns c
    → (row : ℕ) (e : Entity) → slice_get c.entities row ≡ Some e → slice_get c.values row ≡ Some (value_in (held_by w e) i)
columns_hold w i columns h c there row e at =
    ap (λ vs. slice_get vs row) (All-contains (HasValues w i) columns c h.values there)
    ∙ slice_get-map (λ x. value_in (held_by w x) i) c.entities row ∙ ap (option_map (λ x. value_in (held_by w x) i)) at

-- ---- queries that were added

at_end : {A : Type 0} (xs : List A) (x : A) → slice_get (xs ++ x ∷ []) (length xs) ≡ Some x
at_end [] x = refl
at_end (y ∷ ys) x = at_end ys x

before_end : {A : Type 0} (P : A → Type 0) (xs : List A) (x : A) (n : ℕ) → MatchOption (slice_get xs n) ⊥ P
    → MatchOption (slice_get (xs ++ x ∷ []) n) ⊥ P
before_end P [] x n h = absurd h
before_end P (y ∷ ys) x zero h = h
before_end P (y ∷ ys) x (suc n) h = before_end P ys x n h

abbrev number_of : Result QueryId Refusal → ℕ
number_of (Ok id) = id.0
number_of (Err why) = 0

pub added : AddedQueriesAreFound
added w slots id new h =
    let number : id.0 ≡ length w.queries = ap number_of h.0 in
    let at : slice_get new.queries id.0 ≡ Some slots = ap (λ (v : WorldState). slice_get v.queries id.0) h.1
    ∙ ap (slice_get (w.queries ++ slots ∷ [])) number
    ∙ at_end w.queries slots in
    record {
      here = subst (λ o. MatchOption o ⊥ (λ own. own ≡ slots)) (sym at) refl;
      others = λ n own so. subst (λ (v : WorldState). OfQuery v n (λ q. q ≡ own)) (sym h.1) (before_end (λ q. q ≡ own) w.queries slots n so);
      last = ap (λ (v : WorldState). length v.queries) h.1 ∙ length-append w.queries (slots ∷ []) ∙ ap (λ n. n + 1) (sym number);
      rest = ap (λ (v : WorldState). record v { queries = w.queries }) h.1;
    }

past : {A : Type 0} (xs : List A) (n : ℕ) → MatchOption (slice_get xs n) (Unit {0}) (λ x. ⊥) → length xs ≤ n
past [] n h = omega arith
past (x ∷ xs) zero h = absurd h
past (x ∷ xs) (suc n) h = let rest = past xs n h in omega (arith, rest)

not_wanting : NoSuchQuery ≡ OutOfMemory → ⊥
not_wanting e = true≢false (sym (ap (λ why. is_out_of_memory {A = Unit {0}} (Err why)) e))

pub absent : (w : WorldState) (n : ℕ) (may_want : List QueryTerm → Bool) → RefusesQuery w n may_want NoSuchQuery ↔ (length w.queries ≤ n)
absent w n may_want = (
  λ h. past w.queries n (none (slice_get w.queries n) h),
  λ far. subst (λ o. MatchOption o (NoSuchQuery ≡ NoSuchQuery) (λ slots. (NoSuchQuery ≡ OutOfMemory) × IsTrue (may_want slots)))
      (sym (slice_get_past w.queries n far)) refl,
)
  where
    none : (o : Option (List QueryTerm)) → MatchOption o (NoSuchQuery ≡ NoSuchQuery) (λ slots. (NoSuchQuery ≡ OutOfMemory) × IsTrue (may_want slots))
        → MatchOption o (Unit {0}) (λ slots. ⊥)
    none None h = tt
    none (Some slots) h = not_wanting h.0

pub wanting : (w : WorldState) (n : ℕ) (may_want : List QueryTerm → Bool) (why : Refusal) → (why ≡ NoSuchQuery → ⊥)
    → RefusesQuery w n may_want why
    → (why ≡ OutOfMemory) × OfQuery w n (λ slots. IsTrue (may_want slots))
wanting w n may_want why other = by (slice_get w.queries n)
  where
    by : (o : Option (List QueryTerm)) → MatchOption o (why ≡ NoSuchQuery) (λ slots. (why ≡ OutOfMemory) × IsTrue (may_want slots))
        → (why ≡ OutOfMemory) × MatchOption o ⊥ (λ slots. IsTrue (may_want slots))
    by None h = absurd (other h)
    by (Some slots) h = h

-- ---- merges

abbrev why_of : {A : Type 0} → Refusal → Result A Refusal → Refusal
why_of d (Ok x) = d
why_of d (Err why) = why

abbrev items_of : Result Outcomes Refusal → Outcomes
items_of (Ok outcomes) = outcomes
items_of (Err why) = []

pub merge_refused : RefusedMergesChangeNothing
merge_refused w n commands why new = by (may_admit (entities w) n) refl
  where
    by : (b : Bool) → may_admit (entities w) n ≡ b
        → MatchBool b (RunsAdmitted w n commands (Err why) new) (Refuses {A = Outcomes} NoMoreIds w (Err why) new)
        → (why ≡ NoMoreIds) × (new ≡ w) × IsFalse (may_merge w n commands)
    by true is h = absurd (not_ok (sym h.1))
    by false is h = (ap (why_of why) h.0, h.1, ap (λ b. b && (nat_lt 0 n || has_commands commands)) is)

pub nothing_wanted : EmptyMergesWantNone
nothing_wanted w = by (may_admit (entities w) 0)
  where
    by : (b : Bool) → IsFalse (b && false)
    by true = refl
    by false = refl

pub merge_runs : (w : WorldState) (commands : List Command) (outcomes : Outcomes) (new : WorldState) → IsLawful w
    → Merges w 0 commands (Ok outcomes) new ↔ Runs w commands outcomes new
merge_runs w commands outcomes new l =
    let Way : Bool → Type 0 = λ b. MatchBool b (RunsAdmitted w 0 commands (Ok outcomes) new) (Refuses NoMoreIds w (Ok outcomes) new) in
    let known = l.orderly.known in
    let room : may_admit (entities w) 0 ≡ true = le-leb (length w.indices + 0) w.limit (omega (arith, known)) in
    let same : with_entities w (admitted 0 (entities w)) ≡ w = ap (λ xs. record w { indices = xs }) (append-nil w.indices) in (
      λ h.
          let ran = subst Way room h in
          subst (λ os. Runs w commands os new) (sym (ap items_of ran.1)) (subst (λ v. Runs v commands ran.0 new) same ran.2),
      λ h. subst Way (sym room) (outcomes, refl, subst (λ v. Runs v commands outcomes new) (sym same) h),
    )

pub merge_admits : (w : WorldState) (n : ℕ) (new : WorldState) → Merges w n [] (Ok []) new ↔ OnEntities (λ v. Admits v n) w (Ok tt) new
merge_admits w n new = (there_and (may_admit (entities w) n), back (may_admit (entities w) n))
  where
    there_and : (b : Bool) → MatchBool b (RunsAdmitted w n [] (Ok []) new) (Refuses {A = Outcomes} NoMoreIds w (Ok []) new)
        → (after : Indexed Record) × MatchBool b (Answers {A = Unit {0}} tt (admitted n (entities w)) (Ok tt) after)
        (Refuses {A = Unit {0}} NoMoreIds (entities w) (Ok tt) after) × (new ≡ with_entities w after)
    there_and true h =
        (admitted n (entities w), (refl, refl), subst (λ os. Runs (with_entities w (admitted n (entities w))) [] os new) (sym (ap items_of h.1)) h.2)
    there_and false h = absurd (not_ok h.0)

    back : (b : Bool) → (after : Indexed Record) × MatchBool b (Answers {A = Unit {0}} tt (admitted n (entities w)) (Ok tt) after)
        (Refuses {A = Unit {0}} NoMoreIds (entities w) (Ok tt) after) × (new ≡ with_entities w after)
        → MatchBool b (RunsAdmitted w n [] (Ok []) new) (Refuses {A = Outcomes} NoMoreIds w (Ok []) new)
    back true h = ([], refl, h.2 ∙ ap (with_entities w) h.1.1)
    back false h = absurd (not_ok h.1.0)
