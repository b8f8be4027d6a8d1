-- Tables, their types and their room while all rows of some go to others.
use Rattle.eco_store.proofs.Common.{◌≡◌, ◌≢◌, ℕ, ◌+◌, ◌≤◌, ◌<◌, ◌==◌, Bool, true, false, if◌then◌else◌, List}
use Rattle.eco_store.proofs.Common.{[], AreNamed, AreTransfersReady, IsNamed, KeepsRoomIn, SameTypes, list_any, nat_eq, IsTrue, true≢false}
use Rattle.eco_store.proofs.Common.{◌∷◌, ◌++◌, map, length, get_or, Option, Some, None, option_map, unwrap_or, is_some, IsSome, refl, sym, ap}
use Rattle.eco_store.proofs.Common.{◌∙◌, arith, All, length-map, map-append, All-head, All-nil, All-tail, All-push, TableState, slot_of, table_in}
use Rattle.eco_store.proofs.Common.{no_table, SetsSlot, not_equal, type_there, there_by_type, there_as_typed, Transfer, TypeChange, type_at, KeepsTypes}
use Rattle.eco_store.proofs.Common.{SameRows, IsOneWay, change_of, IsPlan, due, HasRoom, Pours}
use Rattle.std.proofs.Math.ListN.{get_or-map}
use Rattle.eco_store.proofs.RowChanges.{is_equal}
use Rattle.eco_store.proofs.Views.{at_each, ext_slice_get}

-- ---- types

-- the ids of a table, by its type
ids_by_type : (s : List (Option TableState)) (n : ℕ) → (table_in s n).ids ≡ unwrap_or (type_at s n) []
ids_by_type s n = by (slot_of s n)
  where
    by : (o : Option TableState) → (unwrap_or o no_table).ids ≡ unwrap_or (option_map (λ (t : TableState). t.ids) o) []
    by None = refl
    by (Some t) = refl

pub same_ids_in : (s s' : List (Option TableState)) (n : ℕ) → type_at s' n ≡ type_at s n → (table_in s' n).ids ≡ (table_in s n).ids
same_ids_in s s' n same = ids_by_type s' n ∙ ap (λ o. unwrap_or o []) same ∙ sym (ids_by_type s n)

pub still_there : (s s' : List (Option TableState)) (n : ℕ) → type_at s' n ≡ type_at s n → IsSome (slot_of s n) → IsSome (slot_of s' n)
still_there s s' n same there = sym (there_by_type s' n) ∙ ap is_some same ∙ there_by_type s n ∙ there

pub kept_type : (s s' : List (Option TableState)) (n : ℕ) → KeepsTypes s s' → IsSome (slot_of s n) → type_at s' n ≡ type_at s n
kept_type s s' n keeps there = keeps n (table_in s n).ids (type_there s n there) ∙ sym (type_there s n there)

pub change_kept : (s s' : List (Option TableState)) (t : Transfer) → type_at s' t.from ≡ type_at s t.from → type_at s' t.to ≡ type_at s t.to →
    change_of s' t ≡ change_of s t
change_kept s s' t from to = λ i. record { from = same_ids_in s s' t.from from i; to = same_ids_in s s' t.to to i }

-- ---- plans

pub changes_alike : (s s' : List (Option TableState)) (ts : List Transfer) → All (λ t. type_at s' t.from ≡ type_at s t.from) ts →
    All (λ t. type_at s' t.to ≡ type_at s t.to) ts
    → map (change_of s') ts ≡ map (change_of s) ts
changes_alike s s' [] sources targets = refl
changes_alike s s' (t ∷ ts) sources targets =
    let here =
    change_kept s s' t (All-head (λ (x : Transfer). type_at s' x.from ≡ type_at s x.from) t ts sources)
    (All-head (λ (x : Transfer). type_at s' x.to ≡ type_at s x.to) t ts targets) in
    let rest =
    changes_alike s s' ts (All-tail (λ (x : Transfer). type_at s' x.from ≡ type_at s x.from) t ts sources)
    (All-tail (λ (x : Transfer). type_at s' x.to ≡ type_at s x.to) t ts targets) in
    λ i. here i ∷ rest i

-- a plan stays one while its tables keep their types
pub plan_alike : (s s' : List (Option TableState)) (ts : List Transfer) (cs : List TypeChange) → All (λ t. type_at s' t.from ≡ type_at s t.from) ts
    → All (λ t. type_at s' t.to ≡ type_at s t.to) ts → IsPlan s ts cs → IsPlan s' ts cs
plan_alike s s' ts cs sources targets plan = record {
  sources = λ k d within. still_there s s' (get_or ts k d).from (sources k d within) (plan.sources k d within);
  targets = λ k d within. still_there s s' (get_or ts k d).to (targets k d within) (plan.targets k d within);
  types = changes_alike s s' ts sources targets ∙ plan.types;
}

-- and so while no table goes
plan_kept : (s s' : List (Option TableState)) (ts : List Transfer) (cs : List TypeChange) → KeepsTypes s s' → IsPlan s ts cs → IsPlan s' ts cs
plan_kept s s' ts cs keeps plan =
    plan_alike s s' ts cs (λ k d within. kept_type s s' (get_or ts k d).from keeps (plan.sources k d within))
    (λ k d within. kept_type s s' (get_or ts k d).to keeps (plan.targets k d within)) plan

-- no transfer is a plan of no change
plan_none : (s : List (Option TableState)) → IsPlan s [] []
plan_none s = record {
  sources = All-nil (λ (t : Transfer). IsSome (slot_of s t.from));
  targets = All-nil (λ (t : Transfer). IsSome (slot_of s t.to));
  types = refl;
}

plan_more : (s : List (Option TableState)) (ts : List Transfer) (cs : List TypeChange) (t : Transfer) (c : TypeChange) → IsPlan s ts cs
    → type_at s t.from ≡ Some c.from → type_at s t.to ≡ Some c.to → IsPlan s (ts ++ t ∷ []) (cs ++ c ∷ [])
plan_more s ts cs t c plan from to =
    let is : change_of s t ≡ c = λ i. record {
      from = (ids_by_type s t.from ∙ ap (λ o. unwrap_or o []) from) i;
      to = (ids_by_type s t.to ∙ ap (λ o. unwrap_or o []) to) i;
    } in
    record {
      sources = All-push (λ (x : Transfer). IsSome (slot_of s x.from)) ts t plan.sources (there_as_typed s t.from c.from from);
      targets = All-push (λ (x : Transfer). IsSome (slot_of s x.to)) ts t plan.targets (there_as_typed s t.to c.to to);
      types = map-append (change_of s) ts (t ∷ []) ∙ (λ i. plan.types i ++ is i ∷ []);
    }

-- no slot that rows go to is one from which rows go
pub apart_slots : (s : List (Option TableState)) (ts : List Transfer) → IsOneWay (map (change_of s) ts)
    → (j k : ℕ) (d x : Transfer) → j < length ts → k < length ts → (get_or ts j d).to ≢ (get_or ts k x).from
apart_slots s ts one_way j k d x j_in k_in same =
    let in_j : j < length (map (change_of s) ts) = rw (length-map ts (change_of s)) j_in in
    let in_k : k < length (map (change_of s) ts) = rw (length-map ts (change_of s)) k_in in
    one_way j (change_of s d) in_j k (change_of s x) in_k
    (ap (λ (c : TypeChange). c.to) (get_or-map (change_of s) ts j d) ∙ ap (λ n. (table_in s n).ids) same
    ∙ sym (ap (λ (c : TypeChange). c.from) (get_or-map (change_of s) ts k x)))

-- ---- room

-- how many rows a transfer brings to a slot
abbrev brought : List (Option TableState) → Transfer → ℕ → ℕ
brought s t n = if t.to == n then length (table_in s t.from).rows else 0

brought_here : (s : List (Option TableState)) (t : Transfer) (n : ℕ) → n ≡ t.to → brought s t n ≡ length (table_in s t.from).rows
brought_here s t n here = ap (λ b. if b then length (table_in s t.from).rows else 0) (is_equal t.to n (sym here))

brought_elsewhere : (s : List (Option TableState)) (t : Transfer) (n : ℕ) → n ≢ t.to → brought s t n ≡ 0
brought_elsewhere s t n other = ap (λ b. if b then length (table_in s t.from).rows else 0) (not_equal t.to n (λ e. other (sym e)))

pub due_fewer : (s s' : List (Option TableState)) (ts : List Transfer) (n : ℕ)
    → All (λ t. length (table_in s' t.from).rows ≤ length (table_in s t.from).rows) ts → due s' ts n ≤ due s ts n
due_fewer s s' [] n fewer = omega arith
due_fewer s s' (t ∷ ts) n fewer =
    let here = All-head (λ (x : Transfer). length (table_in s' x.from).rows ≤ length (table_in s x.from).rows) t ts fewer in
    let rest = due_fewer s s' ts n (All-tail (λ (x : Transfer). length (table_in s' x.from).rows ≤ length (table_in s x.from).rows) t ts fewer) in
    by (t.to == n) here rest
  where
    by : (b : Bool) → length (table_in s' t.from).rows ≤ length (table_in s t.from).rows → due s' ts n ≤ due s ts n
        → (if b then length (table_in s' t.from).rows else 0) + due s' ts n ≤ (if b then length (table_in s t.from).rows else 0) + due s ts n
    by true here rest = omega arith
    by false here rest = omega arith

pub due_none : (s : List (Option TableState)) (ts : List Transfer) (n : ℕ) → All (λ t. t.to ≢ n) ts → due s ts n ≡ 0
due_none s [] n none = refl
due_none s (t ∷ ts) n none =
    let rest = due_none s ts n (All-tail (λ (x : Transfer). x.to ≢ n) t ts none) in
    let here = brought_elsewhere s t n (λ e. All-head (λ (x : Transfer). x.to ≢ n) t ts none (sym e)) in
    omega (arith, here, rest)

-- there is room for what the first transfer brings
pub room_first : (s : List (Option TableState)) (t : Transfer) (ts : List Transfer) → HasRoom s (t ∷ ts) →
    length (table_in s t.from).rows ≤ (table_in s t.to).room
room_first s t ts room = let here = brought_here s t t.to refl in omega (arith, room t.to, here)

-- when the first is carried out, there is still room for the others
pub room_rest : (s s' : List (Option TableState)) (t : Transfer) (ts : List Transfer) → HasRoom s (t ∷ ts) → Pours s s' t.from t.to
    → All (λ u. t.to ≢ u.from) ts → All (λ u. u.to ≢ t.from) ts → HasRoom s' ts
room_rest s s' t ts room pours apart none n =
    let fewer : due s' ts n ≤ due s ts n = due_fewer s s' ts n (λ k d within. shrinks (get_or ts k d).from (apart k d within)) in
    at_each t.to (λ n. due s' ts n ≤ due s ts n → due s' ts n ≤ (table_in s' n).room)
    (λ fewer. omega (arith, brought_here s t t.to refl, room t.to, pours.room))
    (at_each t.from (λ n. n ≢ t.to → due s' ts n ≤ due s ts n → due s' ts n ≤ (table_in s' n).room)
    (λ not_to fewer. omega (arith, due_none s' ts t.from none))
    (λ n not_from not_to fewer.
    let same = ap (λ o. (unwrap_or o no_table).room) (pours.others n not_from not_to) in omega (arith, room n, same))) n fewer
  where
    shrinks : (m : ℕ) → t.to ≢ m → length (table_in s' m).rows ≤ length (table_in s m).rows
    shrinks =
        at_each t.from (λ m. t.to ≢ m → length (table_in s' m).rows ≤ length (table_in s m).rows) (λ not_to. omega (arith, pours.emptied))
        (λ m other not_to.
        let same = ap (λ o. length (unwrap_or o no_table).rows) (pours.others m other (λ e. not_to (sym e))) in omega (arith, same))

-- targets keep their room, and no more rows come
pub room_stays : (s s' : List (Option TableState)) (slots : List ℕ) (ts : List Transfer) → AreNamed slots ts
    → All (λ t. length (table_in s' t.from).rows ≤ length (table_in s t.from).rows) ts → KeepsRoomIn s s' slots → HasRoom s ts → HasRoom s' ts
room_stays s s' slots ts named fewer kept room n = by (list_any (nat_eq n) slots) refl
  where
    by : (b : Bool) → list_any (nat_eq n) slots ≡ b → due s' ts n ≤ (table_in s' n).room
    by true among = omega (arith, due_fewer s s' ts n fewer, room n, kept n among)
    by false among =
        let nothing : due s' ts n ≡ 0 = due_none s' ts n (λ k d within here.
        true≢false (sym (named k d within).1 ∙ ap (λ m. list_any (nat_eq m) slots) here ∙ among)) in
        omega (arith, nothing)

-- ---- taking room

-- tables with the same rows have the same list of them
pub rows_same : (s s' : List (Option TableState)) → SameRows s s' → (n : ℕ) → (table_in s' n).rows ≡ (table_in s n).rows
rows_same s s' same n = ext_slice_get (table_in s' n).rows (table_in s n).rows (same n)

as_few : (s s' : List (Option TableState)) (ts : List Transfer) → SameRows s s'
    → All (λ t. length (table_in s' t.from).rows ≤ length (table_in s t.from).rows) ts
as_few s s' ts same k d within = let rows = ap length (rows_same s s' same (get_or ts k d).from) in omega (arith, rows)

due_more : (s : List (Option TableState)) (ts : List Transfer) (t : Transfer) (n : ℕ) → due s (ts ++ t ∷ []) n ≡ due s ts n + brought s t n
due_more s [] t n = omega arith
due_more s (u ∷ ts) t n = let rest = due_more s ts t n in omega (arith, rest)

-- room for one transfer more
room_more : (s s' : List (Option TableState)) (ts : List Transfer) (t : Transfer) (slot : Option TableState) → HasRoom s ts → SameRows s s' →
    SetsSlot s s' t.to slot
    → (table_in s t.to).room + length (table_in s t.from).rows ≤ (table_in s' t.to).room → HasRoom s' (ts ++ t ∷ [])
room_more s s' ts t slot room same sets more n =
    let fewer : due s' (ts ++ t ∷ []) n ≤ due s (ts ++ t ∷ []) n = due_fewer s s' (ts ++ t ∷ []) n (as_few s s' (ts ++ t ∷ []) same) in
    at_each t.to (λ n. due s' (ts ++ t ∷ []) n ≤ due s (ts ++ t ∷ []) n → due s' (ts ++ t ∷ []) n ≤ (table_in s' n).room)
    (λ fewer. omega (arith, due_more s ts t t.to, brought_here s t t.to refl, room t.to, more))
    (λ n other fewer.
    let stays = ap (λ o. (unwrap_or o no_table).room) (sets.others n other) in
    omega (arith, due_more s ts t n, brought_elsewhere s t n other, room n, stays)) n fewer

-- ---- transfers that are ready

pub ready_none : (s : List (Option TableState)) (targets : List ℕ) → AreTransfersReady s targets [] []
ready_none s targets = record { plan = plan_none s; named = All-nil (IsNamed targets); room = λ n. omega arith }

-- tables came, and targets
pub ready_kept : (s s' : List (Option TableState)) (targets all : List ℕ) (ts : List Transfer) (cs : List TypeChange)
    → AreTransfersReady s targets ts cs → ((n : ℕ) → IsTrue (list_any (nat_eq n) targets) → IsTrue (list_any (nat_eq n) all)) → KeepsTypes s s'
    → KeepsRoomIn s s' targets → SameRows s s' → AreTransfersReady s' all ts cs
ready_kept s s' targets all ts cs ready grown types room rows = record {
  plan = plan_kept s s' ts cs types ready.plan;
  named = λ k d within. (grown _ (ready.named k d within).0, grown _ (ready.named k d within).1);
  room = room_stays s s' targets ts ready.named (as_few s s' ts rows) room ready.room;
}

-- room was taken for one more
pub ready_more : (s s' : List (Option TableState)) (targets : List ℕ) (ts : List Transfer) (cs : List TypeChange) (t : Transfer) (c : TypeChange)
    (slot : Option TableState)
    → AreTransfersReady s targets ts cs → type_at s t.from ≡ Some c.from → type_at s t.to ≡ Some c.to → IsNamed targets t
    → SameTypes s s' → SameRows s s'
    → SetsSlot s s' t.to slot → (table_in s t.to).room + length (table_in s t.from).rows ≤ (table_in s' t.to).room
    → AreTransfersReady s' targets (ts ++ t ∷ []) (cs ++ c ∷ [])
ready_more s s' targets ts cs t c slot ready from to named types rows sets more = record {
  plan = plan_kept s s' _ _ (λ n ids was. types n ∙ was) (plan_more s ts cs t c ready.plan from to);
  named = All-push (IsNamed targets) ts t ready.named named;
  room = room_more s s' ts t slot ready.room rows sets more;
}
