-- Tables that lose rows, and what that leaves of the plans over them.
use Rattle.eco_store.proofs.Common.{◌<◌, map, ◌≡◌, ℕ, ◌≤◌, List, length, get_or, Option, Some, option_map, AreTransfersReady}
use Rattle.eco_store.proofs.Common.{unwrap_or, IsSome, refl, ap, ◌∙◌, arith, TableState, slot_of, table_in, no_table, SetsSlot}
use Rattle.eco_store.proofs.Common.{type_at, sets_types, Transfer, TypeChange, SameIn, change_of, AreNamed, Thins}
use Rattle.eco_store.proofs.Pouring.{changes_alike, plan_alike, room_stays}
use Rattle.eco_store.proofs.Targets.{room_won}
use Rattle.eco_store.proofs.Views.{at_each}

pub thins_same : (s : List (Option TableState)) (slots : List ℕ) → Thins s s slots
thins_same s slots = record { types = λ n among. refl; rows = λ n among. omega arith; room = λ n among. omega arith }

pub thins_both : (s s1 s2 : List (Option TableState)) (slots : List ℕ) → Thins s s1 slots → Thins s1 s2 slots → Thins s s2 slots
thins_both s s1 s2 slots a b = record {
  types = λ n among. b.types n among ∙ a.types n among;
  rows = λ n among. omega (arith, a.rows n among, b.rows n among);
  room = λ n among. omega (arith, a.room n among, b.room n among);
}

-- rows of a table went, and then tables outside of these slots may have gone
pub thins_without : (s s1 s2 : List (Option TableState)) (n : ℕ) (t : TableState) (slots : List ℕ) → IsSome (slot_of s n) → SetsSlot s s1 n (Some t)
    → t.ids ≡ (table_in s n).ids → length t.rows ≤ length (table_in s n).rows → (table_in s n).room ≤ t.room → SameIn s1 s2 slots
    → Thins s s2 slots
thins_without s s1 s2 n t slots there sets typed less more same = record {
  types = λ m among. ap (option_map (λ (u : TableState). u.ids)) (same m among) ∙ sets_types s s1 n t sets there typed m;
  rows = λ m among.
      let now = ap (λ o. length (unwrap_or o no_table).rows) (same m among) in
      omega (arith, now, fewer m);
  room = λ m among.
      let now = ap (λ o. (unwrap_or o no_table).room) (same m among) in
      omega (arith, now, room_won s s1 n t sets more m);
}
  where
    fewer : (m : ℕ) → length (table_in s1 m).rows ≤ length (table_in s m).rows
    fewer =
        at_each n (λ m. length (table_in s1 m).rows ≤ length (table_in s m).rows)
        (let now : length (table_in s1 n).rows ≡ length t.rows = ap (λ o. length (unwrap_or o no_table).rows) sets.changed in omega (arith, now, less))
        (λ m other. let stays = ap (λ o. length (unwrap_or o no_table).rows) (sets.others m other) in omega (arith, stays))

module _ (s s' : List (Option TableState)) (slots : List ℕ) (ts : List Transfer) (thins : Thins s s' slots) (named : AreNamed slots ts) where
  from : (k : ℕ) (d : Transfer) → k < length ts → type_at s' (get_or ts k d).from ≡ type_at s (get_or ts k d).from
  from k d within = thins.types (get_or ts k d).from (named k d within).0

  to : (k : ℕ) (d : Transfer) → k < length ts → type_at s' (get_or ts k d).to ≡ type_at s (get_or ts k d).to
  to k d within = thins.types (get_or ts k d).to (named k d within).1

  pub same_changes : map (change_of s') ts ≡ map (change_of s) ts
  same_changes = changes_alike s s' ts from to

  pub ready_thinned : (cs : List TypeChange) → AreTransfersReady s slots ts cs → AreTransfersReady s' slots ts (map (change_of s') ts)
  ready_thinned cs ready =
      let still = plan_alike s s' ts cs from to ready.plan in
      record {
        plan = record { sources = still.sources; targets = still.targets; types = refl };
        named = ready.named;
        room = room_stays s s' slots ts ready.named (λ k d within. thins.rows (get_or ts k d).from (named k d within).0) thins.room ready.room;
      }
