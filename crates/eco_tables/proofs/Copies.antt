-- All tables once more, without room.
use Rattle.eco_tables.proofs.Common.{◌≡◌, ℕ, zero, suc, ◌+◌, ◌≤◌, ◌<◌, ◌++◌, take, get_or, cond, List, [], ◌∷◌, length, Option}
use Rattle.eco_tables.proofs.Common.{Some, None, unwrap_or, is_some, map, refl, sym, ap, ◌∙◌, arith, subst, count_by, length-map, map-append, take_more}
use Rattle.eco_tables.proofs.Common.{TableState, RowsHaveIds, TypeAscends, slot_of, no_table, without_room, AreSlots}
use Rattle.std.proofs.lemmas.List.Recursion.{is_count_by}

pub slot_copied : (slots : List (Option TableState)) (n : ℕ) → slot_of (map without_room slots) n ≡ without_room (slot_of slots n)
slot_copied [] n = refl
slot_copied (s ∷ slots) zero = refl
slot_copied (s ∷ slots) (suc n) = slot_copied slots n

-- how many slots have a table
abbrev many : List (Option TableState) → ℕ
many [] = 0
many (s ∷ slots) = cond (is_some s) (1 + many slots) (many slots)

many_copied : (slots : List (Option TableState)) → many (map without_room slots) ≡ many slots
many_copied [] = refl
many_copied (None ∷ slots) = many_copied slots
many_copied (Some t ∷ slots) = ap (λ n. 1 + n) (many_copied slots)

count_copied : (slots : List (Option TableState)) → count_by is_some (map without_room slots) ≡ count_by is_some slots
count_copied slots =
    sym (is_count_by many is_some refl (λ s rest. refl) (map without_room slots)) ∙ many_copied slots
    ∙ is_count_by many is_some refl (λ s rest. refl) slots

pub slots_copied : (slots : List (Option TableState)) (vacant : List ℕ) (capacity room : ℕ) → AreSlots slots vacant capacity → length slots ≤ room
    → AreSlots (map without_room slots) vacant room
slots_copied slots vacant capacity room are ready =
    let len : length (map without_room slots) ≡ length slots = length-map slots without_room in
    let count = count_copied slots in
    record {
      empty = λ k d there.
          let own = are.empty k d there in
          (omega (arith, own.0, len), slot_copied slots _ ∙ ap without_room own.1);
      once = are.once;
      counted = omega (arith, are.counted, len, count);
      ready = omega (arith, ready, len);
      have_ids = λ n.
          subst (λ o. RowsHaveIds (unwrap_or o no_table)) (sym (slot_copied slots n)) (still (slot_of slots n) (are.have_ids n));
      ascend = λ n.
          subst (λ o. TypeAscends (unwrap_or o no_table)) (sym (slot_copied slots n)) (rises (slot_of slots n) (are.ascend n));
    }
  where
    still : (o : Option TableState) → RowsHaveIds (unwrap_or o no_table) → RowsHaveIds (unwrap_or (without_room o) no_table)
    still None has = has
    still (Some t) has = has

    rises : (o : Option TableState) → TypeAscends (unwrap_or o no_table) → TypeAscends (unwrap_or (without_room o) no_table)
    rises None up = up
    rises (Some t) up = up

-- one more turn of a loop that copies what it is shown
pub pushed_more : {X Y : Type 0} (f : X → Y) (xs : List X) (i : ℕ) (d : X) (ys : List Y) (y : Y) → i < length xs → ys ≡ map f (take i xs)
    → y ≡ f (get_or xs i d) → ys ++ y ∷ [] ≡ map f (take (i + 1) xs)
pushed_more f xs i d ys y within done is =
    ap (λ zs. zs ++ y ∷ []) done ∙ ap (λ z. map f (take i xs) ++ z ∷ []) is ∙ sym (map-append f (take i xs) (get_or xs i d ∷ []))
    ∙ sym (ap (map f) (take_more xs i d within))
