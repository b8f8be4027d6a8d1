-- Numbers, texts, names and values of steps: what is found in one is exactly what it is written as.
use Rattle.eco_steps.proofs.Common.{◌≡◌, ◌+◌, ◌≤◌, ◌^◌, ◌<◌, ◌-◌, ℕ, ℤ, pos, negsuc, Bool, true, false, List, [], ◌∷◌}
use Rattle.eco_steps.proofs.Common.{◌++◌, length, take, drop, replicate, map, nat_lt, nat_le, ◌&&◌, Option, Some, None, option_map, if◌then◌else◌}
use Rattle.eco_steps.proofs.Common.{refl, ap, sym, ◌∙◌, arith, get_or, to_z, of_z, bytes_eq, append-nil, drop_all, drop-drop, drop-replicate, drop-set-lt}
use Rattle.eco_steps.proofs.Common.{length-drop, length-map, length-replicate, take-append-drop, take_more_set, AllZip-long, option_and_then_some, as_str}
use Rattle.eco_steps.proofs.Common.{Edition, First, Second, FIELD_COUNT, largest_arity, padded, items_list, list_in, each_in, name_in, number_in, integer_in}
use Rattle.eco_steps.proofs.Common.{value_of_items, value_of_data, Words, at_word, words_of, words_in}
use Rattle.std.proofs.Common.{set as set_at}
use Rattle.std.specs.Int.{w64}
use Rattle.std.proofs.lemmas.Int.{to_z-of_z}
use Rattle.std.proofs.lemmas.Slice.Eq.{bytes_eq-Decides}
use Rattle.serde_json.specs.Data.{Data, null, number, string, array, unsigned, negative}
use Rattle.eco_ids.specs.declared.value.Value.{Value}
use Rattle.eco_steps.specs.Steps.{IsIntegerData, IsValueData, written_list, list_data, name_data}
use Rattle.eco_steps.proofs.Values.{mapped, items_list-items_of, items_of-items_list, each_found, each_is, one_more}

-- ---- what is written is found

pub number_in_range : (low high n : ℕ) → low ≤ n → n ≤ high → number_in low high (number (unsigned n)) ≡ Some n
number_in_range low high n l h = grind arith

integer_found : (d : Data) (z : ℤ) → IsIntegerData d z → integer_in d ≡ Some z
integer_found d (pos n) (is, fits) = let small : n < 2 ^ 63 = fits.sfits in rw is (grind arith)
integer_found d (negsuc n) (is, fits) = let small : n < 2 ^ 63 = fits.sfits in rw is (grind arith)

module _ (edition : Edition) where
  -- as many items as there may be fields are read
  pub items_read : (ds : List Data) → 1 ≤ length ds → length ds ≤ largest_arity edition
      → value_of_items edition ds ≡ option_map padded (each_in integer_in ds)
  items_read ds l h = grind arith

  pub value_found : (d : Data) (v : Value) → IsValueData edition d v → value_of_data edition d ≡ Some v
  value_found d v is =
      let long = AllZip-long IsIntegerData is.items is.fields is.are_integers in
      rw (is.is_list, items_list-items_of is.items, is.filled)
      (items_read is.items (omega arith) (omega arith)
      ∙ ap (option_map padded) (each_found integer_in IsIntegerData integer_found is.items is.fields is.are_integers))

-- ---- what is found is what is written

-- an `if` that gives something gives that of one side
pub chosen : {A : Type 0} (P : Type 0) (b : Bool) (x y : Option A) (z : A) → (if b then x else y) ≡ Some z
    → (b ≡ true → x ≡ Some z → P) → (y ≡ Some z → P) → P
chosen P true x y z e at_true at_false = at_true refl e
chosen P false x y z e at_true at_false = at_false e

pub word_is : (w c : List ℕ) → bytes_eq w c ≡ true → w ≡ c
word_is w c e = (bytes_eq-Decides w c).0 e

-- what stands in a table of words, if it is so of each of its rows
abbrev IsOfAll : {A : Type 0} → (List ℕ → A → Type 0) → Words A → Type 0
IsOfAll P [] = Unit {0}
IsOfAll P (row ∷ rows) = P row.0 row.1 × IsOfAll P rows

pub of_table : {A : Type 0} (P : List ℕ → A → Type 0) (rows : Words A) → IsOfAll P rows → (w : List ℕ) (x : A) → at_word rows w ≡ Some x → P w x
of_table P [] all w x e = cc
of_table P (row ∷ rows) (is, others) w x e =
    chosen _ (bytes_eq w row.0) _ _ x e (λ t h. let same : row.1 ≡ x = cc in rw (word_is w row.0 t, ← same) is) (of_table P rows others w x)

pub str_is : (d : Data) (t : List ℕ) → as_str d ≡ Some t → d ≡ string t
str_is (string s) t e = grind arith
str_is _ t e = cc

pub name_is : (d : Data) (n : Option (List ℕ)) → name_in d ≡ Some n → d ≡ name_data n
name_is null n e = grind arith
name_is (string s) n e = grind arith
name_is _ n e = cc

pub number_is : (low high : ℕ) (d : Data) (n : ℕ) → number_in low high d ≡ Some n → (d ≡ number (unsigned n)) × (low ≤ n) × (n ≤ high)
number_is low high (number (unsigned m)) n e = grind arith
number_is low high _ n e = cc

pub list_is : (d : Data) (ds : List Data) → list_in d ≡ Some ds → d ≡ list_data ds
list_is (array is) ds e = let q : items_list is ≡ ds = cc in rw (← q, items_of-items_list is) refl
list_is _ ds e = cc

-- a number below a limit, and the whole number that it makes
small_is : (make : ℕ → ℤ) (n : ℕ) (z : ℤ) → (if nat_lt n (2 ^ 63) then Some (make n) else None) ≡ Some z → (make n ≡ z) × (n < 2 ^ 63)
small_is make n z e = grind arith

integer_is : (d : Data) (z : ℤ) → integer_in d ≡ Some z → IsIntegerData d z
integer_is (number (unsigned n)) z e =
    let (is, small) = small_is (λ k. pos k) n z e in rw (← is) (refl, record { sfits = small })
integer_is (number (negative (negsuc n))) z e =
    let (is, small) = small_is (λ k. negsuc k) n z e in rw (← is) (refl, record { sfits = small })
integer_is _ z e = cc

module _ (edition : Edition) where
  -- a list of as many items as there may be fields
  few : (ds : List Data) (o : Option Value) (v : Value)
      → (if nat_le 1 (length ds) && nat_le (length ds) (largest_arity edition) then o else None) ≡ Some v
      → (1 ≤ length ds) × (length ds ≤ largest_arity edition) × (o ≡ Some v)
  few ds o v e = grind arith

  -- each of the items is a field
  fields_are : (ds : List Data) (v : Value) → value_of_items edition ds ≡ Some v → IsValueData edition (list_data ds) v
  fields_are ds v e =
      let (low, high, h) = few ds (option_map padded (each_in integer_in ds)) v e in
      mapped padded (each_in integer_in ds) v h (λ fields n q.
      let are = each_is integer_in IsIntegerData integer_is ds fields n in
      let long = AllZip-long IsIntegerData ds fields are in
      record { items = ds; fields = fields; is_list = refl; are_integers = are; at_least = omega arith; at_most = omega arith; filled = q })

  pub value_is : (d : Data) (v : Value) → value_of_data edition d ≡ Some v → IsValueData edition d v
  value_is d v e = option_and_then_some (value_of_items edition) (list_in d) v e (λ ds is h. rw (list_is d ds is) (fields_are ds v h))

-- an arity of any edition is one that a value has room for
pub arity_fits : (edition : Edition) (n : ℕ) → n ≤ largest_arity edition → n ≤ FIELD_COUNT
arity_fits First n h = omega arith
arity_fits Second n h = h

-- the fields that were read, with zeros behind them, are the value
fields_read : (ds : List Data) (fields : List ℤ) (i : ℕ) → i ≡ length ds → each_in integer_in ds ≡ Some (take i fields)
    → drop i fields ≡ replicate (FIELD_COUNT - i) (pos 0) → Some (record { 0 = fields }) ≡ option_map padded (each_in integer_in ds)
fields_read ds fields i count found zeros =
    let long = AllZip-long IsIntegerData ds (take i fields) (each_is integer_in IsIntegerData integer_is ds (take i fields) found) in
    let whole : take i fields ++ replicate (FIELD_COUNT - length (take i fields)) (pos 0) ≡ fields =
    ap (λ n. take i fields ++ replicate (FIELD_COUNT - n) (pos 0)) (long ∙ sym count) ∙ ap (λ t. take i fields ++ t) (sym zeros)
    ∙ take-append-drop i fields in
    ap (λ fs. let v : Value = record { 0 = fs } in Some v) (sym whole) ∙ ap (option_map padded) (sym found)

-- likewise, where nothing is left of the items
pub fields_read_all : {X : Type 0} (f : X → Data) (items : List X) (fields : List ℤ) (i : ℕ) → i ≡ length items
    → each_in integer_in (map f items) ≡ option_map (λ zs. take i fields ++ zs) (each_in integer_in (map f (drop i items)))
    → drop i fields ≡ replicate (FIELD_COUNT - i) (pos 0) → Some (record { 0 = fields }) ≡ option_map padded (each_in integer_in (map f items))
fields_read_all f items fields i count found zeros =
    let none : drop i items ≡ [] = drop_all i items (omega arith) in
    let all : each_in integer_in (map f items) ≡ Some (take i fields) =
    found ∙ ap (λ xs. option_map (λ zs. take i fields ++ zs) (each_in integer_in (map f xs))) none ∙ ap Some (append-nil (take i fields)) in
    fields_read (map f items) fields i (count ∙ sym (length-map items f)) all zeros

-- one more field was read, into the place of a zero
pub field_read : {X : Type 0} (f : X → Data) (items : List X) (i : ℕ) (item : X) (fields : List ℤ) (z : ℤ) → i < length items
    → length items ≤ FIELD_COUNT → Some z ≡ integer_in (f (get_or items i item))
    → each_in integer_in (map f items) ≡ option_map (λ zs. take i fields ++ zs) (each_in integer_in (map f (drop i items)))
    → drop i fields ≡ replicate (FIELD_COUNT - i) (pos 0)
    → let new = set_at fields i (to_z w64 (of_z w64 z)) in
    (each_in integer_in (map f items) ≡ option_map (λ zs. take (i + 1) new ++ zs) (each_in integer_in (map f (drop (i + 1) items))))
    × (drop (i + 1) new ≡ replicate (FIELD_COUNT - (i + 1)) (pos 0))
field_read f items i item fields z there small is found zeros =
    let kept : to_z w64 (of_z w64 z) ≡ z = to_z-of_z w64 z (integer_is (f (get_or items i item)) z (sym is)).1 in
    let left = sym (length-drop i fields) ∙ ap (λ xs. length xs) zeros ∙ length-replicate (FIELD_COUNT - i) (pos 0) in
    let behind : drop (i + 1) fields ≡ replicate (FIELD_COUNT - i - 1) (pos 0) =
    sym (drop-drop 1 i fields) ∙ ap (λ xs. drop 1 xs) zeros ∙ drop-replicate 1 (FIELD_COUNT - i) (pos 0) in
    let count : FIELD_COUNT - i - 1 ≡ FIELD_COUNT - (i + 1) = omega arith in
    rw kept (
      one_more f integer_in items i item (take i fields) (take (i + 1) (set_at fields i z)) z there is (take_more_set fields i z (omega arith)) found,
      drop-set-lt (i + 1) fields i z (omega arith) ∙ behind ∙ ap (λ n. replicate n (pos 0)) count,
    )

-- what has a word in front is written so
words_are : (es : List Data) (w : List ℕ) (ds : List Data) → words_of es ≡ Some (w, ds) → list_data es ≡ written_list w ds
words_are [] w ds e = cc
words_are (word ∷ rest) w ds e =
    let with_rest : List ℕ → List ℕ × List Data = λ t. (t, rest) in
    mapped with_rest (as_str word) (w, ds) e (λ t is q.
    rw (str_is word t is, ap (λ (x : List ℕ × List Data). x.0) q, ap (λ (x : List ℕ × List Data). x.1) q) refl)

pub words_is : (d : Data) (w : List ℕ) (ds : List Data) → words_in d ≡ Some (w, ds) → d ≡ written_list w ds
words_is d w ds e = option_and_then_some words_of (list_in d) (w, ds) e (λ es is h. list_is d es is ∙ words_are es w ds h)
