-- What recorded commands speak of, while more is kept.
use Rattle.eco_stages.proofs.Common.{◌≡◌, ◌≤◌, ℕ, ◌+◌, List, [], ◌∷◌, ◌++◌, IsTrue, length, take, drop, get_or, refl, sym, ap, subst, ◌∙◌}
use Rattle.eco_stages.proofs.Common.{append-nil, append_assoc, arith, length-append, length-drop, length-map, length-take-le, map-append, take_all, take_more}
use Rattle.eco_stages.proofs.Fields.{few_kept}
use Rattle.eco_stages.proofs.InTurn.{in_turn-append, none_first, one_next}
use Rattle.std.specs.Prelude.{◌%◌, All, Bool, IsFalse, None, Option, false, map, option_map, string_bytes, true}
use Rattle.std.proofs.lemmas.List.Elements.{All-head, All-map, All-tail, All-take, All-weaker}
use Rattle.std.proofs.lemmas.List.Concat.{flat_map-append}
use Rattle.std.proofs.Math.ListN.{get_or-append, set}
use Rattle.std.proofs.Math.Seq.{drop-append-add, drop-append_seam, get_or-append-add, get_or-append_seam}
use Rattle.std.proofs.lemmas.List.{drop-append-le, length-set, set-get_or, take-append-le, take_more_set}
use Rattle.eco_ids.specs.Data.{is_zero_past}
use Rattle.eco_ids.specs.Run.{Command}
use Rattle.eco_ids.specs.Run as run
use Rattle.eco_ids.specs.declared.entity.Entity.{Entity}
use Rattle.eco_ids.specs.declared.entity.TheConstants.{CHILD_OF}
use Rattle.eco_ids.specs.declared.id.Id.{Id}
use Rattle.eco_ids.specs.declared.id.Id.TheVariants.{One as Single}
use Rattle.eco_ids.specs.declared.value.Value.{Value}
use Rattle.eco_ids.specs.declared.value.TheConstants.{FIELD_COUNT}
use Rattle.eco_stages.specs.Recorded.{AreInTurn, EndsInSet, SpeaksOfKept, KeepsBoth, KeepsSame, StaysKept, RunSet, commands_at, commands_of, fields_in}
use Rattle.eco_stages.specs.Recorded.{id_in_turn, in_turn, moved_by, names_of, set_of_run, sets_of}
use Rattle.eco_stages.specs.declared.kept.Kept.{Kept}
use Rattle.eco_stages.specs.declared.recorded.Recorded.{Recorded}
use Rattle.eco_stages.specs.declared.recorded.TheConstants.{MOST_IN_TURN}
use Rattle.eco_stages.specs.declared.recorded.Recorded.TheVariants.{Create, Add, Remove, Set, Turns, Clear, Rename, Delete, DeleteWith, RemoveAll}
use Rattle.eco_stages.specs.declared.width.Width.{Width}
use Rattle.eco_stages.specs.declared.width.Width.TheVariants.{One, Three, Eight}

-- some of a list, with more behind it
pub some_of : {X : Type 0} (n first : ℕ) (xs more : List X) → first + n ≤ length xs → take n (drop first (xs ++ more)) ≡ take n (drop first xs)
some_of n first xs more within =
    ap (take n) (drop-append-le first xs more (omega (arith, within)))
    ∙ take-append-le n (drop first xs) more (omega (arith, within, length-drop first xs))

-- and one more
pub and_one : {X : Type 0} (n first : ℕ) (xs : List X) (x : X) → first + n ≡ length xs
    → take (n + 1) (drop first (xs ++ x ∷ [])) ≡ take n (drop first xs) ++ x ∷ []
and_one n first xs x all =
    let own = drop first xs in
    let many : length own ≡ n = omega (arith, all, length-drop first xs) in
    ap (take (n + 1)) (drop-append-le first xs (x ∷ []) (omega (arith, all)))
    ∙ take_all (n + 1) (own ++ x ∷ []) (omega (arith, many, length-append own (x ∷ [])))
    ∙ ap (λ ys. ys ++ x ∷ []) (sym (take_all n own (omega (arith, many))))

-- a list to which something may have come last
pub grown : {X : Type 0} (done : Bool) (x : X) (old new : List X) → (IsTrue done → new ≡ old ++ x ∷ []) → (IsFalse done → new ≡ old)
    → (more : List X) × (new ≡ old ++ more)
grown true x old new came same = (x ∷ [], came refl)
grown false x old new came same = ([], same refl ∙ sym (append-nil old))

-- one to which nothing came
pub as_it_was : {X : Type 0} (xs : List X) → (more : List X) × (xs ≡ xs ++ more)
as_it_was xs = ([], sym (append-nil xs))

-- one that is as it was
pub unchanged : {X : Type 0} {old new : List X} → new ≡ old → (more : List X) × (new ≡ old ++ more)
unchanged {X} {old} {new} same = ([], same ∙ sym (append-nil old))

-- one that grew twice
further : {X : Type 0} (xs ys zs : List X) → ((more : List X) × (ys ≡ xs ++ more)) → ((more : List X) × (zs ≡ ys ++ more))
    → (more : List X) × (zs ≡ xs ++ more)
further xs ys zs one two = (one.0 ++ two.0, two.1 ∙ ap (λ l. l ++ two.0) one.1 ∙ append_assoc xs one.0 two.0)

-- what is kept of each width, of ids and of names
pub all_keep : (old new : Kept) → ((more : List RunSet) × (new.ones.items ≡ old.ones.items ++ more))
    → ((more : List RunSet) × (new.threes.items ≡ old.threes.items ++ more)) → ((more : List RunSet) × (new.eights.items ≡ old.eights.items ++ more))
    → ((more : List Id) × (new.ids.items ≡ old.ids.items ++ more)) → ((more : List (Option (List ℕ))) × (names_of new ≡ names_of old ++ more))
    → StaysKept old new
all_keep old new ones threes eights ids names = record { sets = of_width; ids = ids; names = names }
  where
    of_width : (w : Width) → (more : List RunSet) × (sets_of w new ≡ sets_of w old ++ more)
    of_width One = ones
    of_width Three = threes
    of_width Eight = eights

-- where all is the same
pub stays : (old new : Kept) → KeepsSame old new → StaysKept old new
stays old new same = record { sets = λ w. unchanged (same.sets w); ids = unchanged same.ids; names = unchanged same.names }

-- what stays, stays on
pub stays_on : (old between new : Kept) → StaysKept old between → StaysKept between new → StaysKept old new
stays_on old between new one two = record {
  sets = λ w. further (sets_of w old) (sets_of w between) (sets_of w new) (one.sets w) (two.sets w);
  ids = further old.ids.items between.ids.items new.ids.items one.ids two.ids;
  names = further (names_of old) (names_of between) (names_of new) one.names two.names;
}

-- where ids alone may come
pub ids_grow : (old new : Kept) → ((w : Width) → sets_of w new ≡ sets_of w old) → names_of new ≡ names_of old
    → ((more : List Id) × (new.ids.items ≡ old.ids.items ++ more)) → StaysKept old new
ids_grow old new sets names ids = record { sets = λ w. unchanged (sets w); ids = ids; names = unchanged names }

-- the last set is that of the value
pub ends_in_set : (w x : Width) → w ≡ x → (old new : Kept) (e : Entity) (v : Value) → length v.0 ≡ FIELD_COUNT → IsTrue (is_zero_past (fields_in x) v)
    → sets_of x new ≡ sets_of x old ++ (e, take (fields_in x) v.0) ∷ [] → EndsInSet w e v old new
ends_in_set w x is old new e v full zeros pushed = (
  take (fields_in x) v.0,
  subst (λ y. sets_of y new ≡ sets_of y old ++ (e, take (fields_in x) v.0) ∷ []) (sym is) pushed,
  few_kept (fields_in x) v full zeros,
)

-- one that was read is written back
pub written_back : (rs : List Recorded) (n : ℕ) (r is : Recorded) → r ≡ get_or rs n r → r ≡ is → set rs n is ≡ rs
written_back rs n r is at same = ap (set rs n) (sym same ∙ at) ∙ set-get_or rs n r

-- the last command
pub last_of : (k : Kept) (rs : List Recorded) (r : Recorded) → commands_of k (rs ++ r ∷ []) ≡ commands_of k rs ++ commands_at k r
last_of k rs r = flat_map-append (commands_at k) rs (r ∷ []) ∙ ap (λ cs. commands_of k rs ++ cs) (append-nil (commands_at k r))

module _ (old new : Kept) (keeps : StaysKept old new) where
  -- the same ids are in turn
  pub same_turns : (at turns : ℕ) → at + turns ≤ length old.ids.items → take turns (drop at new.ids.items) ≡ take turns (drop at old.ids.items)
  same_turns at turns within = ap (λ ids. take turns (drop at ids)) keeps.ids.1 ∙ some_of turns at old.ids.items keeps.ids.0 within

  -- each stands for what it stood for
  pub same_at : (r : Recorded) → SpeaksOfKept old r → commands_at new r ≡ commands_at old r
  same_at (Create e) within = refl
  same_at (Add e i) within = refl
  same_at (Remove e i) within = refl
  same_at (Set w count i first) within =
      let more = keeps.sets w in
      ap (λ xs. map (set_of_run i) (take count (drop first xs))) more.1
      ∙ ap (map (set_of_run i)) (some_of count first (sets_of w old) more.0 within)
  same_at (Turns w count turns turn at first) within =
      let more = keeps.sets w in
      ap (λ ids. in_turn ids 0 (take count (drop first (sets_of w new)))) (same_turns at turns within.ids)
      ∙ ap (λ xs. in_turn (take turns (drop at old.ids.items)) 0 (take count (drop first xs))) more.1
      ∙ ap (in_turn (take turns (drop at old.ids.items)) 0) (some_of count first (sets_of w old) more.0 within.sets)
  same_at (Clear e) within = refl
  same_at (Rename e place) within =
      let more = keeps.names in
      ap (λ names. run.Rename e (get_or names place None) ∷ []) more.1
      ∙ ap (λ name. run.Rename e name ∷ []) (get_or-append (names_of old) more.0 None place within)
  same_at (Delete e) within = refl
  same_at (DeleteWith i) within = refl
  same_at (RemoveAll i) within = refl

  -- and what it speaks of is kept
  pub still_at : (r : Recorded) → SpeaksOfKept old r → SpeaksOfKept new r
  still_at (Create e) within = tt
  still_at (Add e i) within = tt
  still_at (Remove e i) within = tt
  still_at (Set w count i first) within =
      let more = keeps.sets w in
      omega (arith, within, ap length more.1, length-append (sets_of w old) more.0)
  still_at (Turns w count turns turn at first) within =
      let more = keeps.sets w in
      let ids = keeps.ids in
      record {
        sets = omega (arith, within.sets, ap length more.1, length-append (sets_of w old) more.0);
        ids = omega (arith, within.ids, ap length ids.1, length-append old.ids.items ids.0);
        some = within.some;
        few = within.few;
        next = within.next;
      }
  still_at (Clear e) within = tt
  still_at (Rename e place) within =
      let more = keeps.names in
      omega (arith, within, ap length more.1, length-append (names_of old) more.0)
  still_at (Delete e) within = tt
  still_at (DeleteWith i) within = tt
  still_at (RemoveAll i) within = tt

  -- so do all of them
  pub same : (rs : List Recorded) → All (SpeaksOfKept old) rs → commands_of new rs ≡ commands_of old rs
  same [] within = refl
  same (r ∷ rs) within =
      ap (λ cs. cs ++ commands_of new rs) (same_at r (All-head (SpeaksOfKept old) r rs within))
      ∙ ap (λ cs. commands_at old r ++ cs) (same rs (All-tail (SpeaksOfKept old) r rs within))

  pub still : (rs : List Recorded) → All (SpeaksOfKept old) rs → All (SpeaksOfKept new) rs
  still rs within = All-weaker (SpeaksOfKept old) (SpeaksOfKept new) still_at rs within

  -- one more comes last
  pub one_more : (rs : List Recorded) (r : Recorded) (cs : List Command) → All (SpeaksOfKept old) rs → commands_at new r ≡ cs
      → commands_of new (rs ++ r ∷ []) ≡ commands_of old rs ++ cs
  one_more rs r cs within is =
      last_of new rs r ∙ ap (λ ds. ds ++ commands_at new r) (same rs within) ∙ ap (λ ds. commands_of old rs ++ ds) is

  -- the last stands for one more
  pub last_longer : (rs : List Recorded) (n : ℕ) (r longer : Recorded) (c : Command) → n + 1 ≡ length rs → r ≡ get_or rs n r
      → commands_at new longer ≡ commands_at old r ++ c ∷ [] → All (SpeaksOfKept old) rs
      → commands_of new (set rs n longer) ≡ commands_of old rs ++ c ∷ []
  last_longer rs n r longer c last is one within =
      let before = take n rs in
      let own = commands_of old before in
      let was : rs ≡ before ++ r ∷ [] =
      sym (take_all (n + 1) rs (omega (arith, last))) ∙ take_more rs n r (omega (arith, last)) ∙ ap (λ x. before ++ x ∷ []) (sym is) in
      let now : set rs n longer ≡ before ++ longer ∷ [] =
      sym (take_all (n + 1) (set rs n longer) (omega (arith, last, length-set rs n longer))) ∙ take_more_set rs n longer (omega (arith, last)) in
      ap (commands_of new) now ∙ one_more before longer (commands_at old r ++ c ∷ []) (All-take (SpeaksOfKept old) n rs within) one
      ∙ sym (append_assoc own (commands_at old r) (c ∷ [])) ∙ sym (ap (λ cs. cs ++ c ∷ []) (ap (commands_of old) was ∙ last_of old before r))

  module _ (w : Width) (count first : ℕ) (s : RunSet) (all : first + count ≡ length (sets_of w old)) (pushed : sets_of w new ≡ sets_of w old ++ s ∷ []) where
    -- the sets of a run, and one more
    one_set : take (count + 1) (drop first (sets_of w new)) ≡ take count (drop first (sets_of w old)) ++ s ∷ []
    one_set = ap (λ xs. take (count + 1) (drop first xs)) pushed ∙ and_one count first (sets_of w old) s all

    there : first + (count + 1) ≤ length (sets_of w new)
    there = omega (arith, all, ap length pushed, length-append (sets_of w old) (s ∷ []))

    -- a run of one id has one set more
    pub run_longer : (i : Id) → commands_at new (Set w (count + 1) i first) ≡ commands_at old (Set w count i first) ++ set_of_run i s ∷ []
    run_longer i =
        let sets = take count (drop first (sets_of w old)) in
        ap (map (set_of_run i)) one_set ∙ map-append (set_of_run i) sets (s ∷ [])

    pub run_still : (i : Id) → SpeaksOfKept new (Set w (count + 1) i first)
    run_still i = there

    -- so has one of ids in turn
    pub turns_longer : (turns turn next at : ℕ) → AreInTurn old w count turns turn at first → commands_at new (Turns w (count + 1) turns next at first)
        ≡ commands_at old (Turns w count turns turn at first) ++ set_of_run (id_in_turn (take turns (drop at old.ids.items)) count) s ∷ []
    turns_longer turns turn next at was =
        let sets = take count (drop first (sets_of w old)) in
        let ids = take turns (drop at old.ids.items) in
        let behind = drop first (sets_of w old) in
        let many : 0 + length sets ≡ count = omega (arith, length-take-le count behind (omega (arith, all, length-drop first (sets_of w old)))) in
        ap (λ own. in_turn own 0 (take (count + 1) (drop first (sets_of w new)))) (same_turns at turns was.ids)
        ∙ ap (in_turn ids 0) one_set ∙ in_turn-append ids 0 sets (s ∷ []) ∙ ap (λ k. in_turn ids 0 sets ++ in_turn ids k (s ∷ [])) many

    pub turns_still : (turns turn next at : ℕ) → AreInTurn old w count turns turn at first → next ≡ (count + 1) % turns
        → SpeaksOfKept new (Turns w (count + 1) turns next at first)
    turns_still turns turn next at was is = record {
      sets = there;
      ids = (still_at (Turns w count turns turn at first) was).ids;
      some = was.some;
      few = was.few;
      next = is;
    }

-- a run of one set
pub first_of : (old new : Kept) (w : Width) (e : Entity) (i : Id) (v : Value) (first : ℕ) → first ≡ length (sets_of w old) → EndsInSet w e v old new
    → (commands_at new (Set w 1 i first) ≡ run.Set e i v ∷ []) × SpeaksOfKept new (Set w 1 i first)
first_of old new w e i v first at ends =
    let own = sets_of w old in
    let s : RunSet = (e, ends.0) in (
      ap (λ xs. map (set_of_run i) (take 1 (drop first xs))) ends.1
          ∙ ap (λ n. map (set_of_run i) (take 1 (drop n (own ++ s ∷ [])))) at
          ∙ ap (λ xs. map (set_of_run i) (take 1 xs)) (drop-append_seam own (s ∷ [])) ∙ ap (λ x. run.Set e i x ∷ []) ends.2,
      omega (arith, at, ap length ends.1, length-append own (s ∷ [])),
    )

-- a run of one set, of the first of these ids in turn, which came last
pub first_in_turn : (old mid new : Kept) (w : Width) (e : Entity) (i : Id) (v : Value) (first at turns : ℕ) (others : List Id)
    → first ≡ length (sets_of w old) → EndsInSet w e v old mid → ((x : Width) → sets_of x new ≡ sets_of x mid)
    → at ≡ length mid.ids.items → new.ids.items ≡ mid.ids.items ++ i ∷ others → turns ≡ length (i ∷ others) → 2 ≤ turns → turns ≤ MOST_IN_TURN
    → (commands_at new (Turns w 1 turns 1 at first) ≡ run.Set e i v ∷ []) × SpeaksOfKept new (Turns w 1 turns 1 at first)
first_in_turn old mid new w e i v first at turns others place ends same begin pushed many some few =
    let own = sets_of w old in
    let s : RunSet = (e, ends.0) in
    let now : sets_of w new ≡ own ++ s ∷ [] = same w ∙ ends.1 in
    let one : take 1 (drop first (sets_of w new)) ≡ s ∷ [] =
    ap (λ xs. take 1 (drop first xs)) now ∙ ap (λ n. take 1 (drop n (own ++ s ∷ []))) place ∙ ap (take 1) (drop-append_seam own (s ∷ [])) in
    let ids : take turns (drop at new.ids.items) ≡ i ∷ others =
    ap (λ xs. take turns (drop at xs)) pushed ∙ ap (λ n. take turns (drop n (mid.ids.items ++ i ∷ others))) begin
    ∙ ap (take turns) (drop-append_seam mid.ids.items (i ∷ others)) ∙ take_all turns (i ∷ others) (omega (arith, many)) in (
      ap (λ xs. in_turn xs 0 (take 1 (drop first (sets_of w new)))) ids ∙ ap (in_turn (i ∷ others) 0) one
          ∙ ap (λ k. set_of_run (get_or (i ∷ others) k (Single CHILD_OF)) s ∷ []) (none_first (length (i ∷ others)) (omega (arith, many, some)))
          ∙ ap (λ x. run.Set e i x ∷ []) ends.2,
      record {
        sets = omega (arith, place, ap length now, length-append own (s ∷ []));
        ids = omega (arith, begin, ap length pushed, length-append mid.ids.items (i ∷ others), many);
        some = omega (arith, some);
        few = few;
        next = one_next turns some;
      },
    )

-- a rename to the last name
pub named : (old new : Kept) (e : Entity) (name : Option (List ℕ)) (place : ℕ) → place ≡ length old.names.items
    → names_of new ≡ names_of old ++ name ∷ []
    → (commands_at new (Rename e place) ≡ run.Rename e name ∷ []) × SpeaksOfKept new (Rename e place)
named old new e name place at one =
    let own = names_of old in
    let count : place ≡ length own = omega (arith, at, length-map old.names.items (option_map string_bytes)) in (
      ap (λ names. run.Rename e (get_or names place None) ∷ []) one
          ∙ ap (λ n. run.Rename e (get_or (own ++ name ∷ []) n None) ∷ []) count
          ∙ ap (λ x. run.Rename e x ∷ []) (get_or-append_seam own name [] None),
      omega (arith, count, ap length one, length-append own (name ∷ [])),
    )

-- so many commands, and one more
pub counted : (n : ℕ) (was now : List Command) (c : Command) → n ≡ length was → now ≡ was ++ c ∷ [] → n + 1 ≡ length now
counted n was now c many is = omega (arith, many, ap length is, length-append was (c ∷ []))

module _ (own more all : Kept) (both : KeepsBoth own more all) where
  -- a command that was moved stands for what it stood for
  pub moved_at : (r : Recorded) → commands_at all (moved_by own r) ≡ commands_at more r
  moved_at (Create e) = refl
  moved_at (Add e i) = refl
  moved_at (Remove e i) = refl
  moved_at (Set w count i first) =
      ap (λ xs. map (set_of_run i) (take count (drop (length (sets_of w own) + first) xs))) (both.sets w)
      ∙ ap (λ xs. map (set_of_run i) (take count xs)) (drop-append-add (sets_of w own) (sets_of w more) first)
  moved_at (Turns w count turns turn at first) =
      let sets = take count (drop (length (sets_of w own) + first) (sets_of w all)) in
      ap (λ ids. in_turn (take turns (drop (length own.ids.items + at) ids)) 0 sets) both.ids
      ∙ ap (λ ids. in_turn (take turns ids) 0 sets) (drop-append-add own.ids.items more.ids.items at)
      ∙ ap (λ xs. in_turn (take turns (drop at more.ids.items)) 0 (take count (drop (length (sets_of w own) + first) xs))) (both.sets w)
      ∙ ap (λ xs. in_turn (take turns (drop at more.ids.items)) 0 (take count xs)) (drop-append-add (sets_of w own) (sets_of w more) first)
  moved_at (Clear e) = refl
  moved_at (Rename e place) =
      ap (λ names. run.Rename e (get_or names (length (names_of own) + place) None) ∷ []) both.names
      ∙ ap (λ name. run.Rename e name ∷ []) (get_or-append-add (names_of own) (names_of more) place None)
  moved_at (Delete e) = refl
  moved_at (DeleteWith i) = refl
  moved_at (RemoveAll i) = refl

  -- and what it speaks of is kept
  pub moved_kept : (r : Recorded) → SpeaksOfKept more r → SpeaksOfKept all (moved_by own r)
  moved_kept (Create e) within = tt
  moved_kept (Add e i) within = tt
  moved_kept (Remove e i) within = tt
  moved_kept (Set w count i first) within = omega (arith, within, ap length (both.sets w), length-append (sets_of w own) (sets_of w more))
  moved_kept (Turns w count turns turn at first) within = record {
    sets = omega (arith, within.sets, ap length (both.sets w), length-append (sets_of w own) (sets_of w more));
    ids = omega (arith, within.ids, ap length both.ids, length-append own.ids.items more.ids.items);
    some = within.some;
    few = within.few;
    next = within.next;
  }
  moved_kept (Clear e) within = tt
  moved_kept (Rename e place) within = omega (arith, within, ap length both.names, length-append (names_of own) (names_of more))
  moved_kept (Delete e) within = tt
  moved_kept (DeleteWith i) within = tt
  moved_kept (RemoveAll i) within = tt

  -- so do all of them
  pub all_moved : (rs : List Recorded) → commands_of all (map (moved_by own) rs) ≡ commands_of more rs
  all_moved [] = refl
  all_moved (r ∷ rs) =
      ap (λ cs. cs ++ commands_of all (map (moved_by own) rs)) (moved_at r) ∙ ap (λ cs. commands_at more r ++ cs) (all_moved rs)

  pub all_moved_kept : (rs : List Recorded) → All (SpeaksOfKept more) rs → All (SpeaksOfKept all) (map (moved_by own) rs)
  all_moved_kept rs within =
      All-map (SpeaksOfKept all) (moved_by own) rs
      (All-weaker (SpeaksOfKept more) (λ r. SpeaksOfKept all (moved_by own r)) moved_kept rs within)

  -- what the one had is as it was
  pub keeps_own : StaysKept own all
  keeps_own = record { sets = λ w. (sets_of w more, both.sets w); ids = (more.ids.items, both.ids); names = (names_of more, both.names) }
