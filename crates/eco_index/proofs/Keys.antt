-- Which patterns have a key, and how slots come to be listed under them.
use Rattle.eco_index.proofs.Common.{◌≡◌, ℕ, ◌<◌, ◌||◌, List, ◌∷◌, [], length, take, get_or, ◌+◌, Bool, true, false, cond, ◌&&◌}
use Rattle.eco_index.proofs.Common.{Option, None, Some, nat_eq, refl, sym, ap, ◌∙◌, arith, zero, suc, if◌then◌else◌, inl, inr, ◌⊎◌}
use Rattle.eco_index.proofs.Common.{true≢false, list_any, HashMap, get, Decides-eqb, Entity, Id, Is, Each, Any, Pattern, entity_eq, Key, Single, Pair}
use Rattle.eco_index.proofs.Common.{Relationship, Target, AnyPair, Slots, own_count, matches_some, HasTurned, same_key, key_of, keys_of, has_key, has_one}
use Rattle.eco_index.proofs.Common.{matches_id, is_only, has_slot, is_empty, is_listed, lists_of, Lists, Marks, may_be_kept, AreMarked, KeepsMarks, Turns}
use Rattle.eco_index.proofs.Common.{KeepsRest, ListsSame, KeepsNoEmpty, entity_eq-Decides, first, second}
use Rattle.std.proofs.lemmas.List.Folds.{list_any_more}
use Rattle.eco_ids.specs.declared.pattern.Pattern.TheVariants.{One, Two}
use Rattle.eco_ids.proofs.Overlaps.{entity_eq_itself, entity_eq_is}
use Rattle.eco_ids.specs.declared.id.Id.TheVariants as id
use Rattle.eco_ids.specs.contracts.entity.EntityPartialEq.TheImpl as entity_impl

pub keys_same : (k q : Key) → same_key k q ≡ true → k ≡ q
keys_same (Single a) (Single b) e = ap Single ((entity_eq-Decides a b).0 e)
keys_same (Pair a b) (Pair c d) e =
    let p = (entity_eq-Decides a c).0 (first _ _ e) in
    let q = (entity_eq-Decides b d).0 (second _ _ e) in
    λ i. Pair (p i) (q i)
keys_same (Relationship a) (Relationship b) e = ap Relationship ((entity_eq-Decides a b).0 e)
keys_same (Target a) (Target b) e = ap Target ((entity_eq-Decides a b).0 e)
keys_same AnyPair AnyPair e = refl
keys_same _ _ e = absurd (true≢false (sym e))

-- `==` of entities, as code and as definitions have it
pub same_is : (a b : Entity) → (entity_impl.eq-value).it a b ≡ entity_eq b a
same_is a b = by ((entity_impl.eq-value).it a b) (entity_eq b a) refl refl
  where
    by : (c d : Bool) → (entity_impl.eq-value).it a b ≡ c → entity_eq b a ≡ d → c ≡ d
    by true true p q = refl
    by false false p q = refl
    by true false p q = sym (ap (entity_eq b) ((entity_eq-Decides a b).0 p) ∙ entity_eq_itself b) ∙ q
    by false true p q = sym p ∙ (entity_eq-Decides a b).1 (sym (entity_eq_is b a q))

pub or_false : (b : Bool) → (b || false) ≡ b
or_false true = refl
or_false false = refl

pub and_true : (b : Bool) → (b && true) ≡ b
and_true true = refl
and_true false = refl

-- an id has a pattern's key exactly where the pattern matches it
pub key_matches : (i : Id) (p : Pattern) → has_one (keys_of i) p ≡ matches_id i p
key_matches (id.One e) (One own) = or_false _ ∙ same_is e own
key_matches (id.One e) (Two (Is a) (Is b)) = refl
key_matches (id.One e) (Two (Is a) Each) = refl
key_matches (id.One e) (Two (Is a) Any) = refl
key_matches (id.One e) (Two Each (Is b)) = refl
key_matches (id.One e) (Two Any (Is b)) = refl
key_matches (id.One e) (Two Each Each) = refl
key_matches (id.One e) (Two Each Any) = refl
key_matches (id.One e) (Two Any Each) = refl
key_matches (id.One e) (Two Any Any) = refl
key_matches (id.Two r t) (One own) = refl
key_matches (id.Two r t) (Two (Is a) (Is b)) = or_false _ ∙ (λ k. same_is r a k && same_is t b k)
key_matches (id.Two r t) (Two (Is a) Each) = or_false _ ∙ same_is r a ∙ sym (and_true _)
key_matches (id.Two r t) (Two (Is a) Any) = or_false _ ∙ same_is r a ∙ sym (and_true _)
key_matches (id.Two r t) (Two Each (Is b)) = or_false _ ∙ same_is t b
key_matches (id.Two r t) (Two Any (Is b)) = or_false _ ∙ same_is t b
key_matches (id.Two r t) (Two Each Each) = refl
key_matches (id.Two r t) (Two Each Any) = refl
key_matches (id.Two r t) (Two Any Each) = refl
key_matches (id.Two r t) (Two Any Any) = refl

module _ {S : Type 0} (m m' : HashMap Key Slots S) (k : Key) (o : Option Slots)
    (puts : (q : Key) → get same_key m' q ≡ cond (same_key k q) o (get same_key m q)) where
  -- the key has other slots now, which differ at one slot alone
  pub turned : (slot : ℕ) (b : Bool) → ((n : ℕ) → has_slot o n ≡ cond (nat_eq slot n) b (is_listed m k n))
      → Turns b (has_key k) (lists_of m) (lists_of m') slot
  turned slot b changed p n = ap (λ x. has_slot x n) (puts (key_of p)) ∙ by (has_key k p) refl
    where
      by : (c : Bool) → has_key k p ≡ c → has_slot (cond c o (get same_key m (key_of p))) n ≡ cond (c && nat_eq slot n) b (lists_of m p n)
      by false other = refl
      by true same = changed n ∙ ap (λ q. cond (nat_eq slot n) b (is_listed m q n)) (keys_same k (key_of p) same)

  -- the key has the same slots
  pub as_before : ((n : ℕ) → has_slot o n ≡ is_listed m k n) → ListsSame (lists_of m) (lists_of m')
  as_before same p n = ap (λ x. has_slot x n) (puts (key_of p)) ∙ by (has_key k p) refl
    where
      by : (c : Bool) → has_key k p ≡ c → has_slot (cond c o (get same_key m (key_of p))) n ≡ lists_of m p n
      by false other = refl
      by true is = same n ∙ ap (λ q. is_listed m q n) (keys_same k (key_of p) is)

  -- each key that is kept has a slot
  pub none_empty : KeepsNoEmpty m → is_empty o ≡ false → KeepsNoEmpty m'
  none_empty full has q = ap is_empty (puts q) ∙ by (same_key k q)
    where
      by : (c : Bool) → is_empty (cond c o (get same_key m q)) ≡ false
      by true = has
      by false = full q

  -- no key is kept that may not, since this one may if it has slots now
  pub still_marked : (marks : Marks) → AreMarked marks m → (may_be_kept marks k ≡ false → o ≡ None) → AreMarked marks m'
  still_marked marks were none q unmarked = puts q ∙ by (same_key k q) refl
    where
      by : (c : Bool) → same_key k q ≡ c → cond c o (get same_key m q) ≡ None
      by true same = none (ap (may_be_kept marks) (keys_same k q same) ∙ unmarked)
      by false other = were q unmarked

-- a key that is not kept lists no slot that might go
pub none_listed : {S : Type 0} (m : HashMap Key Slots S) (k : Key) (slot : ℕ) → get same_key m k ≡ None
    → Turns false (has_key k) (lists_of m) (lists_of m) slot
none_listed m k slot none p n = by (has_key k p) refl (nat_eq slot n)
  where
    by : (a : Bool) → has_key k p ≡ a → (b : Bool) → lists_of m p n ≡ cond (a && b) false (lists_of m p n)
    by false other b = refl
    by true same false = refl
    by true same true = ap (λ q. is_listed m q n) (sym (keys_same k (key_of p) same)) ∙ ap (λ o. has_slot o n) none

-- more marks do no harm
pub more_marks : {S : Type 0} (old new : Marks) (m : HashMap Key Slots S) → KeepsMarks old new → AreMarked old m → AreMarked new m
more_marks old new m keeps were k unmarked = by (may_be_kept old k) refl
  where
    by : (b : Bool) → may_be_kept old k ≡ b → get same_key m k ≡ None
    by true might = absurd (true≢false (sym (keeps k might) ∙ unmarked))
    by false might_not = were k might_not

-- without the one slot that was there none is left
pub only_one : (ns : List ℕ) (slot : ℕ) → is_only ns slot ≡ true → (n : ℕ) → false ≡ cond (nat_eq slot n) false (list_any (nat_eq n) ns)
only_one [] slot only n = absurd (true≢false (sym only))
only_one (x ∷ []) slot only n = by (nat_eq slot n) (nat_eq n x) refl refl
  where
    here : slot ≡ x
    here = (Decides-eqb slot x).0 (sym (or_false (nat_eq slot x)) ∙ second true (nat_eq slot x || false) only)

    by : (c d : Bool) → nat_eq slot n ≡ c → nat_eq n x ≡ d → false ≡ cond c false (d || false)
    by true d p q = refl
    by false false p q = refl
    by false true p q = sym p ∙ (Decides-eqb slot n).1 (here ∙ sym ((Decides-eqb n x).0 q))
only_one (x ∷ y ∷ ns) slot only n =
    let alone : length (x ∷ y ∷ ns) ≡ 1 = (Decides-eqb (length (x ∷ y ∷ ns)) 1).0
    (first (nat_eq (length (x ∷ y ∷ ns)) 1) (list_any (nat_eq slot) (x ∷ y ∷ ns)) only) in
    absurd (omega (arith, alone))

-- tests that agree turn the same
pub turns_as : (b : Bool) (f g : Pattern → Bool) (l l' : Lists) (slot : ℕ) → ((p : Pattern) → f p ≡ g p) → Turns b f l l' slot → Turns b g l l' slot
turns_as b f g l l' slot agree turns p n = turns p n ∙ ap (λ c. cond (c && nat_eq slot n) b (l p n)) (agree p)

pub keeps_as : (f g : Pattern → Bool) (l l' : Lists) (slot : ℕ) → ((p : Pattern) → f p ≡ g p) → KeepsRest f l l' slot → KeepsRest g l l' slot
keeps_as f g l l' slot agree keeps p n h = keeps p n (ap (λ c. c && nat_eq slot n) (agree p) ∙ h)

-- what an id's keys that the one before lacks leave out, that one's have
own_split : (before : Option Id) (r t : Entity) (p : Pattern)
    → (has_one (take (own_count before r) (keys_of (id.Two r t))) p ≡ matches_id (id.Two r t) p)
    ⊎ ((has_one (take (own_count before r) (keys_of (id.Two r t))) p ≡ false) × (matches_some before p ≡ true))
own_split None r t p = inl (key_matches (id.Two r t) p)
own_split (Some (id.One e)) r t p = inl (key_matches (id.Two r t) p)
own_split (Some (id.Two q u)) r t p = by (entity_eq q r) refl p
  where
    of_relationship : entity_eq q r ≡ true → (a : Entity) (m : Bool) → (entity_eq a r && true) ≡ m
        → (false ≡ (entity_eq a r && true)) ⊎ ((false ≡ false) × ((entity_eq a q && true) ≡ true))
    of_relationship e a true h = inr (refl, ap (λ x. entity_eq a x && true) (entity_eq_is q r e) ∙ h)
    of_relationship e a false h = inl (sym h)

    by : (b : Bool) → entity_eq q r ≡ b → (p : Pattern)
        → (has_one (take (if b then 2 else 3) (keys_of (id.Two r t))) p ≡ matches_id (id.Two r t) p)
        ⊎ ((has_one (take (if b then 2 else 3) (keys_of (id.Two r t))) p ≡ false) × (matches_id (id.Two q u) p ≡ true))
    by b e (One own) = inl (elim b as (λ b. has_one (take (if b then 2 else 3) (keys_of (id.Two r t))) (One own) ≡ false) [ true ↦ refl | false ↦ refl ])
    by true e (Two (Is a) (Is b)) = inl (key_matches (id.Two r t) (Two (Is a) (Is b)))
    by false e (Two (Is a) (Is b)) = inl (key_matches (id.Two r t) (Two (Is a) (Is b)))
    by true e (Two (Is a) Each) = of_relationship e a (entity_eq a r && true) refl
    by true e (Two (Is a) Any) = of_relationship e a (entity_eq a r && true) refl
    by false e (Two (Is a) Each) = inl (key_matches (id.Two r t) (Two (Is a) Each))
    by false e (Two (Is a) Any) = inl (key_matches (id.Two r t) (Two (Is a) Any))
    by true e (Two Each (Is b)) = inl (key_matches (id.Two r t) (Two Each (Is b)))
    by false e (Two Each (Is b)) = inl (key_matches (id.Two r t) (Two Each (Is b)))
    by true e (Two Any (Is b)) = inl (key_matches (id.Two r t) (Two Any (Is b)))
    by false e (Two Any (Is b)) = inl (key_matches (id.Two r t) (Two Any (Is b)))
    by true e (Two Each Each) = inr (refl, refl)
    by true e (Two Each Any) = inr (refl, refl)
    by true e (Two Any Each) = inr (refl, refl)
    by true e (Two Any Any) = inr (refl, refl)
    by false e (Two Each Each) = inr (refl, refl)
    by false e (Two Each Any) = inr (refl, refl)
    by false e (Two Any Each) = inr (refl, refl)
    by false e (Two Any Any) = inr (refl, refl)

module _ (before : Option Id) (r t : Entity) (l l' : Lists) (slot : ℕ) where
  abbrev own : Pattern → Bool
  own = has_one (take (own_count before r) (keys_of (id.Two r t)))

  -- to turn the others is to turn all
  pub own_turns : (v : Bool) → HasTurned v before l slot → Turns v own l l' slot → Turns v (matches_id (id.Two r t)) l l' slot
  own_turns v had turns p n = turns p n ∙ by (own_split before r t p)
    where
      left_out : (m s : Bool) → nat_eq slot n ≡ s → l p slot ≡ v → l p n ≡ cond (m && s) v (l p n)
      left_out true true e was = ap (l p) (sym ((Decides-eqb slot n).0 e)) ∙ was
      left_out true false e was = refl
      left_out false s e was = refl

      by : (own p ≡ matches_id (id.Two r t) p) ⊎ ((own p ≡ false) × (matches_some before p ≡ true))
          → cond (own p && nat_eq slot n) v (l p n) ≡ cond (matches_id (id.Two r t) p && nat_eq slot n) v (l p n)
      by (inl same) = ap (λ b. cond (b && nat_eq slot n) v (l p n)) same
      by (inr out) =
          ap (λ b. cond (b && nat_eq slot n) v (l p n)) out.0
          ∙ left_out (matches_id (id.Two r t) p) (nat_eq slot n) refl (had p out.1)

-- the slot has turned under what the id matches that was turned last
pub turned_last : (v : Bool) (i : Id) (l l' : Lists) (slot : ℕ) → Turns v (matches_id i) l l' slot → HasTurned v (Some i) l' slot
turned_last v i l l' slot turns p matches =
    turns p slot ∙ (λ k. cond (matches k && (Decides-eqb slot slot).1 refl k) v (l p slot))

pub turned_twice : (a b s v x : Bool) → cond (b && s) v (cond (a && s) v x) ≡ cond ((a || b) && s) v x
turned_twice true true true v x = refl
turned_twice true false true v x = refl
turned_twice false true true v x = refl
turned_twice false false true v x = refl
turned_twice true true false v x = refl
turned_twice true false false v x = refl
turned_twice false true false v x = refl
turned_twice false false false v x = refl

pub or_left : (a b s : Bool) → ((a || b) && s) ≡ false → (a && s) ≡ false
or_left true b s e = e
or_left false b s e = refl

pub or_right : (a b s : Bool) → ((a || b) && s) ≡ false → (b && s) ≡ false
or_right true true s e = e
or_right true false s e = refl
or_right false b s e = e

-- a loop over what picks patterns
module _ {X : Type 0} (picks : X → Pattern → Bool) (l0 l l' : Lists) (xs : List X) (i : ℕ) (d : X) (slot : ℕ) (within : i < length xs) where
  abbrev pub one_of : List X → Pattern → Bool
  one_of ys p = list_any (λ x. picks x p) ys

  -- one more turn
  pub turned_more : (v : Bool) → Turns v (one_of (take i xs)) l0 l slot → Turns v (picks (get_or xs i d)) l l' slot
      → Turns v (one_of (take (i + 1) xs)) l0 l' slot
  turned_more v before now p n =
      now p n ∙ ap (λ x. cond (picks (get_or xs i d) p && nat_eq slot n) v x) (before p n)
      ∙ turned_twice (one_of (take i xs) p) (picks (get_or xs i d) p) (nat_eq slot n) v (l0 p n)
      ∙ ap (λ b. cond (b && nat_eq slot n) v (l0 p n)) (sym (list_any_more (λ x. picks x p) xs i d within))

  -- a turn that was refused
  pub kept_rest : Turns true (one_of (take i xs)) l0 l slot → KeepsRest (picks (get_or xs i d)) l l' slot → KeepsRest (one_of xs) l0 l' slot
  kept_rest before now p n h =
      let parts = any_parts (λ x. picks x p) xs i d (nat_eq slot n) within h in
      now p n parts.1 ∙ before p n ∙ ap (λ b. cond b true (l0 p n)) parts.0
    where
      both : (a b s : Bool) → (a && s) ≡ false → (b && s) ≡ false → ((a || b) && s) ≡ false
      both true b s p q = p
      both false b s p q = q

      any_parts : {Y : Type 0} (q : Y → Bool) (ys : List Y) (j : ℕ) (e : Y) (s : Bool) → j < length ys → (list_any q ys && s) ≡ false
          → ((list_any q (take j ys) && s) ≡ false) × ((q (get_or ys j e) && s) ≡ false)
      any_parts q [] j e s in_it h = absurd (omega arith)
      any_parts q (y ∷ ys) zero e s in_it h = (refl, or_left (q y) (list_any q ys) s h)
      any_parts q (y ∷ ys) (suc j) e s in_it h =
          let rest = any_parts q ys j e s (omega arith) (or_right (q y) (list_any q ys) s h) in
          (both (q y) (list_any q (take j ys)) s (or_left (q y) (list_any q ys) s h) rest.0, rest.1)
