-- A slot comes to the lists of one id, or goes from those that no other id of the type needs.
use Rattle.eco_index.proofs.Common.{◌≡◌, ℕ, ◌+◌, ◌<◌, length, take, get_or, Bool, true, false, cond, not, ◌&&◌, ◌||◌, List, []}
use Rattle.eco_index.proofs.Common.{◌∷◌, nat_eq, refl, sym, ap, ◌∙◌, true≢false, list_any, Decides-eqb, Entity, Id, One, Two, entity_eq, Pattern}
use Rattle.eco_index.proofs.Common.{Key, Single, Pair, Relationship, Target, AnyPair, same_key, key_of, keys_of, pattern_of, has_key, has_one, has_own, is_own}
use Rattle.eco_index.proofs.Common.{matches_id, any_matches, is_listed, lists_of, Lists, Turns, KeepsRest, Slots, HashMap}
use Rattle.eco_index.proofs.Keys.{keys_same, key_matches, or_false, or_left, or_right, turned_more, turned_twice, turns_as}

key_of-pattern : (k : Key) → key_of (pattern_of k) ≡ k
key_of-pattern (Single e) = refl
key_of-pattern (Pair r t) = refl
key_of-pattern (Relationship r) = refl
key_of-pattern (Target t) = refl
key_of-pattern AnyPair = refl

-- patterns with one key match the same ids
same_matches : (k : Key) (p : Pattern) → has_key k p ≡ true → (i : Id) → matches_id i p ≡ matches_id i (pattern_of k)
same_matches k p h i =
    sym (key_matches i p)
    ∙ ap (λ q. list_any (λ x. same_key x q) (keys_of i)) (sym (keys_same k (key_of p) h) ∙ sym (key_of-pattern k))
    ∙ key_matches i (pattern_of k)

any_same : (k : Key) (p : Pattern) → has_key k p ≡ true → (ids : List Id) → any_matches ids p ≡ any_matches ids (pattern_of k)
any_same k p h [] = refl
any_same k p h (i ∷ is) = λ t. same_matches k p h i t || any_same k p h is t

module _ (k : Key) (others : List Id) where
  -- where another id matches, nothing is to be turned
  pub kept_key : (l : Lists) (slot : ℕ) → any_matches others (pattern_of k) ≡ true → Turns false (λ p. has_key k p && not (any_matches others p)) l l slot
  kept_key l slot matched p n = by (has_key k p) refl
    where
      by : (b : Bool) → has_key k p ≡ b → l p n ≡ cond ((b && not (any_matches others p)) && nat_eq slot n) false (l p n)
      by false e = refl
      by true e = sym (ap (λ b. cond ((true && not b) && nat_eq slot n) false (l p n)) (any_same k p e others ∙ matched))

  -- where none does, all that the key has is
  pub own_key : any_matches others (pattern_of k) ≡ false → (p : Pattern) → has_key k p ≡ (has_key k p && not (any_matches others p))
  own_key unmatched p = by (has_key k p) refl
    where
      by : (b : Bool) → has_key k p ≡ b → b ≡ (b && not (any_matches others p))
      by false e = refl
      by true e = sym (ap (λ b. not b) (any_same k p e others ∙ unmatched))

-- a test that each of the keys has to pass
pub own_keys : (ks : List Key) (others : List Id) (p : Pattern) → list_any (λ k. has_key k p && not (any_matches others p)) ks ≡ has_own ks others p
own_keys [] others p = refl
own_keys (k ∷ ks) others p =
    ap (λ b. (has_key k p && not (any_matches others p)) || b) (own_keys ks others p)
    ∙ by (has_key k p) (has_one ks p) (not (any_matches others p))
  where
    by : (a b c : Bool) → ((a && c) || (b && c)) ≡ ((a || b) && c)
    by true true true = refl
    by true true false = refl
    by true false true = refl
    by true false false = refl
    by false b c = refl

pub own_id : (i : Id) (others : List Id) (p : Pattern) → has_own (keys_of i) others p ≡ is_own i others p
own_id i others p = ap (λ b. b && not (any_matches others p)) (key_matches i p)

-- what was turned and is turned back, where the slot was not listed before
pub turned_back : (k : Key) (l l1 l2 l3 : Lists) (slot : ℕ) → ((p : Pattern) → has_key k p ≡ true → l p slot ≡ false)
    → Turns true (has_key k) l l1 slot → ((p : Pattern) (n : ℕ) → l2 p n ≡ l1 p n) → Turns false (has_key k) l2 l3 slot
    → (p : Pattern) (n : ℕ) → l3 p n ≡ l p n
turned_back k l l1 l2 l3 slot was on same off p n =
    off p n ∙ ap (cond (has_key k p && nat_eq slot n) false) (same p n ∙ on p n) ∙ by (has_key k p) refl (nat_eq slot n) refl
  where
    by : (a : Bool) → has_key k p ≡ a → (b : Bool) → nat_eq slot n ≡ b → cond (a && b) false (cond (a && b) true (l p n)) ≡ l p n
    by false e b h = refl
    by true e false h = refl
    by true e true h = sym (ap (l p) (sym ((Decides-eqb slot n).0 h)) ∙ was p e)

pub listed_as : {S : Type 0} (m : HashMap Key Slots S) (k : Key) (slot : ℕ) (b : Bool) → is_listed m k slot ≡ b
    → (p : Pattern) → has_key k p ≡ true → lists_of m p slot ≡ b
listed_as m k slot b is p h = ap (λ q. is_listed m q slot) (sym (keys_same k (key_of p) h)) ∙ is

-- under a key that lists the slot already nothing turns
pub turned_none : (k : Key) (l l' : Lists) (slot : ℕ) → ((p : Pattern) → has_key k p ≡ true → l p slot ≡ true) → Turns true (has_key k) l l' slot
    → (p : Pattern) (n : ℕ) → l' p n ≡ l p n
turned_none k l l' slot was turns p n = turns p n ∙ by (has_key k p) refl (nat_eq slot n) refl
  where
    by : (a : Bool) → has_key k p ≡ a → (b : Bool) → nat_eq slot n ≡ b → cond (a && b) true (l p n) ≡ l p n
    by false e b h = refl
    by true e false h = refl
    by true e true h = sym (ap (l p) (sym ((Decides-eqb slot n).0 h)) ∙ was p e)

-- one key more, and then the others
pub turns_both : (v : Bool) (k : Key) (ks : List Key) (l l1 l2 : Lists) (slot : ℕ) → Turns v (has_key k) l l1 slot → Turns v (has_one ks) l1 l2 slot
    → Turns v (has_one (k ∷ ks)) l l2 slot
turns_both v k ks l l1 l2 slot one rest p n =
    rest p n ∙ ap (cond (has_one ks p && nat_eq slot n) v) (one p n)
    ∙ turned_twice (has_key k p) (has_one ks p) (nat_eq slot n) v (l p n)

pub turns_last : (v : Bool) (k : Key) (l l' : Lists) (slot : ℕ) → Turns v (has_key k) l l' slot → Turns v (has_one (k ∷ [])) l l' slot
turns_last v k l l' slot = turns_as v (has_key k) (has_one (k ∷ [])) l l' slot (λ p. sym (or_false (has_key k p)))

-- one key more, and then others of which one was refused
pub keeps_both : (k : Key) (ks : List Key) (l l1 l2 : Lists) (slot : ℕ) → Turns true (has_key k) l l1 slot → KeepsRest (has_one ks) l1 l2 slot
    → KeepsRest (has_one (k ∷ ks)) l l2 slot
keeps_both k ks l l1 l2 slot one rest p n other =
    rest p n (or_right (has_key k p) (has_one ks p) (nat_eq slot n) other) ∙ one p n
    ∙ ap (λ b. cond b true (l p n)) (or_left (has_key k p) (has_one ks p) (nat_eq slot n) other)

-- one more turn of a loop that takes off what no other id needs
pub own_more : (keys : List Key) (others : List Id) (i : ℕ) (d : Key) (slot : ℕ) (l0 l l' : Lists) → i < length keys
    → Turns false (has_own (take i keys) others) l0 l slot
    → Turns false (λ p. has_key (get_or keys i d) p && not (any_matches others p)) l l' slot → Turns false (has_own (take (i + 1) keys) others) l0 l' slot
own_more keys others i d slot l0 l l' within before now =
    turns_as false (λ p. list_any (λ k. has_key k p && not (any_matches others p)) (take (i + 1) keys)) (has_own (take (i + 1) keys) others) l0 l' slot
    (own_keys (take (i + 1) keys) others)
    (turned_more (λ k p. has_key k p && not (any_matches others p)) l0 l l' keys i d slot within false
    (turns_as false (has_own (take i keys) others) (λ p. list_any (λ k. has_key k p && not (any_matches others p)) (take i keys)) l0 l slot
    (λ p. sym (own_keys (take i keys) others p)) before) now)

-- one key more, which no other id has, and then the others
pub own_both : (k : Key) (ks : List Key) (others : List Id) (l l1 l2 : Lists) (slot : ℕ) → any_matches others (pattern_of k) ≡ false
    → Turns false (has_key k) l l1 slot → Turns false (has_own ks others) l1 l2 slot → Turns false (has_own (k ∷ ks) others) l l2 slot
own_both k ks others l l1 l2 slot unmatched one rest p n =
    rest p n ∙ ap (cond (has_own ks others p && nat_eq slot n) false) (one p n)
    ∙ turned_twice (has_key k p) (has_own ks others p) (nat_eq slot n) false (l p n)
    ∙ ap (λ b. cond (b && nat_eq slot n) false (l p n)) (by (has_key k p) (has_one ks p) (not (any_matches others p)) (own_key k others unmatched p))
  where
    by : (a b c : Bool) → a ≡ (a && c) → (a || (b && c)) ≡ ((a || b) && c)
    by true b c e = e
    by false b c e = refl

-- where no pair has the target, none is a pair with it
pub no_pair : (r t : Entity) (ids : List Id) → any_matches ids (pattern_of (Target t)) ≡ false → any_matches ids (pattern_of (Pair r t)) ≡ false
no_pair r t [] none = refl
no_pair r t (One e ∷ ids) none = no_pair r t ids none
no_pair r t (Two q u ∷ ids) none = by (entity_eq r q) (entity_eq t u) none (no_pair r t ids)
  where
    by : (a b : Bool) {c d : Bool} → (b || c) ≡ false → (c ≡ false → d ≡ false) → ((a && b) || d) ≡ false
    by true true bad rest = absurd (true≢false bad)
    by true false none rest = rest none
    by false true bad rest = absurd (true≢false bad)
    by false false none rest = rest none
