-- Each step keeps the count.
use Rattle.eco_tickets.proofs.Common.{◌≡◌, ◌≢◌, ℕ, ◌+◌, ◌-◌, ◌%◌, ◌^◌, ◌<◌, ◌≤◌, min, cond, eqb, List, [], ◌∷◌}
use Rattle.eco_tickets.proofs.Common.{length, set, refl, sym, ap, ◌∙◌, subst, ⊎_elim, arith, some, some-ne-none, some-injective, get_elem?, Share}
use Rattle.eco_tickets.proofs.Common.{total, times, once, took, refused, less_one, one_part, both, spent, ShareFits, IsCounted, Counts, Takes}
use Rattle.std.specs.Prelude.{slice_index, slice_set}
use mathlib.Core.Logic.{dite}
use native.Mathlib.Decide.{dec_lt}
use Rattle.atomic_table.specs.Table.{State, Me, Step, Allows, Splits, Joins, Act, Final, Seen}
use Rattle.atomic_table.proofs.Lists.{at_set, at_snoc}
use Rattle.eco_tickets.specs.declared.word.Span.{Span}
use Rattle.eco_tickets.proofs.Totals.{all_in_one, total_set, total-append, total_le, once_more, all_below_more, all_below_push, all_below-append}

-- what holds of a new view of the seat, and of the others as they were, holds of all
each_set : (k : Span) (word : ℕ) (views : List Share) (by : ℕ) (w : Share) → ShareFits k word w
    → ((j : ℕ) (u : Share) → j ≢ by → get_elem? views j ≡ some u → ShareFits k word u) → (j : ℕ) (u : Share) → get_elem? (set views by w) j ≡ some u
    → ShareFits k word u
each_set k word views by w mine others j u e =
    ⊎_elim
    (λ (x : (j ≡ by) × (w ≡ u)). subst (ShareFits k word) x.1 mine)
    (λ (x : (j ≢ by) × (get_elem? views j ≡ some u)). others j u x.0 x.1)
    (at_set views by j w u e)

later : (k : Span) (word : ℕ) (v : Share) → ShareFits k word v → ShareFits k (word + 1) v
later k word v f = record { bound = f.bound; refusals = f.refusals; idle = f.idle; below = all_below_more word (word + 1) v.numbers (omega arith) f.below }

-- the word counts one up, and the seat that did so keeps its parts
counted_on : (k : Span) (word : ℕ) (views : List Share) (by : ℕ) (v w : Share) → get_elem? views by ≡ some v → IsCounted k word views → w.parts ≡ v.parts
    → (word - k.bound) + w.refusals ≡ (word + 1 - k.bound) + v.refusals
    → ((x : ℕ) → once k.base (min word k.bound) x + times x w.numbers ≡ once k.base (min (word + 1) k.bound) x + times x v.numbers)
    → ShareFits k (word + 1) w → IsCounted k (word + 1) (set views by w)
counted_on k word views by v w at h kept refusals numbers fits = record {
  base = let b = h.base in omega arith;
  room = h.room;
  parts = let s = total_set (λ (u : Share). u.parts) views by v w at in let p = h.parts in omega arith;
  refusals = let s = total_set (λ (u : Share). u.refusals) views by v w at in let p = h.refusals in omega arith;
  numbers = λ x. let s = total_set (λ (u : Share). times x u.numbers) views by v w at in let p = h.numbers x in let n = numbers x in omega arith;
  each = each_set k (word + 1) views by w fits (λ j u apart e. later k word u (h.each j u e));
}

pub given : (k : Span) (word : ℕ) (views : List Share) (by : ℕ) (v : Share) → 0 < v.parts → word < k.bound → get_elem? views by ≡ some v
    → IsCounted k word views → IsCounted k (word + 1) (set views by (took v word))
given k word views by v some_part lt at h =
    let mine = h.each by v at in
    counted_on k word views by v (took v word) at h refl (omega arith)
    (λ x.
    let t = total-append (λ y. cond (eqb y x) 1 0) v.numbers (word ∷ []) in
    let o = once_more k.base k.bound word x h.base lt in
    omega arith)
    (record {
      bound = mine.bound;
      refusals = mine.refusals;
      idle = λ e. absurd (omega arith);
      below = all_below_push word (word + 1) v.numbers (omega arith) mine.below;
    })

pub turned_away : (k : Span) (word : ℕ) (views : List Share) (by : ℕ) (v : Share) → 0 < v.parts → v.refusals ≡ 0 → k.bound ≤ word
    → get_elem? views by ≡ some v → IsCounted k word views → IsCounted k (word + 1) (set views by (refused v))
turned_away k word views by v some_part none_yet le at h =
    let mine = h.each by v at in
    let past : min word k.bound ≡ min (word + 1) k.bound = omega arith in
    counted_on k word views by v (refused v) at h refl (omega arith)
    (λ x. ap (λ b. once k.base b x + times x v.numbers) past)
    (record { bound = mine.bound; refusals = omega arith; idle = mine.idle; below = all_below_more word (word + 1) v.numbers (omega arith) mine.below })

-- a word is never so large that one more wraps
pub fits_more : (k : Span) (word : ℕ) (views : List Share) → IsCounted k word views → word + 1 < 2 ^ 64
fits_more k word views h =
    let r = h.refusals in
    let p = h.parts in
    let m = h.room in
    let l = total_le (λ (u : Share). u.refusals) (λ (u : Share). u.parts) views (λ i v e. (h.each i v e).refusals) in
    omega arith

word_below : (k : Span) (word : ℕ) (s : State (Unit {0}) Share) (id : ℕ) (w : Share) → length s.words ≡ 1 → IsCounted k word (set s.views id w)
    → word < 2 ^ 64 → (n : ℕ) → n ≡ word → Counts k record { words = slice_set s.words 0 n; homes = s.homes; views = slice_set s.views id w }
word_below k word s id w one counted fits n is = at_words s.words one
  where
    at_words : (ws : List ℕ) → length ws ≡ 1 → (length (slice_set ws 0 n) ≡ 1) × IsCounted k (slice_index (slice_set ws 0 n) 0) (set s.views id w)
    at_words [] e = absurd (omega arith)
    at_words (x ∷ []) e = (refl, subst (λ m. IsCounted k m (set s.views id w)) (sym is) counted)
    at_words (x ∷ y ∷ ws) e = absurd (omega arith)

-- an addition by a seat with a part, which was not refused yet
pub takes : (k : Span) (slots id : ℕ) (me : Me (Unit {0}) Share) (st : Step (Unit {0})) → 0 < me.0.parts → me.0.refusals ≡ 0
    → Allows (Counts k) slots id me 0 (λ n. (n + 1) % 2 ^ 64) (Takes st me)
takes k slots id me st some_part none_yet s h homes at small =
    let word : ℕ = slice_index s.words 0 in
    let room : word + 1 < 2 ^ 64 = fits_more k word s.views h.1 in
    let n_is : (word + 1) % 2 ^ 64 ≡ word + 1 = omega arith in
    let mine = h.1.each id me.0 at in
    let bound : me.0.bound ≡ k.bound = mine.bound some_part in
    dite (dec_lt word k.bound)
    (λ (lt : word < k.bound). (
      took me.0 word,
      Act.keeps,
      tt,
      word_below k (word + 1) s id (took me.0 word) h.0 (given k word s.views id me.0 some_part lt at h.1) room ((word + 1) % 2 ^ 64) n_is,
      (refl, (λ _. (refl, mine.below)), (λ le. absurd (omega arith))),
    ))
    (λ ge. (
      refused me.0,
      Act.keeps,
      tt,
      word_below k (word + 1) s id (refused me.0) h.0 (turned_away k word s.views id me.0 some_part none_yet (omega arith) at h.1) room
          ((word + 1) % 2 ^ 64) n_is,
      (refl, (λ lt. absurd (omega arith)), λ _. refl),
    ))

-- one part of several goes to a new seat
pub splits : (k : Span) (id : ℕ) (v : Share) → 1 < v.parts → v.refusals ≡ 0 → Splits {S = Unit {0}} (Counts k) id v (less_one v) (one_part v)
splits k id v several none_yet s h at =
    let word : ℕ = slice_index s.words 0 in
    let c = h.1 in
    let left : Share = less_one v in
    let right : Share = one_part v in
    let vs : List Share = set s.views id left in
    let mine = c.each id v at in (
      h.0,
      record {
        base = c.base;
        room = c.room;
        parts = let p = c.parts in let t = total_set (λ (u : Share). u.parts) s.views id v left at in
            let a = total-append (λ (u : Share). u.parts) vs (right ∷ []) in omega arith;
        refusals = let p = c.refusals in let t = total_set (λ (u : Share). u.refusals) s.views id v left at in
            let a = total-append (λ (u : Share). u.refusals) vs (right ∷ []) in omega arith;
        numbers = λ x. let p = c.numbers x in let t = total_set (λ (u : Share). times x u.numbers) s.views id v left at in
            let a = total-append (λ (u : Share). times x u.numbers) vs (right ∷ []) in omega arith;
        each = λ j u e. ⊎_elim
            (each_set k word s.views id left record
            { bound = λ _. mine.bound (omega arith); refusals = omega arith; idle = λ z. absurd (omega arith); below = mine.below }
            (λ j u apart e. c.each j u e) j u)
            (λ (is : right ≡ u). subst (ShareFits k word) is record
            { bound = λ _. mine.bound (omega arith); refusals = omega arith; idle = λ z. refl; below = refl })
            (at_snoc vs right u j e);
      },
    )

-- a seat takes in what another was given, and all its parts
pub joins : (k : Span) (id : ℕ) (v : Share) (other : ℕ) (w : Share) → 0 < v.parts → Joins {S = Unit {0}} (Counts k) id v other w (both v w) spent
joins k id v other w some_part s h at apart there =
    let word : ℕ = slice_index s.words 0 in
    let c = h.1 in
    let b : Share = both v w in
    let vs : List Share = set s.views id b in
    let mine = c.each id v at in
    let was : get_elem? s.views other ≡ some w = ⊎_elim (λ (x : (other ≡ id) × (b ≡ w)). absurd (apart x.0))
    (λ (x : (other ≢ id) × (get_elem? s.views other ≡ some w)). x.1) (at_set s.views id other b w there) in
    let theirs = c.each other w was in (
      h.0,
      record {
        base = c.base;
        room = c.room;
        parts = let p = c.parts in let t = total_set (λ (u : Share). u.parts) s.views id v b at in
            let r = total_set (λ (u : Share). u.parts) vs other w spent there in omega arith;
        refusals = let p = c.refusals in let t = total_set (λ (u : Share). u.refusals) s.views id v b at in
            let r = total_set (λ (u : Share). u.refusals) vs other w spent there in omega arith;
        numbers = λ x. let p = c.numbers x in let t = total_set (λ (u : Share). times x u.numbers) s.views id v b at in
            let r = total_set (λ (u : Share). times x u.numbers) vs other w spent there in
            let a = total-append (λ y. cond (eqb y x) 1 0) v.numbers w.numbers in omega arith;
        each = each_set k word vs other spent record { bound = λ z. absurd (omega arith); refusals = omega arith; idle = λ _. refl; below = refl }
            (λ j u not_other e. each_set k word s.views id b
            record {
              bound = λ _. mine.bound some_part;
              refusals = let m = mine.refusals in let t = theirs.refusals in
                  omega arith;
              idle = λ z. absurd (omega arith);
              below = all_below-append word v.numbers w.numbers mine.below theirs.below;
            }
            (λ j u _ e. c.each j u e) j u e);
      },
    )

-- who has all parts was given all numbers
pub knows : (k : Span) (word : ℕ) (views : List Share) (id : ℕ) (v : Share) → get_elem? views id ≡ some v → v.parts ≡ k.parts → IsCounted k word views
    → ((x : ℕ) → times x v.numbers ≡ once k.base (min word k.bound) x) × (v.refusals ≡ word - k.bound)
knows k word views id v at all h =
    let p : total (λ (u : Share). u.parts) views ≡ v.parts = h.parts ∙ sym all in (
      (λ x. sym (all_in_one (λ (u : Share). times x u.numbers) (λ (u : Share). u.parts) views id v at
          (λ j u e none. ap (times x) ((h.each j u e).idle none)) p) ∙ h.numbers x),
      sym (all_in_one (λ (u : Share). u.refusals) (λ (u : Share). u.parts) views id v at (λ j u e none. let r = (h.each j u e).refusals in omega arith) p)
          ∙ h.refusals,
    )

first_is : (ws : List ℕ) (n : ℕ) → get_elem? ws 0 ≡ some n → slice_index ws 0 ≡ n
first_is [] n e = absurd (some-ne-none n (sym e))
first_is (x ∷ ws) n e = some-injective x n e

pub record Ended (k : Span) (v : Share) (last : ℕ) : Type 0 where
  pub numbers : (x : ℕ) → times x v.numbers ≡ once k.base (min last k.bound) x
  pub base : k.base ≤ last
  pub refusals : v.refusals ≡ last - k.bound

pub ends : (k : Span) (id : ℕ) (v : Share) (ws : List ℕ) (xs : List (Unit {0})) (last : ℕ) → v.parts ≡ k.parts → Final (Seen (Counts k) id v) ws xs
    → get_elem? ws 0 ≡ some last → Ended k v last
ends k id v ws xs last all f at =
    let s = f.0 in
    let word_is : slice_index s.words 0 ≡ last = ap (λ l. slice_index l 0) f.2 ∙ first_is ws last at in
    let counted : IsCounted k last s.views = subst (λ n. IsCounted k n s.views) word_is f.1.0.1 in
    let known = knows k last s.views id v f.1.1 all counted in
    record { numbers = known.0; base = counted.base; refusals = known.1 }
