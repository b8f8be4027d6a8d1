-- What is spelled is proper, and read in one way.
use Rattle.eco_grammar.proofs.Common.{◌≡◌, ℕ, zero, suc, ◌<◌, true, List, [], ◌∷◌, length, Err, Result, sym, refl, ap, ◌∙◌, inl, inr}
use Rattle.eco_grammar.proofs.Common.{arith, common_steps, list_all, nat_tests, may_begin, may_follow, is_name, Refusal, Syntax, WrittenPart, named, each, any}
use Rattle.eco_grammar.proofs.Common.{WrittenAtom, single, pair, IsPart, IsAtom, SpellsId, IsSpelled, IsFault, SpellsOnce, SpellsOrFails, IsProperPart}
use Rattle.eco_grammar.proofs.Common.{IsProperAtom, ReadsOnce, ReadsAll}
use Rattle.std.specs.Str.{IsAscii, IsUtf8}
use Rattle.std.proofs.lemmas.Str.{IsUtf8-from_ascii}
use Rattle.std.proofs.lemmas.Bool.{and_from, and_parts}

-- ---- what is spelled is proper

pub part_proper : (size : ℕ) (u v : List ℕ) (p : WrittenPart) → IsPart size u v p → IsProperPart p
part_proper size u v (named from r) (token, is, tok, place) = (token, is)
part_proper size u v each s = tt
part_proper size u v any s = tt

pub atom_proper : (size : ℕ) (u v : List ℕ) (x : WrittenAtom) → IsAtom size u v x → IsProperAtom x
atom_proper size u v (single p) s = part_proper size u v p s
atom_proper size u v (pair p q) (a, b, c, d, left, isp, comma, isq, right) = (part_proper size a b p isp, part_proper size c d q isq)

pub id_proper : (text : List ℕ) (x : WrittenAtom) → SpellsId text x → IsProperAtom x
id_proper text x (a, tok, s) = atom_proper (length text) a [] x s

-- ---- answers

-- there is one first fault
fault_once : (Is : List ℕ → Type 0) (text : List ℕ) (n m : ℕ) → IsFault Is text n → IsFault Is text m → n ≡ m
fault_once Is text n m f g = grind (arith, common_steps)

-- an answer is what the text spells, or its first fault
pub reads_once : {X T : Type 0} (Spells : List ℕ → X → Type 0) (meaning : X → Result T Refusal) → SpellsOnce Spells → ReadsOnce Spells meaning
reads_once Spells meaning once text r s (inl (x, is, e)) (inl (y, is', f)) = e ∙ ap meaning (once text x y is is') ∙ sym f
reads_once Spells meaning once text r s (inl (x, is, e)) (inr (n, fault, f)) = absurd (fault.nothing (x, is))
reads_once Spells meaning once text r s (inr (n, fault, e)) (inl (x, is, f)) = absurd (fault.nothing (x, is))
reads_once Spells meaning once text r s (inr (n, fault, e)) (inr (m, fault', f)) = e
    ∙ ap (λ k. Err (Syntax k)) (fault_once (IsSpelled Spells) text n m fault fault') ∙ sym f

pub reads_all : {X T : Type 0} (Spells : List ℕ → X → Type 0) (meaning : X → Result T Refusal) → SpellsOrFails Spells → ReadsAll Spells meaning
reads_all Spells meaning fails text = elim (fails text) [
  | inl (x, is) ↦ (meaning x, inl (x, is, refl))
  | inr (n, fault) ↦ (Err (Syntax n), inr (n, fault, refl))
]

-- ---- names

begins_follows : (b : ℕ) → may_begin b ≡ true → may_follow b ≡ true
begins_follows b e = rw e refl

may_follow_ascii : (b : ℕ) → may_follow b ≡ true → b < 128
may_follow_ascii b e = grind (arith, nat_tests)

words_ascii : (bs : List ℕ) → list_all may_follow bs ≡ true → IsAscii bs
words_ascii [] e i = omega arith
words_ascii (b ∷ bs) e zero = may_follow_ascii b (and_parts _ _ e).0
words_ascii (b ∷ bs) e (suc i) = words_ascii bs (and_parts _ _ e).1 i

-- a name is a text
pub name_utf8 : (n : List ℕ) → is_name n ≡ true → IsUtf8 n
name_utf8 [] e = cc
name_utf8 (b ∷ bs) e =
    let (letter, rest) = and_parts _ _ e in
    IsUtf8-from_ascii (b ∷ bs) (words_ascii (b ∷ bs) (and_from _ _ (begins_follows b letter) (and_parts _ _ rest).0))
