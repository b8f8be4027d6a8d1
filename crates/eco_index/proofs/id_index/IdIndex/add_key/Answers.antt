use Rattle.eco_index.proofs.Common.{◌≡◌, ◌+◌, ℕ, true, false, Bool, cond, nat_eq, nat_lt, arith, Some, refl, sym, ap, ◌∙◌, ◌||◌, lt-ltb}
use Rattle.eco_index.proofs.Common.{Decides-eqb, has_slot, may_be_kept}
use Rattle.eco_index.specs.declared.id_index.slots.Slots.TheVariants.{One}
use Rattle.eco_index.proofs.Keys.{more_marks, turned}
use Rattle.eco_index.proofs.Places.{full_with, marked_with}
use Rattle.eco_index.proofs.id_index.IdIndex.add_key.Goals as goal

one_slot : (slot n : ℕ) → has_slot (Some (One slot)) n ≡ cond (nat_eq slot n) true false
one_slot slot n = by (nat_eq n slot) (nat_eq slot n) refl refl
  where
    by : (a b : Bool) → nat_eq n slot ≡ a → nat_eq slot n ≡ b → (a || false) ≡ cond b true false
    by true true p q = refl
    by false false p q = refl
    by true false p q = sym ((Decides-eqb slot n).1 (sym ((Decides-eqb n slot).0 p))) ∙ q
    by false true p q = sym p ∙ (Decides-eqb n slot).1 (sym ((Decides-eqb slot n).0 q))

positive : (x : ℕ) → nat_lt 0 (x + 1) ≡ true
positive x = lt-ltb 0 (x + 1) (omega arith)

pub returns-clause-ok : goal.returns-clause-ok
returns-clause-ok c =
    turned c.args.self.now.slots c.insert.new.self c.args.key (Some (One c.args.slot)) c.in_ok-insert.ensures.updates.0 c.args.slot true
    (λ n. one_slot c.args.slot n ∙ ap (λ o. cond (nat_eq c.args.slot n) true (has_slot o n)) (sym c.requires))

pub invariant_of-self : goal.invariant_of-self
invariant_of-self c =
    let own = c.args.self.now in
    record { full = own.full; marked = more_marks own.marks c.note.new.self own.slots c.note.ensures.kept own.marked }

pub invariant_of-self-2 : goal.invariant_of-self-2
invariant_of-self-2 c =
    let own = c.args.self.now in
    let m' = c.insert.new.self in
    let may : may_be_kept c.note.new.self c.args.key ≡ true = ap (nat_lt 0) c.in_ok-note.ensures.ok ∙ positive _ in
    record {
      full = full_with own.slots m' c.args.key (One c.args.slot) own.full refl c.insert.result c.insert.ensures.updates c.insert.ensures.err;
      marked = marked_with own.slots m' c.args.key (One c.args.slot) c.note.new.self
          (more_marks own.marks c.note.new.self own.slots c.note.ensures.kept own.marked) may c.insert.result c.insert.ensures.updates c.insert.ensures.err;
    }
