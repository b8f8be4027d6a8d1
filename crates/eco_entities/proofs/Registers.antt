-- The registry of names after each change.
use Rattle.eco_entities.proofs.Common.{common_steps, ◌≡◌, ◌≢◌, ℕ, true, List, sym, ap, ◌∙◌, Option, Some, None, ◌⊎◌, inl, inr, arith}
use Rattle.eco_entities.proofs.Common.{cases_eq, cases_Bool, false≢true, none-some, same_Some, bytes_eq-Decides, bytes_eq, Entity, is_name, ChangesAt}
use Rattle.eco_entities.proofs.Common.{KeepsAnswers, IsRegistry, subst}
use Rattle.eco_ids.specs.Names.{is_proper}

-- two texts are equal or not
pub cases_text : (xs ys : List ℕ) → (xs ≡ ys) ⊎ (xs ≢ ys)
cases_text xs ys =
    elim (cases_Bool (bytes_eq xs ys)) [
      | inl t ↦ inl ((bytes_eq-Decides xs ys).0 t)
      | inr f ↦ inr (λ e. false≢true (sym f ∙ (bytes_eq-Decides xs ys).1 e))
    ]

-- two handles are equal or not
pub cases_entity : (a b : Entity) → (a ≡ b) ⊎ (a ≢ b)
cases_entity a b = grind (arith, common_steps, cases_eq)

abbrev Listing : Type 1
Listing = List ℕ → Entity → Type 0

module _ {listed listed' : Listing} {own own' : Entity → Option (List ℕ)} where
  -- nothing that it is about has changed
  pub registry_same : IsRegistry listed own → ((name : List ℕ) (e : Entity) → own e ≡ Some name → listed name e → listed' name e)
      → KeepsAnswers own own' → IsRegistry listed' own'
  registry_same r keeps o = record {
    listed_so = λ name e h. let was : own e ≡ Some name = sym (o.all e) ∙ h in keeps name e was (r.listed_so name e was);
    unique = λ a b name ha hb. r.unique a b name (sym (o.all a) ∙ ha) (sym (o.all b) ∙ hb);
    proper = λ e. ap is_proper (o.all e) ∙ r.proper e;
  }

  -- an entity gets a name that nobody has, in place of its own or of none
  pub registry_gain : (name : List ℕ) (e : Entity) → IsRegistry listed own → ((x : Entity) → own x ≡ Some name → ⊥) → is_name name ≡ true
      → listed' name e → ((n : List ℕ) (x : Entity) → x ≢ e → n ≢ name → own x ≡ Some n → listed n x → listed' n x)
      → ChangesAt own own' e (Some name) → IsRegistry listed' own'
  registry_gain name e r free good here keeps o = record {
    listed_so = λ n x h. elim (cases_entity x e) [
      | inl same ↦
          let called : name ≡ n = same_Some name n (sym o.here ∙ (ap own' (sym same) ∙ h)) in
          subst (λ m. listed' m x) called (subst (listed' name) (sym same) here)
      | inr other ↦
          let was : own x ≡ Some n = sym (o.others x other) ∙ h in
          keeps n x other (λ is. free x (was ∙ ap Some is)) was (r.listed_so n x was)
    ];
    unique = λ a b n ha hb. elim (cases_entity a e) [
      | inl a_is ↦ elim (cases_entity b e) [
        | inl b_is ↦ a_is ∙ sym b_is
        | inr b_else ↦
            let called : name ≡ n = same_Some name n (sym o.here ∙ (ap own' (sym a_is) ∙ ha)) in
            absurd (free b (sym (o.others b b_else) ∙ (hb ∙ ap Some (sym called))))
      ]
      | inr a_else ↦ elim (cases_entity b e) [
        | inl b_is ↦
            let called : name ≡ n = same_Some name n (sym o.here ∙ (ap own' (sym b_is) ∙ hb)) in
            absurd (free a (sym (o.others a a_else) ∙ (ha ∙ ap Some (sym called))))
        | inr b_else ↦ r.unique a b n (sym (o.others a a_else) ∙ ha) (sym (o.others b b_else) ∙ hb)
      ]
    ];
    proper = λ x. grind (arith, common_steps, cases_entity);
  }

  -- an entity has no name from now on
  pub registry_lose : (e : Entity) → IsRegistry listed own → ((n : List ℕ) (x : Entity) → x ≢ e → own x ≡ Some n → listed n x → listed' n x)
      → ChangesAt own own' e None → IsRegistry listed' own'
  registry_lose e r keeps o = record {
    listed_so = λ n x h.
        let other : x ≢ e = λ is. none-some n (sym o.here ∙ (ap own' (sym is) ∙ h)) in
        let was : own x ≡ Some n = sym (o.others x other) ∙ h in
        keeps n x other was (r.listed_so n x was);
    unique = λ a b n ha hb.
        let a_else : a ≢ e = λ is. none-some n (sym o.here ∙ (ap own' (sym is) ∙ ha)) in
        let b_else : b ≢ e = λ is. none-some n (sym o.here ∙ (ap own' (sym is) ∙ hb)) in
        r.unique a b n (sym (o.others a a_else) ∙ ha) (sym (o.others b b_else) ∙ hb);
    proper = λ x. grind (arith, common_steps, cases_entity);
  }

-- an entity without name still has none
pub registry_nameless : {listed : Listing} {own own' : Entity → Option (List ℕ)} (e : Entity) → IsRegistry listed own → ChangesAt own own' e None
    → IsRegistry listed own'
registry_nameless e r o = registry_lose e r (λ n x apart own at. at) o
