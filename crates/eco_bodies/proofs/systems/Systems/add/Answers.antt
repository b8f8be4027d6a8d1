use Rattle.eco_bodies.proofs.Common.{◌≡◌, List, [], ◌∷◌, ◌++◌, refl, ap, ◌∙◌, string_bytes}
use Rattle.eco_bodies.specs.declared.systems.System.{System}
use Rattle.eco_bodies.proofs.systems.Systems.add.Goals as goal

placed : {S : Type 0} (A B C D : S → Type 0) (new mid old : List S) (x : S) → new ≡ mid ++ x ∷ [] → mid ≡ old → A x → B x → C x → D x
    → (s : S) × (new ≡ old ++ s ∷ []) × A s × B s × C s × D s
placed A B C D new mid old x e f a b c d = (x, e ∙ ap (λ xs. xs ++ x ∷ []) f, a, b, c, d)

pub returns-clause-added : goal.returns-clause-added
returns-clause-added g c =
    placed (λ (s : System g.row.B.Denot). string_bytes s.name ≡ c.args.name.now) (λ s. s.phase ≡ c.args.phase) (λ s. s.query ≡ c.args.query)
    (λ s. s.body ≡ c.args.body) _ _ _ _ c.push_reserved.ensures.items (c.prepare.ensures.items ∙ c.self.view_is) c.in-Ok.ensures.own.0
    refl refl refl
