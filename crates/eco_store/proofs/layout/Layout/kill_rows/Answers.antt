use Rattle.eco_store.proofs.Common.{refl, sym, ap, subst, ◌∙◌, ◌∷◌, arith, RowlessIn, MeetsNeeds, need, with_deaths, rows_in, all_staying}
use Rattle.eco_store.proofs.Common.{StayingState, SameIn, IsStore, read, entities_of, cleared, table_in}
use Rattle.eco_store.proofs.Clearing.{cleared_store, cleared_read}
use Rattle.eco_store.proofs.Laid.{seen_alike}
use Rattle.eco_store.proofs.LaidRows.{sets_rows}
use Rattle.eco_store.proofs.Rowless.{rowless_emptied, rowless_gathered}
use Rattle.eco_store.proofs.Thinning.{thins_without}
use Rattle.eco_store.proofs.layout.Layout.kill_rows.Goals as goal

-- they go with others
pub returns-then-gather : goal.returns-then-gather
returns-then-gather c =
    let l = c.args.self.now in
    let s = l.archetypes in
    let n = c.args.slot in
    let s1 = c.clear.new.self in
    let sets = sets_rows s s1 n _ c.clear.ensures.rows in
    let dead = c.kill_standing.ensures.dead ∙ ap (λ s. with_deaths l.entities (entities_of (rows_in s n))) c.tables.ensures.same in
    let gathered = c.gather.ensures.gathered c.if-gather.true in
    let kept = c.kill_standing.ensures.covers (subst (MeetsNeeds (need l.entities)) (sym c.tables.ensures.same) c.requires.laid.covers) in
    record {
      loses = record {
        laid = record {
          store = subst (λ v. IsStore v s1) (sym dead) (cleared_store l.entities s n c.requires.laid.store c.requires.there s1 sets);
          covers = c.clear.ensures.widths _ (subst (MeetsNeeds (need c.kill_standing.new.entities)) c.tables.ensures.same kept);
          tidy =
              subst (λ x. RowlessIn s1 (all_staying x)) (sym gathered)
              (rowless_gathered s1 l.staying n (rowless_emptied s s1 n (all_staying l.staying) _ c.clear.ensures.rows c.requires.laid.tidy));
        };
        targets = ap (λ (x : StayingState). x.targets) gathered;
        thins =
            thins_without s s1 s1 n (cleared (table_in s n)) l.staying.targets c.requires.there c.clear.ensures.rows refl (omega arith)
            (omega arith) (λ m among. refl);
      };
      seen = ap (λ v. read v s1) dead ∙ cleared_read l.entities s n c.requires.laid.store c.requires.there s1 sets;
    }

-- or the table stays, or goes at once
pub release-requires : goal.release-requires
release-requires c =
    let l = c.args.self.now in
    let s = l.archetypes in
    let n = c.args.slot in
    let s1 = c.clear.new.self in
    let dead = c.kill_standing.ensures.dead ∙ ap (λ s. with_deaths l.entities (entities_of (rows_in s n))) c.tables.ensures.same in
    let kept = c.kill_standing.ensures.covers (subst (MeetsNeeds (need l.entities)) (sym c.tables.ensures.same) c.requires.laid.covers) in
    record {
      store =
          subst (λ v. IsStore v s1) (sym dead)
          (cleared_store l.entities s n c.requires.laid.store c.requires.there s1 (sets_rows s s1 n _ c.clear.ensures.rows));
      covers = c.clear.ensures.widths _ (subst (MeetsNeeds (need c.kill_standing.new.entities)) c.tables.ensures.same kept);
      tidy =
          subst (λ x. RowlessIn s1 (n ∷ all_staying x)) (sym (c.gather.ensures.same c.if-gather.false))
          (rowless_emptied s s1 n (all_staying l.staying) _ c.clear.ensures.rows c.requires.laid.tidy);
    }

pub returns : goal.returns
returns c =
    let l = c.args.self.now in
    let s = l.archetypes in
    let n = c.args.slot in
    let s1 = c.clear.new.self in
    let s2 = c.release.new.self.archetypes in
    let same = c.gather.ensures.same c.if-gather.false in
    let dead = c.kill_standing.ensures.dead ∙ ap (λ s. with_deaths l.entities (entities_of (rows_in s n))) c.tables.ensures.same in
    record {
      loses = record {
        laid = c.release.ensures.laid;
        targets = ap (λ (x : StayingState). x.targets) c.release.ensures.staying ∙ ap (λ (x : StayingState). x.targets) same;
        thins =
            thins_without s s1 s2 n (cleared (table_in s n)) l.staying.targets c.requires.there c.clear.ensures.rows refl (omega arith)
            (omega arith) (subst (λ (x : StayingState). SameIn s1 s2 x.targets) same c.release.ensures.targets);
      };
      seen =
          seen_alike c.kill_standing.new.entities s1 c.release.new.self c.release.ensures.entities c.release.ensures.rows
          ∙ ap (λ v. read v s1) dead
          ∙ cleared_read l.entities s n c.requires.laid.store c.requires.there s1 (sets_rows s s1 n _ c.clear.ensures.rows);
    }
