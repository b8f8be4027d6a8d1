use Rattle.eco_index.proofs.CachesCommon.{Some, true, sym, rules}
use Rattle.eco_index.proofs.Onlies.{kept_in, those_told}
use Rattle.eco_index.proofs.cache.Cache.tell.Goals as goal

pub returns-then-not-matches_type-clause-told : goal.returns-then-not-matches_type-clause-told
returns-then-not-matches_type-clause-told c = c.take_out.ensures.told (Some c.args.type_list.now) (search rules)

pub returns-in-Some-clause-told : goal.returns-in-Some-clause-told
returns-in-Some-clause-told c types types' change exact =
    let keys = c.args.self.now.slots.keys in
    let told = rw c.unwrap-place.ensures at c.insert_full.ensures.updates in
    record {
      those =
          those_told types types' c.args.slot (Some c.args.type_list.now) c.args.self.now.query true keys c.insert_full.new.self.keys change
          (search rules) told.0 exact.those;
      kept =
          kept_in types types' c.args.slot (Some c.args.type_list.now) c.args.self.now.query keys c.insert_full.new.self.keys c.unwrap-place.result.0
          c.unwrap-place.result.1 c.args.self.now.only c.in-Some.only c.with_only.result change c.insert_full.ensures.unique
          (rw c.unwrap-place.ensures at c.insert_full.ensures.keys) (rw c.unwrap-place.ensures at c.insert_full.ensures.added)
          (rw c.unwrap-place.ensures at c.insert_full.ensures.index) (sym c.in-Some.ensures.value) exact.kept c.with_only.ensures;
    }
