use Rattle.eco_entities.proofs.Common.{None, btree_map_updates_text}
use Rattle.eco_entities.proofs.Texts.{changes_text}
use Rattle.eco_entities.proofs.names.Names.forget.Goals as goal

pub returns-clause-tree : goal.returns-clause-tree
returns-clause-tree c =
    let name = c.args.name.now in
    let m = c.args.self.now.spilled in
    let n = c.remove.new.self in
    changes_text name m n None (btree_map_updates_text name m n None c.remove.ensures.updates)
