use Rattle.eco_index.proofs.Named.{kept_listed}
use Rattle.eco_index.proofs.id_index.IdIndex.names.Goals as goal

pub returns : goal.returns
returns c = kept_listed c.args.self.now.slots c.args.self.now.full c.args.entity c.keeps_name.result c.keeps_name.ensures
