use Rattle.eco_script.proofs.PrintedCommon.{◌≡◌, ◌++◌, OnOk, subst, sym, string_bytes, table_lines, listed_of}
use Rattle.std.proofs.lemmas.List.Folds.{flat_map-map}
use Rattle.eco_script.proofs.tables.push_tables.Goals as goal

pub returns : goal.returns
returns c =
    subst (λ lines. OnOk c.push_each.result (string_bytes c.push_each.new.text ≡ string_bytes c.args.text.now ++ lines))
    (sym (flat_map-map (table_lines c.args.world.now) listed_of c.args.tables.now)) c.push_each.ensures
