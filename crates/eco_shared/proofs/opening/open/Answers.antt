use Rattle.eco_shared.proofs.Common.{◌≡◌, ◌∙◌, sym, ap, subst, All, view, IsNew}
use Rattle.eco_shared.proofs.opening.open.Goals as goal

-- they are made for the merger that was opened, whose number they have
pub returns-in-Ok-new-clause-viewers : goal.returns-in-Ok-new-clause-viewers
returns-in-Ok-new-clause-viewers g c =
    let merger = c.in-Ok-open_merger.merger in
    let list = c.in-Ok-viewers.list in
    let begun : (view merger.writer.desk.place).start ≡ c.args.world = c.in-Ok-open_merger.ensures.start ∙ c.in-Ok.ensures in
    let made = c.in-Ok-viewers.ensures.viewers in
    let after : All (IsNew (view merger.writer.desk.place).start c.viewers.new.self.title.number) list.items =
    subst (λ n. All (IsNew (view merger.writer.desk.place).start n) list.items) (sym (ap (λ t. t.number) c.viewers.ensures.same.2)) made.1 in
    (made.0, subst (λ w. All (IsNew w c.viewers.new.self.title.number) list.items) begun after)
