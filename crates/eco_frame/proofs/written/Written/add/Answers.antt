use Rattle.eco_frame.proofs.Done.{if_done}
use Rattle.eco_frame.proofs.Overlapped.{pairs_more, single_more, wild_more}
use Rattle.eco_frame.proofs.written.Written.add.Goals as goal

pub returns-in-One : goal.returns-in-One
returns-in-One c =
    rw c.in-One.is (if_done (λ h. single_more c.args.self.now c.add_single.new.self c.in-One.entity h) c.add_single.result c.add_single.ensures)

pub returns-in-None : goal.returns-in-None
returns-in-None c =
    rw c.in-Two.is
    (if_done (λ h. wild_more c.args.self.now c.add_wild.new.self c.in-Two.relationship c.in-Two.target h) c.add_wild.result c.add_wild.ensures)

pub returns-in-Some : goal.returns-in-Some
returns-in-Some c =
    rw c.in-Two.is
    (if_done
    (λ h. pairs_more c.args.self.now c.add_pairs.new.self c.in-Two.relationship c.in-Two.target c.in-Some.relationship c.named-in-Some.result
    c.in-Some.ensures c.named-in-Some.ensures h)
    c.add_pairs.result c.add_pairs.ensures)
