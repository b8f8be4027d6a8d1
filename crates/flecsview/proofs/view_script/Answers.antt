use Rattle.std.proofs.Common.{rules}
use Rattle.flecsview.proofs.view_script.Goals as goal

pub view_steps-requires : goal.view_steps-requires
view_steps-requires g c = (search (rules), rw (c.as_slice-steps.ensures.value, c.in-Ok.ensures.ok) c.requires.keeps)
