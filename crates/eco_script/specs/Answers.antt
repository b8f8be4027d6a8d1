-- The program's replies, as those of the definitions.
use Rattle.std.specs.Prelude.{option_map, Result}
use Rattle.eco_ids.specs.declared.refusal.Refusal.{Refusal}
use Rattle.eco_grammar.specs.Readings.{ok_map}
use Rattle.eco_script.specs.ShownViews.{shown_view}
use Rattle.eco_script.specs.Replies as spec
use Rattle.eco_script.specs.declared.reply.Reply.{Reply}
use Rattle.eco_script.specs.declared.reply.Reply.TheVariants.{Done, Made, Truth, Got, Shown, Listed, Found, Kept, Merged, Framed, Stopped}

-- the reply, with what its lists have
abbrev pub reply_view : Reply → spec.Reply
reply_view Done = spec.done
reply_view (Made e) = spec.made e
reply_view (Truth b) = spec.truth b
reply_view (Got value) = spec.got (option_map shown_view value)
reply_view (Shown e) = spec.shown e
reply_view (Listed es) = spec.listed es.items
reply_view (Found results) = spec.found results
reply_view (Kept query) = spec.kept query.0
reply_view (Merged report) = spec.merged report
reply_view (Framed report) = spec.framed report
reply_view (Stopped stop) = spec.stopped stop

-- the answer, with its reply so
abbrev pub answer_view : Result Reply Refusal → Result spec.Reply Refusal
answer_view = ok_map reply_view
