use mathlib.Core.Path.{◌≡◌}
use Rattle.machine.specs.Steps.{turn_of, judged}
use Rattle.replies.specs.Replies.{reply_by}
use Rattle.replay.proofs.Steps.{race-proper}
use Rattle.replay.proofs.race.Race.reply.Goals as goal

pub returns-in-Ok : goal.returns-in-Ok
returns-in-Ok c =
    let m = c.self.inside.machine in
    let v = c.self.view_is in
    let d : c.reply_on.result ≡ reply_by (turn_of c.args.self.now c.args.now) (judged c.args.self.now c.args.now) c.args.read = rw c.in-Ok.is c.reply_on.ensures in
    record { reply = d; proper = race-proper m c.self.inside.alike c.args.now c.args.read {x = c.reply_on.result} c.self.invariant (rw v d) }
