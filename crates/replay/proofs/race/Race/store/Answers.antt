use Rattle.bodies.specs.Told.{beside_of}
use Rattle.replay.proofs.Steps.{stored-by}
use Rattle.replay.proofs.race.Race.store.Goals as goal

pub returns-in-Nothing : goal.returns-in-Nothing
returns-in-Nothing c = rw (← c.self.view_is, c.ids_after-self-inside.ensures)
    (stored-by c.self.inside.machine c.args.change (beside_of c.args.body.now c.args.e) c.requires c.touched_of-touched.ensures c.in-Nothing.is)

pub returns-in-Asked : goal.returns-in-Asked
returns-in-Asked c = rw (← c.self.view_is, c.ids_after-self-inside.ensures, c.put_query.ensures)
    (stored-by c.self.inside.machine c.args.change (beside_of c.args.body.now c.args.e) c.requires c.touched_of-touched.ensures c.in-Asked.is)

pub returns-in-Tried : goal.returns-in-Tried
returns-in-Tried c = rw (← c.self.view_is, c.ids_after-self-inside.ensures, c.put_attempt.ensures)
    (stored-by c.self.inside.machine c.args.change (beside_of c.args.body.now c.args.e) c.requires c.touched_of-touched.ensures c.in-Tried.is)

pub returns-in-Answered : goal.returns-in-Answered
unfolding beside_of
returns-in-Answered c = rw (← c.self.view_is, c.ids_after-self-inside.ensures, c.put_query-in-Answered.ensures, c.addresses_of.ensures)
    (stored-by c.self.inside.machine c.args.change (beside_of c.args.body.now c.args.e) c.requires c.touched_of-touched.ensures c.in-Answered.is)

pub returns-in-Emptied : goal.returns-in-Emptied
returns-in-Emptied c = rw (← c.self.view_is, c.ids_after-self-inside.ensures, c.put_query-in-Emptied.ensures, c.no_services-self-inside.ensures)
    (stored-by c.self.inside.machine c.args.change (beside_of c.args.body.now c.args.e) c.requires c.touched_of-touched.ensures c.in-Emptied.is)

pub returns-in-Offered : goal.returns-in-Offered
returns-in-Offered c = rw (← c.self.view_is, c.offer.ensures, c.ids_after-self-inside.ensures, c.put_query-in-Offered.ensures)
    (stored-by c.self.inside.machine c.args.change (beside_of c.args.body.now c.args.e) c.requires c.touched_of-touched.ensures c.in-Offered.is)

pub returns-in-Retried : goal.returns-in-Retried
unfolding beside_of
returns-in-Retried c = rw (← c.self.view_is, c.ids_after-self-inside.ensures, c.put_attempt-in-Retried.ensures, c.put_retry-self-inside.ensures, c.retry_of.ensures)
    (stored-by c.self.inside.machine c.args.change (beside_of c.args.body.now c.args.e) c.requires c.touched_of-touched.ensures c.in-Retried.is)
