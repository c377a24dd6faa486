-- `braidhatch::put_report` meets its contract: four puts, one behind the other.
use Rattle.braidhatch.proofs.Reports.{four-puts}
use Rattle.braidhatch.proofs.put_report.Goals as goal

pub returns : goal.returns
returns c =
    four-puts c.args.report.now c.args.r.status c.args.r.place c.args.r.written c.args.r.calls
    c.put_number.ensures c.put_number-2.ensures c.put_number-3.ensures c.put_number-4.ensures
