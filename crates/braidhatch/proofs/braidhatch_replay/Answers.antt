-- `braidhatch::braidhatch_replay` meets its contract, by the report's length.
use Rattle.braidhatch.proofs.Reports.{other_length, reported}
use Rattle.braidhatch.proofs.braidhatch_replay.Goals as goal

as_clauses : {A B C : Type 0} → A × (B × C) → record { status : A; answers : B; report : C }
as_clauses p = record { status = p.0; answers = p.1.0; report = p.1.1 }

pub returns-then-report-ne-REPORT_LEN : goal.returns-then-report-ne-REPORT_LEN
returns-then-report-ne-REPORT_LEN c = as_clauses (other_length c.args.tape.now c.args.answers.now c.args.report.now c.if-report-ne-REPORT_LEN.true)

pub returns : goal.returns
returns c = as_clauses (reported c.args.tape.now c.args.answers.now c.args.report.now c.replay-r.result c.if-report-ne-REPORT_LEN.false c.replay-r.ensures.numbers c.replay-r.ensures.bytes
    c.put_report.ensures)
