use Rattle.records.proofs.endpoints.same_echs.Goals as goal

pub returns-else-p-q : goal.returns-else-p-q
returns-else-p-q c =
    rw (c.in-At-At.is-0, c.in-At-At.is-1) (rw (c.ech_at.ensures, c.ech_at-else-p-q.ensures) at c.same_ech.ensures)
