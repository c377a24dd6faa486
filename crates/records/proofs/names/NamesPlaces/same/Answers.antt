use Rattle.records.specs.Names.{same_name, same_at}
use Rattle.records.proofs.names.NamesPlaces.same.Goals as goal

pub returns-else-p-q : goal.returns-else-p-q
unfolding same_at same_name
returns-else-p-q c = rw (c.bytes_at.ensures, c.bytes_at-else-p-q.ensures) at c.same_bytes.ensures
