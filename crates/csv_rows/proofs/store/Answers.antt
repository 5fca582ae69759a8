-- There is room for as many rows as fit into each slice, so for all.
use Rattle.csv_rows.proofs.StoreLaws.{all_stored}
use Rattle.csv_rows.proofs.store.Goals as goal

pub returns : goal.returns
returns c = all_stored c.requires (rw c.min.ensures at c.min-room.ensures) _ c.read_rows.ensures
