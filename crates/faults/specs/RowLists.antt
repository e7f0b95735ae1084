-- What a row list means. Assumes nothing.
use Rattle.faults.specs.Meaning.{Faults}
use Rattle.faults.specs.Rows.{by_rows}
use Rattle.faults.specs.declared.rows.RowList.{RowList}

abbrev pub row_list : RowList → Faults
row_list s = by_rows s.n s.classes.now s.rows.now
