-- Every list of either make keeps the rules.
use Rattle.faults.specs.Meaning.{Lawful}
use Rattle.faults.specs.ClockLists.{clock_list}
use Rattle.faults.specs.RowLists.{row_list}
use Rattle.faults.specs.declared.clocks.ClockList.{ClockList}
use Rattle.faults.specs.declared.rows.RowList.{RowList}
use Rattle.faults.proofs.ClockLists.{clocks_lawful}
use Rattle.faults.proofs.RowLists.{rows_lawful, classes_all}

pub clock_list_lawful : (s : ClockList) → Lawful (clock_list s)
clock_list_lawful s = clocks_lawful s.n s.records.now s.clocks.now s.sized.some s.sized.most s.sized.few (λ i. (s.kept i).class)

pub row_list_lawful : (s : RowList) → Lawful (row_list s)
row_list_lawful s =
    rows_lawful s.n s.classes.now s.rows.now s.follows.sized.some s.follows.sized.most s.follows.sized.few (classes_all s.classes.now (λ k l. (s.follows.each k l).class))
