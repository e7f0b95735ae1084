use Rattle.faults.proofs.Lawful.{row_list_lawful}
use Rattle.faults.proofs.rows.telling.RowListFaultList.clocks.Goals as goal

pub returns-clause-lawful : goal.returns-clause-lawful
returns-clause-lawful c = row_list_lawful c.args.self.now
